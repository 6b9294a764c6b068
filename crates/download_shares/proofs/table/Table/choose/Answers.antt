use Rattle.std.proofs.Common.{rules, ◌≡◌, ℕ, ◌<◌, ◌≤◌, length, Some, None, true, false, is_some, Option, IfSome, refl, sym, subst, ◌∙◌, arith, All}
use Rattle.std.specs.Prelude.{slice_index_or}
use Rattle.lemmas.proofs.Positions.{got}
use Rattle.download_shares.specs.Choice.{Chooses}
use Rattle.download_shares.specs.Table.{IsFree, IsHolding, IsNumber, IsTable}
use Rattle.download_shares.specs.declared.holding.Holding.{Holding}
use Rattle.download_shares.proofs.Tables.{free_here, left_inside, lowest_here, none_at_all, none_chosen, one_read}
use Rattle.download_shares.proofs.table.Table.choose.Goals.{then-not-is_read+else-is_some, else-not-is_read}
use Rattle.download_shares.proofs.table.Table.choose.Goals as goal

none_of : {o : Option ℕ} → is_some o ≡ false → o ≡ None
none_of {o = None} e = refl
none_of {o = Some p} e = absurd cc

pub loop-number-init : goal.loop-number-init
loop-number-init c = λ position h is free lt. omega (arith, lt)

pub choose_among-chosen-requires : goal.choose_among-chosen-requires
choose_among-chosen-requires c =
    let right : IsTable c.args.self.now = subst IsTable c.self.view_is c.self.invariant.0 in
    let lt : c.loop-number.number-index < length c.args.self.now.numbers = search rules in
    let e : c.number-item.result ≡ slice_index_or c.args.self.now.numbers c.loop-number.number-index c.number-item.result = search rules in
    subst (λ l. All (λ (position : ℕ). position < length c.args.self.now.holdings) l) (sym c.left.ensures) (left_inside c.args.self.now c.loop-number.number-index c.number-item.result right lt e)

pub returns-then-is_some-clause-free : goal.returns-then-is_some-clause-free
returns-then-is_some-clause-free c =
    let right : IsTable c.args.self.now = subst IsTable c.self.view_is c.self.invariant.0 in
    let lt : c.loop-number.number-index < length c.args.self.now.numbers = search rules in
    let e : c.number-item.result ≡ slice_index_or c.args.self.now.numbers c.loop-number.number-index c.number-item.result = search rules in
    let there : IsNumber c.args.self.now c.loop-number.number-index c.number-item.result = got c.args.self.now.numbers c.loop-number.number-index c.number-item.result lt e in
    let unread : c.number-item.result.reading ≡ None = none_of (sym c.is_read.ensures ∙ c.if-not-is_read.true) in
    by c right there unread c.choose_among-chosen.result (subst (λ l. Chooses c.args.self.now l c.choose_among-chosen.result) c.left.ensures c.choose_among-chosen.ensures)
  where
    by : (c : goal.Then-is_some) → IsTable c.args.self.now → IsNumber c.args.self.now c.loop-number.number-index c.number-item.result → c.number-item.result.reading ≡ None → (o : Option ℕ) → Chooses c.args.self.now c.number-item.result.left o → IfSome o (λ (position : ℕ). (h : Holding) × IsHolding c.args.self.now position h × IsFree c.args.self.now h)
    by c right there unread None k = tt
    by c right there unread (Some p) k = free_here c.args.self.now c.loop-number.number-index p c.number-item.result right there unread k

pub returns-then-is_some-clause-lowest : goal.returns-then-is_some-clause-lowest
returns-then-is_some-clause-lowest c =
    let right : IsTable c.args.self.now = subst IsTable c.self.view_is c.self.invariant.0 in
    let lt : c.loop-number.number-index < length c.args.self.now.numbers = search rules in
    let e : c.number-item.result ≡ slice_index_or c.args.self.now.numbers c.loop-number.number-index c.number-item.result = search rules in
    let there : IsNumber c.args.self.now c.loop-number.number-index c.number-item.result = got c.args.self.now.numbers c.loop-number.number-index c.number-item.result lt e in
    lowest_here c.args.self.now c.loop-number.number-index c.number-item.result right there c.loop-number.invariant c.choose_among-chosen.result
    (subst (λ l. Chooses c.args.self.now l c.choose_among-chosen.result) c.left.ensures c.choose_among-chosen.ensures)

pub loop-number-preserved : goal.loop-number-preserved
loop-number-preserved c = elim c.if-not-is_read.branch [
  | then-not-is_read+else-is_some w ↦
      let none : w.choose_among-chosen.result ≡ None = none_of (sym w.is_some.ensures ∙ w.if-is_some.false) in
      none_chosen c.args.self.now c.loop-number.number-index c.number-item.result (right c) (there c)
      (subst (λ o. Chooses c.args.self.now c.number-item.result.left o) none (subst (λ l. Chooses c.args.self.now l w.choose_among-chosen.result) w.left.ensures w.choose_among-chosen.ensures))
      c.loop-number.invariant
  | else-not-is_read w ↦
      let some : is_some c.number-item.result.reading ≡ true = search rules in
      one_read c.args.self.now c.loop-number.number-index c.number-item.result (there c) some c.loop-number.invariant
]
  where
    right : (c : goal.Joined-not-is_read) → IsTable c.args.self.now
    right c = subst IsTable c.self.view_is c.self.invariant.0

    there : (c : goal.Joined-not-is_read) → IsNumber c.args.self.now c.loop-number.number-index c.number-item.result
    there c =
        let lt : c.loop-number.number-index < length c.args.self.now.numbers = search rules in
        let e : c.number-item.result ≡ slice_index_or c.args.self.now.numbers c.loop-number.number-index c.number-item.result = search rules in
        got c.args.self.now.numbers c.loop-number.number-index c.number-item.result lt e

pub returns-clause-none : goal.returns-clause-none
returns-clause-none c =
    let le : length c.args.self.now.numbers ≤ c.loop-number.number-index = search rules in
    none_at_all c.args.self.now c.loop-number.number-index (subst IsTable c.self.view_is c.self.invariant.0) le c.loop-number.invariant

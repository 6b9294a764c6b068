use Rattle.std.proofs.Common.{rules, ◌≡◌, ℕ, ◌+◌, ◌<◌, inl, inr, length, true, false, is_some, sym, subst, take, Option, List}
use Rattle.std.specs.Prelude.{slice_index_or}
use Rattle.std.proofs.lemmas.List.{take_all}
use Rattle.download_shares.specs.Choice.{Chooses}
use Rattle.download_shares.specs.HoldingState.{TableState}
use Rattle.download_shares.proofs.Tables.{chooses_on, chooses_this}
use Rattle.download_shares.proofs.Fields.{seen_table}
use Rattle.download_shares.proofs.table.Table.choose_among.Goals.{then-not-holding+then-is_none, then-not-holding+else-is_none+else-load-least, else-not-holding}
use Rattle.download_shares.proofs.table.Table.choose_among.Goals as goal

module _ (c : goal.Joined-not-holding) where
  abbrev at : ℕ
  at = slice_index_or c.args.positions.now c.loop-position.position-index 0

  abbrev t : TableState
  t = seen_table c.self.inside

  same : at ≡ slice_index_or c.args.positions.now c.loop-position.position-index at
  same = search rules

  inside : at < length c.self.inside.holdings.items
  inside = search rules

pub loop-position-preserved : goal.loop-position-preserved
loop-position-preserved c = subst (λ (t : TableState). Chooses t (take (c.loop-position.position-index + 1) c.args.positions.now) c.if-not-holding.chosen) c.self.view_is (by c)
  where
    before : (c : goal.Joined-not-holding) → Chooses (t c) (take c.loop-position.position-index c.args.positions.now) c.loop-position.chosen
    before c = subst (λ (t : TableState). Chooses t (take c.loop-position.position-index c.args.positions.now) c.loop-position.chosen) (sym c.self.view_is) c.loop-position.invariant

    by : (c : goal.Joined-not-holding) → Chooses (t c) (take (c.loop-position.position-index + 1) c.args.positions.now) c.if-not-holding.chosen
    by c = elim c.if-not-holding.branch [
      | then-not-holding+then-is_none w ↦
          let open-one : c.index-holding.result.now.suspended ≡ false = search rules in
          subst (λ (o : Option ℕ). Chooses (t c) (take (c.loop-position.position-index + 1) c.args.positions.now) o) (sym w.chosen-is)
          (chooses_this (t c) c.args.positions.now c.loop-position.position-index (at c) c.index-holding.result.now c.loop-position-test.true (same c) (inside c) c.index-holding.ensures open-one)
      | then-not-holding+else-is_none+else-load-least w ↦
          let some : is_some c.loop-position.chosen ≡ true = search rules in
          subst (λ (o : Option ℕ). Chooses (t c) (take (c.loop-position.position-index + 1) c.args.positions.now) o) (sym w.chosen-is)
          (chooses_on (t c) c.args.positions.now c.loop-position.position-index (at c) c.index-holding.result.now c.loop-position.chosen c.loop-position-test.true (same c) (inside c) c.index-holding.ensures (inl some) (before c))
      | else-not-holding w ↦
          let closed : c.index-holding.result.now.suspended ≡ true = search rules in
          subst (λ (o : Option ℕ). Chooses (t c) (take (c.loop-position.position-index + 1) c.args.positions.now) o) (sym w.chosen-is)
          (chooses_on (t c) c.args.positions.now c.loop-position.position-index (at c) c.index-holding.result.now c.loop-position.chosen c.loop-position-test.true (same c) (inside c) c.index-holding.ensures (inr closed) (before c))
    ]

pub returns : goal.returns
returns c =
    let all : take c.loop-position.position-index c.args.positions.now ≡ c.args.positions.now = take_all c.loop-position.position-index c.args.positions.now c.loop-position-test.false in
    subst (λ (l : List ℕ). Chooses c.args.self.now l c.loop-position.chosen) all c.loop-position.invariant

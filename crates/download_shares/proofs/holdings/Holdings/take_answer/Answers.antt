use Rattle.std.proofs.Common.{rules, ◌≡◌, ℕ, ◌-◌, ◌<◌, ◌≤◌, Option, Some, None, length, List, refl, sym, subst, ◌∙◌, arith}
use Rattle.std.specs.Prelude.{slice_get, slice_index_or}
use Rattle.std.proofs.lemmas.Option.{slice_get_within}
use Rattle.lemmas.proofs.Positions.{got}
use Rattle.wire.specs.declared.message.Body.TheVariants.{NoShare}
use Rattle.wire.specs.declared.message.HeldShare.{HeldShare}
use Rattle.request_record.specs.declared.requests.Outcome.TheVariants.{Answered}
use Rattle.request_record.specs.Record.{RequestsState}
use Rattle.download_shares.specs.HoldingMoves.{Hears, HearsAt, TellsHeld, held_by}
use Rattle.download_shares.specs.Right.{IsRight}
use Rattle.download_shares.specs.HoldingState.{HoldingsState, holdings_state}
use Rattle.download_shares.specs.declared.holdings.Heard.TheVariants as heard
use Rattle.download_shares.proofs.Goes.{right_gone, right_message}
use Rattle.download_shares.proofs.Telling.{ToldNow, told_by, told_kept}
use Rattle.download_shares.proofs.Fields.{seen_holdings}
use Rattle.download_shares.proofs.holdings.Holdings.take_answer.Goals as goal

-- ---- it counts for nothing

pub invariant_of-self : goal.invariant_of-self
invariant_of-self c = subst (λ (r : RequestsState). IsRight (holdings_state r c.self.inside.servers c.self.inside.table c.self.inside.owners.items c.self.inside.blamed.items)) (sym c.take_answer.ensures.«record»)
    (right_message (seen_holdings c.self.inside) c.self.invariant c.args.from c.args.message c.args.now (λ position e none. let two : None ≡ Some position = c.in_default.ensures.value ∙ e in absurd cc))

pub returns-in_default-clause-right : goal.returns-in_default-clause-right
returns-in_default-clause-right c = invariant_of-self c

-- ---- a server tells

pub request-request-requires : goal.request-request-requires
request-request-requires c = told_kept (seen_holdings c.self.inside) c.self.invariant c.args.from c.args.message c.args.now c.in-Some.position (sym c.in-Some.ensures.value) c.if-position-self.true c.in-Some.ensures.there c.take_answer.new.self c.take_answer.ensures.«record»

told_some : (c : goal.After-from_residual) → IsRight (holdings_state c.take_answer.new.self c.self.inside.servers c.tell_all.new.table c.self.inside.owners.items c.self.inside.blamed.items)
told_some c = (told_by (seen_holdings c.self.inside) c.self.invariant c.args.from c.args.message c.args.now c.in-Some.position (sym c.in-Some.ensures.value) c.if-position-self.true c.in-Some.ensures.there c.take_answer.new.self c.take_answer.ensures.«record» c.request-request.result.now c.request-request.ensures c.held_by.result.now c.held_by.ensures.value c.held_by.ensures.rising c.in_err-tell_all.ensures.some.0 c.tell_all.new.table c.in_err-tell_all.ensures.some.1).right

pub invariant_of-self-in_err-tell_all : goal.invariant_of-self-in_err-tell_all
invariant_of-self-in_err-tell_all c = told_some c

pub returns-in_err-tell_all-clause-right : goal.returns-in_err-tell_all-clause-right
returns-in_err-tell_all-clause-right c = told_some c

told_all : (c : goal.In_ok-tell_all) → ToldNow (seen_holdings c.self.inside) c.args.from c.args.message c.args.now c.in-Some.position (length c.held_by.result.now) c.held_by.result.now c.take_answer.new.self c.tell_all.new.table
told_all c = told_by (seen_holdings c.self.inside) c.self.invariant c.args.from c.args.message c.args.now c.in-Some.position (sym c.in-Some.ensures.value) c.if-position-self.true c.in-Some.ensures.there c.take_answer.new.self c.take_answer.ensures.«record» c.request-request.result.now c.request-request.ensures c.held_by.result.now c.held_by.ensures.value c.held_by.ensures.rising (length c.held_by.result.now) c.tell_all.new.table c.in_ok-tell_all.ensures.ok

pub invariant_of-self-then-position-self : goal.invariant_of-self-then-position-self
invariant_of-self-then-position-self c = (told_all c).right

pub returns-then-position-self-clause-hears : goal.returns-then-position-self-clause-hears
returns-then-position-self-clause-hears c =
    let k = told_all c in
    let tells : TellsHeld c.in-Some.position c.args.message (seen_holdings c.self.inside) (holdings_state c.take_answer.new.self c.self.inside.servers c.tell_all.new.table c.self.inside.owners.items c.self.inside.blamed.items) (length (held_by (Answered c.args.message.body))) = subst (λ (l : List HeldShare). TellsHeld c.in-Some.position c.args.message (seen_holdings c.self.inside) (holdings_state c.take_answer.new.self c.self.inside.servers c.tell_all.new.table c.self.inside.owners.items c.self.inside.blamed.items) (length l)) k.same-held k.tells in
    subst (λ (s : HoldingsState). Hears c.args.from c.args.message c.args.now s (holdings_state c.take_answer.new.self c.self.inside.servers c.tell_all.new.table c.self.inside.owners.items c.self.inside.blamed.items) heard.Held) c.self.view_is
    (record {
      same = record { servers = refl; owners = refl; blamed = refl };
      requests = c.take_answer.ensures.«record»;
      heard = subst (λ (o : Option ℕ). HearsAt o c.args.message (seen_holdings c.self.inside) (holdings_state c.take_answer.new.self c.self.inside.servers c.tell_all.new.table c.self.inside.owners.items c.self.inside.blamed.items) heard.Held) c.in-Some.ensures.value (c.if-position-self.true, tells);
    })

pub returns-then-position-self-clause-right : goal.returns-then-position-self-clause-right
returns-then-position-self-clause-right c = (told_all c).right

-- ---- bytes, or none

-- the holding that a request asks for bytes of
owner_of : (s : HoldingsState) → IsRight s → (position holding : ℕ) → s.servers ≤ position → position < length s.requests.entries → holding ≡ slice_index_or s.owners (position - s.servers) holding → slice_get s.owners (position - s.servers) ≡ Some holding
owner_of s right position holding le inside e =
    let counted = right.counted in
    let lt : position - s.servers < length s.owners = omega (arith, counted, inside, le) in
    got s.owners (position - s.servers) holding lt e

pub retire-requires : goal.retire-requires
retire-requires c =
    let le : c.self.inside.servers ≤ c.in-Some.position = search rules in
    let own = owner_of (seen_holdings c.self.inside) c.self.invariant c.in-Some.position c.index-holding.result.now le c.in-Some.ensures.there c.index-holding.ensures in
    let o = c.self.invariant.owned (c.in-Some.position - c.self.inside.servers) c.index-holding.result.now own in
    slice_get_within c.self.inside.table.holdings c.index-holding.result.now o.held o.is

pub invariant_of-self-then-gone : goal.invariant_of-self-then-gone
invariant_of-self-then-gone c =
    let le : c.self.inside.servers ≤ c.in-Some.position = search rules in
    let none : c.args.message.body ≡ NoShare = search rules in
    let own = owner_of (seen_holdings c.self.inside) c.self.invariant c.in-Some.position c.index-holding.result.now le c.in-Some.ensures.there c.index-holding.ensures in
    subst (λ (r : RequestsState). IsRight (holdings_state r c.self.inside.servers c.retire.new.self c.self.inside.owners.items c.self.inside.blamed.items)) (sym c.take_answer.ensures.«record»)
    (right_gone (seen_holdings c.self.inside) c.self.invariant c.args.from c.args.message c.args.now c.in-Some.position c.index-holding.result.now c.retire.new.self (sym c.in-Some.ensures.value) none le own c.retire.ensures.retires)

pub returns-then-gone-clause-hears : goal.returns-then-gone-clause-hears
returns-then-gone-clause-hears c =
    let le : c.self.inside.servers ≤ c.in-Some.position = search rules in
    let none : c.args.message.body ≡ NoShare = search rules in
    let own = owner_of (seen_holdings c.self.inside) c.self.invariant c.in-Some.position c.index-holding.result.now le c.in-Some.ensures.there c.index-holding.ensures in
    subst (λ (s : HoldingsState). Hears c.args.from c.args.message c.args.now s (holdings_state c.take_answer.new.self c.self.inside.servers c.retire.new.self c.self.inside.owners.items c.self.inside.blamed.items) (heard.Gone c.index-holding.result.now)) c.self.view_is
    (record {
      same = record { servers = refl; owners = refl; blamed = refl };
      requests = c.take_answer.ensures.«record»;
      heard = subst (λ (o : Option ℕ). HearsAt o c.args.message (seen_holdings c.self.inside) (holdings_state c.take_answer.new.self c.self.inside.servers c.retire.new.self c.self.inside.owners.items c.self.inside.blamed.items) (heard.Gone c.index-holding.result.now)) c.in-Some.ensures.value (le, own, none, c.retire.ensures.retires);
    })

pub returns-then-gone-clause-right : goal.returns-then-gone-clause-right
returns-then-gone-clause-right c = invariant_of-self-then-gone c

pub invariant_of-self-else-gone : goal.invariant_of-self-else-gone
invariant_of-self-else-gone c =
    let some : c.args.message.body ≡ NoShare → ⊥ = search rules in
    subst (λ (r : RequestsState). IsRight (holdings_state r c.self.inside.servers c.self.inside.table c.self.inside.owners.items c.self.inside.blamed.items)) (sym c.take_answer.ensures.«record»)
    (right_message (seen_holdings c.self.inside) c.self.invariant c.args.from c.args.message c.args.now (λ position e none. some none))

pub returns-clause-hears : goal.returns-clause-hears
returns-clause-hears c =
    let le : c.self.inside.servers ≤ c.in-Some.position = search rules in
    let some : c.args.message.body ≡ NoShare → ⊥ = search rules in
    let own = owner_of (seen_holdings c.self.inside) c.self.invariant c.in-Some.position c.index-holding.result.now le c.in-Some.ensures.there c.index-holding.ensures in
    subst (λ (s : HoldingsState). Hears c.args.from c.args.message c.args.now s (holdings_state c.take_answer.new.self c.self.inside.servers c.self.inside.table c.self.inside.owners.items c.self.inside.blamed.items) (heard.Bytes c.index-holding.result.now c.in-Some.position)) c.self.view_is
    (record {
      same = record { servers = refl; owners = refl; blamed = refl };
      requests = c.take_answer.ensures.«record»;
      heard = subst (λ (o : Option ℕ). HearsAt o c.args.message (seen_holdings c.self.inside) (holdings_state c.take_answer.new.self c.self.inside.servers c.self.inside.table c.self.inside.owners.items c.self.inside.blamed.items) (heard.Bytes c.index-holding.result.now c.in-Some.position)) c.in-Some.ensures.value (le, refl, own, some, refl);
    })

pub returns-clause-right : goal.returns-clause-right
returns-clause-right c = invariant_of-self-else-gone c

use Rattle.std.proofs.Common.{◌≡◌, ◌≢◌, ◌<◌, ◌≤◌, ◌++◌, List, [], ℕ, length, map, inl, inr, sym, ap, subst, ◌∙◌, arith, true≢false}
use Rattle.std.proofs.lemmas.Bool.{eq-eqb, eqb-true}
use Rattle.std.proofs.lemmas.List.{length-map}
use Rattle.lemmas.proofs.Results.{on_ok}
use Rattle.request_record.specs.declared.requests.Asked.{Asked}
use Rattle.request_record.specs.declared.requests.Asked.TheVariants.{Allocation}
use Rattle.request_record.specs.Record.{asked_all}
use Rattle.placement.specs.Matching.{IsLargestMatching, Pair}
use Rattle.upload_core.specs.State.{UploadState}
use Rattle.upload_core.specs.Acknowledged.{acked_pairs}
use Rattle.upload_core.specs.Rounds.{IsOver, IsToPlace, Placing, transfers_of}
use Rattle.upload_core.specs.Moves.{ends, positions}
use Rattle.upload_core.specs.Course.{transfers}
use Rattle.upload_core.proofs.Goes.{nil_of, not_to_place, to_place}
use Rattle.upload_core.proofs.state.Course.place_or_end.Goals as goal
use Rattle.upload_core.proofs.state.Course.place_or_end.Goals.{then-self-gt0+in_ok-matching+else-not-is_to_place_again, else-self-gt0}

pub returns-then-not-is_to_place_again-clause-ok : goal.returns-then-not-is_to_place_again-clause-ok
returns-then-not-is_to_place_again-clause-ok c =
    let v : UploadState = c.args.self.now in
    let late : 0 < v.round = subst (λ (s : UploadState). 0 < s.round) c.self.view_is c.if-self-gt0.true in
    let largest : IsLargestMatching (acked_pairs v.goal v.requests.entries) c.in_ok-matching.matching.pairs.items = subst (λ (ps : List Pair). IsLargestMatching ps c.in_ok-matching.matching.pairs.items) c.requires.acked c.in_ok-matching.ensures.largest in
    let count : c.len.result ≡ length c.in_ok-matching.matching.pairs.items = omega (arith, c.len.ensures, c.in_ok-matching.matching.pairs.ok.0) in
    let over : IsOver v v.requests = inl (not_to_place v c.in_ok-matching.matching.pairs.items largest c.len.result count late (sym c.is_to_place_again.ensures ∙ c.if-not-is_to_place_again.true)) in
    ends c.end.ensures.0 c.requires.settled over c.end.ensures.1 c.end.ensures.2

pub returns-then-not-is_empty-clause-ok : goal.returns-then-not-is_empty-clause-ok
returns-then-not-is_empty-clause-ok c =
    let v : UploadState = c.args.self.now in
    let to : IsToPlace v v.requests = elim c.if-self-gt0.branch [
      | then-self-gt0+in_ok-matching+else-not-is_to_place_again w ↦ (
          let largest : IsLargestMatching (acked_pairs v.goal v.requests.entries) w.in_ok-matching.matching.pairs.items = subst (λ (ps : List Pair). IsLargestMatching ps w.in_ok-matching.matching.pairs.items) c.requires.acked w.in_ok-matching.ensures.largest in
          let count : w.len.result ≡ length w.in_ok-matching.matching.pairs.items = omega (arith, w.len.ensures, w.in_ok-matching.matching.pairs.ok.0) in
          to_place v w.in_ok-matching.matching.pairs.items largest w.len.result count (sym w.is_to_place_again.ensures ∙ w.if-not-is_to_place_again.false))
      | else-self-gt0 w ↦ inl (let first = subst (λ (s : UploadState). s.round ≤ 0) c.self.view_is w.if-self-gt0.false in omega (arith, first))
    ] in
    let t = c.in_ok-transfers.ensures.placing in
    let p : Placing = t.0 in
    let some : transfers_of v.goal p ≢ [] = λ (e : transfers_of v.goal p ≡ []).
    let ask : Pair → ℕ × Asked = λ (pair : Pair). (pair.0, Allocation pair.1 v.goal.share_length) in
    let n : length (map ask (p.m3 ++ p.leftovers)) ≡ length (p.m3 ++ p.leftovers) = length-map (p.m3 ++ p.leftovers) ask in
    let z : length (map ask (p.m3 ++ p.leftovers)) ≡ 0 = ap length e in
    let zero : c.in_ok-transfers.transfers.len ≡ 0 = omega (arith, n, z, ap length t.2, c.in_ok-transfers.transfers.ok.0) in
    true≢false (sym (c.is_empty.ensures ∙ eq-eqb c.in_ok-transfers.transfers.len 0 zero) ∙ c.if-not-is_empty.true) in
    on_ok c.begin_round.result _ _ (λ e. positions p c.requires.settled to t.1 some (e ∙ ap (λ (ps : List Pair). record v { requests = asked_all (transfers v.goal ps) v.requests; round = length v.requests.entries }) (c.deref.ensures.value ∙ t.2))) c.begin_round.ensures.ok

pub returns-clause-ok : goal.returns-clause-ok
returns-clause-ok c =
    let v : UploadState = c.args.self.now in
    let t = c.in_ok-transfers.ensures.placing in
    let p : Placing = t.0 in
    let zero : c.in_ok-transfers.transfers.len ≡ 0 = eqb-true c.in_ok-transfers.transfers.len 0 (sym c.is_empty.ensures ∙ c.if-not-is_empty.false) in
    let none : p.m3 ++ p.leftovers ≡ [] = sym t.2 ∙ nil_of c.in_ok-transfers.transfers.items (omega (arith, zero, c.in_ok-transfers.transfers.ok.0)) in
    let over : IsOver v v.requests = inr (p, t.1, ap (map (λ (pair : Pair). (pair.0, Allocation pair.1 v.goal.share_length))) none) in
    ends c.end-2.ensures.0 c.requires.settled over c.end-2.ensures.1 c.end-2.ensures.2

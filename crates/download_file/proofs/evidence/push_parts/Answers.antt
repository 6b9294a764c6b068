use Rattle.std.proofs.Common.{◌≡◌, ◌∙◌, ◌++◌, ◌∷◌, ◌+◌, ◌-◌, ◌<◌, ◌≤◌, [], ℕ, List, ap, subst, sym, arith}
use Rattle.std.specs.List.{range_with_len}
use Rattle.std.proofs.lemmas.List.{append_assoc, map-append}
use Rattle.std.proofs.lemmas.List.Elements.{All-push}
use Rattle.lemmas.proofs.Ranges.{range_more}
use Rattle.proved_parts.specs.Parts.{IsSegmentBy}
use Rattle.proved_parts.specs.declared.evidence.EvidencePart.{EvidencePart}
use Rattle.download_file.specs.Parts.{AreMadeAmong, IsMadeAmong}
use Rattle.download_file.specs.Steps.{AreSegmentsBy, part_numbers}
use Rattle.download_file.proofs.evidence.push_parts.Goals as goal

pub part_of-requires-clause-made : goal.part_of-requires-clause-made
part_of-requires-clause-made c =
    let first = c.first-number.ensures in
    let end = c.end-number-end.ensures in
    let from = c.loop-number.auto.number in
    let before = c.loop-number-test.true in
    c.requires.made.made c.loop-number.number (omega (arith, first, from)) (omega (arith, end, before))

pub loop-number-preserved : goal.loop-number-preserved
loop-number-preserved c =
    let k = c.loop-number.invariant in
    let a : ℕ = c.args.group.now.first in
    let n : ℕ = c.loop-number.number in
    let first = c.first-number.ensures in
    let auto = c.loop-number.auto.number in
    let from : a ≤ n = omega (arith, first, auto) in
    let num : EvidencePart → ℕ = λ p. p.number in
    let old : List EvidencePart = c.loop-number.parts.items in
    let part : EvidencePart = c.in_ok-part.part in
    let before : List ℕ = part_numbers c.args.parts.now.items in
    record {
      all = ap part_numbers c.in_ok-push.ensures.items ∙ map-append num old (part ∷ []) ∙ (λ i. k.all i ++ c.in_ok-part.ensures.number i ∷ [])
          ∙ append_assoc before (range_with_len a (n - a)) (n ∷ [])
          ∙ ap (λ (l : List ℕ). before ++ l)
          (ap (λ (m : ℕ). range_with_len a (n - a) ++ m ∷ []) (let e : n ≡ a + (n - a) = omega (arith, from) in e)
          ∙ sym (range_more a (n - a)) ∙ ap (range_with_len a) (let e : n - a + 1 ≡ n + 1 - a = omega (arith, from) in e));
      by = subst (AreSegmentsBy c.args.handout.now.ueb) (sym c.in_ok-push.ensures.items)
          (All-push (λ (p : EvidencePart). IsSegmentBy c.args.handout.now.ueb p.number p.segment p.path) old part k.by c.in_ok-part.ensures.by);
      made = λ groups among those.
          let entries = c.args.requests.now.entries in
          let h = c.args.handout.now in
          let readers = c.args.readers.now in
          let low = c.end-number-end.ensures in
          let test = c.loop-number-test.true in
          let before : n < c.args.group.now.end = omega (arith, low, test) in
          let m = c.requires.made.made n from before in
          let own : IsMadeAmong entries h readers groups n part.segment = record {
            group = c.args.group.now;
            among = among;
            from = from;
            before = before;
            made = m;
            is = c.in_ok-part.ensures.segment m;
          } in
          subst (AreMadeAmong entries h readers groups) (sym c.in_ok-push.ensures.items)
          (All-push (λ (p : EvidencePart). IsMadeAmong entries h readers groups p.number p.segment) old part (k.made groups among those)
          (subst (λ (m : ℕ). IsMadeAmong entries h readers groups m part.segment) (sym c.in_ok-part.ensures.number) own));
    }

pub returns-clause-all : goal.returns-clause-all
returns-clause-all c =
    let a : ℕ = c.args.group.now.first in
    let first = c.first-number.ensures in
    let end = c.end-number-end.ensures in
    let auto = c.loop-number.auto.number-end in
    let last = c.loop-number-test.false in
    let order = c.requires.made.order in
    let same : c.loop-number.number ≡ c.args.group.now.end = omega (arith, first, end, auto, last, order) in
    c.loop-number.invariant.all ∙ ap (λ (n : ℕ). part_numbers c.args.parts.now.items ++ range_with_len a (n - a)) same

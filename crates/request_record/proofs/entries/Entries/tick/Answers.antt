use Rattle.std.proofs.Common.{◌≡◌, ◌++◌, List, length, map, take, drop, sym, ap, subst, ◌∙◌}
use Rattle.std.specs.List.Sorted.{IsNonDecreasingBy}
use Rattle.request_record.specs.declared.entries.Entry.{Entry}
use Rattle.request_record.specs.declared.requests.Request.{Request}
use Rattle.std.proofs.lemmas.List.{length-map}
use Rattle.std.proofs.lemmas.List.Elements.{All-same}
use Rattle.request_record.specs.Entries.{IsCut, entries_from, ticked_entry}
use Rattle.request_record.specs.Record.{AreSettled, IsSentFew, ticked_one}
use Rattle.request_record.proofs.EntryLaws.{all_entries, positions_rise}
use Rattle.request_record.proofs.EntrySteps.{ticked_parts}
use Rattle.request_record.proofs.RecordLaws.{lent_whole}
use Rattle.request_record.proofs.entries.Entries.tick.Goals as goal

pub index_of-at-requires : goal.index_of-at-requires
index_of-at-requires c =
    subst (IsNonDecreasingBy (λ (e : Entry). e.position)) (sym (c.as_slice.ensures.value ∙ c.self.invariant.kept)) (positions_rise 0 c.self.inside.past.requests)

pub tick_from-requires-clause-few : goal.tick_from-requires-clause-few
tick_from-requires-clause-few c =
    let rs : List Request = c.self.inside.past.requests in
    let few = All-same IsSentFew rs c.args.self.now c.self.view_is c.requires.few in
    All-same (λ (e : Entry). IsSentFew e.request) c.as_mut_slice.result.now (entries_from 0 rs) (c.as_mut_slice.ensures.value ∙ c.self.invariant.kept) (all_entries IsSentFew 0 rs few)

pub invariant_of-self : goal.invariant_of-self
invariant_of-self c =
    let rs : List Request = c.self.inside.past.requests in
    let at = c.index_of-at.result in
    let cut : IsCut c.args.from (entries_from 0 rs) at = subst (λ (es : List Entry). IsCut c.args.from es at) (c.as_slice.ensures.value ∙ c.self.invariant.kept) c.index_of-at.ensures in
    let now = c.args.now in
    let settled : AreSettled c.args.from rs = subst (AreSettled c.args.from) (sym c.self.view_is) c.requires.settled in
    let new : c.tick_from.new.entries ≡ entries_from 0 (map (ticked_one now) rs) = c.tick_from.ensures ∙ ap (λ (es : List Entry). take at es ++ map (ticked_entry now) (drop at es)) (c.as_mut_slice.ensures.value ∙ c.self.invariant.kept) ∙ ticked_parts now c.args.from at rs settled cut in
    let len : length c.tick_from.new.entries ≡ length c.self.inside.kept.items = c.tick_from.auto.entries ∙ ap length c.as_mut_slice.ensures.value in
    let whole = lent_whole c.self.inside.kept.items c.tick_from.new.entries c.self.inside.kept.len (sym c.self.inside.kept.ok.0) len in
    record {
      counts = c.self.invariant.counts ∙ sym (ap length c.ticked.ensures ∙ length-map rs (ticked_one now));
      kept = whole ∙ new ∙ ap (entries_from 0) (sym c.ticked.ensures);
    }

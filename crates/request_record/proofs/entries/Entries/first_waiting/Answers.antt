use Rattle.std.proofs.Common.{ℕ, List, drop, sym, ap, subst, ◌∙◌}
use Rattle.std.specs.List.Sorted.{IsNonDecreasingBy}
use Rattle.request_record.specs.declared.entries.Entry.{Entry}
use Rattle.request_record.specs.declared.requests.Request.{Request}
use Rattle.request_record.specs.Entries.{IsCut, entries_from, first_position}
use Rattle.request_record.specs.Record.{AreSettled}
use Rattle.std.proofs.lemmas.List.{take_rest}
use Rattle.request_record.proofs.EntryLaws.{positions_rise}
use Rattle.request_record.proofs.EntrySteps.{first_settled}
use Rattle.request_record.proofs.entries.Entries.first_waiting.Goals as goal

pub index_of-at-requires : goal.index_of-at-requires
index_of-at-requires c =
    subst (IsNonDecreasingBy (λ (e : Entry). e.position)) (sym (c.as_slice.ensures.value ∙ c.self.invariant.kept)) (positions_rise 0 c.self.inside.past.requests)

pub returns : goal.returns
returns c =
    let rs : List Request = c.self.inside.past.requests in
    let at = c.index_of-at.result in
    let cut : IsCut c.args.from (entries_from 0 rs) at = subst (λ (es : List Entry). IsCut c.args.from es at) (c.as_slice.ensures.value ∙ c.self.invariant.kept) c.index_of-at.ensures in
    let settled : AreSettled c.args.from rs = subst (AreSettled c.args.from) (sym c.self.view_is) c.requires in
    let all = take_rest c.as_slice-2.result.now at ∙ ap (drop at) (c.as_slice-2.ensures.value ∙ c.self.invariant.kept) in
    let first = c.first_waiting.ensures ∙ ap (λ (es : List Entry). first_position es c.self.inside.len) all ∙ ap (first_position (drop at (entries_from 0 rs))) c.self.invariant.counts in
    subst (AreSettled c.first_waiting.result) c.self.view_is (subst (λ (n : ℕ). AreSettled n rs) (sym first) (first_settled c.args.from at rs settled cut))

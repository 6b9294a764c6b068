use Rattle.std.proofs.Common.{◌≡◌, ◌-◌, List, length, take, drop, sym, ap, subst, ◌∙◌}
use Rattle.std.specs.List.Sorted.{IsNonDecreasingBy}
use Rattle.request_record.specs.declared.entries.Entry.{Entry}
use Rattle.request_record.specs.declared.requests.Request.{Request}
use Rattle.request_record.specs.Entries.{IsCut, entries_from, positions_of}
use Rattle.request_record.specs.Record.{AreSettled, is_lost_at, lost_positions}
use Rattle.std.proofs.lemmas.List.{take_rest}
use Rattle.lemmas.proofs.Results.{if_ok_then}
use Rattle.request_record.proofs.EntryLaws.{parts_at, positions_are, positions_rise}
use Rattle.request_record.proofs.EntrySteps.{lost_unwritten}
use Rattle.request_record.proofs.RecordLaws.{lost_behind}
use Rattle.request_record.proofs.entries.Entries.find_lost.Goals as goal

pub index_of-at-requires : goal.index_of-at-requires
index_of-at-requires c =
    subst (IsNonDecreasingBy (λ (e : Entry). e.position)) (sym (c.as_slice.ensures.value ∙ c.self.invariant.kept)) (positions_rise 0 c.self.inside.past.requests)

pub returns : goal.returns
returns c =
    let rs : List Request = c.self.inside.past.requests in
    let at = c.index_of-at.result in
    let cut : IsCut c.args.from (entries_from 0 rs) at = subst (λ (es : List Entry). IsCut c.args.from es at) (c.as_slice.ensures.value ∙ c.self.invariant.kept) c.index_of-at.ensures in
    let now = c.args.now in
    let from = c.args.from in
    let settled : AreSettled from rs = subst (AreSettled from) (sym c.self.view_is) c.requires in
    let all = take_rest c.as_slice-2.result.now at ∙ ap (drop at) (c.as_slice-2.ensures.value ∙ c.self.invariant.kept) ∙ (parts_at from at rs cut).rest in
    let same : positions_of (is_lost_at now) (take (length c.as_slice-2.result.now - at) (drop at c.as_slice-2.result.now)) ≡ lost_positions now c.args.self.now = ap (positions_of (is_lost_at now)) all ∙ positions_are (is_lost_at now) (lost_unwritten now) from (drop from rs) ∙ lost_behind now from rs settled ∙ ap (lost_positions now) c.self.view_is in
    if_ok_then c.find_lost.result _ _ c.find_lost.ensures (λ positions e. e ∙ same)

use Rattle.std.proofs.Common.{List, slice_get, sym, ap, subst, ◌∙◌}
use Rattle.std.specs.List.Sorted.{IsNonDecreasingBy}
use Rattle.request_record.specs.declared.entries.Entry.{Entry}
use Rattle.request_record.specs.declared.requests.Request.{Request}
use Rattle.request_record.specs.Entries.{IsCut, entries_from, request_here}
use Rattle.request_record.specs.Written.{kept}
use Rattle.request_record.proofs.EntryLaws.{here_is_kept, positions_rise}
use Rattle.request_record.proofs.entries.Entries.get.Goals as goal

pub index_of-at-requires : goal.index_of-at-requires
index_of-at-requires c =
    subst (IsNonDecreasingBy (λ (e : Entry). e.position)) (sym (c.as_slice.ensures.value ∙ c.self.invariant.kept)) (positions_rise 0 c.self.inside.past.requests)

pub returns : goal.returns
returns c =
    let rs : List Request = c.self.inside.past.requests in
    let at = c.index_of-at.result in
    let cut : IsCut c.args.position (entries_from 0 rs) at = subst (λ (es : List Entry). IsCut c.args.position es at) (c.as_slice.ensures.value ∙ c.self.invariant.kept) c.index_of-at.ensures in
    c.request_here.ensures
    ∙ ap (λ (es : List Entry). request_here c.args.position (slice_get es at)) (c.as_slice-2.ensures.value ∙ c.self.invariant.kept)
    ∙ here_is_kept c.args.position at rs cut
    ∙ ap (λ (rs : List Request). kept (slice_get rs c.args.position)) c.self.view_is

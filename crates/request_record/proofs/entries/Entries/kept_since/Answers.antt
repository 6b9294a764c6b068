use Rattle.std.proofs.Common.{List, map, drop, sym, ap, subst, ◌∙◌}
use Rattle.std.specs.List.Sorted.{IsNonDecreasingBy}
use Rattle.request_record.specs.declared.entries.Entry.{Entry}
use Rattle.request_record.specs.declared.requests.Request.{Request}
use Rattle.request_record.specs.Entries.{IsCut, entries_from}
use Rattle.request_record.specs.Written.{kept_of}
use Rattle.std.proofs.lemmas.List.{take_rest}
use Rattle.request_record.proofs.EntryLaws.{parts_at, positions_rise, requests_are}
use Rattle.request_record.proofs.entries.Entries.kept_since.Goals as goal

pub index_of-at-requires : goal.index_of-at-requires
index_of-at-requires c =
    subst (IsNonDecreasingBy (λ (e : Entry). e.position)) (sym (c.as_slice.ensures.value ∙ c.self.invariant.kept)) (positions_rise 0 c.self.inside.past.requests)

pub returns : goal.returns
returns c =
    let rs : List Request = c.self.inside.past.requests in
    let at = c.index_of-at.result in
    let cut : IsCut c.args.position (entries_from 0 rs) at = subst (λ (es : List Entry). IsCut c.args.position es at) (c.as_slice.ensures.value ∙ c.self.invariant.kept) c.index_of-at.ensures in
    ap (map (λ (e : Entry). e.request)) (take_rest c.as_slice-2.result.now at ∙ ap (drop at) (c.as_slice-2.ensures.value ∙ c.self.invariant.kept) ∙ (parts_at c.args.position at rs cut).rest)
    ∙ requests_are c.args.position (drop c.args.position rs)
    ∙ ap (λ (rs : List Request). kept_of (drop c.args.position rs)) c.self.view_is

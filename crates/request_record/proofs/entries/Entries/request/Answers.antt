use Rattle.std.proofs.Common.{◌≡◌, ◌<◌, List, Some, length, get_or, slice_get, sym, ap, subst, ◌∙◌, arith}
use Rattle.std.specs.List.Sorted.{IsNonDecreasingBy}
use Rattle.request_record.specs.declared.entries.Entry.{Entry}
use Rattle.request_record.specs.declared.requests.Request.{Request}
use Rattle.request_record.specs.Entries.{IsCut, entries_from}
use Rattle.request_record.specs.Written.{IsKeptAt}
use Rattle.std.proofs.lemmas.Option.{slice_get_within, get_or_from_slice_get}
use Rattle.request_record.proofs.EntryLaws.{found_kept, positions_rise}
use Rattle.request_record.proofs.entries.Entries.request.Goals as goal

pub index_of-at-requires : goal.index_of-at-requires
index_of-at-requires c =
    subst (IsNonDecreasingBy (λ (e : Entry). e.position)) (sym (c.as_slice.ensures.value ∙ c.self.invariant.kept)) (positions_rise 0 c.self.inside.past.requests)

pub index-requires : goal.index-requires
index-requires c =
    let rs : List Request = c.self.inside.past.requests in
    let at = c.index_of-at.result in
    let cut : IsCut c.args.position (entries_from 0 rs) at = subst (λ (es : List Entry). IsCut c.args.position es at) (c.as_slice.ensures.value ∙ c.self.invariant.kept) c.index_of-at.ensures in
    let found = found_kept c.args.position at rs cut (subst (λ (rs : List Request). IsKeptAt rs c.args.position) (sym c.self.view_is) c.requires) in
    let there : at < length c.self.inside.kept.items = subst (λ (es : List Entry). at < length es) (sym c.self.invariant.kept) (slice_get_within (entries_from 0 rs) at _ found.entry) in
    omega (arith, there, c.self.inside.kept.ok.0)

pub returns : goal.returns
returns c =
    let rs : List Request = c.self.inside.past.requests in
    let at = c.index_of-at.result in
    let cut : IsCut c.args.position (entries_from 0 rs) at = subst (λ (es : List Entry). IsCut c.args.position es at) (c.as_slice.ensures.value ∙ c.self.invariant.kept) c.index_of-at.ensures in
    let found = found_kept c.args.position at rs cut (subst (λ (rs : List Request). IsKeptAt rs c.args.position) (sym c.self.view_is) c.requires) in
    let is : get_or c.self.inside.kept.items at c.index.result.now ≡ record { position = c.args.position; request = found.request } = ap (λ (es : List Entry). get_or es at c.index.result.now) c.self.invariant.kept ∙ get_or_from_slice_get (entries_from 0 rs) at (record { position = c.args.position; request = found.request }) c.index.result.now found.entry in
    ap (λ (rs : List Request). slice_get rs c.args.position) (sym c.self.view_is) ∙ found.there ∙ ap (λ (e : Entry). Some e.request) (sym (c.index.ensures ∙ is))

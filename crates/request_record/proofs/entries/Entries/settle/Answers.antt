use Rattle.std.proofs.Common.{◌≡◌, List, Some, false, slice_get, sym, ap, subst, ◌∙◌, arith}
use Rattle.std.specs.List.Sorted.{IsNonDecreasingBy}
use Rattle.request_record.specs.declared.entries.Entry.{Entry}
use Rattle.request_record.specs.declared.requests.Request.{Request}
use Rattle.std.specs.Prelude.{slice_set}
use Rattle.std.proofs.lemmas.Option.{slice_get_within}
use Rattle.request_record.specs.Entries.{IsCut, IsHere}
use Rattle.request_record.specs.Record.{with_outcome}
use Rattle.request_record.specs.Written.{is_written}
use Rattle.request_record.proofs.EntryLaws.{here_within, positions_rise}
use Rattle.request_record.proofs.EntrySteps.{settled_memory, settled_there, unwritten_here}
use Rattle.request_record.proofs.entries.Entries.settle.Goals as goal

pub index_of-at-requires : goal.index_of-at-requires
index_of-at-requires c =
    subst (IsNonDecreasingBy (λ (e : Entry). e.position)) (sym (c.as_slice.ensures.value ∙ c.self.invariant.kept)) (positions_rise 0 c.self.inside.past.requests)

pub settle-requires : goal.settle-requires
settle-requires c =
    let at = c.index_of-at.result in
    let cut : IsCut c.args.position c.self.inside.kept.items at = subst (λ (es : List Entry). IsCut c.args.position es at) c.as_slice.ensures.value c.index_of-at.ensures in
    let here : IsHere c.args.position (slice_get c.self.inside.kept.items at) = subst (λ (es : List Entry). IsHere c.args.position (slice_get es at)) c.as_slice-2.ensures.value (c.has_position.ensures.0 c.if-has_position.true) in
    omega (arith, here_within c.args.position at c.self.inside.kept.items here, c.self.inside.kept.ok.0)

pub index-requires : goal.index-requires
index-requires c =
    let at = c.index_of-at.result in
    let cut : IsCut c.args.position c.self.inside.kept.items at = subst (λ (es : List Entry). IsCut c.args.position es at) c.as_slice.ensures.value c.index_of-at.ensures in
    let here : IsHere c.args.position (slice_get c.self.inside.kept.items at) = subst (λ (es : List Entry). IsHere c.args.position (slice_get es at)) c.as_slice-2.ensures.value (c.has_position.ensures.0 c.if-has_position.true) in
    let there = settled_there c.self.inside.len c.args.position at c.self.inside.past.requests c.self.inside.kept.items c.settle.new.entries.items c.args.outcome c.self.invariant cut here c.settle.ensures in
    omega (arith, slice_get_within c.settle.new.entries.items at _ there.2, c.settle.new.entries.ok.0)

pub let_go-requires : goal.let_go-requires
let_go-requires c =
    let at = c.index_of-at.result in
    let cut : IsCut c.args.position c.self.inside.kept.items at = subst (λ (es : List Entry). IsCut c.args.position es at) c.as_slice.ensures.value c.index_of-at.ensures in
    let here : IsHere c.args.position (slice_get c.self.inside.kept.items at) = subst (λ (es : List Entry). IsHere c.args.position (slice_get es at)) c.as_slice-2.ensures.value (c.has_position.ensures.0 c.if-has_position.true) in
    let there = settled_there c.self.inside.len c.args.position at c.self.inside.past.requests c.self.inside.kept.items c.settle.new.entries.items c.args.outcome c.self.invariant cut here c.settle.ensures in
    omega (arith, slice_get_within c.settle.new.entries.items at _ there.2, c.settle.new.entries.ok.0)

pub invariant_of-self : goal.invariant_of-self
invariant_of-self c =
    let at = c.index_of-at.result in
    let cut : IsCut c.args.position c.self.inside.kept.items at = subst (λ (es : List Entry). IsCut c.args.position es at) c.as_slice.ensures.value c.index_of-at.ensures in
    let here : IsHere c.args.position (slice_get c.self.inside.kept.items at) = subst (λ (es : List Entry). IsHere c.args.position (slice_get es at)) c.as_slice-2.ensures.value (c.has_position.ensures.0 c.if-has_position.true) in
    let left = settled_memory c.self.inside.len c.args.position at c.self.inside.past.requests c.settled.result.requests c.self.inside.kept.items c.settle.new.entries.items c.let_go.new.entries.items c.index.result.now c.args.outcome c.self.invariant cut here c.settle.ensures c.index.ensures c.settled.ensures c.let_go.ensures in
    left.memory

pub returns-then-has_position : goal.returns-then-has_position
returns-then-has_position c =
    let at = c.index_of-at.result in
    let cut : IsCut c.args.position c.self.inside.kept.items at = subst (λ (es : List Entry). IsCut c.args.position es at) c.as_slice.ensures.value c.index_of-at.ensures in
    let here : IsHere c.args.position (slice_get c.self.inside.kept.items at) = subst (λ (es : List Entry). IsHere c.args.position (slice_get es at)) c.as_slice-2.ensures.value (c.has_position.ensures.0 c.if-has_position.true) in
    let left = settled_memory c.self.inside.len c.args.position at c.self.inside.past.requests c.settled.result.requests c.self.inside.kept.items c.settle.new.entries.items c.let_go.new.entries.items c.index.result.now c.args.outcome c.self.invariant cut here c.settle.ensures c.index.ensures c.settled.ensures c.let_go.ensures in
    subst (λ (rs : List Request). (r : Request) → slice_get rs c.args.position ≡ Some r → is_written r ≡ false → c.settled.result.requests ≡ slice_set rs c.args.position (with_outcome r c.args.outcome)) c.self.view_is (λ r there e. left.requests r there)

pub returns-else-has_position : goal.returns-else-has_position
returns-else-has_position c r there e =
    let at = c.index_of-at.result in
    let cut : IsCut c.args.position c.self.inside.kept.items at = subst (λ (es : List Entry). IsCut c.args.position es at) c.as_slice.ensures.value c.index_of-at.ensures in
    let was : slice_get c.self.inside.past.requests c.args.position ≡ Some r = ap (λ (rs : List Request). slice_get rs c.args.position) c.self.view_is ∙ there in
    let here : IsHere c.args.position (slice_get c.self.inside.kept.items at) = unwritten_here c.self.inside.len c.args.position at c.self.inside.past.requests c.self.inside.kept.items r c.self.invariant cut was e in
    let yes = c.has_position.ensures.1 (subst (λ (es : List Entry). IsHere c.args.position (slice_get es at)) (sym c.as_slice-2.ensures.value) here) in
    absurd (let no = c.if-has_position.false in cc)

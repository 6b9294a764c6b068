use Rattle.std.proofs.Common.{◌≡◌, ℕ, ◌+◌, ◌-◌, ◌*◌, ◌<◌, ◌≤◌, List, [], ◌∷◌, ◌++◌, length, min, take, slice_index_or, Some, inl, inr, refl, ap, sym, subst, ◌∙◌, arith}
use Rattle.std.specs.Prelude.{slice_get}
use Rattle.std.proofs.lemmas.Bool.{cases_lt}
use Rattle.std.proofs.lemmas.Grind.{div_ceil_times}
use Rattle.std.proofs.lemmas.Iterator.Adapters.{YieldsList-from_vec}
use Rattle.std.proofs.lemmas.Iterator.Consumers.{YieldsList-end, YieldsList-turn}
use Rattle.std.proofs.lemmas.List.{get_or-append_right, get_or-take, get_or_append_left, length-append, length-take-le, length_push}
use Rattle.std.proofs.lemmas.List.FromFn.{fill_by_all}
use Rattle.lemmas.proofs.Positions.{got}
use Rattle.tagged_hash.specs.TaggedHash.{tagged_hash}
use Rattle.tagged_hash.specs.declared.tag.Tag.TheVariants.{WholeShare}
use Rattle.tagged_hash.specs.declared.wholes.WholeHashers.{WholeHashers}
use Rattle.tagged_hash.proofs.finishing.finish_digests.Goals as goal

-- some digests more, or those that are left
more-at : (f : ℕ → List ℕ) (digests some : List (List ℕ)) (n : ℕ) → n ≤ length some
    → ((i : ℕ) → i < length digests → slice_index_or digests i [] ≡ f i)
    → ((j : ℕ) → j < n → slice_index_or some j [] ≡ f (length digests + j))
    → (i : ℕ) → i < length (digests ++ take n some) → slice_index_or (digests ++ take n some) i [] ≡ f i
more-at f digests some n fits made new i low =
    let long = length-append digests (take n some) in
    let part = length-take-le n some fits in
    elim (cases_lt i (length digests)) [
      | inl before ↦ get_or_append_left digests (take n some) [] i before ∙ made i before
      | inr after ↦ (let j : ℕ = i - length digests in
          let below : j < n = omega (arith, after, low, long, part) in
          let here : length digests + j ≡ i = omega (arith, after) in
          get_or-append_right digests (take n some) (length digests) i [] refl after ∙ get_or-take n some j [] below ∙ new j below ∙ ap f here)
    ]

pub loop-whole-preserved : goal.loop-whole-preserved
loop-whole-preserved g c =
    let wholes : List WholeHashers = c.args.wholes.items in
    let gone : List WholeHashers = c.loop-whole.yielded in
    let total : ℕ = c.args.total in
    let digests : List (List ℕ) = c.loop-whole.digests.items in
    let gives = c.into_iter-whole-iterator.ensures.into_iter_gives in
    let turn = YieldsList-turn (YieldsList-from_vec {s = c.into_iter-whole-iterator.result} wholes gives.0 (omega (arith, gives.1, c.args.wholes.ok.0))) gone c.loop-whole.whole-iterator c.loop-whole.yielded_by c.next.result c.next.new.self c.in-Some.whole c.in-Some.is c.next.ensures.steps in
    let here : slice_get wholes (length gone) ≡ Some c.in-Some.whole = got wholes (length gone) c.in-Some.whole turn.0 turn.1 in
    let groups = div_ceil_times total 7 (omega arith) in
    let left : 7 * length gone < total = omega (arith, turn.0, c.requires.groups, groups.1) in
    let first : length digests ≡ 7 * length gone = omega (arith, c.loop-whole.invariant.count, left) in
    let number : c.len-first.result ≡ length digests = omega (arith, c.len-first.ensures, c.loop-whole.digests.ok.0) in
    let one : length (gone ++ c.in-Some.whole ∷ []) ≡ length gone + 1 = length_push gone c.in-Some.whole in
    let some : List (List ℕ) = c.finish_seven-seven.result in
    let n : ℕ = c.min.result in
    let fits : n ≤ length some = omega (arith, c.min.ensures) in
    let items = c.in_ok-extend_from_slice.ensures.items in
    let many : n ≡ min (total - length digests) 7 = omega (arith, c.min.ensures, number) in
    record {
      count = omega (arith, ap length items, length-append digests (take n some), length-take-le n some fits, many, first, one, left);
      made = λ written given.
          let f : ℕ → List ℕ = λ i. tagged_hash WholeShare (written i ++ g.E.Endings.ending c.args.endings.now i) in
          subst (λ (l : List (List ℕ)). (i : ℕ) → i < length l → slice_index_or l i [] ≡ f i) (sym items)
          (more-at f digests some n fits (c.loop-whole.invariant.made written given)
          (λ j below.
          let low : j < 7 = omega (arith, below, many) in
          let within : 7 * length gone + j < total = omega (arith, below, many, first, left) in
          c.finish_seven-seven.ensures j (written (7 * length gone + j)) low (omega (arith, within, number, first, c.requires.total))
          (given (length gone) j c.in-Some.whole low within here)
          ∙ λ p. tagged_hash WholeShare (written (sym first p + j) ++ g.E.Endings.ending c.args.endings.now (number p + j))));
    }

pub returns : goal.returns
returns g c = λ written given.
    let wholes : List WholeHashers = c.args.wholes.items in
    let total : ℕ = c.args.total in
    let gives = c.into_iter-whole-iterator.ensures.into_iter_gives in
    let end = YieldsList-end (YieldsList-from_vec {s = c.into_iter-whole-iterator.result} wholes gives.0 (omega (arith, gives.1, c.args.wholes.ok.0))) c.loop-whole.yielded c.loop-whole.whole-iterator c.loop-whole.yielded_by c.next.result c.next.new.self c.in-None.is c.next.ensures.steps in
    let groups = div_ceil_times total 7 (omega arith) in
    let all : length c.loop-whole.digests.items ≡ total = omega (arith, c.loop-whole.invariant.count, end.1, c.requires.groups, groups.0) in
    fill_by_all (λ i. tagged_hash WholeShare (written i ++ g.E.Endings.ending c.args.endings.now i)) c.loop-whole.digests.items total [] all
    (λ i low. c.loop-whole.invariant.made written given i (omega (arith, low, all)))

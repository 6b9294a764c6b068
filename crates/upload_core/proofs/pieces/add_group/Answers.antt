use Rattle.std.proofs.Common.{◌≡◌, ◌+◌, ◌-◌, ◌<◌, ◌++◌, ℕ, List, [], ◌∷◌, Vec, Global, length, map, take, drop, get_or, ext_get_or, sym, ap, ◌∙◌, arith}
use Rattle.std.proofs.lemmas.List.{append_assoc, get_or-drop, get_or-map, get_or-take, length-drop, length-map, length-take-le, take_more}
use Rattle.tagged_hash.specs.TaggedHash.{share_digest}
use Rattle.upload_core.proofs.pieces.add_group.Goals as goal

abbrev digest : Vec ℕ Global → List ℕ
digest share = share_digest share.items

pub loop-number-preserved : goal.loop-number-preserved
loop-number-preserved c =
    let own = c.args.shares.now in
    let ds : List (List ℕ) = map digest own in
    let old : List (List ℕ) = c.args.digests.now.items in
    let first : ℕ = c.args.first in
    let number : ℕ = c.loop-number.number in
    let k : ℕ = number - first in
    let xs : List (List ℕ) = drop first ds in
    let v = c.index-shares-number.result in
    let next : k + 1 ≡ number + 1 - first = omega arith in
    let at : number ≡ first + k = omega arith in
    let many : length ds ≡ length own = length-map own digest in
    let lt : number < length own = omega arith in
    let some : k < length xs = omega (arith, length-drop first ds, many) in
    let is : c.share_digest.result ≡ get_or xs k [] =
    c.share_digest.ensures ∙ ap share_digest c.deref.ensures.value ∙ ap digest c.index-shares-number.is ∙ sym (get_or-map digest own number v [] lt) ∙ ap (λ (n : ℕ). get_or ds n []) at
    ∙ sym (get_or-drop first ds k []) in
    c.in_ok-push.ensures.items
    ∙ ap (λ (front : List (List ℕ)). front ++ c.share_digest.result ∷ []) c.loop-number.invariant
    ∙ append_assoc old (take k xs) (c.share_digest.result ∷ [])
    ∙ ap (λ (more : List (List ℕ)). old ++ more) (ap (λ (x : List ℕ). take k xs ++ x ∷ []) is ∙ sym (take_more xs k [] some) ∙ ap (λ (n : ℕ). take n xs) next)

pub returns : goal.returns
returns c =
    let own = c.args.shares.now in
    let ds : List (List ℕ) = map digest own in
    let all = c.eight_digests-all.result in
    let first : ℕ = c.args.first in
    let n : ℕ = c.args.end - first in
    let many : length ds ≡ length own = length-map own digest in
    let a : length (take n all) ≡ n = length-take-le n all (omega arith) in
    let b : length (take n (drop first ds)) ≡ n = length-take-le n (drop first ds) (omega (arith, length-drop first ds, many)) in
    c.in_ok-extend_from_slice.ensures.items
    ∙ ap (λ (more : List (List ℕ)). c.args.digests.now.items ++ more) (ext_get_or [] (take n all) (take n (drop first ds)) (a ∙ sym b)
    (λ j below.
    let near : j < n = omega (arith, below, a) in
    get_or-take n all j [] near ∙ c.eight_digests-all.ensures j (omega arith) (omega arith) ∙ sym (get_or-drop first ds j []) ∙ sym (get_or-take n (drop first ds) j [] near)))

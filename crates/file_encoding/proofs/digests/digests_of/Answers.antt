use Rattle.std.proofs.Common.{◌≡◌, ℕ, ◌++◌, ◌<◌, List, [], drop, length, map, slice_index_or, ext_get_or, ap, sym, ◌∙◌, arith, zero-add}
use Rattle.std.proofs.lemmas.List.{get_or-map, length-map, take-append-drop}
use Rattle.std.proofs.lemmas.List.FromFn.{get_or-map-range_with_len, length-map-range_with_len}
use Rattle.std.proofs.lemmas.Result.{IfOk-weaker}
use Rattle.std.specs.List.{range_with_len}
use Rattle.tagged_hash.specs.TaggedHash.{share_digest}
use Rattle.file_encoding.specs.Digests.{beginning_of}
use Rattle.file_encoding.proofs.digests.digests_of.Goals as goal

-- the digests, share by share
each_whole : (shares : List (List ℕ)) (given : ℕ)
    → map (λ i. share_digest (beginning_of shares given i ++ drop given (slice_index_or shares i []))) (range_with_len 0 (length shares)) ≡ map share_digest shares
each_whole shares given =
    let f : ℕ → List ℕ = λ i. share_digest (beginning_of shares given i ++ drop given (slice_index_or shares i [])) in
    let n : ℕ = length shares in
    ext_get_or [] (map f (range_with_len 0 n)) (map share_digest shares) (length-map-range_with_len f 0 n ∙ sym (length-map shares share_digest)) (λ i below.
    let low : i < n = omega (arith, below, length-map-range_with_len f 0 n) in
    get_or-map-range_with_len f 0 n i i [] low (zero-add i) ∙ ap share_digest (take-append-drop given (slice_index_or shares i []))
    ∙ sym (get_or-map share_digest shares i [] [] low))

pub returns : goal.returns
returns c =
    IfOk-weaker c.finish_digests.result _ _ (λ digests is. is ∙ each_whole c.args.shares.now c.args.given)
    (c.finish_digests.ensures (beginning_of c.args.shares.now c.args.given) c.requires.given)

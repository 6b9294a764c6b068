-- Blocks that are gathered one after another.
use Rattle.std.proofs.Common.{◌≡◌, ℕ, ◌+◌, ◌*◌, ◌<◌, List, [], ◌∷◌, ◌++◌, length, take, drop, map, get_or, slice_index_or, Some, refl, ap, sym, ◌∙◌, arith}
use Rattle.std.specs.Prelude.{slice_get}
use Rattle.std.proofs.Math.Nat.{add-mul}
use Rattle.std.proofs.Math.Seq.{take-add}
use Rattle.std.proofs.lemmas.List.{append_assoc, append-nil, map-append}
use Rattle.std.proofs.lemmas.Option.{same_Some, slice_get-get_or, slice_get_within}
use Rattle.tagged_hash.specs.TaggedHash.{tagged_hash}
use Rattle.tagged_hash.specs.declared.tag.Tag.TheVariants.{Block}
use Rattle.share_layout.specs.Pieces.{pieces}
use Rattle.share_gathering.specs.Shares.{HaveBecome, HaveBlocksMore}
use Rattle.share_gathering.specs.declared.shares.ShareSoFar.{ShareSoFar}
use Rattle.share_gathering.proofs.GroupSteps.{pieces-more}

-- shares as they stand have no block more
pub no-block-more : (size : ℕ) (rows : ℕ → List ℕ) (old : List ShareSoFar) → HaveBlocksMore 0 size rows old old
no-block-more size rows old = record {
  count = refl;
  each = λ i before after was is.
      ap (λ (share : ShareSoFar). share.leaves.items) (same_Some after before (sym is ∙ was)) ∙ sym (append-nil before.leaves.items);
}

-- the leaf of one block more
pub one-block-more : (i size : ℕ) (rows : ℕ → List ℕ) (hashes : List (List ℕ)) (old mid new : List ShareSoFar) → HaveBlocksMore i size rows old mid
    → HaveBecome (λ j before after. after.leaves.items ≡ before.leaves.items ++ slice_index_or hashes j [] ∷ []) mid new
    → ((j : ℕ) → j < length old → slice_index_or hashes j [] ≡ tagged_hash Block (take size (drop (i * size) (rows j))))
    → HaveBlocksMore (i + 1) size rows old new
one-block-more i size rows hashes old mid new more pushed are = record {
  count = pushed.count ∙ more.count;
  each = λ j before after was is.
      let there : j < length mid = omega (arith, slice_get_within new j after is, pushed.count) in
      let between : ShareSoFar = get_or mid j after in
      let here : slice_get mid j ≡ Some between = slice_get-get_or mid j after there in
      let leaves : List (List ℕ) = before.leaves.items in
      let made : List (List ℕ) = map (tagged_hash Block) (pieces i size (rows j)) in
      let block : List ℕ = take size (drop (i * size) (rows j)) in
      pushed.each j between after here is
      ∙ ap (λ (l : List (List ℕ)). l ++ slice_index_or hashes j [] ∷ []) (more.each j before between was here)
      ∙ append_assoc leaves made (slice_index_or hashes j [] ∷ [])
      ∙ ap (λ (h : List ℕ). leaves ++ (made ++ h ∷ [])) (are j (slice_get_within old j before was))
      ∙ ap (λ (l : List (List ℕ)). leaves ++ l) (sym (map-append (tagged_hash Block) (pieces i size (rows j)) (block ∷ [])) ∙ ap (map (tagged_hash Block)) (sym (pieces-more i size (rows j))));
}

-- the bytes of one block more
pub one-front-more : (i size : ℕ) (given row : List ℕ) → (given ++ take (i * size) row) ++ take size (drop (i * size) row) ≡ given ++ take ((i + 1) * size) row
one-front-more i size given row =
    let next : (i + 1) * size ≡ i * size + size = add-mul i 1 size ∙ (let e : i * size + 1 * size ≡ i * size + size = omega arith in e) in
    append_assoc given (take (i * size) row) (take size (drop (i * size) row))
    ∙ ap (λ (l : List ℕ). given ++ l) (sym (take-add (i * size) size row) ∙ ap (λ n. take n row) (sym next))

-- the same blocks by other words
pub by-rows : (n size : ℕ) (rows others : ℕ → List ℕ) (old new : List ShareSoFar) → HaveBlocksMore n size rows old new → ((i : ℕ) → i < length old → rows i ≡ others i)
    → HaveBlocksMore n size others old new
by-rows n size rows others old new more same = record {
  count = more.count;
  each = λ i before after was is.
      more.each i before after was is ∙ ap (λ (row : List ℕ). before.leaves.items ++ map (tagged_hash Block) (pieces n size row)) (same i (slice_get_within old i before was));
}

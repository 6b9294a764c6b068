-- Two reads of the same shares.
use Rattle.std.proofs.Common.{◌≡◌, ◌⊎◌, ℕ, ◌/◌, ◌%◌, ◌<◌, ◌≤◌, All, List, [], length, get_or, min, take, drop, inl, inr, ap, sym, subst, ◌∙◌, arith}
use Rattle.std.specs.Prelude.{slice_index}
use Rattle.std.proofs.lemmas.List.{ext_get_or, get_or-map, length-map, take-take}
use Rattle.std.proofs.lemmas.List.Elements.{All-weaker, Contains-get_or}
use Rattle.tagged_hash.specs.TaggedHash.{tagged_hash}
use Rattle.tagged_hash.specs.declared.tag.Tag.TheVariants.{Block}
use Rattle.zfec_code.specs.Shares.{AreSharesOf}
use Rattle.zfec_code.proofs.ShareBlocks.{primaries_unique}
use Rattle.share_layout.specs.Geometry.{Geometry}
use Rattle.share_verify.specs.Pieces.{block_hashes}
use Rattle.share_gathering.specs.Clash.{HaveClash}
use Rattle.share_gathering.proofs.Blocks.{blocks_or_clash}
use Rattle.share_source.specs.Reads.{Fails, Gives}
use Rattle.share_source.specs.Candidates.{Candidates, leaves_held, picked_numbers}
use Rattle.share_source.specs.Decoded.{IsSegmentDecoded}
use Rattle.share_source.specs.Laws.{ReadsAgree}

-- the hash of a block is that of its share's tree
own_hash : {B : Type 0} (gives : Gives B) (fails : Fails B) (g : Geometry) (segment i : ℕ) (old new : Candidates B) (padded reading : List ℕ)
    → (s : IsSegmentDecoded gives fails g segment old padded reading new) → i < g.needed → get_or (block_hashes s.blocks) i [] ≡ get_or (leaves_held new.held (get_or reading i 0)) segment []
own_hash gives fails g segment i old new padded reading s low =
    get_or-map (tagged_hash Block) s.blocks i [] [] (omega (arith, low, s.enough))
    ∙ s.told.hashes i (omega (arith, low, s.numbers.enough))
    ∙ ap (λ (l : List (List ℕ)). get_or l segment []) (get_or-map (leaves_held new.held) reading i 0 [] (omega (arith, low, s.numbers.enough, length-map reading (slice_index old.numbers))))

-- a part of the one segment and a part of the other
parts_agree : (r : ℕ) (p q bytes others : List ℕ) → bytes ≡ take (length bytes) (drop r p) → others ≡ take (length others) (drop r q) → p ≡ q
    → take (min (length bytes) (length others)) bytes ≡ take (min (length bytes) (length others)) others
parts_agree r p q bytes others one other same =
    let n : ℕ = min (length bytes) (length others) in
    ap (take n) one ∙ take-take n (length bytes) (drop r p) (omega arith) ∙ ap (λ (l : List ℕ). take n (drop r l)) same
    ∙ sym (ap (take n) other ∙ take-take n (length others) (drop r q) (omega arith))

pub reads_agree : {B : Type 0} (gives : Gives B) (fails : Fails B) → ReadsAgree gives fails
reads_agree gives fails one two one_after two_after offset bytes others valid same first second =
    let g : Geometry = one.geometry in
    let shares : List ℕ = one.candidates.numbers in
    let numbers : List ℕ = picked_numbers shares one_after.reading in
    let few : g.needed ≤ 256 = omega (arith, valid.enough, valid.shares) in
    let small : All (λ i. i < 256) numbers = All-weaker (λ n. n < g.total) (λ n. n < 256) (λ n low. omega (arith, low, valid.shares)) numbers first.segment.numbers.below in
    let stay : (s : IsSegmentDecoded gives fails g (offset / g.segment_size) two.candidates second.padded two_after.reading two_after.candidates) → others ≡ take (length others) (drop (offset % g.segment_size) second.padded)
    → (take (min (length bytes) (length others)) bytes ≡ take (min (length bytes) (length others)) others) ⊎ HaveClash first.segment.blocks s.blocks = (λ s part.
    let segment : ℕ = offset / g.segment_size in
    let own : List (List ℕ) = first.segment.blocks in
    let hashes : block_hashes s.blocks ≡ block_hashes own =
    ext_get_or [] (block_hashes s.blocks) (block_hashes own) (length-map s.blocks (tagged_hash Block) ∙ s.enough ∙ sym (length-map own (tagged_hash Block) ∙ first.segment.enough))
    (λ i below.
    let low : i < g.needed = omega (arith, below, length-map s.blocks (tagged_hash Block), s.enough) in
    own_hash gives fails g segment i two.candidates two_after.candidates second.padded two_after.reading s low
    ∙ ap (λ (r : List ℕ). get_or (leaves_held two_after.candidates.held (get_or r i 0)) segment []) same.reading
    ∙ ap (λ (l : List (List ℕ)). get_or l segment []) (same.leaves (get_or one_after.reading i 0) (Contains-get_or one_after.reading i 0 (omega (arith, low, first.segment.numbers.enough, length-map one_after.reading (slice_index one.candidates.numbers)))))
    ∙ sym (own_hash gives fails g segment i one.candidates one_after.candidates first.padded one_after.reading first.segment low)) in
    let are : picked_numbers two.candidates.numbers two_after.reading ≡ numbers =
    ap (λ (l : List ℕ). picked_numbers l two_after.reading) same.numbers ∙ ap (λ (r : List ℕ). picked_numbers shares r) same.reading in
    elim (blocks_or_clash own s.blocks hashes) [
      | inr clash ↦ inr clash
      | inl e ↦ (let those : AreSharesOf g.needed second.padded numbers own =
          subst (λ (bs : List (List ℕ)). AreSharesOf g.needed second.padded numbers bs) e
          (subst (λ (ns : List ℕ). AreSharesOf g.needed second.padded ns s.blocks) are s.shares) in
          let one_text : first.padded ≡ second.padded =
          primaries_unique g.needed first.padded second.padded numbers own valid.some_needed few first.segment.numbers.enough small first.segment.numbers.distinct first.segment.shares those in
          inl (parts_agree (offset % g.segment_size) first.padded second.padded bytes others first.part part one_text))
    ]) in
    subst (λ (h : Geometry). (s : IsSegmentDecoded gives fails h (offset / h.segment_size) two.candidates second.padded two_after.reading two_after.candidates) → others ≡ take (length others) (drop (offset % h.segment_size) second.padded)
    → (take (min (length bytes) (length others)) bytes ≡ take (min (length bytes) (length others)) others) ⊎ HaveClash first.segment.blocks s.blocks)
    (sym same.geometry) stay second.segment second.part

-- Blocks that have the hashes of a share's blocks are these, or there is a clash.
use Rattle.std.proofs.Common.{◌≡◌, ◌⊎◌, ℕ, Bool, true, false, List, [], ◌∷◌, length, get_or, drop, refl, inl, inr, ap, sym, arith}
use Rattle.std.specs.Str.{bytes_eq}
use Rattle.std.proofs.lemmas.Bool.{false≢true}
use Rattle.std.proofs.lemmas.List.Elements.{Contains-append_right}
use Rattle.std.proofs.lemmas.Slice.Eq.{bytes_eq-Decides}
use Rattle.tagged_hash.specs.Clash.{IsClash}
use Rattle.tagged_hash.specs.TaggedHash.{tagged_hash, tagged_input}
use Rattle.tagged_hash.specs.declared.tag.Tag.TheVariants.{Block}
use Rattle.proved_parts.proofs.Segments.{same_tagged}
use Rattle.share_verify.specs.Pieces.{block_hashes}
use Rattle.share_gathering.specs.Clash.{HaveClash}

block_or_clash : (own block : List ℕ) → tagged_hash Block block ≡ tagged_hash Block own
    → (block ≡ own) ⊎ IsClash (tagged_input Block own) (tagged_input Block block)
block_or_clash own block same = by (bytes_eq block own) (bytes_eq-Decides block own) where
  by : (t : Bool) → (t ≡ true → block ≡ own) × (block ≡ own → t ≡ true) → (block ≡ own) ⊎ IsClash (tagged_input Block own) (tagged_input Block block)
  by true d = inl (d.0 refl)
  by false d = inr (λ e. false≢true (d.1 (sym (same_tagged Block own block e))), sym same)

pub blocks_or_clash : (own blocks : List (List ℕ)) → block_hashes blocks ≡ block_hashes own → (blocks ≡ own) ⊎ HaveClash own blocks
blocks_or_clash [] [] same = inl refl
blocks_or_clash [] (b ∷ bs) same = absurd (let e = ap length same in omega (arith, e))
blocks_or_clash (o ∷ os) [] same = absurd (let e = ap length same in omega (arith, e))
blocks_or_clash (o ∷ os) (b ∷ bs) same =
    elim (block_or_clash o b (ap (λ (l : List (List ℕ)). get_or l 0 []) same)) [
      | inr clash ↦ inr record { one = o; other = b; among = (0, omega arith, refl); among_too = (0, omega arith, refl); clash = clash }
      | inl head ↦ elim (blocks_or_clash os bs (ap (drop 1) same)) [
        | inl rest ↦ inl (λ p. head p ∷ rest p)
        | inr c ↦ inr record {
          one = c.one;
          other = c.other;
          among = Contains-append_right (o ∷ []) os c.one c.among;
          among_too = Contains-append_right (b ∷ []) bs c.other c.among_too;
          clash = c.clash;
        }
      ]
    ]

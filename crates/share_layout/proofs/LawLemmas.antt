-- A share's header leads to its extension block.
use Rattle.std.proofs.Common.{◌≡◌, ℕ, ◌+◌, ◌*◌, ◌^◌, ◌<◌, ◌≤◌, inl, inr, List, ◌++◌, length, take, drop, get_or, ap, sym, subst, refl, ◌∙◌, append_assoc, arith}
use Rattle.std.specs.Int.{w32, div_ceil, to_be_bytes}
use Rattle.std.specs.List.{flat_map}
use Rattle.std.proofs.Math.Nat.{pow-le-pow_right}
use Rattle.std.proofs.lemmas.Bool.{cases_lt}
use Rattle.std.proofs.lemmas.Grind.{div_ceil_times}
use Rattle.std.proofs.lemmas.List.{length-take, drop-drop, drop_at, drop-take, take-take}
use Rattle.std.proofs.lemmas.Nat.{pow_pos}
use Rattle.merkle.specs.Tree.{height, needed_numbers}
use Rattle.share_layout.specs.Geometry.{Geometry, hashes_size, segment_count, share_data_size, tree_size, IsGeometry}
use Rattle.share_layout.specs.declared.layout.Layout.{Layout}
use Rattle.share_layout.specs.Layout.{header, header_numbers, header_size, layout_of, number_in, offsets_by, offsets_of, spelled, version, width}
use Rattle.share_layout.specs.Share.{CarriesNumbers, HaveLengths, IsShare, Sections}
use Rattle.share_layout.specs.Offsets.{AreRising, EndsWith, HasOwnOffsets, HasVersion, LocatesUeb, header_number, layout_in, offsets_in}
use Rattle.share_layout.specs.declared.offsets.Offsets.{Offsets}
use Rattle.merkle.proofs.HeightLemmas.{height_below}
use Rattle.share_layout.specs.Reading.{HasHeader}
use Rattle.share_layout.proofs.GeometryLemmas.{share_low}
use Rattle.share_layout.proofs.LayoutLemmas.{fits_layout, header_version, length-header, inside_header, layout_is, limit, read_back, spelled_at}
use Rattle.share_layout.proofs.ShareLemmas.{parts_of}

-- something is left of something
pub div_ceil-some : (n k : ℕ) → 0 < n → 0 < k → 0 < div_ceil n k
div_ceil-some n k some divisor =
    elim (cases_lt 0 (div_ceil n k)) [
      | inl above ↦ above
      | inr none ↦
          let zero : div_ceil n k ≡ 0 = omega (arith, none) in
          absurd (omega (arith, (div_ceil_times n k divisor).0, ap (λ d. d * k) zero, some))
    ]

-- the sizes of a geometry
pub record HaveBounds (g : Geometry) : Type 0 where
  pub some_blocks : 0 < share_data_size g
  pub few_blocks : share_data_size g ≤ 2 ^ 40 + 1
  pub some_nodes : 0 < tree_size g
  pub few_nodes : tree_size g < 2 ^ 26
  pub some_hashes : 0 < hashes_size g
  pub few_hashes : hashes_size g ≤ 306

pub have_bounds : (g : Geometry) → IsGeometry g → HaveBounds g
have_bounds g v =
    let width = pow-le-pow_right {n = 2} (omega arith) {i = height (segment_count g)} {j = 20} (height_below (segment_count g) 20 (omega (arith, v.few))) in
    let some = pow_pos (height (segment_count g)) in
    record {
      some_blocks = div_ceil-some g.size g.needed v.some v.some_needed;
      few_blocks = omega (arith, share_low g v);
      some_nodes = omega (arith, some);
      few_nodes = omega (arith, width, some);
      some_hashes = omega arith;
      few_hashes = omega (arith, height_below g.total 8 (omega (arith, v.shares)));
    }

pub offsets_rise : (g : Geometry) (l : Layout) → HaveBounds g → AreRising (offsets_by l g)
offsets_rise g l b = record {
  unused = omega (arith, b.some_blocks);
  ciphertext_tree = omega (arith, b.some_nodes);
  block_tree = omega (arith, b.some_nodes);
  share_hashes = omega (arith, b.some_nodes);
  extension_block = omega (arith, b.some_hashes);
}

-- a number in a header
number_told : (l : Layout) (bytes numbers : List ℕ) (i n : ℕ)
    → take (header_size l) bytes ≡ to_be_bytes w32 (version l) ++ flat_map (spelled l) numbers → layout_in bytes ≡ l
    → i < 8 → i < length numbers → get_or numbers i 0 ≡ n → n < limit l → header_number bytes i ≡ n
number_told l bytes numbers i n is layout eight inside at fits =
    let w = width l in
    let v = to_be_bytes w32 (version l) in
    let front = v ++ flat_map (spelled l) numbers in
    let a : ℕ = 4 + w * i in
    let behind : drop a front ≡ drop (w * i) (flat_map (spelled l) numbers) =
    sym (drop-drop (w * i) 4 front) ∙ ap (drop (w * i)) (drop_at v (flat_map (spelled l) numbers) 4 refl) in
    let spelled_there : take w (drop a bytes) ≡ spelled l n =
    sym (drop-take a w bytes) ∙ ap (drop a) (sym (take-take (a + w) (header_size l) bytes (inside_header l i eight)) ∙ ap (take (a + w)) is)
    ∙ drop-take a w front ∙ ap (take w) behind ∙ spelled_at l numbers i inside ∙ ap (spelled l) at in
    subst (λ m. number_in m (take (width m) (drop (4 + width m * i) bytes)) ≡ n) (sym layout)
    (ap (number_in l) spelled_there ∙ read_back l n fits)

-- the offsets that a share's header tells are the right ones
pub offsets_told : (g : Geometry) (bytes : List ℕ) → HaveBounds g → take (header_size (layout_of g)) bytes ≡ header g
    → layout_in bytes ≡ layout_of g → offsets_in bytes ≡ offsets_of g
offsets_told g bytes b is layout =
    let l = layout_of g in
    let p = offsets_of g in
    let numbers = header_numbers l g in
    let last : p.extension_block < limit l = fits_layout g l (omega (arith, b.few_blocks, b.few_nodes, b.few_hashes)) refl in
    let a = number_told l bytes numbers 3 p.unused is layout (omega arith) (omega arith) refl (omega (arith, last)) in
    let c = number_told l bytes numbers 4 p.ciphertext_tree is layout (omega arith) (omega arith) refl (omega (arith, last)) in
    let d = number_told l bytes numbers 5 p.block_tree is layout (omega arith) (omega arith) refl (omega (arith, last)) in
    let e = number_told l bytes numbers 6 p.share_hashes is layout (omega arith) (omega arith) refl (omega (arith, last)) in
    let f = number_told l bytes numbers 7 p.extension_block is layout (omega arith) (omega arith) refl last in
    λ i. record { layout = layout i; unused = a i; ciphertext_tree = c i; block_tree = d i; share_hashes = e i; extension_block = f i }

pub tells_offsets : (g : Geometry) (bytes : List ℕ) → IsGeometry g → HasHeader g bytes
    → HasVersion (layout_of g) bytes × HasOwnOffsets bytes × (offsets_in bytes ≡ offsets_of g)
tells_offsets g bytes v is =
    let l = layout_of g in
    let b = have_bounds g v in
    let begins : take 4 bytes ≡ to_be_bytes w32 (version l) =
    sym (take-take 4 (header_size l) bytes (omega arith)) ∙ ap (take 4) is ∙ header_version l g in
    let long : header_size l ≤ length bytes =
    omega (arith, ap length is, length-header l g, length-take (header_size l) bytes) in
    let layout = layout_is l bytes begins in
    let told = offsets_told g bytes b is layout in
    let last : (offsets_of g).extension_block < limit l = fits_layout g l (omega (arith, b.few_blocks, b.few_nodes, b.few_hashes)) refl in
    let first : header_number bytes 2 ≡ header_size l =
    number_told l bytes (header_numbers l g) 2 (header_size l) is layout (omega arith) (omega arith) refl (omega (arith, last)) in (
      record { long = long; version = begins },
      record { data_offset = first ∙ ap header_size (sym layout); rising = subst AreRising (sym told) (offsets_rise g l b) },
      told,
    )

pub locates_own : (g : Geometry) (num : ℕ) (bytes : List ℕ) (s : Sections) → IsGeometry g → IsShare g num bytes s → LocatesUeb bytes s.extension_block
locates_own g num bytes s v is =
    let parts = parts_of g bytes s is.text is.lengths in
    let told = tells_offsets g bytes v parts.header in
    let ends : EndsWith (offsets_of g) bytes s.extension_block = record {
      text = parts.text;
      offset = omega (arith, parts.tail.long);
      short = is.lengths.extension_block;
    } in
    record {
      version = subst (λ m. HasVersion m bytes) (sym (layout_is (layout_of g) bytes told.0.version)) told.0;
      offsets = told.1;
      ends = subst (λ (p : Offsets). EndsWith p bytes s.extension_block) (sym told.2) ends;
    }

-- five lists behind one
five : (h a b c d e : List ℕ) → h ++ (a ++ b ++ c ++ d ++ e) ≡ h ++ a ++ b ++ c ++ d ++ e
five h a b c d e =
    sym (append_assoc h (a ++ b ++ c ++ d) e)
    ∙ ap (λ (l : List ℕ). l ++ e) (sym (append_assoc h (a ++ b ++ c) d)
    ∙ ap (λ (l : List ℕ). l ++ d) (sym (append_assoc h (a ++ b) c)
    ∙ ap (λ (l : List ℕ). l ++ c) (sym (append_assoc h a b))))

-- what is written for the sections
pub sections_made : (g : Geometry) (num : ℕ) (s : Sections) → HaveLengths g s → num < g.total
    → CarriesNumbers (needed_numbers (height g.total) num) s.share_hashes
    → IsShare g num (header g ++ (s.blocks ++ s.unused ++ s.ciphertext_tree ++ s.block_tree ++ s.share_hashes)
    ++ (spelled (layout_of g) (length s.extension_block) ++ s.extension_block)) s
sections_made g num s lengths number numbers = record {
  text = ap (λ (f : List ℕ). f ++ (spelled (layout_of g) (length s.extension_block) ++ s.extension_block))
      (five (header g) s.blocks s.unused s.ciphertext_tree s.block_tree s.share_hashes)
      ∙ sym (append_assoc (header g ++ s.blocks ++ s.unused ++ s.ciphertext_tree ++ s.block_tree ++ s.share_hashes)
      (spelled (layout_of g) (length s.extension_block)) s.extension_block);
  lengths = lengths;
  number = number;
  numbers = numbers;
}

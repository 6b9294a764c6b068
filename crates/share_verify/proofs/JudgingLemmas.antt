-- What is kept of a text whose first blocks are hashed.
use Rattle.std.proofs.Common.{◌≡◌, ℕ, ◌+◌, ◌-◌, ◌*◌, ◌<◌, ◌≤◌, inl, inr, List, [], ◌++◌, length, take, drop, get_or, refl, ap, sym, subst, ◌∙◌, append_assoc, length-append, add-mul, arith, Result, Ok, Err, OnOk, OnErr, if◌then◌else◌, is_ok}
use Rattle.std.proofs.Math.Nat.{div-mul_cancel, dvd_of_mod-eq-zero, mul-le-mul_right, le_of_mul-le-mul_right, mul_assoc}
use Rattle.std.proofs.lemmas.Bool.{cases_lt}
use Rattle.std.proofs.lemmas.Grind.{div_ceil_times}
use Rattle.std.proofs.lemmas.List.{drop-append-le, drop-drop, drop-take, get_or-append_right, get_or_append_left, length-drop, length-take-le, take-append-le, take-take}
use Rattle.tagged_hash.specs.TaggedHash.{tagged_hash}
use Rattle.tagged_hash.specs.declared.tag.Tag.TheVariants.{Block}
use Rattle.ueb.specs.Shape.{Contents}
use Rattle.share_layout.specs.Geometry.{Geometry, IsGeometry, block_size, segment_count, share_data_size}
use Rattle.share_layout.specs.Layout.{header, layout_of, spelled}
use Rattle.share_layout.specs.Share.{share_bytes}
use Rattle.share_verify.specs.CapBlock.{geometry_by}
use Rattle.share_verify.specs.Hashed.{BeginsWith, sections_with}
use Rattle.share_verify.specs.declared.hashed.HashSections.{HashSections}
use Rattle.share_verify.proofs.HashedLemmas.{hash_behind}
use Rattle.share_verify.specs.Hashing.{HashesMore}
use Rattle.share_verify.specs.Judging.{share_with}

-- a block ends before the blocks behind it do
block_room : (size i n : ℕ) → i < n → i * size + size ≤ n * size
block_room size i n below =
    let next : i + 1 ≤ n = omega arith in
    let high : (i + 1) * size ≤ n * size = mul-le-mul_right size next in
    let one : 1 * size ≡ size = omega arith in
    omega (arith, add-mul i 1 size, high, one)

module _ (size : ℕ) (text rest : List ℕ) (hashes : List (List ℕ)) (begins : BeginsWith size text hashes rest) where
  room : (i : ℕ) → i < length hashes → i * size + size ≤ length text
  room i below = omega (arith, block_room size i (length hashes) below, begins.whole)

  -- more bytes come
  pub begins_more : (more : List ℕ) → BeginsWith size (text ++ more) hashes (rest ++ more)
  begins_more more = record {
    whole = omega (arith, length-append text more, begins.whole);
    first = λ i below.
        let fits : size ≤ length (drop (i * size) text) = omega (arith, length-drop (i * size) text, room i below) in
        let low : i * size ≤ length text = omega (arith, room i below) in
        begins.first i below
        ∙ ap (tagged_hash Block) (sym (ap (take size) (drop-append-le (i * size) text more low) ∙ take-append-le size (drop (i * size) text) more fits));
    behind = ap (λ (l : List ℕ). l ++ more) begins.behind ∙ sym (drop-append-le (length hashes * size) text more begins.whole);
  }

  -- the first bytes alone
  pub begins_part : (part : ℕ) → length hashes * size ≤ part → part ≤ length text
      → BeginsWith size (take part text) hashes (take (part - length hashes * size) rest)
  begins_part part low high =
      let n : ℕ = length hashes * size in
      let offset : n + (part - n) ≡ part = omega arith in
      record {
        whole = omega (arith, length-take-le part text high);
        first = λ i below.
            let a : ℕ = i * size in
            let at : a + (part - a) ≡ part = omega (arith, block_room size i (length hashes) below) in
            let fits : size ≤ part - a = omega (arith, block_room size i (length hashes) below) in
            let cut : drop a (take part text) ≡ take (part - a) (drop a text) =
            ap (λ (k : ℕ). drop a (take k text)) (sym at) ∙ drop-take a (part - a) text in
            begins.first i below
            ∙ ap (tagged_hash Block) (sym (ap (take size) cut ∙ take-take size (part - a) (drop a text) fits));
        behind = ap (take (part - n)) begins.behind ∙ sym (drop-take n (part - n) text)
            ∙ ap (λ (k : ℕ). drop n (take k text)) offset;
      }

  -- more blocks are hashed
  pub begins_later : (count : ℕ) (new_hashes : List (List ℕ)) (new_rest : List ℕ) → count * size ≤ length rest
      → HashesMore size count hashes rest new_hashes new_rest → BeginsWith size text new_hashes new_rest
  begins_later count new_hashes new_rest low h =
      let n : ℕ = length hashes in
      let both : length new_hashes ≡ n + count = ap length h.added ∙ length-append hashes h.more ∙ ap (λ (k : ℕ). n + k) h.as_many in
      let times : length new_hashes * size ≡ n * size + count * size = ap (λ (k : ℕ). k * size) both ∙ add-mul n count size in
      let left : length rest ≡ length text - n * size = ap length begins.behind ∙ length-drop (n * size) text in
      record {
        whole = omega (arith, times, left, low, begins.whole);
        first = λ i below.
            ap (λ (l : List (List ℕ)). get_or l i []) h.added
            ∙ elim (cases_lt i n) [
              | inl old ↦ get_or_append_left hashes h.more [] i old ∙ begins.first i old
              | inr later ↦
                  let at : n + (i - n) ≡ i = omega arith in
                  get_or-append_right hashes h.more n i [] refl later
                  ∙ h.are_hashes (i - n) (omega (arith, h.as_many, both)) ∙ hash_behind size text rest n begins.behind (i - n)
                  ∙ ap (λ (j : ℕ). tagged_hash Block (take size (drop (j * size) text))) at
            ];
        behind = h.left ∙ ap (drop (count * size)) begins.behind ∙ drop-drop (count * size) (n * size) text
            ∙ ap (λ (k : ℕ). drop k text) (sym times);
      }

-- all blocks are no less than the data
pub blocks_reach : (g : Geometry) → IsGeometry g → share_data_size g ≤ segment_count g * block_size g
blocks_reach g valid =
    let k : ℕ = g.needed in
    let m : ℕ = segment_count g * block_size g in
    let cut : block_size g * k ≡ g.segment_size = div-mul_cancel k (dvd_of_mod-eq-zero k valid.multiple) in
    let times : m * k ≡ segment_count g * g.segment_size = mul_assoc (segment_count g) (block_size g) k ∙ ap (λ (n : ℕ). segment_count g * n) cut in
    let over = (div_ceil_times g.size g.segment_size valid.some_segment).0 in
    let up = (div_ceil_times g.size k valid.some_needed).1 in
    elim (cases_lt m (share_data_size g)) [
      | inl less ↦
          let next : m + 1 ≤ share_data_size g = omega arith in
          let high : (m + 1) * k ≤ share_data_size g * k = mul-le-mul_right k next in
          absurd (omega (arith, high, add-mul m 1 k, up, over, times))
      | inr enough ↦ enough
    ]

-- so few blocks are hashed
pub few_hashed : (g : Geometry) (n : ℕ) → IsGeometry g → 0 < block_size g → n * block_size g ≤ share_data_size g → n ≤ segment_count g
few_hashed g n valid some low =
    let high : n * block_size g ≤ segment_count g * block_size g = omega (arith, low, blocks_reach g valid) in
    le_of_mul-le-mul_right high some

-- the bytes of a share, by its data and its sections behind
pub share_text : (u : Contents) (h : HashSections) (text behind taken block : List ℕ) → taken ≡ text ++ behind
    → behind ≡ h.unused.now ++ h.ciphertext_tree.now ++ h.block_tree.now ++ h.share_hashes.now
    → share_bytes (geometry_by u) (sections_with h text block) ≡ share_with u taken block
share_text u h text behind taken block is parts =
    let g = geometry_by u in
    let f = header g in
    let a = h.unused.now in
    let b = h.ciphertext_tree.now in
    let c = h.block_tree.now in
    let d = h.share_hashes.now in
    let all : f ++ taken ≡ f ++ text ++ a ++ b ++ c ++ d =
    ap (λ (l : List ℕ). f ++ l) (is ∙ ap (λ (l : List ℕ). text ++ l) parts)
    ∙ simp append_assoc in
    ap (λ (l : List ℕ). l ++ spelled (layout_of g) (length block) ++ block) (sym all)

-- a block has a byte
pub some_block : (g : Geometry) → IsGeometry g → 0 < block_size g
some_block g valid =
    let cut : block_size g * g.needed ≡ g.segment_size = div-mul_cancel g.needed (dvd_of_mod-eq-zero g.needed valid.multiple) in
    elim (cases_lt 0 (block_size g)) [
      | inl some ↦ some
      | inr none ↦
          let zero : block_size g ≡ 0 = omega (arith, none) in
          absurd (omega (arith, cut, ap (λ (b : ℕ). b * g.needed) zero, valid.some_segment))
    ]

-- blocks were hashed, or there was no memory
module _ {T E : Type 0} (size bs count : ℕ) (text rest : List ℕ) (hashes : List (List ℕ)) (new_hashes : List (List ℕ)) (new_rest : List ℕ)
    (same : size ≡ bs) where
  pub begins_then : (r : Result T E) → BeginsWith bs text hashes rest → count * size ≤ length rest
      → OnOk r (HashesMore size count hashes rest new_hashes new_rest) → OnErr r (new_hashes ≡ hashes) → OnErr r (new_rest ≡ rest)
      → BeginsWith bs text new_hashes new_rest
  begins_then (Ok x) begins low h eh er =
      subst (λ (k : ℕ). BeginsWith k text new_hashes new_rest) same
      (begins_later size text rest hashes (subst (λ (k : ℕ). BeginsWith k text hashes rest) (sym same) begins) count new_hashes new_rest low h)
  begins_then (Err e) begins low h eh er =
      subst (λ (l : List (List ℕ)). BeginsWith bs text l new_rest) (sym eh) (subst (λ (l : List ℕ). BeginsWith bs text hashes l) (sym er) begins)

  pub within_then : (r : Result T E) (most : ℕ) → length hashes * bs ≤ most → length hashes * bs + count * size ≤ most
      → OnOk r (HashesMore size count hashes rest new_hashes new_rest) → OnErr r (new_hashes ≡ hashes) → length new_hashes * bs ≤ most
  within_then (Ok x) most low high h eh =
      let n : ℕ = length hashes in
      let both : length new_hashes ≡ n + count = ap length h.added ∙ length-append hashes h.more ∙ ap (λ (k : ℕ). n + k) h.as_many in
      let times : length new_hashes * bs ≡ n * bs + count * bs = ap (λ (k : ℕ). k * bs) both ∙ add-mul n count bs in
      omega (arith, times, high, ap (λ (k : ℕ). count * k) same)
  within_then (Err e) most low high h eh = omega (arith, low, ap (λ (l : List (List ℕ)). length l * bs) eh)

-- bytes were added, or there was no memory
module _ {T E : Type 0} (P : Type 0) (new rest more : List ℕ) where
  pub with_ok : (r : Result T E) → new ≡ (if is_ok r then rest ++ more else rest) → (new ≡ rest ++ more → P) → OnOk r P
  with_ok (Ok x) is f = f is
  with_ok (Err e) is f = tt

  pub with_err : (r : Result T E) → new ≡ (if is_ok r then rest ++ more else rest) → (new ≡ rest → P) → OnErr r P
  with_err (Ok x) is f = tt
  with_err (Err e) is f = f is

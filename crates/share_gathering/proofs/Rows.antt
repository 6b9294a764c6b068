-- The blocks of a share that are made at once, one after another.
use Rattle.std.proofs.Common.{◌≡◌, ◌⊎◌, ℕ, zero, suc, ◌+◌, ◌-◌, ◌*◌, ◌/◌, ◌<◌, ◌≤◌, List, [], ◌∷◌, ◌++◌, length, take, drop, map, min, get_or, Some, inl, inr, ap, sym, subst, ◌∙◌, arith}
use Rattle.std.specs.Prelude.{slice_get}
use Rattle.std.specs.Int.{div_ceil}
use Rattle.std.proofs.Math.Nat.{add-mul, div-mul_cancel, mul-div_cancel, mul_assoc, mul-le-mul_right}
use Rattle.std.proofs.lemmas.Bool.{cases_lt}
use Rattle.std.proofs.lemmas.Grind.{div_ceil_times}
use Rattle.std.proofs.lemmas.Nat.Gcd.{dvd_of_mod-eq-zero}
use Rattle.std.proofs.lemmas.List.{append_assoc, append-nil, length-append, length-drop, length-take, length-take-le, take_all}
use Rattle.std.proofs.lemmas.Option.{slice_get-get_or, slice_get_within}
use Rattle.std.proofs.lemmas.Slice.{take-put_mid}
use borrow.Rule.Slice.PartMut.{put_mid}
use Rattle.tagged_hash.specs.TaggedHash.{tagged_hash}
use Rattle.tagged_hash.specs.declared.tag.Tag.TheVariants.{Block}
use Rattle.zfec_code.specs.ShareValue.{share_block}
use Rattle.share_layout.specs.Geometry.{Geometry, IsGeometry, block_size}
use Rattle.share_layout.specs.Pieces.{block_length, pieces, segment_length}
use Rattle.share_layout.proofs.CutLemmas.{cut_lengths}
use Rattle.share_verify.specs.Pieces.{joined}
use Rattle.file_encoding.specs.Encoding.{block_of, blocks_of, padded_segment}
use Rattle.file_encoding.proofs.OwnBlocks.{AreCut, are_cut, div_ceil_within, length-block}
use Rattle.share_gathering.specs.Gathered.{Gathered}
use Rattle.share_gathering.specs.Groups.{IsGroup, at_once, gathered_group, row_of}
use Rattle.share_gathering.specs.Shares.{HaveBlocksMore, HaveWholesMore, HoldShares}
use Rattle.tagged_hash.specs.Wholes.{AreGiven}
use Rattle.share_gathering.specs.declared.groups.Group.{Group}
use Rattle.share_gathering.specs.declared.shares.ShareSoFar.{ShareSoFar}
use Rattle.tagged_hash.specs.declared.wholes.WholeHashers.{WholeHashers}
use Rattle.share_gathering.proofs.GroupSteps.{has_first, has_offset, pieces-more}
use Rattle.share_gathering.proofs.OneByOne.{block_leaves-all, written-all}
use Rattle.share_gathering.proofs.ShareBlocks.{given-more}

-- the blocks that are made of a padded segment are those of the segment
pub block-is : (k i size : ℕ) (segment padded : List ℕ) → 0 < k → padded ≡ padded_segment k segment → length padded ≡ k * size
    → share_block k i size padded ≡ block_of k i segment
block-is k i size segment padded some is long =
    let whole : length (padded_segment k segment) ≡ size * k = omega (arith, ap length is, long) in
    let one : size ≡ length (padded_segment k segment) / k = sym (ap (λ n. n / k) whole ∙ mul-div_cancel size some) in
    λ p. share_block k i (one p) (is p)

-- one block more behind others
joined-push : (f : List ℕ → List ℕ) (xs : List (List ℕ)) (x : List ℕ) → joined (map f (xs ++ x ∷ [])) ≡ joined (map f xs) ++ f x
joined-push f [] x = append-nil (f x)
joined-push f (y ∷ ys) x = ap (λ (l : List ℕ). f y ++ l) (joined-push f ys x) ∙ sym (append_assoc (f y) (joined (map f ys)) (f x))

module _ (g : Geometry) (valid : IsGeometry g) (share : ℕ) where
  abbrev s : ℕ
  s = g.segment_size

  abbrev b : ℕ
  b = block_size g

  -- a segment has as many bytes as its blocks
  pub whole_blocks : b * g.needed ≡ s
  whole_blocks = div-mul_cancel g.needed (dvd_of_mod-eq-zero g.needed valid.multiple)

  -- the blocks of so many segments of a text
  abbrev pub front_of : ℕ → List ℕ → List ℕ
  front_of i text = joined (blocks_of g.needed share (pieces i s text))

  pub front-more : (i : ℕ) (text : List ℕ) → front_of (i + 1) text ≡ front_of i text ++ block_of g.needed share (take s (drop (i * s) text))
  front-more i text =
      ap (λ (l : List (List ℕ)). joined (blocks_of g.needed share l)) (pieces-more i s text)
      ∙ joined-push (block_of g.needed share) (pieces i s text) (take s (drop (i * s) text))

  full_block : (segment : List ℕ) → length segment ≡ s → length (block_of g.needed share segment) ≡ b
  full_block segment long =
      length-block b g.needed share valid.some_needed segment ∙ ap (λ n. div_ceil n g.needed) long ∙ (let e : div_ceil s g.needed ≡ b = omega (arith, valid.multiple) in e)

  -- whole segments have whole blocks
  pub length-front : (i : ℕ) (text : List ℕ) → i * s ≤ length text → length (front_of i text) ≡ i * b
  length-front zero text low = omega arith
  length-front (suc i) text low =
      let front : List ℕ = take s text in
      let full : length front ≡ s = length-take-le s text (omega (arith, low)) in
      let rest = length-front i (drop s text) (omega (arith, low, length-drop s text)) in
      length-append (block_of g.needed share front) (front_of i (drop s text)) ∙ omega (arith, full_block front full, rest)

module _ (g : Geometry) (group : Group) (text : List ℕ) (share : ℕ) (is : IsGroup g group) (long : length text ≡ group.len) where
  -- a row has so many bytes, and its pieces are the blocks
  pub record HasRow : Type 0 where
    pub size : length (row_of g group text share) ≡ group.row
    pub again : pieces group.count (block_size g) (row_of g group text share) ≡ blocks_of g.needed share (pieces group.count g.segment_size text)

  pub has_row : HasRow
  has_row =
      let n : ℕ = group.count in
      let k : ℕ = g.needed in
      let b : ℕ = block_size g in
      let whole : b * k ≡ g.segment_size = whole_blocks g is.valid share in
      let some : 0 < n = has_first g group is in
      let last = has_offset g group (n - 1) is (omega (arith, some)) in
      let times : n * g.segment_size ≡ (n - 1) * g.segment_size + g.segment_size =
      (let e : n ≡ n - 1 + 1 = omega (arith, some) in ap (λ m. m * g.segment_size) e ∙ add-mul (n - 1) 1 g.segment_size ∙ (let one : 1 * g.segment_size ≡ g.segment_size = omega arith in ap (λ m. (n - 1) * g.segment_size + m) one)) in
      let low : length text ≤ n * (b * k) = subst (λ m. length text ≤ n * m) (sym whole) (omega (arith, long, last.whole)) in
      let high : n * (b * k) < length text + b * k = subst (λ m. n * m < length text + m) (sym whole) (omega (arith, long, last.begins, times)) in
      let cut : AreCut b k share is.valid.some_needed n text = are_cut b k share is.valid.some_needed n text low high in
      let same : blocks_of k share (pieces n g.segment_size text) ≡ map (block_of k share) (pieces n (b * k) text) = ap (λ m. map (block_of k share) (pieces n m text)) (sym whole) in
      record {
        size = ap (λ (l : List (List ℕ)). length (joined l)) same ∙ cut.size ∙ ap (λ m. div_ceil m k) long ∙ sym is.row;
        again = ap (λ (l : List (List ℕ)). pieces n b (joined l)) same ∙ cut.again ∙ sym same;
      }

  -- where a block stands in its row
  pub record HasBlockOffset (i : ℕ) : Type 0 where
    pub before : length (front_of g is.valid share i text) ≡ i * block_size g
    pub block : length (block_of g.needed share (take g.segment_size (drop (i * g.segment_size) text))) ≡ block_length g (group.first + i)
    pub ends : i * block_size g + block_length g (group.first + i) ≤ group.row
    pub next : (block_length g (group.first + i) ≡ block_size g) ⊎ (i * block_size g + block_length g (group.first + i) ≡ group.row)

  pub has_block_offset : (i : ℕ) → i < group.count → HasBlockOffset i
  has_block_offset i low =
      let s : ℕ = g.segment_size in
      let k : ℕ = g.needed in
      let b : ℕ = block_size g in
      let at = has_offset g group i is low in
      let piece : List ℕ = take s (drop (i * s) text) in
      let left : length (drop (i * s) text) ≡ group.len - i * s = length-drop (i * s) text ∙ ap (λ n. n - i * s) long in
      let piece_long : length piece ≡ segment_length g (group.first + i) = length-take s (drop (i * s) text) ∙ ap (λ n. min s n) left ∙ at.left in
      let before : length (front_of g is.valid share i text) ≡ i * b = length-front g is.valid share i text (omega (arith, at.begins, long)) in
      let block : length (block_of k share piece) ≡ block_length g (group.first + i) =
      length-block b k share is.valid.some_needed piece ∙ ap (λ n. div_ceil n k) piece_long ∙ sym (cut_lengths g (group.first + i) is.valid at.number).shared in
      let more : length (front_of g is.valid share (i + 1) text) ≡ i * b + block_length g (group.first + i) =
      ap length (front-more g is.valid share i text) ∙ length-append (front_of g is.valid share i text) (block_of k share piece) ∙ (λ p. before p + block p) in
      elim (cases_lt (group.len - i * s) s) [
        | inl short ↦ (let times : (i + 1 + 1) * s ≤ group.count * s → (i + 1) * s < group.len =
            λ fits. (let last = has_offset g group (group.count - 1) is (omega (arith, low)) in
            let e : group.count ≡ group.count - 1 + 1 = omega (arith, low) in
            let all : group.count * s ≡ (group.count - 1) * s + 1 * s = ap (λ m. m * s) e ∙ add-mul (group.count - 1) 1 s in
            omega (arith, fits, last.begins, all, add-mul (i + 1) 1 s)) in
            let one : (i + 1) * s ≡ i * s + 1 * s = add-mul i 1 s in
            let last : i + 1 ≡ group.count =
            elim (cases_lt (i + 1) group.count) [
              | inl again ↦ absurd (omega (arith, times (mul-le-mul_right {m = i + 1 + 1} {n = group.count} s (omega (arith, again))), one, short))
              | inr end ↦ omega (arith, end, low)
            ] in
            let all : i * b + block_length g (group.first + i) ≡ group.row = sym more ∙ ap (λ n. length (front_of g is.valid share n text)) last ∙ has_row.size in
            record { before = before; block = block; ends = omega (arith, all); next = inr all })
        | inr full ↦ (let one : (i + 1) * s ≡ i * s + 1 * s = add-mul i 1 s in
            let within : (i + 1) * s ≤ length text = omega (arith, one, full, at.begins, long) in
            let ends : length (front_of g is.valid share (i + 1) text) ≡ (i + 1) * b = length-front g is.valid share (i + 1) text within in
            let split : (i + 1) * b ≡ i * b + 1 * b = add-mul i 1 b in
            let same : block_length g (group.first + i) ≡ b = omega (arith, more, ends, split) in
            let cover : group.len ≤ group.row * k = subst (λ n. group.len ≤ n * k) (sym is.row) (div_ceil_times group.len k is.valid.some_needed).0 in
            let whole : (i + 1) * b * k ≡ (i + 1) * s = mul_assoc (i + 1) b k ∙ ap (λ n. (i + 1) * n) (whole_blocks g is.valid share) in
            let fits : (i + 1) * b ≤ group.row =
            elim (cases_lt group.row ((i + 1) * b)) [
              | inl over ↦ absurd (omega (arith, mul-le-mul_right {m = group.row + 1} {n = (i + 1) * b} k (omega (arith, over)), add-mul group.row 1 k, cover, whole, within, long, is.valid.some_needed))
              | inr low ↦ low
            ] in
            record { before = before; block = block; ends = omega (arith, fits, split, same); next = inl same })
      ]

-- a row is no longer than so many whole blocks, and than what is made at once
pub row-short : (g : Geometry) (group : Group) → IsGroup g group → group.row ≤ group.count * block_size g
row-short g group is =
    let at = has_offset g group 0 is (has_first g group is) in
    let times : group.count * block_size g * g.needed ≡ group.count * g.segment_size = mul_assoc group.count (block_size g) g.needed ∙ ap (λ n. group.count * n) (whole_blocks g is.valid 0) in
    subst (λ n. n ≤ group.count * block_size g) (sym is.row)
    (div_ceil_within (group.count * block_size g) g.needed 0 is.valid.some_needed group.len (omega (arith, at.whole, times)))

pub row-room : (g : Geometry) (group : Group) → IsGroup g group → group.row ≤ at_once g * block_size g
row-room g group is =
    let few : group.count * block_size g ≤ at_once g * block_size g = mul-le-mul_right {m = group.count} {n = at_once g} (block_size g) (omega (arith, is.count)) in
    omega (arith, row-short g group is, few)

-- one block more in a row
pub row-more : (offset size next rows : ℕ) (row front block : List ℕ) → take offset row ≡ front → length front ≡ offset → length block ≡ size → length row ≡ rows → offset + size ≤ rows
    → (next ≡ offset + size) ⊎ (offset + size ≡ rows) → offset + size ≤ next → take next (put_mid offset size row block) ≡ front ++ block
row-more offset size next rows row front block is here long all fits either over =
    let made : take (offset + size) (put_mid offset size row block) ≡ take offset row ++ block = take-put_mid offset size row block (offset + size) (omega (arith, long)) (omega (arith, all, fits)) in
    let total : length (put_mid offset size row block) ≡ rows =
    length-append (take offset row) (block ++ drop size (drop offset row))
    ∙ omega (arith, length-append block (drop size (drop offset row)), length-take-le offset row (omega (arith, all, fits)), length-drop size (drop offset row), length-drop offset row, long, all, fits) in
    elim either [
      | inl same ↦ ap (λ n. take n (put_mid offset size row block)) same ∙ made ∙ ap (λ (l : List ℕ). l ++ block) is
      | inr end ↦ take_all next (put_mid offset size row block) (omega (arith, total, end, over))
          ∙ sym (take_all (offset + size) (put_mid offset size row block) (omega (arith, total, end))) ∙ made ∙ ap (λ (l : List ℕ). l ++ block) is
    ]

-- so the shares have what is gathered of the group
pub rows-shares : (g : Geometry) (group : Group) (text : List ℕ) (s : Gathered) (old new : List ShareSoFar) → IsGroup g group → length text ≡ group.len
    → HaveBlocksMore group.count (block_size g) (row_of g group text) old new → HoldShares s old → HoldShares (gathered_group g group text s) new
rows-shares g group text s old new is long more holds i share here =
    let segments : List (List ℕ) = pieces group.count g.segment_size text in
    let within : i < length old = omega (arith, slice_get_within new i share here, more.count) in
    let before : ShareSoFar = get_or old i share in
    let was : slice_get old i ≡ Some before = slice_get-get_or old i share within in
    more.each i before share was here
    ∙ (λ p. holds i before was p ++ map (tagged_hash Block) ((has_row g group text i is long).again p))
    ∙ sym (block_leaves-all g i segments s)

pub rows-wholes : (g : Geometry) (group : Group) (text : List ℕ) (s : Gathered) (total : ℕ) (old new : List WholeHashers) → total ≡ g.total
    → HaveWholesMore total (row_of g group text) old new → AreGiven g.total s.written old → AreGiven g.total (gathered_group g group text s).written new
rows-wholes g group text s total old new same more given =
    let segments : List (List ℕ) = pieces group.count g.segment_size text in
    let each : (i : ℕ) → s.written i ++ row_of g group text i ≡ (gathered_group g group text s).written i = λ i. sym (written-all g i segments s) in
    subst (λ (w : ℕ → List ℕ). AreGiven g.total w new) (λ p i. each i p) (given-more g.total total s.written (row_of g group text) old new same more given)

-- The rows of levels, and the nodes of a row that are read.
use Rattle.std.proofs.Common.{◌≡◌, ℕ, ◌+◌, ◌-◌, ◌*◌, ◌/◌, ◌%◌, ◌^◌, ◌<◌, ◌≤◌, min, ◌⊎◌, inl, inr, ap, refl, sym, ◌∙◌, arith}
use Rattle.std.specs.Int.{div_ceil}
use Rattle.std.proofs.Math.Nat.{div-div-eq-div-mul, div-mul-le_self, lt_of_mul-lt-mul_left, mul-le-mul_right}
use Rattle.std.proofs.lemmas.Bool.{cases_lt}
use Rattle.std.proofs.lemmas.Nat.{div-add-mod', div-mul-add, div_below, le-div, mod_below, pow_pos, pow-add}
use Rattle.std.proofs.lemmas.Grind.{div_ceil_times}
use Rattle.ueb.specs.Shape.{rounded_up}
use Rattle.share_layout.proofs.GeometryLemmas.{ceil_most}
use Rattle.download_parts.specs.Level.{end_node, first_node, group_size, leaves_below, level_count, row_of}

-- what is below a number of whole pieces is in one of them
pub below_ceil : (n k : ℕ) (q : ℕ) → 0 < k → q < n → q / k < div_ceil n k
below_ceil n k q some low = div_below q k (div_ceil n k) some (omega (arith, (div_ceil_times n k some).0, low))

-- the beginning of each piece is below the whole
pub piece_begins : (n k i : ℕ) → 0 < k → i < div_ceil n k → k * i < n
piece_begins n k i some low =
    omega (arith, mul-le-mul_right {m = i + 1} {n = div_ceil n k} k (omega arith), (div_ceil_times n k some).1)

-- some nodes are read
pub first_below_end : (m row a b count : ℕ) → a < b → b ≤ count → first_node m row a < end_node m row b count
unfolding first_node end_node
first_below_end m row a b count some within =
    let w = leaves_below m row in
    let k = group_size row in
    let w_some : 0 < w = pow_pos (m - row) in
    let k_some : 0 < k = pow_pos (min row 7) in
    let below = below_ceil b w a w_some some in
    let inside = below_ceil count w a w_some (omega arith) in
    omega (arith, below, inside, div-mul-le_self (a / w) k, (div_ceil_times (div_ceil b w) k k_some).0)

-- and these are nodes of the row
pub end_inside : (m row b count : ℕ) → row ≤ m → count ≤ 2 ^ m → end_node m row b count ≤ 2 ^ row
unfolding end_node
end_inside m row b count high room =
    let split : 2 ^ m ≡ 2 ^ row * 2 ^ (m - row) = let e : m ≡ row + (m - row) = omega arith in ap (λ k. 2 ^ k) e ∙ pow-add 2 row (m - row) in
    let most = ceil_most count (leaves_below m row) (2 ^ row) (pow_pos (m - row)) (omega (arith, split)) in
    omega (arith, most)

-- a level is below the root, and above no leaf
pub row_high : (m level : ℕ) → level < level_count m → (0 < row_of m level) × (row_of m level ≤ m)
row_high m level there = (omega arith, omega arith)

-- levels go down
pub rows_rise : (m level later : ℕ) → level < later → later < level_count m → row_of m level < row_of m later
rows_rise m level later above there = omega arith

-- what is whole pieces before one number is so before a later one
pub div_le : (a n k : ℕ) → 0 < k → a ≤ n → a / k ≤ n / k
div_le a n k some le = le-div (a / k) n k some (omega (arith, div-mul-le_self a k))

-- an offset whose whole pieces are fewer is below these
pub below_pieces : (n k m : ℕ) → 0 < k → n / k < m → n < m * k
below_pieces n k m some low =
    omega (arith, mul-le-mul_right {m = n / k + 1} {n = m} k (omega arith), div-add-mod' n k, mod_below n k some)

-- as many pieces as it takes hold the whole
pub pieces_below : (n k i : ℕ) → 0 < k → i * k < n → i < div_ceil n k
pieces_below n k i some low =
    elim (cases_lt i (div_ceil n k)) [
      | inl below ↦ below
      | inr above ↦ absurd (omega (arith, mul-le-mul_right {m = div_ceil n k} {n = i} k above, (div_ceil_times n k some).0, low))
    ]

-- a group above a segment is among what is read
pub holds_group : (m row a b count number node : ℕ) → a ≤ number → number < b
    → node / group_size row ≡ number / leaves_below m row / group_size row → node * leaves_below m row < count
    → (first_node m row a ≤ node) × (node < end_node m row b count)
unfolding first_node end_node
holds_group m row a b count number node from before same above =
    let w = leaves_below m row in
    let k = group_size row in
    let w_some : 0 < w = pow_pos (m - row) in
    let k_some : 0 < k = pow_pos (min row 7) in
    let low : a / w / k ≤ node / k = omega (arith, div_le (a / w) (number / w) k k_some (div_le a number w w_some from), same) in
    let high : node / k < div_ceil (div_ceil b w) k =
    omega (arith, below_ceil (div_ceil b w) k (number / w) k_some (below_ceil b w number w_some before), same) in
    let inside = pieces_below count w node w_some above in (
      omega (arith, mul-le-mul_right {m = a / w / k} {n = node / k} k low, div-mul-le_self node k),
      omega (arith, inside, below_pieces node k (div_ceil (div_ceil b w) k) k_some high),
    )

-- the most nodes of a read are so many groups
pub group_of : (row : ℕ) → 1024 ≡ group_size row * 2 ^ (10 - min row 7)
group_of row = let e : 10 ≡ min row 7 + (10 - min row 7) = omega arith in ap (λ k. 2 ^ k) e ∙ pow-add 2 (min row 7) (10 - min row 7)

-- what is read begins with a group, and ends with one or with the last node that has a leaf below it
pub first_multiple : (m row a : ℕ) → (n : ℕ) × (first_node m row a ≡ n * group_size row)
unfolding first_node
first_multiple m row a = (a / leaves_below m row / group_size row, refl)

pub end_multiple : (m row b count : ℕ)
    → ((n : ℕ) × (end_node m row b count ≡ n * group_size row)) ⊎ (end_node m row b count ≡ div_ceil count (leaves_below m row))
unfolding end_node
end_multiple m row b count =
    elim (cases_lt (rounded_up (div_ceil b (leaves_below m row)) (group_size row)) (div_ceil count (leaves_below m row))) [
      | inl before ↦ inl (div_ceil (div_ceil b (leaves_below m row)) (group_size row), omega (arith, before))
      | inr behind ↦ inr (omega (arith, behind))
    ]

-- so the group above a segment begins among what is read
pub group_begins : (m row a b count number : ℕ) → a ≤ number → number < b → b ≤ count
    → (first_node m row a ≤ first_node m row number) × (first_node m row number < end_node m row b count)
unfolding first_node
group_begins m row a b count number from before within =
    let w = leaves_below m row in
    let k = group_size row in
    let above = number / w in
    let start = above / k * k in
    let own : start / k ≡ above / k = let e : start + 0 ≡ start = omega arith in ap (λ n. n / k) (sym e) ∙ div-mul-add (above / k) k 0 (pow_pos (min row 7)) in
    holds_group m row a b count number start from before own
    (omega (arith, mul-le-mul_right {m = start} {n = above} w (div-mul-le_self above k), div-mul-le_self number w))

-- groups that begin in a piece end in it
group_ends : (k c x i : ℕ) → 1024 ≡ k * c → x * k < (i + 1) * 1024 → x * k + k ≤ (i + 1) * 1024
group_ends k c x i whole low =
    let size : (i + 1) * 1024 ≡ (i + 1) * (k * c) = ap (λ n. (i + 1) * n) whole in
    let fewer : x < (i + 1) * c = lt_of_mul-lt-mul_left k {m = x} {n = (i + 1) * c} (omega (arith, size, low)) in
    omega (arith, size, mul-le-mul_right {m = x + 1} {n = (i + 1) * c} k (omega (arith, fewer)))

-- the piece in which a group begins has all of it
pub group_within : (m row number node : ℕ) → node / group_size row ≡ number / leaves_below m row / group_size row
    → let cut = first_node m row number / 1024 * 1024 in (cut ≤ node) × (node < cut + 1024)
unfolding first_node
group_within m row number node same =
    let k = group_size row in
    let high = number / leaves_below m row / k in
    let i = high * k / 1024 in
    let within = group_ends k (2 ^ (10 - min row 7)) high i (group_of row) (omega arith) in
    let offset : node ≡ high * k + node % k = omega (arith, div-add-mod' node k, ap (λ n. n * k) same) in (
      omega (arith, offset),
      omega (arith, offset, within, mod_below node k (pow_pos (min row 7))),
    )

-- the node 7 rows above one that is read is read, if the level above is 7 rows above
pub reads_above : (m row above a b count offset : ℕ) → row ≡ above + 7 → row ≤ m → first_node m row a ≤ offset → offset < end_node m row b count
    → (first_node m above a ≤ offset / 128) × (offset / 128 < end_node m above b count)
unfolding first_node end_node
reads_above m row above a b count offset rows high from before =
    let w = leaves_below m row in
    let w' = leaves_below m above in
    let k = group_size above in
    let w_some : 0 < w = pow_pos (m - row) in
    let w'_some : 0 < w' = pow_pos (m - above) in
    let group : group_size row ≡ 128 = let seven : min row 7 ≡ 7 = omega (arith, rows) in ap (λ n. 2 ^ n) seven in
    let whole : w' ≡ w * 128 = let e : m - above ≡ m - row + 7 = omega (arith, rows, high) in ap (λ n. 2 ^ n) e ∙ pow-add 2 (m - row) 7 in
    let first : a / w / 128 * 128 ≤ offset = let e : a / w / group_size row * group_size row ≡ a / w / 128 * 128 = ap (λ n. a / w / n * n) group in omega (arith, e, from) in
    let end : offset < rounded_up (div_ceil b w) 128 = let e : rounded_up (div_ceil b w) (group_size row) ≡ rounded_up (div_ceil b w) 128 = ap (rounded_up (div_ceil b w)) group in omega (arith, e, before) in
    let inside : offset < div_ceil count w = omega (arith, before) in
    let twice : a / w' ≡ a / w / 128 = ap (λ n. a / n) whole ∙ sym (div-div-eq-div-mul a w 128) in
    let low : a / w' / k * k ≤ offset / 128 = omega (arith, div-mul-le_self (a / w') k, twice, first) in
    let in_count : offset / 128 < div_ceil count w' =
    let times : offset / 128 * w' ≡ offset / 128 * 128 * w = ap (λ n. offset / 128 * n) whole ∙ omega arith in
    pieces_below count w' (offset / 128) w'_some (omega (arith, times, mul-le-mul_right {m = offset / 128 * 128} {n = offset} w (omega arith), piece_begins count w offset w_some inside)) in
    let in_end : offset / 128 < div_ceil b w' =
    let few : offset / 128 * 128 < div_ceil b w = omega (arith, end) in
    let times : offset / 128 * w' ≡ offset / 128 * 128 * w = ap (λ n. offset / 128 * n) whole ∙ omega arith in
    pieces_below b w' (offset / 128) w'_some (omega (arith, times, piece_begins b w (offset / 128 * 128) w_some few)) in
    let k_some : 0 < k = pow_pos (min above 7) in
    (low, omega (arith, in_count, in_end, (div_ceil_times (div_ceil b w') k k_some).0))

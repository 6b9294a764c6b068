-- Tables of coefficients: what a code and a decoder keep.
use Rattle.std.specs.Prelude.{◌≡◌, ℕ, ◌+◌, ◌-◌, ◌*◌, ◌<◌, ◌≤◌, List, [], length, map, slice_index}
use Rattle.std.specs.Prelude.{slice_index_or, All, Contains, EachIndex}
use Rattle.zfec_code.specs.Field.{product, point_of}
use Rattle.zfec_code.specs.Shares.{AreParameters, evaluate}
use Rattle.zfec_code.specs.Rows.{AreDistinct, primary_points, product_without}

-- the share that node m has in the value at x of a polynomial through all the nodes: the quotient
-- of the two products
abbrev pub IsCoefficient : List ℕ → ℕ → ℕ → ℕ → Type 0
IsCoefficient nodes x m r =
    product r (product_without nodes m (slice_index nodes m) (length nodes))
    ≡ product_without nodes m x (length nodes)

-- the rows of coefficients of the shares from number k up to n
pub record IsTable (k n : ℕ) (rows : List ℕ) : Type 0 where
  pub parameters : AreParameters k n
  pub size : length rows ≡ (n - k) * k
  pub entries : (i m : ℕ) → i < n - k → m < k
      → IsCoefficient (primary_points k) (point_of (k + i)) m (slice_index rows (i * k + m))

-- the new list is the old one and the coefficients at x of the first n nodes
pub record AppendsRow (nodes : List ℕ) (x n : ℕ) (old new : List ℕ) : Type 0 where
  pub size : length new ≡ length old + n
  pub kept : EachIndex old (λ i. slice_index new i ≡ slice_index old i)
  pub added : (m : ℕ) → m < n → IsCoefficient nodes x m (slice_index new (length old + m))

-- the first rows of coefficients of a decoder for shares with these numbers, one for each primary
-- block: where its own share is not given, the coefficients of the numbers' points at its point
pub record AreDecodingRows (numbers : List ℕ) (count : ℕ) (rows : List ℕ) : Type 0 where
  pub size : length rows ≡ count * length numbers
  pub entries : (primary m : ℕ) → primary < count → m < length numbers → ¬ Contains numbers primary
      → IsCoefficient (map point_of numbers) (point_of primary) m
      (slice_index rows (primary * length numbers + m))

-- what a decoder keeps: the numbers of its shares, and a row for each primary block
pub record IsDecodingTable (numbers rows : List ℕ) : Type 0 where
  pub few : length numbers ≤ 256
  pub small : All (λ i. i < 256) numbers
  pub distinct : AreDistinct numbers
  pub table : AreDecodingRows numbers (length numbers) rows

-- the polynomial with these coefficients, as many as there are numbers, has at each number's point
-- the byte at position t of its block
pub record IsThrough (coefficients numbers : List ℕ) (blocks : List (List ℕ)) (t : ℕ) : Type 0 where
  pub count : length coefficients ≡ length numbers
  pub bytes : All (λ c. c < 256) coefficients
  pub through : (m : ℕ) → m < length numbers
      → evaluate coefficients (point_of (slice_index numbers m))
      ≡ slice_index (slice_index_or blocks m []) t

-- Tables of the products by c of sixteen bytes, which stand there twice.
use Rattle.std.specs.Prelude.{◌≡◌, ℕ, ◌*◌, ◌%◌, ◌<◌, List, length, slice_index}
use Rattle.zfec_code.specs.Field.{product}

-- entry i, and entry 16 + i, is the product of c and i times `step`
pub record IsTable (table : List ℕ) (c step : ℕ) : Type 0 where
  pub size : length table ≡ 32
  pub each : (i : ℕ) → i < 32 → slice_index table i ≡ product c (i % 16 * step)

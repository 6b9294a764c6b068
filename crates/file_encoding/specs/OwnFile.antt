-- Shares of one encoding, enough of them, give their file back.
use Rattle.std.specs.Prelude.{◌≡◌, ℕ, ◌<◌, List, [], length, All, slice_index, slice_index_or}
use Rattle.cap_text.specs.Cap.{ReadCapValue, verify_cap_of}
use Rattle.ueb.specs.Shape.{IsShape}
use Rattle.zfec_code.specs.Rows.{AreDistinct}
use Rattle.share_layout.specs.Geometry.{geometry_of}
use Rattle.file_encoding.specs.Encoding.{Encoding, Parameters, encoding_of}
use Rattle.file_encoding.specs.Reading.{AreInconsistent, IsAmong, IsReadFrom, LacksShares}

-- each of these strings is the encoding's share of the number that it comes with
pub record AreOwnShares (e : Encoding) (numbers : List ℕ) (strings : List (List ℕ)) : Type 0 where
  pub counted : length strings ≡ length numbers
  pub below : All (λ n. n < e.cap.total) numbers
  pub own : (position : ℕ) → position < length numbers → slice_index_or strings position []
      ≡ slice_index_or e.shares (slice_index numbers position) []

-- there are so many different numbers among these
pub record HoldDifferent (count : ℕ) (numbers : List ℕ) : Type 0 where
  pub some : List ℕ
  pub counted : length some ≡ count
  pub distinct : AreDistinct some
  pub among : All (λ n. IsAmong n numbers) some

-- they are enough to read the file
pub record AreEnoughOwn (e : Encoding) (numbers : List ℕ) (strings : List (List ℕ)) : Type 0 where
  pub own : AreOwnShares e numbers strings
  pub enough : HoldDifferent e.cap.needed numbers

-- a reader gets this file of the strings: it lacks no shares, those that it takes do not contradict
-- one another, and what it reads of them is the file
pub record GiveBack (cap : ReadCapValue) (numbers : List ℕ) (strings : List (List ℕ))
    (file : List ℕ) : Type 0 where
  pub enough : ¬ LacksShares (verify_cap_of cap) numbers strings
  pub consistent : ¬ AreInconsistent (verify_cap_of cap) numbers strings
  pub only : (read : List ℕ) → IsReadFrom cap numbers strings read → read ≡ file

-- a law: enough shares of a file's encoding give the file back, whatever the secret, and whichever
-- shares they are
abbrev pub OwnSharesGiveTheFile : Type 0
OwnSharesGiveTheFile = (file secret : List ℕ) (p : Parameters) (numbers : List ℕ)
    (strings : List (List ℕ))
    → IsShape p.needed p.total (length file)
    (geometry_of (length file) p.needed p.total p.max_segment).segment_size
    → ((i : ℕ) → slice_index file i < 256) → AreEnoughOwn
    (encoding_of file secret p) numbers strings
    → GiveBack (encoding_of file secret p).cap numbers strings file

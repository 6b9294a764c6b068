-- The first line of a catalogue.
use Rattle.std.specs.Prelude.{ℕ, ◌+◌, ◌^◌, ◌<◌, ◌≤◌, List, [], ◌++◌, codes, decimal, drop}
use Rattle.tagged_hash.specs.ConvergentKey.{convergent_key_of}
use Rattle.tagged_hash.specs.TaggedHash.{storage_index_of}
use Rattle.cap_text.specs.Base32.{base32, IsBytes}
use Rattle.catalogues.specs.declared.head.Head.{Head}
use Rattle.catalogues.specs.declared.head.Numbers.{Numbers}

-- the nine digits of a number below a thousand million: it is added to that, whose 1 is left out
unfoldable pub nine_digits : ℕ → List ℕ
nine_digits n = drop 1 (decimal (1000000000 + n))

-- the numbers of an encoding: so many shares of so many are needed, and the greatest segment
pub record AreNumbers (x : Numbers) : Type 0 where
  pub some : 1 ≤ x.needed
  pub enough : x.needed ≤ x.total
  pub shares : x.total ≤ 256
  pub least : 1 ≤ x.segment_size
  pub most : x.segment_size ≤ 1048576

-- the nanoseconds are less than a second, and the numbers are those of an encoding
pub record IsInRange (h : Head) : Type 0 where
  pub moment : h.begun.nanoseconds < 1000000000
  pub numbers : AreNumbers h.numbers

-- what the first line of a catalogue tells
pub record IsHead (h : Head) : Type 0 where
  pub seconds : h.begun.seconds < 2 ^ 64
  pub ranges : IsInRange h
  pub fingerprint : IsBytes 16 h.fingerprint

-- the first line, and what follows it
abbrev pub first_then : Head → List ℕ → List ℕ
first_then h rest =
    codes "# grid catalogue 1 begun " ++ (decimal h.begun.seconds
    ++ (codes "." ++ (nine_digits h.begun.nanoseconds
    ++ (codes " k " ++ (decimal h.numbers.needed
    ++ (codes " n " ++ (decimal h.numbers.total
    ++ (codes " segment " ++ (decimal h.numbers.segment_size
    ++ (codes " under " ++ (base32 h.fingerprint ++ (codes "\n" ++ rest))))))))))))

-- the first line
abbrev pub first_text : Head → List ℕ
first_text h = first_then h []

-- what tells catalogues apart whose caps differ: the storage index of the empty file, as it would
-- be under these numbers and this secret
abbrev pub fingerprint_of : Numbers → List ℕ → List ℕ
fingerprint_of x secret =
    storage_index_of (convergent_key_of x.needed x.total x.segment_size secret [])

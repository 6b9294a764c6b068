-- Which bytes of its shares are hashed before they are finished.
use Rattle.std.specs.Prelude.{ℕ, List, [], map, take, slice_index_or}
use Rattle.file_encoding.specs.declared.draft.Begun.{Begun}

-- the bytes of the begun share of this number
abbrev pub begun_bytes : List Begun → ℕ → List ℕ
begun_bytes begun number = slice_index_or (map (λ (b : Begun). b.draft.bytes) begun) number []

-- so many bytes of the share of this number, the first
abbrev pub beginning_of : List (List ℕ) → ℕ → ℕ → List ℕ
beginning_of shares len number = take len (slice_index_or shares number [])

-- How pieces are made of segments, one segment after another.
use Rattle.std.specs.Prelude.{◌≡◌, ℕ, zero, suc, ◌+◌, ◌-◌, ◌*◌, ◌/◌, ◌%◌, ◌<◌, ◌≤◌, List, [], ◌∷◌}
use Rattle.std.specs.Prelude.{◌++◌, length, min, slice_index_or}
use Rattle.std.specs.Prelude.{Option, Some, None, if◌then◌else◌, nat_lt, take, drop}
use Rattle.aes_ctr.specs.CounterMode.{xored_from}
use Rattle.download_segments.specs.declared.piece.Piece.{Piece}
use Rattle.download_segments.specs.State.{HandoutState, ProvesSegment}

-- the number of the segment of which a piece is made next, where one is wanted
abbrev pub next_segment : HandoutState → Option ℕ
next_segment h =
    if nat_lt h.reached h.to then Some (h.reached / h.geometry.segment_size) else None

-- the offset up to which pieces are made with that segment: its end, or the end of what is wanted
abbrev pub next_end : HandoutState → ℕ
next_end h = min h.to ((h.reached / h.geometry.segment_size + 1) * h.geometry.segment_size)

-- the piece that is made of it: its bytes from the offset that is reached up to there, decrypted
abbrev pub next_piece : HandoutState → List ℕ → Piece
next_piece h segment = record {
  offset = h.reached;
  bytes = xored_from h.key h.reached
      (take (next_end h - h.reached) (drop (h.reached % h.geometry.segment_size) segment));
}

-- the state after that
abbrev pub handed_out : HandoutState → List ℕ → HandoutState
handed_out h segment = record h {
  reached = next_end h;
  ready = h.ready ++ next_piece h segment ∷ [];
}

-- the state once the first so many of these segments are handed out, one after another
unfoldable pub first_handed_out : HandoutState → List (List ℕ) → ℕ → HandoutState
first_handed_out h segments zero = h
first_handed_out h segments (suc n) =
    handed_out (first_handed_out h segments n) (slice_index_or segments n [])

-- eight segments from this one on are wanted, each to its end
abbrev pub IsRowWanted : HandoutState → ℕ → Type 0
IsRowWanted h number = (number + 8) * h.geometry.segment_size ≤ h.to

-- these are the eight segments from this one on, by the hashes that are known
abbrev pub ProvesRow : HandoutState → ℕ → List (List ℕ) → Type 0
ProvesRow h number segments =
    (i : ℕ) → i < 8 → ProvesSegment h (number + i) (slice_index_or segments i [])

-- the first piece that is ready is taken
abbrev pub TakesPiece : HandoutState → Option Piece → HandoutState → Type 0
TakesPiece old None new = (old.ready ≡ []) × (new ≡ old)
TakesPiece old (Some p) new = (old.ready ≡ p ∷ new.ready)
    × (new ≡ record old { ready = new.ready; handed = p.offset + length p.bytes })

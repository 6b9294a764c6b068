-- What is read of a file whose extension block is accepted.
use Rattle.std.specs.Prelude.{◌≡◌, ◌⊎◌, ℕ, ◌+◌, ◌-◌, ◌/◌, List, [], ◌∷◌, map}
use Rattle.std.specs.Prelude.{Option, Some, None, slice_get, filter, not, ◌==◌, Contains}
use Rattle.ueb.specs.Shape.{Contents}
use Rattle.share_layout.specs.Geometry.{Geometry}
use Rattle.download_parts.specs.declared.part.Part.{Part}
use Rattle.download_supply.specs.Supply.{SupplyState}
use Rattle.download_supply.specs.declared.wanted.Wanted.{Wanted}
use Rattle.download_segments.specs.State.{HandoutState, starting_handout}
use Rattle.download_segments.specs.GroupState.{GroupState}
use Rattle.download_file.specs.declared.reader.Waiting.{Waiting}

-- A share at a server that is read. What waits are the parts that were asked of it and not taken
-- yet, in order, each with the position of the request that asked it.
pub record ReaderState : Type 0 where
  pub server : ℕ
  pub share : ℕ
  pub supply : SupplyState
  pub waiting : List Waiting

-- The segments `first` to before `end` are wanted. `taken`: how many pieces of each level of the
-- ciphertext tree were taken. `readers`: all readers, in the order in which they were begun.
-- `live`: the positions of those that are read. `aside`: of those that are put aside: what was
-- asked of them is still taken, and no segment is made of their blocks. `groups`: what the segments
-- were made of, in order.
pub record FileState : Type 0 where
  pub handout : HandoutState
  pub first : ℕ
  pub end : ℕ
  pub taken : List ℕ
  pub readers : List ReaderState
  pub live : List ℕ
  pub aside : List ℕ
  pub groups : List GroupState

-- the value of a file with these fields
abbrev pub file_state : HandoutState → ℕ → ℕ → List ℕ → List ReaderState → List ℕ → List ℕ
    → List GroupState → FileState
file_state handout first end taken readers live aside groups = record {
  handout = handout;
  first = first;
  end = end;
  taken = taken;
  readers = readers;
  live = live;
  aside = aside;
  groups = groups;
}

-- the bytes from an offset up to another are wanted, and nothing is read yet
abbrev pub new_file : List ℕ → Contents → Geometry → ℕ → ℕ → FileState
new_file key u g from to = record {
  handout = starting_handout key u g from to;
  first = from / g.segment_size;
  end = (to - 1) / g.segment_size + 1;
  taken = 0 ∷ 0 ∷ 0 ∷ [];
  readers = [];
  live = [];
  aside = [];
  groups = [];
}

-- all that is wanted was made
abbrev pub IsComplete : FileState → Type 0
IsComplete f = f.handout.reached ≡ f.handout.to

-- the reader at a position
abbrev pub IsReader : FileState → ℕ → ReaderState → Type 0
IsReader f reader r = slice_get f.readers reader ≡ Some r

-- it is read
abbrev pub IsLive : FileState → ℕ → Type 0
IsLive f position = Contains f.live position

-- it is put aside
abbrev pub IsAside : FileState → ℕ → Type 0
IsAside f position = Contains f.aside position

-- it is read or put aside: what is answered of it is taken
abbrev pub IsHeard : FileState → ℕ → Type 0
IsHeard f position = IsLive f position ⊎ IsAside f position

-- The giver of the ciphertext tree is the reader that is read the longest.
abbrev pub giver : FileState → Option ℕ
giver f = slice_get f.live 0

-- a copy: a share at a server
pub record CopyState : Type 0 where
  pub server : ℕ
  pub share : ℕ

abbrev pub copy : ℕ → ℕ → CopyState
copy server share = record { server = server; share = share }

-- the copy that a reader reads
abbrev pub copy_of : ReaderState → CopyState
copy_of r = copy r.server r.share

-- the copies, in the readers' order
abbrev pub copies : FileState → List CopyState
copies f = map (λ r. copy_of r) f.readers

-- the numbers of the shares of the readers at these positions
abbrev pub share_in : Option ReaderState → ℕ
share_in None = 0
share_in (Some r) = r.share

abbrev pub numbers_of : List ReaderState → List ℕ → List ℕ
numbers_of readers positions = map (λ position. share_in (slice_get readers position)) positions

-- what waits of a reader
abbrev pub waiting_in : Option ReaderState → List Waiting
waiting_in None = []
waiting_in (Some r) = r.waiting

abbrev pub waiting_at : FileState → ℕ → List Waiting
waiting_at f reader = waiting_in (slice_get f.readers reader)

abbrev pub first_position : List Waiting → Option ℕ
first_position [] = None
first_position (w ∷ ws) = Some w.position

-- the position of the answer that is taken next of a reader
abbrev pub first_waiting : FileState → ℕ → Option ℕ
first_waiting f reader = first_position (waiting_at f reader)

-- the parts that wait
abbrev pub waiting_parts : List Waiting → List Part
waiting_parts waiting = map (λ w. w.wanted.part) waiting

-- parts that are asked by one request after another, the first at this position
abbrev pub waiting_from : ℕ → List Wanted → List Waiting
waiting_from position [] = []
waiting_from position (w ∷ ws) = record { position = position; wanted = w }
    ∷ waiting_from (position + 1) ws

-- these readers without one
abbrev pub without : ℕ → List ℕ → List ℕ
without reader readers = filter (λ (r : ℕ). not (r == reader)) readers

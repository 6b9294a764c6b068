-- A stream of frames, and what stands at its front.
use Rattle.std.specs.Prelude.{◌≡◌, ℕ, ◌+◌, ◌<◌, ◌≤◌, ◌⊎◌, List, ◌++◌, length, drop, Option, Some}
use Rattle.std.specs.Prelude.{None}
use Rattle.std.specs.List.{flat_map}
use Rattle.std.specs.Int.{w32, to_be_bytes}
use Rattle.byteorder.specs.Endian.{big_number}
use Rattle.wire.specs.declared.message.Message.{Message}
use Rattle.wire.specs.declared.error.WireError.{WireError}
use Rattle.wire.specs.declared.error.WireError.TheVariants.{OutOfMemory, BadLength, BadKind}
use Rattle.wire.specs.declared.error.WireError.TheVariants.{BadFields}
use Rattle.wire.specs.Limits.{most_body}
use Rattle.wire.specs.Frames.{frame, HasNoKind, HasBadFields}

-- the length that the first four bytes give
abbrev pub announced : List ℕ → ℕ
announced rest = big_number 4 rest

-- a frame's body has 1 to 65,536 bytes
abbrev pub IsLength : ℕ → Type 0
IsLength n = (1 ≤ n) × (n ≤ most_body)

-- less than a whole frame, and no fault yet
abbrev pub IsPartial : List ℕ → Type 0
IsPartial rest =
    (length rest < 4) ⊎ (IsLength (announced rest) × (length rest < 4 + announced rest))

-- a length out of its range comes first
abbrev pub BeginsBadLength : List ℕ → Type 0
BeginsBadLength rest = (4 ≤ length rest) × ((announced rest ≡ 0) ⊎ (most_body < announced rest))

-- this is the body of a whole frame that comes first
abbrev pub IsFirst : List ℕ → List ℕ → Type 0
IsFirst body rest =
    IsLength (length body)
    × (rest ≡ to_be_bytes w32 (length body) ++ body ++ drop (4 + length body) rest)

-- a whole body comes first, of which this holds
abbrev pub BeginsBody : (List ℕ → Type 0) → List ℕ → Type 0
BeginsBody P rest = (body : List ℕ) × IsFirst body rest × P body

-- a whole body of no kind comes first, or one whose fields are not those of its kind
abbrev pub BeginsBadKind : List ℕ → Type 0
BeginsBadKind rest = BeginsBody HasNoKind rest

abbrev pub BeginsBadFields : List ℕ → Type 0
BeginsBadFields rest = BeginsBody HasBadFields rest

-- no message comes first: the stream goes on, or is at fault
abbrev pub HasNoMessage : List ℕ → Type 0
HasNoMessage rest =
    IsPartial rest ⊎ BeginsBadLength rest ⊎ BeginsBadKind rest ⊎ BeginsBadFields rest

-- the frames of these messages, and what follows them
abbrev pub stream : List Message → List ℕ → List ℕ
stream messages rest = flat_map frame messages ++ rest

-- A stream as its reader has it: what follows the messages that were given, and the fault that
-- was told of it, if any.
pub record FeedState : Type 0 where
  pub rest : List ℕ
  pub fault : Option WireError

-- after a fault the pieces that come are not kept
abbrev pub rest_after : Option WireError → List ℕ → List ℕ → List ℕ
rest_after None rest piece = rest ++ piece
rest_after (Some fault) rest piece = rest

-- the stream with one piece more
abbrev pub fed : List ℕ → FeedState → FeedState
fed piece f = record { rest = rest_after f.fault f.rest piece; fault = f.fault }

-- a refusal is kept as the stream's fault, but not that memory ran out
abbrev pub fault_of : WireError → Option WireError
fault_of OutOfMemory = None
fault_of BadLength = Some BadLength
fault_of BadKind = Some BadKind
fault_of BadFields = Some BadFields

-- the fault that was told stands at the front
abbrev pub HasFault : Option WireError → List ℕ → Type 0
HasFault None rest = Unit {0}
HasFault (Some OutOfMemory) rest = ⊥
HasFault (Some BadLength) rest = BeginsBadLength rest
HasFault (Some BadKind) rest = BeginsBadKind rest
HasFault (Some BadFields) rest = BeginsBadFields rest

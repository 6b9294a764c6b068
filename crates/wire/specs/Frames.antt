-- The frames: which bytes stand for a message. Numbers are big-endian.
use Rattle.std.specs.Prelude.{◌≡◌, ◌≢◌, ℕ, ◌^◌, ◌<◌, ◌≤◌, Bool, true, false, List, [], ◌∷◌, ◌++◌}
use Rattle.std.specs.Prelude.{length}
use Rattle.std.specs.Int.{w16, w32, w64, to_be_bytes}
use Rattle.std.specs.List.{flat_map}
use Rattle.wire.specs.declared.message.Body.{Body}
use Rattle.wire.specs.declared.message.Body.TheVariants.{Ask, Have, Allocate, Granted, Already}
use Rattle.wire.specs.declared.message.Body.TheVariants.{Busy, Full, Write, Wrote, WrongOffset}
use Rattle.wire.specs.declared.message.Body.TheVariants.{Close, Closed, NotComplete, Abort, Read}
use Rattle.wire.specs.declared.message.Body.TheVariants.{Data, NoShare}
use Rattle.wire.specs.declared.message.Message.{Message}
use Rattle.wire.specs.declared.message.ShareId.{ShareId}
use Rattle.wire.specs.declared.message.HeldShare.{HeldShare}
use Rattle.wire.specs.declared.kind.Kind.{Kind}
use Rattle.wire.specs.Limits.{longest_share, most_data, most_shares}
use Rattle.wire.specs.Held.{AreHeld}
use Rattle.wire.specs.Kinds.{number_of, kind_of}

-- a share number has two bytes
abbrev pub share_id : ShareId → List ℕ
share_id id = id.index ++ to_be_bytes w16 id.share

abbrev pub held_share : HeldShare → List ℕ
held_share h = to_be_bytes w16 h.share ++ h.digest

abbrev pub flag : Bool → ℕ
flag false = 0
flag true = 1

-- the bytes behind the session and the number
abbrev pub fields : Body → List ℕ
fields (Ask index) = index
fields (Have readonly held) =
    flag readonly ∷ [] ++ to_be_bytes w16 (length held) ++ flat_map held_share held
fields (Allocate id len) = share_id id ++ to_be_bytes w64 len
fields Granted = []
fields (Already digest) = digest
fields Busy = []
fields Full = []
fields (Write id offset bytes) = share_id id ++ to_be_bytes w64 offset ++ bytes
fields (Wrote next) = to_be_bytes w64 next
fields (WrongOffset written) = to_be_bytes w64 written
fields (Close id) = share_id id
fields (Closed digest) = digest
fields (NotComplete written) = to_be_bytes w64 written
fields (Abort id) = share_id id
fields (Read id offset len) = share_id id ++ to_be_bytes w64 offset ++ to_be_bytes w32 len
fields (Data bytes) = bytes
fields NoShare = []

-- A body is the number of its kind, the session, the number and the fields.
abbrev pub spelling : Message → List ℕ
spelling m =
    number_of (kind_of m.body) ∷ [] ++ to_be_bytes w64 m.session ++ to_be_bytes w64 m.number
    ++ fields m.body

-- A frame is the length of a body, and the body.
abbrev pub frame : Message → List ℕ
frame m = to_be_bytes w32 (length (spelling m)) ++ spelling m

-- the ranges of the fields

abbrev pub IsShareId : ShareId → Type 0
IsShareId id = (length id.index ≡ 16) × (id.share < most_shares)

abbrev pub IsBody : Body → Type 0
IsBody (Ask index) = length index ≡ 16
IsBody (Have readonly held) = AreHeld held
IsBody (Allocate id len) = IsShareId id × (1 ≤ len) × (len ≤ longest_share)
IsBody Granted = Unit {0}
IsBody (Already digest) = length digest ≡ 32
IsBody Busy = Unit {0}
IsBody Full = Unit {0}
IsBody (Write id offset bytes) =
    IsShareId id × (offset < 2 ^ 64) × (1 ≤ length bytes) × (length bytes ≤ most_data)
IsBody (Wrote next) = next < 2 ^ 64
IsBody (WrongOffset written) = written < 2 ^ 64
IsBody (Close id) = IsShareId id
IsBody (Closed digest) = length digest ≡ 32
IsBody (NotComplete written) = written < 2 ^ 64
IsBody (Abort id) = IsShareId id
IsBody (Read id offset len) = IsShareId id × (offset < 2 ^ 64) × (1 ≤ len) × (len ≤ most_data)
IsBody (Data bytes) = length bytes ≤ most_data
IsBody NoShare = Unit {0}

-- what has a frame
pub record IsMessage (m : Message) : Type 0 where
  pub session : m.session < 2 ^ 64
  pub number : m.number < 2 ^ 64
  pub body : IsBody m.body

-- these bytes are the body of the message's frame
abbrev pub IsBodyOf : Message → List ℕ → Type 0
IsBodyOf m bytes = IsMessage m × (bytes ≡ spelling m)

-- what no message spells

-- no kind has the number that the bytes begin with
abbrev pub HasNoKind : List ℕ → Type 0
HasNoKind [] = Unit {0}
HasNoKind (n ∷ bytes) = (kind : Kind) → number_of kind ≢ n

-- bytes are missing or left over behind a kind, or a field is out of its range
abbrev pub HasBadFields : List ℕ → Type 0
HasBadFields bytes = (¬ HasNoKind bytes) × ((m : Message) → IsMessage m → bytes ≢ spelling m)

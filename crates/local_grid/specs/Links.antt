-- What links over sockets carry.
use Rattle.std.specs.Prelude.{◌≡◌, ◌≢◌, ◌⊎◌, ℕ, List, Option, Some, None}
use Rattle.wire.specs.Frames.{IsMessage, frame}
use Rattle.wire.specs.declared.message.Message.{Message}
use Rattle.local_grid.specs.declared.link.Way.{Way}
use Rattle.local_grid.specs.Carrying.{Breaks, Carries}
use Rattle.local_grid.specs.Ends.{EndsCalls}
use Rattle.local_grid.specs.declared.socket_link.GridLink.{GridLink}
use Rattle.local_grid.specs.declared.socket_link.GridLink.TheVariants.{Memory, Sockets}

-- bytes are sent, and what comes is the frame of no message
pub record ComesElse {E : Type 0} (calls : EndsCalls E) (way : Way) (old : E) (sent : List ℕ)
    : Type 0 where
  pub bytes : List ℕ
  pub last : E
  pub carries : Carries calls way old sent bytes last
  pub none : (m : Message) → IsMessage m → bytes ≢ frame m

-- A message goes a way over both ends of a connection, while there are any: its frame is sent, and
-- the frame of the message that comes out is what came. None comes out only where a call on an end
-- failed, or something else came than a frame: then the ends are closed.
abbrev pub IsCarried : {E : Type 0} → EndsCalls E → Option E → Way → Message → Option Message
    → Option E → Type 0
IsCarried calls None way m came after = (came ≡ None) × (after ≡ None)
IsCarried calls (Some ends) way m None after =
    (after ≡ None) × (Breaks calls way ends ⊎ ComesElse calls way ends (frame m))
IsCarried {E = E} calls (Some ends) way m (Some out) after =
    (last : E) × (after ≡ Some last) × Carries calls way ends (frame m) (frame out) last

-- In memory each message comes, and the link stays as it is.
abbrev pub IsCarriedOver : {E : Type 0} → EndsCalls E → GridLink E → Way → Message
    → Option Message → GridLink E → Type 0
IsCarriedOver calls (Memory link) way m came after =
    (came ≡ Some m) × (after ≡ Memory link)
IsCarriedOver {E = E} calls (Sockets ends) way m came after =
    (last : Option E) × (after ≡ Sockets last) × IsCarried calls ends way m came last

-- Where memory is refused both ends of a connection are closed. A link in memory stays as it is.
abbrev pub IsGivenUp : {E : Type 0} → GridLink E → GridLink E → Type 0
IsGivenUp (Memory link) after = after ≡ Memory link
IsGivenUp (Sockets ends) after = after ≡ Sockets None

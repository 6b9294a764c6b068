-- A folder that is served: how that begins, and how it goes on.
use Rattle.std.specs.Prelude.{◌≡◌, ◌-◌, ◌^◌, ℕ, zero, suc, [], Option, None, IfSome, false}
use Rattle.share_store.specs.Calls.{Calls}
use Rattle.share_folders.specs.Folder.{FolderState, folder_calls}
use Rattle.connections.specs.Addresses.{IsAddressText, IsLocal}
use Rattle.connections.specs.Greetings.{greeting_of}
use Rattle.connections.specs.Wires.{WireCalls, known_calls}
use Rattle.connections.specs.declared.address.Address.{Address}
use Rattle.connections.specs.declared.ends.Nonblocking.{Nonblocking}
use Rattle.connections.specs.declared.socket.Socket.{Socket}
use Rattle.grid_marks.specs.Marks.{IsServers}
use Rattle.grid_marks.specs.declared.mark.Mark.{Mark}
use Rattle.grid_serving.specs.Loops.{Fails, LoopState, Turns, begun_loop}
use Rattle.grid_serve.specs.Counted.{CountedState, counted_calls}
use Rattle.grid_serve.specs.Plans.{HasMark, IsOpenedFor}
use Rattle.grid_serve.specs.declared.folder.Serve.{Serve}

-- what is known of sockets: of the bytes that they have and take, nothing
abbrev pub socket_calls : WireCalls (Nonblocking Socket)
socket_calls = known_calls (λ socket. None) (λ socket. None)

-- the calls of the store of a folder, which counts
abbrev pub store_calls : Calls (CountedState FolderState)
store_calls = counted_calls folder_calls

-- a folder that is served is seen as the loop of its server
abbrev pub ServedState : Type 0
ServedState = LoopState (Nonblocking Socket) (CountedState FolderState)

-- It begins as is told. Its server stands over the folder that is named, and its clients are told
-- first the mark of that folder, which is the one that is said, where one is. Nobody is there yet.
-- What is told of where it listens spells an address, of this machine unless anyone may come.
pub record IsBegunFor (serve : Serve) (served : ServedState) : Type 0 where
  pub mark : Option Mark
  pub servers : IfSome mark IsServers
  pub said : HasMark serve mark
  pub opened : IsOpenedFor serve served.server
  pub begun : served ≡ begun_loop served.listener served.server (greeting_of mark)
  pub address : Address
  pub spelled : IsAddressText serve.listen.now address
  pub local : serve.anyone ≡ false → IsLocal address

-- One turn, and all that happened is told.
pub record GoesOn (old new : ServedState) : Type 0 where
  pub turned : ServedState
  pub turns : Turns socket_calls store_calls old turned
  pub told : new ≡ record turned { news = [] }

-- So many times it goes on.
abbrev pub GoesOnTimes : ℕ → ServedState → ServedState → Type 0
GoesOnTimes zero old new = new ≡ old
GoesOnTimes (suc count) old new =
    (mid : ServedState) × GoesOnTimes count old mid × GoesOn mid new

-- It goes on for as many turns as can be counted.
pub record GoesOnToTheEnd (old new : ServedState) : Type 0 where
  pub count : ℕ
  pub most : count ≡ 2 ^ 64 - 1
  pub goes_on : GoesOnTimes count old new

-- A folder began to be served as is told, and that went on to the end.
pub record WasServed (serve : Serve) : Type 0 where
  pub first : ServedState
  pub begun : IsBegunFor serve first
  pub last : ServedState
  pub goes_on : GoesOnToTheEnd first last

-- ---- words of private clauses

-- It gives out: the turn after some fails.
pub record GivesOut (old new : ServedState) : Type 0 where
  pub count : ℕ
  pub mid : ServedState
  pub goes_on : GoesOnTimes count old mid
  pub fails : Fails socket_calls store_calls mid new

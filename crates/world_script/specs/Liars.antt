-- What the liars of scripts say at their turn.
use Rattle.std.specs.Prelude.{◌≡◌, ℕ, ◌+◌, ◌<◌, List, [], length, Option, Some, None, replicate}
use Rattle.std.specs.Prelude.{true, slice_get, Contains}
use Rattle.wire.specs.declared.message.Body.TheVariants.{Data}
use Rattle.wire.specs.declared.message.Message.{Message}
use Rattle.wire.specs.Frames.{IsBodyOf, spelling}
use Rattle.server_core.specs.Sound.{is_request}
use Rattle.world_operations.specs.declared.message.Sent.{Sent}
use Rattle.world_script.specs.declared.command.Kind.{Kind}
use Rattle.world_script.specs.declared.command.Kind.TheVariants.{Silent, Junk, Replay}

-- what was sent is this request
pub record IsRequestIn (x : Sent) (request : Message) : Type 0 where
  pub spelled : IsBodyOf request x.body
  pub asks : is_request request.body ≡ true

-- the last request that was heard
pub record IsLastRequest (heard : List Sent) (x : Sent) (request : Message) : Type 0 where
  pub position : ℕ
  pub at : slice_get heard position ≡ Some x
  pub request_is : IsRequestIn x request
  pub last : (p : ℕ) (y : Sent) (m : Message) → position < p → slice_get heard p ≡ Some y
      → IsRequestIn y m → ⊥

-- 32 bytes ff, for an answer to a request
abbrev pub junk_answer : Message → Message
junk_answer request = record {
  session = request.session;
  number = request.number;
  body = Data (replicate 32 255);
}

-- what a liar says, and to which node; or nothing
abbrev pub IsSaidBy : Kind → List Sent → Option (ℕ × List ℕ) → Type 0
IsSaidBy Silent heard said = said ≡ None
IsSaidBy Junk heard (Some (to, bytes)) = (x : Sent) × (request : Message)
    × IsLastRequest heard x request × (to ≡ x.from) × (bytes ≡ spelling (junk_answer request))
IsSaidBy Junk heard None =
    (x : Sent) (m : Message) → Contains heard x → IsRequestIn x m → ⊥
IsSaidBy Replay heard (Some (to, bytes)) = (x : Sent) × (position : ℕ)
    × (position + 1 ≡ length heard) × (slice_get heard position ≡ Some x) × (to ≡ x.from)
    × (bytes ≡ x.body)
IsSaidBy Replay heard None = heard ≡ []

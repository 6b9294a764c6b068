use Rattle.std.proofs.Common.{◌≡◌, ℕ, ◌+◌, ◌≤◌, length, Some}
use Rattle.std.specs.Prelude.{slice_get}
use Rattle.wire.specs.declared.message.Message.{Message}
use Rattle.world_operations.specs.declared.message.Sent.{Sent}
use Rattle.world_script.specs.Liars.{IsRequestIn}
use Rattle.world_script.proofs.liars.junk.Given as goal

-- none of the last ones is a request
abbrev pub invariant-loop-later : goal.invariant-loop-later
invariant-loop-later l = (p : ℕ) (y : Sent) (m : Message) → length l.heard ≤ p + l.later → slice_get l.heard p ≡ Some y → IsRequestIn y m → ⊥

-- What a check asks of all its servers.
use Rattle.std.specs.Prelude.{ℕ, List, Option}
use Rattle.cap_text.specs.Cap.{VerifyCapValue}
use Rattle.wire.specs.declared.message.Message.{Message}
use Rattle.checker.specs.Moves.{Advances, Begins, StopsAt, TicksOn}
use Rattle.checker.specs.Sending.{Takes}
use Rattle.checker.specs.State.{CheckState}
use Rattle.answer_laws.specs.Asking.Asked.{AsksAll}

-- each of these servers was asked which shares it holds
abbrev pub CheckAsksAll : List ℕ → CheckState → Type 0
CheckAsksAll servers c = AsksAll servers c.requests.entries

-- what a call does to a check leaves it so
abbrev pub GoesOnAsked : (CheckState → CheckState → Type 0) → Type 0
GoesOnAsked Goes = (servers : List ℕ) (old new : CheckState) → Goes old new
    → CheckAsksAll servers old → CheckAsksAll servers new

-- a law: a check asks all its servers as it begins, and each call leaves it so
pub record ChecksAskAll : Type 0 where
  pub begins : (cap : VerifyCapValue) (servers : List ℕ) (session now : ℕ) (c : CheckState)
      → Begins cap servers session now c → CheckAsksAll servers c
  pub advances : (from : ℕ) (m : Message) (now : ℕ) → GoesOnAsked (Advances from m now)
  pub ticks : (now : ℕ) → GoesOnAsked (TicksOn now)
  pub stops : (now : ℕ) → GoesOnAsked (StopsAt now)
  pub sends : (frame : Option (ℕ × Message)) → GoesOnAsked (λ old new. Takes old frame new)

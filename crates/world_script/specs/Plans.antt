-- What is left of what a command makes.
use Rattle.std.specs.Prelude.{◌≡◌, ◌⊎◌, ◌↔◌, ℕ, ◌<◌, ◌%◌, List, [], ◌∷◌, ◌++◌, Bool, true}
use Rattle.std.specs.Prelude.{Option, Some, None, slice_get, Contains, length, reverse}
use Rattle.rand_pcg.specs.Lcg.{Lcg}
use Rattle.rand_pcg.specs.Pcg.{pcg32}
use Rattle.cap_text.specs.Cap.{ReadCapValue}
use Rattle.file_upload.specs.Prepared.{prepared_of}
use Rattle.world_operations.specs.declared.job.Job.{Job}
use Rattle.world_operations.specs.declared.job.Job.TheVariants.{Upload}
use Rattle.world_operations.specs.Jobs.{IsUpload}
use Rattle.world_operations.specs.declared.operation.Operation.{Operation}
use Rattle.world.specs.declared.event.Event.{Event}
use Rattle.world.specs.declared.event.Event.TheVariants.{Deliver}
use Rattle.world_script.specs.declared.command.Command.{Command}
use Rattle.world_script.specs.declared.command.Command.TheVariants as commands
use Rattle.world_script.specs.declared.plan.Plan.{Plan}
use Rattle.world_script.specs.declared.plan.Plan.TheVariants.{Fixed, Oldest, Drawn}
use Rattle.world_script.specs.Events.{AreEventsOf, MakesNext, after_words, most_drained}

-- a message is marked as delivered
abbrev pub IsMarked : List Bool → ℕ → Type 0
IsMarked flags position = slice_get flags position ≡ Some true

-- the messages that are marked are those that these events delivered
abbrev pub AreMarked : List Bool → List Event → Type 0
AreMarked flags events = (p : ℕ) → IsMarked flags p ↔ Contains events (Deliver p)

-- one more message is marked
abbrev pub IsNoted : List Bool → ℕ → List Bool → Type 0
IsNoted old position new = (p : ℕ) → IsMarked new p ↔ ((p ≡ position) ⊎ IsMarked old p)

-- the oldest of so many messages that is not marked; or all are
abbrev pub IsFirstLeft : List Bool → ℕ → Option ℕ → Type 0
IsFirstLeft flags sent (Some position) =
    (position < sent) × (IsMarked flags position → ⊥) × ((p : ℕ) → p < position → IsMarked flags p)
IsFirstLeft flags sent None = (p : ℕ) → p < sent → IsMarked flags p

-- the plan of a command that has made these events
abbrev pub IsPlanOf : Plan → Command → ℕ → List Operation → List Event → Type 0
IsPlanOf (Fixed left) command honest operations made = (events : List Event)
    × AreEventsOf command honest operations events × (events ≡ made ++ reverse left.items)
IsPlanOf Oldest command honest operations made = command ≡ commands.Drain
IsPlanOf (Drawn words count) command honest operations made = (seed : ℕ)
    × (command ≡ commands.Random seed count) × (words ≡ after_words seed (length made))

-- a command that makes neither an event at first nor an end
abbrev pub MakesNone : Command → ℕ → List Operation → Type 0
MakesNone command honest operations = (before : List Event) → (sent : ℕ) → (next : Option Event)
    → ¬ MakesNext command honest operations before [] sent next

-- how many events a plan makes at most
abbrev pub most_of : Plan → ℕ
most_of (Fixed left) = length left.items
most_of Oldest = most_drained
most_of (Drawn words count) = count

-- a message of so many, drawn by the next word
abbrev pub IsDrawn : Lcg → ℕ → Option ℕ → Lcg → Type 0
IsDrawn words sent (Some position) new =
    (0 < sent) × (position ≡ (pcg32 words).0 % sent) × (new ≡ (pcg32 words).1)
IsDrawn words sent None new = (sent ≡ 0) × (new ≡ words)

-- the message of an event, or none
abbrev pub IsDelivery : Option Event → Option ℕ → Type 0
IsDelivery (Some event) (Some position) = event ≡ Deliver position
IsDelivery None position = position ≡ None
IsDelivery event None = event ≡ None

-- the next event of a plan
abbrev pub GivesNext : Plan → List Bool → ℕ → Option Event → Plan → Type 0
GivesNext (Fixed left) flags sent (Some event) (Fixed rest) =
    left.items ≡ rest.items ++ event ∷ []
GivesNext (Fixed left) flags sent None new = left.items ≡ []
GivesNext Oldest flags sent next new = (position : Option ℕ) × IsFirstLeft flags sent position
    × IsDelivery next position × (new ≡ Oldest)
GivesNext (Drawn words count) flags sent next (Drawn rest same) = (position : Option ℕ)
    × IsDrawn words sent position rest × IsDelivery next position × (same ≡ count)
GivesNext old flags sent next new = ⊥

-- the read cap of the file that a job uploads, or none where it is no upload that may be started
abbrev pub IsUploadCap : Job → Option ReadCapValue → Type 0
IsUploadCap (Upload file secret p) (Some cap) =
    IsUpload file secret p × (cap ≡ (prepared_of file secret p).cap)
IsUploadCap (Upload file secret p) None = IsUpload file secret p → ⊥
IsUploadCap job found = found ≡ None

-- The events that the commands of a script make, one after the other.
use Rattle.std.specs.Prelude.{◌≡◌, ◌⊎◌, ℕ, zero, suc, ◌<◌, ◌%◌, ◌^◌, List, [], ◌∷◌, ◌++◌, length}
use Rattle.std.specs.Prelude.{map, Option, Some, None, slice_get, Contains}
use Rattle.std.specs.List.{range_with_len}
use Rattle.rand_core.specs.Pcg32Seed.{pcg32_seed}
use Rattle.rand_pcg.specs.Lcg.{Lcg}
use Rattle.rand_pcg.specs.Pcg.{pcg32, pcg32_of_seed}
use Rattle.cap_text.specs.Cap.{ReadCapValue, verify_cap_of}
use Rattle.file_encoding.specs.Params.{UploadParameters}
use Rattle.file_upload.specs.Prepared.{prepared_of}
use Rattle.world_operations.specs.declared.job.Job.TheVariants as jobs
use Rattle.world_operations.specs.declared.operation.Operation.{Operation}
use Rattle.world_operations.specs.Jobs.{IsUpload}
use Rattle.world.specs.declared.event.Event.{Event}
use Rattle.world.specs.declared.event.Event.TheVariants.{Start, Repair, Deliver, Forge, Turn}
use Rattle.world.specs.declared.event.Event.TheVariants.{Pass, Tick, Restart, FailStore, Refuse}
use Rattle.world_script.specs.declared.command.Command.{Command}
use Rattle.world_script.specs.declared.command.Command.TheVariants as commands

-- the read cap of the file of the upload that has this number
pub record IsCapOf (operations : List Operation) (number : ℕ) (cap : ReadCapValue) : Type 0 where
  pub operation : Operation
  pub file : List ℕ
  pub secret : List ℕ
  pub p : UploadParameters
  pub at : slice_get operations number ≡ Some operation
  pub job : operation.job ≡ jobs.Upload file secret p
  pub upload : IsUpload file secret p
  pub cap_is : cap ≡ (prepared_of file secret p).cap

-- the number of a node has 16 bits
abbrev pub IsNodeNumber : ℕ → Type 0
IsNodeNumber node = node < 2 ^ 16

-- the repair of what a check found, by a node and for a number of servers of 16 bits
abbrev pub IsRepairOf : ℕ → ℕ → ℕ → Event → Type 0
IsRepairOf node operation happy event =
    IsNodeNumber node × (happy < 2 ^ 16) × (event ≡ Repair node operation happy)

-- An upload has an empty secret; a download that names no range has the whole file.
abbrev pub IsEventOf : Command → List Operation → Event → Type 0
IsEventOf (commands.Upload node file p) operations event = IsNodeNumber node
    × (event ≡ Start node (jobs.Upload file [] p))
IsEventOf (commands.Download node upload) operations event = (cap : ReadCapValue)
    × IsNodeNumber node × IsCapOf operations upload cap
    × (event ≡ Start node (jobs.Download cap 0 cap.size))
IsEventOf (commands.DownloadRange node upload from to) operations event = (cap : ReadCapValue)
    × IsNodeNumber node × IsCapOf operations upload cap
    × (event ≡ Start node (jobs.Download cap from to))
IsEventOf (commands.Check node upload) operations event = (cap : ReadCapValue)
    × IsNodeNumber node × IsCapOf operations upload cap
    × (event ≡ Start node (jobs.Check (verify_cap_of cap)))
IsEventOf (commands.Repair node operation happy) operations event =
    IsRepairOf node operation happy event
IsEventOf (commands.Deliver position) operations event = event ≡ Deliver position
IsEventOf (commands.Restart node) operations event = IsNodeNumber node × (event ≡ Restart node)
IsEventOf (commands.Fail node) operations event = IsNodeNumber node × (event ≡ FailStore node)
IsEventOf (commands.Refuse number) operations event = event ≡ Refuse number
IsEventOf (commands.Turn node) operations event = IsNodeNumber node × (event ≡ Turn node)
IsEventOf (commands.Forge from to body) operations event =
    IsNodeNumber from × IsNodeNumber to × (event ≡ Forge from to body)
IsEventOf command operations event = ⊥

-- All events of a command that chooses no messages, in a world of so many honest nodes. Where time
-- passes, each of them ticks.
abbrev pub AreEventsOf : Command → ℕ → List Operation → List Event → Type 0
AreEventsOf (commands.Pass seconds) honest operations events =
    events ≡ Pass seconds ∷ map Tick (range_with_len 0 honest)
AreEventsOf command honest operations events =
    (event : Event) × IsEventOf command operations event × (events ≡ event ∷ [])

-- the oldest of so many messages that these events did not deliver
pub record IsOldest (events : List Event) (sent position : ℕ) : Type 0 where
  pub there : position < sent
  pub left : Contains events (Deliver position) → ⊥
  pub older : (p : ℕ) → p < position → Contains events (Deliver p)

-- the generator of a number, after so many words
unfoldable pub after_words : ℕ → ℕ → Lcg
after_words seed zero = pcg32_of_seed (pcg32_seed 16 seed)
after_words seed (suc n) = (pcg32 (after_words seed n)).1

-- the word after so many
abbrev pub word : ℕ → ℕ → ℕ
word seed n = (pcg32 (after_words seed n)).0

-- how many messages one `drain` delivers at most
abbrev pub most_drained : ℕ
most_drained = 1000000

-- What a command makes next, in a world of so many honest nodes that had these operations when it
-- began: after these events of earlier commands and these of its own, where so many messages were
-- sent.
abbrev pub MakesNext : Command → ℕ → List Operation → List Event → List Event → ℕ → Option Event
    → Type 0
MakesNext commands.Drain honest operations before made sent (Some event) =
    (length made < most_drained)
    × ((position : ℕ) × IsOldest (before ++ made) sent position × (event ≡ Deliver position))
MakesNext commands.Drain honest operations before made sent None =
    (length made ≡ most_drained)
    ⊎ ((p : ℕ) → p < sent → Contains (before ++ made) (Deliver p))
MakesNext (commands.Random seed count) honest operations before made sent (Some event) =
    (length made < count) × (0 < sent) × (event ≡ Deliver (word seed (length made) % sent))
MakesNext (commands.Random seed count) honest operations before made sent None =
    (length made ≡ count) ⊎ (sent ≡ 0)
MakesNext command honest operations before made sent next =
    (events : List Event) × AreEventsOf command honest operations events
    × (slice_get events (length made) ≡ next)

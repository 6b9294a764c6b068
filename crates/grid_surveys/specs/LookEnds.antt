-- How a check or a repair of one entry ended, for private clauses.
use Rattle.std.specs.Prelude.{◌≡◌, ℕ, List, [], Option, None, Some, Result, Ok, Err, max}
use Rattle.cap_text.specs.declared.cap.Cap.{Cap}
use Rattle.std.specs.Io.KnownBytes.{Appends}
use Rattle.grid_faults.specs.declared.fault.Fault.{Fault}
use Rattle.grid_surveys.specs.Looks.{Fate, IsGone, IsLine, Task, checking, counted, fate_counted}
use Rattle.grid_surveys.specs.Looks.{fate_status, is_json, refused, repairing, seen}
use Rattle.grid_surveys.specs.declared.looking.Came.{Came}
use Rattle.grid_surveys.specs.declared.seen.Counts.{Counts}
use Rattle.grid_surveys.specs.declared.seen.Look.{Look}
use Rattle.grid_surveys.specs.declared.seen.Look.TheVariants as looks
use Rattle.grid_surveys.specs.declared.seen.Seen.{Seen}
use Rattle.grid_servers.specs.Grids.{GridCalls}

-- what is done with each file
abbrev pub task_of : Look → Task
task_of (looks.Check words) = checking words.now
task_of (looks.Repair words) = repairing words.now

-- the folder of its grid
abbrev pub grid_of : Look → List ℕ
grid_of (looks.Check words) = words.now.grid.now
grid_of (looks.Repair words) = words.now.grid.now

-- counts and a status by what became of one entry more, where it was chosen
abbrev pub counted_after : Counts → Option Came → Counts
counted_after c None = c
counted_after c (Some came) = counted c came.class

abbrev pub status_with : ℕ → Option Came → ℕ
status_with status None = status
status_with status (Some came) = max status came.status

-- a file that was seen so, or refused
abbrev pub fate_of : Result Seen Fault → Fate
fate_of (Ok s) = seen s
fate_of (Err fault) = refused fault

-- what was written of it under a name: its line, or nothing
abbrev pub IsText : Task → List ℕ → Result Seen Fault → List ℕ → Type 0
IsText task name (Ok s) text = IsLine (is_json task) s name text
IsText task name (Err fault) text = text ≡ []

-- it was told under a name, and counts so
pub record IsToldAs (task : Task) (came_to : Result Seen Fault) (name : List ℕ)
    (before after : Option (List ℕ)) (came : Came) : Type 0 where
  pub text : List ℕ
  pub is : IsText task name came_to text
  pub written : Appends before after text
  pub counted_is : (c : Counts) → counted c came.class ≡ fate_counted c (fate_of came_to)
  pub status_is : came.status ≡ fate_status task (fate_of came_to)

-- this became of a cap and a name, and was written
pub record CameTo {S : Type 0} (calls : GridCalls S) (task : Task) (cap : Cap) (name : List ℕ)
    (before after : Option (List ℕ)) (came : Option Came) : Type 0 where
  pub fate : Fate
  pub text : List ℕ
  pub is : IsGone calls task (record {
    entry = record { cap = cap; name = name };
    fate = fate;
    text = text;
  })
  pub written : Appends before after text
  pub counted_is : (c : Counts) → counted_after c came ≡ fate_counted c fate
  pub status_is : (status : ℕ) → status_with status came ≡ max status (fate_status task fate)

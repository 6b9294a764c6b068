-- What a scrub of a grid tells.
use Rattle.std.specs.Prelude.{◌≡◌, ◌<◌, ℕ, List, [], ◌++◌, Bool, Option, Some, None, codes, fold}
use Rattle.std.specs.Prelude.{if◌then◌else◌, is_some, length, map, nat_eq}
use Rattle.std.specs.Io.KnownBytes.{Appends}
use Rattle.std.specs.List.{All, IsDistinct, flat_map, list_all}
use Rattle.share_scrub.specs.declared.folder.Finding.{Finding}
use Rattle.share_scrub.specs.declared.folder.State.{State}
use Rattle.share_scrub.specs.declared.folder.State.TheVariants.{Whole}
use Rattle.share_scrub.specs.Seen.{WasSeen}
use Rattle.grid_faults.specs.Servers.{server_name}
use Rattle.grid_rules.specs.ScrubLines.{counted, finding_json, finding_line, last_json, last_line}
use Rattle.grid_rules.specs.ScrubLines.{scrub_status}
use Rattle.grid_rules.specs.declared.scrubbing.Scrubbed.{Scrubbed}
use Rattle.grid_words.specs.declared.words.ScrubWords.{ScrubWords}

-- What was found at a server, file by file; or nothing, since its folder could not be read.
pub record Looked : Type 0 where
  pub server : ℕ
  pub found : Option (List Finding)

-- ---- what is told

-- a whole share is not told
abbrev pub unless_whole : State → List ℕ → List ℕ
unless_whole Whole line = []
unless_whole _ line = line

-- each other file has a line, or an object
abbrev pub finding_text : Bool → ℕ → Finding → List ℕ
finding_text json server f = if json then finding_json server f else finding_line server f

abbrev pub file_text : Bool → ℕ → Finding → List ℕ
file_text json server f = unless_whole f.state (finding_text json server f)

-- and so has a folder that could not be read, of the server with this name
abbrev pub named_text : Bool → List ℕ → List ℕ
named_text json name = if json
    then codes "{\"server\":\"" ++ (name ++ codes "\",\"verdict\":\"unreadable\"}\n")
    else name ++ codes " unreadable\n"

abbrev pub folder_text : Bool → ℕ → List ℕ
folder_text json server = named_text json (server_name server)

abbrev pub found_text : Bool → ℕ → Option (List Finding) → List ℕ
found_text json server None = folder_text json server
found_text json server (Some found) = flat_map (file_text json server) found

abbrev pub looked_text : Bool → Looked → List ℕ
looked_text json l = found_text json l.server l.found

-- ---- what is counted

abbrev pub files_of : Option (List Finding) → List Finding
files_of None = []
files_of (Some found) = found

-- one file more
abbrev pub counted_file : Scrubbed → Finding → Scrubbed
counted_file s f = counted s f.state

-- those of a server, after others
abbrev pub counted_more : Scrubbed → Looked → Scrubbed
counted_more s l = fold counted_file s (files_of l.found)

abbrev pub none_counted : Scrubbed
none_counted = record { shares = 0; damaged = 0; unreadable = 0; odd = 0; aside = 0 }

-- all of them
abbrev pub counts_of : List Looked → Scrubbed
counts_of looked = fold counted_more none_counted looked

abbrev pub last_text : Bool → Scrubbed → List ℕ
last_text json s = if json then last_json s else last_line s

-- ---- all of it

-- server by server each file that is told, and the counts of all
abbrev pub scrub_text : Bool → List Looked → List ℕ
scrub_text json looked = flat_map (looked_text json) looked ++ last_text json (counts_of looked)

-- a folder could be read
abbrev pub is_read : Looked → Bool
is_read l = is_some l.found

-- the status of the counts, where each folder could be read, else that of too few shares
abbrev pub status_by : Bool → Scrubbed → ℕ
status_by all_read s = if all_read then scrub_status s else 5

abbrev pub status_of : List Looked → ℕ
status_of looked = status_by (list_all is_read looked) (counts_of looked)

-- each file is told as it was seen
abbrev pub WereSeen : Looked → Type 0
WereSeen l = All WasSeen (files_of l.found)

-- Servers of a grid were looked at, each once; what is told of them was written.
pub record IsScrub (words : ScrubWords) (status : ℕ) (before after : Option (List ℕ)) : Type 0 where
  pub looked : List Looked
  pub some : 0 < length looked
  pub distinct : IsDistinct nat_eq (map (λ l. l.server) looked)
  pub seen : All WereSeen looked
  pub written : Appends before after (scrub_text words.json looked)
  pub status_is : status ≡ status_of looked

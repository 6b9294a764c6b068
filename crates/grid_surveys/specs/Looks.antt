-- What a check and a repair of the files of a catalogue do.
use Rattle.std.specs.Prelude.{◌≡◌, ◌⊎◌, ◌==◌, ◌&&◌, ◌||◌, ◌+◌, ◌/◌, ◌%◌, ℕ, Bool, true, false}
use Rattle.std.specs.Prelude.{List, [], ◌∷◌, ◌++◌, Option, None, Some, codes, decimal, fold}
use Rattle.std.specs.Prelude.{if◌then◌else◌, length, map, max, min, not, nat_le, nat_lt}
use Rattle.std.specs.Prelude.{IsUtf8}
use Rattle.std.specs.Io.KnownBytes.{Appends}
use Rattle.std.specs.List.{AllByRecursion, flat_map}
use Rattle.cap_text.specs.Cap.{VerifyCapValue}
use Rattle.catalogues.specs.Catalogues.{BeginsWithHead, Entry, HasNoHead, HasNoLine, IsEntry}
use Rattle.catalogues.specs.Catalogues.{entry_text}
use Rattle.catalogues.specs.Lines.{named_text}
use Rattle.catalogues.specs.Patterns.{chooses}
use Rattle.catalogues.specs.declared.head.Head.{Head}
use Rattle.checker.specs.declared.status.Report.{Report}
use Rattle.grid_faults.specs.Fault.{fault_status}
use Rattle.grid_faults.specs.declared.fault.Fault.{Fault}
use Rattle.grid_faults.specs.declared.fault.Fault.TheVariants as faults
use Rattle.grid_rules.specs.ReportJson.{bool_json}
use Rattle.grid_rules.specs.ReportLines.{report_status, report_words}
use Rattle.grid_servers.specs.Grids.{GridCalls}
use Rattle.grid_shares.specs.Puts.{stored_status}
use Rattle.grid_shares.specs.declared.placing.Stored.{Stored}
use Rattle.grid_repairs.specs.Checks.{IsCheckedFile, verify_of}
use Rattle.grid_repairs.specs.Repairs.{IsRepairedFile}
use Rattle.grid_telling.specs.declared.outcome.Failure.{Failure}
use Rattle.grid_telling.specs.declared.outcome.Failure.TheVariants as failures
use Rattle.grid_surveys.specs.declared.seen.Class.{Class}
use Rattle.grid_surveys.specs.declared.seen.Class.TheVariants as classes
use Rattle.grid_surveys.specs.declared.seen.Counts.{Counts}
use Rattle.grid_surveys.specs.declared.seen.Seen.{Seen}
use Rattle.grid_surveys.specs.declared.seen.Seen.TheVariants as seens
use Rattle.grid_words.specs.declared.catalogue_words.CheckFilesWords.{CheckFilesWords}
use Rattle.grid_words.specs.declared.catalogue_words.RepairFilesWords.{RepairFilesWords}
use Rattle.grid_lists.specs.Statuses.{unread_status}

-- ---- what is asked for

-- what is done with each file
pub data Task : Type 0 where
  checking : CheckFilesWords → Task
  repairing : RepairFilesWords → Task

-- the patterns of its words
abbrev pub names_of : Task → List (List ℕ)
names_of (checking words) = map (λ n. n.now) words.chosen.names.items
names_of (repairing words) = map (λ n. n.now) words.chosen.names.items

-- whether files are told to programs
abbrev pub is_json : Task → Bool
is_json (checking words) = words.json
is_json (repairing words) = false

-- whether each file is to be healthy
abbrev pub is_strict : Task → Bool
is_strict (checking words) = words.strict
is_strict (repairing words) = false

-- ---- one file

abbrev pub seen_check : Option Report → Seen
seen_check None = seens.Literal
seen_check (Some report) = seens.Checked report

abbrev pub seen_repair : Option Stored → Seen
seen_repair None = seens.Literal
seen_repair (Some stored) = seens.Repaired stored

-- a check or a repair of the file by its verify cap came to this, over servers that may have been
-- kept open
abbrev pub IsSeen : {S : Type 0} → GridCalls S → Task → Option VerifyCapValue → Seen → Type 0
IsSeen calls (checking words) cap seen = (kept : Bool) × (found : Option Report)
    × IsCheckedFile calls words.grid.now kept cap found × (seen ≡ seen_check found)
IsSeen calls (repairing words) cap seen = (read_on : Bool) × (write_on : Bool)
    × (stored : Option Stored)
    × IsRepairedFile calls words.grid.now read_on write_on words.mend words.happy cap stored
    × (seen ≡ seen_repair stored)

-- its status: that of a check or a repair of the file alone
abbrev pub seen_status : Task → Seen → ℕ
seen_status task seens.Literal = 0
seen_status task (seens.Checked report) = report_status report (is_strict task)
seen_status task (seens.Repaired stored) = stored_status stored.is_cleared

-- ---- its line

-- what is told of it to people
abbrev pub seen_words : Seen → List ℕ
seen_words seens.Literal = codes "literal"
seen_words (seens.Checked r) = report_words r
seen_words (seens.Repaired s) = codes "happiness " ++ decimal s.happiness

-- a digit of a number in base 16
abbrev pub hex_digit : ℕ → ℕ
hex_digit n = if nat_lt n 10 then 48 + n else 87 + n

-- those of a byte
abbrev pub hex_digits : ℕ → List ℕ
hex_digits c = hex_digit (c / 16) ∷ hex_digit (c % 16) ∷ []

-- A byte of a name in a string of JSON. Quotes, backslashes and control characters are escaped. Of
-- a name that is no UTF-8 each byte from 128 on is a lone surrogate, as Python has it in names of
-- files.
abbrev pub json_byte : Bool → ℕ → List ℕ
json_byte odd c =
    if c == 34 || c == 92 then 92 ∷ c ∷ []
    else if nat_lt c 32 then 92 ∷ (codes "u00" ++ hex_digits c)
    else if odd && nat_le 128 c then 92 ∷ (codes "udc" ++ hex_digits c)
    else c ∷ []

abbrev pub json_name : Bool → List ℕ → List ℕ
json_name odd name = flat_map (json_byte odd) name

-- this is the string of a name
pub record IsJsonName (name text : List ℕ) : Type 0 where
  pub odd : Bool
  pub utf8 : odd ≡ false → IsUtf8 name
  pub other : odd ≡ true → ¬ (IsUtf8 name)
  pub is : text ≡ json_name odd name

-- what follows the name in the object of a file
abbrev pub report_json : Report → List ℕ
report_json r = codes "\"healthy\":" ++ (bool_json r.healthy
    ++ (codes ",\"recoverable\":" ++ (bool_json r.recoverable
    ++ (codes ",\"happiness\":" ++ (decimal r.happiness ++ codes "}\n")))))

abbrev pub seen_json : Seen → List ℕ
seen_json seens.Literal = codes "\"literal\":true}\n"
seen_json (seens.Checked r) = report_json r
seen_json (seens.Repaired s) = codes "\"happiness\":" ++ (decimal s.happiness ++ codes "}\n")

abbrev pub named_json : List ℕ → List ℕ → List ℕ
named_json name values = codes "{\"name\":\"" ++ (name ++ (codes "\"," ++ values))

-- the line of a file, or its object
abbrev pub IsLine : Bool → Seen → List ℕ → List ℕ → Type 0
IsLine false seen name text = text ≡ named_text (seen_words seen) name
IsLine true seen name text = (written : List ℕ) × IsJsonName name written
    × (text ≡ named_json written (seen_json seen))

-- ---- what became of it

-- it was seen so, or refused, or not chosen
pub data Fate : Type 0 where
  seen : Seen → Fate
  refused : Fault → Fate
  passed : Fate

abbrev pub is_chosen : Fate → Bool
is_chosen (seen s) = true
is_chosen (refused fault) = true
is_chosen passed = false

abbrev pub fate_status : Task → Fate → ℕ
fate_status task (seen s) = seen_status task s
fate_status task (refused fault) = fault_status fault
fate_status task passed = 0

-- an entry, what became of its file, and what was written of it
pub record Gone : Type 0 where
  pub entry : Entry
  pub fate : Fate
  pub text : List ℕ

abbrev pub IsFate : {S : Type 0} → GridCalls S → Task → Entry → Fate → List ℕ → Type 0
IsFate calls task entry (seen s) text = IsSeen calls task (verify_of entry.cap) s
    × IsLine (is_json task) s entry.name text
IsFate calls task entry (refused fault) text = text ≡ []
IsFate calls task entry passed text = text ≡ []

abbrev pub IsGone : {S : Type 0} → GridCalls S → Task → Gone → Type 0
IsGone calls task g = (is_chosen g.fate ≡ chooses (names_of task) g.entry.name)
    × IsFate calls task g.entry g.fate g.text

-- ---- how many there are

-- how one is counted that was seen, or refused
abbrev pub seen_class : Seen → Class
seen_class seens.Literal = classes.Whole
seen_class (seens.Checked r) = if r.healthy then classes.Whole
    else if r.recoverable then classes.Weak else classes.Lost
seen_class (seens.Repaired s) = classes.Whole

abbrev pub fault_class : Fault → Class
fault_class faults.NotEnoughShares = classes.Lost
fault_class fault = classes.Other

abbrev pub no_files : Counts
no_files = record { files = 0; whole = 0; weak = 0; lost = 0 }

-- one more, up to the most that are counted
abbrev pub one_more : ℕ → ℕ
one_more n = min (n + 1) 18446744073709551615

abbrev pub counted : Counts → Class → Counts
counted c classes.Whole = record c { files = one_more c.files; whole = one_more c.whole }
counted c classes.Weak = record c { files = one_more c.files; weak = one_more c.weak }
counted c classes.Lost = record c { files = one_more c.files; lost = one_more c.lost }
counted c classes.Other = record c { files = one_more c.files }

-- with one entry more, which counts where it was chosen
abbrev pub fate_counted : Counts → Fate → Counts
fate_counted c (seen s) = counted c (seen_class s)
fate_counted c (refused fault) = counted c (fault_class fault)
fate_counted c passed = c

abbrev pub counts_of : List Gone → Counts
counts_of gone = fold (λ c g. fate_counted c g.fate) no_files gone

-- the last line, or object
abbrev pub counts_text : Task → Counts → List ℕ
counts_text (checking words) c = if words.json
    then codes "{\"files\":" ++ (decimal c.files ++ (codes ",\"healthy\":" ++ (decimal c.whole
    ++ (codes ",\"recoverable\":" ++ (decimal c.weak ++ (codes ",\"lost\":" ++ (decimal c.lost
    ++ codes "}\n")))))))
    else codes "files " ++ (decimal c.files ++ (codes " healthy " ++ (decimal c.whole
    ++ (codes " recoverable " ++ (decimal c.weak ++ (codes " lost " ++ (decimal c.lost
    ++ codes "\n")))))))
counts_text (repairing words) c = codes "files " ++ (decimal c.files
    ++ (codes " repaired " ++ (decimal c.whole ++ (codes " lost " ++ (decimal c.lost
    ++ codes "\n")))))

-- ---- the files of a catalogue

-- the greatest of their statuses
abbrev pub worst : Task → List Gone → ℕ
worst task gone = fold (λ status g. max status (fate_status task g.fate)) 0 gone

-- how a text ends behind its lines, by the status of that
abbrev pub EndsAt : List ℕ → ℕ → Type 0
EndsAt left status = ((left ≡ []) × (status ≡ 0)) ⊎ (HasNoLine left × (status ≡ unread_status))

-- that of names that were asked for, and chose no entry
abbrev pub unfound_status : Task → Counts → ℕ
unfound_status task c =
    if not (length (names_of task) == 0) && (c.files == 0) then unread_status else 0

-- The lines of a text were gone through, up to its end or to what is no line. Each file that is
-- chosen and not refused has its line, and the last line tells how many there are. The status is
-- the greatest.
pub record AreLookedAt {S : Type 0} (calls : GridCalls S) (task : Task) (text : List ℕ)
    (status : ℕ) (before after : Option (List ℕ)) : Type 0 where
  pub gone : List Gone
  pub left : List ℕ
  pub lines : text ≡ flat_map (λ g. entry_text g.entry) gone ++ left
  pub entries : AllByRecursion (λ g. IsEntry g.entry) gone
  pub fates : AllByRecursion (IsGone calls task) gone
  pub end : ℕ
  pub ends : EndsAt left end
  pub status_is : status
      ≡ max (max (worst task gone) end) (unfound_status task (counts_of gone))
  pub written : Appends before after
      (flat_map (λ g. g.text) gone ++ counts_text task (counts_of gone))

-- A text is no catalogue, and nothing was written; or its lines were gone through. Which text a
-- catalogue has is what the system says.
pub data IsLookDone {S : Type 0} (calls : GridCalls S) (task : Task) (status : ℕ)
    (before after : Option (List ℕ)) : Type 0 where
  unread : (text : List ℕ) → HasNoHead text → status ≡ unread_status → after ≡ before
      → IsLookDone calls task status before after
  read : (text : List ℕ) → (head : Head) → (rest : List ℕ) → BeginsWithHead text head rest
      → AreLookedAt calls task rest status before after
      → IsLookDone calls task status before after

-- it was `out` that failed, or memory
abbrev pub IsCutOff : Failure → Type 0
IsCutOff failure = (failure ≡ failures.Writer) ⊎ (failure ≡ failures.Fault faults.OutOfMemory)

-- Where it has no result, nothing was written, unless it was `out` that failed, or memory.
abbrev pub IsLookUndone : Failure → Option (List ℕ) → Option (List ℕ) → Type 0
IsLookUndone failure before after = IsCutOff failure ⊎ (after ≡ before)

-- World scripts: which commands the lines of a text spell.
use Rattle.std.specs.Prelude.{◌≡◌, ◌⊎◌, ◌==◌, ◌≤◌, ◌<◌, ◌+◌, ◌^◌, ℕ, List, [], ◌∷◌, length, map}
use Rattle.std.specs.Prelude.{codes, decimal, Bool, true, false, Ok, ⊤}
use Rattle.std.specs.List.{slice_split}
use Rattle.file_encoding.specs.Params.{AreChosen, UploadParameters}
use Rattle.ueb.specs.Limits.{min_file_size}
use Rattle.hex.specs.Hex.{decode_of}
use Rattle.world_script.specs.declared.command.Kind.{Kind}
use Rattle.world_script.specs.declared.command.Kind.TheVariants.{Silent, Junk, Replay}
use Rattle.world_script.specs.declared.command.Command.{Command}
use Rattle.world_script.specs.declared.command.Command.TheVariants.{Upload, Download, DownloadRange}
use Rattle.world_script.specs.declared.command.Command.TheVariants.{Check, Repair, Deliver, Drain}
use Rattle.world_script.specs.declared.command.Command.TheVariants.{Random, Pass, Restart, Fail}
use Rattle.world_script.specs.declared.command.Command.TheVariants.{Refuse, Turn, Forge}
use Rattle.world_script.specs.declared.command.Script.{Script}
use Rattle.world_script.specs.declared.verb.Verb.{Verb}
use Rattle.world_script.specs.declared.verb.Verb.TheVariants as verbs
use Rattle.world_script.specs.declared.error.ScriptError.{ScriptError}
use Rattle.world_script.specs.declared.error.ScriptError.TheVariants.{OutOfMemory, BadScript}
use Rattle.world_script.specs.declared.error.LineError.{LineError}
use Rattle.world_script.specs.declared.error.LineError.TheVariants as faults

-- the lines of a text
abbrev pub lines_of : List ℕ → List (List ℕ)
lines_of text = slice_split (λ c. c == 10) text

-- the words of a line, parted by one space each
abbrev pub words_of : List ℕ → List (List ℕ)
words_of line = slice_split (λ c. c == 32) line

-- An empty line is skipped, and one that begins with `#`.
abbrev pub is_skipped : List ℕ → Bool
is_skipped [] = true
is_skipped (c ∷ rest) = c == 35

abbrev pub kind_name : Kind → List ℕ
kind_name Silent = codes "silent"
kind_name Junk = codes "junk"
kind_name Replay = codes "replay"

-- These words name so many honest nodes, and then liars of these kinds: 256 nodes at most.
abbrev pub SpellsNodes : ℕ → List Kind → List (List ℕ) → Type 0
SpellsNodes honest liars words = (1 ≤ honest) × (honest + length liars ≤ 256)
    × (words ≡ codes "nodes" ∷ decimal honest ∷ map kind_name liars)

-- One node at least is honest, and there are 256 nodes at most.
abbrev pub AreNodes : Script → Type 0
AreNodes script = (1 ≤ script.honest) × (script.honest + length script.liars.items ≤ 256)

-- A word spells these bytes in hex, one at least.
abbrev pub IsHexOf : List ℕ → List ℕ → Type 0
IsHexOf bytes word = (decode_of word ≡ Ok bytes) × (1 ≤ length bytes)

-- numbers of 64 bits
abbrev pub AreWide : List ℕ → Type 0
AreWide [] = ⊤
AreWide (n ∷ rest) = (n < 2 ^ 64) × AreWide rest

-- These words are a name, and then numbers of 64 bits in decimal.
abbrev pub SpellsNumbers : List ℕ → List ℕ → List (List ℕ) → Type 0
SpellsNumbers name numbers words = AreWide numbers × (words ≡ name ∷ map decimal numbers)

-- These words spell the command. An upload's numbers are those that are needed, that are wanted
-- happy and that are made in all, and then the greatest segment.
abbrev pub Spells : Command → List (List ℕ) → Type 0
Spells (Upload node file p) words = (hex : List ℕ) × IsHexOf file hex
    × (min_file_size ≤ length file) × AreWide (node ∷ [])
    × AreChosen p.needed p.happy p.total p.max_segment
    × (words ≡ codes "upload" ∷ decimal node ∷ hex ∷ decimal p.needed ∷ decimal p.happy
    ∷ decimal p.total ∷ decimal p.max_segment ∷ [])
Spells (Download node upload) words = SpellsNumbers (codes "download") (node ∷ upload ∷ []) words
Spells (DownloadRange node upload from to) words =
    SpellsNumbers (codes "download") (node ∷ upload ∷ from ∷ to ∷ []) words
Spells (Check node upload) words = SpellsNumbers (codes "check") (node ∷ upload ∷ []) words
Spells (Repair node operation happy) words =
    SpellsNumbers (codes "repair") (node ∷ operation ∷ happy ∷ []) words
Spells (Deliver position) words = SpellsNumbers (codes "deliver") (position ∷ []) words
Spells Drain words = SpellsNumbers (codes "drain") [] words
Spells (Random start count) words = SpellsNumbers (codes "random") (start ∷ count ∷ []) words
Spells (Pass seconds) words = SpellsNumbers (codes "pass") (seconds ∷ []) words
Spells (Restart node) words = SpellsNumbers (codes "restart") (node ∷ []) words
Spells (Fail node) words = SpellsNumbers (codes "fail") (node ∷ []) words
Spells (Refuse operation) words = SpellsNumbers (codes "refuse") (operation ∷ []) words
Spells (Turn node) words = SpellsNumbers (codes "turn") (node ∷ []) words
Spells (Forge from to body) words = (hex : List ℕ) × IsHexOf body hex × AreWide (from ∷ to ∷ [])
    × (words ≡ codes "forge" ∷ decimal from ∷ decimal to ∷ hex ∷ [])

-- The first holds of a line that is skipped, and the second of any other.
abbrev pub Either : Bool → Type 0 → Type 0 → Type 0
Either true skipped told = skipped
Either false skipped told = told

-- The lines that are not skipped spell these commands, in order.
abbrev pub Reads : List (List ℕ) → List Command → Type 0
Reads [] commands = commands ≡ []
Reads (line ∷ rest) commands = Either (is_skipped line) (Reads rest commands)
    ((first : Command) × (later : List Command) × (commands ≡ first ∷ later)
    × Spells first (words_of line) × Reads rest later)

-- The first line that is not skipped names so many honest nodes and these liars, and the later ones
-- spell these commands.
abbrev pub SpellsParts : List (List ℕ) → ℕ → List Kind → List Command → Type 0
SpellsParts [] honest liars commands = ⊥
SpellsParts (line ∷ rest) honest liars commands = Either (is_skipped line)
    (SpellsParts rest honest liars commands)
    (SpellsNodes honest liars (words_of line) × Reads rest commands)

-- The lines spell the script.
abbrev pub SpellsScript : List (List ℕ) → Script → Type 0
SpellsScript lines script =
    SpellsParts lines script.honest script.liars.items script.commands.items

-- ---- words of private clauses

-- the first words of commands
abbrev pub name_of : Verb → List ℕ
name_of verbs.Upload = codes "upload"
name_of verbs.Download = codes "download"
name_of verbs.Check = codes "check"
name_of verbs.Repair = codes "repair"
name_of verbs.Deliver = codes "deliver"
name_of verbs.Drain = codes "drain"
name_of verbs.Random = codes "random"
name_of verbs.Pass = codes "pass"
name_of verbs.Restart = codes "restart"
name_of verbs.Fail = codes "fail"
name_of verbs.Refuse = codes "refuse"
name_of verbs.Turn = codes "turn"
name_of verbs.Forge = codes "forge"

-- the error of a script whose line of this number, from 0 on, is at fault
abbrev pub error_at : LineError → ℕ → ScriptError
error_at faults.OutOfMemory line = OutOfMemory
error_at faults.NoCommand line = BadScript (line + 1)

-- These words are numbers of 64 bits in decimal.
abbrev pub AreNumbers : List ℕ → List (List ℕ) → Type 0
AreNumbers numbers words = AreWide numbers × (words ≡ map decimal numbers)

-- one number of 64 bits, two, and three
abbrev pub IsOne : List (List ℕ) → Type 0
IsOne words = (n : ℕ) × AreNumbers (n ∷ []) words

abbrev pub AreTwo : List (List ℕ) → Type 0
AreTwo words = (n : ℕ) × (m : ℕ) × AreNumbers (n ∷ m ∷ []) words

abbrev pub AreThree : List (List ℕ) → Type 0
AreThree words = (n : ℕ) × (m : ℕ) × (k : ℕ) × AreNumbers (n ∷ m ∷ k ∷ []) words

-- A word is a number of 64 bits, and bytes in hex.
abbrev pub IsNumber : List ℕ → Type 0
IsNumber word = (n : ℕ) × (n < 2 ^ 64) × (word ≡ decimal n)

abbrev pub IsHex : List ℕ → Type 0
IsHex word = (bytes : List ℕ) × IsHexOf bytes word

-- These words are an upload's parameters.
abbrev pub AreParams : UploadParameters → List (List ℕ) → Type 0
AreParams p words = AreChosen p.needed p.happy p.total p.max_segment
    × (words ≡ decimal p.needed ∷ decimal p.happy ∷ decimal p.total ∷ decimal p.max_segment ∷ [])

-- The words after the name of an upload, of a download and of a forgery.
abbrev pub IsUpload : List (List ℕ) → Type 0
IsUpload fields = (node : ℕ) × (file : List ℕ) × (p : UploadParameters) × (hex : List ℕ)
    × (rest : List (List ℕ)) × (node < 2 ^ 64) × IsHexOf file hex × (min_file_size ≤ length file)
    × AreParams p rest × (fields ≡ decimal node ∷ hex ∷ rest)

abbrev pub IsDownload : List (List ℕ) → Type 0
IsDownload fields = AreTwo fields ⊎ ((node : ℕ) × (upload : ℕ) × (from : ℕ) × (to : ℕ)
    × AreNumbers (node ∷ upload ∷ from ∷ to ∷ []) fields)

abbrev pub IsForgery : List (List ℕ) → Type 0
IsForgery fields = (from : ℕ) × (to : ℕ) × (body : List ℕ) × (hex : List ℕ)
    × (from < 2 ^ 64) × (to < 2 ^ 64) × IsHexOf body hex
    × (fields ≡ decimal from ∷ decimal to ∷ hex ∷ [])

-- A command of this verb has these words after its name.
abbrev pub HasFields : Verb → List (List ℕ) → Type 0
HasFields verbs.Upload fields = IsUpload fields
HasFields verbs.Download fields = IsDownload fields
HasFields verbs.Drain fields = fields ≡ []
HasFields verbs.Check fields = AreTwo fields
HasFields verbs.Repair fields = AreThree fields
HasFields verbs.Random fields = AreTwo fields
HasFields verbs.Forge fields = IsForgery fields
HasFields verb fields = IsOne fields

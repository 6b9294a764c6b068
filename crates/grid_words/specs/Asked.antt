-- What a command and the values of its arguments ask for.
use Rattle.std.specs.Prelude.{◌≡◌, ◌≢◌, ◌&&◌, ℕ, Bool, true, false, List, [], ◌∷◌, Option, Some}
use Rattle.std.specs.Prelude.{◌++◌}
use Rattle.std.specs.Prelude.{codes, if◌then◌else◌, length, nat_lt, option_and_then, option_map}
use Rattle.std.specs.Prelude.{None, map, unwrap_or}
use Rattle.std.specs.List.{All, list_all}
use Rattle.std.specs.Option.{option_to_list}
use Rattle.std.specs.Str.Parse.{digits_value, without_leading_plus}
use Rattle.std.specs.Char.{digit_value}
use Rattle.clap.specs.Words.{Row, Text, all_of, first_of, found_of, one_of, rows_of}
use Rattle.clap.specs.declared.parser.matches.ArgMatches.{ArgMatches}
use Rattle.grid_words.specs.declared.catalogue_words.CheckFilesWords.{CheckFilesWords}
use Rattle.grid_words.specs.declared.catalogue_words.ChosenWords.{ChosenWords}
use Rattle.grid_words.specs.declared.catalogue_words.GetFilesWords.{GetFilesWords}
use Rattle.grid_words.specs.declared.catalogue_words.RepairFilesWords.{RepairFilesWords}
use Rattle.grid_words.specs.declared.verify_words.VerifyFilesWords.{VerifyFilesWords}
use Rattle.grid_words.specs.declared.verify_words.VerifyWords.{VerifyWords}
use Rattle.grid_words.specs.declared.words.CheckWords.{CheckWords}
use Rattle.grid_words.specs.declared.words.GetWords.{GetWords}
use Rattle.grid_words.specs.declared.words.InitWords.{InitWords}
use Rattle.grid_words.specs.declared.words.ListWords.{ListWords}
use Rattle.grid_words.specs.declared.words.ListWords.TheVariants as lists
use Rattle.grid_words.specs.declared.words.Marking.{Marking}
use Rattle.grid_words.specs.declared.words.Marking.TheVariants as markings
use Rattle.grid_words.specs.declared.words.NumberWords.{NumberWords}
use Rattle.grid_words.specs.declared.words.PutWords.{PutWords}
use Rattle.grid_words.specs.declared.words.RepairWords.{RepairWords}
use Rattle.grid_words.specs.declared.words.Request.{Request}
use Rattle.grid_words.specs.declared.words.Request.TheVariants as requests
use Rattle.grid_words.specs.declared.words.ScrubWords.{ScrubWords}
use Rattle.grid_words.specs.declared.words.SecretWords.{SecretWords}
use Rattle.grid_words.specs.declared.words.SecretWords.TheVariants as secrets
use Rattle.grid_words.specs.declared.words.ServeWords.{ServeWords}
use Rattle.grid_words.specs.declared.words.StatusWords.{StatusWords}

-- the values that a command's own words and its defaults gave
abbrev pub rows_in : ArgMatches → List Row
rows_in m = rows_of (found_of m)

-- the text of an argument that is always there
abbrev pub text_under : Text → List Row → Text
text_under id rows = unwrap_or (first_of id rows) []

-- the texts of an argument that may have several
abbrev pub texts_under : Text → List Row → List Text
texts_under id rows = unwrap_or (all_of id rows) []

-- the number below 2^64 that a text spells in decimal
abbrev pub spelled_number : Text → Option ℕ
spelled_number text =
    let digits = without_leading_plus text in
    if nat_lt 0 (length digits) && list_all (λ d. nat_lt (digit_value d) 10) digits
    && nat_lt (digits_value 10 digits) 18446744073709551616
    then Some (digits_value 10 digits) else None

abbrev pub number_under : Text → List Row → Option ℕ
number_under id rows = option_and_then spelled_number (one_of id rows)

-- a flag whose value is `true`, `false` or none
abbrev pub IsFlag : Option Text → Bool → Type 0
IsFlag None set = set ≡ false
IsFlag (Some text) set = (text ≡ codes "true" → set ≡ true) × (text ≡ codes "false" → set ≡ false)

abbrev pub IsSecret : List Row → SecretWords → Type 0
IsSecret rows secrets.Unsaid = (first_of (codes "secret-file") rows ≡ None)
    × (first_of (codes "secret") rows ≡ None)
IsSecret rows (secrets.Text text) = (first_of (codes "secret-file") rows ≡ None)
    × (first_of (codes "secret") rows ≡ Some text.now)
IsSecret rows (secrets.File path) = first_of (codes "secret-file") rows ≡ Some path.now

-- a list of files of a put
abbrev pub IsList : List Row → ListWords → Type 0
IsList rows lists.Unsaid = (first_of (codes "files0-from") rows ≡ None)
    × (first_of (codes "files-from") rows ≡ None)
IsList rows (lists.Lines path) = (first_of (codes "files0-from") rows ≡ None)
    × (first_of (codes "files-from") rows ≡ Some path.now)
IsList rows (lists.Nuls path) = first_of (codes "files0-from") rows ≡ Some path.now

-- what becomes of a grid's marks
abbrev pub IsMarking : List Row → Marking → Type 0
IsMarking rows (markings.Replace server) = number_under (codes "replace") rows ≡ Some server
IsMarking rows (markings.Add count) = (number_under (codes "replace") rows ≡ None)
    × (number_under (codes "add") rows ≡ Some count)
IsMarking rows (markings.Adopt servers) = (number_under (codes "replace") rows ≡ None)
    × (number_under (codes "add") rows ≡ None)
    × IsFlag (one_of (codes "adopt") rows) true
    × (servers ≡ number_under (codes "servers") rows)
IsMarking rows (markings.New servers) = (number_under (codes "replace") rows ≡ None)
    × (number_under (codes "add") rows ≡ None)
    × IsFlag (one_of (codes "adopt") rows) false
    × (servers ≡ number_under (codes "servers") rows)

-- the numbers by which files are put
pub record AsksNumbers (rows : List Row) (words : NumberWords) : Type 0 where
  pub needed : words.needed ≡ number_under (codes "k") rows
  pub happy : words.happy ≡ number_under (codes "happy") rows
  pub total : words.total ≡ number_under (codes "n") rows
  pub max_segment : words.max_segment ≡ number_under (codes "segment") rows

pub record AsksInit (rows : List Row) (words : InitWords) : Type 0 where
  pub grid : words.grid.now ≡ text_under (codes "DIR") rows
  pub marking : IsMarking rows words.marking
  pub elsewhere : map (λ word. word.now) words.elsewhere.items ≡ texts_under (codes "server") rows
  pub secret_file : option_map (λ path. path.now) words.secret_file
      ≡ first_of (codes "secret-file") rows
  pub ways : AsksNumbers rows words.ways
  pub verbose : IsFlag (one_of (codes "verbose") rows) words.verbose

pub record AsksPut (rows : List Row) (words : PutWords) : Type 0 where
  pub files : map (λ f. f.now) words.files.items ≡ texts_under (codes "FILE") rows
  pub list : IsList rows words.list
  pub since : option_map (λ path. path.now) words.since ≡ first_of (codes "since") rows
  pub grid : words.grid.now ≡ text_under (codes "grid") rows
  pub secret : IsSecret rows words.secret
  pub numbers : AsksNumbers rows words.numbers
  pub servers : words.servers ≡ number_under (codes "servers") rows
  pub net : IsFlag (one_of (codes "net") rows) words.net
  pub no_sync : IsFlag (one_of (codes "no-sync") rows) words.no_sync
  pub mend : IsFlag (one_of (codes "mend") rows) words.mend
  pub quiet : IsFlag (one_of (codes "quiet") rows) words.quiet
  pub known : IsFlag (one_of (codes "known") rows) words.known
  pub verbose : IsFlag (one_of (codes "verbose") rows) words.verbose

pub record AsksGet (rows : List Row) (words : GetWords) : Type 0 where
  pub cap : words.cap.now ≡ text_under (codes "CAP") rows
  pub cap_file : option_map (λ path. path.now) words.cap_file ≡ first_of (codes "cap-file") rows
  pub grid : words.grid.now ≡ text_under (codes "grid") rows
  pub start : words.from ≡ unwrap_or (number_under (codes "from") rows) 0
  pub to : words.to ≡ number_under (codes "to") rows
  pub output : option_map (λ path. path.now) words.output ≡ first_of (codes "output") rows
  pub net : IsFlag (one_of (codes "net") rows) words.net
  pub known : IsFlag (one_of (codes "known") rows) words.known
  pub verbose : IsFlag (one_of (codes "verbose") rows) words.verbose

pub record AsksGetFiles (rows : List Row) (words : GetFilesWords) : Type 0 where
  pub caps : first_of (codes "caps") rows ≡ Some words.caps.now
  pub into : words.into.now ≡ text_under (codes "into") rows
  pub names : map (λ n. n.now) words.names.items
      ≡ option_to_list (first_of (codes "CAP") rows) ++ texts_under (codes "NAME") rows
  pub overwrite : IsFlag (one_of (codes "overwrite") rows) words.overwrite
  pub grid : words.grid.now ≡ text_under (codes "grid") rows
  pub net : IsFlag (one_of (codes "net") rows) words.net
  pub known : IsFlag (one_of (codes "known") rows) words.known
  pub verbose : IsFlag (one_of (codes "verbose") rows) words.verbose

-- files of a catalogue
pub record AsksChosen (rows : List Row) (words : ChosenWords) : Type 0 where
  pub caps : first_of (codes "caps") rows ≡ Some words.caps.now
  pub names : map (λ n. n.now) words.names.items
      ≡ option_to_list (first_of (codes "CAP") rows) ++ texts_under (codes "NAME") rows

pub record AsksCheckFiles (rows : List Row) (words : CheckFilesWords) : Type 0 where
  pub chosen : AsksChosen rows words.chosen
  pub grid : words.grid.now ≡ text_under (codes "grid") rows
  pub net : IsFlag (one_of (codes "net") rows) words.net
  pub json : IsFlag (one_of (codes "json") rows) words.json
  pub strict : IsFlag (one_of (codes "strict") rows) words.strict
  pub known : IsFlag (one_of (codes "known") rows) words.known
  pub verbose : IsFlag (one_of (codes "verbose") rows) words.verbose

pub record AsksRepairFiles (rows : List Row) (words : RepairFilesWords) : Type 0 where
  pub chosen : AsksChosen rows words.chosen
  pub grid : words.grid.now ≡ text_under (codes "grid") rows
  pub happy : words.happy ≡ unwrap_or (number_under (codes "happy") rows) 0
  pub net : IsFlag (one_of (codes "net") rows) words.net
  pub no_sync : IsFlag (one_of (codes "no-sync") rows) words.no_sync
  pub mend : IsFlag (one_of (codes "mend") rows) words.mend
  pub known : IsFlag (one_of (codes "known") rows) words.known
  pub verbose : IsFlag (one_of (codes "verbose") rows) words.verbose

pub record AsksCheck (rows : List Row) (words : CheckWords) : Type 0 where
  pub cap : words.cap.now ≡ text_under (codes "CAP") rows
  pub cap_file : option_map (λ path. path.now) words.cap_file ≡ first_of (codes "cap-file") rows
  pub grid : words.grid.now ≡ text_under (codes "grid") rows
  pub net : IsFlag (one_of (codes "net") rows) words.net
  pub json : IsFlag (one_of (codes "json") rows) words.json
  pub strict : IsFlag (one_of (codes "strict") rows) words.strict
  pub known : IsFlag (one_of (codes "known") rows) words.known
  pub verbose : IsFlag (one_of (codes "verbose") rows) words.verbose

pub record AsksVerify (rows : List Row) (words : VerifyWords) : Type 0 where
  pub file : words.file.now ≡ text_under (codes "FILE") rows
  pub cap : words.cap.now ≡ text_under (codes "CAP") rows
  pub cap_file : option_map (λ path. path.now) words.cap_file ≡ first_of (codes "cap-file") rows
  pub max_segment : words.max_segment ≡ number_under (codes "segment") rows
  pub secret : IsSecret rows words.secret
  pub grid : option_map (λ path. path.now) words.grid ≡ first_of (codes "grid") rows
  pub verbose : IsFlag (one_of (codes "verbose") rows) words.verbose

-- the first two names stand where else a file and its cap do
pub record AsksVerifyFiles (rows : List Row) (words : VerifyFilesWords) : Type 0 where
  pub caps : first_of (codes "caps") rows ≡ Some words.caps.now
  pub names : map (λ n. n.now) words.names.items
      ≡ option_to_list (first_of (codes "FILE") rows)
      ++ (option_to_list (first_of (codes "CAP") rows) ++ texts_under (codes "NAME") rows)
  pub into : option_map (λ path. path.now) words.into ≡ first_of (codes "into") rows
  pub secret : IsSecret rows words.secret
  pub grid : option_map (λ path. path.now) words.grid ≡ first_of (codes "grid") rows
  pub verbose : IsFlag (one_of (codes "verbose") rows) words.verbose

pub record AsksRepair (rows : List Row) (words : RepairWords) : Type 0 where
  pub cap : words.cap.now ≡ text_under (codes "CAP") rows
  pub cap_file : option_map (λ path. path.now) words.cap_file ≡ first_of (codes "cap-file") rows
  pub grid : words.grid.now ≡ text_under (codes "grid") rows
  pub happy : words.happy ≡ unwrap_or (number_under (codes "happy") rows) 0
  pub net : IsFlag (one_of (codes "net") rows) words.net
  pub no_sync : IsFlag (one_of (codes "no-sync") rows) words.no_sync
  pub mend : IsFlag (one_of (codes "mend") rows) words.mend
  pub known : IsFlag (one_of (codes "known") rows) words.known
  pub verbose : IsFlag (one_of (codes "verbose") rows) words.verbose

pub record AsksScrub (rows : List Row) (words : ScrubWords) : Type 0 where
  pub grid : words.grid.now ≡ text_under (codes "grid") rows
  pub set_aside : IsFlag (one_of (codes "set-aside") rows) words.set_aside
  pub remove_open : IsFlag (one_of (codes "remove-open") rows) words.remove_open
  pub remove_damaged : IsFlag (one_of (codes "remove-damaged") rows) words.remove_damaged
  pub json : IsFlag (one_of (codes "json") rows) words.json
  pub known : IsFlag (one_of (codes "known") rows) words.known
  pub verbose : IsFlag (one_of (codes "verbose") rows) words.verbose

pub record AsksStatus (rows : List Row) (words : StatusWords) : Type 0 where
  pub grid : words.grid.now ≡ text_under (codes "grid") rows
  pub json : IsFlag (one_of (codes "json") rows) words.json
  pub known : IsFlag (one_of (codes "known") rows) words.known
  pub verbose : IsFlag (one_of (codes "verbose") rows) words.verbose

pub record AsksServe (rows : List Row) (words : ServeWords) : Type 0 where
  pub folder : words.folder.now ≡ text_under (codes "FOLDER") rows
  pub listen : words.listen.now ≡ text_under (codes "listen") rows
  pub anyone : IsFlag (one_of (codes "anyone") rows) words.anyone
  pub room : words.room ≡ number_under (codes "room") rows
  pub mark : option_map (λ line. line.now) words.mark ≡ first_of (codes "mark") rows
  pub no_sync : IsFlag (one_of (codes "no-sync") rows) words.no_sync
  pub verbose : IsFlag (one_of (codes "verbose") rows) words.verbose

-- the names of the commands that are told apart from `cap`
abbrev pub other_names : List Text
other_names = codes "init" ∷ codes "put" ∷ codes "get" ∷ codes "check" ∷ codes "verify"
    ∷ codes "repair" ∷ codes "scrub" ∷ codes "status" ∷ codes "serve" ∷ codes "world" ∷ []

-- the command of this name, with these values of its arguments, asks for this
abbrev pub Asks : Text → List Row → Request → Type 0
Asks name rows (requests.Init words) = (name ≡ codes "init") × AsksInit rows words
Asks name rows (requests.Put words) = (name ≡ codes "put") × AsksPut rows words
Asks name rows (requests.Get words) = (name ≡ codes "get")
    × (first_of (codes "caps") rows ≡ None) × AsksGet rows words
Asks name rows (requests.GetFiles words) = (name ≡ codes "get") × AsksGetFiles rows words
Asks name rows (requests.Check words) = (name ≡ codes "check")
    × (first_of (codes "caps") rows ≡ None) × AsksCheck rows words
Asks name rows (requests.CheckFiles words) = (name ≡ codes "check") × AsksCheckFiles rows words
Asks name rows (requests.Verify words) = (name ≡ codes "verify")
    × (first_of (codes "caps") rows ≡ None) × AsksVerify rows words
Asks name rows (requests.VerifyFiles words) = (name ≡ codes "verify") × AsksVerifyFiles rows words
Asks name rows (requests.Repair words) = (name ≡ codes "repair")
    × (first_of (codes "caps") rows ≡ None) × AsksRepair rows words
Asks name rows (requests.RepairFiles words) = (name ≡ codes "repair") × AsksRepairFiles rows words
Asks name rows (requests.Scrub words) = (name ≡ codes "scrub") × AsksScrub rows words
Asks name rows (requests.Status words) = (name ≡ codes "status") × AsksStatus rows words
Asks name rows (requests.Serve words) = (name ≡ codes "serve") × AsksServe rows words
Asks name rows (requests.World path) = (name ≡ codes "world")
    × (path.now ≡ text_under (codes "SCRIPT") rows)
Asks name rows (requests.Describe cap) = All (λ other. name ≢ other) other_names
    × (cap.now ≡ text_under (codes "CAP") rows)

-- a command was named, and it asks for this
abbrev pub IsAsked : Option (Text × List Row) → Request → Type 0
IsAsked None request = ⊥
IsAsked (Some command) request = Asks command.0 command.1 request

-- whether notes are asked for
abbrev pub asks_notes : Request → Bool
asks_notes (requests.Init words) = words.verbose
asks_notes (requests.Put words) = words.verbose
asks_notes (requests.Get words) = words.verbose
asks_notes (requests.GetFiles words) = words.verbose
asks_notes (requests.Check words) = words.verbose
asks_notes (requests.CheckFiles words) = words.verbose
asks_notes (requests.Verify words) = words.verbose
asks_notes (requests.VerifyFiles words) = words.verbose
asks_notes (requests.Repair words) = words.verbose
asks_notes (requests.RepairFiles words) = words.verbose
asks_notes (requests.Scrub words) = words.verbose
asks_notes (requests.Status words) = words.verbose
asks_notes (requests.Serve words) = words.verbose
asks_notes (requests.World path) = false
asks_notes (requests.Describe cap) = false

-- whether a folder is refused that no `init` marked
abbrev pub wants_known : Request → Bool
wants_known (requests.Put words) = words.known
wants_known (requests.Get words) = words.known
wants_known (requests.GetFiles words) = words.known
wants_known (requests.Check words) = words.known
wants_known (requests.CheckFiles words) = words.known
wants_known (requests.Repair words) = words.known
wants_known (requests.RepairFiles words) = words.known
wants_known (requests.Scrub words) = words.known
wants_known (requests.Status words) = words.known
wants_known _ = false

-- The command line of `grid`, as `clap` reads it: its commands, and the arguments of each. Where a
-- grid is known that is meant if no other is written, `--grid` has it as its default.
use Rattle.std.specs.Prelude.{true, false, List, [], ◌∷◌, Option, None, Some, codes}
use Rattle.clap.specs.Lexer.{usize_max}
use Rattle.clap.specs.Simple.{App, Shape, new_rule, new_shape}
use Rattle.clap.specs.Walk.{Rule, Text}
use Rattle.clap.specs.declared.builder.action.ArgAction.TheVariants.{Append, SetTrue}
use Rattle.clap.specs.declared.builder.value_parser.ValueParser.TheVariants as parsers

-- a word that has to be there
abbrev pub operand : Text → Rule
operand name = record (new_rule name) { required = true }

-- a word that is there or not
abbrev pub flag : Text → Rule
flag name = record (new_rule name) { long = Some name; action = Some SetTrue }

-- a word with a value behind it
abbrev pub option : Text → Rule
option name = record (new_rule name) { long = Some name; value_names = 1 }

-- the same, and it may stand there several times
abbrev pub repeated : Text → Rule
repeated name = record (option name) { action = Some Append }

-- a word with a number below 2^64 behind it
abbrev pub number : Text → Rule
number name =
    record (option name) { parser = Some (parsers.Unsigned 0 18446744073709551615) }

-- and with a default
abbrev pub number_or : Text → Text → Rule
number_or name default = record (number name) { defaults = default ∷ [] }

-- the folder of the grid: it has to be there, or it has a default
abbrev pub grid_folder : Option Text → Rule
grid_folder None = record (option (codes "grid")) { required = true }
grid_folder (Some grid) = record (option (codes "grid")) { defaults = grid ∷ [] }

-- where a folder is served
abbrev pub listen : Rule
listen = record (option (codes "listen")) { required = true }

abbrev pub happy : Rule
happy = number_or (codes "happy") (codes "7")

abbrev pub verbose : Rule
verbose = record (flag (codes "verbose")) { short = Some 118 }

abbrev pub quiet : Rule
quiet = record (flag (codes "quiet")) { short = Some 113 }

abbrev pub output : Rule
output = record (option (codes "output")) { short = Some 111 }

-- an argument that may not stand beside some others
abbrev pub excluding : Rule → Rule
excluding rule = record rule { is_free = false }

-- files of which one has to be there at least, unless there is a list
abbrev pub files : Rule
files = excluding (record (new_rule (codes "FILE")) {
  range = Some (record { start_inclusive = 1; end_inclusive = usize_max });
})

abbrev pub files_from : Rule
files_from = excluding (option (codes "files-from"))

abbrev pub secret_file : Rule
secret_file = excluding (option (codes "secret-file"))

abbrev pub server : Rule
server = excluding (repeated (codes "server"))

abbrev pub replace : Rule
replace = excluding (number (codes "replace"))

abbrev pub add : Rule
add = excluding (number (codes "add"))

abbrev pub init_rules : List Rule
init_rules = operand (codes "DIR")
    ∷ number (codes "servers")
    ∷ server
    ∷ replace
    ∷ add
    ∷ flag (codes "adopt")
    ∷ option (codes "secret-file")
    ∷ number (codes "k")
    ∷ number (codes "n")
    ∷ number (codes "happy")
    ∷ number (codes "segment")
    ∷ verbose
    ∷ []

abbrev pub put_rules : Option Text → List Rule
put_rules grid = files
    ∷ files_from
    ∷ option (codes "files0-from")
    ∷ option (codes "since")
    ∷ grid_folder grid
    ∷ number (codes "k")
    ∷ number (codes "happy")
    ∷ number (codes "n")
    ∷ number (codes "segment")
    ∷ number (codes "servers")
    ∷ option (codes "secret")
    ∷ secret_file
    ∷ flag (codes "net")
    ∷ flag (codes "no-sync")
    ∷ flag (codes "mend")
    ∷ quiet
    ∷ flag (codes "known")
    ∷ verbose
    ∷ []

-- a cap, unless it stands in a file or a catalogue
abbrev pub one_cap : Rule
one_cap = excluding (new_rule (codes "CAP"))

abbrev pub cap_file : Rule
cap_file = excluding (option (codes "cap-file"))

-- names of the files of a catalogue
abbrev pub chosen : Rule
chosen = excluding (record (new_rule (codes "NAME")) {
  range = Some (record { start_inclusive = 1; end_inclusive = usize_max });
})

abbrev pub caps : Rule
caps = excluding (option (codes "caps"))

abbrev pub into : Rule
into = excluding (option (codes "into"))

abbrev pub overwrite : Rule
overwrite = excluding (flag (codes "overwrite"))

abbrev pub get_rules : Option Text → List Rule
get_rules grid = one_cap
    ∷ chosen
    ∷ grid_folder grid
    ∷ number_or (codes "from") (codes "0")
    ∷ number (codes "to")
    ∷ output
    ∷ cap_file
    ∷ caps
    ∷ into
    ∷ overwrite
    ∷ flag (codes "net")
    ∷ flag (codes "known")
    ∷ verbose
    ∷ []

abbrev pub check_rules : Option Text → List Rule
check_rules grid = one_cap
    ∷ chosen
    ∷ grid_folder grid
    ∷ cap_file
    ∷ caps
    ∷ flag (codes "net")
    ∷ flag (codes "json")
    ∷ flag (codes "strict")
    ∷ flag (codes "known")
    ∷ verbose
    ∷ []

-- a file that is compared with its cap
abbrev pub one_file : Rule
one_file = excluding (new_rule (codes "FILE"))

-- the folder of a grid that keeps the secret: it may be missing
abbrev pub keeping_grid : Option Text → Rule
keeping_grid None = option (codes "grid")
keeping_grid (Some grid) = record (option (codes "grid")) { defaults = grid ∷ [] }

abbrev pub verify_rules : Option Text → List Rule
verify_rules grid = one_file
    ∷ one_cap
    ∷ chosen
    ∷ cap_file
    ∷ caps
    ∷ into
    ∷ number (codes "segment")
    ∷ option (codes "secret")
    ∷ secret_file
    ∷ keeping_grid grid
    ∷ verbose
    ∷ []

abbrev pub repair_rules : Option Text → List Rule
repair_rules grid = one_cap
    ∷ chosen
    ∷ grid_folder grid
    ∷ cap_file
    ∷ caps
    ∷ happy
    ∷ flag (codes "net")
    ∷ flag (codes "no-sync")
    ∷ flag (codes "mend")
    ∷ flag (codes "known")
    ∷ verbose
    ∷ []

abbrev pub scrub_rules : Option Text → List Rule
scrub_rules grid = grid_folder grid
    ∷ flag (codes "set-aside")
    ∷ flag (codes "remove-open")
    ∷ flag (codes "remove-damaged")
    ∷ flag (codes "json")
    ∷ flag (codes "known")
    ∷ verbose
    ∷ []

abbrev pub status_rules : Option Text → List Rule
status_rules grid = grid_folder grid
    ∷ flag (codes "json")
    ∷ flag (codes "known")
    ∷ verbose
    ∷ []

abbrev pub serve_rules : List Rule
serve_rules = operand (codes "FOLDER")
    ∷ listen
    ∷ flag (codes "anyone")
    ∷ number (codes "room")
    ∷ option (codes "mark")
    ∷ flag (codes "no-sync")
    ∷ verbose
    ∷ []

-- a command of this name with these arguments
abbrev pub shape : Text → List Rule → Shape
shape name rules = record (new_shape name) { rules = rules }

abbrev pub init_shape : Shape
init_shape = shape (codes "init") init_rules

abbrev pub put_shape : Option Text → Shape
put_shape grid = shape (codes "put") (put_rules grid)

abbrev pub get_shape : Option Text → Shape
get_shape grid = shape (codes "get") (get_rules grid)

abbrev pub check_shape : Option Text → Shape
check_shape grid = shape (codes "check") (check_rules grid)

abbrev pub verify_shape : Option Text → Shape
verify_shape grid = shape (codes "verify") (verify_rules grid)

abbrev pub repair_shape : Option Text → Shape
repair_shape grid = shape (codes "repair") (repair_rules grid)

abbrev pub scrub_shape : Option Text → Shape
scrub_shape grid = shape (codes "scrub") (scrub_rules grid)

abbrev pub status_shape : Option Text → Shape
status_shape grid = shape (codes "status") (status_rules grid)

abbrev pub serve_shape : Shape
serve_shape = shape (codes "serve") serve_rules

abbrev pub world_shape : Shape
world_shape = shape (codes "world") (operand (codes "SCRIPT") ∷ [])

abbrev pub cap_shape : Shape
cap_shape = shape (codes "cap") (operand (codes "CAP") ∷ [])

-- `grid` itself: it has a version, and a command is required
abbrev pub grid_shape : Shape
grid_shape = record (new_shape (codes "grid")) {
  has_version = true;
  subcommand_required = true;
  arg_required_else_help = true;
}

-- without its commands
abbrev pub bare_app : App
bare_app = record { top = grid_shape; subs = [] }

abbrev pub grid_app : Option Text → App
grid_app grid = record {
  top = record grid_shape { is_leaf = false };
  subs = init_shape ∷ put_shape grid ∷ get_shape grid ∷ check_shape grid ∷ verify_shape grid
      ∷ repair_shape grid ∷ scrub_shape grid ∷ status_shape grid ∷ serve_shape ∷ world_shape
      ∷ cap_shape ∷ [];
}

-- What the functions say that build the commands.
use Rattle.std.specs.Prelude.{◌≡◌, false, List, [], ◌∷◌, Option, Result, ⊤, IfOk}
use Rattle.clap.specs.Simple.{App, Shape, app_of, with_subcommand}
use Rattle.clap.specs.Walk.{Rule, Text, rule_of}
use Rattle.clap.specs.declared.builder.arg.Arg.{Arg}
use Rattle.clap.specs.declared.builder.command.Command.{Command}
use Rattle.clap.specs.declared.builder.command.Command.TheViews.{out-Command as fields_of}
use Rattle.grid_words.specs.CommandLine.{cap_shape, check_shape, get_shape, init_shape, put_shape}
use Rattle.grid_words.specs.CommandLine.{repair_shape, scrub_shape, serve_shape, status_shape}
use Rattle.grid_words.specs.CommandLine.{verify_shape, world_shape}
use Rattle.grid_words.specs.declared.commands.Name.{Name}
use Rattle.grid_words.specs.declared.commands.Name.TheVariants as names

-- the argument is read by this rule, and is no other command's
abbrev pub HasRule : Rule → Arg → Type 0
HasRule rule arg = (rule_of arg ≡ rule) × (arg.global ≡ false)

-- the same of arguments, one by one
abbrev pub HaveRules : List Rule → List Arg → Type 0
HaveRules [] [] = ⊤
HaveRules [] (arg ∷ args) = ⊥
HaveRules (rule ∷ rules) [] = ⊥
HaveRules (rule ∷ rules) (arg ∷ args) = HasRule rule arg × HaveRules rules args

-- the same of those for which there was memory
abbrev pub MayHaveRules : {E : Type 0} → List Rule → List (Result Arg E) → Type 0
MayHaveRules [] [] = ⊤
MayHaveRules [] (arg ∷ args) = ⊥
MayHaveRules (rule ∷ rules) [] = ⊥
MayHaveRules (rule ∷ rules) (arg ∷ args) = IfOk arg (HasRule rule) × MayHaveRules rules args

-- the command has these commands, and no argument that all have
abbrev pub IsApp : App → Command → Type 0
IsApp app command = (app_of command ≡ app) × ((fields_of command).has_globals ≡ false)

-- the command has this shape, and no commands of its own
abbrev pub HasShape : Shape → Command → Type 0
HasShape shape command = IsApp (record { top = shape; subs = [] }) command

-- the shape of the command of a name, where this grid is the default
abbrev pub shape_named : Option Text → Name → Shape
shape_named grid names.Init = init_shape
shape_named grid names.Put = put_shape grid
shape_named grid names.Get = get_shape grid
shape_named grid names.Check = check_shape grid
shape_named grid names.Verify = verify_shape grid
shape_named grid names.Repair = repair_shape grid
shape_named grid names.Scrub = scrub_shape grid
shape_named grid names.Status = status_shape grid
shape_named grid names.Serve = serve_shape
shape_named grid names.World = world_shape
shape_named grid names.Cap = cap_shape

abbrev pub all_names : List Name
all_names = names.Init ∷ names.Put ∷ names.Get ∷ names.Check ∷ names.Verify ∷ names.Repair
    ∷ names.Scrub ∷ names.Status ∷ names.Serve ∷ names.World ∷ names.Cap ∷ []

-- a command line with the commands of these names behind its own
abbrev pub with_named : Option Text → App → List Name → App
with_named grid app [] = app
with_named grid app (name ∷ rest) =
    with_named grid (with_subcommand app (shape_named grid name)) rest

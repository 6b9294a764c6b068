-- What a command is to which arguments are added.
use Rattle.std.proofs.Common.{◌≡◌, ◌∙◌, ◌&&◌, ◌||◌, ◌++◌, Bool, Option, true, false, not, rules, refl, sym, ap, ap₂, subst, List, [], ◌∷◌, append-nil, append_assoc}
use Rattle.std.specs.Borrow.{Bor}
use Rattle.clap.specs.Adds.{AddsConflicts, AddsRequirements}
use Rattle.clap.specs.Built.{AddsArg, AddsInTurn, AddsSubcommand}
use Rattle.clap.specs.Simple.{App, Shape, with_rule, with_subcommand}
use Rattle.clap.specs.Walk.{Rule, Text, is_empty, rule_of}
use Rattle.clap.specs.declared.builder.arg.Arg.{Arg}
use Rattle.clap.specs.declared.builder.arg.ArgPredicate.{ArgPredicate}
use Rattle.clap.specs.declared.builder.command.Command.{Command}
use Rattle.grid_words.specs.Builds.{HasRule, HasShape, HaveRules, IsApp, shape_named, with_named}
use Rattle.grid_words.specs.CommandLine.{excluding}
use Rattle.grid_words.specs.declared.commands.Name.{Name}

-- one argument
pub added_one : (old new : Command) (arg : Arg) (rule : Rule) (s : Shape) → AddsArg old arg new
    → HasRule rule arg → HasShape s old → HasShape (record s { rules = s.rules ++ rule ∷ [] }) new
added_one old new arg rule s adds has is =
    (adds.shape has.1 ∙ ap₂ with_rule is.0 has.0, adds.globals ∙ ap₂ (λ (a b : Bool). a || b) is.1 has.1)

-- several, one after the other
pub added_all : (old new : Command) (args : List Arg) (rules : List Rule) (s : Shape)
    → AddsInTurn AddsArg old args new → HaveRules rules args → HasShape s old
    → HasShape (record s { rules = s.rules ++ rules }) new
added_all old new [] [] s adds have is =
    let same : s.rules ≡ s.rules ++ [] = sym (append-nil s.rules) in
    subst (HasShape (record s { rules = s.rules ++ [] })) adds
    (subst (λ (rules : List Rule). HasShape (record s { rules = rules }) old) same is)
added_all old new [] (rule ∷ rules) s adds have is = absurd have
added_all old new (arg ∷ args) [] s adds have is = absurd have
added_all old new (arg ∷ args) (rule ∷ rules) s adds have is =
    let here = added_one old adds.0 arg rule s adds.1 have.0 is in
    let rest = added_all adds.0 new args rules (record s { rules = s.rules ++ rule ∷ [] }) adds.2 have.1 here in
    subst (λ (all : List Rule). HasShape (record s { rules = all }) new) (append_assoc s.rules (rule ∷ []) rules) rest

never_empty : {X : Type 0} (xs : List X) (x : X) (more : List X) → is_empty (xs ++ x ∷ more) ≡ false
never_empty [] x more = search rules
never_empty (y ∷ ys) x more = search rules

not_free : (a e b : Bool) → e ≡ false → (a && (e && b)) ≡ false
not_free true e b is = ap (λ (z : Bool). z && b) is
not_free false e b is = refl

-- an argument that may not stand beside some others
pub conflicting : (old new : Arg) (other : Bor Text) (more : List (Bor Text)) (rule : Rule)
    → AddsConflicts old new (other ∷ more) → HasRule rule old → HasRule (excluding rule) new
conflicting old new other more rule adds has =
    let filled : is_empty new.conflicts.items ≡ false = ap is_empty adds.1 ∙ never_empty old.conflicts.items other more in
    let free : (rule_of (record old { conflicts = new.conflicts })).is_free ≡ false =
    not_free (not old.exclusive) (is_empty new.conflicts.items) (is_empty old.needs.items && (is_empty old.r_ifs.items
    && (is_empty old.r_ifs_all.items && (is_empty old.r_unless.items && is_empty old.r_unless_all.items)))) filled in (
      ap rule_of adds.0
          ∙ ap (λ (b : Bool). record (rule_of old) { is_free = b }) free
          ∙ ap (λ (r : Rule). record r { is_free = false }) has.0,
      ap (λ (a : Arg). a.global) adds.0 ∙ has.1,
    )

not_free_then : (a e b c : Bool) → b ≡ false → (a && (e && (b && c))) ≡ false
not_free_then true true b c is = ap (λ (z : Bool). z && c) is
not_free_then true false b c is = refl
not_free_then false e b c is = refl

-- an argument that asks for another
pub requiring : (old new : Arg) (need : ArgPredicate × Bor Text) (rule : Rule)
    → AddsRequirements old new (need ∷ []) → HasRule rule old → HasRule (excluding rule) new
requiring old new need rule adds has =
    let filled : is_empty new.needs.items ≡ false = ap is_empty adds.1 ∙ never_empty old.needs.items need [] in
    let free : (rule_of (record old { needs = new.needs })).is_free ≡ false =
    not_free_then (not old.exclusive) (is_empty old.conflicts.items) (is_empty new.needs.items) (is_empty old.r_ifs.items
    && (is_empty old.r_ifs_all.items && (is_empty old.r_unless.items && is_empty old.r_unless_all.items))) filled in (
      ap rule_of adds.0
          ∙ ap (λ (b : Bool). record (rule_of old) { is_free = b }) free
          ∙ ap (λ (r : Rule). record r { is_free = false }) has.0,
      ap (λ (a : Arg). a.global) adds.0 ∙ has.1,
    )

-- ---- the commands of a command line

-- one more
pub named_more : (grid : Option Text) (app : App) (names : List Name) (name : Name)
    → with_named grid app (names ++ name ∷ []) ≡ with_subcommand (with_named grid app names) (shape_named grid name)
named_more grid app [] name = refl
named_more grid app (first ∷ names) name = named_more grid (with_subcommand app (shape_named grid first)) names name

pub added_command : (old sub new : Command) (app : App) (s : Shape) → AddsSubcommand old sub new
    → HasShape s sub → IsApp app old → IsApp (with_subcommand app s) new
added_command old sub new app s adds has is = (
  adds.shape has.1 ∙ ap₂ with_subcommand is.0 (ap (λ (a : App). a.top) has.0),
  adds.globals ∙ ap₂ (λ (a b : Bool). a || b) is.1 has.1,
)

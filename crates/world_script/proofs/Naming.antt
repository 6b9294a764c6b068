-- Which words name which command.
use Rattle.std.proofs.Common.{◌≡◌, ℕ, zero, suc, Bor, drop, ◌+◌, ◌*◌, ◌<◌, ◌≤◌, ◌^◌, List, [], ◌∷◌, inl, inr, Option, Some, None, refl, sym, ap, ◌∙◌, subst, arith, length, get_or, map}
use Rattle.std.specs.Prelude.{◌==◌, if◌then◌else◌, decimal, codes}
use Rattle.world_script.specs.declared.command.Kind.{Kind}
use Rattle.world_script.specs.declared.command.Command.{Command}
use Rattle.world_script.specs.declared.command.Command.TheVariants as commands
use Rattle.world_script.specs.declared.verb.Verb.{Verb}
use Rattle.world_script.specs.declared.verb.Verb.TheVariants as verbs
use Rattle.std.proofs.lemmas.Fmt.{decimal_injective}
use Rattle.std.proofs.lemmas.List.{get_or-map, length-map}
use Rattle.file_encoding.specs.Params.{AreChosen, UploadParameters}
use Rattle.world_script.specs.declared.error.LineError.{LineError}
use Rattle.world_script.specs.declared.error.LineError.TheVariants.{OutOfMemory, NoCommand}
use Rattle.world_script.specs.declared.error.ScriptError.TheVariants.{BadScript}
use Rattle.world_script.specs.Script.{AreParams, HasFields, Spells, SpellsNodes, error_at, kind_name, name_of}
use Rattle.world_script.specs.Refused.{SpellNoCommand}

-- the third letter of a name and its length, and the verb that has them
abbrev mark : List ℕ → ℕ
mark name = 10 * get_or name 2 0 + length name

abbrev marked : ℕ → Option Verb
marked n =
    if n == 1086 then Some verbs.Upload
    else if n == 1198 then Some verbs.Download
    else if n == 1015 then Some verbs.Check
    else if n == 1126 then Some verbs.Repair
    else if n == 1087 then Some verbs.Deliver
    else if n == 975 then Some verbs.Drain
    else if n == 1106 then Some verbs.Random
    else if n == 1154 then Some verbs.Pass
    else if n == 1157 then Some verbs.Restart
    else if n == 1054 then Some verbs.Fail
    else if n == 1026 then Some verbs.Refuse
    else if n == 1144 then Some verbs.Turn
    else if n == 1145 then Some verbs.Forge
    else None

verb_marked : (verb : Verb) → marked (mark (name_of verb)) ≡ Some verb
verb_marked verbs.Upload = refl
verb_marked verbs.Download = refl
verb_marked verbs.Check = refl
verb_marked verbs.Repair = refl
verb_marked verbs.Deliver = refl
verb_marked verbs.Drain = refl
verb_marked verbs.Random = refl
verb_marked verbs.Pass = refl
verb_marked verbs.Restart = refl
verb_marked verbs.Fail = refl
verb_marked verbs.Refuse = refl
verb_marked verbs.Turn = refl
verb_marked verbs.Forge = refl

-- verbs of one name are one
pub one_verb : (v w : Verb) → name_of v ≡ name_of w → v ≡ w
one_verb v w same = let e : Some v ≡ Some w = sym (verb_marked v) ∙ (ap (λ (n : List ℕ). marked (mark n)) same ∙ verb_marked w) in cc

-- what a command's words begin with, and what follows
pub record Parts (words : List (List ℕ)) : Type 0 where
  pub verb : Verb
  pub fields : List (List ℕ)
  pub words_are : words ≡ name_of verb ∷ fields
  pub has : HasFields verb fields

parts : (words : List (List ℕ)) (verb : Verb) (fields : List (List ℕ)) → words ≡ name_of verb ∷ fields → HasFields verb fields → Parts words
parts words verb fields words_are has = record { verb = verb; fields = fields; words_are = words_are; has = has }

pub parts_of : (command : Command) (words : List (List ℕ)) → Spells command words → Parts words
parts_of (commands.Upload node file p) words s = parts words verbs.Upload (decimal node ∷ s.0 ∷ decimal p.needed ∷ decimal p.happy ∷ decimal p.total ∷ decimal p.max_segment ∷ []) s.5 (node, file, p, s.0, decimal p.needed ∷ decimal p.happy ∷ decimal p.total ∷ decimal p.max_segment ∷ [], s.3.0, s.1, s.2, (s.4, refl), refl)
parts_of (commands.Download node upload) words s = parts words verbs.Download (decimal node ∷ decimal upload ∷ []) s.1 (inl (node, upload, (s.0, refl)))
parts_of (commands.DownloadRange node upload from to) words s = parts words verbs.Download (decimal node ∷ decimal upload ∷ decimal from ∷ decimal to ∷ []) s.1 (inr (node, upload, from, to, (s.0, refl)))
parts_of (commands.Check node upload) words s = parts words verbs.Check (decimal node ∷ decimal upload ∷ []) s.1 (node, upload, (s.0, refl))
parts_of (commands.Repair node operation happy) words s = parts words verbs.Repair (decimal node ∷ decimal operation ∷ decimal happy ∷ []) s.1 (node, operation, happy, (s.0, refl))
parts_of (commands.Deliver position) words s = parts words verbs.Deliver (decimal position ∷ []) s.1 (position, (s.0, refl))
parts_of commands.Drain words s = parts words verbs.Drain [] s.1 refl
parts_of (commands.Random start count) words s = parts words verbs.Random (decimal start ∷ decimal count ∷ []) s.1 (start, count, (s.0, refl))
parts_of (commands.Pass n) words s = parts words verbs.Pass (decimal n ∷ []) s.1 (n, (s.0, refl))
parts_of (commands.Restart n) words s = parts words verbs.Restart (decimal n ∷ []) s.1 (n, (s.0, refl))
parts_of (commands.Fail n) words s = parts words verbs.Fail (decimal n ∷ []) s.1 (n, (s.0, refl))
parts_of (commands.Refuse n) words s = parts words verbs.Refuse (decimal n ∷ []) s.1 (n, (s.0, refl))
parts_of (commands.Turn n) words s = parts words verbs.Turn (decimal n ∷ []) s.1 (n, (s.0, refl))
parts_of (commands.Forge from to body) words s = parts words verbs.Forge (decimal from ∷ decimal to ∷ s.0 ∷ []) s.3 (from, to, body, s.0, s.2.0, s.2.1.0, s.1, refl)

-- words whose first names a verb are no command where the verb does not have the others
pub none_of : (verb : Verb) (name : List ℕ) (rest : List (List ℕ)) → name ≡ name_of verb → (HasFields verb rest → ⊥) → SpellNoCommand (name ∷ rest)
none_of verb name rest named none command spells =
    let p : Parts (name ∷ rest) = parts_of command (name ∷ rest) spells in
    let same : name_of p.verb ≡ name_of verb = let e : name ∷ rest ≡ name_of p.verb ∷ p.fields = p.words_are in cc in
    let fields : p.fields ≡ rest = let e : name ∷ rest ≡ name_of p.verb ∷ p.fields = p.words_are in cc in
    none (subst (HasFields verb) fields (subst (λ (v : Verb). HasFields v p.fields) (one_verb p.verb verb same) p.has))

pub none_named : (name : List ℕ) (rest : List (List ℕ)) → ((verb : Verb) → name ≡ name_of verb → ⊥) → SpellNoCommand (name ∷ rest)
none_named name rest none command spells =
    let p : Parts (name ∷ rest) = parts_of command (name ∷ rest) spells in
    none p.verb (let e : name ∷ rest ≡ name_of p.verb ∷ p.fields = p.words_are in cc)

pub none_empty : SpellNoCommand []
none_empty command spells = let p : Parts [] = parts_of command [] spells in absurd (let e : [] ≡ name_of p.verb ∷ p.fields = p.words_are in cc)

-- parameters that four words are
pub chosen_of : (p : UploadParameters) (needed happy total segment : ℕ) (words : List (List ℕ)) → needed < 2 ^ 64 → happy < 2 ^ 64 → total < 2 ^ 64 → segment < 2 ^ 64 → words ≡ decimal needed ∷ decimal happy ∷ decimal total ∷ decimal segment ∷ [] → AreParams p words → AreChosen needed happy total segment
chosen_of p needed happy total segment words n h t s words_are are =
    let c : AreChosen p.needed p.happy p.total p.max_segment = are.0 in
    let e : decimal p.needed ∷ decimal p.happy ∷ decimal p.total ∷ decimal p.max_segment ∷ [] ≡ decimal needed ∷ decimal happy ∷ decimal total ∷ decimal segment ∷ [] = sym are.1 ∙ words_are in
    let needed_is : p.needed ≡ needed = decimal_injective p.needed needed (omega (arith, c.enough, c.shares)) n (let k = e in cc) in
    let happy_is : p.happy ≡ happy = decimal_injective p.happy happy (omega (arith, c.reachable, c.shares)) h (let k = e in cc) in
    let total_is : p.total ≡ total = decimal_injective p.total total (omega (arith, c.shares)) t (let k = e in cc) in
    let segment_is : p.max_segment ≡ segment = decimal_injective p.max_segment segment (omega (arith, c.segment_not_large)) s (let k = e in cc) in
    subst (λ (x : ℕ). AreChosen x happy total segment) needed_is (subst (λ (x : ℕ). AreChosen p.needed x total segment) happy_is (subst (λ (x : ℕ). AreChosen p.needed p.happy x segment) total_is (subst (λ (x : ℕ). AreChosen p.needed p.happy p.total x) segment_is c)))

-- nodes that words name
pub nodes_of : (honest other : ℕ) (kinds : List (List ℕ)) (liars : List Kind) → honest < 2 ^ 64 → SpellsNodes other liars (codes "nodes" ∷ decimal honest ∷ kinds) → (1 ≤ honest) × (honest + length kinds ≤ 256)
nodes_of honest other kinds liars fits spells =
    let e : codes "nodes" ∷ decimal honest ∷ kinds ≡ codes "nodes" ∷ decimal other ∷ map kind_name liars = spells.2 in
    let same : other ≡ honest = decimal_injective other honest (omega (arith, spells.1)) fits (cc) in
    let names : kinds ≡ map kind_name liars = cc in
    let long : length kinds ≡ length liars = ap length names ∙ length-map liars kind_name in
    (omega (arith, same, spells.0), omega (arith, same, long, spells.1))

-- a word among the names of kinds is the name of one
pub kind_at : (kinds : List Kind) (words : List (List ℕ)) (i : ℕ) → i < length words → map kind_name kinds ≡ words → (kind : Kind) × (get_or words i [] ≡ kind_name kind)
kind_at [] words i lt names = absurd (omega (arith, ap length names))
kind_at (kind ∷ kinds) [] i lt names = absurd (omega arith)
kind_at (kind ∷ kinds) (word ∷ words) zero lt names = (kind, let e : kind_name kind ∷ map kind_name kinds ≡ word ∷ words = names in cc)
kind_at (kind ∷ kinds) (word ∷ words) (suc i) lt names = kind_at kinds words i (omega arith) (let e : kind_name kind ∷ map kind_name kinds ≡ word ∷ words = names in cc)

-- the fault of a line that is no command
pub error_line : (e : LineError) (n line : ℕ) → error_at e n ≡ BadScript line → (e ≡ NoCommand) × (line ≡ n + 1)
error_line OutOfMemory n line at = absurd cc
error_line NoCommand n line at = (refl, cc)

-- words by their positions
pub third : (words : List (Bor (List ℕ))) (d : Bor (List ℕ)) (a b w : List ℕ) → map (λ (x : Bor (List ℕ)). x.now) words ≡ a ∷ b ∷ w ∷ [] → (get_or words 2 d).now ≡ w
third words d a b w same =
    let long : length words ≡ 3 = sym (length-map words (λ (x : Bor (List ℕ)). x.now)) ∙ ap length same in
    sym (get_or-map (λ (x : Bor (List ℕ)). x.now) words 2 d [] (omega arith)) ∙ ap (λ (l : List (List ℕ)). get_or l 2 []) same

pub first_of : (words : List (Bor (List ℕ))) (d : Bor (List ℕ)) → 1 ≤ length words → map (λ (x : Bor (List ℕ)). x.now) words ≡ (get_or words 0 d).now ∷ map (λ (x : Bor (List ℕ)). x.now) (drop 1 words)
first_of [] d some = absurd (omega arith)
first_of (x ∷ xs) d some = refl

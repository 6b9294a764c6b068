-- Reading lines one after the other.
use Rattle.std.proofs.Common.{◌≡◌, ℕ, zero, suc, ◌+◌, ◌≤◌, ◌<◌, List, [], ◌∷◌, ◌++◌, Bool, true, false, refl, sym, ap, ◌∙◌, subst, arith, drop, take, length, get_or}
use Rattle.std.proofs.Math.Seq.{drop-cons}
use Rattle.std.proofs.Math.ListN.{get_or-append}
use Rattle.std.proofs.lemmas.List.{drop-append-le, length-take-le, take-append-le, take-append-drop, take_all, take_more}
use Rattle.world_script.specs.declared.command.Command.{Command}
use Rattle.world_script.specs.declared.command.Kind.{Kind}
use Rattle.world_script.specs.Script.{Either, Reads, Spells, SpellsNodes, SpellsParts, is_skipped, words_of}
use Rattle.world_script.specs.Refused.{AreSkipped, FailsToRead, IsNoScript, NameNoNodes, SpellNoCommand}
use Rattle.world_script.specs.Refused.IsNoScript.{says_nothing, names_no_nodes, spells_no_command}

-- what holds of a line, skipped or not
either_map : {A B C D : Type 0} (b : Bool) → (A → C) → (B → D) → Either b A B → Either b C D
either_map true f g e = f e
either_map false f g e = g e

either_out : {A B C : Type 0} (b : Bool) → (A → C) → (B → C) → Either b A B → C
either_out true f g e = f e
either_out false f g e = g e

either_both : {A B C D E : Type 0} (b : Bool) → (A → C → E) → (B → D → E) → Either b A B → Either b C D → E
either_both true f g e h = f e h
either_both false f g e h = g e h

told_of : (A B : Type 0) (b : Bool) → b ≡ false → Either b A B → B
told_of A B true told e = absurd cc
told_of A B false told e = e

skipped_of : (A B : Type 0) (b : Bool) → b ≡ true → Either b A B → A
skipped_of A B true skipped e = e
skipped_of A B false skipped e = absurd cc

as_told : (A B : Type 0) (b : Bool) → b ≡ false → B → Either b A B
as_told A B true told e = absurd cc
as_told A B false told e = e

as_skipped : (A B : Type 0) (b : Bool) → b ≡ true → A → Either b A B
as_skipped A B true skipped e = e
as_skipped A B false skipped e = absurd cc

-- one more line behind lines that are read
pub reads_skip : (xs : List (List ℕ)) (line : List ℕ) (commands : List Command) → is_skipped line ≡ true → Reads xs commands → Reads (xs ++ line ∷ []) commands
reads_skip [] line commands skipped reads = as_skipped _ _ (is_skipped line) skipped reads
reads_skip (x ∷ xs) line commands skipped reads = either_map (is_skipped x) (λ r. reads_skip xs line commands skipped r) (λ r. (r.0, r.1, r.2, r.3, reads_skip xs line r.1 skipped r.4)) reads

pub reads_told : (xs : List (List ℕ)) (line : List ℕ) (commands : List Command) (command : Command) → is_skipped line ≡ false → Spells command (words_of line) → Reads xs commands → Reads (xs ++ line ∷ []) (commands ++ command ∷ [])
reads_told [] line commands command told spells reads = as_told _ _ (is_skipped line) told (command, [], ap (λ (l : List Command). l ++ command ∷ []) reads, spells, refl)
reads_told (x ∷ xs) line commands command told spells reads = either_map (is_skipped x) (λ r. reads_told xs line commands command told spells r) (λ r. (r.0, r.1 ++ command ∷ [], ap (λ (l : List Command). l ++ command ∷ []) r.2, r.3, reads_told xs line r.1 command told spells r.4)) reads

-- the lines up to one, from an earlier one on
up_to : (lines : List (List ℕ)) (start i : ℕ) → start ≤ i → i < length lines → drop start (take (i + 1) lines) ≡ drop start (take i lines) ++ get_or lines i [] ∷ []
up_to lines start i le lt =
    let long : length (take i lines) ≡ i = length-take-le i lines (omega arith) in
    ap (drop start) (take_more lines i [] lt) ∙ drop-append-le start (take i lines) (get_or lines i [] ∷ []) (omega arith)

-- the same at a line's position
pub skips : (lines : List (List ℕ)) (start i : ℕ) (commands : List Command) → start ≤ i → i < length lines → is_skipped (get_or lines i []) ≡ true → Reads (drop start (take i lines)) commands → Reads (drop start (take (i + 1) lines)) commands
skips lines start i commands le lt skipped reads = subst (λ ls. Reads ls commands) (sym (up_to lines start i le lt)) (reads_skip (drop start (take i lines)) (get_or lines i []) commands skipped reads)

pub reads_on : (lines : List (List ℕ)) (start i : ℕ) (commands : List Command) (command : Command) → start ≤ i → i < length lines → is_skipped (get_or lines i []) ≡ false → Spells command (words_of (get_or lines i [])) → Reads (drop start (take i lines)) commands → Reads (drop start (take (i + 1) lines)) (commands ++ command ∷ [])
reads_on lines start i commands command le lt told spells reads = subst (λ ls. Reads ls (commands ++ command ∷ [])) (sym (up_to lines start i le lt)) (reads_told (drop start (take i lines)) (get_or lines i []) commands command told spells reads)

-- behind the last line all were read
pub reads_all : (lines : List (List ℕ)) (start i : ℕ) (commands : List Command) → length lines ≤ i → Reads (drop start (take i lines)) commands → Reads (drop start lines) commands
reads_all lines start i commands le reads = subst (λ (ls : List (List ℕ)). Reads (drop start ls) commands) (take_all i lines le) reads

-- lines that are skipped, and one more
skipped_more : (xs : List (List ℕ)) (line : List ℕ) → AreSkipped xs → is_skipped line ≡ true → AreSkipped (xs ++ line ∷ [])
skipped_more [] line are skipped = (skipped, tt)
skipped_more (x ∷ xs) line are skipped = (are.0, skipped_more xs line are.1 skipped)

pub skipped_to : (lines : List (List ℕ)) (i : ℕ) → i < length lines → is_skipped (get_or lines i []) ≡ true → AreSkipped (take i lines) → AreSkipped (take (i + 1) lines)
skipped_to lines i lt skipped are = subst AreSkipped (sym (take_more lines i [] lt)) (skipped_more (take i lines) (get_or lines i []) are skipped)

-- the lines before one that names the nodes, that line, and the commands behind it
pub parts_at : (lines : List (List ℕ)) (first honest : ℕ) (liars : List Kind) (commands : List Command) → first < length lines → AreSkipped (take first lines) → is_skipped (get_or lines first []) ≡ false → SpellsNodes honest liars (words_of (get_or lines first [])) → Reads (drop (suc first) lines) commands → SpellsParts lines honest liars commands
parts_at [] first honest liars commands lt are told nodes reads = absurd (omega arith)
parts_at (x ∷ xs) zero honest liars commands lt are told nodes reads = as_told _ _ (is_skipped x) told (nodes, reads)
parts_at (x ∷ xs) (suc n) honest liars commands lt are told nodes reads = as_skipped _ _ (is_skipped x) are.0 (parts_at xs n honest liars commands (omega arith) are.1 told nodes reads)

pub parts_of : (lines : List (List ℕ)) (first honest : ℕ) (liars : List Kind) (commands : List Command) → first < length lines → AreSkipped (take first lines) → is_skipped (get_or lines first []) ≡ false → SpellsNodes honest liars (words_of (get_or lines first [])) → Reads (drop (first + 1) lines) commands → SpellsParts lines honest liars commands
parts_of lines first honest liars commands lt are told nodes reads = let next : first + 1 ≡ suc first = omega arith in parts_at lines first honest liars commands lt are told nodes (subst (λ (n : ℕ). Reads (drop n lines) commands) next reads)

-- the lines before one, it, and those behind it
round : (lines : List (List ℕ)) (i : ℕ) → i < length lines → lines ≡ take i lines ++ get_or lines i [] ∷ drop (suc i) lines
round lines i lt = sym (take-append-drop i lines) ∙ ap (λ (l : List (List ℕ)). take i lines ++ l) (drop-cons lines i [] lt)

-- why lines are no script
pub refused_all : (lines : List (List ℕ)) (i : ℕ) → length lines ≤ i → AreSkipped (take i lines) → IsNoScript lines 1
refused_all lines i le are = says_nothing (subst AreSkipped (take_all i lines le) are)

pub refused_nodes : (lines : List (List ℕ)) (i : ℕ) → i < length lines → AreSkipped (take i lines) → is_skipped (get_or lines i []) ≡ false → NameNoNodes (words_of (get_or lines i [])) → IsNoScript lines (i + 1)
refused_nodes lines i lt are told none =
    let long : length (take i lines) ≡ i = length-take-le i lines (omega arith) in
    subst (λ (ls : List (List ℕ)). IsNoScript ls (i + 1)) (sym (round lines i lt)) (subst (λ (n : ℕ). IsNoScript (take i lines ++ get_or lines i [] ∷ drop (suc i) lines) (n + 1)) long (names_no_nodes (take i lines) (get_or lines i []) (drop (suc i) lines) are told none))

pub fails_at : (lines : List (List ℕ)) (start i : ℕ) (commands : List Command) → start ≤ i → i < length lines → Reads (drop start (take i lines)) commands → is_skipped (get_or lines i []) ≡ false → SpellNoCommand (words_of (get_or lines i [])) → FailsToRead start lines (i + 1)
fails_at lines start i commands le lt reads told none =
    let long : length (take i lines) ≡ i = length-take-le i lines (omega arith) in
    record {
      before = take i lines;
      line = get_or lines i [];
      rest = drop (suc i) lines;
      commands = commands;
      parts = round lines i lt;
      number_is = ap (λ (n : ℕ). n + 1) (sym long);
      after = omega arith;
      reads = reads;
      told = told;
      none = none;
    }

pub refused_command : (lines : List (List ℕ)) (first honest : ℕ) (liars : List Kind) (number : ℕ) → first < length lines → AreSkipped (take first lines) → is_skipped (get_or lines first []) ≡ false → SpellsNodes honest liars (words_of (get_or lines first [])) → FailsToRead (first + 1) lines number → IsNoScript lines number
refused_command lines first honest liars number lt are told nodes fails =
    let after : first + 1 ≤ length fails.before = fails.after in
    let low : first < length fails.before = omega arith in
    let front : take first lines ≡ take first fails.before = ap (take first) fails.parts ∙ take-append-le first fails.before (fails.line ∷ fails.rest) (omega arith) in
    let same : get_or lines first [] ≡ get_or fails.before first [] = ap (λ (l : List (List ℕ)). get_or l first []) fails.parts ∙ get_or-append fails.before (fails.line ∷ fails.rest) [] first low in
    let parts : SpellsParts fails.before honest liars fails.commands = parts_of fails.before first honest liars fails.commands low (subst AreSkipped front are) (ap is_skipped (sym same) ∙ told) (subst (λ (l : List ℕ). SpellsNodes honest liars (words_of l)) same nodes) fails.reads in
    subst (λ (n : ℕ). IsNoScript lines n) (sym fails.number_is) (subst (λ (ls : List (List ℕ)). IsNoScript ls (length fails.before + 1)) (sym fails.parts) (spells_no_command fails.before fails.line fails.rest honest liars fails.commands parts fails.told fails.none))

-- a line that spells no command stands in no lines that are read
none_read : (xs : List (List ℕ)) (line : List ℕ) (rest : List (List ℕ)) (commands : List Command) → is_skipped line ≡ false → SpellNoCommand (words_of line) → Reads (xs ++ line ∷ rest) commands → ⊥
none_read [] line rest commands told none reads = let r = told_of _ _ (is_skipped line) told reads in none r.0 r.3
none_read (x ∷ xs) line rest commands told none reads = either_out (is_skipped x) (λ r. none_read xs line rest commands told none r) (λ r. none_read xs line rest r.1 told none r.4) reads

no_script_then : (xs : List (List ℕ)) (line : List ℕ) (rest : List (List ℕ)) (honest other : ℕ) (liars others : List Kind) (commands all : List Command) → SpellsParts xs honest liars commands → is_skipped line ≡ false → SpellNoCommand (words_of line) → SpellsParts (xs ++ line ∷ rest) other others all → ⊥
no_script_then [] line rest honest other liars others commands all parts told none spells = absurd parts
no_script_then (x ∷ xs) line rest honest other liars others commands all parts told none spells = either_both (is_skipped x) (λ p s. no_script_then xs line rest honest other liars others commands all p told none s) (λ p s. none_read xs line rest all told none s.1) parts spells

no_script_first : (xs : List (List ℕ)) (line : List ℕ) (rest : List (List ℕ)) (honest : ℕ) (liars : List Kind) (commands : List Command) → AreSkipped xs → is_skipped line ≡ false → NameNoNodes (words_of line) → SpellsParts (xs ++ line ∷ rest) honest liars commands → ⊥
no_script_first [] line rest honest liars commands are told none spells = none honest liars (told_of _ _ (is_skipped line) told spells).0
no_script_first (x ∷ xs) line rest honest liars commands are told none spells = no_script_first xs line rest honest liars commands are.1 told none (skipped_of _ _ (is_skipped x) are.0 spells)

no_script_none : (lines : List (List ℕ)) (honest : ℕ) (liars : List Kind) (commands : List Command) → AreSkipped lines → SpellsParts lines honest liars commands → ⊥
no_script_none [] honest liars commands are spells = spells
no_script_none (x ∷ xs) honest liars commands are spells = no_script_none xs honest liars commands are.1 (skipped_of _ _ (is_skipped x) are.0 spells)

-- lines that are no script spell none
pub spells_none : (lines : List (List ℕ)) (number honest : ℕ) (liars : List Kind) (commands : List Command) → IsNoScript lines number → SpellsParts lines honest liars commands → ⊥
spells_none lines number honest liars commands (says_nothing are) spells = no_script_none lines honest liars commands are spells
spells_none _ _ honest liars commands (names_no_nodes before line rest are told none) spells = no_script_first before line rest honest liars commands are told none spells
spells_none _ _ honest liars commands (spells_no_command before line rest first kinds some parts told none) spells = no_script_then before line rest first honest kinds liars some commands parts told none spells

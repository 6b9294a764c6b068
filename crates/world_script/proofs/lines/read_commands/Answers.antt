use Rattle.std.proofs.Common.{◌≡◌, ℕ, ◌+◌, ◌<◌, ◌≤◌, List, [], ◌∷◌, ◌++◌, Bor, Err, false, true, arith, drop, length, map, take, get_or, ap, subst, sym, ◌∙◌}
use Rattle.std.proofs.lemmas.List.{get_or-map, length-map}
use Rattle.world_script.specs.declared.command.Command.{Command}
use Rattle.world_script.specs.Script.{Reads, Spells, is_skipped, words_of}
use Rattle.world_script.specs.Refused.{FailsToRead, SpellNoCommand}
use Rattle.world_script.specs.declared.error.ScriptError.TheVariants.{BadScript}
use Rattle.world_script.proofs.Naming.{error_line}
use Rattle.world_script.proofs.Reading.{fails_at, reads_all, reads_on, skips}
use Rattle.world_script.proofs.lines.read_commands.Goals as goal

pub loop-index-preserved-then-is_skipped : goal.loop-index-preserved-then-is_skipped
loop-index-preserved-then-is_skipped c =
    let now : Bor (List ℕ) → List ℕ = λ x. x.now in
    let lines : List (Bor (List ℕ)) = c.args.lines.now in
    let i : ℕ = c.loop-index.index in
    let lt : i < length (map now lines) = subst (λ n. i < n) (sym (length-map lines now)) c.loop-index-test.true in
    let skipped : is_skipped (get_or (map now lines) i []) ≡ true = ap is_skipped (get_or-map now lines i _ [] c.loop-index-test.true) ∙ sym c.is_skipped.ensures ∙ c.if-is_skipped.true in
    skips (map now lines) c.args.from i c.loop-index.commands.items (omega arith) lt skipped c.loop-index.invariant

pub loop-index-preserved : goal.loop-index-preserved
loop-index-preserved c =
    let now : Bor (List ℕ) → List ℕ = λ x. x.now in
    let lines : List (Bor (List ℕ)) = c.args.lines.now in
    let i : ℕ = c.loop-index.index in
    let command : Command = c.in-Ok.command in
    let lt : i < length (map now lines) = subst (λ n. i < n) (sym (length-map lines now)) c.loop-index-test.true in
    let told : is_skipped (get_or (map now lines) i []) ≡ false = ap is_skipped (get_or-map now lines i _ [] c.loop-index-test.true) ∙ sym c.is_skipped.ensures ∙ c.if-is_skipped.false in
    let spells : Spells command (words_of (get_or (map now lines) i [])) = subst (λ (l : List ℕ). Spells command (words_of l)) (sym (get_or-map now lines i _ [] c.loop-index-test.true)) c.in-Ok.ensures.value in
    let all : Reads (drop c.args.from (take (i + 1) (map now lines))) (c.loop-index.commands.items ++ command ∷ []) = reads_on (map now lines) c.args.from i c.loop-index.commands.items command (omega arith) lt told spells c.loop-index.invariant in
    subst (Reads (drop c.args.from (take (i + 1) (map now lines)))) (sym c.in_ok-push-in-Ok.ensures.items) all

pub returns-clause-value : goal.returns-clause-value
returns-clause-value c =
    let now : Bor (List ℕ) → List ℕ = λ x. x.now in
    let lines : List (List ℕ) = map now c.args.lines.now in
    let past : length lines ≤ c.loop-index.index = omega (arith, c.loop-index-test.false, length-map c.args.lines.now now) in
    reads_all lines c.args.from c.loop-index.index c.loop-index.commands.items past c.loop-index.invariant

pub returns-in-Err-clause-refused : goal.returns-in-Err-clause-refused
returns-in-Err-clause-refused c = λ number bad.
    let now : Bor (List ℕ) → List ℕ = λ x. x.now in
    let lines : List (Bor (List ℕ)) = c.args.lines.now in
    let i : ℕ = c.loop-index.index in
    let lt : i < length (map now lines) = subst (λ n. i < n) (sym (length-map lines now)) c.loop-index-test.true in
    let same : c.at.result ≡ BadScript number = cc in
    let at = error_line c.in-Err.error i number (sym c.at.ensures ∙ same) in
    let told : is_skipped (get_or (map now lines) i []) ≡ false = ap is_skipped (get_or-map now lines i _ [] c.loop-index-test.true) ∙ sym c.is_skipped.ensures ∙ c.if-is_skipped.false in
    let none : SpellNoCommand (words_of (get_or (map now lines) i [])) = subst (λ (l : List ℕ). SpellNoCommand (words_of l)) (sym (get_or-map now lines i _ [] c.loop-index-test.true)) (c.in-Err.ensures.none (ap Err at.0)) in
    subst (FailsToRead c.args.from (map now lines)) (sym at.1) (fails_at (map now lines) c.args.from i c.loop-index.commands.items (omega arith) lt c.loop-index.invariant told none)

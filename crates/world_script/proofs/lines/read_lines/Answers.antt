use Rattle.std.proofs.Common.{◌≡◌, ℕ, ◌<◌, ◌≤◌, List, [], Bor, arith, true, length, map, get_or, ap, subst, sym, ◌∙◌}
use Rattle.std.proofs.lemmas.List.{get_or-map, length-map}
use Rattle.world_script.specs.Script.{is_skipped}
use Rattle.world_script.specs.Refused.{IsNoScript}
use Rattle.world_script.proofs.Reading.{refused_all, skipped_to}
use Rattle.world_script.proofs.lines.read_lines.Goals as goal

pub loop-first-preserved : goal.loop-first-preserved
loop-first-preserved c =
    let now : Bor (List ℕ) → List ℕ = λ x. x.now in
    let lines : List (Bor (List ℕ)) = c.args.lines.now in
    let i : ℕ = c.loop-first.first in
    let lt : i < length (map now lines) = subst (λ n. i < n) (sym (length-map lines now)) c.loop-first-test.true in
    let skipped : is_skipped (get_or (map now lines) i []) ≡ true = ap is_skipped (get_or-map now lines i _ [] c.loop-first-test.true) ∙ sym c.is_skipped.ensures ∙ c.if-not-is_skipped.false in
    skipped_to (map now lines) i lt skipped c.loop-first.invariant

pub returns-clause-refused : goal.returns-clause-refused
returns-clause-refused c = λ number bad.
    let now : Bor (List ℕ) → List ℕ = λ x. x.now in
    let lines : List (List ℕ) = map now c.args.lines.now in
    let past : length lines ≤ c.loop-first.first = omega (arith, c.loop-first-test.false, length-map c.args.lines.now now) in
    let one : 1 ≡ number = cc in
    subst (IsNoScript lines) one (refused_all lines c.loop-first.first past c.loop-first.invariant)

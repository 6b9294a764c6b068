use Rattle.std.proofs.Common.{◌≡◌, ℕ, ◌<◌, List, [], Bor, rules, Err, length, map, get_or, ap, subst, sym, ◌∙◌}
use Rattle.std.proofs.lemmas.List.{get_or-map, length-map}
use Rattle.world_script.specs.declared.error.ScriptError.TheVariants.{BadScript}
use Rattle.world_script.specs.Refused.{IsNoScript, NameNoNodes}
use Rattle.world_script.specs.Script.{SpellsNodes, words_of}
use Rattle.world_script.proofs.Naming.{error_line}
use Rattle.world_script.proofs.Reading.{parts_of, refused_command, refused_nodes}
use Rattle.world_script.proofs.lines.read_from.Goals as goal

pub returns-in_err-read_commands-in-Ok-clause-refused : goal.returns-in_err-read_commands-in-Ok-clause-refused
returns-in_err-read_commands-in-Ok-clause-refused c = λ number bad.
    let now : Bor (List ℕ) → List ℕ = λ x. x.now in
    let lines : List (Bor (List ℕ)) = c.args.lines.now in
    let i : ℕ = c.args.first in
    let lt : i < length (map now lines) = subst (λ n. i < n) (sym (length-map lines now)) c.requires.at in
    let nodes : SpellsNodes c.in-Ok.field-0.honest c.in-Ok.field-0.liars.items (words_of (get_or (map now lines) i [])) = subst (λ (l : List ℕ). SpellsNodes c.in-Ok.field-0.honest c.in-Ok.field-0.liars.items (words_of l)) (sym (get_or-map now lines i _ [] c.requires.at)) c.in-Ok.ensures.value in
    let refused : c.read_commands.result ≡ Err (BadScript number) = search rules in
    refused_command (map now lines) i c.in-Ok.field-0.honest c.in-Ok.field-0.liars.items number lt c.requires.before c.requires.counts nodes (c.read_commands.ensures.refused number refused)

pub returns-in_ok-read_commands-in-Ok-clause-script : goal.returns-in_ok-read_commands-in-Ok-clause-script
returns-in_ok-read_commands-in-Ok-clause-script c =
    let now : Bor (List ℕ) → List ℕ = λ x. x.now in
    let lines : List (Bor (List ℕ)) = c.args.lines.now in
    let i : ℕ = c.args.first in
    let lt : i < length (map now lines) = subst (λ n. i < n) (sym (length-map lines now)) c.requires.at in
    let nodes : SpellsNodes c.in-Ok.field-0.honest c.in-Ok.field-0.liars.items (words_of (get_or (map now lines) i [])) = subst (λ (l : List ℕ). SpellsNodes c.in-Ok.field-0.honest c.in-Ok.field-0.liars.items (words_of l)) (sym (get_or-map now lines i _ [] c.requires.at)) c.in-Ok.ensures.value in
    parts_of (map now lines) i c.in-Ok.field-0.honest c.in-Ok.field-0.liars.items c.in_ok-read_commands-in-Ok.field-0.items lt c.requires.before c.requires.counts nodes c.in_ok-read_commands-in-Ok.ensures.value

pub returns-in-Err-clause-refused : goal.returns-in-Err-clause-refused
returns-in-Err-clause-refused c = λ number bad.
    let now : Bor (List ℕ) → List ℕ = λ x. x.now in
    let lines : List (Bor (List ℕ)) = c.args.lines.now in
    let i : ℕ = c.args.first in
    let lt : i < length (map now lines) = subst (λ n. i < n) (sym (length-map lines now)) c.requires.at in
    let same : c.at.result ≡ BadScript number = cc in
    let at = error_line c.in-Err.error i number (sym c.at.ensures ∙ same) in
    let none : NameNoNodes (words_of (get_or (map now lines) i [])) = subst (λ (l : List ℕ). NameNoNodes (words_of l)) (sym (get_or-map now lines i _ [] c.requires.at)) (c.in-Err.ensures.none (ap Err at.0)) in
    subst (IsNoScript (map now lines)) (sym at.1) (refused_nodes (map now lines) i lt c.requires.before c.requires.counts none)

use Rattle.std.proofs.Common.{Bor, List, ℕ, ap, map, ◌++◌, ◌∙◌}
use Rattle.std.proofs.lemmas.Result.{IfOk-weaker}
use Rattle.grid_lists.specs.Puts.{listed}
use Rattle.grid_lists.proofs.ListLemmas.{list_cut, list_put, listed_as}
use Rattle.grid_shares.specs.Puts.{said_by}
use Rattle.grid_lists.proofs.putting.put_listed.Goals as goal

pub returns-clause-done : goal.returns-clause-done
returns-clause-done g c =
    let now = λ (f : Bor (List ℕ)). f.now in
    let same = ap (map now) c.as_slice-2.ensures.value ∙ c.in_ok-files.ensures ∙ ap (map now) c.as_slice.ensures.value in
    IfOk-weaker c.put_both.result _ _
    (λ status files. listed (list_put _ _ c.args.storing.now.words.now (said_by c.args.storing.now.choices.now) c.args.storing.now.since.now c.args.storing.now.head.now c.requires.line.0 c.args.line.now _ status _ _ _ c.requires.line.1 c.requires.line.2 c.requires.line.3 c.requires.since
    c.in_ok-write_text.ensures.written
    (listed_as _ _ c.args.storing.now.words.now (said_by c.args.storing.now.choices.now) c.args.storing.now.since.now c.args.storing.now.head.now _ _ status _ _ (ap (λ (ns : List (List ℕ)). ns ++ map now c.as_slice-3.result.now) same) files)))
    c.put_both.ensures.listed

pub returns-clause-undone : goal.returns-clause-undone
returns-clause-undone g c =
    let now = λ (f : Bor (List ℕ)). f.now in
    let same = ap (map now) c.as_slice-2.ensures.value ∙ c.in_ok-files.ensures ∙ ap (map now) c.as_slice.ensures.value in
    list_cut _ _ c.args.storing.now.words.now (said_by c.args.storing.now.choices.now) c.args.storing.now.since.now c.args.storing.now.head.now c.requires.line.0 c.args.line.now _ _ c.put_both.result _ _ _
    c.requires.line.1 c.requires.line.2 c.requires.line.3 c.requires.since c.in_ok-write_text.ensures.written (ap (λ (ns : List (List ℕ)). ns ++ map now c.as_slice-3.result.now) same) c.put_both.ensures.undone

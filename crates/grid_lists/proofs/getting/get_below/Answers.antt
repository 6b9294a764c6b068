use Rattle.std.proofs.Common.{List, ℕ, ◌++◌, ap, codes, inl, refl, ◌∙◌}
use Rattle.std.specs.Prelude.{is_some}
use Rattle.grid_lists.proofs.GetLemmas.{part_at, written_at}
use Rattle.grid_lists.proofs.getting.get_below.Goals as goal

pub returns-in-Ok-clause-ok : goal.returns-in-Ok-clause-ok
returns-in-Ok-clause-ok g c =
    written_at _ c.args.words.now (is_some c.args.kept.now) c.args.cap c.as_str-2.result.now c.args.name.now
    (c.as_str-2.ensures.value ∙ c.in_ok-path.ensures ∙ ap (λ (n : List ℕ). c.args.words.now.into.now ++ (codes "/" ++ n)) c.in_ok-name.ensures) _ _ c.in-Ok.ensures.file

pub returns-clause-err : goal.returns-clause-err
returns-clause-err g c =
    part_at _ c.args.words.now (is_some c.args.kept.now) c.args.cap c.as_str-2.result.now c.args.name.now
    (c.as_str-2.ensures.value ∙ c.in_ok-path.ensures ∙ ap (λ (n : List ℕ). c.args.words.now.into.now ++ (codes "/" ++ n)) c.in_ok-name.ensures) _ _ c.in-Err.ensures.part

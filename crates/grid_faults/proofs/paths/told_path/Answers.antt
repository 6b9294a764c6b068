use Rattle.std.proofs.Common.{◌∙◌, ◌++◌, ap₂, sym}
use Rattle.std.proofs.Common.{List, ℕ, encode_utf8}
use Rattle.grid_faults.proofs.Told.{told_more}
use Rattle.grid_faults.proofs.paths.told_path.Goals as goal

pub loop-letter-preserved : goal.loop-letter-preserved
loop-letter-preserved c =
    c.in_ok-push.ensures.bytes
    ∙ ap₂ (λ (xs : List ℕ) (x : ℕ). xs ++ encode_utf8 x) c.loop-letter.invariant c.told_char.ensures
    ∙ sym (told_more c.loop-letter.yielded c.in-Some.letter)

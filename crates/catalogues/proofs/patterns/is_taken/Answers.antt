use Rattle.catalogues.proofs.PatternLaws.{end_told, itself_told, shorter_told, taken_by, whole_told}
use Rattle.std.proofs.Common.{[], ◌∷◌, refl}
use Rattle.catalogues.proofs.patterns.is_taken.Goals as goal

pub returns : goal.returns
returns c = λ name row old.
    let end = c.args.end.now in
    let first = c.args.first in
    taken_by name c.args.byte first end _ _ _ _ c.answer.result c.answer.ensures (itself_told c.args.row.now _ end row) (shorter_told c.args.old.now name end first old)
    (whole_told c.args.old.now name end first old) (c.is_quoted-behind.ensures name (end_told c.args.old.now name (first ∷ end) (first ∷ []) end refl old))

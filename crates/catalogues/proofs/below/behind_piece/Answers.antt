use Rattle.std.proofs.Common.{inl, inr, refl, codes}
use Rattle.catalogues.proofs.below.behind_piece.Goals as goal

pub returns-in-Some : goal.returns-in-Some
returns-in-Some c = (codes "/", (inl refl, c.in-Some.ensures))

pub returns-in-Some-behind : goal.returns-in-Some-behind
returns-in-Some-behind c = (codes "./", (inr refl, c.in-Some-behind.ensures))

-- A course with one turn more.
use Rattle.std.proofs.Common.{List, [], ◌∷◌, ◌++◌, refl, subst}
use Rattle.local_grid.specs.Turns.{Course}

pub course_more : {A : Type 0} (turn : A → A → Type 0) (first mid last : A) (states : List A) → Course turn first states mid → turn mid last → Course turn first (states ++ last ∷ []) last
course_more turn first mid last [] same t = (subst (λ x. turn x last) same t, refl)
course_more turn first mid last (next ∷ states) c t = (c.0, course_more turn next mid last states c.1 t)

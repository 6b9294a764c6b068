use Rattle.std.proofs.Common.{◌∷◌, sym, ◌∙◌, codes}
use Rattle.std.proofs.lemmas.Bool.{false≢true}
use Rattle.std.proofs.lemmas.List.{append_cancel_left}
use Rattle.catalogues.proofs.HeadLaws.{letters_end, letters_fit}
use Rattle.catalogues.proofs.head.read_fingerprint.Goals as goal

pub returns-then-rest-lt26-clause-only : goal.returns-then-rest-lt26-clause-only
returns-then-rest-lt26-clause-only c = λ bytes rest are same.
    let first = append_cancel_left (codes " under ") _ _ (sym c.in-Some.ensures ∙ same) in
    letters_fit bytes (10 ∷ rest) c.in-Some.rest.now are.len first c.if-rest-lt26.true

pub returns-then-not-from_base32-clause-only : goal.returns-then-not-from_base32-clause-only
returns-then-not-from_base32-clause-only c = λ bytes rest are same.
    let first = append_cancel_left (codes " under ") _ _ (sym c.in-Some.ensures ∙ same) in
    let ends = letters_end bytes (10 ∷ rest) c.in-Some.rest.now are.len first in
    false≢true (c.if-not-from_base32.ensures.only bytes are (c.split_at.ensures.front ∙ ends.0)).0

pub returns-in_default-behind-clause-only : goal.returns-in_default-behind-clause-only
returns-in_default-behind-clause-only c = λ bytes rest are same.
    let first = append_cancel_left (codes " under ") _ _ (sym c.in-Some.ensures ∙ same) in
    let ends = letters_end bytes (10 ∷ rest) c.in-Some.rest.now are.len first in
    c.in_default-behind.ensures rest (c.split_at.ensures.back ∙ ends.1)

pub returns-clause-only : goal.returns-clause-only
returns-clause-only c = λ bytes rest are same.
    let first = append_cancel_left (codes " under ") _ _ (sym c.in-Some.ensures ∙ same) in
    let ends = letters_end bytes (10 ∷ rest) c.in-Some.rest.now are.len first in (
      (c.if-not-from_base32.ensures.only bytes are (c.split_at.ensures.front ∙ ends.0)).1,
      append_cancel_left (codes "\n") _ _ (sym c.in-Some-behind.ensures ∙ c.split_at.ensures.back ∙ ends.1),
    )

use Rattle.std.proofs.Common.{refl}
use Rattle.catalogues.proofs.reading.Catalogue.open.Goals as goal

pub returns-in_default-clause-only : goal.returns-in_default-clause-only
returns-in_default-clause-only c = λ head rest begins. c.in_default.ensures.only head rest begins.is_head begins.is

pub returns-in_default-clause-refused : goal.returns-in_default-clause-refused
returns-in_default-clause-refused c = (
  λ _ head rest begins. c.in_default.ensures.only head rest begins.is_head begins.is,
  λ _. refl,
)

pub returns-clause-only : goal.returns-clause-only
returns-clause-only c = λ head rest begins. c.in-Some.ensures.only head rest begins.is_head begins.is

pub returns-clause-refused : goal.returns-clause-refused
returns-clause-refused c = (
  λ refused. cc refused,
  λ none. absurd (none _ _ (record { is_head = c.in-Some.ensures.found.0; is = c.in-Some.ensures.found.1 })),
)

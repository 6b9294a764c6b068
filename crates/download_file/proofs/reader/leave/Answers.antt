use Rattle.std.proofs.Common.{◌≡◌, ◌∙◌, ◌<◌, inl, inr, ℕ, List, All, Contains, ap, refl, subst, sym, length, slice_get}
use Rattle.std.proofs.lemmas.List.Elements.{All-contains}
use Rattle.download_file.specs.State.{without}
use Rattle.download_file.specs.Steps.{GivesFirst}
use Rattle.download_file.proofs.EndLemmas.{option_is, option_is_not}
use Rattle.download_file.proofs.ListLemmas.{All-from_contains}
use Rattle.download_file.proofs.LiveLemmas.{from_without}
use Rattle.download_file.proofs.reader.leave.Goals as goal

pub give_first-requires-clause-there : goal.give_first-requires-clause-there
give_first-requires-clause-there c =
    let list : c.deref-then-gave.result.now ≡ without c.args.reader c.args.live.now.items = c.deref-then-gave.ensures.value ∙ c.drop_reader.ensures in
    subst (λ (l : List ℕ). All (λ position. position < length c.args.readers.now.items) l) (sym list)
    (All-from_contains (λ position. position < length c.args.readers.now.items) (without c.args.reader c.args.live.now.items) (λ position among.
    All-contains (λ p. p < length c.args.readers.now.items) c.args.live.now.items position c.requires.there (from_without c.args.reader position c.args.live.now.items among).0))

pub give_first-requires-clause-gives : goal.give_first-requires-clause-gives
give_first-requires-clause-gives c = λ position r among at.
    let list : c.deref-then-gave.result.now ≡ without c.args.reader c.args.live.now.items = c.deref-then-gave.ensures.value ∙ c.drop_reader.ensures in
    c.requires.gives position r (subst (λ (l : List ℕ). Contains l position) list among) at

pub returns-then-gave-clause-leaves : goal.returns-then-gave-clause-leaves
returns-then-gave-clause-leaves c =
    let list : c.deref-then-gave.result.now ≡ without c.args.reader c.args.live.now.items = c.deref-then-gave.ensures.value ∙ c.drop_reader.ensures in
    let first_is : c.copied.result ≡ slice_get c.args.live.now.items 0 = c.copied.ensures ∙ c.first.ensures.value ∙ ap (λ (l : List ℕ). slice_get l 0) c.deref.ensures.value in
    inr (
      sym first_is ∙ option_is c.copied.result c.args.reader (sym c.eq-gave.ensures ∙ c.if-gave.true),
      subst (λ (l : List ℕ). GivesFirst c.args.readers.now.items l c.args.taken.now c.give_first.new.readers.items) list c.give_first.ensures,
    )

pub returns-else-gave-clause-leaves : goal.returns-else-gave-clause-leaves
returns-else-gave-clause-leaves c =
    let first_is : c.copied.result ≡ slice_get c.args.live.now.items 0 = c.copied.ensures ∙ c.first.ensures.value ∙ ap (λ (l : List ℕ). slice_get l 0) c.deref.ensures.value in
    inl ((λ e. option_is_not c.copied.result c.args.reader (sym c.eq-gave.ensures ∙ c.if-gave.false) (first_is ∙ e)), refl)

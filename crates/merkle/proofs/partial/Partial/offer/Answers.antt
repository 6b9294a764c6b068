use Rattle.std.proofs.Common.{◌≡◌, ◌⊎◌, ℕ, List, None, Err, nat_eq, ap, refl, subst, sym, ◌∙◌, rules}
use Rattle.std.specs.HashMap.{get}
use Rattle.merkle.specs.Partial.{IsExtended, IsNotConsistent, Known, PartialState, Takes, known_at, known_by, padding, partial_state}
use Rattle.merkle.specs.Taking.{IsKept, IsGrown, IsListed}
use Rattle.merkle.specs.declared.error.OfferError.TheVariants.{NotConsistent}
use Rattle.merkle.proofs.StateLemmas.{known-state, taken_out}
use Rattle.merkle.proofs.partial.Partial.offer.Goals as goal

-- what was added is taken out again
module _ (first told after : Known) (added items : List ℕ) (same : items ≡ added) (grown : IsGrown first added told)
    (out : (q : ℕ) → IsListed items q → after q ≡ None) (rest : (q : ℕ) → (after q ≡ told q) ⊎ IsListed items q) where
  restored : after ≡ first
  restored = λ i q. taken_out first told after items (subst (λ (l : List ℕ). IsGrown first l told) (sym same) grown) out rest q i

pub invariant_of-self : goal.invariant_of-self
invariant_of-self c =
    let kept : (root : List ℕ) → IsKept c.self.inside.padded (padding c.self.inside.padded) root (get nat_eq c.self.inside.nodes)
    → IsKept c.self.inside.padded (padding c.self.inside.padded) root (get nat_eq c.take.new.nodes) = search rules in
    (c.self.invariant.0, c.self.invariant.1, kept c.self.inside.root c.self.invariant.2)

pub returns-in-Ok-clause-taken : goal.returns-in-Ok-clause-taken
returns-in-Ok-clause-taken c =
    let p = c.self.inside in
    let n = p.padded in
    let old = get nat_eq p.nodes in
    let new = get nat_eq c.take.new.nodes in
    let kept : (root : List ℕ) → IsKept n (padding n) root old → IsKept n (padding n) root new = search rules in
    let taken : IsExtended n (known_by (padding n) old) c.args.offers.now (known_by (padding n) new) = search rules in
    let before = known-state p.root n old c.self.invariant.2 in
    let after = known-state p.root n new (kept p.root c.self.invariant.2) in
    let known = subst (λ (k : Known). IsExtended n (known_at (partial_state p.root n old)) c.args.offers.now k) (sym after)
    (subst (λ (k : Known). IsExtended n k c.args.offers.now (known_by (padding n) new)) (sym before) taken) in
    subst (λ (s : PartialState). Takes s c.args.offers.now (partial_state p.root n new)) c.self.view_is
    record { root = refl; leaf_count = refl; known = known }

pub invariant_of-self-in-Err : goal.invariant_of-self-in-Err
invariant_of-self-in-Err c =
    let p = c.self.inside in
    let back = restored (get nat_eq p.nodes) (get nat_eq c.take.new.nodes) (get nat_eq c.take_out.new.nodes) c.take.new.added.items c.deref.result.now
    c.deref.ensures.value c.take.ensures.grown c.take_out.ensures.out c.take_out.ensures.rest in
    (c.self.invariant.0, c.self.invariant.1, subst (λ (k : Known). IsKept p.padded (padding p.padded) p.root k) (sym back) c.self.invariant.2)

pub returns-clause-not_consistent : goal.returns-clause-not_consistent
returns-clause-not_consistent c = λ e.
    let p = c.self.inside in
    let n = p.padded in
    let refused : c.take.result ≡ Err NotConsistent = c.in-Err.is ∙ e in
    let before = known-state p.root n (get nat_eq p.nodes) c.self.invariant.2 in
    subst (λ (s : PartialState). IsNotConsistent s c.args.offers.now) c.self.view_is
    (λ new extended. c.take.ensures.refused refused new (subst (λ (k : Known). IsExtended n k c.args.offers.now new) before extended))

pub returns-clause-unchanged : goal.returns-clause-unchanged
returns-clause-unchanged c =
    let p = c.self.inside in
    let back = restored (get nat_eq p.nodes) (get nat_eq c.take.new.nodes) (get nat_eq c.take_out.new.nodes) c.take.new.added.items c.deref.result.now
    c.deref.ensures.value c.take.ensures.grown c.take_out.ensures.out c.take_out.ensures.rest in
    ap (partial_state p.root p.padded) back ∙ c.self.view_is

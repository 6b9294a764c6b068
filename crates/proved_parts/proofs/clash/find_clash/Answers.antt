use Rattle.std.proofs.Common.{◌≡◌, ℕ, List, Ok, Err, eqb, refl, sym, subst, ◌∙◌}
use Rattle.std.specs.Prelude.{All, Contains, IfOk, Result}
use Rattle.std.proofs.lemmas.Slice.Eq.{slice_eq-Decides}
use Rattle.std.proofs.lemmas.Bool.Decides.{Decides-eqb}
use Rattle.tagged_hash.specs.TaggedHash.{tagged_hash}
use Rattle.tagged_hash.specs.declared.tag.Tag.TheVariants.{ExtensionBlock}
use Rattle.proved_parts.specs.Steps.{Differ}
use Rattle.proved_parts.specs.declared.evidence.EvidencePart.{EvidencePart}
use Rattle.proved_parts.proofs.Differences.{not_both, one_segment}
use Rattle.proved_parts.proofs.clash.find_clash.Goals as goal

if_ok : {T E : Type 0} {P Q : T → Type 0} (r : Result T E) → ((v : T) → P v → Q v) → IfOk r P → IfOk r Q
if_ok (Ok v) f h = f v h
if_ok (Err e) f h = h

pub returns-in_default-clause-found : goal.returns-in_default-clause-found
returns-in_default-clause-found c _ cap a b =
    one_segment c.args.first.now c.args.second.now
    (subst (λ (ps : List EvidencePart). All (λ (p : EvidencePart). All (λ (q : EvidencePart). ¬ Differ p q) c.args.second.now.parts) ps) c.as_slice.ensures
    (subst (λ (qs : List EvidencePart). All (λ (p : EvidencePart). All (λ (q : EvidencePart). ¬ Differ p q) qs) c.as_slice.result.now) c.as_slice-2.ensures (c.in_default.ensures.none refl)))

pub returns-then-eq-clause-found : goal.returns-then-eq-clause-found
returns-then-eq-clause-found c =
    let told = c.in-Some.ensures.some in
    let decides = slice_eq-Decides {E = eqb} Decides-eqb _ _ c.eq.result c.eq.ensures in
    let same = sym c.as_slice-block.ensures ∙ decides.0 c.if-eq.true ∙ c.as_slice-other.ensures in
    if_ok c.clash_of_parts.result
    (λ found never none cap a b.
    absurd
    (not_both cap c.args.first.now c.args.second.now c.in-Some.mine.now c.in-Some.yours.now same (subst (λ (ps : List EvidencePart). Contains ps c.in-Some.mine.now) c.as_slice.ensures told.0)
    (subst (λ (ps : List EvidencePart). Contains ps c.in-Some.yours.now) c.as_slice-2.ensures told.1) told.2 (never none) a b))
    c.clash_of_parts.ensures.none

pub returns-then-eq-clause-none : goal.returns-then-eq-clause-none
returns-then-eq-clause-none c agree =
    let told = c.in-Some.ensures.some in
    absurd
    (told.2.segment
    (agree c.in-Some.mine.now c.in-Some.yours.now (subst (λ (ps : List EvidencePart). Contains ps c.in-Some.mine.now) c.as_slice.ensures told.0)
    (subst (λ (ps : List EvidencePart). Contains ps c.in-Some.yours.now) c.as_slice-2.ensures told.1) told.2.number))

pub returns-clause-found : goal.returns-clause-found
returns-clause-found c =
    if_ok c.clash_of_texts.result
    (λ found differ none cap a b.
    absurd
    (differ none
    (subst (λ (x : List ℕ). tagged_hash ExtensionBlock x ≡ tagged_hash ExtensionBlock c.as_slice-other.result.now) (sym c.as_slice-block.ensures)
    (subst (λ (y : List ℕ). tagged_hash ExtensionBlock c.args.first.now.extension_block ≡ tagged_hash ExtensionBlock y) (sym c.as_slice-other.ensures)
    (a.1.ueb.hash ∙ sym b.1.ueb.hash)))))
    c.clash_of_texts.ensures.none

pub returns-clause-none : goal.returns-clause-none
returns-clause-none c agree =
    let told = c.in-Some.ensures.some in
    absurd
    (told.2.segment
    (agree c.in-Some.mine.now c.in-Some.yours.now (subst (λ (ps : List EvidencePart). Contains ps c.in-Some.mine.now) c.as_slice.ensures told.0)
    (subst (λ (ps : List EvidencePart). Contains ps c.in-Some.yours.now) c.as_slice-2.ensures told.1) told.2.number))

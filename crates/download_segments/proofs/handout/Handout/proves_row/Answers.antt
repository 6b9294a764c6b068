use Rattle.std.proofs.Common.{◌≡◌, ◌+◌, ◌<◌, ℕ, inl, inr, List, [], Some, length, map, get_or, ap, subst, sym, ◌∙◌, refl, arith}
use Rattle.std.proofs.lemmas.Bool.{cases_lt, true≢false}
use Rattle.tagged_hash.specs.TaggedHash.{tagged_hash}
use Rattle.tagged_hash.specs.declared.tag.Tag.TheVariants.{CiphertextSegment}
use Rattle.share_layout.specs.Geometry.{segment_count}
use Rattle.download_parts.specs.Trees.{known_leaf}
use Rattle.download_segments.specs.State.{IsHandout, ProvesSegment}
use Rattle.download_segments.proofs.HandoutLemmas.{valid_of}
use Rattle.download_segments.proofs.RowLemmas.{nth_map, row_length, row_there}
use Rattle.download_segments.proofs.handout.Handout.proves_row.Goals as goal

pub has_leaf-requires : goal.has_leaf-requires
has_leaf-requires c =
    let h = c.args.self.now in
    let right : IsHandout h = subst IsHandout c.self.view_is c.self.invariant in
    subst (λ (n : ℕ). n < segment_count h.geometry) (sym c.loop-hash.invariant.offset)
    (row_there h c.args.number c.loop-hash.hash-index right c.requires.wanted c.loop-hash-test.true)

pub returns-then-not-has_leaf : goal.returns-then-not-has_leaf
returns-then-not-has_leaf c =
    let i = c.loop-hash.hash-index in
    let h = c.args.self.now in (
      λ yes. absurd (true≢false (sym yes)),
      λ all.
          let own = (all i c.loop-hash-test.true).known in
          sym c.if-not-has_leaf.true ∙ c.has_leaf.ensures.known.1 (ap (known_leaf h.trees.ciphertext) c.loop-hash.invariant.offset ∙ own ∙ ap Some (sym (c.segment_hashes-hashes.ensures c.loop-hash.hash-index c.loop-hash-test.true))),
    )

pub overflow_add-offset : goal.overflow_add-offset
overflow_add-offset c =
    let h = c.args.self.now in
    let offset = c.loop-hash.invariant.offset in
    let right : IsHandout h = subst IsHandout c.self.view_is c.self.invariant in
    let there = row_there h c.args.number c.loop-hash.hash-index right c.requires.wanted c.loop-hash-test.true in
    let few = (valid_of h right).few in
    omega (arith, offset, there, few)

pub loop-hash-preserved : goal.loop-hash-preserved
loop-hash-preserved c =
    let h = c.args.self.now in
    let number : ℕ = c.args.number in
    let segments : List (List ℕ) = map (λ s. s.items) c.args.segments.now in
    let n : ℕ = c.loop-hash.hash-index in
    let k = c.loop-hash.invariant in
    let offset = k.offset in
    let right : IsHandout h = subst IsHandout c.self.view_is c.self.invariant in
    let eight = c.requires.eight in
    let low = c.loop-hash-test.true in
    let long : length (get_or segments n []) ≡ h.geometry.segment_size =
    nth_map (λ s. s.items) (λ l. length l ≡ h.geometry.segment_size) c.args.segments.now c.requires.long n (omega (arith, eight, low)) in
    let known : known_leaf h.trees.ciphertext (number + n) ≡ Some (tagged_hash CiphertextSegment (get_or segments n [])) =
    ap (known_leaf h.trees.ciphertext) (sym offset) ∙ c.has_leaf.ensures.known.0 c.if-not-has_leaf.false ∙ ap Some (c.segment_hashes-hashes.ensures c.loop-hash.hash-index c.loop-hash-test.true) in
    let one : ProvesSegment h (number + n) (get_or segments n []) =
    record { size = long ∙ sym (row_length h number n right c.requires.wanted low); known = known } in
    record {
      offset = omega (arith, offset);
      proves = λ i below. elim (cases_lt i n) [
        | inl less ↦ k.proves i less
        | inr more ↦
            let same : n ≡ i = omega (arith, below, more) in
            subst (λ (j : ℕ). ProvesSegment h (number + j) (get_or segments j [])) same one
      ];
    }

pub returns : goal.returns
returns c =
    let end = c.loop-hash-test.false in
    (λ _ i low. c.loop-hash.invariant.proves i (omega (arith, end, low)), λ _. refl)

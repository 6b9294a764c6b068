use Rattle.std.proofs.Common.{◌≡◌, ℕ, ◌+◌, ◌-◌, ◌*◌, List, [], ◌++◌, length, drop, take, ap, subst, sym, ◌∙◌, arith}
use Rattle.std.proofs.Math.Seq.{take-add}
use Rattle.std.proofs.lemmas.List.{length-drop, length_push, take-append-drop, take_all}
use Rattle.tagged_hash.specs.TaggedHash.{tagged_hash}
use Rattle.tagged_hash.specs.TaggedHasher.{Holds}
use Rattle.tagged_hash.specs.declared.tag.Tag.TheVariants.{Ciphertext}
use Rattle.tagged_hash.specs.Wholes.{AreGiven, IsGivenAt}
use Rattle.tagged_hash.proofs.GivenBytes.{given-push}
use Rattle.file_encoding.specs.Digests.{begun_bytes}
use Rattle.file_encoding.specs.declared.draft.Begun.{Begun}
use Rattle.file_encoding.proofs.digests.hash_beside.Goals as goal

-- all that is left of a text
rest_of : (hashed : ℕ) (text : List ℕ) → take (length text - hashed) (drop hashed text) ≡ drop hashed text
rest_of hashed text = take_all (length text - hashed) (drop hashed text) (omega (arith, length-drop hashed text))

pub loop-group-preserved : goal.loop-group-preserved
loop-group-preserved c =
    let text : List ℕ = c.args.ciphertext.now in
    let begun : List Begun = c.args.begun.now in
    let hashed : ℕ = c.loop-group.hashed in
    let more : ℕ = c.update_beside-hashed.result in
    let wholes = c.loop-group.wholes.items in
    let whole = c.update_beside-hashed.new.self in
    let number : c.loop-group.group ≡ length wholes = sym c.loop-group.invariant.count in
    record {
      within = omega (arith, c.update_beside-hashed.ensures.within, ap length (rest_of hashed text), length-drop hashed text, c.loop-group.invariant.within);
      text =
          subst (Holds c.update_beside-hashed.new.other Ciphertext) (sym (take-add hashed more text))
          (subst (λ (l : List ℕ). Holds c.update_beside-hashed.new.other Ciphertext (take hashed text ++ take more l)) (rest_of hashed text)
          (c.update_beside-hashed.ensures.other Ciphertext (take hashed text) c.loop-group.invariant.text));
      count = ap length c.in_ok-push.ensures.items ∙ length_push wholes whole ∙ ap (λ n. n + 1) c.loop-group.invariant.count;
      given =
          subst (AreGiven (length begun) (begun_bytes begun)) (sym c.in_ok-push.ensures.items)
          (given-push (length begun) (begun_bytes begun) wholes whole c.loop-group.invariant.given
          (λ j low within.
          let here : 7 * c.loop-group.group + j ≡ 7 * length wholes + j = ap (λ n. 7 * n + j) number in
          subst (IsGivenAt whole j) (c.eight_drafts-pieces.ensures j (omega (arith, low)) (omega (arith, here, within)) ∙ ap (begun_bytes begun) here)
          (c.update_beside-hashed.ensures.shares j [] low (c.new-whole.ensures j low (omega (arith, here, within))))));
    }

pub returns-clause-ciphertext : goal.returns-clause-ciphertext
returns-clause-ciphertext c =
    let text : List ℕ = c.args.ciphertext.now in
    let hashed : ℕ = c.loop-group.hashed in
    c.finish.ensures Ciphertext _ (c.update.ensures Ciphertext (take hashed text) c.loop-group.invariant.text)
    ∙ ap (λ (l : List ℕ). tagged_hash Ciphertext (take hashed text ++ l)) (rest_of hashed text)
    ∙ ap (tagged_hash Ciphertext) (take-append-drop hashed text)

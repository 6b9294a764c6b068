use Rattle.std.proofs.Common.{◌≡◌, ℕ, ◌-◌, ◌*◌, ◌<◌, List, ◌++◌, length, drop, take, ap, subst, sym, ◌∙◌, arith}
use Rattle.std.proofs.Math.Seq.{take-add}
use Rattle.std.proofs.lemmas.List.{append_assoc, append-nil, length-drop, take-append-drop, take_all}
use Rattle.tagged_hash.specs.TaggedHash.{tagged_hash}
use Rattle.tagged_hash.specs.TaggedHasher.{Holds}
use Rattle.tagged_hash.specs.declared.tag.Tag.TheVariants.{Block}
use Rattle.tagged_hash.specs.Wholes.{IsGivenAt}
use Rattle.share_gathering.proofs.FewBlocks.{no-block-more, one-block-more, one-front-more}
use Rattle.share_gathering.proofs.few.add_blocks.Goals as goal

pub loop-number-init : goal.loop-number-init
loop-number-init c =
    let row : ℕ → List ℕ = λ i. take c.args.group.row (drop (i * c.args.group.row) c.args.lanes.now) in
    let none : 0 * c.args.size ≡ 0 = omega arith in
    record {
      shares = no-block-more c.args.size row c.args.shares.now;
      whole = λ j given low is. subst (IsGivenAt c.args.whole.now j) (sym (append-nil given) ∙ ap (λ n. given ++ take n (row j)) (sym none)) is;
      within = omega arith;
      other = λ tag text held. subst (Holds c.args.other.now tag) (sym (append-nil text)) held;
    }

pub loop-number-preserved : goal.loop-number-preserved
loop-number-preserved c =
    let size : ℕ = c.args.size in
    let n : ℕ = c.loop-number.number in
    let row : ℕ → List ℕ = λ i. take c.args.group.row (drop (i * c.args.group.row) c.args.lanes.now) in
    let given : ℕ = c.loop-number.given in
    let beside : List ℕ = c.args.beside.now in
    let len : ℕ = c.update_hashing-hashed.result.len in
    let tail : take (length beside - given) (drop given beside) ≡ drop given beside = take_all (length beside - given) (drop given beside) (omega (arith, length-drop given beside)) in
    record {
      shares =
          one-block-more n size row c.update_hashing-hashed.result.blocks c.args.shares.now c.loop-number.shares c.push_hashes.new.shares c.loop-number.invariant.shares c.in_ok-push_hashes.ensures
          (λ j low. let few : j < 3 = omega (arith, low, c.requires.few) in
          c.update_hashing-hashed.ensures.blocks j few ∙ ap (tagged_hash Block) (c.blocks_at-blocks.ensures j few));
      whole = λ j text low is.
          subst (IsGivenAt c.update_hashing-hashed.new.self j) (one-front-more n size text (row j))
          (subst (λ (block : List ℕ). IsGivenAt c.update_hashing-hashed.new.self j ((text ++ take (n * size) (row j)) ++ block)) (c.blocks_at-blocks.ensures j low)
          (c.update_hashing-hashed.ensures.shares j (text ++ take (n * size) (row j)) low (c.loop-number.invariant.whole j text low is)));
      within = omega (arith, c.update_hashing-hashed.ensures.len, ap length tail, length-drop given beside, c.loop-number.invariant.within);
      other = λ tag text held.
          subst (λ (t : List ℕ). Holds c.update_hashing-hashed.new.other tag (text ++ t)) (sym (take-add given len beside))
          (subst (Holds c.update_hashing-hashed.new.other tag) (append_assoc text (take given beside) (take len (drop given beside)))
          (subst (λ (l : List ℕ). Holds c.update_hashing-hashed.new.other tag ((text ++ take given beside) ++ take len l)) tail
          (c.update_hashing-hashed.ensures.other tag (text ++ take given beside) (c.loop-number.invariant.other tag text held))));
    }

pub returns-clause-other : goal.returns-clause-other
returns-clause-other c = λ tag text held.
    let given : ℕ = c.loop-number.given in
    let beside : List ℕ = c.args.beside.now in
    let tail : take (length beside - given) (drop given beside) ≡ drop given beside = take_all (length beside - given) (drop given beside) (omega (arith, length-drop given beside)) in
    subst (λ (t : List ℕ). Holds c.update.new.self tag (text ++ t)) (take-append-drop given beside)
    (subst (Holds c.update.new.self tag) (append_assoc text (take given beside) (drop given beside))
    (subst (λ (l : List ℕ). Holds c.update.new.self tag ((text ++ take given beside) ++ l)) tail
    (c.update.ensures tag (text ++ take given beside) (c.loop-number.invariant.other tag text held))))

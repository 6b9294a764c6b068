use Rattle.std.proofs.Common.{◌≡◌, ◌*◌, ℕ, List, drop, take, sym, ap, ◌∙◌, arith, length-take-le}
use Rattle.sha2.specs.Sha256.{compress, hash_after}
use Rattle.sha2.proofs.Absorbing256.{hash_after_next}
use Rattle.sha2_lanes.specs.Lanes.{text}
use Rattle.sha2_lanes.proofs.StreamLemmas.{hash_after-take}
use Rattle.sha2_lanes.proofs.side_by_side.add_groups.Goals as goal

pub loop-i-init : goal.loop-i-init
unfolding hash_after
loop-i-init c = record {
  vectors = c.lanes_of-lanes.ensures.vectors;
  hashes = λ j s below there. c.lanes_of-lanes.ensures.lanes j below ∙ c.hashes_of.ensures j s below there;
}

pub words-requires-clause-room : goal.words-requires-clause-room
words-requires-clause-room c j below = let enough = c.requires.within j below in omega arith

pub loop-i-preserved : goal.loop-i-preserved
loop-i-preserved c =
    let l = c.loop-i in
    let at : 64 * l.i ≡ l.i * 64 = omega arith in
    let block : ℕ → List ℕ = λ j. take 64 (drop (64 * l.i) (text c.args.pieces.now j)) in
    record {
      vectors = c.compress.ensures.vectors;
      hashes = λ j s below there.
          c.compress.ensures.lanes block c.words.ensures j below
          ∙ ap (λ (h : List ℕ). compress h (block j)) (l.invariant.hashes j s below there)
          ∙ ap (λ (k : ℕ). compress (hash_after s.hash (text c.args.pieces.now j) l.i) (take 64 (drop k (text c.args.pieces.now j)))) at
          ∙ sym (hash_after_next s.hash (text c.args.pieces.now j) l.i);
    }

pub returns : goal.returns
returns c = λ j m below edge held.
    let l = c.loop-i in
    let piece : List ℕ = text c.args.pieces.now j in
    let n : ℕ = 512 * c.args.count in
    let enough = c.requires.within j below in
    let done : l.i ≡ 8 * c.args.count = omega arith in
    c.take_hashes.ensures j held.stream m (take n piece) below held.there held.holds edge (length-take-le n piece enough)
    (c.words_of.ensures j below ∙ l.invariant.hashes j held.stream below held.there ∙ ap (hash_after held.stream.hash piece) done
    ∙ sym (hash_after-take held.stream.hash piece n (8 * c.args.count) (omega arith) enough))

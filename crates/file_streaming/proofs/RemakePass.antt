-- How much of a padded ciphertext is gathered.
use Rattle.std.proofs.Common.{◌≡◌, ℕ, ◌+◌, ◌-◌, ◌*◌, ◌≤◌, List, [], ◌++◌, length, take, min, Result, Err, inl, inr, refl, ap, sym, subst, ◌∙◌, arith}
use Rattle.std.specs.Prelude.{IsErrOf}
use Rattle.std.specs.Result.{IsErrAnd}
use Rattle.std.proofs.Math.Seq.{take-append-add}
use Rattle.std.proofs.lemmas.Bool.{cases_lt}
use Rattle.std.proofs.lemmas.Grind.{div_ceil_times}
use Rattle.std.proofs.lemmas.List.{length-append, map-append, nil_from_length, take_all}
use Rattle.std.proofs.lemmas.Result.{err_from_is_err_and}
use Rattle.tagged_hash.specs.TaggedHash.{tagged_hash}
use Rattle.tagged_hash.specs.declared.tag.Tag.TheVariants.{CiphertextSegment}
use Rattle.share_layout.specs.Geometry.{Geometry, IsGeometry, segment_count}
use Rattle.share_layout.specs.Pieces.{pieces}
use Rattle.proved_parts.specs.FileOf.{segment_hashes}
use Rattle.sources.specs.Source.{IsRead}
use Rattle.sources.specs.declared.error.PartFault.{PartFault}
use Rattle.sources.specs.declared.error.PartFault.TheVariants.{Ended, Unreadable}
use Rattle.block_making.proofs.MadeBlocks.{begins-before}
use Rattle.block_making.proofs.ReadRuns.{is_read-append}
use Rattle.share_gathering.specs.Gathered.{Gathered, gathered_none, gathered_segments}
use Rattle.share_gathering.specs.Groups.{IsGroup}
use Rattle.file_streaming.specs.RemakeError.{remake_error_of}
use Rattle.file_streaming.specs.Remaking.{HoldsShares, IsGroupRemade, IsRemakingFrom}
use Rattle.share_gathering.specs.declared.groups.Group.{Group}
use Rattle.file_streaming.specs.declared.remake_error.RemakeError.{RemakeError}
use Rattle.file_streaming.specs.declared.remake_error.RemakeError.TheVariants.{SourceChanged}
use Rattle.file_streaming.specs.declared.remaking.Remaking.{Remaking}
use Rattle.share_gathering.proofs.GroupSteps.{group-end, pieces-append, segments-append}

-- a part that ended is a changed source
pub ended_fault : {T U : Type 0} (r : Result T RemakeError) (f : PartFault) → IsErrAnd r (λ e. e ≡ remake_error_of f) → IsErrOf r SourceChanged → IsErrOf {T = U} (Err f) Ended
ended_fault r Ended answered is = refl
ended_fault r Unreadable answered is = let p = err_from_is_err_and r answered in absurd (cc (p.1, p.2, is))

-- a fault that is told on
pub told-again : {T U : Type 0} (r : Result T RemakeError) (e x : RemakeError) → IsErrAnd r (λ y. y ≡ e) → IsErrOf r x → IsErrOf {T = U} (Err e) x
told-again r e x answered is = let p = err_from_is_err_and r answered in cc (p.1, p.2, is)

-- no more than all of a text is taken
take-min : (n : ℕ) (text : List ℕ) → take (min (length text) n) text ≡ take n text
take-min n text =
    elim (cases_lt n (length text)) [
      | inl low ↦ (let e : min (length text) n ≡ n = omega (arith, low) in ap (λ k. take k text) e)
      | inr all ↦ (let e : min (length text) n ≡ length text = omega (arith, all) in
          ap (λ k. take k text) e ∙ take_all (length text) text (omega arith) ∙ sym (take_all n text (omega (arith, all))))
    ]

module _ {S : Type 0} (gives : S → ℕ → List ℕ → S → Type 0) (old : S) (g : Geometry) (size : ℕ) where
  -- so many segments were read and gathered
  pub record IsRemadeTo (count : ℕ) (x : Remaking) (now : S) : Type 0 where
    pub text : List ℕ
    pub long : length text ≡ min (count * g.segment_size) g.size
    pub read : IsRead gives old 0 text now
    pub leaves : x.leaves.items ≡ segment_hashes (pieces count g.segment_size (take size text))
    pub holds : HoldsShares g (gathered_segments g (pieces count g.segment_size text) (gathered_none g)) x

  pub remade-begin : (x : Remaking) → length x.leaves.items ≡ 0 → HoldsShares g (gathered_none g) x → IsRemadeTo 0 x old
  remade-begin x none holds = record {
    text = [];
    long = omega arith;
    read = record { reads = []; run = refl; consecutive = refl; bytes_are = refl };
    leaves = nil_from_length x.leaves.items none;
    holds = holds;
  }

  -- a group of segments more
  pub remade-more : (group : Group) (x y : Remaking) (now next : S) → IsGroup g group → group.first * g.segment_size ≤ size → IsRemadeTo group.first x now
      → IsGroupRemade gives now g size group x y next → IsRemadeTo (group.first + group.count) y next
  remade-more group x y now next is plain to more =
      let n : ℕ = g.segment_size in
      let whole : length to.text ≡ group.first * n = omega (arith, to.long, begins-before g group.first is.valid is.some) in
      let left : ℕ = size - group.offset in
      let split : size ≡ length to.text + left = omega (arith, whole, is.offset, plain) in
      let front : take size to.text ≡ to.text = take_all size to.text (omega (arith, whole, plain)) in
      let cut : take size (to.text ++ more.text) ≡ to.text ++ take left more.text = ap (λ k. take k (to.text ++ more.text)) split ∙ take-append-add to.text more.text left in
      let part : take (min group.len left) more.text ≡ take left more.text = ap (λ k. take (min k left) more.text) (sym more.long) ∙ take-min left more.text in
      record {
        text = to.text ++ more.text;
        long = omega (arith, length-append to.text more.text, whole, more.long, group-end g group is);
        read = is_read-append gives old now next 0 group.offset to.text more.text to.read (omega (arith, whole, is.offset)) more.read;
        leaves =
            more.has.leaves ∙ (λ p. (to.leaves p) ++ segment_hashes (pieces group.count n (part p)))
            ∙ ap (λ (t : List ℕ). segment_hashes (pieces group.first n t) ++ segment_hashes (pieces group.count n (take left more.text))) front
            ∙ sym (map-append (tagged_hash CiphertextSegment) (pieces group.first n to.text) (pieces group.count n (take left more.text)))
            ∙ ap segment_hashes (sym (pieces-append group.first group.count n to.text (take left more.text) whole))
            ∙ ap (λ (t : List ℕ). segment_hashes (pieces (group.first + group.count) n t)) (sym cut);
        holds =
            subst (λ (s : Gathered). HoldsShares g s y)
            (sym (ap (λ (l : List (List ℕ)). gathered_segments g l (gathered_none g)) (pieces-append group.first group.count n to.text more.text whole)
            ∙ segments-append g (pieces group.first n to.text) (pieces group.count n more.text) (gathered_none g)))
            (more.has.shares (gathered_segments g (pieces group.first n to.text) (gathered_none g)) to.holds);
      }

  pub remade-all : (count : ℕ) (x : Remaking) (now : S) → IsGeometry g → count ≡ segment_count g → IsRemadeTo count x now → IsRemakingFrom gives old g size x now
  remade-all count x now valid all to =
      let over = (div_ceil_times g.size g.segment_size valid.some_segment).0 in
      let end : min (segment_count g * g.segment_size) g.size ≡ g.size = omega (arith, over) in
      let long : length to.text ≡ g.size = to.long ∙ ap (λ n. min (n * g.segment_size) g.size) all ∙ end in
      record {
        text = to.text;
        pass = record { long = long; read = to.read };
        is = record {
          long = long;
          leaves = to.leaves ∙ ap (λ n. segment_hashes (pieces n g.segment_size (take size to.text))) all;
          holds = subst (λ n. HoldsShares g (gathered_segments g (pieces n g.segment_size to.text) (gathered_none g)) x) all to.holds;
        };
      }

-- How much of a file is gathered.
use Rattle.std.proofs.Common.{◌≡◌, ℕ, ◌+◌, ◌*◌, ◌≤◌, List, [], ◌++◌, length, min, Result, Err, refl, ap, sym, subst, ◌∙◌, arith}
use Rattle.std.specs.Int.{div_ceil}
use Rattle.std.specs.Prelude.{IsErrOf}
use Rattle.std.specs.Result.{IsErrAnd}
use Rattle.std.proofs.lemmas.List.{length-append}
use Rattle.std.proofs.lemmas.Result.{err_from_is_err_and}
use Rattle.sources.specs.declared.error.PartFault.{PartFault}
use Rattle.sources.specs.declared.error.PartFault.TheVariants.{Ended, Unreadable}
use Rattle.file_streaming.specs.PrepareError.{error_of}
use Rattle.file_streaming.specs.declared.error.PrepareError.{PrepareError}
use Rattle.file_streaming.specs.declared.error.PrepareError.TheVariants.{SourceChanged}
use Rattle.std.proofs.lemmas.Grind.{div_ceil_times}
use Rattle.aes_ctr.specs.CounterMode.{xored}
use Rattle.tagged_hash.specs.TaggedHasher.{Holds, HoldsFile}
use Rattle.tagged_hash.specs.declared.tag.Tag.TheVariants.{Ciphertext}
use Rattle.tagged_hash.specs.declared.convergence.KeyHasher.{KeyHasher}
use Rattle.share_layout.specs.Geometry.{Geometry, IsGeometry, segment_count}
use Rattle.share_layout.specs.Pieces.{pieces}
use Rattle.sources.specs.Source.{IsRead}
use Rattle.share_gathering.specs.Gathered.{Gathered, gathered_none, gathered_segments}
use Rattle.file_streaming.specs.Gathering.{HasGathered, IsGatheredFrom, IsGroupGathered}
use Rattle.share_gathering.specs.Groups.{IsGroup, gathered_group}
use Rattle.file_streaming.specs.declared.gathering.Gathering.{Gathering}
use Rattle.block_making.proofs.ReadRuns.{is_read-append}
use Rattle.share_gathering.proofs.GroupSteps.{group-end, segments-group}
use Rattle.share_gathering.proofs.OneByOne.{ciphertext-all, gathered-encrypted, joined-pieces, leaves-all}
use Rattle.share_gathering.specs.Shares.{HoldShares}
use Rattle.tagged_hash.specs.Wholes.{AreGiven}
use Rattle.share_gathering.specs.declared.groups.Group.{Group}
use Rattle.proved_parts.specs.FileOf.{segment_hashes}
use Rattle.block_making.proofs.MadeBlocks.{begins-before}

-- a part that ended is a changed source
pub ended_fault : {T U : Type 0} (r : Result T PrepareError) (f : PartFault) → IsErrAnd r (λ e. e ≡ error_of f) → IsErrOf r SourceChanged → IsErrOf {T = U} (Err f) Ended
ended_fault r Ended answered is = refl
ended_fault r Unreadable answered is = let p = err_from_is_err_and r answered in absurd (cc (p.1, p.2, is))

-- a fault that is told on
pub told-again : {T U : Type 0} (r : Result T PrepareError) (e x : PrepareError) → IsErrAnd r (λ y. y ≡ e) → IsErrOf r x → IsErrOf {T = U} (Err e) x
told-again r e x answered is = let p = err_from_is_err_and r answered in cc (p.1, p.2, is)

-- what is gathered of a group of segments, by its parts
pub gathered-parts : (g : Geometry) (group : Group) (s : Gathered) (secret file text encrypted : List ℕ) (x y : Gathering) → HasGathered g s secret file x
    → length encrypted ≤ group.count * g.segment_size
    → HoldsFile y.key g.needed g.total g.segment_size secret (file ++ text) → Holds y.ciphertext Ciphertext (s.ciphertext ++ encrypted)
    → y.leaves.items ≡ x.leaves.items ++ segment_hashes (pieces group.count g.segment_size encrypted)
    → length y.shares.items ≡ g.total → HoldShares (gathered_group g group encrypted s) y.shares.items
    → length y.wholes.items ≡ div_ceil g.total 7 → AreGiven g.total (gathered_group g group encrypted s).written y.wholes.items
    → HasGathered g (gathered_group g group encrypted s) secret (file ++ text) y
gathered-parts g group s secret file text encrypted x y has fits key ciphertext leaves count shares groups wholes =
    let cs : List (List ℕ) = pieces group.count g.segment_size encrypted in
    record {
      key = key;
      ciphertext =
          subst (λ (t : List ℕ). Holds y.ciphertext Ciphertext t)
          (ap (λ (t : List ℕ). s.ciphertext ++ t) (sym (joined-pieces group.count g.segment_size encrypted fits)) ∙ sym (ciphertext-all g cs s)) ciphertext;
      leaves = leaves ∙ ap (λ (l : List (List ℕ)). l ++ segment_hashes cs) has.leaves ∙ sym (leaves-all g cs s);
      count = count;
      shares = shares;
      groups = groups;
      wholes = wholes;
    }

module _ {S : Type 0} (gives : S → ℕ → List ℕ → S → Type 0) (old : S) (g : Geometry) (key : List ℕ) (before : KeyHasher) where
  -- so many segments were read and gathered
  pub record IsGatheredTo (count : ℕ) (x : Gathering) (now : S) : Type 0 where
    pub file : List ℕ
    pub long : length file ≡ min (count * g.segment_size) g.size
    pub read : IsRead gives old 0 file now
    pub has : (secret : List ℕ) → HoldsFile before g.needed g.total g.segment_size secret []
        → HasGathered g (gathered_segments g (pieces count g.segment_size (xored key file)) (gathered_none g)) secret file x

  pub gathered-begin : (x : Gathering)
      → ((secret : List ℕ) → HoldsFile before g.needed g.total g.segment_size secret [] → HasGathered g (gathered_none g) secret [] x)
      → IsGatheredTo 0 x old
  gathered-begin x has = record {
    file = [];
    long = omega arith;
    read = record { reads = []; run = refl; consecutive = refl; bytes_are = refl };
    has = has;
  }

  -- a group of segments more
  pub gathered-more : (group : Group) (x y : Gathering) (now next : S) → IsGroup g group → IsGatheredTo group.first x now
      → IsGroupGathered gives now g key group x y next → IsGatheredTo (group.first + group.count) y next
  gathered-more group x y now next is to more =
      let whole : length to.file ≡ group.first * g.segment_size = omega (arith, to.long, begins-before g group.first is.valid is.some) in
      record {
        file = to.file ++ more.text;
        long = omega (arith, length-append to.file more.text, whole, more.long, group-end g group is);
        read = is_read-append gives old now next 0 group.offset to.file more.text to.read (omega (arith, whole, is.offset)) more.read;
        has = λ secret fresh.
            subst (λ (s : Gathered). HasGathered g s secret (to.file ++ more.text) y) (sym (segments-group g key group to.file more.text (gathered_none g) is whole))
            (more.has (gathered_segments g (pieces group.first g.segment_size (xored key to.file)) (gathered_none g)) secret to.file (to.has secret fresh));
      }

  pub gathered-all : (count : ℕ) (x : Gathering) (now : S) (secret : List ℕ) → IsGeometry g → count ≡ segment_count g → IsGatheredTo count x now
      → HoldsFile before g.needed g.total g.segment_size secret [] → IsGatheredFrom gives old g key secret x now
  gathered-all count x now secret valid all to fresh =
      let over = (div_ceil_times g.size g.segment_size valid.some_segment).0 in
      let end : min (segment_count g * g.segment_size) g.size ≡ g.size = omega (arith, over) in
      record {
        file = to.file;
        pass = record { long = to.long ∙ ap (λ n. min (n * g.segment_size) g.size) all ∙ end; read = to.read };
        has = subst (λ (s : Gathered). HasGathered g s secret to.file x)
            ((λ p. gathered_segments g (pieces (all p) g.segment_size (xored key to.file)) (gathered_none g))
            ∙ sym (gathered-encrypted g key (segment_count g) g.segment_size 0 to.file (gathered_none g)))
            (to.has secret fresh);
      }

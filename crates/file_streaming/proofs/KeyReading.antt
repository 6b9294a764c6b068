-- How far a source is read for its key.
use Rattle.std.proofs.Common.{◌≡◌, ℕ, ◌+◌, ◌≤◌, List, [], ◌++◌, length, refl, ◌∙◌, arith}
use Rattle.std.proofs.lemmas.List.{length-append}
use Rattle.tagged_hash.specs.TaggedHasher.{HoldsFile}
use Rattle.tagged_hash.specs.declared.convergence.KeyHasher.{KeyHasher}
use Rattle.sources.specs.Source.{IsPass, IsRead}
use Rattle.block_making.proofs.ReadRuns.{is_read-append}

-- the hasher was given what was read so far
pub record IsReadSoFar {S : Type 0} (gives : S → ℕ → List ℕ → S → Type 0) (sized failed : S → ℕ) (total : ℕ) (old : S) (before : KeyHasher)
    (now : S) (hasher : KeyHasher) (done : ℕ) : Type 0 where
  pub within : done ≤ total
  pub file : List ℕ
  pub long : length file ≡ done
  pub read : IsRead gives old 0 file now
  pub holds : (k n segment_size : ℕ) (secret : List ℕ) → HoldsFile before k n segment_size secret [] → HoldsFile hasher k n segment_size secret file
  pub size_is : sized now ≡ sized old
  pub failures_are : failed now ≡ failed old

module _ {S : Type 0} (gives : S → ℕ → List ℕ → S → Type 0) (sized failed : S → ℕ) (total : ℕ) where
  pub pass-none : (old : S) (before : KeyHasher) → IsReadSoFar gives sized failed total old before old before 0
  pass-none old before = record {
    within = omega arith;
    file = [];
    long = refl;
    read = record { reads = []; run = refl; consecutive = refl; bytes_are = refl };
    holds = λ k n s secret h. h;
    size_is = refl;
    failures_are = refl;
  }

  pub pass-more : (old now next : S) (before hasher after : KeyHasher) (done count : ℕ) (part : List ℕ) → IsReadSoFar gives sized failed total old before now hasher done
      → length part ≡ count → done + count ≤ total → IsRead gives now done part next
      → ((k n segment_size : ℕ) (secret given : List ℕ) → HoldsFile hasher k n segment_size secret given → HoldsFile after k n segment_size secret (given ++ part))
      → sized next ≡ sized now → failed next ≡ failed now → IsReadSoFar gives sized failed total old before next after (done + count)
  pass-more old now next before hasher after done count part far long low read updated sizes fails = record {
    within = low;
    file = far.file ++ part;
    long = length-append far.file part ∙ omega (arith, far.long, long);
    read = is_read-append gives old now next 0 done far.file part far.read (omega (arith, far.long)) read;
    holds = λ k n s secret h. updated k n s secret far.file (far.holds k n s secret h);
    size_is = sizes ∙ far.size_is;
    failures_are = fails ∙ far.failures_are;
  }

  pub is_pass : (old now : S) (before hasher : KeyHasher) (done : ℕ) → (far : IsReadSoFar gives sized failed total old before now hasher done) → total ≤ done
      → IsPass gives total old far.file now
  is_pass old now before hasher done far over = record { long = omega (arith, far.long, far.within, over); read = far.read }

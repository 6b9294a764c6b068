-- A source that brought other bytes than a file has.
use Rattle.std.proofs.Common.{◌≡◌, ◌⊎◌, ℕ, ◌+◌, Bool, true, false, List, [], ◌∷◌, ◌++◌, length, take, drop, refl, inl, inr, ap, sym, ◌∙◌, arith}
use Rattle.std.specs.Prelude.{◌≢◌}
use Rattle.std.specs.Str.{bytes_eq}
use Rattle.std.proofs.Math.Seq.{take-add}
use Rattle.std.proofs.lemmas.Bool.{false≢true}
use Rattle.std.proofs.lemmas.List.{drop-drop, length-append}
use Rattle.std.proofs.lemmas.List.Elements.{Contains-append_right}
use Rattle.std.proofs.lemmas.Slice.Eq.{bytes_eq-Decides}
use Rattle.sources.specs.Change.{DiffersFromFile, HasEndedEarly, HasOther}
use Rattle.sources.specs.Source.{AreConsecutive, IsRead, Read, bytes_of}

same_bytes : (xs ys : List ℕ) → (xs ≡ ys) ⊎ (xs ≢ ys)
same_bytes xs ys = by (bytes_eq xs ys) (bytes_eq-Decides xs ys) where
  by : (t : Bool) → (t ≡ true → xs ≡ ys) × (xs ≡ ys → t ≡ true) → (xs ≡ ys) ⊎ (xs ≢ ys)
  by true d = inl (d.0 refl)
  by false d = inr (λ e. false≢true (d.1 e))

-- one of the reads of a part that a file has not brought other bytes
has_other : (file : List ℕ) (reads : List Read) (offset end : ℕ) → AreConsecutive offset reads end
    → bytes_of reads ≢ take (length (bytes_of reads)) (drop offset file) → HasOther reads file
has_other file [] offset end run apart = absurd (apart refl)
has_other file (r ∷ rs) offset end run apart =
    elim (same_bytes r.1 (take (length r.1) (drop r.0 file))) [
      | inr other ↦ record { read = r; among = (0, omega arith, refl); other = other }
      | inl same ↦
          let here : r.1 ≡ take (length r.1) (drop offset file) = same ∙ ap (λ n. take (length r.1) (drop n file)) run.0 in
          let rest = has_other file rs (offset + length r.1) end run.1 (λ e. apart (
          (λ p. here p ++ e p)
          ∙ ap (λ (l : List ℕ). take (length r.1) (drop offset file) ++ take (length (bytes_of rs)) l) (sym (drop-drop (length r.1) offset file))
          ∙ sym (take-add (length r.1) (length (bytes_of rs)) (drop offset file))
          ∙ ap (λ n. take n (drop offset file)) (sym (length-append r.1 (bytes_of rs))))) in
          record { read = rest.read; among = Contains-append_right (r ∷ []) rs rest.read rest.among; other = rest.other }
    ]

module _ {S : Type 0} (gives : S → ℕ → List ℕ → S → Type 0) where
  -- a part that the file has not
  pub other-differs : (old new : S) (offset : ℕ) (bytes file : List ℕ) → IsRead gives old offset bytes new → bytes ≢ take (length bytes) (drop offset file)
      → DiffersFromFile gives old file new
  other-differs old new offset bytes file read apart = record {
    reads = read.reads;
    run = read.run;
    changed = inl (has_other file read.reads offset (offset + length bytes) read.consecutive (λ e. apart (read.bytes_are ∙ e ∙ ap (λ (l : List ℕ). take (length l) (drop offset file)) (sym read.bytes_are))));
  }

  pub ended-differs : (old new : S) (size : ℕ) (file : List ℕ) → HasEndedEarly gives old size new → length file ≡ size → DiffersFromFile gives old file new
  ended-differs old new size file ended long = record {
    reads = ended.reads;
    run = ended.run;
    changed = inr record { read = ended.ended.read; among = ended.ended.among; none = ended.ended.none; early = omega (arith, ended.ended.early, long) };
  }

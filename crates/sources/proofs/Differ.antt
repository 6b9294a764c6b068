-- Two readings that brought different bytes differed at one offset.
use Rattle.std.proofs.Common.{◌≡◌, ℕ, suc, ◌+◌, ◌-◌, ◌<◌, List, [], ◌∷◌, ◌++◌, length, get_or, Some, refl, inl, inr, ap, sym, subst, ◌∙◌, arith}
use Rattle.std.specs.Prelude.{◌≢◌, Contains}
use Rattle.std.proofs.lemmas.Bool.{cases_lt}
use Rattle.std.proofs.lemmas.List.{get_or-append_right, get_or_append_left, length-append}
use Rattle.std.proofs.lemmas.List.Elements.{Contains-append_left, Contains-append_right}
use Rattle.std.proofs.lemmas.Option.{slice_get-get_or}
use Rattle.sources.specs.Change.{Brings, HasChanged}
use Rattle.sources.specs.Source.{AreConsecutive, IsPass, Read, Reads, bytes_of}

-- each byte of a reading was brought by one of its reads
brings : (reads : List Read) (position end i : ℕ) → AreConsecutive position reads end → i < length (bytes_of reads)
    → (read : Read) × Contains reads read × Brings read (position + i) (get_or (bytes_of reads) i 0)
brings [] position end i run inside = absurd (omega arith)
brings (r ∷ rs) position end i run inside =
    elim (cases_lt i (length r.1)) [
      | inl within ↦ (
        r,
        (0, omega arith, refl),
        record {
          offset = i;
          position_is = ap (λ n. n + i) (sym run.0);
          byte_is = slice_get-get_or r.1 i 0 within ∙ ap Some (sym (get_or_append_left r.1 (bytes_of rs) 0 i within));
        },
      )
      | inr after ↦ (let ih = brings rs (position + length r.1) end (i - length r.1) run.1 (omega (arith, inside, after, length-append r.1 (bytes_of rs))) in (
        ih.0,
        Contains-append_right (r ∷ []) rs ih.0 ih.1,
        record {
          offset = ih.2.offset;
          position_is = omega (arith, after, ih.2.position_is);
          byte_is = ih.2.byte_is ∙ ap Some (sym (get_or-append_right r.1 (bytes_of rs) (length r.1) i 0 refl after));
        },
      ))
    ]

first_difference : (xs ys : List ℕ) → length xs ≡ length ys → xs ≢ ys → (i : ℕ) × (i < length xs) × (get_or xs i 0 ≢ get_or ys i 0)
first_difference [] [] long apart = absurd (apart refl)
first_difference [] (y ∷ ys) long apart = absurd (omega (arith, long))
first_difference (x ∷ xs) [] long apart = absurd (omega (arith, long))
first_difference (x ∷ xs) (y ∷ ys) long apart =
    elim (cases_lt x y) [
      | inl below ↦ (0, omega arith, λ e. omega (arith, e, below))
      | inr over ↦ elim (cases_lt y x) [
        | inl above ↦ (0, omega arith, λ e. omega (arith, e, above))
        | inr under ↦ (let same : x ≡ y = omega (arith, over, under) in
            let ih = first_difference xs ys (omega (arith, long)) (λ e. apart (λ p. same p ∷ e p)) in
            (suc ih.0, omega (arith, ih.1), ih.2))
      ]
    ]

module _ {S : Type 0} (gives : S → ℕ → List ℕ → S → Type 0) where
  reads-append : (xs ys : List Read) (old mid new : S) → Reads gives old xs mid → Reads gives mid ys new → Reads gives old (xs ++ ys) new
  reads-append [] ys old mid new first second = subst (λ s. Reads gives s ys new) first second
  reads-append (x ∷ xs) ys old mid new first second = (first.0, first.1, reads-append xs ys first.0 mid new first.2 second)

  pub have_differed : (size : ℕ) (old mid new : S) (first second : List ℕ) → IsPass gives size old first mid → IsPass gives size mid second new
      → first ≢ second → HasChanged gives old size new
  have_differed size old mid new first second a b apart =
      let long : length first ≡ length second = a.long ∙ sym b.long in
      let at = first_difference first second long apart in
      let i : ℕ = at.0 in
      let one = brings a.read.reads 0 (0 + length first) i a.read.consecutive (omega (arith, at.1, ap length a.read.bytes_are)) in
      let other = brings b.read.reads 0 (0 + length second) i b.read.consecutive (omega (arith, at.1, long, ap length b.read.bytes_are)) in
      record {
        reads = a.read.reads ++ b.read.reads;
        run = reads-append a.read.reads b.read.reads old mid new a.read.run b.read.run;
        changed = inl record {
          one = one.0;
          other = other.0;
          offset = 0 + i;
          byte = get_or (bytes_of a.read.reads) i 0;
          other_byte = get_or (bytes_of b.read.reads) i 0;
          among = Contains-append_left a.read.reads b.read.reads one.0 one.1;
          among_too = Contains-append_right a.read.reads b.read.reads other.0 other.1;
          brings = one.2;
          brings_too = other.2;
          differ = λ e. at.2 (ap (λ (l : List ℕ). get_or l i 0) a.read.bytes_are ∙ e ∙ ap (λ (l : List ℕ). get_or l i 0) (sym b.read.bytes_are));
        };
      }

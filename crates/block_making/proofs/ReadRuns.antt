-- Reads one after another.
use Rattle.std.proofs.Common.{◌≡◌, ℕ, ◌+◌, ◌≤◌, List, [], ◌∷◌, ◌++◌, length, sym, subst, ◌∙◌, arith}
use Rattle.std.proofs.lemmas.List.{length-append}
use Rattle.std.proofs.lemmas.Grind.{flat_map-append}
use Rattle.std.proofs.lemmas.List.Elements.{Contains-append_right}
use Rattle.sources.specs.Change.{HasEndedEarly}
use Rattle.sources.specs.Source.{AreConsecutive, IsRead, Read, Reads}

consecutive-append : (xs ys : List Read) (offset mid end : ℕ) → AreConsecutive offset xs mid → AreConsecutive mid ys end → AreConsecutive offset (xs ++ ys) end
consecutive-append [] ys offset mid end first second = subst (λ p. AreConsecutive p ys end) (sym first) second
consecutive-append (x ∷ xs) ys offset mid end first second = (first.0, consecutive-append xs ys (offset + length x.1) mid end first.1 second)

module _ {S : Type 0} (gives : S → ℕ → List ℕ → S → Type 0) where
  pub reads-append : (xs ys : List Read) (old mid new : S) → Reads gives old xs mid → Reads gives mid ys new → Reads gives old (xs ++ ys) new
  reads-append [] ys old mid new first second = subst (λ s. Reads gives s ys new) first second
  reads-append (x ∷ xs) ys old mid new first second = (first.0, first.1, reads-append xs ys first.0 mid new first.2 second)

  -- a part behind another
  pub is_read-append : (old mid new : S) (offset at : ℕ) (xs ys : List ℕ) → IsRead gives old offset xs mid → at ≡ offset + length xs → IsRead gives mid at ys new
      → IsRead gives old offset (xs ++ ys) new
  is_read-append old mid new offset at xs ys a here b =
      let end : at + length ys ≡ offset + length (xs ++ ys) = omega (arith, here, length-append xs ys) in
      record {
        reads = a.reads ++ b.reads;
        run = reads-append a.reads b.reads old mid new a.run b.run;
        consecutive = subst (AreConsecutive offset (a.reads ++ b.reads)) end (consecutive-append a.reads b.reads offset at (at + length ys)
            (subst (AreConsecutive offset a.reads) (sym here) a.consecutive) b.consecutive);
        bytes_are = (λ p. a.bytes_are p ++ b.bytes_are p) ∙ sym (flat_map-append (λ (r : Read). r.1) a.reads b.reads);
      }

  -- an end found behind what was read, before an offset or a later one
  pub ended-later : (old mid new : S) (offset early late : ℕ) (bytes : List ℕ) → IsRead gives old offset bytes mid → HasEndedEarly gives mid early new → early ≤ late
      → HasEndedEarly gives old late new
  ended-later old mid new offset early late bytes a b low = record {
    reads = a.reads ++ b.reads;
    run = reads-append a.reads b.reads old mid new a.run b.run;
    ended = record {
      read = b.ended.read;
      among = Contains-append_right a.reads b.reads b.ended.read b.ended.among;
      none = b.ended.none;
      early = omega (arith, b.ended.early, low);
    };
  }

  -- an end found before an offset is one before a later offset
  pub ended-wider : (old : S) (early late : ℕ) (new : S) → HasEndedEarly gives old early new → early ≤ late → HasEndedEarly gives old late new
  ended-wider old early late new a low = record {
    reads = a.reads;
    run = a.run;
    ended = record { read = a.ended.read; among = a.ended.among; none = a.ended.none; early = omega (arith, a.ended.early, low) };
  }

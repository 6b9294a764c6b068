-- Reads that follow one another, and how much of a part is read.
use Rattle.std.proofs.Common.{◌≡◌, ℕ, ◌+◌, ◌-◌, ◌<◌, ◌≤◌, List, [], ◌∷◌, ◌++◌, length, take, refl, Result, Ok, Err, ap, sym, subst, ◌∙◌, arith}
use Rattle.std.specs.Prelude.{Contains, IsErrOf}
use Rattle.std.proofs.lemmas.List.{append-nil, length-append, length-drop, length-take, length-take-le, take-take}
use Rattle.std.proofs.lemmas.Grind.{flat_map-append}
use Rattle.std.proofs.lemmas.List.Elements.{Contains-append_right}
use Rattle.std.proofs.lemmas.Slice.{drop-put_mid, take-put_mid}
use Rattle.std.proofs.Math.Seq.{take-append-add}
use borrow.Rule.Slice.PartMut.{put_mid}
use Rattle.sources.specs.Change.{HasEndedEarly}
use Rattle.sources.specs.Source.{AreConsecutive, IsRead, Read, Reads, bytes_of}

module _ {S : Type 0} (gives : S → ℕ → List ℕ → S → Type 0) where
  -- one read more
  pub reads-push : (reads : List Read) (old mid new : S) (read : Read) → Reads gives old reads mid → gives mid read.0 read.1 new
      → Reads gives old (reads ++ read ∷ []) new
  reads-push [] old mid new read run last = (new, subst (λ s. gives s read.0 read.1 new) run last, refl)
  reads-push (r ∷ rs) old mid new read run last = (run.0, run.1, reads-push rs run.0 mid new read run.2 last)

consecutive-push : (reads : List Read) (offset end : ℕ) (read : Read) → AreConsecutive offset reads end → read.0 ≡ end
    → AreConsecutive offset (reads ++ read ∷ []) (end + length read.1)
consecutive-push [] offset end read at here = (here ∙ sym at, ap (λ n. n + length read.1) at)
consecutive-push (r ∷ rs) offset end read run here = (run.0, consecutive-push rs (offset + length r.1) end read run.1 here)

bytes-push : (reads : List Read) (read : Read) → bytes_of (reads ++ read ∷ []) ≡ bytes_of reads ++ read.1
bytes-push reads read = flat_map-append (λ (r : Read). r.1) reads (read ∷ []) ∙ ap (λ (l : List ℕ). bytes_of reads ++ l) (append-nil read.1)

-- the last of a list is in it
contains-last : (reads : List Read) (read : Read) → Contains (reads ++ read ∷ []) read
contains-last reads read = Contains-append_right reads (read ∷ []) read (0, omega arith, refl)

module _ {S : Type 0} (gives : S → ℕ → List ℕ → S → Type 0) where
  pub is_read-more : (old mid new : S) (offset at : ℕ) (bytes more : List ℕ) → IsRead gives old offset bytes mid → at ≡ offset + length bytes
      → gives mid at more new → IsRead gives old offset (bytes ++ more) new
  is_read-more old mid new offset at bytes more is here last =
      let sum : offset + length bytes + length more ≡ offset + length (bytes ++ more) = omega (arith, length-append bytes more) in
      record {
        reads = is.reads ++ (at, more) ∷ [];
        run = reads-push gives is.reads old mid new (at, more) is.run last;
        consecutive = subst (AreConsecutive offset (is.reads ++ (at, more) ∷ [])) sum (consecutive-push is.reads offset (offset + length bytes) (at, more) is.consecutive here);
        bytes_are = ap (λ (l : List ℕ). l ++ more) is.bytes_are ∙ sym (bytes-push is.reads (at, more));
      }

  pub ends_early : (old mid new : S) (offset at size : ℕ) (bytes : List ℕ) → IsRead gives old offset bytes mid → at < size
      → gives mid at [] new → HasEndedEarly gives old size new
  ends_early old mid new offset at size bytes is low last = record {
    reads = is.reads ++ (at, []) ∷ [];
    run = reads-push gives is.reads old mid new (at, []) is.run last;
    ended = record { read = (at, []); among = contains-last is.reads (at, []); none = refl; early = low };
  }

-- a part is read so far
pub record IsReadSoFar {S : Type 0} (gives : S → ℕ → List ℕ → S → Type 0) (size failures : S → ℕ) (old : S) (offset : ℕ) (start : List ℕ)
    (now : S) (out : List ℕ) (done : ℕ) : Type 0 where
  pub long : length out ≡ length start
  pub within : done ≤ length out
  pub read : IsRead gives old offset (take done out) now
  pub size_is : size now ≡ size old
  pub failures_are : failures now ≡ failures old

module _ {S : Type 0} (gives : S → ℕ → List ℕ → S → Type 0) (size failures : S → ℕ) where
  pub part-none : (old : S) (offset : ℕ) (start : List ℕ) → IsReadSoFar gives size failures old offset start old start 0
  part-none old offset start = record {
    long = refl;
    within = omega arith;
    read = record { reads = []; run = refl; consecutive = omega arith; bytes_are = refl };
    size_is = refl;
    failures_are = refl;
  }

  pub part-more : (old now next : S) (offset : ℕ) (start out part : List ℕ) (done count rest : ℕ) → IsReadSoFar gives size failures old offset start now out done
      → length part ≡ rest → rest ≡ length out - done → count ≤ rest → gives now (offset + done) (take count part) next
      → size next ≡ size now → failures next ≡ failures now
      → IsReadSoFar gives size failures old offset start next (put_mid done rest out part) (done + count)
  part-more old now next offset start out part done count rest before long left low last sized failed =
      let front : length (take done out) ≡ done = length-take-le done out before.within in
      let whole : take (done + rest) (put_mid done rest out part) ≡ take done out ++ part = take-put_mid done rest out part (done + rest) (omega (arith, long)) before.within in
      let cut : take (done + count) (put_mid done rest out part) ≡ take done out ++ take count part =
      sym (take-take (done + count) (done + rest) (put_mid done rest out part) (omega arith)) ∙ ap (take (done + count)) whole
      ∙ ap (λ n. take (n + count) (take done out ++ part)) (sym front) ∙ take-append-add (take done out) part count in
      let size_is : length (put_mid done rest out part) ≡ length out =
      omega (
        arith,
        before.within,
        left,
        long,
        length-append (take done out) part,
        front,
        ap length whole,
        length-take (done + rest) (put_mid done rest out part),
        ap length (drop-put_mid done rest out part (done + rest) (omega arith) before.within long),
        length-drop (done + rest) (put_mid done rest out part),
        length-drop (done + rest) out,
      ) in
      record {
        long = size_is ∙ before.long;
        within = omega (arith, size_is, before.within, left, low);
        read = subst (λ bytes. IsRead gives old offset bytes next) (sym cut) (is_read-more gives old now next offset (offset + done) (take done out) (take count part) before.read (omega (arith, front)) last);
        size_is = sized ∙ before.size_is;
        failures_are = failed ∙ before.failures_are;
      }

-- an error is the same error in another result
error_or : {T E : Type 0} → E → Result T E → E
error_or x (Ok v) = x
error_or x (Err e) = e

pub err-again : {T U E : Type 0} (e x : E) → IsErrOf {T = T} {E = E} (Err e) x → IsErrOf {T = U} {E = E} (Err e) x
unfolding error_or
err-again e x is = ap (λ r. Err (error_or x r)) is

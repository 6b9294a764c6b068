-- The pieces of a share that come after the one that is read next.
use Rattle.std.proofs.Common.{◌≡◌, ℕ, suc, ◌+◌, ◌<◌, ◌≤◌, Bool, true, false, List, ◌++◌, ◌∷◌, [], length, Option, Some, None, Vec, Global, ap, refl, sym, subst, ◌∙◌, arith, inl, inr, ◌⊎◌, true≢false}
use Rattle.std.specs.Prelude.{Contains, IsSome, slice_get, slice_index_or}
use Rattle.std.specs.Option.{option_to_list}
use Rattle.std.proofs.lemmas.Bool.{cases_lt}
use Rattle.std.proofs.lemmas.Option.{same_Some, slice_get_within}
use Rattle.std.proofs.lemmas.List.Elements.{Contains-append_cases}
use Rattle.cap_text.specs.Cap.{VerifyCapValue}
use Rattle.wire.specs.Limits.{most_data}
use Rattle.share_layout.specs.declared.offsets.Offsets.{Offsets}
use Rattle.share_layout.specs.Layout.{header_size, offsets_of, width}
use Rattle.share_verify.specs.CapBlock.{geometry_by}
use Rattle.share_reading.specs.OpeningReads.{Brought}
use Rattle.share_reading.specs.Reading as reading
use Rattle.share_reading.specs.Reads.{AsksNone, IsAsked, IsReadBy, IsRest}
use Rattle.share_reading.specs.declared.reading.Progress.TheVariants.{Next, Whole}
use Rattle.share_reading.specs.declared.reading.ShareReading as readings
use Rattle.share_reading.specs.declared.reading.ShareReading.TheVariants.{Beginning, Remaining}
use Rattle.share_reading.proofs.ConsecutiveLemmas.{inside}
use Rattle.share_reading.proofs.ReadingLemmas.{ask, offsets_are}
use Rattle.checker.specs.Wanted.{AllCame, AnyCameFor, IsAhead, NoneWaits, length_ahead, offset_ahead}
use Rattle.checker.specs.declared.wanted.Came.{Came}
use Rattle.checker.specs.declared.wanted.Came.TheVariants.{Waits, Bytes, Nothing}
use Rattle.checker.specs.declared.wanted.Wanted.{Wanted}

pub offset_first : (r : readings.ShareReading) → offset_ahead r 0 ≡ reading.next_offset r
offset_first (Beginning o) = refl
offset_first (Remaining r) = omega arith

pub length_first : (r : readings.ShareReading) → length_ahead r 0 ≡ reading.next_length r
length_first (Beginning o) = refl
length_first (Remaining r) = omega arith

-- there is always one that is read next
pub first_ahead : (r : readings.ShareReading) → IsAhead r 0
first_ahead (Beginning o) = refl
first_ahead (Remaining r) = omega (arith, r.more)

-- those behind it are the next once it is read
pub record IsNextAhead (s r : readings.ShareReading) (i : ℕ) : Type 0 where
  pub ahead : IsAhead s i
  pub offset : offset_ahead s i ≡ offset_ahead r (suc i)
  pub long : length_ahead s i ≡ length_ahead r (suc i)

pub next_ahead : (cap : VerifyCapValue) (r s : readings.ShareReading) (bytes : List ℕ) (i : ℕ) → reading.Advances cap r bytes (Next s) → IsAhead r (suc i) → IsNextAhead s r i
next_ahead cap (Beginning o) s bytes i a ahead = absurd (omega (arith, ahead))
next_ahead cap (Remaining r) (Beginning o) bytes i a ahead = absurd a
next_ahead cap (Remaining r) (Remaining s) bytes i a ahead =
    let block : s.offsets.extension_block ≡ r.offsets.extension_block = ap (λ (p : Offsets). p.extension_block) a.2 in
    let step : s.next ≡ r.next + most_data = omega (arith, a.3, ahead) in
    record {
      ahead = omega (arith, step, block, ahead);
      offset = omega (arith, step);
      long = omega (arith, step, block);
    }

-- and none is behind the last
pub none_behind : (cap : VerifyCapValue) (r : readings.ShareReading) (bytes : List ℕ) (i : ℕ) → reading.Advances cap r bytes Whole → IsAhead r (suc i) → ⊥
none_behind cap (Beginning o) bytes i a ahead = omega (arith, ahead)
none_behind cap (Remaining r) bytes i a ahead = omega (arith, a.1, ahead)

-- they follow one another
pub spans_apart : (r : readings.ShareReading) (i j : ℕ) → IsAhead r j → i < j → offset_ahead r i + length_ahead r i ≤ offset_ahead r j
spans_apart (Beginning o) i j ahead lt = absurd (omega (arith, ahead, lt))
spans_apart (Remaining r) i j ahead lt = omega (arith, lt)

pub span_once : (r : readings.ShareReading) (i j : ℕ) → IsAhead r i → IsAhead r j → offset_ahead r i ≡ offset_ahead r j → i ≡ j
span_once (Beginning o) i j one other same = one ∙ sym other
span_once (Remaining r) i j one other same = omega (arith, same)

-- ---- they may be asked for

module _ (cap : VerifyCapValue) (front back : List Brought) where
  pub asked_ahead : (r : readings.ShareReading) (n : ℕ) → IsReadBy cap front back r → IsAhead r n → IsAsked cap (front ++ back) (offset_ahead r n) (length_ahead r n)
  asked_ahead (Beginning o) n is ahead = (ask cap front back (Beginning o) is).0
  asked_ahead (Remaining r) n is ahead = inr rest
    where
      rest : IsRest cap (front ++ back) (offset_ahead (Remaining r) n) (length_ahead (Remaining r) n)
      rest = record {
        u = is.begun.opened.ueb;
        block = is.begun.bytes;
        ueb = is.begun.ends.1.ueb;
        brought = subst (λ (p : Offsets). Contains (front ++ back) (p.extension_block + width p.layout, is.begun.bytes)) told is.begun.brought;
        some = omega (arith, ahead);
        low = subst (λ (p : Offsets). header_size p.layout ≤ offset_ahead (Remaining r) n) same (omega (arith, r.behind));
        high = subst (λ (p : Offsets). offset_ahead (Remaining r) n + length_ahead (Remaining r) n ≤ p.extension_block) same (omega (arith, ahead));
      }
        where
          told : is.begun.block.header.offsets ≡ offsets_of (geometry_by is.begun.opened.ueb)
          told = offsets_are cap is.begun.block.header is.begun.bytes is.begun.opened is.begun.ends.1

          same : r.offsets ≡ offsets_of (geometry_by is.begun.opened.ueb)
          same = is.offsets ∙ is.begun.ends.1.offsets ∙ ap offsets_of is.begun.ends.1.geometry

  pub none_ahead : (r : readings.ShareReading) (n : ℕ) → IsReadBy cap front back r → IsAhead r n → (read : Brought) → Contains (front ++ back) read → AsksNone read (offset_ahead r n) (length_ahead r n)
  none_ahead (Beginning o) n is ahead read at = (ask cap front back (Beginning o) is).1 read at
  none_ahead (Remaining r) n is ahead read at = elim (Contains-append_cases front back read at) [
    | inl here ↦ inl (omega (arith, (inside 0 r.next front read is.before here).1))
    | inr here ↦ inr (omega (arith, (inside r.offsets.extension_block is.end back read is.behind here).0, ahead))
  ]

-- ---- how the pieces stand that are asked for

pub record AreSeen (wanted : List Wanted) (n : ℕ) (is_lost : Bool) : Type 0 where
  pub none : (k : ℕ) (w : Wanted) → k < n → slice_get wanted k ≡ Some w → w.came ≡ Waits → ⊥
  pub lost : is_lost ≡ true → AnyCameFor Nothing wanted
  pub came : is_lost ≡ false → (k : ℕ) (w : Wanted) → k < n → slice_get wanted k ≡ Some w → (bytes : Vec ℕ Global) × (w.came ≡ Bytes bytes)

pub seen_none : (wanted : List Wanted) → AreSeen wanted 0 false
seen_none wanted = record {
  none = λ k w lt e waits. omega (arith, lt);
  lost = λ e. absurd (true≢false (sym e));
  came = λ e k w lt there. absurd (omega (arith, lt));
}

is_bytes : (c : Came) → (c ≡ Waits → ⊥) → (c ≡ Nothing → ⊥) → (bytes : Vec ℕ Global) × (c ≡ Bytes bytes)
is_bytes Waits some told = absurd (some refl)
is_bytes (Bytes v) some told = (v, refl)
is_bytes Nothing some told = absurd (told refl)

pub seen_more : (wanted : List Wanted) (n : ℕ) (was now : Bool) (w : Wanted) → AreSeen wanted n was → slice_get wanted n ≡ Some w → (w.came ≡ Waits → ⊥)
    → (now ≡ true → (was ≡ true) ⊎ (w.came ≡ Nothing)) → (now ≡ false → (was ≡ false) × (w.came ≡ Nothing → ⊥)) → AreSeen wanted (n + 1) now
seen_more wanted n was now w seen there some adds keeps = record {
  none = λ k x lt e waits. elim (cases_lt k n) [
    | inl before ↦ seen.none k x before e waits
    | inr le ↦ some (ap (λ (y : Wanted). y.came) (here k x lt le e) ∙ waits)
  ];
  lost = λ e. elim (adds e) [
    | inl before ↦ seen.lost before
    | inr nothing ↦ (n, w, there, nothing)
  ];
  came = λ e k x lt at. elim (cases_lt k n) [
    | inl before ↦ seen.came (keeps e).0 k x before at
    | inr le ↦ (let came = is_bytes w.came some (keeps e).1 in (came.0, ap (λ (y : Wanted). y.came) (sym (here k x lt le at)) ∙ came.1))
  ];
}
  where
    here : (k : ℕ) (x : Wanted) → k < n + 1 → n ≤ k → slice_get wanted k ≡ Some x → w ≡ x
    here k x lt le e = let at : n ≡ k = omega (arith, lt, le) in same_Some w x (sym there ∙ ap (slice_get wanted) at ∙ e)

pub seen_lost : (wanted : List Wanted) (n : ℕ) → length wanted ≤ n → AreSeen wanted n true → NoneWaits wanted × AnyCameFor Nothing wanted
seen_lost wanted n all seen = (λ any. seen.none any.0 any.1 (omega (arith, all, slice_get_within wanted any.0 any.1 any.2)) any.2 any.3, seen.lost refl)

pub seen_all : (wanted : List Wanted) (n : ℕ) → length wanted ≤ n → AreSeen wanted n false → AllCame wanted
seen_all wanted n all seen k w e = seen.came refl k w (omega (arith, all, slice_get_within wanted k w e)) e

-- ---- the first of them

pub first_of : (wanted : List Wanted) (x : Wanted) → 0 < length wanted → x ≡ slice_index_or wanted 0 x → (rest : List Wanted) × (wanted ≡ x ∷ rest)
first_of [] x some e = absurd (omega (arith, some))
first_of (w ∷ ws) x some e = (ws, ap (λ (y : Wanted). y ∷ ws) (sym e))

pub none_of : (wanted : List Wanted) → (0 < length wanted → ⊥) → wanted ≡ []
none_of [] none = refl
none_of (w ∷ ws) none = absurd (none (omega arith))

pub popped : (wanted rest : List Wanted) (r : Option Wanted) (w : Wanted) → wanted ≡ option_to_list r ++ rest → r ≡ Some w → wanted ≡ w ∷ rest
popped wanted rest r w is e = is ∙ ap (λ (o : Option Wanted). option_to_list o ++ rest) e

pub same_first : (wanted : List Wanted) (v w : Wanted) (vs ws : List Wanted) → wanted ≡ v ∷ vs → wanted ≡ w ∷ ws → v ≡ w
same_first wanted v w vs ws one two = same_Some v w (ap (λ (l : List Wanted). slice_get l 0) (sym one ∙ two))

pub none_is_some : (o : Option Wanted) → o ≡ None → IsSome o → ⊥
none_is_some None e some = true≢false (sym some)
none_is_some (Some w) e some = absurd cc

-- A share has at most one kind of verdict.
use Rattle.std.proofs.Common.{◌≡◌, ℕ, List, [], ◌∷◌, ◌++◌, length, Option, None, Some, ap, refl, sym, subst, ◌∙◌, inl, inr}
use Rattle.std.specs.Prelude.{Contains}
use Rattle.std.proofs.lemmas.List.Elements.{Contains-append_left, Contains-append_right}
use Rattle.std.proofs.lemmas.Option.{none-some, same_Some}
use Rattle.lemmas.proofs.Members.{contains_at, contains_head, contains_cases, contains_none, flat_map_from}
use Rattle.cap_text.specs.Cap.{VerifyCapValue}
use Rattle.share_verify.specs.Checks.{check_of}
use Rattle.share_verify.proofs.Faults.{first_fails, no_reading_fault, one_reading_fault, same_reading}
use Rattle.share_verify.proofs.FirstFault.{section_fault}
use Rattle.share_verify.proofs.Passing.{sound_passes}
use Rattle.share_verify.specs.Verify.{IsFirstFault, IsSectionFault, IsSoundShare, not_read, not_sound}
use Rattle.share_verify.specs.declared.fault.ShareFault.{ShareFault}
use Rattle.share_verify.specs.declared.fault.ShareFault.TheVariants.{Layout, Unused, OtherUeb, Ueb, CiphertextTree, BlockTree, ShareHashes, Data}
use Rattle.share_layout.specs.Share.{Sections}
use Rattle.ueb.specs.Shape.{Contents}
use Rattle.share_verify.specs.declared.check.Check.{Check}
use Rattle.share_reading.specs.OpeningReads.{Brought, IsLedToBy}
use Rattle.share_reading.specs.Blame.{HasReads}
use Rattle.share_reading.specs.declared.opening.Opening.{Opening}
use Rattle.share_reading.specs.declared.opening.Opening.TheVariants.{Start, Second, Header, Block}
use Rattle.share_reading.proofs.ReadLemmas.{more_led}
use Rattle.share_reading.specs.Reading.{Advances, IsStop, next_offset}
use Rattle.share_reading.specs.Reads.{IsOpenedBy}
use Rattle.share_reading.specs.declared.reading.Progress.TheVariants.{Whole}
use Rattle.share_reading.specs.declared.reading.ShareReading.{ShareReading}
use Rattle.share_reading.specs.declared.reading.ShareReading.TheVariants.{Beginning, Remaining}
use Rattle.share_reading.specs.declared.rest.Rest.{Rest}
use Rattle.share_reading.specs.Verdict.{AreAnswered, AreApart, AreExclusive, AreFull, FailsFirst, HasLed, IsGood, IsLost, IsStopped, IsVerdict, Settled, brought_at, brought_by, brought_of}
use Rattle.share_reading.specs.declared.verdict.Verdict.{Verdict}
use Rattle.share_reading.specs.declared.verdict.Verdict.TheVariants.{Good, Corrupt, Lost}
use Rattle.share_reading.proofs.ConsecutiveLemmas.{are_one}
use Rattle.share_reading.proofs.ReadingLemmas.{led_by, opened_more, stop}
use Rattle.share_reading.proofs.StopLemmas.{one_check, refused_or_opened}

-- ---- what reads brought

brings : (read : Settled) (bytes : List ℕ) → read.answer ≡ Some bytes → brought_by read ≡ (read.offset, bytes) ∷ []
brings read bytes is = ap (brought_at read.offset) is

pub brought_has : (reads : List Settled) (read : Settled) (bytes : List ℕ) → Contains reads read → read.answer ≡ Some bytes → Contains (brought_of reads) (read.offset, bytes)
brought_has [] read bytes at is = absurd (contains_none read at)
brought_has (r ∷ rs) read bytes at is = elim (contains_cases r read rs at) [
  | inl same ↦
      Contains-append_left (brought_by r) (brought_of rs) (read.offset, bytes)
      (subst (λ (l : List Brought). Contains l (read.offset, bytes)) (sym (ap brought_by same ∙ brings read bytes is)) (contains_head (read.offset, bytes) []))
  | inr later ↦ Contains-append_right (brought_by r) (brought_of rs) (read.offset, bytes) (brought_has rs read bytes later is)
]

-- ---- verdicts

lost_or_full : (reads : List Settled) → AreFull reads → IsLost reads → ⊥
lost_or_full reads full lost =
    let is = full lost.0 lost.1 in none-some is.0 (sym lost.2 ∙ is.1)

lost_or_answered : (reads : List Settled) → AreAnswered reads → IsLost reads → ⊥
lost_or_answered reads answered lost =
    let is = answered lost.0 lost.1 in none-some is.0 (sym lost.2 ∙ is.1)

-- the bytes that the reads brought have all of them at their offsets
has_among : (reads : List Settled) (front : List Brought) (share : List ℕ) → ((read : Brought) → Contains front read → Contains (brought_of reads) read)
    → HasReads (brought_of reads) share → HasReads front share
has_among reads front share among has read at = has read (among read at)

full_last : (reads : List Settled) (read : Settled) (bytes : List ℕ) → AreFull reads → Contains reads read → read.answer ≡ Some bytes → length bytes ≡ read.len
full_last reads read bytes full at is =
    let found = full read at in
    let same : bytes ≡ found.0 = same_Some bytes found.0 (sym is ∙ found.1) in
    ap length same ∙ found.2

-- no share is good that has what was read where reading stopped
stopped_or_good : (cap : VerifyCapValue) (num : ℕ) (reads : List Settled) (check : Check) → IsStopped cap reads check → IsGood cap num reads → ⊥
stopped_or_good cap num reads check s g =
    let l = s.led in
    let at = brought_has reads _ s.bytes l.last refl in
    stop cap l.front l.back s.reading s.bytes check num g.bytes l.led s.stop
    (full_last reads _ s.bytes g.full l.last refl)
    (has_among reads (l.front ++ l.back) g.bytes l.among g.whole.has)
    (g.whole.has (next_offset s.reading, s.bytes) at)
    (sound_passes cap num g.bytes check g.sound)

fails_or_good : (cap : VerifyCapValue) (num : ℕ) (reads : List Settled) (check : Check) → FailsFirst cap num reads check → IsGood cap num reads → ⊥
fails_or_good cap num reads check f g =
    let same : g.bytes ≡ f.bytes = are_one (brought_of reads) g.bytes f.bytes g.whole f.whole in
    first_fails cap num f.bytes f.fault f.first
    (sound_passes cap num f.bytes (check_of f.fault) (subst (IsSoundShare cap num) same g.sound))

good_alone : (cap : VerifyCapValue) (num : ℕ) (reads : List Settled) (v : Verdict) → IsVerdict cap num reads v → IsGood cap num reads → v ≡ Good
good_alone cap num reads Good is good = refl
good_alone cap num reads (Corrupt check) is good = elim is [
  | inl stopped ↦ absurd (stopped_or_good cap num reads check stopped good)
  | inr fails ↦ absurd (fails_or_good cap num reads check fails good)
]
good_alone cap num reads Lost is good = absurd (lost_or_full reads good.full is)

lost_alone : (cap : VerifyCapValue) (num : ℕ) (reads : List Settled) (v : Verdict) → IsVerdict cap num reads v → IsLost reads → v ≡ Lost
lost_alone cap num reads Good is lost = absurd (lost_or_full reads is.full lost)
lost_alone cap num reads (Corrupt check) is lost = elim is [
  | inl stopped ↦ absurd (lost_or_answered reads stopped.answered lost)
  | inr fails ↦ absurd (lost_or_full reads fails.full lost)
]
lost_alone cap num reads Lost is lost = refl

-- ---- the first fault is one

module _ (u : Contents) (num : ℕ) (s : Sections) where
  one_section_fault : (f g : ShareFault) → IsSectionFault u num s f → IsSectionFault u num s g → f ≡ g
  one_section_fault (Layout error) g h k = absurd h
  one_section_fault OtherUeb g h k = absurd h
  one_section_fault (Ueb error) g h k = absurd h
  one_section_fault Unused (Layout error) h k = absurd k
  one_section_fault Unused OtherUeb h k = absurd k
  one_section_fault Unused (Ueb error) h k = absurd k
  one_section_fault Unused Unused h k = refl
  one_section_fault Unused CiphertextTree h k = absurd (h k.0)
  one_section_fault Unused BlockTree h k = absurd (h k.0)
  one_section_fault Unused ShareHashes h k = absurd (h k.0)
  one_section_fault Unused Data h k = absurd (h k.0)
  one_section_fault CiphertextTree (Layout error) h k = absurd k
  one_section_fault CiphertextTree OtherUeb h k = absurd k
  one_section_fault CiphertextTree (Ueb error) h k = absurd k
  one_section_fault CiphertextTree Unused h k = absurd (k h.0)
  one_section_fault CiphertextTree CiphertextTree h k = refl
  one_section_fault CiphertextTree BlockTree h k = absurd (h.1 k.1)
  one_section_fault CiphertextTree ShareHashes h k = absurd (h.1 k.1)
  one_section_fault CiphertextTree Data h k = absurd (h.1 k.1)
  one_section_fault BlockTree (Layout error) h k = absurd k
  one_section_fault BlockTree OtherUeb h k = absurd k
  one_section_fault BlockTree (Ueb error) h k = absurd k
  one_section_fault BlockTree Unused h k = absurd (k h.0)
  one_section_fault BlockTree CiphertextTree h k = absurd (k.1 h.1)
  one_section_fault BlockTree BlockTree h k = refl
  one_section_fault BlockTree ShareHashes h k = absurd (h.2 k.2)
  one_section_fault BlockTree Data h k = absurd (h.2 k.2)
  one_section_fault ShareHashes (Layout error) h k = absurd k
  one_section_fault ShareHashes OtherUeb h k = absurd k
  one_section_fault ShareHashes (Ueb error) h k = absurd k
  one_section_fault ShareHashes Unused h k = absurd (k h.0)
  one_section_fault ShareHashes CiphertextTree h k = absurd (k.1 h.1)
  one_section_fault ShareHashes BlockTree h k = absurd (k.2 h.2)
  one_section_fault ShareHashes ShareHashes h k = refl
  one_section_fault ShareHashes Data h k = absurd (h.3 k.3)
  one_section_fault Data (Layout error) h k = absurd k
  one_section_fault Data OtherUeb h k = absurd k
  one_section_fault Data (Ueb error) h k = absurd k
  one_section_fault Data Unused h k = absurd (k h.0)
  one_section_fault Data CiphertextTree h k = absurd (k.1 h.1)
  one_section_fault Data BlockTree h k = absurd (k.2 h.2)
  one_section_fault Data ShareHashes h k = absurd (k.3 h.3)
  one_section_fault Data Data h k = refl

one_first_fault : (cap : VerifyCapValue) (num : ℕ) (share : List ℕ) (f g : ShareFault) → IsFirstFault cap num share f → IsFirstFault cap num share g → f ≡ g
one_first_fault cap num share f g (not_read h) (not_read k) = one_reading_fault cap num share f g h k
one_first_fault cap num share f g (not_read h) (not_sound u s reads k) = absurd (no_reading_fault cap num share u s reads f h)
one_first_fault cap num share f g (not_sound u s reads h) (not_read k) = absurd (no_reading_fault cap num share u s reads g k)
one_first_fault cap num share f g (not_sound u s reads h) (not_sound v t other k) =
    one_section_fault u num s f g h
    (section_fault cap num share u s (same_reading cap num share u s reads) g (not_sound v t other k) (no_reading_fault cap num share u s reads g))

ended_alone : (cap : VerifyCapValue) (num : ℕ) (reads : List Settled) (one other : Check) → FailsFirst cap num reads one → FailsFirst cap num reads other → one ≡ other
ended_alone cap num reads one other a b =
    let same : a.bytes ≡ b.bytes = are_one (brought_of reads) a.bytes b.bytes a.whole b.whole in
    let faults : a.fault ≡ b.fault = one_first_fault cap num b.bytes a.fault b.fault (subst (λ (share : List ℕ). IsFirstFault cap num share a.fault) same a.first) b.first in
    a.check_is ∙ ap check_of faults ∙ sym b.check_is

-- ---- where reading stopped

pub record IsBroughtBy (reads : List Settled) (b : Brought) : Type 0 where
  pub read : Settled
  pub among : Contains reads read
  pub offset : read.offset ≡ b.0
  pub answer : read.answer ≡ Some b.1

brought_in : (offset : ℕ) (answer : Option (List ℕ)) (b : Brought) → Contains (brought_at offset answer) b → (offset ≡ b.0) × (answer ≡ Some b.1)
brought_in offset None b at = absurd (contains_none b at)
brought_in offset (Some bytes) b at = elim (contains_cases (offset, bytes) b [] at) [
  | inl same ↦ (ap (λ (x : Brought). x.0) same, ap (λ (x : Brought). Some x.1) same)
  | inr none ↦ absurd (contains_none b none)
]

pub brought_from : (reads : List Settled) (b : Brought) → Contains (brought_of reads) b → IsBroughtBy reads b
brought_from reads b at =
    let found = flat_map_from brought_by reads b at in
    let parts = brought_in found.source.offset found.source.answer b found.has in
    record { read = found.source; among = contains_at reads found.position found.source found.there; offset = parts.0; answer = parts.1 }

brought_apart : (reads : List Settled) → AreApart reads → (one other : Brought) → Contains (brought_of reads) one → Contains (brought_of reads) other → one.0 ≡ other.0 → one ≡ other
brought_apart reads apart one other a b e =
    let from = brought_from reads one a in
    let also = brought_from reads other b in
    let same : from.read ≡ also.read = apart from.read also.read from.among also.among (from.offset ∙ e ∙ sym also.offset) in
    let bytes : one.1 ≡ other.1 = same_Some one.1 other.1 (sym from.answer ∙ ap (λ (x : Settled). x.answer) same ∙ also.answer) in
    ap (λ n. (n, one.1)) e ∙ ap (λ (l : List ℕ). (other.0, l)) bytes

-- what the reads brought, where they led to a reading and then to these bytes
module _ (cap : VerifyCapValue) (reads : List Settled) where
  last_at : (r : ShareReading) (bytes : List ℕ) → HasLed cap reads r bytes → Contains (brought_of reads) (next_offset r, bytes)
  last_at r bytes l = brought_has reads _ bytes l.last refl

  led_at : (o : Opening) (bytes : List ℕ) → HasLed cap reads (Beginning o) bytes → IsLedToBy (brought_of reads) o
  led_at o bytes l = more_led (l.front ++ l.back) (brought_of reads) l.among o (led_by cap l.front l.back o l.led)

  -- the beginning was read where bytes behind it were asked for, and where all were read
  rest_opened : (r : Rest) (bytes : List ℕ) → HasLed cap reads (Remaining r) bytes → IsOpenedBy cap (brought_of reads)
  rest_opened r bytes l = opened_more cap (l.front ++ l.back) (brought_of reads) l.among l.led.begun

  ends_opened : (r : ShareReading) (bytes : List ℕ) → HasLed cap reads r bytes → Advances cap r bytes Whole → IsOpenedBy cap (brought_of reads)
  ends_opened (Beginning Start) bytes l a = absurd a.1
  ends_opened (Beginning (Second s)) bytes l a = absurd a.1
  ends_opened (Beginning (Header h)) bytes l a = absurd a.1
  ends_opened (Beginning (Block b)) bytes l a =
      record { block = b; led = led_at (Block b) bytes l; bytes = bytes; brought = last_at (Beginning (Block b)) bytes l; opened = a.0; ends = a.1 }
  ends_opened (Remaining r) bytes l a = rest_opened r bytes l

  module _ (apart : AreApart reads) where
    one_stop : (r t : ShareReading) (bytes more : List ℕ) (one other : Check) → HasLed cap reads r bytes → HasLed cap reads t more → IsStop cap r bytes one → IsStop cap t more other → one ≡ other
    one_stop (Beginning o) (Beginning p) bytes more one other l k why also =
        why.2
        ∙ one_check cap (brought_of reads) (brought_apart reads apart) o p bytes more why.0 also.0
        (record { led = led_at o bytes l; at = last_at (Beginning o) bytes l; why = why.1 })
        (record { led = led_at p more k; at = last_at (Beginning p) more k; why = also.1 })
        ∙ sym also.2
    one_stop (Beginning o) (Remaining t) bytes more one other l k why also =
        absurd (refused_or_opened cap (brought_of reads) (brought_apart reads apart) o bytes why.0 (led_at o bytes l) (last_at (Beginning o) bytes l) why.1 (rest_opened t more k))
    one_stop (Remaining r) (Beginning p) bytes more one other l k why also =
        absurd (refused_or_opened cap (brought_of reads) (brought_apart reads apart) p more also.0 (led_at p more k) (last_at (Beginning p) more k) also.1 (rest_opened r bytes l))
    one_stop (Remaining r) (Remaining t) bytes more one other l k why also = why.1 ∙ sym also.1

    stopped_or_ended : (r t : ShareReading) (bytes more : List ℕ) (check : Check) → HasLed cap reads r bytes → IsStop cap r bytes check → AreFull reads
        → HasLed cap reads t more → Advances cap t more Whole → ⊥
    stopped_or_ended (Beginning o) t bytes more check l why full k a =
        refused_or_opened cap (brought_of reads) (brought_apart reads apart) o bytes why.0 (led_at o bytes l) (last_at (Beginning o) bytes l) why.1 (ends_opened t more k a)
    stopped_or_ended (Remaining r) t bytes more check l why full k a = why.0 (full_last reads _ bytes full l.last refl)

    stopped_alone : (num : ℕ) (check : Check) (v : Verdict) → IsStopped cap reads check → IsVerdict cap num reads v → v ≡ Corrupt check
    stopped_alone num check Good s is = absurd (stopped_or_good cap num reads check s is)
    stopped_alone num check Lost s is = absurd (lost_or_answered reads s.answered is)
    stopped_alone num check (Corrupt other) s is = elim is [
      | inl also ↦ ap Corrupt (one_stop also.reading s.reading also.bytes s.bytes other check also.led s.led also.stop s.stop)
      | inr fails ↦ absurd (stopped_or_ended s.reading fails.reading s.bytes fails.last_bytes check s.led s.stop fails.full fails.led fails.ends)
    ]

    one_verdict : (num : ℕ) (v w : Verdict) → IsVerdict cap num reads v → IsVerdict cap num reads w → v ≡ w
    one_verdict num Good w is other = sym (good_alone cap num reads w other is)
    one_verdict num Lost w is other = sym (lost_alone cap num reads w other is)
    one_verdict num (Corrupt check) Good is other = good_alone cap num reads (Corrupt check) is other
    one_verdict num (Corrupt check) Lost is other = lost_alone cap num reads (Corrupt check) is other
    one_verdict num (Corrupt check) (Corrupt also) is other = elim is [
      | inl stopped ↦ sym (stopped_alone num check (Corrupt also) stopped other)
      | inr fails ↦ elim other [
        | inl stopped ↦ stopped_alone num also (Corrupt check) stopped (inr fails)
        | inr too ↦ ap Corrupt (ended_alone cap num reads check also fails too)
      ]
    ]

pub exclusive : AreExclusive
exclusive = record {
  good = good_alone;
  lost = lost_alone;
  ended = ended_alone;
  one = λ cap num reads v w apart is other. one_verdict cap reads apart num v w is other;
}

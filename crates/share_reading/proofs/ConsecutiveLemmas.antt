-- Reads that follow one another, and what they bring.
use Rattle.std.proofs.Common.{◌≡◌, ℕ, ◌+◌, ◌-◌, ◌<◌, ◌≤◌, List, [], ◌∷◌, ◌++◌, length, get_or, take, drop, ap, sym, subst, ◌∙◌, arith, inl, inr, append_assoc}
use Rattle.std.specs.Prelude.{Contains}
use Rattle.std.proofs.lemmas.Bool.{cases_lt}
use Rattle.std.proofs.lemmas.List.{get_or-take, get_or-drop, length-append, length-take, length-drop, ext_get_or}
use Rattle.std.proofs.Math.Seq.{take-append_seam, drop-append_seam}
use Rattle.lemmas.proofs.Members.{contains_head, contains_tail, contains_cases, contains_none}
use Rattle.share_reading.specs.OpeningReads.{Brought}
use Rattle.share_reading.specs.Blame.{HasAt, HasReads}
use Rattle.share_reading.specs.Whole.{AreConsecutive, AreOne, IsWhole, joined}

-- ---- members of a list

-- ---- reads one after another

pub push : (offset end : ℕ) (reads : List Brought) (bytes : List ℕ) → AreConsecutive offset reads end → AreConsecutive offset (reads ++ (end, bytes) ∷ []) (end + length bytes)
push offset end [] bytes is = (sym is, ap (λ n. n + length bytes) is)
push offset end (read ∷ reads) bytes is = (is.0, push (offset + length read.1) end reads bytes is.1)

pub append : (offset middle end : ℕ) (reads more : List Brought) → AreConsecutive offset reads middle → AreConsecutive middle more end → AreConsecutive offset (reads ++ more) end
append offset middle end [] more is then = subst (λ n. AreConsecutive n more end) (sym is) then
append offset middle end (read ∷ reads) more is then = (is.0, append (offset + length read.1) middle end reads more is.1 then)

pub rises : (offset end : ℕ) (reads : List Brought) → AreConsecutive offset reads end → offset ≤ end
rises offset end [] is = omega (arith, is)
rises offset end (read ∷ reads) is = omega (arith, rises (offset + length read.1) end reads is.1)

pub inside : (offset end : ℕ) (reads : List Brought) (read : Brought) → AreConsecutive offset reads end → Contains reads read → (offset ≤ read.0) × (read.0 + length read.1 ≤ end)
inside offset end [] read is at = absurd (contains_none read at)
inside offset end (first ∷ reads) read is at = elim (contains_cases first read reads at) [
  | inl same ↦
      let here : first.0 ≡ read.0 = ap (λ (r : Brought). r.0) same in
      let long : length first.1 ≡ length read.1 = ap (λ (r : Brought). length r.1) same in
      let more = rises (offset + length first.1) end reads is.1 in
      (omega (arith, here, is.0), omega (arith, here, is.0, long, more))
  | inr later ↦
      let rest = inside (offset + length first.1) end reads read is.1 later in
      (omega (arith, rest.0), rest.1)
]

pub covers : (offset end : ℕ) (reads : List Brought) (at : ℕ) → AreConsecutive offset reads end → offset ≤ at → at < end
    → (read : Brought) × Contains reads read × (read.0 ≤ at) × (at < read.0 + length read.1)
covers offset end [] at is low high = absurd (omega (arith, is, low, high))
covers offset end (first ∷ reads) at is low high = elim (cases_lt at (offset + length first.1)) [
  | inl lt ↦ (first, contains_head first reads, omega (arith, is.0, low), omega (arith, is.0, lt))
  | inr le ↦
      let found = covers (offset + length first.1) end reads at is.1 le high in
      (found.0, contains_tail first found.0 reads found.1, found.2, found.3)
]

pub ends : (offset end : ℕ) (reads : List Brought) → AreConsecutive offset reads end → offset + length (joined reads) ≡ end
ends offset end [] is = omega (arith, is)
ends offset end (read ∷ reads) is =
    omega (arith, ends (offset + length read.1) end reads is.1, length-append read.1 (joined reads))

-- each of them is in what they bring, behind what stands before
pub are_in : (front : List ℕ) (end : ℕ) (reads : List Brought) → AreConsecutive (length front) reads end → HasReads reads (front ++ joined reads)
are_in front end [] is read at = absurd (contains_none read at)
are_in front end (first ∷ reads) is read at = elim (contains_cases first read reads at) [
  | inl same ↦ subst (λ (r : Brought). HasAt (front ++ (first.1 ++ joined reads)) r.0 r.1) same here
  | inr later ↦
      subst (λ (s : List ℕ). HasAt s read.0 read.1) (append_assoc front first.1 (joined reads))
      (are_in (front ++ first.1) end reads (subst (λ n. AreConsecutive n reads end) (sym (length-append front first.1)) is.1) read later)
]
  where
    here : HasAt (front ++ (first.1 ++ joined reads)) first.0 first.1
    here =
        sym (
        ap (λ n. take (length first.1) (drop n (front ++ (first.1 ++ joined reads)))) is.0
        ∙ ap (take (length first.1)) (drop-append_seam front (first.1 ++ joined reads))
        ∙ take-append_seam first.1 (joined reads)
        )

pub whole : (end : ℕ) (reads : List Brought) → AreConsecutive 0 reads end → IsWhole reads (joined reads)
whole end reads is = record {
  has = are_in [] end reads is;
  covered = λ offset lt. covers 0 end reads offset is (omega arith) (omega (arith, lt, ends 0 end reads is));
}

-- ---- what two shares have that were read whole by the same reads

fits : (share : List ℕ) (offset : ℕ) (bytes : List ℕ) → HasAt share offset bytes → length bytes ≤ length share - offset
fits share offset bytes has = omega (arith, ap length has, length-take (length bytes) (drop offset share), length-drop offset share)

byte_at : (share : List ℕ) (offset : ℕ) (bytes : List ℕ) (i : ℕ) → HasAt share offset bytes → i < length bytes → get_or share (offset + i) 0 ≡ get_or bytes i 0
byte_at share offset bytes i has lt =
    sym (ap (λ (b : List ℕ). get_or b i 0) has ∙ get_or-take (length bytes) (drop offset share) i 0 lt ∙ get_or-drop offset share i 0)

no_longer : (reads : List Brought) (share other : List ℕ) → IsWhole reads share → IsWhole reads other → length other ≤ length share
no_longer reads share other one two = elim (cases_lt (length share) (length other)) [
  | inl lt ↦
      let found = two.covered (length share) lt in
      absurd (omega (arith, found.2, found.3, fits share found.0.0 found.0.1 (one.has found.0 found.1)))
  | inr le ↦ le
]

pub are_one : AreOne
are_one reads share other one two =
    ext_get_or 0 share other (omega (arith, no_longer reads share other one two, no_longer reads other share two one)) same
  where
    same : (i : ℕ) → i < length share → get_or share i 0 ≡ get_or other i 0
    same i lt =
        let found = one.covered i lt in
        let offset = i - found.0.0 in
        let position : found.0.0 + offset ≡ i = omega (arith, found.2) in
        let inside : offset < length found.0.1 = omega (arith, found.2, found.3) in
        ap (λ n. get_or share n 0) (sym position)
        ∙ byte_at share found.0.0 found.0.1 offset (one.has found.0 found.1) inside
        ∙ sym (byte_at other found.0.0 found.0.1 offset (two.has found.0 found.1) inside)
        ∙ ap (λ n. get_or other n 0) position

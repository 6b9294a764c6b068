-- A share that passes is judged good where its own bytes came.
use Rattle.std.proofs.Common.{◌≡◌, ◌⊎◌, ℕ, ◌+◌, ◌-◌, ◌<◌, ◌≤◌, List, [], ◌∷◌, ◌++◌, Some, length, take, drop, min, inl, inr, ap, refl, subst, sym, ◌∙◌, arith}
use Rattle.std.specs.Prelude.{Contains}
use Rattle.std.proofs.lemmas.List.Elements.{Contains-append_cases, Contains-append_left, Contains-append_right}
use Rattle.lemmas.proofs.Members.{contains_cases, contains_none}
use Rattle.cap_text.specs.Cap.{VerifyCapValue}
use Rattle.ueb.specs.Shape.{Contents}
use Rattle.wire.specs.Limits.{most_data}
use Rattle.share_layout.specs.declared.offsets.Offsets.{Offsets}
use Rattle.share_layout.specs.Layout.{header_size, offsets_of, width}
use Rattle.share_layout.specs.Offsets.{AreRising, layout_in, offsets_in}
use Rattle.share_layout.specs.Share.{Sections}
use Rattle.share_layout.proofs.ShareLemmas.{located_tail}
use Rattle.share_verify.specs.Checks.{Passes, check_of}
use Rattle.share_verify.specs.Verify.{IsSound}
use Rattle.share_verify.specs.declared.check.Check.{Check}
use Rattle.share_verify.proofs.Faults.{first_fails}
use Rattle.share_verify.proofs.Passing.{sound_passes}
use Rattle.share_reading.specs.Blame.{HasReads}
use Rattle.share_reading.specs.Opening as opening
use Rattle.share_reading.specs.OpeningReads.{Brought, IsLedToBy}
use Rattle.share_reading.specs.declared.block.Opened.{Opened}
use Rattle.share_reading.specs.declared.block.PendingBlock.{PendingBlock}
use Rattle.share_reading.specs.declared.opening.Opening.TheVariants.{Start, Second, Header, Block}
use Rattle.share_reading.specs.declared.opening.Progress.TheVariants as progress
use Rattle.share_reading.specs.Reading.{Advances, IsStop, next_length, next_offset}
use Rattle.share_reading.specs.Reads.{IsReadBy, IsRestBy}
use Rattle.share_reading.specs.Verdict.{FailsFirst, IsLost, IsStopped, IsVerdict, Settled, brought_of}
use Rattle.share_reading.specs.Whole.{AreConsecutive, IsWhole}
use Rattle.share_reading.specs.declared.reading.ShareReading.{ShareReading}
use Rattle.share_reading.specs.declared.reading.ShareReading.TheVariants.{Beginning, Remaining}
use Rattle.share_reading.specs.declared.reading.Progress.TheVariants.{Whole}
use Rattle.share_reading.specs.declared.rest.Rest.{Rest}
use Rattle.share_reading.specs.declared.verdict.Verdict.{Verdict}
use Rattle.share_reading.specs.declared.verdict.Verdict.TheVariants.{Good, Corrupt, Lost}
use Rattle.share_reading.proofs.ConsecutiveLemmas.{append, are_one, covers, inside, push}
use Rattle.share_reading.proofs.ReadingLemmas.{led_by, offsets_are}
use Rattle.share_reading.proofs.VerdictLemmas.{brought_from, brought_has}
use Rattle.share_reading.proofs.BlameLemmas.{header_begins, told_length}
use Rattle.answer_laws.proofs.Downloads.OpeningLemmas.{own_at, own_long, own_not_refused}
use Rattle.answer_laws.specs.Checks.Reads.{BringOwn, OwnReadsAreGood}

module _ (cap : VerifyCapValue) (num : ℕ) (share : List ℕ) (u : Contents) (s : Sections) (sound : IsSound cap num share u s) where
  -- ---- what reads of its bytes tell of it

  -- its offsets, by its header
  own_offsets : (reads : List Brought) → HasReads reads share → (p : PendingBlock) → IsLedToBy reads (Block p) → p.header.offsets ≡ offsets_in share
  own_offsets reads has p led = p.header.right.offsets ∙ (header_begins reads share p.header led.0 has).offsets

  opened_offsets : (reads : List Brought) → HasReads reads share → (p : PendingBlock) (bytes : List ℕ) (o : Opened) → IsLedToBy reads (Block p) → opening.Advances cap (Block p) bytes (progress.Done o)
      → o.offsets ≡ offsets_in share
  opened_offsets reads has p bytes o led a =
      a.1.offsets ∙ ap offsets_of a.1.geometry ∙ sym (offsets_are cap p.header bytes o a.1) ∙ own_offsets reads has p led

  -- how long its extension block is
  own_length : (reads : List Brought) → HasReads reads share → (p : PendingBlock) (bytes : List ℕ) → IsLedToBy reads (Block p) → length bytes ≡ p.block_length → length bytes ≡ length s.extension_block
  own_length reads has p bytes led long =
      long ∙ led.1.number ∙ told_length share p.header led.1.bytes (header_begins reads share p.header led.0 has) (has _ led.1.read) led.1.long
      ∙ (located_tail share s.extension_block sound.reads.located).number

  share_long : length share ≡ (offsets_in share).extension_block + width (layout_in share) + length s.extension_block
  share_long = (located_tail share s.extension_block sound.reads.located).long

  rest_offsets : (front back : List Brought) (r : Rest) → HasReads (front ++ back) share → IsRestBy cap front back r → r.offsets ≡ offsets_in share
  rest_offsets front back r has by = by.offsets ∙ opened_offsets (front ++ back) has by.begun.block by.begun.bytes by.begun.opened by.begun.led by.begun.ends

  -- the reads behind the rest came to its end
  rest_end : (front back : List Brought) (r : Rest) → HasReads (front ++ back) share → (by : IsRestBy cap front back r) → length share ≤ by.end
  rest_end front back r has by =
      let p : PendingBlock = by.begun.block in
      let bytes : List ℕ = by.begun.bytes in
      let own : p.header.offsets ≡ offsets_in share = own_offsets (front ++ back) has p by.begun.led in
      let rest : r.offsets ≡ offsets_in share = rest_offsets front back r has by in
      let offset : p.header.offsets.extension_block + width p.header.offsets.layout ≡ (offsets_in share).extension_block + width (layout_in share) = ap (λ (q : Offsets). q.extension_block + width q.layout) own in
      let end : r.offsets.extension_block ≡ (offsets_in share).extension_block = ap (λ (q : Offsets). q.extension_block) rest in
      let long = share_long in
      let block : length bytes ≡ length s.extension_block = own_length (front ++ back) has p bytes by.begun.led by.begun.ends.0 in
      let more = r.more in
      elim (Contains-append_cases front back (opening.next_offset (Block p), bytes) by.begun.brought) [
        | inl early ↦
            let low = (inside 0 r.next front (opening.next_offset (Block p), bytes) by.before early).1 in
            absurd (omega (arith, low, more, offset, end))
        | inr late ↦
            let high = (inside r.offsets.extension_block by.end back (opening.next_offset (Block p), bytes) by.behind late).1 in
            omega (arith, high, offset, long, block)
      ]

  module _ (reads : List Settled) (own : BringOwn reads share) where
    has_all : HasReads (brought_of reads) share
    has_all b c =
        let from = brought_from reads b c in
        own_at share b.1 b.0 from.read.len (own from.read b.1 from.among from.answer ∙ ap (λ (n : ℕ). take from.read.len (drop n share)) from.offset)

    has_some : (some : List Brought) → ((b : Brought) → Contains some b → Contains (brought_of reads) b) → HasReads some share
    has_some some among b c = has_all b (among b c)

    last_own : (reading : ShareReading) (bytes : List ℕ) → Contains reads (record { offset = next_offset reading; len = next_length reading; answer = Some bytes })
        → bytes ≡ take (next_length reading) (drop (next_offset reading) share)
    last_own reading bytes c = own (record { offset = next_offset reading; len = next_length reading; answer = Some bytes }) bytes c refl

    -- ---- reading does not stop

    stops_not : (reading : ShareReading) (front back : List Brought) (bytes : List ℕ) (check : Check) → IsReadBy cap front back reading → HasReads (front ++ back) share
        → bytes ≡ take (next_length reading) (drop (next_offset reading) share) → IsStop cap reading bytes check → ⊥
    stops_not (Beginning o) front back bytes check by has is why =
        own_not_refused cap num share (u, s, sound) (front ++ back) o (led_by cap front back o by) has bytes why.0 is why.1
    stops_not (Remaining r) front back bytes check by has is why =
        let end : r.offsets.extension_block ≡ (offsets_in share).extension_block = ap (λ (p : Offsets). p.extension_block) (rest_offsets front back r has by) in
        let more = r.more in
        let long = share_long in
        why.0 (own_long share bytes r.next (min (r.offsets.extension_block - r.next) most_data) is (omega (arith, more, end, long)))

    -- ---- at the end the share was read

    covers_all : (reading : ShareReading) (front back : List Brought) (bytes : List ℕ) → IsReadBy cap front back reading → ((b : Brought) → Contains (front ++ back) b → Contains (brought_of reads) b)
        → Contains (brought_of reads) (next_offset reading, bytes) → Advances cap reading bytes Whole → (offset : ℕ) → offset < length share
        → (read : Brought) × Contains (brought_of reads) read × (read.0 ≤ offset) × (offset < read.0 + length read.1)
    covers_all (Beginning Start) front back bytes by among last a offset low = absurd a.1
    covers_all (Beginning (Second t)) front back bytes by among last a offset low = absurd a.1
    covers_all (Beginning (Header h)) front back bytes by among last a offset low = absurd a.1
    covers_all (Beginning (Block p)) front back bytes by among last a offset low =
        let offsets : a.0.offsets ≡ offsets_in share = opened_offsets (front ++ back) (has_some (front ++ back) among) p bytes a.0 (led_by cap front back (Block p) by) a.1 in
        let joint : (offsets_in share).extension_block ≤ header_size (layout_in share) = subst (λ (q : Offsets). q.extension_block ≤ header_size q.layout) offsets a.2 in
        let rise : AreRising (offsets_in share) = sound.reads.located.offsets.rising in
        let r1 = rise.unused in let r2 = rise.ciphertext_tree in let r3 = rise.block_tree in let r4 = rise.share_hashes in let r5 = rise.extension_block in
        absurd (omega (arith, joint, r1, r2, r3, r4, r5))
    covers_all (Remaining r) front back bytes by among last a offset low =
        let e : ℕ = r.offsets.extension_block in
        let high = rest_end front back r (has_some (front ++ back) among) by in
        let all : AreConsecutive 0 ((front ++ (r.next, bytes) ∷ []) ++ back) by.end =
        append 0 e by.end (front ++ (r.next, bytes) ∷ []) back
        (subst (AreConsecutive 0 (front ++ (r.next, bytes) ∷ [])) (ap (λ n. r.next + n) a.0 ∙ a.1) (push 0 r.next front bytes by.before)) by.behind in
        let found = covers 0 by.end ((front ++ (r.next, bytes) ∷ []) ++ back) offset all (omega arith) (omega (arith, low, high)) in (
          found.0,
          elim (Contains-append_cases (front ++ (r.next, bytes) ∷ []) back found.0 found.1) [
            | inl first ↦ elim (Contains-append_cases front ((r.next, bytes) ∷ []) found.0 first) [
              | inl early ↦ among found.0 (Contains-append_left front back found.0 early)
              | inr at_last ↦ elim (contains_cases (r.next, bytes) found.0 [] at_last) [
                | inl is ↦ subst (Contains (brought_of reads)) is last
                | inr none ↦ absurd (contains_none found.0 none)
              ]
            ]
            | inr late ↦ among found.0 (Contains-append_right front back found.0 late)
          ],
          found.2,
          found.3,
        )

    corrupt_not : (check : Check) → IsStopped cap reads check ⊎ FailsFirst cap num reads check → ⊥
    corrupt_not check (inl st) = stops_not st.reading st.led.front st.led.back st.bytes check st.led.led (has_some (st.led.front ++ st.led.back) st.led.among) (last_own st.reading st.bytes st.led.last) st.stop
    corrupt_not check (inr f) =
        let last = brought_has reads (record { offset = next_offset f.reading; len = next_length f.reading; answer = Some f.last_bytes }) f.last_bytes f.led.last refl in
        let mine : IsWhole (brought_of reads) share = record { has = has_all; covered = covers_all f.reading f.led.front f.led.back f.last_bytes f.led.led f.led.among last f.ends } in
        let same : f.bytes ≡ share = are_one (brought_of reads) f.bytes share f.whole mine in
        first_fails cap num f.bytes f.fault f.first (subst (λ (b : List ℕ). Passes cap num b (check_of f.fault)) (sym same) (sound_passes cap num share (check_of f.fault) (u, s, sound)))

    good_or_lost : (v : Verdict) → IsVerdict cap num reads v → (v ≡ Good) ⊎ ((v ≡ Lost) × IsLost reads)
    good_or_lost Good is = inl refl
    good_or_lost (Corrupt check) is = absurd (corrupt_not check is)
    good_or_lost Lost is = inr (refl, is)

pub own_reads_are_good : OwnReadsAreGood
own_reads_are_good cap num share reads v sound own is = good_or_lost cap num share sound.0 sound.1 sound.2 reads own v is

-- What proves the segments that were made.
use Rattle.std.proofs.Common.{◌≡◌, ℕ, ◌+◌, ◌-◌, ◌/◌, Bool, true, false, cond, map, ◌<◌, All, List, Option, Some, None, refl, sym, ap, subst, ◌∙◌, arith}
use Rattle.std.specs.Prelude.{slice_get}
use Rattle.std.specs.List.{range_with_len}
use Rattle.ueb.specs.Shape.{Contents}
use Rattle.share_verify.specs.CapBlock.{IsUebFor}
use Rattle.proved_parts.specs.Parts.{IsSegmentBy}
use Rattle.proved_parts.specs.declared.evidence.EvidencePart.{EvidencePart}
use Rattle.wire.specs.declared.message.Body.TheVariants.{Data}
use Rattle.request_record.specs.declared.requests.Outcome.TheVariants.{Answered}
use Rattle.download_shares.specs.Reads.{IsAnsweredBy}
use Rattle.download_file.specs.Answers.{IsMadeSegment}
use Rattle.download_file.specs.Right.{made_end}
use Rattle.download_file.specs.State.{FileState}
use Rattle.download_core.specs.Evidence.{ProvesMade}
use Rattle.cap_text.specs.Cap.{ReadCapValue, VerifyCapValue, verify_cap_of}
use Rattle.request_record.specs.declared.requests.Request.{Request}
use Rattle.share_layout.specs.Geometry.{Geometry}
use Rattle.download_file.specs.State as file
use Rattle.download_core.specs.declared.state.FoundFile.{FoundFile}
use Rattle.download_core.specs.declared.state.Machine.{Machine}
use Rattle.download_core.specs.Given.{IsFileIfFound, IsHead, IsRightIfFound}
use Rattle.download_core.specs.Steps.{IsComplete, entries_of, found_of}
use Rattle.std.specs.Int.{div_ceil}
use Rattle.std.specs.Prelude.{nat_lt, unwrap_or}
use Rattle.std.proofs.lemmas.Bool.{ltb-true}
use Rattle.lemmas.proofs.Options.{one_there}
use Rattle.proved_parts.specs.declared.evidence.Evidence.{Evidence}
use Rattle.download_core.specs.Evidence.{HasAllParts, IsEvidenceOf}
use Rattle.share_layout.specs.Geometry.{segment_count}
use Rattle.share_layout.proofs.GeometryLemmas.{ceil_most}
use Rattle.download_parts.proofs.NumberLemmas.{below_ceil}
use Rattle.download_file.specs.Right.{IsFile}

pub head_answers : {cap : VerifyCapValue} {entries : List Request} {position : ℕ} {u : Contents} → (h : IsHead cap entries position u) → IsAnsweredBy entries position h.text
head_answers h = record { request = h.request; there = h.there; answer = h.answer }

-- the answer at the position is the extension block
same_text : (cap : VerifyCapValue) (entries : List Request) (position : ℕ) (u : Contents) (h : IsHead cap entries position u) (text : List ℕ) → IsAnsweredBy entries position text → h.text ≡ text
same_text cap entries position u h text a =
    let one : h.request ≡ a.request = one_there (slice_get entries position) h.request a.request h.there a.there in
    let two : Answered (Data h.text) ≡ Answered (Data text) = sym h.answer ∙ ap (λ (r : Request). r.outcome) one ∙ a.answer in
    cc

pub proves_made : (verify : VerifyCapValue) (cap : ReadCapValue) → verify ≡ verify_cap_of cap → (entries : List Request) (f : FoundFile) → IsHead (verify_cap_of cap) entries f.position f.reading.file.handout.ueb → (text : List ℕ) → IsAnsweredBy entries f.position text
    → (block : List ℕ) (parts : List EvidencePart) → block ≡ text → (file : FileState) → file ≡ f.reading.file → (made : List EvidencePart) → parts ≡ made
    → map (λ (p : EvidencePart). p.number) made ≡ range_with_len file.first (made_end file - file.first)
    → All (λ (p : EvidencePart). IsSegmentBy file.handout.ueb p.number p.segment p.path) made
    → All (λ (p : EvidencePart). IsMadeSegment entries file p.number p.segment) made
    → ProvesMade verify entries f.reading.file (record { extension_block = block; parts = parts })
proves_made verify cap is entries f head text answered block parts same file file_is made parts_are all by each = record {
  proved = record {
    ueb = subst (λ (v : VerifyCapValue). IsUebFor v block f.reading.file.handout.ueb) (sym is)
        (subst (λ (b : List ℕ). IsUebFor (verify_cap_of cap) b f.reading.file.handout.ueb) (same_text (verify_cap_of cap) entries f.position f.reading.file.handout.ueb head text answered ∙ sym same) head.block);
    parts = subst (λ (l : List EvidencePart). All (λ (p : EvidencePart). IsSegmentBy f.reading.file.handout.ueb p.number p.segment p.path) l) (sym parts_are)
        (subst (λ (x : FileState). All (λ (p : EvidencePart). IsSegmentBy x.handout.ueb p.number p.segment p.path) made) file_is by);
  };
  parts = subst (λ (l : List EvidencePart). map (λ (p : EvidencePart). p.number) l ≡ range_with_len f.reading.file.first (made_end f.reading.file - f.reading.file.first)) (sym parts_are)
      (subst (λ (x : FileState). map (λ (p : EvidencePart). p.number) made ≡ range_with_len x.first (made_end x - x.first)) file_is all);
  made = subst (λ (l : List EvidencePart). All (λ (p : EvidencePart). IsMadeSegment entries f.reading.file p.number p.segment) l) (sym parts_are)
      (subst (λ (x : FileState). All (λ (p : EvidencePart). IsMadeSegment entries x p.number p.segment) made) file_is each);
}

-- ---- the whole file

-- the number of segments, by the last byte
segments_by : (size k : ℕ) → 0 < k → 0 < size → (size - 1) / k + 1 ≡ div_ceil size k
segments_by size k some more =
    let low = below_ceil size k (size - 1) some (omega (arith, more)) in
    let high = ceil_most size k ((size - 1) / k + 1) some (omega (arith, more)) in
    omega (arith, low, high)

made_whole : (f : FileState) → file.IsComplete f → made_end f ≡ f.end
made_whole f complete = by (nat_lt f.handout.reached f.handout.to) refl
  where
    by : (b : Bool) → nat_lt f.handout.reached f.handout.to ≡ b → unwrap_or (cond b (Some (f.handout.reached / f.handout.geometry.segment_size)) None) f.end ≡ f.end
    by true e = (let lt = ltb-true f.handout.reached f.handout.to e in absurd (omega (arith, lt, complete)))
    by false e = refl

-- a whole file has a part for each segment
pub whole_parts : (f : FileState) (parts : List EvidencePart) → IsFile f → file.IsComplete f → f.first ≡ 0 / f.handout.geometry.segment_size → f.handout.to ≡ f.handout.geometry.size
    → map (λ (p : EvidencePart). p.number) parts ≡ range_with_len f.first (made_end f - f.first) → map (λ (p : EvidencePart). p.number) parts ≡ range_with_len 0 (segment_count f.handout.geometry)
whole_parts f parts right complete first to all =
    let g = f.handout.geometry in
    let valid = right.range.valid in
    let none : f.first ≡ 0 = first ∙ omega arith in
    let end : made_end f ≡ segment_count g = made_whole f complete ∙ right.last ∙ ap (λ (n : ℕ). (n - 1) / g.segment_size + 1) to ∙ segments_by g.size g.segment_size valid.some_segment valid.some in
    let all_made : made_end f - 0 ≡ segment_count g = omega (arith, end) in
    all ∙ ap (λ (n : ℕ). range_with_len n (made_end f - n)) none ∙ ap (range_with_len 0) all_made

pub whole_of : (m : Machine) (e : Option Evidence) → IsFileIfFound m.cap m.from m.to (entries_of m) (found_of m.found) → IsRightIfFound (found_of m.found) → IsComplete m.from m.to m.found → m.from ≡ 0 → m.to ≡ m.cap.size
    → IsEvidenceOf m.verify (entries_of m) (found_of m.found) e → HasAllParts (found_of m.found) e
whole_of m e file right complete from to made = by m.found e file right complete made
  where
    by : (f : Option FoundFile) (e : Option Evidence) → IsFileIfFound m.cap m.from m.to (entries_of m) (found_of f) → IsRightIfFound (found_of f) → IsComplete m.from m.to f → IsEvidenceOf m.verify (entries_of m) (found_of f) e → HasAllParts (found_of f) e
    by None None file right complete made = tt
    by None (Some e) file right complete made = absurd made
    by (Some f) None file right complete made = absurd made
    by (Some f) (Some e) file right complete made =
        let h = f.reading.file.handout in
        whole_parts f.reading.file e.parts right complete
        (file.first ∙ ap (λ (n : ℕ). n / h.geometry.segment_size) from)
        (file.to_is ∙ to ∙ sym file.head.block.size ∙ ap (λ (g : Geometry). g.size) (sym right.handout.geometry))
        made.parts

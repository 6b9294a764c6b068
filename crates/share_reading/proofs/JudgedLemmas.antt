-- A share that is judged as it is read.
use Rattle.std.proofs.Common.{◌≡◌, ℕ, ◌+◌, ◌*◌, ◌<◌, ◌≤◌, List, [], ◌∷◌, ◌++◌, length, get_or, Option, Some, None, Result, Ok, Err, OnOk, MatchResult, ap, refl, sym, subst, ◌∙◌, append_assoc, length-append, arith}
use Rattle.std.proofs.lemmas.List.{append-nil, length-drop, take_all}
use Rattle.std.proofs.lemmas.List.Concat.{flat_map-append}
use Rattle.std.proofs.lemmas.Option.{none-some}
use Rattle.cap_text.specs.Cap.{VerifyCapValue}
use Rattle.ueb.specs.Shape.{Contents}
use Rattle.share_layout.specs.Geometry.{Geometry, block_size}
use Rattle.share_layout.specs.declared.layout.Layout.{Layout}
use Rattle.share_layout.specs.declared.offsets.Offsets.{Offsets}
use Rattle.share_layout.specs.Layout.{header, header_size, layout_of, number_in, offsets_of, spelled, width}
use Rattle.share_layout.specs.Offsets.{number_at}
use Rattle.share_layout.specs.Reading.{HasHeader}
use Rattle.share_layout.proofs.LayoutLemmas.{length-header, spelled_again}
use Rattle.share_verify.specs.CapBlock.{geometry_by}
use Rattle.share_verify.specs.Checks.{check_of}
use Rattle.share_verify.specs.Judging.{HasTaken, IsWhole, between_size, share_with}
use Rattle.share_verify.specs.Verify.{IsFirstFault, IsSoundShare}
use Rattle.share_verify.specs.declared.fault.ShareFault.{ShareFault}
use Rattle.share_verify.specs.declared.judging.Judging.{Judging}
use Rattle.share_reading.specs.Opening as opening
use Rattle.share_reading.specs.Opening.{text_of}
use Rattle.share_reading.specs.OpeningReads.{Brought}
use Rattle.share_reading.specs.declared.block.Opened.{Opened}
use Rattle.share_reading.specs.declared.block.PendingBlock.{PendingBlock}
use Rattle.share_reading.specs.declared.header.ShareHeader.{ShareHeader}
use Rattle.share_reading.specs.declared.opening.Opening.TheVariants.{Start, Second, Header, Block}
use Rattle.share_reading.specs.declared.opening.Progress.TheVariants as progress
use Rattle.share_reading.proofs.BlameLemmas.{text_begins}
use Rattle.share_reading.proofs.ReadLemmas.{length-text_of}
use Rattle.share_reading.specs.Reading.{Advances, next_offset}
use Rattle.share_reading.specs.Reads.{HasHeaderBy, IsReadBy, more_back, more_front}
use Rattle.share_reading.specs.Judged.{GoesOn, HasJudged, HasRest, IsAtEnd, IsVerdictOn}
use Rattle.share_reading.specs.Verdict.{IsJudged}
use Rattle.share_reading.specs.Whole.{joined}
use Rattle.share_reading.specs.declared.judged.Judged.{Judged}
use Rattle.share_reading.specs.declared.reading.Progress.TheVariants.{Next, Whole}
use Rattle.share_reading.specs.declared.reading.ShareReading.{ShareReading}
use Rattle.share_reading.specs.declared.reading.ShareReading.TheVariants.{Beginning, Remaining}
use Rattle.share_reading.specs.declared.rest.Rest.{Rest}
use Rattle.share_reading.specs.declared.verdict.Verdict.{Verdict}
use Rattle.share_reading.specs.declared.verdict.Verdict.TheVariants.{Good, Corrupt}
use Rattle.share_reading.proofs.ConsecutiveLemmas.{ends, whole}
use Rattle.share_reading.proofs.ReadingLemmas.{offsets_are}

-- ---- what reads brought, joined

pub joined_push : (reads : List Brought) (b : Brought) → joined (reads ++ b ∷ []) ≡ joined reads ++ b.1
joined_push reads b = flat_map-append (λ (read : Brought). read.1) reads (b ∷ []) ∙ ap (λ (l : List ℕ). joined reads ++ l) (append-nil b.1)

-- those that brought a header are it
header_joined : (front : List Brought) (h : ShareHeader) → HasHeaderBy front h → joined front ≡ text_of h
header_joined front h is =
    let all = joined front in
    let long : length all ≡ header_size h.offsets.layout = omega (arith, ends 0 (header_size h.offsets.layout) front is.consecutive) in
    let text = text_begins h.offsets.layout front all (text_of h) (length-text_of h) is.header (whole (header_size h.offsets.layout) front is.consecutive).has in
    sym (text ∙ take_all (length (text_of h)) all (omega (arith, long, length-text_of h)))

-- a header of the length of its layout is the one of the file
own_header : (g : Geometry) (text : List ℕ) → length text ≡ header_size (layout_of g) → HasHeader g text → text ≡ header g
own_header g text long is = sym (take_all (header_size (layout_of g)) text (omega (arith, long))) ∙ is

-- the length of an extension block, as it was read
length_spelled : (l : Layout) (bytes : List ℕ) (n : ℕ) → length bytes ≡ width l → ((i : ℕ) → get_or bytes i 0 < 256) → n ≡ number_at l bytes 0 → bytes ≡ spelled l n
length_spelled l bytes n long small is =
    sym (spelled_again l bytes n long small (is ∙ ap (number_in l) (take_all (width l) bytes (omega (arith, long)))))

-- ---- the end

pub whole_of : (j : Judging) (u : Contents) (taken : List ℕ) → HasTaken j u taken → length taken ≡ between_size (geometry_by u) → IsWhole j
whole_of j u taken has long =
    let n = length j.hashes.items * block_size (geometry_by j.ueb) in record {
      within = has.within;
      whole = (let rest = ap length has.begins.behind ∙ length-drop n taken in
          let all : length taken ≡ between_size (geometry_by j.ueb) = long ∙ ap (λ (v : Contents). between_size (geometry_by v)) (sym has.ueb) in
          omega (arith, rest, all, has.begins.whole));
    }

-- the verdict by what is told of the share
pub judged_by : {T : Type 0} (cap : VerifyCapValue) (num : ℕ) (share : List ℕ) (told : Result T ShareFault) (v : Verdict)
    → MatchResult told (λ _. IsSoundShare cap num share) (IsFirstFault cap num share)
    → MatchResult told (λ _. v ≡ Good) (λ fault. v ≡ Corrupt (check_of fault))
    → IsJudged cap num share v
judged_by cap num share (Ok x) v is of = subst (IsJudged cap num share) (sym of) is
judged_by cap num share (Err fault) v is of = subst (IsJudged cap num share) (sym of) (fault, is, refl)

-- a share has bytes between its header and its extension block
some_rest : (o : Opened) → o.offsets ≡ offsets_of o.geometry → o.offsets.extension_block ≤ header_size o.offsets.layout → ⊥
some_rest o is low =
    let same : offsets_of o.geometry ≡ o.offsets = sym is in
    let low_too = subst (λ (p : Offsets). p.extension_block ≤ header_size p.layout) is low in
    omega (arith, low_too)

length_rest : (cap : VerifyCapValue) (front back : List Brought) (r : Rest) (j : Judging) (bytes : List ℕ) → IsReadBy cap front back (Remaining r) → (is : HasRest cap front back r j)
    → Advances cap (Remaining r) bytes Whole → length (is.taken ++ bytes) ≡ between_size (geometry_by is.u)
length_rest cap front back r j bytes led is a =
    let g = geometry_by is.u in
    let all = ends 0 r.next front led.before in
    let parts = ap length is.text ∙ length-append (header g) is.taken in
    let long = length-header (layout_of g) g in
    let offset = ap (λ (p : Offsets). p.extension_block) is.offsets in
    omega (arith, all, parts, long, offset, a.0, a.1, length-append is.taken bytes)

pub at_end : (cap : VerifyCapValue) (front back : List Brought) (reading : ShareReading) (bytes : List ℕ) (j : Judged) (of : Option Judging) → j.judging ≡ of → IsReadBy cap front back reading
    → HasJudged cap front back reading of → Advances cap reading bytes Whole → IsAtEnd j bytes
at_end cap front back (Beginning Start) bytes j of some led is a = absurd a.1
at_end cap front back (Beginning (Second s)) bytes j of some led is a = absurd a.1
at_end cap front back (Beginning (Header h)) bytes j of some led is a = absurd a.1
at_end cap front back (Beginning (Block b)) bytes j of some led is a = absurd (some_rest a.0 a.1.1.offsets a.2)
at_end cap front back (Remaining r) bytes j None some led is a = absurd is
at_end cap front back (Remaining r) bytes j (Some judging) some led is a =
    record { judging = judging; some = some; u = is.u; taken = is.taken; has = is.has; whole = length_rest cap front back r judging bytes led is a }

-- what was read is the share with what was taken
rest_joined : (cap : VerifyCapValue) (front back : List Brought) (r : Rest) (j : Judging) (bytes : List ℕ) (is : HasRest cap front back r j)
    → joined (front ++ (r.next, bytes) ∷ []) ++ joined back ≡ share_with is.u (is.taken ++ bytes) is.block
rest_joined cap front back r j bytes is =
    let g = geometry_by is.u in
    let front_is : joined (front ++ (r.next, bytes) ∷ []) ≡ header g ++ (is.taken ++ bytes) =
    joined_push front (r.next, bytes) ∙ ap (λ (l : List ℕ). l ++ bytes) is.text ∙ append_assoc (header g) is.taken bytes in
    (λ i. front_is i ++ is.end i)
    ∙ sym (append_assoc (header g ++ (is.taken ++ bytes)) (spelled (layout_of g) (length is.block)) is.block)

pub judged_whole : (cap : VerifyCapValue) (num : ℕ) (front back : List Brought) (reading : ShareReading) (bytes : List ℕ) (j : Judged) (of : Option Judging) (v : Verdict) → j.judging ≡ of
    → HasJudged cap front back reading of → Advances cap reading bytes Whole → IsVerdictOn cap num j bytes v
    → IsJudged cap num (joined (more_front reading bytes front) ++ joined (more_back reading bytes back)) v
judged_whole cap num front back (Beginning Start) bytes j of v some is a verdict = absurd a.1
judged_whole cap num front back (Beginning (Second s)) bytes j of v some is a verdict = absurd a.1
judged_whole cap num front back (Beginning (Header h)) bytes j of v some is a verdict = absurd a.1
judged_whole cap num front back (Beginning (Block b)) bytes j of v some is a verdict = absurd (some_rest a.0 a.1.1.offsets a.2)
judged_whole cap num front back (Remaining r) bytes j None v some is a verdict = absurd is
judged_whole cap num front back (Remaining r) bytes j (Some judging) v some is a verdict =
    subst (λ (share : List ℕ). IsJudged cap num share v) (sym (rest_joined cap front back r judging bytes is))
    (verdict judging is.u is.taken is.block some is.has is.ueb)

-- ---- going on

pub goes_in : {T E : Type 0} (r : Result T E) (old new : Option Judging) (j k : Judging) (reading : ShareReading) (rest : Rest) (bytes : List ℕ)
    → old ≡ Some j → reading ≡ Remaining rest → new ≡ Some k
    → OnOk r ((u : Contents) (taken : List ℕ) → HasTaken j u taken → HasTaken k u (taken ++ bytes)) → OnOk r (GoesOn old reading bytes new)
goes_in (Err e) old new j k reading rest bytes o is n takes = tt
goes_in (Ok x) old new j k reading rest bytes o is n takes =
    subst (λ (f : ShareReading). GoesOn old f bytes new) (sym is) (subst (λ (x : Option Judging). GoesOn x (Remaining rest) bytes new) (sym o) (k, n, takes))

pub goes_first : (old : Option Judging) (k : Judging) (reading : ShareReading) (rest : Rest) (bytes : List ℕ) → old ≡ None → reading ≡ Remaining rest → HasTaken k rest.ueb [] → GoesOn old reading bytes (Some k)
goes_first old k reading rest bytes o is has =
    subst (λ (f : ShareReading). GoesOn old f bytes (Some k)) (sym is) (subst (λ (x : Option Judging). GoesOn x (Remaining rest) bytes (Some k)) (sym o) (k, refl, has))

-- the rest begins
first_rest : (cap : VerifyCapValue) (front back : List Brought) (b : PendingBlock) (bytes : List ℕ) (o : Opened) (r : Rest) (j : Judging)
    → IsReadBy cap front back (Beginning (Block b)) → joined back ≡ spelled b.header.offsets.layout b.block_length
    → opening.Advances cap (Block b) bytes (progress.Done o) → r.ueb ≡ o.ueb → r.offsets ≡ o.offsets → HasTaken j r.ueb []
    → HasRest cap front (back ++ (next_offset (Beginning (Block b)), bytes) ∷ []) r j
first_rest cap front back b bytes o r j led spells ends ueb offsets has =
    let g = geometry_by o.ueb in
    let told : b.header.offsets ≡ offsets_of g = offsets_are cap b.header bytes o ends.1 in
    let layout : b.header.offsets.layout ≡ layout_of g = ap (λ (p : Offsets). p.layout) told in
    let own : HasHeader g (text_of b.header) = subst (λ (h : Geometry). HasHeader h (text_of b.header)) ends.1.geometry ends.1.header in
    let text : joined front ≡ header g =
    header_joined front b.header led.0 ∙ own_header g (text_of b.header) (length-text_of b.header ∙ ap header_size layout) own in
    record {
      u = o.ueb;
      block = bytes;
      ueb = ends.1.ueb;
      offsets = offsets ∙ ends.1.offsets ∙ ap offsets_of ends.1.geometry;
      taken = [];
      has = subst (λ (u : Contents). HasTaken j u []) ueb has;
      text = text ∙ sym (append-nil (header g));
      end = joined_push back (next_offset (Beginning (Block b)), bytes) ∙ ap (λ (l : List ℕ). l ++ bytes) (spells ∙ (λ i. spelled (layout i) (sym ends.0 i)));
    }

more_rest : (cap : VerifyCapValue) (front back : List Brought) (r s : Rest) (bytes : List ℕ) (j k : Judging) → (is : HasRest cap front back r j) → s.offsets ≡ r.offsets
    → ((u : Contents) (taken : List ℕ) → HasTaken j u taken → HasTaken k u (taken ++ bytes)) → HasRest cap (front ++ (r.next, bytes) ∷ []) back s k
more_rest cap front back r s bytes j k is offsets takes = record {
  u = is.u;
  block = is.block;
  ueb = is.ueb;
  offsets = offsets ∙ is.offsets;
  taken = is.taken ++ bytes;
  has = takes is.u is.taken is.has;
  text = joined_push front (r.next, bytes) ∙ ap (λ (l : List ℕ). l ++ bytes) is.text ∙ append_assoc (header (geometry_by is.u)) is.taken bytes;
  end = is.end;
}

block_judged : (cap : VerifyCapValue) (front back : List Brought) (h : ShareHeader) (b : PendingBlock) (bytes : List ℕ) (new : Option Judging) → ((i : ℕ) → get_or bytes i 0 < 256)
    → back ≡ [] → opening.Advances cap (Header h) bytes (progress.Next (Block b)) → new ≡ None
    → HasJudged cap front (back ++ (h.offsets.extension_block, bytes) ∷ []) (Beginning (Block b)) new
block_judged cap front back h b bytes new small none a is =
    let same : b.header ≡ h = a.1.0 in (
      is,
      joined_push back (h.offsets.extension_block, bytes)
          ∙ ap (λ (l : List Brought). joined l ++ bytes) none
          ∙ length_spelled h.offsets.layout bytes b.block_length a.0 small a.1.1
          ∙ ap (λ (i : ShareHeader). spelled i.offsets.layout b.block_length) (sym same),
    )

pub judged_on : (cap : VerifyCapValue) (front back : List Brought) (old new : ShareReading) (bytes : List ℕ) (of then : Option Judging) → ((i : ℕ) → get_or bytes i 0 < 256)
    → IsReadBy cap front back old → HasJudged cap front back old of → Advances cap old bytes (Next new) → GoesOn of new bytes then
    → HasJudged cap (more_front old bytes front) (more_back old bytes back) new then
judged_on cap front back (Beginning Start) (Beginning Start) bytes of then small led is a goes = absurd a.1
judged_on cap front back (Beginning Start) (Beginning (Second s)) bytes of then small led is a goes = goes ∙ is
judged_on cap front back (Beginning Start) (Beginning (Header h)) bytes of then small led is a goes = goes ∙ is
judged_on cap front back (Beginning Start) (Beginning (Block b)) bytes of then small led is a goes = absurd a.1
judged_on cap front back (Beginning (Second s)) (Beginning Start) bytes of then small led is a goes = absurd a.1
judged_on cap front back (Beginning (Second s)) (Beginning (Second t)) bytes of then small led is a goes = absurd a.1
judged_on cap front back (Beginning (Second s)) (Beginning (Header h)) bytes of then small led is a goes = goes ∙ is
judged_on cap front back (Beginning (Second s)) (Beginning (Block b)) bytes of then small led is a goes = absurd a.1
judged_on cap front back (Beginning (Header h)) (Beginning Start) bytes of then small led is a goes = absurd a.1
judged_on cap front back (Beginning (Header h)) (Beginning (Second s)) bytes of then small led is a goes = absurd a.1
judged_on cap front back (Beginning (Header h)) (Beginning (Header i)) bytes of then small led is a goes = absurd a.1
judged_on cap front back (Beginning (Header h)) (Beginning (Block b)) bytes of then small led is a goes = block_judged cap front back h b bytes then small led.1 a (goes ∙ is)
judged_on cap front back (Beginning (Block b)) (Beginning Start) bytes of then small led is a goes = absurd a.1
judged_on cap front back (Beginning (Block b)) (Beginning (Second s)) bytes of then small led is a goes = absurd a.1
judged_on cap front back (Beginning (Block b)) (Beginning (Header h)) bytes of then small led is a goes = absurd a.1
judged_on cap front back (Beginning (Block b)) (Beginning (Block d)) bytes of then small led is a goes = absurd a.1
judged_on cap front back (Beginning Start) (Remaining r) bytes of then small led is a goes = absurd a.1
judged_on cap front back (Beginning (Second s)) (Remaining r) bytes of then small led is a goes = absurd a.1
judged_on cap front back (Beginning (Header h)) (Remaining r) bytes of then small led is a goes = absurd a.1
judged_on cap front back (Beginning (Block b)) (Remaining r) bytes None then small led is a goes =
    subst (HasJudged cap front (back ++ (next_offset (Beginning (Block b)), bytes) ∷ []) (Remaining r)) (sym goes.1)
    (first_rest cap front back b bytes a.0 r goes.0 led is.1 a.1 a.2.0 a.2.1 goes.2)
judged_on cap front back (Beginning (Block b)) (Remaining r) bytes (Some j) then small led is a goes = absurd (none-some j (sym is.0))
judged_on cap front back (Remaining r) (Beginning o) bytes of then small led is a goes = absurd a
judged_on cap front back (Remaining r) (Remaining s) bytes None then small led is a goes = absurd is
judged_on cap front back (Remaining r) (Remaining s) bytes (Some j) then small led is a goes =
    subst (HasJudged cap (front ++ (r.next, bytes) ∷ []) back (Remaining s)) (sym goes.1) (more_rest cap front back r s bytes j goes.0 is a.2 goes.2)

-- A share that is given up at its beginning fails the check that its fault is of.
use Rattle.std.proofs.Common.{◌≡◌, ℕ, ◌+◌, ◌*◌, ◌<◌, ◌≤◌, List, [], ◌∷◌, ◌++◌, length, take, drop, ap, subst, sym, ◌∙◌, arith, length-append}
use Rattle.std.proofs.lemmas.List.{length-take, length-drop, drop-take, take-append-drop, take-take}
use Rattle.std.proofs.Math.Seq.{take-add, take-length}
use Rattle.std.specs.Prelude.{Some, if◌then◌else◌}
use Rattle.std.specs.Int.{w32, to_be_bytes}
use Rattle.std.specs.Str.{bytes_eq}
use Rattle.cap_text.specs.Cap.{VerifyCapValue}
use Rattle.ueb.specs.Block.{IsUeb, value_text}
use Rattle.ueb.specs.Fields.{Field, fields_text, value_of}
use Rattle.ueb.specs.Fields.{AreRising as AreFieldsRising}
use Rattle.ueb.specs.Key.{key_name}
use Rattle.ueb.specs.declared.key.Key.TheVariants.{Size}
use Rattle.ueb.specs.Shape.{Contents}
use Rattle.share_layout.specs.Geometry.{Geometry, IsGeometry}
use Rattle.share_layout.specs.declared.layout.Layout.{Layout}
use Rattle.share_layout.specs.declared.layout.Layout.TheVariants.{One, Two}
use Rattle.share_layout.specs.declared.offsets.Offsets.{Offsets}
use Rattle.share_layout.specs.Layout.{header_size, layout_of, number_in, offsets_by, offsets_of, version, width}
use Rattle.share_layout.specs.Offsets.{AreRising, LocatesUeb, extension_length, header_number, layout_in, number_at, offsets_in}
use Rattle.share_layout.specs.Reading.{HasHeader}
use Rattle.share_layout.specs.Share.{Sections}
use Rattle.share_layout.proofs.LayoutLemmas.{inside_header}
use Rattle.share_layout.proofs.LawLemmas.{HaveBounds, have_bounds, tells_offsets}
use Rattle.share_layout.proofs.ShareLemmas.{located_tail, located_whole, parts_of}
use Rattle.share_layout.proofs.Verdicts.{no_header_fault}
use Rattle.share_verify.specs.CapBlock.{IsUebFor, geometry_by}
use Rattle.share_verify.specs.Checks.{Passes}
use Rattle.share_verify.specs.Verify.{IsUebFault, ReadsAs, not_read, no_ueb}
use Rattle.share_verify.specs.declared.fault.ShareFault.{ShareFault}
use Rattle.share_verify.specs.declared.fault.ShareFault.TheVariants as faults
use Rattle.share_verify.proofs.Faults.{first_fails, one_contents}
use Rattle.share_verify.proofs.GeometryOfUeb.{is_geometry}
use Rattle.share_reading.specs.Header.{IsReachable, TellsOffsets}
use Rattle.share_reading.specs.Opening.{text_of}
use Rattle.share_reading.specs.OpeningReads.{Brought, IsHeaderBy}
use Rattle.share_reading.specs.Refusal.{IsBlockRefusal, IsHeaderRefusal, IsLengthRefusal, check_of}
use Rattle.share_reading.specs.Blame.{HasAt, HasReads, RefusedSharesFail}
use Rattle.share_reading.specs.declared.error.OpeningError.{OpeningError}
use Rattle.share_reading.specs.declared.error.OpeningError.TheVariants as errors
use Rattle.share_reading.specs.declared.header.ShareHeader.{ShareHeader}
use Rattle.share_reading.specs.declared.opening.Opening.TheVariants.{Start, Second, Header, Block}
use Rattle.share_reading.proofs.ReadLemmas.{length-text_of}

-- the beginning of a share tells its layout, and its numbers
pub layout_take : (n : ℕ) (share : List ℕ) → 4 ≤ n → layout_in (take n share) ≡ layout_in share
layout_take n share long = ap (λ (t : List ℕ). if bytes_eq (to_be_bytes w32 (version Two)) t then Two else One) (take-take 4 n share long)

number_take : (l : Layout) (n a : ℕ) (share : List ℕ) → a + width l ≤ n → number_at l (take n share) a ≡ number_at l share a
number_take l n a share inside =
    ap (number_in l) (sym (drop-take a (width l) (take n share)) ∙ ap (drop a) (take-take (a + width l) n share inside) ∙ drop-take a (width l) share)

-- what a header is of a share that begins with it
pub record Begins (head share : List ℕ) : Type 0 where
  pub layout : layout_in head ≡ layout_in share
  pub long : length head ≡ header_size (layout_in share)
  pub text : head ≡ take (header_size (layout_in share)) share
  pub number : (i : ℕ) → i < 8 → header_number head i ≡ header_number share i
  pub offsets : offsets_in head ≡ offsets_in share

begins : (head share : List ℕ) → length head ≡ header_size (layout_in head) → head ≡ take (length head) share → Begins head share
begins head share long text =
    let n = header_size (layout_in head) in
    let front : head ≡ take n share = text ∙ ap (λ k. take k share) long in
    let layout : layout_in head ≡ layout_in share = ap layout_in front ∙ layout_take n share (low (layout_in head)) in
    let number : (i : ℕ) → i < 8 → header_number head i ≡ header_number share i =
    λ i inside.
    ap (λ h. number_at (layout_in head) h (4 + width (layout_in head) * i)) front
    ∙ number_take (layout_in head) n (4 + width (layout_in head) * i) share (inside_header (layout_in head) i inside)
    ∙ ap (λ l. number_at l share (4 + width l * i)) layout in
    record {
      layout = layout;
      long = long ∙ ap header_size layout;
      text = front ∙ ap (λ l. take (header_size l) share) layout;
      number = number;
      offsets = λ i. record {
        layout = layout i;
        unused = number 3 (omega arith) i;
        ciphertext_tree = number 4 (omega arith) i;
        block_tree = number 5 (omega arith) i;
        share_hashes = number 6 (omega arith) i;
        extension_block = number 7 (omega arith) i;
      };
    }
  where
    low : (l : Layout) → 4 ≤ header_size l
    low One = omega arith
    low Two = omega arith

-- the header of a share that is located tells its offsets
tells : (head share block : List ℕ) → Begins head share → LocatesUeb share block → TellsOffsets head
tells head share block b located = record {
  version = record {
    long = omega (arith, b.long, ap header_size b.layout);
    version = ap (take 4) b.text ∙ take-take 4 (header_size (layout_in share)) share (low (layout_in share))
        ∙ located.version.version ∙ ap (λ l. to_be_bytes w32 (version l)) (sym b.layout);
  };
  offsets = record {
    data_offset = b.number 2 (omega arith) ∙ located.offsets.data_offset ∙ ap header_size (sym b.layout);
    rising = subst AreRising (sym b.offsets) located.offsets.rising;
  };
}
  where
    low : (l : Layout) → 4 ≤ header_size l
    low One = omega arith
    low Two = omega arith

-- what is known of a share that reads as one of the cap's file
pub record Known (u : Contents) (share : List ℕ) : Type 0 where
  pub header : HasHeader (geometry_by u) share
  pub offsets : offsets_in share ≡ offsets_of (geometry_by u)
  pub layout : layout_in share ≡ layout_of (geometry_by u)
  pub reachable : IsReachable (offsets_in share)

reaches : (g : Geometry) → HaveBounds g → (l : Layout) → IsReachable (offsets_by l g)
reaches g b One = omega (arith, b.few_blocks, b.few_nodes, b.few_hashes)
reaches g b Two = omega (arith, b.few_blocks, b.few_nodes, b.few_hashes)

pub known : (cap : VerifyCapValue) (num : ℕ) (share : List ℕ) (u : Contents) (s : Sections) → ReadsAs cap num share u s → Known u share
known cap num share u s reads =
    let g = geometry_by u in
    let valid : IsGeometry g = is_geometry u reads.ueb.grammar.contents in
    let own : HasHeader g share = (parts_of g share s reads.layout.text reads.layout.lengths).header in
    let told = tells_offsets g share valid own in
    let reach : IsReachable (offsets_of g) = reaches g (have_bounds g valid) (layout_of g) in
    record {
      header = own;
      offsets = told.2;
      layout = ap (λ (p : Offsets). p.layout) told.2;
      reachable = subst IsReachable (sym told.2) reach;
    }

-- what a read brought of a share
at_start : (share bytes : List ℕ) → HasAt share 0 bytes → bytes ≡ take (length bytes) share
at_start share bytes is = is

-- a header that was read is the share's
pub text_begins : (l : Layout) (reads : List Brought) (share text : List ℕ) → length text ≡ header_size l → IsHeaderBy reads l text → HasReads reads share
    → text ≡ take (length text) share
text_begins One reads share text long led has = at_start share text (has _ led)
text_begins Two reads share text long led has =
    let first : take 36 text ≡ take 36 share =
    at_start share (take 36 text) (has _ led.0) ∙ ap (λ n. take n share) (let e = length-take 36 text in let f : length (take 36 text) ≡ 36 = omega (arith, e, long) in f) in
    let rest : drop 36 text ≡ take 32 (drop 36 share) =
    has _ led.1 ∙ ap (λ n. take n (drop 36 share)) (let f : length (drop 36 text) ≡ 32 = omega (arith, length-drop 36 text, long) in f) in
    sym (take-append-drop 36 text) ∙ (λ i. first i ++ rest i) ∙ sym (take-add 36 32 share) ∙ ap (λ n. take n share) (sym long)

pub header_begins : (reads : List Brought) (share : List ℕ) (h : ShareHeader) → IsHeaderBy reads h.offsets.layout (text_of h) → HasReads reads share → Begins (text_of h) share
header_begins reads share h led has =
    let same : h.offsets.layout ≡ layout_in (text_of h) = ap (λ (p : Offsets). p.layout) h.right.offsets in
    begins (text_of h) share (length-text_of h ∙ ap header_size same) (text_begins h.offsets.layout reads share (text_of h) (length-text_of h) led has)

-- each refusal of a header
header_fails : (cap : VerifyCapValue) (num : ℕ) (share head : List ℕ) (error : OpeningError) → length head ≡ header_size (layout_in head)
    → head ≡ take (length head) share → IsHeaderRefusal head error → Passes cap num share (check_of error) → ⊥
header_fails cap num share head errors.OtherLength long is held pass = held
header_fails cap num share head (errors.Header e) long is held pass =
    let t = tells head share pass.1.extension_block (begins head share long is) pass.2.located in
    no_header_fault head t.version t.offsets e held
header_fails cap num share head errors.TooFar long is held pass =
    held.1 (subst IsReachable (sym (begins head share long is).offsets) (known cap num share pass.0 pass.1 pass.2).reachable)
header_fails cap num share head errors.TooLong long is held pass = held
header_fails cap num share head errors.NoBlock long is held pass = held
header_fails cap num share head (errors.Ueb f) long is held pass = held
header_fails cap num share head errors.OtherHeader long is held pass = held

-- what begins with something is something
behind : (key rest more : List ℕ) → 0 < length key → 0 < length ((key ++ rest) ++ more)
behind key rest more some = omega (arith, length-append (key ++ rest) more, length-append key rest, some)

-- an extension block is not empty
no_empty : (block : List ℕ) (u : Contents) → IsUeb block u → length block ≡ 0 → ⊥
no_empty block u is none = empty is.fields is.are_fields.rising (is.known Size) (ap length (sym is.are_fields.text) ∙ none)
  where
    empty : (fields : List Field) → AreFieldsRising [] fields → value_of (key_name Size) fields ≡ Some (value_text u Size) → length (fields_text fields) ≡ 0 → ⊥
    empty [] rising there none = cc
    empty (f ∷ fields) rising there none =
        let some : 0 < length (fields_text (f ∷ fields)) = behind f.key _ _ rising.0.some in absurd (omega (arith, some, none))

-- the length of the extension block that was read is the share's
pub told_length : (share : List ℕ) (h : ShareHeader) (bytes : List ℕ) → Begins (text_of h) share → HasAt share h.offsets.extension_block bytes
    → length bytes ≡ width h.offsets.layout → number_at h.offsets.layout bytes 0 ≡ extension_length (offsets_in share) share
told_length share h bytes b has long =
    let p : h.offsets ≡ offsets_in share = h.right.offsets ∙ b.offsets in
    let l = h.offsets.layout in
    let w = width l in
    ap (λ x. number_in l (take w x)) (has ∙ ap (λ n. take n (drop h.offsets.extension_block share)) long)
    ∙ ap (number_in l) (take-take w w (drop h.offsets.extension_block share) (omega arith))
    ∙ ap (λ (q : Offsets). extension_length q share) p

length_fails : (cap : VerifyCapValue) (num told : ℕ) (share : List ℕ) (error : OpeningError) → told ≡ extension_length (offsets_in share) share
    → IsLengthRefusal told error → Passes cap num share (check_of error) → ⊥
length_fails cap num told share errors.OtherLength is held pass = held
length_fails cap num told share (errors.Header e) is held pass = held
length_fails cap num told share errors.TooFar is held pass = held
length_fails cap num told share errors.TooLong is held pass =
    omega (arith, held, is, (located_whole share pass.1.extension_block pass.2.located).short)
length_fails cap num told share errors.NoBlock is held pass =
    no_empty pass.0 pass.1 pass.3.grammar (omega (arith, held, is, (located_tail share pass.0 pass.2).number))
length_fails cap num told share (errors.Ueb f) is held pass = held
length_fails cap num told share errors.OtherHeader is held pass = held

-- what stands at the extension block's offset is it
same_bytes : (share bytes block : List ℕ) → LocatesUeb share block
    → HasAt share ((offsets_in share).extension_block + width (layout_in share)) bytes
    → length bytes ≡ extension_length (offsets_in share) share → block ≡ bytes
same_bytes share bytes block located has long =
    let t = located_tail share block located in
    let offset = (offsets_in share).extension_block + width (layout_in share) in
    sym (has ∙ ap (λ n. take n (drop offset share)) (long ∙ t.number) ∙ ap (take (length block)) (sym t.tail) ∙ take-length block)

block_fails : (cap : VerifyCapValue) (num : ℕ) (share head bytes : List ℕ) (error : OpeningError) → Begins head share
    → HasAt share ((offsets_in share).extension_block + width (layout_in share)) bytes
    → length bytes ≡ extension_length (offsets_in share) share
    → IsBlockRefusal cap head bytes error → Passes cap num share (check_of error) → ⊥
block_fails cap num share head bytes errors.OtherLength b has long held pass = held
block_fails cap num share head bytes (errors.Header e) b has long held pass = held
block_fails cap num share head bytes errors.TooFar b has long held pass = held
block_fails cap num share head bytes errors.TooLong b has long held pass = held
block_fails cap num share head bytes errors.NoBlock b has long held pass = held
block_fails cap num share head bytes (errors.Ueb fault) b has long held pass = ueb_fails fault held
  where
    block : List ℕ
    block = pass.0

    ueb_fails : (fault : ShareFault) → IsUebFault cap bytes fault → ⊥
    ueb_fails (faults.Layout e) f = f
    ueb_fails faults.OtherUeb f =
        first_fails cap num share faults.OtherUeb (not_read (no_ueb bytes (subst (LocatesUeb share) (same_bytes share bytes block pass.2 has long) pass.2) f)) pass
    ueb_fails (faults.Ueb e) f =
        first_fails cap num share (faults.Ueb e) (not_read (no_ueb bytes (subst (LocatesUeb share) (same_bytes share bytes block pass.2 has long) pass.2) f)) pass
    ueb_fails faults.Unused f = f
    ueb_fails faults.CiphertextTree f = f
    ueb_fails faults.BlockTree f = f
    ueb_fails faults.ShareHashes f = f
    ueb_fails faults.Data f = f
block_fails cap num share head bytes errors.OtherHeader b has long held pass =
    let u = held.0 in
    let s = pass.1 in
    let same : u ≡ pass.0 =
    one_contents cap bytes u held.1 pass.0 (subst (λ x. IsUebFor cap x pass.0) (same_bytes share bytes s.extension_block pass.2.located has long) pass.2.ueb) in
    let k = known cap num share pass.0 s pass.2 in
    let own : HasHeader (geometry_by pass.0) head =
    ap (take (header_size (layout_of (geometry_by pass.0)))) (b.text ∙ ap (λ l. take (header_size l) share) k.layout)
    ∙ take-take (header_size (layout_of (geometry_by pass.0))) (header_size (layout_of (geometry_by pass.0))) share (omega arith) ∙ k.header in
    held.2 (subst (λ (v : Contents). HasHeader (geometry_by v) head) (sym same) own)

pub refused_fail : RefusedSharesFail
refused_fail cap num reads Start share bytes error led has at long held pass =
    header_fails cap num share bytes error (long ∙ ap header_size (sym held.0)) at held.1 pass
refused_fail cap num reads (Second start) share bytes error led has at long held pass =
    let head = start.bytes ++ bytes in
    let size : length head ≡ 68 = omega (arith, length-append start.bytes bytes, start.long, long) in
    let first : start.bytes ≡ take 36 share = has _ led ∙ ap (λ n. take n share) start.long in
    let rest : bytes ≡ take 32 (drop 36 share) = at ∙ ap (λ n. take n (drop 36 share)) long in
    let text : head ≡ take 68 share = (λ i. first i ++ rest i) ∙ sym (take-add 36 32 share) in
    let layout : layout_in head ≡ Two =
    ap layout_in text ∙ layout_take 68 share (omega arith) ∙ sym (layout_take 36 share (omega arith)) ∙ ap layout_in (sym first) ∙ start.second in
    header_fails cap num share head error (size ∙ ap header_size (sym layout)) (text ∙ ap (λ n. take n share) (sym size)) held pass
refused_fail cap num reads (Header h) share bytes error led has at long held pass =
    length_fails cap num (number_at h.offsets.layout bytes 0) share error (told_length share h bytes (header_begins reads share h led has) at long) held pass
refused_fail cap num reads (Block b) share bytes error led has at long held pass =
    let h = b.header in
    let head = header_begins reads share h led.0 has in
    let p : h.offsets ≡ offsets_in share = h.right.offsets ∙ head.offsets in
    let told : b.block_length ≡ extension_length (offsets_in share) share = led.1.number ∙ told_length share h led.1.bytes head (has _ led.1.read) led.1.long in
    block_fails cap num share (text_of h) bytes error head (subst (λ (q : Offsets). HasAt share (q.extension_block + width q.layout) bytes) p at) (long ∙ told) held pass

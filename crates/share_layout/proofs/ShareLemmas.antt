-- The sections of a share, at their offsets.
use Rattle.std.proofs.Common.{◌≡◌, ℕ, ◌+◌, ◌<◌, ◌≤◌, List, ◌++◌, length, take, drop, get_or, ap, sym, subst, ◌∙◌, length-append, append_assoc, arith}
use Rattle.std.proofs.lemmas.List.{take_at, take-take, length-take-le, length-drop}
use Rattle.std.proofs.lemmas.List.Edits.{length-between}
use Rattle.merkle.specs.Tree.{height, needed_numbers}
use Rattle.share_layout.specs.Geometry.{Geometry, hashes_size}
use Rattle.share_layout.specs.Layout.{header, header_size, layout_of, offsets_of, spelled, version, width}
use Rattle.share_layout.specs.Share.{share_bytes, CarriesNumbers, HaveLengths, IsShare, Sections}
use Rattle.share_layout.specs.Offsets.{AreRising, EndsWith, HasOwnOffsets, HasVersion, LocatesUeb, layout_in, offsets_in}
use Rattle.share_layout.specs.Reading.{HasHeader, HasNumbers, IsWhole}
use Rattle.share_layout.specs.Cutting.{IsCut, sections_at}
use Rattle.share_layout.proofs.LayoutLemmas.{header_version, length-header}
use Rattle.share_layout.proofs.ListLemmas.{take_between, take_before, between_parts, tail_text, HasTail, has_tail}

-- an extension block that is cut out
pub located : (bytes : List ℕ) (s : Sections) → ((i : ℕ) → get_or (take (width (layout_in bytes)) (drop (offsets_in bytes).extension_block bytes)) i 0 < 256)
    → HasVersion (layout_in bytes) bytes → HasOwnOffsets bytes → IsCut (offsets_in bytes) bytes s → LocatesUeb bytes s.extension_block
located bytes s small version offsets cut =
    let l = layout_in bytes in
    let e = (offsets_in bytes).extension_block in
    let text = tail_text l bytes e small cut.end in
    let found : EndsWith (offsets_in bytes) bytes (drop (e + width l) bytes) = record {
      text = text;
      offset = omega (arith, cut.end);
      short = omega (arith, length-drop (e + width l) bytes, cut.end, cut.short);
    } in
    record {
      version = version;
      offsets = offsets;
      ends = subst (λ (t : Sections). EndsWith (offsets_in bytes) bytes t.extension_block) (sym cut.sections) found;
    }

-- where an extension block is located, all is right, and it stands behind its length
pub located_tail : (bytes block : List ℕ) → LocatesUeb bytes block → HasTail (layout_in bytes) bytes (offsets_in bytes).extension_block block
located_tail bytes block l =
    let e = (offsets_in bytes).extension_block in
    has_tail (layout_in bytes) bytes (take e bytes) block e l.ends.text (length-take-le e bytes l.ends.offset) (omega (arith, l.ends.short))

pub located_whole : (bytes block : List ℕ) → LocatesUeb bytes block → IsWhole (HasOwnOffsets bytes) (offsets_in bytes) bytes
located_whole bytes block l =
    let t = located_tail bytes block l in
    record { version = l.version; right = l.offsets; short = omega (arith, t.number, l.ends.short); end = omega (arith, t.number, t.long) }

-- the sections that are cut out of a share
pub cut_is_share : (g : Geometry) (num : ℕ) (bytes : List ℕ) (s : Sections)
    → ((i : ℕ) → get_or (take (width (layout_of g)) (drop (offsets_of g).extension_block bytes)) i 0 < 256)
    → HasHeader g bytes → AreRising (offsets_of g) → IsCut (offsets_of g) bytes s → num < g.total
    → CarriesNumbers (needed_numbers (height g.total) num) s.share_hashes → IsShare g num bytes s
cut_is_share g num bytes s small right rising cut number numbers =
    let p = offsets_of g in
    let long : p.extension_block ≤ length bytes = omega (arith, cut.end) in
    let t = sections_at p bytes in
    let hashes : length t.share_hashes ≡ hashes_size g = length-between bytes p.share_hashes p.extension_block long ∙ omega arith in
    let l = layout_of g in
    let front : take p.extension_block bytes ≡ header g ++ t.blocks ++ t.unused ++ t.ciphertext_tree ++ t.block_tree ++ t.share_hashes =
    take_between bytes p.share_hashes p.extension_block (omega arith)
    ∙ ap (λ (l : List ℕ). l ++ t.share_hashes) (take_between bytes p.block_tree p.share_hashes (omega arith)
    ∙ ap (λ (l : List ℕ). l ++ t.block_tree) (take_between bytes p.ciphertext_tree p.block_tree (omega arith)
    ∙ ap (λ (l : List ℕ). l ++ t.ciphertext_tree) (take_between bytes p.unused p.ciphertext_tree (omega arith)
    ∙ ap (λ (l : List ℕ). l ++ t.unused) (take_between bytes (header_size l) p.unused (omega arith)
    ∙ ap (λ (l : List ℕ). l ++ t.blocks) right)))) in
    let text : bytes ≡ share_bytes g t =
    tail_text l bytes p.extension_block small cut.end
    ∙ ap (λ (f : List ℕ). f ++ spelled l (length t.extension_block) ++ t.extension_block) front in
    let lengths : HaveLengths g t = record {
      blocks = length-between bytes (header_size l) p.unused (omega arith) ∙ omega arith;
      unused = length-between bytes p.unused p.ciphertext_tree (omega arith) ∙ omega arith;
      ciphertext_tree = length-between bytes p.ciphertext_tree p.block_tree (omega arith) ∙ omega arith;
      block_tree = length-between bytes p.block_tree p.share_hashes (omega arith) ∙ omega arith;
      share_hashes = hashes;
      extension_block = omega (arith, length-drop (p.extension_block + width l) bytes, cut.end, cut.short);
    } in
    record {
      text = subst (λ (x : Sections). bytes ≡ share_bytes g x) (sym cut.sections) text;
      lengths = subst (HaveLengths g) (sym cut.sections) lengths;
      number = number;
      numbers = numbers;
    }

-- what a share's bytes are, as a reader goes over them
pub record Parts (g : Geometry) (bytes : List ℕ) (s : Sections) : Type 0 where
  pub header : take (header_size (layout_of g)) bytes ≡ header g
  pub sections : s ≡ sections_at (offsets_of g) bytes
  pub tail : HasTail (layout_of g) bytes (offsets_of g).extension_block s.extension_block
  pub text : bytes ≡ take (offsets_of g).extension_block bytes ++ spelled (layout_of g) (length s.extension_block) ++ s.extension_block

pub parts_of : (g : Geometry) (bytes : List ℕ) (s : Sections) → bytes ≡ share_bytes g s → HaveLengths g s → Parts g bytes s
parts_of g bytes s text lengths =
    let p = offsets_of g in
    let l = layout_of g in
    let h = header g in
    let p1 = h ++ s.blocks in
    let p2 = p1 ++ s.unused in
    let p3 = p2 ++ s.ciphertext_tree in
    let p4 = p3 ++ s.block_tree in
    let p5 = p4 ++ s.share_hashes in
    let n0 : length h ≡ header_size l = length-header l g in
    let n1 : length p1 ≡ p.unused = length-append h s.blocks ∙ omega (arith, lengths.blocks, n0) in
    let n2 : length p2 ≡ p.ciphertext_tree = length-append p1 s.unused ∙ omega (arith, lengths.unused, n1) in
    let n3 : length p3 ≡ p.block_tree = length-append p2 s.ciphertext_tree ∙ omega (arith, lengths.ciphertext_tree, n2) in
    let n4 : length p4 ≡ p.share_hashes = length-append p3 s.block_tree ∙ omega (arith, lengths.block_tree, n3) in
    let n5 : length p5 ≡ p.extension_block = length-append p4 s.share_hashes ∙ omega (arith, lengths.share_hashes, n4) in
    let t5 : take p.extension_block bytes ≡ p5 =
    ap (take p.extension_block) (text ∙ append_assoc p5 (spelled l (length s.extension_block)) s.extension_block)
    ∙ take_at p5 (spelled l (length s.extension_block) ++ s.extension_block) p.extension_block n5 in
    let t4 = take_before bytes p4 s.share_hashes p.share_hashes p.extension_block t5 n4 (omega arith) in
    let t3 = take_before bytes p3 s.block_tree p.block_tree p.share_hashes t4 n3 (omega arith) in
    let t2 = take_before bytes p2 s.ciphertext_tree p.ciphertext_tree p.block_tree t3 n2 (omega arith) in
    let t1 = take_before bytes p1 s.unused p.unused p.ciphertext_tree t2 n1 (omega arith) in
    let t0 = take_before bytes h s.blocks (header_size l) p.unused t1 n0 (omega arith) in
    let tail = has_tail l bytes p5 s.extension_block p.extension_block text n5 (omega (arith, lengths.extension_block)) in
    let s0 = between_parts bytes h s.blocks (header_size l) p.unused t1 n0 in
    let s1 = between_parts bytes p1 s.unused p.unused p.ciphertext_tree t2 n1 in
    let s2 = between_parts bytes p2 s.ciphertext_tree p.ciphertext_tree p.block_tree t3 n2 in
    let s3 = between_parts bytes p3 s.block_tree p.block_tree p.share_hashes t4 n3 in
    let s4 = between_parts bytes p4 s.share_hashes p.share_hashes p.extension_block t5 n4 in
    record {
      header = t0;
      sections = λ i. record {
        blocks = sym s0 i;
        unused = sym s1 i;
        ciphertext_tree = sym s2 i;
        block_tree = sym s3 i;
        share_hashes = sym s4 i;
        extension_block = tail.tail i;
      };
      tail = tail;
      text = text ∙ ap (λ (f : List ℕ). f ++ spelled l (length s.extension_block) ++ s.extension_block) (sym t5);
    }

-- a share is whole, and its hashes carry its numbers
pub share_whole : (g : Geometry) (num : ℕ) (bytes : List ℕ) (s : Sections) → IsShare g num bytes s → IsWhole (HasHeader g bytes) (offsets_of g) bytes
share_whole g num bytes s is =
    let parts = parts_of g bytes s is.text is.lengths in
    let l = layout_of g in
    record {
      version = record {
        long = omega (arith, parts.tail.long);
        version = sym (take-take 4 (header_size l) bytes (omega arith)) ∙ ap (take 4) parts.header ∙ header_version l g;
      };
      right = parts.header;
      short = omega (arith, parts.tail.number, is.lengths.extension_block);
      end = omega (arith, parts.tail.number, parts.tail.long);
    }

pub share_numbers : (g : Geometry) (num : ℕ) (bytes : List ℕ) (s : Sections) → IsShare g num bytes s → HasNumbers g num bytes
share_numbers g num bytes s is = record {
  number = is.number;
  numbers = subst (λ (t : Sections). CarriesNumbers (needed_numbers (height g.total) num) t.share_hashes) (parts_of g bytes s is.text is.lengths).sections is.numbers;
}

-- a share has one reading
pub one_reading : (g : Geometry) (num other : ℕ) (bytes : List ℕ) (s t : Sections) → IsShare g num bytes s → IsShare g other bytes t → s ≡ t
one_reading g num other bytes s t is also =
    (parts_of g bytes s is.text is.lengths).sections ∙ sym (parts_of g bytes t also.text also.lengths).sections

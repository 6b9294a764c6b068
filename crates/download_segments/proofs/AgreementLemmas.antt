-- Without a clash pieces of one cap's file agree.
use Rattle.std.proofs.Common.{◌≡◌, ℕ, ◌+◌, ◌*◌, ◌<◌, List, [], length, min, take, drop, get_or, bit_xor, Some, ap, sym, subst, ◌∙◌, arith}
use Rattle.std.specs.Prelude.{slice_get, slice_index_or}
use Rattle.std.proofs.lemmas.List.{get_or-drop, get_or-take, length-drop, length-take, length-take-le}
use Rattle.std.proofs.lemmas.Nat.{same_from_place}
use Rattle.std.proofs.lemmas.Option.{get_or_from_slice_get, slice_get-get_or, slice_get_within}
use Rattle.aes_ctr.specs.CounterMode.{stream_byte, xored}
use Rattle.aes_ctr.proofs.StreamLemmas.{get_or-xored_from, length-xored_from}
use Rattle.tagged_hash.specs.Clash.{HasNoClash}
use Rattle.tagged_hash.specs.declared.tag.Tag.TheVariants.{ExtensionBlock}
use Rattle.cap_text.specs.Cap.{ReadCapValue, verify_cap_of}
use Rattle.ueb.specs.Shape.{Contents}
use Rattle.share_layout.specs.Geometry.{segment_count}
use Rattle.share_layout.specs.Pieces.{segment_length, segments_of}
use Rattle.share_verify.specs.CapBlock.{IsUebFor, geometry_by}
use Rattle.proved_parts.specs.Laws.{IsPartAmong}
use Rattle.proved_parts.proofs.Files.{get_or-pieces}
use Rattle.proved_parts.proofs.OwnParts.{parts_are_of_the_file}
use Rattle.proved_parts.proofs.Segments.{data_agrees, one_ueb, parts_agree}
use Rattle.download_segments.specs.declared.piece.Piece.{Piece}
use Rattle.download_segments.specs.Agreement.{HasByte, IsGivenAmong, PiecesAgree, PiecesAreOfTheFile}
use Rattle.download_segments.specs.Pieces.{IsGiven}

min_low : (a b k : ℕ) → k < min a b → k < a
min_low a b k h = omega (arith, h)

module _ (key : List ℕ) (u : Contents) (p : Piece) (g : IsGiven key u p) (position byte : ℕ) (h : HasByte p position byte) where
  -- the piece as a part of its segment
  abbrev cut : List ℕ
  cut = take (length p.bytes) (drop g.slice.skipped g.segment)

  within : h.offset < length p.bytes
  within = slice_get_within p.bytes h.offset byte h.byte_is

  long : length cut ≡ length p.bytes
  long = length-take-le (length p.bytes) (drop g.slice.skipped g.segment) (omega (arith, length-drop g.slice.skipped g.segment, g.slice.long))

  -- where the byte is in its segment
  abbrev column : ℕ
  column = g.slice.skipped + h.offset

  pub position_in : position ≡ g.number * u.segment_size + column
  position_in = omega (arith, h.position_is, g.slice.offset_is)

  pub column_within : column < length g.segment
  column_within = omega (arith, within, g.slice.long)

  pub column_short : column < u.segment_size
  column_short =
      let inside : column < segment_length (geometry_by u) g.number =
      subst (λ (n : ℕ). column < n) g.by.size (omega (arith, within, g.slice.long)) in
      min_low u.segment_size _ column inside

  -- the byte is that of the segment, decrypted by its position in the file
  pub byte_of : byte ≡ bit_xor (get_or g.segment column 0) (stream_byte key position)
  byte_of =
      sym (get_or_from_slice_get p.bytes h.offset byte 0 h.byte_is)
      ∙ ap (λ (t : List ℕ). get_or t h.offset 0) g.slice.bytes_are
      ∙ get_or-xored_from key p.offset cut h.offset (subst (λ (n : ℕ). h.offset < n) (sym long) within)
      ∙ ap (λ (x : ℕ). bit_xor x (stream_byte key (p.offset + h.offset)))
      (get_or-take (length p.bytes) (drop g.slice.skipped g.segment) h.offset 0 within ∙ get_or-drop g.slice.skipped g.segment h.offset 0)
      ∙ ap (λ (n : ℕ). bit_xor (get_or g.segment column 0) (stream_byte key n)) (sym h.position_is)

-- its segment is a part of the cap's file
part_of : (inputs : List (List ℕ)) (cap : ReadCapValue) (block : List ℕ) (u : Contents) (p : Piece) → (f : IsGivenAmong inputs cap block u p)
    → IsPartAmong inputs (verify_cap_of cap) block u f.given.number f.given.segment f.given.siblings
part_of inputs cap block u p f = record {
  part = record { block = f.block; by = f.given.by };
  block = f.block_hashed;
  among = f.segment_hashed;
}

-- the extension blocks say one thing
same_contents : (inputs : List (List ℕ)) → HasNoClash inputs → (cap : ReadCapValue) (first second : List ℕ) (u v : Contents) (p q : Piece)
    → IsGivenAmong inputs cap first u p → IsGivenAmong inputs cap second v q → u ≡ v
same_contents inputs no_clash cap first second u v p q f g =
    let same : first ≡ second = data_agrees inputs no_clash ExtensionBlock first second f.block_hashed g.block_hashed (f.block.hash ∙ sym g.block.hash) in
    one_ueb (verify_cap_of cap) second u v (subst (λ (x : List ℕ). IsUebFor (verify_cap_of cap) x u) same f.block) g.block

bytes_agree : (inputs : List (List ℕ)) → HasNoClash inputs → (cap : ReadCapValue) (first second : List ℕ) (u : Contents) (p q : Piece)
    → IsGivenAmong inputs cap first u p → IsGivenAmong inputs cap second u q
    → (position a b : ℕ) → HasByte p position a → HasByte q position b → a ≡ b
bytes_agree inputs no_clash cap first second u p q f g position a b mine yours =
    let x = f.given in
    let y = g.given in
    let position_same = same_from_place x.number (x.slice.skipped + mine.offset) y.number (y.slice.skipped + yours.offset) u.segment_size
    (column_short cap.key u p x position a mine) (column_short cap.key u q y position b yours)
    (sym (position_in cap.key u p x position a mine) ∙ position_in cap.key u q y position b yours) in
    let row : x.number ≡ y.number = position_same.0 in
    let part : IsPartAmong inputs (verify_cap_of cap) first u y.number x.segment x.siblings =
    subst (λ (n : ℕ). IsPartAmong inputs (verify_cap_of cap) first u n x.segment x.siblings) row (part_of inputs cap first u p f) in
    let segment : x.segment ≡ y.segment =
    parts_agree inputs no_clash (verify_cap_of cap) first second u u y.number x.segment y.segment x.siblings y.siblings part (part_of inputs cap second u q g) in
    byte_of cap.key u p x position a mine
    ∙ ap (λ (s : List ℕ). bit_xor (get_or s (x.slice.skipped + mine.offset) 0) (stream_byte cap.key position)) segment
    ∙ ap (λ (n : ℕ). bit_xor (get_or y.segment n 0) (stream_byte cap.key position)) position_same.1
    ∙ sym (byte_of cap.key u q y position b yours)

pub pieces_agree : PiecesAgree
pieces_agree inputs no_clash cap first second u v p q f g =
    let same : u ≡ v = same_contents inputs no_clash cap first second u v p q f g in
    bytes_agree inputs no_clash cap first second v p q (subst (λ (w : Contents). IsGivenAmong inputs cap first w p) same f) g

-- a byte of a segment of a ciphertext, decrypted by its offset, is the file's
decrypted : (key ciphertext segment : List ℕ) (w number column offset byte : ℕ) → segment ≡ take w (drop (number * w) ciphertext)
    → offset ≡ number * w + column → column < length segment → column < w
    → byte ≡ bit_xor (get_or segment column 0) (stream_byte key offset) → slice_get (xored key ciphertext) offset ≡ Some byte
decrypted key ciphertext segment w number column offset byte cut at within short is =
    let inside : column < length (take w (drop (number * w) ciphertext)) = subst (λ (s : List ℕ). column < length s) cut within in
    let room : offset < length ciphertext = omega (arith, inside, at, length-take w (drop (number * w) ciphertext), length-drop (number * w) ciphertext) in
    let there : get_or segment column 0 ≡ get_or ciphertext offset 0 =
    ap (λ (s : List ℕ). get_or s column 0) cut ∙ get_or-take w (drop (number * w) ciphertext) column 0 short
    ∙ get_or-drop (number * w) ciphertext column 0 ∙ ap (λ (n : ℕ). get_or ciphertext n 0) (sym at) in
    let zero_add : 0 + offset ≡ offset = omega arith in
    let own : get_or (xored key ciphertext) offset 0 ≡ byte =
    get_or-xored_from key 0 ciphertext offset room
    ∙ ap (λ (n : ℕ). bit_xor (get_or ciphertext offset 0) (stream_byte key n)) zero_add
    ∙ ap (λ (x : ℕ). bit_xor x (stream_byte key offset)) (sym there) ∙ sym is in
    slice_get-get_or (xored key ciphertext) offset 0 (subst (λ (n : ℕ). offset < n) (sym (length-xored_from key 0 ciphertext)) room)
    ∙ ap Some own

pub pieces_of_file : PiecesAreOfTheFile
pieces_of_file inputs no_clash cap block other u v ciphertext file p whole hashed own f position byte h =
    let same : block ≡ other = data_agrees inputs no_clash ExtensionBlock block other hashed f.block_hashed (whole.block.hash ∙ sym f.block.hash) in
    let one : v ≡ u = one_ueb (verify_cap_of cap) other v u f.block (subst (λ (x : List ℕ). IsUebFor (verify_cap_of cap) x u) same whole.block) in
    let g : IsGivenAmong inputs cap other u p = subst (λ (w : Contents). IsGivenAmong inputs cap other w p) one f in
    let x = g.given in
    let segment : x.segment ≡ slice_index_or (segments_of (geometry_by u) ciphertext) x.number [] =
    parts_are_of_the_file inputs no_clash cap block other u u ciphertext file x.number x.segment x.siblings whole hashed own (part_of inputs cap other u p g) in
    let cut : x.segment ≡ take u.segment_size (drop (x.number * u.segment_size) ciphertext) =
    segment ∙ get_or-pieces (segment_count (geometry_by u)) u.segment_size x.number ciphertext [] x.by.there in
    subst (λ (t : List ℕ). slice_get t position ≡ Some byte) (sym whole.decrypted)
    (decrypted cap.key ciphertext x.segment u.segment_size x.number (x.slice.skipped + h.offset) position byte cut
    (position_in cap.key u p x position byte h) (column_within cap.key u p x position byte h) (column_short cap.key u p x position byte h) (byte_of cap.key u p x position byte h))

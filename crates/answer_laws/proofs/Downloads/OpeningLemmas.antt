-- The beginning of a share that passes is never refused, where each read brings the share's own bytes.
use Rattle.std.proofs.Common.{◌≡◌, ℕ, ◌+◌, ◌≤◌, List, length, take, drop, inl, inr, ap, subst, sym, ◌∙◌, arith}
use Rattle.std.proofs.lemmas.Bool.{cases_lt}
use Rattle.std.proofs.lemmas.List.{length-take-le, length-drop, take_all, take-take}
use Rattle.cap_text.specs.Cap.{VerifyCapValue}
use Rattle.ueb.specs.Shape.{Contents}
use Rattle.share_layout.specs.declared.layout.Layout.{Layout}
use Rattle.share_layout.specs.declared.layout.Layout.TheVariants.{One, Two}
use Rattle.share_layout.specs.declared.offsets.Offsets.{Offsets}
use Rattle.share_layout.specs.Layout.{header_size, layout_of, width}
use Rattle.share_layout.specs.Offsets.{extension_length, layout_in, offsets_in}
use Rattle.share_layout.specs.Reading.{HasHeader}
use Rattle.share_layout.specs.Share.{Sections}
use Rattle.share_layout.proofs.ShareLemmas.{located_tail}
use Rattle.share_verify.specs.CapBlock.{geometry_by}
use Rattle.share_verify.specs.Verify.{IsSoundShare, ReadsAs}
use Rattle.share_verify.proofs.Passing.{sound_passes}
use Rattle.share_reading.specs.Blame.{HasAt, HasReads}
use Rattle.share_reading.specs.Opening.{Agrees, next_length, next_offset, text_of}
use Rattle.share_reading.specs.OpeningReads.{Brought, IsLedToBy}
use Rattle.share_reading.specs.Refusal.{IsRefused, check_of}
use Rattle.share_reading.specs.declared.error.OpeningError.{OpeningError}
use Rattle.share_reading.specs.declared.header.ShareHeader.{ShareHeader}
use Rattle.share_reading.specs.declared.opening.Opening.{Opening}
use Rattle.share_reading.specs.declared.opening.Opening.TheVariants.{Start, Second, Header, Block}
use Rattle.share_reading.proofs.BlameLemmas.{Begins, header_begins, known, layout_take, refused_fail, told_length}

-- bytes of a share, as many as were asked for where it has them
pub own_at : (share bytes : List ℕ) (position len : ℕ) → bytes ≡ take len (drop position share) → HasAt share position bytes
own_at share bytes position len is =
    let rest : List ℕ = drop position share in
    let long : length bytes ≡ length (take len rest) = ap length is in
    is ∙ again len rest ∙ ap (λ (n : ℕ). take n rest) (sym long)
  where
    again : (len : ℕ) (rest : List ℕ) → take len rest ≡ take (length (take len rest)) rest
    again len rest = elim (cases_lt (length rest) len) [
      | inl short ↦ let all : take len rest ≡ rest = take_all len rest (omega (arith, short)) in all ∙ sym (ap (λ (l : List ℕ). take (length l) rest) all ∙ take_all (length rest) rest (omega arith))
      | inr long ↦ ap (λ (n : ℕ). take n rest) (sym (length-take-le len rest long))
    ]

pub own_long : (share bytes : List ℕ) (position len : ℕ) → bytes ≡ take len (drop position share) → position + len ≤ length share → length bytes ≡ len
own_long share bytes position len is inside = ap length is ∙ length-take-le len (drop position share) (omega (arith, length-drop position share, inside))

-- the next read lies in the share
pub next_inside : (cap : VerifyCapValue) (num : ℕ) (share : List ℕ) (u : Contents) (s : Sections) → ReadsAs cap num share u s → (reads : List Brought) (o : Opening) → IsLedToBy reads o → HasReads reads share
    → next_offset o + next_length o ≤ length share
next_inside cap num share u s r reads Start led has = header_low (layout_in share) (length share) r.located.version.long
  where
    header_low : (l : Layout) (n : ℕ) → header_size l ≤ n → 36 ≤ n
    header_low One n low = low
    header_low Two n low = omega (arith, low)
next_inside cap num share u s r reads (Second start) led has =
    let first : start.bytes ≡ take 36 share = has _ led ∙ ap (λ (n : ℕ). take n share) start.long in
    let two : layout_in share ≡ Two = sym (layout_take 36 share (omega arith)) ∙ ap layout_in (sym first) ∙ start.second in
    let long = r.located.version.long in
    let size : header_size (layout_in share) ≡ 68 = ap header_size two in
    omega (arith, long, size)
next_inside cap num share u s r reads (Header h) led has =
    let b = header_begins reads share h led has in
    let positions : h.offsets ≡ offsets_in share = h.right.offsets ∙ b.offsets in
    let tail = located_tail share s.extension_block r.located in
    let long = tail.long in
    subst (λ (p : Offsets). p.extension_block + width p.layout ≤ length share) (sym positions) (omega (arith, long))
next_inside cap num share u s r reads (Block p) led has =
    let h : ShareHeader = p.header in
    let b = header_begins reads share h led.0 has in
    let positions : h.offsets ≡ offsets_in share = h.right.offsets ∙ b.offsets in
    let tail = located_tail share s.extension_block r.located in
    let told : p.block_length ≡ extension_length (offsets_in share) share = led.1.number ∙ told_length share h led.1.bytes b (has _ led.1.read) led.1.long in
    let long = tail.long in
    let number = tail.number in
    subst (λ (q : Offsets). q.extension_block + width q.layout + p.block_length ≤ length share) (sym positions) (omega (arith, long, number, told))

-- a read of the share's own bytes is not refused
pub own_not_refused : (cap : VerifyCapValue) (num : ℕ) (share : List ℕ) → IsSoundShare cap num share → (reads : List Brought) (o : Opening) → IsLedToBy reads o → HasReads reads share
    → (bytes : List ℕ) (error : OpeningError) → bytes ≡ take (next_length o) (drop (next_offset o) share) → IsRefused cap o bytes error → ⊥
own_not_refused cap num share sound reads o led has bytes error is refused =
    let inside = next_inside cap num share sound.0 sound.1 sound.2.reads reads o led has in
    let long : length bytes ≡ next_length o = own_long share bytes (next_offset o) (next_length o) is inside in
    elim refused [
      | inl other ↦ other.0 long
      | inr stage ↦ refused_fail cap num reads o share bytes error led has (own_at share bytes (next_offset o) (next_length o) is) long stage.1 (sound_passes cap num share (check_of error) sound)
    ]

text_agrees : (cap : VerifyCapValue) (num : ℕ) (share : List ℕ) (u : Contents) (s : Sections) → ReadsAs cap num share u s → (h : ShareHeader) → Begins (text_of h) share → HasHeader (geometry_by u) (text_of h)
text_agrees cap num share u s r h b =
    let k = known cap num share u s r in
    let n : ℕ = header_size (layout_of (geometry_by u)) in
    let text : text_of h ≡ take n share = b.text ∙ ap (λ (l : Layout). take (header_size l) share) k.layout in
    ap (take n) text ∙ take-take n n share (omega arith) ∙ k.header

-- and what was read of its header is as in the shares of its file
pub own_header_agrees : (cap : VerifyCapValue) (num : ℕ) (share : List ℕ) (u : Contents) (s : Sections) → ReadsAs cap num share u s → (reads : List Brought) (o : Opening) → IsLedToBy reads o → HasReads reads share
    → Agrees (geometry_by u) o
own_header_agrees cap num share u s r reads Start led has = tt
own_header_agrees cap num share u s r reads (Second start) led has =
    let k = known cap num share u s r in
    let first : start.bytes ≡ take 36 share = has _ led ∙ ap (λ (n : ℕ). take n share) start.long in
    let n : ℕ = header_size (layout_of (geometry_by u)) in
    let low : 36 ≤ n = header_low (layout_of (geometry_by u)) in
    ap (take 36) (sym k.header) ∙ take-take 36 n share low ∙ sym first
  where
    header_low : (l : Layout) → 36 ≤ header_size l
    header_low One = omega arith
    header_low Two = omega arith
own_header_agrees cap num share u s r reads (Header h) led has = text_agrees cap num share u s r h (header_begins reads share h led has)
own_header_agrees cap num share u s r reads (Block p) led has = text_agrees cap num share u s r p.header (header_begins reads share p.header led.0 has)

-- The reads of an opening, one after another.
use Rattle.std.proofs.Common.{◌≡◌, ℕ, ◌+◌, ◌≤◌, List, ◌++◌, length, take, drop, ap, refl, subst, sym, ◌∙◌, arith, length-append}
use Rattle.std.specs.Prelude.{Contains}
use Rattle.std.proofs.lemmas.List.{length-take}
use Rattle.std.proofs.Math.Seq.{take-append_seam, drop-append_seam}
use Rattle.share_layout.specs.declared.layout.Layout.{Layout}
use Rattle.share_layout.specs.declared.layout.Layout.TheVariants.{One, Two}
use Rattle.share_layout.specs.declared.offsets.Offsets.{Offsets}
use Rattle.share_layout.specs.Layout.{header_size, width}
use Rattle.share_layout.specs.Offsets.{layout_in}
use Rattle.share_reading.specs.Opening.{text_of}
use Rattle.share_reading.specs.OpeningReads.{Brought, IsHeaderBy, IsLedToBy, IsLengthBy, LeadOn, Rise}
use Rattle.share_reading.specs.declared.header.ShareHeader.{ShareHeader}
use Rattle.share_reading.specs.declared.opening.Opening.{Opening}
use Rattle.share_reading.specs.declared.opening.Opening.TheVariants.{Start, Second, Header, Block}

-- a header has the length that its layout gives it
pub length-text_of : (h : ShareHeader) → length (text_of h) ≡ header_size h.offsets.layout
length-text_of h =
    let same : h.offsets.layout ≡ layout_in (text_of h) = ap (λ (p : Offsets). p.layout) h.right.offsets in
    let low : header_size h.offsets.layout ≤ length (text_of h) = subst (λ (l : Layout). header_size l ≤ length (text_of h)) (sym same) h.right.tells.version.long in
    omega (arith, low, length-take (header_size h.offsets.layout) h.bytes)

-- so its length tells the layout
is_one : (l : Layout) → header_size l ≡ 36 → l ≡ One
is_one One e = refl
is_one Two e = absurd (omega (arith, e))

is_two : (l : Layout) → header_size l ≡ 68 → l ≡ Two
is_two One e = absurd (omega (arith, e))
is_two Two e = refl

one : (h : ShareHeader) (bytes : List ℕ) → text_of h ≡ bytes → length bytes ≡ 36 → h.offsets.layout ≡ One
one h bytes is long = is_one h.offsets.layout (sym (length-text_of h) ∙ ap length is ∙ long)

two : (h : ShareHeader) (start rest : List ℕ) → text_of h ≡ start ++ rest → length start ≡ 36 → length rest ≡ 32 → h.offsets.layout ≡ Two
two h start rest is long more =
    is_two h.offsets.layout (sym (length-text_of h) ∙ ap length is ∙ omega (arith, length-append start rest, long, more))

-- its extension block stands behind it
pub behind : (h : ShareHeader) → header_size h.offsets.layout ≤ h.offsets.extension_block
behind h =
    let r = subst (λ (p : Offsets). header_size p.layout ≤ p.extension_block) (sym h.right.offsets)
    (let o = h.right.tells.offsets.rising in omega arith) in r

-- more reads have the bytes of the header too
pub more_header : (reads more : List Brought) → ((read : Brought) → Contains reads read → Contains more read) → (l : Layout) (text : List ℕ)
    → IsHeaderBy reads l text → IsHeaderBy more l text
more_header reads more grows One text held = grows _ held
more_header reads more grows Two text held = (grows _ held.0, grows _ held.1)

-- and those of the block's length
pub more_length : (reads more : List Brought) → ((read : Brought) → Contains reads read → Contains more read) → (h : ShareHeader) (told : ℕ)
    → IsLengthBy reads h told → IsLengthBy more h told
more_length reads more grows h told is = record { bytes = is.bytes; read = grows _ is.read; long = is.long; number = is.number }

-- more reads lead to the same opening
pub more_led : (reads more : List Brought) → ((read : Brought) → Contains reads read → Contains more read) → (o : Opening) → IsLedToBy reads o → IsLedToBy more o
more_led reads more grows Start led = led
more_led reads more grows (Second s) led = grows _ led
more_led reads more grows (Header h) led = more_header reads more grows h.offsets.layout (text_of h) led
more_led reads more grows (Block b) led = (
  more_header reads more grows b.header.offsets.layout (text_of b.header) led.0,
  more_length reads more grows b.header b.block_length led.1,
)

by_two : (more : List Brought) (text start rest : List ℕ) → text ≡ start ++ rest → length start ≡ 36 → Contains more (0, start) → Contains more (36, rest)
    → IsHeaderBy more Two text
by_two more text start rest is long first second =
    let front : take 36 text ≡ start = ap (take 36) is ∙ ap (λ n. take n (start ++ rest)) (sym long) ∙ take-append_seam start rest in
    let back : drop 36 text ≡ rest = ap (drop 36) is ∙ ap (λ n. drop n (start ++ rest)) (sym long) ∙ drop-append_seam start rest in (
      subst (λ (t : List ℕ). Contains more (0, t)) (sym front) first,
      subst (λ (t : List ℕ). Contains more (36, t)) (sym back) second,
    )

pub lead_on : LeadOn
lead_on cap reads more Start Start bytes led a grows last = absurd a.1
lead_on cap reads more Start (Second s) bytes led a grows last = subst (λ (t : List ℕ). Contains more (0, t)) (sym a.1) last
lead_on cap reads more Start (Header h) bytes led a grows last =
    subst (λ (l : Layout). IsHeaderBy more l (text_of h)) (sym (one h bytes a.1 a.0)) (subst (λ (t : List ℕ). Contains more (0, t)) (sym a.1) last)
lead_on cap reads more Start (Block b) bytes led a grows last = absurd a.1
lead_on cap reads more (Second s) Start bytes led a grows last = absurd a.1
lead_on cap reads more (Second s) (Second t) bytes led a grows last = absurd a.1
lead_on cap reads more (Second s) (Header h) bytes led a grows last =
    subst (λ (l : Layout). IsHeaderBy more l (text_of h)) (sym (two h s.bytes bytes a.1 s.long a.0))
    (by_two more (text_of h) s.bytes bytes a.1 s.long (grows _ led) last)
lead_on cap reads more (Second s) (Block b) bytes led a grows last = absurd a.1
lead_on cap reads more (Header h) Start bytes led a grows last = absurd a.1
lead_on cap reads more (Header h) (Second s) bytes led a grows last = absurd a.1
lead_on cap reads more (Header h) (Header i) bytes led a grows last = absurd a.1
lead_on cap reads more (Header h) (Block b) bytes led a grows last =
    subst (λ (i : ShareHeader). IsHeaderBy more i.offsets.layout (text_of i) × IsLengthBy more i b.block_length) (sym a.1.0) (
      more_header reads more grows h.offsets.layout (text_of h) led,
      record { bytes = bytes; read = last; long = a.0; number = a.1.1 },
    )
lead_on cap reads more (Block b) Start bytes led a grows last = absurd a.1
lead_on cap reads more (Block b) (Second s) bytes led a grows last = absurd a.1
lead_on cap reads more (Block b) (Header h) bytes led a grows last = absurd a.1
lead_on cap reads more (Block b) (Block d) bytes led a grows last = absurd a.1

pub rise : Rise
rise cap Start Start bytes a = absurd a.1
rise cap Start (Second s) bytes a = (refl, omega arith)
rise cap Start (Header h) bytes a = (ap header_size (one h bytes a.1 a.0), behind h)
rise cap Start (Block b) bytes a = absurd a.1
rise cap (Second s) Start bytes a = absurd a.1
rise cap (Second s) (Second t) bytes a = absurd a.1
rise cap (Second s) (Header h) bytes a = (ap header_size (two h s.bytes bytes a.1 s.long a.0), behind h)
rise cap (Second s) (Block b) bytes a = absurd a.1
rise cap (Header h) Start bytes a = absurd a.1
rise cap (Header h) (Second s) bytes a = absurd a.1
rise cap (Header h) (Header i) bytes a = absurd a.1
rise cap (Header h) (Block b) bytes a =
    (ap (λ (i : ShareHeader). i.offsets.extension_block + width i.offsets.layout) a.1.0, omega arith)
rise cap (Block b) Start bytes a = absurd a.1
rise cap (Block b) (Second s) bytes a = absurd a.1
rise cap (Block b) (Header h) bytes a = absurd a.1
rise cap (Block b) (Block d) bytes a = absurd a.1

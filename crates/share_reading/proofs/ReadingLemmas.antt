-- The reads of a share, as its reading goes on.
use Rattle.std.proofs.Common.{◌≡◌, ℕ, ◌+◌, ◌<◌, ◌≤◌, List, [], ◌∷◌, ◌++◌, length, ap, refl, sym, subst, ◌∙◌, arith, inl, inr}
use Rattle.std.specs.Prelude.{Contains}
use Rattle.std.proofs.lemmas.List.Elements.{Contains-append_left, Contains-append_right, Contains-append_cases, Contains-push}
use Rattle.lemmas.proofs.Members.{contains_head, contains_none}
use Rattle.cap_text.specs.Cap.{VerifyCapValue}
use Rattle.share_layout.specs.declared.layout.Layout.{Layout}
use Rattle.share_layout.specs.declared.layout.Layout.TheVariants.{One, Two}
use Rattle.share_layout.specs.declared.offsets.Offsets.{Offsets}
use Rattle.share_layout.specs.Geometry.{Geometry}
use Rattle.share_layout.specs.Layout.{header_size, offsets_of, width}
use Rattle.share_layout.specs.Offsets.{number_at}
use Rattle.share_layout.specs.Reading.{HasHeader}
use Rattle.share_layout.proofs.LawLemmas.{tells_offsets}
use Rattle.share_verify.specs.CapBlock.{geometry_by}
use Rattle.share_verify.specs.Checks.{Passes}
use Rattle.share_verify.specs.declared.check.Check.{Check}
use Rattle.share_verify.proofs.GeometryOfUeb.{is_geometry}
use Rattle.share_reading.specs.Opening.{IsOpened, text_of}
use Rattle.share_reading.specs.Opening as opening
use Rattle.share_reading.specs.OpeningReads.{Brought, IsLedToBy}
use Rattle.share_reading.specs.declared.block.Opened.{Opened}
use Rattle.share_reading.specs.declared.block.PendingBlock.{PendingBlock}
use Rattle.share_reading.specs.declared.header.ShareHeader.{ShareHeader}
use Rattle.share_reading.specs.declared.header.HeaderStart.{HeaderStart}
use Rattle.share_reading.specs.declared.opening.Opening.{Opening}
use Rattle.share_reading.specs.declared.opening.Opening.TheVariants.{Start, Second, Header, Block}
use Rattle.share_reading.specs.declared.opening.Progress.TheVariants as progress
use Rattle.share_reading.proofs.ReadLemmas.{lead_on, rise, behind, more_header, more_led, more_length}
use Rattle.share_reading.proofs.BlameLemmas.{refused_fail}
use Rattle.share_reading.specs.Reading.{next_length, next_offset}
use Rattle.share_reading.specs.Reads.{Ask, AsksNone, End, GoOn, HasHeaderBy, IsAsked, IsOpenedBy, IsReadBy, IsRest, IsRestBy, Stop}
use Rattle.share_reading.specs.Whole.{AreConsecutive}
use Rattle.share_reading.specs.declared.reading.ShareReading.{ShareReading}
use Rattle.share_reading.specs.declared.reading.ShareReading.TheVariants.{Beginning, Remaining}
use Rattle.share_reading.specs.declared.rest.Rest.{Rest}
use Rattle.share_reading.proofs.ConsecutiveLemmas.{append, inside, push, whole}

-- ---- what is known of a header

-- the extension block's geometry gives the offsets that the header tells
pub offsets_are : (cap : VerifyCapValue) (h : ShareHeader) (bytes : List ℕ) (o : Opened) → IsOpened cap (text_of h) bytes o → h.offsets ≡ offsets_of (geometry_by o.ueb)
offsets_are cap h bytes o is =
    let own : HasHeader (geometry_by o.ueb) (text_of h) = subst (λ (g : Geometry). HasHeader g (text_of h)) is.geometry is.header in
    h.right.offsets ∙ (tells_offsets (geometry_by o.ueb) (text_of h) (is_geometry o.ueb is.ueb.grammar.contents) own).2

-- ---- more reads

-- ---- the next read

in_front : (front back : List Brought) (read : Brought) → Contains front read → Contains (front ++ back) read
in_front front back read at = Contains-append_left front back read at

in_back : (front back : List Brought) (read : Brought) → Contains back read → Contains (front ++ back) read
in_back front back read at = Contains-append_right front back read at

-- the reads led to its opening
pub led_by : (cap : VerifyCapValue) (front back : List Brought) (o : Opening) → IsReadBy cap front back (Beginning o) → IsLedToBy (front ++ back) o
led_by cap front back Start is = tt
led_by cap front back (Second s) is =
    in_front front back (0, s.bytes) (subst (λ (l : List Brought). Contains l (0, s.bytes)) (sym is.0) (contains_head (0, s.bytes) []))
led_by cap front back (Header h) is = more_header front (front ++ back) (in_front front back) h.offsets.layout (text_of h) is.0.header
led_by cap front back (Block b) is = (
  more_header front (front ++ back) (in_front front back) b.header.offsets.layout (text_of b.header) is.0.header,
  more_length back (front ++ back) (in_back front back) b.header b.block_length is.1,
)

-- the reads up to an offset are before what is asked from there on
before : (front : List Brought) (end len : ℕ) (read : Brought) → AreConsecutive 0 front end → Contains front read → AsksNone read end len
before front end len read is at = inl (inside 0 end front read is at).1

apart : (cap : VerifyCapValue) (front back : List Brought) (r : ShareReading) → IsReadBy cap front back r → (read : Brought) → Contains (front ++ back) read
    → AsksNone read (next_offset r) (next_length r)
apart cap front back (Beginning Start) is read at =
    absurd (contains_none read (subst (λ (l : List Brought). Contains l read) (ap (λ (l : List Brought). l ++ back) is.0 ∙ is.1) at))
apart cap front back (Beginning (Second s)) is read at =
    let has : Contains ((0, s.bytes) ∷ []) read =
    subst (λ (l : List Brought). Contains l read) (ap (λ (l : List Brought). l ++ back) is.0 ∙ ap (λ (l : List Brought). (0, s.bytes) ∷ l) is.1) at in
    inl (inside 0 36 ((0, s.bytes) ∷ []) read (refl, omega (arith, s.long)) has).1
apart cap front back (Beginning (Header h)) is read at = elim (Contains-append_cases front back read at) [
  | inl here ↦ let r = (inside 0 (header_size h.offsets.layout) front read is.0.consecutive here).1 in inl (omega (arith, r, behind h))
  | inr here ↦ absurd (contains_none read (subst (λ (l : List Brought). Contains l read) is.1 here))
]
apart cap front back (Beginning (Block b)) is read at = elim (Contains-append_cases front back read at) [
  | inl here ↦ let r = (inside 0 (header_size b.header.offsets.layout) front read is.0.consecutive here).1 in inl (omega (arith, r, behind b.header))
  | inr here ↦ inl (inside b.header.offsets.extension_block _ back read is.2 here).1
]
apart cap front back (Remaining r) is read at = elim (Contains-append_cases front back read at) [
  | inl here ↦ before front r.next (next_length (Remaining r)) read is.before here
  | inr here ↦
      let low = (inside r.offsets.extension_block is.end back read is.behind here).0 in
      inr (omega (arith, low, r.more))
]

pub ask : Ask
ask cap front back (Beginning o) is = (
  inl (record { opening = o; led = led_by cap front back o is; offset_is = refl; len_is = refl }),
  apart cap front back (Beginning o) is,
)
ask cap front back (Remaining r) is = (inr rest, apart cap front back (Remaining r) is)
  where
    rest : IsRest cap (front ++ back) r.next (next_length (Remaining r))
    rest = record {
      u = is.begun.opened.ueb;
      block = is.begun.bytes;
      ueb = is.begun.ends.1.ueb;
      brought = subst (λ (p : Offsets). Contains (front ++ back) (p.extension_block + width p.layout, is.begun.bytes)) told is.begun.brought;
      some = omega (arith, r.more);
      low = subst (λ (p : Offsets). header_size p.layout ≤ r.next) same r.behind;
      high = subst (λ (p : Offsets). r.next + next_length (Remaining r) ≤ p.extension_block) same (omega (arith, r.more));
    }
      where
        told : is.begun.block.header.offsets ≡ offsets_of (geometry_by is.begun.opened.ueb)
        told = offsets_are cap is.begun.block.header is.begun.bytes is.begun.opened is.begun.ends.1

        same : r.offsets ≡ offsets_of (geometry_by is.begun.opened.ueb)
        same = is.offsets ∙ is.begun.ends.1.offsets ∙ ap offsets_of is.begun.ends.1.geometry

-- each read asks for a byte at least
width_some : (l : Layout) → 0 < width l
width_some One = omega arith
width_some Two = omega arith

opening_some : (o : Opening) → 0 < opening.next_length o
opening_some Start = omega arith
opening_some (Second s) = omega arith
opening_some (Header h) = width_some h.offsets.layout
opening_some (Block b) = b.some

pub asked_some : (cap : VerifyCapValue) (reads : List Brought) (offset len : ℕ) → IsAsked cap reads offset len → 0 < len
asked_some cap reads offset len is = elim is [
  | inl opens ↦ subst (λ n. 0 < n) (sym opens.len_is) (opening_some opens.opening)
  | inr rest ↦ rest.some
]

-- ---- going on

first_front : (front : List Brought) (bytes : List ℕ) (offset : ℕ) → front ≡ [] → front ++ (offset, bytes) ∷ [] ≡ (offset, bytes) ∷ []
first_front front bytes offset is = ap (λ (l : List Brought). l ++ (offset, bytes) ∷ []) is

grown : (reads : List Brought) (more : Brought) (read : Brought) → Contains reads read → Contains (reads ++ more ∷ []) read
grown reads more read at = Contains-append_left reads (more ∷ []) read at

front_grown : (front back : List Brought) (more read : Brought) → Contains (front ++ back) read → Contains ((front ++ more ∷ []) ++ back) read
front_grown front back more read at = elim (Contains-append_cases front back read at) [
  | inl here ↦ in_front (front ++ more ∷ []) back read (grown front more read here)
  | inr here ↦ in_back (front ++ more ∷ []) back read here
]

behind_grown : (front back : List Brought) (more read : Brought) → Contains (front ++ back) read → Contains (front ++ (back ++ more ∷ [])) read
behind_grown front back more read at = elim (Contains-append_cases front back read at) [
  | inl here ↦ in_front front (back ++ more ∷ []) read here
  | inr here ↦ in_back front (back ++ more ∷ []) read (grown back more read here)
]

-- the reads of a header that is there whole
header_start : (cap : VerifyCapValue) (bytes : List ℕ) (h : ShareHeader) → opening.Advances cap Start bytes (progress.Next (Header h)) → HasHeaderBy ((0, bytes) ∷ []) h
header_start cap bytes h a = record {
  header = lead_on cap [] ((0, bytes) ∷ []) Start (Header h) bytes tt a (λ read at. absurd (contains_none read at)) (contains_head (0, bytes) []);
  consecutive = (refl, omega (arith, (rise cap Start (Header h) bytes a).0, a.0));
}

header_second : (cap : VerifyCapValue) (s : HeaderStart) (bytes : List ℕ) (h : ShareHeader) → opening.Advances cap (Second s) bytes (progress.Next (Header h))
    → HasHeaderBy ((0, s.bytes) ∷ (36, bytes) ∷ []) h
header_second cap s bytes h a = record {
  header = lead_on cap ((0, s.bytes) ∷ []) ((0, s.bytes) ∷ (36, bytes) ∷ []) (Second s) (Header h) bytes (contains_head (0, s.bytes) []) a
      (grown ((0, s.bytes) ∷ []) (36, bytes)) (Contains-push ((0, s.bytes) ∷ []) (36, bytes));
  consecutive = (refl, (omega (arith, s.long), omega (arith, (rise cap (Second s) (Header h) bytes a).0, s.long, a.0)));
}

-- more reads have the beginning too
abbrev pub opened_more : (cap : VerifyCapValue) (reads more : List Brought) → ((read : Brought) → Contains reads read → Contains more read) → IsOpenedBy cap reads → IsOpenedBy cap more
opened_more cap reads more grows is = record {
  block = is.block;
  led = more_led reads more grows (Block is.block) is.led;
  bytes = is.bytes;
  brought = grows _ is.brought;
  opened = is.opened;
  ends = is.ends;
}

-- the extension block is there, and the rest is read from this offset on
rest_by : (cap : VerifyCapValue) (front back : List Brought) (b : PendingBlock) (bytes : List ℕ) (o : Opened) (r : Rest)
    → IsReadBy cap front back (Beginning (Block b)) → opening.Advances cap (Block b) bytes (progress.Done o)
    → r.offsets ≡ o.offsets → r.next ≡ header_size o.offsets.layout → IsRestBy cap front (back ++ (next_offset (Beginning (Block b)), bytes) ∷ []) r
rest_by cap front back b bytes o r is ends offsets next =
    let opened = ends.1 in
    let more = back ++ (next_offset (Beginning (Block b)), bytes) ∷ [] in
    let of : o.offsets ≡ offsets_of (geometry_by o.ueb) = opened.offsets ∙ ap offsets_of opened.geometry in
    let told : b.header.offsets ≡ offsets_of (geometry_by o.ueb) = offsets_are cap b.header bytes o opened in
    let same : r.offsets ≡ b.header.offsets = offsets ∙ of ∙ sym told in
    let start : header_size b.header.offsets.layout ≡ r.next = ap (λ (p : Offsets). header_size p.layout) (told ∙ sym of) ∙ sym next in
    record {
      begun = record {
        block = b;
        led = more_led (front ++ back) (front ++ more) (behind_grown front back (next_offset (Beginning (Block b)), bytes)) (Block b) (led_by cap front back (Block b) is);
        bytes = bytes;
        brought = in_back front more _ (Contains-push back (next_offset (Beginning (Block b)), bytes));
        opened = o;
        ends = ends;
      };
      offsets = offsets;
      before = subst (AreConsecutive 0 front) start is.0.consecutive;
      end = next_offset (Beginning (Block b)) + length bytes;
      behind = subst (λ (p : Offsets). AreConsecutive p.extension_block more (next_offset (Beginning (Block b)) + length bytes)) (sym same)
          (push b.header.offsets.extension_block (next_offset (Beginning (Block b))) back bytes is.2);
    }

-- the extension block's length is there
block_by : (cap : VerifyCapValue) (front : List Brought) (h : ShareHeader) (b : PendingBlock) (bytes : List ℕ) → HasHeaderBy front h
    → opening.Advances cap (Header h) bytes (progress.Next (Block b)) → IsReadBy cap front ((h.offsets.extension_block, bytes) ∷ []) (Beginning (Block b))
block_by cap front h b bytes is a =
    let same : b.header ≡ h = a.1.0 in
    let offset : h.offsets.extension_block ≡ b.header.offsets.extension_block = ap (λ (i : ShareHeader). i.offsets.extension_block) (sym same) in
    let long : length bytes ≡ width b.header.offsets.layout = a.0 ∙ ap (λ (i : ShareHeader). width i.offsets.layout) (sym same) in
    let told : b.block_length ≡ number_at b.header.offsets.layout bytes 0 = a.1.1 ∙ ap (λ (i : ShareHeader). number_at i.offsets.layout bytes 0) (sym same) in
    subst (λ n. IsReadBy cap front ((n, bytes) ∷ []) (Beginning (Block b))) (sym offset) (
      subst (HasHeaderBy front) (sym same) is,
      record {
        bytes = bytes;
        read = contains_head (b.header.offsets.extension_block, bytes) [];
        long = long;
        number = told;
      },
      (refl, ap (λ n. b.header.offsets.extension_block + n) long),
    )

pub go_on : GoOn
go_on cap front back (Beginning Start) (Beginning Start) bytes is a = absurd a.1
go_on cap front back (Beginning Start) (Beginning (Second s)) bytes is a =
    (first_front front bytes 0 is.0 ∙ ap (λ (l : List ℕ). (0, l) ∷ []) (sym a.1), is.1)
go_on cap front back (Beginning Start) (Beginning (Header h)) bytes is a =
    (subst (λ (l : List Brought). HasHeaderBy l h) (sym (first_front front bytes 0 is.0)) (header_start cap bytes h a), is.1)
go_on cap front back (Beginning Start) (Beginning (Block b)) bytes is a = absurd a.1
go_on cap front back (Beginning (Second s)) (Beginning Start) bytes is a = absurd a.1
go_on cap front back (Beginning (Second s)) (Beginning (Second t)) bytes is a = absurd a.1
go_on cap front back (Beginning (Second s)) (Beginning (Header h)) bytes is a =
    (subst (λ (l : List Brought). HasHeaderBy (l ++ (36, bytes) ∷ []) h) (sym is.0) (header_second cap s bytes h a), is.1)
go_on cap front back (Beginning (Second s)) (Beginning (Block b)) bytes is a = absurd a.1
go_on cap front back (Beginning (Header h)) (Beginning Start) bytes is a = absurd a.1
go_on cap front back (Beginning (Header h)) (Beginning (Second s)) bytes is a = absurd a.1
go_on cap front back (Beginning (Header h)) (Beginning (Header i)) bytes is a = absurd a.1
go_on cap front back (Beginning (Header h)) (Beginning (Block b)) bytes is a =
    subst (λ (l : List Brought). IsReadBy cap front l (Beginning (Block b))) (sym (first_front back bytes h.offsets.extension_block is.1))
    (block_by cap front h b bytes is.0 a)
go_on cap front back (Beginning (Block b)) (Beginning Start) bytes is a = absurd a.1
go_on cap front back (Beginning (Block b)) (Beginning (Second s)) bytes is a = absurd a.1
go_on cap front back (Beginning (Block b)) (Beginning (Header h)) bytes is a = absurd a.1
go_on cap front back (Beginning (Block b)) (Beginning (Block d)) bytes is a = absurd a.1
go_on cap front back (Beginning Start) (Remaining r) bytes is a = absurd a.1
go_on cap front back (Beginning (Second s)) (Remaining r) bytes is a = absurd a.1
go_on cap front back (Beginning (Header h)) (Remaining r) bytes is a = absurd a.1
go_on cap front back (Beginning (Block b)) (Remaining r) bytes is a = rest_by cap front back b bytes a.0 r is a.1 a.2.1 a.2.2
go_on cap front back (Remaining r) (Beginning o) bytes is a = absurd a
go_on cap front back (Remaining r) (Remaining t) bytes is a = record {
  begun = opened_more cap (front ++ back) ((front ++ (r.next, bytes) ∷ []) ++ back) (front_grown front back (r.next, bytes)) is.begun;
  offsets = a.2 ∙ is.offsets;
  before = subst (AreConsecutive 0 (front ++ (r.next, bytes) ∷ [])) (ap (λ n. r.next + n) a.0 ∙ sym a.3) (push 0 r.next front bytes is.before);
  end = is.end;
  behind = subst (λ (p : Offsets). AreConsecutive p.extension_block back is.end) (sym a.2) is.behind;
}

-- ---- the end

pub end_whole : End
end_whole cap front back (Beginning Start) bytes is a = absurd a.1
end_whole cap front back (Beginning (Second s)) bytes is a = absurd a.1
end_whole cap front back (Beginning (Header h)) bytes is a = absurd a.1
end_whole cap front back (Beginning (Block b)) bytes is a =
    let offset = next_offset (Beginning (Block b)) in
    let same : b.header.offsets ≡ a.0.offsets = offsets_are cap b.header bytes a.0 a.1.1 ∙ sym (a.1.1.offsets ∙ ap offsets_of a.1.1.geometry) in
    let low = subst (λ (p : Offsets). p.extension_block ≤ header_size p.layout) (sym same) a.2 in
    let joint : header_size b.header.offsets.layout ≡ b.header.offsets.extension_block = omega (arith, low, behind b.header) in
    whole (offset + length bytes) (front ++ (back ++ (offset, bytes) ∷ []))
    (append 0 b.header.offsets.extension_block (offset + length bytes) front (back ++ (offset, bytes) ∷ [])
    (subst (AreConsecutive 0 front) joint is.0.consecutive)
    (push b.header.offsets.extension_block offset back bytes is.2))
end_whole cap front back (Remaining r) bytes is a =
    whole is.end ((front ++ (r.next, bytes) ∷ []) ++ back)
    (append 0 r.offsets.extension_block is.end (front ++ (r.next, bytes) ∷ []) back
    (subst (AreConsecutive 0 (front ++ (r.next, bytes) ∷ [])) (ap (λ n. r.next + n) a.0 ∙ a.1) (push 0 r.next front bytes is.before))
    is.behind)

-- ---- the reading stops

pub stop : Stop
stop cap front back (Beginning o) bytes check num share is why long has at pass = elim why.1 [
  | inl other ↦ absurd (other.0 long)
  | inr stage ↦
      refused_fail cap num (front ++ back) o share bytes why.0 (led_by cap front back o is) has at stage.0 stage.1
      (subst (λ (c : Check). Passes cap num share c) why.2 pass)
]
stop cap front back (Remaining r) bytes check num share is why long has at pass = absurd (why.0 long)

-- Offsets of a file, and pieces that are made of segments.
use Rattle.std.proofs.Common.{◌≡◌, ℕ, ◌+◌, ◌-◌, ◌*◌, ◌/◌, ◌%◌, ◌<◌, ◌≤◌, Bool, true, false, All, List, [], ◌∷◌, ◌++◌, Some, None, length, min, take, drop, refl, ap, subst, sym, ◌∙◌, arith}
use Rattle.std.specs.Prelude.{if◌then◌else◌, nat_lt}
use Rattle.std.specs.Int.{div_ceil}
use Rattle.std.proofs.Math.Nat.{add-mul, mod-lt, mul-div_cancel}
use Rattle.std.proofs.lemmas.List.{length-drop, length-take}
use Rattle.std.proofs.lemmas.List.Elements.{All-push, All-tail}
use Rattle.std.proofs.lemmas.Nat.{div-add-mod'}
use Rattle.lemmas.proofs.Options.{chosen}
use Rattle.aes_ctr.specs.CounterMode.{xored_from}
use Rattle.aes_ctr.proofs.StreamLemmas.{length-xored_from}
use Rattle.merkle.proofs.PaddingLemmas.{lt_from_true}
use Rattle.share_layout.specs.Geometry.{Geometry, IsGeometry, segment_count}
use Rattle.share_layout.specs.Pieces.{segment_length}
use Rattle.download_parts.proofs.NumberLemmas.{below_ceil}
use Rattle.proved_parts.specs.Parts.{IsSegmentBy}
use Rattle.download_segments.specs.declared.piece.Piece.{Piece}
use Rattle.download_segments.specs.Pieces.{AreConsecutive, IsGiven, IsSlice}
use Rattle.download_segments.specs.State.{HandoutState, IsHandout}
use Rattle.download_segments.specs.Handout.{handed_out, next_end, next_piece, next_segment}
use Rattle.download_segments.specs.Laws.{NextSegmentsFollow}
use Rattle.download_segments.proofs.PieceLemmas.{consecutive_push, consecutive_taken}

-- where a piece begins in its segment, and where it ends
pub record AreEnds (seg size to reached end : ℕ) : Type 0 where
  pub begins : reached ≡ reached / seg * seg + reached % seg
  pub skipped : reached % seg < seg
  pub more : reached < end
  pub within : end ≤ to
  pub inside : reached % seg + (end - reached) ≤ min seg (size - reached / seg * seg)

pub are_ends : (seg size to reached : ℕ) → 0 < seg → reached < to → to ≤ size
    → AreEnds seg size to reached (min to ((reached / seg + 1) * seg))
are_ends seg size to reached some wanted inside =
    let number : ℕ = reached / seg in
    let split : reached ≡ number * seg + reached % seg = sym (div-add-mod' reached seg) in
    let small : reached % seg < seg = mod-lt reached some in
    let next : (number + 1) * seg ≡ number * seg + seg = omega (arith, add-mul number 1 seg) in
    record {
      begins = split;
      skipped = small;
      more = omega (arith, split, small, next, wanted);
      within = omega arith;
      inside = omega (arith, split, small, next, wanted, inside);
    }

-- there is a next segment
pub next_there : (seg size to reached divisor : ℕ) → divisor ≡ seg → 0 < seg → reached < to → to ≤ size
    → reached / divisor < div_ceil size seg
next_there seg size to reached divisor same some wanted inside =
    subst (λ (n : ℕ). reached / n < div_ceil size seg) (sym same) (below_ceil size seg reached some (omega (arith, wanted, inside)))

pub next_is : (h : HandoutState) (number : ℕ) → next_segment h ≡ Some number
    → (h.reached < h.to) × (h.reached / h.geometry.segment_size ≡ number)
next_is h number e =
    let k = chosen (nat_lt h.reached h.to) (h.reached / h.geometry.segment_size) number e in
    (lt_from_true h.reached h.to k.0, k.1)

pub valid_of : (h : HandoutState) → IsHandout h → IsGeometry h.geometry
valid_of h k = subst IsGeometry k.roots.geometry k.trees.valid

pub ends_of : (h : HandoutState) → IsHandout h → h.reached < h.to
    → AreEnds h.geometry.segment_size h.geometry.size h.to h.reached (next_end h)
ends_of h k wanted =
    are_ends h.geometry.segment_size h.geometry.size h.to h.reached (valid_of h k).some_segment wanted k.inside

-- how many bytes the next piece has
pub length-next_piece : (h : HandoutState) (segment : List ℕ) → h.reached % h.geometry.segment_size + (next_end h - h.reached) ≤ length segment
    → length (next_piece h segment).bytes ≡ next_end h - h.reached
length-next_piece h segment fits =
    let skipped : ℕ = h.reached % h.geometry.segment_size in
    let count : ℕ = next_end h - h.reached in
    length-xored_from h.key h.reached (take count (drop skipped segment))
    ∙ length-take count (drop skipped segment)
    ∙ omega (arith, length-drop skipped segment, fits)

-- the segment has the bytes of the next piece
pub next_fits : (h : HandoutState) (number : ℕ) (segment : List ℕ) → IsHandout h → next_segment h ≡ Some number
    → length segment ≡ segment_length h.geometry number
    → h.reached % h.geometry.segment_size + (next_end h - h.reached) ≤ length segment
next_fits h number segment k next long =
    let is = next_is h number next in
    let seg : ℕ = h.geometry.segment_size in
    let whole : length segment ≡ min seg (h.geometry.size - h.reached / seg * seg) =
    long ∙ ap (λ (n : ℕ). min seg (h.geometry.size - n * seg)) (sym is.1) in
    subst (λ (n : ℕ). h.reached % seg + (next_end h - h.reached) ≤ n) (sym whole) (ends_of h k is.0).inside

pub next_within : (h : HandoutState) (number : ℕ) → IsHandout h → next_segment h ≡ Some number → number < segment_count h.geometry
next_within h number k next =
    let is = next_is h number next in
    subst (λ (n : ℕ). n < segment_count h.geometry) is.1
    (next_there h.geometry.segment_size h.geometry.size h.to h.reached h.geometry.segment_size refl (valid_of h k).some_segment is.0 k.inside)

-- the piece that is made of a segment
pub next_slice : (h : HandoutState) (number : ℕ) (segment : List ℕ) → IsHandout h → next_segment h ≡ Some number
    → length segment ≡ segment_length h.geometry number → IsSlice h.key h.ueb.segment_size number segment (next_piece h segment)
next_slice h number segment k next long =
    let is = next_is h number next in
    let ends = ends_of h k is.0 in
    let skipped : ℕ = h.reached % h.geometry.segment_size in
    let size : h.geometry.segment_size ≡ h.ueb.segment_size = ap (λ (g : Geometry). g.segment_size) k.geometry in
    let fits = next_fits h number segment k next long in
    let count : length (next_piece h segment).bytes ≡ next_end h - h.reached = length-next_piece h segment fits in
    let begins : h.reached ≡ number * h.geometry.segment_size + skipped = ends.begins ∙ ap (λ (n : ℕ). n * h.geometry.segment_size + skipped) is.1 in
    record {
      skipped = skipped;
      offset_is = begins ∙ ap (λ (n : ℕ). number * n + skipped) size;
      long = omega (arith, count, fits);
      bytes_are = ap (λ (n : ℕ). xored_from h.key h.reached (take n (drop skipped segment))) (sym count);
    }

-- and the state after it
pub right_handed : (h : HandoutState) (number : ℕ) (segment : List ℕ) (siblings : List (List ℕ)) → IsHandout h
    → next_segment h ≡ Some number → length segment ≡ segment_length h.geometry number
    → IsSegmentBy h.ueb number segment siblings → IsHandout (handed_out h segment)
right_handed h number segment siblings k next long by =
    let is = next_is h number next in
    let ends = ends_of h k is.0 in
    let p : Piece = next_piece h segment in
    let count : length p.bytes ≡ next_end h - h.reached = length-next_piece h segment (next_fits h number segment k next long) in
    let some : 0 < length p.bytes = omega (arith, count, ends.more) in
    let end : h.reached + length p.bytes ≡ next_end h = omega (arith, count, ends.more) in
    let given : IsGiven h.key h.ueb p = record { number = number; segment = segment; siblings = siblings; by = by; slice = next_slice h number segment k next long } in
    record {
      geometry = k.geometry;
      trees = k.trees;
      roots = k.roots;
      inside = k.inside;
      within = ends.within;
      consecutive = subst (λ (n : ℕ). AreConsecutive h.handed (h.ready ++ p ∷ []) n) end (consecutive_push h.handed h.ready h.reached p k.consecutive refl some);
      given = All-push (IsGiven h.key h.ueb) h.ready p k.given given;
    }

-- the first piece is taken
pub right_taken : (h : HandoutState) (p : Piece) (ps : List Piece) → IsHandout h → h.ready ≡ p ∷ ps
    → IsHandout (record h { ready = ps; handed = p.offset + length p.bytes })
right_taken h p ps k is =
    let ready : AreConsecutive h.handed (p ∷ ps) h.reached = subst (λ (l : List Piece). AreConsecutive h.handed l h.reached) is k.consecutive in
    record {
      geometry = k.geometry;
      trees = k.trees;
      roots = k.roots;
      inside = k.inside;
      within = k.within;
      consecutive = consecutive_taken h.handed p ps h.reached ready;
      given = All-tail (IsGiven h.key h.ueb) p ps (subst (λ (l : List Piece). All (IsGiven h.key h.ueb) l) is k.given);
    }

-- the segment behind the next one
behind : (t : Bool) (n number : ℕ) → (t ≡ true → n ≡ number) → (if t then Some n else None) ≡ (if t then Some number else None)
behind true n number e = ap Some (e refl)
behind false n number e = refl

pub next_follows : NextSegmentsFollow
next_follows h number segment k next =
    let is = next_is h number next in
    let seg : ℕ = h.geometry.segment_size in
    let some : 0 < seg = (valid_of h k).some_segment in
    behind (nat_lt (next_end h) h.to) (next_end h / seg) (number + 1)
    (λ wanted.
    let low : next_end h < h.to = lt_from_true (next_end h) h.to wanted in
    let whole : next_end h ≡ (h.reached / seg + 1) * seg = omega (arith, low) in
    ap (λ (n : ℕ). n / seg) whole ∙ mul-div_cancel (h.reached / seg + 1) some ∙ ap (λ (n : ℕ). n + 1) is.1)

-- Exactly one verdict on bytes: they are what is read, or one fault comes first.
use Rattle.std.proofs.Common.{◌≡◌, ℕ, ◌↔◌, ◌⊎◌, inl, inr, List, length, Ok, Err, Result, MatchResult, ap, sym, subst, refl, ◌∙◌, arith}
use Rattle.std.proofs.lemmas.Result.{MatchResult-at_err}
use Rattle.share_layout.specs.declared.error.Section.{Section}
use Rattle.share_layout.specs.declared.error.LayoutError.{LayoutError}
use Rattle.share_layout.specs.declared.error.LayoutError.TheVariants.{BadParameters, TooLarge, TooManySegments, BadVersion, BadOffset, Truncated, BadShareHashes, WriterFault}
use Rattle.share_layout.specs.declared.offsets.Offsets.{Offsets}
use Rattle.share_layout.specs.declared.error.Section.TheVariants.{Header}
use Rattle.share_layout.specs.declared.layout.Layout.{Layout}
use Rattle.share_layout.specs.Layout.{header_size}
use Rattle.share_layout.specs.Offsets.{HasBadEnd, HasOwnOffsets, HasVersion, IsShortHeader, layout_in, offsets_in, section_at}
use Rattle.share_layout.specs.Reading.{HasOtherVersion, IsFault, IsHeaderFault, IsLocateFault, IsWhole, LacksBytes}
use Rattle.share_layout.specs.Cutting.{IsCutFault, IsVersionFault}
use Rattle.share_layout.proofs.LayoutLemmas.{layout_is}

-- a header is cut short
abbrev pub Short : List ℕ → Section → Type 0
Short bytes section = IsShortHeader bytes × (section ≡ Header)

-- bytes are missing
abbrev pub Lack : Type 0 → Offsets → List ℕ → Section → Type 0
Lack R p bytes section = LacksBytes R p bytes × (section ≡ section_at p (length bytes))

-- the header or the end is wrong
abbrev pub OtherOffsets : Type 0 → Offsets → List ℕ → Type 0
OtherOffsets R p bytes = HasVersion p.layout bytes × (¬ R ⊎ (R × HasBadEnd p bytes))

-- a header that has a version is not cut short
short_version : (l : Layout) (bytes : List ℕ) → IsShortHeader bytes → HasVersion l bytes → ⊥
short_version l bytes short v = omega (arith, short, v.long, ap header_size (layout_is l bytes v.version))

lack_offsets : (R : Type 0) (p : Offsets) (bytes : List ℕ) → LacksBytes R p bytes → OtherOffsets R p bytes → ⊥
lack_offsets R p bytes l o = elim o.1 [ inl wrong ↦ wrong l.right | inr end ↦ l.end end.1 ]

lack_whole : (R : Type 0) (p : Offsets) (bytes : List ℕ) → LacksBytes R p bytes → IsWhole R p bytes → ⊥
lack_whole R p bytes l w = omega (arith, l.lacks, w.end)

offsets_whole : (R : Type 0) (p : Offsets) (bytes : List ℕ) → OtherOffsets R p bytes → IsWhole R p bytes → ⊥
offsets_whole R p bytes o w =
    elim o.1 [
      | inl wrong ↦ wrong w.right
      | inr end ↦ elim end.1.bad [ inl long ↦ omega (arith, long, w.short) | inr more ↦ omega (arith, more, w.end) ]
    ]

only_short : (R H : Type 0) (p : Offsets) (bytes : List ℕ) (section : Section) → Short bytes section → (f : LayoutError) → IsFault R H p bytes f → Truncated section ≡ f
only_short R H p bytes section h BadParameters f = absurd f
only_short R H p bytes section h TooLarge f = absurd f
only_short R H p bytes section h TooManySegments f = absurd f
only_short R H p bytes section h BadVersion f = absurd (omega (arith, h.0, f.long))
only_short R H p bytes section h BadOffset f = absurd (short_version p.layout bytes h.0 f.0)
only_short R H p bytes section h (Truncated other) f =
    elim f [ inl short ↦ ap Truncated (h.1 ∙ sym short.1) | inr lacks ↦ absurd (short_version p.layout bytes h.0 lacks.0.version) ]
only_short R H p bytes section h BadShareHashes f = absurd (short_version p.layout bytes h.0 f.0.version)
only_short R H p bytes section h WriterFault f = absurd f

only_lack : (R H : Type 0) (p : Offsets) (bytes : List ℕ) (section : Section) → Lack R p bytes section → (f : LayoutError) → IsFault R H p bytes f → Truncated section ≡ f
only_lack R H p bytes section h BadParameters f = absurd f
only_lack R H p bytes section h TooLarge f = absurd f
only_lack R H p bytes section h TooManySegments f = absurd f
only_lack R H p bytes section h BadVersion f = absurd (f.other h.0.version.version)
only_lack R H p bytes section h BadOffset f = absurd (lack_offsets R p bytes h.0 f)
only_lack R H p bytes section h (Truncated other) f =
    elim f [ inl short ↦ absurd (short_version p.layout bytes short.0 h.0.version) | inr lacks ↦ ap Truncated (h.1 ∙ sym lacks.1) ]
only_lack R H p bytes section h BadShareHashes f = absurd (lack_whole R p bytes h.0 f.0)
only_lack R H p bytes section h WriterFault f = absurd f

only_version : (R H : Type 0) (p : Offsets) (bytes : List ℕ) → HasOtherVersion p.layout bytes → (f : LayoutError) → IsFault R H p bytes f → BadVersion ≡ f
only_version R H p bytes h BadParameters f = absurd f
only_version R H p bytes h TooLarge f = absurd f
only_version R H p bytes h TooManySegments f = absurd f
only_version R H p bytes h BadVersion f = refl
only_version R H p bytes h BadOffset f = absurd (h.other f.0.version)
only_version R H p bytes h (Truncated other) f =
    elim f [ inl short ↦ absurd (omega (arith, short.0, h.long)) | inr lacks ↦ absurd (h.other lacks.0.version.version) ]
only_version R H p bytes h BadShareHashes f = absurd (h.other f.0.version.version)
only_version R H p bytes h WriterFault f = absurd f

only_offsets : (R H : Type 0) (p : Offsets) (bytes : List ℕ) → OtherOffsets R p bytes → (f : LayoutError) → IsFault R H p bytes f → BadOffset ≡ f
only_offsets R H p bytes h BadParameters f = absurd f
only_offsets R H p bytes h TooLarge f = absurd f
only_offsets R H p bytes h TooManySegments f = absurd f
only_offsets R H p bytes h BadVersion f = absurd (f.other h.0.version)
only_offsets R H p bytes h BadOffset f = refl
only_offsets R H p bytes h (Truncated other) f =
    elim f [ inl short ↦ absurd (short_version p.layout bytes short.0 h.0) | inr lacks ↦ absurd (lack_offsets R p bytes lacks.0 h) ]
only_offsets R H p bytes h BadShareHashes f = absurd (offsets_whole R p bytes h f.0)
only_offsets R H p bytes h WriterFault f = absurd f

only_hashes : (R H : Type 0) (p : Offsets) (bytes : List ℕ) → IsWhole R p bytes × ¬ H → (f : LayoutError) → IsFault R H p bytes f → BadShareHashes ≡ f
only_hashes R H p bytes h BadParameters f = absurd f
only_hashes R H p bytes h TooLarge f = absurd f
only_hashes R H p bytes h TooManySegments f = absurd f
only_hashes R H p bytes h BadVersion f = absurd (f.other h.0.version.version)
only_hashes R H p bytes h BadOffset f = absurd (offsets_whole R p bytes f h.0)
only_hashes R H p bytes h (Truncated other) f =
    elim f [ inl short ↦ absurd (short_version p.layout bytes short.0 h.0.version) | inr lacks ↦ absurd (lack_whole R p bytes lacks.0 h.0) ]
only_hashes R H p bytes h BadShareHashes f = refl
only_hashes R H p bytes h WriterFault f = absurd f

-- one fault comes first
pub one_fault : (R H : Type 0) (p : Offsets) (bytes : List ℕ) (e f : LayoutError) → IsFault R H p bytes e → IsFault R H p bytes f → e ≡ f
one_fault R H p bytes BadParameters f h g = absurd h
one_fault R H p bytes TooLarge f h g = absurd h
one_fault R H p bytes TooManySegments f h g = absurd h
one_fault R H p bytes BadVersion f h g = only_version R H p bytes h f g
one_fault R H p bytes BadOffset f h g = only_offsets R H p bytes h f g
one_fault R H p bytes (Truncated section) f h g =
    elim h [ inl short ↦ only_short R H p bytes section short f g | inr lacks ↦ only_lack R H p bytes section lacks f g ]
one_fault R H p bytes BadShareHashes f h g = only_hashes R H p bytes h f g
one_fault R H p bytes WriterFault f h g = absurd h

-- bytes in which all is right have no fault
pub no_fault : (R H : Type 0) (p : Offsets) (bytes : List ℕ) → IsWhole R p bytes → H → (e : LayoutError) → IsFault R H p bytes e → ⊥
no_fault R H p bytes w h BadParameters f = f
no_fault R H p bytes w h TooLarge f = f
no_fault R H p bytes w h TooManySegments f = f
no_fault R H p bytes w h BadVersion f = f.other w.version.version
no_fault R H p bytes w h BadOffset f = offsets_whole R p bytes f w
no_fault R H p bytes w h (Truncated section) f =
    elim f [ inl short ↦ short_version p.layout bytes short.0 w.version | inr lacks ↦ lack_whole R p bytes lacks.0 w ]
no_fault R H p bytes w h BadShareHashes f = f.1 h
no_fault R H p bytes w h WriterFault f = f

-- a fault behind a right header
pub cut_fault : (R H : Type 0) (p : Offsets) (bytes : List ℕ) → HasVersion p.layout bytes → R → (e : LayoutError) → IsCutFault p bytes e → IsFault R H p bytes e
cut_fault R H p bytes v r BadParameters f = absurd f
cut_fault R H p bytes v r TooLarge f = absurd f
cut_fault R H p bytes v r TooManySegments f = absurd f
cut_fault R H p bytes v r BadVersion f = absurd f
cut_fault R H p bytes v r BadOffset f = (v, inr (r, f))
cut_fault R H p bytes v r (Truncated section) f = inr (record { version = v; right = r; end = f.0; lacks = f.1 }, f.2)
cut_fault R H p bytes v r BadShareHashes f = absurd f
cut_fault R H p bytes v r WriterFault f = absurd f

-- a fault of the header's length or version
pub version_fault : (R H : Type 0) (p : Offsets) (bytes : List ℕ) (e : LayoutError) → IsVersionFault p.layout bytes e → IsFault R H p bytes e
version_fault R H p bytes BadParameters f = absurd f
version_fault R H p bytes TooLarge f = absurd f
version_fault R H p bytes TooManySegments f = absurd f
version_fault R H p bytes BadVersion f = f
version_fault R H p bytes BadOffset f = absurd f
version_fault R H p bytes (Truncated section) f = inl f
version_fault R H p bytes BadShareHashes f = absurd f
version_fault R H p bytes WriterFault f = absurd f

-- a fault of the header
pub header_fault : (bytes : List ℕ) (e : LayoutError) → IsHeaderFault bytes e → IsLocateFault bytes e
header_fault bytes BadParameters f = absurd f
header_fault bytes TooLarge f = absurd f
header_fault bytes TooManySegments f = absurd f
header_fault bytes BadVersion f = f
header_fault bytes BadOffset f = (f.0, inl f.1)
header_fault bytes (Truncated section) f = inl f
header_fault bytes BadShareHashes f = absurd f
header_fault bytes WriterFault f = absurd f

pub one_header_fault : (bytes : List ℕ) (e f : LayoutError) → IsHeaderFault bytes e → IsHeaderFault bytes f → e ≡ f
one_header_fault bytes e f h g =
    one_fault (HasOwnOffsets bytes) (Unit {0}) (offsets_in bytes) bytes e f (header_fault bytes e h) (header_fault bytes f g)

pub no_header_fault : (bytes : List ℕ) → HasVersion (layout_in bytes) bytes → HasOwnOffsets bytes → (e : LayoutError) → IsHeaderFault bytes e → ⊥
no_header_fault bytes v own BadParameters f = f
no_header_fault bytes v own TooLarge f = f
no_header_fault bytes v own TooManySegments f = f
no_header_fault bytes v own BadVersion f = f.other v.version
no_header_fault bytes v own BadOffset f = f.1 own
no_header_fault bytes v own (Truncated section) f = short_version (layout_in bytes) bytes f.0 v
no_header_fault bytes v own BadShareHashes f = f
no_header_fault bytes v own WriterFault f = f

-- why a header tells no offsets, by its version first
pub told_fault : (bytes : List ℕ) (e : LayoutError) → IsVersionFault (layout_in bytes) bytes e → IsHeaderFault bytes e
told_fault bytes BadParameters f = absurd f
told_fault bytes TooLarge f = absurd f
told_fault bytes TooManySegments f = absurd f
told_fault bytes BadVersion f = f
told_fault bytes BadOffset f = absurd f
told_fault bytes (Truncated section) f = f
told_fault bytes BadShareHashes f = absurd f
told_fault bytes WriterFault f = absurd f

-- what is accepted, where nothing has a fault, in other words
pub no_refusal : {X : Type 0} (A B : X → Type 0) (F : LayoutError → Type 0) (r : Result X LayoutError) → MatchResult r A F
    → ((e : LayoutError) → F e → ⊥) → ((x : X) → A x → B x) → MatchResult r B (λ _. ⊥)
no_refusal A B F (Ok x) m none turn = turn x m
no_refusal A B F (Err e) m none turn = none e m

-- a refusal comes exactly where its fault comes first
pub refusal : {X : Type 0} (A : X → Type 0) (F : LayoutError → Type 0) (r : Result X LayoutError) → MatchResult r A F
    → ((x : X) → A x → (e : LayoutError) → F e → ⊥) → ((e f : LayoutError) → F e → F f → e ≡ f) → (error : LayoutError) → (r ≡ Err error) ↔ F error
refusal A F (Ok x) m none one error = (λ e. absurd (cc e), λ f. absurd (none x m error f))
refusal A F (Err d) m none one error = (λ e. MatchResult-at_err A F error e m, λ f. ap Err (one d error m f))

-- a fault that comes is the only one
pub only_fault : {X : Type 0} (F : LayoutError → Type 0) (e : LayoutError) → F e → ((e f : LayoutError) → F e → F f → e ≡ f)
    → (r : Result X LayoutError) → r ≡ Err e → (error : LayoutError) → (r ≡ Err error) ↔ F error
only_fault F e fault one r is error = (λ also. subst F (cc (sym is ∙ also)) fault, λ f. is ∙ ap Err (one e error fault f))

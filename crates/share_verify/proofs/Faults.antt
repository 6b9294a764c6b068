-- A share reads in one way or has a fault, and its first fault fails its check.
use Rattle.std.proofs.Common.{◌≡◌, ℕ, ◌<◌, ◌≤◌, ◌^◌, List, Result, length, Ok, Err, ap, refl, subst, sym, ◌∙◌, arith}
use Rattle.std.specs.Result.{IsErrAnd}
use Rattle.tagged_hash.specs.TaggedHash.{tagged_hash}
use Rattle.tagged_hash.specs.declared.tag.Tag.TheVariants.{ExtensionBlock}
use Rattle.cap_text.specs.Cap.{VerifyCapValue}
use Rattle.ueb.specs.Reading.{Agrees}
use Rattle.ueb.specs.Shape.{Contents}
use Rattle.ueb.specs.declared.block.Expect.{Expect}
use Rattle.ueb.specs.declared.error.UebError.{UebError}
use Rattle.ueb.specs.Limits.{max_length}
use Rattle.ueb.proofs.Refusals.{read_unique, refusal_unique, refused}
use Rattle.share_layout.specs.Geometry.{Geometry}
use Rattle.share_layout.specs.Layout.{offsets_of}
use Rattle.share_layout.specs.Offsets.{HasOwnOffsets, LocatesUeb, offsets_in}
use Rattle.share_layout.specs.Reading.{HasHeader, HasNumbers, IsLocateFault, IsReadFault}
use Rattle.share_layout.specs.Share.{IsShare, Sections}
use Rattle.share_layout.specs.declared.error.LayoutError.{LayoutError}
use Rattle.share_layout.proofs.ShareLemmas.{located_tail, located_whole, one_reading, share_numbers, share_whole}
use Rattle.share_layout.proofs.Verdicts.{no_fault, one_fault}
use Rattle.share_verify.specs.CapBlock.{IsUebFor, geometry_by}
use Rattle.share_verify.specs.Checks.{Passes, ReadsWith, check_of}
use Rattle.share_verify.specs.Verify.{HasBlockTree, HasBlocks, HasCiphertextTree, HasShareHashes, HasZeros, IsFirstFault, not_read, not_sound, IsReadingFault, not_located, no_ueb, no_share, IsLayoutFault, IsSectionFault, IsUebFault, ReadsAs, RefusesUeb}
use Rattle.share_verify.specs.declared.fault.ShareFault.{ShareFault}
use Rattle.share_verify.proofs.FirstFault.{err_with, layout_error, same_err}
use Rattle.share_verify.proofs.UebFaults.{refused_by, ueb_refusal}
use Rattle.share_verify.specs.declared.fault.ShareFault.TheVariants.{Layout, OtherUeb, Ueb, Unused, CiphertextTree, BlockTree, ShareHashes, Data}

-- a share's header leads to one extension block
pub same_block : (share block other : List ℕ) → LocatesUeb share block → LocatesUeb share other → block ≡ other
same_block share block other one two = (located_tail share block one).tail ∙ sym (located_tail share other two).tail

-- which says one thing to a cap
module _ (c : VerifyCapValue) (block : List ℕ) (u : Contents) (own : IsUebFor c block u) where
  short : length block < 2 ^ 64
  short = omega (arith, own.grammar.short)

  pub one_contents : (v : Contents) → IsUebFor c block v → u ≡ v
  one_contents v its =
      let expect : Expect = record { needed = u.needed_shares; total = u.total_shares; size = u.size; in_range = own.grammar.contents.shape.file } in
      let agrees : Agrees expect u = record { needed_shares = refl; total_shares = refl; size = refl } in
      let also : Agrees expect v =
      record { needed_shares = its.needed ∙ sym own.needed; total_shares = its.total ∙ sym own.total; size = its.size ∙ sym own.size } in
      read_unique block expect u v short own.grammar agrees its.grammar also

  not_refused : (error : UebError) → RefusesUeb c block error → ⊥
  not_refused error held =
      let agrees : Agrees held.expect u =
      record { needed_shares = own.needed ∙ sym held.needed; total_shares = own.total ∙ sym held.total; size = own.size ∙ sym held.size } in
      let same = (refused block held.expect (Ok u) short (record { is = (own.grammar, agrees) }) error).1 held.refused in
      absurd (cc same)

  no_ueb_fault : (fault : ShareFault) → IsUebFault c block fault → ⊥
  no_ueb_fault fault held = let found = ueb_refusal c block own.hash fault held in not_refused found.error found.refused

-- a share that is located, and laid out, has no fault of its layout
no_locating_fault : (share block : List ℕ) → LocatesUeb share block → (fault : ShareFault) → IsLayoutFault (IsLocateFault share) fault → ⊥
no_locating_fault share block located fault held =
    let found = layout_error (IsLocateFault share) fault held in
    no_fault (HasOwnOffsets share) (Unit {0}) (offsets_in share) share (located_whole share block located) tt found.error found.holds

no_layout_fault : (g : Geometry) (num : ℕ) (share : List ℕ) (s : Sections) → IsShare g num share s → (fault : ShareFault)
    → IsLayoutFault (IsReadFault g num share) fault → ⊥
no_layout_fault g num share s is fault held =
    let found = layout_error (IsReadFault g num share) fault held in
    no_fault (HasHeader g share) (HasNumbers g num share) (offsets_of g) share (share_whole g num share s is) (share_numbers g num share s is) found.error found.holds

module _ (c : VerifyCapValue) (num : ℕ) (share : List ℕ) where
  locating_fails : (fault : ShareFault) → IsLayoutFault (IsLocateFault share) fault → Passes c num share (check_of fault) → ⊥
  locating_fails (Layout error) f p =
      no_fault (HasOwnOffsets share) (Unit {0}) (offsets_in share) share (located_whole share p.1.extension_block p.2.located) tt error f
  locating_fails OtherUeb f p = f
  locating_fails (Ueb error) f p = f
  locating_fails Unused f p = f
  locating_fails CiphertextTree f p = f
  locating_fails BlockTree f p = f
  locating_fails ShareHashes f p = f
  locating_fails Data f p = f

  module _ (block : List ℕ) (located : LocatesUeb share block) where
    ueb_fails : (fault : ShareFault) → IsUebFault c block fault → Passes c num share (check_of fault) → ⊥
    ueb_fails (Layout error) f p = f
    ueb_fails OtherUeb f p = f (ap (tagged_hash ExtensionBlock) (same_block share block p.0 located p.2) ∙ p.3.hash)
    ueb_fails (Ueb error) f p =
        not_refused c block p.1 (subst (λ b. IsUebFor c b p.1) (sym (same_block share block p.0 located p.2)) p.3) error f.1
    ueb_fails Unused f p = f
    ueb_fails CiphertextTree f p = f
    ueb_fails BlockTree f p = f
    ueb_fails ShareHashes f p = f
    ueb_fails Data f p = f

    -- the share reads under its contents alone
    same_contents : (u v : Contents) (s : Sections) → IsUebFor c block u → ReadsAs c num share v s → u ≡ v
    same_contents u v s own reads =
        one_contents c block u own v
        (subst (λ b. IsUebFor c b v) (sym (same_block share block s.extension_block located reads.located)) reads.ueb)

    share_fails : (u : Contents) → IsUebFor c block u → (fault : ShareFault) → IsLayoutFault (IsReadFault (geometry_by u) num share) fault
        → Passes c num share (check_of fault) → ⊥
    share_fails u own (Layout error) f p =
        let g = geometry_by u in
        let is : IsShare g num share p.1 =
        subst (λ w. IsShare (geometry_by w) num share p.1) (sym (same_contents u p.0 p.1 own p.2)) p.2.layout in
        no_fault (HasHeader g share) (HasNumbers g num share) (offsets_of g) share (share_whole g num share p.1 is) (share_numbers g num share p.1 is) error f
    share_fails u own OtherUeb f p = f
    share_fails u own (Ueb error) f p = f
    share_fails u own Unused f p = f
    share_fails u own CiphertextTree f p = f
    share_fails u own BlockTree f p = f
    share_fails u own ShareHashes f p = f
    share_fails u own Data f p = f

  module _ (u : Contents) (s : Sections) (reads : ReadsAs c num share u s) where
    -- it reads in one way
    pub same_reading : (v : Contents) (t : Sections) → ReadsAs c num share v t → (u ≡ v) × (s ≡ t)
    same_reading v t other =
        let same : u ≡ v = same_contents s.extension_block reads.located u v t reads.ueb other in
        let also : IsShare (geometry_by u) num share t = subst (λ w. IsShare (geometry_by w) num share t) (sym same) other.layout in
        (same, one_reading (geometry_by u) num num share s t reads.layout also)

    -- and has no fault in reading
    pub no_reading_fault : (fault : ShareFault) → IsReadingFault c num share fault → ⊥
    no_reading_fault fault (not_located f) = no_locating_fault share s.extension_block reads.located fault f
    no_reading_fault fault (no_ueb block there f) =
        no_ueb_fault c s.extension_block u reads.ueb fault
        (subst (λ b. IsUebFault c b fault) (sym (same_block share s.extension_block block reads.located there)) f)
    no_reading_fault fault (no_share block v there its f) =
        let same : v ≡ u = same_contents block there v u s its reads in
        no_layout_fault (geometry_by u) num share s reads.layout fault (subst (λ w. IsLayoutFault (IsReadFault (geometry_by w) num share) fault) same f)

    -- what is so of a share's sections is so of these
    here : (Test : Contents → Sections → Type 0) → ReadsWith c num share Test → Test u s
    here Test p =
        let same = same_reading p.0 p.1 p.2 in
        subst (λ w. Test w s) (sym same.0) (subst (λ x. Test p.0 x) (sym same.1) p.3)

    section_fails : (fault : ShareFault) → IsSectionFault u num s fault → Passes c num share (check_of fault) → ⊥
    section_fails (Layout error) f p = f
    section_fails OtherUeb f p = f
    section_fails (Ueb error) f p = f
    section_fails Unused f p = f (here (λ v t. HasZeros t) p)
    section_fails CiphertextTree f p = f.1 (here HasCiphertextTree p)
    section_fails BlockTree f p = f.2 (here HasBlockTree p)
    section_fails ShareHashes f p = f.3 (here (λ v t. HasBlockTree v t × HasShareHashes v num t) p).1
    section_fails Data f p = f.4 (here (λ v t. HasBlockTree v t × HasShareHashes v num t × HasBlocks v t) p).2

  reading_fails : (fault : ShareFault) → IsReadingFault c num share fault → Passes c num share (check_of fault) → ⊥
  reading_fails fault (not_located f) p = locating_fails fault f p
  reading_fails fault (no_ueb block located f) p = ueb_fails block located fault f p
  reading_fails fault (no_share block u located own f) p = share_fails block located u own fault f p

  pub first_fails : (fault : ShareFault) → IsFirstFault c num share fault → Passes c num share (check_of fault) → ⊥
  first_fails fault (not_read f) p = reading_fails fault f p
  first_fails fault (not_sound u s reads f) p = section_fails u s reads fault f p

-- layout faults, of which one comes first
one_layout_fault : (F : LayoutError → Type 0) → ((d e : LayoutError) → F d → F e → d ≡ e) → (f g : ShareFault) → IsLayoutFault F f → IsLayoutFault F g → f ≡ g
one_layout_fault F one f g held also =
    let a = layout_error F f held in
    let b = layout_error F g also in
    a.is ∙ ap (λ (e : LayoutError). Layout e) (one a.error b.error a.holds b.holds) ∙ sym b.is

-- another hash is the one fault of an extension block
only_other : (c : VerifyCapValue) (block : List ℕ) → ¬ (tagged_hash ExtensionBlock block ≡ c.ueb_hash) → (g : ShareFault) → IsUebFault c block g → OtherUeb ≡ g
only_other c block other (Layout error) g = absurd g
only_other c block other OtherUeb g = refl
only_other c block other (Ueb error) g = absurd (other g.0)
only_other c block other Unused g = absurd g
only_other c block other CiphertextTree g = absurd g
only_other c block other BlockTree g = absurd g
only_other c block other ShareHashes g = absurd g
only_other c block other Data g = absurd g

one_ueb_fault : (c : VerifyCapValue) (block : List ℕ) → length block ≤ max_length → (f g : ShareFault) → IsUebFault c block f → IsUebFault c block g → f ≡ g
one_ueb_fault c block small (Layout error) g held also = absurd held
one_ueb_fault c block small OtherUeb g held also = only_other c block held g also
one_ueb_fault c block small (Ueb error) g held also =
    let found = ueb_refusal c block held.0 g also in
    let mine = held.1 in
    let theirs = refused_by c block found.error mine.expect mine.needed mine.total mine.size found.refused in
    ap (λ (e : UebError). Ueb e) (refusal_unique block mine.expect error found.error (omega (arith, small)) mine.refused theirs) ∙ sym found.is
one_ueb_fault c block small Unused g held also = absurd held
one_ueb_fault c block small CiphertextTree g held also = absurd held
one_ueb_fault c block small BlockTree g held also = absurd held
one_ueb_fault c block small ShareHashes g held also = absurd held
one_ueb_fault c block small Data g held also = absurd held

-- a share has one first fault in reading
module _ (c : VerifyCapValue) (num : ℕ) (share : List ℕ) where
  not_beyond : (f g : ShareFault) → IsLayoutFault (IsLocateFault share) f → (block : List ℕ) → LocatesUeb share block → f ≡ g
  not_beyond f g held block located = absurd (no_locating_fault share block located f held)

  ueb_before : (f g : ShareFault) (block other : List ℕ) (v : Contents) → LocatesUeb share block → IsUebFault c block f → LocatesUeb share other → IsUebFor c other v → ⊥
  ueb_before f g block other v there held located own =
      no_ueb_fault c other v own f (subst (λ b. IsUebFault c b f) (same_block share block other there located) held)

  pub one_reading_fault : (f g : ShareFault) → IsReadingFault c num share f → IsReadingFault c num share g → f ≡ g
  one_reading_fault f g (not_located held) (not_located also) =
      one_layout_fault (IsLocateFault share) (one_fault (HasOwnOffsets share) (Unit {0}) (offsets_in share) share) f g held also
  one_reading_fault f g (not_located held) (no_ueb block located also) = not_beyond f g held block located
  one_reading_fault f g (not_located held) (no_share block v located own also) = not_beyond f g held block located
  one_reading_fault f g (no_ueb block located held) (not_located also) = sym (not_beyond g f also block located)
  one_reading_fault f g (no_ueb block located held) (no_ueb other there also) =
      one_ueb_fault c block located.ends.short f g held (subst (λ b. IsUebFault c b g) (sym (same_block share block other located there)) also)
  one_reading_fault f g (no_ueb block located held) (no_share other v there own also) = absurd (ueb_before f g block other v located held there own)
  one_reading_fault f g (no_share block u located own held) (not_located also) = sym (not_beyond g f also block located)
  one_reading_fault f g (no_share block u located own held) (no_ueb other there also) = absurd (ueb_before g f other block u there also located own)
  one_reading_fault f g (no_share block u located own held) (no_share other v there its also) =
      let h = geometry_by u in
      let same : u ≡ v = one_contents c block u own v (subst (λ b. IsUebFor c b v) (sym (same_block share block other located there)) its) in
      one_layout_fault (IsReadFault h num share) (one_fault (HasHeader h share) (HasNumbers h num share) (offsets_of h) share) f g held
      (subst (λ w. IsLayoutFault (IsReadFault (geometry_by w) num share) g) (sym same) also)

  -- what a call says that answers it
  pub refused_for : {T : Type 0} (q : Result T ShareFault) (f : ShareFault) → IsErrAnd q (λ g. g ≡ f) → IsReadingFault c num share f → (g : ShareFault)
      → (q ≡ Err g → IsReadingFault c num share g) × (IsReadingFault c num share g → q ≡ Err g)
  refused_for q f answered is g =
      let told = err_with q (λ g. g ≡ f) answered in
      let err : q ≡ Err f = told.is ∙ ap (λ (g : ShareFault). Err g) told.holds in (
        λ same. subst (IsReadingFault c num share) (same_err q f g err same) is,
        λ held. err ∙ ap (λ (g : ShareFault). Err g) (one_reading_fault f g is held),
      )

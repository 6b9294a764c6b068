-- Reads of which no two begin at one offset have one fault in the beginning of their share, or none.
use Rattle.std.proofs.Common.{Ok, ◌^◌, ◌≡◌, ◌≢◌, ℕ, ◌+◌, ◌<◌, List, ◌++◌, length, take, drop, ap, refl, subst, sym, ◌∙◌, arith, inl, inr, ◌⊎◌}
use Rattle.std.specs.Prelude.{Contains}
use Rattle.std.proofs.lemmas.List.{length-take, length-drop, take-append-drop}
use Rattle.cap_text.specs.Cap.{VerifyCapValue}
use Rattle.ueb.specs.Limits.{max_length}
use Rattle.ueb.specs.Reading.{Agrees}
use Rattle.ueb.specs.Shape.{Contents}
use Rattle.ueb.proofs.Refusals.{refused}
use Rattle.share_layout.specs.Geometry.{Geometry}
use Rattle.share_layout.specs.Layout.{header_size, width}
use Rattle.share_layout.specs.Offsets.{layout_in, number_at, offsets_in}
use Rattle.share_layout.specs.Reading.{HasHeader}
use Rattle.share_layout.specs.declared.layout.Layout.{Layout}
use Rattle.share_layout.specs.declared.layout.Layout.TheVariants.{One, Two}
use Rattle.share_layout.specs.declared.offsets.Offsets.{Offsets}
use Rattle.share_layout.proofs.Verdicts.{no_header_fault}
use Rattle.share_verify.specs.CapBlock.{IsUebFor, geometry_by}
use Rattle.share_verify.specs.Verify.{IsUebFault}
use Rattle.share_verify.specs.declared.check.Check.TheVariants as checks
use Rattle.share_verify.specs.declared.fault.ShareFault.{ShareFault}
use Rattle.share_verify.proofs.Faults.{one_contents}
use Rattle.share_verify.proofs.UebFaults.{ueb_refusal}
use Rattle.share_reading.specs.Header.{IsReachable}
use Rattle.share_reading.specs.Opening.{next_offset, text_of}
use Rattle.share_reading.specs.OpeningReads.{Brought, IsHeaderBy, IsLedToBy}
use Rattle.share_reading.specs.Refusal.{IsBlockRefusal, IsHeaderRefusal, IsLengthRefusal, IsRefused, check_of}
use Rattle.share_reading.specs.declared.block.PendingBlock.{PendingBlock}
use Rattle.share_reading.specs.declared.error.OpeningError.{OpeningError}
use Rattle.share_reading.specs.declared.error.OpeningError.TheVariants as errors
use Rattle.share_reading.specs.declared.header.HeaderStart.{HeaderStart}
use Rattle.share_reading.specs.declared.header.ShareHeader.{ShareHeader}
use Rattle.share_reading.specs.declared.opening.Opening.{Opening}
use Rattle.share_reading.specs.declared.opening.Opening.TheVariants.{Start, Second, Header, Block}
use Rattle.share_reading.proofs.BlameLemmas.{layout_take}
use Rattle.share_reading.proofs.ReadLemmas.{length-text_of}
use Rattle.share_reading.specs.Reads.{IsOpenedBy}

-- ---- refusals

header_layout : (header : List ℕ) (error : OpeningError) → IsHeaderRefusal header error → check_of error ≡ checks.Layout
header_layout header errors.OtherLength why = absurd why
header_layout header (errors.Header e) why = refl
header_layout header errors.TooFar why = refl
header_layout header errors.TooLong why = absurd why
header_layout header errors.NoBlock why = absurd why
header_layout header (errors.Ueb f) why = absurd why
header_layout header errors.OtherHeader why = absurd why

-- a header that was read is not refused
right_header : (h : ShareHeader) (error : OpeningError) → IsHeaderRefusal (text_of h) error → ⊥
right_header h errors.OtherLength why = why
right_header h (errors.Header e) why = no_header_fault (text_of h) h.right.tells.version h.right.tells.offsets e why
right_header h errors.TooFar why = why.1 (subst IsReachable h.right.offsets h.right.reachable)
right_header h errors.TooLong why = why
right_header h errors.NoBlock why = why
right_header h (errors.Ueb f) why = why
right_header h errors.OtherHeader why = why

abbrev IsLengthAs : ℕ → OpeningError → Type 0
IsLengthAs told error = ((max_length < told) × (check_of error ≡ checks.Layout)) ⊎ ((told ≡ 0) × (check_of error ≡ checks.Ueb))

length_as : (told : ℕ) (error : OpeningError) → IsLengthRefusal told error → IsLengthAs told error
length_as told errors.OtherLength why = absurd why
length_as told (errors.Header e) why = absurd why
length_as told errors.TooFar why = absurd why
length_as told errors.TooLong why = inl (why, refl)
length_as told errors.NoBlock why = inr (why, refl)
length_as told (errors.Ueb f) why = absurd why
length_as told errors.OtherHeader why = absurd why

data IsBlockAs (cap : VerifyCapValue) (header bytes : List ℕ) (error : OpeningError) : Type 0 where
  is_no_ueb : (fault : ShareFault) → IsUebFault cap bytes fault → check_of error ≡ checks.Ueb → IsBlockAs cap header bytes error
  is_other : (u : Contents) → IsUebFor cap bytes u → (HasHeader (geometry_by u) header → ⊥) → check_of error ≡ checks.Layout → IsBlockAs cap header bytes error

block_as : (cap : VerifyCapValue) (header bytes : List ℕ) (error : OpeningError) → IsBlockRefusal cap header bytes error → IsBlockAs cap header bytes error
block_as cap header bytes errors.OtherLength why = absurd why
block_as cap header bytes (errors.Header e) why = absurd why
block_as cap header bytes errors.TooFar why = absurd why
block_as cap header bytes errors.TooLong why = absurd why
block_as cap header bytes errors.NoBlock why = absurd why
block_as cap header bytes (errors.Ueb f) why = is_no_ueb f why refl
block_as cap header bytes errors.OtherHeader why = is_other why.0 why.1 why.2 refl

-- an extension block of the cap's file has no fault
no_ueb_fault : (cap : VerifyCapValue) (bytes : List ℕ) (u : Contents) → IsUebFor cap bytes u → (fault : ShareFault) → IsUebFault cap bytes fault → ⊥
no_ueb_fault cap bytes u own fault held =
    let found = ueb_refusal cap bytes own.hash fault held in
    let r = found.refused in
    let small : length bytes < 2 ^ 64 = omega (arith, own.grammar.short) in
    let agrees : Agrees r.expect u = record { needed_shares = own.needed ∙ sym r.needed; total_shares = own.total ∙ sym r.total; size = own.size ∙ sym r.size } in
    let same = (refused bytes r.expect (Ok u) small (record { is = (own.grammar, agrees) }) found.error).1 r.refused in
    absurd (cc same)

-- ---- refusals of the same bytes are of one check

length_one : (layout : Layout) (bytes : List ℕ) (one other : OpeningError)
    → (((length bytes ≢ width layout) × (one ≡ errors.OtherLength)) ⊎ ((length bytes ≡ width layout) × IsLengthRefusal (number_at layout bytes 0) one))
    → (((length bytes ≢ width layout) × (other ≡ errors.OtherLength)) ⊎ ((length bytes ≡ width layout) × IsLengthRefusal (number_at layout bytes 0) other))
    → check_of one ≡ check_of other
length_one layout bytes one other a b = elim a [
  | inl far ↦ elim b [
    | inl also ↦ ap check_of (far.1 ∙ sym also.1)
    | inr stage ↦ absurd (far.0 stage.0)
  ]
  | inr stage ↦ elim b [
    | inl far ↦ absurd (far.0 stage.0)
    | inr also ↦ elim (length_as (number_at layout bytes 0) one stage.1) [
      | inl long ↦ elim (length_as (number_at layout bytes 0) other also.1) [
        | inl more ↦ long.1 ∙ sym more.1
        | inr none ↦ absurd (omega (arith, long.0, none.0))
      ]
      | inr none ↦ elim (length_as (number_at layout bytes 0) other also.1) [
        | inl long ↦ absurd (omega (arith, long.0, none.0))
        | inr more ↦ none.1 ∙ sym more.1
      ]
    ]
  ]
]

block_stage : (cap : VerifyCapValue) (header bytes : List ℕ) (one other : OpeningError) → IsBlockAs cap header bytes one → IsBlockAs cap header bytes other → check_of one ≡ check_of other
block_stage cap header bytes one other (is_no_ueb f held e) (is_no_ueb g also d) = e ∙ sym d
block_stage cap header bytes one other (is_no_ueb f held e) (is_other u own why d) = absurd (no_ueb_fault cap bytes u own f held)
block_stage cap header bytes one other (is_other u own why e) (is_no_ueb g also d) = absurd (no_ueb_fault cap bytes u own g also)
block_stage cap header bytes one other (is_other u own why e) (is_other v its non d) = e ∙ sym d

block_one : (cap : VerifyCapValue) (size : ℕ) (header bytes : List ℕ) (one other : OpeningError)
    → (((length bytes ≢ size) × (one ≡ errors.OtherLength)) ⊎ ((length bytes ≡ size) × IsBlockRefusal cap header bytes one))
    → (((length bytes ≢ size) × (other ≡ errors.OtherLength)) ⊎ ((length bytes ≡ size) × IsBlockRefusal cap header bytes other))
    → check_of one ≡ check_of other
block_one cap size header bytes one other a b = elim a [
  | inl far ↦ elim b [
    | inl also ↦ ap check_of (far.1 ∙ sym also.1)
    | inr stage ↦ absurd (far.0 stage.0)
  ]
  | inr stage ↦ elim b [
    | inl far ↦ absurd (far.0 stage.0)
    | inr also ↦ block_stage cap header bytes one other (block_as cap header bytes one stage.1) (block_as cap header bytes other also.1)
  ]
]

-- the first bytes are refused for the layout alone
start_layout : (cap : VerifyCapValue) (bytes : List ℕ) (error : OpeningError) → IsRefused cap Start bytes error → check_of error ≡ checks.Layout
start_layout cap bytes error why = elim why [
  | inl far ↦ ap check_of far.1
  | inr stage ↦ header_layout bytes error stage.1.1
]

second_layout : (cap : VerifyCapValue) (s : HeaderStart) (bytes : List ℕ) (error : OpeningError) → IsRefused cap (Second s) bytes error → check_of error ≡ checks.Layout
second_layout cap s bytes error why = elim why [
  | inl far ↦ ap check_of far.1
  | inr stage ↦ header_layout (s.bytes ++ bytes) error stage.1
]

-- ---- headers

layout_is : (h : ShareHeader) → layout_in (text_of h) ≡ h.offsets.layout
layout_is h = ap (λ (p : Offsets). p.layout) (sym h.right.offsets)

apart_layouts : One ≡ Two → ⊥
apart_layouts e = cc

front_long : (h : ShareHeader) → h.offsets.layout ≡ Two → length (take 36 (text_of h)) ≡ 36
front_long h two = let long = length-text_of h ∙ ap header_size two in omega (arith, length-take 36 (text_of h), long)

back_long : (h : ShareHeader) → h.offsets.layout ≡ Two → length (drop 36 (text_of h)) ≡ 32
back_long h two = let long = length-text_of h ∙ ap header_size two in omega (arith, length-drop 36 (text_of h), long)

front_layout : (h : ShareHeader) → h.offsets.layout ≡ Two → layout_in (take 36 (text_of h)) ≡ Two
front_layout h two = layout_take 36 (text_of h) (omega arith) ∙ layout_is h ∙ two

module _ (cap : VerifyCapValue) (reads : List Brought) (apart : (one other : Brought) → Contains reads one → Contains reads other → one.0 ≡ other.0 → one ≡ other) where
  same_bytes : (offset other : ℕ) (bytes more : List ℕ) → offset ≡ other → Contains reads (offset, bytes) → Contains reads (other, more) → bytes ≡ more
  same_bytes offset other bytes more e one two = ap (λ (b : Brought). b.1) (apart (offset, bytes) (other, more) one two e)

  start_refused : (h : ShareHeader) (bytes : List ℕ) (error : OpeningError) → IsHeaderBy reads h.offsets.layout (text_of h) → Contains reads (0, bytes) → IsRefused cap Start bytes error → ⊥
  start_refused h bytes error led at why = by h.offsets.layout refl led
    where
      by : (l : Layout) → h.offsets.layout ≡ l → IsHeaderBy reads l (text_of h) → ⊥
      by One e has =
          let same : text_of h ≡ bytes = same_bytes 0 0 (text_of h) bytes refl has at in
          elim why [
            | inl far ↦ far.0 (ap length (sym same) ∙ length-text_of h ∙ ap header_size e)
            | inr stage ↦ right_header h error (subst (λ (t : List ℕ). IsHeaderRefusal t error) (sym same) stage.1.1)
          ]
      by Two e has =
          let same : take 36 (text_of h) ≡ bytes = same_bytes 0 0 (take 36 (text_of h)) bytes refl has.0 at in
          elim why [
            | inl far ↦ far.0 (ap length (sym same) ∙ front_long h e)
            | inr stage ↦ apart_layouts (sym stage.1.0 ∙ ap layout_in (sym same) ∙ front_layout h e)
          ]

  second_refused : (h : ShareHeader) (s : HeaderStart) (bytes : List ℕ) (error : OpeningError) → IsHeaderBy reads h.offsets.layout (text_of h)
      → Contains reads (0, s.bytes) → Contains reads (36, bytes) → IsRefused cap (Second s) bytes error → ⊥
  second_refused h s bytes error led first at why = by h.offsets.layout refl led
    where
      by : (l : Layout) → h.offsets.layout ≡ l → IsHeaderBy reads l (text_of h) → ⊥
      by One e has =
          let same : text_of h ≡ s.bytes = same_bytes 0 0 (text_of h) s.bytes refl has first in
          apart_layouts (sym e ∙ sym (layout_is h) ∙ ap layout_in same ∙ s.second)
      by Two e has =
          let front : take 36 (text_of h) ≡ s.bytes = same_bytes 0 0 (take 36 (text_of h)) s.bytes refl has.0 first in
          let back : drop 36 (text_of h) ≡ bytes = same_bytes 36 36 (drop 36 (text_of h)) bytes refl has.1 at in
          let whole : s.bytes ++ bytes ≡ text_of h = ap (λ (l : List ℕ). l ++ bytes) (sym front) ∙ ap (λ (l : List ℕ). take 36 (text_of h) ++ l) (sym back) ∙ take-append-drop 36 (text_of h) in
          elim why [
            | inl far ↦ far.0 (ap length (sym back) ∙ back_long h e)
            | inr stage ↦ right_header h error (subst (λ (t : List ℕ). IsHeaderRefusal t error) whole stage.1)
          ]

  same_text : (h i : ShareHeader) → IsHeaderBy reads h.offsets.layout (text_of h) → IsHeaderBy reads i.offsets.layout (text_of i) → text_of h ≡ text_of i
  same_text h i one other = by h.offsets.layout i.offsets.layout refl refl one other
    where
      mixed : (a b : ShareHeader) → a.offsets.layout ≡ One → b.offsets.layout ≡ Two → Contains reads (0, text_of a) → Contains reads (0, take 36 (text_of b)) → ⊥
      mixed a b e d has also =
          apart_layouts (sym e ∙ sym (layout_is a) ∙ ap layout_in (same_bytes 0 0 (text_of a) (take 36 (text_of b)) refl has also) ∙ front_layout b d)

      by : (l k : Layout) → h.offsets.layout ≡ l → i.offsets.layout ≡ k → IsHeaderBy reads l (text_of h) → IsHeaderBy reads k (text_of i) → text_of h ≡ text_of i
      by One One e d has also = same_bytes 0 0 (text_of h) (text_of i) refl has also
      by One Two e d has also = absurd (mixed h i e d has also.0)
      by Two One e d has also = absurd (mixed i h d e also has.0)
      by Two Two e d has also =
          sym (take-append-drop 36 (text_of h))
          ∙ ap (λ (l : List ℕ). l ++ drop 36 (text_of h)) (same_bytes 0 0 (take 36 (text_of h)) (take 36 (text_of i)) refl has.0 also.0)
          ∙ ap (λ (l : List ℕ). take 36 (text_of i) ++ l) (same_bytes 36 36 (drop 36 (text_of h)) (drop 36 (text_of i)) refl has.1 also.1)
          ∙ take-append-drop 36 (text_of i)

  same_offsets : (h i : ShareHeader) → IsHeaderBy reads h.offsets.layout (text_of h) → IsHeaderBy reads i.offsets.layout (text_of i) → h.offsets ≡ i.offsets
  same_offsets h i one other = h.right.offsets ∙ ap offsets_in (same_text h i one other) ∙ sym i.right.offsets

  -- the length that stands behind a header
  header_refused : (h : ShareHeader) (b : PendingBlock) (bytes : List ℕ) (error : OpeningError) → IsLedToBy reads (Header h) → IsLedToBy reads (Block b)
      → Contains reads (h.offsets.extension_block, bytes) → IsRefused cap (Header h) bytes error → ⊥
  header_refused h b bytes error led known at why =
      let offsets : h.offsets ≡ b.header.offsets = same_offsets h b.header led known.0 in
      let found = known.1 in
      let same : bytes ≡ found.bytes = same_bytes _ _ bytes found.bytes (ap (λ (p : Offsets). p.extension_block) offsets) at found.read in
      let told : b.block_length ≡ number_at h.offsets.layout bytes 0 =
      found.number ∙ ap (λ (p : Offsets). number_at p.layout found.bytes 0) (sym offsets) ∙ ap (λ (l : List ℕ). number_at h.offsets.layout l 0) (sym same) in
      elim why [
        | inl far ↦ far.0 (ap length same ∙ found.long ∙ ap (λ (p : Offsets). width p.layout) (sym offsets))
        | inr stage ↦ elim (length_as (number_at h.offsets.layout bytes 0) error stage.1) [
          | inl long ↦ omega (arith, long.0, told, b.short)
          | inr none ↦ omega (arith, none.0, told, b.some)
        ]
      ]

  -- the extension block that stands behind that
  record IsSameBlock (b d : PendingBlock) : Type 0 where
    pub text : text_of b.header ≡ text_of d.header
    pub size : b.block_length ≡ d.block_length
    pub offset : next_offset (Block b) ≡ next_offset (Block d)

  same_block : (b d : PendingBlock) → IsLedToBy reads (Block b) → IsLedToBy reads (Block d) → IsSameBlock b d
  same_block b d one other =
      let offsets : b.header.offsets ≡ d.header.offsets = same_offsets b.header d.header one.0 other.0 in
      let same : one.1.bytes ≡ other.1.bytes = same_bytes _ _ one.1.bytes other.1.bytes (ap (λ (p : Offsets). p.extension_block) offsets) one.1.read other.1.read in
      record {
        text = same_text b.header d.header one.0 other.0;
        size = one.1.number ∙ ap (λ (p : Offsets). number_at p.layout one.1.bytes 0) offsets ∙ ap (λ (l : List ℕ). number_at d.header.offsets.layout l 0) same ∙ sym other.1.number;
        offset = ap (λ (p : Offsets). p.extension_block + width p.layout) offsets;
      }

  block_refused : (b : PendingBlock) (bytes : List ℕ) (error : OpeningError) → IsLedToBy reads (Block b) → Contains reads (next_offset (Block b), bytes)
      → IsRefused cap (Block b) bytes error → IsOpenedBy cap reads → ⊥
  block_refused b bytes error led at why is =
      let alike = same_block b is.block led is.led in
      let same : bytes ≡ is.bytes = same_bytes _ _ bytes is.bytes alike.offset at is.brought in
      let opened = is.ends.1 in
      elim why [
        | inl far ↦ far.0 (ap length same ∙ is.ends.0 ∙ sym alike.size)
        | inr stage ↦ by same (block_as cap (text_of b.header) bytes error stage.1)
      ]
    where
      by : bytes ≡ is.bytes → IsBlockAs cap (text_of b.header) bytes error → ⊥
      by same (is_no_ueb f held e) = no_ueb_fault cap bytes is.opened.ueb (subst (λ (l : List ℕ). IsUebFor cap l is.opened.ueb) (sym same) is.ends.1.ueb) f held
      by same (is_other u own other e) =
          let one : is.opened.ueb ≡ u = one_contents cap is.bytes is.opened.ueb is.ends.1.ueb u (subst (λ (l : List ℕ). IsUebFor cap l u) same own) in
          let header : HasHeader (geometry_by is.opened.ueb) (text_of is.block.header) = subst (λ (g : Geometry). HasHeader g (text_of is.block.header)) is.ends.1.geometry is.ends.1.header in
          other (subst (λ (v : Contents). HasHeader (geometry_by v) (text_of b.header)) one
          (subst (HasHeader (geometry_by is.opened.ueb)) (sym (same_block b is.block led is.led).text) header))

  -- where the beginning was read, no bytes of it are refused
  pub refused_or_opened : (o : Opening) (bytes : List ℕ) (error : OpeningError) → IsLedToBy reads o → Contains reads (next_offset o, bytes) → IsRefused cap o bytes error
      → IsOpenedBy cap reads → ⊥
  refused_or_opened Start bytes error led at why is = start_refused is.block.header bytes error is.led.0 at why
  refused_or_opened (Second s) bytes error led at why is = second_refused is.block.header s bytes error is.led.0 led at why
  refused_or_opened (Header h) bytes error led at why is = header_refused h is.block bytes error led is.led at why
  refused_or_opened (Block b) bytes error led at why is = block_refused b bytes error led at why is

  -- bytes that are refused
  pub record IsRefusedAt (o : Opening) (bytes : List ℕ) (error : OpeningError) : Type 0 where
    pub led : IsLedToBy reads o
    pub at : Contains reads (next_offset o, bytes)
    pub why : IsRefused cap o bytes error

  headers_one : (h i : ShareHeader) (bytes more : List ℕ) (e f : OpeningError) → IsRefusedAt (Header h) bytes e → IsRefusedAt (Header i) more f → check_of e ≡ check_of f
  headers_one h i bytes more e f one other =
      let offsets : h.offsets ≡ i.offsets = same_offsets h i one.led other.led in
      let same : bytes ≡ more = same_bytes _ _ bytes more (ap (λ (p : Offsets). p.extension_block) offsets) one.at other.at in
      length_one i.offsets.layout more e f
      (subst (λ (l : Layout). ((length more ≢ width l) × (e ≡ errors.OtherLength)) ⊎ ((length more ≡ width l) × IsLengthRefusal (number_at l more 0) e)) (ap (λ (p : Offsets). p.layout) offsets)
      (subst (λ (t : List ℕ). IsRefused cap (Header h) t e) same one.why))
      other.why

  blocks_one : (b d : PendingBlock) (bytes more : List ℕ) (e f : OpeningError) → IsRefusedAt (Block b) bytes e → IsRefusedAt (Block d) more f → check_of e ≡ check_of f
  blocks_one b d bytes more e f one other =
      let alike = same_block b d one.led other.led in
      let same : bytes ≡ more = same_bytes _ _ bytes more alike.offset one.at other.at in
      block_one cap d.block_length (text_of d.header) more e f
      (subst (λ n. ((length more ≢ n) × (e ≡ errors.OtherLength)) ⊎ ((length more ≡ n) × IsBlockRefusal cap (text_of d.header) more e)) alike.size
      (subst (λ (t : List ℕ). ((length more ≢ b.block_length) × (e ≡ errors.OtherLength)) ⊎ ((length more ≡ b.block_length) × IsBlockRefusal cap t more e)) alike.text
      (subst (λ (t : List ℕ). IsRefused cap (Block b) t e) same one.why)))
      other.why

  -- they are refused for one check
  pub one_check : (o p : Opening) (bytes more : List ℕ) (e f : OpeningError) → IsRefusedAt o bytes e → IsRefusedAt p more f → check_of e ≡ check_of f
  one_check Start Start bytes more e f one other = start_layout cap bytes e one.why ∙ sym (start_layout cap more f other.why)
  one_check Start (Second t) bytes more e f one other = start_layout cap bytes e one.why ∙ sym (second_layout cap t more f other.why)
  one_check Start (Header i) bytes more e f one other = absurd (start_refused i bytes e other.led one.at one.why)
  one_check Start (Block d) bytes more e f one other = absurd (start_refused d.header bytes e other.led.0 one.at one.why)
  one_check (Second s) Start bytes more e f one other = second_layout cap s bytes e one.why ∙ sym (start_layout cap more f other.why)
  one_check (Second s) (Second t) bytes more e f one other = second_layout cap s bytes e one.why ∙ sym (second_layout cap t more f other.why)
  one_check (Second s) (Header i) bytes more e f one other = absurd (second_refused i s bytes e other.led one.led one.at one.why)
  one_check (Second s) (Block d) bytes more e f one other = absurd (second_refused d.header s bytes e other.led.0 one.led one.at one.why)
  one_check (Header h) Start bytes more e f one other = absurd (start_refused h more f one.led other.at other.why)
  one_check (Header h) (Second t) bytes more e f one other = absurd (second_refused h t more f one.led other.led other.at other.why)
  one_check (Header h) (Header i) bytes more e f one other = headers_one h i bytes more e f one other
  one_check (Header h) (Block d) bytes more e f one other = absurd (header_refused h d bytes e one.led other.led one.at one.why)
  one_check (Block b) Start bytes more e f one other = absurd (start_refused b.header more f one.led.0 other.at other.why)
  one_check (Block b) (Second t) bytes more e f one other = absurd (second_refused b.header t more f one.led.0 other.led other.at other.why)
  one_check (Block b) (Header i) bytes more e f one other = absurd (header_refused i b more f other.led one.led other.at other.why)
  one_check (Block b) (Block d) bytes more e f one other = blocks_one b d bytes more e f one other

-- A share of which the first blocks are known by their hashes alone.
use Rattle.std.proofs.Common.{◌≡◌, ℕ, ◌+◌, ◌-◌, ◌*◌, ◌<◌, ◌≤◌, inl, inr, List, [], ◌++◌, length, take, drop, get_or, Result, Ok, Err, MatchResult, IsOk, refl, ap, sym, subst, ◌∙◌, append_assoc, arith, ext_get_or}
use Rattle.std.proofs.lemmas.Bool.{cases_lt}
use Rattle.std.proofs.lemmas.List.{drop-drop, get_or-drop, get_or-take, length-drop, length-take-le, take-append-drop}
use Rattle.tagged_hash.specs.TaggedHash.{tagged_hash}
use Rattle.tagged_hash.specs.declared.tag.Tag.TheVariants.{Block}
use Rattle.tagged_hash.proofs.RowLemmas.{pieces_more}
use Rattle.cap_text.specs.Cap.{VerifyCapValue}
use Rattle.merkle.specs.Tree.{height, needed_numbers}
use Rattle.ueb.specs.Shape.{Contents}
use Rattle.share_layout.specs.Geometry.{Geometry, IsGeometry}
use Rattle.share_layout.specs.Layout.{layout_of, offsets_of}
use Rattle.share_layout.specs.declared.offsets.Offsets.{Offsets}
use Rattle.share_layout.specs.Offsets.{EndsWith, HasVersion, LocatesUeb}
use Rattle.share_layout.specs.Reading.{HasHeader, HasNumbers, IsWhole}
use Rattle.share_layout.specs.Share.{CarriesNumbers, HaveLengths, Sections, share_bytes}
use Rattle.share_layout.specs.declared.error.LayoutError.TheVariants.{BadShareHashes}
use Rattle.share_layout.proofs.LawLemmas.{tells_offsets}
use Rattle.share_layout.proofs.LayoutLemmas.{layout_is}
use Rattle.share_layout.proofs.ShareLemmas.{Parts, parts_of}
use Rattle.share_verify.specs.CapBlock.{IsUebFor, geometry_by}
use Rattle.share_verify.specs.Hashed.{BeginsWith}
use Rattle.share_verify.specs.Leaves.{AreBlockHashes}
use Rattle.share_verify.specs.Verify.{IsFirstFault, ReadsAs, no_share, not_read}
use Rattle.share_verify.specs.declared.fault.ShareFault.{ShareFault}
use Rattle.share_verify.specs.declared.fault.ShareFault.TheVariants.{Layout}

-- the hash of a block behind so many others
pub hash_behind : (size : ℕ) (text rest : List ℕ) (first : ℕ) → rest ≡ drop (first * size) text → (i : ℕ)
    → tagged_hash Block (take size (drop (i * size) rest)) ≡ tagged_hash Block (take size (drop ((first + i) * size) text))
hash_behind size text rest first is i =
    let after : first ≤ first + i = omega arith in
    let more : first + i - first ≡ i = omega arith in
    let offset : first * size + i * size ≡ (first + i) * size =
    ap (λ (n : ℕ). first * size + n * size) (sym more) ∙ pieces_more first (first + i) size after in
    ap (λ (b : List ℕ). tagged_hash Block (take size (drop (i * size) b))) is
    ∙ ap (λ (b : List ℕ). tagged_hash Block (take size b)) (drop-drop (i * size) (first * size) text)
    ∙ ap (λ (n : ℕ). tagged_hash Block (take size (drop n text))) offset

-- leaves of which the first are known
module _ (leaves hashes : List (List ℕ)) (size : ℕ) (text rest : List ℕ) (begins : BeginsWith size text hashes rest)
    (few : length hashes ≤ length leaves) where
  pub leaves_joined : take (length hashes) leaves ≡ hashes → AreBlockHashes (drop (length hashes) leaves) size rest → AreBlockHashes leaves size text
  leaves_joined same behind i below =
      let n : ℕ = length hashes in
      elim (cases_lt i n) [
        | inl inside ↦ sym (get_or-take n leaves i [] inside) ∙ ap (λ (l : List (List ℕ)). get_or l i []) same ∙ begins.first i inside
        | inr after ↦
            let at : n + (i - n) ≡ i = omega arith in
            ap (λ (j : ℕ). get_or leaves j []) (sym at) ∙ sym (get_or-drop n leaves (i - n) [])
            ∙ behind (i - n) (omega (arith, length-drop n leaves)) ∙ hash_behind size text rest n begins.behind (i - n)
            ∙ ap (λ (j : ℕ). tagged_hash Block (take size (drop (j * size) text))) at
      ]

  pub first_leaves : AreBlockHashes leaves size text → take (length hashes) leaves ≡ hashes
  first_leaves all =
      let n : ℕ = length hashes in
      let long : length (take n leaves) ≡ n = length-take-le n leaves few in
      ext_get_or [] (take n leaves) hashes long
      (λ i below. get_or-take n leaves i [] (omega (arith, long)) ∙ all i (omega (arith, long)) ∙ sym (begins.first i (omega (arith, long))))

  pub other_leaves : AreBlockHashes leaves size text → AreBlockHashes (drop (length hashes) leaves) size rest
  other_leaves all i below =
      get_or-drop (length hashes) leaves i [] ∙ all (length hashes + i) (omega (arith, length-drop (length hashes) leaves))
      ∙ sym (hash_behind size text rest (length hashes) begins.behind i)

-- no block is known by its hash
pub begins_whole : (size : ℕ) (text : List ℕ) → BeginsWith size text [] text
begins_whole size text =
    let none : 0 * size ≡ 0 = omega arith in
    record {
      whole = omega (arith, none);
      first = λ i below. absurd (omega arith);
      behind = sym (ap (λ (n : ℕ). drop n text) none);
    }

-- a list in four parts
pub in_four : (t : ℕ) (xs : List ℕ)
    → xs ≡ take t xs ++ take t (drop t xs) ++ take t (drop t (drop t xs)) ++ drop t (drop t (drop t xs))
in_four t xs =
    let a = take t xs in
    let ys = drop t xs in
    let b = take t ys in
    let zs = drop t ys in
    sym (
    append_assoc (a ++ b) (take t zs) (drop t zs) ∙ ap (λ (l : List ℕ). (a ++ b) ++ l) (take-append-drop t zs)
    ∙ append_assoc a b zs ∙ ap (λ (l : List ℕ). a ++ l) (take-append-drop t ys) ∙ take-append-drop t xs
    )

-- the bytes of sections, whatever numbers the share hashes carry
module _ (g : Geometry) (valid : IsGeometry g) (s : Sections) (lengths : HaveLengths g s) where
  parts : Parts g (share_bytes g s) s
  parts = parts_of g (share_bytes g s) s refl lengths

  pub leads_to_block : LocatesUeb (share_bytes g s) s.extension_block
  leads_to_block =
      let bytes = share_bytes g s in
      let told = tells_offsets g bytes valid parts.header in
      let ends : EndsWith (offsets_of g) bytes s.extension_block =
      record { text = parts.text; offset = omega (arith, parts.tail.long); short = lengths.extension_block } in
      record {
        version = subst (λ m. HasVersion m bytes) (sym (layout_is (layout_of g) bytes told.0.version)) told.0;
        offsets = told.1;
        ends = subst (λ (p : Offsets). EndsWith p bytes s.extension_block) (sym told.2) ends;
      }

  pub is_whole : IsWhole (HasHeader g (share_bytes g s)) (offsets_of g) (share_bytes g s)
  is_whole = record {
    version = (tells_offsets g (share_bytes g s) valid parts.header).0;
    right = parts.header;
    short = omega (arith, parts.tail.number, lengths.extension_block);
    end = omega (arith, parts.tail.number, parts.tail.long);
  }

  pub own_numbers : (num : ℕ) → HasNumbers g num (share_bytes g s)
      → (num < g.total) × CarriesNumbers (needed_numbers (height g.total) num) s.share_hashes
  own_numbers num numbers = (
    numbers.number,
    subst (λ (t : Sections). CarriesNumbers (needed_numbers (height g.total) num) t.share_hashes) (sym parts.sections) numbers.numbers,
  )

-- such a share of the cap's file
module _ (cap : VerifyCapValue) (u : Contents) (num : ℕ) (s : Sections) (valid : IsGeometry (geometry_by u))
    (lengths : HaveLengths (geometry_by u) s) (own : IsUebFor cap s.extension_block u) where
  pub reads_as : num < u.total_shares → CarriesNumbers (needed_numbers (height u.total_shares) num) s.share_hashes
      → ReadsAs cap num (share_bytes (geometry_by u) s) u s
  reads_as number numbers = record {
    located = leads_to_block (geometry_by u) valid s lengths;
    ueb = own;
    layout = record { text = refl; lengths = lengths; number = number; numbers = numbers };
  }

  pub other_numbers : ((num < u.total_shares) × CarriesNumbers (needed_numbers (height u.total_shares) num) s.share_hashes → ⊥)
      → IsFirstFault cap num (share_bytes (geometry_by u) s) (Layout BadShareHashes)
  other_numbers other =
      let g = geometry_by u in
      not_read (no_share s.extension_block u (leads_to_block g valid s lengths) own
      (is_whole g valid s lengths, λ numbers. other (own_numbers g valid s lengths num numbers)))

-- what a result says
pub match_of : {T : Type 0} (r : Result T ShareFault) (Sound : Type 0) (IsFault : ShareFault → Type 0)
    → (IsOk r → Sound) → ((fault : ShareFault) → r ≡ Err fault → IsFault fault) → MatchResult r (λ _. Sound) IsFault
match_of (Ok x) Sound IsFault ok err = ok refl
match_of (Err e) Sound IsFault ok err = err e refl

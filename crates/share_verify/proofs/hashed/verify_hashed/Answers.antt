use Rattle.std.proofs.Common.{◌<◌, ℕ, List, subst, sym, refl}
use Rattle.std.proofs.lemmas.Bool.{true≢false}
use Rattle.merkle.specs.Tree.{height, needed_numbers}
use Rattle.share_layout.specs.Geometry.{Geometry, IsGeometry}
use Rattle.share_layout.specs.Share.{CarriesNumbers, HaveLengths, share_bytes}
use Rattle.share_verify.specs.CapBlock.{geometry_by}
use Rattle.share_verify.specs.Hashed.{AreHashed, sections_with}
use Rattle.share_verify.specs.Verify.{IsFirstFault, IsSoundShare, not_sound}
use Rattle.share_verify.proofs.HashedLemmas.{match_of, other_numbers, reads_as}
use Rattle.share_verify.proofs.hashed.verify_hashed.Goals as goal

-- the share hashes carry the numbers of a share of a file with a geometry
abbrev Carries : ℕ → List ℕ → Geometry → Type 0
Carries num hashes g = (num < g.total) × CarriesNumbers (needed_numbers (height g.total) num) hashes

pub returns-then-not-carries_numbers : goal.returns-then-not-carries_numbers
returns-then-not-carries_numbers c = λ cap text block hashed long own.
    let u = c.args.ueb.now in
    let h = c.args.sections.now in
    let s = sections_with h text block in
    let same = c.geometry_of-geometry.ensures in
    let valid : IsGeometry (geometry_by u) = subst IsGeometry same c.size.ensures.valid in
    let lengths : HaveLengths (geometry_by u) s = record {
      blocks = long;
      unused = c.requires.lengths.unused;
      ciphertext_tree = c.requires.lengths.ciphertext_tree;
      block_tree = c.requires.lengths.block_tree;
      share_hashes = c.requires.lengths.share_hashes;
      extension_block = own.grammar.short;
    } in
    other_numbers cap u c.args.num s valid lengths own
    (λ carried. true≢false (sym (c.if-not-carries_numbers.ensures.1 (subst (Carries c.args.num h.share_hashes.now) (sym same) carried))))

pub returns : goal.returns
returns c = λ cap text block hashed long own.
    let u = c.args.ueb.now in
    let num = c.args.num in
    let h = c.args.sections.now in
    let s = sections_with h text block in
    let share = share_bytes (geometry_by u) s in
    let same = c.geometry_of-geometry.ensures in
    let valid : IsGeometry (geometry_by u) = subst IsGeometry same c.size.ensures.valid in
    let lengths : HaveLengths (geometry_by u) s = record {
      blocks = long;
      unused = c.requires.lengths.unused;
      ciphertext_tree = c.requires.lengths.ciphertext_tree;
      block_tree = c.requires.lengths.block_tree;
      share_hashes = c.requires.lengths.share_hashes;
      extension_block = own.grammar.short;
    } in
    let carried : Carries num h.share_hashes.now (geometry_by u) =
    subst (Carries num h.share_hashes.now) same (c.if-not-carries_numbers.ensures.0 refl) in
    let reads = reads_as cap u num s valid lengths own carried.0 carried.1 in
    let begins = subst (λ (g : Geometry). AreHashed g text c.args.blocks.now) (sym same) hashed in
    match_of c.check_sections.result (IsSoundShare cap num share) (IsFirstFault cap num share)
    (λ ok. (u, s, record { reads = reads; sections = (c.check_sections.ensures.sound text block begins).0 ok }))
    (λ fault is. not_sound u s reads ((c.check_sections.ensures.refused text block fault begins).0 is))

use Rattle.std.proofs.Common.{refl, subst, sym, rules, arith}
use Rattle.std.proofs.lemmas.Bool.{both_ways}
use Rattle.merkle.specs.Tree.{height, needed_numbers}
use Rattle.share_layout.specs.declared.layout.Layout.{Layout}
use Rattle.share_layout.specs.declared.offsets.Offsets.{Offsets}
use Rattle.share_layout.specs.Share.{CarriesNumbers, Sections}
use Rattle.share_layout.specs.Layout.{layout_of, offsets_of, width}
use Rattle.share_layout.specs.Offsets.{AreRising, HasVersion}
use Rattle.share_layout.specs.Reading.{sections_in, HasHeader, HasNumbers, IsWhole}
use Rattle.share_layout.specs.Cutting.{IsCut, IsCutFault, IsVersionFault}
use Rattle.share_layout.proofs.ListLemmas.{bytes_between}
use Rattle.share_layout.proofs.ShareLemmas.{cut_is_share}
use Rattle.share_layout.proofs.Verdicts.{cut_fault, version_fault}
use Rattle.share_layout.proofs.reader.read_share.Goals as goal

pub returns-in-Err : goal.returns-in-Err
returns-in-Err c =
    let bytes = c.args.bytes.now in
    let g = c.args.geometry.now in
    version_fault (HasHeader g bytes) (HasNumbers g c.args.number bytes) (offsets_of g) bytes c.in-Err.error
    (subst (λ (l : Layout). IsVersionFault l bytes c.in-Err.error) c.layout.ensures ((c.check_version.ensures.refused c.in-Err.error).0 c.in-Err.is))

pub returns-in-Err-cut : goal.returns-in-Err-cut
returns-in-Err-cut c =
    let bytes = c.args.bytes.now in
    let g = c.args.geometry.now in
    let version = subst (λ (l : Layout). HasVersion l bytes) c.layout.ensures (c.in_default.ensures.ok.0 refl) in
    cut_fault (HasHeader g bytes) (HasNumbers g c.args.number bytes) (offsets_of g) bytes version (c.has_header.ensures.0 (search rules))
    c.in-Err-cut.error (subst (λ (p : Offsets). IsCutFault p bytes c.in-Err-cut.error) c.of.ensures.offsets c.in-Err-cut.ensures)

pub returns-then-carries_numbers : goal.returns-then-carries_numbers
returns-then-carries_numbers c =
    let bytes = c.args.bytes.now in
    let g = c.args.geometry.now in
    let s = sections_in c.in-Ok.view in
    let carried = c.carries_numbers.ensures.0 (search rules) in
    cut_is_share g c.args.number bytes s (bytes_between bytes _ (width (layout_of g)) (λ i. omega (arith, c.type_inv.bytes i)))
    (c.has_header.ensures.0 (search rules)) (subst AreRising c.of.ensures.offsets c.of.ensures.rising)
    (subst (λ (p : Offsets). IsCut p bytes s) c.of.ensures.offsets c.in-Ok.ensures) carried.0 carried.1

pub returns-else-carries_numbers : goal.returns-else-carries_numbers
returns-else-carries_numbers c =
    let bytes = c.args.bytes.now in
    let g = c.args.geometry.now in
    let s = sections_in c.in-Ok.view in
    let cut = subst (λ (p : Offsets). IsCut p bytes s) c.of.ensures.offsets c.in-Ok.ensures in
    let version = subst (λ (l : Layout). HasVersion l bytes) c.layout.ensures (c.in_default.ensures.ok.0 refl) in
    let whole : IsWhole (HasHeader g bytes) (offsets_of g) bytes =
    record { version = version; right = c.has_header.ensures.0 (search rules); short = cut.short; end = cut.end } in (
      whole,
      λ h. both_ways _ c.if-carries_numbers.false (c.carries_numbers.ensures.1
          (h.number, subst (λ (t : Sections). CarriesNumbers (needed_numbers (height g.total) c.args.number) t.share_hashes) (sym cut.sections) h.numbers)),
    )

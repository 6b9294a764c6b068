use Rattle.std.proofs.Common.{refl, subst, rules}
use Rattle.std.proofs.lemmas.Bool.{both_ways}
use Rattle.share_layout.specs.declared.error.LayoutError.TheVariants.{BadOffset}
use Rattle.share_layout.specs.declared.layout.Layout.{Layout}
use Rattle.share_layout.specs.Offsets.{HasVersion, HasOwnOffsets}
use Rattle.share_layout.specs.Reading.{IsHeaderFault}
use Rattle.share_layout.specs.Cutting.{IsVersionFault}
use Rattle.share_layout.proofs.Verdicts.{no_header_fault, one_header_fault, only_fault, told_fault}
use Rattle.share_layout.proofs.offsets.Offsets.read.Goals as goal

pub returns-in-Err-clause-refused : goal.returns-in-Err-clause-refused
returns-in-Err-clause-refused c =
    let bytes = c.args.bytes.now in
    let fault = subst (λ (l : Layout). IsVersionFault l bytes c.in-Err.error) c.in_header-layout.ensures
    ((c.check_version.ensures.refused c.in-Err.error).0 c.in-Err.is) in
    only_fault (IsHeaderFault bytes) c.in-Err.error (told_fault bytes c.in-Err.error fault) (one_header_fault bytes) _ refl

pub returns-then-are_own-clause-refused : goal.returns-then-are_own-clause-refused
returns-then-are_own-clause-refused c error =
    let bytes = c.args.bytes.now in
    let version = subst (λ (l : Layout). HasVersion l bytes) c.in_header-layout.ensures (c.in_default.ensures.ok.0 refl) in
    (λ e. absurd (cc e), λ f. absurd (no_header_fault bytes version (c.are_own.ensures.0 (search rules)) error f))

pub returns-else-are_own-clause-refused : goal.returns-else-are_own-clause-refused
returns-else-are_own-clause-refused c =
    let bytes = c.args.bytes.now in
    let version = subst (λ (l : Layout). HasVersion l bytes) c.in_header-layout.ensures (c.in_default.ensures.ok.0 refl) in
    let other : HasOwnOffsets bytes → ⊥ = λ own. both_ways _ c.if-are_own.false (c.are_own.ensures.1 own) in
    only_fault (IsHeaderFault bytes) BadOffset (version, other) (one_header_fault bytes) _ refl

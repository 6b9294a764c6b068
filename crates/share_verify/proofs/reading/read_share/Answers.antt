use Rattle.std.proofs.Common.{subst}
use Rattle.share_layout.specs.Reading.{IsReadFault, sections_in}
use Rattle.share_layout.specs.Share.{IsShare}
use Rattle.share_verify.specs.CapBlock.{IsUebFor}
use Rattle.share_verify.specs.Verify.{IsLayoutFault, IsReadingFault, not_located, no_ueb, no_share, ReadsAs}
use Rattle.share_layout.specs.Geometry.{Geometry}
use Rattle.share_verify.proofs.Faults.{no_reading_fault, one_contents, refused_for, same_block, same_reading}
use Rattle.share_verify.proofs.reading.read_share.Goals as goal

fault-extension_block : (c : goal.After-from_residual) → IsReadingFault c.args.cap.now c.args.num c.args.share.now c.in_err-extension_block.field-0.0
fault-extension_block c =
    let fault = c.in_err-extension_block.field-0.0 in
    not_located ((c.locate.ensures.refused fault).0 c.in_err-extension_block.was)

pub returns-in_err-extension_block-clause-complete : goal.returns-in_err-extension_block-clause-complete
returns-in_err-extension_block-clause-complete c =
    λ u s reads. absurd (no_reading_fault c.args.cap.now c.args.num c.args.share.now u s reads _ (fault-extension_block c))

pub returns-in_err-extension_block-clause-refused : goal.returns-in_err-extension_block-clause-refused
returns-in_err-extension_block-clause-refused c =
    refused_for c.args.cap.now c.args.num c.args.share.now c.from_residual.result _ c.from_residual.ensures.1 (fault-extension_block c)

fault-ueb : (c : goal.After-from_residual-in_err-ueb) → IsReadingFault c.args.cap.now c.args.num c.args.share.now c.in_err-ueb.field-0.0
fault-ueb c =
    let fault = c.in_err-ueb.field-0.0 in
    no_ueb c.in_ok-extension_block.extension_block.now c.in_ok-extension_block.ensures.located ((c.read_ueb.ensures.refused fault).0 c.in_err-ueb.was)

pub returns-in_err-ueb-clause-complete : goal.returns-in_err-ueb-clause-complete
returns-in_err-ueb-clause-complete c =
    λ u s reads. absurd (no_reading_fault c.args.cap.now c.args.num c.args.share.now u s reads _ (fault-ueb c))

pub returns-in_err-ueb-clause-refused : goal.returns-in_err-ueb-clause-refused
returns-in_err-ueb-clause-refused c =
    refused_for c.args.cap.now c.args.num c.args.share.now c.from_residual-in_err-ueb.result _ c.from_residual-in_err-ueb.ensures.1 (fault-ueb c)

fault-view : (c : goal.After-from_residual-in_err-view) → IsReadingFault c.args.cap.now c.args.num c.args.share.now c.in_err-view.field-0.0
fault-view c =
    let u = c.in_ok-ueb.ueb in
    let fault = c.in_err-view.field-0.0 in
    let share = c.args.share.now in
    let held = (c.read_view.ensures.refused fault).0 c.in_err-view.was in
    no_share c.in_ok-extension_block.extension_block.now u c.in_ok-extension_block.ensures.located c.in_ok-ueb.ensures.accepted
    (subst (λ (g : Geometry). IsLayoutFault (IsReadFault g c.args.num share) fault) c.geometry_of-geometry.ensures held)

pub returns-in_err-view-clause-complete : goal.returns-in_err-view-clause-complete
returns-in_err-view-clause-complete c =
    λ u s reads. absurd (no_reading_fault c.args.cap.now c.args.num c.args.share.now u s reads _ (fault-view c))

pub returns-in_err-view-clause-refused : goal.returns-in_err-view-clause-refused
returns-in_err-view-clause-refused c =
    refused_for c.args.cap.now c.args.num c.args.share.now c.from_residual-in_err-view.result _ c.from_residual-in_err-view.ensures.1 (fault-view c)

-- the share reads so
read_so : (c : goal.In_ok-view) → ReadsAs c.args.cap.now c.args.num c.args.share.now c.in_ok-ueb.ueb (sections_in c.in_ok-view.view)
read_so c =
    let share = c.args.share.now in
    let s = sections_in c.in_ok-view.view in
    let there = c.in_ok-view.ensures.located in
    let same = same_block share c.in_ok-extension_block.extension_block.now s.extension_block c.in_ok-extension_block.ensures.located there in
    record {
      located = there;
      ueb = subst (λ b. IsUebFor c.args.cap.now b c.in_ok-ueb.ueb) same c.in_ok-ueb.ensures.accepted;
      layout = subst (λ (g : Geometry). IsShare g c.args.num share s) c.geometry_of-geometry.ensures c.in_ok-view.ensures.accepted;
    }

pub returns-clause-accepted : goal.returns-clause-accepted
returns-clause-accepted c = read_so c

pub returns-clause-complete : goal.returns-clause-complete
returns-clause-complete c = same_reading c.args.cap.now c.args.num c.args.share.now c.in_ok-ueb.ueb (sections_in c.in_ok-view.view) (read_so c)

pub returns-clause-refused : goal.returns-clause-refused
returns-clause-refused c =
    λ fault. (
      λ is. cc,
      λ held. absurd (no_reading_fault c.args.cap.now c.args.num c.args.share.now c.in_ok-ueb.ueb (sections_in c.in_ok-view.view) (read_so c) fault held),
    )

pub returns-clause-one_ueb : goal.returns-clause-one_ueb
returns-clause-one_ueb c =
    one_contents c.args.cap.now (sections_in c.in_ok-view.view).extension_block c.in_ok-ueb.ueb (read_so c).ueb

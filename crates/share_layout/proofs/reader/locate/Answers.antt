use Rattle.std.proofs.Common.{subst, arith}
use Rattle.share_layout.specs.declared.offsets.Offsets.{Offsets}
use Rattle.share_layout.specs.Layout.{width}
use Rattle.share_layout.specs.Offsets.{HasVersion, layout_in}
use Rattle.share_layout.specs.Cutting.{IsCut}
use Rattle.share_layout.specs.Reading.{sections_in}
use Rattle.share_layout.proofs.ListLemmas.{bytes_between}
use Rattle.share_layout.proofs.ShareLemmas.{located}
use Rattle.share_layout.proofs.Verdicts.{header_fault}
use Rattle.share_layout.proofs.reader.locate.Goals as goal

pub returns-in-Err : goal.returns-in-Err
returns-in-Err c = header_fault c.args.bytes.now c.in-Err.error ((c.read.ensures.refused c.in-Err.error).0 c.in-Err.is)

pub returns-in-Ok-cut : goal.returns-in-Ok-cut
returns-in-Ok-cut c =
    let bytes = c.args.bytes.now in
    located bytes (sections_in c.in-Ok-cut.view) (bytes_between bytes _ (width (layout_in bytes)) (λ i. omega (arith, c.type_inv.bytes i)))
    (subst (λ (p : Offsets). HasVersion p.layout bytes) c.in-Ok.ensures.offsets c.in-Ok.ensures.version) c.in-Ok.ensures.right
    (subst (λ (p : Offsets). IsCut p bytes (sections_in c.in-Ok-cut.view)) c.in-Ok.ensures.offsets c.in-Ok-cut.ensures)

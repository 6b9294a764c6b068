use Rattle.std.proofs.Common.{refl, rules, sym}
use Rattle.std.proofs.lemmas.Bool.{both_ways}
use Rattle.share_verify.specs.CapBlock.{geometry_by}
use Rattle.share_reading.specs.Opening.{text_of}
use Rattle.share_reading.specs.Refusal.{IsBlockRefusal}
use Rattle.share_reading.specs.declared.error.OpeningError.TheVariants as errors
use Rattle.share_reading.proofs.RefusalLemmas.{no_refusal, only_other_header, only_refusal, only_ueb_fault, same_header}
use Rattle.share_reading.proofs.block.PendingBlock.take.Goals as goal

pub returns-in-Err-clause-refused : goal.returns-in-Err-clause-refused
returns-in-Err-clause-refused c =
    let cap = c.args.cap.now in
    let header = text_of c.args.self.now.header in
    let bytes = c.args.bytes.now in
    let fault = c.in-Err.fault in
    only_refusal (IsBlockRefusal cap header bytes) _ (errors.Ueb fault) refl ((c.read_ueb.ensures.refused fault).0 c.in-Err.is)
    (only_ueb_fault cap header bytes c.read_ueb.result c.read_ueb.ensures.complete c.read_ueb.ensures.refused fault c.in-Err.is)

pub returns-then-not-has_header-clause-refused : goal.returns-then-not-has_header-clause-refused
returns-then-not-has_header-clause-refused c =
    let cap = c.args.cap.now in
    let header = text_of c.args.self.now.header in
    let bytes = c.args.bytes.now in
    let u = c.in-Ok.ueb in
    only_refusal (IsBlockRefusal cap header bytes) _ errors.OtherHeader refl (
      u,
      c.in-Ok.ensures.accepted,
      λ own. both_ways _ c.if-not-has_header.true
          (c.has_header.ensures.1 (same_header (geometry_by u) _ header _ (sym c.geometry_of-geometry.ensures) (sym c.text.ensures) own)),
    )
    (only_other_header cap header bytes c.read_ueb.result c.read_ueb.ensures.complete c.read_ueb.ensures.refused u c.in-Ok.is)

pub returns-clause-refused : goal.returns-clause-refused
returns-clause-refused c error =
    let cap = c.args.cap.now in
    let header = text_of c.args.self.now.header in
    let bytes = c.args.bytes.now in
    let u = c.in-Ok.ueb in (
      λ is. absurd (cc is),
      λ held. absurd (no_refusal cap header bytes c.read_ueb.result c.read_ueb.ensures.complete c.read_ueb.ensures.refused u c.in-Ok.is
          (same_header _ (geometry_by u) _ header c.geometry_of-geometry.ensures c.text.ensures (c.has_header.ensures.0 (search rules))) error held),
    )

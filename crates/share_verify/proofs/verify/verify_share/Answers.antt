use Rattle.std.proofs.Common.{◌≡◌, Err, ap, sym, ◌∙◌}
use Rattle.std.proofs.lemmas.Bool.{true≢false}
use Rattle.share_layout.specs.Reading.{sections_in}
use Rattle.share_verify.specs.declared.fault.ShareFault.{ShareFault}
use Rattle.share_verify.specs.Verify.{not_read, not_sound}
use Rattle.share_verify.proofs.FirstFault.{not_refused, same_err, section_fault, sections_sound, unread}
use Rattle.share_verify.proofs.verify.verify_share.Goals as goal

pub returns-in-Ok-clause-sound : goal.returns-in-Ok-clause-sound
returns-in-Ok-clause-sound c = (
  λ is. (c.in-Ok.read.ueb, sections_in c.in-Ok.read.view, record { reads = c.in-Ok.ensures.accepted; sections = c.check_view.ensures.sound.0 is }),
  λ held.
      c.check_view.ensures.sound.1
      (sections_sound c.args.cap.now c.args.num c.args.share.now _ _ c.in-Ok.ensures.complete held.0 held.1 held.2),
)

pub returns-in-Ok-clause-refused : goal.returns-in-Ok-clause-refused
returns-in-Ok-clause-refused c = λ fault. (
  λ is. not_sound _ _ c.in-Ok.ensures.accepted ((c.check_view.ensures.refused fault).0 is),
  λ held.
      (c.check_view.ensures.refused fault).1
      (section_fault c.args.cap.now c.args.num c.args.share.now _ _ c.in-Ok.ensures.complete fault held
      (not_refused c.read_share.result _ c.read_share.ensures.refused _ c.in-Ok.is fault)),
)

pub returns-in-Err-clause-sound : goal.returns-in-Err-clause-sound
returns-in-Err-clause-sound c = (
  λ no. absurd (true≢false (sym no)),
  λ held. absurd (c.in-Err.ensures.complete held.0 held.1 held.2.reads),
)

pub returns-in-Err-clause-refused : goal.returns-in-Err-clause-refused
returns-in-Err-clause-refused c =
    λ fault. (
      λ is.
          let same : c.in-Err.fault ≡ fault = cc in
          not_read ((c.read_share.ensures.refused fault).0 (c.in-Err.is ∙ ap (λ (f : ShareFault). Err f) same)),
      λ held.
          ap (λ (f : ShareFault). Err f)
          (same_err c.read_share.result c.in-Err.fault fault c.in-Err.is
          ((c.read_share.ensures.refused fault).1 (unread c.args.cap.now c.args.num c.args.share.now fault held c.in-Err.ensures.complete))),
    )

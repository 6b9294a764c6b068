use Rattle.std.proofs.Common.{◌≡◌, ◌∙◌, Some, None, ap, sym}
use Rattle.std.specs.Prelude.{option_map, slice_get}
use Rattle.request_record.specs.Record.{was_sent_again_in}
use Rattle.request_record.specs.Written.{kept}
use Rattle.download_core.proofs.pressing.was_sent_again.Goals as goal

pub returns-in-Some : goal.returns-in-Some
returns-in-Some c =
    let is : Some c.in-Some.request.now ≡ kept (slice_get c.args.requests.now.entries c.args.position) = ap (option_map (λ r. r.now)) (sym c.in-Some.is) ∙ c.request_at.ensures in
    ap was_sent_again_in is

pub returns-in-None : goal.returns-in-None
returns-in-None c =
    let is : None ≡ kept (slice_get c.args.requests.now.entries c.args.position) = ap (option_map (λ r. r.now)) (sym c.in-None.is) ∙ c.request_at.ensures in
    ap was_sent_again_in is

use Rattle.std.proofs.Common.{◌≡◌, ◌&&◌, ◌∙◌, Bool, true, ap, arith, drop, sym}
use Rattle.std.specs.Prelude.{nat_lt}
use Rattle.std.specs.List.{list_any}
use Rattle.std.proofs.lemmas.Bool.{lt-ltb}
use Rattle.upload_core.specs.State.{UploadState}
use Rattle.upload_core.specs.Rounds.{has_failed_since}
use Rattle.upload_core.specs.Transfers.{has_failed}
use Rattle.upload_core.proofs.Written.{any_kept}
use Rattle.upload_core.proofs.Fields.{seen}
use Rattle.upload_core.proofs.state.Course.is_to_place_again.Goals as goal

pub returns-then-reached-from : goal.returns-then-reached-from
returns-then-reached-from c =
    let u : UploadState = seen c.self.inside in
    let failed : c.has_failed_in.result ≡ has_failed_since u.goal u.round u.requests.entries = c.has_failed_in.ensures ∙ ap (list_any (has_failed u.goal)) c.kept_since.ensures ∙ any_kept u.goal (drop u.round u.requests.entries) in
    let less : nat_lt c.args.reached u.happy ≡ true = lt-ltb c.args.reached u.happy (omega (arith, c.if-reached-from.true, c.from.ensures)) in
    failed
    ∙ ap (λ (b : Bool). b && has_failed_since u.goal u.round u.requests.entries) (sym less)
    ∙ ap (λ (s : UploadState). nat_lt c.args.reached s.happy && has_failed_since s.goal s.round s.requests.entries) c.self.view_is

use Rattle.std.proofs.Common.{◌≡◌, [], None, Some, take, sym, ap, subst, ◌∙◌}
use Rattle.std.specs.Prelude.{slice_get}
use Rattle.lemmas.proofs.Results.{on_ok}
use Rattle.request_record.specs.declared.requests.Request.{Request}
use Rattle.request_record.specs.Asking.{after_message}
use Rattle.request_record.specs.Record.{RequestsState, asked_all}
use Rattle.upload_core.specs.State.{UploadState, with_record}
use Rattle.upload_core.specs.Transfers.{asked_after}
use Rattle.upload_core.specs.Moves.{Advances, GoesOn, Stops, asks_of_server, follow_ups_of, followed_at, heard_at}
use Rattle.upload_core.specs.declared.status.UploadStatus.TheVariants.{Running}
use Rattle.upload_core.specs.Course.{CanGoOn, IsCourse}
use Rattle.upload_core.specs.Trails.{AreFollowed}
use Rattle.upload_core.proofs.Answering.{Heard, advances_none, advances_on, answer_begins, answer_recorded, heard_counts, time_course}
use Rattle.upload_core.proofs.Followed.{followed_message}
use Rattle.upload_core.proofs.Goes.{goes_on_from, message_course, stops_then}
use Rattle.upload_core.proofs.Records.{on_err, on_err_all}
use Rattle.upload_core.proofs.Fields.{seen}
use Rattle.upload_core.proofs.state.Course.hear.Goals as goal

pub follow-requires : goal.follow-requires
follow-requires c = λ k.
    let u : UploadState = seen c.self.inside in
    let heard : heard_at c.args.from c.args.message u.requests ≡ Some c.in-Some.position = ap (λ (s : UploadState). heard_at c.args.from c.args.message s.requests) c.self.view_is ∙ sym c.heard_at.ensures.value ∙ c.in-Some.is in
    let h : Heard c.args.from c.args.message u.requests c.in-Some.position = heard_counts c.args.from c.args.message u.requests c.in-Some.position heard in
    let r : Request = c.request-request.result.now in
    subst (λ (q : RequestsState). IsCourse (with_record u (asked_all (asks_of_server c.args.from (take k (asked_after u.goal q.entries c.args.from r.asked c.effect_of-effect.result))) q))) (sym c.take_answer.ensures.«record»)
    (answer_begins u c.args.from c.args.message c.args.now c.in-Some.position h r c.effect_of-effect.result c.request-request.ensures c.effect_of-effect.ensures c.self.invariant k)

pub go_on-requires : goal.go_on-requires
go_on-requires c =
    let u : UploadState = seen c.self.inside in
    let heard : heard_at c.args.from c.args.message u.requests ≡ Some c.in-Some.position = ap (λ (s : UploadState). heard_at c.args.from c.args.message s.requests) c.self.view_is ∙ sym c.heard_at.ensures.value ∙ c.in-Some.is in
    let h : Heard c.args.from c.args.message u.requests c.in-Some.position = heard_counts c.args.from c.args.message u.requests c.in-Some.position heard in
    let R : RequestsState = after_message c.args.from c.args.message c.args.now u.requests in
    let followed : c.follow.new.self ≡ with_record u (followed_at u.goal c.in-Some.position R) = answer_recorded u c.args.from c.args.message c.args.now c.in-Some.position heard c.request-request.result.now c.effect_of-effect.result c.take_answer.new.self c.follow.new.self c.request-request.ensures c.effect_of-effect.ensures c.take_answer.ensures.«record» c.in_ok-follow.ensures.ok in
    let running : u.status ≡ Running = c.is_running.ensures.0 c.if-not-is_running.false in
    let going : CanGoOn u = subst CanGoOn (sym c.self.view_is) (c.requires (ap (λ (s : UploadState). s.status) (sym c.self.view_is) ∙ running)) in
    subst (λ (s : UploadState). AreFollowed s.goal s.requests.entries) (sym followed) (followed_message u.goal c.args.from c.args.message c.args.now u.requests c.in-Some.position h.counts c.self.invariant.inside c.self.invariant.some c.self.invariant.long going.followed going.failed)

pub invariant_of-self : goal.invariant_of-self
invariant_of-self c =
    let u : UploadState = seen c.self.inside in
    time_course u c.args.now c.pass.new.self c.pass.ensures c.self.invariant

pub invariant_of-self-2 : goal.invariant_of-self-2
invariant_of-self-2 c =
    let u : UploadState = seen c.self.inside in
    message_course u c.args.from c.args.message c.args.now c.take_answer.new.self c.take_answer.ensures.«record» c.self.invariant

pub returns-in_err-follow-clause-err : goal.returns-in_err-follow-clause-err
returns-in_err-follow-clause-err c =
    let u : UploadState = seen c.self.inside in
    let R : RequestsState = after_message c.args.from c.args.message c.args.now u.requests in
    let mid : UploadState = with_record u c.take_answer.new.self in
    on_err_all c.from_residual.result _ (subst (λ (s : UploadState). Stops (after_message c.args.from c.args.message c.args.now s.requests) s c.follow.new.self) c.self.view_is
    (stops_then u R [] mid c.follow.new.self (ap (with_record u) c.take_answer.ensures.«record») c.in_err-follow.ensures.err))

pub returns-in_default-clause-ok : goal.returns-in_default-clause-ok
returns-in_default-clause-ok c =
    let u : UploadState = seen c.self.inside in
    let none : heard_at c.args.from c.args.message u.requests ≡ None = ap (λ (s : UploadState). heard_at c.args.from c.args.message s.requests) c.self.view_is ∙ sym c.heard_at.ensures.value ∙ c.in_default.is in
    subst (λ (s : UploadState). Advances c.args.from c.args.message c.args.now s (with_record u c.pass.new.self)) c.self.view_is (advances_none u c.args.from c.args.message c.args.now c.pass.new.self none c.pass.ensures)

pub returns-clause-ok : goal.returns-clause-ok
returns-clause-ok c =
    let u : UploadState = seen c.self.inside in
    let heard : heard_at c.args.from c.args.message u.requests ≡ Some c.in-Some.position = ap (λ (s : UploadState). heard_at c.args.from c.args.message s.requests) c.self.view_is ∙ sym c.heard_at.ensures.value ∙ c.in-Some.is in
    let R : RequestsState = after_message c.args.from c.args.message c.args.now u.requests in
    let S : RequestsState = followed_at u.goal c.in-Some.position R in
    let followed : c.follow.new.self ≡ with_record u S = answer_recorded u c.args.from c.args.message c.args.now c.in-Some.position heard c.request-request.result.now c.effect_of-effect.result c.take_answer.new.self c.follow.new.self c.request-request.ensures c.effect_of-effect.ensures c.take_answer.ensures.«record» c.in_ok-follow.ensures.ok in
    let running : u.status ≡ Running = c.is_running.ensures.0 c.if-not-is_running.false in
    on_ok c.go_on.result _ _ (λ g. subst (λ (s : UploadState). Advances c.args.from c.args.message c.args.now s c.go_on.new.self) c.self.view_is
    (advances_on u c.args.from c.args.message c.args.now c.in-Some.position heard c.go_on.new.self running (goes_on_from u S c.go_on.new.self (subst (λ (s : UploadState). GoesOn s s.requests c.go_on.new.self) followed g)))) c.go_on.ensures.ok

pub returns-clause-err : goal.returns-clause-err
returns-clause-err c =
    let u : UploadState = seen c.self.inside in
    let heard : heard_at c.args.from c.args.message u.requests ≡ Some c.in-Some.position = ap (λ (s : UploadState). heard_at c.args.from c.args.message s.requests) c.self.view_is ∙ sym c.heard_at.ensures.value ∙ c.in-Some.is in
    let R : RequestsState = after_message c.args.from c.args.message c.args.now u.requests in
    let followed : c.follow.new.self ≡ with_record u (followed_at u.goal c.in-Some.position R) = answer_recorded u c.args.from c.args.message c.args.now c.in-Some.position heard c.request-request.result.now c.effect_of-effect.result c.take_answer.new.self c.follow.new.self c.request-request.ensures c.effect_of-effect.ensures c.take_answer.ensures.«record» c.in_ok-follow.ensures.ok in
    on_err c.go_on.result _ _ (λ e. subst (λ (s : UploadState). Stops (after_message c.args.from c.args.message c.args.now s.requests) s c.go_on.new.self) c.self.view_is (stops_then u R (follow_ups_of u.goal R.entries (slice_get R.entries c.in-Some.position)) c.follow.new.self c.go_on.new.self followed e)) c.go_on.ensures.err

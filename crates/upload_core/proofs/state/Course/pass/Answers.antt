use Rattle.std.proofs.Common.{◌≡◌, ◌≢◌, ◌∙◌, All, inl, inr, List, [], ℕ, ap, arith, length, subst, sym, true≢false}
use Rattle.std.proofs.lemmas.Bool.{eq-eqb}
use Rattle.request_record.specs.Asking.{after_tick, lost_by_tick}
use Rattle.request_record.specs.Record.{RequestsState}
use Rattle.upload_core.specs.State.{UploadState, with_record}
use Rattle.upload_core.specs.Moves.{GoesOn, followed_all}
use Rattle.lemmas.proofs.Results.{on_ok}
use Rattle.upload_core.proofs.Records.{on_err, on_err_all}
use Rattle.upload_core.specs.Course.{CanGoOn}
use Rattle.upload_core.specs.Trails.{AreFollowed, IsLostAt, IsPassed}
use Rattle.upload_core.proofs.Ends.{followed_tick, losses_stop, lost_are, lost_passed}
use Rattle.upload_core.proofs.Goes.{goes_on_from, stops_then, tick_course, ticks_with}
use Rattle.upload_core.proofs.Fields.{seen}
use Rattle.upload_core.proofs.state.Course.pass.Goals as goal

pub invariant_of-self-then-is_empty : goal.invariant_of-self-then-is_empty
invariant_of-self-then-is_empty c =
    let u : UploadState = seen c.self.inside in
    tick_course u c.args.now c.tick.new.self c.in_ok-lost.ensures.ok c.self.invariant

pub invariant_of-self-2 : goal.invariant_of-self-2
invariant_of-self-2 c =
    let u : UploadState = seen c.self.inside in
    tick_course u c.args.now c.tick.new.self c.in_ok-lost.ensures.ok c.self.invariant

pub returns-clause-ok : goal.returns-clause-ok
returns-clause-ok c =
    let u : UploadState = seen c.self.inside in
    let v : UploadState = c.args.self.now in
    let R : RequestsState = after_tick c.args.now v.requests in
    let new : c.tick.new.self ≡ R = c.in_ok-lost.ensures.ok ∙ ap (λ (s : UploadState). after_tick c.args.now s.requests) c.self.view_is in
    let w : with_record u c.tick.new.self ≡ with_record v R = ap (with_record u) new ∙ ap (λ (s : UploadState). with_record s R) c.self.view_is in
    let lost : List ℕ = lost_by_tick c.args.now v.requests in
    let are : c.in_ok-lost.lost.items ≡ lost = c.in_ok-lost.ensures.lost ∙ ap (λ (s : UploadState). lost_by_tick c.args.now s.requests) c.self.view_is in
    let some : lost ≢ [] = λ (e : lost ≡ []).
    let zero : c.in_ok-lost.lost.len ≡ 0 = omega (arith, ap length are, ap length e, c.in_ok-lost.lost.ok.0) in
    true≢false (sym (c.is_empty.ensures ∙ eq-eqb c.in_ok-lost.lost.len 0 zero) ∙ c.if-is_empty.false) in
    let S : RequestsState = followed_all v.goal lost R in
    let followed : c.follow_lost.new.self ≡ with_record v S =
    c.in_ok-follow_lost.ensures.ok
    ∙ ap (λ (s : UploadState). with_record s (followed_all s.goal c.deref.result.now s.requests)) w
    ∙ ap (λ (xs : List ℕ). with_record v (followed_all v.goal xs R)) (c.deref.ensures.value ∙ are) in
    on_ok c.go_on.result _ _ (λ g. record {
      running = λ r. ticks_with v R lost c.go_on.new.self some (goes_on_from v S c.go_on.new.self (subst (λ (s : UploadState). GoesOn s s.requests c.go_on.new.self) followed g));
      ended = λ ne. absurd (ne c.requires.runs);
    }) c.go_on.ensures.ok

pub follow_lost-requires-clause-passed : goal.follow_lost-requires-clause-passed
follow_lost-requires-clause-passed c =
    let u : UploadState = seen c.self.inside in
    subst (λ (xs : List ℕ). All (IsPassed u.goal c.tick.new.self.entries) xs) (sym (c.deref.ensures.value ∙ c.in_ok-lost.ensures.lost))
    (subst (λ (r : RequestsState). All (IsPassed u.goal r.entries) (lost_by_tick c.args.now u.requests)) (sym c.in_ok-lost.ensures.ok) (lost_passed u.goal c.args.now u.requests c.self.invariant.trails))

pub follow_lost-requires-clause-lost : goal.follow_lost-requires-clause-lost
follow_lost-requires-clause-lost c =
    let u : UploadState = seen c.self.inside in
    subst (λ (xs : List ℕ). All (IsLostAt c.tick.new.self.entries) xs) (sym (c.deref.ensures.value ∙ c.in_ok-lost.ensures.lost))
    (subst (λ (r : RequestsState). All (IsLostAt r.entries) (lost_by_tick c.args.now u.requests)) (sym c.in_ok-lost.ensures.ok) (lost_are c.args.now u.requests))

pub go_on-requires : goal.go_on-requires
go_on-requires c =
    let u : UploadState = seen c.self.inside in
    let R : RequestsState = after_tick c.args.now u.requests in
    let going : CanGoOn u = subst CanGoOn (sym c.self.view_is) c.requires.can in
    let w : with_record u c.tick.new.self ≡ with_record u R = ap (with_record u) c.in_ok-lost.ensures.ok in
    let S : RequestsState = followed_all u.goal c.deref.result.now R in
    let followed : c.follow_lost.new.self ≡ with_record u S = c.in_ok-follow_lost.ensures.ok ∙ ap (λ (s : UploadState). with_record s (followed_all s.goal c.deref.result.now s.requests)) w in
    let lost : All (IsLostAt R.entries) c.deref.result.now = subst (All (IsLostAt R.entries)) (sym (c.deref.ensures.value ∙ c.in_ok-lost.ensures.lost)) (lost_are c.args.now u.requests) in
    subst (λ (s : UploadState). AreFollowed s.goal s.requests.entries) (sym followed) (followed_tick u.goal c.args.now u.requests c.self.invariant.inside c.deref.result.now lost going.followed)

pub returns-in_err-lost-clause-err : goal.returns-in_err-lost-clause-err
returns-in_err-lost-clause-err c =
    let u : UploadState = seen c.self.inside in
    on_err_all c.from_residual.result _ (inl (ap (with_record u) c.in_err-lost.ensures.err ∙ c.self.view_is))

pub returns-in_err-follow_lost-clause-err : goal.returns-in_err-follow_lost-clause-err
returns-in_err-follow_lost-clause-err c =
    let u : UploadState = seen c.self.inside in
    let v : UploadState = c.args.self.now in
    let R : RequestsState = after_tick c.args.now v.requests in
    let new : c.tick.new.self ≡ R = c.in_ok-lost.ensures.ok ∙ ap (λ (s : UploadState). after_tick c.args.now s.requests) c.self.view_is in
    let w : with_record u c.tick.new.self ≡ with_record v R = ap (with_record u) new ∙ ap (λ (s : UploadState). with_record s R) c.self.view_is in
    on_err_all c.from_residual-in_err-follow_lost.result _ (inr (stops_then v R [] (with_record u c.tick.new.self) c.follow_lost.new.self w c.in_err-follow_lost.ensures.err))

pub returns-clause-err : goal.returns-clause-err
returns-clause-err c =
    let u : UploadState = seen c.self.inside in
    let v : UploadState = c.args.self.now in
    let R : RequestsState = after_tick c.args.now v.requests in
    let new : c.tick.new.self ≡ R = c.in_ok-lost.ensures.ok ∙ ap (λ (s : UploadState). after_tick c.args.now s.requests) c.self.view_is in
    let w : with_record u c.tick.new.self ≡ with_record v R = ap (with_record u) new ∙ ap (λ (s : UploadState). with_record s R) c.self.view_is in
    let followed : c.follow_lost.new.self ≡ with_record v (followed_all v.goal c.deref.result.now R) =
    c.in_ok-follow_lost.ensures.ok ∙ ap (λ (s : UploadState). with_record s (followed_all s.goal c.deref.result.now s.requests)) w in
    let lost : All (IsLostAt R.entries) c.deref.result.now = subst (All (IsLostAt R.entries)) (sym (c.deref.ensures.value ∙ c.in_ok-lost.ensures.lost ∙ ap (λ (s : UploadState). lost_by_tick c.args.now s.requests) c.self.view_is)) (lost_are c.args.now v.requests) in
    on_err c.go_on.result _ _ (λ s. inr (losses_stop v R c.deref.result.now c.follow_lost.new.self c.go_on.new.self lost followed s)) c.go_on.ensures.err

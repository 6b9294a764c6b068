use Rattle.std.proofs.Common.{◌≡◌, ◌≢◌, ◌∙◌, OnErr, OnOk, ap, refl, subst, sym, true≢false}
use Rattle.upload_core.specs.declared.status.UploadStatus.TheVariants.{Running}
use Rattle.lemmas.proofs.Results.{on_ok}
use Rattle.request_record.specs.Follow.{Follows, Nothing}
use Rattle.upload_core.specs.Calls.{MovesCourse}
use Rattle.upload_core.specs.Moves.{StopsAt, TicksOn}
use Rattle.upload_core.specs.Sending.{Uploading}
use Rattle.upload_core.specs.State.{Goal}
use Rattle.upload_core.proofs.Following.{failed_continue, notes_continue, passes_continue}
use Rattle.upload_core.proofs.Right.{noted_goal, noted_kept, noted_ok, noted_stops, step_goal, stops_at, tick_kept}
use Rattle.upload_core.proofs.upload.UploadOperation.tick.Goals as goal

pub pass-outcome-requires-clause-can : goal.pass-outcome-requires-clause-can
pass-outcome-requires-clause-can g c = c.self.invariant.2.going (c.is_running.ensures.0 c.if-not-is_running.false)

pub invariant_of-self-2 : goal.invariant_of-self-2
invariant_of-self-2 g c =
    let old = c.self.inside.course in
    let mid = c.pass-outcome.new.self in
    let new = c.fail_by.new.self in
    let e = c.fail_by.ensures in
    let kept = tick_kept mid new e.right c.pass-outcome.result c.args.now old c.pass-outcome.ensures.ok e.ok e.err c.self.invariant.2 in
    let same : old.goal ≡ new.goal = sym c.pass-outcome.ensures.goal ∙ sym (step_goal mid new e.right c.pass-outcome.result e.ok e.err) in (
      c.self.invariant.0 ∙ ap (λ (a : Goal). a.digests) same,
      c.self.invariant.1 ∙ ap (λ (a : Goal). a.share_length) same,
      kept,
    )

pub returns-clause-stops : goal.returns-clause-stops
returns-clause-stops g c =
    let e = c.fail_by.ensures in
    subst (λ (u : Uploading g.row.P.Denot). OnErr c.pass-outcome.result (StopsAt c.args.now u.course c.fail_by.new.self)) c.self.view_is
    (stops_at c.pass-outcome.result c.args.now c.self.inside.course c.pass-outcome.new.self c.fail_by.new.self (c.is_running.ensures.0 c.if-not-is_running.false) c.pass-outcome.ensures.err e.err)

pub invariant_of-self : goal.invariant_of-self
invariant_of-self g c =
    let old = c.self.inside.course in
    let new = c.note.new.self in
    let over : old.status ≢ Running = λ runs. true≢false (sym (c.is_running.ensures.1 runs) ∙ c.if-not-is_running.true) in
    let e = c.note.ensures in
    let same : old.goal ≡ new.goal = sym (noted_goal c.args.now old new over c.note.result e.ok e.err) in (
      c.self.invariant.0 ∙ ap (λ (a : Goal). a.digests) same,
      c.self.invariant.1 ∙ ap (λ (a : Goal). a.share_length) same,
      noted_kept c.args.now old new over c.note.result e.ok e.err e.right c.self.invariant.2,
    )

pub returns-then-not-is_running-clause-ok : goal.returns-then-not-is_running-clause-ok
returns-then-not-is_running-clause-ok g c =
    let old = c.self.inside.course in
    let over : old.status ≢ Running = λ runs. true≢false (sym (c.is_running.ensures.1 runs) ∙ c.if-not-is_running.true) in
    let new : Uploading g.row.P.Denot = record { pieces = c.self.inside.pieces; course = c.note.new.self } in
    subst (λ (u : Uploading g.row.P.Denot). OnOk c.note.result (MovesCourse (TicksOn c.args.now) u new)) c.self.view_is
    (on_ok c.note.result _ _ (λ ticks. record { moved = ticks; pieces = refl }) (noted_ok c.args.now old c.note.new.self over c.note.result c.note.ensures.ok))

pub returns-then-not-is_running-clause-stops : goal.returns-then-not-is_running-clause-stops
returns-then-not-is_running-clause-stops g c =
    let old = c.self.inside.course in
    let over : old.status ≢ Running = λ runs. true≢false (sym (c.is_running.ensures.1 runs) ∙ c.if-not-is_running.true) in
    subst (λ (u : Uploading g.row.P.Denot). OnErr c.note.result (StopsAt c.args.now u.course c.note.new.self)) c.self.view_is
    (noted_stops c.args.now old c.note.new.self over c.note.result c.note.ensures.err)

pub returns-clause-follows : goal.returns-clause-follows
returns-clause-follows g c =
    let old = c.self.inside.course in
    let mid = c.pass-outcome.new.self in
    let o = c.pass-outcome.ensures in
    let e = c.fail_by.ensures in
    let continues = failed_continue Nothing c.pass-outcome.result old mid c.fail_by.new.self (passes_continue c.args.now old mid c.pass-outcome.result o.ok o.err) e.ok e.err in
    subst (λ (u : Uploading g.row.P.Denot). Follows Nothing u.course.requests c.fail_by.new.self.requests) c.self.view_is continues.follows

pub returns-then-not-is_running-clause-follows : goal.returns-then-not-is_running-clause-follows
returns-then-not-is_running-clause-follows g c =
    let continues = notes_continue c.args.now c.self.inside.course c.note.new.self c.note.result c.note.ensures.ok c.note.ensures.err in
    subst (λ (u : Uploading g.row.P.Denot). Follows Nothing u.course.requests c.note.new.self.requests) c.self.view_is continues.follows

use Rattle.std.proofs.Common.{◌≢◌, ◌∙◌, OnErr, OnOk, ap, inr, refl, subst, sym, true≢false}
use Rattle.lemmas.proofs.Results.{on_ok_then}
use Rattle.download_core.specs.declared.state.Machine.{Machine}
use Rattle.download_core.specs.declared.status.DownloadStatus.TheVariants.{Failed, Running}
use Rattle.download_core.specs.Moves.{StopsAt, TicksOn}
use Rattle.download_core.specs.State.{DownloadState}
use Rattle.download_core.specs.Steps.{IsKept, state_of}
use Rattle.download_core.proofs.Following.{stops_follow, stops_give_up, ticked_follow, ticks_follow}
use Rattle.download_core.proofs.Results.{on_err_then}
use Rattle.download_core.proofs.TickLemmas.{stands_by}
use Rattle.download_core.proofs.download.DownloadOperation.tick.Goals as goal

pub returns-then-not-is_running-clause-ok : goal.returns-then-not-is_running-clause-ok
returns-then-not-is_running-clause-ok c =
    let s = c.self.inside in
    let ended : s.status ≢ Running = λ runs. true≢false (sym (c.is_running.ensures.1 runs) ∙ c.if-not-is_running.true) in
    subst (λ (d : DownloadState). OnOk c.note.result (TicksOn c.args.now d (state_of c.note.new.self s.servers.items s.status))) c.self.view_is
    (on_ok_then c.note.result _ _ (c.note.ensures.ok s.status ended c.self.invariant) (λ goes. goes s.servers.items))

pub returns-then-not-is_running-clause-stops : goal.returns-then-not-is_running-clause-stops
returns-then-not-is_running-clause-stops c =
    let s = c.self.inside in
    let ended : s.status ≢ Running = λ runs. true≢false (sym (c.is_running.ensures.1 runs) ∙ c.if-not-is_running.true) in
    let n = c.note.new.self in
    subst (λ (d : DownloadState). OnErr c.note.result (StopsAt c.args.now d (state_of n s.servers.items s.status))) c.self.view_is
    (stands_by c.note.result c.args.now (state_of s.machine s.servers.items s.status) (state_of n s.servers.items s.status) ended
    (on_err_then c.note.result _ _ c.note.ensures.err (ap (λ (m : Machine). state_of m s.servers.items s.status))))

pub returns-then-not-is_running-clause-err : goal.returns-then-not-is_running-clause-err
returns-then-not-is_running-clause-err c =
    let s = c.self.inside in
    on_err_then c.note.result _ _ (returns-then-not-is_running-clause-stops c) (stops_give_up c.args.now c.args.self.now (state_of c.note.new.self s.servers.items s.status))

pub returns-then-not-is_running-clause-follows : goal.returns-then-not-is_running-clause-follows
returns-then-not-is_running-clause-follows c =
    let s = c.self.inside in
    ticked_follow c.note.result c.args.now c.args.self.now (state_of c.note.new.self s.servers.items s.status) (returns-then-not-is_running-clause-ok c) (returns-then-not-is_running-clause-stops c)

pub invariant_of-self : goal.invariant_of-self
invariant_of-self c =
    c.note.ensures.kept c.self.inside.status (λ runs. true≢false (sym (c.is_running.ensures.1 runs) ∙ c.if-not-is_running.true)) c.self.invariant

pub returns-then-not-is_running-clause-prompt : goal.returns-then-not-is_running-clause-prompt
returns-then-not-is_running-clause-prompt c = λ run. absurd (true≢false (sym (c.is_running.ensures.1 run) ∙ c.if-not-is_running.true))

pub pass-requires : goal.pass-requires
pass-requires c = subst (IsKept c.self.inside.machine) (c.is_running.ensures.0 c.if-not-is_running.false) c.self.invariant

pub returns-in-Ok-clause-ok : goal.returns-in-Ok-clause-ok
returns-in-Ok-clause-ok c =
    let s = c.self.inside in
    let runs = c.is_running.ensures.0 c.if-not-is_running.false in
    subst (λ (d : DownloadState). TicksOn c.args.now d (state_of c.pass.new.self s.servers.items c.in-Ok.status)) (ap (state_of s.machine s.servers.items) (sym runs) ∙ c.self.view_is)
    (c.in-Ok.ensures.ok s.servers.items)

pub returns-in-Ok-clause-follows : goal.returns-in-Ok-clause-follows
returns-in-Ok-clause-follows c =
    ticks_follow c.args.now c.args.self.now (state_of c.pass.new.self c.self.inside.servers.items c.in-Ok.status) (returns-in-Ok-clause-ok c)

pub returns-in-Err-clause-stops : goal.returns-in-Err-clause-stops
returns-in-Err-clause-stops c =
    let s = c.self.inside in
    let runs = c.is_running.ensures.0 c.if-not-is_running.false in
    subst (λ (d : DownloadState). StopsAt c.args.now d (state_of c.pass.new.self s.servers.items Failed)) (ap (state_of s.machine s.servers.items) (sym runs) ∙ c.self.view_is)
    (c.in-Err.ensures.err s.servers.items)

pub returns-in-Err-clause-err : goal.returns-in-Err-clause-err
returns-in-Err-clause-err c = inr refl

pub returns-in-Err-clause-follows : goal.returns-in-Err-clause-follows
returns-in-Err-clause-follows c =
    stops_follow c.args.now c.args.self.now (state_of c.pass.new.self c.self.inside.servers.items Failed) (returns-in-Err-clause-stops c)

use Rattle.std.proofs.Common.{◌≡◌, ◌≢◌, ◌∙◌, ℕ, inl, inr, Result, Ok, Err, OnErr, OnOk, ap, refl, subst, sym, true≢false}
use Rattle.lemmas.proofs.Results.{on_ok_then, settled_by}
use Rattle.request_record.specs.Follow.{Follows, Nothing}
use Rattle.request_record.proofs.FollowLaws.{follows_itself}
use Rattle.checker.specs.Book.{AsksItsOwn, IsKept, state_of}
use Rattle.checker.specs.Moves.{StopsAt, TicksOn}
use Rattle.checker.specs.State.{CheckState}
use Rattle.checker.specs.declared.state.Machine.{Machine}
use Rattle.checker.specs.declared.status.CheckStatus.TheVariants.{Failed, Running}
use Rattle.checker.proofs.Following.{follows_fails, follows_ticks}
use Rattle.checker.proofs.Own.{own_fail, own_tick}
use Rattle.checker.proofs.check.CheckOperation.tick.Goals as goal

stands_by : {X E : Type 0} (r : Result X E) (now : ℕ) (old new : CheckState) → old.status ≢ Running → OnErr r (new ≡ old) → OnErr r (StopsAt now old new)
stands_by (Ok x) now old new ended same = tt
stands_by (Err e) now old new ended same = record { running = λ runs. absurd (ended runs); ended = λ _. same }

on_err_then : {X E : Type 0} (r : Result X E) (P Q : Type 0) → OnErr r P → (P → Q) → OnErr r Q
on_err_then (Ok x) P Q p f = tt
on_err_then (Err e) P Q p f = f p

pub returns-then-not-is_running-clause-ok : goal.returns-then-not-is_running-clause-ok
returns-then-not-is_running-clause-ok c =
    let s = c.self.inside in
    subst (λ (d : CheckState). OnOk c.note.result (TicksOn c.args.now d (state_of c.note.new.self s.servers.items s.status))) c.self.view_is
    (on_ok_then c.note.result _ _ c.note.ensures.ok (λ goes. goes s.status s.servers.items))

pub returns-then-not-is_running-clause-stops : goal.returns-then-not-is_running-clause-stops
returns-then-not-is_running-clause-stops c =
    let s = c.self.inside in
    let ended : s.status ≢ Running = λ runs. true≢false (sym (c.is_running.ensures.1 runs) ∙ c.if-not-is_running.true) in
    let n = c.note.new.self in
    subst (λ (d : CheckState). OnErr c.note.result (StopsAt c.args.now d (state_of n s.servers.items s.status))) c.self.view_is
    (stands_by c.note.result c.args.now (state_of s.machine s.servers.items s.status) (state_of n s.servers.items s.status) ended
    (on_err_then c.note.result _ _ c.note.ensures.err (ap (λ (m : Machine). state_of m s.servers.items s.status))))

pub returns-then-not-is_running-clause-follows : goal.returns-then-not-is_running-clause-follows
returns-then-not-is_running-clause-follows c =
    let s = c.self.inside in
    let servers = s.servers.items in
    let n = c.note.new.self in
    subst (λ (d : CheckState). Follows Nothing d.requests n.requests) c.self.view_is (elim (settled_by c.note.result _ _ c.note.ensures.ok c.note.ensures.err) [
      | inl goes ↦ follows_ticks c.args.now (state_of s.machine servers s.status) (state_of n servers s.status) (goes s.status servers)
      | inr same ↦ subst (λ (m : Machine). Follows Nothing s.machine.requests m.requests) (sym same) (follows_itself Nothing s.machine.requests)
    ])

pub invariant_of-self : goal.invariant_of-self
invariant_of-self c =
    let s = c.self.inside in
    let servers = s.servers.items in
    let n = c.note.new.self in (
      c.note.ensures.kept s.status (λ runs. true≢false (sym (c.is_running.ensures.1 runs) ∙ c.if-not-is_running.true)) c.self.invariant.0,
      elim (settled_by c.note.result _ _ c.note.ensures.ok c.note.ensures.err) [
        | inl goes ↦ own_tick c.args.now (state_of s.machine servers s.status) (state_of n servers s.status) (goes s.status servers) c.self.invariant.1
        | inr same ↦ subst (λ (m : Machine). AsksItsOwn servers m.requests.entries) (sym same) c.self.invariant.1
      ],
    )

pub pass-requires : goal.pass-requires
pass-requires c = subst (IsKept c.self.inside.machine) (c.is_running.ensures.0 c.if-not-is_running.false) c.self.invariant.0

pub returns-in-Ok-clause-ok : goal.returns-in-Ok-clause-ok
returns-in-Ok-clause-ok c =
    let s = c.self.inside in
    let runs = c.is_running.ensures.0 c.if-not-is_running.false in
    subst (λ (d : CheckState). TicksOn c.args.now d (state_of c.pass.new.self s.servers.items c.in-Ok.status)) (ap (state_of s.machine s.servers.items) (sym runs) ∙ c.self.view_is) (c.in-Ok.ensures.ok s.servers.items)

pub returns-in-Err-clause-stops : goal.returns-in-Err-clause-stops
returns-in-Err-clause-stops c =
    let s = c.self.inside in
    let runs = c.is_running.ensures.0 c.if-not-is_running.false in
    subst (λ (d : CheckState). StopsAt c.args.now d (state_of c.pass.new.self s.servers.items Failed)) (ap (state_of s.machine s.servers.items) (sym runs) ∙ c.self.view_is)
    (record { running = λ _. c.in-Err.ensures.err s.servers.items; ended = λ other. absurd (other refl) })

pub returns-in-Ok-clause-follows : goal.returns-in-Ok-clause-follows
returns-in-Ok-clause-follows c =
    let s = c.self.inside in
    let servers = s.servers.items in
    let new = state_of c.pass.new.self servers c.in-Ok.status in
    subst (λ (d : CheckState). Follows Nothing d.requests new.requests) c.self.view_is
    (follows_ticks c.args.now (state_of s.machine servers Running) new (c.in-Ok.ensures.ok servers))

pub returns-in-Err-clause-follows : goal.returns-in-Err-clause-follows
returns-in-Err-clause-follows c =
    let s = c.self.inside in
    let servers = s.servers.items in
    let new = state_of c.pass.new.self servers Failed in
    subst (λ (d : CheckState). Follows Nothing d.requests new.requests) c.self.view_is
    (follows_fails c.args.now (state_of s.machine servers Running) new (c.in-Err.ensures.err servers))

pub invariant_of-self-in-Ok : goal.invariant_of-self-in-Ok
invariant_of-self-in-Ok c =
    let s = c.self.inside in
    let servers = s.servers.items in (
      c.in-Ok.ensures.kept,
      own_tick c.args.now (state_of s.machine servers Running) (state_of c.pass.new.self servers c.in-Ok.status) (c.in-Ok.ensures.ok servers) c.self.invariant.1,
    )

pub invariant_of-self-in-Err : goal.invariant_of-self-in-Err
invariant_of-self-in-Err c =
    let s = c.self.inside in
    let servers = s.servers.items in (
      c.in-Err.ensures.failed,
      own_fail c.args.now (state_of s.machine servers Running) (state_of c.pass.new.self servers Failed) (c.in-Err.ensures.err servers) c.self.invariant.1,
    )

use Rattle.std.proofs.Common.{refl, ◌≡◌, ◌≤◌, All, length, take, sym, ap, subst, ◌∙◌, arith, ℕ}
use Rattle.request_record.specs.Record.{asked_all}
use Rattle.upload_core.specs.State.{UploadState}
use Rattle.upload_core.specs.Course.{MayPlace, allocations}
use Rattle.upload_core.specs.Moves.{Stops}
use Rattle.upload_core.proofs.Records.{on_err_all}
use Rattle.upload_core.proofs.Goes.{round_course}
use Rattle.upload_core.proofs.Fields.{seen}
use Rattle.upload_core.proofs.state.Course.begin_round.Goals as goal

pub invariant_of-self : goal.invariant_of-self
invariant_of-self c =
    let u : UploadState = seen c.self.inside in
    let may : All (MayPlace u) c.args.pairs.now = subst (λ (s : UploadState). All (MayPlace s) c.args.pairs.now) (sym c.self.view_is) c.requires.may in
    let k : ℕ = c.allocate.ensures.some.0 in
    let new : c.allocate.new.requests ≡ asked_all (allocations u.goal.share_length (take k c.args.pairs.now)) u.requests = c.allocate.ensures.some.1 ∙ ap (λ (len : ℕ). asked_all (allocations len (take k c.args.pairs.now)) u.requests) c.share_length.ensures in
    let le : c.len-self-inside.result ≤ length u.requests.entries = omega (arith, c.len-self-inside.ensures.value) in
    round_course u c.args.pairs.now k (c.len-self-inside.result) c.allocate.new.requests le new may c.requires.once c.self.invariant

pub returns-clause-err : goal.returns-clause-err
returns-clause-err c =
    let u : UploadState = seen c.self.inside in
    let k : ℕ = c.allocate.ensures.some.0 in
    let new : UploadState = record u { requests = c.allocate.new.requests; round = c.len-self-inside.result } in
    on_err_all c.allocate.result _ (subst (λ (s : UploadState). Stops s.requests s new) c.self.view_is
    (record { goal = refl; happy = refl; servers = refl; asks = allocations c.share_length.result (take k c.args.pairs.now); requests = c.allocate.ensures.some.1 }))

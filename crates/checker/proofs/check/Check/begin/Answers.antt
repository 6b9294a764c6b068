use Rattle.std.proofs.Common.{List, ℕ, subst, sym}
use Rattle.request_record.specs.Record.{RequestsState}
use Rattle.checker.specs.Book.{AsksItsOwn}
use Rattle.checker.proofs.Keeping.{fresh_kept}
use Rattle.checker.proofs.Own.{own_begun}
use Rattle.checker.proofs.check.Check.begin.Goals as goal

pub invariant_of-result : goal.invariant_of-result
invariant_of-result c = (
  fresh_kept c.args.cap c.args.servers.now c.args.session c.args.now c.args.keeps c.in_ok-machine.machine c.in_ok-machine.ensures c.requires.distinct c.first_status.result
      c.first_status.ensures.runs c.first_status.ensures.alone,
  subst (λ (l : List ℕ). AsksItsOwn l c.in_ok-machine.machine.requests.entries) (sym c.in_ok-from_slice.ensures.items)
      (subst (λ (r : RequestsState). AsksItsOwn c.args.servers.now r.entries) (sym c.in_ok-machine.ensures.requests) (own_begun c.args.servers.now c.args.session c.args.now)),
)

use Rattle.std.proofs.Common.{List, ℕ, subst}
use Rattle.share_reading.specs.Opening.{Advances}
use Rattle.share_verify.specs.CapBlock.{IsUebFor}
use Rattle.share_source.proofs.Opened.{ended_by}
use Rattle.share_source.proofs.block.read_next.Goals as goal

pub returns-in-Ok-Done-clause-goes : goal.returns-in-Ok-Done-clause-goes
returns-in-Ok-Done-clause-goes g c =
    let done = subst (Advances c.args.cap.now c.args.opening.now c.deref.result.now) c.in-Ok-Done.field-0-is c.in-Ok-Done.ensures.taken in
    subst (λ (text : List ℕ). IsUebFor c.args.cap.now text c.in-Ok-Done.opened.ueb) c.deref.ensures.value (ended_by c.args.cap.now c.args.opening.now c.deref.result.now c.in-Ok-Done.opened done)

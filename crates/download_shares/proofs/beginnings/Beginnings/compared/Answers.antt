use Rattle.std.proofs.Common.{inl, inr, refl, sym, subst, true≢false}
use Rattle.share_reading.specs.Opening.{Advances}
use Rattle.download_shares.proofs.beginnings.Beginnings.compared.Goals as goal

pub returns-else-agrees-clause-fails : goal.returns-else-agrees-clause-fails
returns-else-agrees-clause-fails c bytes answered =
    inr (c.in-Ok-Next.next, subst (Advances c.args.cap.now c.args.opening.now bytes) c.in-Ok-Next.field-0-is (c.in-Ok-Next.ensures.taken bytes answered), (λ agrees. true≢false (sym (c.if-agrees.ensures.1 agrees))), refl)

pub returns-then-agrees-clause-leads : goal.returns-then-agrees-clause-leads
returns-then-agrees-clause-leads c bytes answered =
    inl (c.in-Ok-Next.next, subst (Advances c.args.cap.now c.args.opening.now bytes) c.in-Ok-Next.field-0-is (c.in-Ok-Next.ensures.taken bytes answered), c.agrees.ensures.0 c.if-agrees.true)

pub returns-in-Ok-Done-clause-leads : goal.returns-in-Ok-Done-clause-leads
returns-in-Ok-Done-clause-leads c bytes answered =
    inr (c.in-Ok-Done.field-0-0, subst (Advances c.args.cap.now c.args.opening.now bytes) c.in-Ok-Done.field-0-is (c.in-Ok-Done.ensures.taken bytes answered))

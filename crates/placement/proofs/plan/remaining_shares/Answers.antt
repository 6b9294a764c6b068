use Rattle.std.proofs.Common.{◌≡◌, IfOk, sym, subst, ap, ◌∙◌}
use Rattle.placement.specs.Plan.{shares_below, untaken}
use Rattle.placement.proofs.Members.{untaken-append}
use Rattle.placement.proofs.plan.remaining_shares.Goals as goal

pub returns : goal.returns
returns c =
    let both = untaken-append c.args.m1.now c.args.m2.now (shares_below c.args.n) in
    let first = c.deref-2.ensures.value ∙ c.in_ok-shares-2.ensures ∙ ap (untaken c.args.m1.now) (c.deref.ensures.value ∙ c.in_ok-shares.ensures) in
    subst (λ l. IfOk c.shares_without-2.result (λ shares. shares.items ≡ l)) (ap (untaken c.args.m2.now) first ∙ sym both) c.shares_without-2.ensures

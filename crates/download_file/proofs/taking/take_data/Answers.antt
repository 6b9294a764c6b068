use Rattle.std.proofs.Common.{ℕ, List, subst, sym}
use Rattle.download_parts.specs.declared.part.Part.{Part}
use Rattle.download_parts.specs.declared.part.Part.TheVariants.{Data}
use Rattle.download_supply.specs.Taking.{IsDue}
use Rattle.download_file.specs.Steps.{TakesPart}
use Rattle.download_file.proofs.TakingLemmas.{took_data}
use Rattle.download_file.proofs.taking.take_data.Goals as goal

pub returns-clause-taken : goal.returns-clause-taken
returns-clause-taken c = λ (taken : List ℕ).
    let h = c.args.handout.now in
    let r = c.args.reader.now in
    let a = c.args.plan.now.first in
    let b = c.args.plan.now.end in
    let w = c.args.first.now in
    let due : IsDue r.supply (Data c.args.index) = subst (λ (p : Part). IsDue r.supply p) c.requires.part c.requires.taker.due in
    subst (λ (q : Part). TakesPart h r taken a b q w.position h c.take_data.new.self taken) (sym c.requires.part)
    (took_data h r taken a b w c.requires.taker c.take_data.new.self c.args.index due.next c.in_ok-take_data.ensures.taken c.in_ok-take_data.ensures.right)

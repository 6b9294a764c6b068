use Rattle.std.proofs.Common.{subst, sym, rules}
use Rattle.download_parts.specs.Plan.{IsPart}
use Rattle.download_supply.specs.Batch.{BatchState}
use Rattle.download_supply.specs.Cursors.{IsNext}
use Rattle.download_supply.specs.Upper.{HasOverPassed}
use Rattle.download_supply.proofs.LevelLemmas.{batch_more}
use Rattle.download_supply.proofs.batch.Batch.ask.Goals as goal

pub invariant_of-self-2 : goal.invariant_of-self-2
invariant_of-self-2 c =
    let part = subst (λ (b : BatchState). IsPart b.geometry b.first b.end c.args.part) (sym c.self.view_is) c.requires.part in
    let next = subst (λ (b : BatchState). IsNext b.reached c.args.part) (sym c.self.view_is) c.requires.next in
    let over = subst (λ (b : BatchState). HasOverPassed b.geometry b.first b.reached c.args.part) (sym c.self.view_is) c.requires.upper in
    batch_more _ (record { part = c.args.part; read = c.read-read.result }) c.pass.new.self c.push.new.self.items c.self.invariant
    (record {
      part = part;
      offset = c.read-read.ensures.offset;
      length = c.read-read.ensures.length;
      some = c.read-read.ensures.range.0;
      few = c.read-read.ensures.range.1;
    })
    next over c.pass.ensures (search rules)

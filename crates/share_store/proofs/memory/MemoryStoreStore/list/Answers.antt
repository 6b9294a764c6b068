use Rattle.std.proofs.Common.{rules, ◌≡◌}
use Rattle.std.specs.Prelude.{IfOk}
use Rattle.share_store.specs.Shelf.{held}
use Rattle.share_store.proofs.MemoryLaws.{lists_from}
use Rattle.share_store.proofs.memory.MemoryStoreStore.list.Goals as goal

pub returns-clause-gives : goal.returns-clause-gives
returns-clause-gives c =
    let value : IfOk c.held_under.result (λ found. found ≡ held c.args.index.now c.begin.new.self.shelf.closed) = search rules in
    lists_from c.args.self.now c.begin.new.self c.args.index.now c.held_under.result c.in_ok-begin.ensures.ok.0 c.in_ok-begin.ensures.ok.1 value c.held_under.ensures.memory

use Rattle.std.proofs.Common.{◌∙◌, subst, sym, get_or}
use Rattle.std.proofs.lemmas.Bool.{true≢false}
use Rattle.std.proofs.lemmas.List.Elements.{Contains-get_or}
use Rattle.lemmas.proofs.Positions.{got}
use Rattle.lemmas.proofs.Options.{some_of}
use Rattle.download_supply.specs.Blocks.{IsReady}
use Rattle.download_supply.specs.Supply.{SupplyState}
use Rattle.download_file.proofs.blocks.awaits_block.Goals as goal

pub returns-then-not-is_ready : goal.returns-then-not-is_ready
returns-then-not-is_ready c = λ _.
    let first = some_of c.first_position.result (sym c.is_some.ensures ∙ c.if-is_some.true) in
    record {
      reader = get_or c.args.live.now c.loop-position.position-index 0;
      among = Contains-get_or c.args.live.now c.loop-position.position-index 0 c.loop-position-test.true;
      r = c.index-readers-position.result;
      there = got c.args.readers.now _ c.index-readers-position.result (c.requires c.loop-position.position-index 0 c.loop-position-test.true) c.index-readers-position.is;
      lacks = λ ready. true≢false (sym (c.is_ready.ensures.ready.1 (subst (λ (s : SupplyState). IsReady s c.args.number) (sym c.supply.ensures) ready)) ∙ c.if-not-is_ready.true);
      position = first.0;
      first = sym c.first_position.ensures ∙ first.1;
    }

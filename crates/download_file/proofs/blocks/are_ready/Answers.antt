use Rattle.std.proofs.Common.{◌≡◌, ◌∙◌, List, ℕ, arith, refl, subst, sym, take, get_or}
use Rattle.std.proofs.lemmas.Bool.{true≢false}
use Rattle.std.proofs.lemmas.List.{take_all}
use Rattle.std.proofs.lemmas.List.Elements.{Contains-get_or}
use Rattle.lemmas.proofs.Positions.{got}
use Rattle.download_supply.specs.Blocks.{IsReady}
use Rattle.download_supply.specs.Supply.{SupplyState}
use Rattle.download_file.specs.Steps.{AreReady}
use Rattle.download_file.proofs.BlockLemmas.{ready_more}
use Rattle.download_file.proofs.blocks.are_ready.Goals as goal

pub returns-then-not-is_ready-clause-no : goal.returns-then-not-is_ready-clause-no
returns-then-not-is_ready-clause-no c = λ _. record {
  position = get_or c.args.positions.now c.loop-position.position-index 0;
  among = Contains-get_or c.args.positions.now c.loop-position.position-index 0 c.loop-position-test.true;
  r = c.index-readers-position.result;
  there = got c.args.readers.now _ c.index-readers-position.result (c.requires c.loop-position.position-index 0 c.loop-position-test.true) c.index-readers-position.is;
  not = λ ready. true≢false (sym (c.is_ready.ensures.ready.1 (subst (λ (s : SupplyState). IsReady s c.args.number) (sym c.supply.ensures) ready)) ∙ c.if-not-is_ready.true);
}

pub loop-position-preserved : goal.loop-position-preserved
loop-position-preserved c =
    ready_more c.args.readers.now c.args.positions.now c.args.number c.loop-position.position-index _ c.index-readers-position.result c.loop-position-test.true refl
    (got c.args.readers.now _ c.index-readers-position.result (c.requires c.loop-position.position-index 0 c.loop-position-test.true) c.index-readers-position.is)
    (subst (λ (s : SupplyState). IsReady s c.args.number) c.supply.ensures (c.is_ready.ensures.ready.0 c.if-not-is_ready.false))
    c.loop-position.invariant

pub returns-clause-yes : goal.returns-clause-yes
returns-clause-yes c =
    let all : take c.loop-position.position-index c.args.positions.now ≡ c.args.positions.now = take_all c.loop-position.position-index c.args.positions.now (omega arith) in
    λ _. subst (λ (positions : List ℕ). AreReady c.args.readers.now positions c.args.number) all c.loop-position.invariant

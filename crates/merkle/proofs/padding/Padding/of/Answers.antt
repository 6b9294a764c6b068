use Rattle.std.proofs.Common.{◌∙◌, arith}
use Rattle.std.proofs.lemmas.List.{length-set}
use Rattle.merkle.proofs.HeightLemmas.{height_low}
use Rattle.merkle.proofs.PaddingLemmas.{behind_last, beside_more}
use Rattle.merkle.proofs.padding.Padding.of.Goals as goal
use Rattle.merkle.proofs.padding.Padding.of.Goals.{then-last-eq0, else-last-eq0}

pub padding_node-requires-clause-low : goal.padding_node-requires-clause-low
padding_node-requires-clause-low c = height_low _ c.height-height.result 20 c.requires.few c.height-height.ensures.least

pub padding_node-requires-clause-there : goal.padding_node-requires-clause-there
padding_node-requires-clause-there c =
    behind_last c.args.leaf_count c.loop-i.i c.height-height.result c.requires.some c.height-height.ensures.room c.loop-i-test.true c.if-last-eq0.true

pub bounds-beside-i : goal.bounds-beside-i
bounds-beside-i c =
    omega (arith, c.loop-i-test.true, height_low _ c.height-height.result 20 c.requires.few c.height-height.ensures.least)

pub loop-i-preserved : goal.loop-i-preserved
loop-i-preserved c =
    let n = c.args.leaf_count in
    let i = c.loop-i.i in
    let inv = c.loop-i.invariant in
    let low = height_low _ c.height-height.result 20 c.requires.few c.height-height.ensures.least in
    elim c.if-last-eq0.branch [
      | then-last-eq0 w ↦
          let is = w.padding_node.ensures in
          rw w.beside-is record {
            full = length-set c.loop-i.beside i _ ∙ inv.full;
            right = beside_more n c.loop-i.beside i w.padding_node.result (omega (arith, inv.full, low, c.loop-i-test.true)) inv.right (rw c.height-height.ensures.value at is);
          }
      | else-last-eq0 w ↦ rw w.beside-is inv
    ]

-- What holds of each supply.
use Rattle.std.proofs.Common.{◌≡◌, ℕ, ◌<◌, List, length, arith}
use Rattle.download_parts.specs.Plan.{IsNodePiece}
use Rattle.download_parts.specs.declared.part.NodePiece.{NodePiece}
use Rattle.download_parts.specs.declared.part.Nodes.{Nodes}
use Rattle.download_parts.specs.declared.part.Part.{Part}
use Rattle.download_parts.specs.declared.part.Part.TheVariants.{ShareHashes, BlockTree, CiphertextTree, Data}
use Rattle.download_supply.specs.Cursors.{IsPassed, cursor_at}
use Rattle.download_supply.specs.Supply.{IsPartOf, IsSupply, KnowsNodes, SupplyState, gives_from}

-- it still is one where it gives the ciphertext tree
pub gives_supply : (s : SupplyState) (levels : List ℕ) → IsSupply s → length levels ≡ 3
    → ((p : NodePiece) → p.index < cursor_at levels p.level → IsNodePiece s.geometry s.start s.end p) → IsSupply (gives_from s levels)
gives_supply s levels is long pieces = record {
  range = is.range;
  begins = is.begins;
  asked_levels = record { block_tree = is.asked_levels.block_tree; ciphertext_tree = long };
  taken_levels = record { block_tree = is.taken_levels.block_tree; ciphertext_tree = long };
  parts = parts_still;
  in_order = order_still;
  given = λ level. omega arith;
  tree = is.tree;
  leads = is.leads;
  knows = λ piece taken. knows_still (is.knows piece taken);
  held = is.held;
} where
  parts_still : (part : Part) → IsPassed (gives_from s levels).asked part → IsPartOf (gives_from s levels) part
  parts_still ShareHashes passes = tt
  parts_still (BlockTree p) passes = is.parts (BlockTree p) passes
  parts_still (CiphertextTree p) passes = pieces p passes
  parts_still (Data i) passes = is.parts (Data i) passes

  order_still : (part : Part) → IsPassed (gives_from s levels).taken part → IsPassed (gives_from s levels).asked part
  order_still ShareHashes passes = is.in_order ShareHashes passes
  order_still (BlockTree p) passes = is.in_order (BlockTree p) passes
  order_still (CiphertextTree p) passes = passes
  order_still (Data i) passes = is.in_order (Data i) passes

  knows_still : {n : Nodes} → KnowsNodes s n → KnowsNodes (gives_from s levels) n
  knows_still knows = record { tree = knows.tree; is = knows.is; known = knows.known }

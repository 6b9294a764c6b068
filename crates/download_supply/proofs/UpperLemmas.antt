-- The pieces of a tree come after the pieces over them, which prove them.
use Rattle.std.proofs.Common.{◌≡◌, ℕ, ◌+◌, ◌-◌, ◌/◌, ◌^◌, ◌<◌, ◌≤◌, min, List, [], ◌∷◌, ◌++◌, Option, IfSome, is_some, true, ap, subst, sym, ◌∙◌, inl, inr, arith}
use Rattle.std.specs.Prelude.{Contains, slice_set}
use Rattle.std.proofs.Math.Nat.{div-eq_of_lt}
use Rattle.std.proofs.lemmas.Bool.{cases_lt}
use Rattle.std.proofs.lemmas.List.{get_or-set_other}
use Rattle.lemmas.proofs.Members.{contains_head, contains_tail}
use Rattle.lemmas.proofs.Options.{one_there}
use Rattle.merkle.specs.Partial.{PartialState, known_at}
use Rattle.merkle.specs.Tree.{node_number}
use Rattle.share_layout.specs.Geometry.{Geometry, segment_count}
use Rattle.download_parts.specs.PlanLaws.{piece_over}
use Rattle.download_parts.specs.Level.{row_of, tree_height}
use Rattle.download_parts.specs.Plan.{IsNodePiece, nodes_of}
use Rattle.download_parts.specs.Range.{IsRange}
use Rattle.download_parts.specs.declared.part.NodePiece.{NodePiece}
use Rattle.download_parts.specs.declared.part.Part.{Part}
use Rattle.download_parts.specs.declared.part.Part.TheVariants.{ShareHashes, BlockTree, CiphertextTree, Data}
use Rattle.download_parts.proofs.PartLemmas.{piece_lies, under_pieces}
use Rattle.download_parts.specs.Trees.{IsBlockTree}
use Rattle.download_supply.specs.Batch.{AreRaised, levels_of, part_of, with_levels}
use Rattle.download_supply.specs.Cursors.{LeadOn, cursor_at, passed}
use Rattle.download_supply.specs.Laws.{DueIsProved, OverProves, UpperFirstGiving, UpperFirstTogether}
use Rattle.download_supply.specs.Upper.{HasOverPassed, UpperComeFirst}
use Rattle.download_supply.specs.declared.cursors.Cursors.{Cursors}
use Rattle.download_supply.specs.declared.tree.Tree.{Tree}
use Rattle.download_supply.specs.declared.tree.Tree.TheVariants.{Blocks, Ciphertext}
use Rattle.download_supply.proofs.LawLemmas.{none_waits}

-- ---- parts, one further

pub upper_push : (g : Geometry) (first : Part → ℕ) (from : Cursors) (parts : List Part) (to : Cursors) (part : Part) → LeadOn from parts to
    → UpperComeFirst g first from parts → HasOverPassed g (first part) to part → UpperComeFirst g first from (parts ++ part ∷ [])
upper_push g first from [] to part leads upper over = (subst (λ (c : Cursors). HasOverPassed g (first part) c part) (sym leads) over, tt)
upper_push g first from (p ∷ ps) to part leads upper over = (upper.0, upper_push g first (passed from p) ps to part leads.1 upper.1 over)

pub upper_append : UpperFirstTogether
upper_append g first from between [] parts leads one two = subst (λ (c : Cursors). UpperComeFirst g first c parts) (sym leads) two
upper_append g first from between (p ∷ ps) parts leads one two = (one.0, upper_append g first (passed from p) between ps parts leads.1 one.1 two)

-- where the plan of each part begins with the same segment
pub upper_of : (g : Geometry) (a : ℕ) (first : Part → ℕ) (from : Cursors) (parts : List Part) → ((part : Part) → Contains parts part → a ≡ first part)
    → UpperComeFirst g (λ part. a) from parts → UpperComeFirst g first from parts
upper_of g a first from [] same upper = tt
upper_of g a first from (p ∷ ps) same upper = (
  subst (λ n. HasOverPassed g n from p) (same p (contains_head p ps)) upper.0,
  upper_of g a first (passed from p) ps (λ part has. same part (contains_tail p part ps has)) upper.1,
)

-- ---- the pieces of a level

-- what is passed of a level says nothing of the level above
pub level_over : (tree : Tree) (g : Geometry) (a : ℕ) (c : Cursors) (level index count : ℕ) → HasOverPassed g a c (part_of tree level index)
    → HasOverPassed g a (with_levels tree c (slice_set (levels_of tree c) level count)) (part_of tree level index)
level_over Blocks g a c level index count over = λ some.
    let same : cursor_at (slice_set c.block_tree level count) (level - 1) ≡ cursor_at c.block_tree (level - 1) =
    get_or-set_other c.block_tree level (level - 1) count 0 (λ e. omega (arith, some, e)) in
    let low = over some in
    omega (arith, low, same)
level_over Ciphertext g a c level index count over = λ some.
    let same : cursor_at (slice_set c.ciphertext_tree level count) (level - 1) ≡ cursor_at c.ciphertext_tree (level - 1) =
    get_or-set_other c.ciphertext_tree level (level - 1) count 0 (λ e. omega (arith, some, e)) in
    let low = over some in
    omega (arith, low, same)

over_raised : (g : Geometry) (a b : ℕ) (p : NodePiece) (old now : List ℕ) → IsRange g a b → IsNodePiece g a b p → AreRaised g a b p.level old now → 0 < p.level
    → (piece_over g a p).index < cursor_at now (p.level - 1)
over_raised g a b p old now range piece raised some =
    let over = (under_pieces g a b p range some piece).piece.index in
    let at = raised.those (p.level - 1) (omega (arith, some)) in
    omega (arith, over, at)

-- the levels above one that is asked are passed by the same plan
pub tree_over : (tree : Tree) (g : Geometry) (a b level index : ℕ) (old : List ℕ) (c : Cursors) → IsRange g a b → IsNodePiece g a b (record { level = level; index = index })
    → AreRaised g a b level old (levels_of tree c) → HasOverPassed g a c (part_of tree level index)
tree_over Blocks g a b level index old c range piece raised = λ some. over_raised g a b (record { level = level; index = index }) old c.block_tree range piece raised some
tree_over Ciphertext g a b level index old c range piece raised = λ some. over_raised g a b (record { level = level; index = index }) old c.ciphertext_tree range piece raised some

pub same_over : (g h : Geometry) (a b : ℕ) (c : Cursors) (part : Part) → g ≡ h → a ≡ b → HasOverPassed g a c part → HasOverPassed h b c part
same_over g h a b c part geometry first over = subst (λ n. HasOverPassed h n c part) first (subst (λ (o : Geometry). HasOverPassed o a c part) geometry over)

-- ---- the ciphertext tree is given from some pieces on

upper_put : (g : Geometry) (first : Part → ℕ) (from : Cursors) (levels : List ℕ) (parts : List Part) → ((p : NodePiece) → ¬ Contains parts (CiphertextTree p))
    → UpperComeFirst g first from parts → UpperComeFirst g first (record from { ciphertext_tree = levels }) parts
upper_put g first from levels [] none upper = tt
upper_put g first from levels (ShareHashes ∷ ps) none upper =
    (tt, upper_put g first (passed from ShareHashes) levels ps (λ p has. none p (contains_tail ShareHashes (CiphertextTree p) ps has)) upper.1)
upper_put g first from levels (BlockTree q ∷ ps) none upper =
    (upper.0, upper_put g first (passed from (BlockTree q)) levels ps (λ p has. none p (contains_tail (BlockTree q) (CiphertextTree p) ps has)) upper.1)
upper_put g first from levels (CiphertextTree q ∷ ps) none upper = absurd (none q (contains_head (CiphertextTree q) ps))
upper_put g first from levels (Data i ∷ ps) none upper =
    (tt, upper_put g first (passed from (Data i)) levels ps (λ p has. none p (contains_tail (Data i) (CiphertextTree p) ps has)) upper.1)

pub upper_giving : UpperFirstGiving
upper_giving s levels waiting is none leads upper = upper_put s.geometry _ s.taken levels waiting (none_waits s waiting is none leads) upper

-- ---- what proves a piece

pub over_proves : OverProves
over_proves g a b p t range piece sound over position among =
    let m = tree_height g in
    let n = nodes_of g a b p in
    let there = piece.level in
    elim (cases_lt 0 p.level) [
      | inl some ↦
          let rows : n.row ≡ row_of m (p.level - 1) + 7 = omega (arith, some, there) in
          let seven : min n.row 7 ≡ 7 = omega (arith, rows) in
          let up : n.row - min n.row 7 ≡ row_of m (p.level - 1) = omega (arith, rows, seven) in
          let known = over some (position / 128) ((under_pieces g a b p range some piece).holds position among) in
          subst (λ x. is_some (known_at t x) ≡ true) (λ i. node_number (sym up i) (position / 2 ^ sym seven i)) known
      | inr none ↦
          let low : n.row ≤ 7 = omega (arith, none, there) in
          let all : min n.row 7 ≡ n.row = omega (arith, low) in
          let lie = piece_lies g a b p range piece in
          let inside : position < 2 ^ n.row = omega (arith, lie.inside, among) in
          let first : 0 ≡ position / 2 ^ min n.row 7 = sym (ap (λ q. position / 2 ^ q) all ∙ div-eq_of_lt inside) in
          let top : 0 ≡ n.row - min n.row 7 = omega (arith, all) in
          subst (λ x. is_some (known_at t x) ≡ true) (λ i. node_number (top i) (first i)) (ap is_some sound.root)
    ]

pub due_is_proved : DueIsProved
due_is_proved s p t is due over tree =
    let leads = subst (λ (o : Option PartialState). IfSome o (λ x. IsBlockTree x (segment_count s.geometry))) tree is.leads in
    over_proves s.geometry s.first s.end p t is.range (is.parts (BlockTree p) due.asked) leads.leads.sound
    (λ some position among.
    let k = is.knows (piece_over s.geometry s.first p) (over some) in
    subst (λ (x : PartialState). is_some (known_at x (node_number (nodes_of s.geometry s.first s.end (piece_over s.geometry s.first p)).row position)) ≡ true)
    (one_there s.tree k.tree t k.is tree) (k.known position among))

-- A batch, one part further, and the levels of a tree.
use Rattle.std.proofs.Common.{◌≡◌, ℕ, ◌+◌, ◌<◌, max, List, [], ◌∷◌, ◌++◌, length, get_or, inl, inr, ap, refl, subst, sym, ◌∙◌, arith}
use Rattle.std.specs.Prelude.{slice_set}
use Rattle.std.proofs.lemmas.Bool.{cases_order}
use Rattle.std.proofs.lemmas.Grind.{get_or-set_at}
use Rattle.std.proofs.lemmas.List.{get_or-set_other, length-set, map-append, set-get_or, set-set}
use Rattle.std.proofs.lemmas.List.Elements.{All-push}
use Rattle.share_layout.specs.Geometry.{Geometry}
use Rattle.download_parts.specs.Level.{level_at}
use Rattle.download_parts.specs.Plan.{IsNodePiece, IsPart, pieces_of}
use Rattle.download_parts.specs.declared.part.Part.{Part}
use Rattle.download_supply.specs.Asking.{IsReadBy, parts_of}
use Rattle.download_supply.specs.Batch.{AreRaised, BatchState, IsBatch, IsMore, IsOpen, levels_of, part_of, raised, with_levels}
use Rattle.download_supply.specs.Cursors.{IsNext, LeadOn, cursor_at, index_of, passed}
use Rattle.download_supply.specs.Upper.{HasOverPassed, UpperComeFirst}
use Rattle.download_supply.specs.declared.cursors.Cursors.{Cursors}
use Rattle.download_supply.specs.declared.tree.Tree.{Tree}
use Rattle.download_supply.specs.declared.tree.Tree.TheVariants.{Blocks, Ciphertext}
use Rattle.download_supply.specs.declared.wanted.Wanted.{Wanted}
use Rattle.download_supply.proofs.CursorLemmas.{lead_push}
use Rattle.download_supply.proofs.UpperLemmas.{upper_push}

pub batch_more : (b : BatchState) (w : Wanted) (c : Cursors) (items : List Wanted) → IsBatch b → IsReadBy b.geometry b.first b.end w
    → IsNext b.reached w.part → HasOverPassed b.geometry b.first b.reached w.part → c ≡ passed b.reached w.part → items ≡ b.wanted ++ w ∷ [] → IsBatch (record b { reached = c; wanted = items })
batch_more b w c items is reads next over reached more = record {
  reads = subst (λ (ws : List Wanted). (k : ℕ) (d : Wanted) → k < length ws → IsReadBy b.geometry b.first b.end (get_or ws k d)) (sym more)
      (All-push (IsReadBy b.geometry b.first b.end) b.wanted w is.reads reads);
  in_order = subst (λ (ps : List Part). LeadOn b.begun ps c)
      (sym (ap parts_of more ∙ map-append (λ (v : Wanted). v.part) b.wanted (w ∷ [])))
      (subst (λ (to : Cursors). LeadOn b.begun (parts_of b.wanted ++ w.part ∷ []) to) (sym reached)
      (lead_push b.begun (parts_of b.wanted) b.reached w.part is.in_order next));
  upper = subst (λ (ps : List Part). UpperComeFirst b.geometry (λ part. b.first) b.begun ps)
      (sym (ap parts_of more ∙ map-append (λ (v : Wanted). v.part) b.wanted (w ∷ [])))
      (upper_push b.geometry (λ part. b.first) b.begun (parts_of b.wanted) b.reached w.part is.in_order is.upper over);
}

-- a level of which nothing more is passed yet
pub level_start : (tree : Tree) (c : Cursors) (level from : ℕ) → from ≡ cursor_at (levels_of tree c) level
    → c ≡ with_levels tree c (slice_set (levels_of tree c) level from)
level_start Blocks c level from is =
    ap (λ (l : List ℕ). with_levels Blocks c l) (sym (ap (slice_set c.block_tree level) is ∙ set-get_or c.block_tree level 0))
level_start Ciphertext c level from is =
    ap (λ (l : List ℕ). with_levels Ciphertext c l) (sym (ap (slice_set c.ciphertext_tree level) is ∙ set-get_or c.ciphertext_tree level 0))

-- the piece at the cursor is the next one
pub level_next : (tree : Tree) (c : Cursors) (level index : ℕ) → level < length (levels_of tree c) → IsOpen tree c
    → IsNext (with_levels tree c (slice_set (levels_of tree c) level index)) (part_of tree level index)
level_next Blocks c level index there opened = (
  opened,
  record {
    level = omega (arith, there, length-set c.block_tree level index);
    index = sym (get_or-set_at c.block_tree level level index 0 refl there);
  },
)
level_next Ciphertext c level index there opened = record {
  level = omega (arith, there, length-set c.ciphertext_tree level index);
  index = sym (get_or-set_at c.ciphertext_tree level level index 0 refl there);
}

-- and the cursor goes on by one
pub level_step : (tree : Tree) (c : Cursors) (level index : ℕ)
    → passed (with_levels tree c (slice_set (levels_of tree c) level index)) (part_of tree level index)
    ≡ with_levels tree c (slice_set (levels_of tree c) level (index + 1))
level_step Blocks c level index = ap (λ (l : List ℕ). with_levels Blocks c l) (set-set c.block_tree level index (index + 1))
level_step Ciphertext c level index = ap (λ (l : List ℕ). with_levels Ciphertext c l) (set-set c.ciphertext_tree level index (index + 1))

pub index_of-part : (tree : Tree) (level index : ℕ) → index_of (part_of tree level index) ≡ index
index_of-part Blocks level index = refl
index_of-part Ciphertext level index = refl

pub levels_with : (tree : Tree) (c : Cursors) (levels : List ℕ) → levels_of tree (with_levels tree c levels) ≡ levels
levels_with Blocks c levels = refl
levels_with Ciphertext c levels = refl

pub with_with : (tree : Tree) (c : Cursors) (some levels : List ℕ) → with_levels tree (with_levels tree c some) levels ≡ with_levels tree c levels
with_with Blocks c some levels = refl
with_with Ciphertext c some levels = refl

pub with_own : (tree : Tree) (c : Cursors) → c ≡ with_levels tree c (levels_of tree c)
with_own Blocks c = refl
with_own Ciphertext c = refl

pub open_with : (tree : Tree) (c : Cursors) (levels : List ℕ) → IsOpen tree c → IsOpen tree (with_levels tree c levels)
open_with Blocks c levels opened = opened
open_with Ciphertext c levels opened = opened

-- one more level
pub raised_more : (g : Geometry) (a b level count : ℕ) (old now : List ℕ) → level < length now → count ≡ pieces_of (level_at g a b level)
    → AreRaised g a b level old now → AreRaised g a b (level + 1) old (raised now level count)
raised_more g a b level count old now there is so = record {
  count = length-set now level (max (cursor_at now level) count) ∙ so.count;
  those = λ k low. elim (cases_order k level) [
    | inl same ↦
        let at : cursor_at (raised now level count) k ≡ max (cursor_at now level) count = get_or-set_at now level k (max (cursor_at now level) count) 0 same there in
        let before : cursor_at now level ≡ cursor_at old level = so.others level (omega arith) in
        at ∙ ap (λ n. max n count) before ∙ ap (max (cursor_at old level)) is ∙ ap (λ l. max (cursor_at old l) (pieces_of (level_at g a b l))) (sym same)
    | inr other ↦ elim other [
      | inl less ↦ get_or-set_other now level k (max (cursor_at now level) count) 0 (λ e. omega (arith, less, e)) ∙ so.those k less
      | inr more ↦ absurd (omega (arith, low, more))
    ]
  ];
  others = λ k high. get_or-set_other now level k (max (cursor_at now level) count) 0 (λ e. omega (arith, high, e)) ∙ so.others k (omega (arith, high));
}

-- the other fields once a level more is passed
pub tree_others : (tree : Tree) (first now new : Cursors) (levels : List ℕ) → now ≡ with_levels tree first (levels_of tree now)
    → new ≡ with_levels tree now levels → new ≡ with_levels tree first (levels_of tree new)
tree_others tree first now new levels is next =
    let own : levels ≡ levels_of tree new = sym (ap (levels_of tree) next ∙ levels_with tree now levels) in
    next ∙ ap (λ (c : Cursors). with_levels tree c levels) is ∙ with_with tree first (levels_of tree now) levels ∙ ap (with_levels tree first) own

pub tree_levels : (tree : Tree) (now new : Cursors) (levels : List ℕ) → new ≡ with_levels tree now levels → levels ≡ levels_of tree new
tree_levels tree now new levels next = sym (ap (levels_of tree) next ∙ levels_with tree now levels)

-- a piece of a tree is a part of the plan
pub tree_part : (tree : Tree) (g : Geometry) (a b level index : ℕ) → IsNodePiece g a b (record { level = level; index = index })
    → IsPart g a b (part_of tree level index)
tree_part Blocks g a b level index is = is
tree_part Ciphertext g a b level index is = is

pub same_part : (g h : Geometry) (a b c d : ℕ) (part : Part) → g ≡ h → a ≡ c → b ≡ d → IsPart g a b part → IsPart h c d part
same_part g h a b c d part geometry first end is =
    subst (λ e. IsPart h c e part) end (subst (λ f. IsPart h f b part) first (subst (λ (o : Geometry). IsPart o a b part) geometry is))

pub more_still : (a b c : BatchState) → IsMore a b → IsMore b c → IsMore a c
more_still a b c one two = record {
  geometry = two.geometry ∙ one.geometry;
  first = two.first ∙ one.first;
  end = two.end ∙ one.end;
  begun = two.begun ∙ one.begun;
}

pub still_open : (tree : Tree) (first now : Cursors) → now ≡ with_levels tree first (levels_of tree now) → IsOpen tree first → IsOpen tree now
still_open tree first now is opened = subst (λ (c : Cursors). IsOpen tree c) (sym is) (open_with tree first (levels_of tree now) opened)

-- Leaves that are held of shares.
use Rattle.std.proofs.Common.{◌≡◌, ◌⊎◌, ℕ, ◌<◌, All, Bool, List, [], ◌∷◌, ◌++◌, Option, Some, Err, IfOk, IsTrue, None, Ok, OnErr, Result, false, true, length, map, get_or, set, inl, inr, refl, sym, subst, ◌∙◌, arith}
use Rattle.std.specs.Prelude.{slice_index}
use Rattle.std.proofs.lemmas.Bool.{cases_eq}
use Rattle.std.proofs.lemmas.List.{get_or-map, get_or-set_other, get_or-set_same, length-map, length-set}
use Rattle.tagged_hash.specs.TaggedHash.{tagged_hash}
use Rattle.tagged_hash.specs.declared.tag.Tag.TheVariants.{Block}
use Rattle.ueb.specs.Shape.{Contents}
use Rattle.share_source.specs.Leaves.{AreLeavesOf}
use Rattle.share_source.specs.Reads.{Fails, Gives, WasRead}
use Rattle.share_source.specs.Candidates.{AreBlocksTold, AreLeavesRead, Candidates, HoldsOwnLeaves, ShareRead, leaves_held, picked_numbers}
use Rattle.share_source.specs.Reading.{AreHeldLeaves, AreTreesRead}
use Rattle.share_source.proofs.Asking.{asked_append}

-- the leaves that are held of one share are others
pub held_set : (u : Contents) (numbers : List ℕ) (held : List (List (List ℕ))) (struck : List Bool) (p : ℕ) (leaves : List (List ℕ)) → AreHeldLeaves u numbers held struck
    → p < length numbers → (leaves ≡ []) ⊎ AreLeavesOf u (slice_index numbers p) leaves → AreHeldLeaves u numbers (set held p leaves) struck
held_set u numbers held struck p leaves is low new = record {
  held_count = length-set held p leaves ∙ is.held_count;
  struck_count = is.struck_count;
  leaves = λ q. elim (cases_eq q p) [
    | inl e ↦ subst (λ n. (get_or (set held p leaves) n [] ≡ []) ⊎ AreLeavesOf u (slice_index numbers n) (get_or (set held p leaves) n [])) (sym e)
        (subst (λ (l : List (List ℕ)). (l ≡ []) ⊎ AreLeavesOf u (slice_index numbers p) l) (sym (get_or-set_same held p leaves [] (omega (arith, low, is.held_count)))) new)
    | inr apart ↦ subst (λ (l : List (List ℕ)). (l ≡ []) ⊎ AreLeavesOf u (slice_index numbers q) l) (sym (get_or-set_other held p q leaves [] apart)) (is.leaves q)
  ];
}

-- blocks that have the hashes which the leaves tell that are held of their shares
pub blocks_told : {B : Type 0} (c : Candidates B) (segment : ℕ) (positions : List ℕ) (blocks : List (List ℕ)) → All (HoldsOwnLeaves c) positions
    → ((i : ℕ) → i < length positions → tagged_hash Block (get_or blocks i []) ≡ get_or (leaves_held c.held (get_or positions i 0)) segment [])
    → AreBlocksTold c.ueb segment (picked_numbers c.numbers positions) (map (leaves_held c.held) positions) blocks
blocks_told c segment positions blocks own hashes =
    let count = length-map positions (slice_index c.numbers) in
    let tree : (i : ℕ) → i < length positions → get_or (map (leaves_held c.held) positions) i [] ≡ leaves_held c.held (get_or positions i 0) =
    λ i low. get_or-map (leaves_held c.held) positions i 0 [] low in
    record {
      of_file = λ i below. (let low : i < length positions = omega (arith, below, count) in
          subst (λ (n : ℕ). AreLeavesOf c.ueb n (get_or (map (leaves_held c.held) positions) i [])) (sym (get_or-map (slice_index c.numbers) positions i 0 0 low))
          (subst (λ (l : List (List ℕ)). AreLeavesOf c.ueb (slice_index c.numbers (get_or positions i 0)) l) (sym (tree i low)) (own i 0 low)));
      hashes = λ i below. (let low : i < length positions = omega (arith, below, count) in
          subst (λ (l : List (List ℕ)). tagged_hash Block (get_or blocks i []) ≡ get_or l segment []) (sym (tree i low)) (hashes i low));
    }

module _ {B : Type 0} (gives : Gives B) (fails : Fails B) where
  -- leaves that were read, and then others; of none; of one share; of one, until memory was refused
  pub trees_both : (old mid new : Candidates B) → AreTreesRead gives fails old mid → AreTreesRead gives fails mid new → AreTreesRead gives fails old new
  trees_both old mid new a b = (a.0 ++ b.0, λ place. asked_append gives fails place a.0 b.0 old mid new (a.1 place) (b.1 place))

  pub trees_none : (c : Candidates B) → AreTreesRead gives fails c c
  trees_none c = ([], λ place. refl)

  pub tree_one : (old new : Candidates B) (p : ℕ) (came : Option (List (List ℕ))) → AreLeavesRead gives fails old p came new → AreTreesRead gives fails old new
  tree_one old new p came is = (ShareRead.leaves p came ∷ [], λ place. (new, is, refl))

  pub tree_refused : (old new : Candidates B) → WasRead gives fails old.bytes new.bytes → new ≡ record old { bytes = new.bytes } → AreTreesRead gives fails old new
  tree_refused old new read is = (ShareRead.refused ∷ [], λ place. (new, (read, is), refl))

  module _ (old new : Candidates B) (p : ℕ) (leaves : List (List ℕ)) (is : AreLeavesRead gives fails old p (Some leaves) new) (low : p < length old.held) where
    -- they are held now
    pub tree_holds : HoldsOwnLeaves new p
    tree_holds = subst (λ (x : Candidates B). HoldsOwnLeaves x p) (sym is.brought.2)
        (subst (λ (l : List (List ℕ)). AreLeavesOf old.ueb (slice_index old.numbers p) l) (sym (get_or-set_same old.held p leaves [] low)) is.brought.1)

    -- those of the others are held still
    pub tree_stays : (q : ℕ) → HoldsOwnLeaves old q → HoldsOwnLeaves new q
    tree_stays q own = elim (cases_eq q p) [
      | inl e ↦ subst (λ (n : ℕ). HoldsOwnLeaves new n) (sym e) tree_holds
      | inr apart ↦ subst (λ (x : Candidates B). HoldsOwnLeaves x q) (sym is.brought.2)
          (subst (λ (l : List (List ℕ)). AreLeavesOf old.ueb (slice_index old.numbers q) l) (sym (get_or-set_other old.held p q leaves [] apart)) own)
    ]

  -- what came of the leaves of a share
  pub tree_any : {E : Type 0} (r : Result Bool E) (old new : Candidates B) (p : ℕ)
      → IfOk r (λ good. IsTrue good → (leaves : List (List ℕ)) × AreLeavesRead gives fails old p (Some leaves) new)
      → IfOk r (λ good. good ≡ false → AreLeavesRead gives fails old p None new)
      → OnErr r (WasRead gives fails old.bytes new.bytes × (new ≡ record old { bytes = new.bytes }))
      → AreTreesRead gives fails old new
  tree_any (Ok true) old new p good refused err = let is = good refl in tree_one old new p (Some is.0) is.1
  tree_any (Ok false) old new p good refused err = tree_one old new p None (refused refl)
  tree_any (Err e) old new p good refused err = tree_refused old new err.0 err.1

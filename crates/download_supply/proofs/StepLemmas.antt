-- From a batch to what a supply is asked.
use Rattle.std.proofs.Common.{◌≡◌, ◌⊎◌, ◌↔◌, ℕ, ◌+◌, ◌<◌, ◌≤◌, max, List, length, get_or, true, refl, ap, subst, sym, ◌∙◌, arith}
use Rattle.std.specs.Prelude.{All, Contains}
use Rattle.std.proofs.lemmas.List.{get_or-map, length-map}
use Rattle.std.proofs.lemmas.List.Elements.{Contains-get_or}
use Rattle.share_layout.specs.Geometry.{Geometry}
use Rattle.download_parts.specs.Level.{level_count, tree_height}
use Rattle.download_parts.specs.Plan.{data_pieces}
use Rattle.download_parts.specs.declared.part.Part.{Part}
use Rattle.download_parts.specs.declared.part.Part.TheVariants.{ShareHashes, BlockTree, CiphertextTree, Data}
use Rattle.download_supply.specs.Asking.{AsksNow, IsAsked, IsReadBy, IsReadOf, IsWanted, IsWantedCiphertext, IsWithin, parts_of}
use Rattle.download_supply.specs.Batch.{AreRaised, BatchState, IsBatch, IsCiphertextUpTo, IsStep, with_levels}
use Rattle.download_supply.specs.Cursors.{IsPassed, LeadOn, cursor_at}
use Rattle.download_supply.specs.Supply.{HaveLevels, IsSupply, SupplyState, first_of}
use Rattle.download_supply.specs.Upper.{UpperComeFirst}
use Rattle.download_supply.specs.declared.cursors.Cursors.{Cursors}
use Rattle.download_supply.specs.declared.tree.Tree.TheVariants.{Blocks, Ciphertext}
use Rattle.download_supply.specs.declared.wanted.Wanted.{Wanted}
use Rattle.download_supply.proofs.BatchLemmas.{asks_now, ciphertext_asked, ciphertext_exact, ciphertext_parts, now, own_asked, own_exact, own_parts, still_supply}
use Rattle.download_supply.proofs.CursorLemmas.{lead_adds, lead_fresh}
use Rattle.download_supply.proofs.UpperLemmas.{upper_of}

-- one of the parts that are asked
part_at : (wanted : List Wanted) (k : ℕ) (d : Wanted) → k < length wanted → Contains (parts_of wanted) (get_or wanted k d).part
part_at wanted k d there =
    subst (λ (part : Part). Contains (parts_of wanted) part) (get_or-map (λ (w : Wanted). w.part) wanted k d d.part there)
    (Contains-get_or (parts_of wanted) k d.part (omega (arith, there, length-map wanted (λ (w : Wanted). w.part))))

-- where parts that are new are read by the plan of their section, all are
reads_of : (s : SupplyState) (a : ℕ) (to : Cursors) (wanted : List Wanted) → LeadOn s.asked (parts_of wanted) to
    → All (IsReadBy s.geometry a s.end) wanted → ((part : Part) → IsPassed to part → ¬ IsPassed s.asked part → a ≡ first_of s part)
    → All (IsReadOf s) wanted
reads_of s a to wanted leads reads section k d there =
    let w = get_or wanted k d in
    let has = part_at wanted k d there in
    let first = section w.part (lead_adds s.asked (parts_of wanted) to w.part leads has) (lead_fresh s.asked (parts_of wanted) to w.part leads has) in
    subst (λ f. IsReadBy s.geometry f s.end w) first (reads k d there)

-- what the batch of a supply's own plan reaches
pub record ReachesOwn (s : SupplyState) (last : ℕ) (to : Cursors) : Type 0 where
  pub hashes : to.share_hashes ≡ true
  pub raised : AreRaised s.geometry s.first (last + 1) (level_count (tree_height s.geometry)) s.asked.block_tree to.block_tree
  pub same : to.ciphertext_tree ≡ s.asked.ciphertext_tree
  pub count : to.data_piece ≡ max s.asked.data_piece (data_pieces s.geometry s.first (last + 1))

-- and that of the ciphertext tree
pub record ReachesCiphertext (s : SupplyState) (last : ℕ) (to : Cursors) : Type 0 where
  pub hashes : to.share_hashes ≡ s.asked.share_hashes
  pub same : to.block_tree ≡ s.asked.block_tree
  pub raised : AreRaised s.geometry s.start (last + 1) (level_count (tree_height s.geometry)) s.asked.ciphertext_tree to.ciphertext_tree
  pub count : to.data_piece ≡ s.asked.data_piece

own_section : (s : SupplyState) (last : ℕ) (to : Cursors) → ReachesOwn s last to → (part : Part) → IsPassed to part → ¬ IsPassed s.asked part → s.first ≡ first_of s part
own_section s last to reaches ShareHashes passes not = refl
own_section s last to reaches (BlockTree p) passes not = refl
own_section s last to reaches (CiphertextTree p) passes not = absurd (not (subst (λ (l : List ℕ). p.index < cursor_at l p.level) reaches.same passes))
own_section s last to reaches (Data i) passes not = refl

ciphertext_section : (s : SupplyState) (last : ℕ) (to : Cursors) → ReachesCiphertext s last to → (part : Part) → IsPassed to part → ¬ IsPassed s.asked part → s.start ≡ first_of s part
ciphertext_section s last to reaches ShareHashes passes not = absurd (not (sym reaches.hashes ∙ passes))
ciphertext_section s last to reaches (BlockTree p) passes not = absurd (not (subst (λ (l : List ℕ). p.index < cursor_at l p.level) reaches.same passes))
ciphertext_section s last to reaches (CiphertextTree p) passes not = refl
ciphertext_section s last to reaches (Data i) passes not = let same = reaches.count in absurd (not (omega (arith, passes, same)))

-- the plan of a batch is this one
pub record IsOf (s : SupplyState) (a : ℕ) (b : BatchState) : Type 0 where
  pub geometry : b.geometry ≡ s.geometry
  pub first : b.first ≡ a
  pub end : b.end ≡ s.end
  pub begun : b.begun ≡ s.asked

step_by : (s : SupplyState) (a : ℕ) (b : BatchState) (to : Cursors) (wanted : List Wanted) → IsBatch b → IsOf s a b → to ≡ b.reached → wanted ≡ b.wanted
    → HaveLevels to → ((part : Part) → IsPassed to part → ¬ IsPassed s.asked part → a ≡ first_of s part) → IsStep s to wanted
step_by s a b to wanted is of reached all levels section =
    let leads : LeadOn s.asked (parts_of wanted) to =
    subst (λ (c : Cursors). LeadOn s.asked (parts_of wanted) c) (sym reached)
    (subst (λ (ws : List Wanted). LeadOn s.asked (parts_of ws) b.reached) (sym all)
    (subst (λ (c : Cursors). LeadOn c (parts_of b.wanted) b.reached) of.begun is.in_order)) in
    let reads : All (IsReadBy s.geometry a s.end) wanted =
    subst (λ (ws : List Wanted). All (IsReadBy s.geometry a s.end) ws) (sym all)
    (subst (λ e. All (IsReadBy s.geometry a e) b.wanted) of.end
    (subst (λ f. All (IsReadBy s.geometry f b.end) b.wanted) of.first
    (subst (λ (g : Geometry). All (IsReadBy g b.first b.end) b.wanted) of.geometry is.reads))) in
    let upper : UpperComeFirst s.geometry (λ part. a) s.asked (parts_of wanted) =
    subst (λ (ws : List Wanted). UpperComeFirst s.geometry (λ part. a) s.asked (parts_of ws)) (sym all)
    (subst (λ (c : Cursors). UpperComeFirst s.geometry (λ part. a) c (parts_of b.wanted)) of.begun
    (subst (λ n. UpperComeFirst s.geometry (λ part. n) b.begun (parts_of b.wanted)) of.first
    (subst (λ (g : Geometry). UpperComeFirst g (λ part. b.first) b.begun (parts_of b.wanted)) of.geometry is.upper))) in
    record {
      reads = reads_of s a to wanted leads reads section;
      in_order = leads;
      upper = upper_of s.geometry a (first_of s) s.asked (parts_of wanted)
          (λ part has. section part (lead_adds s.asked (parts_of wanted) to part leads has) (lead_fresh s.asked (parts_of wanted) to part leads has)) upper;
      levels = levels;
    }

pub own_step : (s : SupplyState) (last : ℕ) (b : BatchState) (to : Cursors) (wanted : List Wanted) → HaveLevels s.asked → IsBatch b → IsOf s s.first b
    → to ≡ b.reached → wanted ≡ b.wanted → ReachesOwn s last to → IsStep s to wanted
own_step s last b to wanted long is of reached all reaches =
    step_by s s.first b to wanted is of reached all
    (record { block_tree = reaches.raised.count ∙ long.block_tree; ciphertext_tree = ap (length {A = ℕ}) reaches.same ∙ long.ciphertext_tree })
    (own_section s last to reaches)

pub ciphertext_step : (s : SupplyState) (last : ℕ) (b : BatchState) (to : Cursors) (wanted : List Wanted) → HaveLevels s.asked → IsBatch b → IsOf s s.start b
    → to ≡ b.reached → wanted ≡ b.wanted → ReachesCiphertext s last to → IsStep s to wanted
ciphertext_step s last b to wanted long is of reached all reaches =
    step_by s s.start b to wanted is of reached all
    (record { block_tree = ap (length {A = ℕ}) reaches.same ∙ long.block_tree; ciphertext_tree = reaches.raised.count ∙ long.ciphertext_tree })
    (ciphertext_section s last to reaches)

-- the cursors, batch by batch
pub reaches_own : (s : SupplyState) (last count : ℕ) (g : Geometry) (a e : ℕ) (to c d f h : Cursors) → c ≡ s.asked → d ≡ record c { share_hashes = true }
    → AreRaised g a e (level_count (tree_height g)) d.block_tree f.block_tree → f ≡ with_levels Blocks d f.block_tree
    → h ≡ record f { data_piece = max f.data_piece count } → to ≡ h → g ≡ s.geometry → a ≡ s.first → e ≡ last + 1
    → count ≡ data_pieces s.geometry s.first (last + 1) → ReachesOwn s last to
reaches_own s last count g a e to c d f h begun hashed raised others counted reached geometry first end is = record {
  hashes = ap (λ (k : Cursors). k.share_hashes) (reached ∙ counted) ∙ ap (λ (k : Cursors). k.share_hashes) others ∙ ap (λ (k : Cursors). k.share_hashes) hashed;
  raised =
      subst (λ (l : List ℕ). AreRaised s.geometry s.first (last + 1) (level_count (tree_height s.geometry)) s.asked.block_tree l)
      (sym (ap (λ (k : Cursors). k.block_tree) (reached ∙ counted)))
      (subst (λ (l : List ℕ). AreRaised s.geometry s.first (last + 1) (level_count (tree_height s.geometry)) l f.block_tree)
      (ap (λ (k : Cursors). k.block_tree) hashed ∙ ap (λ (k : Cursors). k.block_tree) begun)
      (subst (λ x. AreRaised s.geometry s.first x (level_count (tree_height s.geometry)) d.block_tree f.block_tree) end
      (subst (λ x. AreRaised s.geometry x e (level_count (tree_height s.geometry)) d.block_tree f.block_tree) first
      (subst (λ (o : Geometry). AreRaised o a e (level_count (tree_height o)) d.block_tree f.block_tree) geometry raised))));
  same = ap (λ (k : Cursors). k.ciphertext_tree) (reached ∙ counted) ∙ ap (λ (k : Cursors). k.ciphertext_tree) others
      ∙ ap (λ (k : Cursors). k.ciphertext_tree) hashed ∙ ap (λ (k : Cursors). k.ciphertext_tree) begun;
  count = ap (λ (k : Cursors). k.data_piece) (reached ∙ counted)
      ∙ ap (λ n. max n count) (ap (λ (k : Cursors). k.data_piece) others ∙ ap (λ (k : Cursors). k.data_piece) hashed ∙ ap (λ (k : Cursors). k.data_piece) begun)
      ∙ ap (max s.asked.data_piece) is;
}

pub reaches_ciphertext : (s : SupplyState) (last : ℕ) (g : Geometry) (a e : ℕ) (to c f : Cursors) → c ≡ s.asked
    → AreRaised g a e (level_count (tree_height g)) c.ciphertext_tree f.ciphertext_tree → f ≡ with_levels Ciphertext c f.ciphertext_tree
    → to ≡ f → g ≡ s.geometry → a ≡ s.start → e ≡ last + 1 → ReachesCiphertext s last to
reaches_ciphertext s last g a e to c f begun raised others reached geometry first end = record {
  hashes = ap (λ (k : Cursors). k.share_hashes) (reached ∙ others) ∙ ap (λ (k : Cursors). k.share_hashes) begun;
  same = ap (λ (k : Cursors). k.block_tree) (reached ∙ others) ∙ ap (λ (k : Cursors). k.block_tree) begun;
  raised =
      subst (λ (l : List ℕ). AreRaised s.geometry s.start (last + 1) (level_count (tree_height s.geometry)) s.asked.ciphertext_tree l)
      (sym (ap (λ (k : Cursors). k.ciphertext_tree) reached))
      (subst (λ (l : List ℕ). AreRaised s.geometry s.start (last + 1) (level_count (tree_height s.geometry)) l f.ciphertext_tree)
      (ap (λ (k : Cursors). k.ciphertext_tree) begun)
      (subst (λ x. AreRaised s.geometry s.start x (level_count (tree_height s.geometry)) c.ciphertext_tree f.ciphertext_tree) end
      (subst (λ x. AreRaised s.geometry x e (level_count (tree_height s.geometry)) c.ciphertext_tree f.ciphertext_tree) first
      (subst (λ (o : Geometry). AreRaised o a e (level_count (tree_height o)) c.ciphertext_tree f.ciphertext_tree) geometry raised))));
  count = ap (λ (k : Cursors). k.data_piece) (reached ∙ others) ∙ ap (λ (k : Cursors). k.data_piece) begun;
}

pub exact_own : (s : SupplyState) (last : ℕ) (to : Cursors) → IsWithin s last → ReachesOwn s last to
    → (part : Part) → IsPassed to part ↔ (IsPassed s.asked part ⊎ IsWanted s last part)
exact_own s last to within reaches = own_exact s last to within reaches.hashes reaches.raised reaches.same reaches.count

pub exact_ciphertext : (s : SupplyState) (last : ℕ) (to : Cursors) → s.start ≤ last → last < s.end → ReachesCiphertext s last to
    → (part : Part) → IsPassed to part ↔ (IsPassed s.asked part ⊎ IsCiphertextUpTo s last part)
exact_ciphertext s last to from before reaches = ciphertext_exact s last to from before reaches.hashes reaches.same reaches.raised reaches.count

-- the supply that asks, by what it was
module _ (s old : SupplyState) (is : IsSupply s) (to : Cursors) (same : s ≡ old) where
  module _ (wanted : List Wanted) (step : IsStep old to wanted) where
    mine : IsStep s to wanted
    mine = subst (λ (o : SupplyState). IsStep o to wanted) (sym same) step

    pub asks_at : AsksNow old (now s is to) wanted
    asks_at = subst (λ (o : SupplyState). AsksNow o (now s is to) wanted) same (asks_now s is to wanted mine)

    pub own_supply : (last : ℕ) → ((part : Part) → IsPassed to part ↔ (IsPassed old.asked part ⊎ IsWanted old last part)) → IsSupply (now s is to)
    own_supply last exact =
        still_supply s is to wanted mine
        (own_parts s is to last (subst (λ (o : SupplyState). (part : Part) → IsPassed to part ↔ (IsPassed o.asked part ⊎ IsWanted o last part)) (sym same) exact))

    pub ciphertext_supply : (last : ℕ) → ((part : Part) → IsPassed to part ↔ (IsPassed old.asked part ⊎ IsCiphertextUpTo old last part)) → IsSupply (now s is to)
    ciphertext_supply last exact =
        still_supply s is to wanted mine
        (ciphertext_parts s is to last (subst (λ (o : SupplyState). (part : Part) → IsPassed to part ↔ (IsPassed o.asked part ⊎ IsCiphertextUpTo o last part)) (sym same) exact))

  pub own_at : (last : ℕ) → ((part : Part) → IsPassed to part ↔ (IsPassed old.asked part ⊎ IsWanted old last part))
      → (part : Part) → IsAsked (now s is to) part ↔ (IsAsked old part ⊎ IsWanted old last part)
  own_at last exact =
      subst (λ (o : SupplyState). (part : Part) → IsAsked (now s is to) part ↔ (IsAsked o part ⊎ IsWanted o last part)) same
      (own_asked s is to last (subst (λ (o : SupplyState). (part : Part) → IsPassed to part ↔ (IsPassed o.asked part ⊎ IsWanted o last part)) (sym same) exact))

  pub ciphertext_at : (last : ℕ) → ((part : Part) → IsPassed to part ↔ (IsPassed old.asked part ⊎ IsCiphertextUpTo old last part))
      → (part : Part) → IsAsked (now s is to) part ↔ (IsAsked old part ⊎ IsWantedCiphertext old last part)
  ciphertext_at last exact =
      subst (λ (o : SupplyState). (part : Part) → IsAsked (now s is to) part ↔ (IsAsked o part ⊎ IsWantedCiphertext o last part)) same
      (ciphertext_asked s is to last (subst (λ (o : SupplyState). (part : Part) → IsPassed to part ↔ (IsPassed o.asked part ⊎ IsCiphertextUpTo o last part)) (sym same) exact))

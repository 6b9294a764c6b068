-- Trees that grow, and segments that they prove.
use Rattle.std.proofs.Common.{◌≡◌, ℕ, ◌<◌, List, Option, Some, None, Result, Ok, Err, OnOk, OnErr, IfSome, IsSome, length, refl, ap, subst, sym, ◌∙◌}
use Rattle.tagged_hash.specs.TaggedHash.{tagged_hash}
use Rattle.tagged_hash.specs.declared.tag.Tag.TheVariants.{CiphertextSegment}
use Rattle.merkle.specs.Inputs.{AreHashes}
use Rattle.merkle.specs.Partial.{Takes}
use Rattle.merkle.specs.Path.{LeadsBy}
use Rattle.share_layout.specs.Geometry.{Geometry, segment_count}
use Rattle.share_layout.specs.Pieces.{segment_length}
use Rattle.proved_parts.specs.Parts.{IsSegmentBy}
use Rattle.download_parts.specs.Trees.{AreTrees, FileTreesState, HaveSameRoots, known_leaf}
use Rattle.download_parts.proofs.TreeLemmas.{knows_itself, knows_same, knows_taken, knows_two, leaf_stays}
use Rattle.download_segments.specs.Laws.{ProvedSegmentsStay}
use Rattle.download_segments.specs.State.{HandoutState, IsHandout, ProvesSegment, RefutesSegment, TreesGrow, with_trees}

-- what holds of an option's value, where there is one
pub at_some : {X : Type 0} (P : X → Type 0) (o : Option X) (x : X) → o ≡ Some x → IfSome o P → P x
at_some P o x e h = subst (λ p. IfSome p P) e h

pub grow_none : (t : FileTreesState) → TreesGrow t t
grow_none t = record { shares = knows_itself t.shares; ciphertext = knows_itself t.ciphertext }

pub grow_two : (old between new : FileTreesState) → TreesGrow old between → TreesGrow between new → TreesGrow old new
grow_two old between new first second = record {
  shares = knows_two old.shares between.shares new.shares first.shares second.shares;
  ciphertext = knows_two old.ciphertext between.ciphertext new.ciphertext first.ciphertext second.ciphertext;
}

pub grow_same : (old new : FileTreesState) → new ≡ old → TreesGrow old new
grow_same old new same = subst (λ (t : FileTreesState). TreesGrow old t) (sym same) (grow_none old)

pub grow_shares : (old new : FileTreesState) (offers : List (ℕ × List ℕ))
    → Takes old.shares offers new.shares → new.ciphertext ≡ old.ciphertext → TreesGrow old new
grow_shares old new offers takes same = record {
  shares = knows_taken old.shares new.shares offers takes;
  ciphertext = knows_same old.ciphertext new.ciphertext same;
}

pub grow_ciphertext : (old new : FileTreesState) (offers : List (ℕ × List ℕ))
    → Takes old.ciphertext offers new.ciphertext → new.shares ≡ old.shares → TreesGrow old new
grow_ciphertext old new offers takes same = record {
  shares = knows_same old.shares new.shares same;
  ciphertext = knows_taken old.ciphertext new.ciphertext offers takes;
}

-- a call takes some, or refuses and changes nothing
pub grown_shares : {X E : Type 0} (r : Result X E) (old new : FileTreesState) (offers : List (ℕ × List ℕ))
    → OnOk r (Takes old.shares offers new.shares) → new.ciphertext ≡ old.ciphertext → OnErr r (new ≡ old) → TreesGrow old new
grown_shares (Ok x) old new offers takes other same = grow_shares old new offers takes other
grown_shares (Err e) old new offers takes other same = grow_same old new same

pub grown_ciphertext : {X E : Type 0} (r : Result X E) (old new : FileTreesState) (offers : List (ℕ × List ℕ))
    → OnOk r (Takes old.ciphertext offers new.ciphertext) → new.shares ≡ old.shares → OnErr r (new ≡ old) → TreesGrow old new
grown_ciphertext (Ok x) old new offers takes other same = grow_ciphertext old new offers takes other
grown_ciphertext (Err e) old new offers takes other same = grow_same old new same

-- it is a handout with these trees too
pub right_with : (h : HandoutState) (t : FileTreesState) → IsHandout h → AreTrees t → HaveSameRoots h.trees t
    → IsHandout (with_trees h t)
right_with h t k are same = record {
  geometry = k.geometry;
  trees = are;
  roots = record {
    geometry = same.geometry ∙ k.roots.geometry;
    shares = same.shares ∙ k.roots.shares;
    ciphertext = same.ciphertext ∙ k.roots.ciphertext;
  };
  inside = k.inside;
  within = k.within;
  consecutive = k.consecutive;
  given = k.given;
}

-- a segment whose hash is the leaf that is known
pub segment_by : (h : HandoutState) (number : ℕ) (segment : List ℕ) (siblings : List (List ℕ))
    → IsHandout h → number < segment_count h.geometry → ProvesSegment h number segment → AreHashes siblings
    → ((hash : List ℕ) → known_leaf h.trees.ciphertext number ≡ Some hash
    → LeadsBy (segment_count h.trees.geometry) h.trees.ciphertext.root number hash siblings)
    → IsSegmentBy h.ueb number segment siblings
segment_by h number segment siblings k there proves hashes leads =
    let hash : List ℕ = tagged_hash CiphertextSegment segment in
    let led : LeadsBy (segment_count h.trees.geometry) h.trees.ciphertext.root number hash siblings = leads hash proves.known in
    record {
      there = subst (λ (g : Geometry). number < segment_count g) k.geometry there;
      size = subst (λ (g : Geometry). length segment ≡ segment_length g number) k.geometry proves.size;
      hashes = hashes;
      path = subst (λ (g : Geometry). LeadsBy (segment_count g) h.ueb.crypttext_root_hash number hash siblings) (k.roots.geometry ∙ k.geometry)
          (subst (λ (r : List ℕ). LeadsBy (segment_count h.trees.geometry) r number hash siblings) k.roots.ciphertext led);
    }

-- a segment that is proved stays so
pub proved_stays : ProvedSegmentsStay
proved_stays old new number segment same grow proves = record {
  size = subst (λ (g : Geometry). length segment ≡ segment_length g number) (sym same) proves.size;
  known = leaf_stays old.trees.ciphertext new.trees.ciphertext number (tagged_hash CiphertextSegment segment) grow.ciphertext proves.known;
}

-- a segment that is not proved is refuted, where its leaf is known
pub refutes : (h : HandoutState) (number : ℕ) (segment : List ℕ) → IsSome (known_leaf h.trees.ciphertext number)
    → length segment ≡ segment_length h.geometry number → ¬ ProvesSegment h number segment → RefutesSegment h number segment
refutes h number segment known long not_proved = by (known_leaf h.trees.ciphertext number) refl known
  where
    by : (o : Option (List ℕ)) → known_leaf h.trees.ciphertext number ≡ o → IsSome o → RefutesSegment h number segment
    by None e none = absurd cc
    by (Some leaf) e some = record {
      leaf = leaf;
      known = e;
      differs = λ same. not_proved (record { size = long; known = e ∙ ap Some same });
    }

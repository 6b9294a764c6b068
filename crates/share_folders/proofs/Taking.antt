-- What a store takes note of when it is opened.
use Rattle.std.proofs.Common.{◌≡◌, ℕ, ◌+◌, ◌<◌, true, false, List, [], ◌∷◌, ◌++◌, length, take, drop, map, get_or, refl, sym, ap, ◌∙◌, subst, ⊎_elim, arith}
use Rattle.std.specs.Prelude.{Option, Some, None, Contains, decimal, Result, Ok, Err, OnOk}
use Rattle.std.proofs.lemmas.List.{get_or-map, length-map, same_from_push, take_more, map_push}
use Rattle.std.proofs.lemmas.List.Elements.{Contains-append_left, Contains-get_or, Contains-push, Contains-push_cases}
use Rattle.std.proofs.lemmas.Fmt.{decimal_injective}
use Rattle.std.proofs.lemmas.Cmp.{tied_itself}
use Rattle.std.specs.Ordering.{is_eq}
use mathlib.Core.Bool.{true≢false}
use Rattle.cap_text.specs.Base32.{base32}
use Rattle.cap_text.proofs.OneText.{base32-injective}
use Rattle.disks.specs.Names.{Name}
use Rattle.share_store.specs.declared.error.StoreError.{StoreError}
use Rattle.share_store.specs.Shelf.{ShareKey, at, same_key}
use Rattle.share_store.proofs.KeyLaws.{order_total}
use Rattle.share_store.proofs.ShelfLaws.{same_is}
use Rattle.share_folders.specs.declared.table.KeptShare.{KeptShare}
use Rattle.share_folders.specs.Names.{IsNamed, IsShareKey, closed_name}
use Rattle.share_folders.specs.Listed.{AreTaken, IsEither, IsSole}
use Rattle.share_folders.proofs.NameLaws.{letters_32, index_part, share_part, end_part}

-- a closed name is of one share alone
module _ (k l : ShareKey) (d e : List ℕ) (n : IsNamed k d) (m : IsNamed l e) (same : closed_name k d ≡ closed_name l e) where
  first : IsShareKey k
  first = (n.0, n.1)

  second : IsShareKey l
  second = (m.0, m.1)

  indices : k.0 ≡ l.0
  indices =
      base32-injective 16 k.0 l.0 n.0 m.0
      (sym (index_part (closed_name k d) k (base32 d) first refl) ∙ index_part (closed_name k d) l (base32 e) second same)

  numbers : k.1 ≡ l.1
  numbers =
      let dots = sym (share_part (closed_name k d) k 52 (base32 d) first (letters_32 d n.2.len) refl) ∙ share_part (closed_name k d) l 52 (base32 e) second (letters_32 e m.2.len) same in
      decimal_injective k.1 l.1 (omega (arith, n.1)) (omega (arith, m.1)) (same_from_push (decimal k.1) (decimal l.1) 46 46 (ap (drop 1) dots)).0

  pub same_share_key : k ≡ l
  same_share_key = λ i. (indices i, numbers i)

  pub same_share_digest : d ≡ e
  same_share_digest =
      base32-injective 32 d e n.2 m.2
      (sym (end_part (closed_name k d) k 52 (base32 d) first (letters_32 d n.2.len) refl) ∙ end_part (closed_name k d) l 52 (base32 e) second (letters_32 e m.2.len) same)

pub none_taken : AreTaken [] []
none_taken = record {
  only = λ key k is. none_at k is;
  sole = λ key digest sole. nothing (closed_name key digest) sole.there;
}
  where
    none_at : {X : Type 0} (k : KeptShare) → None ≡ Some k → X
    none_at k is = cc

    nothing : {X : Type 0} (name : Name) → Contains [] name → X
    nothing name there = absurd (omega (arith, there.1))

-- a name that is no closed one
pub other_taken : (names : List Name) (name : Name) (closed : List (ShareKey × KeptShare)) → ((key : ShareKey) (digest : List ℕ) → IsNamed key digest → name ≡ closed_name key digest → ⊥)
    → AreTaken names closed → AreTaken (names ++ name ∷ []) closed
other_taken names name closed other taken = record {
  only = λ key k is. ((taken.only key k is).0, Contains-append_left names (name ∷ []) _ (taken.only key k is).1);
  sole = λ key digest sole. taken.sole key digest (record {
    valid = sole.valid;
    there = ⊎_elim (λ before. before) (λ same. absurd (other key digest sole.valid same)) (Contains-push_cases names name _ sole.there);
    alone = λ d named there. sole.alone d named (Contains-append_left names (name ∷ []) _ there);
  });
}

module _ (names : List Name) (name : Name) (key : ShareKey) (digest : List ℕ) (old new : List (ShareKey × KeptShare)) (is : name ≡ closed_name key digest) (named : IsNamed key digest)
    (anew : at key old ≡ None → at key new ≡ Some (record { length = None; digest = digest }))
    (again : (k : KeptShare) → at key old ≡ Some k → k.digest ≡ digest → at key new ≡ Some k) (either : IsEither digest (at key old) (at key new))
    (others : (other : ShareKey) → same_key key other ≡ false → at other new ≡ at other old) (taken : AreTaken names old) where
  more : {x : Name} → Contains names x → Contains (names ++ name ∷ []) x
  more {x} there = Contains-append_left names (name ∷ []) x there

  this : Contains (names ++ name ∷ []) (closed_name key digest)
  this = subst (λ (x : Name). Contains (names ++ name ∷ []) x) is (Contains-push names name)

  abbrev IsThere : ShareKey → List ℕ → Type 0
  IsThere other d = IsNamed other d × Contains (names ++ name ∷ []) (closed_name other d)

  only_here : (j : KeptShare) → at key new ≡ Some j → IsThere key j.digest
  only_here j there =
      ⊎_elim (λ same. subst (IsThere key) (sym same) (named, this))
      (λ before. subst (IsThere key) (sym before.2) ((taken.only key before.0 before.1).0, more (taken.only key before.0 before.1).1))
      (subst (λ (o : Option KeptShare). IsEither digest (at key old) o) there either)

  only_other : (other : ShareKey) (j : KeptShare) → same_key key other ≡ false → at other new ≡ Some j → IsThere other j.digest
  only_other other j apart there =
      let before = taken.only other j (sym (others other apart) ∙ there) in
      (before.0, more before.1)

  abbrev IsNew : ShareKey → List ℕ → Type 0
  IsNew other d = at other new ≡ Some (record { length = None; digest = d })

  -- what was sole among more names was so among fewer, if it was there
  fewer : (other : ShareKey) (d : List ℕ) → IsSole (names ++ name ∷ []) other d → Contains names (closed_name other d) → IsSole names other d
  fewer other d sole there = record { valid = sole.valid; there = there; alone = λ e valid at. sole.alone e valid (more at) }

  sole_here : (d : List ℕ) → IsSole (names ++ name ∷ []) key d → (o : Option KeptShare) → at key old ≡ o → IsNew key d
  sole_here d sole None before = subst (IsNew key) (sole.alone digest named this) (anew before)
  sole_here d sole (Some i) before =
      let noted = taken.only key i before in
      let same : i.digest ≡ d = sole.alone i.digest noted.0 (more noted.1) in
      let there = taken.sole key d (fewer key d sole (subst (λ (e : List ℕ). Contains names (closed_name key e)) same noted.1)) in
      again i before (same ∙ sym (sole.alone digest named this)) ∙ sym before ∙ there

  sole_other : (other : ShareKey) (d : List ℕ) → same_key key other ≡ false → IsSole (names ++ name ∷ []) other d → IsNew other d
  sole_other other d apart sole =
      others other apart ∙ taken.sole other d (fewer other d sole
      (⊎_elim (λ before. before) (λ same. absurd (differ (same_share_key key other digest d named sole.valid (sym is ∙ same)))) (Contains-push_cases names name _ sole.there)))
    where
      differ : key ≡ other → ⊥
      differ same = true≢false (sym (ap is_eq (tied_itself order_total key)) ∙ ap (same_key key) same ∙ apart)

  pub named_taken : AreTaken (names ++ name ∷ []) new
  named_taken = record {
    only = λ other j there. elim (same_key key other) as (λ b. same_key key other ≡ b → IsThere other j.digest) [
      | true ↦ λ e. subst (λ (k : ShareKey). at k new ≡ Some j → IsThere k j.digest) (same_is key other e) (only_here j) there
      | false ↦ λ e. only_other other j e there
    ] refl;
    sole = λ other d sole. elim (same_key key other) as (λ b. same_key key other ≡ b → IsNew other d) [
      | true ↦ λ e. subst (λ (k : ShareKey). IsSole (names ++ name ∷ []) k d → IsNew k d) (same_is key other e) (λ s. sole_here d s (at key old) refl) sole
      | false ↦ λ e. sole_other other d e sole
    ] refl;
  }

-- the same, where that went well
pub on_taken : (r : Result Unit StoreError) (name : Name) (key : ShareKey) (digest : List ℕ) (old new : List (ShareKey × KeptShare)) → name ≡ closed_name key digest → IsNamed key digest
    → OnOk r (at key old ≡ None → at key new ≡ Some (record { length = None; digest = digest }))
    → OnOk r ((k : KeptShare) → at key old ≡ Some k → k.digest ≡ digest → at key new ≡ Some k) → OnOk r (IsEither digest (at key old) (at key new))
    → OnOk r ((other : ShareKey) → same_key key other ≡ false → at other new ≡ at other old) → OnOk r ((names : List Name) → AreTaken names old → AreTaken (names ++ name ∷ []) new)
on_taken (Ok u) name key digest old new is named anew again either others = λ names taken. named_taken names name key digest old new is named anew again either others taken
on_taken (Err e) name key digest old new is named anew again either others = tt

pub names_more : {S : Type 0} (bytes : S → Name) (names : List S) (i : ℕ) (s : S) → i < length names
    → map bytes (take (i + 1) names) ≡ map bytes (take i names) ++ bytes (get_or names i s) ∷ []
names_more bytes names i s within = ap (map bytes) (take_more names i s within) ∙ map_push bytes (take i names) (get_or names i s)

-- a name that stands at a place
pub named_at : {S : Type 0} (bytes : S → Name) (names : List S) (i : ℕ) (s : S) (name : Name) → i < length names → bytes (get_or names i s) ≡ name → Contains (map bytes names) name
named_at bytes names i s name within is =
    subst (Contains (map bytes names)) (get_or-map bytes names i s (bytes s) within ∙ is)
    (Contains-get_or (map bytes names) i (bytes s) (omega (arith, within, length-map names bytes)))

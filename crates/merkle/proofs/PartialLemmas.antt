-- What is known while nodes that are offered are taken.
use Rattle.std.proofs.Common.{Bool, true, false, not, eqb, is_some, ◌≡◌, ◌⊎◌, ℕ, zero, suc, ◌+◌, ◌-◌, ◌*◌, ◌<◌, ◌≤◌, List, [], ◌∷◌, ◌++◌, length, Option, Some, None, inl, inr, slice_get, slice_index_or, ap, refl, sym, subst, ◌∙◌, arith}
use Rattle.std.specs.Cmp.Lexicographic.{pointwise}
use Rattle.std.proofs.lemmas.Bool.{cases_eq, cases_lt, true≢false}
use Rattle.std.proofs.lemmas.Bool.Decides.{Decides-eqb}
use Rattle.std.proofs.lemmas.Slice.Eq.{slice_eq-Decides}
use Rattle.std.proofs.lemmas.Option.{none-some, same_Some}
use Rattle.std.proofs.lemmas.List.{get_or_append_left, get_or-append_right, length-append}
use Rattle.lemmas.proofs.Options.{some_of}
use Rattle.tagged_hash.specs.TaggedHash.{node_hash}
use Rattle.merkle.specs.Partial.{IsExtended, IsJoined, IsTouched, Known, ancestor, known_by, parent, told_or}
use Rattle.merkle.specs.Tree.{node_count}
use Rattle.merkle.specs.Taking.{grows_not, grows_one, lacks_left, lacks_right, has_other, Adds, GrowsBy, IsGrown, IsKept, IsListed, IsOther, IsTold, IsUnjoinable}

-- something or nothing
pub some_or_none : (o : Option (List ℕ)) → ((hash : List ℕ) × (o ≡ Some hash)) ⊎ (o ≡ None)
some_or_none None = inr refl
some_or_none (Some hash) = inl (hash, refl)

-- not both
pub not_both : (o : Option (List ℕ)) (hash : List ℕ) → o ≡ None → o ≡ Some hash → ⊥
not_both o hash none some = none-some hash (sym none ∙ some)

-- one value
pub one_value : (o : Option (List ℕ)) (a b : List ℕ) → o ≡ Some a → o ≡ Some b → a ≡ b
one_value o a b first second = same_Some a b (sym first ∙ second)

module _ (padding : Known) where
  -- what was told is known
  pub known-told : (told : Known) (number : ℕ) (hash : List ℕ) → told number ≡ Some hash → known_by padding told number ≡ Some hash
  known-told told number hash e = ap (λ (o : Option (List ℕ)). told_or o (padding number)) e

  pub known-untold : (told : Known) (number : ℕ) → told number ≡ None → known_by padding told number ≡ padding number
  known-untold told number e = ap (λ (o : Option (List ℕ)). told_or o (padding number)) e

  -- what is not known was not told
  pub unknown : (told : Known) (number : ℕ) → known_by padding told number ≡ None → (told number ≡ None) × (padding number ≡ None)
  unknown told number e =
      elim (some_or_none (told number)) [
        | inl some ↦ absurd (not_both (known_by padding told number) some.0 e (known-told told number some.0 some.1))
        | inr none ↦ (none, sym (known-untold told number none) ∙ e)
      ]

  -- what is known stays known
  pub known_more : (old new : Known) → ((number : ℕ) (hash : List ℕ) → old number ≡ Some hash → new number ≡ Some hash)
      → ((number : ℕ) (hash x : List ℕ) → padding number ≡ Some x → new number ≡ Some hash → x ≡ hash)
      → (number : ℕ) (hash : List ℕ) → known_by padding old number ≡ Some hash → known_by padding new number ≡ Some hash
  known_more old new kept empty number hash knows =
      elim (some_or_none (old number)) [
        | inl some ↦
            let same = one_value (known_by padding old number) some.0 hash (known-told old number some.0 some.1) knows in
            known-told new number hash (kept number some.0 some.1 ∙ ap (λ (x : List ℕ). Some x) same)
        | inr none ↦
            let padded : padding number ≡ Some hash = sym (known-untold old number none) ∙ knows in
            elim (some_or_none (new number)) [
              | inl some ↦ known-told new number hash (some.1 ∙ ap (λ (x : List ℕ). Some x) (sym (empty number some.0 hash padded some.1)))
              | inr still ↦ known-untold new number still ∙ padded
            ]
      ]

  -- a node that was told with its sibling stays so
  pub told_more : (old new : Known) → ((number : ℕ) (hash : List ℕ) → old number ≡ Some hash → new number ≡ Some hash)
      → ((number : ℕ) (hash x : List ℕ) → padding number ≡ Some x → new number ≡ Some hash → x ≡ hash)
      → (number : ℕ) → IsTold padding old number → IsTold padding new number
  told_more old new kept empty number t = record {
    left = t.left;
    right = t.right;
    knows_left = known_more old new kept empty (2 * parent number + 1) t.left t.knows_left;
    knows_right = known_more old new kept empty (2 * parent number + 2) t.right t.knows_right;
    told_parent = kept (parent number) (node_hash t.left t.right) t.told_parent;
  }

  -- so it is known with its sibling and its parent
  pub joined_from_told : (told : Known) (number : ℕ) → IsTold padding told number → IsJoined (known_by padding told) number
  joined_from_told told number t = record {
    left = t.left;
    right = t.right;
    knows_left = t.knows_left;
    knows_right = t.knows_right;
    knows_parent = known-told told (parent number) (node_hash t.left t.right) t.told_parent;
  }

-- a longer list of numbers
zero_difference : (n : ℕ) → n - n ≡ 0
zero_difference n = omega arith

pub last_position : (added : List ℕ) (number : ℕ) → slice_index_or (added ++ number ∷ []) (length added) 0 ≡ number
last_position added number =
    get_or-append_right added (number ∷ []) (length added) (length added) 0 refl (omega arith)
    ∙ ap (λ (k : ℕ). slice_index_or (number ∷ []) k 0) (zero_difference (length added))

pub listed_last : (added : List ℕ) (number : ℕ) → IsListed (added ++ number ∷ []) number
listed_last added number = (length added, omega (arith, length-append added (number ∷ [])), last_position added number)

pub listed_before : (added : List ℕ) (last number : ℕ) → IsListed added number → IsListed (added ++ last ∷ []) number
listed_before added last number l =
    (l.0, omega (arith, length-append added (last ∷ []), l.1), get_or_append_left added (last ∷ []) 0 l.0 l.1 ∙ l.2)

pub listed_cases : (added : List ℕ) (last number : ℕ) → IsListed (added ++ last ∷ []) number → IsListed added number ⊎ (number ≡ last)
listed_cases added last number l =
    elim (cases_lt l.0 (length added)) [
      | inl below ↦ inl (l.0, below, sym (get_or_append_left added (last ∷ []) 0 l.0 below) ∙ l.2)
      | inr above ↦
          let e : l.0 ≡ length added = omega (arith, length-append added (last ∷ []), l.1) in
          inr (sym l.2 ∙ ap (λ (k : ℕ). slice_index_or (added ++ last ∷ []) k 0) e ∙ last_position added last)
    ]

-- what was added stays so after one node more
pub grown_more : (first old : Known) (added : List ℕ) (number : ℕ) (new : Known) (added' : List ℕ)
    → IsGrown first added old → GrowsBy old added number new added' → IsGrown first added' new
grown_more first old added number new added' g (grows_not alike list) = record {
  fresh = λ q listed. g.fresh q (subst (λ (l : List ℕ). IsListed l q) list listed);
  rest = λ q. elim (g.rest q) [
    | inl e ↦ inl (alike q ∙ e)
    | inr listed ↦ inr (subst (λ (l : List ℕ). IsListed l q) (sym list) listed)
  ];
}
grown_more first old added number new added' g (grows_one none apart list) = record {
  fresh = λ q listed. elim (listed_cases added number q (subst (λ (l : List ℕ). IsListed l q) list listed)) [
    | inl before ↦ g.fresh q before
    | inr same ↦ elim (g.rest q) [
      | inl e ↦ sym e ∙ ap old same ∙ none
      | inr before ↦ g.fresh q before
    ]
  ];
  rest = λ q. elim (cases_eq q number) [
    | inl same ↦ inr (subst (λ (l : List ℕ). IsListed l q) (sym list) (subst (λ (k : ℕ). IsListed (added ++ number ∷ []) k) (sym same) (listed_last added number)))
    | inr other ↦ elim (g.rest q) [
      | inl e ↦ inl (apart q other ∙ e)
      | inr before ↦ inr (subst (λ (l : List ℕ). IsListed l q) (sym list) (listed_before added number q before))
    ]
  ];
}

pub adds_nothing : (padding told : Known) (number : ℕ) (hash : List ℕ) → is_some (told number) ≡ true → known_by padding told number ≡ Some hash
    → Adds padding told number hash told
adds_nothing padding told number hash there knows =
    let some = some_of (told number) there in
    let same = one_value (known_by padding told number) some.0 hash (known-told padding told number some.0 some.1) knows in
    let here : told number ≡ Some hash = some.1 ∙ ap (λ (x : List ℕ). Some x) same in record {
      here = here;
      apart = λ other _. refl;
      before = inl here;
      empty = λ none. absurd (not_both (told number) hash none here);
    }

pub nothing_there : (padding told : Known) (number : ℕ) → is_some (told number) ≡ true → known_by padding told number ≡ None → ⊥
nothing_there padding told number there none =
    let some = some_of (told number) there in
    not_both (told number) some.0 (unknown padding told number none).0 some.1

-- equal hashes, as the code compares them
not_false : (b : Bool) → not b ≡ false → b ≡ true
not_false true h = refl
not_false false h = absurd (true≢false h)

pub same_hash : (a b : List ℕ) (differ : Bool) → differ ≡ not (pointwise eqb a b) → differ ≡ false → a ≡ b
same_hash a b differ is fails =
    (slice_eq-Decides {E = eqb} Decides-eqb a b (pointwise eqb a b) refl).0 (not_false (pointwise eqb a b) (sym is ∙ fails))

-- ---- the state while nodes are taken

pub record IsUnderway (leaf_count : ℕ) (padding first : Known) (offers : List (ℕ × List ℕ)) (told : Known) (added : List ℕ) : Type 0 where
  pub grown : IsGrown first added told
  pub listed : (number : ℕ) → IsListed added number → (hash : List ℕ) × (told number ≡ Some hash)
  pub kept : (number : ℕ) (hash : List ℕ) → first number ≡ Some hash → told number ≡ Some hash
  pub empty : (number : ℕ) (hash x : List ℕ) → padding number ≡ Some x → told number ≡ Some hash → x ≡ hash
  pub touched : (number : ℕ) (hash : List ℕ) → told number ≡ Some hash → (first number ≡ Some hash) ⊎ IsTouched offers number
  pub forced : (new : Known) → IsExtended leaf_count (known_by padding first) offers new → (number : ℕ) (hash : List ℕ)
      → told number ≡ Some hash → new number ≡ Some hash
  pub inside : (number : ℕ) (hash : List ℕ) → told number ≡ Some hash → number < node_count leaf_count

module _ (leaf_count : ℕ) (padding first : Known) (offers : List (ℕ × List ℕ)) where
  -- nothing was added yet
  pub underway-begins : (root : List ℕ) → IsKept leaf_count padding root first → IsUnderway leaf_count padding first offers first []
  underway-begins root kept = record {
    grown = record { fresh = λ q l. absurd (omega (arith, l.1)); rest = λ q. inl refl };
    listed = λ q l. absurd (omega (arith, l.1));
    kept = λ q hash e. e;
    empty = kept.empty;
    touched = λ q hash e. inl e;
    forced = λ new extended q hash e. extended.kept q hash (known-told padding first q hash e);
    inside = kept.inside;
  }

  -- what was told stays told
  pub adds_keeps : (old new : Known) (number : ℕ) (hash : List ℕ) → Adds padding old number hash new
      → (q : ℕ) (h : List ℕ) → old q ≡ Some h → new q ≡ Some h
  adds_keeps old new number hash adds q h e =
      elim (cases_eq q number) [
        | inr other ↦ adds.apart q other ∙ e
        | inl same ↦
            let here : old number ≡ Some h = ap old (sym same) ∙ e in
            elim adds.before [
              | inr none ↦ absurd (not_both (old number) h none here)
              | inl before ↦ ap new same ∙ adds.here ∙ sym before ∙ here
            ]
      ]

  -- one node more
  module _ (old : Known) (added : List ℕ) (number : ℕ) (hash : List ℕ) (new : Known) (added' : List ℕ)
      (u : IsUnderway leaf_count padding first offers old added) (adds : Adds padding old number hash new)
      (grows : GrowsBy old added number new added') where
    adds_listed : (list : List ℕ) → GrowsBy old added number new list → (q : ℕ) → IsListed list q → IsListed added q ⊎ (q ≡ number)
    adds_listed list (grows_not alike e) q l = inl (subst (λ (x : List ℕ). IsListed x q) e l)
    adds_listed list (grows_one none apart e) q l = listed_cases added number q (subst (λ (x : List ℕ). IsListed x q) e l)

    adds_empty : (q : ℕ) (h x : List ℕ) → padding q ≡ Some x → new q ≡ Some h → x ≡ h
    adds_empty q h x padded e =
        elim (cases_eq q number) [
          | inr other ↦ u.empty q h x padded (sym (adds.apart q other) ∙ e)
          | inl same ↦
              let is : hash ≡ h = one_value (new number) hash h adds.here (ap new (sym same) ∙ e) in
              let here : padding number ≡ Some x = ap padding (sym same) ∙ padded in
              elim adds.before [
                | inl before ↦ u.empty number hash x here before ∙ is
                | inr none ↦ adds.empty none x here ∙ is
              ]
        ]

    pub underway_more : IsTouched offers number → number < node_count leaf_count
        → ((new' : Known) → IsExtended leaf_count (known_by padding first) offers new' → new' number ≡ Some hash)
        → IsUnderway leaf_count padding first offers new added'
    underway_more touched within forced = record {
      grown = grown_more first old added number new added' u.grown grows;
      listed = λ q l. elim (adds_listed added' grows q l) [
        | inl before ↦ let t = u.listed q before in (t.0, adds_keeps old new number hash adds q t.0 t.1)
        | inr same ↦ (hash, ap new same ∙ adds.here)
      ];
      kept = λ q h e. adds_keeps old new number hash adds q h (u.kept q h e);
      empty = adds_empty;
      touched = λ q h e. elim (cases_eq q number) [
        | inr other ↦ u.touched q h (sym (adds.apart q other) ∙ e)
        | inl same ↦ inr (subst (IsTouched offers) (sym same) touched)
      ];
      forced = λ new' extended q h e. elim (cases_eq q number) [
        | inr other ↦ u.forced new' extended q h (sym (adds.apart q other) ∙ e)
        | inl same ↦
            let is : hash ≡ h = one_value (new number) hash h adds.here (ap new (sym same) ∙ e) in
            ap new' same ∙ forced new' extended ∙ ap (λ (x : List ℕ). Some x) is
      ];
      inside = λ q h e. elim (cases_eq q number) [
        | inr other ↦ u.inside q h (sym (adds.apart q other) ∙ e)
        | inl same ↦ omega (arith, same, within)
      ];
    }

  -- what is known along the way is known in each tree that takes the nodes
  pub forced_known : (told : Known) (added : List ℕ) → IsUnderway leaf_count padding first offers told added
      → (new : Known) → IsExtended leaf_count (known_by padding first) offers new → (q : ℕ) (h : List ℕ)
      → known_by padding told q ≡ Some h → new q ≡ Some h
  forced_known told added u new extended q h knows =
      elim (some_or_none (told q)) [
        | inl some ↦
            let is : some.0 ≡ h = one_value (known_by padding told q) some.0 h (known-told padding told q some.0 some.1) knows in
            u.forced new extended q some.0 some.1 ∙ ap (λ (x : List ℕ). Some x) is
        | inr none ↦
            let padded : padding q ≡ Some h = sym (known-untold padding told q none) ∙ knows in
            elim (some_or_none (first q)) [
              | inl some ↦ absurd (not_both (told q) some.0 none (u.kept q some.0 some.1))
              | inr before ↦ extended.kept q h (known-untold padding first q before ∙ padded)
            ]
      ]

  -- why an offered node can't be told
  pub refused_offer : (told : Known) (added : List ℕ) → IsUnderway leaf_count padding first offers told added
      → (k number : ℕ) (hash : List ℕ) → slice_get offers k ≡ Some (number, hash) → IsOther padding told number hash
      → (new : Known) → ¬ IsExtended leaf_count (known_by padding first) offers new
  refused_offer told added u k number hash here isother new extended =
      isother.differs (one_value (new number) isother.held hash (forced_known told added u new extended number isother.held isother.knows) (extended.offered k number hash here))

  -- all offered nodes were told, and those from a number on together with their siblings
  module _ (told : Known) (added : List ℕ) (u : IsUnderway leaf_count padding first offers told added)
      (taken : (k number : ℕ) (hash : List ℕ) → slice_get offers k ≡ Some (number, hash) → told number ≡ Some hash)
      (b : ℕ) (done : (number : ℕ) (hash : List ℕ) → b ≤ number + 1 → 0 < number → told number ≡ Some hash → IsTold padding told number) where
    ancestor_told : (rows below k : ℕ) (hash : List ℕ) → slice_get offers k ≡ Some (below, hash) → b ≤ 2 * (ancestor rows below + 1)
        → (h : List ℕ) × (told (ancestor rows below) ≡ Some h)
    ancestor_told zero below k hash here high = (hash, taken k below hash here)
    ancestor_told (suc rows) below k hash here high =
        let child : ℕ = ancestor rows below in
        elim (cases_eq child 0) [
          | inl none ↦
              let top : parent child ≡ child = omega (arith, none) in
              let t = ancestor_told rows below k hash here (omega (arith, high, top)) in
              (t.0, ap told top ∙ t.1)
          | inr some ↦
              let t = ancestor_told rows below k hash here (omega (arith, high, some)) in
              let joined = done child t.0 (omega (arith, high, some)) (omega (arith, some)) t.1 in
              (node_hash joined.left joined.right, joined.told_parent)
        ]

    pub touched_told : (number : ℕ) → IsTouched offers number → b ≤ 2 * (number + 1) → (h : List ℕ) × (told number ≡ Some h)
    touched_told number t high =
        let r = ancestor_told t.rows t.below t.position t.hash t.offered (omega (arith, t.above, high)) in
        (r.0, ap told (sym t.above) ∙ r.1)

    -- a node that is not known is not known in any tree that takes the nodes
    missing_still : (new : Known) → IsExtended leaf_count (known_by padding first) offers new → (number : ℕ) → b ≤ 2 * (number + 1)
        → known_by padding told number ≡ None → (h : List ℕ) → new number ≡ Some h → ⊥
    missing_still new extended number high lacks h has =
        let lack = unknown padding told number lacks in
        let untouched : ¬ IsTouched offers number = λ t. let r = touched_told number t high in not_both (told number) r.0 lack.0 r.1 in
        let before : first number ≡ None =
        elim (some_or_none (first number)) [
          | inl some ↦ absurd (not_both (told number) some.0 lack.0 (u.kept number some.0 some.1))
          | inr none ↦ none
        ] in
        let still : new number ≡ None = extended.others number untouched ∙ known-untold padding first number before ∙ lack.1 in
        not_both (new number) h still has

    -- why the node above a touched one can't be told
    pub refused_join : (number : ℕ) → 0 < number → IsTouched offers number → b ≤ 2 * (number + 1) → b ≤ 4 * (parent number + 1) → IsUnjoinable padding told number
        → (new : Known) → ¬ IsExtended leaf_count (known_by padding first) offers new
    refused_join number some touched high high' (lacks_left lacks) new extended =
        let j = extended.joined number touched some in
        missing_still new extended (2 * parent number + 1) (omega (arith, high')) lacks j.left j.knows_left
    refused_join number some touched high high' (lacks_right lacks) new extended =
        let j = extended.joined number touched some in
        missing_still new extended (2 * parent number + 2) (omega (arith, high')) lacks j.right j.knows_right
    refused_join number some touched high high' (has_other left right is_left is_right isother) new extended =
        let j = extended.joined number touched some in
        let p : ℕ = parent number in
        let l = one_value (new (2 * p + 1)) j.left left j.knows_left (forced_known told added u new extended (2 * p + 1) left is_left) in
        let r = one_value (new (2 * p + 2)) j.right right j.knows_right (forced_known told added u new extended (2 * p + 2) right is_right) in
        let above : new p ≡ Some (node_hash left right) = j.knows_parent ∙ (λ i. Some (node_hash (l i) (r i))) in
        isother.differs (one_value (new p) isother.held (node_hash left right) (forced_known told added u new extended p isother.held isother.knows) above)

    -- what the node above a touched one has to be
    pub forced_join : (number : ℕ) → 0 < number → IsTouched offers number → (left right : List ℕ)
        → known_by padding told (2 * parent number + 1) ≡ Some left → known_by padding told (2 * parent number + 2) ≡ Some right
        → (new : Known) → IsExtended leaf_count (known_by padding first) offers new → new (parent number) ≡ Some (node_hash left right)
    forced_join number some touched left right is_left is_right new extended =
        let j = extended.joined number touched some in
        let p : ℕ = parent number in
        let l = one_value (new (2 * p + 1)) j.left left j.knows_left (forced_known told added u new extended (2 * p + 1) left is_left) in
        let r = one_value (new (2 * p + 2)) j.right right j.knows_right (forced_known told added u new extended (2 * p + 2) right is_right) in
        j.knows_parent ∙ (λ i. Some (node_hash (l i) (r i)))

    -- with all rows done, the nodes are taken
    pub all_taken : b ≤ 2 → IsExtended leaf_count (known_by padding first) offers (known_by padding told)
    all_taken low = record {
      inside = λ k number hash here. u.inside number hash (taken k number hash here);
      kept = known_more padding first told u.kept u.empty;
      offered = λ k number hash here. known-told padding told number hash (taken k number hash here);
      joined = λ number touched some.
          let t = touched_told number touched (omega (arith, low)) in
          joined_from_told padding told number (done number t.0 (omega (arith, low, some)) some t.1);
      others = λ number untouched. elim (some_or_none (told number)) [
        | inl some ↦ elim (u.touched number some.0 some.1) [
          | inl before ↦ known-told padding told number some.0 some.1 ∙ sym (known-told padding first number some.0 before)
          | inr touched ↦ absurd (untouched touched)
        ]
        | inr none ↦ elim (some_or_none (first number)) [
          | inl some ↦ absurd (not_both (told number) some.0 none (u.kept number some.0 some.1))
          | inr before ↦ known-untold padding told number none ∙ sym (known-untold padding first number before)
        ]
      ];
    }

    pub all_kept : b ≤ 2 → (root : List ℕ) → IsKept leaf_count padding root first → IsKept leaf_count padding root told
    all_kept low root kept = record {
      first = u.kept 0 root kept.first;
      inside = u.inside;
      empty = u.empty;
      joined = λ number hash some e. done number hash (omega (arith, low, some)) some e;
    }

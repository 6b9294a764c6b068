-- What becomes of closed shares that are looked at, and how long open shares are.
use Rattle.std.proofs.Common.{rules, ◌≡◌, ℕ, true, false, cond, List, [], ◌∷◌, refl, sym, subst, ap, ◌∙◌, Result, Ok, Err, inl, inr}
use Rattle.std.specs.Prelude.{Option, None, Some, is_some, option_map, unwrap_or, ◌⊎◌, IfSome, IsErrAnd, OnErr, OnOk}
use Rattle.std.specs.Cmp.Lexicographic.{slice_cmp}
use Rattle.std.specs.Ordering.{nat_cmp, ordering_then, is_eq}
use Rattle.std.specs.declared.cmp.Ordering.TheVariants.{Less, Equal, Greater}
use Rattle.std.proofs.lemmas.Cmp.{nat_list_cmp_total, tied_itself}
use mathlib.Core.Bool.{true≢false}
use Rattle.share_store.specs.declared.error.StoreError.{StoreError}
use Rattle.share_folders.specs.declared.table.KeptShare.{KeptShare}
use Rattle.share_folders.specs.declared.files.OpenShare.{OpenShare}
use Rattle.share_store.specs.Shelf.{ShareKey, at, same_key}
use Rattle.share_folders.specs.Table.{AreSeen, HasUnasked, IsSeen, IsUnasked, StayBeside, has_index}
use Rattle.share_folders.specs.Folder.{IsOpenedAt, length_at, lengths_of}
use Rattle.share_store.proofs.ShelfLaws.{same_is}

pub stays : (k : Option KeptShare) → IsSeen k k
stays None = refl
stays (Some k) = inl refl

pub all_stay : (old new : List (ShareKey × KeptShare)) → new ≡ old → AreSeen old new
all_stay old new same key = subst (λ (cs : List (ShareKey × KeptShare)). IsSeen (at key old) (at key cs)) (sym same) (stays (at key old))

seen_after : (k : KeptShare) (mid new : Option KeptShare) → mid ≡ Some k → IsSeen mid new → (new ≡ Some k) ⊎ ((k.length ≡ None) × ((new ≡ None) ⊎ ((n : ℕ) × (new ≡ Some (record { length = Some n; digest = k.digest })))))
seen_after k mid new is seen = subst (λ (m : Option KeptShare). IsSeen m new) is seen

gone_after : (mid new : Option KeptShare) → mid ≡ None → IsSeen mid new → new ≡ None
gone_after mid new is seen = subst (λ (m : Option KeptShare). IsSeen m new) is seen

none_known : {X : Type 0} (n : ℕ) → Some n ≡ None → X
none_known n is = search rules

known_after : (d : List ℕ) (n : ℕ) (new : Option KeptShare)
    → (new ≡ Some (record { length = Some n; digest = d })) ⊎ ((Some n ≡ None) × ((new ≡ None) ⊎ ((m : ℕ) × (new ≡ Some (record { length = Some m; digest = d })))))
    → new ≡ Some (record { length = Some n; digest = d })
known_after d n new (inl same) = same
known_after d n new (inr other) = none_known n other.0

pub seen_more : (old mid new : Option KeptShare) → IsSeen old mid → IsSeen mid new → IsSeen old new
seen_more None mid new first more = gone_after mid new first more
seen_more (Some k) mid new (inl same) more = seen_after k mid new same more
seen_more (Some k) mid new (inr (unknown, inl gone)) more = inr (unknown, inl (gone_after mid new gone more))
seen_more (Some k) mid new (inr (unknown, inr known)) more =
    inr (unknown, inr (known.0, known_after k.digest known.0 new (seen_after (record { length = Some known.0; digest = k.digest }) mid new known.1 more)))

pub all_seen_more : (old mid new : List (ShareKey × KeptShare)) → AreSeen old mid → AreSeen mid new → AreSeen old new
all_seen_more old mid new first more key = seen_more (at key old) (at key mid) (at key new) (first key) (more key)

-- one share is looked at, and the others stay
pub seen_at : (old new : List (ShareKey × KeptShare)) (key : ShareKey) → IsSeen (at key old) (at key new)
    → ((other : ShareKey) → same_key key other ≡ false → at other new ≡ at other old) → AreSeen old new
seen_at old new key here others other =
    elim (same_key key other) as (λ b. same_key key other ≡ b → IsSeen (at other old) (at other new)) [
      | true ↦ λ e. subst (λ (p : ShareKey). IsSeen (at p old) (at p new)) (same_is key other e) here
      | false ↦ λ e. subst (λ (x : Option KeptShare). IsSeen (at other old) x) (sym (others other e)) (stays (at other old))
    ] refl

pub noted : (digest : List ℕ) (n : ℕ) (old new : Option KeptShare) → old ≡ Some (record { length = None; digest = digest })
    → new ≡ Some (record { length = Some n; digest = digest }) → IsSeen old new
noted digest n old new is after = subst (λ (o : Option KeptShare). IsSeen o new) (sym is) (inr (refl, inr (n, after)))

pub gone : (digest : List ℕ) (old new : Option KeptShare) → old ≡ Some (record { length = None; digest = digest }) → new ≡ None → IsSeen old new
gone digest old new is after = subst (λ (o : Option KeptShare). IsSeen o new) (sym is) (inr (refl, inl after))

pub noted_all : (r : Result Unit StoreError) (key : ShareKey) (digest : List ℕ) (n : ℕ) (old new : List (ShareKey × KeptShare)) → at key old ≡ Some (record { length = None; digest = digest })
    → OnOk r (at key new ≡ Some (record { length = Some n; digest = digest })) → OnOk r ((other : ShareKey) → same_key key other ≡ false → at other new ≡ at other old)
    → OnErr r (new ≡ old) → AreSeen old new
noted_all (Ok u) key digest n old new is after others err = seen_at old new key (noted digest n (at key old) (at key new) is after) others
noted_all (Err e) key digest n old new is after others err = all_stay old new err

pub gone_all : (key : ShareKey) (digest : List ℕ) (old new : List (ShareKey × KeptShare)) → at key old ≡ Some (record { length = None; digest = digest }) → at key new ≡ None
    → ((other : ShareKey) → same_key key other ≡ false → at other new ≡ at other old) → AreSeen old new
gone_all key digest old new is after others = seen_at old new key (gone digest (at key old) (at key new) is after) others

-- what is found of an open share's length
pub length_is : {F : Type 0} (opened : List (ShareKey × OpenShare F)) (key : ShareKey)
    → length_at key (lengths_of opened) ≡ unwrap_or (option_map (λ (o : OpenShare F). o.length) (at key opened)) 0
length_is [] key = refl
length_is {F} (o ∷ opened) key =
    elim (same_key key o.0) as (λ b. unwrap_or (cond b (Some o.1.length) (at key (lengths_of opened))) 0
    ≡ unwrap_or (option_map (λ (o : OpenShare F). o.length) (cond b (Some o.1) (at key opened))) 0) [
      | true ↦ refl
      | false ↦ length_is opened key
    ]

-- nothing is written to one that is not there
pub none_written : {F : Type 0} (opened : List (ShareKey × OpenShare F)) (key : ShareKey) → at key opened ≡ None → length_at key (lengths_of opened) ≡ 0
none_written {F} opened key gone = length_is opened key ∙ ap (λ (r : Option (OpenShare F)). unwrap_or (option_map (λ (o : OpenShare F). o.length) r) 0) gone

-- the others were found as long as before
pub opened_at : {F : Type 0} (key : ShareKey) (old new : List (ShareKey × OpenShare F))
    → ((other : ShareKey) → same_key key other ≡ false → at other new ≡ at other old) → IsOpenedAt key (lengths_of old) (lengths_of new)
opened_at {F} key old new others other apart =
    length_is new other ∙ ap (λ (r : Option (OpenShare F)). unwrap_or (option_map (λ (o : OpenShare F). o.length) r) 0) (others other apart) ∙ sym (length_is old other)

-- a key of another storage index is another key
pub other_index : (index : List ℕ) (n : ℕ) (key : ShareKey) → has_index index key ≡ false → same_key (index, n) key ≡ false
other_index index n key = elim (slice_cmp nat_cmp index key.0) as (λ o. is_eq o ≡ false → is_eq (ordering_then o (nat_cmp n key.1)) ≡ false) [
  | Less ↦ λ e. refl
  | Equal ↦ λ e. absurd (true≢false e)
  | Greater ↦ λ e. refl
]

-- the shares of other storage indexes stay where one more is looked at
pub beside_more : (index : List ℕ) (n : ℕ) (old mid new : List (ShareKey × KeptShare)) → StayBeside (has_index index) old mid → StayBeside (same_key (index, n)) mid new
    → StayBeside (has_index index) old new
beside_more index n old mid new first more key apart = more key (other_index index n key apart) ∙ first key apart

-- a share whose length is noted has one
pub known_noted : (r : Result Unit StoreError) (digest : List ℕ) (n : ℕ) (new : Option KeptShare) → OnOk r (new ≡ Some (record { length = Some n; digest = digest }))
    → OnOk r (IfSome new (λ k. is_some k.length ≡ true))
known_noted (Ok u) digest n new is = subst (λ (x : Option KeptShare). IfSome x (λ k. is_some k.length ≡ true)) (sym is) refl
known_noted (Err e) digest n new is = is

pub known_gone : (new : Option KeptShare) → new ≡ None → IfSome new (λ k. is_some k.length ≡ true)
known_gone new is = subst (λ (x : Option KeptShare). IfSome x (λ k. is_some k.length ≡ true)) (sym is) tt

pub beside_noted : (r : Result Unit StoreError) (key : ShareKey) (old new : List (ShareKey × KeptShare))
    → OnOk r ((other : ShareKey) → same_key key other ≡ false → at other new ≡ at other old) → OnErr r (new ≡ old) → StayBeside (same_key key) old new
beside_noted (Ok u) key old new others err = others
beside_noted (Err e) key old new others err = λ other apart. ap (at other) err

-- open shares that stay are as long as they were
pub on_err_lengths : {F : Type 0} (r : Result Unit StoreError) (old new : List (ShareKey × OpenShare F)) → OnErr r (new ≡ old) → OnErr r (lengths_of new ≡ lengths_of old)
on_err_lengths (Ok u) old new same = tt
on_err_lengths (Err e) old new same = ap lengths_of same

-- ---- shares whose lengths were not asked

pub unasked_at : (digest : List ℕ) (found : Option KeptShare) → found ≡ Some (record { length = None; digest = digest }) → IsUnasked found
unasked_at digest found is = subst IsUnasked (sym is) refl

-- a share whose length was not asked after a look was not asked before it
unasked_was : (old mid : Option KeptShare) → IsSeen old mid → IsUnasked mid → IsUnasked old
unasked_was None mid gone unasked = subst IsUnasked gone unasked
unasked_was (Some k) mid (inl same) unasked = subst IsUnasked same unasked
unasked_was (Some k) mid (inr looked) unasked = looked.0

itself : (index : List ℕ) (n : ℕ) → has_index index (index, n) ≡ true
itself index n = ap is_eq (tied_itself nat_list_cmp_total index)

-- so a fault at one of the shares of a storage index has its cause there
pub unasked_under : (index : List ℕ) (n : ℕ) (old mid : List (ShareKey × KeptShare)) → AreSeen old mid → IsUnasked (at (index, n) mid) → HasUnasked index old
unasked_under index n old mid seen unasked = ((index, n), itself index n, unasked_was (at (index, n) old) (at (index, n) mid) (seen (index, n)) unasked)

-- an error that was handed on
pub same_error : (r q : Result Unit StoreError) (f x : StoreError) → IsErrAnd r (λ (e : StoreError). e ≡ f) → r ≡ Err x → q ≡ Err f → q ≡ Err x
same_error (Ok u) q f x answered is was = absurd answered
same_error (Err e) q f x answered is was = was ∙ ap Err (sym answered) ∙ is

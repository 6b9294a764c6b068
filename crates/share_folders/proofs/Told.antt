-- What a list tells.
use Rattle.std.proofs.Common.{◌≡◌, Bool, true, false, cond, List, ℕ, [], ◌∷◌, refl, sym, ap, subst}
use Rattle.std.specs.Prelude.{Option, Some, None, Result, Ok, Err, IfOk, Contains, map, filter}
use Rattle.std.proofs.lemmas.List.Elements.{Contains-append_left, Contains-append_right, Contains-push}
use Rattle.wire.specs.declared.message.HeldShare.{HeldShare}
use Rattle.share_store.specs.declared.error.StoreError.{StoreError}
use Rattle.share_store.specs.Shelf.{ShareKey, at, held_by, is_under, same_key}
use Rattle.share_store.proofs.ShelfLaws.{same_is}
use Rattle.share_folders.specs.declared.table.KeptShare.{KeptShare}
use Rattle.share_folders.specs.Stored.{IsNoted}

abbrev told : ShareKey × KeptShare → HeldShare
told e = record { share = e.0.1; digest = e.1.digest }

abbrev digest_of : KeptShare → List ℕ
digest_of k = k.digest

none_some : {X : Type 0} (k : KeptShare) → None ≡ Some k → X
none_some k is = cc

first_of : (h : HeldShare) (hs : List HeldShare) → Contains (h ∷ hs) h
first_of h hs = Contains-append_left (h ∷ []) hs h (Contains-push [] h)

-- an entry under the storage index is told
entry_told : (index : List ℕ) (e : ShareKey × KeptShare) (es : List (ShareKey × KeptShare)) → is_under index e.0 ≡ true → Contains (held_by digest_of index (e ∷ es)) (told e)
entry_told index e es under =
    subst (λ (b : Bool). Contains (map told (cond b (e ∷ filter (λ (d : ShareKey × KeptShare). is_under index d.0) es) (filter (λ (d : ShareKey × KeptShare). is_under index d.0) es))) (told e)) (sym under)
    (first_of (told e) (held_by digest_of index es))

-- and so are those behind another one
later_told : (index : List ℕ) (e : ShareKey × KeptShare) (es : List (ShareKey × KeptShare)) (h : HeldShare) → Contains (held_by digest_of index es) h → Contains (held_by digest_of index (e ∷ es)) h
later_told index e es h there =
    elim (is_under index e.0) as (λ b. Contains (map told (cond b (e ∷ filter (λ (d : ShareKey × KeptShare). is_under index d.0) es) (filter (λ (d : ShareKey × KeptShare). is_under index d.0) es))) h) [
      | true ↦ Contains-append_right (told e ∷ []) (held_by digest_of index es) h there
      | false ↦ there
    ]

abbrev share_or : KeptShare → Option KeptShare → KeptShare
share_or k None = k
share_or k (Some j) = j

one_share : (j k : KeptShare) → Some j ≡ Some k → j ≡ k
one_share j k same = ap (share_or k) {x = Some j} {y = Some k} same

at_told : (index : List ℕ) (key : ShareKey) (k : KeptShare) (es : List (ShareKey × KeptShare)) → is_under index key ≡ true → at key es ≡ Some k
    → Contains (held_by digest_of index es) (record { share = key.1; digest = k.digest })
at_told index key k [] under is = none_some k is
at_told index key k (e ∷ es) under is =
    elim (same_key key e.0) as (λ b. same_key key e.0 ≡ b → cond b (Some e.1) (at key es) ≡ Some k → Contains (held_by digest_of index (e ∷ es)) (record { share = key.1; digest = k.digest })) [
      | true ↦ λ same found.
          let keys : key ≡ e.0 = same_is key e.0 same in
          let shares : e.1 ≡ k = one_share e.1 k found in
          subst (λ (h : HeldShare). Contains (held_by digest_of index (e ∷ es)) h) (λ i. record { share = (sym keys i).1; digest = (shares i).digest })
          (entry_told index e es (subst (λ (q : ShareKey). is_under index q ≡ true) keys under))
      | false ↦ λ apart found. later_told index e es _ (at_told index key k es under found)
    ] refl is

-- a share that is noted is told by a list that went well
pub noted_told : (r : Result (List HeldShare) StoreError) (index : List ℕ) (closed : List (ShareKey × KeptShare)) (key : ShareKey) (digest bytes : List ℕ)
    → IfOk r (λ (found : List HeldShare). found ≡ held_by (λ (k : KeptShare). k.digest) index closed) → IsNoted closed key digest bytes → is_under index key ≡ true
    → IfOk r (λ (found : List HeldShare). Contains found (record { share = key.1; digest = digest }))
noted_told (Err e) index closed key digest bytes is noted under = tt
noted_told (Ok found) index closed key digest bytes is noted under =
    subst (λ (hs : List HeldShare). Contains hs (record { share = key.1; digest = digest })) (sym is)
    (at_told index key (record { length = noted.long; digest = digest }) closed under noted.there)

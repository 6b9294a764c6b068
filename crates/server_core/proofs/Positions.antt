-- The position of a bucket, and what a change there does.
use Rattle.std.proofs.Common.{◌≡◌, ℕ, zero, suc, ◌+◌, List, [], ◌∷◌, Bool, true, false, cond, not, Option, Some, None, get_or, set, refl, ap, subst, sym, ◌∙◌, add-one}
use Rattle.std.specs.List.{remove}
use Rattle.wire.specs.declared.message.ShareId.{ShareId}
use Rattle.server_core.specs.declared.bucket.Bucket.{Bucket}
use Rattle.server_core.specs.Buckets.{same_id, position_of, position_after, changed, ended, bucket_at}
use Rattle.server_core.specs.Sound.{AreApart}
use Rattle.std.specs.Prelude.{slice_get}
use Rattle.server_core.proofs.Listed.{eq_of_same, same_refl}

some_after : (o : Option ℕ) (k : ℕ) → position_after o ≡ Some k → (j : ℕ) × (o ≡ Some j) × (k ≡ j + 1)
some_after None k e = absurd cc
some_after (Some j) k e = (j, refl, cc)

changed_at-step : (same : Bool) (f : Bucket → Bucket) (d b : Bucket) (bs ds : List Bucket) (o : Option ℕ) (k : ℕ) → ((j : ℕ) → o ≡ Some j → set bs j (f (get_or bs j d)) ≡ ds) → cond same (Some 0) (position_after o) ≡ Some k → set (b ∷ bs) k (f (get_or (b ∷ bs) k d)) ≡ cond same (f b ∷ bs) (b ∷ ds)
changed_at-step true f d b bs ds o k ih e = let zero_is : k ≡ 0 = cc in rw zero_is refl
changed_at-step false f d b bs ds o k ih e =
    let s = some_after o k e in
    rw (s.2, add-one) (ap (λ xs. b ∷ xs) (ih s.0 s.1))

-- a change at the bucket's position
pub changed_at : (id : ShareId) (f : Bucket → Bucket) (bs : List Bucket) (k : ℕ) (d : Bucket) → position_of id bs ≡ Some k → set bs k (f (get_or bs k d)) ≡ changed id f bs
changed_at id f [] k d e = absurd cc
changed_at id f (b ∷ bs) k d e = changed_at-step (same_id b.id id) f d b bs (changed id f bs) (position_of id bs) k (λ j. changed_at id f bs j d) e

found_at-step : (same : Bool) (b d : Bucket) (bs : List Bucket) (o : Option ℕ) (p : Option Bucket) (k : ℕ) → ((j : ℕ) → o ≡ Some j → p ≡ Some (get_or bs j d)) → cond same (Some 0) (position_after o) ≡ Some k → cond same (Some b) p ≡ Some (get_or (b ∷ bs) k d)
found_at-step true b d bs o p k ih e = let zero_is : k ≡ 0 = cc in rw zero_is refl
found_at-step false b d bs o p k ih e =
    let s = some_after o k e in
    rw (s.2, add-one) (ih s.0 s.1)

-- the bucket at its position
pub found_at : (id : ShareId) (bs : List Bucket) (k : ℕ) (d : Bucket) → position_of id bs ≡ Some k → bucket_at id bs ≡ Some (get_or bs k d)
found_at id [] k d e = absurd cc
found_at id (b ∷ bs) k d e = found_at-step (same_id b.id id) b d bs (position_of id bs) (bucket_at id bs) k (λ j. found_at id bs j d) e

-- where there is no bucket of a share, none ends
ended_none-step : (same : Bool) (b : Bucket) (bs ds : List Bucket) (p : Option Bucket) → (p ≡ None → ds ≡ bs) → cond same (Some b) p ≡ None → cond (not same) (b ∷ ds) ds ≡ b ∷ bs
ended_none-step true b bs ds p ih e = absurd cc
ended_none-step false b bs ds p ih e = ap (λ xs. b ∷ xs) (ih e)

ended_none : (id : ShareId) (bs : List Bucket) → bucket_at id bs ≡ None → ended id bs ≡ bs
ended_none id [] e = refl
ended_none id (b ∷ bs) e = ended_none-step (same_id b.id id) b bs (ended id bs) (bucket_at id bs) (ended_none id bs) e

removed_at-step : (same : Bool) (b : Bucket) (bs ds : List Bucket) (o : Option ℕ) (k : ℕ) → (same ≡ true → ds ≡ bs) → ((j : ℕ) → o ≡ Some j → remove bs j ≡ ds) → cond same (Some 0) (position_after o) ≡ Some k
    → remove (b ∷ bs) k ≡ cond (not same) (b ∷ ds) ds
removed_at-step true b bs ds o k none ih e = let zero_is : k ≡ 0 = cc in rw zero_is (sym (none refl))
removed_at-step false b bs ds o k none ih e =
    let s = some_after o k e in
    rw (s.2, add-one) (ap (λ xs. b ∷ xs) (ih s.0 s.1))

-- the bucket at its position ends, where no share has two
pub removed_at : (id : ShareId) (bs : List Bucket) (k : ℕ) → position_of id bs ≡ Some k → AreApart bs → remove bs k ≡ ended id bs
removed_at id [] k e apart = absurd cc
removed_at id (b ∷ bs) k e apart =
    removed_at-step (same_id b.id id) b bs (ended id bs) (position_of id bs) k
    (λ is. ended_none id bs (subst (λ (i : ShareId). bucket_at i bs ≡ None) (eq_of_same b.id id is) apart.0))
    (λ j at. removed_at id bs j at apart.1) e

-- a bucket stands where its share is found, as no share has two
pub placed_at : (bs : List Bucket) (k : ℕ) (b : Bucket) → slice_get bs k ≡ Some b → AreApart bs → position_of b.id bs ≡ Some k
placed_at [] k b e apart = absurd cc
placed_at (c ∷ bs) zero b e apart =
    let here : c ≡ b = cc in
    ap (λ (t : Bool). cond t (Some 0) (position_after (position_of b.id bs))) (ap (λ (x : Bucket). same_id x.id b.id) here ∙ same_refl b.id)
placed_at (c ∷ bs) (suc k) b e apart = by (same_id c.id b.id) refl (placed_at bs k b e apart.1)
  where
    by : (same : Bool) → same_id c.id b.id ≡ same → position_of b.id bs ≡ Some k → cond same (Some 0) (position_after (position_of b.id bs)) ≡ Some (suc k)
    by true is later =
        let none : bucket_at b.id bs ≡ None = subst (λ (i : ShareId). bucket_at i bs ≡ None) (eq_of_same c.id b.id is) apart.0 in
        let some : bucket_at b.id bs ≡ Some (get_or bs k b) = found_at b.id bs k b later in
        absurd cc
    by false is later = rw later (ap Some (add-one k))

-- Look-ups of buckets.
use Rattle.std.proofs.Common.{◌≡◌, ◌≤◌, ℕ, suc, List, [], ◌∷◌, ◌++◌, Bool, true, false, cond, Option, Some, None, not, length, refl, sym, ◌∙◌, ap, subst, arith}
use Rattle.std.specs.Prelude.{◌&&◌, bytes_eq, nat_eq, filter}
use Rattle.std.proofs.lemmas.Bool.Decides.{nat_tests}
use Rattle.std.proofs.lemmas.Slice.Eq.{bytes_eq-Decides}
use Rattle.lemmas.proofs.Bools.{both}
use Rattle.wire.specs.declared.message.ShareId.{ShareId}
use Rattle.server_core.specs.declared.bucket.Bucket.{Bucket}
use Rattle.server_core.specs.Buckets.{same_id, bucket_at, changed, ended}
use Rattle.server_core.specs.Sound.{AreApart}

number_is : (m n : ℕ) → nat_eq m n ≡ true → m ≡ n
number_is m n e = grind (arith, nat_tests)

number_itself : (n : ℕ) → nat_eq n n ≡ true
number_itself n = grind (arith, nat_tests)

pub eq_of_same : (a b : ShareId) → same_id a b ≡ true → a ≡ b
eq_of_same a b e =
    let p = both (bytes_eq a.index b.index) (nat_eq a.share b.share) e in
    let f : List ℕ → ShareId = λ i. record { index = i; share = a.share } in
    let g : ℕ → ShareId = λ n. record { index = b.index; share = n } in
    ap f ((bytes_eq-Decides a.index b.index).0 p.0) ∙ ap g (number_is a.share b.share p.1)

pub same_refl : (a : ShareId) → same_id a a ≡ true
same_refl a =
    ap (λ (x : Bool). x && nat_eq a.share a.share) ((bytes_eq-Decides a.index a.index).1 refl) ∙ number_itself a.share

-- two ids of which one is a bucket's and the other is not
apart : (a id other : ShareId) → same_id a id ≡ true → same_id other id ≡ false → same_id a other ≡ false
apart a id other e f = not_same (same_id a other) refl
  where
    not_same : (b : Bool) → same_id a other ≡ b → b ≡ false
    not_same false is = refl
    not_same true is =
        let same : same_id other id ≡ true = ap (λ (i : ShareId). same_id i id) (sym (eq_of_same a other is)) ∙ e in
        absurd cc

pub other_of : (a b : ShareId) → same_id a b ≡ false → same_id b a ≡ false
other_of a b f = not_same (same_id b a) refl
  where
    not_same : (x : Bool) → same_id b a ≡ x → x ≡ false
    not_same false is = refl
    not_same true is =
        let same : same_id a b ≡ true = ap (λ (i : ShareId). same_id i b) (sym (eq_of_same b a is)) ∙ same_refl b in
        absurd cc

-- ---- one more bucket

bucket-step : (same : Bool) (b : Bucket) (o p : Option Bucket) → o ≡ p → cond same (Some b) o ≡ cond same (Some b) p
bucket-step same b o p e = ap (λ q. cond same (Some b) q) e

push-step : (same : Bool) (y : Bucket) (o p q : Option Bucket) → (o ≡ None → p ≡ q) → cond same (Some y) o ≡ None → cond same (Some y) p ≡ q
push-step true y o p q ih e = absurd cc
push-step false y o p q ih e = ih e

pub bucket_push : (id : ShareId) (bs : List Bucket) (x : Bucket) → bucket_at id bs ≡ None → bucket_at id (bs ++ x ∷ []) ≡ cond (same_id x.id id) (Some x) None
bucket_push id [] x e = refl
bucket_push id (b ∷ bs) x e = push-step (same_id b.id id) b (bucket_at id bs) (bucket_at id (bs ++ x ∷ [])) _ (bucket_push id bs x) e

pub bucket_push_other : (id : ShareId) (bs : List Bucket) (x : Bucket) → same_id x.id id ≡ false → bucket_at id (bs ++ x ∷ []) ≡ bucket_at id bs
bucket_push_other id [] x e = ap (λ (t : Bool). cond t (Some x) None) e
bucket_push_other id (b ∷ bs) x e = bucket-step (same_id b.id id) b _ _ (bucket_push_other id bs x e)

-- a bucket that is found with an id has that id
pub bucket_id : (id : ShareId) (bs : List Bucket) (b : Bucket) → bucket_at id bs ≡ Some b → same_id b.id id ≡ true
bucket_id id [] b e = absurd cc
bucket_id id (c ∷ bs) b e = id-step (same_id c.id id) refl (bucket_id id bs b) e where
  id-step : (same : Bool) → same_id c.id id ≡ same → (bucket_at id bs ≡ Some b → same_id b.id id ≡ true) → cond same (Some c) (bucket_at id bs) ≡ Some b → same_id b.id id ≡ true
  id-step true is ih h = let here : c ≡ b = cc in ap (λ (z : Bucket). same_id z.id id) (sym here) ∙ is
  id-step false is ih h = ih h

none_head : (same : Bool) (c : Bucket) (o : Option Bucket) → cond same (Some c) o ≡ None → (same ≡ false) × (o ≡ None)
none_head true c o e = absurd cc
none_head false c o e = (refl, e)

pub apart_push : (bs : List Bucket) (x : Bucket) → bucket_at x.id bs ≡ None → AreApart bs → AreApart (bs ++ x ∷ [])
apart_push [] x e a = (refl, tt)
apart_push (b ∷ bs) x e a =
    let h = none_head (same_id b.id x.id) b (bucket_at x.id bs) e in
    (bucket_push_other b.id bs x (other_of b.id x.id h.0) ∙ a.0, apart_push bs x h.1 a.1)

-- ---- a bucket changed

-- a change that keeps the share
abbrev pub KeepsId : (Bucket → Bucket) → Type 0
KeepsId f = (b : Bucket) → (f b).id ≡ b.id

pub changed_other : (id other : ShareId) (f : Bucket → Bucket) (bs : List Bucket) → KeepsId f → same_id other id ≡ false → bucket_at other (changed id f bs) ≡ bucket_at other bs
changed_other id other f [] k ne = refl
changed_other id other f (b ∷ bs) k ne = changed-step (same_id b.id id) refl (changed_other id other f bs k ne) where
  changed-step : (same : Bool) → same_id b.id id ≡ same → bucket_at other (changed id f bs) ≡ bucket_at other bs → bucket_at other (cond same (f b ∷ bs) (b ∷ changed id f bs)) ≡ cond (same_id b.id other) (Some b) (bucket_at other bs)
  changed-step true is ih =
      let old : same_id b.id other ≡ false = apart b.id id other is ne in
      let new : same_id (f b).id other ≡ false = ap (λ (i : ShareId). same_id i other) (k b) ∙ old in
      ap (λ (t : Bool). cond t (Some (f b)) (bucket_at other bs)) new ∙ sym (ap (λ (t : Bool). cond t (Some b) (bucket_at other bs)) old)
  changed-step false is ih = bucket-step (same_id b.id other) b _ _ ih

pub changed_same : (id : ShareId) (f : Bucket → Bucket) (bs : List Bucket) (b : Bucket) → KeepsId f → bucket_at id bs ≡ Some b → bucket_at id (changed id f bs) ≡ Some (f b)
changed_same id f [] b k e = absurd cc
changed_same id f (c ∷ bs) b k e = same-step (same_id c.id id) refl (changed_same id f bs b k) e where
  same-step : (same : Bool) → same_id c.id id ≡ same → (bucket_at id bs ≡ Some b → bucket_at id (changed id f bs) ≡ Some (f b)) → cond same (Some c) (bucket_at id bs) ≡ Some b → bucket_at id (cond same (f c ∷ bs) (c ∷ changed id f bs)) ≡ Some (f b)
  same-step true is ih h =
      let here : c ≡ b = cc in
      ap (λ (t : Bool). cond t (Some (f c)) (bucket_at id bs)) (ap (λ (i : ShareId). same_id i id) (k c) ∙ is) ∙ ap (λ (z : Bucket). Some (f z)) here
  same-step false is ih h = ap (λ (t : Bool). cond t (Some c) (bucket_at id (changed id f bs))) is ∙ ih h

pub changed_none : (id : ShareId) (f : Bucket → Bucket) (bs : List Bucket) → KeepsId f → bucket_at id bs ≡ None → bucket_at id (changed id f bs) ≡ None
changed_none id f [] k e = refl
changed_none id f (c ∷ bs) k e = none-step (same_id c.id id) refl (changed_none id f bs k) e where
  none-step : (same : Bool) → same_id c.id id ≡ same → (bucket_at id bs ≡ None → bucket_at id (changed id f bs) ≡ None) → cond same (Some c) (bucket_at id bs) ≡ None → bucket_at id (cond same (f c ∷ bs) (c ∷ changed id f bs)) ≡ None
  none-step true is ih h = absurd cc
  none-step false is ih h = ap (λ (t : Bool). cond t (Some c) (bucket_at id (changed id f bs))) is ∙ ih h

stays_none : (id other : ShareId) (f : Bucket → Bucket) (bs : List Bucket) → KeepsId f → bucket_at other bs ≡ None → bucket_at other (changed id f bs) ≡ None
stays_none id other f bs k e = by (same_id other id) refl
  where
    by : (same : Bool) → same_id other id ≡ same → bucket_at other (changed id f bs) ≡ None
    by true is = subst (λ (i : ShareId). bucket_at other (changed i f bs) ≡ None) (eq_of_same other id is) (changed_none other f bs k e)
    by false is = changed_other id other f bs k is ∙ e

pub apart_changed : (id : ShareId) (f : Bucket → Bucket) (bs : List Bucket) → KeepsId f → AreApart bs → AreApart (changed id f bs)
apart_changed id f [] k a = tt
apart_changed id f (b ∷ bs) k a = by (same_id b.id id) (apart_changed id f bs k a.1)
  where
    by : (same : Bool) → AreApart (changed id f bs) → AreApart (cond same (f b ∷ bs) (b ∷ changed id f bs))
    by true ih = (ap (λ (i : ShareId). bucket_at i bs) (k b) ∙ a.0, a.1)
    by false ih = (stays_none id b.id f bs k a.0, ih)

pub length_changed : (id : ShareId) (f : Bucket → Bucket) (bs : List Bucket) → length (changed id f bs) ≡ length bs
length_changed id f [] = refl
length_changed id f (b ∷ bs) = by (same_id b.id id) (length_changed id f bs)
  where
    by : (same : Bool) → length (changed id f bs) ≡ length bs → length (cond same (f b ∷ bs) (b ∷ changed id f bs)) ≡ length (b ∷ bs)
    by true ih = refl
    by false ih = ap (λ n. suc n) ih

-- ---- some buckets left out

filtered_none : (p : Bucket → Bool) (id : ShareId) (bs : List Bucket) → bucket_at id bs ≡ None → bucket_at id (filter p bs) ≡ None
filtered_none p id [] e = refl
filtered_none p id (b ∷ bs) e = by (p b) (filtered_none p id bs (none_head (same_id b.id id) b (bucket_at id bs) e).1)
  where
    by : (kept : Bool) → bucket_at id (filter p bs) ≡ None → bucket_at id (cond kept (b ∷ filter p bs) (filter p bs)) ≡ None
    by true ih = ap (λ (t : Bool). cond t (Some b) (bucket_at id (filter p bs))) (none_head (same_id b.id id) b (bucket_at id bs) e).0 ∙ ih
    by false ih = ih

pub apart_filter : (p : Bucket → Bool) (bs : List Bucket) → AreApart bs → AreApart (filter p bs)
apart_filter p [] a = tt
apart_filter p (b ∷ bs) a = by (p b) (apart_filter p bs a.1)
  where
    by : (kept : Bool) → AreApart (filter p bs) → AreApart (cond kept (b ∷ filter p bs) (filter p bs))
    by true ih = (filtered_none p b.id bs a.0, ih)
    by false ih = ih

-- what is left was there
pub filtered_found : (p : Bucket → Bool) (id : ShareId) (bs : List Bucket) (b : Bucket) → AreApart bs → bucket_at id (filter p bs) ≡ Some b → bucket_at id bs ≡ Some b
filtered_found p id [] b a e = absurd cc
filtered_found p id (c ∷ bs) b a e = by (p c) (filtered_found p id bs b a.1) e
  where
    here : (same : Bool) → same_id c.id id ≡ same → bucket_at id bs ≡ Some b → cond same (Some c) (bucket_at id bs) ≡ Some b
    here true is f =
        let none : bucket_at id bs ≡ None = ap (λ (i : ShareId). bucket_at i bs) (sym (eq_of_same c.id id is)) ∙ a.0 in
        absurd cc
    here false is f = f

    beside : (same : Bool) → (bucket_at id (filter p bs) ≡ Some b → bucket_at id bs ≡ Some b) → cond same (Some c) (bucket_at id (filter p bs)) ≡ Some b → cond same (Some c) (bucket_at id bs) ≡ Some b
    beside true ih f = f
    beside false ih f = ih f

    by : (kept : Bool) → (bucket_at id (filter p bs) ≡ Some b → bucket_at id bs ≡ Some b) → bucket_at id (cond kept (c ∷ filter p bs) (filter p bs)) ≡ Some b → bucket_at id (c ∷ bs) ≡ Some b
    by true ih f = beside (same_id c.id id) ih f
    by false ih f = here (same_id c.id id) refl (ih f)

pub length_filter : (p : Bucket → Bool) (bs : List Bucket) → length (filter p bs) ≤ length bs
length_filter p [] = omega arith
length_filter p (b ∷ bs) = by (p b) (length_filter p bs)
  where
    by : (kept : Bool) → length (filter p bs) ≤ length bs → length (cond kept (b ∷ filter p bs) (filter p bs)) ≤ length (b ∷ bs)
    by true ih = omega arith
    by false ih = omega arith

pub ended_same : (id : ShareId) (bs : List Bucket) → bucket_at id (ended id bs) ≡ None
ended_same id [] = refl
ended_same id (b ∷ bs) = same-step (same_id b.id id) refl (ended_same id bs) where
  same-step : (same : Bool) → same_id b.id id ≡ same → bucket_at id (ended id bs) ≡ None → bucket_at id (cond (not same) (b ∷ ended id bs) (ended id bs)) ≡ None
  same-step true is ih = ih
  same-step false is ih = ap (λ (t : Bool). cond t (Some b) (bucket_at id (ended id bs))) is ∙ ih

pub ended_other : (id other : ShareId) (bs : List Bucket) → same_id other id ≡ false → bucket_at other (ended id bs) ≡ bucket_at other bs
ended_other id other [] ne = refl
ended_other id other (b ∷ bs) ne = ended-step (same_id b.id id) refl (ended_other id other bs ne) where
  ended-step : (same : Bool) → same_id b.id id ≡ same → bucket_at other (ended id bs) ≡ bucket_at other bs → bucket_at other (cond (not same) (b ∷ ended id bs) (ended id bs)) ≡ cond (same_id b.id other) (Some b) (bucket_at other bs)
  ended-step true is ih = ih ∙ sym (ap (λ (t : Bool). cond t (Some b) (bucket_at other bs)) (apart b.id id other is ne))
  ended-step false is ih = bucket-step (same_id b.id other) b _ _ ih

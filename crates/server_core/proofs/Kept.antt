-- What keeps a server sound: changes of its buckets and of its store's shares.
use Rattle.std.proofs.Common.{◌≡◌, ◌≤◌, ◌<◌, ℕ, suc, ◌+◌, List, [], ◌∷◌, ◌++◌, Bool, true, false, cond, Option, Some, None, length, refl, sym, ◌∙◌, ap, subst, inl, inr, ◌⊎◌, arith, length-append}
use Rattle.std.specs.Prelude.{◌==◌, filter, nat_eq}
use Rattle.std.proofs.lemmas.Bool.Decides.{nat_tests}
use Rattle.std.specs.Map.{keys_of}
use Rattle.wire.specs.declared.message.ShareId.{ShareId}
use Rattle.tagged_hash.specs.TaggedHash.{share_digest}
use Rattle.sha2_lanes.specs.Stream.{Taken}
use Rattle.tagged_hash.specs.TaggedHasher.{IsGiven}
use Rattle.tagged_hash.specs.declared.tag.Tag.TheVariants.{WholeShare}
use Rattle.share_store.specs.declared.shelf.ClosedShare.{ClosedShare}
use Rattle.share_store.specs.Shelf.{Shelf, ShareKey, key_of, closed_at, digest_at, written, OthersStay, with_closed}
use Rattle.share_store.proofs.ShelfLaws.{sorted_with}
use Rattle.server_core.specs.declared.bucket.Gathered.{Gathered}
use Rattle.server_core.specs.declared.bucket.Gathered.TheVariants.{Part, Whole}
use Rattle.server_core.specs.declared.bucket.Bucket.{Bucket}
use Rattle.server_core.specs.Buckets.{same_id, bucket_at, changed, ended, Gathers, GoesOn, IsNothing, count_in}
use Rattle.server_core.specs.Limits.{most_buckets}
use Rattle.server_core.specs.Sound.{AreSound, IsWritten}
use Rattle.server_core.proofs.Shares.{same_agrees, found_new, found_other}
use Rattle.server_core.proofs.Listed.{KeepsId, eq_of_same, other_of, bucket_push, bucket_push_other, apart_push, changed_other, changed_same, changed_none, apart_changed, length_changed, apart_filter, filtered_found, length_filter, ended_same, ended_other}

-- every other open share is as it was
abbrev pub OthersSame : ShareId → List (ShareKey × List ℕ) → List (ShareKey × List ℕ) → Type 0
OthersSame id old new = (other : ShareId) → same_id other id ≡ false → written other new ≡ written other old

pub others_same : (id : ShareId) (old new : List (ShareKey × List ℕ)) → OthersStay id old new → OthersSame id old new
others_same id old new o other apart = o (key_of other) (same_agrees id other ∙ other_of other id apart)

-- ---- changes of the buckets

pub changed_sound : (closed : List (ShareKey × ClosedShare)) (old new : List (ShareKey × List ℕ)) (bs : List Bucket) (id : ShareId) (f : Bucket → Bucket) → KeepsId f → OthersSame id old new → ((b : Bucket) → bucket_at id bs ≡ Some b → IsWritten (f b) (written id new)) → AreSound closed old bs → AreSound closed new (changed id f bs)
changed_sound closed old new bs id f k others here s = record {
  right = s.right;
  apart = apart_changed id f bs k s.apart;
  few = subst (λ n. n ≤ most_buckets) (sym (length_changed id f bs)) s.few;
  gathered = λ other c e. by other c e (same_id other id) refl;
} where
  at_it : (other : ShareId) (c : Bucket) → other ≡ id → (o : Option Bucket) → bucket_at id bs ≡ o → bucket_at id (changed id f bs) ≡ Some c → IsWritten c (written id new)
  at_it other c e None none h = let gone : bucket_at id (changed id f bs) ≡ None = changed_none id f bs k none in absurd cc
  at_it other c e (Some b) some h =
      let is : Some (f b) ≡ Some c = sym (changed_same id f bs b k some) ∙ h in
      let same : f b ≡ c = cc in
      subst (λ (x : Bucket). IsWritten x (written id new)) same (here b some)

  by : (other : ShareId) (c : Bucket) → bucket_at other (changed id f bs) ≡ Some c → (same : Bool) → same_id other id ≡ same → IsWritten c (written other new)
  by other c e true is =
      let it : other ≡ id = eq_of_same other id is in
      subst (λ (i : ShareId). IsWritten c (written i new)) (sym it) (at_it other c it (bucket_at id bs) refl (subst (λ (i : ShareId). bucket_at i (changed id f bs) ≡ Some c) it e))
  by other c e false is = subst (λ (w : List ℕ). IsWritten c w) (sym (others other is)) (s.gathered other c (sym (changed_other id other f bs k is) ∙ e))

pub ended_sound : (closed : List (ShareKey × ClosedShare)) (old new : List (ShareKey × List ℕ)) (bs : List Bucket) (id : ShareId) → OthersSame id old new → AreSound closed old bs → AreSound closed new (ended id bs)
ended_sound closed old new bs id others s = record {
  right = s.right;
  apart = apart_filter _ bs s.apart;
  few = let l : length (ended id bs) ≤ length bs = length_filter _ bs in let few : length bs ≤ most_buckets = s.few in omega arith;
  gathered = λ other c e. by other c e (same_id other id) refl;
} where
  by : (other : ShareId) (c : Bucket) → bucket_at other (ended id bs) ≡ Some c → (same : Bool) → same_id other id ≡ same → IsWritten c (written other new)
  by other c e true is =
      let gone : bucket_at other (ended id bs) ≡ None = subst (λ (i : ShareId). bucket_at i (ended id bs) ≡ None) (sym (eq_of_same other id is)) (ended_same id bs) in
      absurd cc
  by other c e false is = subst (λ (w : List ℕ). IsWritten c w) (sym (others other is)) (s.gathered other c (sym (ended_other id other bs is) ∙ e))

pub filter_sound : (closed : List (ShareKey × ClosedShare)) (opened : List (ShareKey × List ℕ)) (bs : List Bucket) (p : Bucket → Bool) → AreSound closed opened bs → AreSound closed opened (filter p bs)
filter_sound closed opened bs p s = record {
  right = s.right;
  apart = apart_filter p bs s.apart;
  few = let l : length (filter p bs) ≤ length bs = length_filter p bs in let few : length bs ≤ most_buckets = s.few in omega arith;
  gathered = λ other c e. s.gathered other c (filtered_found p other bs c s.apart e);
}

pub push_sound : (closed : List (ShareKey × ClosedShare)) (opened : List (ShareKey × List ℕ)) (bs : List Bucket) (b : Bucket) → IsNothing b.gathered → bucket_at b.id bs ≡ None → length bs < most_buckets → AreSound closed opened bs → AreSound closed opened (bs ++ b ∷ [])
push_sound closed opened bs b empty none room s = record {
  right = s.right;
  apart = apart_push bs b none s.apart;
  few = let l : length (bs ++ b ∷ []) ≡ length bs + 1 = length-append bs (b ∷ []) in let r : length bs < most_buckets = room in omega arith;
  gathered = λ other c e. by other c e (same_id b.id other) refl;
} where
  by : (other : ShareId) (c : Bucket) → bucket_at other (bs ++ b ∷ []) ≡ Some c → (same : Bool) → same_id b.id other ≡ same → IsWritten c (written other opened)
  by other c e true is =
      let at : bucket_at other bs ≡ None = subst (λ (i : ShareId). bucket_at i bs ≡ None) (eq_of_same b.id other is) none in
      let here : Some b ≡ Some c = sym (bucket_push other bs b at ∙ ap (λ (t : Bool). cond t (Some b) None) is) ∙ e in
      let same : b ≡ c = cc in
      subst (λ (x : Bucket). IsWritten x (written other opened)) same (inl empty)
  by other c e false is = s.gathered other c (sym (bucket_push_other other bs b is) ∙ e)

-- ---- bytes that came

not_none : (n : ℕ) → nat_eq (suc n) 0 ≡ false
not_none n = grind (arith, nat_tests)

-- the bytes that a hasher was given, when more are written
begun : (count : ℕ) (hasher : Taken) (len : ℕ) (bytes before after : List ℕ) → IsNothing (Part count hasher) ⊎ Gathers len (Part count hasher) before → after ≡ cond (nat_eq count 0) bytes (before ++ bytes)
    → (given : List ℕ) × (count ≡ length given) × IsGiven hasher WholeShare given × (after ≡ given ++ bytes)
begun count hasher len bytes before after (inl n) e = ([], n.0, n.1, e ∙ ap (λ c. cond (nat_eq c 0) bytes (before ++ bytes)) n.0)
begun count hasher len bytes [] after (inr g) e = ([], g.0, g.2, e ∙ ap (λ c. cond (nat_eq c 0) bytes bytes) g.0)
begun count hasher len bytes (x ∷ xs) after (inr g) e =
    let more : nat_eq count 0 ≡ false = ap (λ c. nat_eq c 0) g.0 ∙ not_none (length xs) in
    (x ∷ xs, g.0, g.2, e ∙ ap (λ (t : Bool). cond t bytes ((x ∷ xs) ++ bytes)) more)

pub grown : (len : ℕ) (bytes before after : List ℕ) (g h : Gathered) → GoesOn len bytes g h → IsNothing g ⊎ Gathers len g before → after ≡ cond (nat_eq (count_in len g) 0) bytes (before ++ bytes) → Gathers len h after
grown len bytes before after (Part count hasher) (Part more next) goes w e =
    let b = begun count hasher len bytes before after w e in
    let all : length (b.0 ++ bytes) ≡ length b.0 + length bytes = length-append b.0 bytes in
    subst (λ (x : List ℕ). Gathers len (Part more next) x) (sym b.3)
    (goes.0 ∙ ap (λ c. c + length bytes) b.1 ∙ sym all, goes.1, goes.2 b.0 b.2)
grown len bytes before after (Part count hasher) (Whole digest) goes w e =
    let b = begun count hasher len bytes before after w e in
    let all : length (b.0 ++ bytes) ≡ length b.0 + length bytes = length-append b.0 bytes in
    subst (λ (x : List ℕ). Gathers len (Whole digest) x) (sym b.3)
    (sym goes.0 ∙ ap (λ c. c + length bytes) b.1 ∙ sym all, goes.1 b.0 b.2)
grown len bytes before after (Whole digest) h goes w e = absurd goes

-- ---- one more closed share

none_of_digest : (o : Option ClosedShare) → Rattle.std.specs.Prelude.option_map (λ (c : ClosedShare). c.digest) o ≡ None → o ≡ None
none_of_digest None e = refl
none_of_digest (Some c) e = absurd cc

abbrev new_share : Shelf → ShareId → List ℕ → ClosedShare
new_share s id digest = record { bytes = written id s.opened; digest = digest }

pub closed_new : (s : Shelf) (id : ShareId) (digest : List ℕ) → closed_at id (with_closed s id digest) ≡ Some (new_share s id digest)
closed_new s id digest = found_new (key_of id) (new_share s id digest) s.closed

pub closed_other : (s : Shelf) (id other : ShareId) (digest : List ℕ) → same_id other id ≡ false → closed_at other (with_closed s id digest) ≡ closed_at other s.closed
closed_other s id other digest apart = found_other (key_of other) (key_of id) (new_share s id digest) s.closed (same_agrees other id ∙ apart)

pub closed_stays : (s : Shelf) (id : ShareId) (digest : List ℕ) → digest_at id s.closed ≡ None → (other : ShareId) (c : ClosedShare) → closed_at other s.closed ≡ Some c → closed_at other (with_closed s id digest) ≡ Some c
closed_stays s id digest none other c e = by (same_id other id) refl
  where
    by : (same : Bool) → same_id other id ≡ same → closed_at other (with_closed s id digest) ≡ Some c
    by true is =
        let none_here : closed_at other s.closed ≡ None = subst (λ (i : ShareId). closed_at i s.closed ≡ None) (sym (eq_of_same other id is)) (none_of_digest (closed_at id s.closed) none) in
        absurd cc
    by false is = closed_other s id other digest is ∙ e

pub closing_sound : (s : Shelf) (bs : List Bucket) (id : ShareId) (digest : List ℕ) → digest ≡ share_digest (written id s.opened) → AreSound s.closed s.opened bs → AreSound (with_closed s id digest) s.opened bs
closing_sound s bs id digest right sound = record {
  right = record {
    rising = sorted_with (key_of id) (new_share s id digest) s.closed sound.right.rising;
    digests = λ other c e. by other c e (same_id other id) refl;
  };
  apart = sound.apart;
  few = sound.few;
  gathered = sound.gathered;
} where
  by : (other : ShareId) (c : ClosedShare) → closed_at other (with_closed s id digest) ≡ Some c → (same : Bool) → same_id other id ≡ same → c.digest ≡ share_digest c.bytes
  by other c e true is =
      let at : closed_at id (with_closed s id digest) ≡ Some c = subst (λ (i : ShareId). closed_at i (with_closed s id digest) ≡ Some c) (eq_of_same other id is) e in
      let here : Some (new_share s id digest) ≡ Some c = sym (closed_new s id digest) ∙ at in
      let same : new_share s id digest ≡ c = cc in
      subst (λ (x : ClosedShare). x.digest ≡ share_digest x.bytes) same right
  by other c e false is = sound.right.digests other c (sym (closed_other s id other digest is) ∙ e)

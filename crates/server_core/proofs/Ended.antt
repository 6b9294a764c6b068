-- Buckets that end with no close, and shares that the store lets go of.
use Rattle.std.proofs.Common.{◌≡◌, ℕ, List, [], ◌∷◌, ◌++◌, Bool, true, false, cond, Some, None, refl, sym, ◌∙◌, ap, subst}
use Rattle.std.specs.Prelude.{filter}
use Rattle.wire.specs.declared.message.ShareId.{ShareId}
use Rattle.share_store.specs.declared.shelf.ClosedShare.{ClosedShare}
use Rattle.share_store.specs.Shelf.{Shelf, ShareKey, written}
use Rattle.share_store.specs.Calls.{Calls, AreKept, shelf_calls}
use Rattle.server_core.specs.declared.bucket.Bucket.{Bucket}
use Rattle.server_core.specs.Buckets.{same_id, bucket_at, is_of_another}
use Rattle.server_core.specs.ServerState.{ServerState, LetsGoOf, LetsGoOfEnded}
use Rattle.server_core.specs.Sound.{AreSound, ForgettingKeeps, ForgettingLeavesOthers, IsSound, IsWritten, LettingGoKeeps, LettingGoLeavesWritten, over}
use Rattle.server_core.proofs.Listed.{eq_of_same}
use Rattle.server_core.proofs.Kept.{filter_sound, others_same}
use Rattle.server_core.proofs.Stays.{same_closed}

-- shares that the store lets go of, and others after them
gone_behind : {S : Type 0} (calls : Calls S) (buckets : List Bucket) (ids more : List ShareId) (old mid new : S) → LetsGoOf calls buckets ids old mid → LetsGoOf calls buckets more mid new → LetsGoOf calls buckets (ids ++ more) old new
gone_behind {S} calls buckets [] more old mid new first then = subst (λ (s : S). LetsGoOf calls buckets more s new) first then
gone_behind calls buckets (id ∷ ids) more old mid new first then = (first.0, first.1, first.2, gone_behind calls buckets ids more first.0 mid new first.3 then)

pub none_gone : {S : Type 0} (calls : Calls S) (s : ServerState S) → LetsGoOfEnded calls s s
none_gone calls s = record { ids = []; store = refl; buckets = refl; clock = refl; terms = record { capacity = refl; readonly = refl } }

pub gone_on : {S : Type 0} (calls : Calls S) (old mid new : ServerState S) → LetsGoOfEnded calls old mid → LetsGoOfEnded calls mid new → LetsGoOfEnded calls old new
gone_on calls old mid new first then = record {
  ids = first.ids ++ then.ids;
  store = gone_behind calls old.buckets first.ids then.ids old.store mid.store new.store first.store
      (subst (λ (bs : List Bucket). LetsGoOf calls bs then.ids mid.store new.store) first.buckets then.store);
  buckets = then.buckets ∙ first.buckets;
  clock = then.clock ∙ first.clock;
  terms = record { capacity = then.terms.capacity ∙ first.terms.capacity; readonly = then.terms.readonly ∙ first.terms.readonly };
}

-- what a store that keeps lets go of, its shelf does
module _ {S : Type 0} (calls : Calls S) (shelf : S → Shelf) (k : AreKept calls shelf) where
  gone_same : (buckets : List Bucket) (ids : List ShareId) (old new : S) → LetsGoOf calls buckets ids old new → LetsGoOf shelf_calls buckets ids (shelf old) (shelf new)
  gone_same buckets [] old new goes = ap shelf goes
  gone_same buckets (id ∷ ids) old new goes = (shelf goes.0, goes.1, k.lets_go old id goes.0 goes.2, gone_same buckets ids goes.0 new goes.3)

  pub lets_go_same : (old new : ServerState S) → LetsGoOfEnded calls old new → LetsGoOfEnded shelf_calls (over shelf old) (over shelf new)
  lets_go_same old new goes = record {
    ids = goes.ids;
    store = gone_same old.buckets goes.ids old.store new.store goes.store;
    buckets = goes.buckets;
    clock = goes.clock;
    terms = record { capacity = goes.terms.capacity; readonly = goes.terms.readonly };
  }

-- ---- what stays

closed_stay : (buckets : List Bucket) (ids : List ShareId) (old new : Shelf) → LetsGoOf shelf_calls buckets ids old new → new.closed ≡ old.closed
closed_stay buckets [] old new goes = ap (λ (s : Shelf). s.closed) goes
closed_stay buckets (id ∷ ids) old new goes = closed_stay buckets ids goes.0 new goes.3 ∙ goes.2.2

-- a share that has a bucket is none that has not
pub other_share : (buckets : List Bucket) (gone id : ShareId) (b : Bucket) → bucket_at gone buckets ≡ None → bucket_at id buckets ≡ Some b → same_id id gone ≡ false
other_share buckets gone id b none there = not_same (same_id id gone) refl
  where
    not_same : (same : Bool) → same_id id gone ≡ same → same ≡ false
    not_same false is = refl
    not_same true is =
        let idle : bucket_at id buckets ≡ None = subst (λ (i : ShareId). bucket_at i buckets ≡ None) (sym (eq_of_same id gone is)) none in
        absurd cc

written_stay : (buckets : List Bucket) (ids : List ShareId) (old new : Shelf) → LetsGoOf shelf_calls buckets ids old new → (id : ShareId) (b : Bucket) → bucket_at id buckets ≡ Some b
    → written id new.opened ≡ written id old.opened
written_stay buckets [] old new goes id b there = ap (λ (s : Shelf). written id s.opened) goes
written_stay buckets (gone ∷ ids) old new goes id b there =
    written_stay buckets ids goes.0 new goes.3 id b there ∙ others_same gone old.opened (goes.0).opened goes.2.1 id (other_share buckets gone id b goes.1 there)

pub letting_go_leaves_written : LettingGoLeavesWritten
letting_go_leaves_written old new goes = record {
  stays = same_closed old.store new.store (closed_stay old.buckets goes.ids old.store new.store goes.store);
  bytes = written_stay old.buckets goes.ids old.store new.store goes.store;
}

gone_sound : (old new : ServerState Shelf) → IsSound old → LetsGoOfEnded shelf_calls old new → AreSound old.store.closed new.store.opened old.buckets
gone_sound old new s goes = record {
  right = s.right;
  apart = s.apart;
  few = s.few;
  gathered = λ id b there. subst (λ (w : List ℕ). IsWritten b w) (sym (written_stay old.buckets goes.ids old.store new.store goes.store id b there)) (s.gathered id b there);
}

pub letting_go_keeps : LettingGoKeeps
letting_go_keeps old new s goes = record {
  stays = (letting_go_leaves_written old new goes).stays;
  sound = subst (λ (bs : List Bucket). AreSound new.store.closed new.store.opened bs) (sym goes.buckets)
      (subst (λ (cs : List (ShareKey × ClosedShare)). AreSound cs new.store.opened old.buckets) (sym (closed_stay old.buckets goes.ids old.store new.store goes.store))
      (gone_sound old new s goes));
}

-- ---- a client that is gone

pub forgetting_keeps : ForgettingKeeps
forgetting_keeps old client s = record {
  stays = λ id c found. found;
  sound = filter_sound old.store.closed old.store.opened old.buckets (is_of_another client) s;
}

stays_found : (client : ℕ) (id : ShareId) (b : Bucket) (bs : List Bucket) → is_of_another client b ≡ true → bucket_at id bs ≡ Some b → bucket_at id (filter (is_of_another client) bs) ≡ Some b
stays_found client id b [] other there = there
stays_found client id b (c ∷ bs) other there = by (same_id c.id id) refl (is_of_another client c) refl (stays_found client id b bs other) there
  where
    by : (same : Bool) → same_id c.id id ≡ same → (kept : Bool) → is_of_another client c ≡ kept → (bucket_at id bs ≡ Some b → bucket_at id (filter (is_of_another client) bs) ≡ Some b)
        → cond same (Some c) (bucket_at id bs) ≡ Some b → bucket_at id (cond kept (c ∷ filter (is_of_another client) bs) (filter (is_of_another client) bs)) ≡ Some b
    by true is true stays ih here = ap (λ (t : Bool). cond t (Some c) (bucket_at id (filter (is_of_another client) bs))) is ∙ here
    by true is false goes ih here =
        let it : c ≡ b = cc in
        let both : true ≡ false = sym other ∙ ap (is_of_another client) (sym it) ∙ goes in
        absurd cc
    by false is true stays ih here = ap (λ (t : Bool). cond t (Some c) (bucket_at id (filter (is_of_another client) bs))) is ∙ ih here
    by false is false goes ih here = ih here

none_left : (client : ℕ) (id : ShareId) (b : Bucket) (bs : List Bucket) → bucket_at id (filter (is_of_another client) bs) ≡ Some b → is_of_another client b ≡ true
none_left client id b [] there = absurd cc
none_left client id b (c ∷ bs) there = by (is_of_another client c) refl (none_left client id b bs) there
  where
    here : (same : Bool) → is_of_another client c ≡ true → (bucket_at id (filter (is_of_another client) bs) ≡ Some b → is_of_another client b ≡ true)
        → cond same (Some c) (bucket_at id (filter (is_of_another client) bs)) ≡ Some b → is_of_another client b ≡ true
    here true stays ih is =
        let it : c ≡ b = cc in
        ap (is_of_another client) (sym it) ∙ stays
    here false stays ih is = ih is

    by : (kept : Bool) → is_of_another client c ≡ kept → (bucket_at id (filter (is_of_another client) bs) ≡ Some b → is_of_another client b ≡ true)
        → bucket_at id (cond kept (c ∷ filter (is_of_another client) bs) (filter (is_of_another client) bs)) ≡ Some b → is_of_another client b ≡ true
    by true stays ih is = here (same_id c.id id) stays ih is
    by false goes ih is = ih is

pub forgetting_leaves_others : ForgettingLeavesOthers
forgetting_leaves_others client old = record {
  others = λ id b there other. stays_found client id b old other there;
  none = λ id b there. none_left client id b old there;
}

-- How what is kept of the shares goes on.
use Rattle.std.proofs.Common.{◌≡◌, ◌≢◌, ℕ, zero, suc, ◌+◌, ◌<◌, ◌≤◌, Bool, true, false, List, [], ◌∷◌, ◌++◌, length, set, map, take, drop, Some, ap, refl, sym, subst, ◌∙◌, arith, inl, inr, ◌⊎◌, true≢false}
use Rattle.std.specs.Prelude.{Contains, slice_get}
use Rattle.std.proofs.lemmas.Bool.{cases_lt}
use Rattle.std.proofs.lemmas.List.{length-append, length-set}
use Rattle.std.proofs.lemmas.Option.{slice_get_within, same_Some}
use Rattle.lemmas.proofs.Members.{contains_cases, contains_none}
use Rattle.lemmas.proofs.Positions.{get_set_other, get_pushed, get_last}
use Rattle.cap_text.specs.Cap.{VerifyCapValue}
use Rattle.placement.specs.Matching.{Pair}
use Rattle.request_record.specs.declared.requests.Outcome.{Outcome}
use Rattle.request_record.specs.declared.requests.Outcome.TheVariants.{Unawaited, Outstanding, Answered, Lost}
use Rattle.request_record.specs.declared.requests.Request.{Request}
use Rattle.request_record.specs.Record.{is_outstanding}
use Rattle.share_reading.specs.declared.reading.ShareReading as readings
use Rattle.checker.specs.Offers.{key_of}
use Rattle.checker.specs.Shares.{offered_in}
use Rattle.checker.specs.Book.{AreKeys, HasTold, IsAbout, IsAt, IsBook, IsOffer, IsOwner, IsStarted, IsTold}
use Rattle.checker.specs.declared.state.Told.{Told}
use Rattle.checker.specs.declared.offers.Offer.{Offer}
use Rattle.checker.specs.declared.offers.Stage.TheVariants.{Read}
use Rattle.checker.proofs.Entries.{GoesTo, about_by, about_one, about_same, get_kept, get_set_same, was_at}
use Rattle.checker.specs.declared.wanted.Wanted.{Wanted}
use Rattle.checker.proofs.OfferMoves.{offer_done, offer_goes, offer_other, offer_push, piece_about}
use Rattle.checker.proofs.AnswerMoves.{span_request}

-- ---- one offer is another

pub map_set : {X Y : Type 0} (f : X → Y) (xs : List X) (k : ℕ) (x y : X) → slice_get xs k ≡ Some x → f y ≡ f x → map f (set xs k y) ≡ map f xs
map_set f [] k x y e same = refl
map_set f (z ∷ zs) zero x y e same = ap (λ w. w ∷ map f zs) (same ∙ ap f (sym (same_Some z x e)))
map_set f (z ∷ zs) (suc k) x y e same = ap (λ w. f z ∷ w) (map_set f zs k x y e same)

-- an offer of the changed list is the new one, or was there before
pub get_changed : {X : Type 0} (xs : List X) (k i : ℕ) (x y z : X) → slice_get xs k ≡ Some x → slice_get (set xs k y) i ≡ Some z → ((i ≡ k) × (z ≡ y)) ⊎ ((i ≢ k) × (slice_get xs i ≡ Some z))
get_changed [] k i x y z e f = absurd cc
get_changed (w ∷ ws) zero zero x y z e f = inl (refl, sym (same_Some y z f))
get_changed (w ∷ ws) zero (suc i) x y z e f = inr (λ h. omega (arith, h), f)
get_changed (w ∷ ws) (suc k) zero x y z e f = inr (λ h. omega (arith, h), f)
get_changed (w ∷ ws) (suc k) (suc i) x y z e f = elim (get_changed ws k i x y z e f) [
  | inl here ↦ inl (ap suc here.0, here.1)
  | inr other ↦ inr (λ h. other.0 (omega (arith, h)), other.1)
]

-- ---- lists that are changed at one offer

module _ (entries : List Request) (offers : List Offer) (k : ℕ) (o n : Offer) (at : slice_get offers k ≡ Some o) (key : key_of n ≡ key_of o) where
  owner_set : (position l : ℕ) → IsOwner entries offers position l → IsOwner entries (set offers k n) position l
  owner_set position l is = elim (cases_lt l k) [
    | inl lt ↦ same (λ e. omega (arith, lt, e))
    | inr le ↦ elim (cases_lt k l) [
      | inl lt ↦ same (λ e. omega (arith, lt, e))
      | inr ge ↦
          let here : l ≡ k = omega (arith, le, ge) in
          let was : is.offer ≡ o = same_Some is.offer o (sym is.there ∙ ap (slice_get offers) here ∙ at) in
          record {
            offer = n;
            there = ap (slice_get (set offers k n)) here ∙ get_set_same offers k o n at;
            request = is.request;
            asks = is.asks;
            about = subst (λ (p : Pair). IsAbout p is.request) (ap key_of was ∙ sym key) is.about;
          }
    ]
  ]
    where
      same : (l ≡ k → ⊥) → IsOwner entries (set offers k n) position l
      same other = record { offer = is.offer; there = get_set_other offers k l n other ∙ is.there; request = is.request; asks = is.asks; about = is.about }

  apart_set : ((i j : ℕ) (a b : Offer) → slice_get offers i ≡ Some a → slice_get offers j ≡ Some b → key_of a ≡ key_of b → i ≡ j)
      → (i j : ℕ) (a b : Offer) → slice_get (set offers k n) i ≡ Some a → slice_get (set offers k n) j ≡ Some b → key_of a ≡ key_of b → i ≡ j
  apart_set apart i j a b first second same =
      let f = was i a first in
      let s = was j b second in
      apart i j f.0 s.0 f.1 s.1 (sym f.2 ∙ same ∙ s.2)
    where
      was : (l : ℕ) (x : Offer) → slice_get (set offers k n) l ≡ Some x → (y : Offer) × (slice_get offers l ≡ Some y) × (key_of x ≡ key_of y)
      was l x there = elim (get_changed offers k l o n x at there) [
        | inl here ↦ (o, ap (slice_get offers) here.0 ∙ at, ap key_of here.1 ∙ key)
        | inr other ↦ (x, other.1, refl)
      ]

  keys_set : map key_of (set offers k n) ≡ map key_of offers
  keys_set = map_set key_of offers k o n at key

-- its bytes are kept as those of the others
alike_set : (keeps : Bool) (offers : List Offer) (k : ℕ) (o n : Offer) → slice_get offers k ≡ Some o → n.pieces.keeps ≡ o.pieces.keeps
    → ((l : ℕ) (x : Offer) → slice_get offers l ≡ Some x → x.pieces.keeps ≡ keeps) → (l : ℕ) (x : Offer) → slice_get (set offers k n) l ≡ Some x → x.pieces.keeps ≡ keeps
alike_set keeps offers k o n at same alike l x e = elim (get_changed offers k l o n x at e) [
  | inl here ↦ ap (λ (y : Offer). y.pieces.keeps) here.1 ∙ same ∙ alike k o at
  | inr other ↦ alike l x other.1
]

pub tail : (position i : ℕ) (todo : List ℕ) → Contains todo i → Contains (position ∷ todo) i
tail position i todo h = (suc h.0, omega (arith, h.1), h.2)

keys_kept : (offers : List Offer) (k : ℕ) (o n : Offer) (t : Told) (keys : List Pair) → slice_get offers k ≡ Some o → key_of n ≡ key_of o → AreKeys offers t keys → AreKeys (set offers k n) t keys
keys_kept offers k o n t keys at key are = (
  omega (arith, are.0, length-set offers k n),
  ap (λ (l : List Pair). take t.count (drop t.first l)) (map_set key_of offers k o n at key) ∙ are.1,
)

-- the same share of the same server
told_as : (total n : ℕ) (entries : List Request) (todo : List ℕ) (o x : Offer) → key_of o ≡ key_of x → IsTold total n entries todo o → IsTold total n entries todo x
told_as total n entries todo o x same is = record {
  position = is.position;
  first = is.first;
  request = is.request;
  there = is.there;
  server = is.server ∙ ap (λ (p : Pair). p.0) same;
  quiet = is.quiet;
  taken = is.taken;
  listed = subst (λ (p : Pair). Contains (offered_in total p.0 is.request.outcome) p) same is.listed;
}

told_push : (total n : ℕ) (entries : List Request) (todo : List ℕ) (new : Request) (o : Offer) → IsTold total n entries todo o → IsTold total n (entries ++ new ∷ []) todo o
told_push total n entries todo new o is = record {
  position = is.position;
  first = is.first;
  request = is.request;
  there = get_kept entries new is.request is.position is.there;
  server = is.server;
  quiet = is.quiet;
  taken = is.taken;
  listed = is.listed;
}

-- ---- one offer is another now

-- what is to do gets less: what is left of it for the shares that were offered
module _ (cap : VerifyCapValue) (keeps : Bool) (entries : List Request) (told : List Told) (owners : List ℕ) (offers : List Offer) (begun : ℕ) (position : ℕ) (todo : List ℕ)
    (b : IsBook cap keeps entries told owners offers begun (position ∷ todo)) (after : length told ≤ position) where
  pub tells_less : (i : ℕ) (t : Told) (r : Request) → slice_get told i ≡ Some t → slice_get entries i ≡ Some r → HasTold cap.total todo offers i t r
  tells_less i t r e f = elim (b.tells i t r e f) [
    | inr are ↦ inr are
    | inl waits ↦ elim (contains_cases position i todo waits.0) [
      | inl here ↦ absurd (omega (arith, after, here, slice_get_within told i t e))
      | inr later ↦ inl (later, waits.1)
    ]
  ]

  pub told_less : (l : ℕ) (x : Offer) → slice_get offers l ≡ Some x → IsTold cap.total (length told) entries todo x
  told_less l x e = let old = b.offered l x e in
      record {
        position = old.position;
        first = old.first;
        request = old.request;
        there = old.there;
        server = old.server;
        quiet = old.quiet;
        taken = λ h. old.taken (tail position old.position todo h);
        listed = old.listed;
      }

  pub quiet_less : (i : ℕ) (r : Request) → Contains todo i → slice_get entries i ≡ Some r → is_outstanding r.outcome ≡ false
  quiet_less i r h e = b.quiet i r (tail position i todo h) e

  -- nothing comes of it
  pub book_done : (k : ℕ) (o : Offer) (q : Request) → slice_get offers k ≡ Some o → slice_get entries position ≡ Some q → IsAbout (key_of o) q
      → ((r : readings.ShareReading) (i : ℕ) (w : Wanted) → o.stage ≡ Read r → slice_get o.wanted.items i ≡ Some w → w.position ≡ position → ⊥) → IsBook cap keeps entries told owners offers begun todo
  book_done k o q at there about other = record {
    asks = b.asks;
    long = b.long;
    owned = b.owned;
    apart = b.apart;
    reading = less;
    alike = b.alike;
    offered = told_less;
    tells = tells_less;
    quiet = quiet_less;
    inside = λ i h. b.inside i (tail position i todo h);
    started = b.started;
    unread = b.unread;
    few = b.few;
  }
    where
      less : (l : ℕ) (x : Offer) → slice_get offers l ≡ Some x → IsOffer cap entries todo x
      less l x e = offer_done cap entries todo position x not_this (b.reading l x e)
        where
          not_this : (r : readings.ShareReading) (i : ℕ) (w : Wanted) → x.stage ≡ Read r → slice_get x.wanted.items i ≡ Some w → w.position ≡ position → ⊥
          not_this r i w stage piece here =
              let reads = subst (IsAt cap entries (position ∷ todo) x) stage (b.reading l x e) in
              let mine = piece_about entries (position ∷ todo) (key_of x) r i w q (reads.wanted i w piece) (ap (slice_get entries) here ∙ there) in
              let same : l ≡ k = b.apart l k x o e at (about_one (key_of x) (key_of o) q mine about) in
              let is : x ≡ o = same_Some x o (sym e ∙ ap (slice_get offers) same ∙ at) in
              other r i w (sym (ap (λ (y : Offer). y.stage) is) ∙ stage) (ap (λ (y : Offer). slice_get y.wanted.items i) (sym is) ∙ piece) here

  -- the others are as they were
  pub others_less : (k : ℕ) (o : Offer) (q : Request) → slice_get offers k ≡ Some o → slice_get entries position ≡ Some q → IsAbout (key_of o) q
      → (l : ℕ) (x : Offer) → l ≢ k → slice_get offers l ≡ Some x → IsOffer cap entries todo x
  others_less k o q at there about l x other e =
      offer_other cap entries todo position x q there (λ mine. other (b.apart l k x o e at (about_one (key_of x) (key_of o) q mine about))) (b.reading l x e)

pub record BeginsTo (begun k more : ℕ) (len : ℕ) : Type 0 where
  pub up_to : (l : ℕ) → l < more → (l < begun) ⊎ (l ≡ k)
  pub from : (l : ℕ) → more ≤ l → (begun ≤ l) × (l ≢ k)
  pub few : more ≤ len

-- one offer is begun, or read on, or its verdict is found
module _ (cap : VerifyCapValue) (keeps : Bool) (entries : List Request) (told : List Told) (owners : List ℕ) (offers : List Offer) (begun more : ℕ) (old todo : List ℕ)
    (b : IsBook cap keeps entries told owners offers begun old)
    (k : ℕ) (o n : Offer) (at : slice_get offers k ≡ Some o) (key : key_of n ≡ key_of o) (same_keeps : n.pieces.keeps ≡ o.pieces.keeps) where
  pub book_set : ((l : ℕ) (x : Offer) → l ≢ k → slice_get offers l ≡ Some x → IsOffer cap entries todo x)
      → ((l : ℕ) (x : Offer) → slice_get offers l ≡ Some x → IsTold cap.total (length told) entries todo x)
      → ((i : ℕ) (t : Told) (q : Request) → slice_get told i ≡ Some t → slice_get entries i ≡ Some q → HasTold cap.total todo offers i t q)
      → ((i : ℕ) (q : Request) → Contains todo i → slice_get entries i ≡ Some q → is_outstanding q.outcome ≡ false)
      → ((i : ℕ) → Contains todo i → i < length entries)
      → BeginsTo begun k more (length offers) → IsStarted n.stage → IsOffer cap entries todo n
      → IsBook cap keeps entries told owners (set offers k n) more todo
  book_set others offered tells quiet inside begins is_started is = record {
    asks = b.asks;
    long = b.long;
    owned = λ p l e. owner_set entries offers k o n at key (length told + p) l (b.owned p l e);
    apart = apart_set entries offers k o n at key b.apart;
    reading = λ l x e. elim (get_changed offers k l o n x at e) [
      | inl here ↦ subst (IsOffer cap entries todo) (sym here.1) is
      | inr other ↦ others l x other.0 other.1
    ];
    alike = alike_set keeps offers k o n at same_keeps b.alike;
    offered = λ l x e. elim (get_changed offers k l o n x at e) [
      | inl here ↦ told_as cap.total (length told) entries todo o x (sym key ∙ ap key_of (sym here.1)) (offered k o at)
      | inr other ↦ offered l x other.1
    ];
    tells = λ i t q e f. elim (tells i t q e f) [
      | inl waits ↦ inl (waits.0, keys_kept offers k o n t [] at key waits.1)
      | inr are ↦ inr (keys_kept offers k o n t (offered_in cap.total q.server q.outcome) at key are)
    ];
    quiet = quiet;
    inside = inside;
    started = λ l x e lt. elim (get_changed offers k l o n x at e) [
      | inl here ↦ subst (λ (y : Offer). IsStarted y.stage) (sym here.1) is_started
      | inr other ↦ elim (begins.up_to l lt) [
        | inl before ↦ b.started l x other.1 before
        | inr same ↦ absurd (other.0 same)
      ]
    ];
    unread = λ l x e le. elim (get_changed offers k l o n x at e) [
      | inl here ↦ absurd ((begins.from l le).1 here.0)
      | inr other ↦ b.unread l x other.1 (begins.from l le).0
    ];
    few = omega (arith, begins.few, length-set offers k n);
  }

-- ---- a piece of one is asked for

owner_push : (entries : List Request) (offers : List Offer) (new : Request) (position l : ℕ) → IsOwner entries offers position l → IsOwner (entries ++ new ∷ []) offers position l
owner_push entries offers new position l is =
    record { offer = is.offer; there = is.there; request = is.request; asks = get_kept entries new is.request position is.asks; about = is.about }

module _ (cap : VerifyCapValue) (keeps : Bool) (entries : List Request) (told : List Told) (owners : List ℕ) (offers : List Offer) (begun : ℕ) (todo : List ℕ)
    (b : IsBook cap keeps entries told owners offers begun todo)
    (k : ℕ) (o n : Offer) (offset len now : ℕ) (at : slice_get offers k ≡ Some o) (key : key_of n ≡ key_of o) (same_keeps : n.pieces.keeps ≡ o.pieces.keeps) where
  abbrev new : Request
  new = span_request o.server o.share offset len now

  new_about : IsAbout (key_of o) new
  new_about = about_by (key_of o) new offset len refl refl

  pub book_asked : IsStarted o.stage → IsStarted n.stage → IsOffer cap (entries ++ new ∷ []) todo n
      → IsBook cap keeps (entries ++ new ∷ []) told (owners ++ k ∷ []) (set offers k n) begun todo
  book_asked was_started is_started is = record {
    asks = λ i q lt e. elim (get_pushed entries new q i e) [
      | inl before ↦ b.asks i q lt before
      | inr pushed ↦ absurd (omega (arith, lt, pushed.0, b.long))
    ];
    long = omega (arith, b.long, length-append entries (new ∷ []), length-append owners (k ∷ []));
    owned = λ p l e. elim (get_pushed owners k l p e) [
      | inl before ↦ owner_set (entries ++ new ∷ []) offers k o n at key (length told + p) l (owner_push entries offers new (length told + p) l (b.owned p l before))
      | inr pushed ↦ (
          let here : length told + p ≡ length entries = omega (arith, pushed.0, b.long) in
          record {
            offer = n;
            there = ap (slice_get (set offers k n)) (sym pushed.1) ∙ get_set_same offers k o n at;
            request = new;
            asks = ap (slice_get (entries ++ new ∷ [])) here ∙ get_last entries new;
            about = subst (λ (p : Pair). IsAbout p new) (sym key) new_about;
          })
    ];
    apart = apart_set entries offers k o n at key b.apart;
    reading = λ l x e. elim (get_changed offers k l o n x at e) [
      | inl here ↦ subst (IsOffer cap (entries ++ new ∷ []) todo) (sym here.1) is
      | inr other ↦
          offer_push cap entries new todo x refl
          (λ mine. other.0 (b.apart l k x o other.1 at (about_one (key_of x) (key_of o) new mine new_about)))
          (b.reading l x other.1)
    ];
    alike = alike_set keeps offers k o n at same_keeps b.alike;
    offered = λ l x e. elim (get_changed offers k l o n x at e) [
      | inl here ↦ told_push cap.total (length told) entries todo new x (told_as cap.total (length told) entries todo o x (sym key ∙ ap key_of (sym here.1)) (b.offered k o at))
      | inr other ↦ told_push cap.total (length told) entries todo new x (b.offered l x other.1)
    ];
    tells = λ i t q e f. elim (get_pushed entries new q i f) [
      | inl before ↦ elim (b.tells i t q e before) [
        | inl waits ↦ inl (waits.0, keys_kept offers k o n t [] at key waits.1)
        | inr are ↦ inr (keys_kept offers k o n t (offered_in cap.total q.server q.outcome) at key are)
      ]
      | inr pushed ↦ absurd (omega (arith, pushed.0, b.long, slice_get_within told i t e))
    ];
    quiet = λ i q h e. elim (get_pushed entries new q i e) [
      | inl before ↦ b.quiet i q h before
      | inr pushed ↦ absurd (omega (arith, pushed.0, b.inside i h))
    ];
    inside = λ i h. omega (arith, b.inside i h, length-append entries (new ∷ []));
    started = λ l x e lt. elim (get_changed offers k l o n x at e) [
      | inl here ↦ subst (λ (y : Offer). IsStarted y.stage) (sym here.1) is_started
      | inr other ↦ b.started l x other.1 lt
    ];
    unread = λ l x e le. elim (get_changed offers k l o n x at e) [
      | inl here ↦ absurd (was_started (b.unread k o at (omega (arith, le, here.0))))
      | inr other ↦ b.unread l x other.1 le
    ];
    few = omega (arith, b.few, length-set offers k n);
  }

-- ---- the record goes on

pub book_goes : (cap : VerifyCapValue) (keeps : Bool) (es ns : List Request) (told : List Told) (owners : List ℕ) (offers : List Offer) (begun : ℕ) (todo : List ℕ)
    → GoesTo es ns todo → ((i : ℕ) (r : Request) → Contains todo i → slice_get es i ≡ Some r → is_outstanding r.outcome ≡ true)
    → ((i : ℕ) (r : Request) → Contains todo i → slice_get ns i ≡ Some r → is_outstanding r.outcome ≡ false)
    → ((i : ℕ) → Contains todo i → i < length ns)
    → IsBook cap keeps es told owners offers begun [] → IsBook cap keeps ns told owners offers begun todo
book_goes cap keeps es ns told owners offers begun todo goes waited quiet inside b = record {
  asks = λ i r lt e. (let was = was_at es ns todo goes i r e in was.asked ∙ b.asks i was.request lt was.there);
  long = goes.long ∙ b.long;
  owned = λ p l e. (
      let is = b.owned p l e in
      let becomes = goes.each (length told + p) is.request is.asks in
      record {
        offer = is.offer;
        there = is.there;
        request = becomes.request;
        asks = becomes.there;
        about = about_same (key_of is.offer) becomes.request is.request (sym becomes.server) (sym becomes.asked) is.about;
      });
  apart = b.apart;
  reading = λ l x e. offer_goes cap es ns todo x goes (b.reading l x e);
  alike = b.alike;
  offered = λ l x e. (
      let is = b.offered l x e in
      let becomes = goes.each is.position is.request is.there in
      record {
        position = is.position;
        first = is.first;
        request = is.request;
        there = becomes.there ∙ ap Some (becomes.still is.quiet);
        server = is.server;
        quiet = is.quiet;
        taken = λ h. true≢false (sym (waited is.position is.request h is.there) ∙ is.quiet);
        listed = is.listed;
      });
  tells = λ i t r e f. tells_on i t r e f;
  quiet = quiet;
  inside = inside;
  started = b.started;
  unread = b.unread;
  few = b.few;
}
  where
    none_waiting : (total server : ℕ) (o : Outcome) → is_outstanding o ≡ true → offered_in total server o ≡ []
    none_waiting total server Unawaited e = absurd cc
    none_waiting total server Outstanding e = refl
    none_waiting total server (Answered body) e = absurd cc
    none_waiting total server Lost e = absurd cc

    keys_of : (i : ℕ) (t : Told) (q : Request) → slice_get told i ≡ Some t → slice_get es i ≡ Some q → AreKeys offers t (offered_in cap.total q.server q.outcome)
    keys_of i t q e f = elim (b.tells i t q e f) [
      | inl waits ↦ absurd (contains_none i waits.0)
      | inr are ↦ are
    ]

    tells_on : (i : ℕ) (t : Told) (r : Request) → slice_get told i ≡ Some t → slice_get ns i ≡ Some r → HasTold cap.total todo offers i t r
    tells_on i t r e f =
        let was = was_at es ns todo goes i r f in
        let becomes = goes.each i was.request was.there in
        let is : becomes.request ≡ r = same_Some becomes.request r (sym becomes.there ∙ f) in
        let keys = keys_of i t was.request e was.there in
        elim becomes.waits [
          | inl same ↦ inr (
              let one : was.request.server ≡ r.server = sym becomes.server ∙ ap (λ (q : Request). q.server) is in
              let two : was.request.outcome ≡ r.outcome = sym same ∙ ap (λ (q : Request). q.outcome) is in
              subst (λ s. AreKeys offers t (offered_in cap.total s r.outcome)) one (subst (λ (x : Outcome). AreKeys offers t (offered_in cap.total was.request.server x)) two keys))
          | inr at ↦ inl (at, subst (AreKeys offers t) (none_waiting cap.total was.request.server was.request.outcome (waited i was.request at was.there)) keys)
        ]

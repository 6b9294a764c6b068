-- How the shares that a server offers are added to the others.
use Rattle.std.proofs.Common.{◌≡◌, ℕ, zero, suc, ◌+◌, ◌-◌, ◌<◌, ◌≤◌, Bool, true, false, cond, ltb, leb, List, [], ◌∷◌, ◌++◌, length, set, map, take, drop, filter, All, Some, ap, refl, sym, subst, ◌∙◌, arith, inl, inr, ◌⊎◌}
use Rattle.std.specs.Prelude.{Contains, slice_get}
use Rattle.std.proofs.lemmas.Bool.{cases_lt, leb-true, le-leb}
use Rattle.std.proofs.lemmas.List.{length-append, length-set, length-map, length-drop, drop-append-le, map-append, take_all, take-append-le}
use Rattle.std.proofs.Math.Seq.{drop-append_seam}
use Rattle.std.proofs.lemmas.List.Elements.{All-get_or}
use Rattle.std.proofs.lemmas.Option.{slice_get_within, same_Some, get_or_from_slice_get}
use Rattle.lemmas.proofs.Bools.{both}
use Rattle.lemmas.proofs.Members.{contains_at, contains_cases, contains_head}
use Rattle.lemmas.proofs.Positions.{get_set_other, get_of, get_left, get_map}
use Rattle.cap_text.specs.Cap.{VerifyCapValue}
use Rattle.placement.specs.Matching.{Pair}
use Rattle.wire.specs.Held.{rises_from}
use Rattle.wire.specs.declared.message.HeldShare.{HeldShare}
use Rattle.request_record.specs.declared.requests.Asked.{Asked}
use Rattle.request_record.specs.declared.requests.Asked.TheVariants.{Holdings, Reading}
use Rattle.request_record.specs.declared.requests.Request.{Request}
use Rattle.request_record.specs.Record.{is_outstanding}
use Rattle.request_record.specs.Asking.{AreApart, AsksOnce}
use Rattle.checker.specs.Offers.{IsNew, key_of}
use Rattle.checker.specs.Pieces.{HasPieces, IsEmpty}
use Rattle.checker.specs.declared.pieces.Pieces.{Pieces}
use Rattle.checker.specs.Shares.{offered_in}
use Rattle.checker.specs.Book.{AreAwaited, AreKeys, ArePushed, HasTold, IsAbout, IsAt, IsAwaitedAt, IsBook, IsOffer, IsOwner, IsReadOnlyAt, IsTakenOnce, IsTold}
use Rattle.checker.specs.declared.state.Told.{Told}
use Rattle.checker.specs.declared.offers.Offer.{Offer}
use Rattle.checker.proofs.Entries.{about_one, about_read, get_set_same}
use Rattle.checker.proofs.OfferMoves.{offer_other}
use Rattle.checker.proofs.BookMoves.{tail}
use Rattle.checker.proofs.Joining.{pair_at}

-- ---- lists

record IsBehindAt {X : Type 0} (xs ys : List X) (i : ℕ) (x : X) : Type 0 where
  pub index : ℕ
  pub is : i ≡ length xs + index
  pub there : slice_get ys index ≡ Some x

get_either : {X : Type 0} (xs ys : List X) (i : ℕ) (x : X) → slice_get (xs ++ ys) i ≡ Some x → (slice_get xs i ≡ Some x) ⊎ IsBehindAt xs ys i x
get_either [] ys i x e = inr (record { index = i; is = omega arith; there = e })
get_either (z ∷ zs) ys zero x e = inl e
get_either (z ∷ zs) ys (suc i) x e = elim (get_either zs ys i x e) [
  | inl before ↦ inl before
  | inr behind ↦ inr (record { index = behind.index; is = omega (arith, behind.is); there = behind.there })
]

record IsMapped {X Y : Type 0} (f : X → Y) (xs : List X) (i : ℕ) (y : Y) : Type 0 where
  pub source : X
  pub there : slice_get xs i ≡ Some source
  pub is : y ≡ f source

get_unmapped : {X Y : Type 0} (f : X → Y) (xs : List X) (i : ℕ) (y : Y) → slice_get (map f xs) i ≡ Some y → IsMapped f xs i y
get_unmapped f [] i y e = absurd cc
get_unmapped f (x ∷ xs) zero y e = record { source = x; there = refl; is = sym (same_Some (f x) y e) }
get_unmapped f (x ∷ xs) (suc i) y e = let found = get_unmapped f xs i y e in record { source = found.source; there = found.there; is = found.is }

no_elements : {X Y : Type 0} (f : X → Y) (xs : List X) → map f xs ≡ [] → (i : ℕ) (x : X) → slice_get xs i ≡ Some x → ⊥
no_elements f [] e i x there = absurd cc
no_elements f (y ∷ ys) e i x there = absurd cc

-- ---- the numbers of an answer rise

leb_low : (a b c : ℕ) → leb b c ≡ true → a ≤ b → leb a c ≡ true
leb_low a b c e le = le-leb a c (omega (arith, leb-true b c e, le))

rises_lower : (a b : ℕ) (hs : List HeldShare) → a ≤ b → rises_from b hs ≡ true → rises_from a hs ≡ true
rises_lower a b [] le e = refl
rises_lower a b (h ∷ hs) le e =
    let parts = both (leb b h.share) (rises_from (h.share + 1) hs) e in
    rw (leb_low a b h.share parts.0 le, parts.1) refl

rises_kept : (total low : ℕ) (hs : List HeldShare) → rises_from low hs ≡ true → rises_from low (filter (λ (h : HeldShare). ltb h.share total) hs) ≡ true
rises_kept total low [] e = refl
rises_kept total low (h ∷ hs) e =
    let parts = both (leb low h.share) (rises_from (h.share + 1) hs) e in
    by (ltb h.share total) parts.0 (rises_kept total (h.share + 1) hs parts.1)
  where
    by : (t : Bool) → leb low h.share ≡ true → rises_from (h.share + 1) (filter (λ (x : HeldShare). ltb x.share total) hs) ≡ true
        → rises_from low (cond t (h ∷ filter (λ (x : HeldShare). ltb x.share total) hs) (filter (λ (x : HeldShare). ltb x.share total) hs)) ≡ true
    by true first rest = rw (first, rest) refl
    by false first rest = rises_lower low (h.share + 1) (filter (λ (x : HeldShare). ltb x.share total) hs) (omega (arith, leb-true low h.share first)) rest

rises_above : (low : ℕ) (hs : List HeldShare) (i : ℕ) (h : HeldShare) → rises_from low hs ≡ true → slice_get hs i ≡ Some h → low ≤ h.share
rises_above low [] i h e there = absurd cc
rises_above low (x ∷ xs) zero h e there =
    let parts = both (leb low x.share) (rises_from (x.share + 1) xs) e in
    omega (arith, leb-true low x.share parts.0, ap (λ (y : HeldShare). y.share) (same_Some x h there))
rises_above low (x ∷ xs) (suc i) h e there =
    let parts = both (leb low x.share) (rises_from (x.share + 1) xs) e in
    omega (arith, leb-true low x.share parts.0, rises_above (x.share + 1) xs i h parts.1 there)

rises_apart : (low : ℕ) (hs : List HeldShare) (i j : ℕ) (a b : HeldShare) → rises_from low hs ≡ true → slice_get hs i ≡ Some a → slice_get hs j ≡ Some b → i < j → a.share < b.share
rises_apart low [] i j a b e f g lt = absurd cc
rises_apart low (x ∷ xs) zero zero a b e f g lt = absurd (omega (arith, lt))
rises_apart low (x ∷ xs) zero (suc j) a b e f g lt =
    let parts = both (leb low x.share) (rises_from (x.share + 1) xs) e in
    omega (arith, ap (λ (y : HeldShare). y.share) (same_Some x a f), rises_above (x.share + 1) xs j b parts.1 g)
rises_apart low (x ∷ xs) (suc i) zero a b e f g lt = absurd (omega (arith, lt))
rises_apart low (x ∷ xs) (suc i) (suc j) a b e f g lt =
    let parts = both (leb low x.share) (rises_from (x.share + 1) xs) e in
    rises_apart (x.share + 1) xs i j a b parts.1 f g (omega (arith, lt))

pub not_read : {a : Asked} {share offset len : ℕ} → a ≡ Holdings → a ≡ Reading share offset len → ⊥
not_read e f = clash (sym e ∙ f)
  where
    clash : {share offset len : ℕ} → Holdings ≡ Reading share offset len → ⊥
    clash g = cc

-- none are there of a share of which nothing was read
no_pieces : (keeps : Bool) (p : Pieces) → IsEmpty keeps p → HasPieces [] [] p
no_pieces keeps p is = record { front_is = λ _. is.front; back_is = λ _. is.back }

-- ---- the shares of one server are added

module _ (cap : VerifyCapValue) (keeps : Bool) (es : List Request) (told : List Told) (owners : List ℕ) (offers more : List Offer) (begun position : ℕ) (todo : List ℕ) (q : Request) (held : List HeldShare)
    (b : IsBook cap keeps es told owners offers begun (position ∷ todo)) (once : AsksOnce es) (low : position < length told) (there : slice_get es position ≡ Some q)
    (listed : map key_of more ≡ map (pair_at q.server) (filter (λ (h : HeldShare). ltb h.share cap.total) held)) (rising : rises_from 0 held ≡ true)
    (offered : offered_in cap.total q.server q.outcome ≡ map (pair_at q.server) (filter (λ (h : HeldShare). ltb h.share cap.total) held))
    (fresh : All (IsNew keeps) more) (taken : IsTakenOnce es position todo) where
  abbrev kept : List HeldShare
  kept = filter (λ (h : HeldShare). ltb h.share cap.total) held

  quiet_here : is_outstanding q.outcome ≡ false
  quiet_here = b.quiet position q (contains_head position todo) there

  is_asking : q.asked ≡ Holdings
  is_asking = b.asks position q low there

  -- a new one is of this server
  new_listed : (j : ℕ) (y : Offer) → slice_get more j ≡ Some y → IsMapped (pair_at q.server) kept j (key_of y)
  new_listed j y e = get_unmapped (pair_at q.server) kept j (key_of y) (ap (λ (l : List Pair). slice_get l j) (sym listed) ∙ get_map key_of more j y e)

  new_server : (j : ℕ) (y : Offer) → slice_get more j ≡ Some y → y.server ≡ q.server
  new_server j y e = ap (λ (p : Pair). p.0) (new_listed j y e).is

  -- no request asks the same server which shares it holds
  asked_once : (i : ℕ) (x : Request) → i < length told → slice_get es i ≡ Some x → x.server ≡ q.server → i ≡ position
  asked_once i x lt e same = elim (cases_lt i position) [
    | inl below ↦ absurd (apart x q (b.asks i x lt e) is_asking (once i position x q below e there same))
    | inr le ↦ elim (cases_lt position i) [
      | inl above ↦ absurd (apart q x is_asking (b.asks i x lt e) (once position i q x above there e (sym same)))
      | inr ge ↦ omega (arith, le, ge)
    ]
  ]
    where
      apart : (x y : Request) → x.asked ≡ Holdings → y.asked ≡ Holdings → AreApart x.asked y.asked → ⊥
      apart x y e f h = subst (λ (a : Asked). AreApart a Holdings) e (subst (AreApart x.asked) f h) refl

  -- it is one of those that the answer lists
  listed_new : (j : ℕ) (y : Offer) → slice_get more j ≡ Some y → Contains (offered_in cap.total y.server q.outcome) (key_of y)
  listed_new j y e =
      subst (λ s. Contains (offered_in cap.total s q.outcome) (key_of y)) (sym (new_server j y e))
      (subst (λ (l : List Pair). Contains l (key_of y)) (listed ∙ sym offered) (contains_at (map key_of more) j (key_of y) (get_map key_of more j y e)))

  -- so none of those that were there is of this server
  old_other : (l : ℕ) (x : Offer) → slice_get offers l ≡ Some x → x.server ≡ q.server → ⊥
  old_other l x e same =
      let told_by = b.offered l x e in
      let here : told_by.position ≡ position = asked_once told_by.position told_by.request told_by.first told_by.there (told_by.server ∙ same) in
      told_by.taken (subst (Contains (position ∷ todo)) (sym here) (contains_head position todo))

  old_new : (l j : ℕ) (x y : Offer) → slice_get offers l ≡ Some x → slice_get more j ≡ Some y → key_of x ≡ key_of y → ⊥
  old_new l j x y e f same = old_other l x e (ap (λ (p : Pair). p.0) same ∙ new_server j y f)

  new_new : (i j : ℕ) (x y : Offer) → slice_get more i ≡ Some x → slice_get more j ≡ Some y → key_of x ≡ key_of y → i ≡ j
  new_new i j x y e f same =
      let first = new_listed i x e in
      let second = new_listed j y f in
      let shares : first.source.share ≡ second.source.share = ap (λ (p : Pair). p.1) (sym first.is ∙ same ∙ second.is) in
      let rises = rises_kept cap.total 0 held rising in
      elim (cases_lt i j) [
        | inl lt ↦ absurd (omega (arith, shares, rises_apart 0 kept i j first.source second.source rises first.there second.there lt))
        | inr le ↦ elim (cases_lt j i) [
          | inl gt ↦ absurd (omega (arith, shares, rises_apart 0 kept j i second.source first.source rises second.there first.there gt))
          | inr ge ↦ omega (arith, le, ge)
        ]
      ]

  -- nothing is read of a new one
  new_unread : (j : ℕ) (y : Offer) → slice_get more j ≡ Some y → IsReadOnlyAt es (key_of y) []
  new_unread j y f i r e about = elim (cases_lt i (length told)) [
    | inl lt ↦ absurd (not_read (b.asks i r lt e) (about_read (key_of y) r about).is)
    | inr le ↦ (
        let within : i - length told < length owners = omega (arith, le, b.long, slice_get_within es i r e) in
        let k = get_of owners (i - length told) within in
        let owner = b.owned (i - length told) k.0 k.1 in
        let here : length told + (i - length told) ≡ i = omega (arith, le) in
        let same : owner.request ≡ r = same_Some owner.request r (sym owner.asks ∙ ap (slice_get es) here ∙ e) in
        let mine : IsAbout (key_of owner.offer) r = subst (IsAbout (key_of owner.offer)) same owner.about in
        absurd (old_new k.0 j owner.offer y owner.there f (about_one (key_of owner.offer) (key_of y) r mine about)))
  ]

  abbrev here : Told
  here = record { first = length offers; count = length more }

  keys_here : AreKeys (offers ++ more) here (offered_in cap.total q.server q.outcome)
  keys_here = (
    omega (arith, length-append offers more),
    ap (λ (l : List Pair). take (length more) (drop (length offers) l)) (map-append key_of offers more)
        ∙ ap (λ n. take (length more) (drop n (map key_of offers ++ map key_of more))) (sym (length-map offers key_of))
        ∙ ap (take (length more)) (drop-append_seam (map key_of offers) (map key_of more))
        ∙ take_all (length more) (map key_of more) (omega (arith, length-map more key_of))
        ∙ listed
        ∙ sym offered,
  )

  keys_before : (t : Told) (keys : List Pair) → AreKeys offers t keys → AreKeys (offers ++ more) t keys
  keys_before t keys are = (
    omega (arith, are.0, length-append offers more),
    ap (λ (l : List Pair). take t.count (drop t.first l)) (map-append key_of offers more)
        ∙ ap (take t.count) (drop-append-le t.first (map key_of offers) (map key_of more) (omega (arith, are.0, length-map offers key_of)))
        ∙ take-append-le t.count (drop t.first (map key_of offers)) (map key_of more) (omega (arith, are.0, length-map offers key_of, length-drop t.first (map key_of offers)))
        ∙ are.1,
  )

  fresh_at : (j : ℕ) (y : Offer) → slice_get more j ≡ Some y → IsNew keeps y
  fresh_at j y e = subst (IsNew keeps) (get_or_from_slice_get more j y y e) (All-get_or (IsNew keeps) more j y (slice_get_within more j y e) fresh)

  not_again : (j : ℕ) (y : Offer) → slice_get more j ≡ Some y → Contains todo position → ⊥
  not_again j y e at = elim taken [
    | inl once_only ↦ once_only at
    | inr lost ↦ no_elements key_of more (listed ∙ sym offered ∙ ap (offered_in cap.total q.server) (lost q there)) j y e
  ]

  owner_left : (p l : ℕ) → IsOwner es offers p l → IsOwner es (offers ++ more) p l
  owner_left p l is = record { offer = is.offer; there = get_left offers more l is.offer is.there; request = is.request; asks = is.asks; about = is.about }

  apart_more : (i j : ℕ) (x y : Offer) → slice_get (offers ++ more) i ≡ Some x → slice_get (offers ++ more) j ≡ Some y → key_of x ≡ key_of y → i ≡ j
  apart_more i j x y e f same = elim (get_either offers more i x e) [
    | inl x_old ↦ elim (get_either offers more j y f) [
      | inl y_old ↦ b.apart i j x y x_old y_old same
      | inr y_new ↦ absurd (old_new i y_new.index x y x_old y_new.there same)
    ]
    | inr x_new ↦ elim (get_either offers more j y f) [
      | inl y_old ↦ absurd (old_new j x_new.index y x y_old x_new.there (sym same))
      | inr y_new ↦ x_new.is ∙ ap (λ n. length offers + n) (new_new x_new.index y_new.index x y x_new.there y_new.there same) ∙ sym y_new.is
    ]
  ]

  reading_more : (l : ℕ) (x : Offer) → slice_get (offers ++ more) l ≡ Some x → IsOffer cap es todo x
  reading_more l x e = elim (get_either offers more l x e) [
    | inl old ↦ offer_other cap es todo position x q there (λ about. not_read is_asking (about_read (key_of x) q about).is) (b.reading l x old)
    | inr new ↦ (
        let is = fresh_at new.index x new.there in
        subst (IsAt cap es todo x) (sym is.stage) (record { front = is.front; back = is.back; wanted = is.wanted; judged = is.judged; pieces = no_pieces keeps x.pieces is.pieces; none = new_unread new.index x new.there }))
  ]

  told_more : (l : ℕ) (x : Offer) → slice_get (offers ++ more) l ≡ Some x → IsTold cap.total (length told) es todo x
  told_more l x e = elim (get_either offers more l x e) [
    | inl old ↦ (
        let is = b.offered l x old in
        record {
          position = is.position;
          first = is.first;
          request = is.request;
          there = is.there;
          server = is.server;
          quiet = is.quiet;
          taken = λ h. is.taken (tail position is.position todo h);
          listed = is.listed;
        })
    | inr new ↦ record {
      position = position;
      first = low;
      request = q;
      there = there;
      server = sym (new_server new.index x new.there);
      quiet = quiet_here;
      taken = not_again new.index x new.there;
      listed = listed_new new.index x new.there;
    }
  ]

  tells_more : (i : ℕ) (t : Told) (r : Request) → slice_get (set told position here) i ≡ Some t → slice_get es i ≡ Some r → HasTold cap.total todo (offers ++ more) i t r
  tells_more i t r e f = elim (cases_lt i position) [
    | inl below ↦ other (λ h. omega (arith, below, h))
    | inr le ↦ elim (cases_lt position i) [
      | inl above ↦ other (λ h. omega (arith, above, h))
      | inr ge ↦ (
          let at : i ≡ position = omega (arith, le, ge) in
          let was = get_of told position low in
          let t_is : here ≡ t = same_Some here t (sym (get_set_same told position was.0 here was.1) ∙ ap (slice_get (set told position here)) (sym at) ∙ e) in
          let r_is : q ≡ r = same_Some q r (sym there ∙ ap (slice_get es) (sym at) ∙ f) in
          inr (subst (λ (x : Told). AreKeys (offers ++ more) x (offered_in cap.total r.server r.outcome)) t_is
          (subst (λ (x : Request). AreKeys (offers ++ more) here (offered_in cap.total x.server x.outcome)) r_is keys_here)))
    ]
  ]
    where
      other : (i ≡ position → ⊥) → HasTold cap.total todo (offers ++ more) i t r
      other apart = elim (b.tells i t r (sym (get_set_other told position i here apart) ∙ e) f) [
        | inr are ↦ inr (keys_before t (offered_in cap.total r.server r.outcome) are)
        | inl waits ↦ elim (contains_cases position i todo waits.0) [
          | inl same ↦ absurd (apart (sym same))
          | inr later ↦ inl (later, keys_before t [] waits.1)
        ]
      ]

  pub book_told : IsBook cap keeps es (set told position here) owners (offers ++ more) begun todo
  book_told =
      let same_length : length (set told position here) ≡ length told = length-set told position here in
      record {
        asks = λ i r lt e. b.asks i r (omega (arith, lt, same_length)) e;
        long = b.long ∙ ap (λ n. n + length owners) (sym same_length);
        owned = λ p l e. subst (λ n. IsOwner es (offers ++ more) (n + p) l) (sym same_length) (owner_left (length told + p) l (b.owned p l e));
        apart = apart_more;
        reading = reading_more;
        alike = λ l x e. elim (get_either offers more l x e) [
          | inl old ↦ b.alike l x old
          | inr new ↦ (fresh_at new.index x new.there).pieces.keeps_is
        ];
        offered = λ l x e. subst (λ n. IsTold cap.total n es todo x) (sym same_length) (told_more l x e);
        tells = tells_more;
        quiet = λ i r h e. b.quiet i r (tail position i todo h) e;
        inside = λ i h. b.inside i (tail position i todo h);
        started = λ l x e lt. elim (get_either offers more l x e) [
          | inl old ↦ b.started l x old lt
          | inr new ↦ absurd (omega (arith, lt, new.is, b.few))
        ];
        unread = λ l x e le. elim (get_either offers more l x e) [
          | inl old ↦ b.unread l x old le
          | inr new ↦ (fresh_at new.index x new.there).stage
        ];
        few = omega (arith, b.few, length-append offers more);
      }

told_is : (t : Told) (first count : ℕ) → t.first ≡ first → t.count ≡ count → t ≡ record { first = first; count = count }
told_is t first count e f = λ i. record { first = e i; count = f i }

-- the shares that an answer lists are taken in
pub told_pushed : (cap : VerifyCapValue) (keeps : Bool) (es : List Request) (told : List Told) (owners : List ℕ) (offers new : List Offer) (begun position : ℕ) (todo : List ℕ) (q : Request) (held : List HeldShare) (total : ℕ) (t : Told)
    → IsBook cap keeps es told owners offers begun (position ∷ todo) → AsksOnce es → position < length told → slice_get es position ≡ Some q
    → ArePushed keeps total q.server held offers new → total ≡ cap.total → rises_from 0 held ≡ true
    → ((n server : ℕ) → offered_in n server q.outcome ≡ map (pair_at server) (filter (λ (h : HeldShare). ltb h.share n) held))
    → t.first ≡ length offers → t.count ≡ length new - length offers → IsTakenOnce es position todo → IsBook cap keeps es (set told position t) owners new begun todo
told_pushed cap keeps es told owners offers new begun position todo q held total t b once low there pushed total_is rising offered first count taken =
    let many : t.count ≡ length pushed.more = omega (arith, count, ap length pushed.offers, length-append offers pushed.more) in
    subst (λ (x : Told). IsBook cap keeps es (set told position x) owners new begun todo) (sym (told_is t (length offers) (length pushed.more) first many))
    (subst (λ (l : List Offer). IsBook cap keeps es (set told position (record { first = length offers; count = length pushed.more })) owners l begun todo) (sym pushed.offers)
    (book_told cap keeps es told owners offers pushed.more begun position todo q held b once low there
    (pushed.keys ∙ ap (λ n. map (pair_at q.server) (filter (λ (h : HeldShare). ltb h.share n) held)) total_is)
    rising (offered cap.total q.server) pushed.unread taken))

-- none of them is read
pub awaited_pushed : (keeps : Bool) (total server : ℕ) (held : List HeldShare) (offers new : List Offer) → ArePushed keeps total server held offers new → AreAwaited offers → AreAwaited new
awaited_pushed keeps total server held offers new pushed all l x e = elim (get_either offers pushed.more l x (ap (λ (os : List Offer). slice_get os l) (sym pushed.offers) ∙ e)) [
  | inl old ↦ all l x old
  | inr added ↦ subst (IsAwaitedAt x) (sym (fresh added.index added.there).stage) tt
]
  where
    fresh : (j : ℕ) → slice_get pushed.more j ≡ Some x → IsNew keeps x
    fresh j f = subst (IsNew keeps) (get_or_from_slice_get pushed.more j x x f) (All-get_or (IsNew keeps) pushed.more j x (slice_get_within pushed.more j x f) pushed.unread)

-- What follows an answer or a loss may be asked: it goes on from each request of its trail.
use Rattle.std.proofs.Common.{◌≡◌, ℕ, zero, suc, ◌+◌, ◌*◌, ◌<◌, ◌≤◌, Bool, true, false, cond, ◌&&◌, min, inl, inr, List, [], ◌∷◌, ◌++◌, Some, length, take, refl, sym, ap, subst, ◌∙◌, arith, true≢false}
use Rattle.std.specs.Prelude.{◌==◌, nat_lt, slice_get}
use Rattle.std.proofs.lemmas.List.{map-append}
use Rattle.std.proofs.lemmas.Bool.{cases_lt, eq-eqb, eqb-true}
use Rattle.std.proofs.lemmas.Option.{get_or_from_slice_get, slice_get_within}
use Rattle.request_record.specs.declared.requests.Asked.{Asked}
use Rattle.request_record.specs.declared.requests.Asked.TheVariants.{Holdings, Allocation, Writing, Closing, Reading, Aborting}
use Rattle.request_record.specs.declared.requests.Request.{Request}
use Rattle.request_record.specs.Record.{RequestsState, asked_all, asked_more, first_request, is_outstanding}
use Rattle.request_record.proofs.StepLaws.{asked_joined}
use Rattle.upload_core.specs.declared.transfers.Effect.{Effect}
use Rattle.upload_core.specs.declared.transfers.Effect.TheVariants.{Fails, Carries, Rests}
use Rattle.upload_core.specs.State.{Goal, UploadState, with_record}
use Rattle.upload_core.specs.Transfers.{asked_after, carried_on, given_up, is_abort_of, is_given_up, is_piece_before, is_transfer, on_piece, piece_at, pieces_from, sent_from, waits_before}
use Rattle.upload_core.specs.Moves.{asks_of_server, follow_ups_of, is_early}
use Rattle.upload_core.specs.Course.{IsCourse, IsInside, IsOfTold, is_holdings, is_told}
use Rattle.upload_core.specs.Trails.{IsAbout, IsBefore, IsLostAt, IsPassed, IsWithin, is_abort, rank_of, reach_of, share_of}
use Rattle.upload_core.proofs.Lists.{any_of, get_either}
use Rattle.upload_core.proofs.Follow.{less_of, lost_follow, piece_inside}
use Rattle.upload_core.proofs.Records.{MayAsk, course_asked, told_push}

-- it asks for a piece to be written
abbrev pub IsPiece : Asked → Type 0
IsPiece (Writing share offset len) = Unit {0}
IsPiece asked = ⊥

module _ (g : Goal) where
  -- what waits while more is asked is a piece
  within_piece : (a b : Asked) → IsWithin g a b → IsPiece a
  within_piece (Writing share offset len) b w = tt
  within_piece Holdings b w = absurd w
  within_piece (Allocation share len) b w = absurd w
  within_piece (Closing share) b w = absurd w
  within_piece (Reading share offset len) b w = absurd w
  within_piece (Aborting share) b w = absurd w

  -- and so is what is asked then, the Abort aside
  asked_piece : (a b : Asked) → IsWithin g a b → is_abort b ≡ false → IsPiece b
  asked_piece (Writing share offset len) (Writing other at count) w n = tt
  asked_piece (Writing share offset len) (Aborting other) w n = absurd (true≢false n)
  asked_piece (Writing share offset len) Holdings w n = absurd w
  asked_piece (Writing share offset len) (Allocation other count) w n = absurd w
  asked_piece (Writing share offset len) (Closing other) w n = absurd w
  asked_piece (Writing share offset len) (Reading other at count) w n = absurd w
  asked_piece Holdings b w n = absurd w
  asked_piece (Allocation share len) b w n = absurd w
  asked_piece (Closing share) b w n = absurd w
  asked_piece (Reading share offset len) b w n = absurd w
  asked_piece (Aborting share) b w n = absurd w

  piece_abort : (a : Asked) (share : ℕ) → IsPiece a → IsWithin g a (Aborting share)
  piece_abort (Writing n offset len) share p = tt
  piece_abort Holdings share p = absurd p
  piece_abort (Allocation n len) share p = absurd p
  piece_abort (Closing n) share p = absurd p
  piece_abort (Reading n offset len) share p = absurd p
  piece_abort (Aborting n) share p = absurd p

  -- no request but the Abort reaches as far as the Abort
  reach_below : (a : Asked) → IsInside g a → is_abort a ≡ false → reach_of g a < g.share_length + 3
  reach_below Holdings i n = omega arith
  reach_below (Allocation share len) i n = omega arith
  reach_below (Writing share offset len) i n = omega (arith, i.1)
  reach_below (Closing share) i n = omega arith
  reach_below (Reading share offset len) i n = absurd i
  reach_below (Aborting share) i n = absurd (true≢false n)

  piece_reach : (a : Asked) → IsInside g a → IsPiece a → reach_of g a ≤ g.share_length
  piece_reach (Writing share offset len) i p = i.1
  piece_reach Holdings i p = absurd p
  piece_reach (Allocation share len) i p = absurd p
  piece_reach (Closing share) i p = absurd p
  piece_reach (Reading share offset len) i p = absurd p
  piece_reach (Aborting share) i p = absurd p

  -- a piece reaches behind where it begins
  piece_rank : (a : Asked) → IsInside g a → IsPiece a → rank_of g a ≤ reach_of g a
  piece_rank (Writing share offset len) i p = omega (arith, i.2)
  piece_rank Holdings i p = absurd p
  piece_rank (Allocation share len) i p = absurd p
  piece_rank (Closing share) i p = absurd p
  piece_rank (Reading share offset len) i p = absurd p
  piece_rank (Aborting share) i p = absurd p

  -- a piece of a share, by its offset
  before_true : (a : Asked) (share end : ℕ) → IsPiece a → share_of a ≡ Some share → rank_of g a < end + 1 → is_piece_before share end a ≡ true
  before_true (Writing n offset len) share end p e lt =
      let same : n ≡ share = cc in
      let less : offset < end = omega (arith, lt) in
      rw (eq-eqb n share same) (lt_true offset end less)
    where
      lt_true : (x y : ℕ) → x < y → nat_lt x y ≡ true
      lt_true x y lt = grind arith
  before_true Holdings share end p e lt = absurd p
  before_true (Allocation n len) share end p e lt = absurd p
  before_true (Closing n) share end p e lt = absurd p
  before_true (Reading n offset len) share end p e lt = absurd p
  before_true (Aborting n) share end p e lt = absurd p

share_same : (n m share : ℕ) → Some n ≡ Some share → Some m ≡ Some share → (m == n) ≡ true
share_same n m share e f = let same : m ≡ n = cc in eq-eqb m n same

-- the Abort of a trail
abort_true : (x y : Asked) (share : ℕ) → is_transfer x ≡ true → share_of x ≡ Some share → share_of y ≡ Some share → is_abort y ≡ true → is_abort_of x y ≡ true
abort_true (Allocation n len) (Aborting m) share t e f h = share_same n m share e f
abort_true (Writing n offset len) (Aborting m) share t e f h = share_same n m share e f
abort_true (Closing n) (Aborting m) share t e f h = share_same n m share e f
abort_true Holdings y share t e f h = absurd (true≢false (sym t))
abort_true (Reading n offset len) y share t e f h = absurd (true≢false (sym t))
abort_true (Aborting n) y share t e f h = absurd (true≢false (sym t))
abort_true x Holdings share t e f h = absurd (true≢false (sym h))
abort_true x (Allocation n len) share t e f h = absurd (true≢false (sym h))
abort_true x (Writing n offset len) share t e f h = absurd (true≢false (sym h))
abort_true x (Closing n) share t e f h = absurd (true≢false (sym h))
abort_true x (Reading n offset len) share t e f h = absurd (true≢false (sym h))

and_true : (a b : Bool) → a ≡ true → b ≡ true → (a && b) ≡ true
and_true true true e f = refl
and_true true false e f = absurd (true≢false (sym f))
and_true false b e f = absurd (true≢false (sym e))

not_true : (b : Bool) → (b ≡ true → ⊥) → b ≡ false
not_true true h = absurd (h refl)
not_true false h = refl

-- ---- one thing is asked, or nothing

abbrev pub beginnings : (u : UploadState) (s : ℕ) (xs : List Asked) → Type 0
beginnings u s xs = (k : ℕ) → IsCourse (with_record u (asked_all (asks_of_server s (take k xs)) u.requests))

none_begins : (u : UploadState) (s : ℕ) → IsCourse u → beginnings u s []
none_begins u s c zero = c
none_begins u s c (suc k) = c

one_begins : (u : UploadState) (s : ℕ) (x : Asked) → MayAsk u (s, x) → IsCourse u → beginnings u s (x ∷ [])
one_begins u s x may c zero = c
one_begins u s x may c (suc zero) = course_asked u (s, x) may c
one_begins u s x may c (suc (suc k)) = course_asked u (s, x) may c

-- ---- the first pieces

-- So far a share was sent to a server, and what waits are pieces. There is room for some more in the
-- window of the first.
record IsOpen (u : UploadState) (s share count offset : ℕ) : Type 0 where
  pub told : is_told u.requests.entries s ≡ true
  pub within : share < length u.goal.digests
  pub inside : offset ≤ u.goal.share_length
  pub room : offset + count * 32768 ≤ u.goal.ahead * 32768
  pub reach : (i : ℕ) (a : Request) → slice_get u.requests.entries i ≡ Some a → IsAbout (s, share) a → reach_of u.goal a.asked ≤ offset
  pub pieces : (i : ℕ) (a : Request) → slice_get u.requests.entries i ≡ Some a → IsAbout (s, share) a → is_outstanding a.outcome ≡ true → IsPiece a.asked

piece_within : (g : Goal) (a : Asked) (share count offset : ℕ) → offset + suc count * 32768 ≤ g.ahead * 32768 → IsPiece a → IsWithin g a (piece_at g share offset)
piece_within g (Writing n at len) share count offset room p = omega (arith, room)
piece_within g Holdings share count offset room p = absurd p
piece_within g (Allocation n len) share count offset room p = absurd p
piece_within g (Closing n) share count offset room p = absurd p
piece_within g (Reading n at len) share count offset room p = absurd p
piece_within g (Aborting n) share count offset room p = absurd p

module _ (u : UploadState) (s share count offset : ℕ) (o : IsOpen u s share (suc count) offset) (lt : offset < u.goal.share_length) where
  abbrev piece : Asked
  piece = piece_at u.goal share offset

  abbrev more : UploadState
  more = with_record u (asked_more s piece u.requests)

  abbrev new : Request
  new = first_request s piece u.requests.clock

  piece_may : MayAsk u (s, piece)
  piece_may = record {
    good = record { inside = piece_inside u.goal share offset o.within lt; share = refl };
    told = o.told;
    further = λ i a n e about has.
        let one : Some share ≡ Some n = has in
        let same : share ≡ n = cc in
        let here : IsAbout (s, share) a = subst (λ (m : ℕ). IsAbout (s, m) a) (sym same) about in
        record {
          further = omega (arith, o.reach i a e here);
          within = λ waits. piece_within u.goal a.asked share count offset o.room (o.pieces i a e here waits);
        };
  }

  piece_open : IsOpen more s share count (min (offset + 32768) u.goal.share_length)
  piece_open = record {
    told = told_push u.requests.entries new s o.told;
    within = o.within;
    inside = omega arith;
    room = omega (arith, o.room);
    reach = λ i a e about. elim (get_either u.requests.entries (new ∷ []) i a e) [
      | inl front ↦ omega (arith, o.reach i a front about, lt)
      | inr back ↦ last_reach back.0 a back.1
    ];
    pieces = λ i a e about waits. elim (get_either u.requests.entries (new ∷ []) i a e) [
      | inl front ↦ o.pieces i a front about waits
      | inr back ↦ last_piece back.0 a back.1
    ];
  }
    where
      last_reach : (k : ℕ) (a : Request) → slice_get (new ∷ []) k ≡ Some a → reach_of u.goal a.asked ≤ min (offset + 32768) u.goal.share_length
      last_reach zero a e = let is : new ≡ a = cc in subst (λ (q : Request). reach_of u.goal q.asked ≤ min (offset + 32768) u.goal.share_length) is (omega (arith, lt))
      last_reach (suc k) a e = absurd cc

      last_piece : (k : ℕ) (a : Request) → slice_get (new ∷ []) k ≡ Some a → IsPiece a.asked
      last_piece zero a e = let is : new ≡ a = cc in subst (λ (q : Request). IsPiece q.asked) is tt
      last_piece (suc k) a e = absurd cc

pieces_begin : (u : UploadState) (s share count offset : ℕ) → IsCourse u → IsOpen u s share count offset → beginnings u s (pieces_from u.goal count share offset)
pieces_begin u s share zero offset c o k = none_begins u s c k
pieces_begin u s share (suc count) offset c o k =
    by (λ lt. pieces_begin (more u s share count offset o lt) s share count (min (offset + 32768) u.goal.share_length) (course_asked u (s, piece_at u.goal share offset) (piece_may u s share count offset o lt) c) (piece_open u s share count offset o lt)) (offset == u.goal.share_length) refl k
  where
    next : ℕ
    next = min (offset + 32768) u.goal.share_length

    by : ((lt : offset < u.goal.share_length) → beginnings (more u s share count offset o lt) s (pieces_from u.goal count share next)) → (b : Bool) → (offset == u.goal.share_length) ≡ b → beginnings u s (cond b [] (piece_at u.goal share offset ∷ pieces_from u.goal count share next))
    by rest true e k = none_begins u s c k
    by rest false e zero = c
    by rest false e (suc k) = rest (less_of offset u.goal.share_length o.inside e) k

-- ---- what follows a request that waits no more

module _ (u : UploadState) (c : IsCourse u) (position : ℕ) (p : IsPassed u.goal u.requests.entries position) where
  abbrev es : List Request
  es = u.requests.entries

  abbrev r : Request
  r = p.request

  inside_of : (i : ℕ) (a : Request) → slice_get es i ≡ Some a → IsInside u.goal a.asked
  inside_of i a e = subst (λ (q : Request). IsInside u.goal q.asked) (get_or_from_slice_get es i a a e) (c.inside i a (slice_get_within es i a e))

  told_of : is_holdings r.asked ≡ false → is_told es r.server ≡ true
  told_of unlike =
      let t : IsOfTold es r = subst (IsOfTold es) (get_or_from_slice_get es position r r p.there) (c.of_told position r (slice_get_within es position r p.there)) in
      elim t [ inl h ↦ absurd (true≢false (sym h ∙ unlike)) | inr t ↦ t ]

  module _ (share : ℕ) (transfer : is_transfer r.asked ≡ true) (has : share_of r.asked ≡ Some share) (still : is_given_up es r.server r.asked ≡ false) where
    -- none of its trail is the Abort
    no_abort : (i : ℕ) (a : Request) → slice_get es i ≡ Some a → IsAbout (r.server, share) a → is_abort a.asked ≡ false
    no_abort i a e about =
        not_true (is_abort a.asked) (λ h.
        let one : ((a.server == r.server) && is_abort_of r.asked a.asked) ≡ true = and_true (a.server == r.server) (is_abort_of r.asked a.asked) (eq-eqb a.server r.server about.0) (abort_true r.asked a.asked share transfer has about.1 h) in
        true≢false (sym (any_of (λ (q : Request). (q.server == r.server) && is_abort_of r.asked q.asked) es i a e one) ∙ still))

    -- it is the request itself, was asked before it, or after it and in its window
    record Place (i : ℕ) (a : Request) : Type 0 where
      pub before : i < position → IsBefore u.goal a r.asked
      pub same : i ≡ position → a ≡ r
      pub behind : position < i → IsWithin u.goal r.asked a.asked × (reach_of u.goal r.asked < rank_of u.goal a.asked)

    place_of : (i : ℕ) (a : Request) → slice_get es i ≡ Some a → IsAbout (r.server, share) a → Place i a
    place_of i a e about = record {
      before = λ lt. c.trails i position a r (r.server, share) lt e p.there about (refl, has);
      same = λ at. let one : Some a ≡ Some r = sym e ∙ ap (slice_get es) at ∙ p.there in cc;
      behind = λ lt. (p.behind i a (r.server, share) lt e (refl, has) about (no_abort i a e about), (c.trails position i r a (r.server, share) lt p.there e (refl, has) about).further);
    }

    -- what waits of its trail is a piece
    waiting_piece : (i : ℕ) (a : Request) → slice_get es i ≡ Some a → IsAbout (r.server, share) a → is_outstanding a.outcome ≡ true → IsPiece a.asked
    waiting_piece i a e about waits =
        let t = place_of i a e about in
        elim (cases_lt i position) [
          | inl lt ↦ within_piece u.goal a.asked r.asked ((t.before lt).within waits)
          | inr ge ↦ (elim (cases_lt position i) [
            | inl behind ↦ asked_piece u.goal r.asked a.asked (t.behind behind).0 (no_abort i a e about)
            | inr le ↦ (let at : i ≡ position = omega (arith, ge, le) in absurd (true≢false (sym waits ∙ ap (λ (q : Request). is_outstanding q.outcome) (t.same at) ∙ p.quiet)))
          ])
        ]

    -- the Abort may be asked
    abort_may : MayAsk u (r.server, Aborting share)
    abort_may = record {
      good = record { inside = share_inside r.asked share transfer has (inside_of position r p.there); share = refl };
      told = told_of (no_holdings r.asked transfer);
      further = λ i a n e about same.
          let one : Some share ≡ Some n = same in
          let is : share ≡ n = cc in
          let here : IsAbout (r.server, share) a = subst (λ (m : ℕ). IsAbout (r.server, m) a) (sym is) about in
          record {
            further = reach_below u.goal a.asked (inside_of i a e) (no_abort i a e here);
            within = λ waits. piece_abort u.goal a.asked share (waiting_piece i a e here waits);
          };
    }
      where
        no_holdings : (a : Asked) → is_transfer a ≡ true → is_holdings a ≡ false
        no_holdings Holdings t = absurd (true≢false (sym t))
        no_holdings (Allocation n len) t = refl
        no_holdings (Writing n offset len) t = refl
        no_holdings (Closing n) t = refl
        no_holdings (Reading n offset len) t = refl
        no_holdings (Aborting n) t = refl

        share_inside : (a : Asked) (n : ℕ) → is_transfer a ≡ true → share_of a ≡ Some n → IsInside u.goal a → n < length u.goal.digests
        share_inside Holdings n t e i = absurd (true≢false (sym t))
        share_inside (Allocation m len) n t e i = let same : m ≡ n = cc in subst (λ (x : ℕ). x < length u.goal.digests) same i.0
        share_inside (Writing m offset len) n t e i = let same : m ≡ n = cc in subst (λ (x : ℕ). x < length u.goal.digests) same i.0
        share_inside (Closing m) n t e i = let same : m ≡ n = cc in subst (λ (x : ℕ). x < length u.goal.digests) same i
        share_inside (Reading m offset len) n t e i = absurd i
        share_inside (Aborting m) n t e i = absurd (true≢false (sym t))

    -- ---- room was granted

    module _ (len : ℕ) (is : r.asked ≡ Allocation share len) where
      alone : (i : ℕ) (a : Request) → slice_get es i ≡ Some a → IsAbout (r.server, share) a → a ≡ r
      alone i a e about =
          let t = place_of i a e about in
          elim (cases_lt i position) [
            | inl lt ↦ absurd (let none : rank_of u.goal r.asked ≡ 0 = ap (rank_of u.goal) is in omega (arith, (t.before lt).further, none))
            | inr ge ↦ (elim (cases_lt position i) [
              | inl behind ↦ absurd (subst (λ (x : Asked). IsWithin u.goal x a.asked) is (t.behind behind).0)
              | inr le ↦ t.same (omega (arith, ge, le))
            ])
          ]

      granted_open : IsOpen u r.server share u.goal.ahead 0
      granted_open = record {
        told = told_of (ap is_holdings is);
        within = (subst (IsInside u.goal) is (inside_of position r p.there)).0;
        inside = omega arith;
        room = omega arith;
        reach = λ i a e about.
            let none : reach_of u.goal a.asked ≡ 0 = ap (λ (q : Request). reach_of u.goal q.asked) (alone i a e about) ∙ ap (reach_of u.goal) is in
            omega (arith, none);
        pieces = λ i a e about waits. absurd (true≢false (sym waits ∙ ap (λ (q : Request). is_outstanding q.outcome) (alone i a e about) ∙ p.quiet));
      }

      granted_begins : beginnings u r.server (pieces_from u.goal u.goal.ahead share 0)
      granted_begins = pieces_begin u r.server share u.goal.ahead 0 c granted_open

    -- ---- a piece was written

    module _ (offset len : ℕ) (is : r.asked ≡ Writing share offset len) (turn : waits_before es r.server share offset ≡ false) where
      abbrev sent : ℕ
      sent = sent_from u.goal offset

      own : IsInside u.goal (Writing share offset len)
      own = subst (IsInside u.goal) is (inside_of position r p.there)

      waits_true : (end i : ℕ) (a : Request) → slice_get es i ≡ Some a → IsAbout (r.server, share) a → is_outstanding a.outcome ≡ true → rank_of u.goal a.asked < end + 1 → waits_before es r.server share end ≡ true
      waits_true end i a e about waits lt =
          any_of (λ (q : Request). (q.server == r.server) && is_piece_before share end q.asked && is_outstanding q.outcome) es i a e
          (and_true ((a.server == r.server) && is_piece_before share end a.asked) (is_outstanding a.outcome)
          (and_true (a.server == r.server) (is_piece_before share end a.asked) (eq-eqb a.server r.server about.0) (before_true u.goal a.asked share end (waiting_piece i a e about waits) about.1 lt)) waits)

      -- nothing before it waits
      quiet_before : (i : ℕ) (a : Request) → slice_get es i ≡ Some a → IsAbout (r.server, share) a → i < position → is_outstanding a.outcome ≡ true → ⊥
      quiet_before i a e about lt waits =
          let t = (place_of i a e about).before lt in
          let piece = waiting_piece i a e about waits in
          let rank : rank_of u.goal r.asked ≡ offset + 1 = ap (rank_of u.goal) is in
          let less : rank_of u.goal a.asked < offset + 1 = omega (arith, piece_rank u.goal a.asked (inside_of i a e) piece, t.further, rank) in
          true≢false (sym (waits_true offset i a e about waits less) ∙ turn)

      -- what was asked after it, and what it reaches
      record IsBehind (a : Request) : Type 0 where
        pub piece : IsPiece a.asked
        pub within : reach_of u.goal a.asked ≤ offset + u.goal.ahead * 32768
        pub further : offset + len < rank_of u.goal a.asked

      behind_of : (i : ℕ) (a : Request) → slice_get es i ≡ Some a → IsAbout (r.server, share) a → position < i → IsBehind a
      behind_of i a e about lt =
          let t = (place_of i a e about).behind lt in
          let w : IsWithin u.goal (Writing share offset len) a.asked = subst (λ (x : Asked). IsWithin u.goal x a.asked) is t.0 in
          let far : reach_of u.goal r.asked ≡ offset + len = ap (reach_of u.goal) is in
          let piece = asked_piece u.goal (Writing share offset len) a.asked w (no_abort i a e about) in
          record { piece = piece; within = by a.asked piece w; further = omega (arith, t.1, far) }
        where
          by : (x : Asked) → IsPiece x → IsWithin u.goal (Writing share offset len) x → reach_of u.goal x ≤ offset + u.goal.ahead * 32768
          by (Writing n at count) q w = w
          by Holdings q w = absurd q
          by (Allocation n count) q w = absurd q
          by (Closing n) q w = absurd q
          by (Reading n at count) q w = absurd q
          by (Aborting n) q w = absurd q

      -- how far what was asked of the trail reaches
      reach_sent : (i : ℕ) (a : Request) → slice_get es i ≡ Some a → IsAbout (r.server, share) a → reach_of u.goal a.asked ≤ sent
      reach_sent i a e about =
          let t = place_of i a e about in
          let rank : rank_of u.goal r.asked ≡ offset + 1 = ap (rank_of u.goal) is in
          let far : reach_of u.goal r.asked ≡ offset + len = ap (reach_of u.goal) is in
          elim (cases_lt i position) [
            | inl lt ↦ omega (arith, (t.before lt).further, rank, own.1)
            | inr ge ↦ (elim (cases_lt position i) [
              | inl behind ↦ (let b = behind_of i a e about behind in omega (arith, b.within, piece_reach u.goal a.asked (inside_of i a e) b.piece))
              | inr le ↦ (
                  let at : i ≡ position = omega (arith, ge, le) in
                  let same : reach_of u.goal a.asked ≡ offset + len = ap (λ (q : Request). reach_of u.goal q.asked) (t.same at) ∙ far in
                  omega (arith, same, own.1, own.2, own.3, c.some))
            ])
          ]

      waits_behind : (i : ℕ) (a : Request) → slice_get es i ≡ Some a → IsAbout (r.server, share) a → is_outstanding a.outcome ≡ true → position < i
      waits_behind i a e about waits = elim (cases_lt i position) [
        | inl lt ↦ absurd (quiet_before i a e about lt waits)
        | inr ge ↦ (elim (cases_lt position i) [
          | inl behind ↦ behind
          | inr le ↦ (
              let at : i ≡ position = omega (arith, ge, le) in
              absurd (true≢false (sym waits ∙ ap (λ (q : Request). is_outstanding q.outcome) ((place_of i a e about).same at) ∙ p.quiet)))
        ])
      ]

      -- the share was sent whole, and none of its pieces waits
      close_may : waits_before es r.server share u.goal.share_length ≡ false → MayAsk u (r.server, Closing share)
      close_may none = record {
        good = record { inside = own.0; share = refl };
        told = told_of (ap is_holdings is);
        further = λ i a n e about same.
            let one : Some share ≡ Some n = same in
            let equal : share ≡ n = cc in
            let here : IsAbout (r.server, share) a = subst (λ (m : ℕ). IsAbout (r.server, m) a) (sym equal) about in
            record {
              further = omega (arith, reach_sent i a e here);
              within = λ waits.
                  let piece = waiting_piece i a e here waits in
                  let less : rank_of u.goal a.asked < u.goal.share_length + 1 = rank_below a.asked (inside_of i a e) piece in
                  absurd (true≢false (sym (waits_true u.goal.share_length i a e here waits less) ∙ none));
            };
      }
        where
          rank_below : (x : Asked) → IsInside u.goal x → IsPiece x → rank_of u.goal x < u.goal.share_length + 1
          rank_below (Writing n at count) i q = omega (arith, i.1, i.2)
          rank_below Holdings i q = absurd q
          rank_below (Allocation n count) i q = absurd q
          rank_below (Closing n) i q = absurd q
          rank_below (Reading n at count) i q = absurd q
          rank_below (Aborting n) i q = absurd q

      -- the piece behind the window
      piece_next : (sent == u.goal.share_length) ≡ false → MayAsk u (r.server, piece_at u.goal share sent)
      piece_next e =
          let lt : sent < u.goal.share_length = less_of sent u.goal.share_length (omega arith) e in
          record {
            good = record { inside = piece_inside u.goal share sent own.0 lt; share = refl };
            told = told_of (ap is_holdings is);
            further = λ i a n f about same.
                let one : Some share ≡ Some n = same in
                let equal : share ≡ n = cc in
                let here : IsAbout (r.server, share) a = subst (λ (m : ℕ). IsAbout (r.server, m) a) (sym equal) about in
                record {
                  further = omega (arith, reach_sent i a f here);
                  within = λ waits.
                      let b = behind_of i a f here (waits_behind i a f here waits) in
                      window a.asked b.piece lt b.further;
                };
          }
        where
          window : (x : Asked) → IsPiece x → sent < u.goal.share_length → offset + len < rank_of u.goal x → IsWithin u.goal x (piece_at u.goal share sent)
          window (Writing n at count) q lt far = omega (arith, lt, far, own.3, c.some)
          window Holdings q lt far = absurd q
          window (Allocation n count) q lt far = absurd q
          window (Closing n) q lt far = absurd q
          window (Reading n at count) q lt far = absurd q
          window (Aborting n) q lt far = absurd q

      written_begins : beginnings u r.server (on_piece u.goal es r.server share offset)
      written_begins = by (sent == u.goal.share_length) (waits_before es r.server share u.goal.share_length) refl refl
        where
          by : (whole waits : Bool) → (sent == u.goal.share_length) ≡ whole → waits_before es r.server share u.goal.share_length ≡ waits → beginnings u r.server (cond (whole && waits) [] (cond whole (Closing share) (piece_at u.goal share sent) ∷ []))
          by true true e f = none_begins u r.server c
          by true false e f = one_begins u r.server (Closing share) (close_may f) c
          by false waits e f = one_begins u r.server (piece_at u.goal share sent) (piece_next e) c

  -- ---- whatever it is

  failed_begins : (x : Asked) → r.asked ≡ x → (b : Bool) → is_given_up es r.server x ≡ b → beginnings u r.server (cond b [] (given_up x))
  failed_begins x is true e = none_begins u r.server c
  failed_begins Holdings is false e = none_begins u r.server c
  failed_begins (Allocation n len) is false e = none_begins u r.server c
  failed_begins (Writing n offset len) is false e = one_begins u r.server (Aborting n) (abort_may n (ap is_transfer is) (ap share_of is) (ap (is_given_up es r.server) is ∙ e)) c
  failed_begins (Closing n) is false e = one_begins u r.server (Aborting n) (abort_may n (ap is_transfer is) (ap share_of is) (ap (is_given_up es r.server) is ∙ e)) c
  failed_begins (Reading n offset len) is false e = none_begins u r.server c
  failed_begins (Aborting n) is false e = none_begins u r.server c

  carried_begins : (x : Asked) → r.asked ≡ x → is_early es r.server x ≡ false → (b : Bool) → is_given_up es r.server x ≡ b → beginnings u r.server (cond b [] (carried_on u.goal es r.server x))
  carried_begins x is turn true e = none_begins u r.server c
  carried_begins Holdings is turn false e = none_begins u r.server c
  carried_begins (Allocation n len) is turn false e = granted_begins n (ap is_transfer is) (ap share_of is) (ap (is_given_up es r.server) is ∙ e) len is
  carried_begins (Writing n offset len) is turn false e = written_begins n (ap is_transfer is) (ap share_of is) (ap (is_given_up es r.server) is ∙ e) offset len is turn
  carried_begins (Closing n) is turn false e = none_begins u r.server c
  carried_begins (Reading n offset len) is turn false e = none_begins u r.server c
  carried_begins (Aborting n) is turn false e = none_begins u r.server c

  -- each beginning of what follows may be asked
  pub follow_begins : (x : Asked) → r.asked ≡ x → (e : Effect) → (e ≡ Carries → is_early es r.server x ≡ false) → beginnings u r.server (asked_after u.goal es r.server x e)
  follow_begins x is Rests turn = none_begins u r.server c
  follow_begins x is Fails turn = failed_begins x is (is_given_up es r.server x) refl
  follow_begins x is Carries turn = carried_begins x is (turn refl) (is_given_up es r.server x) refl

-- ---- the pieces, one more

pieces_snoc : (g : Goal) (share count offset : ℕ) → offset ≤ g.share_length → pieces_from g (suc count) share offset ≡ pieces_from g count share offset ++ pieces_from g 1 share (min (offset + count * 32768) g.share_length)
pieces_snoc g share zero offset le =
    let same : min (offset + 0 * 32768) g.share_length ≡ offset = omega (arith, le) in
    sym (ap (pieces_from g 1 share) same)
pieces_snoc g share (suc count) offset le = by (pieces_snoc g share count (min (offset + 32768) g.share_length) (omega arith)) (offset == g.share_length) refl
  where
    next : ℕ
    next = min (offset + 32768) g.share_length

    end : ℕ
    end = min (offset + suc count * 32768) g.share_length

    by : pieces_from g (suc count) share next ≡ pieces_from g count share next ++ pieces_from g 1 share (min (next + count * 32768) g.share_length) → (b : Bool) → (offset == g.share_length) ≡ b
        → cond b [] (piece_at g share offset ∷ pieces_from g (suc count) share next) ≡ cond b [] (piece_at g share offset ∷ pieces_from g count share next) ++ pieces_from g 1 share end
    by rest true e =
        let at : offset ≡ g.share_length = eqb-true offset g.share_length e in
        let whole : end ≡ g.share_length = omega (arith, at) in
        sym (ap (λ (t : Bool). cond t [] (piece_at g share end ∷ [])) (eq-eqb end g.share_length whole))
    by rest false e =
        let same : min (next + count * 32768) g.share_length ≡ end = omega (arith, le) in
        ap (λ (l : List Asked). piece_at g share offset ∷ l) (rest ∙ ap (λ (n : ℕ). pieces_from g count share next ++ pieces_from g 1 share n) same)

pub pieces_more : (g : Goal) (s share count sent : ℕ) (r : RequestsState) → sent ≡ min (count * 32768) g.share_length
    → asked_all (asks_of_server s (pieces_from g 1 share sent)) (asked_all (asks_of_server s (pieces_from g count share 0)) r) ≡ asked_all (asks_of_server s (pieces_from g (count + 1) share 0)) r
pieces_more g s share count sent r is =
    let ask : Asked → ℕ × Asked = λ (a : Asked). (s, a) in
    let next : suc count ≡ count + 1 = omega arith in
    let at : sent ≡ min (0 + count * 32768) g.share_length = omega (arith, is) in
    let all : pieces_from g (count + 1) share 0 ≡ pieces_from g count share 0 ++ pieces_from g 1 share sent =
    ap (λ (n : ℕ). pieces_from g n share 0) (sym next) ∙ pieces_snoc g share count 0 (omega arith) ∙ ap (λ (n : ℕ). pieces_from g count share 0 ++ pieces_from g 1 share n) (sym at) in
    sym (ap (λ (l : List Asked). asked_all (asks_of_server s l) r) all
    ∙ ap (λ (l : List (ℕ × Asked)). asked_all l r) (map-append ask (pieces_from g count share 0) (pieces_from g 1 share sent))
    ∙ asked_joined (asks_of_server s (pieces_from g count share 0)) (asks_of_server s (pieces_from g 1 share sent)) r)

pub pieces_take : (g : Goal) (share k count offset : ℕ) → k ≤ count → take k (pieces_from g count share offset) ≡ pieces_from g k share offset
pieces_take g share zero count offset le = refl
pieces_take g share (suc k) zero offset le = absurd (omega (arith, le))
pieces_take g share (suc k) (suc count) offset le = by (pieces_take g share k count (min (offset + 32768) g.share_length) (omega (arith, le))) (offset == g.share_length)
  where
    next : ℕ
    next = min (offset + 32768) g.share_length

    by : take k (pieces_from g count share next) ≡ pieces_from g k share next → (b : Bool) → take (suc k) (cond b [] (piece_at g share offset ∷ pieces_from g count share next)) ≡ cond b [] (piece_at g share offset ∷ pieces_from g k share next)
    by rest true = refl
    by rest false = ap (λ (l : List Asked). piece_at g share offset ∷ l) rest

-- ---- all that is asked

take_length : (xs : List Asked) → take (length xs) xs ≡ xs
take_length [] = refl
take_length (x ∷ xs) = ap (λ (l : List Asked). x ∷ l) (take_length xs)

pub all_begun : (u : UploadState) (s : ℕ) (xs ys : List Asked) → ys ≡ xs → beginnings u s xs → IsCourse (with_record u (asked_all (asks_of_server s ys) u.requests))
all_begun u s xs ys e all = subst (λ (l : List Asked). IsCourse (with_record u (asked_all (asks_of_server s l) u.requests))) (take_length xs ∙ sym e) (all (length xs))

pub fails_asked : (g : Goal) (es : List Request) (s : ℕ) (a : Asked) (e : Effect) → e ≡ Fails → is_given_up es s a ≡ false → asked_after g es s a e ≡ given_up a
fails_asked g es s a e is given = ap (asked_after g es s a) is ∙ ap (λ (b : Bool). cond b [] (given_up a)) given

pub carries_asked : (g : Goal) (es : List Request) (s : ℕ) (a : Asked) (e : Effect) → e ≡ Carries → is_given_up es s a ≡ false → asked_after g es s a e ≡ carried_on g es s a
carries_asked g es s a e is given = ap (asked_after g es s a) is ∙ ap (λ (b : Bool). cond b [] (carried_on g es s a)) given

-- ---- a loss

module _ (position : ℕ) (r : Request) where
  pub loss_begins : (u : UploadState) → IsCourse u → slice_get u.requests.entries position ≡ Some r → IsPassed u.goal u.requests.entries position → beginnings u r.server (asked_after u.goal u.requests.entries r.server r.asked Fails)
  loss_begins u c there p =
      let one : Some p.request ≡ Some r = sym p.there ∙ there in
      let same : p.request ≡ r = cc in
      subst (λ (q : Request). beginnings u q.server (asked_after u.goal u.requests.entries q.server q.asked Fails)) same
      (follow_begins u c position p p.request.asked refl Fails (λ e. absurd cc))

  pub loss_follows : (g : Goal) (es : List Request) → slice_get es position ≡ Some r → IsLostAt es position → asks_of_server r.server (asked_after g es r.server r.asked Fails) ≡ follow_ups_of g es (slice_get es position)
  loss_follows g es there l =
      let one : Some l.request ≡ Some r = sym l.there ∙ there in
      let same : l.request ≡ r = cc in
      ap (asks_of_server r.server) (lost_follow g es r (ap (λ (q : Request). q.outcome) (sym same) ∙ l.lost)) ∙ sym (ap (follow_ups_of g es) there)

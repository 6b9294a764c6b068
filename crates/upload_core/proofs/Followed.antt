-- What became of each transfer, as the record goes on.
use Rattle.std.proofs.Common.{◌≡◌, ℕ, zero, suc, ◌+◌, ◌<◌, ◌≤◌, min, ◌⊎◌, inl, inr, Bool, true, false, cond, not, ◌&&◌, List, [], ◌∷◌, ◌++◌, All, Contains, Option, Some, None, length, map, set, max, refl, sym, ap, subst, ◌∙◌, arith, true≢false}
use Rattle.std.specs.Prelude.{◌==◌, nat_lt, slice_get, option_map}
use Rattle.std.proofs.lemmas.Bool.{cases_lt, eqb-true}
use Rattle.std.proofs.lemmas.List.{append_assoc, append-nil}
use Rattle.std.proofs.lemmas.List.Elements.{Contains-append_right}
use Rattle.std.proofs.lemmas.Option.{get_or_from_slice_get, slice_get-map, slice_get_within}
use Rattle.lemmas.proofs.Bools.{both}
use Rattle.wire.specs.declared.message.Body.{Body}
use Rattle.wire.specs.declared.message.Body.TheVariants.{Already, Closed}
use Rattle.wire.specs.declared.message.Message.{Message}
use Rattle.request_record.specs.declared.requests.Asked.{Asked}
use Rattle.request_record.specs.declared.requests.Asked.TheVariants.{Holdings, Allocation, Writing, Closing, Reading, Aborting}
use Rattle.request_record.specs.declared.requests.Outcome.{Outcome}
use Rattle.request_record.specs.declared.requests.Outcome.TheVariants.{Unawaited, Outstanding, Answered, Lost}
use Rattle.request_record.specs.declared.requests.Request.{Request}
use Rattle.request_record.specs.Record.{RequestsState, answered_in, asked_all, asked_more, at, counted_at, counts_at, first_outcome, first_request, is_lost_at, is_outstanding, is_resent_at, resent_one, ticked_one, with_outcome}
use Rattle.request_record.specs.Asking.{after_message, after_tick}
use Rattle.request_record.proofs.RecordLaws.{Awaits, counts_is}
use Rattle.placement.specs.Matching.{Pair}
use Rattle.placement.proofs.Members.{Contains-head, Contains-nil, Contains-uncons}
use Rattle.upload_core.specs.declared.transfers.Effect.TheVariants.{Fails, Carries, Rests}
use Rattle.upload_core.specs.State.{Goal}
use Rattle.upload_core.specs.Acknowledged.{acked_answer, acked_by, acked_outcome, acked_share, is_digest_of}
use Rattle.upload_core.specs.Transfers.{asked_after, carried_on, carries, carries_by, effect_of, fails, follow_ups, has_failed, is_abort_of, is_acknowledged, is_given_up, is_piece_before, is_transfer, next_of, piece_at, pieces_from, sent_from, waits_before}
use Rattle.upload_core.specs.Moves.{asks_of_server, follow_ups_of, followed_at}
use Rattle.upload_core.specs.Course.{IsInside, allocations}
use Rattle.upload_core.specs.Trails.{AreFailed, AreFollowed, HasFailed, IsAbout, IsFollowed, by_answer, by_failure, by_waiting, is_abort, share_of}
use Rattle.upload_core.proofs.Follow.{follow_onward, in_cond, in_one}
use Rattle.upload_core.proofs.Lists.{contains_at, get_either, get_front, get_mapped, passing}
use Rattle.upload_core.proofs.Records.{Goes, IsSame, about_was, same_ticked, stays_goes, was_goes}
use Rattle.upload_core.proofs.Goes.{message_goes, tick_goes}

-- ---- more requests

-- the requests that are asked more
abbrev pub new_of : ℕ → ℕ × Asked → Request
new_of now ask = first_request ask.0 ask.1 now

pub entries_all : (asks : List (ℕ × Asked)) (r : RequestsState) → (asked_all asks r).entries ≡ r.entries ++ map (new_of r.clock) asks
entries_all [] r = sym (append-nil r.entries)
entries_all (ask ∷ asks) r =
    entries_all asks (asked_more ask.0 ask.1 r) ∙ append_assoc r.entries (new_of r.clock ask ∷ []) (map (new_of r.clock) asks)

-- an ask of a server
from_asks : (s : ℕ) (xs : List Asked) (ask : ℕ × Asked) → Contains (asks_of_server s xs) ask → Contains xs ask.1 × (s ≡ ask.0)
from_asks s [] ask c = absurd (Contains-nil ask c)
from_asks s (x ∷ xs) ask c = elim (Contains-uncons (s, x) (asks_of_server s xs) ask c) [
  | inl same ↦ (subst (Contains (x ∷ xs)) (ap (λ (a : ℕ × Asked). a.1) same) (Contains-head x xs), ap (λ (a : ℕ × Asked). a.0) same)
  | inr more ↦ (let r = from_asks s xs ask more in (Contains-append_right (x ∷ []) xs ask.1 r.0, r.1))
]

-- what follows a request is asked of its server
pub asked_from : (g : Goal) (es : List Request) (o : Option Request) (ask : ℕ × Asked) → Contains (follow_ups_of g es o) ask → (r : Request) × (o ≡ Some r) × Contains (follow_ups g es r) ask.1 × (r.server ≡ ask.0)
asked_from g es None ask c = absurd (Contains-nil ask c)
asked_from g es (Some r) ask c = let t = from_asks r.server (follow_ups g es r) ask c in (r, refl, t.0, t.1)

module _ (g : Goal) where
  pub followed_more : (es more : List Request) (pair : Pair) → IsFollowed g es pair → IsFollowed g (es ++ more) pair
  followed_more es more pair f = elim f [
    | by_failure i r e s h ↦ by_failure i r (get_front es more i r e) s h
    | by_answer i r e c ↦ by_answer i r (get_front es more i r e) c
    | by_waiting i r e a t o ↦ by_waiting i r (get_front es more i r e) a t o
  ]

  -- ---- what is settled stays so

  failed_quiet : (a : Asked) (o : Outcome) → fails g a o ≡ true → is_outstanding o ≡ false
  failed_quiet a Unawaited h = refl
  failed_quiet a Outstanding h = absurd (true≢false (sym h))
  failed_quiet a (Answered body) h = refl
  failed_quiet a Lost h = refl

  acked_quiet : (s : ℕ) (a : Asked) (o : Outcome) (pair : Pair) → Contains {X = Pair} (acked_outcome g s a o) pair → is_outstanding o ≡ false
  acked_quiet s a Unawaited pair c = refl
  acked_quiet s a Outstanding pair c = absurd (Contains-nil pair c)
  acked_quiet s a (Answered body) pair c = refl
  acked_quiet s a Lost pair c = refl

  -- a request of the pair's trail that waits
  record Waits (es : List Request) (pair : Pair) : Type 0 where
    pub position : ℕ
    pub request : Request
    pub there : slice_get es position ≡ Some request
    pub about : IsAbout pair request
    pub transfer : is_transfer request.asked ≡ true
    pub waiting : is_outstanding request.outcome ≡ true

  followed_goes : (es ns : List Request) → Goes es ns → (pair : Pair) → IsFollowed g es pair → IsFollowed g ns pair ⊎ Waits es pair
  followed_goes es ns k pair f = elim f [
    | by_failure i r e s h ↦ inl (by_failure i r (stays_goes es ns k i r e (failed_quiet r.asked r.outcome h)) s h)
    | by_answer i r e c ↦ inl (by_answer i r (stays_goes es ns k i r e (acked_quiet r.server r.asked r.outcome pair c)) c)
    | by_waiting i r e a t o ↦ inr (record { position = i; request = r; there = e; about = a; transfer = t; waiting = o })
  ]

  -- ---- an answer

  digest_acked : (s share : ℕ) (digest : List ℕ) → is_digest_of g share digest ≡ true → Contains {X = Pair} (acked_share g s share digest) (s, share)
  digest_acked s share digest = by (is_digest_of g share digest)
    where
      by : (b : Bool) → b ≡ true → Contains {X = Pair} (cond b ((s, share) ∷ []) []) (s, share)
      by true e = Contains-head (s, share) []
      by false e = absurd (true≢false (sym e))

  allocation_acked : (s share len : ℕ) (b : Body) → is_acknowledged g (Allocation share len) b ≡ true → Contains {X = Pair} (acked_answer g s (Allocation share len) b) (s, share)
  allocation_acked s share len (Already d) h = digest_acked s share d h
  allocation_acked s share len b h = absurd (true≢false (sym h))

  writing_acked : (s share offset len : ℕ) (b : Body) → is_acknowledged g (Writing share offset len) b ≡ true → Contains {X = Pair} (acked_answer g s (Writing share offset len) b) (s, share)
  writing_acked s share offset len (Already d) h = digest_acked s share d h
  writing_acked s share offset len b h = absurd (true≢false (sym h))

  closing_acked : (s share : ℕ) (b : Body) → is_acknowledged g (Closing share) b ≡ true → Contains {X = Pair} (acked_answer g s (Closing share) b) (s, share)
  closing_acked s share (Closed d) h = digest_acked s share d h
  closing_acked s share b h = absurd (true≢false (sym h))

  share_is : (s share other : ℕ) (pairs : List Pair) → Some share ≡ Some other → Contains {X = Pair} pairs (s, share) → Contains {X = Pair} pairs (s, other)
  share_is s share other pairs e c = let same : share ≡ other = cc in subst (λ (h : ℕ). Contains {X = Pair} pairs (s, h)) same c

  answer_acked : (s : ℕ) (a : Asked) (b : Body) (share : ℕ) → share_of a ≡ Some share → is_acknowledged g a b ≡ true → Contains {X = Pair} (acked_answer g s a b) (s, share)
  answer_acked s Holdings b share e h = absurd cc
  answer_acked s (Allocation n len) b share e h = share_is s n share (acked_answer g s (Allocation n len) b) e (allocation_acked s n len b h)
  answer_acked s (Writing n offset len) b share e h = share_is s n share (acked_answer g s (Writing n offset len) b) e (writing_acked s n offset len b h)
  answer_acked s (Closing n) b share e h = share_is s n share (acked_answer g s (Closing n) b) e (closing_acked s n b h)
  answer_acked s (Reading n offset len) b share e h = absurd cc
  answer_acked s (Aborting n) b share e h = absurd (true≢false (sym h))

  transfer_waits : (x : Asked) → is_transfer x ≡ true → is_outstanding (first_outcome x) ≡ true
  transfer_waits Holdings h = refl
  transfer_waits (Allocation share len) h = refl
  transfer_waits (Writing share offset len) h = refl
  transfer_waits (Closing share) h = refl
  transfer_waits (Reading share offset len) h = refl
  transfer_waits (Aborting share) h = absurd (true≢false (sym h))

  acked_of : (t c k : Bool) → (t && not c && not k) ≡ false → t ≡ true → c ≡ false → k ≡ true
  acked_of true false true e f h = refl
  acked_of true false false e f h = absurd (true≢false e)
  acked_of true true k e f h = absurd (true≢false h)
  acked_of false c k e f h = absurd (true≢false (sym f))

  -- the Abort of a trail is an Abort, and a piece that waits is about its pair
  abort_is : (x y : Asked) → is_abort_of x y ≡ true → is_abort y ≡ true
  abort_is (Allocation n len) (Aborting m) e = refl
  abort_is (Writing n offset len) (Aborting m) e = refl
  abort_is (Closing n) (Aborting m) e = refl
  abort_is x y e = absurd cc

  piece_about : (share end : ℕ) (a : Asked) → is_piece_before share end a ≡ true → (share_of a ≡ Some share) × (is_transfer a ≡ true)
  piece_about share end (Writing n offset len) e = (ap Some (eqb-true n share (both (n == share) (nat_lt offset end) e).0), refl)
  piece_about share end a e = absurd cc

  next_waits : (share sent : ℕ) → (share_of (next_of g share sent) ≡ Some share) × (is_transfer (next_of g share sent) ≡ true)
  next_waits share sent = by (sent == g.share_length)
    where
      by : (b : Bool) → (share_of (cond b (Closing share) (piece_at g share sent)) ≡ Some share) × (is_transfer (cond b (Closing share) (piece_at g share sent)) ≡ true)
      by true = (refl, refl)
      by false = (refl, refl)

  -- what is asked first is a request of the transfer
  pub record Begins (share : ℕ) (xs : List Asked) : Type 0 where
    pub first : Asked
    pub rest : List Asked
    pub parts : xs ≡ first ∷ rest
    pub about : share_of first ≡ Some share
    pub transfer : is_transfer first ≡ true

  pieces_first : (share count : ℕ) → 1 ≤ count → 1 ≤ g.share_length → Begins share (pieces_from g count share 0)
  pieces_first share zero some long = absurd (omega (arith, some))
  pieces_first share (suc count) some long = by (0 == g.share_length) refl
    where
      by : (b : Bool) → (0 == g.share_length) ≡ b → Begins share (cond b [] (piece_at g share 0 ∷ pieces_from g count share (min (0 + 32768) g.share_length)))
      by true e = absurd (let same : 0 ≡ g.share_length = eqb-true 0 g.share_length e in omega (arith, long, same))
      by false e = record { first = piece_at g share 0; rest = pieces_from g count share (min (0 + 32768) g.share_length); parts = refl; about = refl; transfer = refl }

  -- it waits
  begins_waits : (front : List Request) (s now share : ℕ) (xs : List Asked) (pair : Pair) → Begins share xs → s ≡ pair.0 → Some share ≡ Some pair.1 → IsFollowed g (front ++ map (new_of now) (asks_of_server s xs)) pair
  begins_waits front s now share xs pair b server same =
      let new : Request = first_request s b.first now in
      let here : slice_get (front ++ map (new_of now) (asks_of_server s (b.first ∷ b.rest))) (length front) ≡ Some new = get_behind_first front new (map (new_of now) (asks_of_server s b.rest)) in
      subst (λ (l : List Asked). IsFollowed g (front ++ map (new_of now) (asks_of_server s l)) pair) (sym b.parts)
      (by_waiting (length front) new here (server, b.about ∙ same) b.transfer (transfer_waits b.first b.transfer))
    where
      get_behind_first : (xs : List Request) (y : Request) (ys : List Request) → slice_get (xs ++ y ∷ ys) (length xs) ≡ Some y
      get_behind_first [] y ys = refl
      get_behind_first (x ∷ xs) y ys = get_behind_first xs y ys

  -- a request of a transfer that was answered
  module _ (n : Request) (body : Body) (answered : n.outcome ≡ Answered body) (transfer : is_transfer n.asked ≡ true) (front : List Request) (position now : ℕ) (there : slice_get front position ≡ Some n) (failed : AreFailed g front) (some : 1 ≤ g.ahead) (long : 1 ≤ g.share_length) where
    abbrev follows : List Asked
    follows = follow_ups g front n

    abbrev more : List Request
    more = map (new_of now) (asks_of_server n.server follows)

    module _ (pair : Pair) (about : IsAbout pair n) where
      -- its transfer was given up
      given_followed : is_given_up front n.server n.asked ≡ true → IsFollowed g (front ++ more) pair
      given_followed given =
          let w = passing (λ (r : Request). (r.server == n.server) && is_abort_of n.asked r.asked) front given in
          let t = both (w.item.server == n.server) (is_abort_of n.asked w.item.asked) w.passes in
          let f = failed w.position w.item w.there (abort_is n.asked w.item.asked t.1) in
          by_failure f.position f.request (get_front front more f.position f.request f.there) (f.server_is ∙ eqb-true w.item.server n.server t.0 ∙ about.0) f.failed

      -- what an answer carries on to, where its transfer was not given up
      carried_followed : (a : Asked) → n.asked ≡ a → (b : Body) → carries g a b ≡ true → IsFollowed g (front ++ map (new_of now) (asks_of_server n.server (carried_on g front n.server a))) pair
      carried_followed (Allocation share len) is b e =
          begins_waits front n.server now share (pieces_from g g.ahead share 0) pair (pieces_first share g.ahead some long) about.0 (sym (ap share_of is) ∙ about.1)
      carried_followed (Writing share offset len) is b e = by (sent == g.share_length) (waits_before front n.server share g.share_length) refl refl
        where
          sent : ℕ
          sent = sent_from g offset

          same : Some share ≡ Some pair.1
          same = sym (ap share_of is) ∙ about.1

          next : Begins share (next_of g share sent ∷ [])
          next = let w = next_waits share sent in record { first = next_of g share sent; rest = []; parts = refl; about = w.0; transfer = w.1 }

          by : (whole waits : Bool) → (sent == g.share_length) ≡ whole → waits_before front n.server share g.share_length ≡ waits → IsFollowed g (front ++ map (new_of now) (asks_of_server n.server (cond (whole && waits) [] (next_of g share sent ∷ [])))) pair
          by true true f h =
              let w = passing (λ (r : Request). (r.server == n.server) && is_piece_before share g.share_length r.asked && is_outstanding r.outcome) front h in
              let t = both ((w.item.server == n.server) && is_piece_before share g.share_length w.item.asked) (is_outstanding w.item.outcome) w.passes in
              let k = both (w.item.server == n.server) (is_piece_before share g.share_length w.item.asked) t.0 in
              let q = piece_about share g.share_length w.item.asked k.1 in
              by_waiting w.position w.item (get_front front [] w.position w.item w.there) (eqb-true w.item.server n.server k.0 ∙ about.0, q.0 ∙ same) q.1 t.1
          by true false f h = begins_waits front n.server now share (next_of g share sent ∷ []) pair next about.0 same
          by false waits f h = begins_waits front n.server now share (next_of g share sent ∷ []) pair next about.0 same
      carried_followed a is b e = absurd cc

      answered_followed : IsFollowed g (front ++ more) pair
      answered_followed = by (has_failed g n) (carries g n.asked body) refl refl
        where
          by : (fails-so carries-so : Bool) → has_failed g n ≡ fails-so → carries g n.asked body ≡ carries-so → IsFollowed g (front ++ more) pair
          by true carries-so e f = by_failure position n (get_front front more position n there) about.0 e
          by false false e f =
              let is-failed : fails g n.asked (Answered body) ≡ false = sym (ap (fails g n.asked) answered) ∙ e in
              let acked : is_acknowledged g n.asked body ≡ true = acked_of (is_transfer n.asked) (carries g n.asked body) (is_acknowledged g n.asked body) is-failed transfer f in
              let c : Contains {X = Pair} (acked_answer g n.server n.asked body) (n.server, pair.1) = answer_acked n.server n.asked body pair.1 about.1 acked in
              let at : Contains {X = Pair} (acked_by g n) (n.server, pair.1) = subst (λ (o : Outcome). Contains {X = Pair} (acked_outcome g n.server n.asked o) (n.server, pair.1)) (sym answered) c in
              by_answer position n (get_front front more position n there) (subst (λ (s : ℕ). Contains {X = Pair} (acked_by g n) (s, pair.1)) about.0 at)
          by false true e f = given (is_given_up front n.server n.asked) refl
            where
              effect : effect_of g n.asked n.outcome ≡ Carries
              effect =
                  let so : carries_by g n.asked n.outcome ≡ true = ap (carries_by g n.asked) answered ∙ f in
                  ap (λ (b : Bool). cond b Fails (cond (carries_by g n.asked n.outcome) Carries Rests)) e ∙ ap (λ (b : Bool). cond b Carries Rests) so

              follow : follows ≡ cond (is_given_up front n.server n.asked) [] (carried_on g front n.server n.asked)
              follow = ap (asked_after g front n.server n.asked) effect

              given : (b : Bool) → is_given_up front n.server n.asked ≡ b → IsFollowed g (front ++ more) pair
              given true h = given_followed h
              given false h =
                  subst (λ (l : List Asked). IsFollowed g (front ++ map (new_of now) (asks_of_server n.server l)) pair) (sym (follow ∙ ap (λ (b : Bool). cond b [] (carried_on g front n.server n.asked)) h))
                  (carried_followed n.asked refl body f)

  -- an Abort is asked only where a transfer failed
  no_abort_pieces : (share count offset : ℕ) (x : Asked) → Contains (pieces_from g count share offset) x → is_abort x ≡ false
  no_abort_pieces share zero offset x c = absurd (Contains-nil x c)
  no_abort_pieces share (suc count) offset x c = elim (Contains-uncons (piece_at g share offset) (pieces_from g count share (min (offset + 32768) g.share_length)) x (in_cond (offset == g.share_length) (piece_at g share offset ∷ pieces_from g count share (min (offset + 32768) g.share_length)) x c)) [
    | inl same ↦ ap is_abort (sym same)
    | inr rest ↦ no_abort_pieces share count (min (offset + 32768) g.share_length) x rest
  ]

  no_abort_next : (share sent : ℕ) → is_abort (next_of g share sent) ≡ false
  no_abort_next share sent = by (sent == g.share_length)
    where
      by : (b : Bool) → is_abort (cond b (Closing share) (piece_at g share sent)) ≡ false
      by true = refl
      by false = refl

  no_abort_carried : (es : List Request) (s : ℕ) (a x : Asked) → Contains (carried_on g es s a) x → is_abort x ≡ false
  no_abort_carried es s (Allocation share len) x c = no_abort_pieces share g.ahead 0 x c
  no_abort_carried es s (Writing share offset len) x c =
      let one = in_cond ((sent_from g offset == g.share_length) && waits_before es s share g.share_length) (next_of g share (sent_from g offset) ∷ []) x c in
      ap is_abort (sym (in_one (next_of g share (sent_from g offset)) x one)) ∙ no_abort_next share (sent_from g offset)
  no_abort_carried es s Holdings x c = absurd (Contains-nil x c)
  no_abort_carried es s (Closing share) x c = absurd (Contains-nil x c)
  no_abort_carried es s (Reading share offset len) x c = absurd (Contains-nil x c)
  no_abort_carried es s (Aborting share) x c = absurd (Contains-nil x c)

  abort_after : (es : List Request) (s : ℕ) (a : Asked) (carry : Bool) (x : Asked) → Contains (asked_after g es s a (cond carry Carries Rests)) x → is_abort x ≡ false
  abort_after es s a true x c = no_abort_carried es s a x (in_cond (is_given_up es s a) (carried_on g es s a) x c)
  abort_after es s a false x c = absurd (Contains-nil x c)

  abort_failed : (es : List Request) (n : Request) (x : Asked) → Contains (follow_ups g es n) x → is_abort x ≡ true → has_failed g n ≡ true
  abort_failed es n x c abort = by (has_failed g n) refl
    where
      by : (b : Bool) → has_failed g n ≡ b → has_failed g n ≡ true
      by true e = e
      by false e =
          let d = subst (λ (b : Bool). Contains (asked_after g es n.server n.asked (cond b Fails (cond (carries_by g n.asked n.outcome) Carries Rests))) x) e c in
          absurd (true≢false (sym abort ∙ abort_after es n.server n.asked (carries_by g n.asked n.outcome) x d))

  -- ---- the record after an answer

  get_set : (es : List Request) (position : ℕ) (n : Request) → position < length es → slice_get (set es position n) position ≡ Some n
  get_set [] position n lt = absurd (omega (arith, lt))
  get_set (q ∷ qs) zero n lt = refl
  get_set (q ∷ qs) (suc position) n lt = get_set qs position n (omega (arith, lt))

  get_other : (es : List Request) (position i : ℕ) (n : Request) → (i ≡ position → ⊥) → slice_get (set es position n) i ≡ slice_get es i
  get_other [] position i n other = refl
  get_other (q ∷ qs) zero zero n other = absurd (other refl)
  get_other (q ∷ qs) zero (suc i) n other = refl
  get_other (q ∷ qs) (suc position) zero n other = refl
  get_other (q ∷ qs) (suc position) (suc i) n other = get_other qs position i n (λ e. other (ap suc e))

  pub inside_at : (es : List Request) (i : ℕ) (r : Request) → All (λ (q : Request). IsInside g q.asked) es → slice_get es i ≡ Some r → IsInside g r.asked
  inside_at es i r all e = subst (λ (q : Request). IsInside g q.asked) (get_or_from_slice_get es i r r e) (all i r (slice_get_within es i r e))

  -- what was answered, and the record then
  pub message_set : (from : ℕ) (m : Message) (now : ℕ) (r : RequestsState) (position : ℕ) (counts : counts_at from m r ≡ Some position) → (after_message from m now r).entries ≡ set r.entries position (with_outcome (counts_is from m r position counts).request (Answered m.body))
  message_set from m now r position counts =
      ap (λ (o : Option ℕ). (counted_at m (at now r) o).entries) counts ∙ ap (λ (o : Option Request). answered_in r.entries position o m.body) (counts_is from m r position counts).there

  pub message_there : (from : ℕ) (m : Message) (now : ℕ) (r : RequestsState) (position : ℕ) (counts : counts_at from m r ≡ Some position) → slice_get (after_message from m now r).entries position ≡ Some (with_outcome (counts_is from m r position counts).request (Answered m.body))
  message_there from m now r position counts =
      let a = counts_is from m r position counts in
      ap (λ (es : List Request). slice_get es position) (message_set from m now r position counts) ∙ get_set r.entries position (with_outcome a.request (Answered m.body)) (slice_get_within r.entries position a.request a.there)

  -- what failed stays so
  failed_goes : (es ns : List Request) → Goes es ns → (server : ℕ) → HasFailed g es server → HasFailed g ns server
  failed_goes es ns k server f = record { position = f.position; request = f.request; there = stays_goes es ns k f.position f.request f.there (failed_quiet f.request.asked f.request.outcome f.failed); server_is = f.server_is; failed = f.failed }

  pub failed_more : (es more : List Request) (server : ℕ) → HasFailed g es server → HasFailed g (es ++ more) server
  failed_more es more server f = record { position = f.position; request = f.request; there = get_front es more f.position f.request f.there; server_is = f.server_is; failed = f.failed }

  pub all_failed_goes : (es ns : List Request) → Goes es ns → AreFailed g es → AreFailed g ns
  all_failed_goes es ns k all i q e abort =
      let was = was_goes es ns k i q e in
      let f = all i was.request was.there (ap is_abort (sym was.same.asked) ∙ abort) in
      subst (HasFailed g ns) (sym was.same.server) (failed_goes es ns k was.request.server f)

  module _ (from : ℕ) (m : Message) (now : ℕ) (r : RequestsState) (position : ℕ) (counts : counts_at from m r ≡ Some position)
      (inside : All (λ (q : Request). IsInside g q.asked) r.entries) (some : 1 ≤ g.ahead) (long : 1 ≤ g.share_length) (followed : AreFollowed g r.entries) (failed : AreFailed g r.entries) where
    abbrev a : Awaits r.entries position
    a = counts_is from m r position counts

    abbrev answered : Request
    answered = with_outcome a.request (Answered m.body)

    abbrev after : RequestsState
    after = after_message from m now r

    there : slice_get after.entries position ≡ Some answered
    there = message_there from m now r position counts

    goes : Goes r.entries after.entries
    goes = message_goes from m now r

    failed_now : AreFailed g after.entries
    failed_now = all_failed_goes r.entries after.entries goes failed

    onward : (x : Asked) → Contains (follow_ups g after.entries answered) x → share_of x ≡ share_of answered.asked
    onward x c = (follow_onward g after.entries answered x (inside_at r.entries position a.request inside a.there) c).same

    abbrev next : List (ℕ × Asked)
    next = follow_ups_of g after.entries (slice_get after.entries position)

    asks : next ≡ asks_of_server answered.server (follow_ups g after.entries answered)
    asks = ap (follow_ups_of g after.entries) there

    abbrev new : RequestsState
    new = followed_at g position after

    new_entries : new.entries ≡ after.entries ++ map (new_of after.clock) next
    new_entries = entries_all next after

    old_followed : (i : ℕ) (q : Request) (pair : Pair) → slice_get after.entries i ≡ Some q → IsAbout pair q → IsFollowed g new.entries pair
    old_followed i q pair e about =
        let was = was_goes r.entries after.entries goes i q e in
        let before : IsFollowed g r.entries pair = followed i was.request pair was.there (about_was pair was.request q was.same about) in
        subst (λ (es : List Request). IsFollowed g es pair) (sym new_entries)
        (elim (followed_goes r.entries after.entries goes pair before) [
          | inl f ↦ followed_more after.entries (map (new_of after.clock) next) pair f
          | inr w ↦ by w (cases_lt w.position position) (cases_lt position w.position)
        ])
      where
        at_position : (w : Waits r.entries pair) → w.position ≡ position → IsFollowed g (after.entries ++ map (new_of after.clock) next) pair
        at_position w e =
            let one : Some w.request ≡ Some a.request = sym w.there ∙ ap (slice_get r.entries) e ∙ a.there in
            let same : w.request ≡ a.request = cc in
            subst (λ (l : List (ℕ × Asked)). IsFollowed g (after.entries ++ map (new_of after.clock) l) pair) (sym asks)
            (answered_followed answered m.body refl (sym (ap (λ (q : Request). is_transfer q.asked) same) ∙ w.transfer) after.entries position after.clock there failed_now some long pair (subst (IsAbout pair) same w.about))

        elsewhere : (w : Waits r.entries pair) → (w.position ≡ position → ⊥) → IsFollowed g (after.entries ++ map (new_of after.clock) next) pair
        elsewhere w other =
            let still : slice_get after.entries w.position ≡ Some w.request = ap (λ (es : List Request). slice_get es w.position) (message_set from m now r position counts) ∙ get_other r.entries position w.position answered other ∙ w.there in
            followed_more after.entries (map (new_of after.clock) next) pair (by_waiting w.position w.request still w.about w.transfer w.waiting)

        by : (w : Waits r.entries pair) → (w.position < position) ⊎ (position ≤ w.position) → (position < w.position) ⊎ (w.position ≤ position) → IsFollowed g (after.entries ++ map (new_of after.clock) next) pair
        by w (inl lt) c = elsewhere w (λ e. absurd (omega (arith, lt, e)))
        by w (inr le) (inl lt) = elsewhere w (λ e. absurd (omega (arith, lt, e)))
        by w (inr le) (inr ge) = at_position w (omega (arith, le, ge))

    -- what is asked new follows the answer
    record IsNext (q : Request) : Type 0 where
      pub asked : Asked
      pub is : first_request answered.server asked after.clock ≡ q
      pub follows : Contains (follow_ups g after.entries answered) asked

    next_of_it : (k : ℕ) (q : Request) → slice_get (map (new_of after.clock) next) k ≡ Some q → IsNext q
    next_of_it k q e =
        let n = get_mapped (new_of after.clock) next k q e in
        let by = asked_from g after.entries (slice_get after.entries position) n.0 (contains_at next k n.0 n.1) in
        let one : Some by.0 ≡ Some answered = sym by.1 ∙ there in
        let same : by.0 ≡ answered = cc in
        record {
          asked = n.0.1;
          is = ap (λ (s : ℕ). first_request s n.0.1 after.clock) (sym (ap (λ (x : Request). x.server) same) ∙ by.3) ∙ n.2;
          follows = subst (λ (x : Request). Contains (follow_ups g after.entries x) n.0.1) same by.2;
        }

    pub followed_message : AreFollowed g new.entries
    followed_message i q pair e about =
        elim (get_either after.entries (map (new_of after.clock) next) i q (sym (ap (λ (es : List Request). slice_get es i) new_entries) ∙ e)) [
          | inl front ↦ old_followed i q pair front about
          | inr back ↦ (
              let n = next_of_it back.0 q back.1 in
              let about-new : IsAbout pair (first_request answered.server n.asked after.clock) = subst (IsAbout pair) (sym n.is) about in
              old_followed position answered pair there (about-new.0, sym (onward n.asked n.follows) ∙ about-new.1))
        ]

    pub failed_message : AreFailed g new.entries
    failed_message i q e abort =
        subst (λ (es : List Request). HasFailed g es q.server) (sym new_entries)
        (elim (get_either after.entries (map (new_of after.clock) next) i q (sym (ap (λ (es : List Request). slice_get es i) new_entries) ∙ e)) [
          | inl front ↦ failed_more after.entries (map (new_of after.clock) next) q.server (failed_now i q front abort)
          | inr back ↦ (
              let n = next_of_it back.0 q back.1 in
              let so : has_failed g answered ≡ true = abort_failed after.entries answered n.asked n.follows (ap (λ (x : Request). is_abort x.asked) n.is ∙ abort) in
              record { position = position; request = answered; there = get_front after.entries (map (new_of after.clock) next) position answered there; server_is = ap (λ (x : Request). x.server) n.is; failed = so })
        ])

  -- ---- the record after a tick

  lost_failed : (now : ℕ) (q : Request) → is_transfer q.asked ≡ true → is_outstanding q.outcome ≡ true → (has_failed g (ticked_one now q) ≡ true) ⊎ (is_outstanding (ticked_one now q).outcome ≡ true)
  lost_failed now q transfer waiting = by (is_lost_at now q) (is_resent_at now q)
    where
      by : (lost again : Bool) → (has_failed g (cond lost (with_outcome q Lost) (cond again (resent_one now q) q)) ≡ true) ⊎ (is_outstanding (cond lost (with_outcome q Lost) (cond again (resent_one now q) q)).outcome ≡ true)
      by true again = inl transfer
      by false true = inr waiting
      by false false = inr waiting

  module _ (now : ℕ) (r : RequestsState) (inside : All (λ (q : Request). IsInside g q.asked) r.entries) (followed : AreFollowed g r.entries) where
    pub ticked_followed : (i : ℕ) (q : Request) (pair : Pair) → slice_get (after_tick now r).entries i ≡ Some q → IsAbout pair q → IsFollowed g (after_tick now r).entries pair
    ticked_followed i q pair e about =
        let time : ℕ = max r.clock now in
        let goes : Goes r.entries (after_tick now r).entries = tick_goes now r in
        let w = was_goes r.entries (after_tick now r).entries goes i q e in
        let before : IsFollowed g r.entries pair = followed i w.request pair w.there (about_was pair w.request q w.same about) in
        elim (followed_goes r.entries (after_tick now r).entries goes pair before) [
          | inl f ↦ f
          | inr lasts ↦ (
              let there : slice_get (after_tick now r).entries lasts.position ≡ Some (ticked_one time lasts.request) = slice_get-map (ticked_one time) r.entries lasts.position ∙ ap (option_map (ticked_one time)) lasts.there in
              let same : IsSame lasts.request (ticked_one time lasts.request) = same_ticked time lasts.request in
              elim (lost_failed time lasts.request lasts.transfer lasts.waiting) [
                | inl failed ↦ by_failure lasts.position (ticked_one time lasts.request) there (same.server ∙ lasts.about.0) failed
                | inr still ↦ by_waiting lasts.position (ticked_one time lasts.request) there (same.server ∙ lasts.about.0, ap share_of same.asked ∙ lasts.about.1) (ap is_transfer same.asked ∙ lasts.transfer) still
              ])
        ]

  -- ---- the record after a placing

  pub followed_placed : (len : ℕ) (pairs : List Pair) (r : RequestsState) → AreFollowed g r.entries → AreFollowed g (asked_all (allocations len pairs) r).entries
  followed_placed len pairs r followed i q pair e about =
      let asks : List (ℕ × Asked) = allocations len pairs in
      let more : List Request = map (new_of r.clock) asks in
      elim (get_either r.entries more i q (sym (ap (λ (es : List Request). slice_get es i) (entries_all asks r)) ∙ e)) [
        | inl front ↦ subst (λ (es : List Request). IsFollowed g es pair) (sym (entries_all asks r)) (followed_more r.entries more pair (followed i q pair front about))
        | inr new ↦ (
            let n = get_mapped (new_of r.clock) asks new.0 q new.1 in
            let a = get_mapped (λ (p : Pair). (p.0, Allocation p.1 len)) pairs new.0 n.0 n.1 in
            let is : new_of r.clock (a.0.0, Allocation a.0.1 len) ≡ q = ap (new_of r.clock) a.2 ∙ n.2 in
            by_waiting i q e about (ap (λ (x : Request). is_transfer x.asked) (sym is)) (ap (λ (x : Request). is_outstanding x.outcome) (sym is)))
      ]

  pub failed_placed : (len : ℕ) (pairs : List Pair) (r : RequestsState) → AreFailed g r.entries → AreFailed g (asked_all (allocations len pairs) r).entries
  failed_placed len pairs r failed i q e abort =
      let asks : List (ℕ × Asked) = allocations len pairs in
      let more : List Request = map (new_of r.clock) asks in
      elim (get_either r.entries more i q (sym (ap (λ (es : List Request). slice_get es i) (entries_all asks r)) ∙ e)) [
        | inl front ↦ subst (λ (es : List Request). HasFailed g es q.server) (sym (entries_all asks r)) (failed_more r.entries more q.server (failed i q front abort))
        | inr new ↦ (
            let n = get_mapped (new_of r.clock) asks new.0 q new.1 in
            let a = get_mapped (λ (p : Pair). (p.0, Allocation p.1 len)) pairs new.0 n.0 n.1 in
            let is : new_of r.clock (a.0.0, Allocation a.0.1 len) ≡ q = ap (new_of r.clock) a.2 ∙ n.2 in
            absurd (true≢false (sym abort ∙ ap (λ (x : Request). is_abort x.asked) (sym is))))
      ]

-- How the record of requests goes on.
use Rattle.std.proofs.Common.{◌≡◌, ℕ, zero, suc, ◌+◌, ◌-◌, ◌<◌, ◌≤◌, Bool, true, false, cond, List, [], ◌∷◌, ◌++◌, length, get_or, set, take, drop, map, Option, Some, None, refl, sym, ap, subst, ◌∙◌, arith, inl, inr}
use Rattle.std.specs.Prelude.{◌==◌, ◌&&◌, not, slice_get, slice_set, nat_lt, nat_le, filter, option_map}
use Rattle.std.specs.List.{All}
use Rattle.std.proofs.lemmas.Bool.{ltb-true, cases_lt, eq-eqb}
use Rattle.std.proofs.lemmas.List.{take_all, drop_all, take_at, take-append-le, take-set-le, take_more, length-append, length-map, length-take, length-set, map-append, append-nil}
use Rattle.std.proofs.Math.Seq.{take-set-lt}
use Rattle.std.proofs.lemmas.List.Sums.{sum_by-append, sum_by-set}
use Rattle.std.proofs.lemmas.List.Elements.{All-nil, All-cons, All-head, All-tail, All-push, All-weaker, All-append, All-set, All-map, All-same}
use Rattle.std.proofs.lemmas.Option.{get_or_from_slice_get, slice_get-map}
use Rattle.lemmas.proofs.Options.{chosen}
pub use Rattle.lemmas.proofs.Positions.{get_push, get_last}
use Rattle.lemmas.proofs.Positions.{get_set_other}
use Rattle.lemmas.proofs.Bools.{both, not_both}
use Rattle.wire.specs.declared.message.Body.{Body}
use Rattle.wire.specs.declared.message.Message.{Message}
use Rattle.request_record.specs.declared.requests.Asked.{Asked}
use Rattle.request_record.specs.declared.requests.Asked.TheVariants.{Holdings, Allocation, Writing, Closing, Reading, Aborting}
use Rattle.request_record.specs.declared.requests.Outcome.{Outcome}
use Rattle.request_record.specs.declared.requests.Outcome.TheVariants.{Unawaited, Outstanding, Answered, Lost}
use Rattle.request_record.specs.declared.requests.Request.{Request}
use Rattle.request_record.specs.Record.{RequestsState, IsRecord, IsIndexed, AreSettled, AreInOrder, fits, is_outstanding, with_outcome, first_outcome, first_request, asked_more, asked_all, awaits_at, counts_at, without, without_lost, passed, age_of, is_lost_at, is_resent_at, is_lost_in, resent_one, ticked_one, positions_from, resent_positions, lost_positions, IsSentFew, is_current, is_current_in, outstanding_count}
use Rattle.request_record.proofs.StepLaws.{count_cons, waiting_one}
use Rattle.request_record.specs.Asking.{asks_of, begun, fresh}

-- ---- lists

abbrev pub IsQuiet : Request → Type 0
IsQuiet r = is_outstanding r.outcome ≡ false

abbrev IsCurrentIn : List Request → ℕ → Type 0
IsCurrentIn entries position = is_current_in (slice_get entries position) ≡ true

-- what a filter keeps, where what it tests gives more
all_kept : {X : Type 0} (P Q : X → Type 0) (test : X → Bool) → ((x : X) → P x → test x ≡ true → Q x) → (xs : List X) → All P xs → All Q (filter test xs)
all_kept P Q test from [] all = All-nil Q
all_kept P Q test from (x ∷ xs) all = go (test x) refl (all_kept P Q test from xs (All-tail P x xs all))
  where
    go : (b : Bool) → test x ≡ b → All Q (filter test xs) → All Q (cond b (x ∷ filter test xs) (filter test xs))
    go true e rest = All-cons Q x (filter test xs) (from x (All-head P x xs all) e) rest
    go false e rest = rest

-- ---- asking

pub count_push : (entries : List Request) (r : Request) → outstanding_count (entries ++ r ∷ []) ≡ outstanding_count entries + cond (is_outstanding r.outcome) 1 0
count_push entries r = sum_by-append (λ (q : Request). cond (is_outstanding q.outcome) 1 0) entries (r ∷ []) ∙ omega arith

-- no more wait than there are
pub count_le : (entries : List Request) → outstanding_count entries ≤ length entries
count_le [] = omega arith
count_le (r ∷ rs) = omega (arith, count_cons r rs, one_at_most (is_outstanding r.outcome), count_le rs)
  where
    one_at_most : (b : Bool) → cond b 1 0 ≤ 1
    one_at_most true = omega arith
    one_at_most false = omega arith

few_push : (server now : ℕ) (asked : Asked) (entries : List Request) → All IsSentFew entries → All IsSentFew (entries ++ first_request server asked now ∷ [])
few_push server now asked entries few = All-push IsSentFew entries (first_request server asked now) few (omega arith, omega arith)

there_push : (entries : List Request) (r : Request) (outgoing : List ℕ) → All (λ position. position < length entries) outgoing → All (λ position. position < length (entries ++ r ∷ [])) (outgoing ++ length entries ∷ [])
there_push entries r outgoing there =
    let len : length (entries ++ r ∷ []) ≡ length entries + 1 = length-append entries (r ∷ []) in
    All-push (λ position. position < length (entries ++ r ∷ [])) outgoing (length entries)
    (All-weaker (λ position. position < length entries) (λ position. position < length (entries ++ r ∷ [])) (λ position lt. omega (arith, lt, len)) outgoing there)
    (omega (arith, len))

pub first_current : (asked : Asked) → is_current (first_outcome asked) ≡ true
first_current Holdings = refl
first_current (Allocation share len) = refl
first_current (Writing share offset len) = refl
first_current (Closing share) = refl
first_current (Reading share offset len) = refl
first_current (Aborting share) = refl

current_push : (entries : List Request) (r : Request) (outgoing : List ℕ) → is_current r.outcome ≡ true → All (λ position. position < length entries) outgoing → All (IsCurrentIn entries) outgoing → All (IsCurrentIn (entries ++ r ∷ [])) (outgoing ++ length entries ∷ [])
current_push entries r outgoing new there current =
    All-push (IsCurrentIn (entries ++ r ∷ [])) outgoing (length entries)
    (λ k d lt. ap is_current_in (get_push entries r (get_or outgoing k d) (there k d lt)) ∙ current k d lt)
    (ap is_current_in (get_last entries r) ∙ new)

pub asked_right : (server : ℕ) (asked : Asked) (r : RequestsState) → IsRecord r → IsRecord (asked_more server asked r)
asked_right server asked r right = record {
  few = few_push server r.clock asked r.entries right.few;
  there = there_push r.entries (first_request server asked r.clock) r.outgoing right.there;
  current = current_push r.entries (first_request server asked r.clock) r.outgoing (first_current asked) right.there right.current;
}

settled_push : (position : ℕ) (entries : List Request) (r : Request) → AreSettled position entries → AreSettled position (entries ++ r ∷ [])
settled_push position entries r s = record {
  within = omega (arith, s.within, length-append entries (r ∷ []));
  settled = All-same IsQuiet (take position (entries ++ r ∷ [])) (take position entries) (take-append-le position entries (r ∷ []) s.within) s.settled;
}

pub asked_indexed : (n more position sent : ℕ) (entries : List Request) (r : Request) (outgoing new : List ℕ) → IsIndexed n position sent entries outgoing → more ≡ cond (is_outstanding r.outcome) 1 0
    → AreInOrder sent (entries ++ r ∷ []) new → IsIndexed (n + more) position sent (entries ++ r ∷ []) new
asked_indexed n more position sent entries r outgoing new i e order = record {
  counts = omega (arith, count_push entries r, i.counts, e);
  before = settled_push position entries r i.before;
  within = omega (arith, i.within, length-append entries (r ∷ []));
  order = order;
}

-- one more is asked behind all others
pub asked_snoc : (asks : List (ℕ × Asked)) (ask : ℕ × Asked) (r : RequestsState) → asked_all (asks ++ ask ∷ []) r ≡ asked_more ask.0 ask.1 (asked_all asks r)
asked_snoc [] ask r = refl
asked_snoc (a ∷ asks) ask r = asked_snoc asks ask (asked_more a.0 a.1 r)

-- the servers up to one are asked
pub begun_more : (servers : List ℕ) (i session now : ℕ) → i < length servers → begun (take (i + 1) servers) session now ≡ asked_more (get_or servers i 0) Holdings (begun (take i servers) session now)
begun_more servers i session now lt =
    ap (λ (ss : List ℕ). begun ss session now) (take_more servers i 0 lt)
    ∙ ap (λ (asks : List (ℕ × Asked)). asked_all asks (fresh session now)) (map-append (λ (s : ℕ). (s, Holdings)) (take i servers) (get_or servers i 0 ∷ []))
    ∙ asked_snoc (asks_of (take i servers)) (get_or servers i 0, Holdings) (fresh session now)

-- ---- answers

-- a request that an answer counts for is there and waits
pub record Awaits (entries : List Request) (position : ℕ) : Type 0 where
  pub request : Request
  pub there : slice_get entries position ≡ Some request
  pub waits : is_outstanding request.outcome ≡ true

awaits_is : (from : ℕ) (body : Body) (entries : List Request) (position : ℕ) (o : Option Request) → slice_get entries position ≡ o → awaits_at from body o ≡ true → Awaits entries position
awaits_is from body entries position None there e = absurd cc
awaits_is from body entries position (Some r) there e =
    let t = both (is_outstanding r.outcome && (r.server == from)) (fits r.asked body) e in
    record { request = r; there = there; waits = (both (is_outstanding r.outcome) (r.server == from) t.0).0 }

pub counts_is : (from : ℕ) (m : Message) (s : RequestsState) (position : ℕ) → counts_at from m s ≡ Some position → Awaits s.entries position
counts_is from m s position e =
    let at = slice_get s.entries (m.number - 1) in
    let t = chosen ((m.session == s.session) && not (m.number == 0) && awaits_at from m.body at) (m.number - 1) position e in
    let last = (both ((m.session == s.session) && not (m.number == 0)) (awaits_at from m.body at) t.0).1 in
    subst (Awaits s.entries) t.1 (awaits_is from m.body s.entries (m.number - 1) at refl last)

-- the entries after an answer
abbrev pub settled : (entries : List Request) (position : ℕ) → Awaits entries position → Body → List Request
settled entries position a body = slice_set entries position (with_outcome a.request (Answered body))

pub count_settled : (entries : List Request) (position : ℕ) (a : Awaits entries position) (body : Body) → position < length entries → outstanding_count (settled entries position a body) + 1 ≡ outstanding_count entries
count_settled entries position a body lt =
    let f : Request → ℕ = λ q. cond (is_outstanding q.outcome) 1 0 in
    let e = sum_by-set f entries position (with_outcome a.request (Answered body)) a.request lt in
    let was : f (get_or entries position a.request) ≡ 1 = ap f (get_or_from_slice_get entries position a.request a.request a.there) ∙ ap (λ (b : Bool). cond b 1 0) a.waits in
    omega (arith, e, was)

few_settled : (entries : List Request) (position : ℕ) (a : Awaits entries position) (body : Body) → position < length entries → All IsSentFew entries → All IsSentFew (settled entries position a body)
few_settled entries position a body lt few =
    let was : IsSentFew a.request = subst IsSentFew (get_or_from_slice_get entries position a.request a.request a.there) (few position a.request lt) in
    All-set IsSentFew entries position (with_outcome a.request (Answered body)) was few

pub answered_right : (r : RequestsState) (position : ℕ) (a : Awaits r.entries position) (body : Body) → position < length r.entries → IsRecord r
    → (new : RequestsState) → new.entries ≡ settled r.entries position a body → new.outgoing ≡ without position r.outgoing → IsRecord new
answered_right r position a body lt right new entries-are outgoing-are =
    let len : length new.entries ≡ length r.entries = ap length entries-are ∙ length-set r.entries position (with_outcome a.request (Answered body)) in
    let there : All (λ p. p < length new.entries) (without position r.outgoing) = all_kept (λ p. p < length r.entries) (λ p. p < length new.entries) (λ (p : ℕ). not (p == position)) (λ p h e. omega (arith, h, len)) r.outgoing right.there in
    let current : All (IsCurrentIn (settled r.entries position a body)) (without position r.outgoing) = all_kept (IsCurrentIn r.entries) (IsCurrentIn (settled r.entries position a body)) (λ (p : ℕ). not (p == position)) (λ p h e. ap is_current_in (get_set_other r.entries position p (with_outcome a.request (Answered body)) (λ same. not_both (p == position) (eq-eqb p position same) e)) ∙ h) r.outgoing right.current in
    record {
      few = subst (All IsSentFew) (sym entries-are) (few_settled r.entries position a body lt right.few);
      there = subst (All (λ p. p < length new.entries)) (sym outgoing-are) there;
      current = subst (λ (es : List Request). All (IsCurrentIn es) new.outgoing) (sym entries-are) (subst (All (IsCurrentIn (settled r.entries position a body))) (sym outgoing-are) current);
    }

settled_set : (from position : ℕ) (entries : List Request) (r : Request) → IsQuiet r → AreSettled from entries → AreSettled from (set entries position r)
settled_set from position entries r quiet s = record {
  within = omega (arith, s.within, length-set entries position r);
  settled = elim (cases_lt position from) [
    | inl lt ↦ All-same IsQuiet (take from (set entries position r)) (set (take from entries) position r) (take-set-lt from entries position r lt) (All-set IsQuiet (take from entries) position r quiet s.settled)
    | inr le ↦ All-same IsQuiet (take from (set entries position r)) (take from entries) (take-set-le from entries position r le) s.settled
  ];
}

pub answered_indexed : (n from position sent : ℕ) (entries : List Request) (a : Awaits entries position) (body : Body) (outgoing new : List ℕ) → position < length entries → IsIndexed (n + 1) from sent entries outgoing
    → AreInOrder sent (settled entries position a body) new → IsIndexed n from sent (settled entries position a body) new
answered_indexed n from position sent entries a body outgoing new lt i order = record {
  counts = omega (arith, count_settled entries position a body lt, i.counts);
  before = settled_set from position entries (with_outcome a.request (Answered body)) refl i.before;
  within = omega (arith, i.within, length-set entries position (with_outcome a.request (Answered body)));
  order = order;
}

-- ---- ticks

few_one : (now : ℕ) (r : Request) → IsSentFew r → IsSentFew (ticked_one now r)
few_one now r few = go (is_lost_at now r) (is_resent_at now r) refl
  where
    go : (lost again : Bool) → is_resent_at now r ≡ again → IsSentFew (cond lost (with_outcome r Lost) (cond again (resent_one now r) r))
    go true again e = few
    go false false e = few
    go false true e =
        let t = both (is_outstanding r.outcome && nat_lt (age_of now r) 20) (nat_lt r.marks (passed (age_of now r))) e in
        let more : r.marks < passed (age_of now r) = ltb-true _ _ t.1 in
        (omega arith, omega (arith, few.0, few.1, more))

pub few_ticked : (now : ℕ) (entries : List Request) → All IsSentFew entries → All IsSentFew (map (ticked_one now) entries)
few_ticked now entries few = All-map IsSentFew (ticked_one now) entries (All-weaker IsSentFew (λ r. IsSentFew (ticked_one now r)) (few_one now) entries few)

-- the positions of those that pass a test are below their number
pub positions_there : (test : Request → Bool) (position : ℕ) (entries : List Request) (n : ℕ) → position + length entries ≤ n → All (λ p. p < n) (positions_from test position entries)
positions_there test position [] n le = All-nil (λ p. p < n)
positions_there test position (r ∷ rs) n le = go (test r) (positions_there test (position + 1) rs n (omega arith))
  where
    go : (b : Bool) → All (λ p. p < n) (positions_from test (position + 1) rs) → All (λ p. p < n) (cond b (position ∷ positions_from test (position + 1) rs) (positions_from test (position + 1) rs))
    go true rest = All-cons (λ p. p < n) position (positions_from test (position + 1) rs) (omega arith) rest
    go false rest = rest

outstanding_current : (o : Outcome) → is_outstanding o ≡ true → is_current o ≡ true
outstanding_current Unawaited e = refl
outstanding_current Outstanding e = refl
outstanding_current (Answered body) e = absurd cc
outstanding_current Lost e = absurd cc

resent_waits : (now : ℕ) (r : Request) → is_resent_at now r ≡ true → is_outstanding r.outcome ≡ true
resent_waits now r e = (both (is_outstanding r.outcome) (nat_lt (age_of now r) 20) (both (is_outstanding r.outcome && nat_lt (age_of now r) 20) (nat_lt r.marks (passed (age_of now r))) e).0).0

abbrev IsCurrentFrom : ℕ → List Request → ℕ → Type 0
IsCurrentFrom position rs p = (position ≤ p) × IsCurrentIn rs (p - position)

resent_current : (now position : ℕ) (rs : List Request) → All (IsCurrentFrom position rs) (positions_from (is_resent_at now) position rs)
resent_current now position [] = All-nil (IsCurrentFrom position [])
resent_current now position (r ∷ rs) = go (is_resent_at now r) refl (All-weaker (IsCurrentFrom (position + 1) rs) (IsCurrentFrom position (r ∷ rs)) behind (positions_from (is_resent_at now) (position + 1) rs) (resent_current now (position + 1) rs))
  where
    behind : (p : ℕ) → IsCurrentFrom (position + 1) rs p → IsCurrentFrom position (r ∷ rs) p
    behind p h =
        let next : p - position ≡ suc (p - (position + 1)) = omega (arith, h.0) in
        (omega (arith, h.0), ap (λ (k : ℕ). is_current_in (slice_get (r ∷ rs) k)) next ∙ h.1)

    go : (b : Bool) → is_resent_at now r ≡ b → All (IsCurrentFrom position (r ∷ rs)) (positions_from (is_resent_at now) (position + 1) rs)
        → All (IsCurrentFrom position (r ∷ rs)) (cond b (position ∷ positions_from (is_resent_at now) (position + 1) rs) (positions_from (is_resent_at now) (position + 1) rs))
    go true e rest =
        let first : position - position ≡ 0 = omega arith in
        let here : IsCurrentFrom position (r ∷ rs) position = (omega arith, ap (λ (k : ℕ). is_current_in (slice_get (r ∷ rs) k)) first ∙ outstanding_current r.outcome (resent_waits now r e)) in
        All-cons (IsCurrentFrom position (r ∷ rs)) position (positions_from (is_resent_at now) (position + 1) rs) here rest
    go false e rest = rest

ticked_current : (now : ℕ) (o : Option Request) → is_current_in o ≡ true → not (is_lost_in now o) ≡ true → is_current_in (option_map (ticked_one now) o) ≡ true
ticked_current now None h e = absurd cc
ticked_current now (Some r) h e = go (is_lost_at now r) (is_resent_at now r) e
  where
    go : (lost again : Bool) → not lost ≡ true → is_current_in (Some (cond lost (with_outcome r Lost) (cond again (resent_one now r) r))) ≡ true
    go true again stays = absurd cc
    go false true stays = h
    go false false stays = h

pub ticked_right : (now : ℕ) (r : RequestsState) → IsRecord r → (new : RequestsState) → new.entries ≡ map (ticked_one now) r.entries → new.outgoing ≡ without_lost now r.entries (r.outgoing ++ resent_positions now r.entries) → IsRecord new
ticked_right now r right new entries-are outgoing-are =
    let len : length new.entries ≡ length r.entries = ap length entries-are ∙ length-map r.entries (ticked_one now) in
    let all = r.outgoing ++ resent_positions now r.entries in
    let test : ℕ → Bool = λ p. not (is_lost_in now (slice_get r.entries p)) in
    let were_there : All (λ p. p < length r.entries) all = All-append (λ p. p < length r.entries) r.outgoing (resent_positions now r.entries) right.there (positions_there (is_resent_at now) 0 r.entries (length r.entries) (omega arith)) in
    let again : All (IsCurrentIn r.entries) (resent_positions now r.entries) = All-weaker (IsCurrentFrom 0 r.entries) (IsCurrentIn r.entries) (λ p h. subst (IsCurrentIn r.entries) (let e : p - 0 ≡ p = omega arith in e) h.1) (resent_positions now r.entries) (resent_current now 0 r.entries) in
    let were_current : All (IsCurrentIn r.entries) all = All-append (IsCurrentIn r.entries) r.outgoing (resent_positions now r.entries) right.current again in
    let there : All (λ p. p < length new.entries) (without_lost now r.entries all) = all_kept (λ p. p < length r.entries) (λ p. p < length new.entries) test (λ p h e. omega (arith, h, len)) all were_there in
    let current : All (IsCurrentIn (map (ticked_one now) r.entries)) (without_lost now r.entries all) = all_kept (IsCurrentIn r.entries) (IsCurrentIn (map (ticked_one now) r.entries)) test (λ p h e. ap is_current_in (slice_get-map (ticked_one now) r.entries p) ∙ ticked_current now (slice_get r.entries p) h e) all were_current in
    record {
      few = subst (All IsSentFew) (sym entries-are) (few_ticked now r.entries right.few);
      there = subst (All (λ p. p < length new.entries)) (sym outgoing-are) there;
      current = subst (λ (es : List Request). All (IsCurrentIn es) new.outgoing) (sym entries-are) (subst (All (IsCurrentIn (map (ticked_one now) r.entries))) (sym outgoing-are) current);
    }

-- how many a tick finds lost
pub count_ticked : (now position : ℕ) (entries : List Request) → outstanding_count (map (ticked_one now) entries) + length (positions_from (is_lost_at now) position entries) ≡ outstanding_count entries
count_ticked now position [] = refl
count_ticked now position (r ∷ rs) = go (is_lost_at now r) (is_resent_at now r) refl (count_ticked now (position + 1) rs)
  where
    rest : List ℕ
    rest = positions_from (is_lost_at now) (position + 1) rs

    go : (lost again : Bool) → is_lost_at now r ≡ lost → outstanding_count (map (ticked_one now) rs) + length rest ≡ outstanding_count rs
        → outstanding_count (cond lost (with_outcome r Lost) (cond again (resent_one now r) r) ∷ map (ticked_one now) rs) + length (cond lost (position ∷ rest) rest) ≡ outstanding_count (r ∷ rs)
    go true again e others =
        let waits : waiting_one r ≡ 1 = ap (λ (b : Bool). cond b 1 0) (both (is_outstanding r.outcome) (nat_le 20 (age_of now r)) e).0 in
        omega (arith, others, waits, count_cons r rs, count_cons (with_outcome r Lost) (map (ticked_one now) rs))
    go false true e others = omega (arith, others, count_cons r rs, count_cons (resent_one now r) (map (ticked_one now) rs))
    go false false e others = omega (arith, others, count_cons r rs, count_cons r (map (ticked_one now) rs))

-- ---- those that are settled before a position

pub lost_quiet : (now : ℕ) (r : Request) → IsQuiet r → is_lost_at now r ≡ false
lost_quiet now r quiet = rw quiet refl

pub resent_quiet : (now : ℕ) (r : Request) → IsQuiet r → is_resent_at now r ≡ false
resent_quiet now r quiet = rw quiet refl

pub ticked_quiet : (now : ℕ) (r : Request) → IsQuiet r → ticked_one now r ≡ r
ticked_quiet now r quiet = rw (lost_quiet now r quiet, resent_quiet now r quiet) refl

pub ticked_behind : (now n : ℕ) (entries : List Request) → All IsQuiet (take n entries) → take n entries ++ map (ticked_one now) (drop n entries) ≡ map (ticked_one now) entries
ticked_behind now zero entries quiet = refl
ticked_behind now (suc n) [] quiet = refl
ticked_behind now (suc n) (r ∷ rs) quiet =
    ap (λ (es : List Request). r ∷ es) (ticked_behind now n rs (All-tail IsQuiet r (take n rs) quiet))
    ∙ ap (λ (q : Request). q ∷ map (ticked_one now) rs) (sym (ticked_quiet now r (All-head IsQuiet r (take n rs) quiet)))

positions_behind : (test : Request → Bool) → ((r : Request) → IsQuiet r → test r ≡ false) → (n position : ℕ) (entries : List Request) → All IsQuiet (take n entries) → positions_from test (position + n) (drop n entries) ≡ positions_from test position entries
positions_behind test none zero position entries quiet = ap (λ (p : ℕ). positions_from test p entries) (omega arith)
positions_behind test none (suc n) position [] quiet = refl
positions_behind test none (suc n) position (r ∷ rs) quiet =
    let at : position + suc n ≡ position + 1 + n = omega arith in
    rw (none r (All-head IsQuiet r (take n rs) quiet)) (ap (λ (p : ℕ). positions_from test p (drop n rs)) at ∙ positions_behind test none n (position + 1) rs (All-tail IsQuiet r (take n rs) quiet))

pub resent_behind : (now n : ℕ) (entries : List Request) → AreSettled n entries → positions_from (is_resent_at now) n (drop n entries) ≡ resent_positions now entries
resent_behind now n entries s = ap (λ (p : ℕ). positions_from (is_resent_at now) p (drop n entries)) (omega arith) ∙ positions_behind (is_resent_at now) (resent_quiet now) n 0 entries s.settled

pub lost_behind : (now n : ℕ) (entries : List Request) → AreSettled n entries → positions_from (is_lost_at now) n (drop n entries) ≡ lost_positions now entries
lost_behind now n entries s = ap (λ (p : ℕ). positions_from (is_lost_at now) p (drop n entries)) (omega arith) ∙ positions_behind (is_lost_at now) (lost_quiet now) n 0 entries s.settled

pub settled_front : (n : ℕ) (entries others : List Request) → AreSettled n entries → AreSettled n (take n entries ++ others)
settled_front n entries others s =
    let len : length (take n entries) ≡ n = omega (arith, length-take n entries, s.within) in
    record {
      within = omega (arith, length-append (take n entries) others, len);
      settled = All-same IsQuiet (take n (take n entries ++ others)) (take n entries) (take_at (take n entries) others n len) s.settled;
    }

-- those that are settled are so after a tick
pub settled_ticked : (now n : ℕ) (entries : List Request) → AreSettled n entries → AreSettled n (map (ticked_one now) entries)
settled_ticked now n entries s = subst (AreSettled n) (ticked_behind now n entries s.settled) (settled_front n entries (map (ticked_one now) (drop n entries)) s)

-- what was written through a borrow of a whole list
pub lent_whole : {X : Type 0} (old new : List X) (len : ℕ) → length old ≡ len → length new ≡ length old → take len (new ++ drop (length new) old) ≡ new
lent_whole {X = X} old new len old-len new-len =
    ap (λ (r : List X). take len (new ++ r)) (drop_all (length new) old (omega (arith, new-len))) ∙ ap (take len) (append-nil new) ∙ take_all len new (omega (arith, old-len, new-len))

-- How the requests in memory go on: by ticks, by one more, and by one that is settled.
use Rattle.std.proofs.Common.{◌≡◌, ℕ, zero, suc, ◌+◌, ◌-◌, ◌<◌, ◌≤◌, Bool, true, false, cond, List, [], ◌∷◌, ◌++◌, length, get_or, set, take, drop, map, Option, Some, None, refl, sym, ap, subst, ◌∙◌, arith}
use Rattle.std.specs.Prelude.{slice_get, nat_le, is_some}
use Rattle.std.specs.List.{All, remove}
use Rattle.std.proofs.lemmas.List.{drop-set-lt, length-drop, length-set, map-append, take-append-drop, take-set, take_all}
use Rattle.std.proofs.lemmas.List.Elements.{All-nil, All-cons, All-head, All-tail, All-weaker, All-append, All-same}
use Rattle.std.proofs.lemmas.Option.{get_or_from_slice_get, same_Some}
use Rattle.lemmas.proofs.Bools.{both}
use Rattle.lemmas.proofs.Options.{one_there}
use Rattle.lemmas.proofs.Positions.{get_set}
use Rattle.request_record.specs.declared.entries.Entry.{Entry}
use Rattle.request_record.specs.declared.requests.Asked.{Asked}
use Rattle.request_record.specs.declared.requests.Asked.TheVariants.{Holdings, Writing}
use Rattle.request_record.specs.declared.requests.Outcome.{Outcome}
use Rattle.request_record.specs.declared.requests.Outcome.TheVariants.{Unawaited, Outstanding, Answered, Lost}
use Rattle.request_record.specs.declared.requests.Request.{Request}
use Rattle.request_record.specs.Record.{AreSettled, age_of, first_request, is_current, is_current_in, is_lost_at, is_outstanding, is_resent_at, lost_positions, positions_from, resent_one, ticked_one, with_outcome}
use Rattle.request_record.specs.Entries.{IsCut, IsHere, IsInMemory, entries_from, first_position, settled_entry, ticked_entry}
use Rattle.request_record.specs.Written.{IsKeptAt, is_written, kept, wrote_all}
use Rattle.request_record.proofs.RecordLaws.{IsQuiet, first_current, lost_quiet, resent_quiet, ticked_quiet}
use Rattle.request_record.proofs.EntryLaws.{entry, IsFrom, IsBefore, cut_tail, parts_at, IsFound, found_by, found_here, all_entries}

-- ---- what was written waits for nothing

written_quiet : (r : Request) → is_written r ≡ true → IsQuiet r
written_quiet r e = by r.asked r.outcome e
  where
    by : (a : Asked) (o : Outcome) → wrote_all a o ≡ true → is_outstanding o ≡ false
    by a Unawaited e = refl
    by a (Answered body) e = refl
    by a Lost e = refl
    by (Writing share offset len) Outstanding e = absurd cc
    by a Outstanding e = absurd cc

pub waits_unwritten : (r : Request) → is_outstanding r.outcome ≡ true → is_written r ≡ false
waits_unwritten r waits = go (is_written r) refl
  where
    go : (b : Bool) → is_written r ≡ b → b ≡ false
    go true e = absurd (let quiet : is_outstanding r.outcome ≡ false = written_quiet r e in cc)
    go false e = refl

pub current_unwritten : (r : Request) → is_current r.outcome ≡ true → is_written r ≡ false
current_unwritten r current = by r.asked r.outcome current
  where
    by : (a : Asked) (o : Outcome) → is_current o ≡ true → wrote_all a o ≡ false
    by (Writing share offset len) Unawaited e = refl
    by (Writing share offset len) Outstanding e = refl
    by a Unawaited e = refl
    by a Outstanding e = refl
    by a (Answered body) e = absurd cc
    by a Lost e = absurd cc

loss_unwritten : (r : Request) → wrote_all r.asked Lost ≡ false
loss_unwritten r = by r.asked
  where
    by : (a : Asked) → wrote_all a Lost ≡ false
    by (Writing share offset len) = refl
    by a = refl

-- what was written is not lost, and not sent again
pub lost_unwritten : (now : ℕ) (r : Request) → is_written r ≡ true → is_lost_at now r ≡ false
lost_unwritten now r e = lost_quiet now r (written_quiet r e)

pub resent_unwritten : (now : ℕ) (r : Request) → is_written r ≡ true → is_resent_at now r ≡ false
resent_unwritten now r e = resent_quiet now r (written_quiet r e)

pub first_unwritten : (server : ℕ) (asked : Asked) (now : ℕ) → is_written (first_request server asked now) ≡ false
first_unwritten server asked now = current_unwritten (first_request server asked now) (first_current asked)

-- ---- ticks

ticked_written : (now : ℕ) (r : Request) → is_written (ticked_one now r) ≡ is_written r
ticked_written now r = go (is_lost_at now r) (is_resent_at now r) refl
  where
    go : (lost again : Bool) → is_lost_at now r ≡ lost → is_written (cond lost (with_outcome r Lost) (cond again (resent_one now r) r)) ≡ is_written r
    go true again e = loss_unwritten r ∙ sym (waits_unwritten r (both (is_outstanding r.outcome) (nat_le 20 (age_of now r)) e).0)
    go false true e = refl
    go false false e = refl

unwritten_kept : (r : Request) → is_written r ≡ false → is_some (kept (Some r)) ≡ true
unwritten_kept r e = ap (λ (b : Bool). is_some (cond b None (Some r))) e

-- what is to be sent is in memory
pub current_kept : (entries : List Request) (position : ℕ) → is_current_in (slice_get entries position) ≡ true → IsKeptAt entries position
current_kept entries position current = by (slice_get entries position) current
  where
    by : (o : Option Request) → is_current_in o ≡ true → is_some (kept o) ≡ true
    by None e = absurd cc
    by (Some r) e = unwritten_kept r (current_unwritten r e)

-- A request for the shares that a server holds stays in memory.
pub holdings_kept : (entries : List Request) (position : ℕ) (r : Request) → slice_get entries position ≡ Some r → r.asked ≡ Holdings → IsKeptAt entries position
holdings_kept entries position r there asks =
    ap (λ (o : Option Request). is_some (kept o)) there ∙ unwritten_kept r (ap (λ (a : Asked). wrote_all a r.outcome) asks ∙ none r.outcome)
  where
    none : (o : Outcome) → wrote_all Holdings o ≡ false
    none o = refl

abbrev IsKeptFrom : ℕ → List Request → ℕ → Type 0
IsKeptFrom position rs p = (position ≤ p) × IsKeptAt rs (p - position)

lost_kept_from : (now position : ℕ) (rs : List Request) → All (IsKeptFrom position (map (ticked_one now) rs)) (positions_from (is_lost_at now) position rs)
lost_kept_from now position [] = All-nil (IsKeptFrom position [])
lost_kept_from now position (r ∷ rs) = go (is_lost_at now r) refl (All-weaker (IsKeptFrom (position + 1) others) (IsKeptFrom position all) behind rest (lost_kept_from now (position + 1) rs))
  where
    others : List Request
    others = map (ticked_one now) rs

    all : List Request
    all = ticked_one now r ∷ others

    rest : List ℕ
    rest = positions_from (is_lost_at now) (position + 1) rs

    behind : (p : ℕ) → IsKeptFrom (position + 1) others p → IsKeptFrom position all p
    behind p h =
        let next : p - position ≡ suc (p - (position + 1)) = omega (arith, h.0) in
        (omega (arith, h.0), subst (IsKeptAt all) (sym next) h.1)

    go : (b : Bool) → is_lost_at now r ≡ b → All (IsKeptFrom position all) rest → All (IsKeptFrom position all) (cond b (position ∷ rest) rest)
    go true e later =
        let first : position - position ≡ 0 = omega arith in
        let unwritten : is_written (ticked_one now r) ≡ false = ticked_written now r ∙ waits_unwritten r (both (is_outstanding r.outcome) (nat_le 20 (age_of now r)) e).0 in
        let here : IsKeptFrom position all position = (omega arith, subst (IsKeptAt all) (sym first) (unwritten_kept (ticked_one now r) unwritten)) in
        All-cons (IsKeptFrom position all) position rest here later
    go false e later = later

-- What a tick finds lost is in memory.
pub lost_kept : (now : ℕ) (rs : List Request) → All (IsKeptAt (map (ticked_one now) rs)) (lost_positions now rs)
lost_kept now rs =
    let new : List Request = map (ticked_one now) rs in
    All-weaker (IsKeptFrom 0 new) (IsKeptAt new) (λ p h. subst (IsKeptAt new) (let e : p - 0 ≡ p = omega arith in e) h.1) (lost_positions now rs) (lost_kept_from now 0 rs)

-- a tick changes no position, and lets nothing go
pub ticked_entries : (now position : ℕ) (rs : List Request) → entries_from position (map (ticked_one now) rs) ≡ map (ticked_entry now) (entries_from position rs)
ticked_entries now position [] = refl
ticked_entries now position (r ∷ rs) =
    ap (λ (b : Bool). cond b others (entry position (ticked_one now r) ∷ others)) (ticked_written now r)
    ∙ go (is_written r) (ticked_entries now (position + 1) rs)
  where
    others : List Entry
    others = entries_from (position + 1) (map (ticked_one now) rs)

    go : (b : Bool) → others ≡ map (ticked_entry now) (entries_from (position + 1) rs)
        → cond b others (entry position (ticked_one now r) ∷ others) ≡ map (ticked_entry now) (cond b (entries_from (position + 1) rs) (entry position r ∷ entries_from (position + 1) rs))
    go true e = e
    go false e = ap (λ (es : List Entry). entry position (ticked_one now r) ∷ es) e

quiet_entries : (now : ℕ) (es : List Entry) → All (λ (e : Entry). IsQuiet e.request) es → map (ticked_entry now) es ≡ es
quiet_entries now [] quiet = refl
quiet_entries now (e ∷ es) quiet =
    ap (λ (r : Request). entry e.position r ∷ map (ticked_entry now) es) (ticked_quiet now e.request (All-head (λ (e : Entry). IsQuiet e.request) e es quiet))
    ∙ ap (λ (xs : List Entry). e ∷ xs) (quiet_entries now es (All-tail (λ (e : Entry). IsQuiet e.request) e es quiet))

-- those before a position, which wait for nothing, stay as they are
pub ticked_parts : (now from at : ℕ) (rs : List Request) → AreSettled from rs → IsCut from (entries_from 0 rs) at
    → take at (entries_from 0 rs) ++ map (ticked_entry now) (drop at (entries_from 0 rs)) ≡ entries_from 0 (map (ticked_one now) rs)
ticked_parts now from at rs s c =
    let es : List Entry = entries_from 0 rs in
    let quiet : All (λ (e : Entry). IsQuiet e.request) (take at es) = All-same (λ (e : Entry). IsQuiet e.request) (take at es) (entries_from 0 (take from rs)) (parts_at from at rs c).front (all_entries IsQuiet 0 (take from rs) s.settled) in
    ap (λ (xs : List Entry). xs ++ map (ticked_entry now) (drop at es)) (sym (quiet_entries now (take at es) quiet))
    ∙ sym (map-append (ticked_entry now) (take at es) (drop at es))
    ∙ ap (map (ticked_entry now)) (take-append-drop at es)
    ∙ sym (ticked_entries now 0 rs)

-- ---- the first that waits

-- none waits before this position, the first of all at that one
pub record AreQuiet (position : ℕ) (rs : List Request) (end : ℕ) : Type 0 where
  pub from : position ≤ end
  pub within : end ≤ position + length rs
  pub quiet : All IsQuiet (take (end - position) rs)

quiet_more : (position end : ℕ) (r : Request) (rs : List Request) → IsQuiet r → AreQuiet (position + 1) rs end → AreQuiet position (r ∷ rs) end
quiet_more position end r rs quiet q =
    let next : end - position ≡ suc (end - (position + 1)) = omega (arith, q.from) in
    record {
      from = omega (arith, q.from);
      within = omega (arith, q.within);
      quiet = subst (λ (n : ℕ). All IsQuiet (take n (r ∷ rs))) (sym next) (All-cons IsQuiet r (take (end - (position + 1)) rs) quiet q.quiet);
    }

quiet_none : (position : ℕ) (rs : List Request) → AreQuiet position rs position
quiet_none position rs =
    let none : position - position ≡ 0 = omega arith in
    record {
      from = omega arith;
      within = omega arith;
      quiet = subst (λ (n : ℕ). All IsQuiet (take n rs)) (sym none) (All-nil IsQuiet);
    }

first_quiet_position : (position : ℕ) (rs : List Request) → AreQuiet position rs (first_position (entries_from position rs) (position + length rs))
first_quiet_position position [] =
    let none : position + 0 ≡ position = omega arith in
    subst (AreQuiet position []) (sym none) (quiet_none position [])
first_quiet_position position (r ∷ rs) =
    let end : position + 1 + length rs ≡ position + length (r ∷ rs) = omega arith in
    go (is_written r) refl (subst (λ (n : ℕ). AreQuiet (position + 1) rs (first_position (entries_from (position + 1) rs) n)) end (first_quiet_position (position + 1) rs))
  where
    rest : ℕ
    rest = first_position (entries_from (position + 1) rs) (position + length (r ∷ rs))

    waits : (b : Bool) → is_outstanding r.outcome ≡ b → AreQuiet (position + 1) rs rest → AreQuiet position (r ∷ rs) (cond b position rest)
    waits true e q = quiet_none position (r ∷ rs)
    waits false e q = quiet_more position rest r rs e q

    go : (b : Bool) → is_written r ≡ b → AreQuiet (position + 1) rs rest → AreQuiet position (r ∷ rs) (first_position (cond b (entries_from (position + 1) rs) (entry position r ∷ entries_from (position + 1) rs)) (position + length (r ∷ rs)))
    go true e q = quiet_more position rest r rs (written_quiet r e) q
    go false e q = waits (is_outstanding r.outcome) refl q

take_parts : (m n : ℕ) (xs : List Request) → m ≤ n → take n xs ≡ take m xs ++ take (n - m) (drop m xs)
take_parts zero n xs le = ap (λ (k : ℕ). take k xs) (omega arith)
take_parts (suc m) zero xs le = absurd (omega (arith, le))
take_parts (suc m) (suc n) [] le = let all : take (suc n - suc m) [] ≡ [] = take_all (suc n - suc m) [] (omega arith) in sym all
take_parts (suc m) (suc n) (x ∷ xs) le =
    let same : suc n - suc m ≡ n - m = omega arith in
    ap (λ (ys : List Request). x ∷ ys) (take_parts m n xs (omega (arith, le)) ∙ ap (λ (k : ℕ). take m xs ++ take k (drop m xs)) (sym same))

-- None waits before the first that does.
pub first_settled : (from at : ℕ) (rs : List Request) → AreSettled from rs → IsCut from (entries_from 0 rs) at → AreSettled (first_position (drop at (entries_from 0 rs)) (length rs)) rs
first_settled from at rs s c =
    let end : from + length (drop from rs) ≡ length rs = omega (arith, length-drop from rs, s.within) in
    let q : AreQuiet from (drop from rs) (first_position (entries_from from (drop from rs)) (length rs)) = subst (λ (n : ℕ). AreQuiet from (drop from rs) (first_position (entries_from from (drop from rs)) n)) end (first_quiet_position from (drop from rs)) in
    subst (λ (es : List Entry). AreSettled (first_position es (length rs)) rs) (sym (parts_at from at rs c).rest) (settled_by (first_position (entries_from from (drop from rs)) (length rs)) q end)
  where
    settled_by : (first : ℕ) → AreQuiet from (drop from rs) first → from + length (drop from rs) ≡ length rs → AreSettled first rs
    settled_by first q end = record {
      within = omega (arith, q.within, end);
      settled = All-same IsQuiet (take first rs) (take from rs ++ take (first - from) (drop from rs)) (take_parts from first rs q.from) (All-append IsQuiet (take from rs) (take (first - from) (drop from rs)) s.settled q.quiet);
    }

-- ---- one more request, and one that is settled

entries_append : (position : ℕ) (xs ys : List Request) → entries_from position (xs ++ ys) ≡ entries_from position xs ++ entries_from (position + length xs) ys
entries_append position [] ys = ap (λ (p : ℕ). entries_from p ys) (omega arith)
entries_append position (x ∷ xs) ys =
    let at : position + 1 + length xs ≡ position + length (x ∷ xs) = omega arith in
    go (is_written x) (entries_append (position + 1) xs ys ∙ ap (λ (p : ℕ). entries_from (position + 1) xs ++ entries_from p ys) at)
  where
    go : (b : Bool) → entries_from (position + 1) (xs ++ ys) ≡ entries_from (position + 1) xs ++ entries_from (position + length (x ∷ xs)) ys
        → cond b (entries_from (position + 1) (xs ++ ys)) (entry position x ∷ entries_from (position + 1) (xs ++ ys))
        ≡ cond b (entries_from (position + 1) xs) (entry position x ∷ entries_from (position + 1) xs) ++ entries_from (position + length (x ∷ xs)) ys
    go true e = e
    go false e = ap (λ (es : List Entry). entry position x ∷ es) e

-- one more that was not written is in memory behind all others
pub pushed_entries : (rs : List Request) (r : Request) → is_written r ≡ false → entries_from 0 (rs ++ r ∷ []) ≡ entries_from 0 rs ++ entry (length rs) r ∷ []
pushed_entries rs r e =
    let at : 0 + length rs ≡ length rs = omega arith in
    entries_append 0 rs (r ∷ [])
    ∙ ap (λ (p : ℕ). entries_from 0 rs ++ entries_from p (r ∷ [])) at
    ∙ ap (λ (b : Bool). entries_from 0 rs ++ cond b [] (entry (length rs) r ∷ [])) e

-- the entries where the one at an index is settled: it goes where it was written
abbrev pub settled_in : Bool → List Entry → ℕ → Entry → List Entry
settled_in b es at e = cond b (remove es at) (set es at e)

set_entries : (position n at : ℕ) (rs : List Request) (r new : Request) → slice_get rs n ≡ Some r → is_written r ≡ false → IsCut (position + n) (entries_from position rs) at
    → entries_from position (set rs n new) ≡ settled_in (is_written new) (entries_from position rs) at (entry (position + n) new)
set_entries position n at [] r new there not_yet c = absurd cc
set_entries position zero at (x ∷ xs) r new there not_yet c =
    let was : is_written x ≡ false = ap is_written (same_Some x r there) ∙ not_yet in
    go at (is_written x) was c
  where
    rest : List Entry
    rest = entries_from (position + 1) xs

    here : position + zero ≡ position
    here = omega arith

    set_first : (b : Bool) → cond b rest (entry position new ∷ rest) ≡ settled_in b (entry position x ∷ rest) 0 (entry (position + zero) new)
    set_first true = refl
    set_first false = ap (λ (p : ℕ). entry p new ∷ rest) (sym here)

    go : (at : ℕ) (b : Bool) → b ≡ false → IsCut (position + zero) (cond b rest (entry position x ∷ rest)) at
        → cond (is_written new) rest (entry position new ∷ rest) ≡ settled_in (is_written new) (cond b rest (entry position x ∷ rest)) at (entry (position + zero) new)
    go at true e c = absurd cc
    go zero false e c = set_first (is_written new)
    go (suc at) false e c = absurd (let low : position < position + zero = All-head (IsBefore (position + zero)) (entry position x) (take at rest) c.before in omega (arith, low))
set_entries position (suc n) at (x ∷ xs) r new there not_yet c =
    let next : position + 1 + n ≡ position + suc n = omega arith in
    go at (is_written x) c (λ at c. subst (λ (p : ℕ). entries_from (position + 1) (set xs n new) ≡ settled_in (is_written new) rest at (entry p new)) next (set_entries (position + 1) n at xs r new there not_yet (subst (λ (p : ℕ). IsCut p rest at) (sym next) c)))
  where
    rest : List Entry
    rest = entries_from (position + 1) xs

    others : List Entry
    others = entries_from (position + 1) (set xs n new)

    behind : (b : Bool) (at : ℕ) → others ≡ settled_in b rest at (entry (position + suc n) new) → entry position x ∷ others ≡ settled_in b (entry position x ∷ rest) (suc at) (entry (position + suc n) new)
    behind true at e = ap (λ (es : List Entry). entry position x ∷ es) e
    behind false at e = ap (λ (es : List Entry). entry position x ∷ es) e

    go : (at : ℕ) (b : Bool) → IsCut (position + suc n) (cond b rest (entry position x ∷ rest)) at
        → ((at : ℕ) → IsCut (position + suc n) rest at → others ≡ settled_in (is_written new) rest at (entry (position + suc n) new))
        → cond b others (entry position x ∷ others) ≡ settled_in (is_written new) (cond b rest (entry position x ∷ rest)) at (entry (position + suc n) new)
    go at true c from = from at c
    go zero false c from = absurd (let high : position + suc n ≤ position = All-head (IsFrom (position + suc n)) (entry position x) rest c.behind in omega (arith, high))
    go (suc at) false c from = behind (is_written new) at (from at (cut_tail (position + suc n) (entry position x) rest at c))

-- the entries after the request at a position is settled
pub settled_entries : (position at : ℕ) (rs : List Request) (r new : Request) → slice_get rs position ≡ Some r → is_written r ≡ false → IsCut position (entries_from 0 rs) at
    → entries_from 0 (set rs position new) ≡ settled_in (is_written new) (entries_from 0 rs) at (entry position new)
settled_entries position at rs r new there not_yet c =
    let from : 0 + position ≡ position = omega arith in
    subst (λ (p : ℕ). entries_from 0 (set rs position new) ≡ settled_in (is_written new) (entries_from 0 rs) at (entry p new)) from
    (set_entries 0 position at rs r new there not_yet (subst (λ (p : ℕ). IsCut p (entries_from 0 rs) at) (sym from) c))

remove_set : (es : List Entry) (at : ℕ) (e : Entry) → remove (set es at e) at ≡ remove es at
remove_set es at e =
    let behind : drop (suc at) (set es at e) ≡ drop (suc at) es = drop-set-lt (suc at) es at e (omega arith) in
    ap (λ (xs : List Entry). xs ++ drop (suc at) (set es at e)) (take-set es at e) ∙ ap (λ (xs : List Entry). take at es ++ xs) behind

-- what is in memory once a request was settled and, if written, let go
pub let_go_entries : (position at : ℕ) (rs : List Request) (new : Request) (f : IsFound position at rs) → IsCut position (entries_from 0 rs) at
    → cond (is_written new) (remove (set (entries_from 0 rs) at (entry position new)) at) (set (entries_from 0 rs) at (entry position new)) ≡ entries_from 0 (set rs position new)
let_go_entries position at rs new f c =
    go (is_written new) ∙ sym (settled_entries position at rs f.request new f.there f.unwritten c)
  where
    go : (b : Bool) → cond b (remove (set (entries_from 0 rs) at (entry position new)) at) (set (entries_from 0 rs) at (entry position new)) ≡ settled_in b (entries_from 0 rs) at (entry position new)
    go true = remove_set (entries_from 0 rs) at (entry position new)
    go false = refl

-- what a settled request leaves
pub record IsLeft (len position : ℕ) (rs new : List Request) (left : List Entry) (outcome : Outcome) : Type 0 where
  pub memory : IsInMemory len left new
  pub requests : (r : Request) → slice_get rs position ≡ Some r → new ≡ set rs position (with_outcome r outcome)

-- the entries with the one at an index settled, from what the change says of each that may be there
pub settled_there : (len position at : ℕ) (rs : List Request) (es changed : List Entry) (outcome : Outcome) → IsInMemory len es rs → IsCut position es at → IsHere position (slice_get es at)
    → ((e : Entry) → slice_get es at ≡ Some e → changed ≡ set es at (settled_entry outcome e)) → (r : Request) × (slice_get rs position ≡ Some r) × (slice_get changed at ≡ Some (entry position (with_outcome r outcome)))
settled_there len position at rs es changed outcome m c here changes =
    let f = found_here position at rs (subst (λ (xs : List Entry). IsCut position xs at) m.kept c) (subst (λ (xs : List Entry). IsHere position (slice_get xs at)) m.kept here) in
    let there : slice_get es at ≡ Some (entry position f.request) = ap (λ (xs : List Entry). slice_get xs at) m.kept ∙ f.entry in
    let new : Entry = entry position (with_outcome f.request outcome) in
    (f.request, f.there, ap (λ (xs : List Entry). slice_get xs at) (changes (entry position f.request) there) ∙ get_set es at new (entry position f.request) there)

pub settled_memory : (len position at : ℕ) (rs new : List Request) (es changed left : List Entry) (now : Entry) (outcome : Outcome) → IsInMemory len es rs → IsCut position es at → IsHere position (slice_get es at)
    → ((e : Entry) → slice_get es at ≡ Some e → changed ≡ set es at (settled_entry outcome e)) → now ≡ get_or changed at now → new ≡ set rs position now.request
    → ((e : Entry) → slice_get changed at ≡ Some e → left ≡ cond (is_written e.request) (remove changed at) changed) → IsLeft len position rs new left outcome
settled_memory len position at rs new es changed left now outcome m c here changes is told lets =
    let cut : IsCut position (entries_from 0 rs) at = subst (λ (xs : List Entry). IsCut position xs at) m.kept c in
    let f = found_here position at rs cut (subst (λ (xs : List Entry). IsHere position (slice_get xs at)) m.kept here) in
    let there : slice_get es at ≡ Some (entry position f.request) = ap (λ (xs : List Entry). slice_get xs at) m.kept ∙ f.entry in
    let r : Request = with_outcome f.request outcome in
    let set_is : changed ≡ set es at (entry position r) = changes (entry position f.request) there in
    let got : slice_get changed at ≡ Some (entry position r) = ap (λ (xs : List Entry). slice_get xs at) set_is ∙ get_set es at (entry position r) (entry position f.request) there in
    let now_is : now ≡ entry position r = is ∙ get_or_from_slice_get changed at (entry position r) now got in
    let new_is : new ≡ set rs position r = told ∙ ap (λ (e : Entry). set rs position e.request) now_is in
    record {
      memory = record {
        counts = m.counts ∙ sym (ap length new_is ∙ length-set rs position r);
        kept = lets (entry position r) got
            ∙ ap (λ (xs : List Entry). cond (is_written r) (remove xs at) xs) (set_is ∙ ap (λ (xs : List Entry). set xs at (entry position r)) m.kept)
            ∙ let_go_entries position at rs r f cut
            ∙ ap (entries_from 0) (sym new_is);
      };
      requests = λ q was. new_is ∙ ap (λ (x : Request). set rs position (with_outcome x outcome)) (one_there (slice_get rs position) f.request q f.there was);
    }

-- A request that was not written is found.
pub unwritten_here : (len position at : ℕ) (rs : List Request) (es : List Entry) (r : Request) → IsInMemory len es rs → IsCut position es at → slice_get rs position ≡ Some r → is_written r ≡ false → IsHere position (slice_get es at)
unwritten_here len position at rs es r m c there e =
    let f = found_by position at rs r (subst (λ (xs : List Entry). IsCut position xs at) m.kept c) there e in
    subst (IsHere position) (sym (ap (λ (xs : List Entry). slice_get xs at) m.kept ∙ f.entry)) refl

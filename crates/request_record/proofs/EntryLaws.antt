-- The requests in memory with their positions.
use Rattle.std.proofs.Common.{◌≡◌, ℕ, zero, suc, ◌+◌, ◌<◌, ◌≤◌, Bool, true, false, cond, List, [], ◌∷◌, ◌++◌, length, get_or, take, drop, map, Option, Some, None, refl, sym, ap, subst, ◌∙◌, arith}
use Rattle.std.specs.Prelude.{◌==◌, not, slice_get, nat_lt}
use Rattle.std.specs.List.{All}
use Rattle.std.specs.List.Sorted.{IsNonDecreasingBy, IsPartitionPoint}
use Rattle.std.proofs.lemmas.Bool.{eq-eqb, eqb-true, ltb-true, ltb-false}
use Rattle.std.proofs.lemmas.List.{get_or-drop, get_or-take, length-drop, length-take}
use Rattle.std.proofs.lemmas.List.Elements.{All-nil, All-cons, All-head, All-tail, All-weaker}
use Rattle.std.proofs.lemmas.Option.{same_Some, slice_get_within}
use Rattle.lemmas.proofs.Options.{some_of}
use Rattle.request_record.specs.declared.entries.Entry.{Entry}
use Rattle.request_record.specs.declared.requests.Request.{Request}
use Rattle.request_record.specs.Record.{positions_from}
use Rattle.request_record.specs.Entries.{IsCut, IsHere, entries_from, positions_of, request_here}
use Rattle.request_record.specs.Written.{IsKeptAt, is_written, kept, kept_of}

-- an entry of a position
abbrev pub entry : ℕ → Request → Entry
entry position r = record { position = position; request = r }

-- ---- positions rise

abbrev pub IsFrom : ℕ → Entry → Type 0
IsFrom position e = position ≤ e.position

abbrev pub IsBefore : ℕ → Entry → Type 0
IsBefore position e = e.position < position

pub from_position : (position : ℕ) (rs : List Request) → All (IsFrom position) (entries_from position rs)
from_position position [] = All-nil (IsFrom position)
from_position position (r ∷ rs) = go (is_written r) (All-weaker (IsFrom (position + 1)) (IsFrom position) (λ e h. omega (arith, h)) (entries_from (position + 1) rs) (from_position (position + 1) rs))
  where
    go : (b : Bool) → All (IsFrom position) (entries_from (position + 1) rs) → All (IsFrom position) (cond b (entries_from (position + 1) rs) (entry position r ∷ entries_from (position + 1) rs))
    go true rest = rest
    go false rest = All-cons (IsFrom position) (entry position r) (entries_from (position + 1) rs) (omega arith) rest

before_end : (position : ℕ) (rs : List Request) → All (IsBefore (position + length rs)) (entries_from position rs)
before_end position [] = All-nil (IsBefore (position + 0))
before_end position (r ∷ rs) =
    let end : position + 1 + length rs ≡ position + length (r ∷ rs) = omega arith in
    go (is_written r) (subst (λ (n : ℕ). All (IsBefore n) (entries_from (position + 1) rs)) end (before_end (position + 1) rs))
  where
    go : (b : Bool) → All (IsBefore (position + length (r ∷ rs))) (entries_from (position + 1) rs) → All (IsBefore (position + length (r ∷ rs))) (cond b (entries_from (position + 1) rs) (entry position r ∷ entries_from (position + 1) rs))
    go true rest = rest
    go false rest = All-cons (IsBefore (position + length (r ∷ rs))) (entry position r) (entries_from (position + 1) rs) (omega arith) rest

rise_cons : (e : Entry) (es : List Entry) → All (IsFrom e.position) es → IsNonDecreasingBy (λ (e : Entry). e.position) es → IsNonDecreasingBy (λ (e : Entry). e.position) (e ∷ es)
rise_cons e es from rise zero zero d le lt = omega arith
rise_cons e es from rise zero (suc j) d le lt = from j d (omega (arith, lt))
rise_cons e es from rise (suc i) zero d le lt = absurd (omega (arith, le))
rise_cons e es from rise (suc i) (suc j) d le lt = rise i j d (omega (arith, le)) (omega (arith, lt))

-- positions rise
pub positions_rise : (position : ℕ) (rs : List Request) → IsNonDecreasingBy (λ (e : Entry). e.position) (entries_from position rs)
positions_rise position [] = λ i j d le lt. absurd (omega (arith, lt))
positions_rise position (r ∷ rs) = go (is_written r) (positions_rise (position + 1) rs)
  where
    go : (b : Bool) → IsNonDecreasingBy (λ (e : Entry). e.position) (entries_from (position + 1) rs) → IsNonDecreasingBy (λ (e : Entry). e.position) (cond b (entries_from (position + 1) rs) (entry position r ∷ entries_from (position + 1) rs))
    go true rest = rest
    go false rest = rise_cons (entry position r) (entries_from (position + 1) rs) (All-weaker (IsFrom (position + 1)) (IsFrom position) (λ e h. omega (arith, h)) (entries_from (position + 1) rs) (from_position (position + 1) rs)) rest

-- ---- cuts

-- what is behind a position, after what is before it
parts : (position n : ℕ) (rs : List Request) → entries_from position rs ≡ entries_from position (take n rs) ++ entries_from (position + n) (drop n rs)
parts position zero rs = ap (λ (p : ℕ). entries_from p rs) (omega arith)
parts position (suc n) [] = refl
parts position (suc n) (r ∷ rs) =
    let at : position + 1 + n ≡ position + suc n = omega arith in
    go (is_written r) (parts (position + 1) n rs ∙ ap (λ (p : ℕ). entries_from (position + 1) (take n rs) ++ entries_from p (drop n rs)) at)
  where
    front : List Entry
    front = entries_from (position + 1) (take n rs)

    go : (b : Bool) → entries_from (position + 1) rs ≡ front ++ entries_from (position + suc n) (drop n rs)
        → cond b (entries_from (position + 1) rs) (entry position r ∷ entries_from (position + 1) rs) ≡ cond b front (entry position r ∷ front) ++ entries_from (position + suc n) (drop n rs)
    go true e = e
    go false e = ap (λ (es : List Entry). entry position r ∷ es) e

-- the two parts at a cut
pub record AreParts (at : ℕ) (es before behind : List Entry) : Type 0 where
  pub front : take at es ≡ before
  pub rest : drop at es ≡ behind

pub cut_tail : (position : ℕ) (e : Entry) (es : List Entry) (at : ℕ) → IsCut position (e ∷ es) (suc at) → IsCut position es at
cut_tail position e es at c = record {
  within = omega (arith, c.within);
  before = All-tail (IsBefore position) e (take at es) c.before;
  behind = c.behind;
}

cut_parts : (position : ℕ) (front rest : List Entry) (at : ℕ) → All (IsBefore position) front → All (IsFrom position) rest → IsCut position (front ++ rest) at → AreParts at (front ++ rest) front rest
cut_parts position [] rest zero before behind c = record { front = refl; rest = refl }
cut_parts position [] [] (suc at) before behind c = record { front = refl; rest = refl }
cut_parts position [] (e ∷ es) (suc at) before behind c =
    let low : e.position < position = All-head (IsBefore position) e (take at es) c.before in
    let high : position ≤ e.position = All-head (IsFrom position) e es behind in
    absurd (omega (arith, low, high))
cut_parts position (e ∷ es) rest zero before behind c =
    let low : e.position < position = All-head (IsBefore position) e es before in
    let high : position ≤ e.position = All-head (IsFrom position) e (es ++ rest) c.behind in
    absurd (omega (arith, low, high))
cut_parts position (e ∷ es) rest (suc at) before behind c =
    let p = cut_parts position es rest at (All-tail (IsBefore position) e es before) behind (cut_tail position e (es ++ rest) at c) in
    record { front = ap (λ (xs : List Entry). e ∷ xs) p.front; rest = p.rest }

-- a cut, from what a search by halves says
pub cut_from : (position at : ℕ) (es : List Entry) → at ≤ length es → IsPartitionPoint (λ (e : Entry). nat_lt e.position position ≡ true) (λ (e : Entry). nat_lt e.position position ≡ false) es at → IsCut position es at
cut_from position at es within p = record {
  within = within;
  before = λ k d lt.
      let low : k < at = omega (arith, lt, length-take at es) in
      subst (IsBefore position) (sym (get_or-take at es k d low)) (ltb-true (get_or es k d).position position (p.0 k d (omega arith) low));
  behind = λ k d lt.
      let high : at + k < length es = omega (arith, lt, length-drop at es) in
      subst (IsFrom position) (sym (get_or-drop at es k d)) (ltb-false (get_or es (at + k) d).position position (p.1 (at + k) d (omega arith) high));
}

length_take : (n : ℕ) (rs : List Request) → length (take n rs) ≤ n
length_take zero rs = omega arith
length_take (suc n) [] = omega arith
length_take (suc n) (r ∷ rs) = omega (arith, length_take n rs)

-- At a cut the entries part as the requests do at its position.
pub parts_at : (position at : ℕ) (rs : List Request) → IsCut position (entries_from 0 rs) at → AreParts at (entries_from 0 rs) (entries_from 0 (take position rs)) (entries_from position (drop position rs))
parts_at position at rs c =
    let at_position : 0 + position ≡ position = omega arith in
    let all : entries_from 0 rs ≡ front ++ rest = parts 0 position rs ∙ ap (λ (p : ℕ). front ++ entries_from p (drop position rs)) at_position in
    let before : All (IsBefore position) front = All-weaker (IsBefore (0 + length (take position rs))) (IsBefore position) (λ e h. omega (arith, h, length_take position rs)) front (before_end 0 (take position rs)) in
    subst (λ (es : List Entry). AreParts at es front rest) (sym all) (cut_parts position front rest at before (from_position position (drop position rs)) (subst (λ (es : List Entry). IsCut position es at) all c))
  where
    front : List Entry
    front = entries_from 0 (take position rs)

    rest : List Entry
    rest = entries_from position (drop position rs)

-- ---- what is at a position

get_behind : {X : Type 0} (n : ℕ) (xs : List X) → slice_get xs n ≡ slice_get (drop n xs) 0
get_behind zero [] = refl
get_behind zero (x ∷ xs) = refl
get_behind (suc n) [] = refl
get_behind (suc n) (x ∷ xs) = get_behind n xs

none_here : (position : ℕ) (es : List Entry) → All (IsFrom (position + 1)) es → request_here position (slice_get es 0) ≡ None
none_here position [] from = refl
none_here position (e ∷ es) from = go (e.position == position) refl
  where
    go : (b : Bool) → (e.position == position) ≡ b → cond b (Some e.request) None ≡ None
    go true same =
        let next : position + 1 ≤ e.position = All-head (IsFrom (position + 1)) e es from in
        absurd (omega (arith, next, eqb-true e.position position same))
    go false same = refl

first_here : (position : ℕ) (rs : List Request) → request_here position (slice_get (entries_from position rs) 0) ≡ kept (slice_get rs 0)
first_here position [] = refl
first_here position (r ∷ rs) = go (is_written r)
  where
    go : (b : Bool) → request_here position (slice_get (cond b (entries_from (position + 1) rs) (entry position r ∷ entries_from (position + 1) rs)) 0) ≡ cond b None (Some r)
    go true = none_here position (entries_from (position + 1) rs) (from_position (position + 1) rs)
    go false = ap (λ (b : Bool). cond b (Some r) None) (eq-eqb position position refl)

-- the request at a position, by the entry at its cut
pub here_is_kept : (position at : ℕ) (rs : List Request) → IsCut position (entries_from 0 rs) at → request_here position (slice_get (entries_from 0 rs) at) ≡ kept (slice_get rs position)
here_is_kept position at rs c =
    ap (request_here position) (get_behind at (entries_from 0 rs) ∙ ap (λ (es : List Entry). slice_get es 0) (parts_at position at rs c).rest)
    ∙ first_here position (drop position rs)
    ∙ ap kept (sym (get_behind position rs))

kept_is : (o : Option Request) (r : Request) → kept o ≡ Some r → (o ≡ Some r) × (is_written r ≡ false)
kept_is None r e = absurd cc
kept_is (Some q) r e = go (is_written q) refl e
  where
    go : (b : Bool) → is_written q ≡ b → cond b None (Some q) ≡ Some r → (Some q ≡ Some r) × (is_written r ≡ false)
    go true w e = absurd cc
    go false w e = (e, ap is_written (sym (same_Some q r e)) ∙ w)

pub here_entry : (position : ℕ) (o : Option Entry) (r : Request) → request_here position o ≡ Some r → o ≡ Some (entry position r)
here_entry position None r e = absurd cc
here_entry position (Some x) r e = go (x.position == position) refl e
  where
    go : (b : Bool) → (x.position == position) ≡ b → cond b (Some x.request) None ≡ Some r → Some x ≡ Some (entry position r)
    go true p e = ap (λ (q : ℕ). Some (entry q x.request)) (eqb-true x.position position p) ∙ ap (λ (q : Request). Some (entry position q)) (same_Some x.request r e)
    go false p e = absurd cc

-- the request at a position is in memory, at the cut
pub record IsFound (position at : ℕ) (rs : List Request) : Type 0 where
  pub request : Request
  pub there : slice_get rs position ≡ Some request
  pub unwritten : is_written request ≡ false
  pub entry : slice_get (entries_from 0 rs) at ≡ Some (entry position request)

pub found_by : (position at : ℕ) (rs : List Request) (r : Request) → IsCut position (entries_from 0 rs) at → slice_get rs position ≡ Some r → is_written r ≡ false → IsFound position at rs
found_by position at rs r c there e =
    let here : kept (slice_get rs position) ≡ Some r = ap kept there ∙ ap (λ (b : Bool). cond b None (Some r)) e in
    record { request = r; there = there; unwritten = e; entry = here_entry position (slice_get (entries_from 0 rs) at) r (here_is_kept position at rs c ∙ here) }

pub found_kept : (position at : ℕ) (rs : List Request) → IsCut position (entries_from 0 rs) at → IsKeptAt rs position → IsFound position at rs
found_kept position at rs c some =
    let o = some_of (kept (slice_get rs position)) some in
    let k = kept_is (slice_get rs position) o.0 o.1 in
    found_by position at rs o.0 c k.0 k.1

-- what is at an index has this position
is_here : (position : ℕ) (o : Option Entry) → IsHere position o → (r : Request) × (o ≡ Some (entry position r))
is_here position None h = absurd h
is_here position (Some e) h = (e.request, ap (λ (p : ℕ). Some (entry p e.request)) h)

pub here_within : (position at : ℕ) (es : List Entry) → IsHere position (slice_get es at) → at < length es
here_within position at es here =
    let h = is_here position (slice_get es at) here in
    slice_get_within es at (entry position h.0) h.1

pub found_here : (position at : ℕ) (rs : List Request) → IsCut position (entries_from 0 rs) at → IsHere position (slice_get (entries_from 0 rs) at) → IsFound position at rs
found_here position at rs c here =
    let h = is_here position (slice_get (entries_from 0 rs) at) here in
    let is : request_here position (slice_get (entries_from 0 rs) at) ≡ Some h.0 = ap (request_here position) h.1 ∙ ap (λ (b : Bool). cond b (Some h.0) None) (eq-eqb position position refl) in
    let k = kept_is (slice_get rs position) h.0 (sym (here_is_kept position at rs c) ∙ is) in
    found_by position at rs h.0 c k.0 k.1

-- ---- the requests of the entries

-- those in memory are those that were not written
pub requests_are : (position : ℕ) (rs : List Request) → map (λ (e : Entry). e.request) (entries_from position rs) ≡ kept_of rs
requests_are position [] = refl
requests_are position (r ∷ rs) = go (is_written r) (requests_are (position + 1) rs)
  where
    go : (b : Bool) → map (λ (e : Entry). e.request) (entries_from (position + 1) rs) ≡ kept_of rs
        → map (λ (e : Entry). e.request) (cond b (entries_from (position + 1) rs) (entry position r ∷ entries_from (position + 1) rs)) ≡ cond (not b) (r ∷ kept_of rs) (kept_of rs)
    go true rest = rest
    go false rest = ap (λ (qs : List Request). r ∷ qs) rest

pub all_entries : (P : Request → Type 0) (position : ℕ) (rs : List Request) → All P rs → All (λ (e : Entry). P e.request) (entries_from position rs)
all_entries P position [] all = All-nil (λ (e : Entry). P e.request)
all_entries P position (r ∷ rs) all = go (is_written r) (all_entries P (position + 1) rs (All-tail P r rs all))
  where
    go : (b : Bool) → All (λ (e : Entry). P e.request) (entries_from (position + 1) rs) → All (λ (e : Entry). P e.request) (cond b (entries_from (position + 1) rs) (entry position r ∷ entries_from (position + 1) rs))
    go true rest = rest
    go false rest = All-cons (λ (e : Entry). P e.request) (entry position r) (entries_from (position + 1) rs) (All-head P r rs all) rest

-- the positions of those that pass a test, which nothing passes that was written
pub positions_are : (test : Request → Bool) → ((r : Request) → is_written r ≡ true → test r ≡ false) → (position : ℕ) (rs : List Request) → positions_of test (entries_from position rs) ≡ positions_from test position rs
positions_are test none position [] = refl
positions_are test none position (r ∷ rs) = go (is_written r) refl (positions_are test none (position + 1) rs)
  where
    rest : List ℕ
    rest = positions_from test (position + 1) rs

    go : (b : Bool) → is_written r ≡ b → positions_of test (entries_from (position + 1) rs) ≡ rest
        → positions_of test (cond b (entries_from (position + 1) rs) (entry position r ∷ entries_from (position + 1) rs)) ≡ cond (test r) (position ∷ rest) rest
    go true e others = others ∙ ap (λ (b : Bool). cond b (position ∷ rest) rest) (sym (none r e))
    go false e others = ap (λ (ps : List ℕ). cond (test r) (position ∷ ps) ps) others

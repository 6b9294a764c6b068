-- An operation that has just asked each server which shares it holds.
use Rattle.std.proofs.Common.{◌≡◌, ℕ, zero, suc, ◌<◌, false, true≢false, List, [], ◌∷◌, ◌++◌, Some, length, map, refl, sym, ap, subst, ◌∙◌, arith}
use Rattle.std.specs.Prelude.{nat_eq, slice_get}
use Rattle.std.specs.List.{AllByRecursion, IsDistinct}
use Rattle.std.proofs.lemmas.Bool.{eq-eqb}
use Rattle.std.proofs.lemmas.Map.Keys.{IsDistinct-head, IsDistinct-tail}
use Rattle.std.proofs.lemmas.List.{append_assoc, append-nil, length-map}
use Rattle.download_shares.specs.HoldingMoves.{Begins}
use Rattle.download_shares.specs.Right.{IsRight}
use Rattle.download_shares.specs.HoldingState.{HoldingsState}
use Rattle.download_shares.specs.Table.{IsHolding}
use Rattle.download_shares.specs.declared.holding.Blame.{Blame}
use Rattle.download_shares.specs.declared.holding.Holding.{Holding}
use Rattle.request_record.specs.declared.requests.Asked.TheVariants.{Holdings}
use Rattle.request_record.specs.declared.requests.Request.{Request}
use Rattle.request_record.specs.Record.{RequestsState, asked_all, asked_more, first_request}
use Rattle.request_record.specs.Asking.{AsksOnce, asks_of, begun, fresh}

-- the request for what a server holds
abbrev asks_one : ℕ → ℕ → Request
asks_one now server = first_request server Holdings now

begun_from : (servers : List ℕ) (r : RequestsState) → (asked_all (asks_of servers) r).entries ≡ r.entries ++ map (asks_one r.clock) servers
begun_from [] r = sym (append-nil r.entries)
begun_from (s ∷ ss) r = begun_from ss (asked_more s Holdings r) ∙ append_assoc r.entries (asks_one r.clock s ∷ []) (map (asks_one r.clock) ss)

pub begun_entries : (servers : List ℕ) (session now : ℕ) → (begun servers session now).entries ≡ map (asks_one now) servers
begun_entries servers session now = begun_from servers (fresh session now)

-- each asks a server of the list
one_of : (now : ℕ) (servers : List ℕ) (i : ℕ) (r : Request) → slice_get (map (asks_one now) servers) i ≡ Some r → (server : ℕ) × (slice_get servers i ≡ Some server) × (asks_one now server ≡ r)
one_of now [] i r e = absurd cc
one_of now (s ∷ ss) zero r e = let is : asks_one now s ≡ r = cc in (s, refl, is)
one_of now (s ∷ ss) (suc i) r e = one_of now ss i r e

pub begun_asks : (servers : List ℕ) (session now i : ℕ) (r : Request) → slice_get (begun servers session now).entries i ≡ Some r → r.asked ≡ Holdings
begun_asks servers session now i r e =
    let k = one_of now servers i r (sym (ap (λ (l : List Request). slice_get l i) (begun_entries servers session now)) ∙ e) in
    sym (ap (λ (q : Request). q.asked) k.2)

pub begun_length : (servers : List ℕ) (session now : ℕ) → length (begun servers session now).entries ≡ length servers
begun_length servers session now = ap length (begun_entries servers session now) ∙ length-map servers (asks_one now)

-- ---- nobody is asked twice

-- what holds of all holds of the one at a position
get_all : (P : ℕ → Type 0) (xs : List ℕ) → AllByRecursion P xs → (i x : ℕ) → slice_get xs i ≡ Some x → P x
get_all P [] all i x e = absurd cc
get_all P (y ∷ ys) all zero x e = let is : y ≡ x = cc in subst P is all.0
get_all P (y ∷ ys) all (suc i) x e = get_all P ys all.1 i x e

-- the servers differ
differ : (servers : List ℕ) → IsDistinct nat_eq servers → (i j a b : ℕ) → i < j → slice_get servers i ≡ Some a → slice_get servers j ≡ Some b → a ≡ b → ⊥
differ [] d i j a b lt e f same = absurd cc
differ (s ∷ ss) d i zero a b lt e f same = omega (arith, lt)
differ (s ∷ ss) d zero (suc j) a b lt e f same =
    let is : s ≡ a = cc in
    let one : nat_eq s b ≡ false = get_all (λ (y : ℕ). nat_eq s y ≡ false) ss (IsDistinct-head nat_eq s ss d) j b f in
    true≢false (sym (eq-eqb s b (is ∙ same)) ∙ one)
differ (s ∷ ss) d (suc i) (suc j) a b lt e f same = differ ss (IsDistinct-tail nat_eq s ss d) i j a b (omega (arith, lt)) e f same

pub begun_once : (servers : List ℕ) (session now : ℕ) → IsDistinct nat_eq servers → AsksOnce (begun servers session now).entries
begun_once servers session now d i j a b lt e f same =
    let k = one_of now servers i a (sym (ap (λ (l : List Request). slice_get l i) (begun_entries servers session now)) ∙ e) in
    let m = one_of now servers j b (sym (ap (λ (l : List Request). slice_get l j) (begun_entries servers session now)) ∙ f) in
    absurd (differ servers d i j k.0 m.0 lt k.1 m.1 (ap (λ (q : Request). q.server) k.2 ∙ same ∙ sym (ap (λ (q : Request). q.server) m.2)))

-- ---- so it is right

pub begun_right : (total : ℕ) (servers : List ℕ) (session now : ℕ) (s : HoldingsState) → IsDistinct nat_eq servers → Begins total servers session now s → IsRight s
begun_right total servers session now s d b = record {
  once = subst (λ (r : RequestsState). AsksOnce r.entries) (sym b.requests) (begun_once servers session now d);
  first = λ i r e lt. begun_asks servers session now i r (sym (ap (λ (q : RequestsState). slice_get q.entries i) b.requests) ∙ e);
  counted = (let len = ap (λ (q : RequestsState). length q.entries) b.requests ∙ begun_length servers session now in let own = ap length b.owners in let n = b.servers_are in omega (arith, len, own, n));
  owned = λ i holding e. let f : slice_get [] i ≡ Some holding = sym (ap (λ (l : List ℕ). slice_get l i) b.owners) ∙ e in absurd cc;
  offered = λ position h e. absurd (none position h e);
  distinct = λ i j x y lt e f servers-same shares-same. none i x e;
  left = λ position h e left. absurd (none position h e);
  others = λ position h e left. absurd (none position h e);
  blamed = λ i x e. (let f : slice_get [] i ≡ Some x = sym (ap (λ (l : List Blame). slice_get l i) b.blamed) ∙ e in absurd cc);
}
  where
    none : (position : ℕ) (h : Holding) → IsHolding s.table position h → ⊥
    none position h e = let f : slice_get [] position ≡ Some h = sym (ap (λ (l : List Holding). slice_get l position) b.holdings) ∙ e in absurd cc

-- Each acknowledged pair is of a server that answered.
use Rattle.std.proofs.Common.{◌≡◌, ℕ, zero, suc, ◌+◌, ◌<◌, ◌∙◌, ap, append_assoc, drop, drop-cons, inl, inr, Bool, true, false, cond, ◌&&◌, ◌||◌, List, [], ◌∷◌, ◌++◌, All, Contains, length, get_or, eqb, map, refl, sym, subst, arith, true≢false}
use Rattle.std.specs.List.{list_any}
use Rattle.std.specs.Prelude.{nat_lt}
use Rattle.std.proofs.lemmas.Bool.{eq-eqb, ltb-true, or_left, or_right}
use Rattle.std.proofs.lemmas.List.Elements.{All-nil, All-cons, All-head, All-tail, All-append, All-weaker}
use Rattle.lemmas.proofs.Bools.{both}
use Rattle.wire.specs.declared.message.Body.{Body}
use Rattle.wire.specs.declared.message.Body.TheVariants.{Ask, Have, Allocate, Granted, Already, Busy, Full, Write, Wrote, WrongOffset, Close, Closed, NotComplete, Abort, Read, Data, NoShare}
use Rattle.wire.specs.declared.message.HeldShare.{HeldShare}
use Rattle.request_record.specs.declared.requests.Asked.{Asked}
use Rattle.request_record.specs.declared.requests.Asked.TheVariants.{Holdings, Allocation, Writing, Closing, Reading, Aborting}
use Rattle.request_record.specs.declared.requests.Outcome.{Outcome}
use Rattle.request_record.specs.declared.requests.Outcome.TheVariants.{Unawaited, Outstanding, Answered, Lost}
use Rattle.request_record.specs.declared.requests.Request.{Request}
use Rattle.placement.specs.Matching.{Pair}
use Rattle.upload_core.specs.State.{Goal}
use Rattle.upload_core.specs.Acknowledged.{acked_answer, acked_by, acked_held, acked_outcome, acked_pairs, acked_share, is_digest_of}
use Rattle.upload_core.specs.Rounds.{answers_as, asked_answered_as, readonly_servers, writable_servers}
use Rattle.upload_core.specs.Course.{IsOfTold, has_told, is_holdings, is_told}
use Rattle.upload_core.proofs.Servers.{told_there}

module _ (g : Goal) (s : ℕ) where
  abbrev pub OfServer : Pair → Type 0
  OfServer p = (p.0 ≡ s) × (p.1 < length g.digests)

  share_acked : (share : ℕ) (d : List ℕ) → All OfServer (acked_share g s share d)
  share_acked share d = by (is_digest_of g share d) refl
    where
      by : (b : Bool) → is_digest_of g share d ≡ b → All OfServer (cond b ((s, share) ∷ []) [])
      by true e = All-cons OfServer (s, share) [] (refl, ltb-true _ _ (both (nat_lt share (length g.digests)) _ e).0) (All-nil OfServer)
      by false e = All-nil OfServer

  held_acked : (held : List HeldShare) → All OfServer (acked_held g s held)
  held_acked [] = All-nil OfServer
  held_acked (h ∷ hs) = All-append OfServer (acked_share g s h.share h.digest) (acked_held g s hs) (share_acked h.share h.digest) (held_acked hs)

  holdings_acked : (b : Body) → All OfServer (acked_answer g s Holdings b)
  holdings_acked (Ask i) = All-nil OfServer
  holdings_acked (Have ro held) = held_acked held
  holdings_acked (Allocate id l) = All-nil OfServer
  holdings_acked Granted = All-nil OfServer
  holdings_acked (Already d) = All-nil OfServer
  holdings_acked Busy = All-nil OfServer
  holdings_acked Full = All-nil OfServer
  holdings_acked (Write id o bytes) = All-nil OfServer
  holdings_acked (Wrote next) = All-nil OfServer
  holdings_acked (WrongOffset next) = All-nil OfServer
  holdings_acked (Close id) = All-nil OfServer
  holdings_acked (Closed d) = All-nil OfServer
  holdings_acked (NotComplete w) = All-nil OfServer
  holdings_acked (Abort id) = All-nil OfServer
  holdings_acked (Read id o l) = All-nil OfServer
  holdings_acked (Data bytes) = All-nil OfServer
  holdings_acked NoShare = All-nil OfServer

  allocation_acked : (share len : ℕ) → (b : Body) → All OfServer (acked_answer g s (Allocation share len) b)
  allocation_acked share len (Ask i) = All-nil OfServer
  allocation_acked share len (Have ro held) = All-nil OfServer
  allocation_acked share len (Allocate id l) = All-nil OfServer
  allocation_acked share len Granted = All-nil OfServer
  allocation_acked share len (Already d) = share_acked share d
  allocation_acked share len Busy = All-nil OfServer
  allocation_acked share len Full = All-nil OfServer
  allocation_acked share len (Write id o bytes) = All-nil OfServer
  allocation_acked share len (Wrote next) = All-nil OfServer
  allocation_acked share len (WrongOffset next) = All-nil OfServer
  allocation_acked share len (Close id) = All-nil OfServer
  allocation_acked share len (Closed d) = All-nil OfServer
  allocation_acked share len (NotComplete w) = All-nil OfServer
  allocation_acked share len (Abort id) = All-nil OfServer
  allocation_acked share len (Read id o l) = All-nil OfServer
  allocation_acked share len (Data bytes) = All-nil OfServer
  allocation_acked share len NoShare = All-nil OfServer

  writing_acked : (share offset len : ℕ) → (b : Body) → All OfServer (acked_answer g s (Writing share offset len) b)
  writing_acked share offset len (Ask i) = All-nil OfServer
  writing_acked share offset len (Have ro held) = All-nil OfServer
  writing_acked share offset len (Allocate id l) = All-nil OfServer
  writing_acked share offset len Granted = All-nil OfServer
  writing_acked share offset len (Already d) = share_acked share d
  writing_acked share offset len Busy = All-nil OfServer
  writing_acked share offset len Full = All-nil OfServer
  writing_acked share offset len (Write id o bytes) = All-nil OfServer
  writing_acked share offset len (Wrote next) = All-nil OfServer
  writing_acked share offset len (WrongOffset next) = All-nil OfServer
  writing_acked share offset len (Close id) = All-nil OfServer
  writing_acked share offset len (Closed d) = All-nil OfServer
  writing_acked share offset len (NotComplete w) = All-nil OfServer
  writing_acked share offset len (Abort id) = All-nil OfServer
  writing_acked share offset len (Read id o l) = All-nil OfServer
  writing_acked share offset len (Data bytes) = All-nil OfServer
  writing_acked share offset len NoShare = All-nil OfServer

  closing_acked : (share : ℕ) → (b : Body) → All OfServer (acked_answer g s (Closing share) b)
  closing_acked share (Ask i) = All-nil OfServer
  closing_acked share (Have ro held) = All-nil OfServer
  closing_acked share (Allocate id l) = All-nil OfServer
  closing_acked share Granted = All-nil OfServer
  closing_acked share (Already d) = All-nil OfServer
  closing_acked share Busy = All-nil OfServer
  closing_acked share Full = All-nil OfServer
  closing_acked share (Write id o bytes) = All-nil OfServer
  closing_acked share (Wrote next) = All-nil OfServer
  closing_acked share (WrongOffset next) = All-nil OfServer
  closing_acked share (Close id) = All-nil OfServer
  closing_acked share (Closed d) = share_acked share d
  closing_acked share (NotComplete w) = All-nil OfServer
  closing_acked share (Abort id) = All-nil OfServer
  closing_acked share (Read id o l) = All-nil OfServer
  closing_acked share (Data bytes) = All-nil OfServer
  closing_acked share NoShare = All-nil OfServer

  answer_acked : (a : Asked) (b : Body) → All OfServer (acked_answer g s a b)
  answer_acked Holdings b = holdings_acked b
  answer_acked (Allocation share len) b = allocation_acked share len b
  answer_acked (Writing share offset len) b = writing_acked share offset len b
  answer_acked (Closing share) b = closing_acked share b
  answer_acked (Reading share offset len) b = All-nil OfServer
  answer_acked (Aborting share) b = All-nil OfServer

  pub outcome_acked : (a : Asked) (o : Outcome) → All OfServer (acked_outcome g s a o)
  outcome_acked a Unawaited = All-nil OfServer
  outcome_acked a Outstanding = All-nil OfServer
  outcome_acked a (Answered b) = answer_acked a b
  outcome_acked a Lost = All-nil OfServer

told_by : (b : Body) (g : Goal) (s : ℕ) (k : ℕ) → k < length (acked_answer g s Holdings b) → (answers_as true b || answers_as false b) ≡ true
told_by (Ask i) g s k lt = absurd (omega (arith, lt))
told_by (Have true held) g s k lt = refl
told_by (Have false held) g s k lt = refl
told_by (Allocate id l) g s k lt = absurd (omega (arith, lt))
told_by Granted g s k lt = absurd (omega (arith, lt))
told_by (Already d) g s k lt = absurd (omega (arith, lt))
told_by Busy g s k lt = absurd (omega (arith, lt))
told_by Full g s k lt = absurd (omega (arith, lt))
told_by (Write id o bytes) g s k lt = absurd (omega (arith, lt))
told_by (Wrote next) g s k lt = absurd (omega (arith, lt))
told_by (WrongOffset next) g s k lt = absurd (omega (arith, lt))
told_by (Close id) g s k lt = absurd (omega (arith, lt))
told_by (Closed d) g s k lt = absurd (omega (arith, lt))
told_by (NotComplete w) g s k lt = absurd (omega (arith, lt))
told_by (Abort id) g s k lt = absurd (omega (arith, lt))
told_by (Read id o l) g s k lt = absurd (omega (arith, lt))
told_by (Data bytes) g s k lt = absurd (omega (arith, lt))
told_by NoShare g s k lt = absurd (omega (arith, lt))

-- an Ask that acknowledges was answered
told_outcome : (g : Goal) (s : ℕ) (a : Asked) (o : Outcome) (k : ℕ) → is_holdings a ≡ true → k < length (acked_outcome g s a o) → (asked_answered_as true a o || asked_answered_as false a o) ≡ true
told_outcome g s Holdings Unawaited k h lt = absurd (omega (arith, lt))
told_outcome g s Holdings Outstanding k h lt = absurd (omega (arith, lt))
told_outcome g s Holdings (Answered b) k h lt = told_by b g s k lt
told_outcome g s Holdings Lost k h lt = absurd (omega (arith, lt))
told_outcome g s (Allocation share len) o k h lt = absurd (true≢false (sym h))
told_outcome g s (Writing share offset len) o k h lt = absurd (true≢false (sym h))
told_outcome g s (Closing share) o k h lt = absurd (true≢false (sym h))
told_outcome g s (Reading share offset len) o k h lt = absurd (true≢false (sym h))
told_outcome g s (Aborting share) o k h lt = absurd (true≢false (sym h))

-- pairs of a server that answered
abbrev pub IsToldPair : Goal → List Request → Pair → Type 0
IsToldPair g es p = (is_told es p.0 ≡ true) × (p.1 < length g.digests)

acked_one : (g : Goal) (es : List Request) (r : Request) → IsOfTold es r → (has_told r ≡ true → is_told es r.server ≡ true) → All (IsToldPair g es) (acked_by g r)
acked_one g es r of-told told = λ k d lt.
    let p = outcome_acked g r.server r.asked r.outcome k d lt in
    let here : is_told es r.server ≡ true = elim of-told [ inl h ↦ told (told_outcome g r.server r.asked r.outcome k h lt) | inr t ↦ t ] in
    (subst (λ (s : ℕ). is_told es s ≡ true) (sym p.0) here, p.1)

acked_each : (g : Goal) (es rs : List Request) → All (IsOfTold es) rs → All (λ (r : Request). has_told r ≡ true → is_told es r.server ≡ true) rs → All (IsToldPair g es) (acked_pairs g rs)
acked_each g es [] of-told told = All-nil (IsToldPair g es)
acked_each g es (r ∷ rs) of-told told =
    All-append (IsToldPair g es) (acked_by g r) (acked_pairs g rs)
    (acked_one g es r (All-head (IsOfTold es) r rs of-told) (All-head (λ (q : Request). has_told q ≡ true → is_told es q.server ≡ true) r rs told))
    (acked_each g es rs (All-tail (IsOfTold es) r rs of-told) (All-tail (λ (q : Request). has_told q ≡ true → is_told es q.server ≡ true) r rs told))

any_at : (p : Request → Bool) (xs : List Request) (k : ℕ) (d : Request) → k < length xs → p (get_or xs k d) ≡ true → list_any p xs ≡ true
any_at p [] k d lt h = absurd (omega (arith, lt))
any_at p (x ∷ xs) zero d lt h = or_left (p x) (list_any p xs) h
any_at p (x ∷ xs) (suc k) d lt h = or_right (p x) (list_any p xs) (any_at p xs k d (omega (arith, lt)) h)

told_each : (es : List Request) → All (λ (r : Request). has_told r ≡ true → is_told es r.server ≡ true) es
told_each es k d lt h =
    let r : Request = get_or es k d in
    any_at (λ (q : Request). has_told q && eqb r.server q.server) es k d lt (let same : eqb r.server r.server ≡ true = eq-eqb r.server r.server refl in rw (h, same) refl)

pub acked_told : (g : Goal) (es : List Request) → All (IsOfTold es) es → All (IsToldPair g es) (acked_pairs g es)
acked_told g es of-told = acked_each g es es of-told (told_each es)

-- what `position` asks of the held pairs
pub acked_known : (g : Goal) (es : List Request) → All (IsOfTold es) es → All (λ (p : Pair). Contains (readonly_servers g es ++ writable_servers g es) p.0 × (p.1 < length g.digests)) (acked_pairs g es)
acked_known g es of-told = All-weaker (IsToldPair g es) (λ (p : Pair). Contains (readonly_servers g es ++ writable_servers g es) p.0 × (p.1 < length g.digests)) (λ p h. (told_there g es p.0 h.0, h.1)) (acked_pairs g es) (acked_told g es of-told)

-- one more request of those that entries hold
module _ {E : Type 0} (request : E → Request) where
  pub acked_on : (g : Goal) (es : List E) (i : ℕ) (e : E) (old new : List Pair) → i < length es → e ≡ get_or es i e → new ≡ old ++ acked_by g (request e) → old ++ acked_pairs g (map request (drop i es)) ≡ acked_pairs g (map request es)
      → new ++ acked_pairs g (map request (drop (i + 1) es)) ≡ acked_pairs g (map request es)
  acked_on g es i e old new lt is more before =
      let next : suc i ≡ i + 1 = omega arith in
      let first : drop i es ≡ e ∷ drop (i + 1) es = drop-cons es i e lt ∙ ap (λ (x : E). x ∷ drop (suc i) es) (sym is) ∙ ap (λ (n : ℕ). e ∷ drop n es) next in
      ap (λ (ps : List Pair). ps ++ acked_pairs g (map request (drop (i + 1) es))) more
      ∙ append_assoc old (acked_by g (request e)) (acked_pairs g (map request (drop (i + 1) es)))
      ∙ ap (λ (l : List E). old ++ acked_pairs g (map request l)) (sym first)
      ∙ before

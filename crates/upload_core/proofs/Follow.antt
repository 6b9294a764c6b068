-- What follows an answer is inside the goal, where the request was, and of its trail.
use Rattle.std.proofs.Common.{◌≡◌, ℕ, zero, suc, ◌+◌, ◌<◌, ◌≤◌, Bool, true, false, cond, ◌&&◌, min, List, [], ◌∷◌, Contains, Some, length, refl, sym, ap, subst, ◌∙◌, arith, true≢false, inl, inr}
use Rattle.std.specs.Prelude.{◌==◌}
use Rattle.std.proofs.lemmas.Bool.{eq-eqb, cases_lt}
use Rattle.placement.proofs.Members.{Contains-nil, Contains-uncons}
use Rattle.request_record.specs.declared.requests.Asked.{Asked}
use Rattle.request_record.specs.declared.requests.Asked.TheVariants.{Holdings, Allocation, Writing, Closing, Reading, Aborting}
use Rattle.request_record.specs.declared.requests.Outcome.{Outcome}
use Rattle.request_record.specs.declared.requests.Outcome.TheVariants.{Lost}
use Rattle.request_record.specs.declared.requests.Request.{Request}
use Rattle.upload_core.specs.declared.transfers.Effect.{Effect}
use Rattle.upload_core.specs.declared.transfers.Effect.TheVariants.{Fails, Carries, Rests}
use Rattle.upload_core.specs.State.{Goal}
use Rattle.upload_core.specs.Transfers.{asked_after, carried_on, effect_of, follow_ups, given_up, is_given_up, is_transfer, next_of, piece_at, pieces_from, sent_from, waits_before}
use Rattle.upload_core.specs.Course.{IsInside, is_holdings}
use Rattle.upload_core.specs.Trails.{share_of}

-- asked for a share, and inside the goal
pub record IsGood (g : Goal) (asked : Asked) : Type 0 where
  pub inside : IsInside g asked
  pub share : is_holdings asked ≡ false

-- it goes on from a request, in the same trail
pub record IsOnward (g : Goal) (asked next : Asked) : Type 0 where
  pub good : IsGood g next
  pub same : share_of next ≡ share_of asked

pub differ : (a b : ℕ) → (a == b) ≡ false → a ≡ b → ⊥
differ a b e same = true≢false (sym (eq-eqb a b same) ∙ e)

-- two numbers of which the first is not greater, and which differ
pub less_of : (a b : ℕ) → a ≤ b → (a == b) ≡ false → a < b
less_of a b le e = elim (cases_lt a b) [ inl lt ↦ lt | inr ge ↦ absurd (let same : a ≡ b = omega (arith, le, ge) in differ a b e same) ]

pub in_cond : {X : Type 0} (b : Bool) (xs : List X) (x : X) → Contains (cond b [] xs) x → Contains xs x
in_cond true xs x c = absurd (Contains-nil x c)
in_cond false xs x c = c

pub in_one : {X : Type 0} (y x : X) → Contains (y ∷ []) x → y ≡ x
in_one y x c = elim (Contains-uncons y [] x c) [ inl same ↦ same | inr none ↦ absurd (Contains-nil x none) ]

module _ (g : Goal) where
  pub piece_inside : (share offset : ℕ) → share < length g.digests → offset < g.share_length → IsInside g (piece_at g share offset)
  piece_inside share offset within lt = (within, omega (arith, lt), omega (arith, lt), refl)

  next_onward : (asked : Asked) (share sent : ℕ) → share_of asked ≡ Some share → share < length g.digests → sent ≤ g.share_length → IsOnward g asked (next_of g share sent)
  next_onward asked share sent same within le = by (sent == g.share_length) refl
    where
      by : (b : Bool) → (sent == g.share_length) ≡ b → IsOnward g asked (cond b (Closing share) (piece_at g share sent))
      by true e = record { good = record { inside = within; share = refl }; same = sym same }
      by false e = record { good = record { inside = piece_inside share sent within (less_of sent g.share_length le e); share = refl }; same = sym same }

  pieces_onward : (asked : Asked) (share : ℕ) → share_of asked ≡ Some share → share < length g.digests → (count offset : ℕ) → offset ≤ g.share_length → (x : Asked) → Contains (pieces_from g count share offset) x → IsOnward g asked x
  pieces_onward asked share same within zero offset le x c = absurd (Contains-nil x c)
  pieces_onward asked share same within (suc count) offset le x c = by (pieces_onward asked share same within count (min (offset + 32768) g.share_length) (omega arith) x) (offset == g.share_length) refl c
    where
      next : ℕ
      next = min (offset + 32768) g.share_length

      by : (Contains (pieces_from g count share next) x → IsOnward g asked x) → (b : Bool) → (offset == g.share_length) ≡ b → Contains (cond b [] (piece_at g share offset ∷ pieces_from g count share next)) x → IsOnward g asked x
      by rest true e d = absurd (Contains-nil x d)
      by rest false e d = elim (Contains-uncons (piece_at g share offset) (pieces_from g count share next) x d) [
        | inl is ↦ subst (IsOnward g asked) is (record { good = record { inside = piece_inside share offset within (less_of offset g.share_length le e); share = refl }; same = sym same })
        | inr more ↦ rest more
      ]

  pub given_onward : (a x : Asked) → IsInside g a → Contains (given_up a) x → IsOnward g a x
  given_onward Holdings x i c = absurd (Contains-nil x c)
  given_onward (Allocation share len) x i c = absurd (Contains-nil x c)
  given_onward (Writing share offset len) x i c = subst (IsOnward g (Writing share offset len)) (in_one (Aborting share) x c) (record { good = record { inside = i.0; share = refl }; same = refl })
  given_onward (Closing share) x i c = subst (IsOnward g (Closing share)) (in_one (Aborting share) x c) (record { good = record { inside = i; share = refl }; same = refl })
  given_onward (Reading share offset len) x i c = absurd (Contains-nil x c)
  given_onward (Aborting share) x i c = absurd (Contains-nil x c)

  carried_onward : (es : List Request) (s : ℕ) (a x : Asked) → IsInside g a → Contains (carried_on g es s a) x → IsOnward g a x
  carried_onward es s Holdings x i c = absurd (Contains-nil x c)
  carried_onward es s (Allocation share len) x i c = pieces_onward (Allocation share len) share refl i.0 g.ahead 0 (omega arith) x c
  carried_onward es s (Writing share offset len) x i c =
      let one = in_cond ((sent_from g offset == g.share_length) && waits_before es s share g.share_length) (next_of g share (sent_from g offset) ∷ []) x c in
      subst (IsOnward g (Writing share offset len)) (in_one (next_of g share (sent_from g offset)) x one) (next_onward (Writing share offset len) share (sent_from g offset) refl i.0 (omega arith))
  carried_onward es s (Closing share) x i c = absurd (Contains-nil x c)
  carried_onward es s (Reading share offset len) x i c = absurd (Contains-nil x c)
  carried_onward es s (Aborting share) x i c = absurd (Contains-nil x c)

  after_onward : (es : List Request) (s : ℕ) (a : Asked) (e : Effect) (x : Asked) → IsInside g a → Contains (asked_after g es s a e) x → IsOnward g a x
  after_onward es s a Rests x i c = absurd (Contains-nil x c)
  after_onward es s a Fails x i c = given_onward a x i (in_cond (is_given_up es s a) (given_up a) x c)
  after_onward es s a Carries x i c = carried_onward es s a x i (in_cond (is_given_up es s a) (carried_on g es s a) x c)

  -- what is asked after a request goes on from it
  pub follow_onward : (es : List Request) (r : Request) (x : Asked) → IsInside g r.asked → Contains (follow_ups g es r) x → IsOnward g r.asked x
  follow_onward es r x i c = after_onward es r.server r.asked (effect_of g r.asked r.outcome) x i c

  -- nothing is asked after an Ask
  pub none_after : (es : List Request) (s : ℕ) (e : Effect) (x : Asked) → Contains (asked_after g es s Holdings e) x → ⊥
  none_after es s Rests x c = Contains-nil x c
  none_after es s Fails x c = Contains-nil x (in_cond (is_given_up es s Holdings) [] x c)
  none_after es s Carries x c = Contains-nil x (in_cond (is_given_up es s Holdings) [] x c)

  -- ---- after a loss

  nothing : (b : Bool) (xs : List Asked) → cond b xs xs ≡ xs
  nothing true xs = refl
  nothing false xs = refl

  -- after a loss its transfer is given up
  pub lost_after : (es : List Request) (s : ℕ) (a : Asked) → asked_after g es s a Fails ≡ asked_after g es s a (effect_of g a Lost)
  lost_after es s Holdings = nothing (is_given_up es s Holdings) []
  lost_after es s (Allocation share len) = refl
  lost_after es s (Writing share offset len) = refl
  lost_after es s (Closing share) = refl
  lost_after es s (Reading share offset len) = nothing (is_given_up es s (Reading share offset len)) []
  lost_after es s (Aborting share) = nothing (is_given_up es s (Aborting share)) []

  pub lost_follow : (es : List Request) (r : Request) → r.outcome ≡ Lost → asked_after g es r.server r.asked Fails ≡ follow_ups g es r
  lost_follow es r e = lost_after es r.server r.asked ∙ ap (λ (o : Outcome). asked_after g es r.server r.asked (effect_of g r.asked o)) (sym e)

  -- what follows a loss is what a transfer that failed is given up by
  pub lost_given : (es : List Request) (r : Request) (x : Asked) → r.outcome ≡ Lost → Contains (follow_ups g es r) x → Contains (given_up r.asked) x
  lost_given es r x e c = in_cond (is_given_up es r.server r.asked) (given_up r.asked) x (subst (λ (l : List Asked). Contains l x) (sym (lost_follow es r e)) c)

  pub given_transfer : (a x : Asked) → Contains (given_up a) x → is_transfer a ≡ true
  given_transfer Holdings x c = absurd (Contains-nil x c)
  given_transfer (Allocation share len) x c = refl
  given_transfer (Writing share offset len) x c = refl
  given_transfer (Closing share) x c = refl
  given_transfer (Reading share offset len) x c = absurd (Contains-nil x c)
  given_transfer (Aborting share) x c = absurd (Contains-nil x c)

-- A share is blamed: it is not left, and what is known of the others stays.
use Rattle.std.proofs.Common.{◌≡◌, ℕ, zero, suc, ◌<◌, Bool, true, false, cond, List, [], ◌∷◌, get_or, Some, None, refl, sym, ap, subst, ◌∙◌, arith}
use Rattle.std.specs.Prelude.{slice_get, slice_set}
use Rattle.std.proofs.lemmas.List.Sums.{sum_by-cons}
use Rattle.std.proofs.lemmas.Option.{slice_get_within}
use Rattle.lemmas.proofs.Positions.{got}
use Rattle.lemmas.proofs.Options.{one_there}
use Rattle.download_shares.specs.HoldingMoves.{Blames}
use Rattle.download_shares.specs.HoldingState.{HoldingsState, TableState}
use Rattle.download_shares.specs.Table.{IsHolding, Retires}
use Rattle.download_shares.specs.declared.holding.Holding.{Holding}
use Rattle.download_shares.specs.BeginningState.{BeginningsState}
use Rattle.download_shares.specs.declared.begun.Begun.{Begun}
use Rattle.download_shares.proofs.Falling.{falls_one, retired_left}
use Rattle.share_verify.specs.declared.check.Check.{Check}
use Rattle.download_file.specs.State.{IsHeard}
use Rattle.download_core.specs.Reading.{AreAwaited, AreBusy, AreLinked, IsOf}
use Rattle.download_core.specs.ReadingState.{ReadingState}
use Rattle.download_core.specs.ReadingSteps.{left_count}
use Rattle.download_core.proofs.Awaited.{Stays, asked_stays, awaits_last, fallen_awaits, out_stays}
use Rattle.download_core.proofs.Busy.{busy_falls, still_out}
use Rattle.download_core.proofs.Follows.{Follows, follows_falls}

-- the holding that is blamed is the reader's, and it was left
pub record OwnBlamed (s : BeginningsState) (r : ReadingState) (reader holding : ℕ) : Type 0 where
  pub of : IsOf r reader holding
  pub held : Holding
  pub is : IsHolding s.holdings.table holding held
  pub left : held.left ≡ true

pub own_blamed : (s : BeginningsState) (now r : ReadingState) (reader holding : ℕ) → r ≡ now → AreLinked s now → IsHeard now.file reader → holding ≡ get_or r.holdings reader holding → OwnBlamed s now reader holding
own_blamed s now r reader holding e linked live index =
    let k = linked.live reader live in
    let at : IsOf r reader k.holding = ap (λ (x : ReadingState). slice_get x.holdings reader) e ∙ k.of in
    let one : k.holding ≡ holding = one_there (slice_get r.holdings reader) k.holding holding at (got r.holdings reader holding (slice_get_within r.holdings reader k.holding at) index) in
    record { of = k.of ∙ ap Some one; held = k.held; is = subst (λ x. IsHolding s.holdings.table x k.held) one k.is; left = k.left }

module _ (s t : BeginningsState) (r : ReadingState) (holding : ℕ) (check : Check) (blames : Blames holding check s.holdings t.holdings) where
  stays : Stays s.holdings.requests.entries t.holdings.requests.entries
  stays i q e = ap (λ (x : HoldingsState). slice_get x.requests.entries i) blames.others ∙ e

  follows : Follows s.holdings.table t.holdings.table
  follows = follows_falls s.holdings.table t.holdings.table (falls_one holding s.holdings.table t.holdings.table blames.retired)

  pub busy_blamed : AreBusy None s r → t.begun ≡ s.begun → AreBusy None t r
  busy_blamed before same =
      busy_falls s t r before (falls_one holding s.holdings.table t.holdings.table blames.retired)
      (λ position h is left out. still_out s t position (ap (λ (l : List Begun). slice_get l position) same) stays out)

module _ (s t : BeginningsState) (r q : ReadingState) (reader holding : ℕ) (check : Check) (linked : AreLinked s r) (before : AreAwaited (Some reader) s r) (blames : Blames holding check s.holdings t.holdings)
    (of : IsOf r reader holding) (ended : AreLinked t q) (same : q.holdings ≡ r.holdings) (goes : AreAwaited (Some reader) t r → AreAwaited (Some reader) t q) where
  blamed_some : AreAwaited (Some reader) t r
  blamed_some = fallen_awaits s t r linked.kept (follows s t r holding check blames) (Some reader) (Some reader) before
      (λ x g w k a. asked_stays s.holdings.requests.entries t.holdings.requests.entries g w (stays s t r holding check blames) a)
      (λ x g w k other. (other, λ a o. out_stays s.holdings.requests.entries t.holdings.requests.entries w.position (stays s t r holding check blames) o))

  -- its reader is read no more
  pub blamed_awaits : AreAwaited None t q
  blamed_awaits = awaits_last t q reader (goes blamed_some)
      (λ position h k e.
      let at : IsOf r reader k.holding = sym (ap (λ (l : List ℕ). slice_get l reader) same) ∙ k.of in
      let one : k.holding ≡ holding = one_there (slice_get r.holdings reader) k.holding holding at of in
      absurd (retired_left holding s.holdings.table t.holdings.table h blames.retired (subst (λ x. IsHolding t.holdings.table x h) one k.is) k.left))

-- ---- fewer are left

abbrev one_if : Bool → ℕ
one_if b = cond b 1 0

abbrev weight : Holding → ℕ
weight h = one_if h.left

fewer_set : (hs : List Holding) (i : ℕ) (h g : Holding) → slice_get hs i ≡ Some h → h.left ≡ true → g.left ≡ false → left_count (slice_set hs i g) < left_count hs
fewer_set [] i h g e left gone = absurd cc
fewer_set (x ∷ xs) zero h g e left gone =
    let one : x ≡ h = cc in
    let a : one_if x.left ≡ 1 = ap one_if (ap (λ (y : Holding). y.left) one ∙ left) in
    let b : one_if g.left ≡ 0 = ap one_if gone in
    omega (arith, a, b, sum_by-cons weight x xs, sum_by-cons weight g xs)
fewer_set (x ∷ xs) (suc i) h g e left gone = (let k = fewer_set xs i h g e left gone in omega (arith, k, sum_by-cons weight x xs, sum_by-cons weight x (slice_set xs i g)))

pub fewer_left : (holding : ℕ) (t u : TableState) (h : Holding) → IsHolding t holding h → h.left ≡ true → Retires holding t u → left_count u.holdings < left_count t.holdings
fewer_left holding t u h is left r =
    let k = fewer_set t.holdings holding h (record r.0 { left = false }) is left refl in
    subst (λ (l : List Holding). left_count l < left_count t.holdings) (sym r.1.holdings) k

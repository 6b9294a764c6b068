-- One header is compared.
use Rattle.std.proofs.Common.{◌≡◌, ℕ, ◌+◌, inr, Bool, true, List, [], ◌∷◌, ◌++◌, length, Some, None, refl, sym, ap, ◌∙◌, arith, true≢false}
use Rattle.std.specs.Prelude.{slice_get}
use Rattle.std.proofs.lemmas.List.{length-set}
use Rattle.lemmas.proofs.Positions.{get_set}
use Rattle.lemmas.proofs.Options.{one_there}
use Rattle.share_layout.specs.Geometry.{Geometry, IsGeometry}
use Rattle.share_reading.specs.Opening.{Agrees}
use Rattle.share_reading.specs.declared.opening.Opening.{Opening}
use Rattle.download_shares.specs.HoldingMoves.{Blames}
use Rattle.download_shares.specs.Right.{IsRight}
use Rattle.download_shares.specs.Numbers.{released}
use Rattle.download_shares.specs.HoldingState.{HoldingsState, TableState}
use Rattle.download_shares.specs.Table.{IsHolding, IsTable, Releases, Suspends}
use Rattle.download_shares.specs.declared.holding.Blame.{Blame}
use Rattle.download_shares.specs.declared.holding.Holding.{Holding}
use Rattle.share_verify.specs.declared.check.Check.{Check}
use Rattle.share_verify.specs.declared.check.Check.TheVariants as checks
use Rattle.download_shares.specs.Causes.{AddsBlames, IsOtherHeader}
use Rattle.download_shares.proofs.Caused.{adds_one}
use Rattle.download_shares.specs.Known.{AreBegun}
use Rattle.download_shares.specs.BeginningMoves.{GoesOn}
use Rattle.download_shares.specs.Opening.{AreComparedUpTo, IsCompared}
use Rattle.download_shares.specs.BeginningState.{BeginningsState, IsBegun}
use Rattle.download_shares.specs.declared.begun.Begun.{Begun}
use Rattle.download_shares.proofs.Comparing.{Unreads, compared_gone, compared_kept, compared_next, unreads_released, unreads_retired, unreads_suspended}
use Rattle.download_shares.proofs.Falling.{falls_one, retired_left}
use Rattle.download_shares.proofs.Knowing.{keeps_same, known_blamed, known_same, shares_released, shares_suspended}
use Rattle.download_shares.proofs.Opened.{goes_blamed, goes_from, goes_none}

-- as many numbers count where a holding is read no more
pub released_count : (holding : ℕ) (old new : TableState) → Releases holding old new → length new.numbers ≡ length old.numbers
released_count holding old new r = ap length r.3.numbers ∙ length-set old.numbers r.0.share (record r.3.number { reading = released holding r.3.number.reading })

module _ (g : Geometry) (holding : ℕ) (valid : IsGeometry g) (s : BeginningsState) (known : AreBegun s) (b : Begun) (at : IsBegun s holding b) (t : HoldingsState)
    (releases : Releases holding s.holdings.table t.table) (others : t ≡ record s.holdings { table = t.table }) (right : IsRight t) (table : IsTable t.table) where
  abbrev pub released_state : BeginningsState
  released_state = record { holdings = t; begun = s.begun }

  pub released_requests : t.requests ≡ s.holdings.requests
  released_requests = ap (λ (x : HoldingsState). x.requests) others

  pub released_blamed : t.blamed ≡ s.holdings.blamed
  released_blamed = ap (λ (x : HoldingsState). x.blamed) others

  pub released_known : AreBegun released_state
  released_known = known_same s released_state known released_requests (shares_released holding s.holdings.table t.table releases) right refl (keeps_same s.begun s.begun refl)

  pub released_goes : GoesOn s released_state
  released_goes = goes_none s released_state released_requests released_blamed

  held_before : (h : Holding) → IsHolding t.table holding h → IsHolding s.holdings.table holding h
  held_before h is = sym (ap (λ (l : List Holding). slice_get l holding) releases.2) ∙ is

  begun_same : (c : Begun) → slice_get s.begun holding ≡ Some c → b ≡ c
  begun_same c is = one_there (slice_get s.begun holding) b c at is

  -- nothing was read of it
  pub unopened_compared : b.opening ≡ None → (found : ℕ) → AreComparedUpTo g found holding s → AreComparedUpTo g found (holding + 1) released_state
  unopened_compared none found before =
      let unreads = unreads_released holding s.holdings.table t.table releases table in
      compared_next g found holding s released_state before released_requests refl unreads
      (λ h c is there. compared_kept g found holding s released_state before released_requests refl unreads h h c valid (held_before h is) there refl refl (λ l. l)
      (λ left o e. (let two : None ≡ Some o = sym none ∙ ap (λ (x : Begun). x.opening) (begun_same c there) ∙ e in absurd cc))
      (λ left suspended. absurd (true≢false (sym suspended ∙ (before.opening holding h c (held_before h is) there (omega arith)).choosable))))

  -- it is blamed
  module _ (check : Check) (u : HoldingsState) (blames : Blames holding check t u) (right2 : IsRight u) where
    abbrev pub blamed_state : BeginningsState
    blamed_state = record { holdings = u; begun = s.begun }

    pub refused_known : AreBegun blamed_state
    refused_known = known_blamed released_state blamed_state holding check released_known blames (falls_one holding t.table u.table blames.retired) right2 refl

    pub refused_goes : GoesOn s blamed_state
    refused_goes = goes_from s released_state blamed_state released_requests released_blamed (goes_blamed released_state blamed_state holding check blames)

    pub refused_causes : (o : Opening) → b.opening ≡ Some o → ¬ Agrees g o → check ≡ checks.Layout → AddsBlames (IsOtherHeader g s.holdings.requests.entries) s.holdings.blamed u.blamed
    refused_causes o e other same =
        let one : Blame = record { server = blames.held.server; share = blames.held.share; check = check } in
        adds_one (IsOtherHeader g s.holdings.requests.entries) s.holdings.blamed u.blamed one (blames.blamed ∙ ap (λ (l : List Blame). l ++ one ∷ []) released_blamed)
        (record { opening = o; led = (known.each holding blames.held b (held_before blames.held blames.is) at).led o e; other = other; check = same })

    pub refused_compared : (found : ℕ) → AreComparedUpTo g found holding s → AreComparedUpTo g found (holding + 1) blamed_state
    refused_compared found before =
        let unreads = unreads_retired holding s.holdings.table t.table u.table (unreads_released holding s.holdings.table t.table releases table) blames.retired in
        let same = ap (λ (x : HoldingsState). x.requests) blames.others ∙ released_requests in
        compared_next g found holding s blamed_state before same refl unreads
        (λ h c is there. compared_gone g found holding s blamed_state before same refl unreads h c (inr (retired_left holding t.table u.table h blames.retired is)) blames.retired.0 (held_before blames.retired.0 blames.retired.1.is) there)

  -- it may be chosen, or not yet
  module _ (out : Bool) (u : HoldingsState) (suspends : Suspends out holding t.table u.table) (others2 : u ≡ record t { table = u.table }) (right2 : IsRight u) where
    abbrev pub suspended_state : BeginningsState
    suspended_state = record { holdings = u; begun = s.begun }

    suspended_requests : u.requests ≡ s.holdings.requests
    suspended_requests = ap (λ (x : HoldingsState). x.requests) others2 ∙ released_requests

    pub suspended_known : AreBegun suspended_state
    suspended_known = known_same released_state suspended_state released_known (ap (λ (x : HoldingsState). x.requests) others2) (shares_suspended out holding t.table u.table suspends) right2 refl (keeps_same s.begun s.begun refl)

    pub suspended_goes : GoesOn s suspended_state
    suspended_goes = goes_from s released_state suspended_state released_requests released_blamed (goes_none released_state suspended_state (ap (λ (x : HoldingsState). x.requests) others2) (ap (λ (x : HoldingsState). x.blamed) others2))

    pub suspended_compared : ((h : Holding) → IsHolding t.table holding h → h.left ≡ true → (o : Opening) → b.opening ≡ Some o → Agrees g o)
        → (out ≡ true → (b.opening ≡ None → ⊥) × (b.waiting ≡ None → ⊥)) → (found : ℕ) → AreComparedUpTo g found holding s → AreComparedUpTo g found (holding + 1) suspended_state
    suspended_compared agrees outs found before =
        let unreads = unreads_suspended holding out s.holdings.table t.table u.table (unreads_released holding s.holdings.table t.table releases table) suspends in
        compared_next g found holding s suspended_state before suspended_requests refl unreads
        (λ h c is there. by h c is there unreads)
      where
        by : (h : Holding) (c : Begun) → IsHolding u.table holding h → slice_get s.begun holding ≡ Some c → Unreads holding s.holdings.table u.table → IsCompared g suspended_state holding h c
        by h c is there unreads =
            let y = suspends.1.0 in
            let now : record y { suspended = out } ≡ h = one_there (slice_get u.table.holdings holding) (record y { suspended = out }) h
            (ap (λ (l : List Holding). slice_get l holding) suspends.1.1.holdings ∙ get_set t.table.holdings holding (record y { suspended = out }) y suspends.1.1.is) is in
            compared_kept g found holding s suspended_state before suspended_requests refl unreads h y c valid (held_before y suspends.1.1.is) there
            (ap (λ (x : Holding). x.server) (sym now)) (ap (λ (x : Holding). x.share) (sym now)) (λ l. ap (λ (x : Holding). x.left) now ∙ l)
            (λ left o e. agrees y suspends.1.1.is (ap (λ (x : Holding). x.left) now ∙ left) o (ap (λ (x : Begun). x.opening) (begun_same c there) ∙ e))
            (λ left suspended. (
            let k = outs (ap (λ (x : Holding). x.suspended) now ∙ suspended) in
            ((λ e. k.0 (ap (λ (x : Begun). x.opening) (begun_same c there) ∙ e)), (λ e. k.1 (ap (λ (x : Begun). x.waiting) (begun_same c there) ∙ e)))))

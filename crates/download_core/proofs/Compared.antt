-- The header of a share came while a file is read.
use Rattle.std.proofs.Common.{◌≡◌, ℕ, ◌⊎◌, inl, inr, true, false, List, Option, Some, None, refl, sym, ap, subst, ◌∙◌, true≢false}
use Rattle.std.specs.Prelude.{slice_get, slice_set}
use Rattle.std.proofs.lemmas.Bool.{cases_eq}
use Rattle.lemmas.proofs.Positions.{get_set, get_other, set_cases}
use Rattle.lemmas.proofs.Options.{one_there}
use Rattle.request_record.specs.Record.{RequestsState}
use Rattle.share_reading.specs.declared.opening.Opening.{Opening}
use Rattle.download_shares.specs.HoldingState.{HoldingsState}
use Rattle.download_shares.specs.Table.{IsHolding}
use Rattle.download_shares.specs.declared.holding.Holding.{Holding}
use Rattle.download_shares.proofs.Records.{AskedAlike}
use Rattle.download_shares.specs.Known.{AreBegun, IsNextAt}
use Rattle.download_shares.specs.BeginningMoves.{Awaits, Compares, WaitsAt, rested}
use Rattle.download_shares.specs.Opening.{IsOut}
use Rattle.download_shares.specs.BeginningState.{BeginningsState}
use Rattle.download_shares.specs.declared.begun.Begun.{Begun}
use Rattle.download_shares.proofs.Falling.{Falls, falls_none, falls_one, retired_left}
use Rattle.download_file.specs.Answers.{IsRead}
use Rattle.download_file.specs.State.{IsHeard}
use Rattle.download_core.specs.Reading.{AreAwaited, AreBusy, AreKept, AreLinked, IsGone, IsReadNow}
use Rattle.download_core.specs.ReadingState.{ReadingState}
use Rattle.download_core.specs.ReadingSteps.{IsTold}
use Rattle.download_core.proofs.Awaited.{Stays, asked_stays, fallen_awaits, out_stays}
use Rattle.download_core.proofs.Busy.{busy_file, still_out}
use Rattle.download_core.proofs.Fallen.{fallen_kept, fallen_live}
use Rattle.download_core.proofs.Follows.{Follows, KeepsReaders, follows_falls, follows_suspended, readers_rested}
use Rattle.download_core.proofs.Started.{held_at}

-- the opening that waits
pub awaited : (s : BeginningsState) (holding position : ℕ) → AreBegun s → WaitsAt s holding position → (o : Opening) × Awaits s holding position o
awaited s holding position known waits =
    let h = held_at s holding waits.0 known waits.1 in
    by h.0 h.1 waits.0.opening refl ((known.each holding h.0 waits.0 h.1 waits.1).waits position waits.2)
  where
    by : (h : Holding) → IsHolding s.holdings.table holding h → (p : Option Opening) → waits.0.opening ≡ p → IsNextAt s.holdings.requests.entries h waits.0.opening position → (o : Opening) × Awaits s holding position o
    by h is None e next = absurd (subst (λ (p : Option Opening). IsNextAt s.holdings.requests.entries h p position) e next)
    by h is (Some o) e next = (o, record { held = h; is = is; begun = waits.0; there = waits.1; of_opening = e; waiting = waits.2 })

module _ (s t : BeginningsState) (r : ReadingState) (holding : ℕ) (told : IsTold (Some holding) s r holding) (done : Compares holding s t) (requests : t.holdings.requests ≡ s.holdings.requests) (known : AreBegun t) where
  abbrev pub old : Begun
  old = done.rested_first.1.begun

  begun_is : t.begun ≡ slice_set s.begun holding (rested old)
  begun_is = done.begun ∙ ap (λ (x : BeginningsState). x.begun) done.rested_first.1.is

  readers : KeepsReaders s.begun t.begun
  readers = readers_rested holding old s.begun t.begun done.rested_first.1.there begun_is

  stays : Stays s.holdings.requests.entries t.holdings.requests.entries
  stays i q e = ap (λ (x : RequestsState). slice_get x.entries i) requests ∙ e

  alike : AskedAlike s.holdings.requests.entries t.holdings.requests.entries
  alike i n e = record { request = n; there = sym (ap (λ (x : RequestsState). slice_get x.entries i) requests) ∙ e; same = refl; of_server = refl }

  follows : Follows s.holdings.table t.holdings.table
  follows = elim done.settles [
    | inl gone ↦ follows_falls s.holdings.table t.holdings.table (subst (λ (x : HoldingsState). Falls s.holdings.table x.table) (sym gone.3) (falls_none s.holdings.table))
    | inr (inl blamed) ↦ follows_falls s.holdings.table t.holdings.table (falls_one holding s.holdings.table t.holdings.table blamed.1.retired)
    | inr (inr chosen) ↦ follows_suspended holding false s.holdings.table t.holdings.table chosen.0
  ]

  answers : IsRead t.holdings.requests.entries r.file
  answers = subst (λ (x : RequestsState). IsRead x.entries r.file) (sym requests) told.linked.kept.answers

  pub compared_kept : AreKept t r
  compared_kept = fallen_kept s t r told.linked known follows readers alike answers

  pub compared_live : (q : ℕ) → IsHeard r.file q → IsReadNow t r q ⊎ IsGone t r q
  compared_live = fallen_live s t r told.linked known follows readers alike answers

  compared_awaits : AreAwaited told.begun.reader t r
  compared_awaits = fallen_awaits s t r told.linked.kept follows told.begun.reader told.begun.reader told.awaits
      (λ x g w k a. asked_stays s.holdings.requests.entries t.holdings.requests.entries g w stays a)
      (λ x g w k other. (other, λ a o. out_stays s.holdings.requests.entries t.holdings.requests.entries w.position stays o))

  -- another one is as it was
  other_out : (x : ℕ) → (x ≡ holding → ⊥) → IsOut s x → IsOut t x
  other_out x other out = still_out s t x (ap (λ (l : List Begun). slice_get l x) begun_is ∙ get_other s.begun holding x (rested old) other) stays out

  busy_gone : (x : ℕ) (g : Holding) → IsHolding t.holdings.table x g → g.left ≡ true → g.suspended ≡ true → (x ≡ holding → ⊥)
      → ((h : Holding) → IsHolding s.holdings.table x h → h.left ≡ true → h.suspended ≡ true → IsOut t x) → IsOut t x
  busy_gone x g is left busy other from = elim done.settles [
    | inl gone ↦ from g (sym (ap (λ (y : HoldingsState). slice_get y.table.holdings x) gone.3) ∙ is) left busy
    | inr (inl blamed) ↦ (
        let w = (falls_one holding s.holdings.table t.holdings.table blamed.1.retired).back x g is in
        from w.held w.is (w.left left) (sym w.suspended ∙ busy))
    | inr (inr chosen) ↦ elim (set_cases s.holdings.table.holdings holding x (record chosen.0.1.0 { suspended = false }) g (sym (ap (λ (l : List Holding). slice_get l x) chosen.0.1.1.holdings) ∙ is)) [
      | inl here ↦ absurd (other here.0)
      | inr was ↦ from g was.1 left busy
    ]
  ]

  -- it may be chosen, or is not left
  quiet_now : (g : Holding) → IsHolding t.holdings.table holding g → g.left ≡ true → g.suspended ≡ true → ⊥
  quiet_now g is left busy = elim done.settles [
    | inl gone ↦ true≢false (sym left ∙ ap (λ (y : Holding). y.left) (one_there (slice_get s.holdings.table.holdings holding) g gone.0 (sym (ap (λ (y : HoldingsState). slice_get y.table.holdings holding) gone.3) ∙ is) gone.1) ∙ gone.2)
    | inr (inl blamed) ↦ retired_left holding s.holdings.table t.holdings.table g blamed.1.retired is left
    | inr (inr chosen) ↦ (
        let now = ap (λ (l : List Holding). slice_get l holding) chosen.0.1.1.holdings ∙ get_set s.holdings.table.holdings holding (record chosen.0.1.0 { suspended = false }) chosen.0.1.0 chosen.0.1.1.is in
        let same : record chosen.0.1.0 { suspended = false } ≡ g = one_there (slice_get t.holdings.table.holdings holding) (record chosen.0.1.0 { suspended = false }) g now is in
        true≢false (sym busy ∙ sym (ap (λ (y : Holding). y.suspended) same)))
  ]

  compared_busy : AreBusy None t r
  compared_busy = record {
    suspended = λ x g is left busy none. suspended x g is left busy (cases_eq x holding);
    taken = λ share x n is reads. (let m = follows.reading share x n is reads in told.busy.taken share x m.0 m.1 m.2);
  }
    where
      suspended : (x : ℕ) (g : Holding) → IsHolding t.holdings.table x g → g.left ≡ true → g.suspended ≡ true → (x ≡ holding) ⊎ (x ≡ holding → ⊥) → IsOut t x
      suspended x g is left busy (inl here) = absurd (quiet_now g (subst (λ p. IsHolding t.holdings.table p g) here is) left busy)
      suspended x g is left busy (inr other) =
          busy_gone x g is left busy other
          (λ h was now choice. other_out x other (told.busy.suspended x h was now choice (λ e. (let one : holding ≡ x = cc in other (sym one)))))

  module _ (q : ReadingState) (linked : AreLinked t q) (same : q.holdings ≡ r.holdings) (awaits : (but : Option ℕ) → AreAwaited but t r → AreAwaited but t q) where
    pub compared_told : IsTold None t q holding
    compared_told = record {
      begun = rested old;
      there = ap (λ (l : List Begun). slice_get l holding) begun_is ∙ get_set s.begun holding (rested old) old done.rested_first.1.there;
      linked = linked;
      awaits = subst (λ (b : Begun). AreAwaited b.reader t q) (one_there (slice_get s.begun holding) told.begun old told.there done.rested_first.1.there) (awaits told.begun.reader compared_awaits);
      busy = busy_file None t r q same compared_busy;
    }

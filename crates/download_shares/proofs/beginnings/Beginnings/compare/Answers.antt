use Rattle.std.proofs.Common.{◌≡◌, ◌∙◌, ◌<◌, inl, inr, List, [], ◌∷◌, ◌++◌, length, get_or, Some, false, refl, sym, subst, ap, arith}
use Rattle.std.specs.Prelude.{slice_get}
use Rattle.std.proofs.lemmas.Option.{get_or_from_slice_get, slice_get-get_or, slice_get_within}
use Rattle.share_reading.specs.declared.opening.Opening.{Opening}
use Rattle.lemmas.proofs.Results.{on_ok_then, by_result}
use Rattle.download_shares.specs.HoldingMoves.{Blames}
use Rattle.download_shares.specs.HoldingState.{HoldingsState}
use Rattle.download_shares.specs.Table.{IsHolding, Suspends}
use Rattle.download_shares.specs.declared.holding.Blame.{Blame}
use Rattle.download_shares.specs.declared.holding.Holding.{Holding}
use Rattle.download_shares.specs.Causes.{AddsBlames, IsBeginningFault, IsNumbered, LeadsOn}
use Rattle.download_shares.specs.Reads.{IsAnsweredBy}
use Rattle.download_shares.proofs.Caused.{adds_none, adds_one, blamed_low, fault_of}
use Rattle.download_shares.specs.Known.{AreBegun}
use Rattle.download_shares.specs.BeginningMoves.{GoesOn}
use Rattle.download_shares.specs.BeginningState.{BeginningsState, beginnings_state}
use Rattle.download_shares.proofs.Falling.{falls_one, retired_gone}
use Rattle.download_shares.proofs.Going.{goes_on_from, rested_goes, rested_known}
use Rattle.download_shares.proofs.Knowing.{keeps_same, known_blamed, known_same, shares_suspended}
use Rattle.download_shares.proofs.Opened.{goes_blamed, goes_none}
use Rattle.download_shares.proofs.Fields.{seen_beginnings}
use Rattle.download_shares.proofs.beginnings.Beginnings.compare.Goals as goal

pub returns-then-not-holdings-holding-clause-known : goal.returns-then-not-holdings-holding-clause-known
returns-then-not-holdings-holding-clause-known c = rested_known c.args.self.now c.take_waiting.new.self c.args.holding c.requires.known c.take_waiting.ensures.rests

pub returns-then-not-holdings-holding-clause-goes : goal.returns-then-not-holdings-holding-clause-goes
returns-then-not-holdings-holding-clause-goes c = rested_goes c.args.self.now c.take_waiting.new.self c.args.holding c.requires.known c.take_waiting.ensures.rests

pub returns-then-not-holdings-holding-clause-compares : goal.returns-then-not-holdings-holding-clause-compares
returns-then-not-holdings-holding-clause-compares c =
    let s = c.args.self.now in
    let w = c.take_waiting.new.self in
    let a = c.requires.awaits.1 in
    let list : c.holdings.result.now ≡ w.holdings.table.holdings = c.holdings.ensures.value ∙ ap (λ (x : BeginningsState). x.holdings.table.holdings) c.self.view_is in
    let d : Holding = record { server = 0; share = 0; left = false; suspended = false } in
    let same = ap (λ (x : BeginningsState). x.holdings.table.holdings) c.take_waiting.ensures.rests.is in
    let lt : c.args.holding < length w.holdings.table.holdings = (let k = slice_get_within s.holdings.table.holdings c.args.holding a.held a.is in let e = ap length same in omega (arith, k, e)) in
    let at : slice_get w.holdings.table.holdings c.args.holding ≡ Some (get_or w.holdings.table.holdings c.args.holding d) = slice_get-get_or w.holdings.table.holdings c.args.holding d lt in
    let gone : (get_or w.holdings.table.holdings c.args.holding d).left ≡ false = sym (ap (λ (l : List Holding). (get_or l c.args.holding d).left) list) ∙ c.if-not-holdings-holding.true in
    record {
      rested_first = (w, c.take_waiting.ensures.rests);
      begun = refl;
      settles = inl (get_or w.holdings.table.holdings c.args.holding d, sym (ap (λ (l : List Holding). slice_get l c.args.holding) same) ∙ at, gone, ap (λ (x : BeginningsState). x.holdings) c.take_waiting.ensures.rests.is);
    }

module _ (c : goal.After-blame) where
  abbrev pub w0 : BeginningsState
  w0 = seen_beginnings c.self.inside

  abbrev pub u0 : BeginningsState
  u0 = beginnings_state c.blame.new.self c.self.inside.begun.items

pub returns-in-Some-compared-clause-known : goal.returns-in-Some-compared-clause-known
returns-in-Some-compared-clause-known c =
    on_ok_then c.blame.result _ (AreBegun (u0 c)) c.blame.ensures.ok
    (λ b. known_blamed (w0 c) (u0 c) c.args.holding c.in-Some-compared.check (subst AreBegun (sym c.self.view_is) (rested_known c.args.self.now c.take_waiting.new.self c.args.holding c.requires.known c.take_waiting.ensures.rests)) b (falls_one c.args.holding (w0 c).holdings.table (u0 c).holdings.table b.retired) c.blame.ensures.right refl)

pub returns-in-Some-compared-clause-compares : goal.returns-in-Some-compared-clause-compares
returns-in-Some-compared-clause-compares c =
    on_ok_then c.blame.result _ _ c.blame.ensures.ok
    (λ b. record {
      rested_first = (c.take_waiting.new.self, c.take_waiting.ensures.rests);
      begun = ap (λ (x : BeginningsState). x.begun) c.self.view_is;
      settles = inr (inl (c.in-Some-compared.check, subst (λ (h : HoldingsState). Blames c.args.holding c.in-Some-compared.check h c.blame.new.self) (ap (λ (x : BeginningsState). x.holdings) c.self.view_is ∙ ap (λ (x : BeginningsState). x.holdings) c.take_waiting.ensures.rests.is) b));
    })

pub returns-in-Some-compared-clause-goes : goal.returns-in-Some-compared-clause-goes
returns-in-Some-compared-clause-goes c =
    goes_on_from c.args.self.now c.take_waiting.new.self c.args.holding c.requires.known c.take_waiting.ensures.rests (u0 c)
    (subst (λ (x : BeginningsState). GoesOn x (u0 c)) c.self.view_is
    (by_result c.blame.result _ _ (GoesOn (w0 c) (u0 c)) c.blame.ensures.ok c.blame.ensures.err
    (λ b. goes_blamed (w0 c) (u0 c) c.args.holding c.in-Some-compared.check b)
    (λ e. goes_none (w0 c) (u0 c) (ap (λ (x : HoldingsState). x.requests) e) (ap (λ (x : HoldingsState). x.blamed) e))))

pub returns-in-None-clause-known : goal.returns-in-None-clause-known
returns-in-None-clause-known c =
    let w : BeginningsState = seen_beginnings c.self.inside in
    let u : BeginningsState = beginnings_state c.suspend.new.self c.self.inside.begun.items in
    known_same w u (subst AreBegun (sym c.self.view_is) (rested_known c.args.self.now c.take_waiting.new.self c.args.holding c.requires.known c.take_waiting.ensures.rests)) (ap (λ (x : HoldingsState). x.requests) c.suspend.ensures.others)
    (shares_suspended false c.args.holding w.holdings.table u.holdings.table c.suspend.ensures.suspends) c.suspend.ensures.right refl (keeps_same w.begun u.begun refl)

pub returns-in-None-clause-compares : goal.returns-in-None-clause-compares
returns-in-None-clause-compares c = record {
  rested_first = (c.take_waiting.new.self, c.take_waiting.ensures.rests);
  begun = ap (λ (x : BeginningsState). x.begun) c.self.view_is;
  settles = inr (inr (subst (λ (h : HoldingsState). Suspends false c.args.holding h.table c.suspend.new.self.table × (c.suspend.new.self ≡ record h { table = c.suspend.new.self.table })) (ap (λ (x : BeginningsState). x.holdings) c.self.view_is ∙ ap (λ (x : BeginningsState). x.holdings) c.take_waiting.ensures.rests.is) (c.suspend.ensures.suspends, c.suspend.ensures.others)));
}

pub returns-in-None-clause-goes : goal.returns-in-None-clause-goes
returns-in-None-clause-goes c =
    let w : BeginningsState = seen_beginnings c.self.inside in
    let u : BeginningsState = beginnings_state c.suspend.new.self c.self.inside.begun.items in
    goes_on_from c.args.self.now c.take_waiting.new.self c.args.holding c.requires.known c.take_waiting.ensures.rests u
    (subst (λ (x : BeginningsState). GoesOn x u) c.self.view_is (goes_none w u (ap (λ (x : HoldingsState). x.requests) c.suspend.ensures.others) (ap (λ (x : HoldingsState). x.blamed) c.suspend.ensures.others)))

pub returns-in-Some-compared-clause-causes : goal.returns-in-Some-compared-clause-causes
returns-in-Some-compared-clause-causes c =
    let s = c.args.self.now in
    let P : Blame → Type 0 = IsBeginningFault c.args.cap.now c.args.geometry.now s.holdings.requests.entries in
    let same : c.self.inside.holdings ≡ s.holdings = ap (λ (x : BeginningsState). x.holdings) c.self.view_is ∙ ap (λ (x : BeginningsState). x.holdings) c.take_waiting.ensures.rests.is in
    let a = c.requires.answered in
    by_result c.blame.result _ _ (AddsBlames P s.holdings.blamed c.blame.new.self.blamed) c.blame.ensures.ok c.blame.ensures.err
    (λ b. adds_one P s.holdings.blamed c.blame.new.self.blamed (record { server = b.held.server; share = b.held.share; check = c.in-Some-compared.check })
    (b.blamed ∙ ap (λ (h : HoldingsState). h.blamed ++ record { server = b.held.server; share = b.held.share; check = c.in-Some-compared.check } ∷ []) same)
    (fault_of s c.args.holding c.args.position c.in-Some.opening b.held a.0 c.requires.known c.requires.awaits c.in-Some.ensures.opening
    (subst (λ (h : HoldingsState). IsHolding h.table c.args.holding b.held) same b.is) a.1 c.args.cap.now c.args.geometry.now c.in-Some-compared.check
    (c.in-Some-compared.ensures.fails a.0 (subst (λ (h : HoldingsState). IsAnsweredBy h.requests.entries c.args.position a.0) (sym (ap (λ (x : BeginningsState). x.holdings) c.take_waiting.ensures.rests.is)) a.1))))
    (λ e. adds_none P s.holdings.blamed c.blame.new.self.blamed (ap (λ (h : HoldingsState). h.blamed) e ∙ ap (λ (h : HoldingsState). h.blamed) same))

pub returns-in-None-clause-causes : goal.returns-in-None-clause-causes
returns-in-None-clause-causes c =
    let s = c.args.self.now in
    let same : c.self.inside.holdings ≡ s.holdings = ap (λ (x : BeginningsState). x.holdings) c.self.view_is ∙ ap (λ (x : BeginningsState). x.holdings) c.take_waiting.ensures.rests.is in
    adds_none (IsBeginningFault c.args.cap.now c.args.geometry.now s.holdings.requests.entries) s.holdings.blamed c.suspend.new.self.blamed
    (ap (λ (h : HoldingsState). h.blamed) c.suspend.ensures.others ∙ ap (λ (h : HoldingsState). h.blamed) same)

pub returns-then-not-holdings-holding-clause-agrees : goal.returns-then-not-holdings-holding-clause-agrees
returns-then-not-holdings-holding-clause-agrees c o bytes awaits answered =
    let w = c.take_waiting.new.self in
    let list : c.holdings.result.now ≡ w.holdings.table.holdings = c.holdings.ensures.value ∙ ap (λ (x : BeginningsState). x.holdings.table.holdings) c.self.view_is in
    inl (λ h at. (
    let is = get_or_from_slice_get w.holdings.table.holdings c.args.holding h (record { server = 0; share = 0; left = false; suspended = false }) at in
    ap (λ (x : Holding). x.left) (sym is) ∙ sym (ap (λ (l : List Holding). (get_or l c.args.holding (record { server = 0; share = 0; left = false; suspended = false })).left) list) ∙ c.if-not-holdings-holding.true))

pub returns-in-Some-compared-clause-agrees : goal.returns-in-Some-compared-clause-agrees
returns-in-Some-compared-clause-agrees c =
    on_ok_then c.blame.result _ _ c.blame.ensures.ok
    (λ b o bytes awaits answered. inl (λ h at. retired_gone c.args.holding (w0 c).holdings.table (u0 c).holdings.table h b.retired at))

pub returns-in-None-clause-agrees : goal.returns-in-None-clause-agrees
returns-in-None-clause-agrees c o bytes awaits answered =
    let s = c.args.self.now in
    let e : Some c.in-Some.opening ≡ Some o = c.in-Some.ensures.opening awaits.begun awaits.there ∙ awaits.of_opening in
    let same : c.in-Some.opening ≡ o = cc in
    inr (subst (λ (p : Opening). LeadsOn c.args.cap.now c.args.geometry.now p bytes) same
    (c.in-None.ensures.leads bytes (subst (λ (h : HoldingsState). IsAnsweredBy h.requests.entries c.args.position bytes) (sym (ap (λ (x : BeginningsState). x.holdings) c.take_waiting.ensures.rests.is)) answered)))

-- the numbers of the shares that are blamed
pub returns-then-not-holdings-holding-clause-low : goal.returns-then-not-holdings-holding-clause-low
returns-then-not-holdings-holding-clause-low c =
    let s = c.args.self.now in
    adds_none (IsNumbered s) s.holdings.blamed c.take_waiting.new.self.holdings.blamed (ap (λ (x : BeginningsState). x.holdings.blamed) c.take_waiting.ensures.rests.is)

pub returns-in-Some-compared-clause-low : goal.returns-in-Some-compared-clause-low
returns-in-Some-compared-clause-low c =
    let s = c.args.self.now in
    let w = c.self.inside.holdings in
    let u = c.blame.new.self in
    let same : w ≡ s.holdings = ap (λ (x : BeginningsState). x.holdings) c.self.view_is ∙ ap (λ (x : BeginningsState). x.holdings) c.take_waiting.ensures.rests.is in
    subst (λ (l : List Blame). AddsBlames (IsNumbered s) l u.blamed) (ap (λ (h : HoldingsState). h.blamed) same)
    (by_result c.blame.result _ _ (AddsBlames (IsNumbered s) w.blamed u.blamed) c.blame.ensures.ok c.blame.ensures.err
    (λ b. blamed_low (length s.holdings.table.numbers) w u c.args.holding c.in-Some-compared.check c.holdings.ensures.table (ap (λ (h : HoldingsState). length h.table.numbers) same) b)
    (λ e. adds_none (IsNumbered s) w.blamed u.blamed (ap (λ (h : HoldingsState). h.blamed) e)))

pub returns-in-None-clause-low : goal.returns-in-None-clause-low
returns-in-None-clause-low c =
    let s = c.args.self.now in
    let same : c.self.inside.holdings ≡ s.holdings = ap (λ (x : BeginningsState). x.holdings) c.self.view_is ∙ ap (λ (x : BeginningsState). x.holdings) c.take_waiting.ensures.rests.is in
    adds_none (IsNumbered s) s.holdings.blamed c.suspend.new.self.blamed
    (ap (λ (h : HoldingsState). h.blamed) c.suspend.ensures.others ∙ ap (λ (h : HoldingsState). h.blamed) same)

use Rattle.std.proofs.Common.{◌≡◌, ◌∙◌, ◌<◌, List, length, get_or, Some, true, false, true≢false, refl, sym, subst, ap}
use Rattle.std.specs.Prelude.{slice_get}
use Rattle.share_reading.specs.Opening.{Agrees}
use Rattle.share_reading.specs.declared.opening.Opening.{Opening}
use Rattle.download_shares.specs.HoldingState.{HoldingsState}
use Rattle.download_shares.specs.declared.holding.Holding.{Holding}
use Rattle.share_verify.specs.declared.check.Check.TheVariants as checks
use Rattle.download_shares.specs.declared.holding.Blame.{Blame}
use Rattle.download_shares.specs.Causes.{AddsBlames, IsNumbered, IsOtherHeader}
use Rattle.download_shares.proofs.Caused.{adds_none, blamed_low}
use Rattle.download_shares.specs.Known.{AreBegun}
use Rattle.download_shares.specs.BeginningMoves.{GoesOn}
use Rattle.download_shares.specs.Opening.{AreComparedUpTo}
use Rattle.download_shares.specs.BeginningState.{BeginningsState, IsBegun, beginnings_state}
use Rattle.download_shares.proofs.Accepting.{refused_causes, refused_compared, refused_goes, refused_known, released_goes, released_count, released_known, released_requests, released_blamed, suspended_compared, suspended_goes, suspended_known, unopened_compared}
use Rattle.download_shares.proofs.Opened.{goes_from, goes_none}
use Rattle.download_shares.proofs.beginnings.Beginnings.compare_one.Goals.{else-left-via-then-left+else-differs, else-left-via-else-left}
use Rattle.download_shares.proofs.beginnings.Beginnings.compare_one.Goals as goal
use Rattle.std.proofs.lemmas.Option.{get_or_from_slice_get}
use Rattle.lemmas.proofs.Positions.{got}
use Rattle.lemmas.proofs.Results.{on_ok_then, by_result}
use Rattle.download_shares.proofs.Fields.{seen_beginnings}

pub returns-in_default-clause-compared : goal.returns-in_default-clause-compared
returns-in_default-clause-compared c found before =
    let s : BeginningsState = seen_beginnings c.self.inside in
    let known : AreBegun s = subst AreBegun (sym c.self.view_is) c.requires.known in
    let b = c.index.result.now in
    let at : IsBegun s c.args.holding b = got s.begun c.args.holding b (subst (λ (x : BeginningsState). c.args.holding < length x.begun) (sym c.self.view_is) c.requires.there) c.index.ensures in
    unopened_compared c.args.geometry.now c.args.holding c.requires.valid s known b at c.release.new.self c.release.ensures.releases c.release.ensures.others c.release.ensures.right c.holdings.ensures.table c.in_default.is found (subst (λ (x : BeginningsState). AreComparedUpTo c.args.geometry.now found c.args.holding x) (sym c.self.view_is) before)

pub returns-in_default-clause-known : goal.returns-in_default-clause-known
returns-in_default-clause-known c =
    let s : BeginningsState = seen_beginnings c.self.inside in
    let known : AreBegun s = subst AreBegun (sym c.self.view_is) c.requires.known in
    let b = c.index.result.now in
    let at : IsBegun s c.args.holding b = got s.begun c.args.holding b (subst (λ (x : BeginningsState). c.args.holding < length x.begun) (sym c.self.view_is) c.requires.there) c.index.ensures in
    released_known c.args.geometry.now c.args.holding c.requires.valid s known b at c.release.new.self c.release.ensures.releases c.release.ensures.others c.release.ensures.right c.holdings.ensures.table

pub returns-in_default-clause-goes : goal.returns-in_default-clause-goes
returns-in_default-clause-goes c =
    let s : BeginningsState = seen_beginnings c.self.inside in
    let known : AreBegun s = subst AreBegun (sym c.self.view_is) c.requires.known in
    let b = c.index.result.now in
    let at : IsBegun s c.args.holding b = got s.begun c.args.holding b (subst (λ (x : BeginningsState). c.args.holding < length x.begun) (sym c.self.view_is) c.requires.there) c.index.ensures in
    subst (λ (x : BeginningsState). GoesOn x (beginnings_state c.release.new.self s.begun)) c.self.view_is (released_goes c.args.geometry.now c.args.holding c.requires.valid s known b at c.release.new.self c.release.ensures.releases c.release.ensures.others c.release.ensures.right c.holdings.ensures.table)

pub returns-then-differs-clause-compared : goal.returns-then-differs-clause-compared
returns-then-differs-clause-compared c found before =
    let s : BeginningsState = seen_beginnings c.self.inside in
    let known : AreBegun s = subst AreBegun (sym c.self.view_is) c.requires.known in
    let b = c.index.result.now in
    let at : IsBegun s c.args.holding b = got s.begun c.args.holding b (subst (λ (x : BeginningsState). c.args.holding < length x.begun) (sym c.self.view_is) c.requires.there) c.index.ensures in
    on_ok_then c.blame.result _ _ c.blame.ensures.ok (λ k. refused_compared c.args.geometry.now c.args.holding c.requires.valid s known b at c.release.new.self c.release.ensures.releases c.release.ensures.others c.release.ensures.right c.holdings.ensures.table checks.Layout c.blame.new.self k c.blame.ensures.right found (subst (λ (x : BeginningsState). AreComparedUpTo c.args.geometry.now found c.args.holding x) (sym c.self.view_is) before))

pub returns-then-differs-clause-known : goal.returns-then-differs-clause-known
returns-then-differs-clause-known c =
    let s : BeginningsState = seen_beginnings c.self.inside in
    let known : AreBegun s = subst AreBegun (sym c.self.view_is) c.requires.known in
    let b = c.index.result.now in
    let at : IsBegun s c.args.holding b = got s.begun c.args.holding b (subst (λ (x : BeginningsState). c.args.holding < length x.begun) (sym c.self.view_is) c.requires.there) c.index.ensures in
    on_ok_then c.blame.result _ _ c.blame.ensures.ok (λ k. refused_known c.args.geometry.now c.args.holding c.requires.valid s known b at c.release.new.self c.release.ensures.releases c.release.ensures.others c.release.ensures.right c.holdings.ensures.table checks.Layout c.blame.new.self k c.blame.ensures.right)

pub returns-then-differs-clause-goes : goal.returns-then-differs-clause-goes
returns-then-differs-clause-goes c =
    let s : BeginningsState = seen_beginnings c.self.inside in
    let known : AreBegun s = subst AreBegun (sym c.self.view_is) c.requires.known in
    let b = c.index.result.now in
    let at : IsBegun s c.args.holding b = got s.begun c.args.holding b (subst (λ (x : BeginningsState). c.args.holding < length x.begun) (sym c.self.view_is) c.requires.there) c.index.ensures in
    let u : BeginningsState = beginnings_state c.blame.new.self s.begun in
    let t : BeginningsState = beginnings_state c.release.new.self s.begun in
    subst (λ (x : BeginningsState). GoesOn x u) c.self.view_is
    (by_result c.blame.result _ _ (GoesOn s u) c.blame.ensures.ok c.blame.ensures.err
    (λ k. refused_goes c.args.geometry.now c.args.holding c.requires.valid s known b at c.release.new.self c.release.ensures.releases c.release.ensures.others c.release.ensures.right c.holdings.ensures.table checks.Layout c.blame.new.self k c.blame.ensures.right)
    (λ e. goes_from s t u (released_requests c.args.geometry.now c.args.holding c.requires.valid s known b at c.release.new.self c.release.ensures.releases c.release.ensures.others c.release.ensures.right c.holdings.ensures.table) (released_blamed c.args.geometry.now c.args.holding c.requires.valid s known b at c.release.new.self c.release.ensures.releases c.release.ensures.others c.release.ensures.right c.holdings.ensures.table) (goes_none t u (ap (λ (x : HoldingsState). x.requests) e) (ap (λ (x : HoldingsState). x.blamed) e))))

-- what was read of a share that is left agrees
agrees : (c : goal.After-suspend) → (h : Holding) → slice_get c.release.new.self.table.holdings c.args.holding ≡ Some h → h.left ≡ true → (o : Opening) → c.index.result.now.opening ≡ Some o → Agrees c.args.geometry.now o
agrees c h is left o e = elim c.else-left.branch [
  | else-left-via-then-left+else-differs w ↦ (
      let two : Some c.in-Some.opening ≡ Some o = sym c.in-Some.is ∙ e in
      let one : c.in-Some.opening ≡ o = cc in
      subst (Agrees c.args.geometry.now) one (w.differs.ensures.same w.if-differs.false))
  | else-left-via-else-left w ↦ (
      let d : Holding = record { server = 0; share = 0; left = false; suspended = false } in
      let same : get_or c.release.new.self.table.holdings c.args.holding d ≡ h = get_or_from_slice_get c.release.new.self.table.holdings c.args.holding h d is in
      absurd (true≢false (sym left ∙ sym (ap (λ (x : Holding). x.left) same) ∙ sym (ap (λ (l : List Holding). (get_or l c.args.holding d).left) c.holdings.ensures.value) ∙ w.if-left.false)))
]

pub returns-clause-compared : goal.returns-clause-compared
returns-clause-compared c found before =
    let s : BeginningsState = seen_beginnings c.self.inside in
    let known : AreBegun s = subst AreBegun (sym c.self.view_is) c.requires.known in
    let b = c.index.result.now in
    let at : IsBegun s c.args.holding b = got s.begun c.args.holding b (subst (λ (x : BeginningsState). c.args.holding < length x.begun) (sym c.self.view_is) c.requires.there) c.index.ensures in
    suspended_compared c.args.geometry.now c.args.holding c.requires.valid s known b at c.release.new.self c.release.ensures.releases c.release.ensures.others c.release.ensures.right c.holdings.ensures.table c.is_header_out.result c.suspend.new.self c.suspend.ensures.suspends c.suspend.ensures.others c.suspend.ensures.right
    (λ h is left o e. agrees c h is left o e)
    (λ e. (c.is_header_out.ensures.some e, c.is_header_out.ensures.waits e)) found (subst (λ (x : BeginningsState). AreComparedUpTo c.args.geometry.now found c.args.holding x) (sym c.self.view_is) before)

pub returns-clause-known : goal.returns-clause-known
returns-clause-known c =
    let s : BeginningsState = seen_beginnings c.self.inside in
    let known : AreBegun s = subst AreBegun (sym c.self.view_is) c.requires.known in
    let b = c.index.result.now in
    let at : IsBegun s c.args.holding b = got s.begun c.args.holding b (subst (λ (x : BeginningsState). c.args.holding < length x.begun) (sym c.self.view_is) c.requires.there) c.index.ensures in
    suspended_known c.args.geometry.now c.args.holding c.requires.valid s known b at c.release.new.self c.release.ensures.releases c.release.ensures.others c.release.ensures.right c.holdings.ensures.table c.is_header_out.result c.suspend.new.self c.suspend.ensures.suspends c.suspend.ensures.others c.suspend.ensures.right

pub returns-clause-goes : goal.returns-clause-goes
returns-clause-goes c =
    let s : BeginningsState = seen_beginnings c.self.inside in
    let known : AreBegun s = subst AreBegun (sym c.self.view_is) c.requires.known in
    let b = c.index.result.now in
    let at : IsBegun s c.args.holding b = got s.begun c.args.holding b (subst (λ (x : BeginningsState). c.args.holding < length x.begun) (sym c.self.view_is) c.requires.there) c.index.ensures in
    subst (λ (x : BeginningsState). GoesOn x (beginnings_state c.suspend.new.self s.begun)) c.self.view_is (suspended_goes c.args.geometry.now c.args.holding c.requires.valid s known b at c.release.new.self c.release.ensures.releases c.release.ensures.others c.release.ensures.right c.holdings.ensures.table c.is_header_out.result c.suspend.new.self c.suspend.ensures.suspends c.suspend.ensures.others c.suspend.ensures.right)

pub returns-in_default-clause-causes : goal.returns-in_default-clause-causes
returns-in_default-clause-causes c =
    adds_none (IsOtherHeader c.args.geometry.now c.args.self.now.holdings.requests.entries) c.args.self.now.holdings.blamed c.release.new.self.blamed
    (ap (λ (x : HoldingsState). x.blamed) c.release.ensures.others ∙ ap (λ (x : BeginningsState). x.holdings.blamed) c.self.view_is)

pub returns-then-differs-clause-causes : goal.returns-then-differs-clause-causes
returns-then-differs-clause-causes c =
    let s : BeginningsState = seen_beginnings c.self.inside in
    let known : AreBegun s = subst AreBegun (sym c.self.view_is) c.requires.known in
    let b = c.index.result.now in
    let at : IsBegun s c.args.holding b = got s.begun c.args.holding b (subst (λ (x : BeginningsState). c.args.holding < length x.begun) (sym c.self.view_is) c.requires.there) c.index.ensures in
    let blamed = c.blame.new.self.blamed in
    let adds : AddsBlames (IsOtherHeader c.args.geometry.now s.holdings.requests.entries) s.holdings.blamed blamed =
    by_result c.blame.result _ _ (AddsBlames (IsOtherHeader c.args.geometry.now s.holdings.requests.entries) s.holdings.blamed blamed) c.blame.ensures.ok c.blame.ensures.err
    (λ k. refused_causes c.args.geometry.now c.args.holding c.requires.valid s known b at c.release.new.self c.release.ensures.releases c.release.ensures.others c.release.ensures.right c.holdings.ensures.table checks.Layout c.blame.new.self k c.blame.ensures.right
    c.in-Some.opening c.in-Some.is (c.differs.ensures.other c.if-differs.true) refl)
    (λ e. adds_none (IsOtherHeader c.args.geometry.now s.holdings.requests.entries) s.holdings.blamed blamed (ap (λ (x : HoldingsState). x.blamed) e ∙ ap (λ (x : HoldingsState). x.blamed) c.release.ensures.others)) in
    subst (λ (x : BeginningsState). AddsBlames (IsOtherHeader c.args.geometry.now x.holdings.requests.entries) x.holdings.blamed blamed) c.self.view_is adds

pub returns-clause-causes : goal.returns-clause-causes
returns-clause-causes c =
    adds_none (IsOtherHeader c.args.geometry.now c.args.self.now.holdings.requests.entries) c.args.self.now.holdings.blamed c.suspend.new.self.blamed
    (ap (λ (x : HoldingsState). x.blamed) c.suspend.ensures.others ∙ ap (λ (x : HoldingsState). x.blamed) c.release.ensures.others ∙ ap (λ (x : BeginningsState). x.holdings.blamed) c.self.view_is)

-- the numbers of the shares that are blamed
pub returns-in_default-clause-low : goal.returns-in_default-clause-low
returns-in_default-clause-low c =
    adds_none (IsNumbered c.args.self.now) c.args.self.now.holdings.blamed c.release.new.self.blamed
    (ap (λ (x : HoldingsState). x.blamed) c.release.ensures.others ∙ ap (λ (x : BeginningsState). x.holdings.blamed) c.self.view_is)

pub returns-then-differs-clause-low : goal.returns-then-differs-clause-low
returns-then-differs-clause-low c =
    let s = c.args.self.now in
    let t = c.release.new.self in
    let u = c.blame.new.self in
    let still : t.blamed ≡ s.holdings.blamed = ap (λ (x : HoldingsState). x.blamed) c.release.ensures.others ∙ ap (λ (x : BeginningsState). x.holdings.blamed) c.self.view_is in
    let count : length t.table.numbers ≡ length s.holdings.table.numbers =
    released_count c.args.holding c.self.inside.holdings.table t.table c.release.ensures.releases ∙ ap (λ (x : BeginningsState). length x.holdings.table.numbers) c.self.view_is in
    subst (λ (l : List Blame). AddsBlames (IsNumbered s) l u.blamed) still
    (by_result c.blame.result _ _ (AddsBlames (IsNumbered s) t.blamed u.blamed) c.blame.ensures.ok c.blame.ensures.err
    (λ b. blamed_low (length s.holdings.table.numbers) t u c.args.holding checks.Layout c.holdings.ensures.table count b)
    (λ e. adds_none (IsNumbered s) t.blamed u.blamed (ap (λ (h : HoldingsState). h.blamed) e)))

pub returns-clause-low : goal.returns-clause-low
returns-clause-low c =
    adds_none (IsNumbered c.args.self.now) c.args.self.now.holdings.blamed c.suspend.new.self.blamed
    (ap (λ (x : HoldingsState). x.blamed) c.suspend.ensures.others ∙ ap (λ (x : HoldingsState). x.blamed) c.release.ensures.others ∙ ap (λ (x : BeginningsState). x.holdings.blamed) c.self.view_is)

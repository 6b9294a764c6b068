use Rattle.std.proofs.Common.{◌≡◌, ◌∙◌, ℕ, ◌<◌, List, [], ◌∷◌, ◌++◌, length, get_or, Some, false, sym, subst, ap, arith}
use Rattle.std.proofs.lemmas.Option.{slice_get-get_or, slice_get_within}
use Rattle.share_reading.specs.Opening.{Advances}
use Rattle.share_reading.specs.declared.opening.Opening.{Opening}
use Rattle.share_reading.specs.declared.opening.Progress.{Progress}
use Rattle.download_shares.specs.HoldingMoves.{Blames}
use Rattle.download_shares.specs.HoldingState.{HoldingsState}
use Rattle.download_shares.specs.Table.{IsHolding, IsTable}
use Rattle.download_shares.specs.declared.holding.Holding.{Holding}
use Rattle.download_shares.specs.Known.{AreBegun}
use Rattle.download_shares.specs.BeginningMoves.{Awaits, GoesOn, Rests}
use Rattle.request_record.specs.Record.{RequestsState}
use Rattle.download_shares.specs.Reads.{AddsReads, IsAnsweredBy, IsInBeginning}
use Rattle.download_shares.specs.Causes.{AddsBlames, IsNumbered, IsOpeningFault}
use Rattle.download_shares.specs.declared.holding.Blame.{Blame}
use Rattle.request_record.specs.declared.requests.Request.{Request}
use Rattle.cap_text.specs.Cap.{VerifyCapValue}
use Rattle.download_shares.specs.BeginningState.{BeginningsState, IsBegun, beginnings_state}
use Rattle.download_shares.specs.declared.begun.Begun.{Begun}
use Rattle.download_shares.proofs.Going.{block_at, blamed_known, blamed_opening, found, gone_opening, goes_on_from, led_now, next_unasked, nexts_known, nexts_opening, rested_goes, rested_known, rested_requests}
use Rattle.download_shares.proofs.Caused.{adds_none, adds_one, blamed_low, opening_fault, reads_next, reads_none}
use Rattle.download_shares.proofs.Opened.{goes_blamed, goes_next, goes_none}
use Rattle.download_shares.proofs.Fields.{seen_beginnings}
use Rattle.download_shares.proofs.beginnings.Beginnings.go_on.Goals as goal

-- the opening that is awaited is the one that is taken
module _ (s w : BeginningsState) (holding position : ℕ) (o : Opening) (awaits : (p : Opening) × Awaits s holding position p) (is : (b : Begun) → IsBegun s holding b → Some o ≡ b.opening) where
  pub awaits_it : Awaits s holding position o
  awaits_it =
      let a = awaits.1 in
      let e : Some o ≡ Some awaits.0 = is a.begun a.there ∙ a.of_opening in
      let one : awaits.0 ≡ o = cc in
      subst (λ (q : Opening). Awaits s holding position q) one a

answered_still : (s w : BeginningsState) (holding position : ℕ) (known : AreBegun s) (rests : Rests holding s w) (bytes : List ℕ) → IsAnsweredBy s.holdings.requests.entries position bytes → IsAnsweredBy w.holdings.requests.entries position bytes
answered_still s w holding position known rests bytes a = subst (λ (r : RequestsState). IsAnsweredBy r.entries position bytes) (sym (rested_requests s w holding known rests)) a

pub returns-then-not-holdings-holding-clause-known : goal.returns-then-not-holdings-holding-clause-known
returns-then-not-holdings-holding-clause-known c = rested_known c.args.self.now c.take_waiting.new.self c.args.holding c.requires.known c.take_waiting.ensures.rests

pub returns-then-not-holdings-holding-clause-opening : goal.returns-then-not-holdings-holding-clause-opening
returns-then-not-holdings-holding-clause-opening c =
    let s = c.args.self.now in
    let w = c.take_waiting.new.self in
    let a = c.requires.awaits.1 in
    let list : c.holdings.result.now ≡ w.holdings.table.holdings = c.holdings.ensures.value ∙ ap (λ (x : BeginningsState). x.holdings.table.holdings) c.self.view_is in
    let d : Holding = record { server = 0; share = 0; left = false; suspended = false } in
    let same = ap (λ (x : BeginningsState). x.holdings.table.holdings) c.take_waiting.ensures.rests.is in
    let lt : c.args.holding < length w.holdings.table.holdings = (let k = slice_get_within s.holdings.table.holdings c.args.holding a.held a.is in let e = ap length same in omega (arith, k, e)) in
    let at : IsHolding w.holdings.table c.args.holding (get_or w.holdings.table.holdings c.args.holding d) = slice_get-get_or w.holdings.table.holdings c.args.holding d lt in
    let gone : (get_or w.holdings.table.holdings c.args.holding d).left ≡ false = sym (ap (λ (l : List Holding). (get_or l c.args.holding d).left) list) ∙ c.if-not-holdings-holding.true in
    gone_opening s w c.args.holding c.requires.known c.take_waiting.ensures.rests c.requires.opening (get_or w.holdings.table.holdings c.args.holding d)
    (subst (λ (x : BeginningsState). IsTable x.holdings.table) c.self.view_is c.holdings.ensures.table) at gone

pub returns-then-not-holdings-holding-clause-goes : goal.returns-then-not-holdings-holding-clause-goes
returns-then-not-holdings-holding-clause-goes c = rested_goes c.args.self.now c.take_waiting.new.self c.args.holding c.requires.known c.take_waiting.ensures.rests

pub returns-in_err-blame-in-Err-clause-goes : goal.returns-in_err-blame-in-Err-clause-goes
returns-in_err-blame-in-Err-clause-goes c =
    let w : BeginningsState = seen_beginnings c.self.inside in
    let u : BeginningsState = beginnings_state c.blame.new.self c.self.inside.begun.items in
    goes_on_from c.args.self.now c.take_waiting.new.self c.args.holding c.requires.known c.take_waiting.ensures.rests u
    (subst (λ (x : BeginningsState). GoesOn x u) c.self.view_is
    (goes_none w u (ap (λ (x : HoldingsState). x.requests) c.in_err-blame-in-Err.ensures.err) (ap (λ (x : HoldingsState). x.blamed) c.in_err-blame-in-Err.ensures.err)))

pub ask_next-requires-clause-unasked : goal.ask_next-requires-clause-unasked
ask_next-requires-clause-unasked c =
    next_unasked c.args.self.now c.take_waiting.new.self c.args.holding c.requires.known c.take_waiting.ensures.rests c.requires.opening c.in-Some.opening c.args.position
    (awaits_it c.args.self.now c.take_waiting.new.self c.args.holding c.args.position c.in-Some.opening c.requires.awaits (λ b is. sym c.in-Some.is ∙ c.take_waiting.ensures.opening b is))
    c.requires.answered.0 c.requires.answered.1 c.args.cap.now c.in-Ok-Next.next
    (subst (λ (p : Progress). Advances c.args.cap.now c.in-Some.opening c.requires.answered.0 p) c.in-Ok-Next.field-0-is (c.in-Ok-Next.ensures.taken c.requires.answered.0 (answered_still c.args.self.now c.take_waiting.new.self c.args.holding c.args.position c.requires.known c.take_waiting.ensures.rests c.requires.answered.0 c.requires.answered.1)))

pub returns-in_err-ask_next-in-Ok-Next-clause-goes : goal.returns-in_err-ask_next-in-Ok-Next-clause-goes
returns-in_err-ask_next-in-Ok-Next-clause-goes c =
    goes_on_from c.args.self.now c.take_waiting.new.self c.args.holding c.requires.known c.take_waiting.ensures.rests c.ask_next.new.self
    (goes_none c.take_waiting.new.self c.ask_next.new.self (ap (λ (x : BeginningsState). x.holdings.requests) c.in_err-ask_next-in-Ok-Next.ensures.err) (ap (λ (x : BeginningsState). x.holdings.blamed) c.in_err-ask_next-in-Ok-Next.ensures.err))

pub returns-in_ok-blame-in-Err-clause-known : goal.returns-in_ok-blame-in-Err-clause-known
returns-in_ok-blame-in-Err-clause-known c =
    let u : BeginningsState = beginnings_state c.blame.new.self c.self.inside.begun.items in
    blamed_known c.args.self.now c.take_waiting.new.self c.args.holding c.requires.known c.take_waiting.ensures.rests c.requires.opening u c.check.result
    (subst (λ (x : BeginningsState). Blames c.args.holding c.check.result x.holdings u.holdings) c.self.view_is c.in_ok-blame-in-Err.ensures.ok) c.in_ok-blame-in-Err.ensures.right (ap (λ (x : BeginningsState). x.begun) c.self.view_is)

pub returns-in_ok-blame-in-Err-clause-opening : goal.returns-in_ok-blame-in-Err-clause-opening
returns-in_ok-blame-in-Err-clause-opening c =
    let u : BeginningsState = beginnings_state c.blame.new.self c.self.inside.begun.items in
    blamed_opening c.args.self.now c.take_waiting.new.self c.args.holding c.requires.known c.take_waiting.ensures.rests c.requires.opening u c.check.result
    (subst (λ (x : BeginningsState). IsTable x.holdings.table) c.self.view_is c.holdings.ensures.table)
    (subst (λ (x : BeginningsState). Blames c.args.holding c.check.result x.holdings u.holdings) c.self.view_is c.in_ok-blame-in-Err.ensures.ok) (ap (λ (x : BeginningsState). x.begun) c.self.view_is)

pub returns-in_ok-blame-in-Err-clause-goes : goal.returns-in_ok-blame-in-Err-clause-goes
returns-in_ok-blame-in-Err-clause-goes c =
    let w : BeginningsState = seen_beginnings c.self.inside in
    let u : BeginningsState = beginnings_state c.blame.new.self c.self.inside.begun.items in
    goes_on_from c.args.self.now c.take_waiting.new.self c.args.holding c.requires.known c.take_waiting.ensures.rests u
    (subst (λ (x : BeginningsState). GoesOn x u) c.self.view_is (goes_blamed w u c.args.holding c.check.result c.in_ok-blame-in-Err.ensures.ok))

pub returns-in_ok-ask_next-in-Ok-Next-clause-known : goal.returns-in_ok-ask_next-in-Ok-Next-clause-known
returns-in_ok-ask_next-in-Ok-Next-clause-known c =
    nexts_known c.args.self.now c.take_waiting.new.self c.args.holding c.requires.known c.take_waiting.ensures.rests c.requires.opening c.in-Some.opening c.args.position
    (awaits_it c.args.self.now c.take_waiting.new.self c.args.holding c.args.position c.in-Some.opening c.requires.awaits (λ b is. sym c.in-Some.is ∙ c.take_waiting.ensures.opening b is))
    c.requires.answered.0 c.requires.answered.1 c.args.cap.now c.ask_next.new.self c.in-Ok-Next.next
    (subst (λ (p : Progress). Advances c.args.cap.now c.in-Some.opening c.requires.answered.0 p) c.in-Ok-Next.field-0-is (c.in-Ok-Next.ensures.taken c.requires.answered.0 (answered_still c.args.self.now c.take_waiting.new.self c.args.holding c.args.position c.requires.known c.take_waiting.ensures.rests c.requires.answered.0 c.requires.answered.1)))
    c.in_ok-ask_next-in-Ok-Next.ensures.asks c.in_ok-ask_next-in-Ok-Next.ensures.right

pub returns-in_ok-ask_next-in-Ok-Next-clause-opening : goal.returns-in_ok-ask_next-in-Ok-Next-clause-opening
returns-in_ok-ask_next-in-Ok-Next-clause-opening c =
    nexts_opening c.args.self.now c.take_waiting.new.self c.args.holding c.requires.known c.take_waiting.ensures.rests c.requires.opening c.in-Some.opening c.args.position
    (awaits_it c.args.self.now c.take_waiting.new.self c.args.holding c.args.position c.in-Some.opening c.requires.awaits (λ b is. sym c.in-Some.is ∙ c.take_waiting.ensures.opening b is))
    c.requires.answered.0 c.requires.answered.1 c.args.cap.now c.ask_next.new.self c.in-Ok-Next.next
    (subst (λ (p : Progress). Advances c.args.cap.now c.in-Some.opening c.requires.answered.0 p) c.in-Ok-Next.field-0-is (c.in-Ok-Next.ensures.taken c.requires.answered.0 (answered_still c.args.self.now c.take_waiting.new.self c.args.holding c.args.position c.requires.known c.take_waiting.ensures.rests c.requires.answered.0 c.requires.answered.1)))
    c.in_ok-ask_next-in-Ok-Next.ensures.asks

pub returns-in_ok-ask_next-in-Ok-Next-clause-goes : goal.returns-in_ok-ask_next-in-Ok-Next-clause-goes
returns-in_ok-ask_next-in-Ok-Next-clause-goes c =
    goes_on_from c.args.self.now c.take_waiting.new.self c.args.holding c.requires.known c.take_waiting.ensures.rests c.ask_next.new.self
    (goes_next c.take_waiting.new.self c.ask_next.new.self c.args.holding c.in-Ok-Next.next c.in_ok-ask_next-in-Ok-Next.ensures.asks)

pub returns-in-Ok-Done-clause-known : goal.returns-in-Ok-Done-clause-known
returns-in-Ok-Done-clause-known c = rested_known c.args.self.now c.take_waiting.new.self c.args.holding c.requires.known c.take_waiting.ensures.rests

pub returns-in-Ok-Done-clause-found : goal.returns-in-Ok-Done-clause-found
returns-in-Ok-Done-clause-found c = found c.args.self.now c.take_waiting.new.self c.args.holding c.requires.known c.take_waiting.ensures.rests c.requires.opening

pub returns-in-Ok-Done-clause-found_asks : goal.returns-in-Ok-Done-clause-found_asks
returns-in-Ok-Done-clause-found_asks c = rested_requests c.args.self.now c.take_waiting.new.self c.args.holding c.requires.known c.take_waiting.ensures.rests

pub returns-in-Ok-Done-clause-block : goal.returns-in-Ok-Done-clause-block
returns-in-Ok-Done-clause-block c =
    block_at c.args.self.now c.take_waiting.new.self c.args.holding c.requires.known c.take_waiting.ensures.rests c.requires.opening c.in-Some.opening c.args.position
    (awaits_it c.args.self.now c.take_waiting.new.self c.args.holding c.args.position c.in-Some.opening c.requires.awaits (λ b is. sym c.in-Some.is ∙ c.take_waiting.ensures.opening b is))
    c.requires.answered.0 c.requires.answered.1 c.args.cap.now c.in-Ok-Done.opened
    (subst (λ (p : Progress). Advances c.args.cap.now c.in-Some.opening c.requires.answered.0 p) c.in-Ok-Done.field-0-is (c.in-Ok-Done.ensures.taken c.requires.answered.0 (answered_still c.args.self.now c.take_waiting.new.self c.args.holding c.args.position c.requires.known c.take_waiting.ensures.rests c.requires.answered.0 c.requires.answered.1)))

pub returns-in-Ok-Done-clause-goes : goal.returns-in-Ok-Done-clause-goes
returns-in-Ok-Done-clause-goes c = rested_goes c.args.self.now c.take_waiting.new.self c.args.holding c.requires.known c.take_waiting.ensures.rests

-- ---- what is blamed, and why

abbrev fault : VerifyCapValue → BeginningsState → Blame → Type 0
fault cap s = IsOpeningFault cap s.holdings.requests.entries

blamed_still : (s w : BeginningsState) (holding : ℕ) → Rests holding s w → w.holdings.blamed ≡ s.holdings.blamed
blamed_still s w holding rests = ap (λ (x : BeginningsState). x.holdings.blamed) rests.is

pub returns-then-not-holdings-holding-clause-causes : goal.returns-then-not-holdings-holding-clause-causes
returns-then-not-holdings-holding-clause-causes c =
    let s = c.args.self.now in
    adds_none (fault c.args.cap.now s) s.holdings.blamed c.take_waiting.new.self.holdings.blamed (blamed_still s c.take_waiting.new.self c.args.holding c.take_waiting.ensures.rests)

pub returns-in_err-blame-in-Err-clause-causes : goal.returns-in_err-blame-in-Err-clause-causes
returns-in_err-blame-in-Err-clause-causes c =
    let s = c.args.self.now in
    adds_none (fault c.args.cap.now s) s.holdings.blamed c.blame.new.self.blamed
    (ap (λ (x : HoldingsState). x.blamed) c.in_err-blame-in-Err.ensures.err ∙ ap (λ (x : BeginningsState). x.holdings.blamed) c.self.view_is ∙ blamed_still s c.take_waiting.new.self c.args.holding c.take_waiting.ensures.rests)

pub returns-in_err-ask_next-in-Ok-Next-clause-causes : goal.returns-in_err-ask_next-in-Ok-Next-clause-causes
returns-in_err-ask_next-in-Ok-Next-clause-causes c =
    let s = c.args.self.now in
    adds_none (fault c.args.cap.now s) s.holdings.blamed c.ask_next.new.self.holdings.blamed
    (ap (λ (x : BeginningsState). x.holdings.blamed) c.in_err-ask_next-in-Ok-Next.ensures.err ∙ blamed_still s c.take_waiting.new.self c.args.holding c.take_waiting.ensures.rests)

pub returns-in_ok-blame-in-Err-clause-causes : goal.returns-in_ok-blame-in-Err-clause-causes
returns-in_ok-blame-in-Err-clause-causes c =
    let s = c.args.self.now in
    let w = c.take_waiting.new.self in
    let b = c.in_ok-blame-in-Err.ensures.ok in
    let one : Blame = record { server = b.held.server; share = b.held.share; check = c.check.result } in
    let same : c.self.inside.holdings ≡ s.holdings = ap (λ (x : BeginningsState). x.holdings) c.self.view_is ∙ ap (λ (x : BeginningsState). x.holdings) c.take_waiting.ensures.rests.is in
    let a = c.requires.answered in
    adds_one (fault c.args.cap.now s) s.holdings.blamed c.blame.new.self.blamed one (b.blamed ∙ ap (λ (h : HoldingsState). h.blamed ++ one ∷ []) same)
    (opening_fault s c.args.holding c.args.position c.in-Some.opening b.held a.0 c.requires.known c.requires.awaits (λ k is. sym c.in-Some.is ∙ c.take_waiting.ensures.opening k is)
    (subst (λ (h : HoldingsState). IsHolding h.table c.args.holding b.held) same b.is) a.1 c.args.cap.now c.check.result c.in-Err.error
    (c.in-Err.ensures.refused a.0 (answered_still s w c.args.holding c.args.position c.requires.known c.take_waiting.ensures.rests a.0 a.1)) c.check.ensures)

pub returns-in_ok-ask_next-in-Ok-Next-clause-causes : goal.returns-in_ok-ask_next-in-Ok-Next-clause-causes
returns-in_ok-ask_next-in-Ok-Next-clause-causes c =
    let s = c.args.self.now in
    adds_none (fault c.args.cap.now s) s.holdings.blamed c.ask_next.new.self.holdings.blamed
    (ap (λ (x : HoldingsState). x.blamed) c.in_ok-ask_next-in-Ok-Next.ensures.asks.asks.2 ∙ blamed_still s c.take_waiting.new.self c.args.holding c.take_waiting.ensures.rests)

pub returns-in-Ok-Done-clause-causes : goal.returns-in-Ok-Done-clause-causes
returns-in-Ok-Done-clause-causes c =
    let s = c.args.self.now in
    adds_none (fault c.args.cap.now s) s.holdings.blamed c.take_waiting.new.self.holdings.blamed (blamed_still s c.take_waiting.new.self c.args.holding c.take_waiting.ensures.rests)

-- ---- the numbers of the shares that are blamed

pub returns-then-not-holdings-holding-clause-low : goal.returns-then-not-holdings-holding-clause-low
returns-then-not-holdings-holding-clause-low c =
    let s = c.args.self.now in
    adds_none (IsNumbered s) s.holdings.blamed c.take_waiting.new.self.holdings.blamed (blamed_still s c.take_waiting.new.self c.args.holding c.take_waiting.ensures.rests)

pub returns-in_err-blame-in-Err-clause-low : goal.returns-in_err-blame-in-Err-clause-low
returns-in_err-blame-in-Err-clause-low c =
    let s = c.args.self.now in
    adds_none (IsNumbered s) s.holdings.blamed c.blame.new.self.blamed
    (ap (λ (x : HoldingsState). x.blamed) c.in_err-blame-in-Err.ensures.err ∙ ap (λ (x : BeginningsState). x.holdings.blamed) c.self.view_is ∙ blamed_still s c.take_waiting.new.self c.args.holding c.take_waiting.ensures.rests)

pub returns-in_err-ask_next-in-Ok-Next-clause-low : goal.returns-in_err-ask_next-in-Ok-Next-clause-low
returns-in_err-ask_next-in-Ok-Next-clause-low c =
    let s = c.args.self.now in
    adds_none (IsNumbered s) s.holdings.blamed c.ask_next.new.self.holdings.blamed
    (ap (λ (x : BeginningsState). x.holdings.blamed) c.in_err-ask_next-in-Ok-Next.ensures.err ∙ blamed_still s c.take_waiting.new.self c.args.holding c.take_waiting.ensures.rests)

pub returns-in_ok-blame-in-Err-clause-low : goal.returns-in_ok-blame-in-Err-clause-low
returns-in_ok-blame-in-Err-clause-low c =
    let s = c.args.self.now in
    let same : c.self.inside.holdings ≡ s.holdings = ap (λ (x : BeginningsState). x.holdings) c.self.view_is ∙ ap (λ (x : BeginningsState). x.holdings) c.take_waiting.ensures.rests.is in
    subst (λ (l : List Blame). AddsBlames (IsNumbered s) l c.blame.new.self.blamed) (ap (λ (h : HoldingsState). h.blamed) same)
    (blamed_low (length s.holdings.table.numbers) c.self.inside.holdings c.blame.new.self c.args.holding c.check.result c.holdings.ensures.table
    (ap (λ (h : HoldingsState). length h.table.numbers) same) c.in_ok-blame-in-Err.ensures.ok)

pub returns-in_ok-ask_next-in-Ok-Next-clause-low : goal.returns-in_ok-ask_next-in-Ok-Next-clause-low
returns-in_ok-ask_next-in-Ok-Next-clause-low c =
    let s = c.args.self.now in
    adds_none (IsNumbered s) s.holdings.blamed c.ask_next.new.self.holdings.blamed
    (ap (λ (x : HoldingsState). x.blamed) c.in_ok-ask_next-in-Ok-Next.ensures.asks.asks.2 ∙ blamed_still s c.take_waiting.new.self c.args.holding c.take_waiting.ensures.rests)

pub returns-in-Ok-Done-clause-low : goal.returns-in-Ok-Done-clause-low
returns-in-Ok-Done-clause-low c =
    let s = c.args.self.now in
    adds_none (IsNumbered s) s.holdings.blamed c.take_waiting.new.self.holdings.blamed (blamed_still s c.take_waiting.new.self c.args.holding c.take_waiting.ensures.rests)

-- ---- what is read

entries_still : (s w : BeginningsState) (holding : ℕ) → Rests holding s w → w.holdings.requests.entries ≡ s.holdings.requests.entries
entries_still s w holding rests = ap (λ (x : BeginningsState). x.holdings.requests.entries) rests.is

pub returns-then-not-holdings-holding-clause-adds : goal.returns-then-not-holdings-holding-clause-adds
returns-then-not-holdings-holding-clause-adds c =
    let w = c.take_waiting.new.self in
    reads_none (IsInBeginning w.holdings.requests.entries) c.args.self.now.holdings.requests.entries w.holdings.requests.entries (entries_still c.args.self.now w c.args.holding c.take_waiting.ensures.rests)

pub returns-in_err-blame-in-Err-clause-adds : goal.returns-in_err-blame-in-Err-clause-adds
returns-in_err-blame-in-Err-clause-adds c =
    let u = c.blame.new.self in
    reads_none (IsInBeginning u.requests.entries) c.args.self.now.holdings.requests.entries u.requests.entries
    (ap (λ (x : HoldingsState). x.requests.entries) c.in_err-blame-in-Err.ensures.err ∙ ap (λ (x : BeginningsState). x.holdings.requests.entries) c.self.view_is ∙ entries_still c.args.self.now c.take_waiting.new.self c.args.holding c.take_waiting.ensures.rests)

pub returns-in_err-ask_next-in-Ok-Next-clause-adds : goal.returns-in_err-ask_next-in-Ok-Next-clause-adds
returns-in_err-ask_next-in-Ok-Next-clause-adds c =
    let u = c.ask_next.new.self in
    reads_none (IsInBeginning u.holdings.requests.entries) c.args.self.now.holdings.requests.entries u.holdings.requests.entries
    (ap (λ (x : BeginningsState). x.holdings.requests.entries) c.in_err-ask_next-in-Ok-Next.ensures.err ∙ entries_still c.args.self.now c.take_waiting.new.self c.args.holding c.take_waiting.ensures.rests)

pub returns-in_ok-blame-in-Err-clause-adds : goal.returns-in_ok-blame-in-Err-clause-adds
returns-in_ok-blame-in-Err-clause-adds c =
    let u = c.blame.new.self in
    reads_none (IsInBeginning u.requests.entries) c.args.self.now.holdings.requests.entries u.requests.entries
    (ap (λ (x : HoldingsState). x.requests.entries) c.in_ok-blame-in-Err.ensures.ok.others ∙ ap (λ (x : BeginningsState). x.holdings.requests.entries) c.self.view_is ∙ entries_still c.args.self.now c.take_waiting.new.self c.args.holding c.take_waiting.ensures.rests)

pub returns-in_ok-ask_next-in-Ok-Next-clause-adds : goal.returns-in_ok-ask_next-in-Ok-Next-clause-adds
returns-in_ok-ask_next-in-Ok-Next-clause-adds c =
    let s = c.args.self.now in
    let w = c.take_waiting.new.self in
    let u = c.ask_next.new.self in
    let awaits = awaits_it s w c.args.holding c.args.position c.in-Some.opening c.requires.awaits (λ b is. sym c.in-Some.is ∙ c.take_waiting.ensures.opening b is) in
    let a = c.requires.answered in
    subst (λ (es : List Request). AddsReads (IsInBeginning u.holdings.requests.entries) es u.holdings.requests.entries) (entries_still s w c.args.holding c.take_waiting.ensures.rests)
    (reads_next w u c.args.holding c.in-Ok-Next.next c.in_ok-ask_next-in-Ok-Next.ensures.asks
    (led_now s w c.args.holding c.requires.known c.take_waiting.ensures.rests c.requires.opening c.in-Some.opening c.args.position awaits a.0 a.1 c.args.cap.now c.in-Ok-Next.next
    (subst (λ (p : Progress). Advances c.args.cap.now c.in-Some.opening a.0 p) c.in-Ok-Next.field-0-is (c.in-Ok-Next.ensures.taken a.0 (answered_still s w c.args.holding c.args.position c.requires.known c.take_waiting.ensures.rests a.0 a.1)))))

pub returns-in-Ok-Done-clause-adds : goal.returns-in-Ok-Done-clause-adds
returns-in-Ok-Done-clause-adds c =
    let w = c.take_waiting.new.self in
    reads_none (IsInBeginning w.holdings.requests.entries) c.args.self.now.holdings.requests.entries w.holdings.requests.entries (entries_still c.args.self.now w c.args.holding c.take_waiting.ensures.rests)

use Rattle.std.proofs.Common.{◌≡◌, ℕ, List, refl, sym, subst}
use Rattle.std.specs.Prelude.{Contains}
use Rattle.lemmas.proofs.Results.{if_ok_then}
use Rattle.request_record.specs.Record.{RequestsState}
use Rattle.checker.specs.Book.{HasBook, state_of}
use Rattle.checker.specs.Moves.{GoesOn, Stops, later}
use Rattle.checker.specs.declared.status.CheckStatus.TheVariants.{Running, Failed}
use Rattle.checker.proofs.Keeping.{asks_trans, book_ticked, goes_on_running, on_err_all, safe_goes, stops_with}
use Rattle.checker.proofs.RecordMoves.{once_as, ticked_as}
use Rattle.checker.proofs.state.Machine.pass.Goals as goal

running_not_failed : Running ≡ Failed → ⊥
running_not_failed e = cc

pub lose-requires-clause-book : goal.lose-requires-clause-book
lose-requires-clause-book c =
    let m = c.args.self.now in
    let r = c.tick.new.self in
    subst (HasBook (record m { requests = r })) (sym c.deref.ensures.value)
    (book_ticked m r c.in_ok-lost.lost.items (ticked_as c.args.now m.requests r c.in_ok-lost.lost.items c.in_ok-lost.ensures.lost c.in_ok-lost.ensures.ok)
    (c.requires.book running_not_failed))

pub lose-requires-clause-lost : goal.lose-requires-clause-lost
lose-requires-clause-lost c i x h e =
    let m = c.args.self.now in
    let r = c.tick.new.self in
    (ticked_as c.args.now m.requests r c.in_ok-lost.lost.items c.in_ok-lost.ensures.lost c.in_ok-lost.ensures.ok).quiet i x
    (subst (λ (l : List ℕ). Contains l i) c.deref.ensures.value h) e

pub lose-requires-clause-safe : goal.lose-requires-clause-safe
lose-requires-clause-safe c =
    let m = c.args.self.now in
    let r = c.tick.new.self in
    safe_goes m r c.in_ok-lost.lost.items (ticked_as c.args.now m.requests r c.in_ok-lost.lost.items c.in_ok-lost.ensures.lost c.in_ok-lost.ensures.ok).goes
    (once_as c.args.now m.requests r c.in_ok-lost.ensures.ok c.requires.safe.once) c.requires.safe

pub settle-requires-clause-awaited : goal.settle-requires-clause-awaited
settle-requires-clause-awaited c = c.in_ok-lose.ensures.awaited (c.requires.awaited running_not_failed)

pub returns-clause-ok : goal.returns-clause-ok
returns-clause-ok c =
    let m = c.args.self.now in
    let r = c.tick.new.self in
    if_ok_then c.settle.result _ _ c.settle.ensures.stands
    (λ ended stands servers. subst (λ (x : RequestsState). GoesOn x (state_of m servers Running) (state_of c.settle.new.self servers ended)) c.in_ok-lost.ensures.ok
    (goes_on_running m c.settle.new.self r servers Running ended refl stands
    (asks_trans (record m { requests = r }) c.lose.new.self c.settle.new.self c.lose.ensures.asks c.settle.ensures.asks)))

pub returns-clause-err : goal.returns-clause-err
returns-clause-err c =
    let m = c.args.self.now in
    let r = c.tick.new.self in
    on_err_all c.settle.result _ (λ servers. later refl (subst (λ (x : RequestsState). Stops x (state_of m servers Running) (state_of c.settle.new.self servers Failed)) c.in_ok-lost.ensures.ok
    (stops_with m c.settle.new.self r servers Running
    (asks_trans (record m { requests = r }) c.lose.new.self c.settle.new.self c.lose.ensures.asks c.settle.ensures.asks))))

pub returns-in_err-lose-clause-err : goal.returns-in_err-lose-clause-err
returns-in_err-lose-clause-err c =
    let m = c.args.self.now in
    on_err_all c.from_residual-in_err-lose.result _ (λ servers. later refl (subst (λ (x : RequestsState). Stops x (state_of m servers Running) (state_of c.lose.new.self servers Failed)) c.in_ok-lost.ensures.ok
    (stops_with m c.lose.new.self c.tick.new.self servers Running c.lose.ensures.asks)))

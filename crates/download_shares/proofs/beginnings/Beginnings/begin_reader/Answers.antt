use Rattle.std.proofs.Common.{◌≡◌, ℕ, ◌<◌, length, Some, refl, sym, subst, ap, arith}
use Rattle.std.specs.Prelude.{slice_set}
use Rattle.std.proofs.lemmas.List.{length-set}
use Rattle.std.proofs.lemmas.Option.{slice_get_within}
use Rattle.lemmas.proofs.Positions.{got}
use Rattle.download_shares.specs.Table.{IsHolding}
use Rattle.download_shares.specs.declared.holding.Holding.{Holding}
use Rattle.download_shares.specs.HoldingState.{HoldingsState}
use Rattle.download_shares.specs.Known.{AreBegun}
use Rattle.download_shares.specs.BeginningMoves.{IsReaderOf}
use Rattle.download_shares.specs.BeginningState.{BeginningsState, beginnings_state}
use Rattle.download_shares.proofs.Knowing.{keeps_set, known_same, shares_taken}
use Rattle.download_shares.proofs.Fields.{seen_beginnings}
use Rattle.download_shares.proofs.beginnings.Beginnings.begin_reader.Goals as goal

inside : (s now : BeginningsState) (holding : ℕ) (h : Holding) → s ≡ now → AreBegun now → IsHolding now.holdings.table holding h → holding < length s.begun
inside s now holding h e known is =
    subst (λ (x : BeginningsState). holding < length x.begun) (sym e) (let c = known.counted in let w = slice_get_within now.holdings.table.holdings holding h is in omega (arith, c, w))

pub returns-clause-known : goal.returns-clause-known
returns-clause-known c =
    let s : BeginningsState = seen_beginnings c.self.inside in
    let known : AreBegun s = subst AreBegun (sym c.self.view_is) c.requires.known in
    let lt : c.args.holding < length s.begun = inside s c.args.self.now c.args.holding c.requires.free.0 c.self.view_is c.requires.known c.requires.free.1 in
    let at = got s.begun c.args.holding c.index_mut.result.now lt c.index_mut.ensures.value in
    let b = record c.index_mut.result.now { reader = Some c.args.reader } in
    let u : BeginningsState = beginnings_state c.take_up.new.self (slice_set c.self.inside.begun.items c.args.holding b) in
    known_same s u known (ap (λ (x : HoldingsState). x.requests) c.take_up.ensures.others) (shares_taken c.args.holding s.holdings.table u.holdings.table c.take_up.ensures.takes) c.take_up.ensures.right
    (length-set s.begun c.args.holding b) (keeps_set s.begun u.begun c.args.holding c.index_mut.result.now b at refl refl (λ request e. e))

pub returns-clause-reader : goal.returns-clause-reader
returns-clause-reader c =
    let s : BeginningsState = seen_beginnings c.self.inside in
    let lt : c.args.holding < length s.begun = inside s c.args.self.now c.args.holding c.requires.free.0 c.self.view_is c.requires.known c.requires.free.1 in
    let at = got s.begun c.args.holding c.index_mut.result.now lt c.index_mut.ensures.value in
    let b = record c.index_mut.result.now { reader = Some c.args.reader } in
    let u : BeginningsState = beginnings_state c.take_up.new.self (slice_set c.self.inside.begun.items c.args.holding b) in
    subst (λ (x : BeginningsState). IsReaderOf c.args.holding c.args.reader x u) c.self.view_is
    (record { begun = c.index_mut.result.now; there = at; is = refl; takes = c.take_up.ensures.takes; holdings = c.take_up.ensures.others })

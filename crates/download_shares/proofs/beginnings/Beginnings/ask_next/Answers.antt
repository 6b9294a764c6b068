use Rattle.std.proofs.Common.{rules, ◌<◌, length, Some, subst, ap}
use Rattle.std.specs.Prelude.{slice_set}
use Rattle.lemmas.proofs.Positions.{got}
use Rattle.share_reading.specs.Opening.{next_offset}
use Rattle.download_shares.specs.HoldingMoves.{Asks}
use Rattle.download_shares.specs.BeginningMoves.{AsksNext}
use Rattle.download_shares.specs.BeginningState.{BeginningsState, beginnings_state}
use Rattle.download_shares.specs.declared.begun.Begun.{Begun}
use Rattle.download_shares.proofs.Fields.{seen_beginnings}
use Rattle.download_shares.proofs.beginnings.Beginnings.ask_next.Goals as goal

pub returns-clause-asks : goal.returns-clause-asks
returns-clause-asks c =
    let s : BeginningsState = seen_beginnings c.self.inside in
    let lt : c.args.holding < length s.begun = search rules in
    let old = c.index_mut-begun.result.now in
    let at = got s.begun c.args.holding old lt c.index_mut-begun.ensures.value in
    let b : Begun = record { opening = Some c.args.opening.now; waiting = Some c.in_ok-position.position; reader = old.reader } in
    let u : BeginningsState = beginnings_state c.ask.new.self (slice_set c.self.inside.begun.items c.args.holding b) in
    subst (λ (x : BeginningsState). AsksNext c.args.holding c.args.opening.now x u) c.self.view_is
    (record {
      begun = old;
      there = at;
      asks = subst (λ n. Asks c.args.holding (next_offset c.args.opening.now) n s.holdings u.holdings) c.length_of.ensures
          (subst (λ n. Asks c.args.holding n c.length_of.result s.holdings u.holdings) c.next_offset.ensures.value c.in_ok-position.ensures.ok);
      is = ap (λ n. slice_set s.begun c.args.holding (record { opening = Some c.args.opening.now; waiting = Some n; reader = old.reader })) c.in_ok-position.ensures.position;
    })

use Rattle.std.proofs.Common.{rules, ℕ, ◌+◌, ◌-◌, ◌<◌, ◌≤◌, length, take, List, sym, subst, arith}
use Rattle.std.specs.Prelude.{slice_index_or}
use Rattle.std.proofs.lemmas.List.{take_all}
use Rattle.download_shares.specs.HoldingMoves.{IsAmong, RetiresAll}
use Rattle.download_shares.specs.HoldingState.{TableState}
use Rattle.download_shares.proofs.HoldingTicking.{retires_next, retires_not, retires_nothing}
use Rattle.download_shares.proofs.holdings.retire_owners.Goals.{then-servers-position, else-servers-position}
use Rattle.download_shares.proofs.holdings.retire_owners.Goals as goal

pub loop-position-init : goal.loop-position-init
loop-position-init c = retires_nothing c.args.servers c.args.owners.now c.args.table.now

pub retire-requires : goal.retire-requires
retire-requires c =
    let asked : slice_index_or c.args.positions.now c.loop-position.position-index 0 < c.args.servers + length c.args.owners.now = c.requires.asked c.loop-position.position-index 0 c.loop-position-test.true in
    let le : c.args.servers ≤ slice_index_or c.args.positions.now c.loop-position.position-index 0 = c.if-servers-position.true in
    let inside : slice_index_or c.args.positions.now c.loop-position.position-index 0 - c.args.servers < length c.args.owners.now = omega (arith, asked, le) in
    let held = c.requires.held (slice_index_or c.args.positions.now c.loop-position.position-index 0 - c.args.servers) 0 inside in
    let long = c.loop-position.invariant.long in
    omega (arith, held, long)

pub loop-position-preserved : goal.loop-position-preserved
loop-position-preserved c =
    let asked : slice_index_or c.args.positions.now c.loop-position.position-index 0 < c.args.servers + length c.args.owners.now = c.requires.asked c.loop-position.position-index 0 c.loop-position-test.true in
    elim c.if-servers-position.branch [
      | then-servers-position w ↦
          let le : c.args.servers ≤ slice_index_or c.args.positions.now c.loop-position.position-index 0 = search rules in
          subst (λ (t : TableState). RetiresAll (IsAmong c.args.servers c.args.owners.now (take (c.loop-position.position-index + 1) c.args.positions.now)) c.args.table.now t) (sym w.table-is)
          (retires_next c.args.servers c.args.owners.now c.args.positions.now c.loop-position.position-index c.args.table.now c.loop-position.table _ c.loop-position-test.true le asked c.loop-position.invariant w.retire.ensures.retires)
      | else-servers-position w ↦
          let low : slice_index_or c.args.positions.now c.loop-position.position-index 0 < c.args.servers = search rules in
          subst (λ (t : TableState). RetiresAll (IsAmong c.args.servers c.args.owners.now (take (c.loop-position.position-index + 1) c.args.positions.now)) c.args.table.now t) (sym w.table-is)
          (retires_not c.args.servers c.args.owners.now c.args.positions.now c.loop-position.position-index c.args.table.now c.loop-position.table c.loop-position-test.true low c.loop-position.invariant)
    ]

pub returns : goal.returns
returns c =
    subst (λ (l : List ℕ). RetiresAll (IsAmong c.args.servers c.args.owners.now l) c.args.table.now c.loop-position.table) (take_all c.loop-position.position-index c.args.positions.now c.loop-position-test.false) c.loop-position.invariant

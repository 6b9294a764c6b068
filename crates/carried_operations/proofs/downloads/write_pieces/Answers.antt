use Rattle.std.proofs.Common.{ap, arith, length, subst}
use Rattle.std.specs.Io.KnownBytes.{Appends}
use Rattle.carried_operations.proofs.Writing.{taken_to, written_all, written_more}
use Rattle.carried_operations.proofs.downloads.write_pieces.Goals as goal

pub pieces-preserved : goal.pieces-preserved
pieces-preserved g c =
    let held = g.O.Write.contents in
    let taken = c.in-Some.ensures.takes in
    let more = subst (Appends (held c.pieces.out) (held c.write_all.new.self)) c.as_slice-bytes.ensures c.in_ok-write_all.ensures.bytes in
    let to = taken_to c.pieces.download c.take_bytes.new.self c.in-Some.piece taken in
    let long = ap length c.as_slice-bytes.ensures in (
      written_more c.taken_follow.ensures c.args.download.now c.pieces.download c.take_bytes.new.self (held c.args.out.now) (held c.pieces.out) (held c.write_all.new.self) c.in-Some.piece c.pieces.invariant.0
          taken c.status-in-Some.ensures.right c.in-Some.ensures.given more,
      omega (arith, c.saturating_add.ensures, to, long),
    )

pub returns-clause-ok : goal.returns-clause-ok
returns-clause-ok g c =
    written_all c.args.download.now c.pieces.download c.take_bytes.new.self (g.O.Write.contents c.args.out.now) (g.O.Write.contents c.pieces.out) c.pieces.invariant.0 c.in_default.ensures.takes

use Rattle.std.proofs.Common.{rules, ◌≡◌, ◌+◌, arith}
use Rattle.user_files.proofs.Copying.{copied_to_end, more_copied, none_copied}
use Rattle.user_files.proofs.spooling.copy_pieces.Goals as goal

pub loop-init : goal.loop-init
loop-init g c = (0, none_copied (g.S.Read.remaining c.args.reader.now) (g.W.Write.contents c.args.writer.now), omega (arith), c.requires)

pub returns-in-Some-clause-all : goal.returns-in-Some-clause-all
returns-in-Some-clause-all g c =
    let none : c.in_ok-count.count ≡ 0 = search (rules, c.if-count-eq0.true) in
    copied_to_end (g.S.Read.remaining c.args.reader.now) (g.S.Read.remaining c.loop.reader) (g.S.Read.remaining c.copy_piece.new.reader)
    (g.W.Write.contents c.args.writer.now) (g.W.Write.contents c.loop.writer) (g.W.Write.contents c.copy_piece.new.writer)
    c.loop.invariant.0 c.in_ok-count.count c.args.written c.loop.size c.loop.invariant.1 c.in_ok-count.ensures.copies none (c.in_ok-count.ensures.end none) c.loop.invariant.2

pub loop-preserved : goal.loop-preserved
loop-preserved g c = (
  c.loop.invariant.0 + c.in_ok-count.count,
  more_copied (g.S.Read.remaining c.args.reader.now) (g.S.Read.remaining c.loop.reader) (g.S.Read.remaining c.copy_piece.new.reader)
      (g.W.Write.contents c.args.writer.now) (g.W.Write.contents c.loop.writer) (g.W.Write.contents c.copy_piece.new.writer)
      c.loop.invariant.0 c.in_ok-count.count c.loop.invariant.1 c.in_ok-count.ensures.copies,
  omega (arith, c.in-Some.ensures, c.loop.invariant.2),
  omega (arith, c.loop.invariant.3, c.in_ok-count.ensures.room),
)

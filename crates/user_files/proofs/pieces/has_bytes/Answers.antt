use Rattle.std.proofs.Common.{None, Some, take, arith}
use Rattle.std.proofs.lemmas.Bool.Decides.{Decides-eqb}
use Rattle.std.proofs.lemmas.Slice.Eq.{strip_prefix_is}
use Rattle.user_files.proofs.Comparing.{is_unlike, left_after, unlike}
use Rattle.user_files.proofs.pieces.has_bytes.Goals as goal

pub returns-in-None : goal.returns-in-None
returns-in-None g c =
    let old = g.F.Read.remaining c.args.reader.now in
    let piece = take c.in_ok-count.count c.read_some.new.buffer in
    let apart = strip_prefix_is Decides-eqb c.loop.left.now piece None c.in-None.ensures.cases in
    record { same = is_unlike old c.args.bytes.now (unlike old (g.F.Read.remaining c.loop.reader) (g.F.Read.remaining c.read_some.new.reader) c.args.bytes.now c.loop.left.now piece c.loop.invariant.0 c.in_ok-count.ensures.read apart) }

pub loop-preserved : goal.loop-preserved
loop-preserved g c =
    let piece = take c.in_ok-count.count c.read_some.new.buffer in
    let is = strip_prefix_is Decides-eqb c.loop.left.now piece (Some c.in-Some.rest) c.in-Some.ensures.cases in (
      left_after (g.F.Read.remaining c.args.reader.now) (g.F.Read.remaining c.loop.reader) (g.F.Read.remaining c.read_some.new.reader) c.args.bytes.now c.loop.left.now piece c.in-Some.rest.now c.loop.invariant.0 c.in_ok-count.ensures.read is,
      omega (arith, c.loop.invariant.1, c.in_ok-count.ensures.room),
    )

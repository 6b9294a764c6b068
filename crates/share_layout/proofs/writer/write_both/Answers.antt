use Rattle.std.proofs.lemmas.Result.{err_from_is_err_and, on_err_weaker}
use Rattle.share_layout.proofs.WriteLemmas.{beginning_left, beginning_right}
use Rattle.share_layout.proofs.writer.write_both.Goals as goal

pub returns-in_err-write_whole-clause-beginning : goal.returns-in_err-write_whole-clause-beginning
returns-in_err-write_whole-clause-beginning g c =
    let p = err_from_is_err_and c.from_residual.result c.from_residual.ensures.1 in
    rw p.1 (beginning_left _ _ c.args.before.now c.args.bytes.now c.in_err-write_whole.ensures.beginning)

pub returns-clause-beginning : goal.returns-clause-beginning
returns-clause-beginning g c =
    on_err_weaker c.write_whole-2.result
    (beginning_right (g.W.Write.contents c.args.writer.now) _ _ c.args.before.now c.args.bytes.now c.in_ok-write_whole.ensures.written) c.write_whole-2.ensures.beginning

use Rattle.std.proofs.Common.{Err, ap, refl}
use Rattle.grid_lists.proofs.GetLemmas.{shorter}
use Rattle.grid_surveys.specs.VerifyEnds.{making_of}
use Rattle.grid_surveys.proofs.VerifyLemmas.{all_read, cut_off, none_yet, one_more}
use Rattle.grid_surveys.proofs.verifying.verify_lines.Goals as goal

pub loop-line-init : goal.loop-line-init
loop-line-init g c = none_yet _ c.args.verifying.now.words.now (making_of c.args.verifying.now.comparing) c.args.catalogue.left _

pub loop-line-preserved : goal.loop-line-preserved
loop-line-preserved g c =
    let read = rw c.in-Ok-Some.field-0-is at c.in-Ok-Some.ensures in
    one_more _ c.args.verifying.now.words.now (making_of c.args.verifying.now.comparing) c.args.catalogue.left c.loop-line.catalogue.left c.next_line.new.self.left c.loop-line.tally.counts c.after-tally.result.counts c.loop-line.tally.status c.after-tally.result.status _ _ _
    c.in-Ok-Some.line.cap c.in-Ok-Some.line.name c.in_ok-came-in-Ok-Some.came c.loop-line.invariant read.line c.in_ok-came-in-Ok-Some.ensures.came c.after-tally.ensures.counts c.after-tally.ensures.status

pub loop-line-smaller : goal.loop-line-smaller
loop-line-smaller g c =
    let read = rw c.in-Ok-Some.field-0-is at c.in-Ok-Some.ensures in
    shorter c.loop-line.catalogue.left c.next_line.new.self.left c.in-Ok-Some.line.cap c.in-Ok-Some.line.name read.line

pub returns-in-Ok-None-clause-done : goal.returns-in-Ok-None-clause-done
returns-in-Ok-None-clause-done g c =
    let told = rw c.in-Ok-None.field-0-is at c.in-Ok-None.ensures in
    all_read _ c.args.verifying.now.words.now (making_of c.args.verifying.now.comparing) c.args.catalogue.left c.loop-line.catalogue.left c.loop-line.tally.counts c.loop-line.tally.status _ _ c.loop-line.invariant (told.end.0 refl) c.end.result _ c.end.ensures.status c.end.ensures.written

pub returns-in-Err-clause-done : goal.returns-in-Err-clause-done
returns-in-Err-clause-done g c =
    let refused = c.in-Err.ensures.refused.0 (ap Err c.in-Err.ensures.fault) in
    cut_off _ c.args.verifying.now.words.now (making_of c.args.verifying.now.comparing) c.args.catalogue.left c.loop-line.catalogue.left c.loop-line.tally.counts c.loop-line.tally.status _ _ c.loop-line.invariant refused.1
    c.after_no_line-tally.result.counts c.after_no_line-tally.result.status c.after_no_line-tally.ensures.counts c.after_no_line-tally.ensures.status c.end-in-Err.result _ c.end-in-Err.ensures.status c.end-in-Err.ensures.written

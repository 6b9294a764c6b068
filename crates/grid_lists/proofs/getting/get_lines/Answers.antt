use Rattle.std.proofs.Common.{Err, ap, refl}
use Rattle.grid_lists.proofs.GetLemmas.{all_read, cut_off, none_yet, one_more, shorter}
use Rattle.grid_lists.proofs.getting.get_lines.Goals as goal

pub loop-line-init : goal.loop-line-init
loop-line-init g c = record { so_far = none_yet _ c.args.words.now c.args.catalogue.left _; kept = tt }

pub loop-line-preserved : goal.loop-line-preserved
loop-line-preserved g c =
    let read = rw c.in-Ok-Some.field-0-is at c.in-Ok-Some.ensures in record {
      so_far = one_more _ c.args.words.now c.args.catalogue.left c.loop-line.catalogue.left c.next_line.new.self.left c.loop-line.tally.status c.after-tally.result.status c.loop-line.tally.is_found c.after-tally.result.is_found _ _ _
          c.in-Ok-Some.line.cap c.in-Ok-Some.line.name c.in_ok-came-in-Ok-Some.came c.loop-line.invariant.so_far read.line c.in_ok-came-in-Ok-Some.ensures.came c.after-tally.ensures.status c.after-tally.ensures.found;
      kept = c.in_ok-came-in-Ok-Some.ensures.kept;
    }

pub loop-line-smaller : goal.loop-line-smaller
loop-line-smaller g c =
    let read = rw c.in-Ok-Some.field-0-is at c.in-Ok-Some.ensures in
    shorter c.loop-line.catalogue.left c.next_line.new.self.left c.in-Ok-Some.line.cap c.in-Ok-Some.line.name read.line

pub returns-in-Ok-None : goal.returns-in-Ok-None
returns-in-Ok-None g c =
    let told = rw c.in-Ok-None.field-0-is at c.in-Ok-None.ensures in
    all_read _ c.args.words.now c.args.catalogue.left c.loop-line.catalogue.left c.loop-line.tally.status c.end.result c.loop-line.tally.is_found _ _ c.loop-line.invariant.so_far (told.end.0 refl) c.end.ensures

pub returns-in-Err : goal.returns-in-Err
returns-in-Err g c =
    let refused = c.in-Err.ensures.refused.0 (ap Err c.in-Err.ensures.fault) in
    cut_off _ c.args.words.now c.args.catalogue.left c.loop-line.catalogue.left c.loop-line.tally.status c.after_no_line.result.status c.end-in-Err.result c.loop-line.tally.is_found c.after_no_line.result.is_found _ _ c.loop-line.invariant.so_far refused.1
    c.after_no_line.ensures.status c.after_no_line.ensures.found c.end-in-Err.ensures

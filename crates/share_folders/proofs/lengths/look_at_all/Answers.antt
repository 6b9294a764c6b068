use Rattle.std.proofs.Common.{◌∙◌}
use Rattle.share_store.specs.declared.error.StoreError.TheVariants.{StoreFault}
use Rattle.share_folders.proofs.Closings.{held_on}
use Rattle.share_folders.proofs.FolderLaws.{all_seen_more, beside_more, same_error, unasked_under}
use Rattle.share_folders.proofs.Holding.{kept_on}
use Rattle.share_folders.proofs.lengths.look_at_all.Goals as goal

pub returns-in_err-look_at-clause-kept : goal.returns-in_err-look_at-clause-kept
returns-in_err-look_at-clause-kept g c honest =
    kept_on _ _ _ c.args.closed.now.entries c.loop-held.closed.entries c.look_at.new.closed.entries (c.loop-held.invariant.kept (c.look_at.ensures.so_far honest)) (c.look_at.ensures.kept honest)

pub returns-in_err-look_at-clause-opened : goal.returns-in_err-look_at-clause-opened
returns-in_err-look_at-clause-opened g c honest name i file own =
    c.look_at.ensures.opened honest name i file (c.loop-held.invariant.opened (c.look_at.ensures.so_far honest) name i file own)

pub returns-in_err-look_at-clause-cause : goal.returns-in_err-look_at-clause-cause
returns-in_err-look_at-clause-cause g c fault =
    unasked_under c.args.index.now _ c.args.closed.now.entries c.loop-held.closed.entries c.loop-held.invariant.seen
    (c.look_at.ensures.cause (same_error c.from_residual.result c.look_at.result _ StoreFault c.from_residual.ensures.1 fault c.in_err-look_at.was))

pub loop-held-preserved : goal.loop-held-preserved
loop-held-preserved g c =
    let before = c.loop-held.invariant in
    let here = c.look_at.ensures in
    record {
      seen = all_seen_more c.args.closed.now.entries c.loop-held.closed.entries c.look_at.new.closed.entries before.seen here.seen;
      others = beside_more c.args.index.now _ c.args.closed.now.entries c.loop-held.closed.entries c.look_at.new.closed.entries before.others here.others;
      place = here.place ∙ before.place;
      so_far = λ honest. before.so_far (here.so_far honest);
      kept = λ honest. kept_on _ _ _ c.args.closed.now.entries c.loop-held.closed.entries c.look_at.new.closed.entries (before.kept (here.so_far honest)) (here.kept honest);
      held = λ honest. held_on _ _ _ (before.held (here.so_far honest)) (here.held honest);
      opened = λ honest name i file own. here.opened honest name i file (before.opened (here.so_far honest) name i file own);
    }

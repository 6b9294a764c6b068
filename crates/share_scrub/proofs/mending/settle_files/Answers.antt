use Rattle.std.proofs.Common.{Some, [], get_or}
use Rattle.share_files.specs.declared.name.FileKind.TheVariants.{Closed}
use Rattle.share_files.specs.declared.name.ShareFile.{ShareFile}
use Rattle.share_scrub.proofs.Counting.{none_yet, one_more_file}
use Rattle.share_scrub.proofs.mending.settle_files.Goals as goal

pub loop-file-init : goal.loop-file-init
loop-file-init g c = none_yet c.args.wanted.now c.args.cleared.now c.args.files.now

pub returns-in_err-outcome-clause-allowed : goal.returns-in_err-outcome-clause-allowed
returns-in_err-outcome-clause-allowed g c = λ allowed. (c.in_err-outcome.ensures.counted (Some c.args.wanted.now) (c.requires c.loop-file.file-index _ c.loop-file-test.true)).allowed (c.loop-file.invariant.goes.allowed allowed)

pub returns-in_err-count-clause-allowed : goal.returns-in_err-count-clause-allowed
returns-in_err-count-clause-allowed g c = λ allowed. (c.in_ok-outcome.ensures.counted (Some c.args.wanted.now) (c.requires c.loop-file.file-index _ c.loop-file-test.true)).allowed (c.loop-file.invariant.goes.allowed allowed)

pub loop-file-preserved : goal.loop-file-preserved
loop-file-preserved g c =
    let d : ShareFile = record { key = ([], 0); kind = Closed [] } in
    let file : ShareFile = get_or c.args.listed.now c.loop-file.file-index d in
    one_more_file c.args.wanted.now file.key.1 c.in_ok-outcome.outcome c.args.cleared.now c.loop-file.cleared c.count.new.self c.args.files.now c.loop-file.files c.settle_file.new.files
    c.loop-file.invariant (c.in_ok-outcome.ensures.counted (Some c.args.wanted.now) (c.requires c.loop-file.file-index _ c.loop-file-test.true)) c.in_ok-count.ensures.counts

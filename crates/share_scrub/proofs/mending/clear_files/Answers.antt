use Rattle.std.proofs.Common.{[], take, get_or}
use Rattle.share_files.specs.declared.name.FileKind.TheVariants.{Closed}
use Rattle.share_files.specs.declared.name.ShareFile.{ShareFile}
use Rattle.share_scrub.specs.Clearing.{IsClearedOf}
use Rattle.share_scrub.proofs.Counting.{all_still, all_taken, cleared_now, cleared_still, none_yet, one_more_file}
use Rattle.share_scrub.proofs.mending.clear_files.Goals as goal

pub loop-file-init : goal.loop-file-init
loop-file-init g c = (none_yet c.args.wanted.now c.args.cleared.now c.args.files.now, tt)

pub returns-in_err-outcome-clause-allowed : goal.returns-in_err-outcome-clause-allowed
returns-in_err-outcome-clause-allowed g c = λ allowed. (c.in_err-outcome.ensures.goes (c.requires c.loop-file.file-index _ c.loop-file-test.true)).allowed (c.loop-file.invariant.0.goes.allowed allowed)

pub returns-in_err-count-clause-allowed : goal.returns-in_err-count-clause-allowed
returns-in_err-count-clause-allowed g c = λ allowed. (c.in_ok-outcome.ensures.goes (c.requires c.loop-file.file-index _ c.loop-file-test.true)).allowed (c.loop-file.invariant.0.goes.allowed allowed)

pub loop-file-preserved : goal.loop-file-preserved
loop-file-preserved g c =
    let d : ShareFile = record { key = ([], 0); kind = Closed [] } in
    let file : ShareFile = get_or c.args.listed.now c.loop-file.file-index d in
    let of = (c.requires c.loop-file.file-index _ c.loop-file-test.true) in
    let goes = c.in_ok-outcome.ensures.goes of in (
      one_more_file c.args.wanted.now file.key.1 c.in_ok-outcome.outcome c.args.cleared.now c.loop-file.cleared c.count.new.self c.args.files.now c.loop-file.files c.clear_file.new.files
          c.loop-file.invariant.0 goes c.in_ok-count.ensures.counts,
      all_taken (λ f. IsClearedOf c.args.wanted.now c.count.new.self c.clear_file.new.files f f.kind) c.args.listed.now c.loop-file.file-index d c.loop-file-test.true
          (all_still (λ f. IsClearedOf c.args.wanted.now c.loop-file.cleared c.loop-file.files f f.kind) _ (take c.loop-file.file-index c.args.listed.now)
          (λ f done. cleared_still c.args.wanted.now file.key.1 c.in_ok-outcome.outcome c.loop-file.cleared c.count.new.self c.loop-file.files c.clear_file.new.files f f.kind goes.kept c.in_ok-count.ensures.counts done)
          c.loop-file.invariant.1)
          (cleared_now c.args.wanted.now c.in_ok-outcome.outcome c.loop-file.cleared c.count.new.self c.clear_file.new.files file file.kind c.in_ok-count.ensures.counts (c.in_ok-outcome.ensures.told of)),
    )

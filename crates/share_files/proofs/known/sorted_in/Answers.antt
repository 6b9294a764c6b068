use Rattle.std.proofs.Common.{List, [], get_or, subst, sym, take}
use Rattle.std.proofs.lemmas.List.{take_more}
use Rattle.share_files.specs.declared.name.FileKind.TheVariants.{Closed}
use Rattle.share_files.specs.declared.name.ShareFile.{ShareFile}
use Rattle.share_files.specs.Known.{StandUnder}
use Rattle.share_files.proofs.KnownLemmas.{stand_more}
use Rattle.share_files.proofs.known.sorted_in.Goals as goal

pub loop-file-preserved : goal.loop-file-preserved
loop-file-preserved c =
    let d : ShareFile = record { key = ([], 0); kind = Closed [] } in
    let i = c.loop-file.file-index in
    subst (λ (files : List ShareFile). StandUnder c.add.new.map files) (sym (take_more c.args.files.now i d c.loop-file-test.true))
    (stand_more c.loop-file.map c.add.new.map c.in_ok-add.ensures.kept (take i c.args.files.now) (get_or c.args.files.now i d) c.in_ok-add.ensures.added c.loop-file.invariant)

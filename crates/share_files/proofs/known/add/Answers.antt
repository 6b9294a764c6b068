use Rattle.std.proofs.Common.{◌∷◌, List, [], ap, ◌++◌, ◌∙◌}
use Rattle.share_files.specs.declared.name.ShareFile.{ShareFile}
use Rattle.share_files.proofs.KnownLemmas.{stands_still}
use Rattle.share_files.proofs.known.add.Goals as goal

pub returns-clause-kept : goal.returns-clause-kept
returns-clause-kept c =
    stands_still c.args.map.now c.take_under.new.map c.insert.new.self c.args.file.now.key.0 c.push.new.self c.args.file.now c.in_ok-files.ensures.taken c.in_ok-insert.ensures.updates
    (c.in_ok-push.ensures.items ∙ ap (λ (files : List ShareFile). files ++ c.args.file.now ∷ []) c.in_ok-files.ensures.files)

use Rattle.std.proofs.Common.{[], Option, Bor, Vec, ap, sym, ◌∙◌}
use Rattle.std.specs.Option.{option_copied}
use Rattle.std.proofs.lemmas.Result.{IfOk-weaker}
use Rattle.share_files.specs.declared.name.ShareFile.{ShareFile}
use Rattle.share_files.proofs.KnownLemmas.{items_of, told_all, told_alone}
use Rattle.share_files.proofs.known.KnownFiles.of_index.Goals as goal

pub returns-in-Some-clause-index : goal.returns-in-Some-clause-index
returns-in-Some-clause-index c =
    let found = ap items_of (sym c.get.ensures.value ∙ ap option_copied c.in-Some.is) ∙ sym c.as_slice.ensures.value in
    IfOk-weaker c.of_these.result _ _ (λ own are. told_alone c.self.inside.by_index c.args.index.now _ own.items found are) c.of_these.ensures

pub returns-in-Some-clause-all : goal.returns-in-Some-clause-all
returns-in-Some-clause-all c =
    let found = ap items_of (sym c.get.ensures.value ∙ ap option_copied c.in-Some.is) ∙ sym c.as_slice.ensures.value in
    IfOk-weaker c.of_these.result _ _ (λ own are. told_all c.self.inside.by_index c.args.index.now _ own.items found are _ _ c.self.view_is c.self.invariant) c.of_these.ensures

pub returns-in-None-clause-all : goal.returns-in-None-clause-all
returns-in-None-clause-all c =
    let none = ap items_of (sym c.get.ensures.value ∙ ap option_copied c.in-None.is) in
    told_all c.self.inside.by_index c.args.index.now [] c.new.result.items none c.new.ensures.items _ _ c.self.view_is c.self.invariant

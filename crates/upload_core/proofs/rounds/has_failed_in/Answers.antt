use Rattle.std.proofs.Common.{rules, tests, ◌∙◌}
use Rattle.std.proofs.lemmas.Iterator.{YieldsList-from_slice}
use Rattle.std.proofs.lemmas.Iterator.Search.{any_from_yields_List}
use Rattle.request_record.specs.declared.entries.Entry.{Entry}
use Rattle.upload_core.specs.Transfers.{has_failed}
use Rattle.upload_core.proofs.Lists.{any_entries}
use Rattle.upload_core.proofs.rounds.has_failed_in.Goals as goal

pub returns : goal.returns
returns c =
    any_from_yields_List (λ (e : Entry). has_failed c.args.goal.now e.request) _ _ _ c.any.ensures.ran (YieldsList-from_slice c.args.entries.now cc) (λ x b q k. search (rules, tests))
    ∙ any_entries (has_failed c.args.goal.now) c.args.entries.now

use Rattle.std.proofs.Common.{rules, tests, ◌∙◌, Bool, ◌&&◌}
use Rattle.std.specs.Prelude.{◌==◌}
use Rattle.std.proofs.lemmas.Iterator.{YieldsList-from_slice}
use Rattle.std.proofs.lemmas.Iterator.Search.{any_from_yields_List}
use Rattle.request_record.specs.declared.entries.Entry.{Entry}
use Rattle.request_record.specs.declared.requests.Request.{Request}
use Rattle.upload_core.specs.Transfers.{is_abort_of}
use Rattle.upload_core.proofs.Lists.{any_entries}
use Rattle.upload_core.proofs.trails.is_given_up.Goals as goal

pub returns : goal.returns
returns c =
    let test : Request → Bool = λ (r : Request). (r.server == c.args.server) && is_abort_of c.args.asked.now r.asked in
    any_from_yields_List (λ (e : Entry). test e.request) _ _ _ c.any.ensures.ran (YieldsList-from_slice c.args.entries.now cc) (λ x b q k. search (rules, tests))
    ∙ any_entries test c.args.entries.now

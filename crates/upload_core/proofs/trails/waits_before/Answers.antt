use Rattle.std.proofs.Common.{rules, tests, ◌∙◌, Bool, ◌&&◌}
use Rattle.std.specs.Prelude.{◌==◌}
use Rattle.std.proofs.lemmas.Iterator.{YieldsList-from_slice}
use Rattle.std.proofs.lemmas.Iterator.Search.{any_from_yields_List}
use Rattle.request_record.specs.Record.{is_outstanding}
use Rattle.request_record.specs.declared.entries.Entry.{Entry}
use Rattle.request_record.specs.declared.requests.Request.{Request}
use Rattle.upload_core.specs.Transfers.{is_piece_before}
use Rattle.upload_core.proofs.Lists.{any_entries}
use Rattle.upload_core.proofs.trails.waits_before.Goals as goal

pub returns : goal.returns
returns c =
    let test : Request → Bool = λ (r : Request). (r.server == c.args.server) && is_piece_before c.args.share c.args.end r.asked && is_outstanding r.outcome in
    any_from_yields_List (λ (e : Entry). test e.request) _ _ _ c.any.ensures.ran (YieldsList-from_slice c.args.entries.now cc) (λ x b q k. search (rules, tests))
    ∙ any_entries test c.args.entries.now

use Rattle.std.proofs.Common.{◌≡◌, sym, ap, ◌∙◌}
use Rattle.std.proofs.lemmas.List.Edits.{map_over_more}
use Rattle.request_record.specs.declared.entries.Entry.{Entry}
use Rattle.request_record.specs.Record.{ticked_one}
use Rattle.request_record.specs.Entries.{ticked_entry}
use Rattle.request_record.proofs.positions.tick_each.Goals as goal

pub loop-entry-preserved : goal.loop-entry-preserved
loop-entry-preserved c =
    let item : Entry = c.entry-item.result in
    let new : c.tick.new.self ≡ ticked_one c.args.now item.request = c.tick.ensures ∙ ap (λ (e : Entry). ticked_one c.args.now e.request) (sym c.entry-item.is) in
    rw (← c.entry-item.is, new) (map_over_more (ticked_entry c.args.now) c.args.entries.now c.loop-entry.entries c.loop-entry.entry-index item c.loop-entry-test.true c.loop-entry.invariant c.entry-item.is)

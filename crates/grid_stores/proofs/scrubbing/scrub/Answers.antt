use Rattle.std.proofs.Common.{◌∙◌}
use Rattle.grid_stores.proofs.ScrubLemmas.{scrub_done}
use Rattle.grid_stores.proofs.scrubbing.scrub.Goals as goal

pub returns : goal.returns
returns g c = scrub_done c.args.words.now c.in_ok-standing.standing.items c.as_slice.result.now c.in_ok-are_read.are_read c.scrub_servers.new.counted _ _ _ c.as_bytes.result.now c.status_by.result c.as_slice.ensures.value
    c.in_ok-standing.ensures.some c.in_ok-standing.ensures.distinct c.in_ok-are_read.ensures (c.as_bytes.ensures.value ∙ c.in_ok-last_text.ensures) c.in_ok-print.ensures c.status_by.ensures

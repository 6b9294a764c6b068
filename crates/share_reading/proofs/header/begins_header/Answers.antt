use Rattle.std.proofs.Common.{subst, sym, ◌≤◌}
use Rattle.share_layout.specs.Layout.{header, layout_of}
use Rattle.share_reading.proofs.ListLemmas.{begins_with, header_long}
use Rattle.share_reading.proofs.header.begins_header.Goals as goal

pub returns : goal.returns
returns c =
    let g = c.args.geometry.now in
    begins_with c.header.new.out (header g) c.args.start.now c.header.result c.starts_with.result c.header.ensures.header
    (subst (λ n. 36 ≤ n) (sym c.header.ensures.length) (header_long (layout_of g))) c.starts_with.ensures.value c.told-start

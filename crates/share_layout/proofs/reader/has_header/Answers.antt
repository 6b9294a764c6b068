use Rattle.std.proofs.Common.{take}
use Rattle.share_layout.specs.Layout.{header, header_size, layout_of}
use Rattle.share_layout.proofs.LayoutLemmas.{begins, length-header}
use Rattle.share_layout.proofs.reader.has_header.Goals as goal

pub returns : goal.returns
returns c =
    let g = c.args.geometry.now in
    begins c.args.bytes.now (take c.header-length.result c.header-length.new.out) (header g) c.starts_with.result (header_size (layout_of g))
    c.starts_with.ensures.value c.header-length.ensures.header (length-header (layout_of g) g)

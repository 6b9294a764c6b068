use Rattle.std.proofs.Common.{◌∙◌, ap, length, refl}
use Rattle.lemmas.proofs.Bytes.{put_behind}
use Rattle.share_reading.proofs.header.joined.Goals as goal

pub returns : goal.returns
returns c =
    let a = c.copy_from_slice.ensures.after in
    put_behind c.copy_from_slice.new.self c.copy_from_slice-2.new.self _ 36 32 c.args.start.now c.args.rest.now (ap length a ∙ c.told-start) refl a c.copy_from_slice-2.ensures.after

use Rattle.std.proofs.Common.{◌∙◌, drop, arith}
use Rattle.std.proofs.lemmas.List.{length-drop, take_all}
use Rattle.download_parts.proofs.offers.hash_of.Goals as goal

pub returns : goal.returns
returns c =
    let entry = c.args.entry.now in
    c.copy_from_slice.ensures.after ∙ take_all 32 (drop 2 entry) (omega (arith, length-drop 2 entry))

use Rattle.std.proofs.Common.{◌∙◌, refl}
use Rattle.lemmas.proofs.Bytes.{put_behind}
use Rattle.merkle.proofs.rows.pair_text.Goals as goal

pub returns : goal.returns
returns c =
    put_behind c.copy_from_slice.new.self c.copy_from_slice-2.new.self _ 36 36 _ _ c.copy_from_slice.ensures.len refl
    (c.copy_from_slice.ensures.after ∙ c.hash_text.ensures) (c.copy_from_slice-2.ensures.after ∙ c.hash_text-2.ensures)

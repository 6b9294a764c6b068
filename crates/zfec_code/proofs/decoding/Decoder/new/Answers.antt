use Rattle.std.proofs.Common.{map, sym, subst, get_or, ◌∙◌, ap}
use Rattle.zfec_code.specs.Field.{point_of}
use Rattle.zfec_code.specs.Rows.{AreDistinct}
use Rattle.zfec_code.proofs.ShareLemmas.{nodes_distinct, points_are}
use Rattle.zfec_code.proofs.decoding.Decoder.new.Goals as goal

pub new-requires : goal.new-requires
new-requires c =
    let numbers = c.args.numbers.items in
    subst AreDistinct (sym (c.in_ok-points_at.ensures ∙ ap (map point_of) c.deref.ensures.value))
    (nodes_distinct _ (λ m. get_or numbers m 0) (points_are numbers c.requires.small c.requires.distinct))

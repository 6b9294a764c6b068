use Rattle.std.proofs.Common.{◌≡◌, ap, sym, ◌∙◌, arith}
use Rattle.std.specs.List.{each_same}
use Rattle.upload_core.specs.State.{Goal}
use Rattle.file_upload.proofs.remade.ready_remade.Goals as goal

pub new-requires-2-clause-own : goal.new-requires-2-clause-own
new-requires-2-clause-own g c =
    sym (ap (λ (a : Goal). a.digests) c.new-goal.ensures ∙ c.in_ok-digests.ensures.items_if_clones_equal (λ x y same. each_same x y same.whole) ∙ c.digests.ensures.digests)

pub new-requires-2-clause-long : goal.new-requires-2-clause-long
new-requires-2-clause-long g c =
    let long : c.unwrap-length.result ≡ c.share_length.result = grind (arith, c.new.ensures, c.unwrap-length.ensures, c.share_length.ensures.some, c.share_length.ensures.short) in
    sym (ap (λ (a : Goal). a.share_length) c.new-goal.ensures ∙ long ∙ c.share_length.ensures.length)

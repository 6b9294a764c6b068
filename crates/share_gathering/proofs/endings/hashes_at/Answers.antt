use Rattle.std.proofs.Common.{◌≡◌, [], get_or, ap, sym, ◌∙◌, arith}
use Rattle.std.proofs.lemmas.List.{get_or-map}
use Rattle.share_gathering.proofs.endings.hashes_at.Goals as goal

pub returns : goal.returns
returns c = λ low.
    let hashes = c.args.hashes.now in
    let here : c.min.result ≡ c.args.number = omega (arith, low, c.min.ensures) in
    c.deref.ensures.value ∙ ap (λ (h : _). h.items) (c.index-hashes-min.is ∙ ap (λ n. get_or hashes n c.index-hashes-min.result) here)
    ∙ sym (get_or-map (λ (h : _). h.items) hashes c.args.number c.index-hashes-min.result [] low)

use Rattle.std.proofs.Common.{◌≡◌, ℕ, List, length, map, drop, subst, sym, ◌∙◌}
use Rattle.std.proofs.lemmas.List.{length-take-le, take_at}
use Rattle.zfec_code.specs.Shares.{AreSharesOf}
use Rattle.share_source.proofs.segment.decode_pairs.Goals as goal

pub returns : goal.returns
returns c =
    let whole : ℕ = c.args.whole in
    let made : List ℕ = c.decode.new.out in
    let long : length made ≡ whole = c.decode.auto.out ∙ length-take-le whole c.args.out.now c.requires.room in
    subst (λ (text : List ℕ). AreSharesOf (length c.args.decoder.now) text (map (λ s. s.0) c.args.pairs.now) (map (λ s. s.1.now) c.args.pairs.now))
    (sym (take_at made (drop whole c.args.out.now) whole long)) c.decode.ensures.shares_of

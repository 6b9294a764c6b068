use Rattle.std.proofs.Common.{◌≡◌, ℕ, ◌-◌, ◌*◌, List, length, map, take, drop, ap, sym, subst, ◌∙◌, arith}
use Rattle.std.proofs.lemmas.Grind.{common_steps}
use Rattle.zfec_code.specs.Shares.{AreSharesOf, HaveSize}
use Rattle.share_layout.specs.Pieces.{block_at, block_length}
use Rattle.file_encoding.proofs.Decode.{have_size}
use Rattle.file_encoding.proofs.decoding.push_padded.Goals as goal

pub decode-requires-clause-lengths : goal.decode-requires-clause-lengths
decode-requires-clause-lengths c =
    let room : ℕ = length (take (length c.deref_mut.result.now - c.len-start.result) (drop c.len-start.result c.deref_mut.result.now)) in
    let size : c.from.result * c.block_length.result ≡ c.args.geometry.now.needed * block_length c.args.geometry.now c.args.number =
    (λ i. (c.from.ensures ∙ c.needed.ensures.value) i * c.block_length.ensures.value i) in
    let whole : room ≡ c.from.result * c.block_length.result = grind (arith, common_steps) in
    let count : length c.args.decoder.now ≡ c.args.geometry.now.needed = ap length c.requires.decoder ∙ c.requires.blocks.count in (
      block_length c.args.geometry.now c.args.number,
      subst (λ (k : ℕ). HaveSize k (block_length c.args.geometry.now c.args.number) (map (λ s. s.1.now) c.deref.result.now) room) (sym count)
          (have_size c.args.geometry.now c.args.number (map (λ s. s.0) c.args.blocks.now) (map (λ s. s.1.now) c.args.blocks.now) (map (λ s. s.1.now) c.deref.result.now)
          room c.requires.blocks (ap (map (λ s. s.1.now)) c.deref.ensures.value ∙ c.in_ok-these.ensures.blocks) (whole ∙ size)),
    )

pub returns : goal.returns
returns c =
    let padded : List ℕ = c.decode.new.out in
    let room : ℕ = length (take (length c.deref_mut.result.now - c.len-start.result) (drop c.len-start.result c.deref_mut.result.now)) in
    let size : c.from.result * c.block_length.result ≡ c.args.geometry.now.needed * block_length c.args.geometry.now c.args.number =
    (λ i. (c.from.ensures ∙ c.needed.ensures.value) i * c.block_length.ensures.value i) in
    let whole : room ≡ c.from.result * c.block_length.result = grind (arith, common_steps) in
    let count : length c.args.decoder.now ≡ c.args.geometry.now.needed = ap length c.requires.decoder ∙ c.requires.blocks.count in
    let shares : AreSharesOf c.args.geometry.now.needed padded (map (λ s. s.0) c.args.blocks.now) (map (block_at c.args.geometry.now c.args.number) (map (λ s. s.1.now) c.args.blocks.now)) =
    subst (λ (T : Type 0). T)
    (λ i. AreSharesOf (count i) padded ((ap (map (λ s. s.0)) c.deref.ensures.value ∙ c.in_ok-these.ensures.numbers) i)
    ((ap (map (λ s. s.1.now)) c.deref.ensures.value ∙ c.in_ok-these.ensures.blocks) i)) c.decode.ensures.shares_of in
    (padded, grind (arith, common_steps), c.decode.auto.out ∙ whole ∙ size, shares)

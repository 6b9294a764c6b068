use Rattle.std.proofs.Common.{◌≡◌, ◌*◌, ◌/◌, ◌<◌, ◌≤◌, ◌++◌, ℕ, List, length, get_or, ap, subst, sym, ◌∙◌, arith}
use Rattle.std.proofs.Math.Nat.{mul-div_cancel}
use Rattle.std.proofs.lemmas.Result.{IfOk-weaker}
use Rattle.zfec_code.specs.ShareValue.{share_block}
use Rattle.zfec_code.specs.Shares.{IsShareOf}
use Rattle.file_encoding.specs.Blocks.{padded_block}
use Rattle.file_encoding.specs.Drafts.{DraftState}
use Rattle.file_encoding.proofs.ShareBlock.{share_block-is}
use Rattle.file_encoding.proofs.shares.Common.put_block.Goals as goal

-- what the code writes is the block
block_is : (k n i number : ℕ) (segment block : List ℕ) → 0 < n → n ≤ 256 → ((t : ℕ) → get_or segment t 0 < 256)
    → n ≡ k → number ≡ i → IsShareOf k segment number block → block ≡ padded_block n i segment
block_is k n i number segment block some few bytes same numbered is =
    let share : IsShareOf n segment i block =
    subst (λ (j : ℕ). IsShareOf n segment j block) numbered (subst (λ (m : ℕ). IsShareOf m segment number block) (sym same) is) in
    let long : length segment ≡ length block * n = omega (arith, share.blocks) in
    share_block-is n i segment block few bytes share
    ∙ ap (λ (size : ℕ). share_block n i size segment) (sym (ap (λ (s : ℕ). s / n) long ∙ mul-div_cancel (length block) some))

pub returns : goal.returns
returns c =
    let valid = c.needed.ensures.valid in
    let d : DraftState = c.args.draft.now in
    IfOk-weaker c.put.result _ _
    (λ _ put.
    put
    ∙ ap (λ (b : List ℕ). let after : DraftState = record d { bytes = d.bytes ++ b } in after)
    (block_is _ c.args.self.now.geometry.now.needed d.number _ c.args.segment.now c.encode.new.out valid.some_needed (omega (arith, valid.enough, valid.shares))
    (λ t. (c.type_inv.segment t).fits) c.args.self.now.fit.needed c.number.ensures c.encode.ensures)) c.put.ensures

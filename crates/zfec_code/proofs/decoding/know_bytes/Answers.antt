use Rattle.std.proofs.Common.{◌<◌, ℕ, List, below_more, get_or, subst, sym}
use Rattle.zfec_code.proofs.ShareLists.{block_at}
use Rattle.zfec_code.proofs.decoding.know_bytes.Goals as goal

pub loop-bytes-preserved : goal.loop-bytes-preserved
loop-bytes-preserved c =
    below_more _ _ c.loop-bytes.invariant
    (subst (λ (b : List ℕ). (t : ℕ) → get_or b t 0 < 256) (sym (block_at c.args.shares.now c.loop-bytes.bytes-index _ c.loop-bytes-test.true)) c.know_byte_text.ensures)

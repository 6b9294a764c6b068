use Rattle.std.proofs.Common.{◌<◌, ◌/◌, List, ℕ, [], length, get_or, ap, ◌∙◌, arith}
use Rattle.share_verify.proofs.ChunkLemmas.{first_chunk}
use Rattle.share_verify.proofs.tree.root_in.Goals as goal

pub returns : goal.returns
returns c =
    let section = c.args.section.now in
    let some : 0 < length section / 32 = omega (arith, c.requires) in
    ap (λ (l : List (List ℕ)). get_or l 0 []) c.hashes_in.ensures ∙ first_chunk 32 (length section / 32) section [] some

use Rattle.std.proofs.Common.{◌≡◌, ◌/◌, ◌+◌, length, ap, ◌∙◌, arith}
use Rattle.merkle.specs.Tree.{height}
use Rattle.share_verify.proofs.ChunkLemmas.{length-first_chunks}
use Rattle.share_verify.proofs.sections.has_share_hashes.Goals as goal

pub leads_by_entries-requires-clause-entries : goal.leads_by_entries-requires-clause-entries
leads_by_entries-requires-clause-entries c =
    let hashes = c.args.sections.now.share_hashes.now in
    let count : length hashes / 34 ≡ height c.args.ueb.now.total_shares + 1 = omega (arith, c.requires.hashes) in
    ap length c.entries_in.ensures ∙ length-first_chunks 34 (length hashes / 34) hashes ∙ rw c.total_shares.ensures.value count

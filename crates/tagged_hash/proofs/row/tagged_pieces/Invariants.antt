use Rattle.std.proofs.Common.{◌≡◌, ℕ, ◌*◌, ◌<◌, [], get_or}
use Rattle.tagged_hash.proofs.RowLemmas.{hash_at}
use Rattle.tagged_hash.proofs.row.tagged_pieces.Given as goal

abbrev pub invariant-loop-group : goal.invariant-loop-group
invariant-loop-group l = (k : ℕ) → k < 8 * l.group → k < l.whole → get_or l.hashes k [] ≡ hash_at l.tag l.size l.text k

abbrev pub invariant-loop-i : goal.invariant-loop-i
invariant-loop-i l = (k : ℕ) → k < l.i → get_or l.hashes k [] ≡ hash_at l.tag l.size l.text k

use Rattle.std.proofs.Common.{◌≡◌, ℕ, ◌<◌, [], get_or}
use Rattle.tagged_hash.proofs.RowLemmas.{hash_at}
use Rattle.tagged_hash.proofs.row.hash_group.Given as goal

abbrev pub invariant-loop-j : goal.invariant-loop-j
invariant-loop-j l = (k : ℕ) → k < l.j → get_or l.hashes k [] ≡ hash_at l.tag l.size l.text k

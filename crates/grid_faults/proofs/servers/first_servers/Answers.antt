use Rattle.std.proofs.Common.{refl, arith, ◌≡◌, ℕ, Result, Ok, Err, Vec, IfOk, eqb}
use Rattle.std.specs.List.{IsDistinct, range_with_len}
use Rattle.std.proofs.lemmas.Iterator.{items_from_collect, YieldsList-from_range}
use Rattle.grid_faults.proofs.Numbers.{are_distinct}
use Rattle.grid_faults.proofs.servers.first_servers.Goals as goal

pub returns-clause-numbers : goal.returns-clause-numbers
returns-clause-numbers c =
    items_from_collect _ c.collect.ensures.ran
    (YieldsList-from_range 0 c.args.count c.args.count refl (omega arith))

distinct : {Z E : Type 0} (r : Result (Vec ℕ Z) E) (n : ℕ)
    → IfOk r (λ v. v.items ≡ range_with_len 0 n) → IfOk r (λ v. IsDistinct eqb v.items)
distinct (Ok v) n are = are_distinct v.items n are
distinct (Err e) n are = tt

pub returns-clause-distinct : goal.returns-clause-distinct
returns-clause-distinct c =
    distinct c.collect.result c.args.count (returns-clause-numbers c)

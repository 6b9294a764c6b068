use Rattle.std.proofs.Common.{All, Contains, List, Result, Ok, Err, eqb}
use Rattle.std.specs.Prelude.{IfOk}
use Rattle.std.specs.List.{IsDistinct}
use Rattle.placement.specs.declared.matching.Matching.{Matching}
use Rattle.placement.specs.Matching.{IsBlockedBy, IsHappiness, IsLargestMatching, Pair, servers_of}
use Rattle.upload_core.proofs.ending.largest.Goals as goal

happy : {E : Type 0} (r : Result Matching E) (pairs : List Pair) → IfOk r (λ m. IsLargestMatching pairs m.pairs.items) → IfOk r (λ m. IsBlockedBy m.blocking.items pairs m.pairs.items)
    → IfOk r (λ m. All (Contains (servers_of pairs)) m.blocking.items) → IfOk r (λ m. IsDistinct eqb m.blocking.items) → IfOk r (λ m. IsHappiness pairs m.pairs.items m.blocking.items)
happy (Ok m) pairs largest blocked occur once = record { largest = largest; blocked = blocked; occur = occur; once = once }
happy (Err e) pairs largest blocked occur once = tt

pub returns : goal.returns
returns c =
    let h = c.happiness.ensures in
    happy c.happiness.result c.args.pairs.now h.largest h.blocked h.occur h.once

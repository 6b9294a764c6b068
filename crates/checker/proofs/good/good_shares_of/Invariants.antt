use Rattle.std.proofs.Common.{ℕ, map, Vec, Global}
use Rattle.checker.proofs.GoodLemmas.{AreGoodBelow}
use Rattle.checker.proofs.good.good_shares_of.Given as goal

-- the shares of the numbers before this one
abbrev pub invariant-loop-number : goal.invariant-loop-number
invariant-loop-number l =
    AreGoodBelow l.machine.cap l.machine.requests.entries l.number (map (λ (s : ℕ × Vec ℕ Global). s.0) l.shares.items) (map (λ (s : ℕ × Vec ℕ Global). s.1.items) l.shares.items)

use Rattle.std.proofs.Common.{◌≡◌, ◌++◌, length, ℕ, replicate}
use Rattle.download_shares.specs.BeginningState.{unbegun}
use Rattle.download_shares.proofs.beginnings.begin_more.Given as goal

abbrev pub invariant-loop : goal.invariant-loop
invariant-loop l = ((more : ℕ) × (l.begun.items ≡ l.initial.begun.items ++ replicate more unbegun)) × (length l.begun.items ≡ l.counter)

use Rattle.std.proofs.Common.{◌≡◌, All, length}
use Rattle.download_shares.specs.Numbers.{no_holding}
use Rattle.download_shares.proofs.table.Table.new.Given as goal

abbrev pub invariant-loop : goal.invariant-loop
invariant-loop l = All (λ n. n ≡ no_holding) l.numbers.items × (length l.numbers.items ≡ l.counter)

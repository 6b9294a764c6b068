use Rattle.std.proofs.Common.{◌≡◌, ◌-◌}
use Rattle.wire.specs.Reading.{shares_at}
use Rattle.wire.proofs.SharesLoop.{with_front}
use Rattle.wire.proofs.fields.shares_at.Given as goal

-- what was read, and what the rest gives, is what all of the bytes give
abbrev pub invariant-loop : goal.invariant-loop
invariant-loop l = with_front l.shares.items (shares_at (l.count - l.counter) l.rest) ≡ shares_at l.count l.bytes

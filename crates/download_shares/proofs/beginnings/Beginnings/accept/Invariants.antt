use Rattle.std.proofs.Common.{◌≡◌}
use Rattle.download_shares.specs.Causes.{AddsBlames, IsNumbered, IsOtherHeader}
use Rattle.download_shares.specs.Known.{AreBegun}
use Rattle.download_shares.specs.BeginningMoves.{CountsAsMany, GoesOn}
use Rattle.download_shares.specs.Opening.{AreComparedUpTo}
use Rattle.download_shares.proofs.beginnings.Beginnings.accept.Given as goal

-- those before this one are compared
abbrev pub invariant-loop-holding : goal.invariant-loop-holding
invariant-loop-holding l = record {
  known : AreBegun l.self;
  compared : AreComparedUpTo l.geometry l.found l.holding l.self;
  begun : l.self.begun ≡ l.initial.self.begun;
  requests : l.self.holdings.requests ≡ l.initial.self.holdings.requests;
  causes : AddsBlames (IsOtherHeader l.geometry l.initial.self.holdings.requests.entries) l.initial.self.holdings.blamed l.self.holdings.blamed;
  goes : GoesOn l.initial.self l.self;
  count : CountsAsMany l.initial.self l.self;
  low : AddsBlames (IsNumbered l.initial.self) l.initial.self.holdings.blamed l.self.holdings.blamed;
}

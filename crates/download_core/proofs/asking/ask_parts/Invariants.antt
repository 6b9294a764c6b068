use Rattle.std.proofs.Common.{◌≡◌, take}
use Rattle.download_shares.specs.BeginningMoves.{GoesOn}
use Rattle.download_shares.specs.Reads.{AddsReads}
use Rattle.download_file.specs.Asked.{IsOneOf}
use Rattle.download_core.specs.ReadingSteps.{AsksParts, Grows}
use Rattle.download_core.proofs.asking.ask_parts.Given as goal

-- those before this one are asked
abbrev pub invariant-loop-part : goal.invariant-loop-part
invariant-loop-part l = record {
  asks : AsksParts l.holding (take l.part-index l.wanted) l.initial.beginnings l.beginnings;
  goes : GoesOn l.initial.beginnings l.beginnings;
  grows : Grows l.initial.beginnings l.beginnings;
  blamed : l.beginnings.holdings.blamed ≡ l.initial.beginnings.holdings.blamed;
  adds : AddsReads (λ server share offset len. IsOneOf l.wanted offset len) l.initial.beginnings.holdings.requests.entries l.beginnings.holdings.requests.entries;
}

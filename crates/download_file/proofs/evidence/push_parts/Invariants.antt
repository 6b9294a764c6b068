use Rattle.std.proofs.Common.{◌≡◌, ◌-◌, ◌++◌, Contains, List}
use Rattle.std.specs.List.{range_with_len}
use Rattle.download_segments.specs.GroupState.{GroupState}
use Rattle.download_file.specs.Parts.{AreMadeAmong}
use Rattle.download_file.specs.Steps.{AreSegmentsBy, part_numbers}
use Rattle.download_file.proofs.evidence.push_parts.Given as goal

abbrev pub invariant-loop-number : goal.invariant-loop-number
invariant-loop-number l = record {
  all : part_numbers l.parts.items ≡ part_numbers l.initial.parts.items ++ range_with_len l.group.first (l.number - l.group.first);
  by : AreSegmentsBy l.handout.ueb l.parts.items;
  made : (groups : List GroupState) → Contains groups l.group → AreMadeAmong l.requests.entries l.handout l.readers groups l.initial.parts.items
      → AreMadeAmong l.requests.entries l.handout l.readers groups l.parts.items;
}

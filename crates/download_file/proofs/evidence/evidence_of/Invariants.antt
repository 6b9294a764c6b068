use Rattle.std.proofs.Common.{◌≡◌, take}
use Rattle.std.specs.List.{flat_map}
use Rattle.download_segments.specs.GroupState.{segments_in}
use Rattle.download_file.specs.Parts.{AreMadeAmong}
use Rattle.download_file.specs.Steps.{AreSegmentsBy, part_numbers}
use Rattle.download_file.proofs.evidence.evidence_of.Given as goal

abbrev pub invariant-loop-group : goal.invariant-loop-group
invariant-loop-group l = record {
  all : part_numbers l.parts.items ≡ flat_map segments_in (take l.group-index l.groups);
  by : AreSegmentsBy l.handout.ueb l.parts.items;
  made : AreMadeAmong l.requests.entries l.handout l.readers l.groups l.parts.items;
}

use Rattle.std.proofs.Common.{◌≡◌, ◌+◌, ◌++◌, take}
use Rattle.download_file.specs.State.{waiting_from}
use Rattle.download_file.proofs.reader.wait_for.Given as goal

abbrev pub invariant-loop-part : goal.invariant-loop-part
invariant-loop-part l = record {
  waiting : l.waiting.items ≡ l.initial.waiting.items ++ waiting_from l.initial.position (take l.part-index l.wanted);
  position : l.position ≡ l.initial.position + l.part-index;
}

use Rattle.std.proofs.Common.{◌≡◌, take}
use Rattle.grid_surveys.specs.Looks.{json_name}
use Rattle.grid_surveys.proofs.objects.written.Given as goal

abbrev pub invariant-loop-byte : goal.invariant-loop-byte
invariant-loop-byte l = l.text.items ≡ json_name l.odd (take l.byte-index l.name)

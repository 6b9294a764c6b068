use Rattle.std.proofs.Common.{◌≡◌, map}
use Rattle.std.specs.Str.{encode_utf8_all}
use Rattle.std.specs.String.{string_bytes}
use Rattle.grid_faults.specs.ToldPath.{told_char}
use Rattle.grid_faults.proofs.paths.told_path.Given as goal

abbrev pub invariant-loop-letter : goal.invariant-loop-letter
invariant-loop-letter l = string_bytes l.told ≡ encode_utf8_all (map told_char l.yielded)

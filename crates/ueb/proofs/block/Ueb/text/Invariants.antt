use Rattle.std.proofs.Common.{◌≡◌, take, map}
use Rattle.ueb.specs.declared.key.TheConstants.Key.{ALL}
use Rattle.ueb.specs.Fields.{fields_text}
use Rattle.ueb.specs.Block.{known_field}
use Rattle.ueb.proofs.block.Ueb.text.Given as goal

abbrev pub invariant-loop-key : goal.invariant-loop-key
invariant-loop-key l = l.text.items ≡ fields_text (map (known_field l.self) (take l.key-index ALL))

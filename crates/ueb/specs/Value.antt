-- What stands under a key.
use Rattle.std.specs.Prelude.{ℕ, List, decimal}
use Rattle.ueb.specs.declared.values.Value.{Value}
use Rattle.ueb.specs.declared.values.Value.TheVariants.{Bytes, Number, Params}
use Rattle.ueb.specs.Shape.{codec_params}

abbrev pub value_bytes : Value → List ℕ
value_bytes (Bytes bytes) = bytes.now
value_bytes (Number number) = decimal number
value_bytes (Params size needed total) = codec_params size needed total

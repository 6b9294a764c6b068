-- The number of each refusal.
use Rattle.std.specs.Prelude.{ℕ}
use Rattle.file_encoding.specs.declared.error.EncodeError.{EncodeError}
use Rattle.file_encoding.specs.declared.error.EncodeError.TheVariants as encodings
use Rattle.file_encoding.specs.declared.reading.ReadError.{ReadError}
use Rattle.file_encoding.specs.declared.reading.ReadError.TheVariants as readings
use Rattle.file_encoding.specs.declared.repair.RegenerateError.{RegenerateError}
use Rattle.file_encoding.specs.declared.repair.RegenerateError.TheVariants as anew

abbrev pub encode_refusal_number : EncodeError → ℕ
encode_refusal_number encodings.OutOfMemory = 1
encode_refusal_number encodings.BadParameters = 2
encode_refusal_number encodings.TooLarge = 30
encode_refusal_number encodings.TooManySegments = 31

abbrev pub read_refusal_number : ReadError → ℕ
read_refusal_number readings.OutOfMemory = 1
read_refusal_number readings.NotEnoughShares = 71
read_refusal_number readings.Inconsistent = 72

abbrev pub regenerate_refusal_number : RegenerateError → ℕ
regenerate_refusal_number anew.OutOfMemory = 1
regenerate_refusal_number anew.BadNumber = 2
regenerate_refusal_number anew.NotEnoughShares = 71
regenerate_refusal_number anew.Inconsistent = 72

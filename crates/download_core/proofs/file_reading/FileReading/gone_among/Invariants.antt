use Rattle.std.proofs.Common.{Contains, take, ℕ}
use Rattle.download_core.specs.Reading.{IsGone}
use Rattle.download_core.proofs.file_reading.FileReading.gone_among.Given as goal

-- none of those before this one is gone
abbrev pub invariant-loop-reader : goal.invariant-loop-reader
invariant-loop-reader l = (q : ℕ) → Contains (take l.reader-index l.readers) q → IsGone l.beginnings l.self q → ⊥

-- A body behind its length.
use Rattle.std.specs.Prelude.{ℕ, List, ◌++◌, length}
use Rattle.std.specs.Int.{w32, to_be_bytes}

abbrev pub framed : List ℕ → List ℕ
framed body = to_be_bytes w32 (length body) ++ body

use Rattle.std.proofs.Common.{◌≡◌, ◌+◌, ◌*◌, ◌++◌, List, ℕ, length, take}
use Rattle.file_encoding.specs.Blocks.{numbered}
use Rattle.file_encoding.specs.Drafts.{DraftState}
use Rattle.file_encoding.proofs.shares.put_numbered.Given as goal

pub record Put (nodes : List (List ℕ)) (numbers : List ℕ) (before now : DraftState) (index : ℕ) : Type 0 where
  pub bytes : now ≡ record before { bytes = before.bytes ++ numbered nodes (take index numbers) }
  pub size : length now.bytes ≡ length before.bytes + index * 34

abbrev pub invariant-loop-number : goal.invariant-loop-number
invariant-loop-number l = Put l.nodes l.numbers l.initial.draft l.draft l.number-index

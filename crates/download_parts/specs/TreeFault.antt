-- The number of each refusal of bytes of a share.
use Rattle.std.specs.Prelude.{ℕ}
use Rattle.share_verify.specs.Checks.{check_number}
use Rattle.download_parts.specs.declared.error.TreeFault.{TreeFault}
use Rattle.download_parts.specs.declared.error.TreeFault.TheVariants.{OutOfMemory, Check}

abbrev pub fault_number : TreeFault → ℕ
fault_number OutOfMemory = 1
fault_number (Check check) = check_number check

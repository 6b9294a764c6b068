-- The checks of a share one by one, and the numbers of what fails them.
use Rattle.std.specs.Prelude.{ℕ, List}
use Rattle.cap_text.specs.Cap.{VerifyCapValue}
use Rattle.ueb.specs.Shape.{Contents}
use Rattle.share_layout.specs.Offsets.{LocatesUeb}
use Rattle.share_layout.specs.Share.{Sections}
use Rattle.share_verify.specs.CapBlock.{IsUebFor}
use Rattle.share_verify.specs.Verify.{HasBlockTree, HasBlocks, HasCiphertextTree, HasShareHashes}
use Rattle.share_verify.specs.Verify.{HasZeros, IsFirstFault, IsSoundShare, ReadsAs}
use Rattle.share_verify.specs.declared.check.Check.{Check}
use Rattle.share_verify.specs.declared.check.Check.TheVariants as checks
use Rattle.share_verify.specs.declared.fault.ShareFault.{ShareFault}
use Rattle.share_verify.specs.declared.fault.ShareFault.TheVariants as faults

-- the check that a fault is of
abbrev pub check_of : ShareFault → Check
check_of (faults.Layout error) = checks.Layout
check_of faults.OtherUeb = checks.Ueb
check_of (faults.Ueb error) = checks.Ueb
check_of faults.Unused = checks.Unused
check_of faults.CiphertextTree = checks.CiphertextTree
check_of faults.BlockTree = checks.BlockTree
check_of faults.ShareHashes = checks.ShareHashes
check_of faults.Data = checks.Data

-- the number of the refusal of a share that does not pass a check
abbrev pub check_number : Check → ℕ
check_number checks.Layout = 40
check_number checks.Unused = 41
check_number checks.Ueb = 42
check_number checks.CiphertextTree = 43
check_number checks.BlockTree = 44
check_number checks.ShareHashes = 45
check_number checks.Data = 46

-- the number of a fault
abbrev pub fault_number : ShareFault → ℕ
fault_number fault = check_number (check_of fault)

-- the share reads as one of this number, and its sections pass a test
abbrev pub ReadsWith : VerifyCapValue → ℕ → List ℕ → (Contents → Sections → Type 0) → Type 0
ReadsWith cap num share Test =
    (u : Contents) × (s : Sections) × ReadsAs cap num share u s × Test u s

-- The share passes this check. What the share itself has to lead from the extension block's roots
-- is asked together: the share hashes lead from the block tree, and the blocks are those of a block
-- tree from which the share hashes lead.
abbrev pub Passes : VerifyCapValue → ℕ → List ℕ → Check → Type 0
Passes cap num share checks.Layout = (u : Contents) × (s : Sections) × ReadsAs cap num share u s
Passes cap num share checks.Ueb =
    (block : List ℕ) × (u : Contents) × LocatesUeb share block × IsUebFor cap block u
Passes cap num share checks.Unused = ReadsWith cap num share (λ u s. HasZeros s)
Passes cap num share checks.CiphertextTree = ReadsWith cap num share HasCiphertextTree
Passes cap num share checks.BlockTree = ReadsWith cap num share HasBlockTree
Passes cap num share checks.ShareHashes =
    ReadsWith cap num share (λ u s. HasBlockTree u s × HasShareHashes u num s)
Passes cap num share checks.Data =
    ReadsWith cap num share (λ u s. HasBlockTree u s × HasShareHashes u num s × HasBlocks u s)

-- a law: a share that passes all that `verify_share` asks passes each check
abbrev pub SoundSharesPass : Type 0
SoundSharesPass = (cap : VerifyCapValue) (num : ℕ) (share : List ℕ) (check : Check)
    → IsSoundShare cap num share → Passes cap num share check

-- a law: the first fault of a share is one of a check that the share does not pass
abbrev pub FirstFaultsFail : Type 0
FirstFaultsFail = (cap : VerifyCapValue) (num : ℕ) (share : List ℕ) (fault : ShareFault)
    → IsFirstFault cap num share fault → ¬ Passes cap num share (check_of fault)

-- A share that passes every check passes each.
use Rattle.std.specs.Prelude.{ℕ, List}
use Rattle.cap_text.specs.Cap.{VerifyCapValue}
use Rattle.share_verify.specs.Checks.{Passes}
use Rattle.share_verify.specs.Verify.{IsSoundShare}
use Rattle.share_verify.specs.declared.check.Check.{Check}
use Rattle.share_verify.specs.declared.check.Check.TheVariants.{Layout, Ueb, Unused, CiphertextTree, BlockTree, ShareHashes, Data}

pub sound_passes : (c : VerifyCapValue) (num : ℕ) (share : List ℕ) (check : Check) → IsSoundShare c num share → Passes c num share check
sound_passes c num share Layout h = (h.0, h.1, h.2.reads)
sound_passes c num share Ueb h = (h.1.extension_block, h.0, h.2.reads.located, h.2.reads.ueb)
sound_passes c num share Unused h = (h.0, h.1, h.2.reads, h.2.sections.unused)
sound_passes c num share CiphertextTree h = (h.0, h.1, h.2.reads, h.2.sections.ciphertext_tree)
sound_passes c num share BlockTree h = (h.0, h.1, h.2.reads, h.2.sections.block_tree)
sound_passes c num share ShareHashes h = (h.0, h.1, h.2.reads, (h.2.sections.block_tree, h.2.sections.share_hashes))
sound_passes c num share Data h = (h.0, h.1, h.2.reads, (h.2.sections.block_tree, h.2.sections.share_hashes, h.2.sections.blocks))

-- What a share's bytes are to the digest in its name.
use Rattle.std.specs.Prelude.{◌≡◌, ℕ, List, Option, IfSome}
use Rattle.tagged_hash.specs.TaggedHash.{share_digest}
use Rattle.share_files.specs.declared.bytes.Verdict.{Verdict}
use Rattle.share_files.specs.declared.bytes.Verdict.TheVariants.{Whole, Damaged}

-- whole where they have the digest, and damaged where they have another
abbrev pub IsVerdict : Verdict → List ℕ → List ℕ → Type 0
IsVerdict Whole digest bytes = share_digest bytes ≡ digest
IsVerdict Damaged digest bytes = ¬ (share_digest bytes ≡ digest)

-- A file was opened, and its bytes, where they are known, are this to the digest.
abbrev pub IsReadAs : {F : Type 0} → (F → Option (List ℕ)) → List ℕ → Verdict → Type 0
IsReadAs {F = F} remaining digest verdict =
    (file : F) × IfSome (remaining file) (λ bytes. IsVerdict verdict digest bytes)

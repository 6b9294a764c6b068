-- Which shares are relied on.
use Rattle.std.specs.Prelude.{◌≡◌, ◌++◌, ℕ, List, true, false, codes}
use Rattle.tagged_hash.specs.TaggedHash.{share_digest}
use Rattle.disks.specs.Names.{Relied}
use Rattle.share_store.specs.Shelf.{ShareKey}
use Rattle.share_folders.specs.Names.{IsNamed, closed_name}

-- A share is relied on under its closed name where its bytes have the digest in that.
abbrev pub IsReliedWhole : Relied → ShareKey → List ℕ → Type 0
IsReliedWhole relied key digest =
    (bytes : List ℕ) → share_digest bytes ≡ digest → relied (closed_name key digest) bytes ≡ true

-- No more is, of the files of shares: no other bytes under a closed name, and nothing under a name
-- that goes on behind a closed one, as those of files that are set aside do.
abbrev pub AreWholeAlone : Relied → Type 0
AreWholeAlone relied = (key : ShareKey) (digest bytes : List ℕ) → IsNamed key digest
    → (relied (closed_name key digest) bytes ≡ true → share_digest bytes ≡ digest)
    × ((end : List ℕ) → relied (closed_name key digest ++ codes "." ++ end) bytes ≡ false)

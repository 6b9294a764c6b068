-- What was seen of a file that a scrub finds, by what was done.
use Rattle.std.specs.Prelude.{ℕ, List, Bool, true, Option}
use Rattle.share_files.specs.declared.acts.Act.{Act}
use Rattle.share_files.specs.declared.acts.Act.TheVariants as acts
use Rattle.share_files.specs.declared.acts.Standing.TheVariants as standings
use Rattle.share_files.specs.declared.bytes.Verdict.TheVariants as verdicts
use Rattle.share_files.specs.declared.name.FileKind.{FileKind}
use Rattle.share_files.specs.declared.name.FileKind.TheVariants as kinds
use Rattle.share_files.specs.declared.name.ShareFile.{ShareFile}
use Rattle.share_files.specs.Acts.{Was}
use Rattle.share_files.specs.Verdict.{IsReadAs}
use Rattle.share_scrub.specs.declared.folder.Finding.{Finding}
use Rattle.share_scrub.specs.declared.folder.State.{State}
use Rattle.share_scrub.specs.declared.folder.State.TheVariants as states

-- a regular file of so many bytes stood under a file's name
abbrev pub StoodThere : ShareFile → ℕ → List Act → Type 0
StoodThere file bytes done =
    (is_left_over : Bool) × Was (acts.Found file (standings.Regular bytes is_left_over)) done

-- The bytes of a closed share's file were read, and have the digest in its name, or another; or
-- they could not be read to their end; or something else stood there.
abbrev pub IsSeenClosed : ShareFile → List ℕ → List Act → State → Type 0
IsSeenClosed file digest done states.Whole =
    Was (acts.Judged file digest verdicts.Whole) done
IsSeenClosed file digest done (states.Damaged action) =
    Was (acts.Judged file digest verdicts.Damaged) done
IsSeenClosed file digest done (states.Unreadable error) = Was (acts.Failed file) done
IsSeenClosed file digest done states.Odd = Was (acts.Found file standings.Odd) done
IsSeenClosed file digest done _ = ⊥

-- an open share's file was left over
abbrev pub IsSeenOpen : ShareFile → List Act → State → Type 0
IsSeenOpen file done (states.LeftOpen bytes action) =
    Was (acts.Found file (standings.Regular bytes true)) done
IsSeenOpen file done (states.Unreadable error) = Was (acts.Failed file) done
IsSeenOpen file done _ = ⊥

-- a file that is on its way, or was set aside, has so many bytes
abbrev pub IsSeenHalf : ShareFile → List Act → State → Type 0
IsSeenHalf file done (states.HalfAside bytes action) = StoodThere file bytes done
IsSeenHalf file done _ = ⊥

abbrev pub IsSeenAside : ShareFile → List Act → State → Type 0
IsSeenAside file done (states.Aside bytes action) = StoodThere file bytes done
IsSeenAside file done _ = ⊥

-- what was seen of a file, by its kind
abbrev pub IsSeenAs : ShareFile → FileKind → List Act → State → Type 0
IsSeenAs file (kinds.Closed digest) = IsSeenClosed file digest
IsSeenAs file (kinds.Open own) = IsSeenOpen file
IsSeenAs file (kinds.HalfAside digest own) = IsSeenHalf file
IsSeenAs file (kinds.Aside digest number) = IsSeenAside file

-- by what was done, it was seen so
abbrev pub IsSeen : ShareFile → State → Type 0
IsSeen file state = (done : List Act) × IsSeenAs file file.kind done state

-- a file is told as it was seen
abbrev pub WasSeen : Finding → Type 0
WasSeen finding = IsSeen finding.file finding.state

-- what is told of the bytes of a closed share's file, as whole or as damaged, is true of those of a
-- file that was opened
abbrev pub IsReadSo : {F : Type 0} → (F → Option (List ℕ)) → FileKind → State → Type 0
IsReadSo remaining (kinds.Closed digest) states.Whole = IsReadAs remaining digest verdicts.Whole
IsReadSo remaining (kinds.Closed digest) (states.Damaged action) =
    IsReadAs remaining digest verdicts.Damaged
IsReadSo remaining _ _ = Unit

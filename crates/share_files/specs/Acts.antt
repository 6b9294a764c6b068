-- What may be done to the files of a folder, and what was. The last act stands first.
use Rattle.std.specs.Prelude.{◌≡◌, ℕ, ◌⊎◌, List, [], ◌∷◌, Option, None, Some, Bool, true, false}
use Rattle.std.specs.Prelude.{filter, length}
use Rattle.share_files.specs.declared.acts.Act.{Act}
use Rattle.share_files.specs.declared.acts.Act.TheVariants.{Listed, Found, Judged, Made}
use Rattle.share_files.specs.declared.acts.Act.TheVariants.{Moved, Removed, Gone, Failed}
use Rattle.share_files.specs.declared.acts.Standing.TheVariants.{Regular}
use Rattle.share_files.specs.declared.bytes.Verdict.TheVariants.{Whole, Damaged}
use Rattle.share_files.specs.declared.fate.Claim.{Claim}
use Rattle.share_files.specs.declared.fate.Fate.{Fate}
use Rattle.share_files.specs.declared.fate.Fate.TheVariants.{Keep, Read, SetAside}
use Rattle.share_files.specs.declared.fate.Wanted.{Wanted}
use Rattle.share_files.specs.declared.name.FileKind.{FileKind}
use Rattle.share_files.specs.declared.name.FileKind.TheVariants.{Closed, Open, HalfAside, Aside}
use Rattle.share_files.specs.declared.name.ShareFile.{ShareFile}
use Rattle.share_files.specs.Fates.{fate_of}

-- an act that came
abbrev pub Was : Act → List Act → Type 0
Was act [] = ⊥
Was act (last ∷ before) = (last ≡ act) ⊎ Was act before

-- ---- what was found

-- what a closed share's file is by its name and its length, which was found under a file's name
abbrev pub claim_of : ShareFile → List ℕ → ℕ → Claim
claim_of file digest length = record { share = file.key.1; digest = digest; length = Some length }

-- a file was found whose fate this is by the digest in its name and its length
pub record WasFound (wanted : Option Wanted) (file : ShareFile) (digest : List ℕ) (fate : Fate)
    (acts : List Act) : Type 0 where
  pub length : ℕ
  pub is_left_over : Bool
  pub found : Was (Found file (Regular length is_left_over)) acts
  pub is : fate_of (claim_of file digest length) wanted ≡ fate

-- a closed share's file was found to be none of those that are wanted: by its length or its name,
-- or where its bytes tell by these
abbrev pub IsNone : Option Wanted → ShareFile → List ℕ → List Act → Type 0
IsNone wanted file digest acts =
    WasFound wanted file digest SetAside acts
    ⊎ (WasFound wanted file digest Read acts × Was (Judged file digest Damaged) acts)

-- the same of one that is on its way, whose bytes tell in any case
abbrev pub IsNoneThere : Option Wanted → ShareFile → List ℕ → List Act → Type 0
IsNoneThere wanted file digest acts =
    WasFound wanted file digest SetAside acts ⊎ Was (Judged file digest Damaged) acts

-- a closed share's file was found right: by its length and its name, or where its bytes tell by
-- these
abbrev pub IsRight : Option Wanted → ShareFile → List ℕ → List Act → Type 0
IsRight wanted file digest acts =
    WasFound wanted file digest Keep acts
    ⊎ (WasFound wanted file digest Read acts × Was (Judged file digest Whole) acts)

-- a closed share's file is away: none stands under its name, or it got another
abbrev pub IsAway : ShareFile → List Act → Type 0
IsAway file acts = Was (Gone file) acts ⊎ ((to : ShareFile) × Was (Moved file to) acts)

-- ---- what may be done

-- an empty file was made just now under this name
abbrev pub WasMade : ShareFile → List Act → Type 0
WasMade file (Made made ∷ before) = made ≡ file
WasMade file _ = ⊥

-- and then nothing got that name
abbrev pub WasMadeInVain : ShareFile → List Act → Type 0
WasMadeInVain file (Gone _ ∷ before) = WasMade file before
WasMadeInVain file (Failed _ ∷ before) = WasMade file before
WasMadeInVain file _ = ⊥

-- A file may get a name of another kind: a closed share's that is none of those wanted, a name on
-- its way; and from there what is none, one of those set aside that was free, and what is whole its
-- closed name.
abbrev pub MayGo : Option Wanted → ShareFile → ShareFile → FileKind → FileKind → List Act → Type 0
MayGo wanted from to (Closed digest) (HalfAside other own) before =
    (digest ≡ other) × IsNone wanted from digest before
MayGo wanted from to (HalfAside digest own) (Aside other number) before =
    (digest ≡ other) × WasMade to before × IsNoneThere wanted from digest before
MayGo wanted from to (HalfAside digest own) (Closed other) before =
    (digest ≡ other) × Was (Judged from digest Whole) before
MayGo wanted from to _ _ before = ⊥

-- an open share's file that was found left over, and an empty one that was made in vain
abbrev pub MayBeRemoved : ShareFile → FileKind → List Act → Type 0
MayBeRemoved file (Open own) before =
    (length : ℕ) × Was (Found file (Regular length true)) before
MayBeRemoved file (Aside digest number) before = WasMadeInVain file before
MayBeRemoved file _ before = ⊥

-- a file is one of those that are wanted
abbrev pub IsOf : Option Wanted → ShareFile → Type 0
IsOf None file = Unit
IsOf (Some wanted) file = file.key.0 ≡ wanted.index

abbrev pub MayBe : Option Wanted → Act → List Act → Type 0
MayBe wanted (Moved from to) before =
    IsOf wanted from × (from.key ≡ to.key) × MayGo wanted from to from.kind to.kind before
MayBe wanted (Removed file) before = IsOf wanted file × MayBeRemoved file file.kind before
MayBe wanted _ before = Unit

-- each act might come after those before it
abbrev pub AreAllowed : Option Wanted → List Act → Type 0
AreAllowed wanted [] = Unit
AreAllowed wanted (act ∷ before) = MayBe wanted act before × AreAllowed wanted before

-- ---- what was counted

abbrev pub is_aside : FileKind → Bool
is_aside (Aside digest number) = true
is_aside _ = false

abbrev pub is_open : FileKind → Bool
is_open (Open own) = true
is_open _ = false

abbrev pub sets_aside : Act → Bool
sets_aside (Moved from to) = is_aside to.kind
sets_aside _ = false

abbrev pub removes_open : Act → Bool
removes_open (Removed file) = is_open file.kind
removes_open _ = false

-- how many files were set aside, and how many open ones were removed
abbrev pub asides : List Act → ℕ
asides acts = length (filter sets_aside acts)

abbrev pub removals : List Act → ℕ
removals acts = length (filter removes_open acts)

-- ---- what was listed

abbrev pub listed_by : Act → Option (List ShareFile) → Option (List ShareFile)
listed_by (Listed files) before = Some files.value.items
listed_by _ before = before

-- the files of the last listing
abbrev pub last_listed : List Act → Option (List ShareFile)
last_listed [] = None
last_listed (act ∷ before) = listed_by act (last_listed before)

abbrev pub IsListing : Act → List ShareFile → Type 0
IsListing (Listed listed) files = listed.value.items ≡ files
IsListing _ files = ⊥

-- these files were listed just now
abbrev pub Lists : List ShareFile → List Act → List Act → Type 0
Lists files old new = (act : Act) × IsListing act files × (new ≡ act ∷ old)

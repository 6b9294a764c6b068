-- The names of share files.
use Rattle.std.specs.Prelude.{ℕ, ◌<◌, List, ◌++◌, codes, decimal, if◌then◌else◌, nat_eq}
use Rattle.cap_text.specs.Base32.{base32}
use Rattle.share_folders.specs.Names.{closed_name, open_name}
use Rattle.share_folders.specs.declared.names.ClosedName.{ClosedName}
use Rattle.share_store.specs.Shelf.{ShareKey}
use Rattle.share_files.specs.declared.name.ShareFile.{ShareFile}
use Rattle.share_files.specs.declared.name.FileKind.{FileKind}
use Rattle.share_files.specs.declared.name.FileKind.TheVariants.{Closed, Open, HalfAside, Aside}

-- behind the closed name of a file that is on its way to be set aside stands what it has of its own
abbrev pub half_name : ShareKey → List ℕ → List ℕ → List ℕ
half_name key digest own =
    closed_name key digest ++ codes "." ++ base32 own ++ codes ".aside"

-- what stands behind the closed name of a file that is set aside: the first has no number
abbrev pub aside_end : ℕ → List ℕ
aside_end number = if nat_eq number 1 then codes ".damaged" else codes ".damaged." ++ decimal number

abbrev pub aside_name : ShareKey → List ℕ → ℕ → List ℕ
aside_name key digest number = closed_name key digest ++ aside_end number

-- so many files of one closed name are set aside, and one of an earlier version has the number 0
abbrev pub IsAsideNumber : ℕ → Type 0
IsAsideNumber number = number < 100

abbrev pub name_by : ShareKey → FileKind → List ℕ
name_by key (Closed digest) = closed_name key digest
name_by key (Open own) = open_name key own
name_by key (HalfAside digest own) = half_name key digest own
name_by key (Aside digest number) = aside_name key digest number

abbrev pub file_name : ShareFile → List ℕ
file_name file = name_by file.key file.kind

-- the file of a closed share under its closed name, on its way to be set aside, and set aside
abbrev pub closed_file : ClosedName → ShareFile
closed_file name = record { key = name.key; kind = Closed name.digest }

abbrev pub half_file : ClosedName → List ℕ → ShareFile
half_file name own = record { key = name.key; kind = HalfAside name.digest own }

abbrev pub aside_file : ClosedName → ℕ → ShareFile
aside_file name number = record { key = name.key; kind = Aside name.digest number }

-- The share files of a folder that are known, as it was listed once.
use Rattle.std.specs.Prelude.{◌≡◌, ℕ, Bool, List, [], None, option_map}
use Rattle.std.specs.BTreeMap.{BTreeMap, UpdatesBy, get}
use Rattle.std.specs.Cmp.Lexicographic.{slice_cmp}
use Rattle.std.specs.Global.{Vec}
use Rattle.std.specs.List.{AllByRecursion, Contains}
use Rattle.std.specs.Option.{unwrap_or}
use Rattle.std.specs.Ordering.{nat_cmp}
use Rattle.std.specs.Str.{bytes_eq}
use Rattle.share_files.specs.declared.name.ShareFile.{ShareFile}

-- these files have all that are of a storage index
abbrev pub HasAllOf : List ℕ → List ShareFile → List ShareFile → Type 0
HasAllOf index files = AllByRecursion (λ f. f.key.0 ≡ index → Contains files f)

-- ---- words of private clauses

-- whether a file is of a storage index
abbrev pub is_of : List ℕ → ShareFile → Bool
is_of index file = bytes_eq file.key.0 index

-- files by the storage indices of their shares
abbrev pub ByIndex : Type 0
ByIndex = BTreeMap (List ℕ) (Vec ShareFile)

-- those under a storage index
abbrev pub under : ByIndex → List ℕ → List ShareFile
under map index = unwrap_or (option_map (λ v. v.items) (get (slice_cmp nat_cmp) map index)) []

-- each of these files stands under its storage index
abbrev pub StandUnder : ByIndex → List ShareFile → Type 0
StandUnder map = AllByRecursion (λ f. Contains (under map f.key.0) f)

-- those under a storage index are taken away
abbrev pub TakesFrom : ByIndex → ByIndex → List ℕ → Type 0
TakesFrom old new index = UpdatesBy (slice_cmp nat_cmp) (slice_cmp nat_cmp index) old new None

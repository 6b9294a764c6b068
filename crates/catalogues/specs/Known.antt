-- What a catalogue tells of files by their names.
use Rattle.std.specs.Prelude.{◌≡◌, ◌≢◌, ◌+◌, ◌++◌, ℕ, List, [], Option, None, Some}
use Rattle.std.specs.Prelude.{fold, if◌then◌else◌, length}
use Rattle.std.specs.BTreeMap.{BTreeMap, get_by}
use Rattle.std.specs.Cmp.Lexicographic.{slice_cmp}
use Rattle.std.specs.Global.{Vec}
use Rattle.std.specs.List.{AllByRecursion, flat_map}
use Rattle.std.specs.Ordering.{nat_cmp}
use Rattle.std.specs.Str.{bytes_eq}
use Rattle.cap_text.specs.declared.cap.Cap.{Cap}
use Rattle.catalogues.specs.Catalogues.{BeginsWithHead, Entry, HasNoLine, IsEntry, entry_text}
use Rattle.catalogues.specs.declared.error.CatalogueError.{CatalogueError}
use Rattle.catalogues.specs.declared.error.CatalogueError.TheVariants.{NotALine}
use Rattle.catalogues.specs.declared.known.Known.{Known}

-- the cap of the last entry of a name, where there is one
abbrev pub last_cap : List ℕ → List Entry → Option Cap
last_cap name entries =
    fold (λ found e. if bytes_eq e.name name then Some e.cap else found) None entries

-- the cap under a name
abbrev pub cap_under : BTreeMap (Vec ℕ) Cap → List ℕ → Option Cap
cap_under caps name = get_by (λ n. slice_cmp nat_cmp name n.items) caps

-- the cap that a catalogue is known to have for a name
abbrev pub cap_of : Known → List ℕ → Option Cap
cap_of known name = cap_under known.caps name

-- how a text ends behind so many files: there is nothing more, or no line
abbrev pub IsReadTo : Option CatalogueError → ℕ → List ℕ → Type 0
IsReadTo None count left = left ≡ []
IsReadTo (Some fault) count left = (fault ≡ NotALine (count + 2)) × (left ≢ []) × HasNoLine left

-- These caps have the names of a text behind its first line: it begins with the lines of entries,
-- of which the last of a name has its cap.
pub record AreRead (rest : List ℕ) (caps : BTreeMap (Vec ℕ) Cap)
    (fault : Option CatalogueError) : Type 0 where
  pub entries : List Entry
  pub are : AllByRecursion IsEntry entries
  pub left : List ℕ
  pub lines : rest ≡ flat_map entry_text entries ++ left
  pub ends : IsReadTo fault (length entries) left
  pub caps_are : (name : List ℕ) → cap_under caps name ≡ last_cap name entries

-- This is known of a text, which begins with a first line.
pub record IsKnownFrom (text : List ℕ) (known : Known) : Type 0 where
  pub rest : List ℕ
  pub begins : BeginsWithHead text known.head rest
  pub files : AreRead rest known.caps known.fault

-- The refusals' numbers and names.
use Rattle.std.specs.Prelude.{ℕ, List, ◌++◌, codes}
use Rattle.share_layout.specs.declared.error.LayoutError.{LayoutError}
use Rattle.share_layout.specs.declared.error.LayoutError.TheVariants.{BadParameters, TooLarge}
use Rattle.share_layout.specs.declared.error.LayoutError.TheVariants.{TooManySegments, BadVersion}
use Rattle.share_layout.specs.declared.error.LayoutError.TheVariants.{BadOffset, Truncated}
use Rattle.share_layout.specs.declared.error.LayoutError.TheVariants.{BadShareHashes, WriterFault}
use Rattle.share_layout.specs.declared.error.Section.{Section}
use Rattle.share_layout.specs.declared.error.Section.TheVariants.{Header, Data, Unused}
use Rattle.share_layout.specs.declared.error.Section.TheVariants.{CiphertextTree, BlockTree}
use Rattle.share_layout.specs.declared.error.Section.TheVariants.{ShareHashes, Ueb}

abbrev pub number_of : LayoutError → ℕ
number_of BadParameters = 2
number_of TooLarge = 30
number_of TooManySegments = 31
number_of BadVersion = 32
number_of BadOffset = 33
number_of (Truncated section) = 34
number_of BadShareHashes = 35
number_of WriterFault = 36

abbrev pub section_name : Section → List ℕ
section_name Header = codes "Header"
section_name Data = codes "Data"
section_name Unused = codes "Unused"
section_name CiphertextTree = codes "CiphertextTree"
section_name BlockTree = codes "BlockTree"
section_name ShareHashes = codes "ShareHashes"
section_name Ueb = codes "Ueb"

-- the name, and the section that it is about
abbrev pub name_of : LayoutError → List ℕ
name_of BadParameters = codes "BadParameters"
name_of TooLarge = codes "TooLarge"
name_of TooManySegments = codes "TooManySegments"
name_of BadVersion = codes "BadVersion"
name_of BadOffset = codes "BadOffset"
name_of (Truncated section) = codes "Truncated " ++ section_name section
name_of BadShareHashes = codes "BadShareHashes"
name_of WriterFault = codes "WriterFault"

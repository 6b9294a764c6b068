-- The line that tells how far a command is.
use Rattle.std.specs.Prelude.{ℕ, List, [], ◌++◌, ◌*◌, ◌-◌, ◌/◌, codes, decimal}
use Rattle.grid_faults.specs.Servers.{server_name}
use Rattle.grid_telling.specs.declared.progress_lines.Amount.{Amount}
use Rattle.grid_telling.specs.declared.progress_lines.FileCount.{FileCount}
use Rattle.grid_telling.specs.declared.progress_lines.Remark.{Remark}
use Rattle.grid_telling.specs.declared.progress_lines.Remark.TheVariants.{Nothing, Left, WaitsFor}
use Rattle.grid_telling.specs.declared.progress_lines.Verb.{Verb}
use Rattle.grid_telling.specs.declared.progress_lines.Verb.TheVariants.{Put, Get, Check}
use Rattle.grid_telling.specs.declared.progress_lines.Verb.TheVariants.{Repair, Scrub, Verify}

abbrev pub verb_text : Verb → List ℕ
verb_text Put = codes "put"
verb_text Get = codes "get"
verb_text Check = codes "check"
verb_text Verify = codes "verify"
verb_text Repair = codes "repair"
verb_text Scrub = codes "scrub"

abbrev pub left_text : ℕ → List ℕ
left_text seconds = codes ", " ++ (decimal seconds ++ codes " s left")

abbrev pub waits_text : ℕ → List ℕ
waits_text server = codes ", waiting for " ++ server_name server

abbrev pub remark_text : Remark → List ℕ
remark_text Nothing = []
remark_text (Left seconds) = left_text seconds
remark_text (WaitsFor server) = waits_text server

-- so many thousand bytes of how many
abbrev pub bytes_line : Verb → ℕ → ℕ → List ℕ → List ℕ
bytes_line verb done total remark =
    verb_text verb ++ (codes ": " ++ (decimal (done / 1000) ++ (codes " of "
    ++ (decimal (total / 1000) ++ (codes " kB" ++ remark)))))

abbrev pub progress_line : Verb → Amount → Remark → List ℕ
progress_line verb amount remark =
    bytes_line verb amount.done amount.total (remark_text remark)

-- a file of so many bytes
abbrev pub encoding_line : Verb → ℕ → List ℕ
encoding_line verb size =
    verb_text verb ++ (codes ": encoding " ++ (decimal (size / 1000) ++ codes " kB"))

-- So many files of how many, with so many million bytes. The time that is left is reckoned by the
-- files.
abbrev pub files_line : Verb → FileCount → List ℕ → List ℕ
files_line verb files remark =
    verb_text verb ++ (codes " " ++ (decimal files.done ++ (codes " of "
    ++ (decimal files.total ++ (codes ": " ++ (decimal (files.bytes / 1000000)
    ++ (codes " MB" ++ remark)))))))

-- The time that is left is to the time that went by, in milliseconds, as the bytes that are left
-- are to those that are done.
abbrev pub seconds_left : ℕ → Amount → ℕ
seconds_left elapsed amount = elapsed * (amount.total - amount.done) / amount.done / 1000

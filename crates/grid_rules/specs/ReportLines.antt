-- The lines and the exit status of a check.
use Rattle.std.specs.Prelude.{ℕ, List, ◌++◌, Bool, true, false, codes, decimal, if◌then◌else◌}
use Rattle.std.specs.List.{flat_map}
use Rattle.share_verify.specs.declared.check.Check.{Check}
use Rattle.share_verify.specs.declared.check.Check.TheVariants.{Layout, Ueb, Unused}
use Rattle.share_verify.specs.declared.check.Check.TheVariants.{CiphertextTree, BlockTree}
use Rattle.share_verify.specs.declared.check.Check.TheVariants.{ShareHashes, Data}
use Rattle.share_reading.specs.declared.verdict.Verdict.{Verdict}
use Rattle.share_reading.specs.declared.verdict.Verdict.TheVariants.{Good, Corrupt, Lost}
use Rattle.checker.specs.declared.status.Report.{Report}
use Rattle.checker.specs.declared.status.ShareVerdict.{ShareVerdict}
use Rattle.grid_faults.specs.Servers.{server_name}

-- the section that a check is about
abbrev pub section_text : Check → List ℕ
section_text Layout = codes "layout"
section_text Ueb = codes "ueb"
section_text Unused = codes "unused"
section_text CiphertextTree = codes "ciphertext-tree"
section_text BlockTree = codes "block-tree"
section_text ShareHashes = codes "share-hashes"
section_text Data = codes "data"

abbrev pub verdict_text : Verdict → List ℕ
verdict_text Good = codes "good"
verdict_text (Corrupt check) = codes "corrupt " ++ section_text check
verdict_text Lost = codes "lost"

-- the line of a share at a server
abbrev pub verdict_line : ShareVerdict → List ℕ
verdict_line v = server_name v.server
    ++ (codes " " ++ (decimal v.share ++ (codes " " ++ (verdict_text v.verdict ++ codes "\n"))))

abbrev pub word_of : Bool → List ℕ
word_of true = codes "yes"
word_of false = codes "no"

-- what the line of the file says, without its end
abbrev pub report_words : Report → List ℕ
report_words r = codes "healthy " ++ (word_of r.healthy
    ++ (codes " recoverable " ++ (word_of r.recoverable
    ++ (codes " happiness " ++ decimal r.happiness))))

-- a line for each share that was offered, and one for the file
abbrev pub report_lines : Report → List ℕ
report_lines r = flat_map verdict_line r.verdicts ++ (report_words r ++ codes "\n")

-- 0 where the file can be recovered, or is healthy where that is asked for, else that of too few
-- shares
abbrev pub report_status : Report → Bool → ℕ
report_status r strict = if (if strict then r.healthy else r.recoverable) then 0 else 5

-- What a check tells, for programs: one object a line.
use Rattle.std.specs.Prelude.{ℕ, List, ◌++◌, Bool, true, false, codes, decimal, not}
use Rattle.std.specs.Prelude.{filter, nat_eq}
use Rattle.std.specs.List.{flat_map, list_any, range_with_len}
use Rattle.checker.specs.declared.status.Report.{Report}
use Rattle.checker.specs.declared.status.ShareVerdict.{ShareVerdict}
use Rattle.grid_faults.specs.Servers.{server_name}
use Rattle.grid_rules.specs.ReportLines.{verdict_text}

-- no server offered a share of this number
abbrev pub is_missing : List ShareVerdict → ℕ → Bool
is_missing verdicts number = not (list_any (λ (v : ShareVerdict). nat_eq v.share number) verdicts)

-- the numbers below the total that no server offered, rising
abbrev pub missing : List ShareVerdict → ℕ → List ℕ
missing verdicts total = filter (is_missing verdicts) (range_with_len 0 total)

-- the object of a share at a server
abbrev pub verdict_object : List ℕ → ℕ → List ℕ → List ℕ
verdict_object server share verdict = codes "{\"server\":\"" ++ (server
    ++ (codes "\",\"share\":" ++ (decimal share ++ (codes ",\"verdict\":\""
    ++ (verdict ++ codes "\"}\n")))))

abbrev pub verdict_json : ShareVerdict → List ℕ
verdict_json v = verdict_object (server_name v.server) v.share (verdict_text v.verdict)

-- the object of a share that no server offered
abbrev pub missing_json : ℕ → List ℕ
missing_json number = codes "{\"share\":" ++ (decimal number ++ codes ",\"verdict\":\"missing\"}\n")

abbrev pub bool_json : Bool → List ℕ
bool_json true = codes "true"
bool_json false = codes "false"

-- the object of the file
abbrev pub last_object : List ℕ → List ℕ → ℕ → List ℕ
last_object healthy recoverable happiness = codes "{\"healthy\":" ++ (healthy
    ++ (codes ",\"recoverable\":" ++ (recoverable
    ++ (codes ",\"happiness\":" ++ (decimal happiness ++ codes "}\n")))))

abbrev pub last_json : Report → List ℕ
last_json r = last_object (bool_json r.healthy) (bool_json r.recoverable) r.happiness

-- one for each share that was offered, and one for each that was not
abbrev pub share_objects : Report → ℕ → List ℕ
share_objects r total =
    flat_map verdict_json r.verdicts ++ flat_map missing_json (missing r.verdicts total)

-- these, and one for the file
abbrev pub report_json : Report → ℕ → List ℕ
report_json r total = share_objects r total ++ last_json r

-- What a grid is, for programs: one object.
use Rattle.std.specs.Prelude.{ℕ, List, [], ◌∷◌, ◌++◌, Option, None, Some, codes, decimal}
use Rattle.std.specs.Prelude.{◌||◌, ◌==◌, if◌then◌else◌}
use Rattle.std.specs.List.{flat_map}
use Rattle.std.specs.String.{string_bytes}
use Rattle.cap_text.specs.Base32.{base32}
use Rattle.file_encoding.specs.Params.{UploadParameters}
use Rattle.grid_faults.specs.Servers.{server_name}
use Rattle.grid_marks.specs.declared.mark.Mark.{Mark}
use Rattle.grid_stores.specs.declared.held.Held.{Held}
use Rattle.grid_stores.specs.declared.states.GridState.{GridState}
use Rattle.grid_stores.specs.declared.states.ServerState.{ServerState}
use Rattle.grid_stores.specs.declared.states.State.{State}
use Rattle.grid_stores.specs.declared.states.State.TheVariants.{Here, Elsewhere, Lacking}
use Rattle.grid_stores.specs.declared.states.Totals.{Totals}
use Rattle.grid_stores.specs.States.{lack_word, totals_of}

-- the identity of a grid, and its ways, or `null`
abbrev pub mark_json : Option Mark → List ℕ
mark_json None = codes "null"
mark_json (Some mark) = codes "\"" ++ (base32 mark.identity ++ codes "\"")

abbrev pub ways_json : Option UploadParameters → List ℕ
ways_json None = codes "null"
ways_json (Some ways) = codes "{\"k\":" ++ (decimal ways.needed
    ++ (codes ",\"n\":" ++ (decimal ways.total
    ++ (codes ",\"happy\":" ++ (decimal ways.happy
    ++ (codes ",\"segment\":" ++ (decimal ways.max_segment ++ codes "}")))))))

abbrev pub head_object : List ℕ → List ℕ → List ℕ
head_object mark ways = codes "{\"grid\":" ++ (mark ++ (codes ",\"ways\":" ++ (ways
    ++ codes ",\"servers\":[")))

abbrev pub head_json : GridState → List ℕ
head_json g = head_object (mark_json g.mark) (ways_json g.ways)

-- what is held
abbrev pub held_members : Held → List ℕ
held_members h = codes "\"shares\":" ++ (decimal h.shares ++ (codes ",\"bytes\":"
    ++ (decimal h.bytes ++ (codes ",\"open\":" ++ (decimal h.opened ++ (codes ",\"damaged\":"
    ++ decimal h.damaged))))))

-- a text with no control characters, as it stands in a string: quotes and backslashes are escaped
abbrev pub json_byte : ℕ → List ℕ
json_byte b = if b == 34 || b == 92 then 92 ∷ b ∷ [] else b ∷ []

abbrev pub json_text : List ℕ → List ℕ
json_text text = flat_map json_byte text

-- how a server stands, with the end of its object
abbrev pub address_member : List ℕ → List ℕ
address_member address = codes "\"elsewhere\":\"" ++ (json_text address ++ codes "\"}")

abbrev pub verdict_member : List ℕ → List ℕ
verdict_member word = codes "\"verdict\":\"" ++ (word ++ codes "\"}")

abbrev pub state_members : State → List ℕ
state_members (Here held) = held_members held ++ codes "}"
state_members (Elsewhere address) = address_member (string_bytes address)
state_members (Lacking lack) = verdict_member (lack_word lack)

-- the object of a server
abbrev pub server_object : ServerState → List ℕ
server_object s =
    (codes "{\"server\":\"" ++ (server_name s.server ++ codes "\",")) ++ state_members s.state

-- and of one behind another
abbrev pub further_object : ServerState → List ℕ
further_object s = codes "," ++ server_object s

abbrev pub server_objects : List ServerState → List ℕ
server_objects [] = []
server_objects (s ∷ others) = server_object s ++ flat_map further_object others

-- what stands behind them: how many stand here and elsewhere, and what all folders hold
abbrev pub totals_json : Totals → List ℕ
totals_json t = codes "],\"standing\":" ++ (decimal t.standing ++ (codes ",\"elsewhere\":"
    ++ (decimal t.elsewhere ++ (codes "," ++ (held_members t.held ++ codes "}\n")))))

abbrev pub tail_json : List ServerState → List ℕ
tail_json servers = totals_json (totals_of servers)

-- the object of a grid
abbrev pub status_json : GridState → List ℕ
status_json g = head_json g ++ (server_objects g.servers.items ++ tail_json g.servers.items)

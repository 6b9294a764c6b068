-- What a grid is, in lines.
use Rattle.std.specs.Prelude.{ℕ, List, [], ◌++◌, Option, None, Some, codes, decimal, length}
use Rattle.std.specs.Prelude.{if◌then◌else◌, nat_eq}
use Rattle.std.specs.List.{flat_map}
use Rattle.std.specs.String.{string_bytes}
use Rattle.file_encoding.specs.Params.{UploadParameters}
use Rattle.grid_faults.specs.Servers.{server_name}
use Rattle.grid_marks.specs.Marks.{mark_text}
use Rattle.grid_marks.specs.declared.mark.Mark.{Mark}
use Rattle.grid_rules.specs.Ways.{ways_text}
use Rattle.grid_stores.specs.declared.held.Held.{Held}
use Rattle.grid_stores.specs.declared.states.GridState.{GridState}
use Rattle.grid_stores.specs.declared.states.ServerState.{ServerState}
use Rattle.grid_stores.specs.declared.states.State.{State}
use Rattle.grid_stores.specs.declared.states.State.TheVariants.{Here, Elsewhere, Lacking}
use Rattle.grid_stores.specs.declared.states.Totals.{Totals}
use Rattle.grid_stores.specs.States.{lack_word, totals_of}

-- the line of a grid's mark, and that of its ways, as their files have them
abbrev pub mark_line : Option Mark → List ℕ
mark_line None = []
mark_line (Some mark) = mark_text mark

abbrev pub ways_line : Option UploadParameters → List ℕ
ways_line None = []
ways_line (Some ways) = ways_text ways

abbrev pub head_lines : GridState → List ℕ
head_lines g = mark_line g.mark ++ ways_line g.ways

-- what is held
abbrev pub held_text : Held → List ℕ
held_text h = codes "shares " ++ (decimal h.shares ++ (codes " bytes " ++ (decimal h.bytes
    ++ (codes " open " ++ (decimal h.opened ++ (codes " damaged " ++ decimal h.damaged))))))

-- how a server stands
abbrev pub state_text : State → List ℕ
state_text (Here held) = held_text held
state_text (Elsewhere address) = codes "elsewhere " ++ string_bytes address
state_text (Lacking lack) = lack_word lack

-- the line of a server
abbrev pub server_line : ServerState → List ℕ
server_line s = server_name s.server ++ (codes " " ++ (state_text s.state ++ codes "\n"))

-- those elsewhere are told where there are some
abbrev pub elsewhere_text : ℕ → List ℕ
elsewhere_text n = if nat_eq n 0 then [] else codes " elsewhere " ++ decimal n

-- the line of all: how many stand here, of how many
abbrev pub totals_line : Totals → ℕ → List ℕ
totals_line t all = codes "servers " ++ (decimal t.standing ++ (codes " of " ++ (decimal all
    ++ (elsewhere_text t.elsewhere ++ (codes " " ++ (held_text t.held ++ codes "\n"))))))

abbrev pub last_line : List ServerState → List ℕ
last_line servers = totals_line (totals_of servers) (length servers)

-- the lines of the mark and the ways, of each server, and of all
abbrev pub status_lines : GridState → List ℕ
status_lines g = head_lines g
    ++ (flat_map server_line g.servers.items ++ last_line g.servers.items)

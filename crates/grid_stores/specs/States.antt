-- How the servers of a grid stand, and what is counted of them.
use Rattle.std.specs.Prelude.{ℕ, List, Bool, true, false, codes, fold, if◌then◌else◌}
use Rattle.std.specs.List.{list_all}
use Rattle.grid_stores.specs.declared.states.Lack.{Lack}
use Rattle.grid_stores.specs.declared.states.Lack.TheVariants as lacks
use Rattle.grid_stores.specs.declared.states.ServerState.{ServerState}
use Rattle.grid_stores.specs.declared.states.State.{State}
use Rattle.grid_stores.specs.declared.states.State.TheVariants.{Here, Elsewhere, Lacking}
use Rattle.grid_stores.specs.declared.states.Totals.{Totals}
use Rattle.grid_stores.specs.Held.{held_with, none_held, plus}

-- how it is told that a server does not stand
abbrev pub lack_word : Lack → List ℕ
lack_word lacks.Missing = codes "missing"
lack_word lacks.NoMark = codes "no-mark"
lack_word lacks.OtherMark = codes "other-mark"
lack_word lacks.NoAddress = codes "no-address"
lack_word lacks.Unreadable = codes "unreadable"

-- a server stands, here or elsewhere
abbrev pub stands : State → Bool
stands (Here held) = true
stands (Elsewhere address) = true
stands (Lacking lack) = false

abbrev pub is_standing : ServerState → Bool
is_standing s = stands s.state

-- all of them do
abbrev pub are_standing : List ServerState → Bool
are_standing servers = list_all is_standing servers

-- the exit status of a grid with these servers
abbrev pub status_of : List ServerState → ℕ
status_of servers = if are_standing servers then 0 else 4

-- the counts with a server more
abbrev pub counted_state : Totals → State → Totals
counted_state t (Here held) = record {
  standing = plus t.standing 1;
  elsewhere = t.elsewhere;
  held = held_with t.held held;
}
counted_state t (Elsewhere address) = record {
  standing = t.standing;
  elsewhere = plus t.elsewhere 1;
  held = t.held;
}
counted_state t (Lacking lack) = t

abbrev pub counted : Totals → ServerState → Totals
counted t s = counted_state t s.state

abbrev pub none_counted : Totals
none_counted = record { standing = 0; elsewhere = 0; held = none_held }

-- and those of all these servers
abbrev pub totals_of : List ServerState → Totals
totals_of servers = fold counted none_counted servers

-- Clients at their places, and what holds of each.
use Rattle.std.specs.Prelude.{ℕ, ◌-◌, suc, Bool, true, false, ◌&&◌, ◌||◌, nat_lt, nat_le, List, []}
use Rattle.std.specs.Prelude.{◌∷◌, Option, Some, None, if◌then◌else◌, length, slice_get}
use Rattle.connections.specs.Connections.{ConnectionState, begun}
use Rattle.connections.specs.declared.connection.Side.TheVariants.{Server}

-- A client: its connection, the second at which it came, the one at which bytes came or went last,
-- and whether there may be something to do for it.
pub record ClientState (W : Type 0) : Type 0 where
  pub connection : ConnectionState W
  pub came : ℕ
  pub moved : ℕ
  pub is_ready : Bool

-- It has just come over this wire: a server's greeting waits for it.
abbrev pub new_client : {W : Type 0} → W → List ℕ → ℕ → ClientState W
new_client wire own now =
    record { connection = begun wire Server own; came = now; moved = now; is_ready = true }

-- There may be something to do for it, or that is told of it now.
abbrev pub is_awake : {W : Type 0} → ClientState W → Bool
is_awake c = c.is_ready

abbrev pub woken : {W : Type 0} → ClientState W → ClientState W
woken c = record c { is_ready = true }

-- its greeting is still to come
abbrev pub is_greeting : {W : Type 0} → ClientState W → Bool
is_greeting c = nat_lt (length c.connection.greeting) 64

-- How many seconds a greeting may take, bytes may wait while none goes or comes, and a client may
-- be still.
abbrev pub greeting_limit : ℕ
greeting_limit = 10

abbrev pub waiting_limit : ℕ
waiting_limit = 60

abbrev pub still_limit : ℕ
still_limit = 600

-- It was still for too long, or its greeting takes too long.
abbrev pub is_late : {W : Type 0} → ℕ → ClientState W → Bool
is_late now c =
    (is_greeting c && nat_le greeting_limit (now - c.came))
    || nat_le still_limit (now - c.moved)
    || (nat_lt 0 (length c.connection.waiting) && nat_le waiting_limit (now - c.moved))

-- somebody is at this place, and this holds of it
abbrev pub holds_of : {C : Type 0} → (C → Bool) → Option (Option C) → Bool
holds_of test (Some (Some c)) = test c
holds_of test (Some None) = false
holds_of test None = false

abbrev pub holds_at : {C : Type 0} → (C → Bool) → List (Option C) → ℕ → Bool
holds_at test places node = holds_of test (slice_get places node)

-- the places, from a number on, of the clients of which this holds
abbrev pub places_from : {C : Type 0} → (C → Bool) → ℕ → List (Option C) → List ℕ
places_from test node [] = []
places_from test node (None ∷ places) = places_from test (suc node) places
places_from test node (Some c ∷ places) =
    if test c
    then node ∷ places_from test (suc node) places
    else places_from test (suc node) places

-- the places of the clients of which this holds
abbrev pub places_of : {C : Type 0} → (C → Bool) → List (Option C) → List ℕ
places_of test places = places_from test 0 places

-- ---- words of private clauses

-- this place, where that holds
abbrev pub only_if : Bool → ℕ → List ℕ
only_if holds node = if holds then node ∷ [] else []

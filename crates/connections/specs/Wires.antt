-- What is read and written at one end of a connection.
use Rattle.std.specs.Prelude.{◌≤◌, ℕ, List, [], take, length, Option, Some, None}
use Rattle.std.specs.Io.KnownBytes.{Appends, Consumes, IsAtEnd}
use Rattle.connections.specs.declared.ends.Arrival.{Arrival}
use Rattle.connections.specs.declared.ends.Arrival.TheVariants.{Bytes, NotYet, End}
use Rattle.connections.specs.declared.ends.Nonblocking.{Nonblocking}

-- What calls do, as relations between the state before a call and the state after it: these bytes
-- came, or were sent; the other end sends nothing any more; the call failed.
pub record WireCalls (W : Type 0) : Type 1 where
  pub came : W → List ℕ → W → Type 0
  pub sent : W → List ℕ → W → Type 0
  pub ended : W → W → Type 0
  pub failed : W → W → Type 0

-- what came stands in front of the room
abbrev pub Arrives : {W : Type 0} → WireCalls W → W → List ℕ → Arrival → W → Type 0
Arrives calls old room (Bytes count) new =
    (1 ≤ count) × (count ≤ length room) × calls.came old (take count room) new
Arrives calls old room NotYet new = calls.came old [] new
Arrives calls old room End new = calls.ended old new

-- so many of these bytes were sent
abbrev pub Leaves : {W : Type 0} → WireCalls W → W → List ℕ → Option ℕ → W → Type 0
Leaves calls old bytes (Some count) new =
    (1 ≤ count) × (count ≤ length bytes) × calls.sent old (take count bytes) new
Leaves calls old bytes None new = calls.sent old [] new

-- The calls on a stream, by what is known of its bytes. Of a call that fails nothing is known.
abbrev pub known_calls : {S : Type 0} → (S → Option (List ℕ)) → (S → Option (List ℕ))
    → WireCalls (Nonblocking S)
known_calls contents remaining = record {
  came = λ old bytes new. Consumes (remaining old.stream) (remaining new.stream) bytes;
  sent = λ old bytes new. Appends (contents old.stream) (contents new.stream) bytes;
  ended = λ old new. IsAtEnd (remaining new.stream);
  failed = λ old new. Unit {0};
}

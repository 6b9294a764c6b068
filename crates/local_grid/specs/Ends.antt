-- Both ends of a connection, and what is written at one and read at the other.
use Rattle.std.specs.Prelude.{◌≡◌, ℕ, List, Option}
use Rattle.std.specs.Io.KnownBytes.{Appends, Consumes}
use Rattle.local_grid.specs.declared.link.Way.{Way}
use Rattle.local_grid.specs.declared.link.Way.TheVariants.{ToServer, ToClient}
use Rattle.local_grid.specs.declared.ends.SocketPair.{SocketPair}

-- What the calls on both ends do, as relations between the state before a call and the state after
-- it: bytes are sent at the end where a way begins, bytes come at its other end, or the call fails.
pub record EndsCalls (E : Type 0) : Type 1 where
  pub sent : E → Way → List ℕ → E → Type 0
  pub came : E → Way → List ℕ → E → Type 0
  pub failed : E → Way → E → Type 0

-- what was written to an end, where it is known, grows by these bytes
abbrev pub Grows : {S : Type 0} → (S → Option (List ℕ)) → S → List ℕ → S → Type 0
Grows contents old bytes new = Appends (contents old) (contents new) bytes

-- what will be read at an end, where it is known, begins with these bytes, and loses them
abbrev pub Loses : {S : Type 0} → (S → Option (List ℕ)) → S → List ℕ → S → Type 0
Loses remaining old bytes new = Consumes (remaining old) (remaining new) bytes

-- what is written at the end where a way begins
abbrev pub PairSent : {S : Type 0} → (S → Option (List ℕ)) → SocketPair S → Way → List ℕ
    → SocketPair S → Type 0
PairSent contents old ToServer bytes new =
    Grows contents old.client bytes new.client × (new.server ≡ old.server)
PairSent contents old ToClient bytes new =
    Grows contents old.server bytes new.server × (new.client ≡ old.client)

-- what is read at the other end
abbrev pub PairCame : {S : Type 0} → (S → Option (List ℕ)) → SocketPair S → Way → List ℕ
    → SocketPair S → Type 0
PairCame remaining old ToServer bytes new =
    Loses remaining old.server bytes new.server × (new.client ≡ old.client)
PairCame remaining old ToClient bytes new =
    Loses remaining old.client bytes new.client × (new.server ≡ old.server)

-- the calls on two streams, by what is known of their bytes. Of a call that fails nothing is known.
abbrev pub pair_calls : {S : Type 0} → (S → Option (List ℕ)) → (S → Option (List ℕ))
    → EndsCalls (SocketPair S)
pair_calls contents remaining = record {
  sent = PairSent contents;
  came = PairCame remaining;
  failed = λ old way new. Unit {0};
}

-- What a check's record tells of each share: who offered it, and what was read of it.
use Rattle.std.specs.Prelude.{ℕ, ◌==◌, ◌&&◌, List, [], ◌∷◌, Bool, false, Some, None, map}
use Rattle.std.specs.Prelude.{filter, nat_lt, if◌then◌else◌}
use Rattle.std.specs.List.{flat_map}
use Rattle.placement.specs.Matching.{Pair}
use Rattle.wire.specs.declared.message.Body.TheVariants.{Data, Have}
use Rattle.wire.specs.declared.message.HeldShare.{HeldShare}
use Rattle.request_record.specs.declared.requests.Asked.{Asked}
use Rattle.request_record.specs.declared.requests.Asked.TheVariants.{Holdings, Reading}
use Rattle.request_record.specs.declared.requests.Outcome.{Outcome}
use Rattle.request_record.specs.declared.requests.Outcome.TheVariants.{Answered, Outstanding}
use Rattle.request_record.specs.declared.requests.Request.{Request}
use Rattle.share_reading.specs.Verdict.{Settled}

-- the shares of numbers below the file's that a server's answer lists
abbrev pub offered_in : ℕ → ℕ → Outcome → List Pair
offered_in total server (Answered (Have readonly held)) =
    map (λ (h : HeldShare). (server, h.share))
    (filter (λ (h : HeldShare). nat_lt h.share total) held)
offered_in total server outcome = []

-- the shares that were offered, by server as asked and then as told
abbrev pub offered_to : ℕ → ℕ → Asked → Outcome → List Pair
offered_to total server Holdings outcome = offered_in total server outcome
offered_to total server asked outcome = []

abbrev pub offered_pairs : ℕ → List Request → List Pair
offered_pairs total entries =
    flat_map (λ (r : Request). offered_to total r.server r.asked r.outcome) entries

-- does it ask for bytes of this share?
abbrev pub reads_share : ℕ → Asked → Bool
reads_share share (Reading n offset len) = n == share
reads_share share asked = false

-- is it a read of this share at this server?
abbrev pub is_about : ℕ → ℕ → Request → Bool
is_about server share r = (r.server == server) && reads_share share r.asked

-- A read that waits no more, and what it brought. An answer without bytes says that there is no
-- such share.
abbrev pub settled_in : Asked → Outcome → List Settled
settled_in (Reading n offset len) Outstanding = []
settled_in (Reading n offset len) (Answered (Data bytes)) =
    record { offset = offset; len = len; answer = Some bytes } ∷ []
settled_in (Reading n offset len) outcome =
    record { offset = offset; len = len; answer = None } ∷ []
settled_in asked outcome = []

abbrev pub settled_by : ℕ → ℕ → Request → List Settled
settled_by server share r =
    if is_about server share r then settled_in r.asked r.outcome else []

-- the reads of this share at this server that wait no more
abbrev pub settled_of : List Request → ℕ → ℕ → List Settled
settled_of entries server share = flat_map (settled_by server share) entries

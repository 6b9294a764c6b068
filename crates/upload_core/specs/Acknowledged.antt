-- Which pairs of a server and a share the answers acknowledge: by the share's digest, and never by
-- its number alone.
use Rattle.std.specs.Prelude.{ℕ, ◌&&◌, Bool, List, [], ◌∷◌, ◌++◌, length, nat_lt}
use Rattle.std.specs.Prelude.{slice_index_or, bytes_eq, if◌then◌else◌}
use Rattle.std.specs.List.{flat_map}
use Rattle.wire.specs.declared.message.Body.{Body}
use Rattle.wire.specs.declared.message.Body.TheVariants.{Have, Already, Closed}
use Rattle.wire.specs.declared.message.HeldShare.{HeldShare}
use Rattle.request_record.specs.declared.requests.Asked.{Asked}
use Rattle.request_record.specs.declared.requests.Asked.TheVariants.{Holdings, Allocation, Writing}
use Rattle.request_record.specs.declared.requests.Asked.TheVariants.{Closing}
use Rattle.request_record.specs.declared.requests.Outcome.{Outcome}
use Rattle.request_record.specs.declared.requests.Outcome.TheVariants.{Unawaited, Outstanding}
use Rattle.request_record.specs.declared.requests.Outcome.TheVariants.{Answered, Lost}
use Rattle.request_record.specs.declared.requests.Request.{Request}
use Rattle.placement.specs.Matching.{Pair}
use Rattle.upload_core.specs.State.{Goal}

-- is this the digest of the share of this number?
abbrev pub is_digest_of : Goal → ℕ → List ℕ → Bool
is_digest_of g share digest =
    nat_lt share (length g.digests) && bytes_eq digest (slice_index_or g.digests share [])

abbrev pub acked_share : Goal → ℕ → ℕ → List ℕ → List Pair
acked_share g server share digest =
    if is_digest_of g share digest then (server, share) ∷ [] else []

abbrev pub acked_held : Goal → ℕ → List HeldShare → List Pair
acked_held g server [] = []
acked_held g server (h ∷ hs) = acked_share g server h.share h.digest ++ acked_held g server hs

-- what an answer to a request acknowledges
abbrev pub acked_answer : Goal → ℕ → Asked → Body → List Pair
acked_answer g server Holdings (Have readonly held) = acked_held g server held
acked_answer g server (Allocation share len) (Already digest) = acked_share g server share digest
acked_answer g server (Writing share offset len) (Already digest) =
    acked_share g server share digest
acked_answer g server (Closing share) (Closed digest) = acked_share g server share digest
acked_answer g server asked body = []

abbrev pub acked_outcome : Goal → ℕ → Asked → Outcome → List Pair
acked_outcome g server asked Unawaited = []
acked_outcome g server asked Outstanding = []
acked_outcome g server asked (Answered body) = acked_answer g server asked body
acked_outcome g server asked Lost = []

abbrev pub acked_by : Goal → Request → List Pair
acked_by g r = acked_outcome g r.server r.asked r.outcome

-- the acknowledged pairs of a record
abbrev pub acked_pairs : Goal → List Request → List Pair
acked_pairs g entries = flat_map (acked_by g) entries

-- What holds of each upload's record.
use Rattle.std.specs.Prelude.{◌≡◌, ◌⊎◌, ℕ, ◌+◌, ◌<◌, ◌≤◌, ◌&&◌, ◌||◌, ◌++◌}
use Rattle.std.specs.Prelude.{Bool, true, false, List, [], ◌∷◌, map, filter, length, nat_eq, All}
use Rattle.std.specs.Prelude.{Contains, Some, slice_get, if◌then◌else◌, ◌-◌, min}
use Rattle.std.specs.List.{IsDistinct, list_any}
use Rattle.request_record.specs.declared.requests.Asked.{Asked}
use Rattle.request_record.specs.declared.requests.Asked.TheVariants.{Holdings, Allocation, Writing}
use Rattle.request_record.specs.declared.requests.Asked.TheVariants.{Closing}
use Rattle.request_record.specs.declared.requests.Asked.TheVariants.{Reading, Aborting}
use Rattle.request_record.specs.declared.requests.Outcome.{Outcome}
use Rattle.request_record.specs.declared.requests.Outcome.TheVariants.{Unawaited, Outstanding}
use Rattle.request_record.specs.declared.requests.Outcome.TheVariants.{Answered, Lost}
use Rattle.request_record.specs.declared.requests.Request.{Request}
use Rattle.request_record.specs.Record.{outstanding_count}
use Rattle.wire.specs.Limits.{most_data}
use Rattle.placement.specs.Matching.{IsLargestMatching, Pair}
use Rattle.placement.specs.Plan.{placeable}
use Rattle.upload_core.specs.declared.status.UploadStatus.{UploadStatus}
use Rattle.upload_core.specs.declared.status.UploadStatus.TheVariants.{Running, Unhappy}
use Rattle.upload_core.specs.State.{Goal, UploadState}
use Rattle.upload_core.specs.Acknowledged.{acked_pairs}
use Rattle.upload_core.specs.Transfers.{is_transfer}
use Rattle.upload_core.specs.Trails.{AreFailed, AreFollowed, AreTrails, IsAbout, IsNew}
use Rattle.upload_core.specs.Right.{has_ended}
use Rattle.upload_core.specs.Rounds.{EndsAs, IsHopeless, IsPlacing, IsSettled, Placing}
use Rattle.upload_core.specs.Rounds.{has_answered_as, writable_servers}

abbrev pub is_holdings : Asked → Bool
is_holdings Holdings = true
is_holdings (Allocation share len) = false
is_holdings (Writing share offset len) = false
is_holdings (Closing share) = false
is_holdings (Reading share offset len) = false
is_holdings (Aborting share) = false

-- the servers that were asked which shares they hold
abbrev pub asked_servers : List Request → List ℕ
asked_servers entries =
    map (λ (r : Request). r.server) (filter (λ (r : Request). is_holdings r.asked) entries)

-- did the server of this Ask answer?
abbrev pub has_told : Request → Bool
has_told r = has_answered_as true r || has_answered_as false r

-- did this server answer its Ask?
abbrev pub is_told : List Request → ℕ → Bool
is_told entries server =
    list_any (λ (r : Request). has_told r && nat_eq server r.server) entries

-- It asks for a share of the goal, and a piece lies in it: it is as long as a piece can be, or ends
-- the share.
abbrev pub IsInside : Goal → Asked → Type 0
IsInside g Holdings = Unit {0}
IsInside g (Allocation share len) = (share < length g.digests) × (len ≡ g.share_length)
IsInside g (Writing share offset len) =
    (share < length g.digests) × (offset + len ≤ g.share_length) × (1 ≤ len)
    × (len ≡ min most_data (g.share_length - offset))
IsInside g (Closing share) = share < length g.digests
IsInside g (Reading share offset len) = ⊥
IsInside g (Aborting share) = share < length g.digests

-- Shares are asked for of servers alone that answered their Asks.
abbrev pub IsOfTold : List Request → Request → Type 0
IsOfTold entries r = (is_holdings r.asked ≡ true) ⊎ (is_told entries r.server ≡ true)

-- is it a request whose answer is not waited for?
abbrev pub is_unawaited : Outcome → Bool
is_unawaited Unawaited = true
is_unawaited Outstanding = false
is_unawaited (Answered body) = false
is_unawaited Lost = false

-- an answer to a request of a transfer is waited for
abbrev pub IsWaitedFor : Request → Type 0
IsWaitedFor r = is_transfer r.asked ≡ true → is_unawaited r.outcome ≡ false

-- No server is asked twice which shares it holds, each request is for the goal, and each trail goes
-- on.
pub record IsCourse (u : UploadState) : Type 0 where
  pub few : length u.goal.digests ≤ 256
  pub some : 1 ≤ u.goal.ahead
  pub long : 1 ≤ u.goal.share_length
  pub distinct : IsDistinct nat_eq (asked_servers u.requests.entries)
  pub inside : All (λ (r : Request). IsInside u.goal r.asked) u.requests.entries
  pub of_told : All (IsOfTold u.requests.entries) u.requests.entries
  pub waited : All IsWaitedFor u.requests.entries
  pub trails : AreTrails u.goal u.requests.entries
  pub begun : u.round ≤ length u.requests.entries

-- ---- a round

-- the server of a request that passes a test
abbrev pub server_where : (Request → Bool) → Request → List ℕ
server_where test r = if test r then r.server ∷ [] else []

-- room for each pair's share
abbrev pub allocations : ℕ → List Pair → List (ℕ × Asked)
allocations len pairs = map (λ (pair : Pair). (pair.0, Allocation pair.1 len)) pairs

abbrev pub transfers : Goal → List Pair → List (ℕ × Asked)
transfers g pairs = allocations g.share_length pairs

-- It is a share of the goal, for a server that answered its Ask and was not asked about it.
pub record MayPlace (u : UploadState) (pair : Pair) : Type 0 where
  pub told : is_told u.requests.entries pair.0 ≡ true
  pub within : pair.1 < length u.goal.digests
  pub is_new : IsNew u.requests.entries pair

-- these are the pairs of a placing
abbrev pub Places : Goal → List Request → List Pair → Type 0
Places g entries pairs =
    (p : Placing) × IsPlacing g entries p × (pairs ≡ p.m3 ++ p.leftovers)

-- it ends as the record says, and no more changes
abbrev pub Ends : UploadState → UploadState → Type 0
Ends old new =
    (status : UploadStatus) × EndsAs old.goal old.happy old.requests.entries status
    × (new ≡ record old { status = status })

-- a request of a transfer, to a server that was writable at the last placing
abbrev pub IsOfRound : Goal → List Request → Request → Type 0
IsOfRound g before r =
    Contains (writable_servers g before) r.server × (is_holdings r.asked ≡ false)

-- one of these requests is about the pair
abbrev pub HasTrail : List Request → Pair → Type 0
HasTrail entries pair =
    (i : ℕ) × (r : Request) × (slice_get entries i ≡ Some r) × IsAbout pair r

-- The last placing: what was asked before it was settled, and what was asked since is of its
-- transfers.
pub record IsRound (g : Goal) (round : ℕ) (entries : List Request) : Type 0 where
  pub before : List Request
  pub since : List Request
  pub parts : entries ≡ before ++ since
  pub at : length before ≡ round
  pub settled : IsSettled before
  pub placing : Placing
  pub is : IsPlacing g before placing
  pub best : IsLargestMatching
      (placeable (acked_pairs g before) (writable_servers g before) (length g.digests))
      (is.m1 ++ is.m2 ++ placing.m3)
  pub begun : (pair : Pair) → Contains placing.m3 pair → HasTrail since pair
  pub of_it : (i : ℕ) (r : Request) → slice_get since i ≡ Some r → IsOfRound g before r

-- what a running upload goes on from: what became of each transfer is known, and the last placing
pub record CanGoOn (u : UploadState) : Type 0 where
  pub followed : AreFollowed u.goal u.requests.entries
  pub failed : AreFailed u.goal u.requests.entries
  pub rounds : (u.round ≡ 0) ⊎ IsRound u.goal u.round u.requests.entries

-- what holds of an upload by its status
pub record Stands (u : UploadState) : Type 0 where
  pub works : u.status ≡ Running → 0 < outstanding_count u.requests.entries
  pub settled : has_ended u.status ≡ true → IsSettled u.requests.entries
  pub over : has_ended u.status ≡ true → EndsAs u.goal u.happy u.requests.entries u.status
  pub hopeless : (reached : ℕ) (blocking : List ℕ) → u.status ≡ Unhappy reached blocking
      → IsHopeless u.goal u.happy u.requests.entries

-- what is kept of each upload
pub record IsKept (u : UploadState) : Type 0 where
  pub course : IsCourse u
  pub stands : Stands u
  pub going : u.status ≡ Running → CanGoOn u

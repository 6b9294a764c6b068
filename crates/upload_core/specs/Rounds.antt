-- Rounds: where shares are placed, and when an upload ends.
use Rattle.std.specs.Prelude.{◌≡◌, ◌⊎◌, ℕ, ◌<◌, ◌≤◌, not, List, [], ◌++◌, Bool, true, false}
use Rattle.std.specs.Prelude.{map, filter, length, drop, nat_eq}
use Rattle.std.specs.List.{list_any}
use Rattle.std.specs.Set.{is_member}
use Rattle.wire.specs.declared.message.Body.{Body}
use Rattle.wire.specs.declared.message.Body.TheVariants.{Have}
use Rattle.request_record.specs.declared.requests.Asked.{Asked}
use Rattle.request_record.specs.declared.requests.Asked.TheVariants.{Holdings, Allocation}
use Rattle.request_record.specs.declared.requests.Outcome.{Outcome}
use Rattle.request_record.specs.declared.requests.Outcome.TheVariants.{Answered}
use Rattle.request_record.specs.declared.requests.Request.{Request}
use Rattle.request_record.specs.Record.{RequestsState, outstanding_count}
use Rattle.placement.specs.Matching.{Pair, IsHappiness, IsLargestMatching, IsMatching}
use Rattle.placement.specs.Plan.{IsPlan, placeable}
use Rattle.upload_core.specs.declared.status.UploadStatus.{UploadStatus}
use Rattle.upload_core.specs.declared.status.UploadStatus.TheVariants.{Running, Happy}
use Rattle.upload_core.specs.declared.status.UploadStatus.TheVariants.{Unhappy, Failed}
use Rattle.upload_core.specs.State.{Goal, UploadState}
use Rattle.upload_core.specs.Acknowledged.{acked_pairs}
use Rattle.upload_core.specs.Transfers.{failed_servers, has_failed}

-- is this answer to an Ask that of a server which takes shares, or of one which does not?
abbrev pub answers_as : Bool → Body → Bool
answers_as true (Have told held) = told
answers_as false (Have told held) = not told
answers_as readonly body = false

abbrev pub asked_answered_as : Bool → Asked → Outcome → Bool
asked_answered_as readonly Holdings (Answered body) = answers_as readonly body
asked_answered_as readonly asked outcome = false

abbrev pub has_answered_as : Bool → Request → Bool
has_answered_as readonly r = asked_answered_as readonly r.asked r.outcome

-- the servers that answered so, in the order of the record
abbrev pub answered_as : Bool → List Request → List ℕ
answered_as readonly entries =
    map (λ (r : Request). r.server) (filter (has_answered_as readonly) entries)

-- A server where a transfer failed counts as one that takes no shares. Servers that did not answer
-- are left out.
abbrev pub writable_servers : Goal → List Request → List ℕ
writable_servers g entries =
    filter (λ (s : ℕ). not (is_member nat_eq (failed_servers g entries) s))
    (answered_as false entries)

abbrev pub readonly_servers : Goal → List Request → List ℕ
readonly_servers g entries =
    answered_as true entries
    ++ filter (λ (s : ℕ). is_member nat_eq (failed_servers g entries) s)
    (answered_as false entries)

-- what is to be transferred of a placing
pub record Placing : Type 0 where
  pub m3 : List Pair
  pub leftovers : List Pair

-- `place` gives this for the acknowledged pairs and the servers that answered
pub record IsPlacing (g : Goal) (entries : List Request) (p : Placing) : Type 0 where
  pub m1 : List Pair
  pub m2 : List Pair
  pub unplaced : List ℕ
  pub plan : IsPlan (readonly_servers g entries) (writable_servers g entries)
      (acked_pairs g entries) (length g.digests) m1 m2 p.m3 p.leftovers unplaced

-- each pair of it is a transfer, which begins so
abbrev pub transfers_of : Goal → Placing → List (ℕ × Asked)
transfers_of g p =
    map (λ (pair : Pair). (pair.0, Allocation pair.1 g.share_length)) (p.m3 ++ p.leftovers)

-- nothing is outstanding: no Ask and no transfer
abbrev pub IsSettled : List Request → Type 0
IsSettled entries = outstanding_count entries ≡ 0

-- a transfer of the last placing failed
abbrev pub has_failed_since : Goal → ℕ → List Request → Bool
has_failed_since g round entries = list_any (has_failed g) (drop round entries)

-- the acknowledged pairs have a matching of as many as wanted
abbrev pub HasEnough : Goal → ℕ → List Request → Type 0
HasEnough g happy entries =
    (pairs : List Pair) × IsMatching (acked_pairs g entries) pairs × (happy ≤ length pairs)

-- Shares are placed once all Asks are settled, and again once a round is settled in which a
-- transfer failed and that did not reach enough.
abbrev pub IsToPlace : UploadState → RequestsState → Type 0
IsToPlace u r =
    (u.round ≡ 0)
    ⊎ ((¬ HasEnough u.goal u.happy r.entries)
    × (has_failed_since u.goal u.round r.entries ≡ true))

-- nothing can be placed: there is nothing to do, or nothing to assign
abbrev pub IsOver : UploadState → RequestsState → Type 0
IsOver u r =
    (¬ IsToPlace u r)
    ⊎ ((p : Placing) × IsPlacing u.goal r.entries p × (transfers_of u.goal p ≡ []))

-- A largest matching of the acknowledged pairs, as many as wanted; or their happiness, and a
-- blocking set of a largest matching: servers of acknowledged pairs, each once.
pub record IsHappy (g : Goal) (happy : ℕ) (entries : List Request) (pairs : List Pair)
    : Type 0 where
  pub largest : IsLargestMatching (acked_pairs g entries) pairs
  pub enough : happy ≤ length pairs

pub record IsUnhappy (g : Goal) (happy : ℕ) (entries : List Request) (reached : ℕ)
    (blocking : List ℕ) : Type 0 where
  pub few : reached < happy
  pub pairs : List Pair
  pub happiness : IsHappiness (acked_pairs g entries) pairs blocking
  pub reaches : length pairs ≡ reached

-- No placing would be enough: the acknowledged pairs with all pairs of shares and of servers that
-- take shares and did not fail have no matching of as many as wanted.
abbrev pub IsHopeless : Goal → ℕ → List Request → Type 0
IsHopeless g happy entries =
    (pairs : List Pair)
    → IsMatching
    (placeable (acked_pairs g entries) (writable_servers g entries) (length g.digests)) pairs
    → length pairs < happy

abbrev pub EndsAs : Goal → ℕ → List Request → UploadStatus → Type 0
EndsAs g happy entries Running = ⊥
EndsAs g happy entries (Failed fault) = ⊥
EndsAs g happy entries (Happy pairs) = IsHappy g happy entries pairs
EndsAs g happy entries (Unhappy reached blocking) = IsUnhappy g happy entries reached blocking

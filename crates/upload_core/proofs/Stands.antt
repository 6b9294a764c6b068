-- How an upload stands, as it goes on.
use Rattle.std.proofs.Common.{◌≡◌, ◌≢◌, ℕ, zero, suc, ◌<◌, ◌⊎◌, inl, inr, true, List, [], ◌∷◌, ◌++◌, length, map, refl, sym, ap, subst, ◌∙◌, arith, true≢false}
use Rattle.request_record.specs.declared.requests.Asked.TheVariants.{Allocation}
use Rattle.request_record.specs.declared.requests.Request.{Request}
use Rattle.request_record.specs.Record.{RequestsState, outstanding_count}
use Rattle.request_record.specs.Asking.{begun, one_sent}
use Rattle.placement.specs.Matching.{Pair}
use Rattle.upload_core.specs.declared.status.UploadStatus.{UploadStatus}
use Rattle.upload_core.specs.declared.status.UploadStatus.TheVariants.{Running, Happy, Unhappy, Failed}
use Rattle.upload_core.specs.declared.pieces.PieceFault.{PieceFault}
use Rattle.upload_core.specs.State.{Goal, UploadState, with_record}
use Rattle.upload_core.specs.Rounds.{EndsAs, IsHopeless, IsSettled}
use Rattle.upload_core.specs.Right.{has_ended}
use Rattle.upload_core.specs.Course.{CanGoOn, IsCourse, Stands}
use Rattle.upload_core.proofs.Counts.{count_allocations}
use Rattle.upload_core.proofs.Hopeless.{hopeless_end}
use Rattle.upload_core.specs.declared.status.ServerInfo.{ServerInfo}
use Rattle.upload_core.specs.Moves.{AreInOrder, Begins, GoesOn, ends, initial, positions, waits}

ends_running : (g : Goal) (happy : ℕ) (es : List Request) (s : UploadStatus) → EndsAs g happy es s → s ≡ Running → ⊥
ends_running g happy es s e is = subst (EndsAs g happy es) is e

running_ended : (s : UploadStatus) → s ≡ Running → has_ended s ≡ true → ⊥
running_ended s is e = true≢false (sym e ∙ ap has_ended is)

running_unhappy : (s : UploadStatus) (reached : ℕ) (blocking : List ℕ) → s ≡ Running → s ≡ Unhappy reached blocking → ⊥
running_unhappy s reached blocking is e = running_ended s is (ap has_ended e)

some_of : {X Y : Type 0} (f : X → Y) (xs : List X) → map f xs ≢ [] → 0 < length xs
some_of f [] n = absurd (n refl)
some_of f (x ∷ xs) n = omega arith

-- the record does not matter to the status
pub same_entries : (u : UploadState) (r : RequestsState) → r.entries ≡ u.requests.entries → Stands u → Stands (with_record u r)
same_entries u r e right = record {
  works = λ is. subst (λ (es : List Request). 0 < outstanding_count es) (sym e) (right.works is);
  settled = λ h. subst IsSettled (sym e) (right.settled h);
  over = λ h. subst (λ (es : List Request). EndsAs u.goal u.happy es u.status) (sym e) (right.over h);
  hopeless = λ reached blocking is. subst (IsHopeless u.goal u.happy) (sym e) (right.hopeless reached blocking is);
}

pub stands_failed : (u : UploadState) (fault : PieceFault) → Stands (record u { status = Failed fault })
stands_failed u fault = record {
  works = λ is. absurd cc;
  settled = λ h. absurd (true≢false (sym h));
  over = λ h. absurd (true≢false (sym h));
  hopeless = λ reached blocking is. absurd cc;
}

pub stands_sent : (u : UploadState) → Stands u → Stands (with_record u (one_sent u.requests))
stands_sent u right = same_entries u (one_sent u.requests) refl right

pub waits_stands : (u : UploadState) (r : RequestsState) → u.status ≡ Running → 0 < outstanding_count r.entries → Stands (with_record u r)
waits_stands u r running more = record {
  works = λ is. more;
  settled = λ h. absurd (running_ended u.status running h);
  over = λ h. absurd (running_ended u.status running h);
  hopeless = λ reached blocking is. absurd (running_unhappy u.status reached blocking running is);
}

pub goes_stand : (u : UploadState) (r : RequestsState) (new : UploadState) → u.status ≡ Running → IsCourse new → CanGoOn (with_record u r) → GoesOn u r new → Stands new
goes_stand u r new running course can g = elim g [
  | waits unsettled e ↦ subst Stands (sym e) (waits_stands u r running (by (outstanding_count r.entries) refl unsettled))
  | positions p settled to placing some e ↦ (
      let more : 0 < length (p.m3 ++ p.leftovers) = some_of (λ (pair : Pair). (pair.0, Allocation pair.1 u.goal.share_length)) (p.m3 ++ p.leftovers) some in
      let count = count_allocations u.goal.share_length (p.m3 ++ p.leftovers) r in
      subst Stands (sym e) (record {
        works = λ is. omega (arith, more, count);
        settled = λ h. absurd (running_ended u.status running h);
        over = λ h. absurd (running_ended u.status running h);
        hopeless = λ reached blocking is. absurd (running_unhappy u.status reached blocking running is);
      }))
  | ends status settled over so e ↦ subst Stands (sym e) (record {
    works = λ is. absurd (ends_running u.goal u.happy r.entries status so is);
    settled = λ h. settled;
    over = λ h. so;
    hopeless = λ reached blocking is.
        let c = subst IsCourse e course in
        hopeless_end u r c.distinct c.of_told can settled over reached blocking (subst (EndsAs u.goal u.happy r.entries) is so);
  })
]
  where
    by : (n : ℕ) → outstanding_count r.entries ≡ n → (IsSettled r.entries → ⊥) → 0 < outstanding_count r.entries
    by zero e unsettled = absurd (unsettled e)
    by (suc n) e unsettled = omega (arith, e)

-- a status is Running or not
pub is_running : (s : UploadStatus) → (s ≡ Running) ⊎ (s ≢ Running)
is_running Running = inl refl
is_running (Happy pairs) = inr (λ e. absurd cc)
is_running (Unhappy reached blocking) = inr (λ e. absurd cc)
is_running (Failed fault) = inr (λ e. absurd cc)

pub ended_stands : (old : UploadState) (r : RequestsState) → old.status ≢ Running → (IsSettled old.requests.entries → r.entries ≡ old.requests.entries) → Stands old → Stands (with_record old r)
ended_stands old r not-running same right = record {
  works = λ is. absurd (not-running is);
  settled = λ h. subst IsSettled (sym (same (right.settled h))) (right.settled h);
  over = λ h. subst (λ (es : List Request). EndsAs old.goal old.happy es old.status) (sym (same (right.settled h))) (right.over h);
  hopeless = λ reached blocking is. subst (IsHopeless old.goal old.happy) (sym (same (right.settled (ap has_ended is)))) (right.hopeless reached blocking is);
}

-- ---- the beginning

-- what goes on is for the same goal, with the same servers
record IsFor (u new : UploadState) : Type 0 where
  pub goal : new.goal ≡ u.goal
  pub happy : new.happy ≡ u.happy
  pub servers : new.servers ≡ u.servers

goes_for : (u : UploadState) (r : RequestsState) (new : UploadState) → GoesOn u r new → IsFor u new
goes_for u r new g = elim g [
  | waits unsettled e ↦ subst (IsFor u) (sym e) (record { goal = refl; happy = refl; servers = refl })
  | positions p settled to placing some e ↦ subst (IsFor u) (sym e) (record { goal = refl; happy = refl; servers = refl })
  | ends status settled over so e ↦ subst (IsFor u) (sym e) (record { goal = refl; happy = refl; servers = refl })
]

pub begins_from : (goal : Goal) (happy : ℕ) (servers : List ServerInfo) (session now : ℕ) (nodes : List ℕ) (old new : UploadState) → old ≡ initial goal happy nodes session now → AreInOrder goal.cap.storage_index servers nodes → GoesOn old old.requests new → Begins goal happy servers session now new
begins_from goal happy servers session now nodes old new is order g =
    let first : UploadState = initial goal happy nodes session now in
    let goes : GoesOn first first.requests new = subst (λ (u : UploadState). GoesOn u u.requests new) is g in
    let same = goes_for first first.requests new goes in
    record {
      goal_is = same.goal;
      happy_is = same.happy;
      ordered = subst (AreInOrder goal.cap.storage_index servers) (sym same.servers) order;
      goes = subst (λ (ns : List ℕ). GoesOn (initial goal happy ns session now) (begun ns session now) new) (sym same.servers) goes;
    }

-- How a repair begins in a world.
use Rattle.std.proofs.Common.{◌≡◌, ◌≢◌, ◌∙◌, ◌⊎◌, inl, inr, ℕ, List, Vec, Global, false, length, map, refl, sym, ap, subst, true, true≢false}
use Rattle.cap_text.specs.Cap.{VerifyCapValue}
use Rattle.file_upload.specs.Shares.{MayWant}
use Rattle.upload_core.specs.declared.status.ServerInfo.{ServerInfo}
use Rattle.checker.specs.Good.{AreGoodShares}
use Rattle.checker.specs.State.{CheckState}
use Rattle.checker.specs.declared.status.CheckStatus.{CheckStatus}
use Rattle.checker.specs.declared.status.CheckStatus.TheVariants as checks
use Rattle.world_operations.specs.declared.job.Job.{Job}
use Rattle.world_operations.specs.declared.job.Job.TheVariants as jobs
use Rattle.world_operations.specs.declared.operation.Life.{Life}
use Rattle.world_operations.specs.declared.operation.Life.TheVariants as lives
use Rattle.world_operations.specs.declared.operation.Operation.{Operation}
use Rattle.world_operations.specs.declared.status.Status.{Status}
use Rattle.world_operations.specs.declared.status.Status.TheVariants as statuses
use Rattle.world_operations.specs.declared.task.Task.{Task}
use Rattle.world_operations.specs.declared.task.Task.TheVariants.{Checking}
use Rattle.world_operations.specs.Follow.{IsNewTask}
use Rattle.world_operations.specs.Jobs.{IsFor}
use Rattle.world_operations.specs.Repairs.{BeginsRepair}
use Rattle.world_operations.specs.Status.{check_status, lived, machine_status}
use Rattle.world_operations.proofs.Beginnings.{new_repair}
use Rattle.world.specs.Consistent.{IsConsistent}
use Rattle.world.specs.State.{WorldState, nodes_of, servers_of}
use Rattle.world.specs.Step.{IsDoneCheck, RepairBegins}

by_life : (life : Life) (s : Status) → lived life s ≡ statuses.Done → s ≡ statuses.Done
by_life lives.Live s e = e
by_life lives.Refused s e = absurd cc
by_life lives.Forgotten statuses.Running e = absurd cc
by_life lives.Forgotten statuses.Forgotten e = e
by_life lives.Forgotten (statuses.Happy pairs) e = e
by_life lives.Forgotten (statuses.Unhappy reached wanted) e = e
by_life lives.Forgotten statuses.Done e = e
by_life lives.Forgotten statuses.NotEnoughShares e = e
by_life lives.Forgotten statuses.Inconsistent e = e
by_life lives.Forgotten (statuses.Failed fault) e = e

by_status : (s : CheckStatus) → check_status s ≡ statuses.Done → s ≡ checks.Done
by_status checks.Done e = refl
by_status checks.Running e = absurd cc
by_status checks.Failed e = absurd cc

-- the machine of a check that is done is done
done_machine : (w : WorldState) (node number : ℕ) (check : CheckState) → IsDoneCheck w node number check → check.status ≡ checks.Done
done_machine w node number check d =
    let op : Operation = d.operation in
    by_status check.status (by_life op.life (check_status check.status) (ap (λ (t : Task). lived op.life (machine_status op.job t)) (sym d.checked) ∙ d.done))

keeps_for : (job : Job) (check : CheckState) → IsFor job (Checking check) → check.keeps ≡ true
keeps_for (jobs.Check cap) check h = h.1
keeps_for (jobs.Upload file secret p) check h = absurd h
keeps_for (jobs.Changing file other after secret p) check h = absurd h
keeps_for (jobs.Download cap from to) check h = absurd h
keeps_for (jobs.Repair cap happy) check h = absurd h
keeps_for (jobs.NoRepair cap why) check h = absurd h

-- it keeps the bytes of shares
keeping_machine : (w : WorldState) (node number : ℕ) (check : CheckState) → IsConsistent w → IsDoneCheck w node number check → check.keeps ≡ true
keeping_machine w node number check c d =
    let op : Operation = d.operation in
    keeps_for op.job check (subst (IsFor op.job) d.checked (c.fine number op d.at).started)

-- so it hands out good shares
pub hands_out : (w : WorldState) (node number : ℕ) (check : CheckState) → IsConsistent w → IsDoneCheck w node number check → ((check.status ≢ checks.Done) ⊎ (check.keeps ≡ false)) → ⊥
hands_out w node number check c d other = elim other [
  | inl runs ↦ runs (done_machine w node number check d)
  | inr lets_go ↦ absurd (true≢false (sym (keeping_machine w node number check c d) ∙ lets_go))
]

abbrev pub Share : Type 0
Share = ℕ × Vec ℕ Global

abbrev pub numbers_of : List Share → List ℕ
numbers_of good = map (λ (s : Share). s.0) good

abbrev pub strings_of : List Share → List (List ℕ)
strings_of good = map (λ (s : Share). s.1.items) good

-- what begins a repair, at its position
at_position : (w : WorldState) (happy : ℕ) (check : CheckState) (cap : VerifyCapValue) (good : List Share) (servers : List ServerInfo) (session : ℕ) (job : Job) (task : Task)
    → cap ≡ check.cap → servers ≡ servers_of w → session ≡ length w.operations → BeginsRepair cap happy (numbers_of good) (strings_of good) servers session w.clock job task
    → BeginsRepair check.cap happy (numbers_of good) (strings_of good) (servers_of w) (length w.operations) w.clock job task
at_position w happy check cap good servers session job task cap_is servers_are session_is begins =
    subst (λ (n : ℕ). BeginsRepair check.cap happy (numbers_of good) (strings_of good) (servers_of w) n w.clock job task) session_is
    (subst (λ (l : List ServerInfo). BeginsRepair check.cap happy (numbers_of good) (strings_of good) l session w.clock job task) servers_are
    (subst (λ (c : VerifyCapValue). BeginsRepair c happy (numbers_of good) (strings_of good) servers session w.clock job task) cap_is begins))

pub mending : (w : WorldState) (node number happy : ℕ) (check : CheckState) (cap : VerifyCapValue) (good : List Share) (servers : List ServerInfo) (session : ℕ) (job : Job) (task : Task)
    → IsDoneCheck w node number check → cap ≡ check.cap → AreGoodShares check.cap check.requests.entries (numbers_of good) (strings_of good)
    → servers ≡ servers_of w → session ≡ length w.operations → BeginsRepair cap happy (numbers_of good) (strings_of good) servers session w.clock job task
    → RepairBegins w node number happy job task
mending w node number happy check cap good servers session job task done cap_is are servers_are session_is begins = record {
  check = check;
  done = done;
  numbers = numbers_of good;
  strings = strings_of good;
  good = are;
  begins = at_position w happy check cap good servers session job task cap_is servers_are session_is begins;
}

pub mending_new : (w : WorldState) (happy : ℕ) (check : CheckState) (cap : VerifyCapValue) (taken : List Share) (servers : List ServerInfo) (session : ℕ) (job : Job) (task : Task)
    → MayWant check.cap happy → cap ≡ check.cap → servers ≡ servers_of w → session ≡ length w.operations
    → BeginsRepair cap happy (numbers_of taken) (strings_of taken) servers session w.clock job task → IsNewTask (nodes_of w) (length w.operations) job task
mending_new w happy check cap taken servers session job task may cap_is servers_are session_is begins =
    new_repair (nodes_of w) check.cap happy (numbers_of taken) (strings_of taken) (servers_of w) (length w.operations) w.clock job task may
    (at_position w happy check cap taken servers session job task cap_is servers_are session_is begins)

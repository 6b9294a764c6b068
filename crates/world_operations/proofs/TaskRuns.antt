-- Turns of the loop carry a machine of any kind as a world's events do.
use Rattle.std.proofs.Common.{◌≡◌, ℕ, List, Option, Some, None, Result, Ok, Err, refl, sym, subst, ap, ◌∙◌}
use Rattle.wire.specs.declared.message.Message.{Message}
use Rattle.request_record.specs.Follow.{IsSaid, Nothing, Said}
use Rattle.upload_core.specs.Calls.{upload_calls}
use Rattle.download_core.specs.Calls.{download_calls}
use Rattle.checker.specs.Calls.{check_calls}
use Rattle.local_grid.specs.Outside.{OutsideCalls}
use Rattle.local_grid.specs.OutsideTurns.{Finishes, LoopState}
use Rattle.carried_operations.proofs.Runs.{IsLaw, IsWithin, course_goes, follows_both, follows_wider}
use Rattle.world_operations.specs.declared.task.Task.{Task}
use Rattle.world_operations.specs.declared.task.Task.TheVariants.{Uploading, Downloading, Checking, Gone}
use Rattle.world_operations.specs.Follow.{GoesOn}
use Rattle.world_operations.specs.Moves.{Advances, StaysWell, TicksOn, task_calls}
use Rattle.world_operations.specs.Tasks.{requests_of}
use Rattle.world_operations.specs.UploadPieces.{fails, gives}
use Rattle.world_operations.proofs.TaskMoves.{by_machine, check_heard, check_ticked, download_advanced, download_ticked, goes_nowhere, same_goes, taken, upload_heard, upload_ticked}
use Rattle.world_operations.specs.Carried.{IsCarried}

both : (New : Said) (a b c : Task) → GoesOn New a b → GoesOn New b c → GoesOn New a c
both New a b c f g = record {
  follows = follows_both New (requests_of a) (requests_of b) (requests_of c) f.follows g.follows;
  index = g.index ∙ f.index;
  is_for = λ e h. g.is_for e (f.is_for e h);
  happy = λ pairs h. g.happy pairs (f.happy pairs h);
  shares = λ these h. g.shares these (f.shares these h);
  given = λ p h. g.given p (f.given p h);
  hashed = λ input h. g.hashed input (f.hashed input h);
  tested = λ input h. g.tested input (f.tested input h);
  ended = λ status h. g.ended status (f.ended status h);
  blamed = λ position blame h. g.blamed position blame (f.blamed position blame h);
  asked = λ servers h. g.asked servers (f.asked servers h);
  gone = λ number e. g.gone number (f.gone number e);
}

wider : (Old New : Said) (a b : Task) → IsWithin Old New → GoesOn Old a b → GoesOn New a b
wider Old New a b within f = record {
  follows = follows_wider Old New (requests_of a) (requests_of b) within f.follows;
  index = f.index;
  is_for = f.is_for;
  happy = f.happy;
  shares = f.shares;
  given = f.given;
  hashed = f.hashed;
  tested = f.tested;
  ended = f.ended;
  blamed = f.blamed;
  asked = f.asked;
  gone = f.gone;
}

heard : (from : ℕ) (m : Message) (now : ℕ) (old new : Task) → Advances from m now old new → GoesOn (IsSaid from m (requests_of old).session) old new
heard from m now old new a =
    by_machine (λ u v. (upload_calls gives fails).hears u from m now v) (λ d e. download_calls.hears d from m now e × StaysWell d e) (λ c e. check_calls.hears c from m now e) (Unit {0})
    (λ s t. GoesOn (IsSaid from m (requests_of s).session) s t)
    (λ u v h. upload_heard {X = Unit {0}} {E = Unit {0}} (Ok tt) from now m u v h tt (λ over. refl) h.pieces)
    (λ d e h. download_advanced from now m d e h.0)
    (λ c e h. check_heard {X = Unit {0}} {E = Unit {0}} (Ok tt) from now m c e h tt)
    (λ n new gone is. same_goes (IsSaid from m n) (Gone n) new is) old new a

ticked : (now : ℕ) (old new : Task) → TicksOn now old new → GoesOn Nothing old new
ticked now old new a =
    by_machine (λ u v. (upload_calls gives fails).ticks u now v) (λ d e. download_calls.ticks d now e × StaysWell d e) (λ c e. check_calls.ticks c now e) (Unit {0}) (GoesOn Nothing)
    (λ u v h. upload_ticked {X = Unit {0}} {E = Unit {0}} (Ok tt) now u v h tt h.pieces)
    (λ d e h. download_ticked {X = Unit {0}} {E = Unit {0}} (Ok tt) now d e h.0 tt)
    (λ c e h. check_ticked {X = Unit {0}} {E = Unit {0}} (Ok tt) now c e h tt)
    (λ n new gone is. same_goes Nothing (Gone n) new is) old new a

-- What a world keeps of each machine is kept by the loop too.
pub tasks_go_on : IsLaw task_calls GoesOn
tasks_go_on = record {
  itself = goes_nowhere;
  both = both;
  wider = wider;
  session = λ New a b f. f.follows.session_is;
  takes = λ old f new t. taken old new f t;
  hears = λ old from m now new h. heard from m now old new h;
  ticks = λ old now new t. ticked now old new t;
}

pub carried_as : {G : Type 0} (calls : OutsideCalls G) (most : ℕ) (first was ended is : Task) (old new : G) → was ≡ first → ended ≡ is
    → Finishes task_calls calls most (record { operation = was; outside = old }) (record { operation = is; outside = new }) → IsCarried calls first old ended new
carried_as {G = G} calls most first was ended is old new same last f =
    let first_state : LoopState Task G = record { operation = was; outside = old } in
    let last_state : LoopState Task G = record { operation = is; outside = new } in
    subst (λ (u : Task). IsCarried calls first old u new) (sym last)
    (subst (λ (u : Task). IsCarried calls u old is new) same
    (record { states = f.2.0; turns = f.2.2; ends = f.3; goes = course_goes task_calls GoesOn tasks_go_on calls (requests_of was).session first_state last_state f.2.0 refl f.2.2 }))

-- Each change of a world preserves what holds of it, and one after another does.
use Rattle.std.proofs.Common.{◌≡◌, ℕ, ◌<◌, ◌≤◌, List, [], ◌∷◌, ◌++◌, length, replicate, zero, suc, Some, None, Ok, Err, Contains, refl, sym, subst, ap, ◌∙◌, arith}
use Rattle.std.specs.Prelude.{slice_get, slice_set}
use Rattle.std.specs.List.Sorted.{IsStrictlySortedBy}
use Rattle.lemmas.proofs.Ranges.{range_has}
use Rattle.std.proofs.lemmas.Option.{slice_get_within}
use Rattle.wire.specs.declared.message.Body.{Body}
use Rattle.wire.specs.declared.message.Message.{Message}
use Rattle.wire.specs.Frames.{IsBodyOf}
use Rattle.request_record.specs.declared.requests.Asked.{Asked}
use Rattle.share_store.specs.Memory.{MemoryState, memory_calls}
use Rattle.share_store.specs.Shelf.{Shelf, Restarts, closed_at}
use Rattle.server_core.specs.ServerState.{ServerState, Outcome, RestartsTo, Serves, Ticks}
use Rattle.server_core.specs.Sound.{AreRight, Answers, ClosedStay, IsKept, IsSound, StaysSound}
use Rattle.server_core.proofs.Keeps.{messages_keep, restarts_keep, starts_sound, ticks_keep}
use Rattle.server_core.proofs.Over.{serves_over}
use Rattle.share_store.specs.Calls.{shelf_calls}
use Rattle.share_store.specs.MemoryKeeps.{memory_keeps}
use Rattle.answer_laws.specs.Enough.Servers.{TellsAll}
use Rattle.answer_laws.proofs.Enough.Servers.{servers_tell_all}
use Rattle.world_operations.specs.declared.job.Job.{Job}
use Rattle.world_operations.specs.declared.message.Sent.{Sent}
use Rattle.world_operations.specs.declared.operation.Operation.{Operation}
use Rattle.world_operations.specs.declared.task.Task.{Task}
use Rattle.request_record.specs.Follow.{IsSaid, Nothing, Said}
use Rattle.world_operations.specs.Follow.{IsNewTask, Moves}
use Rattle.world_operations.specs.Moves.{sent_to}
use Rattle.world_operations.specs.Tasks.{IsRightTask, requests_of}
use Rattle.world_operations.proofs.Positions.{get_set_same, length_set, member_none, same_some}
use Rattle.world.specs.State.{WorldState, new_server, new_world, node_count, nodes_of, shelved}
use Rattle.world.specs.Step.{IsSpoken, answer_to, new_operation}
use Rattle.world.specs.Consistent.{CameFrom, IsConsistent, Preserves}
use Rattle.world.specs.Later.{IsLater}
use Rattle.world.proofs.Lives.{HaveOtherLives, lives_changed}
use Rattle.world.proofs.Changes.{answered, operation_begins, operation_moves, said_by_liar, same_sent, sent_more, server_changed}
use Rattle.world.proofs.Later.{later_from, later_still, lives_grow, moves_grow, moves_send, no_more, none_change, none_grow, one_grows, one_more, one_stays, same_world}

pub preserves_itself : (w : WorldState) → Preserves w w
preserves_itself w c = (c, same_world w)

pub preserves_same : (old new : WorldState) → new ≡ old → Preserves old new
preserves_same old new e = subst (Preserves old) (sym e) (preserves_itself old)

pub preserves_on : (a b c : WorldState) → Preserves a b → Preserves b c → Preserves a c
preserves_on a b c f g h = (let first = f h in let second = g first.0 in (second.0, later_still a b c first.1 second.1))

-- the same world at another time, or where liars heard something else
pub preserves_quiet : (old new : WorldState) → new.servers ≡ old.servers → new.operations ≡ old.operations → new.sent ≡ old.sent → length new.heard ≡ length old.heard → Preserves old new
preserves_quiet old new servers operations sent heard c =
    let same : WorldState = record new { servers = old.servers; operations = old.operations; sent = old.sent } in
    let e : same ≡ new =
    ap (λ (s : List (ServerState MemoryState)). record new { servers = s; operations = old.operations; sent = old.sent }) (sym servers)
    ∙ ap (λ (o : List Operation). record new { operations = o; sent = old.sent }) (sym operations) ∙ ap (λ (s : List Sent). record new { sent = s }) (sym sent) in
    subst (λ (w : WorldState). IsConsistent w × IsLater old w) e (c, later_from old same (none_change old.servers) (none_grow old.operations) (no_more old.sent) (refl, heard))

-- ---- servers

abbrev Server : Type 0
Server = ServerState MemoryState

-- what a message does to an honest server
served : (before after : Server) (from now : ℕ) (m : Message) (outcome : Outcome) → IsSound (shelved before)
    → Serves memory_calls before from m now outcome after → IsKept (shelved before) from m outcome (shelved after)
served before after from now m outcome is_sound serves =
    messages_keep (shelved before) (shelved after) from now m outcome is_sound (serves_over memory_calls (λ (s : MemoryState). s.shelf) memory_keeps before after from now m outcome serves)

ticked_server : (before after : Server) (now : ℕ) → Ticks before now after → Ticks (shelved before) now (shelved after)
ticked_server before after now t = record {
  after = record { store = ap (λ (s : MemoryState). s.shelf) t.after.store; buckets = t.after.buckets };
  clock = t.clock;
  terms = record { capacity = t.terms.capacity; readonly = t.terms.readonly };
}

restarted : (before after : Server) → RestartsTo memory_calls.restart_gives before after → RestartsTo Restarts (shelved before) (shelved after)
restarted before after r = record {
  store = memory_keeps.restarts before.store after.store r.store;
  buckets = r.buckets;
  clock = r.clock;
  terms = record { capacity = r.terms.capacity; readonly = r.terms.readonly };
}

-- the state of a world with another server, and more sent
server_goes : (w : WorldState) (node : ℕ) (before after : Server) → slice_get w.servers node ≡ Some before → IsSound (shelved after) → ClosedStay before.store.shelf after.store.shelf
    → IsConsistent w → IsConsistent (record w { servers = slice_set w.servers node after }) × IsLater w (record w { servers = slice_set w.servers node after })
server_goes w node before after at is_sound stays c = (
  server_changed w.servers w.operations w.sent node before after at stays is_sound c,
  later_from w (record w { servers = slice_set w.servers node after }) (one_stays w.servers node before after at stays) (none_grow w.operations) (no_more w.sent) (length_set w.servers node after, refl),
)

pub preserves_served : (w : WorldState) (node from now : ℕ) (m : Message) (outcome : Outcome) (before after : Server) → slice_get w.servers node ≡ Some before → Serves memory_calls before from m now outcome after
    → Preserves w (record w { servers = slice_set w.servers node after })
preserves_served w node from now m outcome before after at serves c =
    let k = served before after from now m outcome (c.sound node before at) serves in
    server_goes w node before after at k.sound k.stays c

answer_sent : (w : WorldState) (x : Sent) (m : Message) (after : Server) (outcome : Outcome)
    → slice_get w.servers x.to ≡ Some after → Contains w.sent x → IsBodyOf m x.body → IsSpoken outcome → Answers (shelved after).store m outcome
    → ((said : Message) → outcome ≡ Ok (Some said) → TellsAll (shelved after).store m.body said.body) → Preserves w (record w { sent = w.sent ++ answer_to x outcome })
answer_sent w x m after (Ok (Some said)) at there spelled spoken answers all c = (
  sent_more w.servers w.operations w.sent (sent_to x.to x.from said) (answered w.servers w.operations w.sent x m said after at there spelled spoken answers (all said refl)) c,
  later_from w (record w { sent = w.sent ++ sent_to x.to x.from said ∷ [] }) (none_change w.servers) (none_grow w.operations) (sent_to x.to x.from said ∷ [], refl) (refl, refl),
)
answer_sent w x m after (Ok None) at there spelled spoken answers all c = (
  same_sent w.servers w.operations w.sent c,
  later_from w (record w { sent = w.sent ++ [] }) (none_change w.servers) (none_grow w.operations) ([], refl) (refl, refl),
)
answer_sent w x m after (Err e) at there spelled spoken answers all c = (
  same_sent w.servers w.operations w.sent c,
  later_from w (record w { sent = w.sent ++ [] }) (none_change w.servers) (none_grow w.operations) ([], refl) (refl, refl),
)

-- a request comes to a server, and its answer is sent
pub preserves_answered : (w : WorldState) (x : Sent) (m : Message) (outcome : Outcome) (before after : Server) → slice_get w.servers x.to ≡ Some before → Contains w.sent x → IsBodyOf m x.body
    → Serves memory_calls before x.from m w.clock outcome after → IsSpoken outcome
    → Preserves w (record w { servers = slice_set w.servers x.to after; sent = w.sent ++ answer_to x outcome })
preserves_answered w x m outcome before after at there spelled serves spoken c =
    let k = served before after x.from w.clock m outcome (c.sound x.to before at) serves in
    let on : Serves shelf_calls (shelved before) x.from m w.clock outcome (shelved after) = serves_over memory_calls (λ (s : MemoryState). s.shelf) memory_keeps before after x.from w.clock m outcome serves in
    let mid : WorldState = record w { servers = slice_set w.servers x.to after } in
    preserves_on w mid (record mid { sent = mid.sent ++ answer_to x outcome }) (server_goes w x.to before after at k.sound k.stays)
    (answer_sent mid x m after outcome (get_set_same w.servers x.to before after at) there spelled spoken k.answers
    (λ said is. servers_tell_all (shelved before) (shelved after) x.from w.clock m said (c.sound x.to before at)
    (subst (λ (o : Outcome). Serves shelf_calls (shelved before) x.from m w.clock o (shelved after)) is on))) c

pub preserves_ticked : (w : WorldState) (node now : ℕ) (before after : Server) → slice_get w.servers node ≡ Some before → Ticks before now after
    → Preserves w (record w { servers = slice_set w.servers node after })
preserves_ticked w node now before after at t c =
    let k : StaysSound (shelved before) (shelved after) = ticks_keep (shelved before) (shelved after) now (c.sound node before at) (ticked_server before after now t) in
    server_goes w node before after at k.sound k.stays c

pub preserves_restarted : (w : WorldState) (node : ℕ) (before after : Server) → slice_get w.servers node ≡ Some before → RestartsTo memory_calls.restart_gives before after
    → Preserves w (record w { servers = slice_set w.servers node after })
preserves_restarted w node before after at r c =
    let k : StaysSound (shelved before) (shelved after) = restarts_keep (shelved before) (shelved after) (c.sound node before at) (restarted before after r) in
    server_goes w node before after at k.sound k.stays c

-- what a server's store holds stays, and its buckets
pub preserves_held : (w : WorldState) (node : ℕ) (before after : Server) → slice_get w.servers node ≡ Some before → shelved after ≡ shelved before
    → Preserves w (record w { servers = slice_set w.servers node after })
preserves_held w node before after at same c =
    server_goes w node before after at (subst IsSound (sym same) (c.sound node before at))
    (λ id x e. ap (λ (m : ServerState Shelf). closed_at id m.store.closed) same ∙ e) c

-- ---- what liars say

pub preserves_said : (w : WorldState) (from to : ℕ) (body : List ℕ) → length w.servers ≤ from → Preserves w (record w { sent = w.sent ++ record { from = from; to = to; body = body } ∷ [] })
preserves_said w from to body liar c = (
  sent_more w.servers w.operations w.sent (record { from = from; to = to; body = body })
      (said_by_liar w.servers w.operations w.sent (record { from = from; to = to; body = body }) liar (λ m at. slice_get_within w.servers from m at)) c,
  later_from w (record w { sent = w.sent ++ record { from = from; to = to; body = body } ∷ [] }) (none_change w.servers) (none_grow w.operations) (record { from = from; to = to; body = body } ∷ [], refl) (refl, refl),
)

-- ---- operations

operation_goes : (New : Said) (w : WorldState) (i : ℕ) (old new : Operation) (after : List Sent) → slice_get w.operations i ≡ Some old → Moves New old new w.sent after
    → ((position server : ℕ) (asks : Asked) (said : Body) → New position server asks said → CameFrom w.sent i old.node position server asks said) → IsRightTask new.task
    → Preserves w (record w { operations = slice_set w.operations i new; sent = after })
operation_goes New w i old new after at moves came right c = (
  operation_moves New w.servers w.operations w.sent after i old new at moves came right c,
  later_from w (record w { operations = slice_set w.operations i new; sent = after }) (none_change w.servers)
      (one_grows w.operations i old new at (moves_grow New old new w.sent after moves)) (moves_send New old new w.sent after moves) (refl, refl),
)

-- an answer comes to the operation of its session
pub preserves_got : (w : WorldState) (x : Sent) (m : Message) (old new : Operation) (after : List Sent) → slice_get w.operations m.session ≡ Some old → old.node ≡ x.to
    → Contains w.sent x → IsBodyOf m x.body → Moves (IsSaid x.from m (requests_of old.task).session) old new w.sent after → IsRightTask new.task
    → Preserves w (record w { operations = slice_set w.operations m.session new; sent = after })
preserves_got w x m old new after at node there spelled moves right c =
    let session : (requests_of old.task).session ≡ m.session = (c.fine m.session old at).session in
    operation_goes (IsSaid x.from m (requests_of old.task).session) w m.session old new after at moves
    (λ position server asks said n. record {
      frame = x;
      answer = m;
      was_sent = there;
      spelled = spelled;
      to = sym node;
      says = subst (λ (s : ℕ). IsSaid x.from m s position server asks said) session n;
    }) right c

-- an operation ticks, or hands out and sends
pub preserves_moved : (w : WorldState) (i : ℕ) (old new : Operation) (after : List Sent) → slice_get w.operations i ≡ Some old → Moves Nothing old new w.sent after → IsRightTask new.task
    → Preserves w (record w { operations = slice_set w.operations i new; sent = after })
preserves_moved w i old new after at moves right c = operation_goes Nothing w i old new after at moves (λ position server asks said n. absurd n) right c

pub preserves_begun : (w : WorldState) (node : ℕ) (job : Job) (task : Task) → node < length w.servers → IsNewTask (nodes_of w) (length w.operations) job task → IsRightTask task
    → Preserves w (record w { operations = w.operations ++ new_operation node job (length w.sent) task ∷ [] })
preserves_begun w node job task honest begins right c = (
  operation_begins w.servers w.operations w.sent (nodes_of w) node job task honest (λ server low. range_has 0 (node_count w) server (omega arith) (omega (arith, low))) begins right c,
  later_from w (record w { operations = w.operations ++ new_operation node job (length w.sent) task ∷ [] }) (none_change w.servers)
      (one_more w.operations (new_operation node job (length w.sent) task)) (no_more w.sent) (refl, refl),
)

pub preserves_lives : (w : WorldState) (new : List Operation) → HaveOtherLives w.operations new → Preserves w (record w { operations = new })
preserves_lives w new h c = (lives_changed w.servers w.operations new w.sent h c, later_from w (record w { operations = new }) (none_change w.servers) (lives_grow w.operations new h) (no_more w.sent) (refl, refl))

-- ---- a new world

none_closed : AreRight []
unfolding IsStrictlySortedBy
none_closed = record { rising = tt; digests = λ id c e. absurd cc }

new_sound : IsSound (shelved new_server)
new_sound = starts_sound (shelved new_server).store new_server.capacity new_server.readonly none_closed

replicated : {A : Type 0} (n i : ℕ) (x y : A) → slice_get (replicate n x) i ≡ Some y → x ≡ y
replicated zero i x y e = absurd cc
replicated (suc n) zero x y e = same_some x y e
replicated (suc n) (suc i) x y e = replicated n i x y e

pub new_consistent : (honest liars : ℕ) → IsConsistent (new_world honest liars)
new_consistent honest liars = record {
  sound = λ node m e. subst (λ (n : Server). IsSound (shelved n)) (replicated honest node new_server m e) new_sound;
  justified = λ x m answer c at spelled kind. absurd (member_none x c);
  recorded = λ x m c honest spelled kind. absurd (member_none x c);
  one_request = λ x y m n c d from to spelled written asks kind session number. absurd (member_none x c);
  fine = λ i op e. absurd cc;
  history = λ node m e. record {
    shelf_at = λ i. m.store.shelf;
    stays = λ i j le id x f. f;
    last = λ i id x f. f;
    answers = λ moment x answer there from spelled kind. absurd cc;
  };
  after = λ moment x answer op there from to spelled kind at. absurd cc;
}

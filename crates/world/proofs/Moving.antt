-- What the calls of a world's parts make of it.
use Rattle.lemmas.proofs.Ranges.{range_push}
use Rattle.lemmas.proofs.Bools.{both}
use Rattle.lemmas.proofs.Numbers.{same_number}
use Rattle.lemmas.proofs.Results.{settled_by}
use Rattle.std.proofs.Common.{◌≡◌, ℕ, zero, suc, ◌+◌, ◌-◌, ◌<◌, ◌≤◌, List, [], ◌∷◌, ◌++◌, true, length, map, take, drop, get_or, Some, Result, Ok, Contains, refl, sym, subst, ap, ◌∙◌, inl, inr, arith}
use Rattle.std.specs.Prelude.{OnErr, OnOk, ◌==◌, slice_get, slice_set}
use Rattle.std.specs.List.{range_with_len}
use Rattle.std.proofs.lemmas.List.{append_assoc, length-append}
use Rattle.std.proofs.lemmas.Option.{slice_get_read}
use Rattle.wire.specs.declared.message.Message.{Message}
use Rattle.wire.specs.Frames.{IsBodyOf, IsMessage}
use Rattle.share_store.specs.Memory.{MemoryState, memory_calls}
use Rattle.server_core.specs.ServerState.{ServerState, Outcome, RestartsTo, Ticks}
use Rattle.upload_core.specs.declared.status.ServerInfo.{ServerInfo}
use Rattle.world_operations.specs.declared.job.Job.{Job}
use Rattle.world_operations.specs.declared.message.Sent.{Sent}
use Rattle.world_operations.specs.declared.operation.Life.{Life}
use Rattle.world_operations.specs.declared.operation.Life.TheVariants.{Forgotten, Live, Refused}
use Rattle.world_operations.specs.declared.operation.Operation.{Operation}
use Rattle.world_operations.specs.declared.task.Task.{Task}
use Rattle.request_record.specs.Follow.{IsSaid}
use Rattle.world_operations.specs.Follow.{IsNewTask, Moves}
use Rattle.world_operations.specs.Moves.{IsFlushed, OperationGets, sent_to}
use Rattle.world_operations.specs.Tasks.{IsRightTask, requests_of}
use Rattle.world_operations.proofs.Positions.{append_none, get_below, push_last, same_some}
use Rattle.world.specs.State.{WorldState, nodes_of, server_of, shelved}
use Rattle.world.specs.Step.{Delivers, HaveTicked, OperationsTick, Opens, RestartsAt, ServerGets, TaskGets, TicksAt, TicksOrStays, failing, forgotten_by, is_live, is_live_at, new_operation, with_heard, with_life}
use Rattle.world.specs.Step.{gets, to_liar}
use Rattle.world.specs.Parts.{NothingNew, OperationBecomes, OperationMoves, SaidBy, ServerBecomes, ServesBy}
use Rattle.world.specs.Consistent.{Preserves}
use Rattle.world.proofs.Lives.{all_forgotten, one_life}
use Rattle.world.proofs.Preserving.{preserves_answered, preserves_begun, preserves_got, preserves_held, preserves_itself, preserves_lives, preserves_moved, preserves_on, preserves_restarted, preserves_said, preserves_served, preserves_ticked}

abbrev Server : Type 0
Server = ServerState MemoryState

-- ---- a server answers

pub served_only : (w : WorldState) (position from : ℕ) (m : Message) (outcome : Outcome) (new : List Server) → ServerBecomes (ServesBy from m w.clock outcome) w.servers position new
    → Preserves w (record w { servers = new })
served_only w position from m outcome new b =
    subst (λ (s : List Server). Preserves w (record w { servers = s })) (sym b.is) (preserves_served w position from w.clock m outcome b.before b.after b.at b.becomes)

pub served_gets : (w : WorldState) (x : Sent) (m said : Message) (from to position : ℕ) (new : List Server) (after : List Sent) → x.from ≡ from → x.to ≡ to → position ≡ to
    → ServerBecomes (ServesBy from m w.clock (Ok (Some said))) w.servers position new → IsMessage said → after ≡ w.sent ++ sent_to to from said ∷ []
    → ServerGets w x m (record w { servers = new; sent = after })
served_gets w x m said from to position new after sender receiver here b spoken appended =
    let own : ServerBecomes (ServesBy x.from m w.clock (Ok (Some said))) w.servers x.to new =
    subst (λ (n : ℕ). ServerBecomes (ServesBy n m w.clock (Ok (Some said))) w.servers x.to new) (sym sender)
    (subst (λ (n : ℕ). ServerBecomes (ServesBy from m w.clock (Ok (Some said))) w.servers n new) (here ∙ sym receiver) b) in
    let more : after ≡ w.sent ++ sent_to x.to x.from said ∷ [] =
    appended ∙ ap (λ (n : ℕ). w.sent ++ sent_to n from said ∷ []) (sym receiver) ∙ ap (λ (n : ℕ). w.sent ++ sent_to x.to n said ∷ []) (sym sender) in
    record {
      before = own.before;
      after = own.after;
      outcome = Ok (Some said);
      at = own.at;
      serves = own.becomes;
      memory = λ e. absurd cc;
      spoken = spoken;
      is = ap (λ (s : List Server). record w { servers = s; sent = after }) own.is ∙ ap (λ (l : List Sent). record w { servers = slice_set w.servers x.to own.after; sent = l }) more;
    }

pub gets_preserves : (w new : WorldState) (x : Sent) (m : Message) → Contains w.sent x → IsBodyOf m x.body → ServerGets w x m new → Preserves w new
gets_preserves w new x m there spelled g =
    subst (Preserves w) (sym g.is) (preserves_answered w x m g.outcome g.before g.after g.at there spelled g.serves g.spoken)

-- the answer was sent, or there was no memory to send it
pub served_keeps : {E : Type 0} (w : WorldState) (x : Sent) (m said : Message) (from to position : ℕ) (new : List Server) (after : List Sent) (r : Result Unit E) → x.from ≡ from → x.to ≡ to → position ≡ to
    → ServerBecomes (ServesBy from m w.clock (Ok (Some said))) w.servers position new → IsMessage said → OnOk r (after ≡ w.sent ++ sent_to to from said ∷ []) → OnErr r (after ≡ w.sent)
    → Contains w.sent x → IsBodyOf m x.body → Preserves w (record w { servers = new; sent = after })
served_keeps w x m said from to position new after r sender receiver here b spoken ok err there spelled = elim (settled_by r _ _ ok err) [
  | inl more ↦ gets_preserves w (record w { servers = new; sent = after }) x m there spelled (served_gets w x m said from to position new after sender receiver here b spoken more)
  | inr same ↦ subst (λ (l : List Sent). Preserves w (record w { servers = new; sent = l })) (sym same) (served_only w position from m (Ok (Some said)) new b)
]

-- ---- an operation gets an answer

lives : (life : Life) → is_live life ≡ true → life ≡ Live
lives Live e = refl
lives Forgotten e = absurd cc
lives Refused e = absurd cc

pub live_of : (node : ℕ) (op : Operation) → is_live_at node op ≡ true → (op.node ≡ node) × (op.life ≡ Live)
live_of node op e = (let two = both (op.node == node) (is_live op.life) e in (same_number op.node node two.0, lives op.life two.1))

pub task_gets : (w : WorldState) (x : Sent) (m : Message) (from to : ℕ) (op : Operation) (new : List Operation) (after : List Sent) → x.from ≡ from → x.to ≡ to
    → slice_get w.operations m.session ≡ Some op → is_live_at to op ≡ true
    → OperationBecomes (λ o more next. OperationGets from m w.clock o more next) w.operations m.session w.sent new after
    → TaskGets w x m (record w { operations = new; sent = after })
task_gets w x m from to op new after sender receiver at live b =
    let same : b.op ≡ op = same_some b.op op (sym b.at ∙ at) in
    let l = live_of to op live in
    gets b.op b.next b.more
    (record { at = b.at; node = ap (λ (o : Operation). o.node) same ∙ l.0 ∙ sym receiver; live = ap (λ (o : Operation). o.life) same ∙ l.1 })
    (subst (λ (n : ℕ). OperationGets n m w.clock b.op b.more b.next) (sym sender) b.becomes)
    (ap (λ (o : List Operation). record w { operations = o; sent = after }) b.is
    ∙ ap (λ (l : List Sent). record w { operations = slice_set w.operations m.session b.next; sent = l }) b.appended)

pub task_keeps : (w : WorldState) (x : Sent) (m : Message) (from to : ℕ) (op : Operation) (new : List Operation) (after : List Sent) → x.from ≡ from → x.to ≡ to
    → slice_get w.operations m.session ≡ Some op → is_live_at to op ≡ true → OperationMoves (SaidBy from m) w.operations m.session w.sent new after
    → Contains w.sent x → IsBodyOf m x.body → Preserves w (record w { operations = new; sent = after })
task_keeps w x m from to op new after sender receiver at live b there spelled =
    let same : b.op ≡ op = same_some b.op op (sym b.at ∙ at) in
    let l = live_of to op live in
    let moves : Moves (IsSaid x.from m (requests_of b.op.task).session) b.op b.next w.sent after =
    subst (λ (n : ℕ). Moves (IsSaid n m (requests_of b.op.task).session) b.op b.next w.sent after) (sym sender) b.moves in
    subst (λ (o : List Operation). Preserves w (record w { operations = o; sent = after })) (sym b.is)
    (preserves_got w x m b.op b.next after b.at (ap (λ (o : Operation). o.node) same ∙ l.0 ∙ sym receiver) there spelled moves b.right)

-- an operation goes on, and nothing new is answered
pub moved_keeps : (w : WorldState) (position : ℕ) (new : List Operation) (after : List Sent) → OperationMoves NothingNew w.operations position w.sent new after
    → Preserves w (record w { operations = new; sent = after })
moved_keeps w position new after b =
    subst (λ (o : List Operation). Preserves w (record w { operations = o; sent = after })) (sym b.is) (preserves_moved w position b.op b.next after b.at b.moves b.right)

pub at_position : {A : Type 0} (xs : List A) (i : ℕ) (x : A) → i < length xs → x ≡ get_or xs i x → slice_get xs i ≡ Some x
at_position xs i x low is = slice_get_read xs (length xs) i x refl low is

-- ---- a message at a position

pub item_is : {A : Type 0} (xs : List A) (position : ℕ) (x item : A) → slice_get xs position ≡ Some x → position < length xs → item ≡ get_or xs position item → x ≡ item
item_is xs position x item at low is = same_some x item (sym at ∙ at_position xs position item low is)

pub heard_delivers : (w new : WorldState) (x item : Sent) (position liar : ℕ) → slice_get w.sent position ≡ Some x → position < length w.sent → item ≡ get_or w.sent position item → length w.servers ≤ item.to
    → liar ≡ item.to - length w.servers → new ≡ with_heard w liar x (slice_get w.heard liar) → Delivers w x new
heard_delivers w new x item position liar at low is far liar_is e =
    let same : item ≡ x = sym (item_is w.sent position x item at low is) in
    let position_is : liar ≡ x.to - length w.servers = liar_is ∙ ap (λ (s : Sent). s.to - length w.servers) same in
    to_liar (subst (λ (s : Sent). length w.servers ≤ s.to) same far) (e ∙ ap (λ (n : ℕ). with_heard w n x (slice_get w.heard n)) position_is)

-- ---- nodes in a row

pub next_node : (nodes all : List ℕ) (n : ℕ) → nodes ≡ range_with_len 0 n → all ≡ nodes ++ n ∷ [] → all ≡ range_with_len 0 (n + 1)
next_node nodes all n are pushed =
    let on : suc n ≡ n + 1 = omega arith in
    let here : n ≡ 0 + n = omega arith in
    pushed ∙ ap (λ (xs : List ℕ). xs ++ n ∷ []) are ∙ ap (λ (x : ℕ). range_with_len 0 n ++ x ∷ []) here ∙ sym (range_push 0 n) ∙ ap (range_with_len 0) on

pub own_nodes : (nodes : List ℕ) → map (λ (s : ServerInfo). s.node) (map server_of nodes) ≡ nodes
own_nodes [] = refl
own_nodes (n ∷ ns) = ap (λ (xs : List ℕ). n ∷ xs) (own_nodes ns)

pub body_of : (sent : List Sent) (position : ℕ) (x item : Sent) (bytes : List ℕ) (m : Message) → slice_get sent position ≡ Some x → position < length sent → item ≡ get_or sent position item
    → bytes ≡ item.body → IsBodyOf m bytes → IsBodyOf m x.body
body_of sent position x item bytes m at low is same b = subst (IsBodyOf m) (same ∙ ap (λ (s : Sent). s.body) (sym (item_is sent position x item at low is))) b

pub no_body_of : (sent : List Sent) (position : ℕ) (x item : Sent) (bytes : List ℕ) (m : Message) → slice_get sent position ≡ Some x → position < length sent → item ≡ get_or sent position item
    → bytes ≡ item.body → IsBodyOf m x.body → IsBodyOf m bytes
no_body_of sent position x item bytes m at low is same b = subst (IsBodyOf m) (ap (λ (s : Sent). s.body) (item_is sent position x item at low is) ∙ sym same) b

-- ---- an operation begins

set_last : {A : Type 0} (xs : List A) (x y : A) → slice_set (xs ++ x ∷ []) (length xs) y ≡ xs ++ y ∷ []
set_last [] x y = refl
set_last (z ∷ zs) x y = ap (λ (l : List _). z ∷ l) (set_last zs x y)

pub opened : (w : WorldState) (node : ℕ) (job : Job) (task : Task) (new : List Operation) (after : List Sent)
    → OperationBecomes IsFlushed (w.operations ++ new_operation node job (length w.sent) task ∷ []) (length w.operations) w.sent new after
    → Opens w node job task (record w { operations = new; sent = after })
opened w node job task new after b =
    let first : Operation = new_operation node job (length w.sent) task in
    let same : b.op ≡ first = same_some b.op first (sym b.at ∙ push_last w.operations first) in
    record {
      last = b.next;
      more = b.more;
      flushed = subst (λ (o : Operation). IsFlushed o b.more b.next) same b.becomes;
      is = ap (λ (o : List Operation). record w { operations = o; sent = after }) (b.is ∙ set_last w.operations first b.next)
          ∙ ap (λ (l : List Sent). record w { operations = w.operations ++ b.next ∷ []; sent = l }) b.appended;
    }

pub opened_keeps : (w : WorldState) (node : ℕ) (job : Job) (task : Task) (new : List Operation) (after : List Sent) → node < length w.servers
    → IsNewTask (nodes_of w) (length w.operations) job task → IsRightTask task
    → OperationMoves NothingNew (w.operations ++ new_operation node job (length w.sent) task ∷ []) (length w.operations) w.sent new after
    → Preserves w (record w { operations = new; sent = after })
opened_keeps w node job task new after honest begins right b =
    let mid : WorldState = record w { operations = w.operations ++ new_operation node job (length w.sent) task ∷ [] } in
    preserves_on w mid (record w { operations = new; sent = after })
    (preserves_begun w node job task honest begins right) (moved_keeps mid (length w.operations) new after b)

-- ---- operations tick

split_at : {A : Type 0} (xs : List A) (i : ℕ) (x : A) → slice_get xs i ≡ Some x → (take (suc i) xs ≡ take i xs ++ x ∷ []) × (drop i xs ≡ x ∷ drop (suc i) xs)
split_at [] i x e = absurd cc
split_at (z ∷ zs) zero x e = (let same : z ≡ x = same_some z x e in (ap (λ y. y ∷ []) same, ap (λ y. y ∷ zs) same))
split_at (z ∷ zs) (suc i) x e = (let s = split_at zs i x e in (ap (λ (l : List _). z ∷ l) s.0, s.1))

get_behind : {A : Type 0} (xs ys : List A) (y x : A) → slice_get (xs ++ y ∷ ys) (length xs) ≡ Some x → y ≡ x
get_behind [] ys y x e = same_some y x e
get_behind (z ∷ zs) ys y x e = get_behind zs ys y x e

set_behind : {A : Type 0} (xs ys : List A) (y x : A) → slice_set (xs ++ y ∷ ys) (length xs) x ≡ (xs ++ x ∷ []) ++ ys
set_behind [] ys y x = refl
set_behind (z ∷ zs) ys y x = ap (λ (l : List _). z ∷ l) (set_behind zs ys y x)

ticks_push : (node now : ℕ) (old : List Operation) (sent : List Sent) (new : List Operation) (op : Operation) (more : List Sent) (next : Operation) → OperationsTick node now old sent new
    → TicksOrStays node now op more next → OperationsTick node now (old ++ op ∷ []) (sent ++ more) (new ++ next ∷ [])
ticks_push node now [] sent [] op more next t s = (more, [], ap (λ (l : List Sent). l ++ more) t ∙ sym (append_none more), s, refl)
ticks_push node now [] sent (n ∷ ns) op more next t s = absurd t
ticks_push node now (o ∷ os) sent [] op more next t s = absurd t
ticks_push node now (o ∷ os) sent (n ∷ ns) op more next t s =
    (t.0, t.1 ++ more, ap (λ (l : List Sent). l ++ more) t.2 ∙ append_assoc t.0 t.1 more, t.3, ticks_push node now os t.1 ns op more next t.4 s)

pub record IsTicking (old now : WorldState) (node number : ℕ) : Type 0 where
  pub keeps : Preserves old now
  pub done : List Operation
  pub more : List Sent
  pub count : length done ≡ number
  pub ticks : OperationsTick node old.clock (take number old.operations) more done
  pub rest : now.operations ≡ done ++ drop number old.operations
  pub appended : now.sent ≡ old.sent ++ more
  pub is : now ≡ record old { operations = now.operations; sent = now.sent }

pub ticking_begins : (w : WorldState) (node : ℕ) → IsTicking w w node 0
ticking_begins w node = record { keeps = preserves_itself w; done = []; more = []; count = refl; ticks = refl; rest = refl; appended = sym (append_none w.sent); is = refl }

pub ticking_on : (old now : WorldState) (node number : ℕ) (new : List Operation) (after : List Sent) → IsTicking old now node number → number < length old.operations
    → OperationBecomes (TicksOrStays node now.clock) now.operations number now.sent new after → OperationMoves NothingNew now.operations number now.sent new after
    → IsTicking old (record now { operations = new; sent = after }) node (number + 1)
ticking_on old now node number new after t low b moves =
    let own = get_below old.operations number low in
    let split = split_at old.operations number own.0 own.1 in
    let on : suc number ≡ number + 1 = omega arith in
    let here : now.operations ≡ t.done ++ own.0 ∷ drop (suc number) old.operations = t.rest ∙ ap (λ (l : List Operation). t.done ++ l) split.1 in
    let op : own.0 ≡ b.op = get_behind t.done (drop (suc number) old.operations) own.0 b.op
    (ap (λ (n : ℕ). slice_get (t.done ++ own.0 ∷ drop (suc number) old.operations) n) t.count ∙ ap (λ (l : List Operation). slice_get l number) (sym here) ∙ b.at) in
    let clock : now.clock ≡ old.clock = ap (λ (w : WorldState). w.clock) t.is in
    let ticks : TicksOrStays node old.clock own.0 b.more b.next = subst (λ (n : ℕ). TicksOrStays node n own.0 b.more b.next) clock (subst (λ (o : Operation). TicksOrStays node now.clock o b.more b.next) (sym op) b.becomes) in
    let pushed : OperationsTick node old.clock (take (suc number) old.operations) (t.more ++ b.more) (t.done ++ b.next ∷ []) =
    subst (λ (l : List Operation). OperationsTick node old.clock l (t.more ++ b.more) (t.done ++ b.next ∷ [])) (sym split.0)
    (ticks_push node old.clock (take number old.operations) t.more t.done own.0 b.more b.next t.ticks ticks) in
    let set : slice_set now.operations number b.next ≡ (t.done ++ b.next ∷ []) ++ drop (suc number) old.operations =
    ap (λ (l : List Operation). slice_set l number b.next) here
    ∙ ap (λ (n : ℕ). slice_set (t.done ++ own.0 ∷ drop (suc number) old.operations) n b.next) (sym t.count) ∙ set_behind t.done (drop (suc number) old.operations) own.0 b.next in
    record {
      keeps = preserves_on old now (record now { operations = new; sent = after }) t.keeps (moved_keeps now number new after moves);
      done = t.done ++ b.next ∷ [];
      more = t.more ++ b.more;
      count = length-append t.done (b.next ∷ []) ∙ ap (λ (n : ℕ). n + 1) t.count;
      ticks = subst (λ (n : ℕ). OperationsTick node old.clock (take n old.operations) (t.more ++ b.more) (t.done ++ b.next ∷ [])) on pushed;
      rest = b.is ∙ set ∙ ap (λ (n : ℕ). (t.done ++ b.next ∷ []) ++ drop n old.operations) on;
      appended = b.appended ∙ ap (λ (l : List Sent). l ++ b.more) t.appended ∙ append_assoc old.sent t.more b.more;
      is = ap (λ (w : WorldState). record w { operations = new; sent = after }) t.is;
    }

take_all : {A : Type 0} (xs : List A) → take (length xs) xs ≡ xs
take_all [] = refl
take_all (x ∷ xs) = ap (λ (l : List _). x ∷ l) (take_all xs)

drop_all : {A : Type 0} (xs : List A) → drop (length xs) xs ≡ []
drop_all [] = refl
drop_all (x ∷ xs) = drop_all xs

pub ticking_ends : (old now : WorldState) (node number : ℕ) → IsTicking old now node number → number ≡ length old.operations → HaveTicked old node now
ticking_ends old now node number t all =
    let rest : now.operations ≡ t.done =
    t.rest ∙ ap (λ (n : ℕ). t.done ++ drop n old.operations) all ∙ ap (λ (l : List Operation). t.done ++ l) (drop_all old.operations) ∙ append_none t.done in
    record {
      operations = t.done;
      more = t.more;
      tasks = subst (λ (l : List Operation). OperationsTick node old.clock l t.more t.done) (ap (λ (n : ℕ). take n old.operations) all ∙ take_all old.operations) t.ticks;
      is = t.is ∙ ap (λ (o : List Operation). record old { operations = o; sent = now.sent }) rest ∙ ap (λ (s : List Sent). record old { operations = t.done; sent = s }) t.appended;
    }

-- ---- servers tick and restart

pub server_ticked : (w : WorldState) (position now : ℕ) (new : List Server) → ServerBecomes (λ before after. Ticks before now after) w.servers position new → Preserves w (record w { servers = new })
server_ticked w position now new b = subst (λ (s : List Server). Preserves w (record w { servers = s })) (sym b.is) (preserves_ticked w position now b.before b.after b.at b.becomes)

pub all_ticked : (w new : WorldState) (node position : ℕ) (servers : List Server) → position ≡ node → ServerBecomes (λ before after. Ticks before w.clock after) w.servers position servers
    → HaveTicked (record w { servers = servers }) node new → TicksAt w node new
all_ticked w new node position servers here b t =
    let own : ServerBecomes (λ before after. Ticks before w.clock after) w.servers node servers =
    subst (λ (n : ℕ). ServerBecomes (λ before after. Ticks before w.clock after) w.servers n servers) here b in
    record { before = own.before; after = own.after; at = own.at; server = own.becomes; tasks = subst (λ (s : List Server). HaveTicked (record w { servers = s }) node new) own.is t }

pub restarts : (w : WorldState) (node position : ℕ) (servers : List Server) (operations : List Operation) → position ≡ node → ServerBecomes (RestartsTo memory_calls.restart_gives) w.servers position servers
    → operations ≡ map (forgotten_by node) w.operations → RestartsAt w node (record w { servers = servers; operations = operations })
restarts w node position servers operations here b forgot =
    let own : ServerBecomes (RestartsTo memory_calls.restart_gives) w.servers node servers =
    subst (λ (n : ℕ). ServerBecomes (RestartsTo memory_calls.restart_gives) w.servers n servers) here b in
    record {
      before = own.before;
      after = own.after;
      at = own.at;
      server = own.becomes;
      is = ap (λ (s : List Server). record w { servers = s; operations = operations }) own.is
          ∙ ap (λ (o : List Operation). record w { servers = slice_set w.servers node own.after; operations = o }) forgot;
    }

pub restart_keeps : (w : WorldState) (node position : ℕ) (servers : List Server) (operations : List Operation) → ServerBecomes (RestartsTo memory_calls.restart_gives) w.servers position servers
    → operations ≡ map (forgotten_by node) w.operations → Preserves w (record w { servers = servers; operations = operations })
restart_keeps w node position servers operations b forgot =
    let mid : WorldState = record w { servers = slice_set w.servers position b.after } in
    let last : WorldState = record mid { operations = map (forgotten_by node) w.operations } in
    let same : last ≡ record w { servers = servers; operations = operations } =
    ap (λ (s : List Server). record w { servers = s; operations = map (forgotten_by node) w.operations }) (sym b.is) ∙ ap (λ (o : List Operation). record w { servers = servers; operations = o }) (sym forgot) in
    subst (Preserves w) same
    (preserves_on w mid last (preserves_restarted w position b.before b.after b.at b.becomes) (preserves_lives mid (map (forgotten_by node) w.operations) (all_forgotten node w.operations)))

pub fails : (w : WorldState) (node position : ℕ) (servers : List Server) → position ≡ node → ServerBecomes (λ before after. after ≡ failing before) w.servers position servers
    → (m : Server) × (slice_get w.servers node ≡ Some m) × (record w { servers = servers } ≡ record w { servers = slice_set w.servers node (failing m) })
fails w node position servers here b =
    let own : ServerBecomes (λ before after. after ≡ failing before) w.servers node servers = subst (λ (n : ℕ). ServerBecomes (λ before after. after ≡ failing before) w.servers n servers) here b in
    (own.before, own.at, ap (λ (s : List Server). record w { servers = s }) own.is ∙ ap (λ (m : Server). record w { servers = slice_set w.servers node m }) own.becomes)

pub fail_keeps : (w : WorldState) (position : ℕ) (servers : List Server) → ServerBecomes (λ before after. after ≡ failing before) w.servers position servers → Preserves w (record w { servers = servers })
fail_keeps w position servers b =
    subst (λ (s : List Server). Preserves w (record w { servers = s })) (sym b.is) (preserves_held w position b.before b.after b.at (ap shelved b.becomes))

pub refused : (w : WorldState) (number : ℕ) (new : List Operation) → number < length w.operations
    → ((op : Operation) → slice_get w.operations number ≡ Some op → new ≡ slice_set w.operations number (with_life Refused op))
    → (op : Operation) × (slice_get w.operations number ≡ Some op) × (record w { operations = new } ≡ record w { operations = slice_set w.operations number (with_life Refused op) })
refused w number new low set = (let own = get_below w.operations number low in (own.0, own.1, ap (λ (o : List Operation). record w { operations = o }) (set own.0 own.1)))

pub refuse_keeps : (w : WorldState) (number : ℕ) (new : List Operation) → number < length w.operations
    → ((op : Operation) → slice_get w.operations number ≡ Some op → new ≡ slice_set w.operations number (with_life Refused op)) → Preserves w (record w { operations = new })
refuse_keeps w number new low set =
    let own = get_below w.operations number low in
    subst (λ (o : List Operation). Preserves w (record w { operations = o })) (sym (set own.0 own.1))
    (preserves_lives w (slice_set w.operations number (with_life Refused own.0)) (one_life w.operations number own.0 Refused own.1))

pub say_keeps : {E : Type 0} (w : WorldState) (from to : ℕ) (body : List ℕ) (after : List Sent) (r : Result Unit E) → length w.servers ≤ from
    → OnOk r (after ≡ w.sent ++ record { from = from; to = to; body = body } ∷ []) → OnErr r (after ≡ w.sent) → Preserves w (record w { sent = after })
say_keeps w from to body after r liar ok err = elim (settled_by r _ _ ok err) [
  | inl more ↦ subst (λ (l : List Sent). Preserves w (record w { sent = l })) (sym more) (preserves_said w from to body liar)
  | inr same ↦ subst (λ (l : List Sent). Preserves w (record w { sent = l })) (sym same) (preserves_itself w)
]

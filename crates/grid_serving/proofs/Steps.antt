-- One step after another.
use Rattle.std.proofs.Common.{◌≡◌, ℕ, ◌≤◌, Bool, true, false, cond, List, [], ◌∷◌, ◌++◌, length, Some, None, Ok, Err, refl, sym, ap, ◌∙◌, subst, inl, inr, arith}
use Rattle.wire.specs.Frames.{IsMessage, frame}
use Rattle.wire.specs.declared.message.Message.{Message}
use Rattle.share_store.specs.Calls.{Calls}
use Rattle.server_core.specs.ServerState.{Outcome, ServerState, Serves}
use Rattle.connections.specs.Wires.{WireCalls}
use Rattle.connections.specs.Connections.{ConnectionState, Gives, Goes, Hears, Reads, Sends, put_behind}
use Rattle.connections.specs.declared.connection.Heard.{Heard}
use Rattle.connections.specs.declared.connection.Heard.TheVariants as heard
use Rattle.connections.specs.declared.connection.Sent.{Sent}
use Rattle.connections.specs.declared.connection.Sent.TheVariants as sent
use Rattle.connections.specs.Courses.{Course, Event, bytes_come, bytes_go, given, is_given, is_queued, queued}
use Rattle.grid_serving.specs.declared.client.TurnFault.{TurnFault}
use Rattle.grid_serving.specs.declared.client.TurnFault.TheVariants as why
use Rattle.connections.specs.declared.fault.ConnectionFault.{ConnectionFault}
use Rattle.grid_serving.specs.Places.{ClientState}
use Rattle.grid_serving.specs.Turns.{Answers, BreaksOff, Ends, HasTurn, IsServed, IsUnanswered, Moves, MovesNow, ServesAll, Serving, answers_of, is_moved, moved_after}

-- ---- one list of events behind another

course_on : {W : Type 0} (wires : WireCalls W) (xs ys : List Event) (old mid new : ConnectionState W) → Course wires old xs mid → Course wires mid ys new → Course wires old (xs ++ ys) new
course_on {W} wires [] ys old mid new first then = subst (λ (c : ConnectionState W). Course wires c ys new) first then
course_on wires (x ∷ xs) ys old mid new first then = (first.0, first.1, course_on wires xs ys first.0 mid new first.2 then)

given_on : (xs ys : List Event) → given (xs ++ ys) ≡ given xs ++ given ys
given_on [] ys = refl
given_on (bytes_come bytes ∷ xs) ys = given_on xs ys
given_on (is_given m ∷ xs) ys = ap (λ (ms : List Message). m ∷ ms) (given_on xs ys)
given_on (is_queued m ∷ xs) ys = given_on xs ys
given_on (bytes_go bytes ∷ xs) ys = given_on xs ys

queued_on : (xs ys : List Event) → queued (xs ++ ys) ≡ queued xs ++ queued ys
queued_on [] ys = refl
queued_on (bytes_come bytes ∷ xs) ys = queued_on xs ys
queued_on (is_given m ∷ xs) ys = queued_on xs ys
queued_on (is_queued m ∷ xs) ys = ap (λ (ms : List Message). m ∷ ms) (queued_on xs ys)
queued_on (bytes_go bytes ∷ xs) ys = queued_on xs ys

serves_on : {S : Type 0} (calls : Calls S) (node now : ℕ) (ms ns : List Message) (os ps : List Outcome) (before mid after : ServerState S) → ServesAll calls node now before ms os mid → ServesAll calls node now mid ns ps after
    → ServesAll calls node now before (ms ++ ns) (os ++ ps) after
serves_on {S} calls node now [] ns [] ps before mid after first then = subst (λ (s : ServerState S). ServesAll calls node now s ns ps after) first then
serves_on calls node now [] ns (o ∷ os) ps before mid after first then = absurd first
serves_on calls node now (m ∷ ms) ns [] ps before mid after first then = absurd first
serves_on calls node now (m ∷ ms) ns (o ∷ os) ps before mid after first then = (first.0, first.1, first.2, serves_on calls node now ms ns os ps first.0 mid after first.3 then)

answers_on : (os ps : List Outcome) → answers_of (os ++ ps) ≡ answers_of os ++ answers_of ps
answers_on [] ps = refl
answers_on (Ok (Some answer) ∷ os) ps = ap (λ (ms : List Message). answer ∷ ms) (answers_on os ps)
answers_on (Ok None ∷ os) ps = answers_on os ps
answers_on (Err fault ∷ os) ps = answers_on os ps

moved_now : (now : ℕ) (moved : Bool) → now ≡ cond moved now now
moved_now now true = refl
moved_now now false = refl

moved_on : (now : ℕ) (xs ys : List Event) (before : ℕ) → moved_after now ys (moved_after now xs before) ≡ moved_after now (xs ++ ys) before
moved_on now [] ys before = refl
moved_on now (bytes_come [] ∷ xs) ys before = moved_on now xs ys before
moved_on now (bytes_come (b ∷ bs) ∷ xs) ys before = sym (moved_now now (is_moved ys))
moved_on now (bytes_go [] ∷ xs) ys before = moved_on now xs ys before
moved_on now (bytes_go (b ∷ bs) ∷ xs) ys before = sym (moved_now now (is_moved ys))
moved_on now (is_given m ∷ xs) ys before = moved_on now xs ys before
moved_on now (is_queued m ∷ xs) ys before = moved_on now xs ys before

-- ---- turns

module _ {W S : Type 0} (wires : WireCalls W) (calls : Calls S) (node now : ℕ) where
  pub none_served : (c : ConnectionState W) (s : ServerState S) → Serving wires calls node now c s c s
  none_served c s = record { events = []; course = refl; outcomes = []; serves = refl; answers = refl }

  pub serving_on : (old mid new : ConnectionState W) (before between after : ServerState S) → Serving wires calls node now old before mid between → Serving wires calls node now mid between new after → Serving wires calls node now old before new after
  serving_on old mid new before between after first then = record {
    events = first.events ++ then.events;
    course = course_on wires first.events then.events old mid new first.course then.course;
    outcomes = first.outcomes ++ then.outcomes;
    serves = subst (λ (ms : List Message). ServesAll calls node now before ms (first.outcomes ++ then.outcomes) after) (sym (given_on first.events then.events))
        (serves_on calls node now (given first.events) (given then.events) first.outcomes then.outcomes before between after first.serves then.serves);
    answers = queued_on first.events then.events ∙ ap (λ (ms : List Message). ms ++ queued then.events) first.answers ∙ ap (λ (ms : List Message). answers_of first.outcomes ++ ms) then.answers
        ∙ sym (answers_on first.outcomes then.outcomes);
  }

  -- bytes that come or go are no message
  pub moves_serve : (old new : ConnectionState W) (s : ServerState S) → Moves wires old new → Serving wires calls node now old s new s
  moves_serve old new s moves = record {
    events = moves.events;
    course = moves.course;
    outcomes = [];
    serves = subst (λ (ms : List Message). ServesAll calls node now s ms [] s) (sym moves.none_given) refl;
    answers = moves.none_queued;
  }

  -- a message that was given, and its answer
  pub answers_serve : (old mid new : ConnectionState W) (m : Message) (before after : ServerState S) → Gives old m mid → Answers wires calls node now m mid before new after → Serving wires calls node now old before new after
  answers_serve old mid new m before after gives answers = record {
    events = is_given m ∷ answers.events;
    course = (mid, gives, answers.course);
    outcomes = answers.outcome ∷ [];
    serves = subst (λ (ms : List Message). ServesAll calls node now before (m ∷ ms) (answers.outcome ∷ []) after) (sym answers.none_given) (after, answers.serves, answers.memory, refl);
    answers = answers.answers;
  }

  -- ---- turns that break off

  pub breaks_at_once : (fault : ConnectionFault) (c : ConnectionState W) (s : ServerState S) → BreaksOff wires calls node now (why.Ended fault) c s s
  breaks_at_once fault c s = record { here = c; mid = s; turn = none_served c s; last = inl refl }

  ends_unanswered : (fault : TurnFault) (c : ConnectionState W) (before after : ServerState S) → IsUnanswered calls node now fault c before after → Ends calls node now fault c before after
  ends_unanswered (why.Ended fault) c before after one = inr one
  ends_unanswered why.OutOfMemory c before after one = one

  pub breaks_served : (fault : TurnFault) (old mid : ConnectionState W) (m : Message) (before after : ServerState S) → Gives old m mid → IsServed calls node now fault m before after → BreaksOff wires calls node now fault old before after
  breaks_served fault old mid m before after gives served = record {
    here = old;
    mid = before;
    turn = none_served old before;
    last = ends_unanswered fault old before after (record { message = m; rest = mid; gives = gives; outcome = served.outcome; cause = served.cause; serves = served.serves });
  }

  pub breaks_on : (fault : TurnFault) (old mid : ConnectionState W) (before between after : ServerState S) → Serving wires calls node now old before mid between → BreaksOff wires calls node now fault mid between after → BreaksOff wires calls node now fault old before after
  breaks_on fault old mid before between after first then = record {
    here = then.here;
    mid = then.mid;
    turn = serving_on old mid then.here before between then.mid first then.turn;
    last = then.last;
  }

-- ---- turns of a client

module _ {W S : Type 0} (wires : WireCalls W) (calls : Calls S) (node now : ℕ) where
  pub no_turn : (c : ClientState W) (s : ServerState S) → HasTurn wires calls node now c s c s
  unfolding none_served
  no_turn c s = record { serving = none_served wires calls node now c.connection s; came = refl; moved = refl }

  pub turn_on : (old mid new : ClientState W) (before between after : ServerState S) → HasTurn wires calls node now old before mid between → HasTurn wires calls node now mid between new after → HasTurn wires calls node now old before new after
  unfolding serving_on
  turn_on old mid new before between after first then = record {
    serving = serving_on wires calls node now old.connection mid.connection new.connection before between after first.serving then.serving;
    came = then.came ∙ first.came;
    moved = then.moved ∙ ap (moved_after now then.serving.events) first.moved ∙ moved_on now first.serving.events then.serving.events old.moved;
  }

  pub turn_awake : (old new : ClientState W) (is_ready : Bool) (before after : ServerState S) → HasTurn wires calls node now old before new after → HasTurn wires calls node now old before (record new { is_ready = is_ready }) after
  turn_awake old new is_ready before after turn = record { serving = turn.serving; came = turn.came; moved = turn.moved }

  pub moves_turn : (old new : ClientState W) (s : ServerState S) → MovesNow wires now old new → HasTurn wires calls node now old s new s
  unfolding moves_serve
  moves_turn old new s moves = record { serving = moves_serve wires calls node now old.connection new.connection s moves.moves; came = moves.came; moved = moves.moved }

  pub answers_turn : (old new : ClientState W) (mid : ConnectionState W) (m : Message) (before after : ServerState S) → Gives old.connection m mid → Answers wires calls node now m mid before new.connection after
      → new.came ≡ old.came → new.moved ≡ old.moved → HasTurn wires calls node now old before new after
  unfolding answers_serve
  answers_turn old new mid m before after gives answers came kept = record {
    serving = answers_serve wires calls node now old.connection mid new.connection m before after gives answers;
    came = came;
    moved = kept ∙ ap (λ (moved : Bool). cond moved now old.moved) (sym answers.none_moved);
  }

-- ---- bytes

module _ {W : Type 0} (wires : WireCalls W) where
  reads_move : (old new : ConnectionState W) (bytes : List ℕ) → Reads wires old bytes new → Moves wires old new
  reads_move old new bytes reads = record { events = bytes_come bytes ∷ []; course = (new, reads, refl); none_given = refl; none_queued = refl }

  sends_move : (old new : ConnectionState W) (bytes : List ℕ) → Sends wires old bytes new → Moves wires old new
  sends_move old new bytes sends = record { events = bytes_go bytes ∷ []; course = (new, sends, refl); none_given = refl; none_queued = refl }

  none_moves : (old new : ConnectionState W) → new ≡ old → Moves wires old new
  none_moves old new same = record { events = []; course = same; none_given = refl; none_queued = refl }

  pub moves_on : (old mid new : ConnectionState W) → Moves wires old mid → Moves wires mid new → Moves wires old new
  moves_on old mid new first then = record {
    events = first.events ++ then.events;
    course = course_on wires first.events then.events old mid new first.course then.course;
    none_given = given_on first.events then.events ∙ ap (λ (ms : List Message). ms ++ given then.events) first.none_given ∙ then.none_given;
    none_queued = queued_on first.events then.events ∙ ap (λ (ms : List Message). ms ++ queued then.events) first.none_queued ∙ then.none_queued;
  }

module _ {W : Type 0} (wires : WireCalls W) (now : ℕ) where
  pub moves_now_on : (old mid new : ClientState W) → MovesNow wires now old mid → MovesNow wires now mid new → MovesNow wires now old new
  unfolding moves_on
  moves_now_on old mid new first then = record {
    moves = moves_on wires old.connection mid.connection new.connection first.moves then.moves;
    came = then.came ∙ first.came;
    moved = then.moved ∙ ap (moved_after now then.moves.events) first.moved ∙ moved_on now first.moves.events then.moves.events old.moved;
  }

  comes_now : (old new : ClientState W) (bytes : List ℕ) → Reads wires old.connection bytes new.connection → new.came ≡ old.came → new.moved ≡ moved_after now (bytes_come bytes ∷ []) old.moved → MovesNow wires now old new
  unfolding reads_move
  comes_now old new bytes reads came moved = record { moves = reads_move wires old.connection new.connection bytes reads; came = came; moved = moved }

  goes_now : (old new : ClientState W) (bytes : List ℕ) → Sends wires old.connection bytes new.connection → new.came ≡ old.came → new.moved ≡ moved_after now (bytes_go bytes ∷ []) old.moved → MovesNow wires now old new
  unfolding sends_move
  goes_now old new bytes sends came moved = record { moves = sends_move wires old.connection new.connection bytes sends; came = came; moved = moved }

  -- ---- what was sent

  sent_nothing : (old new : ClientState W) → Goes wires old.connection sent.Nothing new.connection → new.came ≡ old.came → new.moved ≡ old.moved → MovesNow wires now old new
  unfolding none_moves
  sent_nothing old new (inl none) came kept = record { moves = none_moves wires old.connection new.connection none.1; came = came; moved = kept }
  sent_nothing old new (inr sends) came kept = goes_now old new [] sends came kept

  sent_bytes : (old new : ClientState W) (bytes : List ℕ) → 1 ≤ length bytes → Sends wires old.connection bytes new.connection → new.came ≡ old.came → new.moved ≡ now → MovesNow wires now old new
  sent_bytes old new [] some sends came moved = absurd (omega (arith, some))
  sent_bytes old new (b ∷ bytes) some sends came moved = goes_now old new (b ∷ bytes) sends came moved

  pub none_sent : (inner old new : ClientState W) (told : Sent) → inner ≡ old → told ≡ sent.Nothing → Goes wires inner.connection told new.connection → new.came ≡ inner.came → new.moved ≡ inner.moved → MovesNow wires now old new
  none_sent inner old new told same is goes came kept = subst (λ (c : ClientState W). MovesNow wires now c new) same (sent_nothing inner new (subst (λ (t : Sent). Goes wires inner.connection t new.connection) is goes) came kept)

  pub some_sent : (inner old new : ClientState W) (told : Sent) → inner ≡ old → told ≡ sent.Bytes → Goes wires inner.connection told new.connection → new.came ≡ inner.came → new.moved ≡ now → MovesNow wires now old new
  some_sent inner old new told same is goes came moved =
      let bytes : Goes wires inner.connection sent.Bytes new.connection = subst (λ (t : Sent). Goes wires inner.connection t new.connection) is goes in
      subst (λ (c : ClientState W). MovesNow wires now c new) same (sent_bytes inner new bytes.0 bytes.1 bytes.2 came moved)

  -- ---- what was heard

  pub heard_gives : (inner old : ClientState W) (new : ConnectionState W) (h : Heard) (m : Message) → inner ≡ old → h ≡ heard.Message m → Hears wires inner.connection h new → Gives old.connection m new
  heard_gives inner old new h m same is hears = subst (λ (c : ClientState W). Gives c.connection m new) same (subst (λ (k : Heard). Hears wires inner.connection k new) is hears)

  some_come : (old new : ClientState W) (bytes : List ℕ) → 1 ≤ length bytes → Reads wires old.connection bytes new.connection → new.came ≡ old.came → new.moved ≡ now → MovesNow wires now old new
  some_come old new [] some reads came moved = absurd (omega (arith, some))
  some_come old new (b ∷ bytes) some reads came moved = comes_now old new (b ∷ bytes) reads came moved

  pub heard_bytes : (inner old new : ClientState W) (h : Heard) → inner ≡ old → h ≡ heard.Bytes → Hears wires inner.connection h new.connection → new.came ≡ inner.came → new.moved ≡ now → MovesNow wires now old new
  heard_bytes inner old new h same is hears came moved =
      let bytes : Hears wires inner.connection heard.Bytes new.connection = subst (λ (k : Heard). Hears wires inner.connection k new.connection) is hears in
      subst (λ (c : ClientState W). MovesNow wires now c new) same (some_come inner new bytes.0 bytes.1 bytes.2 came moved)

  pub heard_nothing : (inner old new : ClientState W) (h : Heard) → inner ≡ old → h ≡ heard.Nothing → Hears wires inner.connection h new.connection → new.came ≡ inner.came → new.moved ≡ inner.moved → MovesNow wires now old new
  heard_nothing inner old new h same is hears came kept =
      subst (λ (c : ClientState W). MovesNow wires now c new) same (comes_now inner new [] (subst (λ (k : Heard). Hears wires inner.connection k new.connection) is hears) came kept)

-- ---- an answer

module _ {W S : Type 0} (wires : WireCalls W) (calls : Calls S) (node now : ℕ) where
  pub answered : (inner old : ClientState W) (new : ConnectionState W) (m answer : Message) (outcome : Outcome) (before after : ServerState S) → inner ≡ old → outcome ≡ Ok (Some answer) → Serves calls before node m now outcome after → IsMessage answer
      → new ≡ put_behind (frame answer) inner.connection → Answers wires calls node now m old.connection before new after
  answered inner old new m answer outcome before after same is serves right queued =
      subst (λ (c : ClientState W). Answers wires calls node now m c.connection before new after) same (record {
        outcome = Ok (Some answer);
        memory = tt;
        serves = subst (λ (o : Outcome). Serves calls before node m now o after) is serves;
        events = is_queued answer ∷ [];
        course = (new, (right, queued), refl);
        none_given = refl;
        none_moved = refl;
        answers = refl;
      })

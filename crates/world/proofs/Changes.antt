-- What holds of a world goes on holding: where a server goes on, where more is sent, and where operations go on or begin.
use Rattle.std.proofs.Common.{◌≡◌, ℕ, ◌+◌, ◌<◌, ◌≤◌, List, [], ◌∷◌, ◌++◌, true, false, length, Some, None, Contains, refl, sym, subst, ap, ◌∙◌, inl, inr, arith}
use Rattle.std.specs.Prelude.{slice_get, slice_set, option_map}
use Rattle.std.specs.List.{range_with_len}
use Rattle.std.proofs.lemmas.List.{append_assoc, length-append}
use Rattle.std.proofs.lemmas.List.Elements.{All-weaker, Contains-append_left, Contains-push_cases}
use Rattle.std.proofs.lemmas.List.FromFn.{get_or-range_with_len, length-range_with_len}
use Rattle.wire.specs.declared.message.Body.{Body}
use Rattle.wire.specs.declared.message.Body.TheVariants.{Ask, Allocate, Write, Close, Read, Have, Already, Closed, Data}
use Rattle.wire.specs.declared.message.HeldShare.{HeldShare}
use Rattle.wire.specs.declared.message.Message.{Message}
use Rattle.wire.specs.declared.message.ShareId.{ShareId}
use Rattle.wire.specs.Frames.{IsBodyOf, IsMessage}
use Rattle.wire.proofs.StreamLaws.{spelled_alike}
use Rattle.request_record.specs.declared.requests.Asked.{Asked}
use Rattle.request_record.specs.declared.requests.Request.{Request}
use Rattle.share_store.specs.Memory.{MemoryState}
use Rattle.share_store.specs.Shelf.{Shelf, digest_at}
use Rattle.share_store.specs.declared.shelf.ClosedShare.{ClosedShare}
use Rattle.server_core.specs.ServerState.{ServerState}
use Rattle.server_core.specs.Sound.{ClosedStay, IsAnswer, IsSound, Tells, is_request}
use Rattle.world_operations.specs.declared.job.Job.{Job}
use Rattle.world_operations.specs.declared.message.Sent.{Sent}
use Rattle.world_operations.specs.declared.operation.Operation.{Operation}
use Rattle.world_operations.specs.declared.task.Task.{Task}
use Rattle.world_operations.specs.declared.task.Task.TheVariants.{Uploading, Downloading, Checking, Gone}
use Rattle.answer_laws.specs.Asking.Asked.{AsksAll}
use Rattle.answer_laws.specs.Enough.Servers.{TellsAll}
use Rattle.world_operations.specs.Asked.{HasAsked}
use Rattle.request_record.specs.Follow.{Said}
use Rattle.world_operations.specs.Follow.{GoesOn, IsFrameOf, IsNewTask, IsRequestBy, IsSameOperation, Moves}
use Rattle.world_operations.specs.Given.{AreGivenBy}
use Rattle.world_operations.specs.Jobs.{IsFor}
use Rattle.world_operations.specs.Moves.{sent_to}
use Rattle.world_operations.specs.Tasks.{IsRightTask, requests_of}
use Rattle.world_operations.proofs.Positions.{append_none, get_push, get_push_old, get_set, get_set_back, get_below, get_set_same, length_set, member_at, member_here, member_none, member_there, same_some}
use Rattle.world_operations.proofs.Frames.{request_on}
use Rattle.world.specs.State.{shelved}
use Rattle.world.specs.Step.{new_operation}
use Rattle.world.specs.Consistent.{AreConsistent, AreOneRequest, CameFrom, IsFine, IsJustified, IsRecorded, IsRequestOf, without_bytes}
use Rattle.world.specs.Consistent.{asked, gone}
use Rattle.world.specs.History.{AnswersComeAfter, HasHistory, IsAnswerBy}
use Rattle.answer_laws.proofs.Servers.Acknowledged.{closed_by}
use Rattle.world.proofs.Alike.{requests_are_one}
use Rattle.world.proofs.History.{history_more, history_on}

-- ---- a server goes on

-- what is told of closed shares goes on being so
digest_stays : (old new : Shelf) (id : ShareId) (digest : List ℕ) → ClosedStay old new → digest_at id old.closed ≡ Some digest → digest_at id new.closed ≡ Some digest
digest_stays old new id digest stays e =
    let c = closed_by id old digest e in
    ap (option_map (λ (s : ClosedShare). s.digest)) (stays id c.share c.found) ∙ ap Some c.digest_is

tells_on : (old new : Shelf) (request said : Body) → ClosedStay old new → Tells old request said → Tells new request said
tells_on old new (Ask index) (Have readonly held) stays t =
    All-weaker (λ (h : HeldShare). digest_at (record { index = index; share = h.share }) old.closed ≡ Some h.digest)
    (λ (h : HeldShare). digest_at (record { index = index; share = h.share }) new.closed ≡ Some h.digest)
    (λ h e. digest_stays old new (record { index = index; share = h.share }) h.digest stays e) held t
tells_on old new (Allocate id len) (Already digest) stays t = digest_stays old new id digest stays t
tells_on old new (Write id offset bytes) (Already digest) stays t = digest_stays old new id digest stays t
tells_on old new (Close id) (Closed digest) stays t = digest_stays old new id digest stays t
tells_on old new (Read id offset len) (Data bytes) stays t = (t.0, stays id t.0 t.1, t.2)
tells_on old new _ _ stays t = tt

justified_on : (old new : ServerState MemoryState) (sent : List Sent) (x : Sent) (answer : Message) → ClosedStay old.store.shelf new.store.shelf
    → IsJustified old sent x answer → IsJustified new sent x answer
justified_on old new sent x answer stays j = record {
  frame = j.frame;
  request = j.request;
  was_sent = j.was_sent;
  spelled = j.spelled;
  from = j.from;
  to = j.to;
  answers = record {
    session = j.answers.session;
    number = j.answers.number;
    asked = j.answers.asked;
    kind = j.answers.kind;
    tells = tells_on old.store.shelf new.store.shelf j.request.body answer.body stays j.answers.tells;
  };
}

pub server_changed : (servers : List (ServerState MemoryState)) (operations : List Operation) (sent : List Sent) (node : ℕ) (old new : ServerState MemoryState)
    → slice_get servers node ≡ Some old → ClosedStay old.store.shelf new.store.shelf → IsSound (shelved new)
    → AreConsistent servers operations sent → AreConsistent (slice_set servers node new) operations sent
server_changed servers operations sent node old new at stays is_sound c = record {
  sound = λ j m e. elim (get_set servers node j m new e) [
    | inl h ↦ subst (λ (n : ServerState MemoryState). IsSound (shelved n)) (sym h.1) is_sound
    | inr h ↦ c.sound j m h
  ];
  justified = λ x m answer k e spelled kind. elim (get_set servers node x.from m new e) [
    | inl h ↦ subst (λ (n : ServerState MemoryState). IsJustified n sent x answer) (sym h.1)
        (justified_on old new sent x answer stays (c.justified x old answer k (ap (slice_get servers) h.0 ∙ at) spelled kind))
    | inr h ↦ c.justified x m answer k h spelled kind
  ];
  recorded = λ x m k honest spelled kind. c.recorded x m k (subst (λ (n : ℕ). x.from < n) (length_set servers node new) honest) spelled kind;
  one_request = subst (λ (n : ℕ). AreOneRequest n sent) (sym (length_set servers node new)) c.one_request;
  fine = λ i op e. subst (λ (n : ℕ). IsFine n sent i op) (sym (length_set servers node new)) (c.fine i op e);
  history = λ j m e. elim (get_set servers node j m new e) [
    | inl h ↦ subst (λ (n : ServerState MemoryState). HasHistory sent j n) (sym h.1) (history_on sent j old new stays (c.history j old (ap (slice_get servers) h.0 ∙ at)))
    | inr h ↦ c.history j m h
  ];
  after = subst (λ (n : ℕ). AnswersComeAfter n operations sent) (sym (length_set servers node new)) c.after;
}

-- ---- more is sent

-- a message that is sent: an answer that is justified, or a request that is recorded
pub record IsFounded (servers : List (ServerState MemoryState)) (operations : List Operation) (sent : List Sent) (y : Sent) : Type 0 where
  pub justified : (m : ServerState MemoryState) (answer : Message) → slice_get servers y.from ≡ Some m → IsBodyOf answer y.body → is_request answer.body ≡ false → IsJustified m sent y answer
  pub recorded : (m : Message) → y.from < length servers → IsBodyOf m y.body → is_request m.body ≡ true → IsRecorded operations y m
  pub told : (m : ServerState MemoryState) (answer : Message) → slice_get servers y.from ≡ Some m → IsBodyOf answer y.body → is_request answer.body ≡ false → IsAnswerBy sent y answer m.store.shelf
  pub alike : (x : Sent) (m n : Message) → y.from < length servers → IsBodyOf n y.body → is_request n.body ≡ true → IsRecorded operations x m → m.session ≡ n.session → m.number ≡ n.number
      → without_bytes m.body ≡ without_bytes n.body

justified_more : (m : ServerState MemoryState) (sent more : List Sent) (x : Sent) (answer : Message) → IsJustified m sent x answer → IsJustified m (sent ++ more) x answer
justified_more m sent more x answer j = record {
  frame = j.frame;
  request = j.request;
  was_sent = Contains-append_left sent more j.frame j.was_sent;
  spelled = j.spelled;
  from = j.from;
  to = j.to;
  answers = j.answers;
}

came_more : (sent more : List Sent) (session node position server : ℕ) (asks : Asked) (said : Body) → CameFrom sent session node position server asks said → CameFrom (sent ++ more) session node position server asks said
came_more sent more session node position server asks said a =
    record { frame = a.frame; answer = a.answer; was_sent = Contains-append_left sent more a.frame a.was_sent; spelled = a.spelled; to = a.to; says = a.says }

pub fine_more : (honest : ℕ) (sent more : List Sent) (i : ℕ) (op : Operation) → IsFine honest sent i op → IsFine honest (sent ++ more) i op
fine_more honest sent more i op f = record {
  node = f.node;
  started = f.started;
  session = f.session;
  before = omega (arith, f.before, length-append sent more);
  answers = λ position r said e o. came_more sent more i op.node position r.server r.asked said (f.answers position r said e o);
  right = f.right;
  asked = f.asked;
  given = f.given;
}

-- requests that were sent and one more are one where they have one session and number
one_request_more : (servers : List (ServerState MemoryState)) (operations : List Operation) (sent : List Sent) (y : Sent) → IsFounded servers operations sent y
    → AreConsistent servers operations sent → AreOneRequest (length servers) (sent ++ y ∷ [])
one_request_more servers operations sent y f c a b m n in_a in_b from_a from_b spelled_a spelled_b kind_a kind_b session number =
    elim (Contains-push_cases sent y a in_a) [
      | inl old_a ↦ elim (Contains-push_cases sent y b in_b) [
        | inl old_b ↦ c.one_request a b m n old_a old_b from_a from_b spelled_a spelled_b kind_a kind_b session number
        | inr new_b ↦ last a m b n new_b from_b spelled_b kind_b (c.recorded a m old_a from_a spelled_a kind_a) session number
      ]
      | inr new_a ↦ sym (last b n a m new_a from_a spelled_a kind_a (elim (Contains-push_cases sent y b in_b) [
        | inl old_b ↦ c.recorded b n old_b from_b spelled_b kind_b
        | inr new_b ↦ own b n new_b from_b spelled_b kind_b
      ]) (sym session) (sym number))
    ]
  where
    own : (z : Sent) (k : Message) → y ≡ z → z.from < length servers → IsBodyOf k z.body → is_request k.body ≡ true → IsRecorded operations z k
    own z k is from spelled kind = subst (λ (x : Sent). IsRecorded operations x k) is
        (f.recorded k (subst (λ (x : Sent). x.from < length servers) (sym is) from) (subst (λ (x : Sent). IsBodyOf k x.body) (sym is) spelled) kind)

    last : (x : Sent) (k : Message) (z : Sent) (l : Message) → y ≡ z → z.from < length servers → IsBodyOf l z.body → is_request l.body ≡ true → IsRecorded operations x k → k.session ≡ l.session
        → k.number ≡ l.number → without_bytes k.body ≡ without_bytes l.body
    last x k z l is from spelled kind = f.alike x k l (subst (λ (t : Sent). t.from < length servers) (sym is) from) (subst (λ (t : Sent). IsBodyOf l t.body) (sym is) spelled) kind

pub sent_more : (servers : List (ServerState MemoryState)) (operations : List Operation) (sent : List Sent) (y : Sent) → IsFounded servers operations sent y
    → AreConsistent servers operations sent → AreConsistent servers operations (sent ++ y ∷ [])
sent_more servers operations sent y founded c = record {
  sound = c.sound;
  justified = λ x m answer k e spelled kind. elim (Contains-push_cases sent y x k) [
    | inl h ↦ justified_more m sent (y ∷ []) x answer (c.justified x m answer h e spelled kind)
    | inr h ↦ justified_more m sent (y ∷ []) x answer (subst (λ (z : Sent). IsJustified m sent z answer) h
        (founded.justified m answer (subst (λ (z : Sent). slice_get servers z.from ≡ Some m) (sym h) e) (subst (λ (z : Sent). IsBodyOf answer z.body) (sym h) spelled) kind))
  ];
  recorded = λ x m k honest spelled kind. elim (Contains-push_cases sent y x k) [
    | inl h ↦ c.recorded x m h honest spelled kind
    | inr h ↦ subst (λ (z : Sent). IsRecorded operations z m) h
        (founded.recorded m (subst (λ (z : Sent). z.from < length servers) (sym h) honest) (subst (λ (z : Sent). IsBodyOf m z.body) (sym h) spelled) kind)
  ];
  one_request = one_request_more servers operations sent y founded c;
  fine = λ i op e. fine_more (length servers) sent (y ∷ []) i op (c.fine i op e);
  history = λ node m e. history_more sent y node m (c.history node m e) (λ answer from spelled kind. founded.told m answer (ap (slice_get servers) from ∙ e) spelled kind);
  after = λ moment x answer op there from to spelled kind at. elim (get_push sent moment x y there) [
    | inl before ↦ c.after moment x answer op before from to spelled kind at
    | inr last ↦ (let begun = (c.fine answer.session op at).before in omega (arith, begun, last.0))
  ];
}

pub same_sent : (servers : List (ServerState MemoryState)) (operations : List Operation) (sent : List Sent) → AreConsistent servers operations sent → AreConsistent servers operations (sent ++ [])
same_sent servers operations sent c = subst (AreConsistent servers operations) (sym (append_none sent)) c

all_sent : (servers : List (ServerState MemoryState)) (operations : List Operation) (sent more : List Sent) → ((s : List Sent) (x : Sent) → Contains more x → IsFounded servers operations s x)
    → AreConsistent servers operations sent → AreConsistent servers operations (sent ++ more)
all_sent servers operations sent [] each c = same_sent servers operations sent c
all_sent servers operations sent (y ∷ ys) each c =
    subst (AreConsistent servers operations) (append_assoc sent (y ∷ []) ys)
    (all_sent servers operations (sent ++ y ∷ []) ys (λ s x k. each s x (member_there y x ys k))
    (sent_more servers operations sent y (each sent y (member_here y ys)) c))

-- an answer that is sent is justified
pub answered : (servers : List (ServerState MemoryState)) (operations : List Operation) (sent : List Sent) (x : Sent) (m said : Message) (after : ServerState MemoryState)
    → slice_get servers x.to ≡ Some after → Contains sent x → IsBodyOf m x.body → IsMessage said → IsAnswer (shelved after).store m said
    → TellsAll (shelved after).store m.body said.body → IsFounded servers operations sent (sent_to x.to x.from said)
answered servers operations sent x m said after at there spelled spoken answers all = record {
  justified = λ n a e s kind.
      let same : said ≡ a = spelled_alike said a spoken s.0 s.1 in
      let server : after ≡ n = same_some after n (sym at ∙ e) in
      subst (λ (k : ServerState MemoryState). IsJustified k sent (sent_to x.to x.from said) a) server record {
        frame = x;
        request = m;
        was_sent = there;
        spelled = spelled;
        from = refl;
        to = refl;
        answers = subst (IsAnswer (shelved after).store m) same answers;
      };
  recorded = λ n honest s kind.
      let same : said ≡ n = spelled_alike said n spoken s.0 s.1 in
      let never : is_request n.body ≡ false = ap (λ (k : Message). is_request k.body) (sym same) ∙ answers.kind in
      absurd cc;
  told = λ n a e s kind.
      let same : said ≡ a = spelled_alike said a spoken s.0 s.1 in
      let server : after ≡ n = same_some after n (sym at ∙ e) in
      subst (λ (k : ServerState MemoryState). IsAnswerBy sent (sent_to x.to x.from said) a k.store.shelf) server record {
        frame = x;
        request = m;
        was_sent = there;
        spelled = spelled;
        from = refl;
        to = refl;
        answers = subst (IsAnswer (shelved after).store m) same answers;
        all = subst (λ (k : Message). TellsAll (shelved after).store m.body k.body) same all;
      };
  alike = λ a k n honest s kind r session number.
      let same : said ≡ n = spelled_alike said n spoken s.0 s.1 in
      let never : is_request n.body ≡ false = ap (λ (k : Message). is_request k.body) (sym same) ∙ answers.kind in
      absurd cc;
}

-- what a liar sends is nobody's answer and nobody's request
pub said_by_liar : (servers : List (ServerState MemoryState)) (operations : List Operation) (sent : List Sent) (x : Sent) → length servers ≤ x.from
    → ((m : ServerState MemoryState) → slice_get servers x.from ≡ Some m → x.from < length servers) → IsFounded servers operations sent x
said_by_liar servers operations sent x liar within = record {
  justified = λ m a at spelled kind. absurd (omega (arith, within m at, liar));
  recorded = λ m honest spelled kind. absurd (omega (arith, honest, liar));
  told = λ m answer at spelled kind. absurd (omega (arith, within m at, liar));
  alike = λ a m n honest spelled kind r session number. absurd (omega (arith, honest, liar));
}

-- ---- an operation goes on

-- requests stay recorded, each of an operation that stands where it stood, and began when it did
abbrev pub AllKeep : List Operation → List Operation → Type 0
AllKeep old new = (i : ℕ) (op : Operation) → slice_get old i ≡ Some op
    → (next : Operation) × (slice_get new i ≡ Some next) × ((x : Sent) (m : Message) → IsRequestOf op x m → IsRequestOf next x m)
    × (next.sent_before ≡ op.sent_before)

recorded_on : (old new : List Operation) (x : Sent) (m : Message) → AllKeep old new → IsRecorded old x m → IsRecorded new x m
recorded_on old new x m k r = (let next = k m.session r.operation r.at in record { operation = next.0; at = next.1; request = next.2 x m r.request })

pub operations_change : (servers : List (ServerState MemoryState)) (old new : List Operation) (sent : List Sent) → AllKeep old new
    → ((i : ℕ) (op : Operation) → slice_get new i ≡ Some op → IsFine (length servers) sent i op) → AreConsistent servers old sent → AreConsistent servers new sent
operations_change servers old new sent k fine c = record {
  sound = c.sound;
  justified = c.justified;
  recorded = λ x m there honest spelled kind. recorded_on old new x m k (c.recorded x m there honest spelled kind);
  one_request = c.one_request;
  fine = fine;
  history = c.history;
  after = λ moment x answer op there from to spelled kind at.
      let m = get_below servers x.from from in
      let j = c.justified x m.0 answer (member_at sent moment x there) m.1 spelled kind in
      let honest : j.frame.from < length servers = subst (λ (n : ℕ). n < length servers) (sym j.from) to in
      let r = c.recorded j.frame j.request j.was_sent honest j.spelled j.answers.asked in
      let next = k j.request.session r.operation r.at in
      let same : next.0 ≡ op = same_some next.0 op (sym next.1 ∙ ap (slice_get new) (sym j.answers.session) ∙ at) in
      let before = c.after moment x answer r.operation there from to spelled kind (ap (slice_get old) j.answers.session ∙ r.at) in
      subst (λ (n : ℕ). n ≤ moment) (sym next.3 ∙ ap (λ (o : Operation). o.sent_before) same) before;
}

one_keeps : (operations : List Operation) (number : ℕ) (old new : Operation) → slice_get operations number ≡ Some old → ((x : Sent) (m : Message) → IsRequestOf old x m → IsRequestOf new x m)
    → new.sent_before ≡ old.sent_before → AllKeep operations (slice_set operations number new)
one_keeps operations number old new at keeps began i op e = elim (get_set_back operations number i op new e) [
  | inl h ↦ (let same : old ≡ op = same_some old op (sym at ∙ ap (slice_get operations) (sym h.0) ∙ e) in
      (new, h.1, (λ x m r. keeps x m (subst (λ (o : Operation). IsRequestOf o x m) (sym same) r)), began ∙ ap (λ (o : Operation). o.sent_before) same))
  | inr h ↦ (op, h, (λ x m r. r), refl)
]

-- one operation changes, and stays fine
pub one_changes : (servers : List (ServerState MemoryState)) (operations : List Operation) (sent : List Sent) (number : ℕ) (old new : Operation) → slice_get operations number ≡ Some old
    → ((x : Sent) (m : Message) → IsRequestOf old x m → IsRequestOf new x m) → new.sent_before ≡ old.sent_before → IsFine (length servers) sent number new
    → AreConsistent servers operations sent → AreConsistent servers (slice_set operations number new) sent
one_changes servers operations sent number old new at keeps began fine c =
    operations_change servers operations (slice_set operations number new) sent (one_keeps operations number old new at keeps began)
    (λ j o e. elim (get_set operations number j o new e) [
      | inl h ↦ subst (λ (n : ℕ). IsFine (length servers) sent n o) (sym h.0) (subst (IsFine (length servers) sent number) (sym h.1) fine)
      | inr h ↦ c.fine j o h
    ]) c

request_moves : (New : Said) (old new : Operation) (x : Sent) (m : Message) → new.node ≡ old.node → GoesOn New old.task new.task → IsRequestOf old x m → IsRequestOf new x m
request_moves New old new x m node g (gone number is) = gone number (g.gone number is)
request_moves New old new x m node g (asked from r) = asked (node ∙ from) (request_on New old.task new.task x m g r)

came_of : (sent : List Sent) (i node position : ℕ) (r s : Request) (said : Body) → r.server ≡ s.server → r.asked ≡ s.asked → CameFrom sent i node position r.server r.asked said
    → CameFrom sent i node position s.server s.asked said
came_of sent i node position r s said server asks a =
    subst (λ (q : Asked). CameFrom sent i node position s.server q said) asks (subst (λ (n : ℕ). CameFrom sent i node position n r.asked said) server a)

-- where its machine goes on it stays fine
fine_on : (New : Said) (honest : ℕ) (sent : List Sent) (i : ℕ) (old new : Operation) → IsSameOperation old new → GoesOn New old.task new.task
    → ((position server : ℕ) (asks : Asked) (said : Body) → New position server asks said → CameFrom sent i old.node position server asks said) → IsRightTask new.task
    → (AreGivenBy old.task old.given → AreGivenBy new.task new.given) → IsFine honest sent i old → IsFine honest sent i new
fine_on New honest sent i old new same g came right given f = record {
  given = given f.given;
  node = subst (λ (n : ℕ). n < honest) (sym same.node) f.node;
  started = subst (λ (j : Job). IsFor j new.task) (sym same.job) (g.is_for old.job f.started);
  session = g.follows.session_is ∙ f.session;
  before = subst (λ (n : ℕ). n ≤ length sent) (sym same.sent_before) f.before;
  answers = λ position s said e o. subst (λ (n : ℕ). CameFrom sent i n position s.server s.asked said) (sym same.node) (elim (g.follows.answers position s said e o) [
    | inl w ↦ came_of sent i old.node position w.request s said w.server w.asked (f.answers position w.request said w.at w.answered)
    | inr n ↦ came position s.server s.asked said n
  ]);
  right = right;
  asked = g.asked (range_with_len 0 honest) f.asked;
}

-- a frame of an operation's request is recorded, and is no answer
founded : (servers : List (ServerState MemoryState)) (operations : List Operation) (sent : List Sent) (i : ℕ) (op : Operation) (node : ℕ) (x : Sent)
    → slice_get operations i ≡ Some op → op.node ≡ node → (requests_of op.task).session ≡ i → IsFrameOf op.task node x → IsFounded servers operations sent x
founded servers operations sent i op node x at own session f = record {
  justified = λ m a e s kind.
      let same : f.message ≡ a = spelled_alike f.message a f.body.0 s.0 (sym f.body.1 ∙ s.1) in
      let yes : is_request a.body ≡ true = ap (λ (k : Message). is_request k.body) (sym same) ∙ f.asks in
      absurd cc;
  recorded = λ m honest s kind.
      let same : f.message ≡ m = spelled_alike f.message m f.body.0 s.0 (sym f.body.1 ∙ s.1) in
      subst (IsRecorded operations x) same record {
        operation = op;
        at = ap (slice_get operations) (f.session ∙ session) ∙ at;
        request = asked (own ∙ sym f.from) f.request;
      };
  told = λ m a e s kind.
      let same : f.message ≡ a = spelled_alike f.message a f.body.0 s.0 (sym f.body.1 ∙ s.1) in
      let yes : is_request a.body ≡ true = ap (λ (k : Message). is_request k.body) (sym same) ∙ f.asks in
      absurd cc;
  alike = λ a m n honest s kind r ses num.
      let same : f.message ≡ n = spelled_alike f.message n f.body.0 s.0 (sym f.body.1 ∙ s.1) in
      let new : IsRequestBy op.task x n = subst (IsRequestBy op.task x) same f.request in
      let of_op : n.session ≡ i = ap (λ (k : Message). k.session) (sym same) ∙ f.session ∙ session in
      let here : r.operation ≡ op = same_some r.operation op (sym r.at ∙ ap (slice_get operations) (ses ∙ of_op) ∙ at) in
      requests_are_one op a x m n (subst (λ (o : Operation). IsRequestOf o a m) here r.request) new num;
}

-- what every call of an operation does keeps the world consistent
pub operation_moves : (New : Said) (servers : List (ServerState MemoryState)) (operations : List Operation) (sent after : List Sent) (i : ℕ) (old new : Operation) → slice_get operations i ≡ Some old
    → Moves New old new sent after → ((position server : ℕ) (asks : Asked) (said : Body) → New position server asks said → CameFrom sent i old.node position server asks said) → IsRightTask new.task
    → AreConsistent servers operations sent → AreConsistent servers (slice_set operations i new) after
operation_moves New servers operations sent after i old new at moves came right c =
    let s = moves.task in
    let here : slice_get (slice_set operations i new) i ≡ Some new = get_set_same operations i old new at in
    let stays : IsFine (length servers) sent i new = fine_on New (length servers) sent i old new moves.same s.goes came right moves.given (c.fine i old at) in
    let changed : AreConsistent servers (slice_set operations i new) sent =
    one_changes servers operations sent i old new at (λ x m r. request_moves New old new x m moves.same.node s.goes r) moves.same.sent_before stays c in
    subst (AreConsistent servers (slice_set operations i new)) (sym s.appended)
    (all_sent servers (slice_set operations i new) sent s.more
    (λ t y k. founded servers (slice_set operations i new) t i new old.node y here moves.same.node stays.session (s.frames y k)) changed)

-- ---- an operation begins

push_keeps : (operations : List Operation) (new : Operation) → AllKeep operations (operations ++ new ∷ [])
push_keeps operations new i op e = (op, get_push_old operations i op new e, (λ x m r. r), refl)

-- fewer servers were asked too
fewer_asked : (these those : List ℕ) → ((server : ℕ) → Contains these server → Contains those server) → (task : Task) → HasAsked those task → HasAsked these task
fewer_asked these those within (Downloading d) h = λ other. fewer (h other) where
  fewer : AsksAll those d.requests.entries → AsksAll these d.requests.entries
  fewer all = record { asked = λ server c. all.asked server (within server c); awaited = all.awaited }
fewer_asked these those within (Checking c) h = record { asked = λ server among. h.asked server (within server among); awaited = h.awaited }
fewer_asked these those within (Uploading u) h = tt
fewer_asked these those within (Gone number) h = tt

range_below : (n server : ℕ) → Contains (range_with_len 0 n) server → server < n
range_below n server c =
    let low : c.0 < n = subst (λ (k : ℕ). c.0 < k) (length-range_with_len 0 n) c.1 in
    let is : 0 + c.0 ≡ server = sym (get_or-range_with_len 0 n c.0 server low) ∙ c.2 in
    omega (arith, low, is)

pub operation_begins : (servers : List (ServerState MemoryState)) (operations : List Operation) (sent : List Sent) (nodes : List ℕ) (node : ℕ) (job : Job) (task : Task) → node < length servers
    → ((server : ℕ) → server < length servers → Contains nodes server) → IsNewTask nodes (length operations) job task → IsRightTask task → AreConsistent servers operations sent
    → AreConsistent servers (operations ++ new_operation node job (length sent) task ∷ []) sent
operation_begins servers operations sent nodes node job task honest all begins right c =
    let op : Operation = new_operation node job (length sent) task in
    let fine : IsFine (length servers) sent (length operations) op = record {
      node = honest;
      started = begins.is_for;
      session = begins.follows.session_is;
      before = omega arith;
      answers = λ position r said e o. elim (begins.follows.answers position r said e o) [
        | inl w ↦ (let none : None ≡ Some w.request = w.at in absurd cc)
        | inr n ↦ absurd n
      ];
      right = right;
      asked = fewer_asked (range_with_len 0 (length servers)) nodes (λ server among. all server (range_below (length servers) server among)) task begins.asked;
      given = λ q k. absurd (member_none q k);
    } in
    operations_change servers operations (operations ++ op ∷ []) sent (push_keeps operations op)
    (λ j o e. elim (get_push operations j o op e) [
      | inl h ↦ c.fine j o h
      | inr h ↦ subst (λ (n : ℕ). IsFine (length servers) sent n o) (sym h.0) (subst (IsFine (length servers) sent (length operations)) (sym h.1) fine)
    ]) c

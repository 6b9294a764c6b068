-- Each frame that a machine sends is of one of its requests, and stays so where it goes on.
use Rattle.std.proofs.Common.{◌≡◌, ℕ, List, [], ◌∷◌, ◌++◌, true, Some, refl, sym, subst, ap, ◌∙◌, inl, inr}
use Rattle.std.specs.Prelude.{slice_get}
use Rattle.std.proofs.lemmas.List.{append_assoc}
use Rattle.std.proofs.lemmas.List.Elements.{Contains-append_cases}
use Rattle.wire.specs.declared.message.Body.{Body}
use Rattle.wire.specs.declared.message.Body.TheVariants.{Ask, Allocate, Write, Close, Abort, Read}
use Rattle.wire.specs.declared.message.Message.{Message}
use Rattle.wire.specs.Frames.{IsMessage}
use Rattle.request_record.specs.declared.requests.Asked.{Asked}
use Rattle.request_record.specs.declared.requests.Asked.TheVariants.{Holdings, Allocation, Writing, Closing, Reading, Aborting}
use Rattle.request_record.specs.declared.requests.Request.{Request}
use Rattle.request_record.specs.Asking.{Spells, message_at}
use Rattle.server_core.specs.Sound.{is_request}
use Rattle.upload_core.specs.Sending as upload_sends
use Rattle.world_operations.specs.declared.message.Sent.{Sent}
use Rattle.world_operations.specs.declared.task.Task.{Task}
use Rattle.world_operations.specs.declared.task.Task.TheVariants.{Uploading, Downloading, Checking}
use Rattle.world_operations.specs.Tasks.{index_of, requests_of}
use Rattle.world_operations.specs.Moves.{Takes, sent_to}
use Rattle.world_operations.specs.UploadPieces.{fails, gives}
use Rattle.world_operations.specs.declared.upload_pieces.UploadPieces.{UploadPieces}
use Rattle.request_record.specs.Follow.{Nothing, Said}
use Rattle.world_operations.specs.Follow.{GoesOn, IsFrameOf, IsRequestBy, SendsSome}
use Rattle.world_operations.proofs.Positions.{append_none, member_cases, member_none}
use Rattle.world_operations.proofs.TaskMoves.{State, by_taking, goes_on, taken}

-- a body that asks is a request
pub asks : (index : List ℕ) (asked : Asked) (body : Body) → Spells index asked body → is_request body ≡ true
asks index Holdings (Ask i) s = refl
asks index (Allocation n len) (Allocate id l) s = refl
asks index (Writing n offset len) (Write id o bytes) s = refl
asks index (Closing n) (Close id) s = refl
asks index (Reading n offset len) (Read id o l) s = refl
asks index (Aborting n) (Abort id) s = refl
asks index _ _ s = absurd s

pub request_on : (New : Said) (old new : Task) (x : Sent) (m : Message) → GoesOn New old new → IsRequestBy old x m → IsRequestBy new x m
request_on New old new x m g r =
    let s = g.follows.keeps r.position r.request r.entry in record {
      position = r.position;
      request = s.request;
      entry = s.at;
      number = r.number;
      server = r.server ∙ sym s.server;
      spelled =
          subst (λ (a : Asked). Spells (index_of new) a m.body) (sym s.asked)
          (subst (λ (i : List ℕ). Spells i r.request.asked m.body) (sym g.index) r.spelled);
    }

pub frame_on : (New : Said) (old new : Task) (node : ℕ) (x : Sent) → GoesOn New old new → IsFrameOf old node x → IsFrameOf new node x
frame_on New old new node x g f = record {
  message = f.message;
  body = f.body;
  from = f.from;
  session = f.session ∙ sym g.follows.session_is;
  request = request_on New old new x f.message g f.request;
  asks = f.asks;
}

tells_spells : (index : List ℕ) (old new : UploadPieces) (asked : Asked) (body : Body) → upload_sends.Tells gives index old asked body new → Spells index asked body
tells_spells index old new Holdings body t = t.0
tells_spells index old new (Allocation share len) body t = t.0
tells_spells index old new (Writing share offset len) body t = subst (Spells index (Writing share offset len)) (sym t.3) (refl, refl, t.2)
tells_spells index old new (Closing share) body t = t.0
tells_spells index old new (Reading share offset len) body t = t.0
tells_spells index old new (Aborting share) body t = t.0

same_pair : (a b : ℕ × Message) → Some a ≡ Some b → a ≡ b
same_pair a b e = cc

-- the message of a request at a position
framed : (t : Task) (node to position : ℕ) (m : Message) (request : Request) (body : Body) → slice_get (requests_of t).entries position ≡ Some request → to ≡ request.server
    → Spells (index_of t) request.asked body → m ≡ message_at position body (requests_of t) → IsMessage m → IsFrameOf t node (sent_to node to m)
framed t node to position m request body entry server spelled is spoken =
    let spells : Spells (index_of t) request.asked m.body = subst (λ (x : Message). Spells (index_of t) request.asked x.body) (sym is) spelled in record {
      message = m;
      body = (spoken, refl);
      from = refl;
      session = ap (λ (x : Message). x.session) is;
      request = record { position = position; request = request; entry = entry; number = ap (λ (x : Message). x.number) is; server = server; spelled = spells };
      asks = asks (index_of t) request.asked m.body spells;
    }

upload_framed : (u v : State) (node to : ℕ) (m : Message) → upload_sends.Takes gives fails u (Some (to, m)) v → IsMessage m → IsFrameOf (Uploading u) node (sent_to node to m)
upload_framed u v node to m (upload_sends.nothing first none is) spoken = absurd cc
upload_framed u v node to m (upload_sends.ceases position server asked fault running first there faults none is) spoken = absurd cc
upload_framed u v node to m (upload_sends.sends position server asked body first there tells some is) spoken =
    let pair : (to, m) ≡ (server, message_at position body u.course.requests) = same_pair (to, m) (server, message_at position body u.course.requests) some in
    let index : List ℕ = u.course.goal.cap.storage_index in
    let spelled : Spells index there.0.asked body = subst (λ (a : Asked). Spells index a body) (sym there.3) (tells_spells index u.pieces v.pieces asked body tells) in
    framed (Uploading u) node to position m there.0 body there.1 (ap (λ (p : ℕ × Message). p.0) pair ∙ sym there.2) spelled (ap (λ (p : ℕ × Message). p.1) pair) spoken

pub frame_taken : (old new : Task) (node to : ℕ) (m : Message) → Takes old (Some (to, m)) new → IsMessage m → IsFrameOf old node (sent_to node to m)
frame_taken old new node to m t spoken =
    by_taking (Some (to, m)) (λ (a b : Task). IsFrameOf a node (sent_to node to m)) (λ u v t. upload_framed u v node to m t spoken)
    (λ d e t. (let f = t.2 in framed (Downloading d) node to t.0 m f.request f.body f.there f.server f.spelled f.message spoken))
    (λ c e t. (let f = t.2 in framed (Checking c) node to t.0 m f.request f.body f.there f.server f.spelled f.message spoken)) (λ n new none is. absurd cc) old new t

-- ---- sending

-- a machine goes on, and sends nothing
pub sends_none : (New : Said) (node : ℕ) (old new : Task) (sent : List Sent) → GoesOn New old new → SendsSome New node old new sent sent
sends_none New node old new sent g = record { goes = g; more = []; appended = sym (append_none sent); frames = λ x c. absurd (member_none x c) }

pub sends_on : (New : Said) (node : ℕ) (a b c : Task) (before mid after : List Sent) → SendsSome New node a b before mid → SendsSome Nothing node b c mid after → SendsSome New node a c before after
sends_on New node a b c before mid after f g = record {
  goes = goes_on New a b c f.goes g.goes;
  more = f.more ++ g.more;
  appended = g.appended ∙ ap (λ (l : List Sent). l ++ g.more) f.appended ∙ append_assoc before f.more g.more;
  frames = λ x k. elim (Contains-append_cases f.more g.more x k) [ inl h ↦ frame_on Nothing b c node x g.goes (f.frames x h) | inr h ↦ g.frames x h ];
}

-- one message is sent
pub sends_one : (node to : ℕ) (m : Message) (old new : Task) (sent : List Sent) → Takes old (Some (to, m)) new → IsMessage m
    → SendsSome Nothing node old new sent (sent ++ sent_to node to m ∷ [])
sends_one node to m old new sent t spoken = record {
  goes = taken old new (Some (to, m)) t;
  more = sent_to node to m ∷ [];
  appended = refl;
  frames = λ x k. elim (member_cases (sent_to node to m) x [] k) [
    | inl e ↦ subst (IsFrameOf new node) e (frame_on Nothing old new node (sent_to node to m) (taken old new (Some (to, m)) t) (frame_taken old new node to m t spoken))
    | inr h ↦ absurd (member_none x h)
  ];
}

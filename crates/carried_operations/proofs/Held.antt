-- What an upload counts as acknowledged is kept by the server that told it, where links bring what was sent and stores keep.
use Rattle.std.proofs.Common.{◌≡◌, ◌⊎◌, ℕ, ◌+◌, List, [], ◌∷◌, Option, Some, None, Result, Ok, Err, Bool, true, false, Contains, length, slice_index_or, refl, sym, ap, subst, inl, inr, ◌∙◌, arith}
use Rattle.std.specs.Prelude.{slice_get}
use Rattle.tagged_hash.specs.TaggedHash.{share_digest}
use Rattle.tagged_hash.specs.declared.tag.Tag.TheVariants.{WholeShare}
use Rattle.proved_parts.proofs.Segments.{data_agrees_in}
use Rattle.wire.specs.declared.message.Body.{Body}
use Rattle.wire.specs.declared.message.Message.{Message}
use Rattle.wire.specs.declared.message.ShareId.{ShareId}
use Rattle.request_record.specs.declared.requests.Asked.{Asked}
use Rattle.request_record.specs.declared.requests.Asked.TheVariants.{Aborting, Allocation, Closing, Holdings, Reading, Writing}
use Rattle.request_record.specs.declared.requests.Outcome.TheVariants.{Answered}
use Rattle.request_record.specs.declared.requests.Request.{Request}
use Rattle.request_record.specs.Asking.{Spells, message_at}
use Rattle.request_record.specs.Follow.{Follows, IsSaid, Nothing, WasAnswered}
use Rattle.share_store.specs.Calls.{AreKept, Calls}
use Rattle.share_store.specs.Shelf.{Shelf}
use Rattle.server_core.specs.declared.error.ServerFault.TheVariants.{OutOfMemory, StoreFault}
use Rattle.server_core.specs.ServerState as server
use Rattle.server_core.specs.Sound.{IsAnswer, IsSound, Tells, over}
use Rattle.server_core.proofs.Keeps.{messages_keep}
use Rattle.server_core.proofs.Over.{serves_over}
use Rattle.answer_laws.proofs.Servers.Acknowledged.{acked_by, closed_by, tells_acked}
use Rattle.placement.specs.Matching.{Pair}
use Rattle.upload_core.specs.declared.pieces.PieceFault.{PieceFault}
use Rattle.upload_core.specs.Acknowledged as acknowledged
use Rattle.upload_core.specs.Acknowledged.{acked_answer, acked_outcome, acked_pairs}
use Rattle.upload_core.specs.Calls.{upload_calls}
use Rattle.upload_core.specs.Sending.{Takes, Uploading, ceases, nothing, sends}
use Rattle.upload_core.specs.Sending as sending
use Rattle.upload_core.specs.State.{Goal}
use Rattle.upload_core.proofs.Following.{advances_continue, takes_continue, ticks_continue}
use Rattle.upload_core.proofs.Lists.{from_flat, position_of}
use Rattle.local_grid.specs.Nodes.{Carries, Exchanges, GoesBack, IsMet, NodeState, client_node}
use Rattle.local_grid.specs.Turns.{Asks, AsksAt, Course, GridState, LoopState, Turns, later}
use Rattle.carried_operations.specs.Kept.{AcknowledgedAreKept, AllStay, AreSound, IsNode, KeepsShare, Stays}
use Rattle.carried_operations.proofs.Carrying.{answered_by, begun_follows, none_before}
use Rattle.carried_operations.proofs.Staying.{course_all, sound_after, there_on, turn_all}
use Rattle.carried_operations.proofs.Runs.{follows_both}
use Rattle.carried_operations.specs.Stored.{HasBegun}

-- ---- lists and requests

same_some : {A : Type 0} (x y : A) → Some x ≡ Some y → x ≡ y
same_some x y e = cc

no_some : {A : Type 0} (x : A) → None ≡ Some x → ⊥
no_some x e = cc

-- the body of a request spells it
spelled : {P : Type 0} (gives : P → ℕ → ℕ → List ℕ → P → Type 0) (index : List ℕ) (old new : P) (asked : Asked) (body : Body) → sending.Tells gives index old asked body new → Spells index asked body
spelled gives index old new (Writing share offset len) body t =
    let id : ShareId = record { index = index; share = share } in
    subst (λ (b : Body). Spells index (Writing share offset len) b) (sym t.3) (refl, refl, t.2)
spelled gives index old new Holdings body t = t.0
spelled gives index old new (Allocation share len) body t = t.0
spelled gives index old new (Closing share) body t = t.0
spelled gives index old new (Reading share offset len) body t = t.0
spelled gives index old new (Aborting share) body t = t.0

module _ {P S L : Type 0} (gives : P → ℕ → ℕ → List ℕ → P → Type 0) (fails : P → ℕ → ℕ → ℕ → PieceFault → P → Type 0) (calls : Calls S) (shelf : S → Shelf) (k : AreKept calls shelf) (carries : Carries L)
    (true_to : (l : L) (way : Rattle.local_grid.specs.declared.link.Way.Way) (sent came : Message) (after : L) → carries l way sent (Some came) after → came ≡ sent) where
  -- ---- an answer that came

  -- over a link that brings what was sent, what came is what the server said to the message
  record IsSaidBy (was is : NodeState S L) (m a : Message) (now : ℕ) : Type 0 where
    serves : server.Serves calls was.server client_node m now (Ok (Some a)) is.server

  back_said : (link after : L) (outcome : server.Outcome) (a : Message) (silent : Bool) → GoesBack carries link outcome (Some a) after silent → outcome ≡ Ok (Some a)
  back_said link after (Ok (Some said)) a silent g = ap (λ (x : Message). Ok (Some x)) (sym (true_to link Rattle.local_grid.specs.declared.link.Way.TheVariants.ToClient said a after g.0))
  back_said link after (Ok None) a silent g = absurd (no_some a (sym g.0))
  back_said link after (Err StoreFault) a silent g = absurd (no_some a (sym g.0))
  back_said link after (Err OutOfMemory) a silent g = absurd g

  met_said : (old new : NodeState S L) (link : L) (m : Message) (came : Option Message) (now : ℕ) (a : Message) → ((c : Message) → came ≡ Some c → c ≡ m) → IsMet calls carries old link came now (Some a) new → IsSaidBy old new m a now
  met_said old new link m None now a same met = absurd (no_some a (sym met.0))
  met_said old new link m (Some c) now a same met = record {
    serves = subst (λ (x : Message). server.Serves calls old.server client_node x now (Ok (Some a)) new.server) (same c refl)
        (subst (λ (o : server.Outcome). server.Serves calls old.server client_node c now o new.server) (back_said link new.link met.outcome a new.silent met.back) met.serves);
  }

  exchange_said : (old new : NodeState S L) (m a : Message) (now : ℕ) (b : Bool) → old.silent ≡ b → Exchanges calls carries old m now (Some a) new → IsSaidBy old new m a now
  exchange_said old new m a now true e x = absurd (no_some a (sym (x.silent e).0))
  exchange_said old new m a now false e x =
      let h = x.heard e in
      met_said old new h.0 m h.1 now a (λ c is. true_to old.link Rattle.local_grid.specs.declared.link.Way.TheVariants.ToServer m c h.0 (subst (λ (o : Option Message). carries old.link Rattle.local_grid.specs.declared.link.Way.TheVariants.ToServer m o h.0) is h.2)) h.3

  -- a server that is there said it, and is there after it
  record SaysIn (old new : GridState S L) (number : ℕ) (m a : Message) : Type 0 where
    was : NodeState S L
    is : NodeState S L
    before : IsNode old number was
    after : IsNode new number is
    said : IsSaidBy was is m a old.clock

  get_set_same : {A : Type 0} (xs : List A) (i : ℕ) (x y : A) → slice_get xs i ≡ Some x → slice_get (Rattle.std.specs.Prelude.slice_set xs i y) i ≡ Some y
  get_set_same [] i x y e = absurd cc
  get_set_same (z ∷ zs) Rattle.std.proofs.Common.zero x y e = refl
  get_set_same (z ∷ zs) (Rattle.std.proofs.Common.suc i) x y e = get_set_same zs i x y e

  says_at : (old new : GridState S L) (number : ℕ) (at : Option (Option (NodeState S L))) (m a : Message) → slice_get old.nodes number ≡ at → AsksAt calls carries old number at m (Some a) new → SaysIn old new number m a
  says_at old new number None m a e x = absurd (no_some a (sym x.0))
  says_at old new number (Some None) m a e x = absurd (no_some a (sym x.0))
  says_at old new number (Some (Some n)) m a e x = record {
    was = n;
    is = x.0;
    before = e;
    after = ap (λ (g : GridState S L). slice_get g.nodes number) x.2 ∙ get_set_same old.nodes number (Some n) (Some x.0) e;
    said = exchange_said n x.0 m a old.clock n.silent refl x.1;
  }

  -- ---- what it tells

  -- an answer to this request came from a sound server, which tells by it what is closed there
  record IsToldIn (new : GridState S L) (index : List ℕ) (s : Request) (said : Body) : Type 0 where
    node : NodeState S L
    at : IsNode new s.server node
    sound : IsSound (over shelf node.server)
    body : Body
    spells : Spells index s.asked body
    tells : Tells (shelf node.server.store) body said

  -- the request that is sent next, of which the answer comes
  told : (old taken next : LoopState (Uploading P) S L) (m : ℕ × Message) (a : Message) (position : ℕ) (s : Request) (said : Body) → AreSound shelf old.grid
      → Takes gives fails old.operation (Some m) taken.operation → Asks calls carries old.grid m.0 m.1 (Some a) next.grid → Follows Nothing old.operation.course.requests taken.operation.course.requests
      → Follows (IsSaid m.0 a taken.operation.course.requests.session) taken.operation.course.requests next.operation.course.requests → slice_get next.operation.course.requests.entries position ≡ Some s
      → IsSaid m.0 a taken.operation.course.requests.session position s.server s.asked said → IsToldIn next.grid old.operation.course.goal.cap.storage_index s said
  told old taken next m a position s said sound (nothing first none is) asks f g at i = absurd (no_some m (sym none))
  told old taken next m a position s said sound (ceases p server asked fault running first there faults none is) asks f g at i = absurd (no_some m (sym none))
  told old taken next m a position s said sound (sends p server asked body first there tells some is) asks f g at i =
      let says = says_at old.grid next.grid m.0 (slice_get old.grid.nodes m.0) m.1 a refl asks in
      let pair = same_some m (server, message_at p body old.operation.course.requests) some in
      let sent : m.1 ≡ message_at p body old.operation.course.requests = ap (λ (x : ℕ × Message). x.1) pair in
      let s_over = serves_over calls shelf k says.was.server says.is.server client_node old.grid.clock m.1 (Ok (Some a)) says.said.serves in
      let kept = messages_keep (over shelf says.was.server) (over shelf says.is.server) client_node old.grid.clock m.1 (Ok (Some a)) (sound m.0 says.was says.before) s_over in
      let answers : IsAnswer (shelf says.is.server.store) m.1 a = kept.answers in
      let number : a.number ≡ p + 1 = answers.number ∙ ap (λ (x : Message). x.number) sent in
      let same : p ≡ position = omega (arith, number, i.number_is) in
      let one = f.keeps p there.0 there.1 in
      let two = g.keeps p one.request one.at in
      let is_s : two.request ≡ s = same_some two.request s (sym two.at ∙ ap (λ (n : ℕ). slice_get next.operation.course.requests.entries n) same ∙ at) in
      let asks_s : asked ≡ s.asked = sym there.3 ∙ sym one.asked ∙ sym two.asked ∙ ap (λ (r : Request). r.asked) is_s in
      record {
        node = says.is;
        at = subst (λ (n : ℕ). IsNode next.grid n says.is) (sym i.server_is) says.after;
        sound = kept.sound;
        body = body;
        spells = subst (λ (x : Asked). Spells old.operation.course.goal.cap.storage_index x body) asks_s (spelled gives old.operation.course.goal.cap.storage_index old.operation.pieces taken.operation.pieces asked body tells);
        tells = subst (λ (b : Body). Tells (shelf says.is.server.store) body b) i.body_is (subst (λ (x : Message). Tells (shelf says.is.server.store) x.body a.body) sent answers.tells);
      }

  -- ---- a turn, and all turns

  abbrev Came : LoopState (Uploading P) S L → LoopState (Uploading P) S L → List ℕ → ℕ → Request → Body → Type 0
  Came old next index position s said = WasAnswered old.operation.course.requests.entries position s said ⊎ IsToldIn next.grid index s said

  -- what was answered before
  was_before : (old : LoopState (Uploading P) S L) (next : LoopState (Uploading P) S L) (index : List ℕ) (position : ℕ) (s t : Request) (said : Body) → t.server ≡ s.server → t.asked ≡ s.asked
      → WasAnswered old.operation.course.requests.entries position t said → Came old next index position s said
  was_before old next index position s t said server asked v = inl (record { request = v.request; at = v.at; answered = v.answered; server = v.server ∙ server; asked = v.asked ∙ asked })

  -- nothing new came
  quiet : (old next : LoopState (Uploading P) S L) (index : List ℕ) (position : ℕ) (s : Request) (said : Body) → Follows Nothing old.operation.course.requests next.operation.course.requests
      → slice_get next.operation.course.requests.entries position ≡ Some s → s.outcome ≡ Answered said → Came old next index position s said
  quiet old next index position s said f at o = elim (f.answers position s said at o) [ inl w ↦ inl w | inr n ↦ absurd n ]

  turned : (old next : LoopState (Uploading P) S L) (index : List ℕ) (position : ℕ) (s : Request) (said : Body) (message : Option (ℕ × Message)) (taken : Uploading P) → AreSound shelf old.grid
      → old.operation.course.goal.cap.storage_index ≡ index → Takes gives fails old.operation message taken → Rattle.local_grid.specs.Turns.GoesOn (upload_calls gives fails) calls carries taken old.grid message next
      → slice_get next.operation.course.requests.entries position ≡ Some s → s.outcome ≡ Answered said → Came old next index position s said
  turned old next index position s said None taken sound of takes goes at o =
      let f = (takes_continue gives fails old.operation taken None takes).follows in
      let g = (ticks_continue (later old.grid.clock) taken.course next.operation.course goes.1.moved).follows in
      quiet old next index position s said (follows_both Nothing old.operation.course.requests taken.course.requests next.operation.course.requests f g) at o
  turned old next index position s said (Some m) taken sound of takes goes at o = heard goes.0 goes.1 goes.2 where
    f : Follows Nothing old.operation.course.requests taken.course.requests
    f = (takes_continue gives fails old.operation taken (Some m) takes).follows

    heard : (answer : Option Message) → Asks calls carries old.grid m.0 m.1 answer next.grid → Rattle.local_grid.specs.Turns.Hears (upload_calls gives fails) taken m.0 answer old.grid.clock next.operation
        → Came old next index position s said
    heard None asks same = quiet old next index position s said (subst (λ (u : Uploading P). Follows Nothing old.operation.course.requests u.course.requests) (sym same) f) at o
    heard (Some a) asks h =
        let g = (advances_continue m.0 a old.grid.clock taken.course next.operation.course h.moved).follows in
        elim (g.answers position s said at o) [
          | inl w ↦ elim (f.answers position w.request said w.at w.answered) [
            | inl v ↦ was_before old next index position s w.request said w.server w.asked v
            | inr n ↦ absurd n
          ]
          | inr i ↦ inr (subst (λ (x : List ℕ). IsToldIn next.grid x s said) of
              (told old (record { operation = taken; grid = old.grid }) next m a position s said sound takes asks f g at i))
        ]

  goal_stays : (old next : LoopState (Uploading P) S L) → Turns (upload_calls gives fails) calls carries old next → next.operation.course.goal ≡ old.operation.course.goal
  goal_stays old next t = by t.message t.takes t.goes_on where
    by : (message : Option (ℕ × Message)) → Takes gives fails old.operation message t.taken → Rattle.local_grid.specs.Turns.GoesOn (upload_calls gives fails) calls carries t.taken old.grid message next
        → next.operation.course.goal ≡ old.operation.course.goal
    by None takes goes = (ticks_continue (later old.grid.clock) t.taken.course next.operation.course goes.1.moved).goal ∙ (takes_continue gives fails old.operation t.taken None takes).goal
    by (Some m) takes goes = heard goes.0 goes.2 ∙ (takes_continue gives fails old.operation t.taken (Some m) takes).goal where
      heard : (answer : Option Message) → Rattle.local_grid.specs.Turns.Hears (upload_calls gives fails) t.taken m.0 answer old.grid.clock next.operation → next.operation.course.goal ≡ t.taken.course.goal
      heard None same = ap (λ (u : Uploading P). u.course.goal) same
      heard (Some a) h = (advances_continue m.0 a old.grid.clock t.taken.course next.operation.course h.moved).goal

  -- a share that a sound server told is kept where the server stays
  keeps : (next last : GridState S L) (aim : Goal) (s : Request) (said : Body) (pair : Pair) → AllStay shelf next last → Contains (acked_answer aim s.server s.asked said) pair
      → IsToldIn next aim.cap.storage_index s said → KeepsShare shelf last pair.0 (record { index = aim.cap.storage_index; share = pair.1 }) (slice_index_or aim.digests pair.1 [])
  keeps next last aim s said pair all c t =
      let digest : List ℕ = slice_index_or aim.digests pair.1 [] in
      let id : ShareId = record { index = aim.cap.storage_index; share = pair.1 } in
      let by = acked_by aim s.server s.asked said pair c in
      let closed = closed_by id (shelf t.node.server.store) digest (tells_acked (shelf t.node.server.store) aim.cap.storage_index s.asked t.body said pair.1 digest by.acks t.spells t.tells) in
      let at : slice_get next.nodes pair.0 ≡ Some (Some t.node) = ap (λ (n : ℕ). slice_get next.nodes n) by.server_is ∙ t.at in
      let on = there_on shelf t.node (slice_get last.nodes pair.0) (subst (λ (o : Option (Option (NodeState S L))). Rattle.carried_operations.specs.Kept.StaysThere shelf o (slice_get last.nodes pair.0)) at (all pair.0)) in
      let right : closed.share.digest ≡ share_digest closed.share.bytes = t.sound.right.digests id closed.share closed.found in
      record {
        node = on.0;
        at = on.1;
        share = closed.share;
        found = on.2.closed id closed.share closed.found;
        has = closed.digest_is;
        digest_of = sym right ∙ closed.digest_is;
        exactly = λ inputs bytes no_clash one other same.
            data_agrees_in (Contains inputs) no_clash WholeShare closed.share.bytes bytes one other (sym right ∙ closed.digest_is ∙ sym same);
      }

  course_kept : (first last : LoopState (Uploading P) S L) (states : List (LoopState (Uploading P) S L)) (aim : Goal) → AreSound shelf first.grid → first.operation.course.goal ≡ aim
      → Course (Turns (upload_calls gives fails) calls carries) first states last → (position : ℕ) (s : Request) (said : Body) (pair : Pair)
      → slice_get last.operation.course.requests.entries position ≡ Some s → s.outcome ≡ Answered said → Contains (acked_answer aim s.server s.asked said) pair
      → WasAnswered first.operation.course.requests.entries position s said
      ⊎ KeepsShare shelf last.grid pair.0 (record { index = aim.cap.storage_index; share = pair.1 }) (slice_index_or aim.digests pair.1 [])
  course_kept first last [] aim sound of c position s said pair at o counts =
      inl (record { request = s; at = subst (λ (x : LoopState (Uploading P) S L). slice_get x.operation.course.requests.entries position ≡ Some s) c at; answered = o; server = refl; asked = refl })
  course_kept first last (next ∷ states) aim sound of c position s said pair at o counts =
      let stay = turn_all calls shelf k carries (λ a b. Unit {0}) (upload_calls gives fails) first next c.0 in
      let goal = goal_stays first next c.0 ∙ of in
      elim (course_kept next last states aim (sound_after shelf first.grid next.grid stay sound) goal c.1 position s said pair at o counts) [
        | inr kept ↦ inr kept
        | inl w ↦ elim (turned first next aim.cap.storage_index position w.request said c.0.message c.0.taken sound (ap (λ (g : Goal). g.cap.storage_index) of) c.0.takes c.0.goes_on w.at w.answered) [
          | inl v ↦ inl (record { request = v.request; at = v.at; answered = v.answered; server = v.server ∙ w.server; asked = v.asked ∙ w.asked })
          | inr t ↦ inr (keeps next.grid last.grid aim w.request said pair (course_all calls shelf k carries (λ a b. Unit {0}) (upload_calls gives fails) next last states c.1)
              (subst (λ (a : Asked). Contains (acked_answer aim w.request.server a said) pair) (sym w.asked) (subst (λ (n : ℕ). Contains (acked_answer aim n s.asked said) pair) (sym w.server) counts)) t)
        ]
      ]

  -- all that counts as acknowledged is kept
  pub acknowledged_are_kept : (first last : LoopState (Uploading P) S L) (states : List (LoopState (Uploading P) S L)) → HasBegun first.operation.course → AreSound shelf first.grid
      → Course (Turns (upload_calls gives fails) calls carries) first states last → AcknowledgedAreKept shelf first.operation.course.goal last.operation.course.requests.entries last.grid
  acknowledged_are_kept first last states b sound c pair counted =
      let aim : Goal = first.operation.course.goal in
      let found = from_flat (acknowledged.acked_by aim) last.operation.course.requests.entries pair counted in
      let r : Request = found.0 in
      let at = position_of last.operation.course.requests.entries r found.1 in
      let said = answered_by aim r r.outcome pair found.2 in
      elim (course_kept first last states aim sound refl c at.0 r said.0 pair at.1 said.1 said.2) [
        | inr kept ↦ kept
        | inl w ↦ elim ((begun_follows first.operation.course b).answers at.0 w.request said.0 w.at w.answered) [
          | inl v ↦ absurd (none_before b.session b.now at.0 w.request said.0 v)
          | inr n ↦ absurd n
        ]
      ]

  -- the same, of a watched upload
  pub kept_as : (most : ℕ) (first was ended is : Uploading P) (old new : GridState S L) → HasBegun first.course → was ≡ first → ended ≡ is → AreSound shelf old
      → Rattle.local_grid.specs.Turns.Finishes (upload_calls gives fails) calls carries most (record { operation = was; grid = old }) (record { operation = is; grid = new })
      → AcknowledgedAreKept shelf first.course.goal ended.course.requests.entries new
  kept_as most first was ended is old new b same last sound f =
      subst (λ (u : Uploading P). AcknowledgedAreKept shelf first.course.goal u.course.requests.entries new) (sym last)
      (subst (λ (u : Uploading P). AcknowledgedAreKept shelf u.course.goal is.course.requests.entries new) same
      (acknowledged_are_kept (record { operation = was; grid = old }) (record { operation = is; grid = new }) f.2.0 (subst (λ (u : Uploading P). HasBegun u.course) (sym same) b) sound f.2.2))

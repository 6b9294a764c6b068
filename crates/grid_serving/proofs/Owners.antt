-- Open buckets are those of clients that are there.
use Rattle.std.proofs.Common.{◌≡◌, ℕ, List, [], ◌∷◌, ◌++◌, Bool, true, false, cond, not, Option, Some, None, Ok, Err, refl, sym, ◌∙◌, subst, ◌⊎◌, inl, inr, eq-eqb}
use Rattle.std.specs.Prelude.{◌==◌, ◌&&◌, filter, max, slice_get, slice_set, ⊤}
use Rattle.std.specs.List.{AllByRecursion}
use Rattle.std.proofs.lemmas.Bool.{cases_eq}
use Rattle.lemmas.proofs.Positions.{get_other, get_set}
use Rattle.wire.specs.declared.message.Body.{Body}
use Rattle.wire.specs.declared.message.Body.TheVariants.{Ask, Have, Allocate, Granted, Already, Busy, Full, Write, Wrote, WrongOffset, Close, Closed, NotComplete, Abort, Read, Data, NoShare}
use Rattle.wire.specs.declared.message.Message.{Message}
use Rattle.wire.specs.declared.message.ShareId.{ShareId}
use Rattle.share_store.specs.Calls.{Calls}
use Rattle.server_core.specs.declared.error.ServerFault.TheVariants.{OutOfMemory, StoreFault}
use Rattle.server_core.specs.declared.bucket.Gathered.{Gathered}
use Rattle.server_core.specs.declared.bucket.Gathered.TheVariants.{Part, Whole}
use Rattle.server_core.specs.declared.bucket.Bucket.{Bucket}
use Rattle.server_core.specs.Buckets.{bucket_at, bytes_so_far, changed, ended, is_of_another, is_owned, same_id, touched, with_bytes}
use Rattle.server_core.specs.ServerState.{Does, LetsGoOfEnded, Line, Outcome, ServerState, Serves, Ticks, is_full, is_misplaced, without_client}
use Rattle.server_core.specs.ServerState.{Silent, Says, Touches, Opens, Ends, ListsHoldings, WritesBytes, ClosesShare, ReadsShare}
use Rattle.server_core.specs.ServerState.{abort_line, allocate_line, close_gathered, close_line, is_fresh_at, line_of, read_line, write_line}
use Rattle.connections.specs.Connections.{ConnectionState}
use Rattle.connections.specs.Courses.{given}
use Rattle.connections.specs.Wires.{WireCalls}
use Rattle.connections.specs.declared.fault.ConnectionFault.{ConnectionFault}
use Rattle.grid_serving.specs.declared.client.TurnFault.{TurnFault}
use Rattle.grid_serving.specs.declared.client.TurnFault.TheVariants as why
use Rattle.grid_serving.specs.Places.{ClientState}
use Rattle.grid_serving.specs.Owners.{AreTheirs, IsThere, StayTheirs}
use Rattle.grid_serving.specs.Turns as turns
use Rattle.grid_serving.specs.Turns.{BreaksOff, FailsInTurn, IsCutOff, IsUnanswered, LeaveInTurn, LeavesAt, ServesAll, ServesAt, ServesInTurn, Serving, TurnsTo}

-- ---- what holds of the clients of buckets

-- this holds of the client of each
abbrev EachClient : (ℕ → Type 0) → List Bucket → Type 0
EachClient P buckets = AllByRecursion (λ (b : Bucket). P b.client) buckets

each_weaker : (P Q : ℕ → Type 0) (bs : List Bucket) → ((n : ℕ) → P n → Q n) → EachClient P bs → EachClient Q bs
each_weaker P Q [] more each = tt
each_weaker P Q (b ∷ bs) more each = (more b.client each.0, each_weaker P Q bs more each.1)

each_push : (P : ℕ → Type 0) (bs : List Bucket) (b : Bucket) → EachClient P bs → P b.client → EachClient P (bs ++ b ∷ [])
each_push P [] b each one = (one, tt)
each_push P (c ∷ bs) b each one = (each.0, each_push P bs b each.1 one)

each_kept : (P : ℕ → Type 0) (t : Bucket → Bool) (bs : List Bucket) → EachClient P bs → EachClient P (filter t bs)
each_kept P t [] each = tt
each_kept P t (b ∷ bs) each = by (t b) (each_kept P t bs each.1)
  where
    by : (kept : Bool) → EachClient P (filter t bs) → EachClient P (cond kept (b ∷ filter t bs) (filter t bs))
    by true rest = (each.0, rest)
    by false rest = rest

-- those that are left are so
each_left : (P Q : ℕ → Type 0) (t : Bucket → Bool) (bs : List Bucket) → ((b : Bucket) → t b ≡ true → P b.client → Q b.client) → EachClient P bs → EachClient Q (filter t bs)
each_left P Q t [] more each = tt
each_left P Q t (b ∷ bs) more each = by (t b) refl (each_left P Q t bs more each.1)
  where
    by : (kept : Bool) → t b ≡ kept → EachClient Q (filter t bs) → EachClient Q (cond kept (b ∷ filter t bs) (filter t bs))
    by true is rest = (more b is each.0, rest)
    by false is rest = rest

each_changed : (P : ℕ → Type 0) (id : ShareId) (f : Bucket → Bucket) (bs : List Bucket) → ((b : Bucket) → (f b).client ≡ b.client) → EachClient P bs → EachClient P (changed id f bs)
each_changed P id f [] same each = tt
each_changed P id f (b ∷ bs) same each = by (same_id b.id id) (each_changed P id f bs same each.1)
  where
    by : (here : Bool) → EachClient P (changed id f bs) → EachClient P (cond here (f b ∷ bs) (b ∷ changed id f bs))
    by true rest = (subst P (sym (same b)) each.0, each.1)
    by false rest = (each.0, rest)

-- ---- a message

-- a line opens a bucket for this client alone
abbrev OpensFor : ℕ → Line → Type 0
OpensFor node (Opens client session id len) = client ≡ node
OpensFor node Silent = ⊤
OpensFor node (Says body) = ⊤
OpensFor node (Touches id body) = ⊤
OpensFor node (Ends id) = ⊤
OpensFor node (ListsHoldings index) = ⊤
OpensFor node (WritesBytes id b bytes) = ⊤
OpensFor node (ClosesShare id digest) = ⊤
OpensFor node (ReadsShare id offset len) = ⊤

allocates_for : (from session : ℕ) (id : ShareId) (len : ℕ) (full : Bool) (told : Option (List ℕ)) (bucket : Option Bucket) → OpensFor from (allocate_line from session id len full told bucket)
allocates_for from session id len full (Some digest) bucket = tt
allocates_for from session id len full None (Some c) = by (is_owned from session c && (c.length == len)) where
  by : (yes : Bool) → OpensFor from (cond yes (Touches id Granted) (Says Busy))
  by true = tt
  by false = tt
allocates_for from session id len true None None = tt
allocates_for from session id len false None None = refl

writes_for : (from session : ℕ) (id : ShareId) (offset : ℕ) (bytes : List ℕ) (told : Option (List ℕ)) (bucket : Option Bucket) → OpensFor from (write_line from session id offset bytes told bucket)
writes_for from session id offset bytes (Some digest) bucket = tt
writes_for from session id offset bytes None None = tt
writes_for from session id offset bytes None (Some c) = by (not (is_owned from session c)) (is_misplaced offset bytes c) where
  by : (no misplaced : Bool) → OpensFor from (cond no (Says NoShare) (cond misplaced (Touches id (WrongOffset (bytes_so_far c))) (WritesBytes id c bytes)))
  by true misplaced = tt
  by false true = tt
  by false false = tt

closes_for : (from session : ℕ) (id : ShareId) (told : Option (List ℕ)) (bucket : Option Bucket) → OpensFor from (close_line from session id told bucket)
closes_for from session id (Some digest) bucket = tt
closes_for from session id None None = tt
closes_for from session id None (Some c) = by (not (is_owned from session c)) where
  whole : (g : Gathered) → OpensFor from (close_gathered id g)
  whole (Part count hasher) = tt
  whole (Whole digest) = tt

  by : (no : Bool) → OpensFor from (cond no (Says NoShare) (close_gathered id c.gathered))
  by true = tt
  by false = whole c.gathered

aborts_for : (from session : ℕ) (id : ShareId) (bucket : Option Bucket) → OpensFor from (abort_line from session id bucket)
aborts_for from session id None = tt
aborts_for from session id (Some c) = by (is_owned from session c) where
  by : (yes : Bool) → OpensFor from (cond yes (Ends id) (Says NoShare))
  by true = tt
  by false = tt

reads_for : (from : ℕ) (id : ShareId) (offset len : ℕ) (told : Option (List ℕ)) → OpensFor from (read_line id offset len told)
reads_for from id offset len (Some digest) = tt
reads_for from id offset len None = tt

opens_for : {S : Type 0} (calls : Calls S) (s : ServerState S) (from session : ℕ) (body : Body) → OpensFor from (line_of calls s from session body)
opens_for calls s from session (Ask index) = tt
opens_for calls s from session (Allocate id len) = allocates_for from session id len _ _ _
opens_for calls s from session (Write id offset bytes) = writes_for from session id offset bytes _ _
opens_for calls s from session (Close id) = closes_for from session id _ _
opens_for calls s from session (Abort id) = aborts_for from session id _
opens_for calls s from session (Read id offset len) = reads_for from id offset len _
opens_for calls s from session (Have readonly found) = tt
opens_for calls s from session Granted = tt
opens_for calls s from session (Already digest) = tt
opens_for calls s from session Busy = tt
opens_for calls s from session Full = tt
opens_for calls s from session (Wrote next) = tt
opens_for calls s from session (WrongOffset count) = tt
opens_for calls s from session (Closed digest) = tt
opens_for calls s from session (NotComplete count) = tt
opens_for calls s from session (Data bytes) = tt
opens_for calls s from session NoShare = tt

each_same : (P : ℕ → Type 0) (old new : List Bucket) → new ≡ old → EachClient P old → EachClient P new
each_same P old new same each = subst (EachClient P) (sym same) each

each_ended : (P : ℕ → Type 0) (old new : List Bucket) (id : ShareId) → new ≡ ended id old → EachClient P old → EachClient P new
each_ended P old new id same each = subst (EachClient P) (sym same) (each_kept P (λ (b : Bucket). not (same_id b.id id)) old each)

each_does : {S : Type 0} (calls : Calls S) (P : ℕ → Type 0) (node : ℕ) (old new : ServerState S) (line : Line) (t : ℕ) (m : Message) (outcome : Outcome) → OpensFor node line → Does calls line t old m outcome new → P node
    → EachClient P old.buckets → EachClient P new.buckets
each_does calls P node old new Silent t m (Ok None) for d here each = each_same P old.buckets new.buckets d.buckets each
each_does calls P node old new Silent t m (Ok (Some r)) for d here each = absurd d
each_does calls P node old new Silent t m (Err e) for d here each = absurd d
each_does calls P node old new (Says body) t m (Ok (Some r)) for d here each = each_same P old.buckets new.buckets d.after.buckets each
each_does calls P node old new (Says body) t m (Ok None) for d here each = absurd d
each_does calls P node old new (Says body) t m (Err e) for d here each = absurd d
each_does calls P node old new (Touches id body) t m (Ok (Some r)) for d here each =
    subst (EachClient P) (sym d.after.buckets) (each_changed P id (touched t) old.buckets (λ b. refl) each)
each_does calls P node old new (Touches id body) t m (Ok None) for d here each = absurd d
each_does calls P node old new (Touches id body) t m (Err e) for d here each = absurd d
each_does calls P node old new (Opens client session id len) t m (Ok (Some r)) for d here each =
    subst (EachClient P) (sym d.after.buckets) (each_push P old.buckets d.bucket each (subst P (sym (d.fresh.client_is ∙ for)) here))
each_does calls P node old new (Opens client session id len) t m (Err OutOfMemory) for d here each = each_same P old.buckets new.buckets d.buckets each
each_does calls P node old new (Opens client session id len) t m (Err StoreFault) for d here each = absurd d
each_does calls P node old new (Opens client session id len) t m (Ok None) for d here each = absurd d
each_does calls P node old new (Ends id) t m (Ok (Some r)) for d here each = each_ended P old.buckets new.buckets id d.after.buckets each
each_does calls P node old new (Ends id) t m (Ok None) for d here each = absurd d
each_does calls P node old new (Ends id) t m (Err e) for d here each = absurd d
each_does calls P node old new (ListsHoldings index) t m (Ok (Some r)) for d here each = each_same P old.buckets new.buckets d.buckets each
each_does calls P node old new (ListsHoldings index) t m (Err OutOfMemory) for d here each = each_same P old.buckets new.buckets d.buckets each
each_does calls P node old new (ListsHoldings index) t m (Err StoreFault) for d here each = each_same P old.buckets new.buckets d.buckets each
each_does calls P node old new (ListsHoldings index) t m (Ok None) for d here each = absurd d
each_does calls P node old new (WritesBytes id b bytes) t m (Ok (Some r)) for d here each =
    subst (EachClient P) (sym d.buckets) (each_changed P id (with_bytes t d.gathered) old.buckets (λ c. refl) each)
each_does calls P node old new (WritesBytes id b bytes) t m (Err OutOfMemory) for d here each = each_same P old.buckets new.buckets d.buckets each
each_does calls P node old new (WritesBytes id b bytes) t m (Err StoreFault) for d here each = each_ended P old.buckets new.buckets id d.buckets each
each_does calls P node old new (WritesBytes id b bytes) t m (Ok None) for d here each = absurd d
each_does calls P node old new (ClosesShare id digest) t m (Ok (Some r)) for d here each = each_ended P old.buckets new.buckets id d.buckets each
each_does calls P node old new (ClosesShare id digest) t m (Err OutOfMemory) for d here each = each_same P old.buckets new.buckets d.buckets each
each_does calls P node old new (ClosesShare id digest) t m (Err StoreFault) for d here each = each_ended P old.buckets new.buckets id d.buckets each
each_does calls P node old new (ClosesShare id digest) t m (Ok None) for d here each = absurd d
each_does calls P node old new (ReadsShare id offset len) t m (Ok (Some r)) for d here each = each_same P old.buckets new.buckets d.buckets each
each_does calls P node old new (ReadsShare id offset len) t m (Err OutOfMemory) for d here each = each_same P old.buckets new.buckets d.buckets each
each_does calls P node old new (ReadsShare id offset len) t m (Err StoreFault) for d here each = each_same P old.buckets new.buckets d.buckets each
each_does calls P node old new (ReadsShare id offset len) t m (Ok None) for d here each = absurd d

each_message : {S : Type 0} (calls : Calls S) (P : ℕ → Type 0) (node now : ℕ) (old new : ServerState S) (m : Message) (outcome : Outcome) → Serves calls old node m now outcome new → P node
    → EachClient P old.buckets → EachClient P new.buckets
each_message calls P node now old new m outcome serves here each =
    each_does calls P node old new (line_of calls old node m.session m.body) (max old.clock now) m outcome (opens_for calls old node m.session m.body) serves.does here each

each_message_of_all : {S : Type 0} (calls : Calls S) (P : ℕ → Type 0) (node now : ℕ) (old new : ServerState S) (ms : List Message) (outcomes : List Outcome) → ServesAll calls node now old ms outcomes new → P node
    → EachClient P old.buckets → EachClient P new.buckets
each_message_of_all {S} calls P node now old new [] [] all here each = subst (λ (s : ServerState S). EachClient P s.buckets) (sym all) each
each_message_of_all calls P node now old new [] (o ∷ outcomes) all here each = absurd all
each_message_of_all calls P node now old new (m ∷ ms) [] all here each = absurd all
each_message_of_all calls P node now old new (m ∷ ms) (o ∷ outcomes) all here each =
    each_message_of_all calls P node now all.0 new ms outcomes all.3 here (each_message calls P node now old all.0 m o all.1 here each)

-- ---- turns

module _ {W S : Type 0} (wires : WireCalls W) (calls : Calls S) where
  each_turn : (P : ℕ → Type 0) (node now : ℕ) (old new : ConnectionState W) (before after : ServerState S) → Serving wires calls node now old before new after → P node → EachClient P before.buckets → EachClient P after.buckets
  each_turn P node now old new before after turn here each = each_message_of_all calls P node now before after (given turn.events) turn.outcomes turn.serves here each

  each_unanswered : (P : ℕ → Type 0) (node now : ℕ) (fault : TurnFault) (old : ConnectionState W) (before after : ServerState S) → IsUnanswered calls node now fault old before after → P node
      → EachClient P before.buckets → EachClient P after.buckets
  each_unanswered P node now fault old before after one here each = each_message calls P node now before after one.message one.outcome one.serves here each

  each_end : (P : ℕ → Type 0) (node now : ℕ) (fault : TurnFault) (old : ConnectionState W) (before after : ServerState S) → turns.Ends calls node now fault old before after → P node
      → EachClient P before.buckets → EachClient P after.buckets
  each_end P node now (why.Ended fault) old before after (inl same) here each = subst (λ (s : ServerState S). EachClient P s.buckets) (sym same) each
  each_end P node now (why.Ended fault) old before after (inr one) here each = each_unanswered P node now (why.Ended fault) old before after one here each
  each_end P node now why.OutOfMemory old before after one here each = each_unanswered P node now why.OutOfMemory old before after one here each

  each_broken : (P : ℕ → Type 0) (node now : ℕ) (fault : TurnFault) (old : ConnectionState W) (before after : ServerState S) → BreaksOff wires calls node now fault old before after → P node
      → EachClient P before.buckets → EachClient P after.buckets
  each_broken P node now fault old before after broken here each =
      each_end P node now fault broken.here broken.mid after broken.last here (each_turn P node now old broken.here before broken.mid broken.turn here each)

-- ---- places

module _ {C : Type 0} where
  there_none : (o : Option (Option C)) → o ≡ Some None → IsThere o → ⊥
  there_none o none there = subst IsThere none there

  -- somebody else is there still
  there_still : (clients : List (Option C)) (node n : ℕ) (next : Option C) → (n ≡ node → ⊥) → IsThere (slice_get clients n) → IsThere (slice_get (slice_set clients node next) n)
  there_still clients node n next other there = subst IsThere (sym (get_other clients node n next other)) there

  -- so is everybody where one comes
  there_set : (clients : List (Option C)) (node n : ℕ) (was : Option C) (next : C) → slice_get clients node ≡ Some was → IsThere (slice_get clients n) → IsThere (slice_get (slice_set clients node (Some next)) n)
  there_set clients node n was next at there = by (cases_eq n node)
    where
      by : (n ≡ node) ⊎ (n ≡ node → ⊥) → IsThere (slice_get (slice_set clients node (Some next)) n)
      by (inl same) = subst (λ (k : ℕ). IsThere (slice_get (slice_set clients node (Some next)) k)) (sym same) (subst IsThere (sym (get_set clients node (Some next) was at)) tt)
      by (inr other) = there_still clients node n (Some next) other there

  -- and where nobody was at a place, and is not now
  there_unset : (clients : List (Option C)) (node n : ℕ) → slice_get clients node ≡ Some None → IsThere (slice_get clients n) → IsThere (slice_get (slice_set clients node None) n)
  there_unset clients node n at there = by (cases_eq n node)
    where
      by : (n ≡ node) ⊎ (n ≡ node → ⊥) → IsThere (slice_get (slice_set clients node None) n)
      by (inl same) = absurd (there_none (slice_get clients node) at (subst (λ (k : ℕ). IsThere (slice_get clients k)) same there))
      by (inr other) = there_still clients node n None other there

  abbrev At : List (Option C) → ℕ → Type 0
  At clients n = IsThere (slice_get clients n)

another : (client : ℕ) (b : Bucket) → is_of_another client b ≡ true → (b.client ≡ client → ⊥)
another client b other same =
    let here : (b.client == client) ≡ true = eq-eqb b.client client same in
    let no : not true ≡ true = subst (λ (t : Bool). not t ≡ true) here other in
    absurd cc

module _ {W S : Type 0} (wires : WireCalls W) (calls : Calls S) where
  -- A client is gone, and so are its buckets.
  theirs_without : (clients : List (Option (ClientState W))) (node : ℕ) (s after : ServerState S) → LetsGoOfEnded calls (without_client node s) after → AreTheirs clients s.buckets → AreTheirs (slice_set clients node None) after.buckets
  theirs_without clients node s after goes theirs =
      each_same (At (slice_set clients node None)) (without_client node s).buckets after.buckets goes.buckets
      (each_left (At clients) (At (slice_set clients node None)) (is_of_another node) s.buckets (λ b other there. there_still clients node b.client None (another node b other) there) theirs)

  theirs_cut_off : (clients : List (Option (ClientState W))) (node now : ℕ) (fault : TurnFault) (old : ClientState W) (before after : ServerState S) → slice_get clients node ≡ Some (Some old) → IsCutOff wires calls node now fault old before after
      → AreTheirs clients before.buckets → AreTheirs (slice_set clients node None) after.buckets
  theirs_cut_off clients node now fault old before after at cut theirs =
      theirs_without clients node cut.mid after cut.lets_go
      (each_broken wires calls (At clients) node now fault old.connection before cut.mid cut.turn (subst IsThere (sym at) tt) theirs)

  theirs_turn : (clients : List (Option (ClientState W))) (node now : ℕ) (was next : Option (ClientState W)) (before after : ServerState S) → slice_get clients node ≡ Some was → TurnsTo wires calls node now was before next after
      → AreTheirs clients before.buckets → AreTheirs (slice_set clients node next) after.buckets
  theirs_turn clients node now None next before after at turn theirs =
      subst (λ (o : Option (ClientState W)). AreTheirs (slice_set clients node o) after.buckets) (sym turn.0)
      (subst (λ (s : ServerState S). AreTheirs (slice_set clients node None) s.buckets) (sym turn.1)
      (each_weaker (At clients) (At (slice_set clients node None)) before.buckets (λ n there. there_unset clients node n at there) theirs))
  theirs_turn clients node now (Some old) (Some new) before after at turn theirs =
      each_same (At (slice_set clients node (Some new))) turn.0.buckets after.buckets turn.2.buckets
      (each_weaker (At clients) (At (slice_set clients node (Some new))) turn.0.buckets (λ n there. there_set clients node n (Some old) new at there)
      (each_turn wires calls (At clients) node now old.connection new.connection before turn.0 turn.1.serving (subst IsThere (sym at) tt) theirs))
  theirs_turn clients node now (Some old) None before after at turn theirs = theirs_cut_off clients node now (why.Ended turn.0) old before after at turn.1 theirs

  theirs_at : (node now : ℕ) (old new : List (Option (ClientState W))) (before after : ServerState S) → ServesAt wires calls node now old before new after → AreTheirs old before.buckets → AreTheirs new after.buckets
  theirs_at node now old new before after one theirs =
      subst (λ (cs : List (Option (ClientState W))). AreTheirs cs after.buckets) (sym one.others) (theirs_turn old node now one.was one.next before after one.here one.turn theirs)

  theirs_served : (nodes : List ℕ) (now : ℕ) (old new : List (Option (ClientState W))) (before after : ServerState S) → ServesInTurn wires calls nodes now old before new after → AreTheirs old before.buckets → AreTheirs new after.buckets
  theirs_served [] now old new before after same theirs =
      subst (λ (cs : List (Option (ClientState W))). AreTheirs cs after.buckets) (sym same.0) (subst (λ (s : ServerState S). AreTheirs old s.buckets) (sym same.1) theirs)
  theirs_served (node ∷ nodes) now old new before after all theirs =
      theirs_served nodes now all.0 new all.1.0 after all.1.2 (theirs_at node now old all.0 before all.1.0 all.1.1 theirs)

  theirs_failed : (nodes : List ℕ) (now : ℕ) (old new : List (Option (ClientState W))) (before after : ServerState S) → FailsInTurn wires calls nodes now old before new after → AreTheirs old before.buckets → AreTheirs new after.buckets
  theirs_failed [] now old new before after f theirs = absurd f
  theirs_failed (node ∷ nodes) now old new before after (inl one) theirs =
      subst (λ (cs : List (Option (ClientState W))). AreTheirs cs after.buckets) (sym one.others) (theirs_cut_off old node now why.OutOfMemory one.was before after one.here one.turn theirs)
  theirs_failed (node ∷ nodes) now old new before after (inr then) theirs =
      theirs_failed nodes now then.0 new then.1.0 after then.1.2 (theirs_at node now old then.0 before then.1.0 then.1.1 theirs)

  theirs_left : (nodes : List ℕ) (old new : List (Option (ClientState W))) (before after : ServerState S) → LeaveInTurn calls nodes old before new after → AreTheirs old before.buckets → AreTheirs new after.buckets
  theirs_left [] old new before after same theirs =
      subst (λ (cs : List (Option (ClientState W))). AreTheirs cs after.buckets) (sym same.0) (subst (λ (s : ServerState S). AreTheirs old s.buckets) (sym same.1) theirs)
  theirs_left (node ∷ nodes) old new before after all theirs =
      theirs_left nodes all.0 new all.1.0 after all.1.2
      (subst (λ (cs : List (Option (ClientState W))). AreTheirs cs all.1.0.buckets) (sym all.1.1.others) (theirs_without old node before all.1.0 all.1.1.server theirs))

  pub stay_theirs : StayTheirs wires calls
  stay_theirs = record {
    served = theirs_served;
    failed = theirs_failed;
    left = theirs_left;
    come = λ node client clients buckets at theirs.
        each_weaker (At clients) (At (slice_set clients node (Some client))) buckets (λ n there. there_set clients node n None client at there) theirs;
    ticked = λ now clients before after ticks theirs.
        each_same (At clients) (filter (is_fresh_at (max before.clock now)) before.buckets) after.buckets ticks.after.buckets (each_kept (At clients) (is_fresh_at (max before.clock now)) before.buckets theirs);
  }

-- What was answered stays, whatever comes.
use Rattle.std.proofs.Common.{◌≡◌, ℕ, List, [], ◌∷◌, ◌++◌, length, Some, Contains, refl, sym, subst, ap, ◌∙◌, inl, inr}
use Rattle.std.specs.Prelude.{slice_get, slice_set}
use Rattle.std.proofs.lemmas.List.{append_assoc}
use Rattle.std.proofs.lemmas.List.Elements.{Contains-append_left}
use Rattle.placement.specs.Matching.{Pair}
use Rattle.request_record.specs.declared.requests.Request.{Request}
use Rattle.share_store.specs.Memory.{MemoryState}
use Rattle.server_core.specs.ServerState.{ServerState}
use Rattle.server_core.specs.Sound.{ClosedStay}
use Rattle.upload_core.specs.declared.status.UploadStatus.TheVariants.{Happy}
use Rattle.tagged_hash.specs.Clash.{HasNoClashIn}
use Rattle.download_segments.specs.declared.piece.Piece.{Piece}
use Rattle.download_shares.specs.declared.holding.Blame.{Blame}
use Rattle.download_core.specs.declared.status.DownloadStatus.{DownloadStatus}
use Rattle.world_operations.specs.declared.message.Sent.{Sent}
use Rattle.world_operations.specs.declared.operation.Operation.{Operation}
use Rattle.world_operations.specs.declared.task.Task.{Task}
use Rattle.world_operations.specs.declared.task.Task.TheVariants.{Uploading, Downloading, Checking, Gone}
use Rattle.request_record.specs.Follow.{Said, StillAsks}
use Rattle.world_operations.specs.Follow.{Moves}
use Rattle.world_operations.specs.Given.{IsHashedBy, IsTestedBy}
use Rattle.world_operations.specs.declared.job.Job.{Job}
use Rattle.world_operations.specs.Jobs.{HasOneKey, Uploads}
use Rattle.world_operations.specs.Tasks.{HasBlamed, HasEnded, HasShares, IsHappyTask, requests_of}
use Rattle.world_operations.specs.declared.upload_pieces.UploadPieces.TheVariants.{Whole}
use Rattle.world_operations.proofs.Positions.{append_none, get_push_old, get_set_back, member_at, position_of_member, same_some}
use Rattle.world.specs.State.{WorldState}
use Rattle.world.specs.Step.{with_life}
use Rattle.world.specs.Headline.{IsHashed, closed, downloaded, started}
use Rattle.world.specs.Later.{IsGone, IsLater, NothingClashedBefore, StaysAt}
use Rattle.world.specs.Repairs.{IsHashedInAll, repaired, told}
use Rattle.world.specs.Started.{IsHashedOrTested, hashed, tested}
use Rattle.world.proofs.Lives.{HaveOtherLives}
use Rattle.world.proofs.Happy.{Up}

-- ---- operations

-- what was handed out stays, and a Happy upload stays Happy
pub record GrowsAs (old new : Operation) : Type 0 where
  pub node : new.node ≡ old.node
  pub job : new.job ≡ old.job
  pub sent_before : new.sent_before ≡ old.sent_before
  pub gone : IsGone old.task → IsGone new.task
  pub asked : (position : ℕ) (r : Request) → slice_get (requests_of old.task).entries position ≡ Some r → StillAsks (requests_of new.task).entries position r
  pub ended : (status : DownloadStatus) → HasEnded old.task status → HasEnded new.task status
  pub blamed : (position : ℕ) (b : Blame) → HasBlamed old.task position b → HasBlamed new.task position b
  pub hashed : (input : List ℕ) → IsHashedBy old.task input → IsHashedBy new.task input
  pub tested : (input : List ℕ) → IsTestedBy old.task input → IsTestedBy new.task input
  pub happy : (pairs : List Pair) → IsHappyTask old.task pairs → IsHappyTask new.task pairs
  pub shares : (these : List (List ℕ)) → HasShares old.task these → HasShares new.task these
  pub pieces : List Piece
  pub given : new.given ≡ old.given ++ pieces

abbrev pub AllGrow : List Operation → List Operation → Type 0
AllGrow old new = (i : ℕ) (op : Operation) → slice_get old i ≡ Some op → (next : Operation) × (slice_get new i ≡ Some next) × GrowsAs op next

still_asks : (task : Task) (position : ℕ) (r : Request) → slice_get (requests_of task).entries position ≡ Some r → StillAsks (requests_of task).entries position r
still_asks task position r at = record { request = r; at = at; server = refl; asked = refl; answered = λ said e. e }

same_operation : (op : Operation) → GrowsAs op op
same_operation op = record {
  node = refl;
  job = refl;
  sent_before = refl;
  gone = λ h. h;
  asked = λ position r at. still_asks op.task position r at;
  ended = λ status h. h;
  blamed = λ position b h. h;
  hashed = λ input h. h;
  tested = λ input h. h;
  happy = λ pairs h. h;
  shares = λ these h. h;
  pieces = [];
  given = sym (append_none op.given);
}

pub none_grow : (operations : List Operation) → AllGrow operations operations
none_grow operations i op at = (op, at, same_operation op)

pub one_grows : (operations : List Operation) (number : ℕ) (old new : Operation) → slice_get operations number ≡ Some old → GrowsAs old new → AllGrow operations (slice_set operations number new)
one_grows operations number old new at g i op e = elim (get_set_back operations number i op new e) [
  | inl h ↦ (let same : old ≡ op = same_some old op (sym at ∙ ap (slice_get operations) (sym h.0) ∙ e) in
      (new, h.1, subst (λ (o : Operation). GrowsAs o new) same g))
  | inr h ↦ (op, h, same_operation op)
]

pub lives_grow : (old new : List Operation) → HaveOtherLives old new → AllGrow old new
lives_grow old new h i op e = (let f = h.on i op e in (
  with_life f.0 op,
  f.1,
  record {
    node = refl;
    job = refl;
    sent_before = refl;
    gone = λ k. k;
    asked = λ position r at. still_asks op.task position r at;
    ended = λ status k. k;
    blamed = λ position b k. k;
    hashed = λ input k. k;
    tested = λ input k. k;
    happy = λ pairs k. k;
    shares = λ these k. k;
    pieces = [];
    given = sym (append_none op.given);
  },
))

pub one_more : (operations : List Operation) (new : Operation) → AllGrow operations (operations ++ new ∷ [])
one_more operations new i op e = (op, get_push_old operations i op new e, same_operation op)

pub moves_grow : (New : Said) (old new : Operation) (before after : List Sent) → Moves New old new before after → GrowsAs old new
moves_grow New old new before after m =
    let goes = m.task.goes in
    record {
      node = m.same.node;
      job = m.same.job;
      sent_before = m.same.sent_before;
      gone = λ h. (h.0, goes.gone h.0 h.1);
      asked = λ position r at. goes.follows.keeps position r at;
      ended = goes.ended;
      blamed = goes.blamed;
      hashed = goes.hashed;
      tested = goes.tested;
      happy = goes.happy;
      shares = goes.shares;
      pieces = m.same.pieces;
      given = m.same.given;
    }

pub moves_send : (New : Said) (old new : Operation) (before after : List Sent) → Moves New old new before after → (more : List Sent) × (after ≡ before ++ more)
moves_send New old new before after m = (m.task.more, m.task.appended)

-- ---- servers

abbrev pub AllStay : List (ServerState MemoryState) → List (ServerState MemoryState) → Type 0
AllStay old new = (node : ℕ) (m : ServerState MemoryState) → slice_get old node ≡ Some m → (n : ServerState MemoryState) × (slice_get new node ≡ Some n) × ClosedStay m.store.shelf n.store.shelf

pub none_change : (servers : List (ServerState MemoryState)) → AllStay servers servers
none_change servers node m at = (m, at, λ id c e. e)

pub one_stays : (servers : List (ServerState MemoryState)) (node : ℕ) (old new : ServerState MemoryState) → slice_get servers node ≡ Some old → ClosedStay old.store.shelf new.store.shelf
    → AllStay servers (slice_set servers node new)
one_stays servers node old new at stays j m e = elim (get_set_back servers node j m new e) [
  | inl h ↦ (let same : old ≡ m = same_some old m (sym at ∙ ap (slice_get servers) (sym h.0) ∙ e) in
      (new, h.1, subst (λ (x : ServerState MemoryState). ClosedStay x.store.shelf new.store.shelf) same stays))
  | inr h ↦ (m, h, λ id c f. f)
]

-- ---- worlds

record IsHappyUpload (t : Task) (pairs : List Pair) : Type 0 where
  pub upload : Up
  pub task : t ≡ Uploading upload
  pub status : upload.course.status ≡ Happy pairs

happy_upload : (t : Task) (pairs : List Pair) → IsHappyTask t pairs → IsHappyUpload t pairs
happy_upload (Uploading u) pairs h = record { upload = u; task = refl; status = h }
happy_upload (Downloading d) pairs h = absurd h
happy_upload (Checking c) pairs h = absurd h
happy_upload (Gone number) pairs h = absurd h

-- it is an upload of these shares
record IsUploadWith (t : Task) (shares : List (List ℕ)) : Type 0 where
  pub upload : Up
  pub task : t ≡ Uploading upload
  pub pieces : upload.pieces ≡ Whole shares

upload_with : (t : Task) (shares : List (List ℕ)) → HasShares t shares → IsUploadWith t shares
upload_with (Uploading u) shares h = record { upload = u; task = refl; pieces = h }
upload_with (Downloading d) shares h = absurd h
upload_with (Checking c) shares h = absurd h
upload_with (Gone number) shares h = absurd h

hashed_later : (old new : WorldState) → AllStay old.servers new.servers → AllGrow old.operations new.operations → (input : List ℕ) → IsHashed old input → IsHashed new input
hashed_later old new servers operations input (started op file secret p among uploads one_key of) =
    let at = position_of_member old.operations op among in
    let f = operations at.0 op at.1 in
    started f.0 file secret p (member_at new.operations at.0 f.0 f.1) (subst (λ (j : Job). Uploads j file secret p) (sym f.2.job) uploads) (subst HasOneKey (sym f.2.job) one_key) of
hashed_later old new servers operations input (downloaded op among by) =
    let at = position_of_member old.operations op among in
    let f = operations at.0 op at.1 in
    downloaded f.0 (member_at new.operations at.0 f.0 f.1) (f.2.hashed input by)
hashed_later old new servers operations input (closed m among of) =
    let at = position_of_member old.servers m among in
    let f = servers at.0 m at.1 in
    closed f.0 (member_at new.servers at.0 f.0 f.1) record { id = of.id; share = of.share; found = f.2 of.id of.share of.found; is = of.is }

tested_later : (old new : WorldState) → AllStay old.servers new.servers → AllGrow old.operations new.operations → (input : List ℕ) → IsHashedOrTested old input → IsHashedOrTested new input
tested_later old new servers operations input (hashed h) = hashed (hashed_later old new servers operations input h)
tested_later old new servers operations input (tested op among by) =
    let at = position_of_member old.operations op among in
    let f = operations at.0 op at.1 in
    tested f.0 (member_at new.operations at.0 f.0 f.1) (f.2.tested input by)

made_later : (old new : WorldState) → AllStay old.servers new.servers → AllGrow old.operations new.operations → (input : List ℕ) → IsHashedInAll old input → IsHashedInAll new input
made_later old new servers operations input (told h) = told (hashed_later old new servers operations input h)
made_later old new servers operations input (repaired op among by) =
    let at = position_of_member old.operations op among in
    let f = operations at.0 op at.1 in
    let t = upload_with f.0.task by.shares (f.2.shares by.shares (subst (λ (k : Task). HasShares k by.shares) (sym by.task) by.shares_are)) in
    repaired f.0 (member_at new.operations at.0 f.0 f.1) record {
      cap = by.cap;
      happy = by.happy;
      upload = t.upload;
      job = f.2.job ∙ by.job;
      task = t.task;
      shares = by.shares;
      shares_are = t.pieces;
      hashed = by.hashed;
    }

stays_on : (b c : WorldState) → AllGrow b.operations c.operations → (number : ℕ) (old : Operation) → StaysAt b number old → StaysAt c number old
stays_on b c grow number old s =
    let f = grow number s.operation s.at in record {
      operation = f.0;
      at = f.1;
      node = f.2.node ∙ s.node;
      job = f.2.job ∙ s.job;
      sent_before = f.2.sent_before ∙ s.sent_before;
      gone = λ h. f.2.gone (s.gone h);
      asked = λ position r at.
          let still = s.asked position r at in
          let later = f.2.asked position still.request still.at in
          record {
            request = later.request;
            at = later.at;
            server = later.server ∙ still.server;
            asked = later.asked ∙ still.asked;
            answered = λ said e. later.answered said (still.answered said e);
          };
      ended = λ status h. f.2.ended status (s.ended status h);
      blamed = λ position b h. f.2.blamed position b (s.blamed position b h);
    }

pub later_from : (old new : WorldState) → AllStay old.servers new.servers → AllGrow old.operations new.operations → ((more : List Sent) × (new.sent ≡ old.sent ++ more))
    → (length new.servers ≡ length old.servers) × (length new.heard ≡ length old.heard) → IsLater old new
later_from old new servers operations sent nodes = record {
  hashed = hashed_later old new servers operations;
  tested = tested_later old new servers operations;
  made = made_later old new servers operations;
  operations = λ number operation s. stays_on old new operations number operation s;
  given = λ cap position byte g.
      let f = operations g.number g.operation g.at in record {
        number = g.number;
        operation = f.0;
        from = g.from;
        to = g.to;
        piece = g.piece;
        offset = g.offset;
        at = f.1;
        job = f.2.job ∙ g.job;
        handed_out = subst (λ (l : List Piece). Contains l g.piece) (sym f.2.given) (Contains-append_left g.operation.given f.2.pieces g.piece g.handed_out);
        position_is = g.position_is;
        byte_is = g.byte_is;
      };
  uploaded = λ file secret p pairs up.
      let f = operations up.number up.operation up.upload_of.at in
      let happy : IsHappyTask up.operation.task pairs = subst (λ (t : Task). IsHappyTask t pairs) (sym up.upload_of.task) up.status in
      let t = happy_upload f.0.task pairs (f.2.happy pairs happy) in record {
        number = up.number;
        operation = f.0;
        upload = t.upload;
        upload_of = record { at = f.1; uploads = subst (λ (j : Job). Uploads j file secret p) (sym f.2.job) up.upload_of.uploads; task = t.task };
        status = t.status;
      };
  repaired = λ cap happy shares pairs r.
      let f = operations r.number r.operation r.repair_of.at in
      let happy_task : IsHappyTask r.operation.task pairs = subst (λ (t : Task). IsHappyTask t pairs) (sym r.repair_of.task) r.status in
      let t = happy_upload f.0.task pairs (f.2.happy pairs happy_task) in record {
        number = r.number;
        operation = f.0;
        upload = t.upload;
        repair_of = record { at = f.1; job = f.2.job ∙ r.repair_of.job; task = t.task };
        shares_are = subst (λ (k : Task). HasShares k shares) t.task (f.2.shares shares (subst (λ (k : Task). HasShares k shares) (sym r.repair_of.task) r.shares_are));
        status = t.status;
      };
  kept = λ server index share bytes k.
      let f = servers server k.machine k.at in record {
        machine = f.0;
        closed = k.closed;
        at = f.1;
        found = f.2 (record { index = index; share = share }) k.closed k.found;
        bytes_are = k.bytes_are;
      };
  more = sent.0;
  sent = sent.1;
  honest = nodes.0;
  liars = nodes.1;
}

pub no_more : (sent : List Sent) → (more : List Sent) × (sent ≡ sent ++ more)
no_more sent = ([], sym (append_none sent))

pub same_world : (w : WorldState) → IsLater w w
same_world w = later_from w w (none_change w.servers) (none_grow w.operations) (no_more w.sent) (refl, refl)

pub later_still : (a b c : WorldState) → IsLater a b → IsLater b c → IsLater a c
later_still a b c f g = record {
  hashed = λ input h. g.hashed input (f.hashed input h);
  tested = λ input h. g.tested input (f.tested input h);
  made = λ input h. g.made input (f.made input h);
  operations = λ number operation s. g.operations number operation (f.operations number operation s);
  given = λ cap position byte x. g.given cap position byte (f.given cap position byte x);
  uploaded = λ file secret p pairs x. g.uploaded file secret p pairs (f.uploaded file secret p pairs x);
  repaired = λ cap happy shares pairs x. g.repaired cap happy shares pairs (f.repaired cap happy shares pairs x);
  kept = λ server index share bytes x. g.kept server index share bytes (f.kept server index share bytes x);
  more = f.more ++ g.more;
  sent = g.sent ∙ ap (λ (l : List Sent). l ++ g.more) f.sent ∙ append_assoc a.sent f.more g.more;
  honest = g.honest ∙ f.honest;
  liars = g.liars ∙ f.liars;
}

-- no clash among more inputs is none among fewer
fewer_clash : (Few Many : List ℕ → Type 0) → ((input : List ℕ) → Few input → Many input) → HasNoClashIn Many → HasNoClashIn Few
fewer_clash Few Many more none first second one other same = none first second (more first one) (more second other) same

pub nothing_clashed_before : (old new : WorldState) → IsLater old new → NothingClashedBefore old new
nothing_clashed_before old new later = record {
  hashed = fewer_clash (IsHashed old) (IsHashed new) later.hashed;
  tested = fewer_clash (IsHashedOrTested old) (IsHashedOrTested new) later.tested;
  made = fewer_clash (IsHashedInAll old) (IsHashedInAll new) later.made;
}

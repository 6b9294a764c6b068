-- Without a clash enough shares that honest nodes told are found: what one told it tells again to each operation that begins later.
use Rattle.std.proofs.Common.{◌≡◌, ℕ, ◌+◌, ◌<◌, ◌≤◌, List, [], true, false, length, take, drop, Some, slice_index_or, refl, sym, subst, ap, ◌∙◌, arith}
use Rattle.std.specs.Prelude.{slice_get}
use Rattle.std.specs.List.{range_with_len}
use Rattle.lemmas.proofs.Ranges.{range_has}
use Rattle.tagged_hash.specs.TaggedHash.{share_digest, tagged_hash}
use Rattle.tagged_hash.specs.declared.tag.Tag.TheVariants.{WholeShare}
use Rattle.cap_text.specs.Cap.{ReadCapValue, VerifyCapValue, verify_cap_of}
use Rattle.wire.specs.declared.message.Body.{Body}
use Rattle.wire.specs.declared.message.Body.TheVariants.{Ask, Data, Have, NoShare, Read}
use Rattle.wire.specs.declared.message.Message.{Message}
use Rattle.wire.specs.declared.message.ShareId.{ShareId}
use Rattle.wire.specs.Frames.{IsBodyOf}
use Rattle.placement.specs.Matching.{Pair}
use Rattle.proved_parts.proofs.Segments.{data_agrees_in}
use Rattle.request_record.specs.declared.requests.Asked.{Asked}
use Rattle.request_record.specs.declared.requests.Asked.TheVariants.{Holdings, Reading}
use Rattle.request_record.specs.declared.requests.Outcome.TheVariants.{Answered}
use Rattle.request_record.specs.declared.requests.Request.{Request}
use Rattle.request_record.specs.Asking.{Spells}
use Rattle.request_record.specs.Record.{fits}
use Rattle.share_store.specs.Memory.{MemoryState}
use Rattle.share_store.specs.Shelf.{Shelf, closed_at}
use Rattle.share_store.specs.declared.shelf.ClosedShare.{ClosedShare}
use Rattle.server_core.specs.ServerState.{ServerState}
use Rattle.server_core.specs.Sound.{Tells, is_request}
use Rattle.file_encoding.specs.Encoding.{ciphertext_encoding, encoding_of}
use Rattle.file_encoding.specs.Params.{UploadParameters, parameters_of}
use Rattle.file_encoding.proofs.Encodable.{length-shares}
use Rattle.file_encoding.proofs.OwnShares.{file_shares_pass}
use Rattle.file_upload.specs.Prepared.{prepared_of}
use Rattle.upload_core.specs.State.{Goal}
use Rattle.share_verify.specs.Verify.{IsSoundShare}
use Rattle.download_core.specs.State.{DownloadState}
use Rattle.checker.specs.State.{CheckState}
use Rattle.checker.specs.declared.status.CheckStatus.TheVariants.{Done}
use Rattle.answer_laws.specs.Enough.Answers.{Lists, TellsShare}
use Rattle.answer_laws.specs.Enough.Checks as checks
use Rattle.answer_laws.specs.Enough.Downloads as downloads
use Rattle.answer_laws.specs.Enough.Servers.{TellsAll}
use Rattle.answer_laws.proofs.Enough.Checks.{told_shares_are_good}
use Rattle.answer_laws.proofs.Enough.Downloads.{enough_found}
use Rattle.world_operations.specs.declared.message.Sent.{Sent}
use Rattle.world_operations.specs.declared.operation.Operation.{Operation}
use Rattle.world_operations.specs.declared.task.Task.{Task}
use Rattle.world_operations.specs.Asked.{HasAsked}
use Rattle.world_operations.specs.Tasks.{IsRightTask, index_of, requests_of}
use Rattle.world_operations.proofs.Positions.{get_below, position_of_member, same_some}
use Rattle.world.specs.Binding.{KeepersAreNotBlamed, ToldOther}
use Rattle.world.specs.Consistent.{IsConsistent, IsRequestOf, without_bytes}
use Rattle.world.specs.Enough.{AreConfirmed, ConfirmedAreGood, EnoughAreFound, IsConfirmed, WasTold}
use Rattle.world.specs.Headline.{goal}
use Rattle.world.specs.History.{HasHistory}
use Rattle.world.specs.Started.{HasNoClashInTests, IsCheckOf, IsDownloadOf, IsHashedOrTested, IsStarted, hashed}
use Rattle.world.specs.State.{WorldState}
use Rattle.answer_laws.proofs.Servers.Acknowledged as acked
use Rattle.world.proofs.Alike.{closed_answers, closed_asks, request_by, told_alike}
use Rattle.world.proofs.Binding as binding
use Rattle.world.proofs.Hashed.{encoding_among, share_among}
use Rattle.world.proofs.Keep.{share_hashed}

abbrev Server : Type 0
Server = ServerState MemoryState

-- ---- an answer tells how its server stood

-- what an answer tells of a server that stood so, to a request that asks this
record IsToldAt (s : Shelf) (index : List ℕ) (asks : Asked) (said : Body) : Type 0 where
  pub request : Message
  pub spelled : Spells index asks request.body
  pub tells : TellsAll s request.body said

module _ (w : WorldState) (c : IsConsistent w) (node : ℕ) (m : Server) (at : slice_get w.servers node ≡ Some m) where
  abbrev history : HasHistory w.sent node m
  history = c.history node m at

  told_at : (moment : ℕ) (x : Sent) (answer : Message) (op : Operation) (position : ℕ) (r : Request) → slice_get w.sent moment ≡ Some x → x.from ≡ node → IsBodyOf answer x.body → is_request answer.body ≡ false
      → slice_get w.operations answer.session ≡ Some op → x.to ≡ op.node → slice_get (requests_of op.task).entries position ≡ Some r → answer.number ≡ position + 1
      → IsToldAt (history.shelf_at moment) (index_of op.task) r.asked answer.body
  told_at moment x answer op position r there from spelled kind at_op to entry number =
      let a = history.answers moment x answer there from spelled kind in
      let fine = c.fine answer.session op at_op in
      let honest : a.frame.from < length w.servers = subst (λ (n : ℕ). n < length w.servers) (sym (a.from ∙ to)) fine.node in
      let recorded = c.recorded a.frame a.request a.was_sent honest a.spelled a.answers.asked in
      let same : recorded.operation ≡ op = same_some recorded.operation op (sym recorded.at ∙ ap (slice_get w.operations) (sym a.answers.session) ∙ at_op) in
      let own : IsRequestOf op a.frame a.request = subst (λ (o : Operation). IsRequestOf o a.frame a.request) same recorded.request in
      let by = request_by op a.frame a.request position r entry own in
      let here : by.position ≡ position = omega (arith, by.number, number, a.answers.number) in
      let request : by.request ≡ r = same_some by.request r (sym by.entry ∙ ap (λ (n : ℕ). slice_get (requests_of op.task).entries n) here ∙ entry) in
      record {
        request = a.request;
        spelled = subst (λ (q : Request). Spells (index_of op.task) q.asked a.request.body) request by.spelled;
        tells = a.all;
      }

-- ---- what asks, and what answers

spelled_ask : (index : List ℕ) (body : Body) → Spells index Holdings body → body ≡ Ask index
spelled_ask index (Ask i) s = ap Ask s
spelled_ask index _ s = absurd s

spelled_read : (index : List ℕ) (num offset len : ℕ) (body : Body) → Spells index (Reading num offset len) body → body ≡ Read (record { index = index; share = num }) offset len
spelled_read index num offset len (Read id o l) s = ap (λ (i : ShareId). Read i o l) s.0 ∙ ap (λ (n : ℕ). Read (record { index = index; share = num }) n l) s.1 ∙ ap (Read (record { index = index; share = num }) offset) s.2
spelled_read index num offset len _ s = absurd s

list_answers : (said : Body) → fits Holdings said ≡ true → is_request said ≡ false
list_answers (Have readonly held) e = refl
list_answers _ e = absurd cc

read_answers : (num offset len : ℕ) (said : Body) → fits (Reading num offset len) said ≡ true → is_request said ≡ false
read_answers num offset len (Data bytes) e = refl
read_answers num offset len NoShare e = refl
read_answers num offset len _ e = absurd cc

-- ---- a confirmed share is closed from then on

-- the share is closed here, and has these bytes
record IsHeldAt (s : Shelf) (id : ShareId) (bytes : List ℕ) : Type 0 where
  pub share : ClosedShare
  pub found : closed_at id s.closed ≡ Some share
  pub bytes_are : share.bytes ≡ bytes

module _ (w : WorldState) (c : IsConsistent w) (no_clash : HasNoClashInTests w) (file secret : List ℕ) (p : UploadParameters) (s : IsStarted w file secret p) where
  abbrev aim : Goal
  aim = goal file secret p

  abbrev index : List ℕ
  index = aim.cap.storage_index

  abbrev cap : ReadCapValue
  cap = (prepared_of file secret p).cap

  abbrev shares : List (List ℕ)
  shares = (prepared_of file secret p).shares

  abbrev id_of : Pair → ShareId
  id_of pair = record { index = index; share = pair.1 }

  abbrev share_of : Pair → List ℕ
  share_of pair = slice_index_or shares pair.1 []

  held_at : (before : ℕ) (pair : Pair) (k : IsConfirmed w file secret p before pair) (m : Server) (at : slice_get w.servers pair.0 ≡ Some m)
      → IsHeldAt ((c.history pair.0 m at).shelf_at k.told.moment) (id_of pair) (share_of pair)
  held_at before pair k m at =
      let own : List ℕ = share_digest (share_of pair) in
      let h : HasHistory w.sent pair.0 m = c.history pair.0 m at in
      let t : WasTold w before pair.0 (id_of pair) own = k.told in
      let a = h.answers t.moment t.frame t.answer t.was_sent t.from t.spelled (closed_answers (id_of pair) own t.request.body t.answer.body t.tells) in
      let same : without_bytes t.request.body ≡ without_bytes a.request.body =
      c.one_request t.question a.frame t.request a.request t.was_asked a.was_sent (subst (λ (n : ℕ). n < length w.servers) (sym t.asked_by) t.to)
      (subst (λ (n : ℕ). n < length w.servers) (sym a.from) t.to) t.request_spelled a.spelled (closed_asks (id_of pair) own t.request.body t.answer.body t.tells) a.answers.asked
      (sym t.session ∙ a.answers.session) (sym t.number ∙ a.answers.number) in
      let closed = acked.closed_by (id_of pair) (h.shelf_at t.moment) own
      (told_alike (h.shelf_at t.moment) (id_of pair) own t.request.body a.request.body t.answer.body same t.tells a.answers.tells) in
      let now : closed_at (id_of pair) m.store.shelf.closed ≡ Some closed.share = h.last t.moment (id_of pair) closed.share closed.found in
      let low : pair.1 < length shares = subst (λ (n : ℕ). pair.1 < n) (sym (length-shares file secret (parameters_of p))) k.share in
      let right : closed.share.digest ≡ tagged_hash WholeShare closed.share.bytes = (c.sound pair.0 m at).right.digests (id_of pair) closed.share now in
      record {
        share = closed.share;
        found = closed.found;
        bytes_are =
            data_agrees_in (IsHashedOrTested w) no_clash WholeShare closed.share.bytes (share_of pair)
            (hashed (share_among w pair.0 m (id_of pair) closed.share at now))
            (hashed (encoding_among w s.number s.operation file secret p _ s.at s.uploads s.one_key (share_hashed file secret p pair.1 low)))
            (sym right ∙ closed.digest_is);
      }

  -- ---- and is told to each operation that begins later

  module _ (number : ℕ) (op : Operation) (at_op : slice_get w.operations number ≡ Some op) (about : index_of op.task ≡ index) (pair : Pair) (k : IsConfirmed w file secret p op.sent_before pair) where
    -- an answer to one of its requests, from a server at which the share is closed
    record IsToldLater (asks : Asked) (said : Body) : Type 0 where
      pub shelf : Shelf
      pub held : IsHeldAt shelf (id_of pair) (share_of pair)
      pub told : IsToldAt shelf index asks said

    told_later : (position : ℕ) (request : Request) (said : Body) → slice_get (requests_of op.task).entries position ≡ Some request → request.server ≡ pair.0 → request.outcome ≡ Answered said
        → (fits request.asked said ≡ true → is_request said ≡ false) → IsToldLater request.asked said
    told_later position request said there of_server answer answers =
        let server = get_below w.servers pair.0 k.honest in
        let m : Server = server.0 in
        let at : slice_get w.servers pair.0 ≡ Some m = server.1 in
        let h : HasHistory w.sent pair.0 m = c.history pair.0 m at in
        let fine = c.fine number op at_op in
        let came = fine.answers position request said there answer in
        let from : came.frame.from ≡ pair.0 = sym came.says.server_is ∙ of_server in
        let sent = position_of_member w.sent came.frame came.was_sent in
        let kind : is_request came.answer.body ≡ false = ap is_request came.says.body_is ∙ answers came.says.fitting in
        let at_session : slice_get w.operations came.answer.session ≡ Some op = ap (slice_get w.operations) came.says.session_is ∙ at_op in
        let told = told_at w c pair.0 m at sent.0 came.frame came.answer op position request sent.1 from came.spelled kind at_session came.to there came.says.number_is in
        let begun : op.sent_before ≤ sent.0 = c.after sent.0 came.frame came.answer op sent.1 (subst (λ (n : ℕ). n < length w.servers) (sym from) k.honest)
        (subst (λ (n : ℕ). n < length w.servers) (sym came.to) fine.node) came.spelled kind at_session in
        let early : k.told.moment < op.sent_before = k.told.early in
        let held = held_at op.sent_before pair k m at in
        record {
          shelf = h.shelf_at sent.0;
          held = record { share = held.share; found = h.stays k.told.moment sent.0 (omega (arith, early, begun)) (id_of pair) held.share held.found; bytes_are = held.bytes_are };
          told = subst (λ (b : Body). IsToldAt (h.shelf_at sent.0) index request.asked b) came.says.body_is
              (subst (λ (i : List ℕ). IsToldAt (h.shelf_at sent.0) i request.asked came.answer.body) about told);
        }

    told_list : (said : Body) → IsToldLater Holdings said → Lists said pair.1
    told_list said t =
        let lists = t.told.tells.lists index (spelled_ask index t.told.request.body t.told.spelled) in
        let low : pair.1 < p.total = k.share in
        let few = (binding.shape w c no_clash file secret p s).file.shares in
        (t.held.share.digest, lists.each (id_of pair) t.held.share refl (omega (arith, low, few)) t.held.found)

    told_read : (offset len : ℕ) (said : Body) → IsToldLater (Reading pair.1 offset len) said → said ≡ Data (take len (drop offset (share_of pair)))
    told_read offset len said t =
        t.told.tells.brings (id_of pair) offset len (spelled_read index pair.1 offset len t.told.request.body t.told.spelled) t.held.share t.held.found
        ∙ ap (λ (b : List ℕ). Data (take len (drop offset b))) t.held.bytes_are

    tells_share : TellsShare (requests_of op.task).entries pair.0 pair.1 (share_of pair)
    tells_share = record {
      lists = λ position request said there of_server asks answer.
          told_list said (subst (λ (a : Asked). IsToldLater a said) asks
          (told_later position request said there of_server answer (λ e. list_answers said (ap (λ (a : Asked). fits a said) (sym asks) ∙ e))));
      reads = λ position offset len request said there of_server asks answer.
          told_read offset len said (subst (λ (a : Asked). IsToldLater a said) asks
          (told_later position request said there of_server answer (λ e. read_answers pair.1 offset len said (ap (λ (a : Asked). fits a said) (sym asks) ∙ e))));
    }

  -- ---- downloads

  needed_is : cap.needed ≡ p.needed
  unfolding encoding_of ciphertext_encoding
  needed_is = refl

  total_is : cap.total ≡ p.total
  unfolding encoding_of ciphertext_encoding
  total_is = refl

  module _ (d : DownloadState) (of : IsDownloadOf w cap d) where
    asks_each : HasAsked (range_with_len 0 (length w.servers)) of.operation.task
    asks_each = (c.fine of.number of.operation of.at).asked

    about_cap : index_of of.operation.task ≡ index
    about_cap = ap index_of of.task ∙ ap (λ (q : ReadCapValue). (verify_cap_of q).storage_index) of.cap_is

    is_told : (pair : Pair) → IsConfirmed w file secret p of.operation.sent_before pair → downloads.IsTold d shares (range_with_len 0 (length w.servers)) pair
    is_told pair k = record {
      of = range_has 0 (length w.servers) pair.0 (omega arith) (let honest = k.honest in omega (arith, honest));
      low = subst (λ (n : ℕ). pair.1 < n) (sym (ap (λ (q : ReadCapValue). q.total) of.cap_is ∙ total_is)) k.share;
      tells = subst (λ (t : Task). TellsShare (requests_of t).entries pair.0 pair.1 (share_of pair)) of.task (tells_share of.number of.operation of.at about_cap pair k);
    }

    enough : (pairs : List Pair) → AreConfirmed w file secret p of.operation.sent_before pairs → downloads.AreEnough d shares (range_with_len 0 (length w.servers)) pairs
    enough pairs all = record {
      count = all.count ∙ sym (ap (λ (q : ReadCapValue). q.needed) of.cap_is ∙ needed_is);
      different = all.different;
      told = λ pair among. is_told pair (all.each pair among);
    }

  -- ---- checks

  module _ (check : CheckState) (of : IsCheckOf w (verify_cap_of cap) check) (done : check.status ≡ Done) (pair : Pair) (k : IsConfirmed w file secret p of.operation.sent_before pair) where
    about_check : index_of of.operation.task ≡ index
    about_check = ap index_of of.task ∙ ap (λ (q : VerifyCapValue). q.storage_index) of.cap_is

    passes : IsSoundShare check.cap pair.1 (share_of pair)
    passes =
        subst (λ (q : VerifyCapValue). IsSoundShare q pair.1 (share_of pair)) (sym of.cap_is)
        (file_shares_pass file secret (parameters_of p) (binding.shape w c no_clash file secret p s) pair.1 k.share)

    is_told_check : checks.IsTold check (range_with_len 0 (length w.servers)) pair (share_of pair)
    is_told_check =
        let fine = c.fine of.number of.operation of.at in
        let honest = k.honest in
        record {
          right = subst IsRightTask of.task fine.right;
          done = done;
          asks = subst (HasAsked (range_with_len 0 (length w.servers))) of.task fine.asked;
          of = range_has 0 (length w.servers) pair.0 (omega arith) (omega (arith, honest));
          low = subst (λ (n : ℕ). pair.1 < n) (sym (ap (λ (q : VerifyCapValue). q.total) of.cap_is ∙ total_is)) k.share;
          sound = passes;
          tells = subst (λ (t : Task). TellsShare (requests_of t).entries pair.0 pair.1 (share_of pair)) of.task (tells_share of.number of.operation of.at about_check pair k);
        }

pub enough_are_found : (w : WorldState) → IsConsistent w → HasNoClashInTests w → EnoughAreFound w
enough_are_found w c no_clash file secret p d pairs s of all ended =
    enough_found (IsHashedOrTested w) no_clash d (binding.said w c no_clash file secret p s) (prepared_of file secret p).shares (range_with_len 0 (length w.servers)) pairs
    (binding.by_download w c no_clash file secret p s d of) (binding.own_shares w c no_clash file secret p s d of)
    (subst (HasAsked (range_with_len 0 (length w.servers))) of.task (asks_each w c no_clash file secret p s d of)) (enough w c no_clash file secret p s d of pairs all) ended

pub confirmed_are_good : (w : WorldState) → IsConsistent w → HasNoClashInTests w → ConfirmedAreGood w
confirmed_are_good w c no_clash file secret p check r pair s of done report k =
    told_shares_are_good check r (range_with_len 0 (length w.servers)) pair (slice_index_or (prepared_of file secret p).shares pair.1 []) report
    (is_told_check w c no_clash file secret p s check of done pair k)

-- ---- who keeps a share is not blamed for it

pub keepers_are_not_blamed : (w : WorldState) → IsConsistent w → HasNoClashInTests w → KeepersAreNotBlamed w
keepers_are_not_blamed w c no_clash file secret p d i b s of is keeps =
    let index : List ℕ = (goal file secret p).cap.storage_index in
    let share : List ℕ = slice_index_or (prepared_of file secret p).shares b.share [] in
    let id : ShareId = record { index = index; share = b.share } in
    let told : ToldOther w of.number of.operation.node d b.server b.share share = binding.no_false_blame w c no_clash file secret p d i b s of is in
    let a = told.answered in
    let came = told.sent in
    let m : Server = keeps.machine in
    let h : HasHistory w.sent b.server m = c.history b.server m keeps.at in
    let sent = position_of_member w.sent came.frame came.was_sent in
    let from : came.frame.from ≡ b.server = sym came.says.server_is in
    let kind : is_request came.answer.body ≡ false = ap is_request came.says.body_is in
    let at_session : slice_get w.operations came.answer.session ≡ Some of.operation = ap (slice_get w.operations) came.says.session_is ∙ of.at in
    let there : slice_get (requests_of of.operation.task).entries a.position ≡ Some a.request = subst (λ (t : Task). slice_get (requests_of t).entries a.position ≡ Some a.request) (sym of.task) a.there in
    let t = told_at w c b.server m keeps.at sent.0 came.frame came.answer of.operation a.position a.request sent.1 from came.spelled kind at_session came.to there came.says.number_is in
    let about : index_of of.operation.task ≡ index = ap index_of of.task ∙ ap (λ (q : ReadCapValue). (verify_cap_of q).storage_index) of.cap_is in
    let asks : t.request.body ≡ Read id a.offset a.len =
    spelled_read index b.share a.offset a.len t.request.body (subst (λ (x : Asked). Spells index x t.request.body) a.asked (subst (λ (l : List ℕ). Spells l a.request.asked t.request.body) about t.spelled)) in
    let tells : Tells (h.shelf_at sent.0) (Read id a.offset a.len) (Data a.bytes) =
    subst (λ (q : Body). Tells (h.shelf_at sent.0) q (Data a.bytes)) asks (subst (λ (q : Body). Tells (h.shelf_at sent.0) t.request.body q) came.says.body_is t.tells.tells) in
    let now : closed_at id m.store.shelf.closed ≡ Some tells.0 = h.last sent.0 id tells.0 tells.1 in
    let same : tells.0 ≡ keeps.closed = same_some tells.0 keeps.closed (sym now ∙ keeps.found) in
    a.other (tells.2 ∙ ap (λ (x : ClosedShare). take a.len (drop a.offset x.bytes)) same ∙ ap (λ (x : List ℕ). take a.len (drop a.offset x)) keeps.bytes_are)

-- What a consistent world says of repairs: each pair that one names was acknowledged by a message that was sent, its server keeps the share that was made, and that is the file's own.
use Rattle.std.proofs.Common.{◌≡◌, ℕ, ◌+◌, ◌<◌, ◌≤◌, List, [], ◌∷◌, ◌++◌, length, Some, false, slice_index_or, Contains, refl, sym, subst, ap, ◌∙◌, inl, inr, arith}
use Rattle.std.specs.Prelude.{slice_get}
use Rattle.std.proofs.lemmas.List.{ext_get_or, get_or-map, length-map}
use Rattle.std.proofs.lemmas.List.Elements.{All-contains, Contains-append_cases, Contains-append_left, Contains-append_right}
use Rattle.tagged_hash.specs.TaggedHash.{share_digest, tagged_hash, tagged_input}
use Rattle.tagged_hash.specs.declared.tag.Tag.TheVariants.{WholeShare}
use Rattle.tagged_hash.proofs.ClashLemmas.{no_clash_of}
use Rattle.merkle.proofs.InputLemmas.{member_there}
use Rattle.ueb.specs.Shape.{Contents}
use Rattle.share_layout.specs.Share.{Sections}
use Rattle.share_verify.specs.Verify.{IsSound}
use Rattle.cap_text.specs.Cap.{VerifyCapValue, verify_cap_of}
use Rattle.share_verify.specs.Inputs.{share_inputs}
use Rattle.wire.specs.declared.message.Body.{Body}
use Rattle.wire.specs.declared.message.Message.{Message}
use Rattle.wire.specs.declared.message.ShareId.{ShareId}
use Rattle.wire.specs.Frames.{IsBodyOf}
use Rattle.request_record.specs.declared.requests.Outcome.{Outcome}
use Rattle.request_record.specs.declared.requests.Outcome.TheVariants.{Outstanding, Answered, Lost, Unawaited}
use Rattle.request_record.specs.declared.requests.Request.{Request}
use Rattle.request_record.specs.Asking.{Spells}
use Rattle.share_store.specs.Memory.{MemoryState}
use Rattle.server_core.specs.ServerState.{ServerState}
use Rattle.server_core.specs.Sound.{is_request}
use Rattle.placement.specs.Matching.{IsMatching, Pair}
use Rattle.proved_parts.proofs.Segments.{data_agrees_in}
use Rattle.file_encoding.specs.Encoding.{ciphertext_encoding, encoding_of}
use Rattle.file_encoding.specs.Inputs.{encoding_inputs}
use Rattle.file_encoding.specs.Params.{UploadParameters, parameters_of}
use Rattle.file_encoding.proofs.Encodable.{has_shape, length-shares}
use Rattle.file_upload.specs.Prepared.{prepared_of}
use Rattle.upload_core.specs.Acknowledged.{acked_answer, acked_by, acked_outcome, acked_pairs}
use Rattle.upload_core.specs.Right.{IsRight, has_ended}
use Rattle.upload_core.specs.Rounds.{EndsAs, IsHappy}
use Rattle.upload_core.specs.State.{Goal, UploadState}
use Rattle.file_encoding.proofs.Binding.{file_shares_are_bound}
use Rattle.file_upload.specs.Shares.{shares_goal}
use Rattle.world_operations.specs.declared.job.Job.{Job}
use Rattle.world_operations.specs.declared.job.Job.TheVariants.{Repair}
use Rattle.world_operations.specs.declared.message.Sent.{Sent}
use Rattle.world_operations.specs.declared.operation.Operation.{Operation}
use Rattle.world_operations.specs.declared.task.Task.{Task}
use Rattle.world_operations.specs.declared.task.Task.TheVariants.{Uploading}
use Rattle.world_operations.specs.declared.upload_pieces.UploadPieces.TheVariants.{Whole}
use Rattle.world_operations.specs.Jobs.{IsFor, IsRepair, IsUpload}
use Rattle.world_operations.proofs.Uploads.{could_start}
use Rattle.world_operations.specs.Tasks.{IsRightTask, requests_of}
use Rattle.world_operations.proofs.Positions.{get_below, member_at, member_flat_cases, member_none, position_of_member, same_some}
use Rattle.world.specs.State.{WorldState, shelved}
use Rattle.world.specs.Consistent.{IsConsistent}
use Rattle.world.specs.Headline.{Keeps}
use Rattle.world.specs.Repaired.{IsRepairOf}
use Rattle.world.specs.Repairs.{AreTrustedRepairs, HasNoClashInAll, IsHashedInAll, KeepsMade, RepairsAreAcknowledged, RepairsAreMatched, RepairsKeep, RepairsMakeOwn, repaired}
use Rattle.world.specs.Repairs.{told as hashed_too}
use Rattle.answer_laws.proofs.Servers.Acknowledged as acked
use Rattle.world.proofs.Happy.{Up}
use Rattle.world.proofs.Hashed.{encoding_among, share_among}
use Rattle.world.proofs.Contradicting.{repairs_never_contradict}
use Rattle.world.proofs.Told.{IsToldOf, request_of}

-- ---- uploads of shares, whatever they are for

-- an answer that acknowledges a pair for a goal was sent, to a request of this upload
pub record IsAckOf (w : WorldState) (g : Goal) (pair : Pair) (op : Operation) (u : Up) : Type 0 where
  pub frame : Sent
  pub answer : Message
  pub position : ℕ
  pub request : Request
  pub was_sent : Contains w.sent frame
  pub spelled : IsBodyOf answer frame.body
  pub at : slice_get w.operations answer.session ≡ Some op
  pub task : op.task ≡ Uploading u
  pub entry : slice_get u.course.requests.entries position ≡ Some request
  pub number : answer.number ≡ position + 1
  pub from : frame.from ≡ request.server
  pub to : frame.to ≡ op.node
  pub acknowledges : Contains (acked_answer g request.server request.asked answer.body) pair

told : (w : WorldState) → IsConsistent w → (g : Goal) (pair : Pair) (op : Operation) (u : Up) (a : IsAckOf w g pair op u) (m : ServerState MemoryState)
    → slice_get w.servers a.frame.from ≡ Some m → is_request a.answer.body ≡ false → IsToldOf m u.course.goal.cap.storage_index a.request.asked a.answer.body
told w c g pair op u a m at says =
    let j = c.justified a.frame m a.answer a.was_sent at a.spelled says in
    let fine = c.fine a.answer.session op a.at in
    let honest : j.frame.from < length w.servers = subst (λ (n : ℕ). n < length w.servers) (sym (j.from ∙ a.to)) fine.node in
    let r = c.recorded j.frame j.request j.was_sent honest j.spelled j.answers.asked in
    let same : r.operation ≡ op = same_some r.operation op (sym r.at ∙ ap (λ (n : ℕ). slice_get w.operations n) (sym j.answers.session) ∙ a.at) in
    let task : r.operation.task ≡ Uploading u = ap (λ (o : Operation). o.task) same ∙ a.task in
    let by = request_of r.operation u j.frame j.request task r.request in
    let position : by.position ≡ a.position = omega (arith, by.number, a.number, j.answers.number) in
    let request : by.request ≡ a.request = same_some by.request a.request (sym by.entry ∙ ap (λ (n : ℕ). slice_get u.course.requests.entries n) position ∙ a.entry) in
    record {
      request = j.request;
      spelled = subst (λ (q : Request). Spells u.course.goal.cap.storage_index q.asked j.request.body) request by.spelled;
      tells = j.answers.tells;
    }

-- without a clash its server keeps exactly the share, where that was hashed whole
keeps : (w : WorldState) → IsConsistent w → HasNoClashInAll w → (cap : VerifyCapValue) (shares : List (List ℕ)) (pair : Pair) (op : Operation) (u : Up)
    → u.course.goal ≡ shares_goal cap shares → ((n : ℕ) → n < length shares → IsHashedInAll w (tagged_input WholeShare (slice_index_or shares n [])))
    → IsAckOf w (shares_goal cap shares) pair op u → KeepsMade w cap shares pair
keeps w c no_clash cap shares pair op u goal_is hashed a honest =
    let aim : Goal = shares_goal cap shares in
    let by = acked.acked_by aim a.request.server a.request.asked a.answer.body pair a.acknowledges in
    let server = get_below w.servers pair.0 honest in
    let m : ServerState MemoryState = server.0 in
    let at : slice_get w.servers a.frame.from ≡ Some m = ap (slice_get w.servers) (a.from ∙ sym by.server_is) ∙ server.1 in
    let says = told w c aim pair op u a m at (acked.acks_answer a.request.asked a.answer.body pair.1 (slice_index_or aim.digests pair.1 []) by.acks) in
    let index : List ℕ = u.course.goal.cap.storage_index in
    let id : ShareId = record { index = index; share = pair.1 } in
    let digest_told = acked.tells_acked (shelved m).store index a.request.asked says.request.body a.answer.body pair.1 (slice_index_or aim.digests pair.1 []) by.acks says.spelled says.tells in
    let closed = acked.closed_by id m.store.shelf (slice_index_or aim.digests pair.1 []) digest_told in
    let low : pair.1 < length shares = subst (λ (n : ℕ). pair.1 < n) (length-map shares share_digest) by.below in
    let digest : slice_index_or aim.digests pair.1 [] ≡ tagged_hash WholeShare (slice_index_or shares pair.1 []) = get_or-map share_digest shares pair.1 [] [] low in
    let right : closed.share.digest ≡ tagged_hash WholeShare closed.share.bytes = (c.sound pair.0 m server.1).right.digests id closed.share closed.found in
    let bytes : closed.share.bytes ≡ slice_index_or shares pair.1 [] =
    data_agrees_in (IsHashedInAll w) no_clash WholeShare closed.share.bytes (slice_index_or shares pair.1 []) (hashed_too (share_among w pair.0 m id closed.share server.1 closed.found))
    (hashed pair.1 low) (sym right ∙ closed.digest_is ∙ digest) in
    subst (λ (g : Goal). Keeps w pair.0 g.cap.storage_index pair.1 (slice_index_or shares pair.1 [])) goal_is
    record { machine = m; closed = closed.share; at = server.1; found = closed.found; bytes_are = bytes }

answered_by : (g : Goal) (r : Request) (o : Outcome) (pair : Pair) → Contains (acked_outcome g r.server r.asked o) pair
    → (said : Body) × (o ≡ Answered said) × Contains (acked_answer g r.server r.asked said) pair
answered_by g r (Answered said) pair c = (said, refl, c)
answered_by g r Outstanding pair c = absurd (member_none pair c)
answered_by g r Lost pair c = absurd (member_none pair c)
answered_by g r Unawaited pair c = absurd (member_none pair c)

-- an acknowledged pair was acknowledged by a message that was sent
acknowledged : (w : WorldState) → IsConsistent w → (g : Goal) (pair : Pair) (number : ℕ) (op : Operation) (u : Up) → slice_get w.operations number ≡ Some op → op.task ≡ Uploading u
    → Contains (acked_pairs g u.course.requests.entries) pair → (a : IsAckOf w g pair op u) × (a.answer.session ≡ number)
acknowledged w c g pair number op u at task counted =
    let entries : List Request = u.course.requests.entries in
    let found = member_flat_cases (acked_by g) entries pair counted in
    let r : Request = found.0 in
    let position = position_of_member entries r found.1 in
    let said = answered_by g r r.outcome pair found.2 in
    let entry : slice_get (requests_of op.task).entries position.0 ≡ Some r = subst (λ (t : Task). slice_get (requests_of t).entries position.0 ≡ Some r) (sym task) position.1 in
    let came = (c.fine number op at).answers position.0 r said.0 entry said.1 in (
      record {
        frame = came.frame;
        answer = came.answer;
        position = position.0;
        request = r;
        was_sent = came.was_sent;
        spelled = came.spelled;
        at = ap (slice_get w.operations) came.says.session_is ∙ at;
        task = task;
        entry = position.1;
        number = came.says.number_is;
        from = sym came.says.server_is;
        to = came.to;
        acknowledges = subst (λ (b : Body). Contains (acked_answer g r.server r.asked b) pair) (sym came.says.body_is) said.2;
      },
      came.says.session_is,
    )

-- the cap of a file's encoding says how many shares there are
total_is : (file secret : List ℕ) (p : UploadParameters) → (encoding_of file secret (parameters_of p)).cap.total ≡ p.total
unfolding ciphertext_encoding encoding_of
total_is file secret p = refl

-- ---- repairs

for_repair : (w : WorldState) (number : ℕ) (cap : VerifyCapValue) (happy : ℕ) (op : Operation) (u : Up) → IsConsistent w → IsRepairOf w number cap happy op u → IsRepair cap happy u
for_repair w number cap happy op u c of =
    subst (λ (t : Task). IsFor (Repair cap happy) t) of.task (subst (λ (j : Job). IsFor j op.task) of.job (c.fine number op of.at).started)

one_list : (these those : List (List ℕ)) → Whole these ≡ Whole those → these ≡ those
one_list these those e = cc

goal_of_shares : (cap : VerifyCapValue) (happy : ℕ) (u : Up) (shares : List (List ℕ)) → IsRepair cap happy u → u.pieces ≡ Whole shares → u.course.goal ≡ shares_goal cap shares
goal_of_shares cap happy u shares is same = is.goal ∙ ap (shares_goal cap) (one_list is.shares shares (sym is.pieces ∙ same))

repairs_are_matched : (w : WorldState) → IsConsistent w → RepairsAreMatched w
repairs_are_matched w c cap happy shares pairs r =
    let u : UploadState = r.upload.course in
    let is = for_repair w r.number cap happy r.operation r.upload c r.repair_of in
    let right : IsRight u = subst IsRightTask r.repair_of.task (c.fine r.number r.operation r.repair_of.at).right in
    let ends : IsHappy u.goal u.happy u.requests.entries pairs = subst (EndsAs u.goal u.happy u.requests.entries) r.status (right.over (ap has_ended r.status)) in
    record {
      matching = subst (λ (g : Goal). IsMatching (acked_pairs g u.requests.entries) pairs) (goal_of_shares cap happy r.upload shares is r.shares_are) ends.largest.matching;
      enough = subst (λ (n : ℕ). n ≤ length pairs) is.happy_is ends.enough;
    }

repairs_are_acknowledged : (w : WorldState) → IsConsistent w → RepairsAreAcknowledged w
repairs_are_acknowledged w c cap happy shares pairs pair r chosen =
    let entries : List Request = r.upload.course.requests.entries in
    let matched : IsMatching (acked_pairs (shares_goal cap shares) entries) pairs = (repairs_are_matched w c cap happy shares pairs r).matching in
    let counted = All-contains (Contains (acked_pairs (shares_goal cap shares) entries)) pairs pair matched.given chosen in
    let a = acknowledged w c (shares_goal cap shares) pair r.number r.operation r.upload r.repair_of.at r.repair_of.task counted in
    record {
      frame = a.0.frame;
      answer = a.0.answer;
      operation = r.operation;
      upload = r.upload;
      position = a.0.position;
      request = a.0.request;
      was_sent = a.0.was_sent;
      spelled = a.0.spelled;
      repair_of = record { at = a.0.at; job = r.repair_of.job; task = r.repair_of.task };
      shares_are = r.shares_are;
      entry = a.0.entry;
      number = a.0.number;
      from = a.0.from;
      to = a.0.to;
      acknowledges = a.0.acknowledges;
    }

-- what is hashed of a share that was made, by itself and where it is checked
module _ (w : WorldState) (number : ℕ) (cap : VerifyCapValue) (happy : ℕ) (op : Operation) (u : Up) (of : IsRepairOf w number cap happy op u) (is : IsRepair cap happy u)
    (n : ℕ) (low : n < length is.shares) where
  below : n < cap.total
  below = subst (λ (k : ℕ). n < k) is.passing.count low

  hashed_of : (v : Contents) (s : Sections) → IsSound cap n (slice_index_or is.shares n []) v s → (input : List ℕ)
      → Contains (tagged_input WholeShare (slice_index_or is.shares n []) ∷ share_inputs v n s) input → IsHashedInAll w input
  hashed_of v s sound input among = repaired op (member_at w.operations number op of.at) record {
    cap = cap;
    happy = happy;
    upload = u;
    job = of.job;
    task = of.task;
    shares = is.shares;
    shares_are = is.pieces;
    hashed = record { number = n; below = low; contents = v; sections = s; sound = sound; among = among };
  }

  whole_hashed : IsHashedInAll w (tagged_input WholeShare (slice_index_or is.shares n []))
  whole_hashed =
      let sound = is.passing.sound n below in
      hashed_of sound.0 sound.1 sound.2 (tagged_input WholeShare (slice_index_or is.shares n [])) (0, omega arith, refl)

repairs_keep : (w : WorldState) → IsConsistent w → HasNoClashInAll w → RepairsKeep w
repairs_keep w c no_clash cap happy shares pair a =
    let is = for_repair w a.answer.session cap happy a.operation a.upload c a.repair_of in
    let hashed : (n : ℕ) → n < length shares → IsHashedInAll w (tagged_input WholeShare (slice_index_or shares n [])) =
    λ n low.
    let same : is.shares ≡ shares = one_list is.shares shares (sym is.pieces ∙ a.shares_are) in
    subst (λ (these : List (List ℕ)). IsHashedInAll w (tagged_input WholeShare (slice_index_or these n []))) same
    (whole_hashed w a.answer.session cap happy a.operation a.upload a.repair_of is n (subst (λ (these : List (List ℕ)). n < length these) (sym same) low)) in
    keeps w c no_clash cap shares pair a.operation a.upload (goal_of_shares cap happy a.upload shares is a.shares_are) hashed
    record {
      frame = a.frame;
      answer = a.answer;
      position = a.position;
      request = a.request;
      was_sent = a.was_sent;
      spelled = a.spelled;
      at = a.repair_of.at;
      task = a.repair_of.task;
      entry = a.entry;
      number = a.number;
      from = a.from;
      to = a.to;
      acknowledges = a.acknowledges;
    }

repairs_make_own : (w : WorldState) → IsConsistent w → HasNoClashInAll w → RepairsMakeOwn w
repairs_make_own w c no_clash file secret p happy number position started repair upload at uploads one_key of =
    let cap : VerifyCapValue = verify_cap_of (prepared_of file secret p).cap in
    let own : List (List ℕ) = (encoding_of file secret (parameters_of p)).shares in
    let is = for_repair w position cap happy repair upload c of in
    let may : IsUpload file secret p = could_start started.job file secret p started.task uploads (c.fine number started at).started in
    let shape = has_shape (length file) p may.chosen may.not_small may.encodable in
    let count : length own ≡ p.total = length-shares file secret (parameters_of p) in
    let total : cap.total ≡ p.total = total_is file secret p in
    is.pieces ∙ ap Whole (ext_get_or [] is.shares own (is.passing.count ∙ total ∙ sym count) (λ i low.
    let below : i < cap.total = omega (arith, low, is.passing.count) in
    let sound = is.passing.sound i below in
    let inputs : List (List ℕ) = encoding_inputs file secret (parameters_of p) ++ share_inputs sound.0 i sound.1 in
    let all : (input : List ℕ) → Contains inputs input → IsHashedInAll w input =
    λ input k. elim (Contains-append_cases (encoding_inputs file secret (parameters_of p)) (share_inputs sound.0 i sound.1) input k) [
      | inl of_file ↦ hashed_too (encoding_among w number started file secret p input at uploads one_key of_file)
      | inr of_share ↦ hashed_of w position cap happy repair upload of is i low sound.0 sound.1 sound.2 input
          (member_there (tagged_input WholeShare (slice_index_or is.shares i [])) input (share_inputs sound.0 i sound.1) of_share)
    ] in
    file_shares_are_bound inputs (no_clash_of (IsHashedInAll w) inputs no_clash all) file secret (parameters_of p) shape
    (λ input k. Contains-append_left (encoding_inputs file secret (parameters_of p)) (share_inputs sound.0 i sound.1) input k)
    i (slice_index_or is.shares i []) sound.0 sound.1
    record {
      sound = sound.2;
      among = λ input k. Contains-append_right (encoding_inputs file secret (parameters_of p)) (share_inputs sound.0 i sound.1) input k;
    }))

pub repairs_trusted : (w : WorldState) → IsConsistent w → AreTrustedRepairs w
repairs_trusted w c = record {
  repairs_pass = λ cap happy number op u of. (let is = for_repair w number cap happy op u c of in (is.shares, is.pieces, is.passing));
  repairs_are_matched = repairs_are_matched w c;
  repairs_are_acknowledged = repairs_are_acknowledged w c;
  repairs_keep = repairs_keep w c;
  repairs_make_own = repairs_make_own w c;
  repairs_never_contradict = repairs_never_contradict w c;
}

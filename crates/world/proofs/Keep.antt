-- Without a clash an honest server keeps exactly the share that it acknowledged, from the acknowledgement on.
use Rattle.std.proofs.Common.{◌≡◌, ℕ, ◌<◌, List, [], ◌∷◌, length, map, Some, slice_index_or, Contains, refl, sym, subst, ap, ◌∙◌}
use Rattle.std.specs.Prelude.{slice_get}
use Rattle.std.proofs.lemmas.List.{get_or-map, length-map}
use Rattle.std.proofs.lemmas.List.Elements.{All-contains, Contains-append_right, Contains-get_or}
use Rattle.tagged_hash.specs.TaggedHash.{share_digest, tagged_hash, tagged_input}
use Rattle.tagged_hash.specs.declared.tag.Tag.TheVariants.{StorageIndex, WholeShare}
use Rattle.tagged_hash.specs.ConvergentKey.{convergent_key_of, key_input}
use Rattle.aes_ctr.specs.CounterMode.{xored}
use Rattle.share_layout.specs.Geometry.{geometry_of}
use Rattle.wire.specs.declared.message.Body.{Body}
use Rattle.wire.specs.declared.message.ShareId.{ShareId}
use Rattle.request_record.specs.declared.requests.Outcome.{Outcome}
use Rattle.request_record.specs.declared.requests.Outcome.TheVariants.{Outstanding, Answered, Lost, Unawaited}
use Rattle.request_record.specs.declared.requests.Request.{Request}
use Rattle.share_store.specs.Memory.{MemoryState}
use Rattle.server_core.specs.ServerState.{ServerState}
use Rattle.placement.specs.Matching.{IsMatching, Pair}
use Rattle.proved_parts.proofs.Segments.{data_agrees_in}
use Rattle.file_encoding.specs.Encoding.{encoding_of}
use Rattle.file_encoding.specs.Inputs.{ciphertext_inputs, encoding_inputs}
use Rattle.file_encoding.specs.Params.{UploadParameters, parameters_of}
use Rattle.upload_core.specs.Acknowledged.{acked_answer, acked_by, acked_outcome, acked_pairs}
use Rattle.upload_core.specs.State.{Goal}
use Rattle.world_operations.specs.declared.operation.Operation.{Operation}
use Rattle.world_operations.specs.declared.task.Task.{Task}
use Rattle.world_operations.specs.Tasks.{requests_of}
use Rattle.world_operations.proofs.Positions.{get_below, member_flat_cases, member_map, member_none, position_of_member}
use Rattle.world.specs.State.{WorldState, shelved}
use Rattle.world.specs.Consistent.{IsConsistent}
use Rattle.world.specs.Headline.{AcknowledgedKeep, HappyIsAcknowledged, HasNoClash, HonestKeep, IsAcknowledgement, IsHashed, IsUploadOf, Keeps, goal}
use Rattle.answer_laws.proofs.Servers.Acknowledged as acked
use Rattle.world.proofs.Happy.{Up, for_upload, happy_is_matched}
use Rattle.world.proofs.Hashed.{encoding_among, share_among}
use Rattle.world.proofs.Told.{acknowledgement_told}

-- a share of an encoding is hashed whole
pub share_hashed : (file secret : List ℕ) (p : UploadParameters) (n : ℕ) → n < length (encoding_of file secret (parameters_of p)).shares
    → Contains (encoding_inputs file secret (parameters_of p)) (tagged_input WholeShare (slice_index_or (encoding_of file secret (parameters_of p)).shares n []))
share_hashed file secret p n low =
    let shares : List (List ℕ) = (encoding_of file secret (parameters_of p)).shares in
    let share : List ℕ = slice_index_or shares n [] in
    let g = geometry_of (length file) p.needed p.total p.max_segment in
    let key = convergent_key_of p.needed p.total g.segment_size secret file in
    Contains-append_right (key_input p.needed p.total g.segment_size secret file ∷ tagged_input StorageIndex key ∷ ciphertext_inputs g (xored key file))
    (map (tagged_input WholeShare) shares) (tagged_input WholeShare share) (member_map (tagged_input WholeShare) shares share (Contains-get_or shares n [] low))

pub acknowledged_keep : (w : WorldState) → IsConsistent w → HasNoClash w → AcknowledgedKeep w
acknowledged_keep w c no_clash file secret p pair a honest =
    let aim : Goal = goal file secret p in
    let shares : List (List ℕ) = (encoding_of file secret (parameters_of p)).shares in
    let by = acked.acked_by aim a.request.server a.request.asked a.answer.body pair a.acknowledges in
    let server = get_below w.servers pair.0 honest in
    let m : ServerState MemoryState = server.0 in
    let at : slice_get w.servers a.frame.from ≡ Some m = ap (slice_get w.servers) (a.from ∙ sym by.server_is) ∙ server.1 in
    let told = acknowledgement_told w c file secret p pair a m at (acked.acks_answer a.request.asked a.answer.body pair.1 (slice_index_or aim.digests pair.1 []) by.acks) in
    let is_for = for_upload w a.answer.session file secret p a.operation a.upload c a.upload_of in
    let index : List ℕ = a.upload.course.goal.cap.storage_index in
    let id : ShareId = record { index = index; share = pair.1 } in
    let digest_told = acked.tells_acked (shelved m).store index a.request.asked told.request.body a.answer.body pair.1 (slice_index_or aim.digests pair.1 []) by.acks told.spelled told.tells in
    let closed = acked.closed_by id m.store.shelf (slice_index_or aim.digests pair.1 []) digest_told in
    let low : pair.1 < length shares = subst (λ (n : ℕ). pair.1 < n) (length-map shares share_digest) by.below in
    let digest : slice_index_or aim.digests pair.1 [] ≡ tagged_hash WholeShare (slice_index_or shares pair.1 []) = get_or-map share_digest shares pair.1 [] [] low in
    let right : closed.share.digest ≡ tagged_hash WholeShare closed.share.bytes = (c.sound pair.0 m server.1).right.digests id closed.share closed.found in
    let bytes : closed.share.bytes ≡ slice_index_or shares pair.1 [] =
    data_agrees_in (IsHashed w) no_clash WholeShare closed.share.bytes (slice_index_or shares pair.1 []) (share_among w pair.0 m id closed.share server.1 closed.found)
    (encoding_among w a.answer.session a.operation file secret p _ a.upload_of.at a.upload_of.uploads is_for.one_key (share_hashed file secret p pair.1 low))
    (sym right ∙ closed.digest_is ∙ digest) in
    subst (λ (g : Goal). Keeps w pair.0 g.cap.storage_index pair.1 (slice_index_or shares pair.1 [])) is_for.goal
    record { machine = m; closed = closed.share; at = server.1; found = closed.found; bytes_are = bytes }

-- what counted was answered
answered_by : (g : Goal) (r : Request) (o : Outcome) (pair : Pair) → Contains (acked_outcome g r.server r.asked o) pair
    → (said : Body) × (o ≡ Answered said) × Contains (acked_answer g r.server r.asked said) pair
answered_by g r (Answered said) pair c = (said, refl, c)
answered_by g r Outstanding pair c = absurd (member_none pair c)
answered_by g r Lost pair c = absurd (member_none pair c)
answered_by g r Unawaited pair c = absurd (member_none pair c)

-- an acknowledged pair of an upload was acknowledged by a message that was sent
pub acknowledged : (w : WorldState) → IsConsistent w → (file secret : List ℕ) (p : UploadParameters) (pair : Pair) (number : ℕ) (op : Operation) (u : Up)
    → IsUploadOf w number file secret p op u → Contains (acked_pairs (goal file secret p) u.course.requests.entries) pair → IsAcknowledgement w file secret p pair
acknowledged w c file secret p pair number op u of counted =
    let aim : Goal = goal file secret p in
    let entries : List Request = u.course.requests.entries in
    let found = member_flat_cases (acked_by aim) entries pair counted in
    let r : Request = found.0 in
    let position = position_of_member entries r found.1 in
    let said = answered_by aim r r.outcome pair found.2 in
    let entry : slice_get (requests_of op.task).entries position.0 ≡ Some r = subst (λ (t : Task). slice_get (requests_of t).entries position.0 ≡ Some r) (sym of.task) position.1 in
    let came = (c.fine number op of.at).answers position.0 r said.0 entry said.1 in
    let of_session : IsUploadOf w came.answer.session file secret p op u = subst (λ (n : ℕ). IsUploadOf w n file secret p op u) (sym came.says.session_is) of in
    record {
      frame = came.frame;
      answer = came.answer;
      operation = op;
      upload = u;
      position = position.0;
      request = r;
      was_sent = came.was_sent;
      spelled = came.spelled;
      upload_of = of_session;
      entry = position.1;
      number = came.says.number_is;
      from = sym came.says.server_is;
      to = came.to;
      acknowledges = subst (λ (b : Body). Contains (acked_answer aim r.server r.asked b) pair) (sym came.says.body_is) said.2;
    }

-- what Happy names was acknowledged by messages that were sent
pub happy_is_acknowledged : (w : WorldState) → IsConsistent w → HappyIsAcknowledged w
happy_is_acknowledged w c file secret p pairs pair up chosen =
    let entries : List Request = up.upload.course.requests.entries in
    let matched : IsMatching (acked_pairs (goal file secret p) entries) pairs = (happy_is_matched w c file secret p pairs up).matching in
    let counted = All-contains (Contains (acked_pairs (goal file secret p) entries)) pairs pair matched.given chosen in
    acknowledged w c file secret p pair up.number up.operation up.upload up.upload_of counted

pub honest_keep : (w : WorldState) → IsConsistent w → HasNoClash w → HonestKeep w
honest_keep w c no_clash file secret p pairs pair up chosen =
    acknowledged_keep w c no_clash file secret p pair (happy_is_acknowledged w c file secret p pairs pair up chosen)

-- Without a clash downloads and checks of the cap of an upload that was started read that upload's blocks and shares, which are a code word.
use Rattle.std.proofs.Common.{◌≡◌, ◌∙◌, ℕ, ◌<◌, List, [], Some, ◌∷◌, ◌++◌, length, map, get_or, Contains, inl, inr, refl, sym, subst, arith}
use Rattle.std.specs.Prelude.{slice_get, slice_index_or}
use Rattle.std.proofs.lemmas.List.Elements.{Contains-append_cases, Contains-append_left, Contains-append_right}
use Rattle.std.proofs.lemmas.Option.{slice_get-get_or}
use Rattle.aes_ctr.specs.CounterMode.{xored}
use Rattle.aes_ctr.proofs.StreamLemmas.{length-xored_from}
use Rattle.tagged_hash.specs.ConvergentKey.{convergent_key_of, key_input}
use Rattle.tagged_hash.specs.TaggedHash.{tagged_input}
use Rattle.tagged_hash.specs.declared.tag.Tag.TheVariants.{ExtensionBlock, StorageIndex, WholeShare}
use Rattle.merkle.proofs.InputLemmas.{AreOf, member_there}
use Rattle.tagged_hash.proofs.ClashLemmas.{no_clash_of}
use Rattle.cap_text.specs.Cap.{ReadCapValue, VerifyCapValue, verify_cap_of}
use Rattle.ueb.specs.Block.{ueb_text}
use Rattle.ueb.specs.Shape.{Contents, IsShape}
use Rattle.share_layout.specs.Geometry.{Geometry, geometry_of}
use Rattle.share_layout.specs.Pieces.{segments_of}
use Rattle.share_layout.specs.Share.{Sections}
use Rattle.share_verify.specs.CapBlock.{IsUebFor}
use Rattle.share_verify.specs.Inputs.{share_inputs}
use Rattle.share_verify.specs.Verify.{IsSound}
use Rattle.download_shares.specs.declared.holding.Blame.{Blame}
use Rattle.share_reading.specs.Verdict.{IsGood}
use Rattle.wire.specs.declared.message.Body.TheVariants.{Data}
use Rattle.proved_parts.proofs.Segments.{data_agrees_in, one_ueb}
use Rattle.file_encoding.specs.Encoding.{encoding_of, extension_block_contents}
use Rattle.file_encoding.specs.Inputs.{ciphertext_inputs, encoding_inputs}
use Rattle.file_encoding.specs.Params.{UploadParameters, parameters_of}
use Rattle.file_encoding.proofs.Binding.{file_shares_are_bound}
use Rattle.file_encoding.proofs.BoundSegments as own
use Rattle.file_encoding.proofs.BoundSegments.{block_is_own, is_a_code_word}
use Rattle.file_encoding.proofs.Bytes.{AreBytes, bytes-xored}
use Rattle.file_encoding.proofs.Encodable.{has_shape}
use Rattle.file_encoding.proofs.KeyBytes.{bytes-key}
use Rattle.file_encoding.proofs.OwnEvidence.{own_trees_are_within}
use Rattle.file_encoding.proofs.Parts.{files_of_caps}
use Rattle.file_upload.specs.Prepared.{prepared_of}
use Rattle.download_segments.specs.NoCodeWord.{IsBlockIn, IsNoCodeWordIn, LeadsIn}
use Rattle.download_file.specs.Answers.{block_of}
use Rattle.download_core.specs.Right.{IsRight}
use Rattle.download_core.specs.Given.{IsHead}
use Rattle.download_core.specs.State.{DownloadState, Found}
use Rattle.download_core.specs.Tested.{IsTested, ShowsNoCodeWord}
use Rattle.download_core.proofs.HashedLemmas.{file_of}
use Rattle.download_core.proofs.RightBlocks.{right_blocks}
use Rattle.download_core.proofs.TestedLemmas.{inconsistent_shows}
use Rattle.answer_laws.specs.Downloads.Downloads.{AreSharesFor, IsDownloadBy}
use Rattle.answer_laws.proofs.Downloads.Downloads.{downloads_are_fair}
use Rattle.answer_laws.proofs.Downloads.EncodedShares.{encoded_shares_serve}
use Rattle.checker.specs.Shares.{settled_of}
use Rattle.checker.specs.State.{CheckState}
use Rattle.world_operations.specs.declared.operation.Operation.{Operation}
use Rattle.world_operations.specs.declared.task.Task.{Task}
use Rattle.world_operations.specs.Given.{IsTestedBy}
use Rattle.world_operations.specs.Jobs.{IsUpload}
use Rattle.world_operations.specs.Tasks.{IsRightTask, requests_of}
use Rattle.world_operations.proofs.Positions.{member_at}
use Rattle.world_operations.proofs.Uploads.{could_start}
use Rattle.world.specs.Binding.{block_in as block_in_upload}
use Rattle.world.specs.Binding.{BlocksAreOwn, GoodSharesAreOwn, NeverInconsistent, NoFalseBlame, ToldOther}
use Rattle.world.specs.Consistent.{CameFrom, IsConsistent}
use Rattle.world.specs.Started.{HasNoClashInTests, IsCheckOf, IsDownloadOf, IsHashedOrTested, IsStarted, hashed, tested}
use Rattle.world.specs.State.{WorldState}
use Rattle.world.proofs.Hashed.{download_among, encoding_among}

-- ---- what a download tested, in the words of an encoding

module _ (IsOne : List ℕ → Type 0) (IsMore : List ℕ → Type 0) (weaker : (input : List ℕ) → IsOne input → IsMore input) where
  leads_in : (count : ℕ) (root : List ℕ) (position : ℕ) (hash : List ℕ) (siblings : List (List ℕ)) → LeadsIn IsOne count root position hash siblings → own.LeadsIn IsMore count root position hash siblings
  leads_in count root position hash siblings l =
      record {
        leads = l.leads;
        path = record {
          hash_length = l.long;
          sibling_lengths = λ i below. l.hashes i [] (omega (arith, below, l.leads.1));
          among = λ input c. weaker input (l.hashed input c);
        };
      }

  block_in : (u : Contents) (share number : ℕ) (block : List ℕ) → IsBlockIn IsOne u share number block → own.IsBlockIn IsMore u share number block
  block_in u share number block b =
      record {
        hashed = weaker _ b.hashed;
        root = b.root;
        in_share = b.in_share;
        leads_in_share = leads_in _ b.root number _ b.in_share b.leads_in_share;
        in_file = b.in_file;
        leads_in_file = leads_in u.total_shares u.share_root_hash share b.root b.in_file b.leads_in_file;
      }

  no_code_word_in : (u : Contents) → IsNoCodeWordIn IsOne u → own.IsNoCodeWordIn IsMore u
  no_code_word_in u n =
      record {
        number = n.number;
        there = n.there;
        numbers = n.numbers;
        enough = record {
          count = n.shares.enough;
          distinct = n.shares.distinct;
          low = λ m below. n.shares.below m 0 (omega (arith, below, n.shares.enough));
        };
        blocks = n.blocks;
        proved = λ m below.
            let inside : m < length n.numbers = omega (arith, below, n.shares.enough) in
            let also : m < length n.blocks = omega (arith, inside, n.one_each) in
            block_in u (get_or n.numbers m 0) n.number (get_or n.blocks m [])
            (n.proved m (get_or n.numbers m 0) (get_or n.blocks m []) (slice_get-get_or n.numbers m 0 inside) (slice_get-get_or n.blocks m [] also));
        segment = n.segment;
        decoded = n.decoded;
        leaf = n.leaf;
        siblings = n.siblings;
        leads = leads_in _ u.crypttext_root_hash n.number n.leaf n.siblings n.leads;
        differs = n.differs;
      }

-- ---- what counts as hashed

tested_among : (w : WorldState) (i : ℕ) (op : Operation) (t : Task) (x : List ℕ) → slice_get w.operations i ≡ Some op → op.task ≡ t → IsTestedBy t x → IsHashedOrTested w x
tested_among w i op t x at task h = tested op (member_at w.operations i op at) (subst (λ (k : Task). IsTestedBy k x) (sym task) h)

module _ (w : WorldState) (c : IsConsistent w) (no_clash : HasNoClashInTests w) (file secret : List ℕ) (p : UploadParameters) (s : IsStarted w file secret p) where
  abbrev g : Geometry
  g = geometry_of (length file) p.needed p.total p.max_segment

  abbrev key : List ℕ
  key = convergent_key_of p.needed p.total g.segment_size secret file

  abbrev ciphertext : List ℕ
  ciphertext = xored key file

  abbrev pub said : Contents
  said = extension_block_contents g ciphertext (segments_of g ciphertext)

  abbrev cap : ReadCapValue
  cap = (prepared_of file secret p).cap

  may : IsUpload file secret p
  may = could_start s.operation.job file secret p s.operation.task s.uploads (c.fine s.number s.operation s.at).started

  pub shape : IsShape p.needed p.total (length file) g.segment_size
  shape = has_shape (length file) p may.chosen may.not_small may.encodable

  own_among : (x : List ℕ) → Contains (encoding_inputs file secret (parameters_of p)) x → IsHashedOrTested w x
  own_among x k = hashed (encoding_among w s.number s.operation file secret p x s.at s.uploads s.one_key k)

  trees_among : AreOf (IsHashedOrTested w) (ciphertext_inputs g ciphertext)
  trees_among x k =
      let own : List (List ℕ) = ciphertext_inputs g ciphertext in
      let shares : List (List ℕ) = map (tagged_input WholeShare) (encoding_of file secret (parameters_of p)).shares in
      own_among x (member_there (key_input p.needed p.total g.segment_size secret file) x (tagged_input StorageIndex key ∷ own ++ shares)
      (member_there (tagged_input StorageIndex key) x (own ++ shares) (Contains-append_left own shares x k)))

  -- ---- what a check found good

  module _ (check : CheckState) (of : IsCheckOf w (verify_cap_of cap) check) (server share : ℕ) where
    good_own : (good : IsGood check.cap share (settled_of check.requests.entries server share)) → good.bytes ≡ slice_index_or (prepared_of file secret p).shares share []
    good_own good =
        let u : Contents = good.sound.0 in
        let sections : Sections = good.sound.1 in
        let these : List (List ℕ) = share_inputs u share sections in
        let those : List (List ℕ) = encoding_inputs file secret (parameters_of p) in
        let none = no_clash_of (IsHashedOrTested w) (these ++ those) no_clash (λ input among. elim (Contains-append_cases these those input among) [
          | inl here ↦
              tested_among w of.number of.operation _ input of.at of.task
              record { server = server; share = share; reads = settled_of check.requests.entries server share; settled = λ read at. at; good = good; contents = u; sections = sections; sound = good.sound.2; hashed = here }
          | inr there ↦ own_among input there
        ]) in
        file_shares_are_bound (these ++ those) none file secret (parameters_of p) shape (Contains-append_right these those) share good.bytes u sections
        record { sound = subst (λ (k : VerifyCapValue). IsSound k share good.bytes u sections) of.cap_is good.sound.2; among = Contains-append_left these those }

  -- ---- what a download tested

  module _ (d : DownloadState) (of : IsDownloadOf w (prepared_of file secret p).cap d) where
    right : IsRight d
    right = subst IsRightTask of.task (c.fine of.number of.operation of.at).right

    -- the extension block that was accepted is the encoding's
    one_block : (f : Found) → d.found ≡ Some f → IsHead (verify_cap_of d.cap) d.requests.entries f.position f.file.handout.ueb → f.file.handout.ueb ≡ said
    one_block f there head =
        let whole = files_of_caps file secret (parameters_of p) shape in
        let own_text : List ℕ = ueb_text said in
        let by_cap : IsUebFor (verify_cap_of cap) head.text f.file.handout.ueb = subst (λ (k : ReadCapValue). IsUebFor (verify_cap_of k) head.text f.file.handout.ueb) of.cap_is head.block in
        let read : IsHashedOrTested w (tagged_input ExtensionBlock head.text) =
        hashed (download_among w of.number of.operation d _ of.at of.task
        record {
          found = f;
          there = there;
          block = head.text;
          answer = record { request = head.request; there = head.there; answer = head.answer };
          hashed = inl refl;
        }) in
        let mine : IsHashedOrTested w (tagged_input ExtensionBlock own_text) = own_among _ (own_trees_are_within file secret (parameters_of p)).0 in
        let same : head.text ≡ own_text = data_agrees_in (IsHashedOrTested w) no_clash ExtensionBlock head.text own_text read mine (by_cap.hash ∙ sym whole.block.hash) in
        one_ueb (verify_cap_of cap) own_text f.file.handout.ueb said (subst (λ (x : List ℕ). IsUebFor (verify_cap_of cap) x f.file.handout.ueb) same by_cap) whole.block

    tests_among : (input : List ℕ) → IsTested d input → IsHashedOrTested w input
    tests_among input t = tested_among w of.number of.operation _ input of.at of.task t

    refuted : ShowsNoCodeWord d → ⊥
    refuted shows =
        let bytes : AreBytes ciphertext = bytes-xored key (bytes-key p.needed p.total g.segment_size secret file) file s.bytes in
        is_a_code_word (IsHashedOrTested w) no_clash g ciphertext shape (length-xored_from key 0 file) bytes trees_among
        (no_code_word_in (IsTested d) (IsHashedOrTested w) tests_among said
        (subst (IsNoCodeWordIn (IsTested d)) (one_block shows.found shows.there shows.head) shows.no_code_word))

    own_block : (f : Found) → d.found ≡ Some f → (share number : ℕ) (block : List ℕ) → IsBlockIn (IsTested d) f.file.handout.ueb share number block
        → block ≡ block_in_upload file secret p share number
    own_block f there share number block b =
        let head = (file_of d f there right.file).head in
        block_is_own (IsHashedOrTested w) no_clash g ciphertext trees_among share number block
        (block_in (IsTested d) (IsHashedOrTested w) tests_among said share number block
        (subst (λ (u : Contents). IsBlockIn (IsTested d) u share number block) (one_block f there head) b))

    -- the shares of the encoding, as what the download blames is compared with
    pub own_shares : AreSharesFor (IsHashedOrTested w) (verify_cap_of d.cap) said (prepared_of file secret p).shares
    unfolding encoding_of
    own_shares =
        subst (λ (k : ReadCapValue). AreSharesFor (IsHashedOrTested w) (verify_cap_of k) said (prepared_of file secret p).shares) (sym of.cap_is)
        (encoded_shares_serve (IsHashedOrTested w) g key ciphertext shape (length-xored_from key 0 file) trees_among)

    pub by_download : IsDownloadBy (IsHashedOrTested w) said d
    by_download = record { right = right; accepted = λ f there. one_block f there (file_of d f there right.file).head; tested = tests_among }

    told_other : (i : ℕ) (b : Blame) → slice_get d.blamed i ≡ Some b → ToldOther w of.number of.operation.node d b.server b.share (slice_index_or (prepared_of file secret p).shares b.share [])
    told_other i b is =
        let other = downloads_are_fair (IsHashedOrTested w) no_clash d said (prepared_of file secret p).shares i b by_download own_shares is in
        let here : slice_get (requests_of of.operation.task).entries other.position ≡ Some other.request =
        subst (λ (t : Task). slice_get (requests_of t).entries other.position ≡ Some other.request) (sym of.task) other.there in
        record {
          answered = other;
          sent = subst (λ server. CameFrom w.sent of.number of.operation.node other.position server other.request.asked (Data other.bytes)) other.of_server
              ((c.fine of.number of.operation of.at).answers other.position other.request (Data other.bytes) here other.answer);
        }

pub never_inconsistent : (w : WorldState) → IsConsistent w → HasNoClashInTests w → NeverInconsistent w
never_inconsistent w c no_clash file secret p d s of e =
    refuted w c no_clash file secret p s d of (inconsistent_shows d (right w c no_clash file secret p s d of) e)

pub blocks_are_own : (w : WorldState) → IsConsistent w → HasNoClashInTests w → BlocksAreOwn w
blocks_are_own w c no_clash file secret p d f position segment r s of there at own =
    own_block w c no_clash file secret p s d of f there r.share segment (block_of d.requests.entries r.supply segment)
    (right_blocks d f position segment r (right w c no_clash file secret p s d of) there at own)

pub good_shares_are_own : (w : WorldState) → IsConsistent w → HasNoClashInTests w → GoodSharesAreOwn w
good_shares_are_own w c no_clash file secret p check server share s of good = good_own w c no_clash file secret p s check of server share good

pub no_false_blame : (w : WorldState) → IsConsistent w → HasNoClashInTests w → NoFalseBlame w
no_false_blame w c no_clash file secret p d i b s of is = told_other w c no_clash file secret p s d of i b is

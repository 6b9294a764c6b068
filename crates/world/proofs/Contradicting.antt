-- Without a clash no repair of a cap that an upload was started with finds good shares that contradict one another.
use Rattle.lemmas.proofs.Members.{contains_at, flat_map_from}
use Rattle.std.proofs.Common.{◌≡◌, ◌∙◌, ℕ, ◌<◌, List, [], ◌∷◌, ◌++◌, length, map, Contains, inl, inr, sym, subst}
use Rattle.std.specs.Prelude.{slice_index, slice_index_or}
use Rattle.std.proofs.lemmas.List.Elements.{All-contains, Contains-append_cases, Contains-append_left, Contains-append_right}
use Rattle.aes_ctr.specs.CounterMode.{xored}
use Rattle.aes_ctr.proofs.StreamLemmas.{length-xored_from}
use Rattle.tagged_hash.specs.Clash.{HasNoClash}
use Rattle.tagged_hash.specs.ConvergentKey.{convergent_key_of, key_input}
use Rattle.tagged_hash.specs.TaggedHash.{tagged_input}
use Rattle.tagged_hash.specs.declared.tag.Tag.TheVariants.{StorageIndex, WholeShare}
use Rattle.tagged_hash.proofs.ClashLemmas.{no_clash_of}
use Rattle.merkle.proofs.InputLemmas.{member_there}
use Rattle.merkle.specs.Inputs.{AreAmong}
use Rattle.cap_text.specs.Cap.{VerifyCapValue, verify_cap_of}
use Rattle.ueb.specs.Shape.{Contents, IsShape}
use Rattle.share_layout.specs.Geometry.{Geometry, geometry_of}
use Rattle.share_layout.specs.Share.{Sections}
use Rattle.share_verify.specs.Inputs.{share_inputs}
use Rattle.share_verify.specs.Verify.{IsSound}
use Rattle.file_encoding.specs.Binding.{IsSoundAmong}
use Rattle.file_encoding.specs.Encoding.{Parameters, encoding_of}
use Rattle.file_encoding.specs.Inputs.{ciphertext_inputs, encoding_inputs}
use Rattle.file_encoding.specs.Params.{UploadParameters, parameters_of}
use Rattle.file_encoding.specs.Reading.{IsTaken, TakenShare}
use Rattle.file_encoding.specs.Regenerated.{CannotRegenerate}
use Rattle.file_encoding.specs.RemadeLaws.{AreTakenAmong}
use Rattle.file_encoding.proofs.Binding.{own_shares_are_within, shares_are_bound}
use Rattle.file_encoding.proofs.Encodable.{has_shape}
use Rattle.file_encoding.proofs.RemadeOwn.{good_shares_give_own}
use Rattle.file_upload.specs.Prepared.{prepared_of}
use Rattle.checker.specs.Good.{AreGoodShares}
use Rattle.checker.specs.Shares.{settled_of}
use Rattle.checker.specs.State.{CheckState}
use Rattle.world_operations.specs.declared.job.Job.{Job}
use Rattle.world_operations.specs.declared.job.Job.TheVariants.{NoRepair, Repair}
use Rattle.world_operations.specs.declared.job.Unmade.TheVariants.{Inconsistent, NotEnoughShares}
use Rattle.world_operations.specs.declared.task.Task.{Task}
use Rattle.world_operations.specs.Given.{IsTestedBy}
use Rattle.world_operations.specs.Jobs.{IsUpload}
use Rattle.world_operations.specs.Repairs.{BeginsRepair, contradicts, lacks, makes}
use Rattle.world_operations.proofs.Positions.{member_at}
use Rattle.world_operations.proofs.Uploads.{could_start}
use Rattle.world.specs.Consistent.{IsConsistent}
use Rattle.world.specs.Repairs.{RepairsNeverContradict}
use Rattle.world.specs.Started.{HasNoClashInTests, IsCheckOf, IsHashedOrTested, IsStarted, hashed, tested}
use Rattle.world.specs.State.{WorldState, servers_of}
use Rattle.world.specs.Step.{RepairBegins}
use Rattle.world.proofs.Hashed.{encoding_among}

-- what is hashed where a share passes that is the encoding's is hashed for the encoding
own_inputs : (inputs : List (List ℕ)) → HasNoClash inputs → (file secret : List ℕ) (p : Parameters)
    → IsShape p.needed p.total (length file) (geometry_of (length file) p.needed p.total p.max_segment).segment_size → AreAmong inputs (encoding_inputs file secret p)
    → (num : ℕ) (share : List ℕ) (u : Contents) (s : Sections) → IsSoundAmong inputs (verify_cap_of (encoding_of file secret p).cap) num share u s
    → AreAmong (encoding_inputs file secret p) (share_inputs u num s)
unfolding encoding_of
own_inputs inputs no_clash file secret p shape mine num share u s among =
    let g : Geometry = geometry_of (length file) p.needed p.total p.max_segment in
    let key : List ℕ = convergent_key_of p.needed p.total g.segment_size secret file in
    let ciphertext : List ℕ = xored key file in
    let whole : length ciphertext ≡ length file = length-xored_from key 0 file in
    let within : AreAmong inputs (ciphertext_inputs g ciphertext) =
    λ x c. mine x (Contains-append_left (key_input p.needed p.total g.segment_size secret file ∷ tagged_input StorageIndex key ∷ ciphertext_inputs g ciphertext)
    (map (tagged_input WholeShare) (encoding_of file secret p).shares) x
    (member_there (key_input p.needed p.total g.segment_size secret file) x (tagged_input StorageIndex key ∷ ciphertext_inputs g ciphertext)
    (member_there (tagged_input StorageIndex key) x (ciphertext_inputs g ciphertext) c))) in
    let own = shares_are_bound inputs no_clash g key ciphertext shape whole within num share u s among in
    let low : num < p.total = subst (λ (v : Contents). num < v.total_shares) own.contents among.sound.reads.layout.number in
    let theirs = own_shares_are_within file secret p shape num low in
    let also = shares_are_bound inputs no_clash g key ciphertext shape whole within num _ theirs.0 theirs.1 record { sound = theirs.2.sound; among = λ x c. mine x (theirs.2.among x c) } in
    let contents : u ≡ theirs.0 = own.contents ∙ sym also.contents in
    let sections : s ≡ theirs.1 = own.sections ∙ sym also.sections in
    λ x c. theirs.2.among x (subst (λ (inputs : List (List ℕ)). Contains inputs x) (λ i. share_inputs (contents i) num (sections i)) c)

makes_some : (these those : VerifyCapValue) (happy : ℕ) → Repair these happy ≡ NoRepair those Inconsistent → ⊥
makes_some these those happy e = cc

lacks_some : (these those : VerifyCapValue) → NoRepair these NotEnoughShares ≡ NoRepair those Inconsistent → ⊥
lacks_some these those e = cc

one_cap : (these those : VerifyCapValue) → NoRepair these Inconsistent ≡ NoRepair those Inconsistent → these ≡ those
one_cap these those e = cc

module _ (w : WorldState) (c : IsConsistent w) (no_clash : HasNoClashInTests w) (file secret : List ℕ) (p : UploadParameters) (s : IsStarted w file secret p) where
  abbrev cap : VerifyCapValue
  cap = verify_cap_of (prepared_of file secret p).cap

  abbrev encoded : List (List ℕ)
  encoded = encoding_inputs file secret (parameters_of p)

  may : IsUpload file secret p
  may = could_start s.operation.job file secret p s.operation.task s.uploads (c.fine s.number s.operation s.at).started

  shape : IsShape p.needed p.total (length file) (geometry_of (length file) p.needed p.total p.max_segment).segment_size
  shape = has_shape (length file) p may.chosen may.not_small may.encodable

  own_among : (x : List ℕ) → Contains encoded x → IsHashedOrTested w x
  own_among x k = hashed (encoding_among w s.number s.operation file secret p x s.at s.uploads s.one_key k)

  module _ (check : CheckState) (of : IsCheckOf w cap check) (numbers : List ℕ) (strings : List (List ℕ)) (good : AreGoodShares check.cap check.requests.entries numbers strings) where
    -- a share that is taken is the encoding's, and so is what is hashed for it
    taken_own : (t : TakenShare) → IsTaken cap numbers strings t → AreAmong encoded (share_inputs t.contents t.number t.sections)
    taken_own t is =
        let number : slice_index numbers t.position ≡ t.number = is.first.passes.0 in
        let found = good.found t.position is.first.inside in
        let these : List (List ℕ) = share_inputs t.contents t.number t.sections in
        let bytes : found.1.1.bytes ≡ slice_index_or strings t.position [] = found.1.2 in
        let sound : IsSound check.cap (slice_index numbers t.position) found.1.1.bytes t.contents t.sections =
        subst (λ (k : VerifyCapValue). IsSound k (slice_index numbers t.position) found.1.1.bytes t.contents t.sections) (sym of.cap_is)
        (subst (λ (n : ℕ). IsSound cap n found.1.1.bytes t.contents t.sections) (sym number) (subst (λ (b : List ℕ). IsSound cap t.number b t.contents t.sections) (sym bytes) is.sound)) in
        let test : (x : List ℕ) → Contains these x → IsHashedOrTested w x =
        λ x k. tested of.operation (member_at w.operations of.number of.operation of.at) (subst (λ (task : Task). IsTestedBy task x) (sym of.task) record {
          server = found.0;
          share = slice_index numbers t.position;
          reads = settled_of check.requests.entries found.0 (slice_index numbers t.position);
          settled = λ read at. at;
          good = found.1.1;
          contents = t.contents;
          sections = t.sections;
          sound = sound;
          hashed = subst (λ (n : ℕ). Contains (share_inputs t.contents n t.sections) x) (sym number) k;
        }) in
        let none = no_clash_of (IsHashedOrTested w) (these ++ encoded) no_clash (λ x k. elim (Contains-append_cases these encoded x k) [
          | inl here ↦ test x here
          | inr there ↦ own_among x there
        ]) in
        own_inputs (these ++ encoded) none file secret (parameters_of p) shape (Contains-append_right these encoded) t.number (slice_index_or strings t.position []) t.contents t.sections
        record { sound = is.sound; among = Contains-append_left these encoded }

    all_own : AreTakenAmong encoded cap numbers strings
    all_own taken takes x k =
        let from = flat_map_from (λ (t : TakenShare). share_inputs t.contents t.number t.sections) taken x k in
        taken_own from.source (All-contains (IsTaken cap numbers strings) taken from.source takes.lowest.each (contains_at taken from.position from.source from.there)) x from.has

    none_contradict : CannotRegenerate cap numbers strings → ⊥
    none_contradict =
        (good_shares_give_own encoded (no_clash_of (IsHashedOrTested w) encoded no_clash own_among) file secret (parameters_of p) shape s.bytes (λ x k. k) numbers strings all_own).can

  begins : (node number happy : ℕ) (job : Job) (first : Task) (b : RepairBegins w node number happy job first) → job ≡ NoRepair cap Inconsistent
      → BeginsRepair b.check.cap happy b.numbers b.strings (servers_of w) (length w.operations) w.clock job first → ⊥
  begins node number happy job first b is (makes shares u made job_is task_is starts pieces) = makes_some b.check.cap cap happy (sym job_is ∙ is)
  begins node number happy job first b is (lacks l job_is task_is) = lacks_some b.check.cap cap (sym job_is ∙ is)
  begins node number happy job first b is (contradicts cannot job_is task_is) =
      let cap_is : b.check.cap ≡ cap = one_cap b.check.cap cap (sym job_is ∙ is) in
      none_contradict b.check record { number = number; operation = b.done.operation; at = b.done.at; task = b.done.checked; cap_is = cap_is } b.numbers b.strings b.good
      (subst (λ (k : VerifyCapValue). CannotRegenerate k b.numbers b.strings) cap_is cannot)

pub repairs_never_contradict : (w : WorldState) → IsConsistent w → HasNoClashInTests w → RepairsNeverContradict w
repairs_never_contradict w c no_clash file secret p node number happy job first s b = λ is. begins w c no_clash file secret p s node number happy job first b is b.begins

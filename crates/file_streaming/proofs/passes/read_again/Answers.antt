use Rattle.std.proofs.Common.{◌≡◌, ℕ, List, inr, length, ap, sym, subst, ◌∙◌, arith, rules}
use Rattle.std.specs.Vec.{with_items}
use Rattle.std.proofs.lemmas.List.{with_items_is}
use Rattle.share_layout.specs.Geometry.{Geometry}
use Rattle.share_layout.specs.Pieces.{segments_of}
use Rattle.share_gathering.specs.Gathered.{gathered, gathered_none}
use Rattle.file_streaming.specs.Gathering.{HasGathered}
use Rattle.file_streaming.specs.Passes.{gathered_of}
use Rattle.file_streaming.specs.declared.gathering.Gathering.{Gathering}
use Rattle.file_streaming.proofs.passes.read_again.Goals as goal

pub returns-clause-passes : goal.returns-clause-passes
returns-clause-passes g c =
    let geometry : Geometry = c.args.geometry.now in
    let secret : List ℕ = c.args.secret.now in
    let x : Gathering = c.in_ok-gathering.gathering in
    let same : c.finish.result ≡ c.args.key = search rules in
    let read = c.in_ok-gathering.ensures.gathered secret c.key_hasher-hasher.ensures in
    let cipher : c.in_ok-encoder.encoder.cipher ≡ c.args.key = c.in_ok-encoder.ensures.cipher in
    let has : HasGathered geometry (gathered_of geometry c.args.key read.file) secret read.file x =
    subst (λ (key : List ℕ). HasGathered geometry (gathered geometry key 0 (segments_of geometry read.file) (gathered_none geometry)) secret read.file x) cipher read.has in
    let segments : (with_items c.args.buffers.segments c.gather.new.segments).items ≡ c.gather.new.segments =
    with_items_is c.args.buffers.segments c.gather.new.segments (omega (arith, c.gather.auto.segments, ap length c.deref_mut.ensures.value, c.args.buffers.segments.ok.0)) in
    let lanes : (with_items c.args.buffers.lanes c.gather.new.lanes).items ≡ c.gather.new.lanes =
    with_items_is c.args.buffers.lanes c.gather.new.lanes (omega (arith, c.gather.auto.lanes, ap length c.deref_mut-2.ensures.value, c.args.buffers.lanes.ok.0)) in
    record {
      file = read.file;
      pass = read.pass;
      key = sym same ∙ c.finish.ensures geometry.needed geometry.total geometry.segment_size secret read.file read.has.key;
      of_file = record {
        long = read.pass.long;
        needed = c.in_ok-encoder.ensures.needed;
        total = c.in_ok-encoder.ensures.total;
        cipher = cipher;
        buffers = record {
          segments = ap length segments ∙ c.gather.auto.segments ∙ ap length c.deref_mut.ensures.value ∙ c.requires.buffers.segments;
          lanes = ap length lanes ∙ c.gather.auto.lanes ∙ ap length c.deref_mut-2.ensures.value ∙ c.requires.buffers.lanes;
        };
        ciphertext = has.ciphertext;
        leaves = has.leaves;
        count = has.count;
        shares = has.shares;
        groups = has.groups;
        wholes = has.wholes;
      };
    }

pub returns-then-ne-clause-changed : goal.returns-then-ne-clause-changed
returns-then-ne-clause-changed g c = λ e.
    let geometry : Geometry = c.args.geometry.now in
    let secret : List ℕ = c.args.secret.now in
    let read = c.in_ok-gathering.ensures.gathered secret c.key_hasher-hasher.ensures in
    let own = c.finish.ensures geometry.needed geometry.total geometry.segment_size secret read.file read.has.key in
    inr record {
      file = read.file;
      pass = read.pass;
      other = λ same. let again : c.finish.result ≡ c.args.key = own ∙ same in search rules;
    }

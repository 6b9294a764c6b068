use Rattle.std.proofs.Common.{◌≡◌, ◌-◌, ◌*◌, ◌^◌, ℕ, List, [], length, map, get_or, ap, sym, subst, ◌∙◌}
use Rattle.std.proofs.lemmas.Result.{IfOk-weaker}
use Rattle.merkle.specs.Tree.{height, tree_root}
use Rattle.share_layout.specs.Geometry.{Geometry, segment_count, tree_size}
use Rattle.share_layout.specs.Share.{IsShare, Sections}
use Rattle.ueb.specs.Shape.{Contents}
use Rattle.share_verify.specs.CapBlock.{geometry_by}
use Rattle.file_encoding.specs.Decoding.{AreBlocks}
use Rattle.file_encoding.specs.LowestShares.{HaveBlocks}
use Rattle.share_verify.specs.CapBlock.{IsUebFor}
use Rattle.file_encoding.specs.Decoded.{IsDecodedFrom}
use Rattle.file_encoding.specs.Regenerated.{DecodeTo}
use Rattle.file_encoding.specs.Reading.{Agree, AreLeaves, HasWrongSegment, blocks_in, disagree as shares_disagree, numbers_of, wrong_segment}
use Rattle.file_encoding.proofs.Reread.{are_blocks, are_leaves, blocks_are_own, disagree, inside_shares, lowest, lowest_sound, numbers_are, own_ueb, readable, taken_some, they_agree, tree_leaves, tree_long}
use Rattle.file_encoding.proofs.decoded.decode_taken.Goals as goal

pub bounds-shares-positions : goal.bounds-shares-positions
bounds-shares-positions c = inside_shares c.args.cap.now c.args.shares.now c.requires.takes.taken c.requires.takes.takes c.args.positions.now c.requires.takes.at 0 0 c.requires.some

pub bounds-shares-positions-2 : goal.bounds-shares-positions-2
bounds-shares-positions-2 c = inside_shares c.args.cap.now c.args.shares.now c.requires.takes.taken c.requires.takes.takes c.args.positions.now c.requires.takes.at 0 0 c.requires.some

pub unreachable-requires : goal.unreachable-requires
unreachable-requires c =
    let t = lowest c.args.cap.now c.args.shares.now c.requires.takes.taken c.requires.takes.takes c.args.positions.now c.requires.takes.at c.requires.some (0, record { ref_ptr = (0, 0); now = [] }) in
    c.in_default.ensures.complete t.contents t.sections
    (lowest_sound c.args.cap.now c.args.shares.now c.requires.takes.taken c.requires.takes.takes c.args.positions.now c.requires.takes.at c.requires.some (0, record { ref_ptr = (0, 0); now = [] })).reads

pub agree-requires : goal.agree-requires
agree-requires c = λ k d inside. inside_shares c.args.cap.now c.args.shares.now c.requires.takes.taken c.requires.takes.takes c.args.positions.now c.requires.takes.at k d inside

pub all_blocks-requires-clause-inside : goal.all_blocks-requires-clause-inside
all_blocks-requires-clause-inside c = λ k d inside. inside_shares c.args.cap.now c.args.shares.now c.requires.takes.taken c.requires.takes.takes c.args.positions.now c.requires.takes.at k d inside

pub returns-then-not-agree-clause-inconsistent : goal.returns-then-not-agree-clause-inconsistent
returns-then-not-agree-clause-inconsistent c = λ _.
    let t = lowest c.args.cap.now c.args.shares.now c.requires.takes.taken c.requires.takes.takes c.args.positions.now c.requires.takes.at c.requires.some (0, record { ref_ptr = (0, 0); now = [] }) in
    let same = c.in-Ok.ensures.complete t.contents t.sections
    (lowest_sound c.args.cap.now c.args.shares.now c.requires.takes.taken c.requires.takes.takes c.args.positions.now c.requires.takes.at c.requires.some (0, record { ref_ptr = (0, 0); now = [] })).reads in
    let no = c.agree.ensures.no c.if-not-agree.true in
    shares_disagree c.requires.takes.taken c.requires.takes.takes
    (disagree c.args.cap.now c.args.shares.now c.requires.takes.taken c.requires.takes.takes c.args.positions.now c.requires.takes.at c.requires.some (0, record { ref_ptr = (0, 0); now = [] })
    c.in-Ok.first.view.extension_block.now no.0 no.1 (ap (λ (s : Sections). s.extension_block) same.1) no.2)

pub all_blocks-requires-clause-readable : goal.all_blocks-requires-clause-readable
all_blocks-requires-clause-readable c = λ m below.
    let one = readable c.args.cap.now (map (λ s. s.0) c.args.shares.now) (map (λ s. s.1.now) c.args.shares.now) c.requires.takes.taken c.requires.takes.takes
    c.args.positions.now c.requires.takes.at c.in-Ok.first.view.extension_block.now c.in-Ok.first.ueb (c.agree.ensures.yes c.if-not-agree.false) c.in-Ok.ensures.one_ueb m below in (
      one.0,
      subst (λ (g : Geometry). IsShare g (get_or (map (λ s. s.0) c.args.shares.now) (get_or c.args.positions.now m 0) 0)
          (get_or (map (λ s. s.1.now) c.args.shares.now) (get_or c.args.positions.now m 0) []) one.0) (sym c.in-Ok.ensures.geometry) one.1,
    )

pub leaves_in-leaves-requires : goal.leaves_in-leaves-requires
leaves_in-leaves-requires c =
    let t = lowest c.args.cap.now c.args.shares.now c.requires.takes.taken c.requires.takes.takes c.args.positions.now c.requires.takes.at c.requires.some (0, record { ref_ptr = (0, 0); now = [] }) in
    let same = c.in-Ok.ensures.complete t.contents t.sections
    (lowest_sound c.args.cap.now c.args.shares.now c.requires.takes.taken c.requires.takes.takes c.args.positions.now c.requires.takes.at c.requires.some (0, record { ref_ptr = (0, 0); now = [] })).reads in
    ap (λ (s : Sections). length s.ciphertext_tree) same.1
    ∙ tree_long c.args.cap.now c.args.shares.now c.requires.takes.taken c.requires.takes.takes c.args.positions.now c.requires.takes.at c.requires.some (0, record { ref_ptr = (0, 0); now = [] })
    ∙ ap (λ (u : Contents). tree_size (geometry_by u)) (sym same.0)
    ∙ ap tree_size (sym c.in-Ok.ensures.geometry)
    ∙ ap (λ (n : ℕ). (2 * 2 ^ height n - 1) * 32) (sym c.segment_count.ensures.value)

pub decode_blocks-requires-clause-blocks : goal.decode_blocks-requires-clause-blocks
decode_blocks-requires-clause-blocks c =
    let have : HaveBlocks (geometry_by c.in-Ok.first.ueb) (map (λ s. s.0) c.args.shares.now) (map (λ s. s.1.now) c.args.shares.now) c.args.positions.now
    (map (λ s. s.0) c.deref.result.now) (map (λ s. s.1.now) c.deref.result.now) =
    subst (λ (T : Type 0). T)
    (λ i. HaveBlocks (c.in-Ok.ensures.geometry i) (map (λ s. s.0) c.args.shares.now) (map (λ s. s.1.now) c.args.shares.now) c.args.positions.now
    (map (λ s. s.0) (sym c.deref.ensures.value i)) (map (λ s. s.1.now) (sym c.deref.ensures.value i))) c.in_ok-blocks.ensures in
    subst (λ (g : Geometry). AreBlocks g (map (λ s. s.0) c.deref.result.now) (map (λ s. s.1.now) c.deref.result.now)) (sym c.in-Ok.ensures.geometry)
    (are_blocks c.args.cap.now (map (λ s. s.0) c.args.shares.now) (map (λ s. s.1.now) c.args.shares.now) c.requires.takes.taken c.requires.takes.takes
    c.args.positions.now c.requires.takes.at c.in-Ok.first.view.extension_block.now c.in-Ok.first.ueb (c.agree.ensures.yes c.if-not-agree.false) c.in-Ok.ensures.one_ueb
    (map (λ s. s.0) c.deref.result.now) (map (λ s. s.1.now) c.deref.result.now) have
    (taken_some c.args.cap.now c.args.shares.now c.requires.takes.taken c.requires.takes.takes c.args.positions.now c.requires.takes.at c.requires.some))

have_blocks : (c : goal.After-drop-blocks) → HaveBlocks (geometry_by c.in-Ok.first.ueb) (map (λ s. s.0) c.args.shares.now) (map (λ s. s.1.now) c.args.shares.now) c.args.positions.now
    (map (λ s. s.0) c.deref.result.now) (map (λ s. s.1.now) c.deref.result.now)
have_blocks c =
    subst (λ (T : Type 0). T)
    (λ i. HaveBlocks (c.in-Ok.ensures.geometry i) (map (λ s. s.0) c.args.shares.now) (map (λ s. s.1.now) c.args.shares.now) c.args.positions.now
    (map (λ s. s.0) (sym c.deref.ensures.value i)) (map (λ s. s.1.now) (sym c.deref.ensures.value i))) c.in_ok-blocks.ensures

numbers_same : (c : goal.After-drop-blocks) → map (λ s. s.0) c.deref.result.now ≡ numbers_of c.requires.takes.taken
numbers_same c =
    numbers_are c.args.cap.now (map (λ s. s.0) c.args.shares.now) (map (λ s. s.1.now) c.args.shares.now) c.requires.takes.taken c.requires.takes.takes
    c.args.positions.now c.requires.takes.at c.in-Ok.first.view.extension_block.now c.in-Ok.first.ueb (c.agree.ensures.yes c.if-not-agree.false) c.in-Ok.ensures.one_ueb
    (map (λ s. s.0) c.deref.result.now) (map (λ s. s.1.now) c.deref.result.now) (have_blocks c)

blocks_same : (c : goal.After-drop-blocks) → map (λ s. s.1.now) c.deref.result.now ≡ blocks_in c.requires.takes.taken
blocks_same c =
    blocks_are_own c.args.cap.now (map (λ s. s.0) c.args.shares.now) (map (λ s. s.1.now) c.args.shares.now) c.requires.takes.taken c.requires.takes.takes
    c.args.positions.now c.requires.takes.at c.in-Ok.first.view.extension_block.now c.in-Ok.first.ueb (c.agree.ensures.yes c.if-not-agree.false) c.in-Ok.ensures.one_ueb
    (map (λ s. s.0) c.deref.result.now) (map (λ s. s.1.now) c.deref.result.now) (have_blocks c)

own_leaves : (c : goal.After-drop-blocks) → List (List ℕ)
own_leaves c =
    (lowest_sound c.args.cap.now c.args.shares.now c.requires.takes.taken c.requires.takes.takes c.args.positions.now c.requires.takes.at c.requires.some (0, record { ref_ptr = (0, 0); now = [] })).sections.ciphertext_tree.leaves

leaves_same : (c : goal.After-drop-blocks) → c.leaves_in-leaves.result.now ≡ own_leaves c
unfolding own_leaves
leaves_same c =
    let t = lowest c.args.cap.now c.args.shares.now c.requires.takes.taken c.requires.takes.takes c.args.positions.now c.requires.takes.at c.requires.some (0, record { ref_ptr = (0, 0); now = [] }) in
    let same = c.in-Ok.ensures.complete t.contents t.sections
    (lowest_sound c.args.cap.now c.args.shares.now c.requires.takes.taken c.requires.takes.takes c.args.positions.now c.requires.takes.at c.requires.some (0, record { ref_ptr = (0, 0); now = [] })).reads in
    c.leaves_in-leaves.ensures.leaves
    ∙ tree_leaves c.args.cap.now c.args.shares.now c.requires.takes.taken c.requires.takes.takes c.args.positions.now c.requires.takes.at c.requires.some (0, record { ref_ptr = (0, 0); now = [] })
    c.segment_count.result c.in-Ok.first.view.ciphertext_tree.now
    (c.segment_count.ensures.value ∙ ap segment_count c.in-Ok.ensures.geometry ∙ ap (λ (u : Contents). segment_count (geometry_by u)) same.0)
    (ap (λ (s : Sections). s.ciphertext_tree) same.1)

own_are_leaves : (c : goal.After-drop-blocks) → AreLeaves c.requires.takes.taken (own_leaves c)
unfolding own_leaves
own_are_leaves c =
    are_leaves c.args.cap.now c.args.shares.now c.requires.takes.taken c.requires.takes.takes c.args.positions.now c.requires.takes.at c.requires.some (0, record { ref_ptr = (0, 0); now = [] })

own_count : (c : goal.After-drop-blocks) → length (own_leaves c) ≡ segment_count (geometry_by c.in-Ok.first.ueb)
unfolding own_leaves
own_count c =
    let t = lowest c.args.cap.now c.args.shares.now c.requires.takes.taken c.requires.takes.takes c.args.positions.now c.requires.takes.at c.requires.some (0, record { ref_ptr = (0, 0); now = [] }) in
    let sound = lowest_sound c.args.cap.now c.args.shares.now c.requires.takes.taken c.requires.takes.takes c.args.positions.now c.requires.takes.at c.requires.some (0, record { ref_ptr = (0, 0); now = [] }) in
    sound.sections.ciphertext_tree.count ∙ ap (λ (u : Contents). segment_count (geometry_by u)) (sym (c.in-Ok.ensures.complete t.contents t.sections sound.reads).0)

own_root : (c : goal.After-drop-blocks) → tree_root (own_leaves c) ≡ c.in-Ok.first.ueb.crypttext_root_hash
unfolding own_leaves
own_root c =
    let t = lowest c.args.cap.now c.args.shares.now c.requires.takes.taken c.requires.takes.takes c.args.positions.now c.requires.takes.at c.requires.some (0, record { ref_ptr = (0, 0); now = [] }) in
    let sound = lowest_sound c.args.cap.now c.args.shares.now c.requires.takes.taken c.requires.takes.takes c.args.positions.now c.requires.takes.at c.requires.some (0, record { ref_ptr = (0, 0); now = [] }) in
    sound.sections.ciphertext_tree.root ∙ ap (λ (u : Contents). u.crypttext_root_hash) (sym (c.in-Ok.ensures.complete t.contents t.sections sound.reads).0)

-- the extension block is the cap's, and all have it
ueb_is : (c : goal.After-drop-blocks) → IsUebFor c.args.cap.now c.in-Ok.first.view.extension_block.now c.in-Ok.first.ueb
ueb_is c =
    own_ueb c.args.cap.now (map (λ s. s.0) c.args.shares.now) (map (λ s. s.1.now) c.args.shares.now) c.requires.takes.taken c.requires.takes.takes
    c.args.positions.now c.requires.takes.at c.in-Ok.first.view.extension_block.now c.in-Ok.first.ueb (c.agree.ensures.yes c.if-not-agree.false) c.in-Ok.ensures.one_ueb
    (taken_some c.args.cap.now c.args.shares.now c.requires.takes.taken c.requires.takes.takes c.args.positions.now c.requires.takes.at c.requires.some)

agreed : (c : goal.After-drop-blocks) → Agree c.requires.takes.taken c.in-Ok.first.view.extension_block.now c.in-Ok.first.ueb
agreed c =
    they_agree c.args.cap.now (map (λ s. s.0) c.args.shares.now) (map (λ s. s.1.now) c.args.shares.now) c.requires.takes.taken c.requires.takes.takes
    c.args.positions.now c.requires.takes.at c.in-Ok.first.view.extension_block.now c.in-Ok.first.ueb (c.agree.ensures.yes c.if-not-agree.false) c.in-Ok.ensures.one_ueb

pub returns-clause-decoded : goal.returns-clause-decoded
returns-clause-decoded c =
    IfOk-weaker c.decode_blocks.result _ _ (λ file given.
    subst (IsDecodedFrom c.args.cap.now (map (λ s. s.0) c.args.shares.now) (map (λ s. s.1.now) c.args.shares.now)) (sym given.1) record {
      taken = c.requires.takes.taken;
      takes = c.requires.takes.takes;
      u = c.in-Ok.first.ueb;
      ueb = ueb_is c;
      agree = agreed c;
      geometry = c.in-Ok.ensures.geometry;
      are_leaves = subst (AreLeaves c.requires.takes.taken) (sym (leaves_same c)) (own_are_leaves c);
      count = ap length (leaves_same c) ∙ own_count c;
      ciphertext_root = ap tree_root (leaves_same c) ∙ own_root c;
      share_root = c.share_root_hash-root.ensures;
      decoded = subst (λ (T : Type 0). T) (λ i. DecodeTo (c.in-Ok.ensures.geometry i) (numbers_same c i) (blocks_same c i) file.text) given.0;
    }) c.decode_blocks.ensures.decoded

pub returns-clause-inconsistent : goal.returns-clause-inconsistent
returns-clause-inconsistent c = λ is.
    wrong_segment c.requires.takes.taken c.in-Ok.first.view.extension_block.now c.in-Ok.first.ueb (own_leaves c) c.requires.takes.takes (agreed c) (own_are_leaves c)
    (subst (λ (T : Type 0). T) (λ i. HasWrongSegment (c.in-Ok.ensures.geometry i) (numbers_same c i) (blocks_same c i) (leaves_same c i)) (c.decode_blocks.ensures.inconsistent is))

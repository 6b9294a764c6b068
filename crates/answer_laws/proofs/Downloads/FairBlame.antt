-- Who is blamed for a part or a block had sent other bytes than the share has.
use Rattle.std.proofs.Common.{◌≡◌, ℕ, List, [], length, get_or, Option, Some, IfSome, inl, inr, ap, subst, sym, ◌∙◌, arith}
use Rattle.std.specs.Prelude.{Contains}
use Rattle.tagged_hash.specs.Clash.{HasNoClashIn}
use Rattle.wire.specs.declared.message.Body.TheVariants.{Data}
use Rattle.request_record.specs.declared.requests.Request.{Request}
use Rattle.merkle.specs.Inputs.{tree_inputs}
use Rattle.merkle.specs.Known.{IsKnownInput}
use Rattle.merkle.specs.OneTree.{KnowsTree}
use Rattle.merkle.specs.Partial.{PartialState}
use Rattle.merkle.specs.Tree.{tree_root}
use Rattle.merkle.proofs.HeightLemmas.{height_room}
use Rattle.merkle.proofs.OwnNodes.{known_is_own}
use Rattle.ueb.specs.Shape.{Contents}
use Rattle.share_layout.specs.Geometry.{Geometry, block_size, segment_count}
use Rattle.share_layout.specs.Share.{IsShare, Sections}
use Rattle.share_verify.proofs.SectionLemmas.{length-block_hashes}
use Rattle.download_parts.specs.Trees.{IsBlockTree, KnowsAllOf, known_leaf, share_leaves}
use Rattle.download_file.specs.Changes.{IsSameFile}
use Rattle.download_file.specs.Right.{IsFile, IsReaderOf}
use Rattle.download_file.specs.State.{CopyState, FileState, IsReader, ReaderState, copy, copy_of}
use Rattle.download_file.specs.Tested.{block_node, ciphertext_node, share_node}
use Rattle.answer_laws.specs.Downloads.Answers.{AnswersOwn}
use Rattle.answer_laws.specs.Downloads.FairBlame.{AreOf, AreTestsOf, BlocksAreBlamedFairly, BlocksAreBlamedFairlyIn, IsShareOf, PartsAreBlamedFairly, PartsAreBlamedFairlyIn}
use Rattle.answer_laws.specs.Downloads.OwnReaders.{IsOwnShare, KnowsOwn, own_leaves}
use Rattle.answer_laws.proofs.Downloads.AnswerLemmas.{own_or_other}
use Rattle.answer_laws.proofs.Downloads.OwnReaders.{known_leaf_is, own_blocks_are_right, own_bytes_are_taken}

-- what is hashed for what is known is hashed where more is known
more_inputs : (p q : PartialState) (input : List ℕ) → KnowsAllOf p q → IsKnownInput p input → IsKnownInput q input
more_inputs p q input grows k = record {
  number = k.number;
  left = k.left;
  right = k.right;
  knows_left = grows.known _ _ k.knows_left;
  knows_right = grows.known _ _ k.knows_right;
  is = k.is;
}

-- a file from which the one that was tested went on
module _ (IsOne : List ℕ → Type 0) (no_clash : HasNoClashIn IsOne) (entries : List Request) (old f : FileState) (num : ℕ) (share : List ℕ) (s : Sections) (segments shares : List (List ℕ))
    (tests : AreTestsOf IsOne entries f) (of : IsShareOf IsOne f.handout.geometry f.handout.ueb num share s segments shares) (right : IsFile old) (same : IsSameFile old f) where
  abbrev g : Geometry
  g = old.handout.geometry

  pub own_then : IsOwnShare g num share s segments shares
  own_then = subst (λ (k : Geometry). IsOwnShare k num share s segments shares) same.geometry of.own

  geometry_is : old.handout.trees.geometry ≡ g
  geometry_is = right.handout.roots.geometry

  share_tree_own : KnowsTree old.handout.trees.shares shares
  share_tree_own =
      let t = right.handout.trees in
      known_is_own IsOne no_clash old.handout.trees.shares shares t.shares.sound t.share_hashes
      (t.shares.leaves ∙ ap (λ (k : Geometry). share_leaves k.total) geometry_is ∙ sym own_then.count)
      own_then.hashes
      (λ input k. tests input (share_node (more_inputs old.handout.trees.shares f.handout.trees.shares input same.trees.shares k)))
      of.share_tree
      (right.handout.roots.shares ∙ ap (λ (u : Contents). u.share_root_hash) (sym same.ueb) ∙ of.share_root)

  ciphertext_own : KnowsTree old.handout.trees.ciphertext segments
  ciphertext_own =
      let t = right.handout.trees in
      known_is_own IsOne no_clash old.handout.trees.ciphertext segments t.ciphertext.sound t.hashes
      (t.ciphertext.leaves ∙ ap segment_count geometry_is ∙ sym own_then.ciphertext.count)
      own_then.ciphertext.holds.hashes
      (λ input k. tests input (ciphertext_node (more_inputs old.handout.trees.ciphertext f.handout.trees.ciphertext input same.trees.ciphertext k)))
      of.ciphertext_tree
      (right.handout.roots.ciphertext ∙ ap (λ (u : Contents). u.crypttext_root_hash) (sym same.ueb) ∙ of.ciphertext_root)

  module _ (reader : ℕ) (r : ReaderState) (there : IsReader old reader r) (reads : r.share ≡ num) where
    mine : IsReaderOf old r
    mine = right.readers reader r there

    block_tree_own : (t : PartialState) → r.supply.tree ≡ Some t → KnowsTree t (own_leaves g s)
    block_tree_own t is =
        let tree = subst (λ (o : Option PartialState). IfSome o (λ p. IsBlockTree p (segment_count r.supply.geometry))) is mine.supply.leads in
        let told : known_leaf old.handout.trees.shares r.share ≡ Some t.root = subst (λ (o : Option PartialState). IfSome o (λ p. known_leaf old.handout.trees.shares r.share ≡ Some p.root)) is mine.root in
        let count : old.handout.trees.shares.leaf_count ≡ length shares = right.handout.trees.shares.leaves ∙ ap (λ (k : Geometry). share_leaves k.total) geometry_is ∙ sym own_then.count in
        let room = height_room g.total in
        let low = mine.share in
        let own_count = own_then.count in
        let root : t.root ≡ get_or shares r.share [] = known_leaf_is old.handout.trees.shares shares r.share t.root count share_tree_own (omega (arith, room, low, own_count)) told in
        let now = same.readers reader r there in
        let stays = now.supply.tree t is in
        known_is_own IsOne no_clash t (own_leaves g s) tree.leads.sound tree.hashes
        (tree.leads.leaves ∙ ap segment_count mine.geometry ∙ sym (length-block_hashes (segment_count g) (block_size g) s.blocks))
        own_then.block_tree.hashes
        (λ input k. tests input (block_node reader now.now stays.0 now.there stays.1 (more_inputs t stays.0 input stays.2 k)))
        (subst (λ (k : Geometry). AreOf IsOne (tree_inputs (own_leaves k s))) same.geometry of.block_tree)
        (root ∙ ap (λ (n : ℕ). get_or shares n []) reads ∙ of.leaf ∙ ap (λ (k : Geometry). tree_root (own_leaves k s)) same.geometry)

    pub knows_own : KnowsOwn old.handout r s segments shares
    knows_own = record { block_tree = block_tree_own; ciphertext = ciphertext_own; share_tree = share_tree_own }

share_is : (r : ReaderState) (server share : ℕ) → copy_of r ≡ copy server share → r.share ≡ share
share_is r server share e = ap (λ (c : CopyState). c.share) e

server_is : (r : ReaderState) (server share : ℕ) → copy_of r ≡ copy server share → r.server ≡ server
server_is r server share e = ap (λ (c : CopyState). c.server) e

pub parts_are_fair : (IsOne : List ℕ → Type 0) → PartsAreBlamedFairlyIn IsOne
parts_are_fair IsOne no_clash entries f b share s segments shares tests of fault = elim (own_or_other entries b.server b.share share) [
  | inr other ↦ other
  | inl own ↦
      let r = fault.refused.r in
      let w = fault.refused.first in
      let reads = share_is r b.server b.share fault.reads in
      let mine = own_then IsOne no_clash entries fault.file f b.share share s segments shares tests of fault.right fault.same in
      absurd (own_bytes_are_taken fault.file fault.reader fault.bytes b.check share s segments shares fault.right fault.live fault.refused
      (subst (λ (n : ℕ). IsOwnShare fault.file.handout.geometry n share s segments shares) (sym reads) mine)
      (knows_own IsOne no_clash entries fault.file f b.share share s segments shares tests of fault.right fault.same fault.reader r fault.refused.there reads)
      (own w.position w.wanted.read.offset w.wanted.read.length fault.request fault.bytes fault.there fault.of_server fault.asked fault.answer))
]

pub parts_are_blamed_fairly : PartsAreBlamedFairly
parts_are_blamed_fairly inputs = parts_are_fair (Contains inputs)

pub blocks_are_fair : (IsOne : List ℕ → Type 0) → BlocksAreBlamedFairlyIn IsOne
blocks_are_fair IsOne no_clash entries f b share s segments shares tests of fault = elim (own_or_other entries b.server b.share share) [
  | inr other ↦ other
  | inl own ↦
      let r = fault.refuted.r in
      let reads = share_is r b.server b.share fault.reads in
      let from = server_is r b.server b.share fault.reads in
      let mine = own_then IsOne no_clash entries fault.file f b.share share s segments shares tests of fault.right fault.same in
      let then : AnswersOwn fault.answered b.server b.share share = λ position offset len request bytes at server asked answer.
      own position offset len request bytes (fault.keeps position request (Data bytes) at answer) server asked answer in
      absurd (own_blocks_are_right fault.answered fault.file fault.reader share s fault.right fault.read fault.refuted
      (subst (λ (n : ℕ). AnswersOwn fault.answered n r.share share) (sym from) (subst (λ (n : ℕ). AnswersOwn fault.answered b.server n share) (sym reads) then))
      (subst (λ (n : ℕ). IsShare fault.file.handout.geometry n share s) (sym reads) mine.is)
      ((knows_own IsOne no_clash entries fault.file f b.share share s segments shares tests of fault.right fault.same fault.reader r fault.refuted.there reads).block_tree fault.refuted.tree fault.refuted.is))
]

pub blocks_are_blamed_fairly : BlocksAreBlamedFairly
blocks_are_blamed_fairly inputs = blocks_are_fair (Contains inputs)

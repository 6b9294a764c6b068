use Rattle.std.proofs.Common.{◌≡◌, ℕ, ◌<◌, ◌++◌, arith, List, length, get_or, subst, sym, ◌∙◌, ap}
use Rattle.std.proofs.lemmas.Result.{IfOk-weaker}
use Rattle.merkle.specs.Tree.{height, needed_numbers, tree_nodes}
use Rattle.share_layout.specs.Layout.{offsets_of}
use Rattle.share_layout.specs.Writing.{ending}
use Rattle.file_encoding.specs.Blocks.{numbered}
use Rattle.file_encoding.specs.Drafts.{DraftState}
use Rattle.file_encoding.proofs.Drafting.{hashes_fill}
use Rattle.file_encoding.proofs.Numbers.{needed-inside, nodes-few}
use Rattle.file_encoding.proofs.shares.finish_share.Goals as goal

pub put_numbered-requires-clause-inside : goal.put_numbered-requires-clause-inside
put_numbered-requires-clause-inside c = λ k d below.
    let numbers : c.deref.result.now ≡ needed_numbers (height (length c.args.share_tree.now)) c.args.begun.draft.number =
    c.deref.ensures.value ∙ c.in_ok-numbers.ensures.numbers ∙ ap (needed_numbers (height (length c.args.share_tree.now))) c.number.ensures in
    let inside : c.args.begun.draft.number < length c.args.share_tree.now = omega (arith, c.args.begun.in_range, c.requires.total) in
    subst (λ (nodes : List (List ℕ)). get_or c.deref.result.now k d < length nodes) (sym c.nodes.ensures)
    (subst (λ (ns : List ℕ). k < length ns → get_or ns k d < length (tree_nodes c.args.share_tree.now)) (sym numbers)
    (needed-inside c.args.share_tree.now c.args.begun.draft.number k d inside) below)

pub put_numbered-requires-clause-few : goal.put_numbered-requires-clause-few
put_numbered-requires-clause-few c =
    let few = nodes-few c.args.share_tree.now c.requires.few in
    let same : length c.nodes.result.now ≡ length (tree_nodes c.args.share_tree.now) = ap length c.nodes.ensures in
    omega (arith, few, same)

pub put_numbered-requires-clause-room : goal.put_numbered-requires-clause-room
put_numbered-requires-clause-room c = omega (
  arith,
  c.args.begun.next,
  hashes_fill c.args.begun.draft.geometry c.args.share_tree.now c.deref.result.now c.args.begun.draft.number c.requires.total
      (c.deref.ensures.value ∙ c.in_ok-numbers.ensures.numbers ∙ ap (needed_numbers (height (length c.args.share_tree.now))) c.number.ensures),
)

pub finish-requires-clause-last : goal.finish-requires-clause-last
finish-requires-clause-last c =
    let last : length c.put_numbered.new.draft.bytes ≡ (offsets_of c.args.begun.draft.geometry).extension_block =
    omega (
      arith,
      c.in_ok-put_numbered.ensures.size,
      c.args.begun.next,
      hashes_fill c.args.begun.draft.geometry c.args.share_tree.now c.deref.result.now c.args.begun.draft.number c.requires.total
          (c.deref.ensures.value ∙ c.in_ok-numbers.ensures.numbers ∙ ap (needed_numbers (height (length c.args.share_tree.now))) c.number.ensures),
    ) in
    last ∙ ap (λ (d : DraftState). (offsets_of d.geometry).extension_block) (sym c.in_ok-put_numbered.ensures.bytes)

pub returns : goal.returns
returns c =
    let d : DraftState = c.args.begun.draft in
    let numbers : c.deref.result.now ≡ needed_numbers (height (length c.args.share_tree.now)) d.number =
    c.deref.ensures.value ∙ c.in_ok-numbers.ensures.numbers ∙ ap (needed_numbers (height (length c.args.share_tree.now))) c.number.ensures in
    IfOk-weaker c.finish.result _ _
    (λ share is.
    is ∙ ap (λ (w : DraftState). w.bytes ++ ending w.geometry c.args.extension_block.now) c.in_ok-put_numbered.ensures.bytes
    ∙ λ i. d.bytes ++ numbered (c.nodes.ensures i) (numbers i) ++ ending d.geometry c.args.extension_block.now) c.finish.ensures

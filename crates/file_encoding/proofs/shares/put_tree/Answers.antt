use Rattle.std.proofs.Common.{length, ap, ◌∙◌, arith}
use Rattle.std.proofs.lemmas.List.{length-append}
use Rattle.std.proofs.lemmas.Result.{on_ok_weaker}
use Rattle.file_encoding.specs.Drafts.{DraftState}
use Rattle.file_encoding.proofs.Drafting.{nodes_size}
use Rattle.file_encoding.proofs.shares.put_tree.Goals as goal

pub put-requires : goal.put-requires
put-requires c =
    omega (arith, c.as_flattened.ensures.len, ap length c.nodes.ensures, nodes_size c.args.draft.now.geometry c.args.tree.now c.requires.leaves, c.requires.room)

pub returns-clause-size : goal.returns-clause-size
returns-clause-size c =
    on_ok_weaker c.put.result
    (λ is. ap (λ (d : DraftState). length d.bytes) is ∙ length-append c.args.draft.now.bytes c.as_flattened.result.now
    ∙ omega (arith, c.as_flattened.ensures.len, ap length c.nodes.ensures, nodes_size c.args.draft.now.geometry c.args.tree.now c.requires.leaves)) c.put.ensures

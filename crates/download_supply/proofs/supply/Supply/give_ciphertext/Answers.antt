use Rattle.std.proofs.Common.{◌<◌, subst, sym, rules}
use Rattle.download_parts.specs.Plan.{IsNodePiece}
use Rattle.download_parts.specs.declared.part.NodePiece.{NodePiece}
use Rattle.download_supply.specs.Cursors.{cursor_at}
use Rattle.download_supply.specs.Supply.{SupplyState}
use Rattle.download_supply.proofs.SupplyLemmas.{gives_supply}
use Rattle.download_supply.proofs.supply.Supply.give_ciphertext.Goals as goal

pub invariant_of-self : goal.invariant_of-self
invariant_of-self c =
    gives_supply _ c.args.taken.now c.self.invariant (search rules)
    (subst (λ (s : SupplyState). (p : NodePiece) → p.index < cursor_at c.args.taken.now p.level → IsNodePiece s.geometry s.start s.end p) (sym c.self.view_is) c.requires.pieces)

pub returns-clause-right : goal.returns-clause-right
returns-clause-right c = invariant_of-self c

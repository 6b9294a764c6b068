use Rattle.std.proofs.Common.{subst, sym}
use Rattle.download_parts.specs.declared.part.Part.TheVariants.{CiphertextTree}
use Rattle.download_supply.specs.Supply.{SupplyState}
use Rattle.download_supply.specs.Taking.{IsDue}
use Rattle.download_supply.proofs.TakingLemmas.{ciphertext_taken}
use Rattle.download_supply.proofs.supply.Supply.take_ciphertext.Goals as goal

pub invariant_of-self : goal.invariant_of-self
invariant_of-self c =
    let due = subst (λ (s : SupplyState). IsDue s (CiphertextTree c.args.piece.now)) (sym c.self.view_is) c.requires.due in
    rw c.pass.ensures (ciphertext_taken _ c.args.piece.now c.self.invariant due)

pub returns-clause-right : goal.returns-clause-right
returns-clause-right c = invariant_of-self c

use Rattle.download_supply.proofs.StepLemmas.{asks_at, ciphertext_at, ciphertext_supply}
use Rattle.download_supply.proofs.supply.Supply.wanted_ciphertext.Goals as goal

pub invariant_of-self : goal.invariant_of-self
invariant_of-self c =
    ciphertext_supply _ c.args.self.now c.self.invariant c.in_ok-asked.asked c.self.view_is c.in_ok-asked.wanted.items c.in_ok-asked.ensures.step c.args.last c.in_ok-asked.ensures.exact

pub returns-clause-asks : goal.returns-clause-asks
returns-clause-asks c =
    asks_at _ c.args.self.now c.self.invariant c.in_ok-asked.asked c.self.view_is c.in_ok-asked.wanted.items c.in_ok-asked.ensures.step

pub returns-clause-exact : goal.returns-clause-exact
returns-clause-exact c =
    ciphertext_at _ c.args.self.now c.self.invariant c.in_ok-asked.asked c.self.view_is c.args.last c.in_ok-asked.ensures.exact

pub returns-clause-right : goal.returns-clause-right
returns-clause-right c = invariant_of-self c

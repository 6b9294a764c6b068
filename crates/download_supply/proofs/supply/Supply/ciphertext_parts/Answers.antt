use Rattle.std.proofs.Common.{◌∙◌, ◌<◌, ◌≤◌, ap, subst, arith}
use Rattle.download_supply.specs.Supply.{HaveLevels, SupplyState}
use Rattle.download_supply.proofs.StepLemmas.{ReachesCiphertext, ciphertext_step, exact_ciphertext, reaches_ciphertext}
use Rattle.download_supply.proofs.supply.Supply.ciphertext_parts.Goals as goal

reaches : (c : goal.After-finish) → ReachesCiphertext c.args.self.now c.args.last c.finish.result.0
reaches c =
    subst (λ (s : SupplyState). ReachesCiphertext s c.args.last c.finish.result.0) c.self.view_is
    (reaches_ciphertext _ c.args.last c.of-upto.result.geometry c.of-upto.result.first c.of-upto.result.end c.finish.result.0
    c.new-batch.result.reached c.ask_tree.new.self.reached
    c.new-batch.ensures.reached c.in_ok-ask_tree.ensures.levels c.in_ok-ask_tree.ensures.others
    c.finish.ensures.reached c.of-upto.ensures.geometry c.of-upto.ensures.first c.of-upto.ensures.end)

pub returns-clause-step : goal.returns-clause-step
returns-clause-step c =
    let more = c.in_ok-ask_tree.ensures.more in
    ciphertext_step c.args.self.now c.args.last c.ask_tree.new.self c.finish.result.0 c.finish.result.1.items
    (subst (λ (s : SupplyState). HaveLevels s.asked) c.self.view_is c.self.invariant.asked_levels) c.finish.ensures.right
    (record {
      geometry = more.geometry ∙ c.new-batch.ensures.geometry ∙ c.of.ensures.geometry ∙ ap (λ (s : SupplyState). s.geometry) c.self.view_is;
      first = more.first ∙ c.new-batch.ensures.first ∙ c.of.ensures.first ∙ ap (λ (s : SupplyState). s.start) c.self.view_is;
      end = more.end ∙ c.new-batch.ensures.end ∙ c.of.ensures.end ∙ ap (λ (s : SupplyState). s.end) c.self.view_is;
      begun = more.begun ∙ c.new-batch.ensures.begun ∙ ap (λ (s : SupplyState). s.asked) c.self.view_is;
    })
    c.finish.ensures.reached c.finish.ensures.wanted (reaches c)

pub returns-clause-exact : goal.returns-clause-exact
returns-clause-exact c =
    let from : c.self.inside.start ≤ c.args.last = omega arith in
    let before : c.args.last < c.self.inside.plan.end = omega arith in
    exact_ciphertext c.args.self.now c.args.last c.finish.result.0
    (subst (λ (s : SupplyState). s.start ≤ c.args.last) c.self.view_is from)
    (subst (λ (s : SupplyState). c.args.last < s.end) c.self.view_is before)
    (reaches c)

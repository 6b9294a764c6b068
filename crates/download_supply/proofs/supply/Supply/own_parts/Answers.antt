use Rattle.std.proofs.Common.{◌≡◌, ◌∙◌, ◌≤◌, ap, subst, arith}
use Rattle.download_parts.specs.Plan.{data_pieces}
use Rattle.download_supply.specs.Asking.{IsWithin}
use Rattle.download_supply.specs.Supply.{HaveLevels, SupplyState}
use Rattle.download_supply.proofs.LevelLemmas.{more_still}
use Rattle.download_supply.proofs.PlanLemmas.{data_grows}
use Rattle.download_supply.proofs.StepLemmas.{ReachesOwn, exact_own, own_step, reaches_own}
use Rattle.download_supply.proofs.supply.Supply.own_parts.Goals as goal

pub ask_data-requires : goal.ask_data-requires
ask_data-requires c =
    let p = c.self.inside.plan in
    let end : c.of-upto.result.end ≤ p.end = omega arith in
    let count : c.data_piece_count.result ≡ data_pieces p.geometry p.first c.of-upto.result.end =
    c.data_piece_count.ensures.value ∙ (λ i. data_pieces (c.of-upto.ensures.geometry i) (c.of-upto.ensures.first i) c.of-upto.result.end) in
    let more = more_still _ _ _ c.in_ok-ask_hashes.ensures.more c.in_ok-ask_tree.ensures.more in
    let all : data_pieces c.ask_tree.new.self.geometry c.ask_tree.new.self.first c.ask_tree.new.self.end ≡ data_pieces p.geometry p.first p.end =
    λ i. data_pieces ((more.geometry ∙ c.new-batch.ensures.geometry) i) ((more.first ∙ c.new-batch.ensures.first) i) ((more.end ∙ c.new-batch.ensures.end) i) in
    omega (arith, count, all, data_grows p.geometry p.first c.of-upto.result.end p.end end)

reaches : (c : goal.After-finish) → ReachesOwn c.args.self.now c.args.last c.finish.result.0
reaches c =
    subst (λ (s : SupplyState). ReachesOwn s c.args.last c.finish.result.0) c.self.view_is
    (reaches_own _ c.args.last c.data_piece_count.result c.of-upto.result.geometry c.of-upto.result.first c.of-upto.result.end c.finish.result.0
    c.new-batch.result.reached c.ask_hashes.new.self.reached c.ask_tree.new.self.reached c.ask_data.new.self.reached
    c.new-batch.ensures.reached c.in_ok-ask_hashes.ensures.reached c.in_ok-ask_tree.ensures.levels c.in_ok-ask_tree.ensures.others
    c.in_ok-ask_data.ensures.reached c.finish.ensures.reached c.of-upto.ensures.geometry c.of-upto.ensures.first c.of-upto.ensures.end
    (c.data_piece_count.ensures.value ∙ (λ i. data_pieces (c.of-upto.ensures.geometry i) (c.of-upto.ensures.first i) (c.of-upto.ensures.end i))))

pub returns-clause-step : goal.returns-clause-step
returns-clause-step c =
    let more = more_still _ _ _ (more_still _ _ _ c.in_ok-ask_hashes.ensures.more c.in_ok-ask_tree.ensures.more) c.in_ok-ask_data.ensures.more in
    own_step c.args.self.now c.args.last c.ask_data.new.self c.finish.result.0 c.finish.result.1.items
    (subst (λ (s : SupplyState). HaveLevels s.asked) c.self.view_is c.self.invariant.asked_levels) c.finish.ensures.right
    (record {
      geometry = more.geometry ∙ c.new-batch.ensures.geometry ∙ ap (λ (s : SupplyState). s.geometry) c.self.view_is;
      first = more.first ∙ c.new-batch.ensures.first ∙ ap (λ (s : SupplyState). s.first) c.self.view_is;
      end = more.end ∙ c.new-batch.ensures.end ∙ ap (λ (s : SupplyState). s.end) c.self.view_is;
      begun = more.begun ∙ c.new-batch.ensures.begun ∙ ap (λ (s : SupplyState). s.asked) c.self.view_is;
    })
    c.finish.ensures.reached c.finish.ensures.wanted (reaches c)

pub returns-clause-exact : goal.returns-clause-exact
returns-clause-exact c =
    exact_own c.args.self.now c.args.last c.finish.result.0
    (subst (λ (s : SupplyState). IsWithin s c.args.last) c.self.view_is (record { from = omega arith; before = omega arith }))
    (reaches c)

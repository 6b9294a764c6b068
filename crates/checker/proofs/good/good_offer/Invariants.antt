use Rattle.std.proofs.Common.{◌≡◌, ◌<◌, ℕ, Some, slice_get}
use Rattle.share_reading.specs.declared.verdict.Verdict.TheVariants.{Good}
use Rattle.checker.specs.declared.offers.Offer.{Offer}
use Rattle.checker.specs.declared.offers.Stage.TheVariants.{Ended}
use Rattle.checker.proofs.good.good_offer.Given as goal

-- none before this one is a good share of the number
abbrev pub invariant-loop-offer : goal.invariant-loop-offer
invariant-loop-offer l = (k : ℕ) (o : Offer) → k < l.offer-index → slice_get l.offers k ≡ Some o → o.share ≡ l.number → o.stage ≡ Ended Good → ⊥

-- The number and the name of each refusal of nodes that are offered.
use Rattle.std.specs.Prelude.{ℕ, List, codes}
use Rattle.merkle.specs.declared.error.OfferError.{OfferError}
use Rattle.merkle.specs.declared.error.OfferError.TheVariants.{OutOfMemory, NotConsistent}

-- the number of a refusal
abbrev pub offer_refusal_number : OfferError → ℕ
offer_refusal_number OutOfMemory = 1
offer_refusal_number NotConsistent = 6

-- its name
abbrev pub offer_refusal_text : OfferError → List ℕ
offer_refusal_text OutOfMemory = codes "OutOfMemory"
offer_refusal_text NotConsistent = codes "NotConsistent"

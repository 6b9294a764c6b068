use Rattle.std.proofs.Common.{◌∷◌, [], refl, arith}
use Rattle.lemmas.proofs.Eights.{by_eight}
use Rattle.tagged_hash.specs.TaggedHasher.{HoldsIn}
use Rattle.tagged_hash.specs.declared.tag.Tag.TheVariants.{WholeShare}
use Rattle.tagged_hash.proofs.wholes.WholeHashers.new.Goals as goal

pub returns : goal.returns
returns c = λ j low there. record {
  there = there;
  holds =
      by_eight (λ q. HoldsIn (c.new.result ∷ c.new-2.result ∷ c.new-3.result ∷ c.new-4.result ∷ c.new-5.result ∷ c.new-6.result ∷ c.new-7.result ∷ c.new-8.result ∷ []) q WholeShare [])
      (record { hasher = c.new.result; there = refl; holds = c.new.ensures })
      (record { hasher = c.new-2.result; there = refl; holds = c.new-2.ensures })
      (record { hasher = c.new-3.result; there = refl; holds = c.new-3.ensures })
      (record { hasher = c.new-4.result; there = refl; holds = c.new-4.ensures })
      (record { hasher = c.new-5.result; there = refl; holds = c.new-5.ensures })
      (record { hasher = c.new-6.result; there = refl; holds = c.new-6.ensures })
      (record { hasher = c.new-7.result; there = refl; holds = c.new-7.ensures })
      (record { hasher = c.new-8.result; there = refl; holds = c.new-8.ensures })
      j (omega (arith, low));
}

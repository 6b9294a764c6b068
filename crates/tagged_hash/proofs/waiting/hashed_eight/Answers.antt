use Rattle.std.proofs.Common.{Bor, ◌≡◌, ℕ, ◌<◌, List, [], ◌∷◌, ◌++◌, Some, length, get_or, refl, sym, ap, subst, ◌∙◌, arith}
use Rattle.std.specs.Prelude.{slice_get, slice_index_or}
use Rattle.std.proofs.lemmas.Option.{same_Some, slice_get-get_or}
use Rattle.lemmas.proofs.Eights.{by_eight}
use Rattle.lemmas.proofs.Positions.{got}
use Rattle.sha2_lanes.specs.Stream.{HasMessage, Holds, HoldsIn, Taken, taken_by, with_more}
use Rattle.sha2_lanes.specs.declared.stream.Sha256Stream.{Sha256Stream}
use Rattle.tagged_hash.specs.TaggedHasher.{input_of}
use Rattle.tagged_hash.specs.declared.hasher.TaggedHasher.{TaggedHasher}
use Rattle.tagged_hash.proofs.WaitingLemmas.{one_of}
use Rattle.tagged_hash.proofs.waiting.hashed_eight.Goals as goal

-- one of the eight
one : (hashers : List (Bor Taken)) (j : ℕ) (at : Bor Taken) (made : TaggedHasher) (s : Sha256Stream) (w : List ℕ) (all : List Sha256Stream) (d : Sha256Stream)
    → j < length hashers → at ≡ slice_index_or hashers j at → j < length all → made.input.stream ≡ get_or all j d
    → with_more (taken_by s) w ≡ (slice_index_or hashers j at).now → ∥ HasMessage s ∥₁ → ((m : List ℕ) → Holds s m → HoldsIn all j (m ++ w))
    → (old : Bor Taken) (new : TaggedHasher) → slice_get hashers j ≡ Some old → Some made ≡ Some new → input_of new ≡ old.now
one hashers j at made s w all d low is within of whole some gives old new there made_is =
    let own : at ≡ old = same_Some at old (sym (got hashers j at low is) ∙ there) in
    let same : made ≡ new = same_Some made new made_is in
    subst (λ (x : TaggedHasher). input_of x ≡ old.now) same
    (one_of s w all j made old.now (whole ∙ ap (λ (b : Bor Taken). b.now) (sym is ∙ own)) some gives (slice_get-get_or all j d within ∙ ap Some (sym of)))

pub returns : goal.returns
returns c = λ j old new below there is.
    by_eight (λ q. (old : Bor Taken) (new : TaggedHasher) → slice_get c.args.hashers.now q ≡ Some old
    → slice_get (c.of.result ∷ c.of-2.result ∷ c.of-3.result ∷ c.of-4.result ∷ c.of-5.result ∷ c.of-6.result ∷ c.of-7.result ∷ c.of-8.result ∷ []) q ≡ Some new → input_of new ≡ old.now)
    (one c.args.hashers.now 0 c.index-hashers-0.result c.of.result c.parts.result.0 _ c.update_eight.new.streams _ (omega arith) c.index-hashers-0.is (omega (arith, c.update_eight.array_long))
    c.of.ensures c.parts.ensures.whole c.parts.ensures.some (λ m held. c.update_eight.ensures 0 m (omega arith) (record { stream = c.parts.result.0; there = refl; holds = held })))
    (one c.args.hashers.now 1 c.index-hashers-1.result c.of-2.result c.parts-2.result.0 _ c.update_eight.new.streams _ (omega arith) c.index-hashers-1.is (omega (arith, c.update_eight.array_long))
    c.of-2.ensures c.parts-2.ensures.whole c.parts-2.ensures.some (λ m held. c.update_eight.ensures 1 m (omega arith) (record { stream = c.parts-2.result.0; there = refl; holds = held })))
    (one c.args.hashers.now 2 c.index-hashers-2.result c.of-3.result c.parts-3.result.0 _ c.update_eight.new.streams _ (omega arith) c.index-hashers-2.is (omega (arith, c.update_eight.array_long))
    c.of-3.ensures c.parts-3.ensures.whole c.parts-3.ensures.some (λ m held. c.update_eight.ensures 2 m (omega arith) (record { stream = c.parts-3.result.0; there = refl; holds = held })))
    (one c.args.hashers.now 3 c.index-hashers-3.result c.of-4.result c.parts-4.result.0 _ c.update_eight.new.streams _ (omega arith) c.index-hashers-3.is (omega (arith, c.update_eight.array_long))
    c.of-4.ensures c.parts-4.ensures.whole c.parts-4.ensures.some (λ m held. c.update_eight.ensures 3 m (omega arith) (record { stream = c.parts-4.result.0; there = refl; holds = held })))
    (one c.args.hashers.now 4 c.index-hashers-4.result c.of-5.result c.parts-5.result.0 _ c.update_eight.new.streams _ (omega arith) c.index-hashers-4.is (omega (arith, c.update_eight.array_long))
    c.of-5.ensures c.parts-5.ensures.whole c.parts-5.ensures.some (λ m held. c.update_eight.ensures 4 m (omega arith) (record { stream = c.parts-5.result.0; there = refl; holds = held })))
    (one c.args.hashers.now 5 c.index-hashers-5.result c.of-6.result c.parts-6.result.0 _ c.update_eight.new.streams _ (omega arith) c.index-hashers-5.is (omega (arith, c.update_eight.array_long))
    c.of-6.ensures c.parts-6.ensures.whole c.parts-6.ensures.some (λ m held. c.update_eight.ensures 5 m (omega arith) (record { stream = c.parts-6.result.0; there = refl; holds = held })))
    (one c.args.hashers.now 6 c.index-hashers-6.result c.of-7.result c.parts-7.result.0 _ c.update_eight.new.streams _ (omega arith) c.index-hashers-6.is (omega (arith, c.update_eight.array_long))
    c.of-7.ensures c.parts-7.ensures.whole c.parts-7.ensures.some (λ m held. c.update_eight.ensures 6 m (omega arith) (record { stream = c.parts-7.result.0; there = refl; holds = held })))
    (one c.args.hashers.now 7 c.index-hashers-7.result c.of-8.result c.parts-8.result.0 _ c.update_eight.new.streams _ (omega arith) c.index-hashers-7.is (omega (arith, c.update_eight.array_long))
    c.of-8.ensures c.parts-8.ensures.whole c.parts-8.ensures.some (λ m held. c.update_eight.ensures 7 m (omega arith) (record { stream = c.parts-8.result.0; there = refl; holds = held })))
    j below old new there is

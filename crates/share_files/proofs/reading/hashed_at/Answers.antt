use Rattle.std.proofs.Common.{◌≡◌, Some, refl, arith}
use Rattle.std.specs.Prelude.{slice_get, slice_index}
use Rattle.lemmas.proofs.Eights.{by_eight}
use Rattle.tagged_hash.specs.declared.hasher.TaggedHasher.{TaggedHasher}
use Rattle.tagged_hash.specs.TaggedHasher.{input_of}
use Rattle.share_files.specs.Readings.{HasHasherAt}
use Rattle.share_files.proofs.ReadingLemmas.{hashed_one}
use Rattle.share_files.proofs.reading.hashed_at.Goals as goal

pub returns : goal.returns
returns g c = λ j hashed below is.
    by_eight (λ q. (hashed : TaggedHasher) → slice_get c.hashed_eight.result q ≡ Some hashed → HasHasherAt (slice_index c.args.places.now q) (input_of hashed) c.args.readings.now)
    (λ hashed is. hashed_one c.args.readings.now (slice_index c.args.places.now 0) c.hasher_at.result.now (input_of hashed) c.hasher_at.ensures (c.hashed_eight.ensures 0 c.hasher_at.result hashed (omega arith) refl is))
    (λ hashed is. hashed_one c.args.readings.now (slice_index c.args.places.now 1) c.hasher_at-2.result.now (input_of hashed) c.hasher_at-2.ensures (c.hashed_eight.ensures 1 c.hasher_at-2.result hashed (omega arith) refl is))
    (λ hashed is. hashed_one c.args.readings.now (slice_index c.args.places.now 2) c.hasher_at-3.result.now (input_of hashed) c.hasher_at-3.ensures (c.hashed_eight.ensures 2 c.hasher_at-3.result hashed (omega arith) refl is))
    (λ hashed is. hashed_one c.args.readings.now (slice_index c.args.places.now 3) c.hasher_at-4.result.now (input_of hashed) c.hasher_at-4.ensures (c.hashed_eight.ensures 3 c.hasher_at-4.result hashed (omega arith) refl is))
    (λ hashed is. hashed_one c.args.readings.now (slice_index c.args.places.now 4) c.hasher_at-5.result.now (input_of hashed) c.hasher_at-5.ensures (c.hashed_eight.ensures 4 c.hasher_at-5.result hashed (omega arith) refl is))
    (λ hashed is. hashed_one c.args.readings.now (slice_index c.args.places.now 5) c.hasher_at-6.result.now (input_of hashed) c.hasher_at-6.ensures (c.hashed_eight.ensures 5 c.hasher_at-6.result hashed (omega arith) refl is))
    (λ hashed is. hashed_one c.args.readings.now (slice_index c.args.places.now 6) c.hasher_at-7.result.now (input_of hashed) c.hasher_at-7.ensures (c.hashed_eight.ensures 6 c.hasher_at-7.result hashed (omega arith) refl is))
    (λ hashed is. hashed_one c.args.readings.now (slice_index c.args.places.now 7) c.hasher_at-8.result.now (input_of hashed) c.hasher_at-8.ensures (c.hashed_eight.ensures 7 c.hasher_at-8.result hashed (omega arith) refl is))
    j below hashed is

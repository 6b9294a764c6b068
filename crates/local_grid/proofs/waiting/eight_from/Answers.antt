use Rattle.std.proofs.Common.{Bor, ◌≡◌, ◌%◌, List, [], ◌∷◌, Option, Some, length, refl, sym, subst, arith}
use Rattle.std.specs.Prelude.{slice_get}
use Rattle.std.proofs.lemmas.Option.{same_Some}
use Rattle.lemmas.proofs.Eights.{by_eight}
use Rattle.sha2_lanes.specs.Stream.{Taken}
use Rattle.tagged_hash.specs.declared.hasher.TaggedHasher.{TaggedHasher}
use Rattle.tagged_hash.specs.TaggedHasher.{input_of}
use Rattle.local_grid.specs.Nodes.{NodeState}
use Rattle.local_grid.specs.Waiting.{HasHasherIn}
use Rattle.local_grid.specs.declared.waiting.Place.{Place}
use Rattle.local_grid.proofs.waiting.eight_from.Goals as goal

-- one of the eight
one : {S L : Type 0} (nodes : List (Option (NodeState S L))) (p place : Place) (h : Bor Taken) (hashed : TaggedHasher)
    → HasHasherIn (p.node % length nodes) p.bucket h.now nodes → Some p ≡ Some place → input_of hashed ≡ h.now
    → HasHasherIn (place.node % length nodes) place.bucket (input_of hashed) nodes
one nodes p place h hashed own at is =
    subst (λ (q : Place). HasHasherIn (q.node % length nodes) q.bucket (input_of hashed) nodes) (same_Some p place at)
    (subst (λ (t : Taken). HasHasherIn (p.node % length nodes) p.bucket t nodes) (sym is) own)

pub returns : goal.returns
returns g c = λ j place hashed below at is.
    by_eight (λ q. (place : Place) (hashed : TaggedHasher) → slice_get (c.in-Some.p0 ∷ c.in-Some-waiting_from.p1 ∷ c.in-Some-waiting_from-2.p2 ∷ c.behind_or.result.0 ∷ c.behind_or-2.result.0 ∷ c.behind_or-3.result.0 ∷ c.behind_or-4.result.0 ∷ c.behind_or-5.result.0 ∷ []) q ≡ Some place
    → slice_get c.hashed_eight-hashed.result q ≡ Some hashed
    → HasHasherIn (place.node % length c.args.nodes.now) place.bucket (input_of hashed) c.args.nodes.now)
    (λ place hashed at is. one c.args.nodes.now c.in-Some.p0 place c.in-Some.h0 hashed c.in-Some.ensures at (c.hashed_eight-hashed.ensures 0 c.in-Some.h0 hashed (omega arith) refl is))
    (λ place hashed at is. one c.args.nodes.now c.in-Some-waiting_from.p1 place c.in-Some-waiting_from.h1 hashed c.in-Some-waiting_from.ensures at (c.hashed_eight-hashed.ensures 1 c.in-Some-waiting_from.h1 hashed (omega arith) refl is))
    (λ place hashed at is. one c.args.nodes.now c.in-Some-waiting_from-2.p2 place c.in-Some-waiting_from-2.h2 hashed c.in-Some-waiting_from-2.ensures at (c.hashed_eight-hashed.ensures 2 c.in-Some-waiting_from-2.h2 hashed (omega arith) refl is))
    (λ place hashed at is. one c.args.nodes.now c.behind_or.result.0 place c.behind_or.result.1 hashed c.behind_or.ensures at (c.hashed_eight-hashed.ensures 3 c.behind_or.result.1 hashed (omega arith) refl is))
    (λ place hashed at is. one c.args.nodes.now c.behind_or-2.result.0 place c.behind_or-2.result.1 hashed c.behind_or-2.ensures at (c.hashed_eight-hashed.ensures 4 c.behind_or-2.result.1 hashed (omega arith) refl is))
    (λ place hashed at is. one c.args.nodes.now c.behind_or-3.result.0 place c.behind_or-3.result.1 hashed c.behind_or-3.ensures at (c.hashed_eight-hashed.ensures 5 c.behind_or-3.result.1 hashed (omega arith) refl is))
    (λ place hashed at is. one c.args.nodes.now c.behind_or-4.result.0 place c.behind_or-4.result.1 hashed c.behind_or-4.ensures at (c.hashed_eight-hashed.ensures 6 c.behind_or-4.result.1 hashed (omega arith) refl is))
    (λ place hashed at is. one c.args.nodes.now c.behind_or-5.result.0 place c.behind_or-5.result.1 hashed c.behind_or-5.ensures at (c.hashed_eight-hashed.ensures 7 c.behind_or-5.result.1 hashed (omega arith) refl is))
    j below place hashed at is

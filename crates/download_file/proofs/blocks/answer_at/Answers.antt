use Rattle.std.proofs.Common.{◌≡◌, ℕ, List, [], Option, Some, None, Bor, IfSome, IfNone, refl, sym, ap, subst, ◌∙◌}
use Rattle.std.specs.Prelude.{slice_get}
use Rattle.wire.specs.declared.message.Body.TheVariants.{Data}
use Rattle.request_record.specs.declared.requests.Outcome.{Outcome}
use Rattle.request_record.specs.declared.requests.Outcome.TheVariants.{Answered}
use Rattle.request_record.specs.declared.requests.Request.{Request}
use Rattle.request_record.specs.Kept.{IsDataAt}
use Rattle.download_file.specs.Answers.{answer_at, bytes_in, bytes_of}
use Rattle.download_file.proofs.blocks.answer_at.Goals as goal

some_answer : (entries : List Request) (position : ℕ) (bytes : List ℕ) → IsDataAt entries position bytes → bytes ≡ answer_at entries position
some_answer entries position bytes d = sym (ap bytes_of d.there ∙ ap bytes_in d.answer)

no_answer : (entries : List Request) (position : ℕ) → ((bytes : List ℕ) → IsDataAt entries position bytes → ⊥) → [] ≡ answer_at entries position
no_answer entries position none = at (slice_get entries position) refl
  where
    of_outcome : (r : Request) → slice_get entries position ≡ Some r → (o : Outcome) → r.outcome ≡ o → [] ≡ bytes_in o
    of_outcome r there (Answered (Data bytes)) is = absurd (none bytes (record { request = r; there = there; answer = is }))
    of_outcome r there o is = refl

    at : (o : Option Request) → slice_get entries position ≡ o → [] ≡ bytes_of o
    at None there = refl
    at (Some r) there = of_outcome r there r.outcome refl

pub returns-in-Some : goal.returns-in-Some
returns-in-Some c =
    some_answer c.args.requests.now.entries c.args.position _ (subst (λ (o : Option (Bor (List ℕ))). IfSome o (λ bytes. IsDataAt c.args.requests.now.entries c.args.position bytes.now)) c.in-Some.is c.bytes_at.ensures.some)

pub returns-in-None : goal.returns-in-None
returns-in-None c =
    no_answer c.args.requests.now.entries c.args.position (subst (λ (o : Option (Bor (List ℕ))). IfNone o ((bytes : List ℕ) → IsDataAt c.args.requests.now.entries c.args.position bytes → ⊥)) c.in-None.is c.bytes_at.ensures.none)

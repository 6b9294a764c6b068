use Rattle.std.proofs.Common.{◌≡◌, ◌∙◌, ℕ, Some, None, ap, sym}
use Rattle.std.specs.Prelude.{slice_get}
use Rattle.std.proofs.lemmas.Bool.{false≢true}
use Rattle.lemmas.proofs.Options.{one_there}
use Rattle.request_record.specs.Record.{was_sent_again_in}
use Rattle.request_record.specs.Written.{kept}
use Rattle.download_file.specs.State.{first_waiting}
use Rattle.download_core.proofs.pressing.is_late.Goals as goal

pub returns-in-Some : goal.returns-in-Some
returns-in-Some c =
    let here : first_waiting c.args.file.now c.args.reader ≡ Some c.in-Some.position = sym c.first_waiting.ensures.value ∙ c.in-Some.is in (
      (λ yes. record { position = c.in-Some.position; first = here; again = sym c.was_sent_again.ensures ∙ yes }),
      (λ k.
          let one : k.position ≡ c.in-Some.position = one_there (first_waiting c.args.file.now c.args.reader) k.position c.in-Some.position k.first here in
          c.was_sent_again.ensures ∙ ap (λ (p : ℕ). was_sent_again_in (kept (slice_get c.args.requests.now.entries p))) (sym one) ∙ k.again),
    )

pub returns-in-None : goal.returns-in-None
returns-in-None c = (
  (λ yes. absurd (false≢true yes)),
  (λ k. absurd (let two : None ≡ Some k.position = sym c.in-None.is ∙ c.first_waiting.ensures.value ∙ k.first in cc)),
)

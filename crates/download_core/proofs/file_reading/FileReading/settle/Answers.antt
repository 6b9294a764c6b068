use Rattle.download_shares.proofs.Caused.{adds_none}
use Rattle.download_core.specs.ReadingCauses.{IsBlockFault}
use Rattle.download_core.proofs.Causes.{settled_causes}
use Rattle.std.proofs.Common.{◌≡◌, ◌∙◌, ◌⊎◌, inl, inr, true≢false, Ok, refl, sym, subst, ap}
use Rattle.std.specs.Prelude.{Result}
use Rattle.std.specs.declared.alloc.AllocError.{AllocError}
use Rattle.download_file.specs.State.{IsComplete}
use Rattle.download_file.specs.declared.file.Made.TheVariants as made_as
use Rattle.download_core.specs.ReadingState.{ReadingState}
use Rattle.download_core.specs.declared.file_reading.Settled.{Settled}
use Rattle.download_core.specs.declared.file_reading.Settled.TheVariants.{Complete, Inconsistent, Waits, TooFew}
use Rattle.download_core.proofs.Ended.{continues_none, continues_trans}
use Rattle.download_core.proofs.Gone.{prompt_now}
use Rattle.download_core.proofs.file_reading.FileReading.settle.Goals as goal

same_settled : (a b : Settled) → ◌≡◌ {A = Result Settled AllocError} (Ok a) (Ok b) → a ≡ b
same_settled a b e = cc

other_than : (a b : Settled) → (a ≡ Waits) ⊎ (a ≡ TooFew) → a ≡ b → (Waits ≡ b → ⊥) → (TooFew ≡ b → ⊥) → ⊥
other_than a b (inl w) e first second = first (sym w ∙ e)
other_than a b (inr w) e first second = second (sym w ∙ e)

pub loop-self-init : goal.loop-self-init
loop-self-init c = record { reading = c.requires.reading; causes = adds_none (IsBlockFault c.args.beginnings.now.holdings.requests.entries c.args.self.now.file) c.args.beginnings.now.holdings.blamed c.args.beginnings.now.holdings.blamed refl; continues = continues_none c.args.beginnings.now c.args.self.now }

pub go_on-requires-clause-more : goal.go_on-requires-clause-more
go_on-requires-clause-more c complete =
    true≢false (sym (c.loop-self-test.ensures.complete.1 (subst (λ (x : ReadingState). IsComplete x.file) (sym c.self.view_is) complete)))

pub returns-in_err-go_on-clause-continues : goal.returns-in_err-go_on-clause-continues
returns-in_err-go_on-clause-continues c =
    continues_trans c.args.beginnings.now c.loop-self.beginnings c.go_on.new.beginnings c.args.self.now c.loop-self.self c.go_on.new.self c.loop-self.invariant.continues c.go_on.ensures.continues

pub loop-self-smaller : goal.loop-self-smaller
loop-self-smaller c = elim c.in-Ready.is [
  | inl ready ↦ c.go_on.ensures.ready (c.in_ok-go_on.was ∙ ap Ok ready)
  | inr wrong ↦ c.go_on.ensures.wrong wrong.0 (c.in_ok-go_on.was ∙ ap Ok wrong.1)
]

pub loop-self-preserved : goal.loop-self-preserved
loop-self-preserved c = record {
  reading = c.in_ok-go_on.ensures.reading;
  causes = settled_causes c.args.beginnings.now c.loop-self.beginnings c.go_on.new.beginnings c.loop-self.self c.go_on.new.self c.go_on.ensures.continues c.loop-self.invariant.causes c.go_on.ensures.causes;
  continues = continues_trans c.args.beginnings.now c.loop-self.beginnings c.go_on.new.beginnings c.args.self.now c.loop-self.self c.go_on.new.self c.loop-self.invariant.continues c.go_on.ensures.continues;
}

pub returns-in-Inconsistent-clause-continues : goal.returns-in-Inconsistent-clause-continues
returns-in-Inconsistent-clause-continues c =
    continues_trans c.args.beginnings.now c.loop-self.beginnings c.go_on.new.beginnings c.args.self.now c.loop-self.self c.go_on.new.self c.loop-self.invariant.continues c.go_on.ensures.continues

pub returns-in-Inconsistent-clause-complete : goal.returns-in-Inconsistent-clause-complete
returns-in-Inconsistent-clause-complete c = (
  (λ e. (let two : Inconsistent ≡ Complete = e in absurd cc)),
  λ complete. absurd (c.go_on.ensures.more made_as.Inconsistent (c.in_ok-go_on.was ∙ ap Ok c.in-Inconsistent.is) (λ f. cc) complete),
)

pub returns-in-Inconsistent-clause-inconsistent : goal.returns-in-Inconsistent-clause-inconsistent
returns-in-Inconsistent-clause-inconsistent c e = c.go_on.ensures.inconsistent (c.in_ok-go_on.was ∙ ap Ok c.in-Inconsistent.is)

pub returns-in-Inconsistent-clause-no_code_word : goal.returns-in-Inconsistent-clause-no_code_word
returns-in-Inconsistent-clause-no_code_word c e = c.go_on.ensures.no_code_word (c.in_ok-go_on.was ∙ ap Ok c.in-Inconsistent.is)

pub why_not-requires-clause-stuck : goal.why_not-requires-clause-stuck
why_not-requires-clause-stuck c = c.go_on.ensures.stuck (c.in_ok-go_on.was ∙ ap Ok c.in-Waits.is)

pub returns-in-Waits-clause-continues : goal.returns-in-Waits-clause-continues
returns-in-Waits-clause-continues c =
    continues_trans c.args.beginnings.now c.loop-self.beginnings c.go_on.new.beginnings c.args.self.now c.loop-self.self c.go_on.new.self c.loop-self.invariant.continues c.go_on.ensures.continues

pub returns-in-Waits-clause-complete : goal.returns-in-Waits-clause-complete
returns-in-Waits-clause-complete c = (
  (λ e. absurd (other_than c.why_not.result Complete c.why_not.ensures.only e (λ f. cc) (λ f. cc))),
  λ complete. absurd (c.go_on.ensures.more made_as.Waits (c.in_ok-go_on.was ∙ ap Ok c.in-Waits.is) (λ f. cc) complete),
)

pub returns-in-Waits-clause-inconsistent : goal.returns-in-Waits-clause-inconsistent
returns-in-Waits-clause-inconsistent c e = absurd (other_than c.why_not.result Inconsistent c.why_not.ensures.only (same_settled c.why_not.result Inconsistent e) (λ f. cc) (λ f. cc))

pub returns-in-Waits-clause-no_code_word : goal.returns-in-Waits-clause-no_code_word
returns-in-Waits-clause-no_code_word c e = absurd (other_than c.why_not.result Inconsistent c.why_not.ensures.only (same_settled c.why_not.result Inconsistent e) (λ f. cc) (λ f. cc))

pub returns-in-Waits-clause-waits : goal.returns-in-Waits-clause-waits
returns-in-Waits-clause-waits c e = c.why_not.ensures.waits (same_settled c.why_not.result Waits e)

pub returns-in-Waits-clause-prompt : goal.returns-in-Waits-clause-prompt
returns-in-Waits-clause-prompt c e =
    let waits = c.in_ok-go_on.was ∙ ap Ok c.in-Waits.is in
    prompt_now c.args.patient c.go_on.new.beginnings c.go_on.new.self c.in_ok-go_on.ensures.reading (c.go_on.ensures.must waits) (c.go_on.ensures.asked_up waits)

pub returns-in-Waits-clause-too_few : goal.returns-in-Waits-clause-too_few
returns-in-Waits-clause-too_few c e = c.why_not.ensures.too_few (same_settled c.why_not.result TooFew e)

pub returns-clause-complete : goal.returns-clause-complete
returns-clause-complete c = (
  (λ e. subst (λ (x : ReadingState). IsComplete x.file) c.self.view_is (c.loop-self-test.ensures.complete.0 refl)),
  λ complete. refl,
)

pub returns-in_err-go_on-clause-causes : goal.returns-in_err-go_on-clause-causes
returns-in_err-go_on-clause-causes c =
    settled_causes c.args.beginnings.now c.loop-self.beginnings c.go_on.new.beginnings c.loop-self.self c.go_on.new.self c.go_on.ensures.continues c.loop-self.invariant.causes c.go_on.ensures.causes

pub returns-in-Inconsistent-clause-causes : goal.returns-in-Inconsistent-clause-causes
returns-in-Inconsistent-clause-causes c =
    settled_causes c.args.beginnings.now c.loop-self.beginnings c.go_on.new.beginnings c.loop-self.self c.go_on.new.self c.go_on.ensures.continues c.loop-self.invariant.causes c.go_on.ensures.causes

pub returns-in-Waits-clause-causes : goal.returns-in-Waits-clause-causes
returns-in-Waits-clause-causes c =
    settled_causes c.args.beginnings.now c.loop-self.beginnings c.go_on.new.beginnings c.loop-self.self c.go_on.new.self c.go_on.ensures.continues c.loop-self.invariant.causes c.go_on.ensures.causes

use Rattle.std.proofs.Common.{◌≡◌, ◌↔◌, List, ℕ, Result, Err, ap, sym, subst, ◌∙◌}
use Rattle.std.specs.Result.{IfOk}
use Rattle.cap_text.specs.Cap.{VerifyCapValue}
use Rattle.share_verify.specs.declared.check.Check.{Check}
use Rattle.share_reading.specs.Refusal.{IsRefused, check_of}
use Rattle.share_reading.specs.declared.error.OpeningError.{OpeningError}
use Rattle.share_reading.specs.declared.opening.Opening.{Opening}
use Rattle.share_reading.specs.declared.opening.Progress as opening
use Rattle.share_reading.specs.Reading.{Advances, IsStop}
use Rattle.share_reading.specs.declared.reading.ShareReading.{ShareReading}
use Rattle.share_reading.specs.declared.reading.Progress.{Progress}
use Rattle.share_reading.specs.declared.reading.ShareReading.TheVariants.{Beginning}
use Rattle.share_reading.proofs.reading.ShareReading.take.Goals as goal

abbrev Told : Check → Result Progress Check
Told check = Err check

abbrev Found : OpeningError → Result opening.Progress OpeningError
Found error = Err error

same_check : (a b : Check) → Told a ≡ Told b → a ≡ b
same_check a b e = cc

same_error : (a b : OpeningError) → Found a ≡ Found b → a ≡ b
same_error a b e = cc

stops : (cap : VerifyCapValue) (o : Opening) (reading : ShareReading) (bytes : List ℕ) (r : Result opening.Progress OpeningError) (error : OpeningError) (found : Check)
    → reading ≡ Beginning o → ((e : OpeningError) → (r ≡ Err e) ↔ IsRefused cap o bytes e) → r ≡ Err error → found ≡ check_of error
    → (check : Check) → (Told found ≡ Err check) ↔ IsStop cap reading bytes check
stops cap o reading bytes r error found is refused at of check =
    subst (λ (x : ShareReading). (Told found ≡ Err check) ↔ IsStop cap x bytes check) (sym is) (
      λ e. (error, (refused error).0 at, sym (same_check found check e) ∙ of),
      λ why.
          let same : error ≡ why.0 = same_error error why.0 (sym at ∙ (refused why.0).1 why.1) in
          ap Told (of ∙ ap check_of same ∙ sym why.2),
    )

pub returns-in-Err-clause-refused : goal.returns-in-Err-clause-refused
returns-in-Err-clause-refused c =
    stops c.args.cap.now c.in-Beginning.opening c.args.self.now c.args.bytes.now c.take.result c.in-Err.error c.check.result
    c.in-Beginning.is c.take.ensures.refused c.in-Err.is c.check.ensures

pub returns-in-Remaining-clause-taken : goal.returns-in-Remaining-clause-taken
returns-in-Remaining-clause-taken c =
    subst (λ (x : ShareReading). IfOk c.take-in-Remaining.result (Advances c.args.cap.now x c.args.bytes.now)) (sym c.in-Remaining.is)
    (c.take-in-Remaining.ensures.taken c.args.cap.now)

pub returns-in-Remaining-clause-refused : goal.returns-in-Remaining-clause-refused
returns-in-Remaining-clause-refused c =
    subst (λ (x : ShareReading). (check : Check) → (c.take-in-Remaining.result ≡ Err check) ↔ IsStop c.args.cap.now x c.args.bytes.now check) (sym c.in-Remaining.is)
    (c.take-in-Remaining.ensures.refused c.args.cap.now)

use Rattle.std.proofs.Common.{◌≡◌, map, Result, Ok, Err, IsErrAnd, MatchResult, rules, ◌∙◌}
use Rattle.file_encoding.specs.declared.reading.ReadError.{ReadError}
use Rattle.file_encoding.specs.declared.reading.ReadError.TheVariants.{OutOfMemory}
use Rattle.file_encoding.specs.Regenerated.{inconsistent}
use Rattle.file_encoding.proofs.repair.regenerate_all.Goals as goal

pub returns-in_err-file-clause-inconsistent : goal.returns-in_err-file-clause-inconsistent
returns-in_err-file-clause-inconsistent c = λ is. inconsistent (c.in_err-file.ensures.inconsistent (search rules))

pub returns-clause-made : goal.returns-clause-made
returns-clause-made c =
    c.make_shares.ensures.regenerated c.args.cap.now (map (λ s. s.0) c.args.shares.now) (map (λ s. s.1.now) c.args.shares.now) c.in_ok-file.ensures.decoded

pub returns-clause-inconsistent : goal.returns-clause-inconsistent
returns-clause-inconsistent c =
    c.make_shares.ensures.inconsistent c.args.cap.now (map (λ s. s.0) c.args.shares.now) (map (λ s. s.1.now) c.args.shares.now) c.in_ok-file.ensures.decoded

told_memory : {T : Type 0} (P : T → Type 0) (r : Result T ReadError) (e : ReadError) → IsErrAnd r (λ refusal. refusal ≡ e) → e ≡ OutOfMemory
    → MatchResult r P (λ refusal. refusal ≡ OutOfMemory)
told_memory P (Ok value) e gives is = absurd gives
told_memory P (Err refusal) e gives is = gives ∙ is

pub returns-in_err-file-clause-own : goal.returns-in_err-file-clause-own
returns-in_err-file-clause-own c = λ file secret p good.
    told_memory _ c.from_residual.result c.in_err-file.field-0.0 c.from_residual.ensures.1 (c.in_err-file.ensures.good file secret p good)

pub returns-clause-own : goal.returns-clause-own
returns-clause-own c =
    c.make_shares.ensures.own c.args.cap.now (map (λ s. s.0) c.args.shares.now) (map (λ s. s.1.now) c.args.shares.now) c.in_ok-file.ensures.decoded

pub returns-clause-pass : goal.returns-clause-pass
returns-clause-pass c =
    c.make_shares.ensures.pass c.args.cap.now (map (λ s. s.0) c.args.shares.now) (map (λ s. s.1.now) c.args.shares.now) c.in_ok-file.ensures.decoded

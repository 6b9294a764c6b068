use Rattle.std.proofs.Common.{[], ◌≡◌, ℕ, ◌<◌, Err, length, map, get_or, Result, Ok, List, MatchResult, IsErrAnd, IsErrOf, rules, refl, sym, ap, subst, ◌∙◌, arith}
use Rattle.file_encoding.specs.declared.reading.ReadError.{ReadError}
use Rattle.file_encoding.specs.declared.reading.ReadError.TheVariants as all
use Rattle.file_encoding.specs.declared.repair.RegenerateError.{RegenerateError}
use Rattle.file_encoding.specs.declared.repair.RegenerateError.TheVariants.{Inconsistent}
use Rattle.file_encoding.specs.RegenerateError.{refusal_of_all}
use Rattle.file_encoding.specs.declared.repair.RegenerateError.TheVariants.{OutOfMemory}
use Rattle.share_verify.specs.Verify.{IsSoundShare}
use Rattle.std.proofs.lemmas.List.{get_or_default}
use Rattle.file_encoding.proofs.Making.{length-regenerated}
use Rattle.file_encoding.proofs.repair.regenerate.Goals as goal

pub swap_remove-requires : goal.swap_remove-requires
swap_remove-requires c =
    let count : length c.in_ok-made.made.items ≡ c.args.cap.now.total =
    length-regenerated c.args.cap.now (map (λ s. s.0) c.args.shares.now) (map (λ s. s.1.now) c.args.shares.now) c.in_ok-made.made.items c.in_ok-made.ensures.made in
    omega (arith, count, c.in_ok-made.made.ok, c.from.ensures, c.if-num-total.false, c.total.ensures.value)

pub returns-clause-share : goal.returns-clause-share
returns-clause-share c =
    let count : length c.in_ok-made.made.items ≡ c.args.cap.now.total =
    length-regenerated c.args.cap.now (map (λ s. s.0) c.args.shares.now) (map (λ s. s.1.now) c.args.shares.now) c.in_ok-made.made.items c.in_ok-made.ensures.made in
    let there : c.args.num < c.args.cap.now.total = omega (arith, c.if-num-total.false, c.total.ensures.value) in
    record {
      shares = c.in_ok-made.made.items;
      made = c.in_ok-made.ensures.made;
      there = there;
      is =
          c.into_vec.ensures ∙ c.swap_remove.ensures.value
          ∙ ap (λ (n : ℕ). get_or c.in_ok-made.made.items n c.swap_remove.result) c.from.ensures
          ∙ get_or_default c.in_ok-made.made.items c.args.num _ _ (omega (arith, there, count));
    }

only_inconsistent : (e : ReadError) → refusal_of_all e ≡ Inconsistent → e ≡ all.Inconsistent
only_inconsistent all.OutOfMemory is = absurd cc
only_inconsistent all.NotEnoughShares is = absurd cc
only_inconsistent all.Inconsistent is = refl

told : {T : Type 0} (r : Result T RegenerateError) (e : ReadError) (x : RegenerateError) → IsErrAnd r (λ refusal. refusal ≡ refusal_of_all e) → IsErrOf r x → refusal_of_all e ≡ x
told (Ok value) e x gives of = absurd (search rules)
told (Err refusal) e x gives of = (let same : refusal ≡ x = search rules in sym gives ∙ same)

pub returns-in_err-made-clause-inconsistent : goal.returns-in_err-made-clause-inconsistent
returns-in_err-made-clause-inconsistent c = λ is.
    let e : refusal_of_all c.in_err-made.field-0.0 ≡ Inconsistent = told c.from_residual.result c.in_err-made.field-0.0 Inconsistent c.from_residual.ensures.1 is in
    c.in_err-made.ensures.inconsistent (ap Err (only_inconsistent c.in_err-made.field-0.0 e))

pub returns-clause-own : goal.returns-clause-own
unfolding returns-clause-share
returns-clause-own c = λ file secret p good below.
    (returns-clause-share c).is ∙ ap (λ (shares : List (List ℕ)). get_or shares c.args.num []) (c.in_ok-made.ensures.own file secret p good)

pub returns-clause-passes : goal.returns-clause-passes
unfolding returns-clause-share
returns-clause-passes c =
    subst (λ (share : List ℕ). IsSoundShare c.args.cap.now c.args.num share) (sym (returns-clause-share c).is)
    (c.in_ok-made.ensures.pass.sound c.args.num (omega (arith, c.if-num-total.false, c.total.ensures.value)))

told_memory : {T : Type 0} (P : T → Type 0) (r : Result T RegenerateError) (e : ReadError) → IsErrAnd r (λ refusal. refusal ≡ refusal_of_all e) → e ≡ all.OutOfMemory
    → MatchResult r P (λ refusal. refusal ≡ OutOfMemory)
told_memory P (Ok value) e gives is = absurd (search rules)
told_memory P (Err refusal) e gives is = gives ∙ ap refusal_of_all is

pub returns-in_err-made-clause-own : goal.returns-in_err-made-clause-own
returns-in_err-made-clause-own c = λ file secret p good below.
    told_memory _ c.from_residual.result c.in_err-made.field-0.0 c.from_residual.ensures.1 (c.in_err-made.ensures.own file secret p good)

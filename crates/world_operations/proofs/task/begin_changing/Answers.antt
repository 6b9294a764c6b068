use Rattle.std.proofs.Common.{◌≡◌, Err, length, refl, rules, subst}
use Rattle.std.specs.Prelude.{IsErrOf}
use Rattle.sources.specs.Texts.{Changing as TwoTexts, GivesChanging}
use Rattle.file_encoding.specs.Params.{parameters_of}
use Rattle.file_streaming.specs.Prepared.{PassesDiffer, key_for}
use Rattle.file_streaming.specs.declared.error.PrepareError.{PrepareError}
use Rattle.world_operations.specs.Jobs.{changing}
use Rattle.world_operations.proofs.Changing.{changing_fails}
use Rattle.world_operations.proofs.task.begin_changing.Goals as goal

told : {T : Type 0} (e x : PrepareError) → e ≡ x → IsErrOf {T = T} (Err e) x
told {T} e x is = subst (λ (y : PrepareError). IsErrOf {T = T} (Err e) y) is refl

pub returns-in-Err-SourceChanged-clause-begins : goal.returns-in-Err-SourceChanged-clause-begins
returns-in-Err-SourceChanged-clause-begins c = λ nodes.
    let same : length c.args.other.now ≡ length c.args.file.now = search rules in
    let source : c.in_ok-source.source ≡ changing c.args.file.now c.args.other.now c.args.after = c.in_ok-source.ensures in
    let differ = c.in-Err-SourceChanged.ensures.changed (told c.in-Err-SourceChanged.field-0 _ c.in-Err-SourceChanged.field-0-is) in (
      refl,
      changing_fails c.args.file.now c.args.other.now c.args.after c.args.secret.now c.args.params.now differ.0 same
          (subst (λ (s : TwoTexts). PassesDiffer GivesChanging (length s.file) s (λ text. key_for text c.args.secret.now (parameters_of c.args.params.now)) differ.0) source differ.1),
    )

use Rattle.std.proofs.Common.{◌∙◌, ap}
use Rattle.std.proofs.lemmas.Result.{IfOk-weaker}
use Rattle.clap.specs.Simple.{app_of_fields, new_shape}
use Rattle.grid_words.specs.Builds.{HasShape}
use Rattle.grid_words.proofs.Added.{added_all}
use Rattle.grid_words.proofs.commands.command.Goals as goal

pub returns : goal.returns
returns c =
    let bare : HasShape (new_shape c.args.name.now) c.after_help-bare.result = (
      ap app_of_fields c.after_help-bare.ensures ∙ ap app_of_fields c.about.ensures ∙ c.new.ensures.app,
      ap (λ f. f.has_globals) c.after_help-bare.ensures ∙ ap (λ f. f.has_globals) c.about.ensures ∙ c.new.ensures.local,
    ) in
    λ rules have. IfOk-weaker c.args-2.result _ _ (λ r adds. added_all _ r _ rules (new_shape c.args.name.now) adds have bare) c.args-2.ensures

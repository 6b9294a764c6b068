use Rattle.std.proofs.Common.{◌≡◌, ◌∙◌, ap, codes, true}
use Rattle.clap.specs.Simple.{App, app_of, app_of_fields, new_app}
use Rattle.grid_words.specs.CommandLine.{bare_app}
use Rattle.grid_words.proofs.commands.bare_command.Goals as goal

pub returns : goal.returns
returns c =
    let named : app_of c.in_ok-command.command ≡ new_app (codes "grid") = ap app_of_fields c.in_ok-command.ensures.0 ∙ c.new.ensures.app in
    let versioned : app_of c.after_help.result ≡ record (new_app (codes "grid")) { top = record (new_app (codes "grid")).top { has_version = true } } =
    ap app_of_fields c.after_help.ensures ∙ ap app_of_fields c.about.ensures ∙ ap app_of_fields c.version.ensures
    ∙ ap (λ (a : App). record a { top = record a.top { has_version = true } }) named in
    let built : app_of c.arg_required_else_help.result ≡ bare_app =
    ap app_of_fields c.arg_required_else_help.ensures
    ∙ ap (λ (a : App). record a { top = record a.top { arg_required_else_help = true } }) (ap app_of_fields c.subcommand_required.ensures
    ∙ ap (λ (a : App). record a { top = record a.top { subcommand_required = true } }) versioned) in (
      built,
      ap (λ f. f.has_globals) c.arg_required_else_help.ensures ∙ ap (λ f. f.has_globals) c.subcommand_required.ensures ∙ ap (λ f. f.has_globals) c.after_help.ensures
          ∙ ap (λ f. f.has_globals) c.about.ensures ∙ ap (λ f. f.has_globals) c.version.ensures ∙ ap (λ f. f.has_globals) c.in_ok-command.ensures.0 ∙ c.new.ensures.local,
    )

use Rattle.std.proofs.Common.{◌≡◌, rules, ap, sym, ◌∙◌}
use Rattle.std.specs.Prelude.{codes}
use Rattle.std.specs.String.{string_bytes}
use Rattle.share_folders.proofs.Taking.{named_at}
use Rattle.share_folders.proofs.listing.has_readonly.Goals as goal

pub returns-then-eq : goal.returns-then-eq
returns-then-eq c =
    let text = c.as_str.ensures.value ∙ ap string_bytes c.name-item.is in
    let same : c.as_str.result.now ≡ codes "readonly" = search rules in
    λ there. named_at string_bytes c.args.names.now c.loop-name.name-index c.name-item.result (codes "readonly") c.loop-name-test.true (sym text ∙ same)

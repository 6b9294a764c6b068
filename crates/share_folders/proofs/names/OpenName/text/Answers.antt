use Rattle.std.specs.Prelude.{Some, None}
use Rattle.std.specs.String.{string_bytes}
use Rattle.share_folders.proofs.Lasting.{passes_if}
use Rattle.share_folders.proofs.names.OpenName.text.Goals as goal

pub returns-in-None-clause-passing : goal.returns-in-None-clause-passing
returns-in-None-clause-passing c = passes_if string_bytes c.ownerless_text.result c.args.self.now.key None c.ownerless_text.ensures.text

pub returns-in-Some-clause-passing : goal.returns-in-Some-clause-passing
returns-in-Some-clause-passing c = passes_if string_bytes c.owned_text.result c.args.self.now.key (Some c.in-Some.own) c.owned_text.ensures.text

use Rattle.std.proofs.Common.{rules, ◌≡◌, length}
use Rattle.std.specs.String.{string_bytes}
use Rattle.share_folders.proofs.Lasting.{lasts_if}
use Rattle.share_folders.proofs.names.ClosedName.text.Goals as goal

pub returns-clause-lasting : goal.returns-clause-lasting
returns-clause-lasting c =
    let size : length c.args.self.now.digest ≡ 32 = search rules in
    lasts_if string_bytes c.closed_text.result c.args.self.now.key c.args.self.now.digest size c.closed_text.ensures.text

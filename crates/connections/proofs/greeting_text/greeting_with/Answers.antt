use Rattle.std.proofs.Common.{rules}
use Rattle.connections.proofs.Lines.{put_line}
use Rattle.connections.proofs.greeting_text.greeting_with.Goals as goal

pub returns : goal.returns
returns c =
    put_line c.args.line.now c.copy_from_slice.new.self c.copy_from_slice-2.new.self c.requires (search rules) (search rules)

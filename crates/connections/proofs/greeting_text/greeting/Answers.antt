use Rattle.std.proofs.Common.{rules}
use Rattle.connections.proofs.Marks.{line_len}
use Rattle.connections.proofs.greeting_text.greeting.Goals as goal

pub greeting_with-requires : goal.greeting_with-requires
greeting_with-requires c = search (rules, line_len)

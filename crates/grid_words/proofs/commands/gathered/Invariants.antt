use Rattle.std.proofs.Common.{◌≡◌, ◌++◌, Ok, map}
use Rattle.grid_words.proofs.commands.gathered.Given as goal

-- those so far were there
abbrev pub invariant-loop-argument : goal.invariant-loop-argument
invariant-loop-argument l =
    l.fn.arguments.items ≡ map Ok l.gathered.items ++ l.argument-iterator.rest.items

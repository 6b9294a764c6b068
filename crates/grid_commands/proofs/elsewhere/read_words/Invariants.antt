use Rattle.std.proofs.Common.{◌≡◌, eqb, map, take}
use Rattle.std.specs.List.{IsDistinct}
use Rattle.grid_commands.specs.Elsewhere.{AreNamed}
use Rattle.grid_commands.proofs.elsewhere.read_words.Given as goal

abbrev pub invariant-loop-word : goal.invariant-loop-word
invariant-loop-word l =
    AreNamed (take l.word-index l.words) (map (λ f. f.server) l.files.items)
    × (l.servers.items ≡ map (λ f. f.server) l.files.items)
    × IsDistinct eqb l.servers.items

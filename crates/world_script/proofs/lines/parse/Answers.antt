use Rattle.std.proofs.Common.{rules}
use Rattle.world_script.specs.Refused.{IsNoScript}
use Rattle.world_script.specs.Script.{lines_of}
use Rattle.world_script.proofs.Reading.{spells_none}
use Rattle.world_script.proofs.lines.parse.Goals as goal

pub returns-clause-no_script : goal.returns-clause-no_script
returns-clause-no_script c = λ line bad script spells.
    let refused : IsNoScript (lines_of c.args.text.now) line = search rules in
    spells_none (lines_of c.args.text.now) line script.honest script.liars.items script.commands.items refused spells

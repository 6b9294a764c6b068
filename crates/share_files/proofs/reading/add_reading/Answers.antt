use Rattle.std.proofs.Common.{subst, sym}
use Rattle.std.specs.Prelude.{All}
use Rattle.std.proofs.lemmas.List.Elements.{All-push}
use Rattle.share_files.specs.Readings.{IsReading}
use Rattle.share_files.proofs.reading.add_reading.Goals as goal

pub returns : goal.returns
returns g c = λ each.
    subst (All (IsReading g.R.File.Read.remaining)) (sym c.in_ok-push.ensures.items)
    (All-push (IsReading g.R.File.Read.remaining) c.args.readings.now.items c.new.result each c.new.ensures)

use Rattle.download_file.proofs.BeginLemmas.{begun_gives}
use Rattle.download_file.proofs.reader.begin_reader.Goals as goal

pub returns : goal.returns
returns c =
    begun_gives c.args.plan.now.geometry c.args.plan.now.first c.args.first c.args.plan.now.end c.args.server c.args.share c.args.gives c.args.taken.now
    c.new-reader.result c.give.new.self c.new-reader.ensures.server c.new-reader.ensures.share c.new-reader.ensures.supply c.new-reader.ensures.waiting
    c.give.ensures.gives c.give.ensures.right

use Rattle.share_layout.proofs.WriteLemmas.{added_beginning, added_none}
use Rattle.share_layout.proofs.writer.ShareWriter.put.Goals as goal

pub returns-then-self-clause-begun : goal.returns-then-self-clause-begun
returns-then-self-clause-begun g c =
    added_beginning c.args.self.now.contents c.args.self.now.contents _ _ (added_none c.args.self.now.contents _)

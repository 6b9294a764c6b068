use Rattle.std.proofs.Common.{inr, refl, subst}
use Rattle.request_record.specs.Asking.{after_message}
use Rattle.download_core.specs.declared.status.DownloadStatus.TheVariants.{Failed}
use Rattle.download_core.specs.Moves.{GoesOn}
use Rattle.download_core.specs.State.{DownloadState}
use Rattle.download_core.specs.Steps.{state_of}
use Rattle.download_core.proofs.Following.{advances_follow}
use Rattle.download_core.proofs.download.DownloadOperation.on_message.Goals as goal

pub returns-in-Ok-clause-advances : goal.returns-in-Ok-clause-advances
returns-in-Ok-clause-advances c =
    subst (λ (d : DownloadState). GoesOn (after_message c.args.from c.args.message c.args.now d.requests) d (state_of c.hear.new.self c.self.inside.servers.items c.in-Ok.status)) c.self.view_is (c.in-Ok.ensures.ok c.self.inside.servers.items)

pub returns-in-Ok-clause-ok : goal.returns-in-Ok-clause-ok
returns-in-Ok-clause-ok c = returns-in-Ok-clause-advances c

pub returns-in-Ok-clause-follows : goal.returns-in-Ok-clause-follows
returns-in-Ok-clause-follows c =
    advances_follow c.args.from c.args.now c.args.message c.args.self.now (state_of c.hear.new.self c.self.inside.servers.items c.in-Ok.status) (returns-in-Ok-clause-advances c)

pub returns-in-Err-clause-advances : goal.returns-in-Err-clause-advances
returns-in-Err-clause-advances c =
    subst (λ (d : DownloadState). GoesOn (after_message c.args.from c.args.message c.args.now d.requests) d (state_of c.hear.new.self c.self.inside.servers.items Failed)) c.self.view_is (c.in-Err.ensures.err c.self.inside.servers.items)

pub returns-in-Err-clause-err : goal.returns-in-Err-clause-err
returns-in-Err-clause-err c = inr refl

pub returns-in-Err-clause-follows : goal.returns-in-Err-clause-follows
returns-in-Err-clause-follows c =
    advances_follow c.args.from c.args.now c.args.message c.args.self.now (state_of c.hear.new.self c.self.inside.servers.items Failed) (returns-in-Err-clause-advances c)

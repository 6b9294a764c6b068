use Rattle.std.proofs.Common.{◌≡◌, Err, rules, subst}
use Rattle.world.specs.declared.event.Event.TheVariants.{Start}
use Rattle.world.specs.declared.event.WorldError.TheVariants.{BadEvent}
use Rattle.world_script.specs.declared.command.Command.{Command}
use Rattle.world_script.specs.declared.command.Command.TheVariants as commands
use Rattle.world_script.specs.Events.{IsEventOf}
use Rattle.world_script.proofs.Planning.{no_start}
use Rattle.world_script.proofs.events.start_of.Goals as goal

pub returns-in_err-cap-in-Download-clause-refused : goal.returns-in_err-cap-in-Download-clause-refused
returns-in_err-cap-in-Download-clause-refused c = λ bad node job is.
    let none : c.cap_of.result ≡ Err BadEvent = search rules in
    let event : IsEventOf (commands.Download c.in-Download.node c.in-Download.upload) c.args.operations.now (Start node job) = subst (λ (k : Command). IsEventOf k c.args.operations.now (Start node job)) c.in-Download.is is in
    c.cap_of.ensures.refused none event.0 event.2

pub returns-in_err-cap_of-in-DownloadRange-clause-refused : goal.returns-in_err-cap_of-in-DownloadRange-clause-refused
returns-in_err-cap_of-in-DownloadRange-clause-refused c = λ bad node job is.
    let none : c.cap_of-in-DownloadRange.result ≡ Err BadEvent = search rules in
    let event : IsEventOf (commands.DownloadRange c.in-DownloadRange.node c.in-DownloadRange.upload c.in-DownloadRange.from c.in-DownloadRange.to) c.args.operations.now (Start node job) = subst (λ (k : Command). IsEventOf k c.args.operations.now (Start node job)) c.in-DownloadRange.is is in
    c.cap_of-in-DownloadRange.ensures.refused none event.0 event.2

pub returns-in_err-cap_of-in-Check-clause-refused : goal.returns-in_err-cap_of-in-Check-clause-refused
returns-in_err-cap_of-in-Check-clause-refused c = λ bad node job is.
    let none : c.cap_of-in-Check.result ≡ Err BadEvent = search rules in
    let event : IsEventOf (commands.Check c.in-Check.node c.in-Check.upload) c.args.operations.now (Start node job) = subst (λ (k : Command). IsEventOf k c.args.operations.now (Start node job)) c.in-Check.is is in
    c.cap_of-in-Check.ensures.refused none event.0 event.2

pub returns-in_default-clause-refused : goal.returns-in_default-clause-refused
returns-in_default-clause-refused c = λ bad node job is. no_start c.args.command.now c.args.operations.now node job c.in_default.not-Upload c.in_default.not-Download c.in_default.not-DownloadRange c.in_default.not-Check is

use Rattle.std.proofs.Common.{◌≡◌, Err, rules}
use Rattle.world.specs.declared.event.WorldError.TheVariants.{BadEvent}
use Rattle.world_script.proofs.Planning.{no_events}
use Rattle.world_script.proofs.events.events_of.Goals as goal

pub returns-in_err-event_of-in_default-clause-refused : goal.returns-in_err-event_of-in_default-clause-refused
returns-in_err-event_of-in_default-clause-refused c = λ bad events are.
    let none : c.event_of.result ≡ Err BadEvent = search rules in
    no_events c.args.command.now c.args.honest c.args.operations.now events c.in_default.not-Pass (c.event_of.ensures.refused none) are

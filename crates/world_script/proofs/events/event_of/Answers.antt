use Rattle.world_script.proofs.Planning.{no_event}
use Rattle.world_script.proofs.events.event_of.Goals as goal

pub returns-in_default-clause-refused : goal.returns-in_default-clause-refused
returns-in_default-clause-refused c = λ bad event is. no_event c.args.command.now c.args.operations.now event c.in_default.not-Deliver c.in_default.not-Refuse c.in_default.not-Restart c.in_default.not-Fail c.in_default.not-Turn c.in_default.not-Repair c.in_default.not-Forge (c.start_of.ensures.refused bad) is

use Rattle.std.proofs.Common.{◌≡◌, Err, rules}
use Rattle.world.specs.declared.event.WorldError.TheVariants.{BadEvent}
use Rattle.world_script.specs.Events.{after_words}
use Rattle.world_script.proofs.Planning.{makes_none}
use Rattle.world_script.proofs.plan.Plan.of.Goals as goal

pub returns-in-Random-clause-value : goal.returns-in-Random-clause-value
unfolding after_words
returns-in-Random-clause-value c = (c.in-Random.start, c.in-Random.is, c.seed_from_u64.ensures)

pub returns-in_err-events_of-in_default-clause-refused : goal.returns-in_err-events_of-in_default-clause-refused
returns-in_err-events_of-in_default-clause-refused c = λ bad.
    let none : c.events_of.result ≡ Err BadEvent = search rules in
    makes_none c.args.command.now c.args.honest c.args.operations.now c.in_default.not-Drain c.in_default.not-Random (c.events_of.ensures.refused none)

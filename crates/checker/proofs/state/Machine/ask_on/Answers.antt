use Rattle.checker.proofs.AskingMoves.{asking_awaited, asking_fewer, asking_first, asking_next, asking_refused, asking_within}
use Rattle.checker.proofs.MachineMoves.{safe_same}
use Rattle.checker.proofs.state.Machine.ask_on.Goals as goal

pub loop-span-init : goal.loop-span-init
loop-span-init c = asking_first c.args.self.now c.args.offer c.args.reading.now c.requires.there.0 c.requires.safe c.requires.there.1 c.requires.book

pub next_span-requires : goal.next_span-requires
next_span-requires c = asking_within c.loop-span.self c.args.offer c.args.reading.now c.loop-span.invariant.offer c.loop-span.invariant.is

pub ask-requires-clause-there : goal.ask-requires-clause-there
ask-requires-clause-there c = asking_within c.loop-span.self c.args.offer c.args.reading.now c.loop-span.invariant.offer c.loop-span.invariant.is

pub loop-span-preserved : goal.loop-span-preserved
loop-span-preserved c =
    let on = c.loop-span.invariant in
    asking_next c.args.self.now c.loop-span.self c.ask.new.self c.args.offer c.args.reading.now on c.in-Some.span (c.in-Some.ensures.span on.offer on.is.there) (c.in_ok-ask.ensures.ok on.offer on.is.there)

pub loop-span-smaller : goal.loop-span-smaller
loop-span-smaller c =
    let on = c.loop-span.invariant in
    asking_fewer c.args.self.now c.loop-span.self c.ask.new.self c.args.offer c.args.reading.now on c.in-Some.span (c.in-Some.ensures.span on.offer on.is.there) (c.in_ok-ask.ensures.ok on.offer on.is.there)
    (c.in-Some.ensures.fewer on.offer on.is.there)

pub returns-clause-book : goal.returns-clause-book
returns-clause-book c todo b = c.loop-span.invariant.book todo b

pub returns-clause-awaited : goal.returns-clause-awaited
returns-clause-awaited c all =
    let on = c.loop-span.invariant in
    asking_awaited c.args.self.now c.loop-span.self c.args.offer c.args.reading.now on (c.in_default.ensures.none on.offer on.is.there) all

pub returns-in_err-ask-clause-asks : goal.returns-in_err-ask-clause-asks
returns-in_err-ask-clause-asks c = asking_refused c.args.self.now c.loop-span.self c.ask.new.self c.args.offer c.args.reading.now c.loop-span.invariant c.in_err-ask.ensures.err

pub returns-in_err-ask-clause-safe : goal.returns-in_err-ask-clause-safe
returns-in_err-ask-clause-safe c = safe_same c.loop-span.self c.ask.new.self c.in_err-ask.ensures.err c.loop-span.invariant.safe

use Rattle.std.proofs.Common.{◌≡◌, ℕ, ◌+◌, ◌<◌, ◌≤◌, ◌^◌, List, [], ◌∷◌, ◌++◌, Bool, length, get_or, Some, None, Option, Err, Result, sym, subst, ◌∙◌, arith, rules}
use Rattle.world.specs.declared.event.Event.{Event}
use Rattle.world_operations.specs.declared.message.Sent.{Sent}
use Rattle.world_operations.specs.declared.operation.Operation.{Operation}
use Rattle.world_script.specs.declared.command.Command.{Command}
use Rattle.world.specs.declared.event.WorldError.{WorldError}
use Rattle.world.specs.declared.event.WorldError.TheVariants.{BadEvent}
use Rattle.world.specs.Taking.{StepGives}
use Rattle.world_script.specs.Plans.{AreMarked, GivesNext, IsPlanOf, MakesNone}
use Rattle.world_script.proofs.Plays.{IsMaking, IsPlaying, making_begins, making_done, making_more, making_stops, playing_begins, playing_ends, refused_event, refused_none}
use Rattle.world_script.proofs.running.play.Goals.{else-loop-test, then-loop-test+in_default}
use Rattle.world_script.proofs.running.play.Goals as goal

pub loop-command-init : goal.loop-command-init
loop-command-init g c = record { going = c.requires; playing = subst (λ (f : List Bool). IsPlaying c.args.script.now c.args.world.state 0 0 c.args.world.state f) (sym c.new-delivered.ensures) (playing_begins c.args.script.now c.args.world.state) }

pub loop-init : goal.loop-init
loop-init g c =
    let low : c.loop-command.command-index < length c.args.script.now.commands.items = subst (λ (l : List Command). c.loop-command.command-index < length l) c.deref-command-items.ensures.value c.loop-command-test.true in
    let at : c.command-item.result ≡ get_or c.args.script.now.commands.items c.loop-command.command-index c.command-item.result = subst (λ (l : List Command). c.command-item.result ≡ get_or l c.loop-command.command-index c.command-item.result) c.deref-command-items.ensures.value c.command-item.is in
    let planned : IsPlanOf c.in_ok-plan.plan c.command-item.result c.args.script.now.honest c.loop-command.world.state.operations [] = subst (λ (l : List Operation). IsPlanOf c.in_ok-plan.plan c.command-item.result c.args.script.now.honest l []) c.operations.ensures c.in_ok-plan.ensures.value in
    record {
      going = c.loop-command.invariant.going;
      making = subst (λ (n : ℕ). IsMaking c.args.script.now c.args.world.state c.loop-command.command-index c.in_ok-plan.plan n 0 c.loop-command.events c.loop-command.world.state c.loop-command.delivered) (sym c.most-end.ensures)
          (making_begins c.args.script.now c.args.world.state c.loop-command.command-index c.loop-command.events c.loop-command.world.state c.loop-command.delivered c.command-item.result c.in_ok-plan.plan c.loop-command.invariant.playing low at planned);
    }

pub loop-preserved : goal.loop-preserved
loop-preserved g c =
    let gives : GivesNext c.loop.plan c.loop.delivered (length c.loop.world.state.sent) (Some c.in-Some.event) c.next.new.self = subst (λ (l : List Sent). GivesNext c.loop.plan c.loop.delivered (length l) (Some c.in-Some.event) c.next.new.self) c.sent.ensures c.in-Some.ensures.next in
    let marks : (all : List Event) → AreMarked c.loop.delivered all → AreMarked c.note.new.self (all ++ c.in-Some.event ∷ []) = subst (λ (f : List Bool). (all : List Event) → AreMarked f all → AreMarked c.note.new.self (all ++ c.in-Some.event ∷ [])) c.in-Some.ensures.same c.in_ok-note.ensures in
    record {
      going = c.in_ok-step.ensures.gives.1;
      making = making_more c.args.script.now c.args.world.state c.loop-command.command-index c.loop.plan c.next.new.self c.most-end.result c.loop.counter c.loop.events c.loop.world c.step.new.self c.loop.delivered c.note.new.self c.in-Some.event c.in_ok-step.field-0
          c.loop.invariant.making c.loop-test.true gives c.in_ok-step.ensures.gives marks;
    }

pub loop-command-preserved : goal.loop-command-preserved
loop-command-preserved g c =
    let few : c.loop.counter ≤ 2 ^ 64 = omega (arith, c.loop.auto.counter-end, c.most-end.type_inv) in
    record {
      going = c.loop.invariant.going;
      playing = elim c.loop-test.branch [
        | else-loop-test w ↦ (
            let done : c.loop.counter ≡ c.most-end.result = omega (arith, c.loop.auto.counter-end, w.loop-test.false) in
            subst (λ (f : List Bool). IsPlaying c.args.script.now c.args.world.state (c.loop-command.command-index + 1) c.loop.events c.loop.world.state f) (sym w.delivered-is)
            (making_done c.args.script.now c.args.world.state c.loop-command.command-index c.loop.plan c.most-end.result c.loop.counter c.loop.events c.loop.world.state c.loop.delivered c.loop.invariant.making few done))
        | then-loop-test+in_default w ↦ (
            let none : w.next.result ≡ None = search rules in
            let gives : GivesNext c.loop.plan c.loop.delivered (length c.loop.world.state.sent) None w.next.new.self = subst (λ (l : List Sent). GivesNext c.loop.plan c.loop.delivered (length l) None w.next.new.self) w.sent.ensures (subst (λ (o : Option Event). GivesNext c.loop.plan c.loop.delivered (length w.sent.result.now) o w.next.new.self) none w.next.ensures.next) in
            subst (λ (f : List Bool). IsPlaying c.args.script.now c.args.world.state (c.loop-command.command-index + 1) c.loop.events c.loop.world.state f) (sym (w.delivered-is ∙ w.next.ensures.same))
            (making_stops c.args.script.now c.args.world.state c.loop-command.command-index c.loop.plan w.next.new.self c.most-end.result c.loop.counter c.loop.events c.loop.world.state c.loop.delivered c.loop.invariant.making few gives))
      ];
    }

pub returns-clause-ended : goal.returns-clause-ended
returns-clause-ended g c =
    let past : length c.args.script.now.commands.items ≤ c.loop-command.command-index = subst (λ (l : List Command). length l ≤ c.loop-command.command-index) c.deref-command-items.ensures.value (omega (arith, c.loop-command-test.false)) in
    playing_ends c.args.script.now c.args.world.state c.loop-command.command-index c.loop-command.events c.loop-command.world.state c.loop-command.delivered c.operations-2.result.now c.in_ok-ending_of.field-0
    c.loop-command.invariant.playing past c.know_trusted.ensures.trusted c.know_trusted.ensures.repairs c.know_trusted.ensures.bound c.operations-2.ensures c.in_ok-ending_of.ensures.agrees c.in_ok-ending_of.ensures.lines

pub returns-in_err-plan-clause-refused : goal.returns-in_err-plan-clause-refused
returns-in_err-plan-clause-refused g c = λ bad.
    let low : c.loop-command.command-index < length c.args.script.now.commands.items = subst (λ (l : List Command). c.loop-command.command-index < length l) c.deref-command-items.ensures.value c.loop-command-test.true in
    let at : c.command-item.result ≡ get_or c.args.script.now.commands.items c.loop-command.command-index c.command-item.result = subst (λ (l : List Command). c.command-item.result ≡ get_or l c.loop-command.command-index c.command-item.result) c.deref-command-items.ensures.value c.command-item.is in
    let failed : c.of.result ≡ Err BadEvent = search rules in
    let none : MakesNone c.command-item.result c.args.script.now.honest c.loop-command.world.state.operations = subst (λ (l : List Operation). MakesNone c.command-item.result c.args.script.now.honest l) c.operations.ensures (c.of.ensures.refused failed) in
    refused_none c.args.script.now c.args.world.state c.loop-command.command-index c.loop-command.events c.loop-command.world.state c.loop-command.delivered c.command-item.result c.loop-command.invariant.playing low at none

pub returns-in_err-step-clause-refused : goal.returns-in_err-step-clause-refused
returns-in_err-step-clause-refused g c = λ bad.
    let gives : GivesNext c.loop.plan c.loop.delivered (length c.loop.world.state.sent) (Some c.in-Some.event) c.next.new.self = subst (λ (l : List Sent). GivesNext c.loop.plan c.loop.delivered (length l) (Some c.in-Some.event) c.next.new.self) c.sent.ensures c.in-Some.ensures.next in
    let failed : c.step.result ≡ Err BadEvent = search rules in
    let step : StepGives c.loop.world c.in-Some.event (Err BadEvent) c.step.new.self = subst (λ (r : Result (Unit {0}) WorldError). StepGives c.loop.world c.in-Some.event r c.step.new.self) failed c.step.ensures.gives in
    refused_event c.args.script.now c.args.world.state c.loop-command.command-index c.loop.plan c.next.new.self c.most-end.result c.loop.counter c.loop.events c.loop.world c.step.new.self c.loop.delivered c.in-Some.event c.loop.invariant.making c.loop-test.true gives step

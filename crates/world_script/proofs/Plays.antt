-- A script, played command by command.
use Rattle.std.proofs.Common.{◌≡◌, ◌↔◌, ℕ, ◌+◌, ◌*◌, ◌^◌, ◌<◌, ◌≤◌, List, [], ◌∷◌, ◌++◌, Bool, true, length, get_or, take, drop, suc, Some, None, Ok, Err, refl, sym, ap, subst, ◌∙◌, arith, append_assoc}
use Rattle.std.proofs.Math.Seq.{drop-cons}
use Rattle.std.proofs.lemmas.List.{append-nil, length-append, take-append-drop, take_more}
use Rattle.world.specs.declared.event.WorldError.TheVariants.{BadEvent}
use Rattle.world.specs.declared.event.Event.{Event}
use Rattle.world.specs.State.{WorldState, WorldValue}
use Rattle.world.specs.Taking.{StepGives}
use Rattle.world_script.specs.declared.command.Command.{Command}
use Rattle.world_script.specs.declared.command.Script.{Script}
use Rattle.world_script.specs.declared.plan.Plan.{Plan}
use Rattle.world_script.specs.Events.{MakesNext}
use Rattle.world_script.specs.Plans.{AreMarked, GivesNext, IsPlanOf, MakesNone, most_of}
use Rattle.world_script.specs.Playing.{HasMade, HasPlayed, IsEndingFrom, IsRefusedFrom, IsStuck}
use Rattle.std.specs.String.{string_bytes}
use Rattle.std.proofs.lemmas.List.{take_all}
use Rattle.world.specs.Binding.{IsBound}
use Rattle.world.specs.Headline.{IsTrusted}
use Rattle.world.specs.Repairs.{AreTrustedRepairs}
use Rattle.world_operations.specs.declared.operation.Operation.{Operation}
use Rattle.world_script.specs.declared.ending.Ending.{Ending}
use Rattle.world_script.specs.Agreement.{Agree}
use Rattle.world_script.specs.Telling.{ending_text}
use Rattle.world_script.proofs.Planning.{GoesOn, IsMost, done_none, first_most, gives_none, gives_some}

-- the commands before one were played
pub record IsPlaying (script : Script) (begin : WorldState) (index events : ℕ) (world : WorldState) (flags : List Bool) : Type 0 where
  pub taken : List Event
  pub played : HasPlayed script.honest begin (take index script.commands.items) taken world
  pub marks : AreMarked flags taken
  pub count : events ≡ length taken
  pub few : events ≤ index * 2 ^ 64

-- a command has made some events
pub record IsMaking (script : Script) (begin : WorldState) (index : ℕ) (plan : Plan) (most counter events : ℕ) (world : WorldState) (flags : List Bool) : Type 0 where
  pub taken : List Event
  pub made : List Event
  pub old : WorldState
  pub command : Command
  pub low : index < length script.commands.items
  pub at : command ≡ get_or script.commands.items index command
  pub played : HasPlayed script.honest begin (take index script.commands.items) taken old
  pub making : HasMade command script.honest old taken made world
  pub plan_is : IsPlanOf plan command script.honest old.operations made
  pub most_is : IsMost plan (length made) most
  pub marks : AreMarked flags (taken ++ made)
  pub counter_is : length made ≡ counter
  pub count : events ≡ length taken + counter
  pub few : length taken ≤ index * 2 ^ 64

pub playing_begins : (script : Script) (begin : WorldState) → IsPlaying script begin 0 0 begin []
playing_begins script begin = record {
  taken = [];
  played = HasPlayed.begins;
  marks = λ p. (λ e. absurd cc, λ c. absurd (omega (arith, c.1)));
  count = refl;
  few = omega arith;
}

pub making_begins : (script : Script) (begin : WorldState) (index events : ℕ) (world : WorldState) (flags : List Bool) (command : Command) (plan : Plan) → IsPlaying script begin index events world flags → index < length script.commands.items → command ≡ get_or script.commands.items index command → IsPlanOf plan command script.honest world.operations [] → IsMaking script begin index plan (most_of plan) 0 events world flags
making_begins script begin index events world flags command plan is low at planned = record {
  taken = is.taken;
  made = [];
  old = world;
  command = command;
  low = low;
  at = at;
  played = is.played;
  making = HasMade.begins;
  plan_is = planned;
  most_is = first_most plan;
  marks = subst (λ (l : List Event). AreMarked flags l) (sym (append-nil is.taken)) is.marks;
  counter_is = refl;
  count = omega (arith, is.count);
  few = omega (arith, is.count, is.few);
}

pub making_more : (script : Script) (begin : WorldState) (index : ℕ) (plan new : Plan) (most counter events : ℕ) (world next : WorldValue) (flags noted : List Bool) (event : Event) (u : Unit {0}) → IsMaking script begin index plan most counter events world.state flags → counter < most → GivesNext plan flags (length world.state.sent) (Some event) new → StepGives world event (Ok u) next → ((all : List Event) → AreMarked flags all → AreMarked noted (all ++ event ∷ [])) → IsMaking script begin index new most (counter + 1) (events + 1) next.state noted
making_more script begin index plan new most counter events world next flags noted event u is low gives step marks =
    let on : GoesOn is.command script.honest is.old.operations is.taken is.made (length world.state.sent) most event new = gives_some plan new is.command script.honest is.old.operations is.taken is.made flags (length world.state.sent) most event is.plan_is is.most_is (omega (arith, is.counter_is, low)) is.marks gives in
    let len : length (is.made ++ event ∷ []) ≡ length is.made + 1 = length-append is.made (event ∷ []) in
    record {
      taken = is.taken;
      made = is.made ++ event ∷ [];
      old = is.old;
      command = is.command;
      low = is.low;
      at = is.at;
      played = is.played;
      making = HasMade.goes event is.making on.makes step.2 step.3;
      plan_is = on.plan;
      most_is = subst (λ (n : ℕ). IsMost new n most) (sym len) on.most_is;
      marks = subst (λ (l : List Event). AreMarked noted l) (append_assoc is.taken is.made (event ∷ [])) (marks (is.taken ++ is.made) is.marks);
      counter_is = len ∙ ap (λ (n : ℕ). n + 1) is.counter_is;
      count = omega (arith, is.count);
      few = is.few;
    }

-- a command that makes nothing more was played
making_ends : (script : Script) (begin : WorldState) (index : ℕ) (plan : Plan) (most counter events : ℕ) (world : WorldState) (flags : List Bool) → (is : IsMaking script begin index plan most counter events world flags) → counter ≤ 2 ^ 64 → MakesNext is.command script.honest is.old.operations is.taken is.made (length world.sent) None → IsPlaying script begin (index + 1) events world flags
making_ends script begin index plan most counter events world flags is few ends =
    let commands : take index script.commands.items ++ is.command ∷ [] ≡ take (index + 1) script.commands.items = ap (λ (c : Command). take index script.commands.items ++ c ∷ []) is.at ∙ sym (take_more script.commands.items index is.command is.low) in
    record {
      taken = is.taken ++ is.made;
      played = subst (λ (l : List Command). HasPlayed script.honest begin l (is.taken ++ is.made) world) commands (HasPlayed.goes is.command is.played is.making ends);
      marks = is.marks;
      count = is.count ∙ ap (λ (n : ℕ). length is.taken + n) (sym is.counter_is) ∙ sym (length-append is.taken is.made);
      few = omega (arith, is.count, is.few, few);
    }

pub making_stops : (script : Script) (begin : WorldState) (index : ℕ) (plan new : Plan) (most counter events : ℕ) (world : WorldState) (flags : List Bool) → IsMaking script begin index plan most counter events world flags → counter ≤ 2 ^ 64 → GivesNext plan flags (length world.sent) None new → IsPlaying script begin (index + 1) events world flags
making_stops script begin index plan new most counter events world flags is few gives = making_ends script begin index plan most counter events world flags is few (gives_none plan new is.command script.honest is.old.operations is.taken is.made flags (length world.sent) is.plan_is is.marks gives)

pub making_done : (script : Script) (begin : WorldState) (index : ℕ) (plan : Plan) (most counter events : ℕ) (world : WorldState) (flags : List Bool) → IsMaking script begin index plan most counter events world flags → counter ≤ 2 ^ 64 → counter ≡ most → IsPlaying script begin (index + 1) events world flags
making_done script begin index plan most counter events world flags is few done = making_ends script begin index plan most counter events world flags is few (done_none plan is.command script.honest is.old.operations is.taken is.made (length world.sent) most is.plan_is is.most_is (is.counter_is ∙ done))

-- all commands were played
pub playing_ends : (script : Script) (begin : WorldState) (index events : ℕ) (world : WorldState) (flags : List Bool) (operations : List Operation) (ending : Ending) → IsPlaying script begin index events world flags → length script.commands.items ≤ index → IsTrusted world → AreTrustedRepairs world → IsBound world → operations ≡ world.operations → ((ending.agrees ≡ true) ↔ Agree operations) → string_bytes ending.lines ≡ ending_text operations ending.agrees events → IsEndingFrom begin script ending
playing_ends script begin index events world flags operations ending is past trusted repairs bound same agrees lines = record {
  events = is.taken;
  world = world;
  played = subst (λ (l : List Command). HasPlayed script.honest begin l is.taken world) (take_all index script.commands.items past) is.played;
  trusted = trusted;
  repairs = repairs;
  bound = bound;
  agrees = subst (λ (ops : List Operation). (ending.agrees ≡ true) ↔ Agree ops) same agrees;
  lines = lines ∙ ap (λ (ops : List Operation). ending_text ops ending.agrees events) same ∙ ap (λ (n : ℕ). ending_text world.operations ending.agrees n) is.count;
}

-- the commands before one, it, and those behind it
round : (commands : List Command) (index : ℕ) (command : Command) → index < length commands → command ≡ get_or commands index command → commands ≡ take index commands ++ command ∷ drop (suc index) commands
round commands index command low at = sym (take-append-drop index commands) ∙ (ap (λ (l : List Command). take index commands ++ l) (drop-cons commands index command low) ∙ ap (λ (c : Command). take index commands ++ c ∷ drop (suc index) commands) (sym at))

-- a command that makes neither an event nor an end
pub refused_none : (script : Script) (begin : WorldState) (index events : ℕ) (world : WorldState) (flags : List Bool) (command : Command) → IsPlaying script begin index events world flags → index < length script.commands.items → command ≡ get_or script.commands.items index command → MakesNone command script.honest world.operations → IsRefusedFrom begin script
refused_none script begin index events world flags command is low at none = record {
  first = take index script.commands.items;
  command = command;
  later = drop (suc index) script.commands.items;
  commands = round script.commands.items index command low at;
  before = is.taken;
  made = [];
  old = world;
  world = world;
  played = is.played;
  making = HasMade.begins;
  stuck = IsStuck.has_none (λ next. none is.taken (length world.sent) next);
}

-- a command that makes an event which the world refuses
pub refused_event : (script : Script) (begin : WorldState) (index : ℕ) (plan new : Plan) (most counter events : ℕ) (world next : WorldValue) (flags : List Bool) (event : Event) → IsMaking script begin index plan most counter events world.state flags → counter < most → GivesNext plan flags (length world.state.sent) (Some event) new → StepGives world event (Err BadEvent) next → IsRefusedFrom begin script
refused_event script begin index plan new most counter events world next flags event is low gives step =
    let on : GoesOn is.command script.honest is.old.operations is.taken is.made (length world.state.sent) most event new = gives_some plan new is.command script.honest is.old.operations is.taken is.made flags (length world.state.sent) most event is.plan_is is.most_is (omega (arith, is.counter_is, low)) is.marks gives in
    record {
      first = take index script.commands.items;
      command = is.command;
      later = drop (suc index) script.commands.items;
      commands = round script.commands.items index is.command is.low is.at;
      before = is.taken;
      made = is.made;
      old = is.old;
      world = world.state;
      played = is.played;
      making = is.making;
      stuck = IsStuck.is_refused event on.makes step.1;
    }

use Rattle.std.proofs.Common.{◌∷◌, ◌++◌, [], List, OnOk, Result, Ok, Err, sym, subst}
use Rattle.world.specs.declared.event.Event.{Event}
use Rattle.world_script.specs.Plans.{AreMarked, IsNoted}
use Rattle.world_script.proofs.Marking.{marks_one}
use Rattle.world_script.proofs.delivered.Delivered.note.Goals as goal

pub returns-in-Deliver : goal.returns-in-Deliver
returns-in-Deliver c = noted c.add.result c.add.ensures
  where
    noted : {E : Type 0} → (r : Result Unit E) → OnOk r (IsNoted c.args.self.now c.in-Deliver.position c.add.new.self) → OnOk r ((events : List Event) → AreMarked c.args.self.now events → AreMarked c.add.new.self (events ++ c.args.event.now ∷ []))
    noted (Ok u) is = λ events marks. subst (λ (e : Event). AreMarked c.add.new.self (events ++ e ∷ [])) (sym c.in-Deliver.is) (marks_one c.args.self.now c.add.new.self c.in-Deliver.position events is marks)
    noted (Err e) is = is

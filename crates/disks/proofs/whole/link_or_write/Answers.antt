use Rattle.std.proofs.Common.{◌≡◌, ◌≢◌, ◌∙◌}
use Rattle.std.specs.Prelude.{Result, Ok, Err, IfOk}
use Rattle.disks.specs.declared.whole.Published.{Published}
use Rattle.disks.specs.declared.whole.Published.TheVariants as published
use Rattle.disks.specs.declared.whole.Unmade.{Unmade}
use Rattle.disks.proofs.Sparing.{linked_keep, linked_passes, linked_spares, spared_on, spares_on}
use Rattle.disks.proofs.whole.link_or_write.Goals as goal

-- what was written under its name was not linked
not_linked : (r : Result Published Unmade) (Q : Type 0) → IfOk r (λ (p : Published). p ≢ published.Linked) → IfOk r (λ (p : Published). p ≡ published.Linked → Q)
not_linked (Ok p) Q not = λ is. absurd (not is)
not_linked (Err e) Q not = tt

pub returns-in-Ok-clause-spared : goal.returns-in-Ok-clause-spared
returns-in-Ok-clause-spared g c honest i is = linked_spares c.args.own.now c.args.last.now _ _ i c.args.bytes.now c.link.result is (c.link.ensures.gives honest)

pub returns-in-Ok-clause-any_moment : goal.returns-in-Ok-clause-any_moment
returns-in-Ok-clause-any_moment g c honest i is = linked_passes c.args.own.now c.args.last.now _ i c.args.bytes.now _ _ is (c.link.ensures.passes honest)

pub returns-in-Err-AlreadyExists-clause-spared : goal.returns-in-Err-AlreadyExists-clause-spared
returns-in-Err-AlreadyExists-clause-spared g c honest i is = linked_spares c.args.own.now c.args.last.now _ _ i c.args.bytes.now c.link.result is (c.link.ensures.gives honest)

pub returns-in-Err-AlreadyExists-clause-any_moment : goal.returns-in-Err-AlreadyExists-clause-any_moment
returns-in-Err-AlreadyExists-clause-any_moment g c honest i is = linked_passes c.args.own.now c.args.last.now _ i c.args.bytes.now _ _ is (c.link.ensures.passes honest)

pub returns-in-Err : goal.returns-in-Err
returns-in-Err g c =
    let own = c.args.own.now in
    let last = c.args.last.now in
    let bytes = c.args.bytes.now in
    record {
      place = c.write_alone.ensures.place ∙ c.link.ensures.place;
      so_far = λ honest. c.link.ensures.so_far (c.write_alone.ensures.so_far honest);
      linked = λ honest i is. not_linked c.write_alone.result _ c.write_alone.ensures.linked;
      written = λ honest. c.write_alone.ensures.written honest;
      spared = λ honest i is.
          spares_on _ _ _ (linked_spares own last _ _ i bytes c.link.result is (c.link.ensures.gives (c.write_alone.ensures.so_far honest)))
          (c.write_alone.ensures.spared honest);
      any_moment = λ honest i is.
          let before = c.write_alone.ensures.so_far honest in
          spared_on _ _ _ _ _ (linked_spares own last _ _ i bytes c.link.result is (c.link.ensures.gives before))
          (linked_passes own last _ i bytes _ _ is (c.link.ensures.passes before)) (c.write_alone.ensures.any_moment honest);
      owns = λ honest i is name apart other.
          c.write_alone.ensures.owns honest name other
          ∙ (linked_keep own last _ _ i bytes c.link.result is (c.link.ensures.gives (c.write_alone.ensures.so_far honest))).owns name apart;
    }

pub returns-in-Err-2 : goal.returns-in-Err-2
returns-in-Err-2 g c =
    let own = c.args.own.now in
    let last = c.args.last.now in
    let bytes = c.args.bytes.now in
    record {
      place = c.link.ensures.place;
      so_far = c.link.ensures.so_far;
      linked = λ honest i is. tt;
      written = λ honest. tt;
      spared = λ honest i is. linked_spares own last _ _ i bytes c.link.result is (c.link.ensures.gives honest);
      any_moment = λ honest i is. linked_passes own last _ i bytes _ _ is (c.link.ensures.passes honest);
      owns = λ honest i is name apart other. (linked_keep own last _ _ i bytes c.link.result is (c.link.ensures.gives honest)).owns name apart;
    }

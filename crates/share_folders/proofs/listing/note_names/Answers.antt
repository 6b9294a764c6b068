use Rattle.std.proofs.Common.{◌∷◌, ◌++◌, [], List, map, take, sym, ap, subst, ◌∙◌}
use Rattle.std.specs.String.{string_bytes}
use Rattle.disks.specs.Names.{Name}
use Rattle.share_folders.specs.Listed.{AreTaken}
use Rattle.share_folders.proofs.Closings.{held_on}
use Rattle.share_folders.proofs.Taking.{names_more}
use Rattle.share_folders.proofs.listing.note_names.Goals as goal

pub loop-name-preserved : goal.loop-name-preserved
loop-name-preserved g c =
    let before = c.loop-name.invariant in
    let names = c.args.names.now in
    let i = c.loop-name.name-index in
    let text = c.as_str.ensures.value ∙ ap string_bytes c.name-item.is in
    record {
      taken = subst (λ (x : List Name). AreTaken x c.take_name.new.closed.entries)
          (ap (λ (n : Name). map string_bytes (take i names) ++ n ∷ []) text ∙ sym (names_more string_bytes names i c.name-item.result c.loop-name-test.true))
          (c.in_ok-take_name.ensures.taken (map string_bytes (take i names)) before.taken);
      place = c.take_name.ensures.place ∙ before.place;
      so_far = λ honest. before.so_far (c.take_name.ensures.so_far honest);
      held = λ honest. held_on _ _ _ (before.held (c.take_name.ensures.so_far honest)) (c.take_name.ensures.held honest);
    }

pub returns-in_err-take_name-clause-held : goal.returns-in_err-take_name-clause-held
returns-in_err-take_name-clause-held g c honest = held_on _ _ _ (c.loop-name.invariant.held (c.take_name.ensures.so_far honest)) (c.take_name.ensures.held honest)

use Rattle.std.proofs.Common.{◌≡◌, ℕ, List, map, ap, refl, subst, sym, ◌∙◌}
use Rattle.carried_operations.specs.declared.range.SharePlace.{SharePlace}
use Rattle.share_source.specs.Reads.{WasRead}
use Rattle.carried_operations.specs.Fetched.{IsReadOver, IsUnread}
use Rattle.grid_repairs.specs.Remaking.{AreMadeAnew, IsBegun, read_places}
use Rattle.grid_repairs.proofs.remaking.remake.Goals as goal

pub returns-in-Ok : goal.returns-in-Ok
returns-in-Ok g c =
    let gives = IsReadOver g.G.Outside.calls in
    let fails = IsUnread g.G.Outside.calls in
    let found = rw c.in-Some.is at c.in_ok-block.ensures.block in
    let same : c.in_ok-places.places.items ≡ c.args.bytes.places = c.in_ok-places.ensures.items ∙ c.places.ensures in
    let numbers = c.in_ok-numbers.ensures ∙ ap (map (λ (p : SharePlace). p.share)) (c.deref.ensures.value ∙ same) in
    let begun = c.in_ok-source.ensures in
    let reading = c.in_ok-reading-in-Ok.ensures ∙ ap (λ (ps : List SharePlace). read_places ps c.reading.result.now) (c.deref-in-Ok.ensures.value ∙ same) ∙ ap (read_places c.args.bytes.places) c.reading.ensures in
    let remade = c.in-Ok.ensures.remade in
    subst (λ made. AreMadeAnew gives fails c.args.cap.now c.args.happy c.args.bytes.places c.args.bytes made c.in_ok-reading-in-Ok.reading.items) (sym (c.told_apart-ready.ensures ∙ c.in_ok-ready_remade-in-Ok.ensures)) (record {
      extension_block = c.in-Some.block.bytes.items;
      u = c.in-Some.block.ueb;
      ueb = found.0;
      source = c.in_ok-source.source;
      read = subst (WasRead gives fails c.args.bytes) (sym begun.bytes_are) found.1;
      begun = subst (λ (ns : List ℕ). IsBegun c.in-Some.block.ueb ns c.in_ok-source.source.candidates.bytes c.in_ok-source.source) numbers
          (subst (λ b. IsBegun c.in-Some.block.ueb c.in_ok-numbers.numbers.items b c.in_ok-source.source) (sym begun.bytes_are) begun);
      anew = remade;
      made_is = refl;
      reading_is = reading;
    })

use Rattle.std.proofs.Common.{List, subst}
use Rattle.std.specs.Prelude.{is_some}
use Rattle.std.proofs.lemmas.Result.{IfOk-weaker}
use Rattle.checker.specs.declared.status.ShareVerdict.{ShareVerdict}
use Rattle.carried_operations.specs.declared.range.SharePlace.{SharePlace}
use Rattle.carried_operations.specs.Fetched.{IsReadOver, IsUnread}
use Rattle.share_source.specs.Decoded.{GivesDecoded}
use Rattle.grid_servers.specs.Grids.{grid_calls}
use Rattle.grid_shares.specs.Placing.{ArePlaced}
use Rattle.grid_repairs.specs.Remaking.{AreMadeAnew, lacks_memory, remade_calls}
use Rattle.grid_repairs.specs.Repairs.{ArePlacesOfGood}
use Rattle.grid_repairs.proofs.repairing.repair_over.Goals as goal

pub returns-clause-repaired : goal.returns-clause-repaired
returns-clause-repaired g c =
    let calls = grid_calls g.R.Stream.Write.contents g.R.Stream.Read.remaining in
    let gives = IsReadOver calls in
    let fails = IsUnread calls in
    let grid = c.args.placing.now.grid.now in
    let servers = c.args.placing.now.servers.now in
    let chosen = c.in_ok-places.ensures in
    let of_good = subst (λ (vs : List ShareVerdict). ArePlacesOfGood vs c.in_ok-places.places.items) c.as_slice.ensures (record { good = chosen.good; all = chosen.all }) in
    let opened = c.in_ok-bytes.ensures in
    IfOk-weaker c.place_shares-stored.result _ _
    (λ stored placed. record {
      places = c.in_ok-places.places.items;
      of_good = of_good;
      bytes = c.in_ok-bytes.bytes;
      opened = opened;
      made = c.in_ok-made.made.ready;
      reading = c.in_ok-made.made.reading.items;
      anew = subst (λ (ps : List SharePlace). AreMadeAnew gives fails c.args.cap.now c.args.happy ps c.in_ok-bytes.bytes c.in_ok-made.made.ready c.in_ok-made.made.reading.items) opened.places_are c.in_ok-made.ensures;
      placed = subst (λ (ps : List SharePlace). ArePlaced (remade_calls (GivesDecoded gives fails) (λ s. s.failures) lacks_memory) calls grid (is_some c.args.kept.now) c.args.placing.now.mend ps servers c.in_ok-made.made.ready stored) c.as_slice-2.ensures.value placed;
    })
    c.place_shares-stored.ensures.placed

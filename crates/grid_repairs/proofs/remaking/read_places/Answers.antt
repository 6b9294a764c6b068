use Rattle.std.proofs.Common.{◌≡◌, ◌<◌, ℕ, ◌+◌, List, ◌∷◌, [], ◌++◌, get_or, length, take, sym, ap, ◌∙◌}
use Rattle.std.specs.Prelude.{slice_get}
use Rattle.std.specs.Option.{option_to_list}
use Rattle.std.proofs.lemmas.List.{append-nil, take_more}
use Rattle.std.proofs.lemmas.Grind.{flat_map-append}
use Rattle.carried_operations.specs.declared.range.SharePlace.{SharePlace}
use Rattle.grid_repairs.specs.Remaking.{read_places}
use Rattle.grid_repairs.proofs.remaking.read_places.Goals as goal

-- one position more
read_more : (places : List SharePlace) (ps : List ℕ) (i : ℕ) (old new : List SharePlace) → i < length ps → old ≡ read_places places (take i ps) → new ≡ old ++ option_to_list (slice_get places (get_or ps i 0))
    → new ≡ read_places places (take (i + 1) ps)
read_more places ps i old new here was is =
    let one : List SharePlace = option_to_list (slice_get places (get_or ps i 0)) in
    is ∙ ap (λ (l : List SharePlace). l ++ one) was ∙ ap (λ (l : List SharePlace). read_places places (take i ps) ++ l) (sym (append-nil one))
    ∙ sym (flat_map-append (λ (n : ℕ). option_to_list (slice_get places n)) (take i ps) (get_or ps i 0 ∷ [])) ∙ ap (read_places places) (sym (take_more ps i 0 here))

pub loop-position-preserved : goal.loop-position-preserved
loop-position-preserved c =
    read_more c.args.places.now c.args.positions.now c.loop-position.position-index c.loop-position.read.items c.add_place.new.read.items c.loop-position-test.true c.loop-position.invariant
    (c.in_ok-add_place.ensures ∙ ap (λ o. c.loop-position.read.items ++ option_to_list o) c.place_at.ensures)

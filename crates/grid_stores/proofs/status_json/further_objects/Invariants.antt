use Rattle.std.proofs.Common.{◌≡◌, take}
use Rattle.std.specs.List.{flat_map}
use Rattle.grid_stores.specs.StatusJson.{further_object}
use Rattle.grid_stores.proofs.status_json.further_objects.Given as goal

abbrev pub invariant-loop-found : goal.invariant-loop-found
invariant-loop-found l = l.text.items ≡ flat_map further_object (take l.found-index l.servers)

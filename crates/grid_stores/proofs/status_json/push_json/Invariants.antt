use Rattle.std.proofs.Common.{◌≡◌, ◌++◌, take}
use Rattle.grid_stores.specs.StatusJson.{json_text}
use Rattle.grid_stores.proofs.status_json.push_json.Given as goal

abbrev pub invariant-loop-byte : goal.invariant-loop-byte
invariant-loop-byte l = l.out.items ≡ l.fn.out.items ++ json_text (take l.byte-index l.text)

use Rattle.std.proofs.Common.{rules, ◌≡◌, ◌++◌, ◌∙◌, ap, ℕ, List, length, take, drop, true, false}
use Rattle.std.specs.Prelude.{Option, Some, None, if◌then◌else◌, nat_le}
use Rattle.std.proofs.lemmas.List.{take_at}
use Rattle.wire.specs.Limits.{most_data}
use Rattle.share_folders.proofs.Closings.{from_stored}
use Rattle.share_folders.proofs.files.read_at.Goals as goal

-- what there is, was put in
from_some : (xs ys : List ℕ) (r : Option (List ℕ)) → r ≡ (if nat_le (length xs) most_data then Some xs else None) → r ≡ Some ys → ys ≡ xs
from_some xs ys r is some =
    elim (nat_le (length xs) most_data) as (λ b. r ≡ (if b then Some xs else None) → ys ≡ xs) [
      | true ↦ λ e. cc
      | false ↦ λ e. cc
    ] is

-- all that is left of a text that was filled
filled : (len count position : ℕ) (got out items bytes : List ℕ) → got ≡ take len (out ++ drop (length out) items) → length out ≡ len → length out ≡ count
    → out ≡ take (length out) (drop position bytes) → got ≡ take count (drop position bytes)
filled len count position got out items bytes is long asked read =
    is ∙ take_at out (drop (length out) items) len long ∙ read ∙ ap (λ (n : ℕ). take n (drop position bytes)) asked

pub returns-clause-given : goal.returns-clause-given
returns-clause-given g c honest bytes has =
    let read = from_stored c.read_finished.result _ c.in_ok-as_stored.field-0 c.in_ok-as_stored.ensures (c.read_finished.ensures.bytes honest bytes has) in
    let long : length c.read_finished.new.out ≡ c.in_ok-bytes.bytes.len = search rules in
    let asked : length c.read_finished.new.out ≡ c.args.count = search rules in
    filled c.in_ok-bytes.bytes.len c.args.count c.args.position c.unwrap.result c.read_finished.new.out c.in_ok-bytes.bytes.items bytes
    (from_some _ c.unwrap.result c.from_vec.result c.from_vec.ensures c.unwrap.ensures) long asked read

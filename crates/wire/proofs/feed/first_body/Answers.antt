use Rattle.std.proofs.Common.{sym, ◌≡◌, ◌-◌, take, drop, length, arith}
use Rattle.std.proofs.lemmas.List.{take_all, length-drop}
use Rattle.wire.proofs.StreamLaws.{first_is}
use Rattle.wire.proofs.feed.first_body.Goals as goal

pub returns-clause-whole : goal.returns-clause-whole
returns-clause-whole c =
    let rest = c.args.rest.now in
    let all : take (length rest - 4) (drop 4 rest) ≡ drop 4 rest = take_all (length rest - 4) (drop 4 rest) (omega (arith, length-drop 4 rest)) in
    rw all (first_is rest c.read_u32-length.result (λ i. omega (arith, c.type_inv.rest i)) (sym c.read_u32-length.ensures) (omega arith, omega arith) (omega (arith, length-drop 4 rest)))

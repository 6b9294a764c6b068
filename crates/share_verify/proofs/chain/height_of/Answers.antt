use Rattle.std.proofs.Common.{◌≡◌, ◌-◌, length, arith}
use Rattle.merkle.proofs.HeightLemmas.{height_below, height_room}
use Rattle.merkle.specs.Tree.{height}
use Rattle.share_verify.proofs.chain.height_of.Goals as goal

pub overflow_cast-result : goal.overflow_cast-result
overflow_cast-result c = let low = height_below c.args.total 8 c.requires.few in omega arith

pub returns-clause-low : goal.returns-clause-low
returns-clause-low c = let low = height_below c.args.total 8 c.requires.few in omega arith

pub returns-clause-room : goal.returns-clause-room
returns-clause-room c =
    let same : length c.args.entries.now - 1 ≡ height c.args.total = omega arith in
    rw same (height_room c.args.total)

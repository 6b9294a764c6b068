use Rattle.std.proofs.Common.{◌≡◌, refl}
use Rattle.std.specs.Prelude.{true, codes}
use Rattle.disks.specs.Names.{lasts}
use Rattle.grid_marks.proofs.growing.end_growth.Goals as goal

-- both names of the mark last
part_lasts : lasts (codes "grid-mark.part") ≡ true
unfolding lasts
part_lasts = refl

mark_lasts : lasts (codes "grid-mark") ≡ true
unfolding lasts
mark_lasts = refl

pub move_finished-requires-clause-lasting : goal.move_finished-requires-clause-lasting
move_finished-requires-clause-lasting g c = part_lasts

pub move_finished-requires-clause-lasting_too : goal.move_finished-requires-clause-lasting_too
move_finished-requires-clause-lasting_too g c = mark_lasts

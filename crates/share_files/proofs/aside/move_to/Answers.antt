use Rattle.std.specs.IoError.{error_kind}
use Rattle.std.proofs.Common.{refl}
use Rattle.share_files.specs.Name.{aside_file, half_file}
use Rattle.share_files.proofs.Going.{left_place, same_index}
use Rattle.share_files.proofs.aside.move_to.Goals as goal

pub returns-in-Err : goal.returns-in-Err
returns-in-Err g c = λ wanted of none.
    left_place error_kind wanted c.args.name.now c.args.number c.aside-place.result c.half_aside-half.result _ c.args.files.now c.make.new.self c.rename.new.self c.remove.new.self c.remove.result
    c.aside-place.ensures c.in_ok-make.ensures.made c.in-Err.ensures.err c.remove.ensures.removed c.remove.ensures.err
    (same_index wanted (half_file c.args.name.now c.args.own.now) (aside_file c.args.name.now c.args.number) refl of)

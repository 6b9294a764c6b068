use Rattle.std.proofs.Common.{inl, inr, refl}
use Rattle.user_files.proofs.Slashes.{cut, none_has}
use Rattle.user_files.proofs.paths.last_name.Goals as goal

pub returns-in-Some : goal.returns-in-Some
returns-in-Some c =
    let split = c.in-Some.ensures.cases in
    let is = cut c.args.path.now _ c.in-Some.name.now split.0 split.1 split.2 split.3 split.4 split.7 in
    record { no_slash = is.no_slash; ends = inr (_, is.is) }

pub returns-in-None : goal.returns-in-None
returns-in-None c = record { no_slash = none_has c.args.path.now c.in-None.ensures.cases; ends = inl refl }

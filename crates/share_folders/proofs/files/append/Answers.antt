use Rattle.std.proofs.Common.{rules, arith, ◌≡◌, ◌+◌, length, refl}
use Rattle.std.proofs.lemmas.List.{length-append}
use Rattle.std.specs.Prelude.{false}
use Rattle.share_folders.proofs.Closings.{from_stored}
use Rattle.share_folders.proofs.files.append.Goals as goal

pub returns-in_err-as_fault-clause-held : goal.returns-in_err-as_fault-clause-held
returns-in_err-as_fault-clause-held g c honest name before was = c.write.ensures.kept honest name _ was.1.1 refl

pub returns-clause-written : goal.returns-clause-written
returns-clause-written g c honest name before was =
    let sum : c.in-Some.length ≡ c.args.share.now.length + length c.args.bytes.now = search rules in (
      omega (arith, sum, was.0, length-append before c.args.bytes.now),
      (false, from_stored c.write.result _ _ c.in_ok-as_fault.ensures (c.write.ensures.written honest name _ was.1.1)),
    )

pub returns-clause-held : goal.returns-clause-held
returns-clause-held g c honest name before was = c.write.ensures.kept honest name _ was.1.1 refl

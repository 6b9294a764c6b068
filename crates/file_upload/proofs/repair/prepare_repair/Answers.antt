use Rattle.std.proofs.Common.{◌≡◌, ◌<◌, ◌≤◌, rules}
use Rattle.file_encoding.specs.declared.reading.ReadError.{ReadError}
use Rattle.file_encoding.specs.declared.reading.ReadError.TheVariants as all
use Rattle.file_upload.specs.RepairError.{refusal_of_all}
use Rattle.file_upload.specs.declared.repair.RepairError.TheVariants.{Inconsistent}
use Rattle.file_upload.proofs.OneLength.{passing_are_fit}
use Rattle.file_upload.proofs.repair.prepare_repair.Goals as goal

was_inconsistent : (e : ReadError) → refusal_of_all e ≡ Inconsistent → e ≡ all.Inconsistent
was_inconsistent all.OutOfMemory is = cc
was_inconsistent all.NotEnoughShares is = cc
was_inconsistent all.Inconsistent is = cc

pub returns-in_err-shares-clause-inconsistent : goal.returns-in_err-shares-clause-inconsistent
returns-in_err-shares-clause-inconsistent c = λ is.
    let was : c.in_err-shares.field-0.0 ≡ all.Inconsistent = was_inconsistent c.in_err-shares.field-0.0 (search rules) in
    c.in_err-shares.ensures.inconsistent (search rules)

pub ready_remade-requires : goal.ready_remade-requires
ready_remade-requires c =
    let some : 0 < c.args.cap.now.total = search rules in
    let few : c.args.cap.now.total ≤ 256 = search rules in
    passing_are_fit c.args.cap.now c.in_ok-shares.shares.items some few c.in_ok-shares.ensures.passing

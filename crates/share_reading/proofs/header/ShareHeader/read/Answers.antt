use Rattle.std.proofs.Common.{refl}
use Rattle.share_reading.specs.Refusal.{IsHeaderRefusal}
use Rattle.share_reading.specs.declared.error.OpeningError.TheVariants as errors
use Rattle.share_reading.proofs.RefusalLemmas.{only_header_fault, only_refusal}
use Rattle.share_reading.proofs.header.ShareHeader.read.Goals as goal

pub returns-in-Err-clause-refused : goal.returns-in-Err-clause-refused
returns-in-Err-clause-refused c =
    let header = c.args.bytes.now in
    let error = c.in-Err.error in
    let fault = (c.read.ensures.refused error).0 c.in-Err.is in
    only_refusal (IsHeaderRefusal header) _ (errors.Header error) refl fault (only_header_fault header error fault)

use Rattle.std.proofs.Common.{Ok, Err}
use Rattle.cap_text.specs.declared.error.CapError.TheVariants.{UnknownKind, BadBase32, BadNumber, BadParameters, WrongParts, LitTooLong}
use Rattle.cap_text.proofs.OneAnswer.{exactly}
use Rattle.cap_text.proofs.cap.Cap.parse.Goals as goal

pub returns-clause-cap : goal.returns-clause-cap
returns-clause-cap c cap = exactly c.args.text.now c.read_cap.result (Ok cap) c.read_cap.ensures

pub returns-clause-wrong_parts : goal.returns-clause-wrong_parts
returns-clause-wrong_parts c = exactly c.args.text.now c.read_cap.result (Err WrongParts) c.read_cap.ensures

pub returns-clause-bad_base32 : goal.returns-clause-bad_base32
returns-clause-bad_base32 c = exactly c.args.text.now c.read_cap.result (Err BadBase32) c.read_cap.ensures

pub returns-clause-bad_number : goal.returns-clause-bad_number
returns-clause-bad_number c = exactly c.args.text.now c.read_cap.result (Err BadNumber) c.read_cap.ensures

pub returns-clause-bad_parameters : goal.returns-clause-bad_parameters
returns-clause-bad_parameters c = exactly c.args.text.now c.read_cap.result (Err BadParameters) c.read_cap.ensures

pub returns-clause-unknown_kind : goal.returns-clause-unknown_kind
returns-clause-unknown_kind c = exactly c.args.text.now c.read_cap.result (Err UnknownKind) c.read_cap.ensures

pub returns-clause-lit_too_long : goal.returns-clause-lit_too_long
returns-clause-lit_too_long c = exactly c.args.text.now c.read_cap.result (Err LitTooLong) c.read_cap.ensures

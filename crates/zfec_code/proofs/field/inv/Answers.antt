use Rattle.std.proofs.Common.{◌∙◌, ap, get_or}
use Rattle.zfec_code.specs.Field.{product}
use Rattle.zfec_code.specs.declared.tables.TheConstants.{INVERSES}
use Rattle.zfec_code.proofs.TableEntries.{inverse_entry}
use Rattle.zfec_code.proofs.field.inv.Goals as goal

pub returns : goal.returns
returns c = ap (λ x. product c.args.a (get_or INVERSES x 0)) c.from.ensures ∙ inverse_entry c.args.a c.requires c.ranges.a.fits

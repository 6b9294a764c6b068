use Rattle.std.proofs.Common.{◌≡◌, List, ℕ, Err, rules, subst, sym}
use Rattle.world_script.specs.Script.{IsHexOf}
use Rattle.world_script.specs.declared.error.LineError.TheVariants.{NoCommand}
use Rattle.world_script.proofs.Naming.{third}
use Rattle.world_script.proofs.line.read_forgery.Goals as goal

pub returns-in_err-bytes-in-len3-clause-none : goal.returns-in_err-bytes-in-len3-clause-none
returns-in_err-bytes-in-len3-clause-none c = λ refused is.
    let none : c.bytes.result ≡ Err NoCommand = search rules in
    c.bytes.ensures.none none (is.2, subst (λ (w : List ℕ). IsHexOf is.2 w) (sym (third c.args.fields.now _ _ _ is.3 is.7)) is.6)

use Rattle.std.proofs.Common.{◌≡◌, ◌∙◌, ℕ, List, decimal, subst, sym, ap}
use Rattle.std.specs.Str.{IsUtf8}
use Rattle.std.proofs.lemmas.Str.{IsUtf8-from_ascii}
use Rattle.std.proofs.lemmas.Fmt.{IsAscii-decimal}
use Rattle.std.proofs.lemmas.Bool.{both_ways}
use Rattle.std.proofs.lemmas.Bool.Decides.{Decides-eqb}
use Rattle.std.proofs.lemmas.Slice.Eq.{slice_eq-Decides}
use Rattle.tagged_hash.proofs.DecimalLemmas.{parses, parsed_same}
use Rattle.tagged_hash.proofs.decimal.read_decimal.Goals as goal

pub returns-in_default-clause-none : goal.returns-in_default-clause-none
returns-in_default-clause-none c (n, small, e) =
    c.in_default.ensures.cases.0 (subst (λ (t : List ℕ). IsUtf8 t) (sym e) (IsUtf8-from_ascii (decimal n) (IsAscii-decimal n small)))

pub returns-in_default-parse-clause-none : goal.returns-in_default-parse-clause-none
returns-in_default-parse-clause-none c (n, small, e) =
    parses n c.in-Ok.digits.now small (c.in-Ok.ensures.cases.0 ∙ e) c.in_default-parse.ensures.value.0

pub returns-else-eq-clause-none : goal.returns-else-eq-clause-none
returns-else-eq-clause-none c (n, small, e) =
    let same = parsed_same c.in-Ok-parse.n n c.in-Ok.digits.now small (c.in-Ok.ensures.cases.0 ∙ e) c.in-Ok-parse.ensures.value.0 in
    let equal : c.as_bytes.result.now ≡ c.args.text.now = c.as_bytes.ensures ∙ c.new.ensures ∙ ap decimal same ∙ sym e in
    both_ways _ c.if-eq.false ((slice_eq-Decides Decides-eqb _ _ _ c.eq.ensures).1 equal)

use Rattle.share_folders.proofs.NameLaws.{stands_between, found_between}
use Rattle.share_folders.proofs.names.between_dots.Goals as goal

pub returns-clause-value : goal.returns-clause-value
returns-clause-value c =
    let first = c.in_ok-strip_prefix.ensures.cases in
    stands_between _ (λ x. x.now) c.args.text.now c.in_ok-strip_prefix.field-0.now c.strip_suffix.result first.0 first.1 c.strip_suffix.ensures.cases

pub returns-clause-only : goal.returns-clause-only
returns-clause-only c = λ inner is.
    let first = c.in_ok-strip_prefix.ensures.cases in
    found_between _ (λ x. x.now) c.args.text.now c.in_ok-strip_prefix.field-0.now inner c.strip_suffix.result is first.1 c.strip_suffix.ensures.cases
    (stands_between _ (λ x. x.now) c.args.text.now c.in_ok-strip_prefix.field-0.now c.strip_suffix.result first.0 first.1 c.strip_suffix.ensures.cases)

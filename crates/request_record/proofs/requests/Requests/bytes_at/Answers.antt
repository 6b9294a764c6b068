use Rattle.std.proofs.Common.{◌≡◌, ◌<◌, ℕ, List, Some, length, get_or, sym, ap, subst, ◌∙◌}
use Rattle.std.specs.Prelude.{option_map}
use Rattle.std.proofs.lemmas.Bool.{ltb-true}
use Rattle.request_record.specs.Kept.{IsDataAt}
use Rattle.request_record.specs.Record.{RequestsState}
use Rattle.request_record.proofs.KeptLaws.{data_here, none_here}
use Rattle.request_record.proofs.requests.Requests.bytes_at.Goals as goal

pub returns-in-Some-clause-some : goal.returns-in-Some-clause-some
returns-in-Some-clause-some c =
    let found = c.in_ok-bytes.ensures.lookup in
    let there : c.args.position < length c.self.inside.bytes.items = subst (λ xs. c.args.position < length xs) c.deref.ensures.value (ltb-true _ _ (sym found.0)) in
    let is : c.in_ok-bytes.field-0.now ≡ get_or c.self.inside.bytes.items c.args.position c.in_ok-bytes.field-0.now = found.1 ∙ ap (λ xs. get_or xs c.args.position c.in_ok-bytes.field-0.now) c.deref.ensures.value in
    let brings = ap (option_map (λ v. v.items)) c.in-Some.is ∙ ap (λ (b : List ℕ). Some b) (sym c.as_slice.ensures.value) in
    subst (λ (s : RequestsState). IsDataAt s.entries c.args.position c.as_slice.result.now) c.self.view_is
    (data_here _ c.self.inside.bytes.items c.self.inside.ledger.entries c.args.position c.as_slice.result.now c.in_ok-bytes.field-0.now c.self.invariant there is brings)

pub returns-in-None-clause-none : goal.returns-in-None-clause-none
returns-in-None-clause-none c =
    let found = c.in_ok-bytes.ensures.lookup in
    let there : c.args.position < length c.self.inside.bytes.items = subst (λ xs. c.args.position < length xs) c.deref.ensures.value (ltb-true _ _ (sym found.0)) in
    let is : c.in_ok-bytes.field-0.now ≡ get_or c.self.inside.bytes.items c.args.position c.in_ok-bytes.field-0.now = found.1 ∙ ap (λ xs. get_or xs c.args.position c.in_ok-bytes.field-0.now) c.deref.ensures.value in
    λ bytes is_there. none_here _ c.self.inside.bytes.items c.self.inside.ledger.entries c.args.position bytes c.in_ok-bytes.field-0.now c.self.invariant there is (ap (option_map (λ v. v.items)) c.in-None.is)
    (subst (λ (s : RequestsState). IsDataAt s.entries c.args.position bytes) (sym c.self.view_is) is_there)

use Rattle.std.proofs.Common.{◌<◌, List, ℕ, subst, sym}
use Rattle.std.specs.Prelude.{IfNone}
use Rattle.request_record.specs.Kept.{IsDataAt}
use Rattle.carried_operations.specs.Fetches.{FetchState, IsReadBy}
use Rattle.carried_operations.specs.Ranges.{read_count}
use Rattle.carried_operations.proofs.Asked.{read_by, read_has}
use Rattle.carried_operations.proofs.fetch.Fetch.copy_read.Goals as goal

pub returns-clause-read : goal.returns-clause-read
returns-clause-read c _ =
    let s = c.self.inside in
    let number : ℕ = c.args.number in
    let out : List ℕ = c.copy_from_slice.new.self in
    let came : IsDataAt s.requests.entries number out = subst (IsDataAt s.requests.entries number) (sym c.copy_from_slice.ensures.after) c.in-Some.ensures.some in
    subst (λ (d : FetchState). number < read_count d.range.length → IsReadBy d.range d.requests.entries number out) c.self.view_is
    (λ here. read_by s.range s.requests.entries number out (c.self.invariant number here) came) c.requires

pub returns-in_default-clause-missing : goal.returns-in_default-clause-missing
returns-in_default-clause-missing c _ bytes long =
    let s = c.self.inside in
    subst (λ (d : FetchState). IsReadBy d.range d.requests.entries c.args.number bytes → ⊥) c.self.view_is
    (λ read. (subst (λ o. IfNone o ((b : List ℕ) → IsDataAt s.requests.entries c.args.number b → ⊥)) c.in_default.is c.bytes_at.ensures.none) bytes (read_has s.range s.requests.entries c.args.number bytes read))

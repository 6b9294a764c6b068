use Rattle.std.proofs.Common.{◌∙◌, ℕ, List, Bor, Vec, Global, ap, map, subst}
use Rattle.file_encoding.specs.Reading.{AreInconsistent}
use Rattle.file_encoding.specs.Regenerated.{inconsistent}
use Rattle.file_upload.proofs.repair.decode.Goals as goal

abbrev Slice : Type 0
Slice = ℕ × Bor (List ℕ)

abbrev Given : Type 0
Given = ℕ × Vec ℕ Global

pub returns-clause-inconsistent : goal.returns-clause-inconsistent
returns-clause-inconsistent c wrong =
    let numbers = ap (λ (l : List Slice). map (λ (s : Slice). s.0) l) c.as_slice-2.ensures.value ∙ c.in_ok-given.ensures.numbers ∙ ap (λ (l : List Given). map (λ (s : Given). s.0) l) c.as_slice.ensures.value in
    let strings = ap (λ (l : List Slice). map (λ (s : Slice). s.1.now) l) c.as_slice-2.ensures.value ∙ c.in_ok-given.ensures.bytes ∙ ap (λ (l : List Given). map (λ (s : Given). s.1.items) l) c.as_slice.ensures.value in
    inconsistent (subst (λ (n : List ℕ). AreInconsistent c.args.cap.now n (map (λ (s : Given). s.1.items) c.args.good.items)) numbers
    (subst (λ (b : List (List ℕ)). AreInconsistent c.args.cap.now (map (λ (s : Slice). s.0) c.as_slice-2.result.now) b) strings (c.decode_shares.ensures.inconsistent wrong)))

use Rattle.std.proofs.Common.{◌≡◌, ◌+◌, ◌-◌, ℕ, List, get_or, ap, ◌∙◌, arith}
use Rattle.std.proofs.lemmas.Simd.{get_or-chunk}
use Rattle.sha2_lanes.proofs.Padding.{get_or-overwritten}
use Rattle.sha2_lanes.proofs.message.put.Goals as goal

pub returns-then-from-to-clause-inside : goal.returns-then-from-to-clause-inside
returns-then-from-to-clause-inside c i below low high =
    let from = c.max-from.result in
    let to = c.min-to.result in
    let start = c.args.start in
    let offset = c.args.offset in
    let bytes : List ℕ = c.args.bytes.now in
    let part : List ℕ = c.copy_from_slice.new.self in
    let at : from - offset + (i - (from - start)) ≡ start + i - offset = omega arith in
    get_or-overwritten (from - start) i c.args.block.now part _ 0 (omega arith) (omega arith) (omega arith)
    ∙ ap (λ (p : List ℕ). get_or p (i - (from - start)) 0) c.copy_from_slice.ensures.after
    ∙ get_or-chunk (from - offset) (to - offset - (from - offset)) bytes (i - (from - start)) 0 (omega arith)
    ∙ ap (λ (q : ℕ). get_or bytes q 0) at

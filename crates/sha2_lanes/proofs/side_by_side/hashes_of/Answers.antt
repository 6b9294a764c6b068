use Rattle.std.proofs.Common.{◌≡◌, ◌+◌, ◌-◌, ◌*◌, ℕ, List, Some, length, ap, sym, arith, ◌∙◌, inl, inr}
use Rattle.std.specs.Prelude.{slice_get}
use Rattle.std.proofs.lemmas.Bool.{cases_eq}
use Rattle.std.proofs.lemmas.Option.{slice_get-get_or, same_Some}
use Rattle.std.proofs.lemmas.Simd.{length-chunk}
use Rattle.sha2_lanes.specs.declared.stream.Sha256Stream.{Sha256Stream}
use Rattle.sha2_lanes.proofs.Parts.{part_at, part_before}
use Rattle.sha2_lanes.proofs.side_by_side.hashes_of.Goals as goal

pub loop-j-preserved : goal.loop-j-preserved
loop-j-preserved c = λ k s low there.
    let l = c.loop-j in
    let hashes : List ℕ = l.hashes in
    let room : length hashes ≡ 64 = c.loop-j-test.array_long in
    let ys : List ℕ = c.copy_from_slice.new.self in
    let long : length ys ≡ 8 * l.j + 8 - 8 * l.j = c.copy_from_slice.ensures.len ∙ length-chunk (8 * l.j) _ hashes (omega arith) in
    elim (cases_eq k l.j) [
      | inl e ↦
          let here : slice_get c.args.streams.now l.j ≡ Some s = rw e at there in
          let own = same_Some _ s (sym (slice_get-get_or c.args.streams.now l.j _ (omega arith)) ∙ here) in
          rw e (part_at (8 * l.j) _ hashes ys (8 * l.j) 0 8 (omega arith) (omega arith) (omega arith) ∙ c.copy_from_slice.ensures.after ∙ c.hash.ensures
          ∙ ap (λ (r : Sha256Stream). r.hash) own)
      | inr apart ↦
          part_before (8 * l.j) _ hashes ys (8 * k) 8 (omega arith) (omega arith) ∙ l.invariant k s (omega arith) there
    ]

use Rattle.std.proofs.Common.{◌≡◌, ℕ, ◌-◌, ◌*◌, ◌<◌, ◌≤◌, List, length, below_more, refl, subst, sym, arith, ◌∙◌}
use borrow.Rule.Slice.PartMut.{put_mid}
use Rattle.carried_operations.specs.Fetches.{FetchState, IsReadBy, part}
use Rattle.carried_operations.specs.Ranges.{read_count}
use Rattle.carried_operations.proofs.Parts.{part_long, part_other, part_own, window_long, within}
use Rattle.carried_operations.proofs.fetch.Fetch.copy_to.Goals as goal

pub reads-preserved : goal.reads-preserved
reads-preserved c =
    let n : ℕ = c.reads.number in
    let end : ℕ = c.min-end.result in
    let old : List ℕ = c.reads.out in
    let ys : List ℕ = c.copy_read.new.out in
    let range = c.args.self.now.range in
    let entries = c.args.self.now.requests.entries in
    let new : List ℕ = put_mid (n * 32768) (end - n * 32768) old ys in
    let there : n < read_count range.length = subst (λ (d : FetchState). n < read_count d.range.length) c.self.view_is (subst (λ (m : ℕ). n < m) c.read_count-number-end.ensures c.reads-test.true) in
    let room : n * 32768 ≤ length old = within n range.length (length old) there (c.reads.auto.out ∙ c.requires) in
    let long : length ys ≡ end - n * 32768 = c.copy_read.auto.out ∙ window_long (n * 32768) end old (omega (arith, c.min-end.ensures)) in
    below_more (λ (k : ℕ). IsReadBy range entries k (part k new)) n
    (λ k before. subst (IsReadBy range entries k) (sym (part_other n k (end - n * 32768) old ys before room)) (c.reads.invariant k before))
    (subst (IsReadBy range entries n) (sym (part_own n end old ys room c.min-end.ensures long)) (c.if-not-copy_read.ensures.read refl))

pub returns-then-not-copy_read-clause-missing : goal.returns-then-not-copy_read-clause-missing
returns-then-not-copy_read-clause-missing c _ bytes fetched =
    let n : ℕ = c.reads.number in
    let end : ℕ = c.min-end.result in
    let old : List ℕ = c.reads.out in
    let there : n < read_count c.args.self.now.range.length = subst (λ (d : FetchState). n < read_count d.range.length) c.self.view_is (subst (λ (m : ℕ). n < m) c.read_count-number-end.ensures c.reads-test.true) in
    let same : length bytes ≡ length old = fetched.long ∙ sym (c.reads.auto.out ∙ c.requires) in
    c.if-not-copy_read.ensures.missing refl (part n bytes)
    (part_long n end old bytes same c.min-end.ensures ∙ sym (window_long (n * 32768) end old (omega (arith, c.min-end.ensures))))
    (fetched.each n there)

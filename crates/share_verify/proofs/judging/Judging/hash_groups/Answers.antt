use Rattle.std.proofs.Common.{◌≡◌, ℕ, ◌+◌, ◌*◌, ◌<◌, ◌≤◌, ◌^◌, List, length, ap, sym, subst, ◌∙◌, arith}
use Rattle.share_layout.specs.Geometry.{Geometry, block_size, share_data_size}
use Rattle.share_verify.specs.CapBlock.{geometry_by}
use Rattle.share_verify.proofs.JudgingLemmas.{begins_then, within_then}
use Rattle.share_verify.proofs.judging.Judging.hash_groups.Goals as goal

pub returns : goal.returns
returns c = λ u taken has.
    let old = c.args.self.now in
    let g = geometry_by old.ueb in
    let hashes : List (List ℕ) = old.hashes.items in
    let kept : List ℕ = old.kept.items in
    let e = c.geometry_of-geometry.ensures in
    let bs : ℕ = block_size g in
    let n : ℕ = length hashes in
    let size : ℕ = c.block_size-size.result in
    let count : ℕ = c.whole_groups-count.result in
    let same : size ≡ bs = c.block_size-size.ensures.value ∙ ap block_size e in
    let data_is : c.share_data_size.result ≡ share_data_size g = c.share_data_size.ensures.value ∙ ap share_data_size e in
    let top : n * bs < 2 ^ 64 = omega (arith, has.within, data_is, c.share_data_size.ensures.range) in
    let hashed : c.hashed.result ≡ n * bs =
    c.hashed.ensures.value (subst (λ (h : Geometry). n * block_size h < 2 ^ 64) (sym e) top) ∙ ap (λ (h : Geometry). n * block_size h) e in
    let low : count * size ≤ length kept = omega (arith, c.whole_groups-count.ensures.there) in
    let high : n * bs + count * size ≤ share_data_size g =
    omega (arith, c.whole_groups-count.ensures.within, c.saturating_sub-data.ensures, hashed, data_is, has.within) in
    record {
      ueb = has.ueb;
      begins = begins_then size bs count taken kept hashes c.hash_first.new.hashes.items c.hash_first.new.kept.items same c.hash_first.result
          has.begins low c.hash_first.ensures.ok c.hash_first.ensures.err_hashes c.hash_first.ensures.err_kept;
      within = within_then size bs count taken kept hashes c.hash_first.new.hashes.items c.hash_first.new.kept.items same c.hash_first.result
          (share_data_size g) has.within high c.hash_first.ensures.ok c.hash_first.ensures.err_hashes;
    }

use Rattle.std.proofs.Common.{◌≡◌, ◌<◌, ◌∙◌, All, IsPermutation, length, ℕ, ap, sym, subst, List}
use Rattle.std.specs.List.{range_with_len}
use Rattle.std.proofs.lemmas.List.{length-map}
use Rattle.std.proofs.lemmas.List.Sorted.{All-permutation}
use Rattle.upload_core.proofs.Placed.{below_all}
use Rattle.upload_core.proofs.state.nodes_in_order.Goals as goal

pub nodes_at-requires : goal.nodes_at-requires
nodes_at-requires c =
    let n : length c.deref.result.now ≡ length c.args.servers.now = ap length (c.deref.ensures.value ∙ c.in_ok-ids.ensures) ∙ length-map _ _ in
    let p : IsPermutation (range_with_len 0 (length c.args.servers.now)) c.in_ok-positions.positions.items = subst (λ (k : ℕ). IsPermutation (range_with_len 0 k) c.in_ok-positions.positions.items) n c.in_ok-positions.ensures.positions in
    subst (λ (xs : List ℕ). All (λ (q : ℕ). q < length c.args.servers.now) xs) (sym c.deref-2.ensures.value)
    (All-permutation (λ (q : ℕ). q < length c.args.servers.now) (range_with_len 0 (length c.args.servers.now)) c.in_ok-positions.positions.items p (below_all (length c.args.servers.now)))

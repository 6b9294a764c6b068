use Rattle.std.proofs.Common.{◌≡◌, ℕ, None, arith, replicate, subst}
use Rattle.grid_serving.proofs.clients.no_clients.Goals as goal

pub returns : goal.returns
returns g c =
    let all : c.loop.counter ≡ 256 = omega arith in
    subst (λ (n : ℕ). c.loop.places.items ≡ replicate n None) all c.loop.invariant

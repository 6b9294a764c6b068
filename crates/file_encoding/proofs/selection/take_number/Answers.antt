use Rattle.std.proofs.Common.{ℕ, ◌+◌, List, map, refl, sym, subst, arith}
use Rattle.file_encoding.specs.LowestShares.{AreLowestAt}
use Rattle.file_encoding.proofs.LowestShares.{full_at, more_at, none_at}
use Rattle.file_encoding.proofs.selection.take_number.Goals as goal

pub returns-then-len-from : goal.returns-then-len-from
returns-then-len-from c =
    full_at c.args.cap.now (map (λ s. s.0) c.args.shares.now) (map (λ s. s.1.now) c.args.shares.now) c.args.number c.args.positions.now.items c.requires
    (omega (arith, c.if-len-from.true, c.len.ensures, c.args.positions.now.ok, c.from.ensures, c.needed.ensures.value))

pub returns-in_default : goal.returns-in_default
returns-in_default c =
    none_at c.args.cap.now (map (λ s. s.0) c.args.shares.now) (map (λ s. s.1.now) c.args.shares.now) c.args.number c.args.positions.now.items c.requires
    (c.in_default.ensures.none refl)

pub returns-in_ok-push : goal.returns-in_ok-push
returns-in_ok-push c =
    subst (λ (ps : List ℕ). AreLowestAt c.args.cap.now (map (λ s. s.0) c.args.shares.now) (map (λ s. s.1.now) c.args.shares.now) (c.args.number + 1) ps) (sym c.in_ok-push.ensures.items)
    (more_at c.args.cap.now (map (λ s. s.0) c.args.shares.now) (map (λ s. s.1.now) c.args.shares.now) c.args.number c.in-Some.position c.args.positions.now.items c.requires
    (omega (arith, c.if-len-from.false, c.len.ensures, c.args.positions.now.ok, c.from.ensures, c.needed.ensures.value)) c.in-Some.ensures.some)

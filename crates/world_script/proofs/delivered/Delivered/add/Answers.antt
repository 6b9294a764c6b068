use Rattle.std.proofs.Common.{rules, ◌≡◌, ◌<◌, ◌∷◌, ◌++◌, [], List, Bool, true, length, arith, inr, sym, subst, slice_set}
use Rattle.world_script.specs.Plans.{IsMarked, IsNoted}
use Rattle.world_script.proofs.Marking.{mark_at, mark_last}
use Rattle.world_script.proofs.delivered.Delivered.add.Goals as goal

pub invariant_of-self-then-position-len : goal.invariant_of-self-then-position-len
invariant_of-self-then-position-len c p lt =
    let low : c.args.position < length c.loop-length.self-inside.flags.items = search rules in
    let was : IsMarked c.self.inside.flags.items p = c.self.invariant p (subst (λ n. p < n) c.loop-length.invariant.first lt) in
    (mark_at c.self.inside.flags.items c.loop-length.self-inside.flags.items c.args.position c.loop-length.invariant.marks low p).1 (inr was)

pub invariant_of-self-in-Continue-branch-2 : goal.invariant_of-self-in-Continue-branch-2
invariant_of-self-in-Continue-branch-2 c p lt =
    let len : length c.loop-length.self-inside.flags.items ≡ c.args.position = grind arith in
    let was : IsMarked c.self.inside.flags.items p = c.self.invariant p (subst (λ n. p < n) c.loop-length.invariant.first lt) in
    subst (λ (f : List Bool). IsMarked f p) (sym c.in_ok-push-2.ensures.items) ((mark_last c.self.inside.flags.items c.loop-length.self-inside.flags.items c.args.position c.loop-length.invariant.marks len p).1 (inr was))

pub returns-then-position-len : goal.returns-then-position-len
returns-then-position-len c =
    let low : c.args.position < length c.loop-length.self-inside.flags.items = search rules in
    subst (λ (f : List Bool). IsNoted f c.args.position (slice_set c.loop-length.self-inside.flags.items c.args.position true)) c.self.view_is (mark_at c.self.inside.flags.items c.loop-length.self-inside.flags.items c.args.position c.loop-length.invariant.marks low)

pub returns-in_ok-push-2 : goal.returns-in_ok-push-2
returns-in_ok-push-2 c =
    let len : length c.loop-length.self-inside.flags.items ≡ c.args.position = grind arith in
    let noted : IsNoted c.self.inside.flags.items c.args.position (c.loop-length.self-inside.flags.items ++ true ∷ []) = mark_last c.self.inside.flags.items c.loop-length.self-inside.flags.items c.args.position c.loop-length.invariant.marks len in
    subst (λ (f : List Bool). IsNoted f c.args.position c.push-else-position-len.new.self.items) c.self.view_is (subst (λ (f : List Bool). IsNoted c.self.inside.flags.items c.args.position f) (sym c.in_ok-push-2.ensures.items) noted)

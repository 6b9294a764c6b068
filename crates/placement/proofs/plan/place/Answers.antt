use Rattle.std.proofs.Common.{◌≡◌, ◌++◌, rules, sym, subst, ap, ◌∙◌}
use Rattle.std.specs.List.{zip}
use Rattle.placement.specs.Matching.{IsLargestMatching}
use Rattle.placement.specs.Plan.{Spreads, held_by, remaining, shares_below, spare, untaken, unused, without_shares}
use Rattle.placement.proofs.Best.{best_placing, distinct_right}
use Rattle.placement.proofs.Members.{untaken-append}
use Rattle.placement.proofs.plan.place.Goals as goal
use Rattle.placement.proofs.plan.place.Goals.{After-drop-shares-2}

-- what neither the matchings nor the servers have
left_over : (c : After-drop-shares-2) → spare c.in_ok-m1.m1.items c.in_ok-m2.m2.items c.in_ok-m3.m3.items c.args.held.now c.args.n ≡ c.in_ok-spare.spare.items
left_over c =
    let m1 = c.in_ok-m1.m1.items in
    let m2 = c.in_ok-m2.m2.items in
    let m3 = c.in_ok-m3.m3.items in
    let here : untaken c.args.held.now (untaken m3 (remaining m1 m2 c.args.n)) ≡ c.in_ok-spare.spare.items = search rules in
    untaken-append (m1 ++ m2 ++ m3) c.args.held.now (shares_below c.args.n) ∙ ap (untaken c.args.held.now) (untaken-append (m1 ++ m2) m3 (shares_below c.args.n)) ∙ here

pub spread_or_leave-requires : goal.spread_or_leave-requires
spread_or_leave-requires c = distinct_right c.args.readonly.now c.args.writable.now c.requires.distinct

pub returns-clause-leftovers : goal.returns-clause-leftovers
returns-clause-leftovers c =
    let here : Spreads c.args.writable.now (c.in_ok-m2.m2.items ++ c.in_ok-m3.m3.items) c.in_ok-spare.spare.items c.in_ok-leftovers.leftovers.items c.in_ok-leftovers.unplaced.items = search rules in
    subst (λ l. Spreads c.args.writable.now (c.in_ok-m2.m2.items ++ c.in_ok-m3.m3.items) l c.in_ok-leftovers.leftovers.items c.in_ok-leftovers.unplaced.items) (sym (left_over c)) here

pub returns-clause-best : goal.returns-clause-best
returns-clause-best c =
    let m1 = c.in_ok-m1.m1.items in
    let m2 = c.in_ok-m2.m2.items in
    let m3 = c.in_ok-m3.m3.items in
    let second : IsLargestMatching (without_shares m1 (held_by c.args.writable.now c.args.held.now)) m2 = search rules in
    let paired : m3 ≡ zip (unused m2 c.args.writable.now) (remaining m1 m2 c.args.n) = search rules in
    best_placing c.args.readonly.now c.args.writable.now c.args.held.now c.args.n c.requires.distinct c.requires.known m1 m2 c.in_ok-m1.ensures second.matching m3
    (paired ∙ ap (zip (unused m2 c.args.writable.now)) (untaken-append m1 m2 (shares_below c.args.n)))

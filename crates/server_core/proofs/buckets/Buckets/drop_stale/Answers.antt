use Rattle.std.proofs.Common.{◌≡◌, rules, subst, sym}
use Rattle.std.specs.List.{filter}
use Rattle.std.proofs.lemmas.Fn.{filter_same}
use Rattle.server_core.specs.ServerState.{is_fresh_at}
use Rattle.server_core.specs.Sound.{AreApart}
use Rattle.server_core.proofs.Listed.{apart_filter}
use Rattle.server_core.proofs.buckets.Buckets.drop_stale.Goals as goal

pub invariant_of-self : goal.invariant_of-self
invariant_of-self c =
    let items = c.self.inside.open.items in
    let dropped : c.retain.new.self.items ≡ filter (is_fresh_at c.args.now) items = filter_same _ _ _ (λ x b f' k. search rules) _ _ c.retain.ensures.filtered in
    subst AreApart (sym dropped) (apart_filter (is_fresh_at c.args.now) items c.self.invariant)

pub returns : goal.returns
returns c =
    let dropped : c.retain.new.self.items ≡ filter (is_fresh_at c.args.now) c.self.inside.open.items = filter_same _ _ _ (λ x b f' k. search rules) _ _ c.retain.ensures.filtered in
    search rules

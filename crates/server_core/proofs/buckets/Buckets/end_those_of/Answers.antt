use Rattle.std.proofs.Common.{◌≡◌, rules, subst, sym}
use Rattle.std.specs.List.{filter}
use Rattle.std.proofs.lemmas.Fn.{filter_same}
use Rattle.server_core.specs.Buckets.{is_of_another}
use Rattle.server_core.specs.Sound.{AreApart}
use Rattle.server_core.proofs.Listed.{apart_filter}
use Rattle.server_core.proofs.buckets.Buckets.end_those_of.Goals as goal

pub invariant_of-self : goal.invariant_of-self
invariant_of-self c =
    let items = c.self.inside.open.items in
    let dropped : c.retain.new.self.items ≡ filter (is_of_another c.args.client) items = filter_same _ _ _ (λ x b f' k. search rules) _ _ c.retain.ensures.filtered in
    subst AreApart (sym dropped) (apart_filter (is_of_another c.args.client) items c.self.invariant)

pub returns : goal.returns
returns c =
    let dropped : c.retain.new.self.items ≡ filter (is_of_another c.args.client) c.self.inside.open.items = filter_same _ _ _ (λ x b f' k. search rules) _ _ c.retain.ensures.filtered in
    search rules

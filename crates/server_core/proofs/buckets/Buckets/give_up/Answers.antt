use Rattle.std.proofs.Common.{◌≡◌, ◌∙◌, Some, refl, rules, subst, sym}
use Rattle.std.specs.Prelude.{◌<◌, length, slice_get}
use Rattle.std.proofs.lemmas.Option.{slice_get_read}
use Rattle.server_core.specs.Buckets.{position_of}
use Rattle.server_core.specs.Sound.{AreApart}
use Rattle.server_core.proofs.Listed.{apart_filter}
use Rattle.server_core.proofs.Positions.{placed_at, removed_at}
use Rattle.server_core.proofs.buckets.Buckets.give_up.Goals as goal

pub invariant_of-self : goal.invariant_of-self
invariant_of-self c =
    let items = c.self.inside.open.items in
    let within : c.args.position < length items = search rules in
    let there : slice_get items c.args.position ≡ Some c.remove-bucket.result = slice_get_read items (length items) c.args.position c.remove-bucket.result refl within c.remove-bucket.ensures.value in
    let at = placed_at items c.args.position c.remove-bucket.result there c.self.invariant in
    let removed = c.remove-bucket.ensures.items ∙ removed_at c.remove-bucket.result.id items c.args.position at c.self.invariant in
    subst AreApart (sym removed) (apart_filter _ items c.self.invariant)

pub returns : goal.returns
returns c = λ id at.
    let items = c.self.inside.open.items in
    let here : position_of id items ≡ Some c.args.position = cc (at, c.self.view_is) in
    let removed = c.remove-bucket.ensures.items ∙ removed_at id items c.args.position here c.self.invariant in
    cc

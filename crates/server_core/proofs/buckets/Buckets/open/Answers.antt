use Rattle.std.proofs.Common.{◌≡◌, [], ◌∷◌, ◌++◌, None, subst, sym}
use Rattle.server_core.specs.Buckets.{bucket_at}
use Rattle.server_core.specs.Sound.{AreApart}
use Rattle.server_core.proofs.Listed.{apart_push}
use Rattle.server_core.proofs.buckets.Buckets.open.Goals as goal

pub invariant_of-self-2 : goal.invariant_of-self-2
invariant_of-self-2 c =
    let items = c.self.inside.open.items in
    let none : bucket_at c.args.bucket.id items ≡ None = cc (c.requires, c.self.view_is) in
    let pushed : c.push.new.self.items ≡ items ++ c.args.bucket ∷ [] = c.in_ok-push.ensures.items in
    subst AreApart (sym pushed) (apart_push items c.args.bucket none c.self.invariant)

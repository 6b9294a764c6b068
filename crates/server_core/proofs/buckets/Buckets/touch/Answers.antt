use Rattle.std.proofs.Common.{◌≡◌, ◌∙◌, Some, ap, refl, rules, set, subst, sym}
use Rattle.std.specs.Prelude.{◌<◌, length, slice_get}
use Rattle.std.proofs.lemmas.Option.{slice_get_read}
use Rattle.server_core.specs.declared.bucket.Bucket.{Bucket}
use Rattle.server_core.specs.Buckets.{position_of, touched}
use Rattle.server_core.specs.Sound.{AreApart}
use Rattle.server_core.proofs.Listed.{apart_changed}
use Rattle.server_core.proofs.Positions.{changed_at, placed_at}
use Rattle.server_core.proofs.buckets.Buckets.touch.Goals as goal

pub invariant_of-self : goal.invariant_of-self
invariant_of-self c =
    let items = c.self.inside.open.items in
    let lent = c.index_mut.result.now in
    let within : c.args.position < length items = search rules in
    let there : slice_get items c.args.position ≡ Some lent = slice_get_read items (length items) c.args.position lent refl within c.index_mut.ensures.value in
    let at = placed_at items c.args.position lent there c.self.invariant in
    let after = ap (λ (b : Bucket). set items c.args.position (touched c.args.now b)) c.index_mut.ensures.value ∙ changed_at lent.id (touched c.args.now) items c.args.position lent at in
    subst AreApart (sym after) (apart_changed lent.id (touched c.args.now) items (λ b. refl) c.self.invariant)

pub returns : goal.returns
returns c = λ id at.
    let items = c.self.inside.open.items in
    let here : position_of id items ≡ Some c.args.position = cc (at, c.self.view_is) in
    let after = ap (λ (b : Bucket). set items c.args.position (touched c.args.now b)) c.index_mut.ensures.value ∙ changed_at id (touched c.args.now) items c.args.position c.index_mut.result.now here in
    cc

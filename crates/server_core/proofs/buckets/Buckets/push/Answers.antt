use Rattle.std.proofs.Common.{◌≡◌, ◌∙◌, sym, ap, refl, rules, subst, set, Some}
use Rattle.std.specs.Prelude.{◌<◌, length, slice_get}
use Rattle.std.proofs.lemmas.Option.{slice_get_read}
use Rattle.std.proofs.lemmas.Option.{same_Some}
use Rattle.server_core.specs.declared.bucket.Bucket.{Bucket}
use Rattle.server_core.specs.Buckets.{GoesOn, bucket_at, changed, position_of, with_bytes}
use Rattle.server_core.specs.Sound.{AreApart}
use Rattle.server_core.proofs.Listed.{apart_changed}
use Rattle.server_core.proofs.Positions.{changed_at, found_at, placed_at}
use Rattle.server_core.proofs.buckets.Buckets.push.Goals as goal

pub invariant_of-self : goal.invariant_of-self
invariant_of-self c =
    let items = c.self.inside.open.items in
    let lent = c.index_mut.result.now in
    let within : c.args.position < length items = search rules in
    let there : slice_get items c.args.position ≡ Some lent = slice_get_read items (length items) c.args.position lent refl within c.index_mut.ensures.value in
    let at = placed_at items c.args.position lent there c.self.invariant in
    let gathered = c.push.ensures.0 in
    let after =
    ap (λ (x : Bucket). set items c.args.position x) c.push.ensures.2
    ∙ ap (λ (x : Bucket). set items c.args.position (with_bytes c.args.now gathered x)) c.index_mut.ensures.value
    ∙ changed_at lent.id (with_bytes c.args.now gathered) items c.args.position lent at in
    subst AreApart (sym after) (apart_changed lent.id (with_bytes c.args.now gathered) items (λ b. refl) c.self.invariant)

pub returns : goal.returns
returns c = λ id b at is.
    let items = c.self.inside.open.items in
    let position = c.args.position in
    let lent = c.index_mut.result.now in
    let here : position_of id items ≡ Some position = cc (at, c.self.view_is) in
    let found : bucket_at id items ≡ Some b = cc (is, c.self.view_is) in
    let same : b ≡ lent = same_Some b lent (sym found ∙ found_at id items position lent here ∙ ap Some (sym c.index_mut.ensures.value)) in
    let gathered = c.push.ensures.0 in
    let after : set items position c.push.new.self ≡ changed id (with_bytes c.args.now gathered) items =
    ap (λ (x : Bucket). set items position x) c.push.ensures.2
    ∙ ap (λ (x : Bucket). set items position (with_bytes c.args.now gathered x)) c.index_mut.ensures.value
    ∙ changed_at id (with_bytes c.args.now gathered) items position lent here in
    let goes = subst (λ (x : Bucket). GoesOn x.length c.args.bytes.now x.gathered gathered) (sym same) c.push.ensures.1 in
    (gathered, goes, cc)

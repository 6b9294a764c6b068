use Rattle.std.proofs.Common.{rules, ◌≡◌, ◌∙◌, ◌++◌, true, ap}
use Rattle.std.specs.Prelude.{map}
use Rattle.std.specs.BTreeMap.Range.{entries_between}
use Rattle.std.specs.declared.ops.Bound.TheVariants.{Included}
use Rattle.wire.specs.Held.{rises_from}
use Rattle.share_store.specs.Shelf.{held_by, order}
use Rattle.share_store.proofs.KeyLaws.{is_forward}
use Rattle.share_store.proofs.HeldLaws.{between_held, held_rises, share_of}
use Rattle.share_store.proofs.table.held_under.Goals as goal

pub range-key-items-requires : goal.range-key-items-requires
range-key-items-requires g c = rw c.under.ensures (is_forward c.args.index.now)

pub loop-key-init : goal.loop-key-init
loop-key-init g c =
    let digest_of = g.T.HasDigest.digest_of in
    let index = c.args.index.now in
    let between : c.range-key-items.result ≡ entries_between order (Included (index, 0)) (Included (index, 255)) c.args.closed.now.entries
    = (rw c.under.ensures at c.range-key-items.ensures.between) tt in
    ap (λ found. found ++ map (share_of digest_of) c.into_iter-key-iterator.result) c.new-found.ensures.items
    ∙ ap (map (share_of digest_of)) (c.into_iter-key-iterator.ensures.into_iter_gives ∙ between)
    ∙ between_held digest_of index c.args.closed.now.entries

pub unwrap-requires : goal.unwrap-requires
unwrap-requires g c =
    let all : c.loop-key.found.items ≡ held_by g.T.HasDigest.digest_of c.args.index.now c.args.closed.now.entries = search rules in
    let rise : rises_from 0 c.loop-key.found.items ≡ true =
    ap (rises_from 0) all ∙ held_rises g.T.HasDigest.digest_of c.args.index.now c.args.closed.now.entries c.range-key-items.ensures.ordered in
    rw c.from_vec.ensures (rw rise (search rules))

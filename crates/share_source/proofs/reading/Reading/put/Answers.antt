use Rattle.std.proofs.Common.{◌≡◌, ℕ, ◌<◌, All, Contains, List, length, set, ap, sym, subst, ◌∙◌, arith}
use Rattle.std.specs.Prelude.{remove, slice_index}
use Rattle.std.proofs.lemmas.List.{length-map, length-set, map-set}
use Rattle.std.proofs.lemmas.List.Elements.{All-set}
use Rattle.zfec_code.specs.Rows.{AreDistinct}
use Rattle.download_segments.specs.Decoding.{AreShareNumbers}
use Rattle.share_source.specs.Candidates.{picked_numbers}
use Rattle.share_source.specs.Reading.{IsReadingOf}
use Rattle.share_source.specs.declared.reading.Reading.{Reading}
use Rattle.share_source.proofs.Choice.{distinct_set, number_low, unlike_others}
use Rattle.share_source.proofs.reading.Reading.put.Goals as goal

-- a share was put into the place of another, and has none of the others' numbers
module _ (shares : List ℕ) (r : Reading) (index position : ℕ) (is : IsReadingOf shares r) (within : index < length r.positions.items) (there : position < length shares)
    (unlike : ¬ Contains (picked_numbers shares (remove r.positions.items index)) (slice_index shares position)) where
  abbrev old : List ℕ
  old = picked_numbers shares r.positions.items

  abbrev now : List ℕ
  now = set old index (slice_index shares position)

  put_below : All (λ n. n < r.geometry.total) now
  put_below = All-set (λ n. n < r.geometry.total) old index (slice_index shares position) (number_low shares r.geometry.total position is.range there) is.numbers.below

  put_distinct : AreDistinct now
  put_distinct =
      let long = length-map r.positions.items (slice_index shares) in
      let apart = unlike_others shares r.positions.items index (slice_index shares position) within unlike in
      distinct_set old index (slice_index shares position) (omega (arith, within, long)) is.numbers.distinct (λ j low. apart j (omega (arith, low, long)))

  put_is : now ≡ picked_numbers shares (set r.positions.items index position)
  put_is = sym (map-set (slice_index shares) r.positions.items index position)

  put_numbers : AreShareNumbers r.geometry (picked_numbers shares (set r.positions.items index position))
  put_numbers = subst (AreShareNumbers r.geometry) put_is
      (record { enough = length-set old index (slice_index shares position) ∙ is.numbers.enough; below = put_below; distinct = put_distinct })

pub new_decoder-requires-clause-below : goal.new_decoder-requires-clause-below
new_decoder-requires-clause-below c =
    let shares : List ℕ = c.args.numbers.now in
    let r : Reading = c.args.self.now in
    let p : ℕ = c.args.position in
    let items : c.in_ok-picked.picked.items ≡ picked_numbers shares r.positions.items = c.in_ok-picked.ensures ∙ ap (picked_numbers shares) c.deref.ensures.value in
    let is : set c.in_ok-picked.picked.items c.args.index (slice_index shares p) ≡ now shares r c.args.index p c.requires.reading c.requires.index c.requires.there c.requires.unlike =
    λ q. set (items q) c.args.index (slice_index shares p) in
    subst (All (λ m. m < r.code.n)) (sym is)
    (subst (λ t. All (λ m. m < t) (now shares r c.args.index p c.requires.reading c.requires.index c.requires.there c.requires.unlike)) (sym (ap (λ code. code.n) c.requires.reading.code))
    (put_below shares r c.args.index p c.requires.reading c.requires.index c.requires.there c.requires.unlike))

pub new_decoder-requires-clause-distinct : goal.new_decoder-requires-clause-distinct
new_decoder-requires-clause-distinct c =
    let shares : List ℕ = c.args.numbers.now in
    let r : Reading = c.args.self.now in
    let p : ℕ = c.args.position in
    let items : c.in_ok-picked.picked.items ≡ picked_numbers shares r.positions.items = c.in_ok-picked.ensures ∙ ap (picked_numbers shares) c.deref.ensures.value in
    let is : set c.in_ok-picked.picked.items c.args.index (slice_index shares p) ≡ now shares r c.args.index p c.requires.reading c.requires.index c.requires.there c.requires.unlike =
    λ q. set (items q) c.args.index (slice_index shares p) in
    subst AreDistinct (sym is) (put_distinct shares r c.args.index p c.requires.reading c.requires.index c.requires.there c.requires.unlike)

pub returns-clause-reading : goal.returns-clause-reading
returns-clause-reading c =
    let shares : List ℕ = c.args.numbers.now in
    let r : Reading = c.args.self.now in
    let before = c.requires.reading in
    let p : ℕ = c.args.position in
    let items : c.in_ok-picked.picked.items ≡ picked_numbers shares r.positions.items = c.in_ok-picked.ensures ∙ ap (picked_numbers shares) c.deref.ensures.value in
    let is : set c.in_ok-picked.picked.items c.args.index (slice_index shares p) ≡ now shares r c.args.index p before c.requires.index c.requires.there c.requires.unlike =
    λ q. set (items q) c.args.index (slice_index shares p) in
    record {
      range = before.range;
      there = All-set (λ q. q < length shares) r.positions.items c.args.index p c.requires.there before.there;
      numbers = put_numbers shares r c.args.index p before c.requires.index c.requires.there c.requires.unlike;
      decoder = c.in_ok-self.ensures ∙ is ∙ put_is shares r c.args.index p before c.requires.index c.requires.there c.requires.unlike;
      code = before.code;
      blocks = before.blocks;
      segment = before.segment;
    }

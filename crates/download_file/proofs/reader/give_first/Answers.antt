use Rattle.std.proofs.Common.{◌≡◌, ◌∙◌, ◌<◌, ℕ, All, Contains, Some, ap, refl, sym, length, slice_get, slice_set}
use Rattle.std.proofs.lemmas.List.Elements.{All-contains}
use Rattle.lemmas.proofs.Positions.{got}
use Rattle.download_file.proofs.EndLemmas.{first_gives}
use Rattle.download_file.proofs.LiveLemmas.{first_live}
use Rattle.download_file.proofs.reader.give_first.Goals as goal

there : (c : goal.After-index_mut) → slice_get c.args.readers.now.items c.in-Some.position ≡ Some c.index_mut.result.now
there c =
    let among = first_live c.args.live.now c.in-Some.position (sym (c.copied.ensures ∙ c.first.ensures.value) ∙ c.in-Some.is) in
    let low : c.in-Some.position < length c.args.readers.now.items = All-contains (λ position. position < length c.args.readers.now.items) c.args.live.now c.in-Some.position c.requires.there among in
    got c.args.readers.now.items c.in-Some.position c.index_mut.result.now low c.index_mut.ensures.value

pub give-requires : goal.give-requires
give-requires c =
    c.requires.gives c.in-Some.position c.index_mut.result.now
    (first_live c.args.live.now c.in-Some.position (sym (c.copied.ensures ∙ c.first.ensures.value) ∙ c.in-Some.is)) (there c)

pub returns-in-Some : goal.returns-in-Some
returns-in-Some c =
    let first : slice_get c.args.live.now 0 ≡ Some c.in-Some.position = sym (c.copied.ensures ∙ c.first.ensures.value) ∙ c.in-Some.is in
    let among : Contains c.args.live.now c.in-Some.position = first_live c.args.live.now c.in-Some.position first in
    let low : c.in-Some.position < length c.args.readers.now.items = All-contains (λ p. p < length c.args.readers.now.items) c.args.live.now c.in-Some.position c.requires.there among in
    let at : slice_get c.args.readers.now.items c.in-Some.position ≡ Some c.index_mut.result.now = got c.args.readers.now.items c.in-Some.position c.index_mut.result.now low c.index_mut.ensures.value in
    first_gives c.args.readers.now.items c.args.live.now c.args.taken.now c.in-Some.position c.index_mut.result.now c.give.new.self
    (slice_set c.args.readers.now.items c.in-Some.position c.give.new.self) first at c.give.ensures.gives refl

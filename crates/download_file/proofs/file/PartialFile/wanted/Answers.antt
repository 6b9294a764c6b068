use Rattle.std.proofs.Common.{◌≡◌, ◌≢◌, ◌∙◌, ◌<◌, inl, inr, ℕ, List, true, false, Some, ap, subst, sym, length, slice_get, slice_set, arith}
use Rattle.std.proofs.lemmas.List.{length-set}
use Rattle.std.proofs.lemmas.List.Elements.{All-weaker}
use Rattle.lemmas.proofs.Positions.{got, set_cases}
use Rattle.download_parts.specs.Plan.{IsNodePiece}
use Rattle.download_parts.specs.declared.part.NodePiece.{NodePiece}
use Rattle.download_supply.specs.Cursors.{cursor_at}
use Rattle.download_supply.specs.Supply.{SupplyState}
use Rattle.download_segments.specs.Handout.{next_segment}
use Rattle.download_file.specs.State.{FileState, IsHeard, IsLive, ReaderState, giver, file_state, without}
use Rattle.download_file.specs.Steps.{CanGive}
use Rattle.download_file.proofs.EndLemmas.{option_is_true}
use Rattle.download_file.proofs.EndFileLemmas.{HasEnded, can_give, has_ended}
use Rattle.download_file.proofs.StateLemmas.{heard_there}
use Rattle.download_file.proofs.WantedLemmas.{HasWanted, has_wanted}
use Rattle.download_file.proofs.Fields.{seen}
use Rattle.download_file.proofs.file.PartialFile.wanted.Goals as goal

abbrev asked : goal.In-Ok → FileState
asked c = file_state c.self.inside.handout c.self.inside.plan.first c.self.inside.plan.end c.self.inside.taken (slice_set c.self.inside.readers.items c.args.reader c.ask.new.self) c.self.inside.live.items c.self.inside.aside.items c.self.inside.groups.items

wanted : (c : goal.In-Ok) → HasWanted c.args.self.now c.args.reader c.args.position c.last_asked-last.result c.in-Ok.wanted.items (asked c)
wanted c =
    let f : FileState = seen c.self.inside in
    let heard : IsHeard f c.args.reader = inl (subst (λ (s : FileState). IsLive s c.args.reader) (sym c.self.view_is) c.requires.live) in
    let low : c.args.reader < length f.readers = heard_there f c.args.reader c.self.invariant.0 heard in
    let r : ReaderState = c.index_mut.result.now in
    let at : slice_get f.readers c.args.reader ≡ Some r = got f.readers c.args.reader r low c.index_mut.ensures.value in
    let first_is : c.copied.result ≡ slice_get f.live 0 = c.copied.ensures ∙ c.first.ensures.value ∙ ap (λ (l : List ℕ). slice_get l 0) c.deref.ensures.value in
    let gives_yes : giver f ≡ Some c.args.reader → c.eq-gives.result ≡ true = λ e. c.eq-gives.ensures ∙ option_is_true c.copied.result c.args.reader (first_is ∙ e) in
    subst (λ (s : FileState). HasWanted s c.args.reader c.args.position c.last_asked-last.result c.in-Ok.wanted.items (asked c)) c.self.view_is
    (has_wanted f c.args.reader r c.ask.new.self c.eq-gives.result c.last_asked-last.result c.args.position c.in-Ok.wanted.items c.self.invariant.0 heard at
    c.ask.ensures.server c.ask.ensures.share c.ask.ensures.only c.ask.ensures.right c.in-Ok.ensures.asks gives_yes c.in-Ok.ensures.waits)

pub invariant_of-self : goal.invariant_of-self
invariant_of-self c = ((wanted c).right, c.self.invariant.1)

pub returns-in-Ok-clause-asks : goal.returns-in-Ok-clause-asks
returns-in-Ok-clause-asks c = (wanted c).asks

pub returns-in-Ok-clause-waits : goal.returns-in-Ok-clause-waits
returns-in-Ok-clause-waits c = (wanted c).waits

pub returns-in-Ok-clause-asked_up : goal.returns-in-Ok-clause-asked_up
returns-in-Ok-clause-asked_up c = (wanted c).asked_up c.in-Some.next
    (subst (λ (s : FileState). next_segment s.handout ≡ Some c.in-Some.next) c.self.view_is (sym c.in-Some.ensures.value)) c.last_asked-last.ensures.from
    (subst (λ (s : FileState). c.last_asked-last.result < s.end) c.self.view_is c.last_asked-last.ensures.before)

pub returns-in-Ok-clause-others_asked_up : goal.returns-in-Ok-clause-others_asked_up
returns-in-Ok-clause-others_asked_up c = (wanted c).others_asked_up

pub returns-in-Ok-clause-copies : goal.returns-in-Ok-clause-copies
returns-in-Ok-clause-copies c = (wanted c).copies_are

pub returns-in-Ok-clause-others : goal.returns-in-Ok-clause-others
returns-in-Ok-clause-others c = (wanted c).others

pub returns-in-Ok-clause-reads : goal.returns-in-Ok-clause-reads
returns-in-Ok-clause-reads c = (wanted c).reads

pub returns-in-Ok-clause-right : goal.returns-in-Ok-clause-right
returns-in-Ok-clause-right c = (wanted c).right

-- ---- memory was refused

pub end_reader-requires-clause-there : goal.end_reader-requires-clause-there
end_reader-requires-clause-there c =
    let long = length-set c.self.inside.readers.items c.args.reader c.ask.new.self in
    All-weaker (λ position. position < length c.self.inside.readers.items) (λ position. position < length (slice_set c.self.inside.readers.items c.args.reader c.ask.new.self))
    (λ position low. omega (arith, low, long)) c.self.inside.live.items c.self.invariant.0.live.there

pub end_reader-requires-clause-found : goal.end_reader-requires-clause-found
end_reader-requires-clause-found c =
    let f : FileState = seen c.self.inside in
    let long = length-set c.self.inside.readers.items c.args.reader c.ask.new.self in
    let low = heard_there f c.args.reader c.self.invariant.0 (inl (subst (λ (s : FileState). IsLive s c.args.reader) (sym c.self.view_is) c.requires.live)) in
    omega (arith, long, low)

pub end_reader-requires-clause-gives : goal.end_reader-requires-clause-gives
end_reader-requires-clause-gives c = λ position s among at.
    let f : FileState = seen c.self.inside in
    let heard : IsHeard f c.args.reader = inl (subst (λ (s : FileState). IsLive s c.args.reader) (sym c.self.view_is) c.requires.live) in
    let low : c.args.reader < length f.readers = heard_there f c.args.reader c.self.invariant.0 heard in
    let r : ReaderState = c.index_mut.result.now in
    let was : slice_get f.readers c.args.reader ≡ Some r = got f.readers c.args.reader r low c.index_mut.ensures.value in
    elim (set_cases f.readers c.args.reader position c.ask.new.self s at) [
      | inr k ↦ can_give f position s c.self.invariant.0 k.1
      | inl k ↦ subst (λ (q : ReaderState). CanGive q f.taken) k.1
          (subst (λ (q : SupplyState). (p : NodePiece) → p.index < cursor_at f.taken p.level → IsNodePiece q.geometry q.start q.end p) (sym c.ask.ensures.only)
          (can_give f c.args.reader r c.self.invariant.0 was))
    ]

abbrev then : goal.After-end_reader → FileState
then c = file_state c.self.inside.handout c.self.inside.plan.first c.self.inside.plan.end c.self.inside.taken c.end_reader.new.readers.items c.end_reader.new.live.items c.end_reader.new.aside.items c.self.inside.groups.items

ended : (c : goal.After-end_reader) → HasEnded c.args.self.now c.args.reader c.index_mut.result.now.supply c.ask.new.self.supply (then c)
ended c =
    let f : FileState = seen c.self.inside in
    let heard : IsHeard f c.args.reader = inl (subst (λ (s : FileState). IsLive s c.args.reader) (sym c.self.view_is) c.requires.live) in
    let low : c.args.reader < length f.readers = heard_there f c.args.reader c.self.invariant.0 heard in
    let r : ReaderState = c.index_mut.result.now in
    let at : slice_get f.readers c.args.reader ≡ Some r = got f.readers c.args.reader r low c.index_mut.ensures.value in
    subst (λ (s : FileState). HasEnded s c.args.reader r.supply c.ask.new.self.supply (then c)) c.self.view_is
    (subst (λ (l : List ℕ). HasEnded f c.args.reader r.supply c.ask.new.self.supply (record f { readers = c.end_reader.new.readers.items; live = l; aside = c.end_reader.new.aside.items })) (sym c.end_reader.ensures.live)
    (subst (λ (l : List ℕ). HasEnded f c.args.reader r.supply c.ask.new.self.supply (record f { readers = c.end_reader.new.readers.items; live = without c.args.reader f.live; aside = l })) (sym c.end_reader.ensures.aside)
    (has_ended f c.args.reader c.self.invariant.0 r c.ask.new.self c.end_reader.new.readers.items at c.ask.ensures.server c.ask.ensures.share c.ask.ensures.only c.ask.ensures.right c.end_reader.ensures.ends)))

pub invariant_of-self-in-Err : goal.invariant_of-self-in-Err
invariant_of-self-in-Err c = ((ended c).right, c.self.invariant.1)

pub returns-in-Err-clause-copies : goal.returns-in-Err-clause-copies
returns-in-Err-clause-copies c = (ended c).same_copies

pub returns-in-Err-clause-others : goal.returns-in-Err-clause-others
returns-in-Err-clause-others c = (ended c).others

pub returns-in-Err-clause-reads : goal.returns-in-Err-clause-reads
returns-in-Err-clause-reads c = (ended c).reads

pub returns-in-Err-clause-right : goal.returns-in-Err-clause-right
returns-in-Err-clause-right c = (ended c).right

pub returns-in-Ok-clause-same : goal.returns-in-Ok-clause-same
returns-in-Ok-clause-same c = (wanted c).same

pub returns-in-Err-clause-same : goal.returns-in-Err-clause-same
returns-in-Err-clause-same c = (ended c).same

use Rattle.std.proofs.Common.{◌≡◌, ◌∙◌, ℕ, inl, List, ◌++◌, length, None, refl, sym, subst, ap, arith}
use Rattle.request_record.specs.Record.{RequestsState}
use Rattle.download_shares.specs.HoldingState.{HoldingsState}
use Rattle.std.specs.Prelude.{All, AllPairs}
use Rattle.std.proofs.lemmas.Option.{slice_get_within}
use Rattle.lemmas.proofs.Results.{on_ok_then}
use Rattle.lemmas.proofs.Positions.{got}
use Rattle.download_shares.specs.HoldingMoves.{IsUnasked}
use Rattle.download_shares.proofs.Opened.{goes_none}
use Rattle.download_supply.specs.declared.wanted.Wanted.{Wanted}
use Rattle.download_file.specs.State.{IsLive, waiting_from, waiting_at}
use Rattle.download_core.specs.Reading.{AreLinked, AreReading, IsOf}
use Rattle.download_core.specs.ReadingState.{ReadingState, reading_state}
use Rattle.download_parts.specs.PlanLaws.{AreApart}
use Rattle.download_file.specs.Asked.{IsAskedUp, IsOneOf}
use Rattle.download_file.specs.Changes.{StaysAskedUp}
use Rattle.download_file.proofs.GrowLemmas.{reads_keep}
use Rattle.download_core.proofs.Awaited.{asked_awaits}
use Rattle.download_core.proofs.Busy.{busy_file, busy_goes}
use Rattle.download_core.proofs.Ended.{adds_none, asks_none, planned_of}
use Rattle.download_core.specs.ReadingSteps.{Continues}
use Rattle.download_core.specs.ReadingSteps as steps
use Rattle.download_core.proofs.Asked.{asked_reading, held_is, parts_unasked}
use Rattle.download_core.proofs.Fields.{seen}
use Rattle.download_core.proofs.file_reading.FileReading.ask.Goals as goal

pub returns-in_err-wanted-clause-continues : goal.returns-in_err-wanted-clause-continues
returns-in_err-wanted-clause-continues c =
    let bs = c.args.beginnings.now in
    let r : ReadingState = seen c.self.inside in
    let q : ReadingState = reading_state c.wanted.new.self c.self.inside.holdings.items in
    subst (λ (x : ReadingState). Continues bs x bs q) c.self.view_is
    (record {
      goes = goes_none bs bs refl refl;
      same = c.in_err-wanted.ensures.same;
      pieces = adds_none r.file.handout q.file.handout c.in_err-wanted.ensures.handout;
      answers = λ a. c.in_err-wanted.ensures.reads bs.holdings.requests.entries a;
      reads = asks_none r.file bs bs refl;
    })

pub index-requires : goal.index-requires
index-requires c =
    let bs = c.args.beginnings.now in
    let r : ReadingState = seen c.self.inside in
    let reading : AreLinked bs r = subst (AreLinked bs) (sym c.self.view_is) c.requires.reading.linked in
    let live : IsLive r.file c.args.reader = subst (λ (x : ReadingState). IsLive x.file c.args.reader) (sym c.self.view_is) c.requires.live in
    (let k = reading.live c.args.reader (inl live) in let w = slice_get_within r.holdings c.args.reader k.holding k.of in let o = c.self.inside.holdings.ok.0 in omega (arith, w, o))

pub ask_parts-requires-clause-there : goal.ask_parts-requires-clause-there
ask_parts-requires-clause-there c =
    let bs = c.args.beginnings.now in
    let r : ReadingState = seen c.self.inside in
    let reading : AreLinked bs r = subst (AreLinked bs) (sym c.self.view_is) c.requires.reading.linked in
    let live : IsLive r.file c.args.reader = subst (λ (x : ReadingState). IsLive x.file c.args.reader) (sym c.self.view_is) c.requires.live in
    let of : IsOf r c.args.reader c.index.result.now = got r.holdings c.args.reader c.index.result.now (let k = reading.live c.args.reader (inl live) in slice_get_within r.holdings c.args.reader k.holding k.of) c.index.ensures in
    let h = held_is bs r c.wanted.new.self c.args.reader c.index.result.now c.in_ok-wanted.wanted.items reading (inl live) of c.in_ok-wanted.ensures.asks in
    slice_get_within bs.holdings.table.holdings c.index.result.now _ h

pub ask_parts-requires-clause-apart : goal.ask_parts-requires-clause-apart
ask_parts-requires-clause-apart c =
    subst (λ (l : List Wanted). AllPairs (λ (v w : Wanted). AreApart v.read.offset v.read.length w.read.offset w.read.length) l) (sym c.deref.ensures.value) c.in_ok-wanted.ensures.asks.apart

pub ask_parts-requires-clause-fresh : goal.ask_parts-requires-clause-fresh
ask_parts-requires-clause-fresh c =
    let bs = c.args.beginnings.now in
    let r : ReadingState = seen c.self.inside in
    let reading : AreLinked bs r = subst (AreLinked bs) (sym c.self.view_is) c.requires.reading.linked in
    let live : IsLive r.file c.args.reader = subst (λ (x : ReadingState). IsLive x.file c.args.reader) (sym c.self.view_is) c.requires.live in
    let of : IsOf r c.args.reader c.index.result.now = got r.holdings c.args.reader c.index.result.now (let k = reading.live c.args.reader (inl live) in slice_get_within r.holdings c.args.reader k.holding k.of) c.index.ensures in
    subst (λ (l : List Wanted). All (λ (w : Wanted). IsUnasked bs.holdings c.index.result.now w.read.offset w.read.length) l) (sym c.deref.ensures.value)
    (parts_unasked bs r c.wanted.new.self c.args.reader c.index.result.now c.in_ok-wanted.wanted.items reading (inl live) of c.in_ok-wanted.ensures.asks)

pub returns-clause-reading : goal.returns-clause-reading
returns-clause-reading c =
    let bs = c.args.beginnings.now in
    let r : ReadingState = seen c.self.inside in
    let reading : AreLinked bs r = subst (AreLinked bs) (sym c.self.view_is) c.requires.reading.linked in
    let live : IsLive r.file c.args.reader = subst (λ (x : ReadingState). IsLive x.file c.args.reader) (sym c.self.view_is) c.requires.live in
    let of : IsOf r c.args.reader c.index.result.now = got r.holdings c.args.reader c.index.result.now (let k = reading.live c.args.reader (inl live) in slice_get_within r.holdings c.args.reader k.holding k.of) c.index.ensures in
    let q : ReadingState = reading_state c.wanted.new.self c.self.inside.holdings.items in
    let f = c.wanted.new.self in
    let t = c.ask_parts.new.beginnings in
    let k = c.in_ok-wanted.ensures in
    let before : AreReading bs r = subst (AreReading bs) (sym c.self.view_is) c.requires.reading in
    let position : c.len-position.result ≡ length bs.holdings.requests.entries = c.len-position.ensures.value ∙ ap (λ (x : RequestsState). length x.entries) (c.requests.ensures.value ∙ ap (λ (x : HoldingsState). x.requests) c.holdings.ensures) in
    on_ok_then c.ask_parts.result _ (AreReading t q) c.ask_parts.ensures.asks
    (λ done.
    let asks = subst (λ (l : List Wanted). steps.AsksParts c.index.result.now l bs t) c.deref.ensures.value done in
    record {
      linked = asked_reading bs r f c.args.reader c.index.result.now c.in_ok-wanted.wanted.items reading (inl live) of k.asks t asks c.ask_parts.ensures.grows k.right reads_keep k.reads k.live k.aside k.copies k.same.geometry;
      awaits = asked_awaits bs t r f c.args.reader c.index.result.now c.in_ok-wanted.wanted.items before.awaits of asks c.ask_parts.ensures.goes k.live k.aside
          (subst (λ n. waiting_at f c.args.reader ≡ waiting_at r.file c.args.reader ++ waiting_from n c.in_ok-wanted.wanted.items) position k.waits) k.others;
      busy = busy_file None t r q refl (busy_goes bs t r before.busy asks.table asks.begun c.ask_parts.ensures.goes);
    })

pub returns-clause-asked_up : goal.returns-clause-asked_up
returns-clause-asked_up c = on_ok_then c.ask_parts.result _ (IsAskedUp c.wanted.new.self c.args.reader) c.ask_parts.ensures.asks (λ done. c.in_ok-wanted.ensures.asked_up)

pub returns-clause-others : goal.returns-clause-others
returns-clause-others c =
    on_ok_then c.ask_parts.result _ ((other : ℕ) → StaysAskedUp c.args.self.now.file c.wanted.new.self other) c.ask_parts.ensures.asks
    (λ done other. subst (λ (x : ReadingState). StaysAskedUp x.file c.wanted.new.self other) c.self.view_is (c.in_ok-wanted.ensures.others_asked_up other))

pub returns-clause-table : goal.returns-clause-table
returns-clause-table c =
    on_ok_then c.ask_parts.result _ (c.ask_parts.new.beginnings.holdings.table ≡ c.args.beginnings.now.holdings.table) c.ask_parts.ensures.asks (λ done. done.table)

pub returns-clause-continues : goal.returns-clause-continues
returns-clause-continues c =
    let bs = c.args.beginnings.now in
    let r : ReadingState = seen c.self.inside in
    let q : ReadingState = reading_state c.wanted.new.self c.self.inside.holdings.items in
    subst (λ (x : ReadingState). Continues bs x c.ask_parts.new.beginnings q) c.self.view_is
    (record {
      goes = c.ask_parts.ensures.goes;
      same = c.in_ok-wanted.ensures.same;
      pieces = adds_none r.file.handout q.file.handout c.in_ok-wanted.ensures.handout;
      answers = λ a. reads_keep bs.holdings.requests.entries c.ask_parts.new.beginnings.holdings.requests.entries c.wanted.new.self c.ask_parts.ensures.grows.stays (c.in_ok-wanted.ensures.reads bs.holdings.requests.entries a);
      reads = λ position n share offset len there le asked. planned_of r.file c.in_ok-wanted.wanted.items offset len c.in_ok-wanted.ensures.asks.planned
          (subst (λ (l : List Wanted). IsOneOf l offset len) c.deref.ensures.value (c.ask_parts.ensures.adds position n share offset len there le asked));
    })

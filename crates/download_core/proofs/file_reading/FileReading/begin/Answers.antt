use Rattle.std.proofs.Common.{◌≡◌, ◌∙◌, ℕ, List, [], ◌∷◌, ◌++◌, length, get_or, Some, false, refl, sym, subst, ap, arith}
use Rattle.std.specs.Prelude.{option_map, slice_get}
use Rattle.std.proofs.lemmas.Option.{get_or_from_slice_get, slice_get-map}
use Rattle.std.proofs.lemmas.List.{length-append}
use Rattle.lemmas.proofs.Options.{one_there}
use Rattle.download_shares.specs.HoldingState.{HoldingsState}
use Rattle.download_shares.specs.Table.{IsHolding, IsTable}
use Rattle.download_shares.specs.declared.holding.Holding.{Holding}
use Rattle.download_shares.specs.BeginningState.{BeginningsState}
use Rattle.download_shares.proofs.Opened.{goes_none}
use Rattle.download_file.specs.Answers.{IsRead}
use Rattle.download_file.specs.State.{CopyState, ReaderState, copies, copy, copy_of}
use Rattle.download_core.specs.Reading.{AreLinked, AreReading}
use Rattle.download_core.specs.ReadingState.{ReadingState, reading_state}
use Rattle.download_core.specs.ReadingSteps.{Continues}
use Rattle.download_core.proofs.Awaited.{begun_awaits}
use Rattle.download_core.proofs.Begun.{begun_reading, free_not_taken}
use Rattle.download_core.proofs.Busy.{busy_begun}
use Rattle.download_core.proofs.Ended.{adds_none, asks_none}
use Rattle.download_core.proofs.Fields.{seen}
use Rattle.download_core.proofs.file_reading.FileReading.begin.Goals as goal

abbrev nobody : Holding
nobody = record { server = 0; share = 0; left = false; suspended = false }

-- the holding that is read in the code
held_is : (bs : BeginningsState) (hs : HoldingsState) (list : List Holding) (holding : ℕ) (h : Holding) → hs ≡ bs.holdings → list ≡ hs.table.holdings → IsHolding bs.holdings.table holding h → get_or list holding nobody ≡ h
held_is bs hs list holding h e f is =
    ap (λ (l : List Holding). get_or l holding nobody) (f ∙ ap (λ (x : HoldingsState). x.table.holdings) e) ∙ get_or_from_slice_get bs.holdings.table.holdings holding h nobody is

share_of : (bs : BeginningsState) (hs : HoldingsState) (list : List Holding) (holding : ℕ) (h : Holding) → hs ≡ bs.holdings → list ≡ hs.table.holdings → IsHolding bs.holdings.table holding h → (get_or list holding nobody).share ≡ h.share
share_of bs hs list holding h e f is = ap (λ (x : Holding). x.share) (held_is bs hs list holding h e f is)

pub begin-requires-clause-there : goal.begin-requires-clause-there
begin-requires-clause-there c =
    let bs = c.args.beginnings.now in
    let h = c.requires.free.0 in
    let same = share_of bs c.holdings.result.now c.holdings-2.result.now c.args.holding h c.holdings.ensures c.holdings-2.ensures.value c.requires.free.1 in
    let table : IsTable bs.holdings.table = subst (λ (x : HoldingsState). IsTable x.table) c.holdings.ensures c.holdings-2.ensures.table in
    let below = table.below c.args.holding h c.requires.free.1 in
    let total = c.requires.reading.linked.kept.total ∙ ap (λ (x : ReadingState). x.file.handout.geometry.total) (sym c.self.view_is) in
    omega (arith, same, below, total)

pub begin-requires-clause-unread : goal.begin-requires-clause-unread
begin-requires-clause-unread c reader x alive is same =
    let bs = c.args.beginnings.now in
    let r : ReadingState = seen c.self.inside in
    let reading : AreLinked bs r = subst (AreLinked bs) (sym c.self.view_is) c.requires.reading.linked in
    let h = c.requires.free.0 in
    let now = reading.live reader alive in
    let k = reading.kept.forth reader now.holding now.of in
    let held : k.held ≡ now.held = one_there (slice_get bs.holdings.table.holdings now.holding) k.held now.held k.is now.is in
    let at : slice_get (copies r.file) reader ≡ Some (copy_of x) = slice_get-map (λ (y : ReaderState). copy_of y) r.file.readers reader ∙ ap (λ o. option_map (λ (y : ReaderState). copy_of y) o) is in
    let two : copy k.held.server k.held.share ≡ copy_of x = one_there (slice_get (copies r.file) reader) (copy k.held.server k.held.share) (copy_of x) k.reads at in
    let one : k.held.share ≡ x.share = ap (λ (y : CopyState). y.share) two in
    free_not_taken bs.holdings.table now.holding now.held h c.requires.free.2
    (sym (share_of bs c.holdings.result.now c.holdings-2.result.now c.args.holding h c.holdings.ensures c.holdings-2.ensures.value c.requires.free.1) ∙ sym same ∙ sym one ∙ ap (λ (y : Holding). y.share) held) now.taken

pub returns-in_err-reader-clause-continues : goal.returns-in_err-reader-clause-continues
returns-in_err-reader-clause-continues c =
    let bs = c.args.beginnings.now in
    let r : ReadingState = seen c.self.inside in
    subst (λ (x : ReadingState). Continues bs x bs (reading_state c.begin.new.self c.self.inside.holdings.items)) c.self.view_is
    (record {
      goes = goes_none bs bs refl refl;
      same = c.in_err-reader.ensures.same;
      pieces = adds_none r.file.handout c.begin.new.self.handout c.in_err-reader.ensures.handout;
      answers = λ a. c.in_err-reader.ensures.reads bs.holdings.requests.entries a;
      reads = asks_none r.file bs bs refl;
    })

pub returns-in_err-push-clause-continues : goal.returns-in_err-push-clause-continues
returns-in_err-push-clause-continues c =
    let bs = c.args.beginnings.now in
    let r : ReadingState = seen c.self.inside in
    subst (λ (x : ReadingState). Continues bs x bs (reading_state c.begin.new.self c.push.new.self.items)) c.self.view_is
    (record {
      goes = goes_none bs bs refl refl;
      same = c.in_ok-reader.ensures.same;
      pieces = adds_none c.self.inside.file.handout c.begin.new.self.handout c.in_ok-reader.ensures.handout;
      answers = λ a. c.in_ok-reader.ensures.reads bs.holdings.requests.entries a;
      reads = asks_none c.self.inside.file bs bs refl;
    })

pub returns-clause-reading : goal.returns-clause-reading
returns-clause-reading c =
    let bs = c.args.beginnings.now in
    let t = c.begin_reader.new.self in
    let r : ReadingState = seen c.self.inside in
    let before : AreReading bs r = subst (AreReading bs) (sym c.self.view_is) c.requires.reading in
    let h = c.requires.free.0 in
    let k = c.in_ok-reader.ensures in
    let is = c.begin_reader.ensures.reader in
    let held = held_is bs c.holdings.result.now c.holdings-2.result.now c.args.holding h c.holdings.ensures c.holdings-2.ensures.value c.requires.free.1 in
    subst (λ (l : List ℕ). AreReading t (reading_state c.begin.new.self l)) (sym c.in_ok-push.ensures.items)
    (record {
      linked = begun_reading bs t r c.begin.new.self c.args.holding h before.linked c.requires.free.1 c.requires.free.2 c.in_ok-reader.reader k.position
          (k.copies ∙ ap (λ (x : Holding). copies r.file ++ copy x.server x.share ∷ []) held) k.live k.aside k.asked k.reads k.right k.same.geometry c.begin_reader.ensures.known is;
      awaits = begun_awaits bs t r c.begin.new.self c.args.holding before.linked before.awaits (ap (λ (x : HoldingsState). x.requests) is.holdings) is.takes.2 k.live k.aside k.waiting;
      busy = busy_begun bs t r (reading_state c.begin.new.self (r.holdings ++ c.args.holding ∷ [])) c.args.holding c.in_ok-reader.reader before.busy is (k.position ∙ sym before.linked.kept.linked) refl;
    })

pub returns-clause-continues : goal.returns-clause-continues
returns-clause-continues c =
    let bs = c.args.beginnings.now in
    let t = c.begin_reader.new.self in
    let e = c.begin_reader.ensures.reader.holdings in
    subst (λ (x : ReadingState). Continues bs x t (reading_state c.begin.new.self c.push.new.self.items)) c.self.view_is
    (record {
      goes = goes_none bs t (ap (λ (x : HoldingsState). x.requests) e) (ap (λ (x : HoldingsState). x.blamed) e);
      same = c.in_ok-reader.ensures.same;
      pieces = adds_none c.self.inside.file.handout c.begin.new.self.handout c.in_ok-reader.ensures.handout;
      answers = λ a. subst (λ (x : HoldingsState). IsRead x.requests.entries c.begin.new.self) (sym e) (c.in_ok-reader.ensures.reads bs.holdings.requests.entries a);
      reads = asks_none c.self.inside.file bs t (ap (λ (x : HoldingsState). x.requests) e);
    })

pub returns-clause-live : goal.returns-clause-live
returns-clause-live c =
    let e = ap length c.in_ok-reader.ensures.live in
    let l = ap (λ (x : ReadingState). length x.file.live) c.self.view_is in
    omega (arith, e, l, length-append c.self.inside.file.live (length c.self.inside.file.readers ∷ []))

pub returns-clause-held : goal.returns-clause-held
returns-clause-held c = c.begin_reader.ensures.reader.takes.2

pub returns-clause-blamed : goal.returns-clause-blamed
returns-clause-blamed c = ap (λ (x : HoldingsState). x.blamed) c.begin_reader.ensures.reader.holdings

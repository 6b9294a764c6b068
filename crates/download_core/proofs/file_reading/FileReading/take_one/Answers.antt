use Rattle.download_shares.proofs.Caused.{adds_as, adds_none}
use Rattle.std.specs.Prelude.{Err}
use Rattle.download_file.specs.Taking.{IsRefused}
use Rattle.download_core.specs.ReadingCauses.{IsBlameOf, IsPartFault}
use Rattle.download_core.proofs.Causes.{answers_first, part_fault, part_moved}
use Rattle.std.proofs.Common.{◌≡◌, ◌∙◌, ℕ, List, [], Contains, Some, None, refl, sym, subst, ap}
use Rattle.std.proofs.lemmas.List.{append-nil}
use Rattle.lemmas.proofs.Options.{one_there}
use Rattle.request_record.specs.Record.{RequestsState}
use Rattle.download_shares.specs.HoldingState.{HoldingsState}
use Rattle.download_shares.specs.Reads.{IsAnsweredBy}
use Rattle.download_shares.specs.BeginningState.{BeginningsState}
use Rattle.download_shares.proofs.Opened.{goes_none}
use Rattle.download_segments.specs.State.{HandoutState}
use Rattle.download_file.specs.Answers.{AnswersFirst}
use Rattle.download_file.specs.Changes.{IsSameFile}
use Rattle.download_file.specs.State.{FileState, IsHeard, first_waiting}
use Rattle.download_core.specs.Reading.{AreReadingBut}
use Rattle.download_core.specs.ReadingState.{ReadingState, reading_state}
use Rattle.download_core.specs.ReadingSteps.{Continues}
use Rattle.download_core.proofs.Awaited.{awaits_last, taken_awaits, unanswered}
use Rattle.download_core.proofs.Busy.{busy_file}
use Rattle.download_core.proofs.Ended.{asks_none, continues_none}
use Rattle.download_core.proofs.Fallen.{file_goes}
use Rattle.download_core.proofs.Fields.{seen}
use Rattle.download_core.proofs.Listed.{heard_same}
use Rattle.download_core.proofs.file_reading.FileReading.take_one.Goals as goal

answered_by : (bs : BeginningsState) (hs : HoldingsState) (rs : RequestsState) (position : ℕ) (bytes : List ℕ) → hs ≡ bs.holdings → rs ≡ hs.requests → IsAnsweredBy rs.entries position bytes → IsAnsweredBy bs.holdings.requests.entries position bytes
answered_by bs hs rs position bytes e f a = subst (λ (q : RequestsState). IsAnsweredBy q.entries position bytes) (f ∙ ap (λ (x : HoldingsState). x.requests) e) a

-- the bytes are what the reader's own server answered
answers : (bs : BeginningsState) (r : ReadingState) (reader position : ℕ) (hs : HoldingsState) (rs : RequestsState) (bytes : List ℕ) → AreReadingBut (Some reader) bs r → IsHeard r.file reader → first_waiting r.file reader ≡ Some position
    → hs ≡ bs.holdings → rs ≡ hs.requests → IsAnsweredBy rs.entries position bytes → AnswersFirst bs.holdings.requests.entries r.file reader bytes
answers bs r reader position hs rs bytes reading live waits e f a = answers_first (Some reader) bs r reader position bytes reading live waits (answered_by bs hs rs position bytes e f a)

pub returns-in_default-clause-continues : goal.returns-in_default-clause-continues
returns-in_default-clause-continues c = continues_none c.args.beginnings.now c.args.self.now

pub returns-in_default-clause-last : goal.returns-in_default-clause-last
returns-in_default-clause-last c e =
    let bs = c.args.beginnings.now in
    let r = c.args.self.now in
    let before = c.requires.reading in
    record {
      linked = before.linked;
      awaits = awaits_last bs r c.args.reader before.awaits (λ position h k first.
          unanswered bs r (Some c.args.reader) c.args.reader position h before.awaits k first
          (λ bytes a. c.in_default.ensures.none bytes
          (subst (λ p. IsAnsweredBy c.requests.result.now.entries p bytes) (one_there (first_waiting r.file c.args.reader) position c.args.position first c.requires.waits)
          (subst (λ (q : RequestsState). IsAnsweredBy q.entries position bytes) (sym (c.requests.ensures.value ∙ ap (λ (x : HoldingsState). x.requests) c.holdings.ensures)) a))));
      busy = before.busy;
    }

pub returns-in-Ok-clause-next : goal.returns-in-Ok-clause-next
returns-in-Ok-clause-next c e =
    let bs = c.args.beginnings.now in
    let r : ReadingState = seen c.self.inside in
    let q : ReadingState = reading_state c.take.new.self c.self.inside.holdings.items in
    let before : AreReadingBut (Some c.args.reader) bs r = subst (AreReadingBut (Some c.args.reader) bs) (sym c.self.view_is) c.requires.reading in
    let waits : first_waiting r.file c.args.reader ≡ Some c.args.position = subst (λ (x : ReadingState). first_waiting x.file c.args.reader ≡ Some c.args.position) (sym c.self.view_is) c.requires.waits in
    let live : IsHeard r.file c.args.reader = subst (λ (x : ReadingState). IsHeard x.file c.args.reader) (sym c.self.view_is) c.requires.live in
    record {
      linked = file_goes bs r c.take.new.self before.linked (heard_same r.file c.take.new.self c.in-Ok.ensures.live c.in-Ok.ensures.aside) (heard_same c.take.new.self r.file (sym c.in-Ok.ensures.live) (sym c.in-Ok.ensures.aside)) c.in-Ok.ensures.copies c.in-Ok.ensures.asked
          (c.in-Ok.ensures.reads bs.holdings.requests.entries before.linked.kept.answers
          (answers bs r c.args.reader c.args.position c.holdings.result.now c.requests.result.now c.in-Some.bytes.now before live waits c.holdings.ensures c.requests.ensures.value c.in-Some.ensures.some))
          c.in-Ok.ensures.right c.in-Ok.ensures.same.geometry;
      awaits = taken_awaits bs r c.take.new.self c.args.reader before.awaits c.in-Ok.ensures.live c.in-Ok.ensures.aside c.in-Ok.ensures.others c.in-Ok.ensures.taken;
      busy = busy_file None bs r q refl before.busy;
    }

pub returns-in-Ok-clause-live : goal.returns-in-Ok-clause-live
returns-in-Ok-clause-live c e =
    let r : ReadingState = seen c.self.inside in
    let live : IsHeard r.file c.args.reader = subst (λ (x : ReadingState). IsHeard x.file c.args.reader) (sym c.self.view_is) c.requires.live in
    heard_same c.take.new.self r.file (sym c.in-Ok.ensures.live) (sym c.in-Ok.ensures.aside) c.args.reader live

pub returns-in-Ok-clause-continues : goal.returns-in-Ok-clause-continues
returns-in-Ok-clause-continues c =
    let bs = c.args.beginnings.now in
    let r : ReadingState = seen c.self.inside in
    let waits : first_waiting r.file c.args.reader ≡ Some c.args.position = subst (λ (x : ReadingState). first_waiting x.file c.args.reader ≡ Some c.args.position) (sym c.self.view_is) c.requires.waits in
    let before : AreReadingBut (Some c.args.reader) bs r = subst (AreReadingBut (Some c.args.reader) bs) (sym c.self.view_is) c.requires.reading in
    let live : IsHeard r.file c.args.reader = subst (λ (x : ReadingState). IsHeard x.file c.args.reader) (sym c.self.view_is) c.requires.live in
    subst (λ (x : ReadingState). Continues bs x bs (reading_state c.take.new.self c.self.inside.holdings.items)) c.self.view_is
    (record {
      goes = goes_none bs bs refl refl;
      same = c.in-Ok.ensures.same;
      pieces = record { handed = ap (λ (h : HandoutState). h.handed) c.in-Ok.ensures.handout.handout; more = []; ready = ap (λ (h : HandoutState). h.ready) c.in-Ok.ensures.handout.handout ∙ sym (append-nil c.self.inside.file.handout.ready) };
      answers = λ a. c.in-Ok.ensures.reads bs.holdings.requests.entries a
          (answers bs r c.args.reader c.args.position c.holdings.result.now c.requests.result.now c.in-Some.bytes.now before live waits c.holdings.ensures c.requests.ensures.value c.in-Some.ensures.some);
      reads = asks_none r.file bs bs refl;
    })

pub returns-in-Err-OutOfMemory-clause-continues : goal.returns-in-Err-OutOfMemory-clause-continues
returns-in-Err-OutOfMemory-clause-continues c =
    let bs = c.args.beginnings.now in
    let q : ReadingState = reading_state c.take.new.self c.self.inside.holdings.items in
    subst (λ (x : ReadingState). Continues bs x bs q) c.self.view_is
    (subst (λ (f : FileState). Continues bs (reading_state f c.self.inside.holdings.items) bs q) c.in-Err-OutOfMemory.ensures.unchanged (continues_none bs q))

pub returns-in_default-clause-causes : goal.returns-in_default-clause-causes
returns-in_default-clause-causes c =
    let bs = c.args.beginnings.now in
    adds_none (IsPartFault bs.holdings.requests.entries c.args.self.now.file) bs.holdings.blamed bs.holdings.blamed refl

pub returns-in-Ok-clause-causes : goal.returns-in-Ok-clause-causes
returns-in-Ok-clause-causes c =
    let bs = c.args.beginnings.now in
    adds_none (IsPartFault bs.holdings.requests.entries c.take.new.self) bs.holdings.blamed bs.holdings.blamed refl

pub returns-in-Err-OutOfMemory-clause-causes : goal.returns-in-Err-OutOfMemory-clause-causes
returns-in-Err-OutOfMemory-clause-causes c =
    let bs = c.args.beginnings.now in
    adds_none (IsPartFault bs.holdings.requests.entries c.take.new.self) bs.holdings.blamed bs.holdings.blamed refl

pub returns-in_err-blame-in-Err-Check-clause-causes : goal.returns-in_err-blame-in-Err-Check-clause-causes
returns-in_err-blame-in-Err-Check-clause-causes c =
    let bs = c.args.beginnings.now in
    let r = c.args.self.now in
    let same : reading_state c.take.new.self c.self.inside.holdings.items ≡ r = ap (λ (f : FileState). reading_state f c.self.inside.holdings.items) c.in-Err-Check.ensures.unchanged ∙ c.self.view_is in
    let refused = subst (λ (x : ReadingState). IsRefused x.file c.args.reader c.in-Some.bytes.now c.in-Err-Check.check) c.self.view_is (c.in-Err-Check.ensures.refused c.in-Err-Check.check (ap Err c.in-Err-Check.field-0-is)) in
    let a = answered_by bs c.holdings.result.now c.requests.result.now c.args.position c.in-Some.bytes.now c.holdings.ensures c.requests.ensures.value c.in-Some.ensures.some in
    adds_as (IsBlameOf bs (reading_state c.take.new.self c.self.inside.holdings.items) c.args.reader c.in-Err-Check.check) (IsPartFault bs.holdings.requests.entries c.blame.new.self.file) bs.holdings.blamed c.blame.new.beginnings.holdings.blamed
    (λ b k. part_moved bs.holdings.requests.entries bs.holdings.requests.entries r.file c.blame.new.self.file b (λ i x e quiet. e) (subst (λ (x : ReadingState). IsSameFile x.file c.blame.new.self.file) same c.blame.ensures.continues.same)
    (part_fault (Some c.args.reader) bs r c.args.reader c.args.position c.in-Err-Check.check c.in-Some.bytes.now b c.requires.reading c.requires.live c.requires.waits a refused
    (subst (λ (x : ReadingState). IsBlameOf bs x c.args.reader c.in-Err-Check.check b) same k)))
    c.blame.ensures.adds

pub returns-in_ok-blame-in-Err-Check-clause-causes : goal.returns-in_ok-blame-in-Err-Check-clause-causes
returns-in_ok-blame-in-Err-Check-clause-causes c =
    let bs = c.args.beginnings.now in
    let r = c.args.self.now in
    let same : reading_state c.take.new.self c.self.inside.holdings.items ≡ r = ap (λ (f : FileState). reading_state f c.self.inside.holdings.items) c.in-Err-Check.ensures.unchanged ∙ c.self.view_is in
    let refused = subst (λ (x : ReadingState). IsRefused x.file c.args.reader c.in-Some.bytes.now c.in-Err-Check.check) c.self.view_is (c.in-Err-Check.ensures.refused c.in-Err-Check.check (ap Err c.in-Err-Check.field-0-is)) in
    let a = answered_by bs c.holdings.result.now c.requests.result.now c.args.position c.in-Some.bytes.now c.holdings.ensures c.requests.ensures.value c.in-Some.ensures.some in
    adds_as (IsBlameOf bs (reading_state c.take.new.self c.self.inside.holdings.items) c.args.reader c.in-Err-Check.check) (IsPartFault bs.holdings.requests.entries c.blame.new.self.file) bs.holdings.blamed c.blame.new.beginnings.holdings.blamed
    (λ b k. part_moved bs.holdings.requests.entries bs.holdings.requests.entries r.file c.blame.new.self.file b (λ i x e quiet. e) (subst (λ (x : ReadingState). IsSameFile x.file c.blame.new.self.file) same c.blame.ensures.continues.same)
    (part_fault (Some c.args.reader) bs r c.args.reader c.args.position c.in-Err-Check.check c.in-Some.bytes.now b c.requires.reading c.requires.live c.requires.waits a refused
    (subst (λ (x : ReadingState). IsBlameOf bs x c.args.reader c.in-Err-Check.check b) same k)))
    c.blame.ensures.adds

-- what was asked stays asked
pub invariant_of-self : goal.invariant_of-self
invariant_of-self c e q live =
    c.take.ensures.asked_up q (c.self.invariant e q (subst (λ (l : List ℕ). Contains l q) c.take.ensures.live live))

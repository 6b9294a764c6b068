use Rattle.std.proofs.Common.{◌≡◌, ◌∙◌, ℕ, ◌<◌, ◌≤◌, List, Contains, length, get_or, sym, subst, ap, arith, true≢false}
use Rattle.std.proofs.lemmas.List.{take_all}
use Rattle.request_record.specs.Record.{RequestsState}
use Rattle.download_shares.specs.BeginningState.{BeginningsState}
use Rattle.download_shares.specs.HoldingState.{HoldingsState}
use Rattle.download_file.specs.State.{FileState}
use Rattle.download_core.specs.ReadingState.{ReadingState}
use Rattle.download_core.specs.ReadingSteps.{IsLate}
use Rattle.download_core.proofs.Listed.{none_more}
use Rattle.download_core.proofs.file_reading.FileReading.first_late.Goals as goal

-- the record and the file that the code looks at
late_in : (bs : BeginningsState) (hs : HoldingsState) (rs : RequestsState) (f g : FileState) (reader : ℕ) → rs ≡ hs.requests → hs ≡ bs.holdings → f ≡ g
    → IsLate bs.holdings.requests.entries g reader → IsLate rs.entries f reader
late_in bs hs rs f g reader a b e k =
    subst (λ (x : FileState). IsLate rs.entries x reader) (sym e) (subst (λ (q : RequestsState). IsLate q.entries g reader) (sym (a ∙ ap (λ (x : HoldingsState). x.requests) b)) k)

late_out : (bs : BeginningsState) (hs : HoldingsState) (rs : RequestsState) (f g : FileState) (reader : ℕ) → rs ≡ hs.requests → hs ≡ bs.holdings → f ≡ g
    → IsLate rs.entries f reader → IsLate bs.holdings.requests.entries g reader
late_out bs hs rs f g reader a b e k =
    subst (λ (x : FileState). IsLate bs.holdings.requests.entries x reader) e (subst (λ (q : RequestsState). IsLate q.entries f reader) (a ∙ ap (λ (x : HoldingsState). x.requests) b) k)

pub loop-reader-preserved : goal.loop-reader-preserved
loop-reader-preserved c =
    let bs = c.args.beginnings.now in
    let file : c.self.inside.file ≡ c.args.self.now.file = ap (λ (x : ReadingState). x.file) c.self.view_is in
    let list : c.live-reader-items.result.now ≡ c.args.self.now.file.live = c.live-reader-items.ensures.value ∙ ap (λ (x : ReadingState). x.file.live) c.self.view_is in
    let lt : c.loop-reader.reader-index < length c.args.self.now.file.live = (let t = c.loop-reader-test.true in let l = ap length list in omega (arith, t, l)) in
    none_more {P = IsLate bs.holdings.requests.entries c.args.self.now.file} c.args.self.now.file.live c.loop-reader.reader-index 0 lt c.loop-reader.invariant
    (subst (λ (l : List ℕ). IsLate bs.holdings.requests.entries c.args.self.now.file (get_or l c.loop-reader.reader-index 0) → ⊥) list
    (λ late. true≢false (sym (c.is_late.ensures.1 (late_in bs c.holdings.result.now c.requests.result.now c.self.inside.file c.args.self.now.file _ c.requests.ensures.value c.holdings.ensures file late)) ∙ c.if-is_late.false)))

pub returns-then-is_late-clause-late : goal.returns-then-is_late-clause-late
returns-then-is_late-clause-late c =
    let file : c.self.inside.file ≡ c.args.self.now.file = ap (λ (x : ReadingState). x.file) c.self.view_is in
    late_out c.args.beginnings.now c.holdings.result.now c.requests.result.now c.self.inside.file c.args.self.now.file _ c.requests.ensures.value c.holdings.ensures file
    (c.is_late.ensures.0 c.if-is_late.true)

pub returns-clause-none : goal.returns-clause-none
returns-clause-none c = λ reader live late.
    let list : c.live-reader-items.result.now ≡ c.args.self.now.file.live = c.live-reader-items.ensures.value ∙ ap (λ (x : ReadingState). x.file.live) c.self.view_is in
    let le : length c.args.self.now.file.live ≤ c.loop-reader.reader-index = (let t = c.loop-reader-test.false in let l = ap length list in omega (arith, t, l)) in
    c.loop-reader.invariant reader (subst (λ (l : List ℕ). Contains l reader) (sym (take_all c.loop-reader.reader-index c.args.self.now.file.live le)) live) late

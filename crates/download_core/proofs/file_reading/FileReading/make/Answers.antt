use Rattle.download_shares.proofs.Caused.{adds_none}
use Rattle.download_core.specs.ReadingCauses.{IsBlockFault}
use Rattle.download_core.proofs.Causes.{made_causes}
use Rattle.std.proofs.Common.{◌≡◌, ◌⊎◌, ◌∙◌, inl, ℕ, ◌<◌, List, Contains, Ok, Err, Some, refl, sym, subst, ap}
use Rattle.std.specs.Prelude.{Result}
use Rattle.std.specs.declared.alloc.AllocError.{AllocError}
use Rattle.download_shares.specs.HoldingState.{HoldingsState}
use Rattle.request_record.specs.Record.{RequestsState}
use Rattle.download_shares.specs.BeginningState.{BeginningsState}
use Rattle.download_segments.specs.NoCodeWord.{IsNoCodeWord}
use Rattle.download_file.specs.Answers.{IsRead}
use Rattle.download_file.specs.Asked.{AreAskedUp}
use Rattle.download_file.specs.Changes.{StaysAskedUp}
use Rattle.download_file.specs.Making.{CanNotGoOn, IsInconsistent, MustWait, RefutesReader}
use Rattle.download_file.specs.State.{FileState, IsComplete}
use Rattle.download_file.specs.declared.file.Made.{Made}
use Rattle.download_file.specs.declared.file.Made.TheVariants as made_as
use Rattle.download_core.specs.Reading.{AreReading}
use Rattle.download_core.specs.ReadingState.{ReadingState, reading_state}
use Rattle.download_core.specs.ReadingSteps.{Continues, work}
use Rattle.download_core.proofs.Awaited.{reading_less}
use Rattle.download_core.proofs.Ended.{continues_trans}
use Rattle.download_core.proofs.Fallen.{made_continues, pieces_made}
use Rattle.download_core.proofs.Made.{all_made, less_blamed, less_made}
use Rattle.download_core.proofs.Fields.{seen}
use Rattle.download_core.proofs.file_reading.FileReading.make.Goals as goal

-- the record of the beginnings
pub read_in : (bs : BeginningsState) (hs : HoldingsState) (rs : RequestsState) (f : FileState) → rs ≡ hs.requests → hs ≡ bs.holdings → IsRead rs.entries f → IsRead bs.holdings.requests.entries f
read_in bs hs rs f a b = subst (λ (q : RequestsState). IsRead q.entries f) (a ∙ ap (λ (x : HoldingsState). x.requests) b)

inconsistent_in : (bs : BeginningsState) (hs : HoldingsState) (rs : RequestsState) (f : FileState) → rs ≡ hs.requests → hs ≡ bs.holdings → IsInconsistent rs.entries f
    → IsInconsistent bs.holdings.requests.entries f
inconsistent_in bs hs rs f a b = subst (λ (q : RequestsState). IsInconsistent q.entries f) (a ∙ ap (λ (x : HoldingsState). x.requests) b)

ok_is : (a b : Made) → ◌≡◌ {A = Result Made AllocError} (Ok a) (Ok b) → a ≡ b
ok_is a b e = cc

not_wrong : (made : Made) (reader : ℕ) (other : Made) → made ≡ made_as.Wrong reader → ◌≡◌ {A = Result Made AllocError} (Ok made) (Ok other) → (made_as.Wrong reader ≡ other → ⊥) → ⊥
not_wrong made reader other is e none = none (sym is ∙ ok_is made other e)

pub make-requires : goal.make-requires
make-requires c =
    let bs = c.args.beginnings.now in
    let r : ReadingState = seen c.self.inside in
    let before : AreReading bs r = subst (AreReading bs) (sym c.self.view_is) c.requires.reading in
    record { reads = subst (λ (q : RequestsState). IsRead q.entries r.file) (sym (c.requests.ensures.value ∙ ap (λ (x : HoldingsState). x.requests) c.holdings.ensures)) before.linked.kept.answers }

pub returns-in_err-made-clause-continues : goal.returns-in_err-made-clause-continues
returns-in_err-made-clause-continues c =
    let bs = c.args.beginnings.now in
    let r : ReadingState = seen c.self.inside in
    let before : AreReading bs r = subst (AreReading bs) (sym c.self.view_is) c.requires.reading in
    let k = c.make.ensures in
    let f = c.make.new.self in
    let read = read_in bs c.holdings.result.now c.requests.result.now f c.requests.ensures.value c.holdings.ensures k.reads in
    subst (λ (x : ReadingState). Continues bs x bs (reading_state f c.self.inside.holdings.items)) c.self.view_is
    (made_continues bs r f before.linked k.live k.aside k.readers k.asked read k.right k.same (pieces_made c.requests.result.now.entries r.file f c.make.result before.linked.kept.right.handout k.ready k.same_handout))

pub blame-requires-clause-reading : goal.blame-requires-clause-reading
blame-requires-clause-reading c =
    let bs = c.args.beginnings.now in
    let r : ReadingState = seen c.self.inside in
    let before : AreReading bs r = subst (AreReading bs) (sym c.self.view_is) c.requires.reading in
    let k = c.make.ensures in
    let f = c.make.new.self in
    let read = read_in bs c.holdings.result.now c.requests.result.now f c.requests.ensures.value c.holdings.ensures k.reads in
    reading_less (Some c.in-Wrong.reader) bs (reading_state f c.self.inside.holdings.items) (all_made bs r f before k.live k.aside k.readers k.asked read k.right k.same)

pub blame-requires-clause-live : goal.blame-requires-clause-live
blame-requires-clause-live c =
    let k = c.make.ensures in
    let wrong = k.wrong c.in-Wrong.reader (c.in_ok-made.was ∙ ap Ok c.in-Wrong.is) in
    inl (subst (λ (l : List ℕ). Contains l c.in-Wrong.reader) (sym k.live) wrong.live)

pub returns-in_ok-blame-in-Wrong-clause-continues : goal.returns-in_ok-blame-in-Wrong-clause-continues
returns-in_ok-blame-in-Wrong-clause-continues c =
    let bs = c.args.beginnings.now in
    let r : ReadingState = seen c.self.inside in
    let before : AreReading bs r = subst (AreReading bs) (sym c.self.view_is) c.requires.reading in
    let k = c.make.ensures in
    let f = c.make.new.self in
    let read = read_in bs c.holdings.result.now c.requests.result.now f c.requests.ensures.value c.holdings.ensures k.reads in
    let q : ReadingState = reading_state f c.self.inside.holdings.items in
    let first : Continues bs c.args.self.now bs q = subst (λ (x : ReadingState). Continues bs x bs q) c.self.view_is
    (made_continues bs r f before.linked k.live k.aside k.readers k.asked read k.right k.same (pieces_made c.requests.result.now.entries r.file f c.make.result before.linked.kept.right.handout k.ready k.same_handout)) in
    continues_trans bs bs c.blame.new.beginnings c.args.self.now q c.blame.new.self first c.in_ok-blame-in-Wrong.ensures.continues

pub returns-in_err-blame-in-Wrong-clause-continues : goal.returns-in_err-blame-in-Wrong-clause-continues
returns-in_err-blame-in-Wrong-clause-continues c =
    let bs = c.args.beginnings.now in
    let r : ReadingState = seen c.self.inside in
    let before : AreReading bs r = subst (AreReading bs) (sym c.self.view_is) c.requires.reading in
    let k = c.make.ensures in
    let f = c.make.new.self in
    let read = read_in bs c.holdings.result.now c.requests.result.now f c.requests.ensures.value c.holdings.ensures k.reads in
    let q : ReadingState = reading_state f c.self.inside.holdings.items in
    let first : Continues bs c.args.self.now bs q = subst (λ (x : ReadingState). Continues bs x bs q) c.self.view_is
    (made_continues bs r f before.linked k.live k.aside k.readers k.asked read k.right k.same (pieces_made c.requests.result.now.entries r.file f c.make.result before.linked.kept.right.handout k.ready k.same_handout)) in
    continues_trans bs bs c.blame.new.beginnings c.args.self.now q c.blame.new.self first c.in_err-blame-in-Wrong.ensures.continues

pub returns-in_default : goal.returns-in_default
returns-in_default c =
    let bs = c.args.beginnings.now in
    let r : ReadingState = seen c.self.inside in
    let before : AreReading bs r = subst (AreReading bs) (sym c.self.view_is) c.requires.reading in
    let k = c.make.ensures in
    let f = c.make.new.self in
    let q : ReadingState = reading_state f c.self.inside.holdings.items in
    let read = read_in bs c.holdings.result.now c.requests.result.now f c.requests.ensures.value c.holdings.ensures k.reads in
    record {
      reading = all_made bs r f before k.live k.aside k.readers k.asked read k.right k.same;
      continues = subst (λ (x : ReadingState). Continues bs x bs q) c.self.view_is
          (made_continues bs r f before.linked k.live k.aside k.readers k.asked read k.right k.same (pieces_made c.requests.result.now.entries r.file f c.make.result before.linked.kept.right.handout k.ready k.same_handout));
      causes = adds_none (IsBlockFault bs.holdings.requests.entries f) bs.holdings.blamed bs.holdings.blamed refl;
      inconsistent = λ e. inconsistent_in bs c.holdings.result.now c.requests.result.now f c.requests.ensures.value c.holdings.ensures (k.inconsistent (c.in_ok-made.was ∙ e));
      no_code_word = λ e. subst (λ (x : ReadingState). IsNoCodeWord x.file.handout.ueb) c.self.view_is (k.no_code_word (c.in_ok-made.was ∙ e));
      waits = λ e. subst (λ (x : ReadingState). CanNotGoOn x.file) c.self.view_is (k.waits (c.in_ok-made.was ∙ e));
      must = λ e. subst (λ (x : ReadingState). IsComplete x.file ⊎ MustWait c.args.patient x.file) c.self.view_is (k.prompt (c.in_ok-made.was ∙ e));
      still = λ e. record {
        same = refl;
        live = k.live ∙ ap (λ (x : ReadingState). x.file.live) c.self.view_is;
        aside = k.aside ∙ ap (λ (x : ReadingState). x.file.aside) c.self.view_is;
        readers = k.readers ∙ ap (λ (x : ReadingState). x.file.readers) c.self.view_is;
      };
      handout = λ made e other. k.same_handout (λ e2. other (ok_is made made_as.Ready (sym e ∙ sym c.in_ok-made.was ∙ e2))) ∙ ap (λ (x : ReadingState). x.file.handout) c.self.view_is;
      ready = λ e. subst (λ (x : ReadingState). work bs q < work bs x) c.self.view_is (less_made c.requests.result.now.entries bs r f before.linked.kept.right.handout (k.ready (c.in_ok-made.was ∙ e)));
      wrong = λ reader e. absurd (c.in_default.not-Wrong reader (ok_is c.in_ok-made.made (made_as.Wrong reader) e));
    }

pub returns-in-Ready : goal.returns-in-Ready
returns-in-Ready c =
    let bs = c.args.beginnings.now in
    let r : ReadingState = seen c.self.inside in
    let before : AreReading bs r = subst (AreReading bs) (sym c.self.view_is) c.requires.reading in
    let k = c.make.ensures in
    let f = c.make.new.self in
    let q : ReadingState = reading_state f c.self.inside.holdings.items in
    let read = read_in bs c.holdings.result.now c.requests.result.now f c.requests.ensures.value c.holdings.ensures k.reads in
    record {
      reading = all_made bs r f before k.live k.aside k.readers k.asked read k.right k.same;
      continues = subst (λ (x : ReadingState). Continues bs x bs q) c.self.view_is
          (made_continues bs r f before.linked k.live k.aside k.readers k.asked read k.right k.same (pieces_made c.requests.result.now.entries r.file f c.make.result before.linked.kept.right.handout k.ready k.same_handout));
      causes = adds_none (IsBlockFault bs.holdings.requests.entries f) bs.holdings.blamed bs.holdings.blamed refl;
      inconsistent = λ e. inconsistent_in bs c.holdings.result.now c.requests.result.now f c.requests.ensures.value c.holdings.ensures (k.inconsistent (c.in_ok-made.was ∙ e));
      no_code_word = λ e. subst (λ (x : ReadingState). IsNoCodeWord x.file.handout.ueb) c.self.view_is (k.no_code_word (c.in_ok-made.was ∙ e));
      waits = λ e. subst (λ (x : ReadingState). CanNotGoOn x.file) c.self.view_is (k.waits (c.in_ok-made.was ∙ e));
      must = λ e. subst (λ (x : ReadingState). IsComplete x.file ⊎ MustWait c.args.patient x.file) c.self.view_is (k.prompt (c.in_ok-made.was ∙ e));
      still = λ e. record {
        same = refl;
        live = k.live ∙ ap (λ (x : ReadingState). x.file.live) c.self.view_is;
        aside = k.aside ∙ ap (λ (x : ReadingState). x.file.aside) c.self.view_is;
        readers = k.readers ∙ ap (λ (x : ReadingState). x.file.readers) c.self.view_is;
      };
      handout = λ made e other. k.same_handout (λ e2. other (ok_is made made_as.Ready (sym e ∙ sym c.in_ok-made.was ∙ e2))) ∙ ap (λ (x : ReadingState). x.file.handout) c.self.view_is;
      ready = λ e. subst (λ (x : ReadingState). work bs q < work bs x) c.self.view_is (less_made c.requests.result.now.entries bs r f before.linked.kept.right.handout (k.ready (c.in_ok-made.was ∙ e)));
      wrong = λ reader e. absurd (not_wrong c.in_ok-made.made reader made_as.Ready (ok_is c.in_ok-made.made (made_as.Wrong reader) e) (ap Ok c.in-Ready.is) (λ g. cc));
    }

pub returns-in_ok-blame-in-Wrong-clause-inconsistent : goal.returns-in_ok-blame-in-Wrong-clause-inconsistent
returns-in_ok-blame-in-Wrong-clause-inconsistent c e = absurd (not_wrong (made_as.Wrong c.in-Wrong.reader) c.in-Wrong.reader made_as.Inconsistent refl e (λ f. cc))

pub returns-in_ok-blame-in-Wrong-clause-no_code_word : goal.returns-in_ok-blame-in-Wrong-clause-no_code_word
returns-in_ok-blame-in-Wrong-clause-no_code_word c e = absurd (not_wrong (made_as.Wrong c.in-Wrong.reader) c.in-Wrong.reader made_as.Inconsistent refl e (λ f. cc))

pub returns-in_ok-blame-in-Wrong-clause-waits : goal.returns-in_ok-blame-in-Wrong-clause-waits
returns-in_ok-blame-in-Wrong-clause-waits c e = absurd (not_wrong (made_as.Wrong c.in-Wrong.reader) c.in-Wrong.reader made_as.Waits refl e (λ f. cc))

pub returns-in_ok-blame-in-Wrong-clause-must : goal.returns-in_ok-blame-in-Wrong-clause-must
returns-in_ok-blame-in-Wrong-clause-must c e = absurd (not_wrong (made_as.Wrong c.in-Wrong.reader) c.in-Wrong.reader made_as.Waits refl e (λ f. cc))

pub returns-in_ok-blame-in-Wrong-clause-still : goal.returns-in_ok-blame-in-Wrong-clause-still
returns-in_ok-blame-in-Wrong-clause-still c e = absurd (not_wrong (made_as.Wrong c.in-Wrong.reader) c.in-Wrong.reader made_as.Waits refl e (λ f. cc))

pub returns-in_ok-blame-in-Wrong-clause-ready : goal.returns-in_ok-blame-in-Wrong-clause-ready
returns-in_ok-blame-in-Wrong-clause-ready c e = absurd (not_wrong (made_as.Wrong c.in-Wrong.reader) c.in-Wrong.reader made_as.Ready refl e (λ f. cc))

pub returns-in_ok-blame-in-Wrong-clause-handout : goal.returns-in_ok-blame-in-Wrong-clause-handout
returns-in_ok-blame-in-Wrong-clause-handout c made e other =
    c.in_ok-blame-in-Wrong.ensures.handout ∙ c.make.ensures.same_handout (λ e2. other (ok_is made made_as.Ready (sym e ∙ ap Ok (sym c.in-Wrong.is) ∙ sym c.in_ok-made.was ∙ e2)))
    ∙ ap (λ (x : ReadingState). x.file.handout) c.self.view_is

pub returns-in_ok-blame-in-Wrong-clause-wrong : goal.returns-in_ok-blame-in-Wrong-clause-wrong
returns-in_ok-blame-in-Wrong-clause-wrong c reader e =
    let same = c.make.ensures.same_handout (λ e2. not_wrong c.in_ok-made.made c.in-Wrong.reader made_as.Ready c.in-Wrong.is (sym c.in_ok-made.was ∙ e2) (λ f. cc)) in
    less_blamed c.args.beginnings.now c.blame.new.beginnings c.args.self.now c.blame.new.self (c.in_ok-blame-in-Wrong.ensures.handout ∙ same ∙ ap (λ (x : ReadingState). x.file.handout) c.self.view_is) c.in_ok-blame-in-Wrong.ensures.fewer

pub returns-in_err-made-clause-causes : goal.returns-in_err-made-clause-causes
returns-in_err-made-clause-causes c =
    let bs = c.args.beginnings.now in
    adds_none (IsBlockFault bs.holdings.requests.entries c.make.new.self) bs.holdings.blamed bs.holdings.blamed refl

pub returns-in_err-blame-in-Wrong-clause-causes : goal.returns-in_err-blame-in-Wrong-clause-causes
returns-in_err-blame-in-Wrong-clause-causes c =
    let bs = c.args.beginnings.now in
    let wrong = c.make.ensures.wrong c.in-Wrong.reader (c.in_ok-made.was ∙ ap Ok c.in-Wrong.is) in
    made_causes bs c.blame.new.beginnings (seen c.self.inside) c.args.self.now c.blame.new.self c.make.new.self c.in-Wrong.reader c.self.view_is c.requires.reading
    (subst (λ (q : RequestsState). RefutesReader q.entries c.self.inside.file c.in-Wrong.reader) (c.requests.ensures.value ∙ ap (λ (x : HoldingsState). x.requests) c.holdings.ensures) wrong)
    c.blame.ensures.requests (returns-in_err-blame-in-Wrong-clause-continues c).same c.blame.ensures.adds

pub returns-in_ok-blame-in-Wrong-clause-causes : goal.returns-in_ok-blame-in-Wrong-clause-causes
returns-in_ok-blame-in-Wrong-clause-causes c =
    let bs = c.args.beginnings.now in
    let wrong = c.make.ensures.wrong c.in-Wrong.reader (c.in_ok-made.was ∙ ap Ok c.in-Wrong.is) in
    made_causes bs c.blame.new.beginnings (seen c.self.inside) c.args.self.now c.blame.new.self c.make.new.self c.in-Wrong.reader c.self.view_is c.requires.reading
    (subst (λ (q : RequestsState). RefutesReader q.entries c.self.inside.file c.in-Wrong.reader) (c.requests.ensures.value ∙ ap (λ (x : HoldingsState). x.requests) c.holdings.ensures) wrong)
    c.blame.ensures.requests (returns-in_ok-blame-in-Wrong-clause-continues c).same c.blame.ensures.adds

not_ok : {error : AllocError} → (result : Result Made AllocError) (made : Made) → result ≡ Err error → result ≡ Ok made → ⊥
not_ok result made is e = cc

-- what was asked of each stays asked
stays : (old new : FileState) → new.live ≡ old.live → ((q : ℕ) → StaysAskedUp old new q) → AreAskedUp old → AreAskedUp new
stays old new same kept before q live = kept q (before q (subst (λ (l : List ℕ). Contains l q) same live))

pub invariant_of-self : goal.invariant_of-self
invariant_of-self c e =
    stays c.self.inside.file c.make.new.self c.make.ensures.live
    (c.make.ensures.asked_up (not_ok c.make.result made_as.Ready c.in_err-made.was))
    (c.self.invariant e)

pub invariant_of-self-in-Wrong : goal.invariant_of-self-in-Wrong
invariant_of-self-in-Wrong c e =
    stays c.self.inside.file c.make.new.self c.make.ensures.live
    (c.make.ensures.asked_up (λ e2. not_wrong c.in_ok-made.made c.in-Wrong.reader made_as.Ready c.in-Wrong.is (sym c.in_ok-made.was ∙ e2) (λ f. cc)))
    (c.self.invariant e)

pub invariant_of-self-in_default : goal.invariant_of-self-in_default
invariant_of-self-in_default c e =
    stays c.self.inside.file c.make.new.self c.make.ensures.live
    (c.make.ensures.asked_up (λ e2. c.in_default.not-Ready (ok_is c.in_ok-made.made made_as.Ready (sym c.in_ok-made.was ∙ e2))))
    (c.self.invariant e)

use Rattle.download_shares.specs.declared.holding.Blame.{Blame}
use Rattle.std.proofs.Common.{List}
use Rattle.download_shares.specs.Causes.{AddsBlames}
use Rattle.download_shares.proofs.Caused.{adds_none}
use Rattle.download_core.specs.ReadingCauses.{IsBlockFault}
use Rattle.std.proofs.Common.{◌≡◌, ◌∙◌, ◌<◌, inl, inr, sym, subst, ap}
use Rattle.download_shares.specs.HoldingState.{TableState}
use Rattle.download_segments.specs.NoCodeWord.{IsNoCodeWord}
use Rattle.download_segments.specs.State.{HandoutState}
use Rattle.download_file.specs.declared.file.Made.TheVariants as made_as
use Rattle.download_file.proofs.PatienceLemmas.{must_back}
use Rattle.download_core.specs.ReadingSteps.{work}
use Rattle.download_core.proofs.Ended.{continues_trans}
use Rattle.download_core.proofs.Gone.{asked_still, same_work, stuck}
use Rattle.download_core.proofs.file_reading.FileReading.go_on.Goals as goal

pub returns-in_err-ask_all-clause-continues : goal.returns-in_err-ask_all-clause-continues
returns-in_err-ask_all-clause-continues c =
    continues_trans c.args.beginnings.now c.begin_more.new.beginnings c.ask_all.new.beginnings c.args.self.now c.begin_more.new.self c.ask_all.new.self c.begin_more.ensures.continues c.ask_all.ensures.continues

pub returns-clause-continues : goal.returns-clause-continues
returns-clause-continues c =
    continues_trans c.args.beginnings.now c.ask_all.new.beginnings c.make.new.beginnings c.args.self.now c.ask_all.new.self c.make.new.self
    (continues_trans c.args.beginnings.now c.begin_more.new.beginnings c.ask_all.new.beginnings c.args.self.now c.begin_more.new.self c.ask_all.new.self c.begin_more.ensures.continues c.ask_all.ensures.continues)
    c.make.ensures.continues

pub returns-clause-no_code_word : goal.returns-clause-no_code_word
returns-clause-no_code_word c e = subst IsNoCodeWord (sym c.make.ensures.continues.same.ueb) (c.make.ensures.no_code_word e)

pub returns-clause-more : goal.returns-clause-more
returns-clause-more c made e other complete =
    let same : c.make.new.self.file.handout ≡ c.args.self.now.file.handout = c.make.ensures.handout made e other ∙ c.ask_all.ensures.handout ∙ c.begin_more.ensures.handout in
    c.requires.more (sym (ap (λ (h : HandoutState). h.reached) same) ∙ complete ∙ ap (λ (h : HandoutState). h.to) same)

pub returns-clause-stuck : goal.returns-clause-stuck
returns-clause-stuck c e =
    let m = c.make.ensures in
    let a = c.in_ok-ask_all.ensures in
    let b = c.in_ok-begin_more.ensures in
    let start : c.ask_all.new.self.file.handout ≡ c.args.self.now.file.handout = a.handout ∙ b.handout in
    stuck c.begin_more.new.beginnings c.ask_all.new.beginnings c.make.new.beginnings c.begin_more.new.self c.ask_all.new.self c.make.new.self b.enough a.table a.live a.aside a.handout a.asked_up
    (λ complete. c.requires.more (sym (ap (λ (h : HandoutState). h.reached) start) ∙ complete ∙ ap (λ (h : HandoutState). h.to) start))
    (m.still e) (m.handout made_as.Waits e (λ f. cc)) (m.waits e)

pub returns-clause-must : goal.returns-clause-must
returns-clause-must c e =
    let m = c.make.ensures in
    let start : c.ask_all.new.self.file.handout ≡ c.args.self.now.file.handout = c.in_ok-ask_all.ensures.handout ∙ c.in_ok-begin_more.ensures.handout in
    let still = m.still e in
    elim (m.must e) [
      | inl complete ↦ absurd (c.requires.more (sym (ap (λ (h : HandoutState). h.reached) start) ∙ complete ∙ ap (λ (h : HandoutState). h.to) start))
      | inr k ↦ must_back c.make.new.self.file c.ask_all.new.self.file (sym (m.handout made_as.Waits e (λ f. cc))) (sym still.live) (sym still.readers) c.args.patient k
    ]

pub returns-clause-asked_up : goal.returns-clause-asked_up
returns-clause-asked_up c e =
    let m = c.make.ensures in
    let still = m.still e in
    asked_still c.ask_all.new.self.file c.make.new.self.file (m.handout made_as.Waits e (λ f. cc)) still.live still.readers c.in_ok-ask_all.ensures.asked_up

pub returns-clause-ready : goal.returns-clause-ready
returns-clause-ready c e =
    let less = c.make.ensures.ready e in
    let a = same_work c.begin_more.new.beginnings c.ask_all.new.beginnings c.begin_more.new.self c.ask_all.new.self c.in_ok-ask_all.ensures.handout (ap (λ (t : TableState). t.holdings) c.in_ok-ask_all.ensures.table) in
    let b = same_work c.args.beginnings.now c.begin_more.new.beginnings c.args.self.now c.begin_more.new.self c.in_ok-begin_more.ensures.handout c.in_ok-begin_more.ensures.held in
    subst (λ n. work c.make.new.beginnings c.make.new.self < n) (a ∙ b) less

pub returns-clause-wrong : goal.returns-clause-wrong
returns-clause-wrong c reader e =
    let less = c.make.ensures.wrong reader e in
    let a = same_work c.begin_more.new.beginnings c.ask_all.new.beginnings c.begin_more.new.self c.ask_all.new.self c.in_ok-ask_all.ensures.handout (ap (λ (t : TableState). t.holdings) c.in_ok-ask_all.ensures.table) in
    let b = same_work c.args.beginnings.now c.begin_more.new.beginnings c.args.self.now c.begin_more.new.self c.in_ok-begin_more.ensures.handout c.in_ok-begin_more.ensures.held in
    subst (λ n. work c.make.new.beginnings c.make.new.self < n) (a ∙ b) less

pub returns-in_err-begin_more-clause-causes : goal.returns-in_err-begin_more-clause-causes
returns-in_err-begin_more-clause-causes c =
    let t = c.begin_more.new.beginnings in
    adds_none (IsBlockFault t.holdings.requests.entries c.begin_more.new.self.file) c.args.beginnings.now.holdings.blamed t.holdings.blamed c.begin_more.ensures.blamed

pub returns-in_err-ask_all-clause-causes : goal.returns-in_err-ask_all-clause-causes
returns-in_err-ask_all-clause-causes c =
    let t = c.ask_all.new.beginnings in
    adds_none (IsBlockFault t.holdings.requests.entries c.ask_all.new.self.file) c.args.beginnings.now.holdings.blamed t.holdings.blamed (c.ask_all.ensures.blamed ∙ c.begin_more.ensures.blamed)

pub returns-clause-causes : goal.returns-clause-causes
returns-clause-causes c =
    let u = c.make.new.beginnings in
    subst (λ (l : List Blame). AddsBlames (IsBlockFault u.holdings.requests.entries c.make.new.self.file) l u.holdings.blamed) (c.ask_all.ensures.blamed ∙ c.begin_more.ensures.blamed)
    c.make.ensures.causes

use Rattle.std.proofs.Common.{◌≡◌, ◌∙◌, ℕ, ◌+◌, ◌<◌, ◌≤◌, inl, inr, List, Contains, length, take, get_or, refl, sym, subst, ap, arith}
use Rattle.std.proofs.lemmas.List.{take_all, take_more}
use Rattle.std.proofs.lemmas.List.Elements.{Contains-get_or, Contains-push_cases}
use Rattle.placement.proofs.Members.{Contains-nil}
use Rattle.download_file.specs.Asked.{AreAskedUp, IsAskedUp}
use Rattle.download_file.specs.State.{IsLive}
use Rattle.download_core.specs.ReadingState.{ReadingState}
use Rattle.download_core.proofs.Ended.{continues_none, continues_trans}
use Rattle.download_core.proofs.file_reading.FileReading.ask_all.Goals as goal

pub loop-i-init : goal.loop-i-init
loop-i-init c = record { reading = c.requires.reading; live = refl; aside = refl; continues = continues_none c.args.beginnings.now c.args.self.now; asked_up = λ q k. absurd (Contains-nil q k); blamed = refl; handout = refl; table = refl }

pub ask-requires-clause-live : goal.ask-requires-clause-live
ask-requires-clause-live c =
    let list : c.live.result.now ≡ c.loop-i.self.file.live = c.live.ensures.value ∙ ap (λ (x : ReadingState). x.file.live) c.self-in-loop-i.view_is in
    let end : c.live-i-end.result.now ≡ c.args.self.now.file.live = c.live-i-end.ensures.value ∙ ap (λ (x : ReadingState). x.file.live) c.self.view_is in
    let lt : c.loop-i.i < length c.loop-i.self.file.live = (let t = c.loop-i-test.true in let e = ap length end in let same = ap length c.loop-i.invariant.live in omega (arith, t, e, same)) in
    subst (λ (l : List ℕ). IsLive c.loop-i.self.file (get_or l c.loop-i.i 0)) (sym list) (Contains-get_or c.loop-i.self.file.live c.loop-i.i 0 lt)

pub returns-in_err-ask-clause-continues : goal.returns-in_err-ask-clause-continues
returns-in_err-ask-clause-continues c =
    continues_trans c.args.beginnings.now c.loop-i.beginnings c.ask.new.beginnings c.args.self.now c.loop-i.self c.ask.new.self c.loop-i.invariant.continues c.in_err-ask.ensures.continues

pub loop-i-preserved : goal.loop-i-preserved
loop-i-preserved c = record {
  reading = c.in_ok-ask.ensures.reading;
  live = c.in_ok-ask.ensures.live ∙ c.loop-i.invariant.live;
  aside = c.in_ok-ask.ensures.aside ∙ c.loop-i.invariant.aside;
  continues = continues_trans c.args.beginnings.now c.loop-i.beginnings c.ask.new.beginnings c.args.self.now c.loop-i.self c.ask.new.self c.loop-i.invariant.continues c.in_ok-ask.ensures.continues;
  asked_up = λ q among. (
      let list : c.live.result.now ≡ c.loop-i.self.file.live = c.live.ensures.value ∙ ap (λ (x : ReadingState). x.file.live) c.self-in-loop-i.view_is in
      let end : c.live-i-end.result.now ≡ c.args.self.now.file.live = c.live-i-end.ensures.value ∙ ap (λ (x : ReadingState). x.file.live) c.self.view_is in
      let lt : c.loop-i.i < length c.loop-i.self.file.live = (let t = c.loop-i-test.true in let e = ap length end in let same = ap length c.loop-i.invariant.live in omega (arith, t, e, same)) in
      let was = subst (λ (l : List ℕ). Contains (take (c.loop-i.i + 1) l) q) c.in_ok-ask.ensures.live among in
      elim (Contains-push_cases (take c.loop-i.i c.loop-i.self.file.live) (get_or c.loop-i.self.file.live c.loop-i.i 0) q (subst (λ (l : List ℕ). Contains l q) (take_more c.loop-i.self.file.live c.loop-i.i 0 lt) was)) [
        | inl old ↦ c.in_ok-ask.ensures.others q (c.loop-i.invariant.asked_up q old)
        | inr this ↦ subst (IsAskedUp c.ask.new.self.file) (ap (λ (l : List ℕ). get_or l c.loop-i.i 0) list ∙ this) c.in_ok-ask.ensures.asked_up
      ]);
  blamed = c.in_ok-ask.ensures.blamed ∙ c.loop-i.invariant.blamed;
  handout = c.in_ok-ask.ensures.handout ∙ c.loop-i.invariant.handout;
  table = c.in_ok-ask.ensures.table ∙ c.loop-i.invariant.table;
}

pub returns-then-self-clause-continues : goal.returns-then-self-clause-continues
returns-then-self-clause-continues c = continues_none c.args.beginnings.now c.args.self.now

pub returns-clause-asked_up : goal.returns-clause-asked_up
returns-clause-asked_up c =
    subst (λ (x : ReadingState). AreAskedUp x.file) (sym c.self-2.view_is) (λ q live. (
    let end : c.live-i-end.result.now ≡ c.args.self.now.file.live = c.live-i-end.ensures.value ∙ ap (λ (x : ReadingState). x.file.live) c.self.view_is in
    let le : length c.loop-i.self.file.live ≤ c.loop-i.i = (let t = c.loop-i-test.false in let e = ap length end in let same = ap length c.loop-i.invariant.live in omega (arith, t, e, same)) in
    c.loop-i.invariant.asked_up q (subst (λ (l : List ℕ). Contains l q) (sym (take_all c.loop-i.i c.loop-i.self.file.live le)) live)))

-- after the loop each reader is asked
pub invariant_of-self : goal.invariant_of-self
invariant_of-self c _ =
    subst (λ (x : ReadingState). AreAskedUp x.file) (sym c.self-2.view_is) (λ q live. (
    let end : c.live-i-end.result.now ≡ c.args.self.now.file.live = c.live-i-end.ensures.value ∙ ap (λ (x : ReadingState). x.file.live) c.self.view_is in
    let le : length c.loop-i.self.file.live ≤ c.loop-i.i = (let t = c.loop-i-test.false in let e = ap length end in let same = ap length c.loop-i.invariant.live in omega (arith, t, e, same)) in
    c.loop-i.invariant.asked_up q (subst (λ (l : List ℕ). Contains l q) (sym (take_all c.loop-i.i c.loop-i.self.file.live le)) live)))

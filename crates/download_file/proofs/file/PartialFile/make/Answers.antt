use Rattle.std.proofs.Common.{◌≡◌, ◌≢◌, ◌∙◌, Bool, true, false, inl, inr, Result, Ok, sym, subst}
use Rattle.std.specs.declared.alloc.AllocError.{AllocError}
use Rattle.std.proofs.lemmas.Bool.{false≢true}
use Rattle.download_segments.specs.NoCodeWord.{IsNoCodeWord}
use Rattle.download_segments.specs.State.{HandoutState}
use Rattle.download_file.proofs.GrowLemmas.{same_two}
use Rattle.download_file.proofs.PatienceLemmas.{awaits_back, makes_back, prompt_back, refutes_back, row_waits, stops_back}
use Rattle.download_file.proofs.file.PartialFile.make.Goals as goal

not_made : (r : Result Bool AllocError) (b : Bool) → r ≡ Ok b → b ≡ false → r ≢ Ok true
not_made r b was is made = false≢true (sym is ∙ (let k : b ≡ true = cc in k))

pub returns-then-awaits_row-clause-waits : goal.returns-then-awaits_row-clause-waits
returns-then-awaits_row-clause-waits c = λ _.
    let k = c.make_row.ensures in
    let none = not_made c.make_row.result c.in_ok-make_row.field-0 c.in_ok-make_row.was c.if-branch.false in
    stops_back c.args.self.now c.make_row.new.self (k.same_handout none) k.live k.readers (k.asked_up none)
    (inr (inr (λ _. row_waits c.make_row.new.self (c.awaits_row.ensures.awaits c.if-awaits_row.true))))

pub returns-then-awaits_row-clause-prompt : goal.returns-then-awaits_row-clause-prompt
returns-then-awaits_row-clause-prompt c = λ _.
    let k = c.make_row.ensures in
    let none = not_made c.make_row.result c.in_ok-make_row.field-0 c.in_ok-make_row.was c.if-branch.false in
    inr (inr (c.if-patient.true, awaits_back c.args.self.now c.make_row.new.self (k.same_handout none) k.live k.readers (c.awaits_row.ensures.awaits c.if-awaits_row.true)))

pub returns-clause-ready : goal.returns-clause-ready
returns-clause-ready c = λ ok.
    let k = c.make_row.ensures in
    let none = not_made c.make_row.result c.in_ok-make_row.field-0 c.in_ok-make_row.was c.if-branch.false in
    inl (makes_back c.args.self.now c.make_row.new.self (k.same_handout none) k.live k.readers c.args.requests.now.entries c.make_next.new.self (c.make_next.ensures.ready ok))

pub returns-clause-wrong : goal.returns-clause-wrong
returns-clause-wrong c = λ reader is.
    let k = c.make_row.ensures in
    let none = not_made c.make_row.result c.in_ok-make_row.field-0 c.in_ok-make_row.was c.if-branch.false in
    refutes_back c.args.self.now c.make_row.new.self (k.same_handout none) k.live k.readers c.args.requests.now.entries reader (c.make_next.ensures.wrong reader is)

pub returns-clause-inconsistent : goal.returns-clause-inconsistent
returns-clause-inconsistent c = c.make_next.ensures.inconsistent

pub returns-clause-no_code_word : goal.returns-clause-no_code_word
returns-clause-no_code_word c = λ is.
    let none = not_made c.make_row.result c.in_ok-make_row.field-0 c.in_ok-make_row.was c.if-branch.false in
    subst (λ (h : HandoutState). IsNoCodeWord h.ueb) (c.make_row.ensures.same_handout none) (c.make_next.ensures.no_code_word is)

pub returns-clause-waits : goal.returns-clause-waits
returns-clause-waits c = λ is.
    let k = c.make_row.ensures in
    let none = not_made c.make_row.result c.in_ok-make_row.field-0 c.in_ok-make_row.was c.if-branch.false in
    stops_back c.args.self.now c.make_row.new.self (k.same_handout none) k.live k.readers (k.asked_up none) (c.make_next.ensures.waits is)

pub returns-clause-prompt : goal.returns-clause-prompt
returns-clause-prompt c = λ is.
    let k = c.make_row.ensures in
    let none = not_made c.make_row.result c.in_ok-make_row.field-0 c.in_ok-make_row.was c.if-branch.false in
    prompt_back c.args.self.now c.make_row.new.self (k.same_handout none) k.live k.readers c.args.patient (c.make_next.ensures.prompt is)

pub returns-clause-same_handout : goal.returns-clause-same_handout
returns-clause-same_handout c = λ not.
    c.make_next.ensures.same_handout not ∙ c.make_row.ensures.same_handout (not_made c.make_row.result c.in_ok-make_row.field-0 c.in_ok-make_row.was c.if-branch.false)

pub returns-clause-asked_up : goal.returns-clause-asked_up
returns-clause-asked_up c = λ not reader up.
    c.make_next.ensures.asked_up not reader (c.make_row.ensures.asked_up (not_made c.make_row.result c.in_ok-make_row.field-0 c.in_ok-make_row.was c.if-branch.false) reader up)

pub returns-clause-same : goal.returns-clause-same
returns-clause-same c = same_two c.args.self.now c.make_row.new.self c.make_next.new.self c.make_row.ensures.same c.make_next.ensures.same

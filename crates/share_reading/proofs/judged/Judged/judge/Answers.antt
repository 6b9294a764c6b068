use Rattle.std.proofs.Common.{◌≡◌, ◌∙◌, List, ℕ, ◌++◌, sym, subst}
use Rattle.std.proofs.lemmas.Option.{same_Some}
use Rattle.share_verify.specs.Judging.{HasTaken, share_with}
use Rattle.share_verify.specs.declared.judging.Judging.{Judging}
use Rattle.share_reading.proofs.JudgedLemmas.{judged_by, whole_of}
use Rattle.share_reading.proofs.judged.Judged.judge.Goals as goal

pub verdict-requires : goal.verdict-requires
verdict-requires c =
    let r = c.requires in
    let same : r.judging ≡ c.in-Some.judging = same_Some r.judging c.in-Some.judging (sym r.some ∙ c.in-Some.is) in
    whole_of c.take.new.self r.u (r.taken ++ c.args.bytes.now)
    (c.in_ok-take.ensures.ok r.u r.taken (subst (λ (j : Judging). HasTaken j r.u r.taken) same r.has)) r.whole

pub returns : goal.returns
returns c cap judging u taken block some has own =
    let bytes : List ℕ = c.args.bytes.now in
    let same : judging ≡ c.in-Some.judging = same_Some judging c.in-Some.judging (sym some ∙ c.in-Some.is) in
    judged_by cap c.args.num (share_with u (taken ++ bytes) block) c.verdict.result c.verdict_of.result
    (c.verdict.ensures cap u (taken ++ bytes) block (c.in_ok-take.ensures.ok u taken (subst (λ (j : Judging). HasTaken j u taken) same has)) own)
    c.verdict_of.ensures

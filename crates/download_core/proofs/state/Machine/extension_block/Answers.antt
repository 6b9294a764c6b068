use Rattle.std.proofs.Common.{◌∙◌, Option, ap, subst, sym}
use Rattle.request_record.specs.Record.{RequestsState}
use Rattle.download_shares.specs.Reads.{IsAnsweredBy}
use Rattle.download_shares.specs.HoldingState.{HoldingsState}
use Rattle.download_core.specs.declared.state.FoundFile.{FoundFile}
use Rattle.download_core.specs.Evidence.{IsAcceptedBlock}
use Rattle.download_core.specs.Given.{IsFileIfFound}
use Rattle.download_core.specs.Steps.{entries_of, found_of}
use Rattle.download_core.proofs.EvidenceLemmas.{head_answers}
use Rattle.download_core.proofs.state.Machine.extension_block.Goals as goal

pub unreachable-requires : goal.unreachable-requires
unreachable-requires c =
    let m = c.args.self.now in
    let f = c.in-Some.found in
    let k = subst (λ (x : Option FoundFile). IsFileIfFound m.cap m.from m.to (entries_of m) (found_of x)) c.in-Some.is c.requires.file in
    let same = c.requests-requests.ensures.value ∙ ap (λ (x : HoldingsState). x.requests) c.holdings.ensures in
    c.in_default-bytes_at.ensures.none k.head.text (subst (λ (r : RequestsState). IsAnsweredBy r.entries f.position k.head.text) (sym same) (head_answers k.head))

pub returns-clause-some : goal.returns-clause-some
returns-clause-some c =
    let m = c.args.self.now in
    let same = c.requests-requests.ensures.value ∙ ap (λ (x : HoldingsState). x.requests) c.holdings.ensures in
    subst (λ (x : Option FoundFile). IsAcceptedBlock (entries_of m) (found_of x) c.in-Some-bytes_at.text.now) (sym c.in-Some.is)
    (subst (λ (r : RequestsState). IsAnsweredBy r.entries c.in-Some.found.position c.in-Some-bytes_at.text.now) same c.in-Some-bytes_at.ensures.some)

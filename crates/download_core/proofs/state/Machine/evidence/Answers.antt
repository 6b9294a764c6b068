use Rattle.std.proofs.Common.{◌∙◌, All, Option, Some, ap, subst, sym}
use Rattle.request_record.specs.Record.{RequestsState}
use Rattle.proved_parts.specs.declared.evidence.EvidencePart.{EvidencePart}
use Rattle.download_file.specs.Answers.{IsMadeSegment}
use Rattle.download_shares.specs.Reads.{IsAnsweredBy}
use Rattle.download_shares.specs.HoldingState.{HoldingsState}
use Rattle.download_core.specs.declared.state.FoundFile.{FoundFile}
use Rattle.download_core.specs.Evidence.{IsEvidenceOf}
use Rattle.download_core.specs.Given.{IsFileIfFound}
use Rattle.download_core.specs.Steps.{entries_of, found_of}
use Rattle.download_core.proofs.EvidenceLemmas.{head_answers, proves_made}
use Rattle.download_core.proofs.state.Machine.evidence.Goals as goal

pub unreachable-requires : goal.unreachable-requires
unreachable-requires c =
    let m = c.args.self.now in
    let f = c.in-Some.found in
    let k = subst (λ (x : Option FoundFile). IsFileIfFound m.cap m.from m.to (entries_of m) (found_of x)) c.in-Some.is c.requires.file in
    let same = c.requests-requests.ensures.value ∙ ap (λ (x : HoldingsState). x.requests) c.holdings.ensures in
    c.in_default-bytes_at.ensures.none k.head.text (subst (λ (r : RequestsState). IsAnsweredBy r.entries f.position k.head.text) (sym same) (head_answers k.head))

pub returns : goal.returns
returns c =
    let m = c.args.self.now in
    let f = c.in-Some.found in
    let k = subst (λ (x : Option FoundFile). IsFileIfFound m.cap m.from m.to (entries_of m) (found_of x)) c.in-Some.is c.requires.file in
    let same = c.requests-requests.ensures.value ∙ ap (λ (x : HoldingsState). x.requests) c.holdings.ensures in
    let answered = subst (λ (r : RequestsState). IsAnsweredBy r.entries f.position c.in-Some-bytes_at.text.now) same c.in-Some-bytes_at.ensures.some in
    let text = c.from_vec-extension_block.ensures ∙ c.in_ok-from_slice.ensures.items in
    subst (λ (x : Option FoundFile). IsEvidenceOf m.verify (entries_of m) (found_of x) (Some (record { extension_block = c.from_vec-extension_block.result; parts = c.from_vec.result }))) (sym c.in-Some.is)
    (proves_made m.verify m.cap c.requires.verify (entries_of m) f k.head c.in-Some-bytes_at.text.now answered c.from_vec-extension_block.result c.from_vec.result text c.file.result.now c.file.ensures c.in_ok-parts.parts.items c.from_vec.ensures c.in_ok-parts.ensures.all c.in_ok-parts.ensures.by
    (subst (λ (r : RequestsState). All (λ (p : EvidencePart). IsMadeSegment r.entries c.file.result.now p.number p.segment) c.in_ok-parts.parts.items) same c.in_ok-parts.ensures.made))

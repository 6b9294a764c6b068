use Rattle.std.proofs.Common.{◌≡◌, IfOk, subst}
use Rattle.lemmas.proofs.Results.{if_ok_then}
use Rattle.download_core.specs.declared.status.DownloadStatus.TheVariants.{Done}
use Rattle.download_core.specs.Evidence.{HasAllParts}
use Rattle.download_core.specs.State.{DownloadState}
use Rattle.download_core.proofs.EvidenceLemmas.{whole_of}
use Rattle.download_core.proofs.download.Download.evidence.Goals as goal

pub returns-clause-whole : goal.returns-clause-whole
returns-clause-whole c =
    let m = c.self.inside.machine in
    let k = c.self.invariant in
    subst (λ (d : DownloadState). d.status ≡ Done → d.from ≡ 0 → d.to ≡ d.cap.size → IfOk c.evidence.result (HasAllParts d.found)) c.self.view_is
    (λ done from to. if_ok_then c.evidence.result _ _ c.evidence.ensures (λ e made. whole_of m e k.file c.know_right.ensures.file (k.done done) from to made))

use Rattle.std.proofs.Common.{refl, IfOk, ◌≡◌, ◌∙◌, ◌-◌, All, List, ap, subst, sym}
use Rattle.std.specs.List.{flat_map, range_with_len}
use Rattle.lemmas.proofs.Results.{if_ok_then}
use Rattle.download_segments.specs.GroupState.{GroupState, segments_in}
use Rattle.download_file.specs.State.{FileState, ReaderState}
use Rattle.proved_parts.specs.Parts.{IsSegmentBy}
use Rattle.proved_parts.specs.declared.evidence.EvidencePart.{EvidencePart}
use Rattle.download_file.specs.Answers.{IsMadeSegment, IsRead}
use Rattle.download_file.specs.Right.{IsFile, made_end}
use Rattle.download_file.specs.Steps.{AreOfFile, IsMadeGroup}
use Rattle.download_file.proofs.EvidenceLemmas.{all_made, all_segments, made_segments, readers_of}
use Rattle.download_file.proofs.Fields.{seen}
use Rattle.download_file.proofs.file.PartialFile.evidence_parts.Goals as goal

pub evidence_of-requires-clause-file : goal.evidence_of-requires-clause-file
evidence_of-requires-clause-file c =
    let f : FileState = seen c.self.inside in
    subst (λ (rs : List ReaderState). AreOfFile c.args.requests.now.entries c.self.inside.handout.geometry rs) (sym c.deref.ensures.value)
    (readers_of c.args.requests.now.entries f c.self.invariant.0 (subst (IsRead c.args.requests.now.entries) (sym c.self.view_is) c.requires.reads))

pub evidence_of-requires-clause-made : goal.evidence_of-requires-clause-made
evidence_of-requires-clause-made c =
    let f : FileState = seen c.self.inside in
    subst (λ (rs : List ReaderState). All (IsMadeGroup c.args.requests.now.entries c.self.inside.handout rs) c.deref-2.result.now) (sym c.deref.ensures.value)
    (subst (λ (gs : List GroupState). All (IsMadeGroup c.args.requests.now.entries c.self.inside.handout c.self.inside.readers.items) gs) (sym c.deref-2.ensures.value)
    (all_made c.args.requests.now.entries f c.self.invariant.0 (subst (IsRead c.args.requests.now.entries) (sym c.self.view_is) c.requires.reads)))

pub returns-clause-all : goal.returns-clause-all
returns-clause-all c =
    let f : FileState = seen c.self.inside in
    let all : flat_map segments_in c.deref-2.result.now ≡ range_with_len c.args.self.now.first (made_end c.args.self.now - c.args.self.now.first) =
    ap (flat_map segments_in) c.deref-2.ensures.value ∙ all_segments f.first (made_end f) f.groups c.self.invariant.0.in_order
    ∙ ap (λ (s : FileState). range_with_len s.first (made_end s - s.first)) c.self.view_is in
    if_ok_then c.evidence_of.result _ _ c.evidence_of.ensures.all (λ parts is. is ∙ all)

pub returns-clause-made : goal.returns-clause-made
returns-clause-made c =
    let f : FileState = seen c.self.inside in
    let entries = c.args.requests.now.entries in
    if_ok_then c.evidence_of.result _ _ c.evidence_of.ensures.made (λ parts made.
    subst (λ (s : FileState). All (λ (p : EvidencePart). IsMadeSegment entries s p.number p.segment) parts.items) c.self.view_is
    (made_segments entries f c.self.inside.handout c.deref.result.now c.deref-2.result.now parts.items refl c.deref.ensures.value c.deref-2.ensures.value made))

pub returns-clause-by : goal.returns-clause-by
returns-clause-by c =
    subst (λ (s : FileState). IfOk c.evidence_of.result (λ parts. All (λ (p : EvidencePart). IsSegmentBy s.handout.ueb p.number p.segment p.path) parts.items)) c.self.view_is c.evidence_of.ensures.by

pub returns-clause-right : goal.returns-clause-right
returns-clause-right c = subst IsFile c.self.view_is c.self.invariant.0

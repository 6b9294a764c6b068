use Rattle.std.proofs.Common.{sym, subst, List, ℕ, rules}
use Rattle.std.specs.Prelude.{All}
use Rattle.share_verify.specs.CapBlock.{IsUebFor}
use Rattle.proved_parts.specs.Parts.{IsSegmentBy}
use Rattle.proved_parts.proofs.Segments.{one_ueb}
use Rattle.proved_parts.specs.declared.evidence.EvidencePart.{EvidencePart}
use Rattle.ueb.specs.Shape.{Contents}
use Rattle.proved_parts.proofs.evidence.Evidence.proves.Goals as goal

pub returns-in_default : goal.returns-in_default
returns-in_default c = (
  λ never. absurd (search rules),
  λ p. absurd (c.in_default.not-Ok p.0 (c.read_ueb.ensures.complete p.0 (subst (λ (b : List ℕ). IsUebFor c.args.cap.now b p.0) (sym c.as_slice.ensures) p.1.ueb))),
)

pub returns : goal.returns
returns c =
    let block = subst (λ (b : List ℕ). IsUebFor c.args.cap.now b c.in-Ok.ueb) c.as_slice.ensures c.in-Ok.ensures.accepted in (
      λ yes. (
        c.in-Ok.ueb,
        record {
          ueb = block;
          parts = subst (λ (ps : List EvidencePart). All (λ (p : EvidencePart). IsSegmentBy c.in-Ok.ueb p.number p.segment p.path) ps) c.as_slice-2.ensures (c.are_parts.ensures.0 yes);
        },
      ),
      λ p.
          c.are_parts.ensures.1
          (subst (λ (ps : List EvidencePart). All (λ (q : EvidencePart). IsSegmentBy c.in-Ok.ueb q.number q.segment q.path) ps) (sym c.as_slice-2.ensures)
          (subst (λ (u : Contents). All (λ (q : EvidencePart). IsSegmentBy u q.number q.segment q.path) c.args.self.now.parts)
          (one_ueb c.args.cap.now c.args.self.now.extension_block p.0 c.in-Ok.ueb p.1.ueb block) p.1.parts)),
    )

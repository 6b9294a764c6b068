-- Two pieces of evidence.
use Rattle.std.proofs.Common.{◌≡◌, ℕ, List, Bool, true, false, refl, sym, subst}
use Rattle.std.specs.Prelude.{All, Contains}
use Rattle.std.specs.Str.{bytes_eq}
use Rattle.std.proofs.lemmas.Bool.{false≢true}
use Rattle.std.proofs.lemmas.Slice.Eq.{bytes_eq-Decides}
use Rattle.cap_text.specs.Cap.{VerifyCapValue}
use Rattle.ueb.specs.Shape.{Contents}
use Rattle.share_verify.specs.CapBlock.{IsUebFor}
use Rattle.proved_parts.specs.Evidence.{HaveOneSegment, IsProved}
use Rattle.proved_parts.specs.Parts.{IsSegmentBy}
use Rattle.proved_parts.specs.Steps.{Differ, PartsNeverMeet}
use Rattle.proved_parts.specs.declared.evidence.Evidence.{Evidence}
use Rattle.proved_parts.specs.declared.evidence.EvidencePart.{EvidencePart}
use Rattle.proved_parts.proofs.Segments.{one_ueb}

-- bytes that are not different are the same
same_unless : (a b : List ℕ) → ((a ≡ b → ⊥) → ⊥) → a ≡ b
same_unless a b not_apart = by (bytes_eq a b) (bytes_eq-Decides a b) where
  by : (t : Bool) → (t ≡ true → a ≡ b) × (a ≡ b → t ≡ true) → a ≡ b
  by true d = d.0 refl
  by false d = absurd (not_apart (λ e. false≢true (d.1 e)))

member : (xs : List EvidencePart) (P : EvidencePart → Type 0) (p : EvidencePart) → All P xs → Contains xs p → P p
member xs P p all c = subst P c.2 (all c.0 p c.1)

-- where no two parts differ, those with one number have one segment
pub one_segment : (e f : Evidence) → All (λ (p : EvidencePart). All (λ (q : EvidencePart). ¬ Differ p q) f.parts) e.parts → HaveOneSegment e f
one_segment e f none p q mine yours number =
    same_unless p.segment q.segment
    (λ apart.
    member f.parts (λ (q : EvidencePart). ¬ Differ p q) q (member e.parts (λ (p : EvidencePart). All (λ (q : EvidencePart). ¬ Differ p q) f.parts) p none mine) yours
    record { number = number; segment = apart })

-- two parts that differ are not of one file, where no tree has both
pub not_both : (cap : VerifyCapValue) (e f : Evidence) (p q : EvidencePart) → e.extension_block ≡ f.extension_block → Contains e.parts p → Contains f.parts q
    → Differ p q → PartsNeverMeet p q → IsProved cap e → IsProved cap f → ⊥
not_both cap e f p q same mine yours differ never a b =
    let one : a.0 ≡ b.0 = one_ueb cap f.extension_block a.0 b.0 (subst (λ (x : List ℕ). IsUebFor cap x a.0) same a.1.ueb) b.1.ueb in
    let first = member e.parts (λ (p : EvidencePart). IsSegmentBy a.0 p.number p.segment p.path) p a.1.parts mine in
    let second = member f.parts (λ (p : EvidencePart). IsSegmentBy b.0 p.number p.segment p.path) q b.1.parts yours in
    let there = subst (λ (u : Contents). IsSegmentBy u p.number p.segment p.path) one first in
    let here = subst (λ (n : ℕ). IsSegmentBy b.0 n q.segment q.path) (sym differ.number) second in
    never _ _ there.path here.path

use Rattle.std.proofs.Common.{eqb, ap, sym, ◌∙◌}
use Rattle.std.proofs.lemmas.Slice.Eq.{slice_eq-Decides}
use Rattle.std.proofs.lemmas.Bool.Decides.{Decides-eqb}
use Rattle.tagged_hash.specs.TaggedHash.{double_sha256}
use Rattle.proved_parts.proofs.Segments.{same_tagged}
use Rattle.proved_parts.proofs.clash.clash_of_texts.Goals as goal

pub returns-then-eq-clause-clash : goal.returns-then-eq-clause-clash
returns-then-eq-clause-clash c =
    let decides = slice_eq-Decides {E = eqb} Decides-eqb c.tagged.result c.tagged-2.result c.eq.result c.eq.ensures in
    let same = sym c.tagged.ensures ∙ decides.0 c.if-eq.true ∙ c.tagged-2.ensures in (
      λ e. c.requires (same_tagged c.args.tag c.args.first.now c.args.second.now (sym c.in_ok-text.ensures ∙ e ∙ c.in_ok-input.ensures)),
      ap double_sha256 c.in_ok-text.ensures ∙ same ∙ sym (ap double_sha256 c.in_ok-input.ensures),
    )

use Rattle.std.proofs.Common.{length, ◌∙◌, ap, subst, arith}
use Rattle.share_layout.specs.Layout.{offsets_of, width}
use Rattle.share_layout.specs.declared.offsets.Offsets.{Offsets}
use Rattle.share_gathering.specs.Kept.{IsKept}
use Rattle.share_gathering.specs.KeptFile.{KeptFile}
use Rattle.share_gathering.proofs.Sections.{share_short, share_some, texts_of}
use Rattle.share_gathering.proofs.kept.Kept.share_length.Goals as goal

pub returns-clause-some : goal.returns-clause-some
returns-clause-some c =
    let p : KeptFile = c.args.self.now in
    let kept = subst (λ (p : KeptFile). IsKept p (texts_of c.self.inside.share_hashes.items) c.self.inside.encoder c.self.inside.buffers) c.self.view_is c.self.invariant.kept in
    omega (arith, share_some p (texts_of c.self.inside.share_hashes.items) c.self.inside.encoder c.self.inside.buffers kept)

pub returns-clause-short : goal.returns-clause-short
returns-clause-short c =
    let p : KeptFile = c.args.self.now in
    let kept = subst (λ (p : KeptFile). IsKept p (texts_of c.self.inside.share_hashes.items) c.self.inside.encoder c.self.inside.buffers) c.self.view_is c.self.invariant.kept in
    let offsets = c.of-offsets.ensures.offsets ∙ ap (λ (p : KeptFile). offsets_of p.geometry) c.self.view_is in
    omega (
      arith,
      share_short p (texts_of c.self.inside.share_hashes.items) c.self.inside.encoder c.self.inside.buffers kept,
      ap (λ (q : Offsets). q.extension_block) offsets,
      ap (λ (q : Offsets). width q.layout) offsets,
      ap (λ (p : KeptFile). length p.extension_block) c.self.view_is,
    )

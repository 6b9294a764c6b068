use Rattle.std.proofs.Common.{◌≡◌, ◌∙◌, ◌*◌, ℕ, List, All, IfSome, IsSome, Option, ap, subst, sym, length}
use Rattle.std.proofs.lemmas.Bool.{false≢true}
use Rattle.share_layout.specs.Geometry.{Geometry}
use Rattle.share_layout.specs.Pieces.{block_length}
use Rattle.proved_parts.specs.declared.evidence.EvidencePart.{EvidencePart}
use Rattle.download_segments.proofs.HandoutLemmas.{valid_of}
use Rattle.download_file.specs.Answers.{blocks_of}
use Rattle.download_file.specs.Steps.{HasBlock}
use Rattle.download_file.proofs.EvidenceLemmas.{decodes_again, has_blocks, long_enough, proves_again}
use Rattle.download_file.proofs.evidence.part_of.Goals as goal

pub join_blocks-requires : goal.join_blocks-requires
join_blocks-requires c =
    let entries = c.args.requests.now.entries in
    let size : c.block_length-size.result ≡ block_length c.args.handout.now.geometry c.args.number =
    c.block_length-size.ensures.value ∙ ap (λ (g : Geometry). block_length g c.args.number) c.geometry.ensures.value in
    subst (λ (l : List ℕ). All (HasBlock c.args.readers.now c.args.number c.block_length-size.result) l) (sym c.positions.ensures)
    (has_blocks entries c.args.handout.now c.args.readers.now c.args.group.now c.args.number c.requires.group c.requires.made c.requires.file c.block_length-size.result size)

pub decode-requires-clause-long : goal.decode-requires-clause-long
decode-requires-clause-long c =
    let entries = c.args.requests.now.entries in
    ap length (c.deref.ensures.value ∙ c.in_ok-joined.ensures ∙ ap (λ (l : List ℕ). blocks_of entries c.args.readers.now c.args.number l) c.positions.ensures)
    ∙ long_enough entries c.args.handout.now c.args.readers.now c.args.group.now c.args.number c.requires.group c.requires.made c.requires.file
    ∙ ap (λ (g : Geometry). g.needed * block_length g c.args.number) (sym c.requires.group.geometry)

pub unreachable-requires : goal.unreachable-requires
unreachable-requires c =
    let entries = c.args.requests.now.entries in
    let joined : c.deref.result.now ≡ blocks_of entries c.args.readers.now c.args.number c.args.group.now.readers =
    c.deref.ensures.value ∙ c.in_ok-joined.ensures ∙ ap (λ (l : List ℕ). blocks_of entries c.args.readers.now c.args.number l) c.positions.ensures in
    let proves = proves_again entries c.args.handout.now c.args.readers.now c.args.group.now c.args.number c.requires.group c.requires.made c.requires.file
    (valid_of c.args.handout.now c.geometry.ensures.right) c.deref.result.now c.in_ok-segment.segment.items joined c.in_ok-segment.ensures.decodes in
    let some : IsSome c.in_ok-part.field-0 = c.in_ok-part.ensures.proved.1 proves in
    false≢true (subst (λ (o : Option EvidencePart). IsSome o) c.in_default.is some)

pub returns-clause-segment : goal.returns-clause-segment
returns-clause-segment c = λ m.
    let entries = c.args.requests.now.entries in
    let joined : c.deref.result.now ≡ blocks_of entries c.args.readers.now c.args.number c.args.group.now.readers =
    c.deref.ensures.value ∙ c.in_ok-joined.ensures ∙ ap (λ (l : List ℕ). blocks_of entries c.args.readers.now c.args.number l) c.positions.ensures in
    decodes_again entries c.args.handout.now c.args.readers.now c.args.group.now c.args.number c.requires.group m c.requires.file
    (valid_of c.args.handout.now c.geometry.ensures.right) c.deref.result.now c.in_ok-segment.segment.items joined c.in_ok-segment.ensures.decodes
    ∙ sym (subst (λ (o : Option EvidencePart). IfSome o (λ p. p.segment ≡ c.in_ok-segment.segment.items)) c.in-Some.is c.in_ok-part.ensures.segment)

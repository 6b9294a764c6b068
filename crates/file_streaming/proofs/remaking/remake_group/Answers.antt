use Rattle.std.proofs.Common.{◌≡◌, ℕ, ◌+◌, List, length, drop, take, subst, sym, ◌∙◌, arith}
use Rattle.std.proofs.lemmas.List.{length-take, length-take-le, take_at}
use Rattle.share_layout.proofs.GeometryLemmas.{size_low}
use Rattle.block_making.proofs.ReadRuns.{ended-wider}
use Rattle.file_streaming.specs.Remaking.{HasMore}
use Rattle.share_gathering.proofs.GroupSteps.{has_first, has_offset}
use Rattle.file_streaming.proofs.RemakePass.{ended_fault}
use Rattle.file_streaming.proofs.remaking.remake_group.Goals as goal

pub slice_bounds-read_part-end : goal.slice_bounds-read_part-end
slice_bounds-read_part-end g c =
    let at = has_offset c.args.geometry.now c.args.group 0 c.requires.group (has_first c.args.geometry.now c.args.group c.requires.group) in
    omega (arith, at.fits, c.requires.segments)

pub slice_bounds-read_part-end-2 : goal.slice_bounds-read_part-end-2
slice_bounds-read_part-end-2 g c =
    let at = has_offset c.args.geometry.now c.args.group 0 c.requires.group (has_first c.args.geometry.now c.args.group c.requires.group) in
    sym (length-take-le c.args.group.len c.args.segments.now (omega (arith, at.fits, c.requires.segments)))

pub read_part-requires : goal.read_part-requires
read_part-requires g c =
    let at = has_offset c.args.geometry.now c.args.group 0 c.requires.group (has_first c.args.geometry.now c.args.group c.requires.group) in
    omega (arith, at.file, size_low c.args.geometry.now c.requires.group.valid, length-take c.args.group.len c.args.segments.now)

pub returns-in_err-read_part-clause-ended : goal.returns-in_err-read_part-clause-ended
returns-in_err-read_part-clause-ended g c = λ e.
    let len : ℕ = c.args.group.len in
    let offset : ℕ = c.args.group.offset in
    let at = has_offset c.args.geometry.now c.args.group 0 c.requires.group (has_first c.args.geometry.now c.args.group c.requires.group) in
    ended-wider g.S.Source.gives c.args.source.now (offset + length (take len c.args.segments.now)) c.args.geometry.now.size c.read_part.new.source
    (c.in_err-read_part.ensures.ended (ended_fault c.from_residual.result _ c.from_residual.ensures.1 e))
    (omega (arith, at.file, length-take len c.args.segments.now))

pub returns-clause-shares : goal.returns-clause-shares
returns-clause-shares g c = c.in_ok-add.ensures.shares ∙ c.requires.shares

pub returns-clause-wholes : goal.returns-clause-wholes
returns-clause-wholes g c = c.in_ok-add.ensures.wholes ∙ c.requires.wholes

pub returns-clause-remade : goal.returns-clause-remade
returns-clause-remade g c =
    let out : List ℕ = c.read_part.new.out in
    let len : ℕ = c.args.group.len in
    let behind : List ℕ = drop len c.args.segments.now in
    let at = has_offset c.args.geometry.now c.args.group 0 c.requires.group (has_first c.args.geometry.now c.args.group c.requires.group) in
    let long : length out ≡ len = c.read_part.auto.out ∙ length-take-le len c.args.segments.now (omega (arith, at.fits, c.requires.segments)) in
    record {
      text = out;
      long = long;
      read = c.in_ok-read_part.ensures.ok;
      has = subst (λ (o : List ℕ). HasMore c.args.geometry.now c.args.size c.args.group o c.args.remaking.now c.add.new.self) (take_at out behind len long) c.in_ok-add.ensures.more;
    }

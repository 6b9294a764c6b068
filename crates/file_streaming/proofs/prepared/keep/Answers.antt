use Rattle.std.proofs.Common.{ℕ, List, ap, sym, subst, ◌∙◌}
use Rattle.aes_ctr.specs.CounterMode.{xored}
use Rattle.tagged_hash.specs.TaggedHash.{tagged_hash}
use Rattle.tagged_hash.specs.declared.tag.Tag.TheVariants.{ExtensionBlock}
use Rattle.ueb.specs.Shape.{IsShape}
use Rattle.share_layout.specs.Geometry.{Geometry}
use Rattle.share_gathering.specs.Finishing.{HaveLeaves}
use Rattle.file_streaming.specs.Finishing.{IsFinished}
use Rattle.file_streaming.specs.Passes.{IsPassOf, gathered_of}
use Rattle.share_gathering.specs.declared.finishing.Finished.{Finished}
use Rattle.file_streaming.specs.declared.passes.Passes.{Passes}
use Rattle.file_streaming.proofs.Keeping.{all_fit, gathered_is, kept_is, kept_too, leaves_fit}
use Rattle.file_streaming.proofs.prepared.keep.Goals as goal

pub finish-requires-clause-leaves : goal.finish-requires-clause-leaves
finish-requires-clause-leaves c =
    let shape : IsShape c.args.geometry.needed c.args.geometry.total c.args.geometry.size c.args.geometry.segment_size = record { file = c.requires.file; segments = c.requires.segments } in
    subst HaveLeaves (sym c.deref.ensures.value) (leaves_fit c.args.geometry c.requires.some.0 c.args.passes c.requires.some.1 shape)

pub finish-requires-clause-all : goal.finish-requires-clause-all
finish-requires-clause-all c =
    let shape : IsShape c.args.geometry.needed c.args.geometry.total c.args.geometry.size c.args.geometry.segment_size = record { file = c.requires.file; segments = c.requires.segments } in
    all_fit c.args.geometry c.requires.some.0 c.args.passes c.requires.some.1 shape

pub invariant_of-kept : goal.invariant_of-kept
invariant_of-kept c =
    let g : Geometry = c.args.geometry in
    let p : Passes = c.args.passes in
    let file : List ℕ = c.requires.some.0 in
    let pass : IsPassOf g file p = c.requires.some.1 in
    let shape : IsShape g.needed g.total g.size g.segment_size = record { file = c.requires.file; segments = c.requires.segments } in
    let f : Finished = c.in_ok-finished.finished in
    let is : IsFinished g (xored p.key file) f =
    c.in_ok-finished.ensures (xored p.key file) (gathered_of g p.key file) (gathered_is g file p pass shape) pass.ciphertext (c.deref.ensures.value ∙ pass.leaves) pass.shares pass.wholes in
    record {
      kept = kept_too g file p pass shape f is c.tagged-ueb_hash.result c.file_cap-cap.result (c.tagged-ueb_hash.ensures ∙ ap (tagged_hash ExtensionBlock) c.deref-2.ensures.value) c.file_cap-cap.ensures
          c.into_encoder.result c.into_encoder.ensures.needed c.into_encoder.ensures.cipher;
      verified = c.in_ok-file_slots.ensures f.behind.block_trees.items;
    }

pub returns : goal.returns
returns c = λ file pass.
    let g : Geometry = c.args.geometry in
    let p : Passes = c.args.passes in
    let shape : IsShape g.needed g.total g.size g.segment_size = record { file = c.requires.file; segments = c.requires.segments } in
    let f : Finished = c.in_ok-finished.finished in
    let is : IsFinished g (xored p.key file) f =
    c.in_ok-finished.ensures (xored p.key file) (gathered_of g p.key file) (gathered_is g file p pass shape) pass.ciphertext (c.deref.ensures.value ∙ pass.leaves) pass.shares pass.wholes in
    kept_is g file p pass shape f is c.tagged-ueb_hash.result c.file_cap-cap.result (c.tagged-ueb_hash.ensures ∙ ap (tagged_hash ExtensionBlock) c.deref-2.ensures.value) c.file_cap-cap.ensures

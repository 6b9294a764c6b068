use Rattle.std.proofs.Common.{◌++◌, List, ℕ, false, ap, ◌∙◌}
use Rattle.catalogues.specs.Unwritten.{unwritten, unwritten_from}
use Rattle.catalogues.proofs.NameLaws.{next_byte, no_byte, written_rest}
use Rattle.catalogues.proofs.name.name_of.Goals as goal

pub loop-byte-preserved : goal.loop-byte-preserved
loop-byte-preserved c =
    let kept = c.loop-byte.invariant in
    let is = c.in-Some.ensures.1 in record {
      same =
          ap (λ (front : List ℕ). front ++ unwritten_from false c.in-Some.after.now) c.in_ok-push.ensures.items
          ∙ next_byte _ c.loop-byte.name.items c.loop-byte.rest.now c.in-Some.after.now c.in-Some.byte is kept.same;
      left = written_rest c.loop-byte.rest.now c.in-Some.after.now c.in-Some.byte is kept.left;
    }

pub returns : goal.returns
unfolding unwritten
returns c =
    no_byte _ c.loop-byte.name.items c.loop-byte.rest.now c.in_default.ensures c.loop-byte.invariant.left c.loop-byte.invariant.same

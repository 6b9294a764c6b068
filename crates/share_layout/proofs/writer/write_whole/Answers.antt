use Rattle.std.proofs.Common.{◌∙◌, ap, sym, subst}
use Rattle.std.proofs.lemmas.List.{take_rest}
use Rattle.share_layout.proofs.WriteLemmas.{Added, added_more, added_kept}
use Rattle.share_layout.proofs.writer.write_whole.Goals as goal
use Rattle.share_layout.proofs.writer.write_whole.Goals.{in-Ok, in-Err+else-ne}

pub turns-preserved : goal.turns-preserved
turns-preserved g c =
    let old = g.W.Write.contents c.args.writer.now in
    let before = g.W.Write.contents c.turns.writer in
    let after = g.W.Write.contents c.write.new.self in
    let bytes = c.args.bytes.now in
    let rest = c.turns.rest.now in
    elim c.match-write.branch [
      | in-Ok w ↦
          subst (Added old after bytes) (sym (ap (λ r. r.now) w.rest-is ∙ take_rest rest w.in-Ok.n))
          (added_more old before after bytes rest w.in-Ok.n c.turns.invariant w.in-Ok.ensures.bytes)
      | in-Err+else-ne w ↦
          subst (Added old after bytes) (sym (ap (λ r. r.now) w.rest-is))
          (added_kept old before after bytes rest c.turns.invariant w.in-Err.ensures.bytes)
    ]

use Rattle.std.proofs.Common.{IfErr, sym, subst}
use Rattle.std.proofs.KnownBytes.{Keeps-refl}
use Rattle.std.specs.Prelude.{is_some}
use Rattle.cap_text.specs.declared.cap.Cap.{Cap}
use Rattle.grid_servers.specs.Grids.{grid_calls}
use Rattle.grid_gets.specs.Gets.{IsBegunOf, UnlessWriter, nothing}
use Rattle.grid_gets.proofs.SpanLemmas.{if_writer}
use Rattle.grid_gets.proofs.range.write_bytes.Goals as goal

pub returns-in-Chk-clause-err : goal.returns-in-Chk-clause-err
returns-in-Chk-clause-err g c = subst (λ (cap : Cap). IfErr c.get_range.result (λ failure. UnlessWriter failure
    (IsBegunOf (grid_calls g.R.Stream.Write.contents g.R.Stream.Read.remaining) c.args.place.now.grid.now (is_some c.args.kept.now) c.args.asked.now.range (g.O.Write.contents c.args.out.now) (g.O.Write.contents c.get_range.new.out) cap)))
    (sym c.in-Chk.is) c.get_range.ensures.err

pub returns-in-Verify-clause-err : goal.returns-in-Verify-clause-err
returns-in-Verify-clause-err g c = nothing c.args.asked.now.cap (Keeps-refl (g.O.Write.contents c.args.out.now))

pub returns-in-Lit-clause-err : goal.returns-in-Lit-clause-err
returns-in-Lit-clause-err g c = if_writer c.send.result _ c.send.ensures.err

use Rattle.std.proofs.Common.{List, ℕ, refl, subst}
use Rattle.std.specs.Io.KnownBytes.{Appends}
use Rattle.grid_lists.proofs.putting.put_one.Goals as goal

pub returns-in-Ok-clause-done : goal.returns-in-Ok-clause-done
returns-in-Ok-clause-done g c = record {
  outcome = c.in_ok-outcome.outcome;
  put = c.in_ok-outcome.ensures;
  written = subst (λ (bytes : List ℕ). Appends (g.O.Write.contents c.args.out.now) (g.O.Write.contents c.print.new.out) bytes) c.deref.ensures.value c.in-Ok.ensures;
  status_is = refl;
}

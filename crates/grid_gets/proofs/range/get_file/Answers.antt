use Rattle.std.proofs.Common.{ℕ, Ok, OnErr, OnOk, inl, refl, subst}
use Rattle.std.specs.Prelude.{is_some}
use Rattle.grid_servers.specs.Grids.{grid_calls}
use Rattle.grid_gets.specs.Files.{IsFileOf, MayBeFileOf}
use Rattle.grid_gets.proofs.FileLemmas.{err_then}
use Rattle.grid_gets.proofs.range.get_file.Goals as goal

pub returns-in_err-to-clause-part : goal.returns-in_err-to-clause-part
returns-in_err-to-clause-part g c = err_then _ _ (inl refl)

pub returns-clause-file : goal.returns-clause-file
returns-clause-file g c =
    subst (λ (n : ℕ). OnOk c.write_file.result (IsFileOf (grid_calls g.R.Stream.Write.contents g.R.Stream.Read.remaining) c.args.place.now.grid.now (is_some c.args.kept.now) c.args.cap (record { from = 0; to = n }) c.args.path.now (Ok tt)
    (g.F.NamedFiles.acts c.args.files.now) (g.F.NamedFiles.acts c.write_file.new.files))) c.in_ok-to.ensures.size c.write_file.ensures.ok

pub returns-clause-part : goal.returns-clause-part
returns-clause-part g c =
    subst (λ (n : ℕ). OnErr c.write_file.result (MayBeFileOf (grid_calls g.R.Stream.Write.contents g.R.Stream.Read.remaining) c.args.place.now.grid.now (is_some c.args.kept.now) c.args.cap (record { from = 0; to = n }) c.args.path.now
    (g.F.NamedFiles.acts c.args.files.now) (g.F.NamedFiles.acts c.write_file.new.files))) c.in_ok-to.ensures.size c.write_file.ensures.err

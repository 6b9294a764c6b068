use Rattle.std.proofs.Common.{ℕ, List, Option}
use Rattle.std.specs.Prelude.{is_some}
use Rattle.grid_servers.specs.Grids.{grid_calls}
use Rattle.grid_gets.specs.Gets.{IsBegunOf, IsGotOf}
use Rattle.grid_gets.proofs.FileLemmas.{handed_err, handed_ok}
use Rattle.grid_gets.proofs.range.write_file.Goals as goal

pub returns-clause-ok : goal.returns-clause-ok
returns-clause-ok g c =
    handed_ok (IsGotOf (grid_calls g.R.Stream.Write.contents g.R.Stream.Read.remaining) c.args.place.now.grid.now (is_some c.args.kept.now) c.args.asked.now.cap c.args.asked.now.range)
    (λ (held holds : Option (List ℕ)). IsBegunOf (grid_calls g.R.Stream.Write.contents g.R.Stream.Read.remaining) c.args.place.now.grid.now (is_some c.args.kept.now) c.args.asked.now.range held holds c.args.asked.now.cap)
    c.args.path.now (g.F.NamedFiles.acts c.args.files.now) (g.F.NamedFiles.acts c.open.new.self) (g.F.NamedFiles.acts c.end.new.self) (g.F.File.Write.contents c.in_ok-file.file) (g.F.File.Write.contents c.write_bytes-written.new.out)
    c.write_bytes-written.result c.in_ok-file.ensures.opened c.end.ensures.ended c.write_bytes-written.ensures.ok c.write_bytes-written.ensures.err c.end.result c.end.ensures.whole

pub returns-clause-err : goal.returns-clause-err
returns-clause-err g c =
    handed_err (IsGotOf (grid_calls g.R.Stream.Write.contents g.R.Stream.Read.remaining) c.args.place.now.grid.now (is_some c.args.kept.now) c.args.asked.now.cap c.args.asked.now.range)
    (λ (held holds : Option (List ℕ)). IsBegunOf (grid_calls g.R.Stream.Write.contents g.R.Stream.Read.remaining) c.args.place.now.grid.now (is_some c.args.kept.now) c.args.asked.now.range held holds c.args.asked.now.cap)
    c.args.path.now (g.F.NamedFiles.acts c.args.files.now) (g.F.NamedFiles.acts c.open.new.self) (g.F.NamedFiles.acts c.end.new.self) (g.F.File.Write.contents c.in_ok-file.file) (g.F.File.Write.contents c.write_bytes-written.new.out)
    c.write_bytes-written.result c.in_ok-file.ensures.opened c.end.ensures.ended c.write_bytes-written.ensures.ok c.write_bytes-written.ensures.err c.end.result

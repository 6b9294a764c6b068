use Rattle.std.proofs.Common.{◌≡◌, Err, IfErr, OnOk, refl, rules, subst}
use Rattle.grid_servers.specs.Grids.{grid_calls}
use Rattle.grid_gets.specs.Gets.{AreReadTo, IsBegun, IsGot, Standing, UnlessWriter}
use Rattle.grid_gets.proofs.GotLemmas.{begun_after, got_flushed, read_on_to}
use Rattle.grid_gets.proofs.SpanLemmas.{if_writer}
use Rattle.grid_gets.proofs.standing.OpenGrid.write_range.Goals as goal

pub returns-clause-ok : goal.returns-clause-ok
returns-clause-ok g c =
    let s : Standing _ = record { servers = c.self.inside.servers.items; grid = c.self.inside.spans.grid; session = c.self.inside.spans.session } in
    subst (λ (old : Standing _). OnOk c.send.result (IsGot (grid_calls g.R.Stream.Write.contents g.R.Stream.Read.remaining) c.args.cap.now c.args.range.now old (g.O.Write.contents c.args.out.now) (g.O.Write.contents c.send.new.out))) c.self.view_is
    (got_flushed _ c.args.cap.now c.args.range.now s c.as_slice.result.now c.as_slice.ensures.value c.begin_file.new.self c.begin_file.ensures c.send.result c.write_range.new.self _ _ _ c.in_ok-write_range.ensures.ok c.send.ensures.ok)

pub returns-clause-read : goal.returns-clause-read
returns-clause-read g c =
    let s : Standing _ = record { servers = c.self.inside.servers.items; grid = c.self.inside.spans.grid; session = c.self.inside.spans.session } in
    let new : Standing _ = record { servers = c.self.inside.servers.items; grid = c.write_range.new.self.grid; session = c.write_range.new.self.session } in
    subst (λ (old : Standing _). OnOk c.send.result (AreReadTo (grid_calls g.R.Stream.Write.contents g.R.Stream.Read.remaining) old new)) c.self.view_is
    (read_on_to _ c.args.cap.now c.args.range.now s c.as_slice.result.now c.as_slice.ensures.value c.begin_file.new.self c.begin_file.ensures c.send.result c.write_range.new.self _ _ new c.in_ok-write_range.ensures.ok refl)

pub returns-clause-err : goal.returns-clause-err
returns-clause-err g c = if_writer c.send.result _ c.send.ensures.err

pub returns-in_err-write_range-clause-err : goal.returns-in_err-write_range-clause-err
returns-in_err-write_range-clause-err g c =
    let s : Standing _ = record { servers = c.self.inside.servers.items; grid = c.self.inside.spans.grid; session = c.self.inside.spans.session } in
    let handed : c.from_residual.result ≡ Err c.in_err-write_range.field-0.0 = search rules in
    subst (λ (old : Standing _). IfErr c.from_residual.result (λ failure. UnlessWriter failure (IsBegun (grid_calls g.R.Stream.Write.contents g.R.Stream.Read.remaining) c.args.cap.now c.args.range.now old (g.O.Write.contents c.args.out.now) (g.O.Write.contents c.write_range.new.out)))) c.self.view_is
    (begun_after _ c.args.cap.now c.args.range.now s c.as_slice.result.now c.as_slice.ensures.value c.begin_file.new.self c.begin_file.ensures c.from_residual.result c.in_err-write_range.field-0.0 _ _ handed c.in_err-write_range.ensures.err)

use Rattle.std.proofs.Common.{ℕ, IfErr, IfOk, refl, subst}
use Rattle.std.specs.Prelude.{option_map}
use Rattle.download_core.specs.Moves.{Begins}
use Rattle.grid_servers.specs.Grids.{grid_calls}
use Rattle.grid_gets.specs.Gets.{UnlessWriter}
use Rattle.grid_gets.specs.Spans.{Leads, Spanning, Stops, reached_by}
use Rattle.grid_gets.proofs.SpanLemmas.{if_err, stops_first}
use Rattle.grid_gets.proofs.TriedLemmas.{tried_err, tried_ok, tried_ok_within}
use Rattle.grid_gets.proofs.spans.Spans.try_span.Goals as goal

pub returns-in_err-download-clause-err : goal.returns-in_err-download-clause-err
returns-in_err-download-clause-err g c = if_err _ _ (stops_first _ c.args.cap.now c.args.servers.now c.args.self.now c.args.from c.args.to _ c.requires.ordered)

pub returns-clause-ok : goal.returns-clause-ok
returns-clause-ok g c =
    let carried = c.carry_download-carried in
    let was : Spanning _ = record { session = c.self.inside.session; grid = c.self.inside.nodes; block = option_map (λ block. block.items) c.self.inside.extension_block } in
    let mid : Spanning _ = record { session = c.saturating_add-self-inside.result; grid = carried.new.outside; block = was.block } in
    let begins : Begins c.args.cap.now c.args.from c.args.to c.args.servers.now was.session was.grid.here.clock c.in_ok-download.download =
    subst (λ (n : ℕ). Begins c.args.cap.now c.args.from c.args.to c.args.servers.now was.session n c.in_ok-download.download) c.clock-now.ensures c.in_ok-download.ensures in
    subst (λ (old : Spanning _). IfOk c.conclude.result (λ tried. Leads (grid_calls g.R.Stream.Write.contents g.R.Stream.Read.remaining) c.args.cap.now c.args.servers.now old c.args.from (g.O.Write.contents c.args.out.now) c.conclude.new.self
    (reached_by tried c.args.to) (g.O.Write.contents carried.new.out))) c.self.view_is
    (tried_ok (grid_calls g.R.Stream.Write.contents g.R.Stream.Read.remaining) c.args.cap.now was c.args.servers.now c.args.from c.args.to c.in_ok-download.download carried.result carried.new.outside (g.O.Write.contents c.args.out.now) (g.O.Write.contents carried.new.out) c.requires.distinct begins
    c.ranges.to.fits carried.ensures.written c.conclude.result mid c.conclude.new.self c.saturating_add-self-inside.ensures refl refl c.conclude.ensures.ended c.conclude.ensures.same c.conclude.ensures.stays c.conclude.ensures.accepts)

pub returns-clause-within : goal.returns-clause-within
returns-clause-within g c =
    let carried = c.carry_download-carried in
    let was : Spanning _ = record { session = c.self.inside.session; grid = c.self.inside.nodes; block = option_map (λ block. block.items) c.self.inside.extension_block } in
    let begins : Begins c.args.cap.now c.args.from c.args.to c.args.servers.now was.session was.grid.here.clock c.in_ok-download.download =
    subst (λ (n : ℕ). Begins c.args.cap.now c.args.from c.args.to c.args.servers.now was.session n c.in_ok-download.download) c.clock-now.ensures c.in_ok-download.ensures in
    tried_ok_within (grid_calls g.R.Stream.Write.contents g.R.Stream.Read.remaining) c.args.cap.now was c.args.servers.now c.args.from c.args.to c.in_ok-download.download carried.result carried.new.outside
    (g.O.Write.contents c.args.out.now) (g.O.Write.contents carried.new.out) c.requires.distinct begins c.ranges.to.fits carried.ensures.written c.conclude.result c.conclude.ensures.ended

pub returns-clause-err : goal.returns-clause-err
returns-clause-err g c =
    let carried = c.carry_download-carried in
    let was : Spanning _ = record { session = c.self.inside.session; grid = c.self.inside.nodes; block = option_map (λ block. block.items) c.self.inside.extension_block } in
    let begins : Begins c.args.cap.now c.args.from c.args.to c.args.servers.now was.session was.grid.here.clock c.in_ok-download.download =
    subst (λ (n : ℕ). Begins c.args.cap.now c.args.from c.args.to c.args.servers.now was.session n c.in_ok-download.download) c.clock-now.ensures c.in_ok-download.ensures in
    subst (λ (old : Spanning _). IfErr c.conclude.result (λ failure. UnlessWriter failure (Stops (grid_calls g.R.Stream.Write.contents g.R.Stream.Read.remaining) c.args.cap.now c.args.servers.now old c.args.from c.args.to
    (g.O.Write.contents c.args.out.now) (g.O.Write.contents carried.new.out)))) c.self.view_is
    (tried_err (grid_calls g.R.Stream.Write.contents g.R.Stream.Read.remaining) c.args.cap.now was c.args.servers.now c.args.from c.args.to c.in_ok-download.download carried.result carried.new.outside (g.O.Write.contents c.args.out.now) (g.O.Write.contents carried.new.out) c.requires.distinct begins
    c.ranges.to.fits carried.ensures.written c.conclude.result c.conclude.ensures.writer)

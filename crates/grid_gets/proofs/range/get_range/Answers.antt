use Rattle.std.proofs.Common.{◌≡◌, Err, IfSome, Option, subst, sym}
use Rattle.std.proofs.KnownBytes.{Keeps-refl}
use Rattle.std.specs.Prelude.{is_some}
use Rattle.cap_text.specs.declared.cap.Cap.TheVariants.{Chk}
use Rattle.grid_servers.specs.Grids.{grid_calls}
use Rattle.grid_gets.specs.Gets.{Standing, WereRead, nothing}
use Rattle.grid_gets.proofs.GotLemmas.{begun_by, got_by, read_more, stands_distinct, whole_begun}
use Rattle.grid_gets.proofs.SpanLemmas.{err_on, handed_on, if_err}
use Rattle.grid_gets.proofs.range.get_range.Goals as goal

pub write_range-written-requires-clause-distinct : goal.write_range-written-requires-clause-distinct
write_range-written-requires-clause-distinct g c = stands_distinct _ c.args.place.now.grid.now (is_some c.args.kept.now) c.in_ok-open.open c.in_ok-open.ensures.stand

pub returns-in_err-open-clause-err : goal.returns-in_err-open-clause-err
returns-in_err-open-clause-err g c = if_err _ _ (nothing (Chk c.args.cap.now) (Keeps-refl _))

pub returns-in_err-written-clause-err : goal.returns-in_err-written-clause-err
returns-in_err-written-clause-err g c =
    let handed : c.from_residual-in_err-written.result ≡ Err c.in_err-written.field-0.0 = handed_on c.from_residual-in_err-written.result c.in_err-written.field-0.0 c.from_residual-in_err-written.ensures.1 in
    err_on c.from_residual-in_err-written.result c.in_err-written.field-0.0 _ _ handed
    (λ part. begun_by _ c.args.place.now.grid.now (is_some c.args.kept.now) c.args.cap.now c.args.range.now c.in_ok-open.open c.in_ok-open.ensures.stand _ _ part) c.in_err-written.ensures.err

pub returns-in_err-noted-clause-err : goal.returns-in_err-noted-clause-err
returns-in_err-noted-clause-err g c =
    if_err _ _ (begun_by _ c.args.place.now.grid.now (is_some c.args.kept.now) c.args.cap.now c.args.range.now c.in_ok-open.open c.in_ok-open.ensures.stand _ _ (whole_begun _ c.args.cap.now c.args.range.now c.in_ok-open.open _ _ c.in_ok-written.ensures.ok))

pub returns-clause-ok : goal.returns-clause-ok
returns-clause-ok g c = got_by _ c.args.place.now.grid.now (is_some c.args.kept.now) c.args.cap.now c.args.range.now c.in_ok-open.open c.in_ok-open.ensures.stand _ _ c.in_ok-written.ensures.ok

pub returns-clause-kept : goal.returns-clause-kept
returns-clause-kept g c = read_more _ c.args.place.now.grid.now (is_some c.args.kept.now) c.in_ok-open.open c.write_range-written.new.self c.in_ok-open.ensures.stand c.in_ok-written.ensures.read

-- none are kept
pub returns-in_err-open-clause-kept : goal.returns-in_err-open-clause-kept
returns-in_err-open-clause-kept g c =
    subst (λ (o : Option (Standing _)). IfSome o (WereRead (grid_calls g.R.Stream.Write.contents g.R.Stream.Read.remaining) c.args.place.now.grid.now)) (sym c.take.ensures.kept) tt

pub returns-in_err-written-clause-kept : goal.returns-in_err-written-clause-kept
returns-in_err-written-clause-kept g c =
    subst (λ (o : Option (Standing _)). IfSome o (WereRead (grid_calls g.R.Stream.Write.contents g.R.Stream.Read.remaining) c.args.place.now.grid.now)) (sym c.take.ensures.kept) tt

pub returns-in_err-noted-clause-kept : goal.returns-in_err-noted-clause-kept
returns-in_err-noted-clause-kept g c =
    subst (λ (o : Option (Standing _)). IfSome o (WereRead (grid_calls g.R.Stream.Write.contents g.R.Stream.Read.remaining) c.args.place.now.grid.now)) (sym c.take.ensures.kept) tt

use Rattle.std.proofs.Common.{◌≡◌, ◌≤◌, ℕ, Bool, List, IfSome, nat_eq, subst, sym, ◌∙◌}
use Rattle.std.specs.Prelude.{is_some}
use Rattle.std.specs.List.{IsDistinct}
use Rattle.std.proofs.lemmas.Result.{IfOk-weaker}
use Rattle.cap_text.specs.Cap.{VerifyCapValue}
use Rattle.checker.specs.declared.status.Report.{Report}
use Rattle.grid_servers.specs.Grids.{GridCalls, grid_calls}
use Rattle.grid_shares.specs.Standing.{WereOpened}
use Rattle.grid_shares.specs.declared.placing.Stored.{Stored}
use Rattle.file_upload.specs.Shares.{MayWant}
use Rattle.grid_repairs.specs.Repairs.{IsRepairedOver}
use Rattle.grid_repairs.proofs.StandingLemmas.{stands_distinct}
use Rattle.grid_repairs.proofs.repairing.repair_shares.Goals as goal

-- the same grid, happiness and servers
repaired_so : {S : Type 0} (calls : GridCalls S) (kept : Bool) (report : Report) (cap : VerifyCapValue) (stored : Stored) (g1 g2 : List ℕ) (m1 m2 : Bool) (h1 h2 : ℕ) (s1 s2 : List ℕ) → g1 ≡ g2 → m1 ≡ m2 → h1 ≡ h2 → s1 ≡ s2
    → IsRepairedOver calls g1 kept m1 report cap h1 s1 stored → IsRepairedOver calls g2 kept m2 report cap h2 s2 stored
repaired_so calls kept report cap stored g1 g2 m1 m2 h1 h2 s1 s2 grid mend happy servers over =
    subst (λ (x : List ℕ). IsRepairedOver calls x kept m2 report cap h2 s2 stored) grid
    (subst (λ (x : Bool). IsRepairedOver calls g1 kept x report cap h2 s2 stored) mend
    (subst (λ (x : ℕ). IsRepairedOver calls g1 kept m1 report cap x s2 stored) happy
    (subst (λ (x : List ℕ). IsRepairedOver calls g1 kept m1 report cap h1 x stored) servers over)))

pub repair_over-requires-clause-distinct : goal.repair_over-requires-clause-distinct
repair_over-requires-clause-distinct g c =
    let found = c.in_ok-found.ensures.found in
    subst (λ (xs : List ℕ). IsDistinct nat_eq xs) (sym (c.placing_of-placing.ensures.servers ∙ c.as_slice.ensures.value ∙ found.1))
    (stands_distinct _ c.args.repairing.now.place.grid.now (is_some c.args.reading.now) found.0.stood found.0.stands)

pub repair_over-requires-clause-kept : goal.repair_over-requires-clause-kept
repair_over-requires-clause-kept g c =
    subst (λ (x : List ℕ). IfSome c.args.writing.now (λ s. WereOpened (grid_calls g.R.Stream.Write.contents g.R.Stream.Read.remaining) x s.grid)) (sym c.placing_of-placing.ensures.grid) c.requires.writing

pub returns-clause-repaired : goal.returns-clause-repaired
returns-clause-repaired g c =
    let found = c.in_ok-found.ensures.found in
    IfOk-weaker c.repair_over.result _ _
    (λ stored over. record {
      may = subst (MayWant c.args.cap.now) c.in_ok-happy.ensures.wanted (record { some = c.in_ok-happy.ensures.within.0; reachable = subst (λ (n : ℕ). c.in_ok-happy.happy ≤ n) (c.from.ensures ∙ c.total.ensures.value) c.in_ok-happy.ensures.within.1 });
      report = c.in_ok-found.found.report;
      by_check = found.0;
      enough = c.in_ok-found.ensures.enough;
      over = repaired_so _ (is_some c.args.writing.now) c.in_ok-found.found.report c.args.cap.now stored _ _ _ _ _ _ _ _ c.placing_of-placing.ensures.grid c.placing_of-placing.ensures.mend c.in_ok-happy.ensures.wanted
          (c.placing_of-placing.ensures.servers ∙ c.as_slice.ensures.value ∙ found.1) over;
    })
    c.repair_over.ensures.repaired

pub returns-clause-writing : goal.returns-clause-writing
returns-clause-writing g c =
    subst (λ (x : List ℕ). IfSome c.repair_over.new.kept (λ s. WereOpened (grid_calls g.R.Stream.Write.contents g.R.Stream.Read.remaining) x s.grid)) c.placing_of-placing.ensures.grid c.repair_over.ensures.kept

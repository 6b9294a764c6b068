-- Servers that stay open from one check to the next.
use Rattle.std.proofs.Common.{◌≡◌, ◌+◌, ℕ, List, Bool, true, false, Option, Some, None, Result, Ok, Err, IfOk, IfSome, nat_eq, sym, subst, refl, ◌∙◌}
use Rattle.std.specs.Prelude.{is_some}
use Rattle.std.specs.List.{IsDistinct}
use Rattle.carried_operations.specs.Checked.{IsCarried}
use Rattle.carried_operations.specs.Written.{capped}
use Rattle.cap_text.specs.Cap.{VerifyCapValue}
use Rattle.checker.specs.Moves.{Begins}
use Rattle.checker.specs.Report.{IsReport}
use Rattle.checker.specs.State.{CheckState}
use Rattle.checker.specs.declared.status.Report.{Report}
use Rattle.grid_faults.specs.declared.fault.Fault.{Fault}
use Rattle.grid_servers.specs.Grids.{FolderGridState, GridCalls}
use Rattle.local_grid.specs.Outside.{OutsideCalls}
use Rattle.grid_repairs.specs.Checks.{AreCheckedTo, AreNew, IsCheckedAt, IsCheckedBy, IsCheckedOver, Standing, Stands, WereChecked, checked_on, were_new}

-- ---- a check over servers that stand so

module _ {G : Type 0} (calls : OutsideCalls G) (cap : VerifyCapValue) (s : Standing G) (begun ended : CheckState) (after : G) where
  over_at : (servers : List ℕ) (session now : ℕ) → servers ≡ s.servers → session ≡ s.session → now ≡ calls.clock s.grid → Begins cap servers session now begun
      → IsCarried calls begun s.grid ended after → IsCheckedOver calls cap s begun ended after
  over_at servers session now same own clock begins carried = record {
    begins = subst (λ (xs : List ℕ). Begins cap xs s.session (calls.clock s.grid) begun) same
        (subst (λ (n : ℕ). Begins cap servers n (calls.clock s.grid) begun) own (subst (λ (n : ℕ). Begins cap servers session n begun) clock begins));
    carried = carried;
  }

  pub checked_at : (servers : List ℕ) (session now : ℕ) → servers ≡ s.servers → session ≡ s.session → now ≡ calls.clock s.grid → Begins cap servers session now begun
      → IsCarried calls begun s.grid ended after → (r : Report) → IsReport ended.cap ended.requests.entries r → IsCheckedAt calls cap s r
  checked_at servers session now same own clock begins carried r report = record {
    begun = begun;
    ended = ended;
    after = after;
    over = over_at servers session now same own clock begins carried;
    report = subst (λ (x : VerifyCapValue). IsReport x ended.requests.entries r) (carried.cap ∙ begins.of_cap) report;
  }

  pub led_to : (servers : List ℕ) (session now : ℕ) → servers ≡ s.servers → session ≡ s.session → now ≡ calls.clock s.grid → Begins cap servers session now begun
      → IsCarried calls begun s.grid ended after → AreCheckedTo calls s (record { servers = s.servers; grid = after; session = capped (s.session + 1) })
  led_to servers session now same own clock begins carried = record {
    cap = cap;
    begun = begun;
    ended = ended;
    over = over_at servers session now same own clock begins carried;
    servers = refl;
    session = refl;
  }

-- ---- how servers stand

module _ {S : Type 0} (calls : GridCalls S) (grid : List ℕ) where
  were_distinct : (s : Standing (FolderGridState S)) → WereChecked calls grid s → IsDistinct nat_eq s.servers
  were_distinct _ (were_new s new) = new.distinct
  were_distinct _ (checked_on old s were to) = subst (λ (xs : List ℕ). IsDistinct nat_eq xs) (sym to.servers) (were_distinct old were)

  pub stands_distinct : (kept : Bool) (s : Standing (FolderGridState S)) → Stands calls grid kept s → IsDistinct nat_eq s.servers
  stands_distinct true s were = were_distinct s were
  stands_distinct false s new = new.distinct

  stands_were : (kept : Bool) (s : Standing (FolderGridState S)) → Stands calls grid kept s → WereChecked calls grid s
  stands_were true s were = were
  stands_were false s new = were_new s new

  -- one check more, of servers that are kept
  pub checked_more : (kept : Bool) (s new : Standing (FolderGridState S)) (o : Option (Standing (FolderGridState S))) → Stands calls grid kept s → AreCheckedTo calls s new → IfSome o (λ g. g ≡ new)
      → IfSome o (WereChecked calls grid)
  checked_more kept s new None stands to is = tt
  checked_more kept s new (Some g) stands to is = subst (λ (x : Standing (FolderGridState S)). WereChecked calls grid x) (sym is) (checked_on s new (stands_were kept s stands) to)

  pub stand_kept : (o : Option (Standing (FolderGridState S))) (s : Standing (FolderGridState S)) → o ≡ Some s → IfSome o (WereChecked calls grid) → Stands calls grid (is_some o) s
  stand_kept None s is were = absurd (none_some s is) where
    none_some : (s : Standing (FolderGridState S)) → ◌≡◌ {A = Option (Standing (FolderGridState S))} None (Some s) → ⊥
    none_some s e = cc
  stand_kept (Some t) s is were = subst (λ (x : Standing (FolderGridState S)). WereChecked calls grid x) (some_same t s is) were where
    some_same : (t s : Standing (FolderGridState S)) → Some t ≡ Some s → t ≡ s
    some_same t s e = cc

  pub stand_new : (o : Option (Standing (FolderGridState S))) (r : Result (Standing (FolderGridState S)) Fault) → o ≡ None → IfOk r (AreNew grid) → IfOk r (Stands calls grid (is_some o))
  stand_new None (Ok s) is new = new
  stand_new None (Err fault) is new = tt
  stand_new (Some t) r is new = absurd (some_none t is) where
    some_none : (t : Standing (FolderGridState S)) → ◌≡◌ {A = Option (Standing (FolderGridState S))} (Some t) None → ⊥
    some_none t e = cc

  pub checked_by : (kept : Bool) (cap : VerifyCapValue) (r : Report) (s : Standing (FolderGridState S)) → Stands calls grid kept s → IsCheckedAt calls cap s r → IsCheckedBy calls grid kept cap r
  checked_by kept cap r s stands checked = record { stood = s; stands = stands; checked = checked }

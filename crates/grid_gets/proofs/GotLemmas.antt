-- What a get of a range comes to, over servers that stand so.
use Rattle.std.proofs.Common.{◌≡◌, arith, ℕ, List, [], Bool, true, false, Option, Some, None, Result, Ok, Err, OnOk, IfOk, IfErr, IfSome, nat_eq, refl, sym, subst}
use Rattle.std.specs.Prelude.{is_some}
use Rattle.std.specs.List.{IsDistinct}
use Rattle.std.specs.Io.KnownBytes.{Appends}
use Rattle.std.proofs.lemmas.List.{append-nil}
use Rattle.cap_text.specs.Cap.{ReadCapValue}
use Rattle.cap_text.specs.declared.cap.Cap.TheVariants.{Chk}
use Rattle.local_grid.specs.Outside.{OutsideCalls}
use Rattle.grid_faults.specs.declared.fault.Fault.{Fault}
use Rattle.grid_rules.specs.declared.range.ByteRange.{ByteRange}
use Rattle.grid_servers.specs.Grids.{FolderGridState, GridCalls}
use Rattle.grid_telling.specs.declared.outcome.Failure.{Failure}
use Rattle.grid_gets.specs.Gets.{AreNew, AreReadTo, AreWritten, IsBegun, IsBegunOf, IsGot, IsGotOf, Run, Standing, Stands, UnlessWriter, WereRead, begun, begun_at, read_on, were_new}
use Rattle.grid_gets.specs.Spans.{Leads, Spanning, Stops, point_at}
use Rattle.grid_gets.proofs.RunLemmas.{written_trans}
use Rattle.grid_gets.proofs.SpanLemmas.{err_on, first_of, leads_flushed}

-- ---- a range, over servers that were asked as they stood

module _ {G : Type 0} (calls : OutsideCalls G) (cap : ReadCapValue) (range : ByteRange) (s : Standing G) where
  got_of : (new : Spanning G) (held holds : Option (List ℕ)) → Leads calls cap s.servers (first_of s) range.from held new range.to holds → IsGot calls cap range s held holds
  got_of new held holds l = record { runs = l.runs; after = point_at new range.to; written = l.written; whole = refl; block = new.block; one = l.one }

  begun_of : (held holds : Option (List ℕ)) → Stops calls cap s.servers (first_of s) range.from range.to held holds → IsBegun calls cap range s held holds
  begun_of held holds t = record {
    runs = t.leads.runs;
    last = t.last;
    few = t.few;
    after = t.after;
    written = written_trans calls cap s.servers (point_at (first_of s) range.from) (point_at t.mid t.at) t.after t.leads.runs t.last held t.middle holds t.leads.written t.written;
    within = t.within;
    block = t.mid.block;
    one = t.leads.one;
  }

  -- all was written, and then it failed
  pub whole_begun : (held holds : Option (List ℕ)) → IsGot calls cap range s held holds → IsBegun calls cap range s held holds
  whole_begun held holds g = record {
    runs = g.runs;
    last = [];
    few = omega arith;
    after = g.after;
    written = subst (λ (runs : List (Run G)). AreWritten calls cap s.servers (begun_at s range.from) held runs g.after holds) (sym (append-nil g.runs)) g.written;
    within = omega (arith, g.whole);
    block = g.block;
    one = g.one;
  }

  module _ (asked : List ℕ) (same : asked ≡ s.servers) (first : Spanning G) (is : first ≡ first_of s) where
    leads_of : (new : Spanning G) (held holds : Option (List ℕ)) → Leads calls cap asked first range.from held new range.to holds → Leads calls cap s.servers (first_of s) range.from held new range.to holds
    leads_of new held holds l = subst (λ (f : Spanning G). Leads calls cap s.servers f range.from held new range.to holds) is (subst (λ (xs : List ℕ). Leads calls cap xs first range.from held new range.to holds) same l)

    stops_of : (held holds : Option (List ℕ)) → Stops calls cap asked first range.from range.to held holds → Stops calls cap s.servers (first_of s) range.from range.to held holds
    stops_of held holds t = subst (λ (f : Spanning G). Stops calls cap s.servers f range.from range.to held holds) is (subst (λ (xs : List ℕ). Stops calls cap xs first range.from range.to held holds) same t)

    -- all was written and sent on
    pub got_flushed : (r : Result (Unit {0}) Failure) (new : Spanning G) (held holds last : Option (List ℕ)) → Leads calls cap asked first range.from held new range.to holds → OnOk r (Appends holds last []) → OnOk r (IsGot calls cap range s held last)
    got_flushed (Ok tt) new held holds last l more = got_of new held last (leads_flushed calls cap s.servers (first_of s) new range.from range.to held holds last (leads_of new held holds l) more)
    got_flushed (Err f) new held holds last l more = tt

    pub read_on_to : (r : Result (Unit {0}) Failure) (new : Spanning G) (held holds : Option (List ℕ)) (after : Standing G) → Leads calls cap asked first range.from held new range.to holds
        → after ≡ record { servers = s.servers; grid = new.grid; session = new.session } → OnOk r (AreReadTo calls s after)
    read_on_to (Ok tt) new held holds after l so = record { cap = cap; from = range.from; runs = (leads_of new held holds l).runs; after = point_at new range.to; runs_are = (leads_of new held holds l).written.runs_are; is = so }
    read_on_to (Err f) new held holds after l so = tt

    pub begun_after : (r : Result (Unit {0}) Failure) (f : Failure) (held holds : Option (List ℕ)) → r ≡ Err f → UnlessWriter f (Stops calls cap asked first range.from range.to held holds) → IfErr r (λ failure. UnlessWriter failure (IsBegun calls cap range s held holds))
    begun_after r f held holds handed known = err_on r f _ _ handed (λ t. begun_of held holds (stops_of held holds t)) known

-- ---- how servers stand

module _ {S : Type 0} (calls : GridCalls S) (grid : List ℕ) where
  were_distinct : (s : Standing (FolderGridState S)) → WereRead calls grid s → IsDistinct nat_eq s.servers
  were_distinct _ (were_new s new) = new.distinct
  were_distinct _ (read_on old s were to) = subst (λ (x : Standing (FolderGridState S)). IsDistinct nat_eq x.servers) (sym to.is) (were_distinct old were)

  pub stands_distinct : (kept : Bool) (s : Standing (FolderGridState S)) → Stands calls grid kept s → IsDistinct nat_eq s.servers
  stands_distinct true s were = were_distinct s were
  stands_distinct false s new = new.distinct

  pub stands_were : (kept : Bool) (s : Standing (FolderGridState S)) → Stands calls grid kept s → WereRead calls grid s
  stands_were true s were = were
  stands_were false s new = were_new s new

  pub read_more : (kept : Bool) (s new : Standing (FolderGridState S)) → Stands calls grid kept s → AreReadTo calls s new → WereRead calls grid new
  read_more kept s new stands to = read_on s new (stands_were kept s stands) to

  pub stand_kept : (o : Option (Standing (FolderGridState S))) (s : Standing (FolderGridState S)) → o ≡ Some s → IfSome o (WereRead calls grid) → Stands calls grid (is_some o) s
  stand_kept None s is were = absurd (none_some s is) where
    none_some : (s : Standing (FolderGridState S)) → ◌≡◌ {A = Option (Standing (FolderGridState S))} None (Some s) → ⊥
    none_some s e = cc
  stand_kept (Some t) s is were = subst (λ (x : Standing (FolderGridState S)). WereRead calls grid x) (some_same t s is) were where
    some_same : (t s : Standing (FolderGridState S)) → Some t ≡ Some s → t ≡ s
    some_same t s e = cc

  pub stand_new : (o : Option (Standing (FolderGridState S))) (r : Result (Standing (FolderGridState S)) Fault) → o ≡ None → IfOk r (AreNew grid) → IfOk r (Stands calls grid (is_some o))
  stand_new None (Ok s) is new = new
  stand_new None (Err fault) is new = tt
  stand_new (Some t) r is new = absurd (some_none t is) where
    some_none : (t : Standing (FolderGridState S)) → ◌≡◌ {A = Option (Standing (FolderGridState S))} (Some t) None → ⊥
    some_none t e = cc

  -- ---- what is written of a cap's file

  module _ (kept : Bool) (cap : ReadCapValue) (range : ByteRange) (s : Standing (FolderGridState S)) (stands : Stands calls grid kept s) (held holds : Option (List ℕ)) where
    pub got_by : IsGot calls cap range s held holds → IsGotOf calls grid kept (Chk cap) range held holds
    got_by got = (s, stands, got)

    pub begun_by : IsBegun calls cap range s held holds → IsBegunOf calls grid kept range held holds (Chk cap)
    begun_by part = begun cap s stands part

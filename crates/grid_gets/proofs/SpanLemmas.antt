-- Spans that were got, one after another.
use Rattle.std.proofs.Common.{◌≡◌, ℕ, ◌≤◌, List, [], ◌++◌, All, Contains, Option, Some, None, Result, Ok, Err, OnOk, IfOk, IfErr, IsErrAnd, refl, sym, ap, subst, inl, arith, nat_eq, Vec, Global}
use Rattle.std.proofs.KnownBytes.{Appends-trans}
use Rattle.std.proofs.lemmas.List.{append-nil}
use Rattle.std.proofs.lemmas.List.Elements.{All-append, All-contains_itself, All-filter, All-nil, All-weaker}
use Rattle.std.specs.List.{IsDistinct}
use Rattle.grid_servers.specs.Servers.{is_left, servers_without}
use Rattle.std.specs.Io.KnownBytes.{Appends}
use Rattle.cap_text.specs.Cap.{ReadCapValue}
use Rattle.download_core.specs.State.{DownloadState}
use Rattle.download_file.specs.Whole.{joined}
use Rattle.local_grid.specs.Outside.{OutsideCalls}
use Rattle.grid_telling.specs.declared.outcome.Failure.{Failure}
use Rattle.grid_telling.specs.declared.outcome.Failure.TheVariants.{Fault, Writer}
use Rattle.grid_gets.specs.Gets.{AcceptsOnly, AllAccept, Run, Standing, UnlessWriter, pieces_of}
use Rattle.grid_gets.specs.Spans.{Leads, Spanning, StaysBlock, Stops, point_at, reached_by}
use Rattle.grid_gets.specs.declared.tried.Tried.{Tried}
use Rattle.grid_gets.specs.declared.tried.Tried.TheVariants.{Done, TooFew}
use Rattle.grid_gets.proofs.RunLemmas.{written_among, written_nil, written_trans}

-- ---- results

-- what is known of a failure, unless it is the writer's
pub unless : (f : Failure) (P : Type 0) → P → UnlessWriter f P
unless (Fault fault) P p = p
unless Writer P p = tt

-- the error that is handed on
pub handed_on : {A E : Type 0} (r : Result A E) (e : E) → IsErrAnd r (λ f. f ≡ e) → r ≡ Err e
handed_on (Ok a) e is = absurd is
handed_on (Err f) e is = ap Err is

pub if_err : {A : Type 0} (r : Result A Failure) (P : Type 0) → P → IfErr r (λ f. UnlessWriter f P)
if_err (Ok a) P p = tt
if_err (Err f) P p = unless f P p

-- and nothing is to be shown where it is the writer's
pub if_writer : {A : Type 0} (r : Result A Failure) (P : Type 0) → IfErr r (λ f. f ≡ Writer) → IfErr r (λ f. UnlessWriter f P)
if_writer (Ok a) P is = tt
if_writer (Err f) P is = subst (λ (x : Failure). UnlessWriter x P) (sym is) tt

pub unless_weaker : (f : Failure) (P Q : Type 0) → (P → Q) → UnlessWriter f P → UnlessWriter f Q
unless_weaker (Fault fault) P Q weaker p = weaker p
unless_weaker Writer P Q weaker p = tt

pub if_err_weaker : {A : Type 0} (r : Result A Failure) (P Q : Type 0) → (P → Q) → IfErr r (λ f. UnlessWriter f P) → IfErr r (λ f. UnlessWriter f Q)
if_err_weaker (Ok a) P Q weaker p = tt
if_err_weaker (Err f) P Q weaker p = unless_weaker f P Q weaker p

-- a failure that is handed on
pub err_on : {A : Type 0} (r : Result A Failure) (f : Failure) (P Q : Type 0) → r ≡ Err f → (P → Q) → UnlessWriter f P → IfErr r (λ f. UnlessWriter f Q)
err_on r f P Q is weaker known = subst (λ (x : Result _ Failure). IfErr x (λ f. UnlessWriter f Q)) (sym is) (unless_weaker f P Q weaker known)

-- ---- servers

-- those that are left are of those that there were
pub left_among : {E : Type 0} (servers without : List ℕ) (r : Result (Vec ℕ Global) E) → IfOk r (λ left. left.items ≡ servers_without servers without) → IfOk r (λ left. All (Contains servers) left.items)
left_among servers without (Ok left) is = subst (λ (xs : List ℕ). All (Contains servers) xs) (sym is) (All-filter (is_left without) (Contains servers) servers (All-contains_itself servers))
left_among servers without (Err e) is = tt

pub same_among : (servers xs ys : List ℕ) → ys ≡ xs → All (Contains servers) xs → All (Contains servers) ys
same_among servers xs ys is among = subst (λ (zs : List ℕ). All (Contains servers) zs) (sym is) among

pub same_distinct : (xs ys : List ℕ) → ys ≡ xs → IsDistinct nat_eq xs → IsDistinct nat_eq ys
same_distinct xs ys is distinct = subst (λ (zs : List ℕ). IsDistinct nat_eq zs) (sym is) distinct

-- ---- extension blocks

stays_refl : (b : Option (List ℕ)) → StaysBlock b b
stays_refl None = tt
stays_refl (Some block) = refl

stays_trans : (a b c : Option (List ℕ)) → StaysBlock a b → StaysBlock b c → StaysBlock a c
stays_trans None b c first second = tt
stays_trans (Some block) b c first second = subst (λ (x : Option (List ℕ)). StaysBlock x c) first second

still_accepts : (a b : Option (List ℕ)) (d : DownloadState) → StaysBlock a b → AcceptsOnly a d → AcceptsOnly b d
still_accepts None None d stays none = none
still_accepts None (Some block) d stays none = inl none
still_accepts (Some block) b d stays accepts = subst (λ (x : Option (List ℕ)). AcceptsOnly x d) (sym stays) accepts

all_still : {G : Type 0} (a b : Option (List ℕ)) (runs : List (Run G)) → StaysBlock a b → AllAccept a runs → AllAccept b runs
all_still {G = G} a b runs stays all = All-weaker (λ (r : Run G). AcceptsOnly a r.ended) (λ (r : Run G). AcceptsOnly b r.ended) (λ (r : Run G). still_accepts a b r.ended stays) runs all

-- ---- spans

-- before the first span of a file
abbrev pub first_of : {G : Type 0} → Standing G → Spanning G
first_of s = record { session = s.session; grid = s.grid; block = None }

module _ {G : Type 0} (calls : OutsideCalls G) (cap : ReadCapValue) (servers : List ℕ) where
  pub leads_none : (s : Spanning G) (from : ℕ) (held : Option (List ℕ)) → Leads calls cap servers s from held s from held
  leads_none s from held = record {
    runs = [];
    written = written_nil calls cap servers (point_at s from) held;
    one = All-nil (λ (r : Run G). AcceptsOnly s.block r.ended);
    stays = stays_refl s.block;
  }

  pub leads_trans : (a b c : Spanning G) (from mid to : ℕ) (held middle holds : Option (List ℕ)) → Leads calls cap servers a from held b mid middle → Leads calls cap servers b mid middle c to holds → Leads calls cap servers a from held c to holds
  leads_trans a b c from mid to held middle holds first second = record {
    runs = first.runs ++ second.runs;
    written = written_trans calls cap servers (point_at a from) (point_at b mid) (point_at c to) first.runs second.runs held middle holds first.written second.written;
    one = All-append (λ (r : Run G). AcceptsOnly c.block r.ended) first.runs second.runs (all_still b.block c.block first.runs second.stays first.one) second.one;
    stays = stays_trans a.block b.block c.block first.stays second.stays;
  }

  -- after some that led on, it stops
  pub stops_after : (a b : Spanning G) (from mid to : ℕ) (held middle holds : Option (List ℕ)) → Leads calls cap servers a from held b mid middle → Stops calls cap servers b mid to middle holds → Stops calls cap servers a from to held holds
  stops_after a b from mid to held middle holds first s = record {
    mid = s.mid;
    at = s.at;
    middle = s.middle;
    leads = leads_trans a b s.mid from mid s.at held middle s.middle first s.leads;
    last = s.last;
    few = s.few;
    after = s.after;
    written = s.written;
    within = s.within;
  }

  -- what was written was sent on
  pub leads_flushed : (a b : Spanning G) (from to : ℕ) (held holds last : Option (List ℕ)) → Leads calls cap servers a from held b to holds → Appends holds last [] → Leads calls cap servers a from held b to last
  leads_flushed a b from to held holds last l more = record {
    runs = l.runs;
    written = record {
      runs_are = l.written.runs_are;
      consecutive = l.written.consecutive;
      written = subst (λ (bytes : List ℕ). Appends held last bytes) (append-nil (joined (pieces_of l.runs))) (Appends-trans held holds last (joined (pieces_of l.runs)) [] l.written.written more);
    };
    one = l.one;
    stays = l.stays;
  }

  -- it stops where it was led to
  pub stops_there : (a b : Spanning G) (from at to : ℕ) (held holds : Option (List ℕ)) → Leads calls cap servers a from held b at holds → at ≤ to → Stops calls cap servers a from to held holds
  stops_there a b from at to held holds first within = record {
    mid = b;
    at = at;
    middle = holds;
    leads = first;
    last = [];
    few = omega arith;
    after = point_at b at;
    written = written_nil calls cap servers (point_at b at) holds;
    within = within;
  }

  -- where it begins
  pub stops_first : (a : Spanning G) (from to : ℕ) (held : Option (List ℕ)) → from ≤ to → Stops calls cap servers a from to held held
  stops_first a from to held within = stops_there a a from from to held held (leads_none a from held) within

  -- not behind a greater offset either
  pub stops_wider : (a : Spanning G) (from to end : ℕ) (held holds : Option (List ℕ)) → to ≤ end → Stops calls cap servers a from to held holds → Stops calls cap servers a from end held holds
  stops_wider a from to end held holds wider s = record {
    mid = s.mid;
    at = s.at;
    middle = s.middle;
    leads = s.leads;
    last = s.last;
    few = s.few;
    after = s.after;
    written = s.written;
    within = omega (arith, wider, s.within);
  }

  -- ---- a second try

  pub done_to : (a b : Spanning G) (from to : ℕ) (held holds : Option (List ℕ)) (t : Tried) → t ≡ Done → Leads calls cap servers a from held b (reached_by t to) holds → Leads calls cap servers a from held b to holds
  done_to a b from to held holds t is first = subst (λ (x : Tried). Leads calls cap servers a from held b (reached_by x to) holds) is first

  module _ (a b c : Spanning G) (from to at : ℕ) (held middle holds : Option (List ℕ)) (t : Tried) (is : t ≡ TooFew at) (first : Leads calls cap servers a from held b (reached_by t to) middle) where
    first_to : Leads calls cap servers a from held b at middle
    first_to = subst (λ (x : Tried). Leads calls cap servers a from held b (reached_by x to) middle) is first

    pub then_ok : (r : Result (Unit {0}) Failure) → OnOk r (Leads calls cap servers b at middle c to holds) → OnOk r (Leads calls cap servers a from held c to holds)
    then_ok (Ok tt) second = leads_trans a b c from at to held middle holds first_to second
    then_ok (Err f) second = tt

    pub then_err : (r : Result (Unit {0}) Failure) → IfErr r (λ f. UnlessWriter f (Stops calls cap servers b at to middle holds)) → IfErr r (λ f. UnlessWriter f (Stops calls cap servers a from to held holds))
    then_err r known = if_err_weaker r (Stops calls cap servers b at to middle holds) (Stops calls cap servers a from to held holds) (λ s. stops_after a b from at to held middle holds first_to s) known

-- from some servers, and so from all
module _ {G : Type 0} (calls : OutsideCalls G) (cap : ReadCapValue) (some all : List ℕ) (among : All (Contains all) some) (old : Spanning G) (from : ℕ) (held : Option (List ℕ)) where
  pub leads_among : (new : Spanning G) (at : ℕ) (holds : Option (List ℕ)) → Leads calls cap some old from held new at holds → Leads calls cap all old from held new at holds
  leads_among new at holds l = record {
    runs = l.runs;
    written = written_among calls cap some all among (point_at old from) (point_at new at) l.runs held holds l.written;
    one = l.one;
    stays = l.stays;
  }

  pub stops_among : (to : ℕ) (holds : Option (List ℕ)) → Stops calls cap some old from to held holds → Stops calls cap all old from to held holds
  stops_among to holds s = record {
    mid = s.mid;
    at = s.at;
    middle = s.middle;
    leads = leads_among s.mid s.at s.middle s.leads;
    last = s.last;
    few = s.few;
    after = s.after;
    written = written_among calls cap some all among (point_at s.mid s.at) s.after s.last s.middle holds s.written;
    within = s.within;
  }

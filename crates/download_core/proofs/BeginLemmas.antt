-- How a download begins.
use Rattle.std.proofs.Common.{◌≡◌, ◌≢◌, ℕ, ◌+◌, Bool, true, false, cond, ◌<◌, ◌≤◌, inl, inr, List, [], ◌∷◌, Option, Some, None, length, refl, sym, ap, subst, ◌∙◌, arith}
use Rattle.std.specs.Prelude.{slice_get}
use Rattle.std.specs.Prelude.{◌==◌, nat_eq}
use Rattle.std.specs.List.{IsDistinct}
use Rattle.std.proofs.lemmas.Bool.{cases_lt, eqb-true}
use Rattle.cap_text.specs.Cap.{ReadCapValue, verify_cap_of}
use Rattle.request_record.specs.declared.requests.Asked.TheVariants.{Holdings}
use Rattle.request_record.specs.declared.requests.Request.{Request}
use Rattle.request_record.specs.Record.{RequestsState, asked_all, asked_more, first_request, outstanding_count}
use Rattle.request_record.specs.Asking.{asks_of, begun, fresh}
use Rattle.request_record.proofs.RecordLaws.{count_push}
use Rattle.download_shares.specs.Left.{FewAreLeft}
use Rattle.download_shares.specs.Opening.{nobody}
use Rattle.download_core.specs.declared.state.FoundFile.{FoundFile}
use Rattle.download_core.specs.declared.state.Machine.{Machine}
use Rattle.download_core.specs.declared.status.DownloadStatus.{DownloadStatus}
use Rattle.download_core.specs.declared.status.DownloadStatus.TheVariants.{Running, Done, NotEnoughShares, Inconsistent}
use Rattle.download_core.specs.Given.{IsFileIfFound}
use Rattle.download_core.specs.Moves.{Begins, asked_servers}
use Rattle.download_shares.specs.declared.holding.Blame.{Blame}
use Rattle.download_core.specs.Reads.{ReadsBeside}
use Rattle.download_core.specs.Steps.{AreOpened, IsComplete, IsFair, IsInPhase, IsKept, IsUnderWay, entries_of, found_of, state_of}
use Rattle.download_core.proofs.ReadLemmas.{opened_reads}

count_asks : (servers : List ℕ) (r : RequestsState) → outstanding_count (asked_all (asks_of servers) r).entries ≡ outstanding_count r.entries + length servers
count_asks [] r = omega arith
count_asks (s ∷ ss) r = omega (arith, count_asks ss (asked_more s Holdings r), count_push r.entries (first_request s Holdings r.clock))

begun_counts : (servers : List ℕ) (session now : ℕ) → outstanding_count (begun servers session now).entries ≡ length servers
begun_counts servers session now = (let c = count_asks servers (fresh session now) in omega (arith, c))

begun_waits : (servers : List ℕ) (session now : ℕ) → (servers ≡ [] → ⊥) → 0 < outstanding_count (begun servers session now).entries
begun_waits [] session now some = absurd (some refl)
begun_waits (s ∷ ss) session now some = (let c = begun_counts (s ∷ ss) session now in omega (arith, c))

-- a status that a download may begin with
pub record BeginsAs (from to : ℕ) (servers : List ℕ) (status : DownloadStatus) : Type 0 where
  pub done : status ≡ Done → from ≡ to
  pub runs : status ≡ Running → (from ≢ to) × (servers ≢ [])
  pub few : status ≡ NotEnoughShares → servers ≡ []
  pub same : status ≢ Inconsistent

module _ (m : Machine) (servers : List ℕ) (session now : ℕ) (status : DownloadStatus) (verify : m.verify ≡ verify_cap_of m.cap) (ordered : m.from ≤ m.to) (inside : m.to ≤ m.cap.size) (needed : 0 < m.cap.needed)
    (asks : m.beginnings.holdings.requests ≡ begun servers session now) (blamed : m.beginnings.holdings.blamed ≡ []) (opened : AreOpened m.cap.total nobody m.beginnings) (is : m.found ≡ None) (begins : BeginsAs m.from m.to servers status) where
  no_file : IsFileIfFound m.cap m.from m.to (entries_of m) (found_of m.found)
  no_file = subst (λ (f : Option FoundFile). IsFileIfFound m.cap m.from m.to (entries_of m) (found_of f)) (sym is) tt

  nothing : servers ≡ [] → outstanding_count (entries_of m) ≡ 0
  nothing none = ap (λ (r : RequestsState). outstanding_count r.entries) asks ∙ begun_counts servers session now ∙ ap length none

  begun_few : servers ≡ [] → FewAreLeft m.cap.needed m.cap.total (entries_of m) m.beginnings.holdings.blamed
  begun_few none =
      let empty : entries_of m ≡ [] = ap (λ (r : RequestsState). r.entries) asks ∙ ap (λ (l : List ℕ). (begun l session now).entries) none in
      record {
        numbers = [];
        few = needed;
        all = λ server share below offered left. (let two : None ≡ Some offered.request = sym (ap (λ (es : List Request). slice_get es offered.position) empty) ∙ offered.there in absurd cc);
      }

  way : m.from ≢ m.to → IsUnderWay m
  way some = record {
    wanted = record { verify = verify; some = below m.from m.to ordered some; inside = inside };
    file = no_file;
    phase = subst (λ (f : Option FoundFile). IsInPhase m.cap.total m.beginnings f) (sym is) opened;
  }
    where
      below : (a b : ℕ) → a ≤ b → (a ≡ b → ⊥) → a < b
      below a b le other = elim (cases_lt a b) [
        | inl lt ↦ lt
        | inr ge ↦ absurd (other (omega (arith, le, ge)))
      ]

  pub kept_begun : IsKept m status
  kept_begun = record {
    verify = verify;
    ordered = ordered;
    inside = inside;
    file = no_file;
    way = λ e. way (begins.runs e).0;
    fair = subst (λ (f : Option FoundFile). IsFair (verify_cap_of m.cap) m.beginnings (found_of f)) (sym is) (record {
      causes = λ i b there. (let two : None ≡ Some b = ap (λ (l : List Blame). slice_get l i) (sym blamed) ∙ there in absurd cc);
      reads = opened_reads m.cap.total m.beginnings opened;
    });
    beside = λ ok. subst (λ (f : Option FoundFile). ReadsBeside (entries_of m) m.beginnings.holdings.blamed (found_of f)) (sym is) tt;
    done = λ e. subst (λ (f : Option FoundFile). IsComplete m.from m.to f) (sym is) (begins.done e);
    works = λ e. subst (λ (r : RequestsState). 0 < outstanding_count r.entries) (sym asks) (begun_waits servers session now (begins.runs e).1);
    few = λ e. record { quiet = nothing (begins.few e); few = begun_few (begins.few e) };
    inconsistent = λ e. absurd (begins.same e);
  }

-- the servers that are asked are distinct
pub distinct_asked : (from to : ℕ) (servers : List ℕ) → IsDistinct nat_eq servers → IsDistinct nat_eq (asked_servers from to servers)
unfolding IsDistinct
distinct_asked from to servers d = by (from == to)
  where
    by : (b : Bool) → IsDistinct nat_eq (cond b [] servers)
    by true = tt
    by false = d

pub begins_as : (from to : ℕ) (servers : List ℕ) (status : DownloadStatus) → (status ≡ Done → from ≡ to) → (status ≡ Running → (from ≢ to) × (servers ≢ []))
    → (status ≡ NotEnoughShares → servers ≡ []) → status ≢ Inconsistent → BeginsAs from to (asked_servers from to servers) status
begins_as from to servers status is_done is_running is_alone others = record {
  done = is_done;
  runs = λ e. (let k = is_running e in (k.0, λ none. some (from == to) refl k.0 k.1 none));
  few = λ e. few (from == to) (is_alone e);
  same = others;
}
  where
    some : (b : Bool) → (from == to) ≡ b → from ≢ to → servers ≢ [] → cond b [] servers ≡ [] → ⊥
    some true at other kept none = other (eqb-true from to at)
    some false at other kept none = kept none

    few : (b : Bool) → servers ≡ [] → cond b [] servers ≡ []
    few true e = refl
    few false e = e

pub begins_by : (m : Machine) (cap : ReadCapValue) (from to : ℕ) (servers : List ℕ) (session now : ℕ) (status : DownloadStatus) → m.cap ≡ cap → m.from ≡ from → m.to ≡ to
    → m.beginnings.holdings.requests ≡ begun (asked_servers from to servers) session now → m.beginnings.holdings.blamed ≡ [] → m.found ≡ None
    → (from ≡ to → status ≡ Done) → (from ≢ to → servers ≢ [] → status ≡ Running) → (from ≢ to → servers ≡ [] → status ≡ NotEnoughShares) → Begins cap from to servers session now (state_of m servers status)
begins_by m cap from to servers session now status cap-is from-is to-is asks blamed is done runs alone = record {
  of_cap = cap-is;
  range = (from-is, to-is);
  of_servers = refl;
  asks = asks;
  nothing = (ap found_of is, blamed);
  done = done;
  runs = runs;
  alone = alone;
}

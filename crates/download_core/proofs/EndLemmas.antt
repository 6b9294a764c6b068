-- What is kept of each download, and what holds of it.
use Rattle.std.proofs.Common.{◌≡◌, ◌≢◌, ℕ, ◌<◌, ◌≤◌, ◌⊎◌, All, List, Option, Some, None, refl, sym, ap, subst, ◌∙◌, arith}
use Rattle.cap_text.specs.Cap.{ReadCapValue, verify_cap_of}
use Rattle.request_record.specs.declared.requests.Request.{Request}
use Rattle.request_record.specs.Record.{IsRecord, outstanding_count}
use Rattle.request_record.specs.Asking.{AsksOnce}
use Rattle.download_shares.specs.Left.{FewAreLeft}
use Rattle.download_shares.specs.declared.holding.Blame.{Blame}
use Rattle.download_shares.specs.Causes.{AddsBlames}
use Rattle.download_shares.specs.Opening.{nobody}
use Rattle.download_shares.specs.BeginningState.{BeginningsState}
use Rattle.share_layout.specs.Geometry.{Geometry}
use Rattle.download_shares.specs.Numbers.{read_count}
use Rattle.download_shares.specs.Table.{NoneIsFree}
use Rattle.download_file.specs.State as file
use Rattle.download_segments.specs.NoCodeWord.{IsNoCodeWord}
use Rattle.download_file.specs.Making.{IsInconsistent}
use Rattle.download_core.specs.Reading.{AreReading}
use Rattle.download_core.specs.ReadingState.{ReadingState}
use Rattle.download_core.specs.ReadingSteps.{Continues, IsAtEnd}
use Rattle.download_core.specs.declared.file_reading.Settled.{Settled}
use Rattle.download_core.specs.declared.file_reading.Settled.TheVariants as settled
use Rattle.download_segments.specs.Pieces.{AreConsecutive, IsGiven}
use Rattle.download_core.specs.declared.state.FoundFile.{FoundFile}
use Rattle.download_core.specs.declared.state.Machine.{Machine}
use Rattle.download_core.specs.declared.status.DownloadStatus.{DownloadStatus}
use Rattle.download_core.specs.declared.status.DownloadStatus.TheVariants.{Running, Done, NotEnoughShares, Inconsistent, Failed}
use Rattle.download_core.specs.Causes.{IsCause}
use Rattle.download_core.specs.Given.{GivenIsProved, IsFileIfFound, IsRightIfFound}
use Rattle.download_core.specs.Reads.{AsksOrReads, ReadsBeside}
use Rattle.download_core.specs.Right.{IsRight}
use Rattle.download_core.specs.State.{accepted_in, handed_in, ready_in}
use Rattle.download_core.specs.Steps.{AllIsFair, AreOpened, EndsAs, IsComplete, IsFor, IsInPhase, IsKept, IsTooFew, IsUnderWay, MovesOn, entries_of, found_of, state_of, status_of}
use Rattle.download_core.proofs.FewLemmas.{few_opened}
use Rattle.download_core.proofs.Going.{opened_on, read_on}
use Rattle.download_core.proofs.ReadLemmas.{beside_stays, reading_beside}
use Rattle.download_core.proofs.FairLemmas.{fair_goes}
use Rattle.download_core.proofs.Records.{GoesFrom, file_stays, no_code_stays}

-- ---- what holds of each download

abbrev end_of : ℕ → Option FoundFile → ℕ
end_of from None = from
end_of from (Some f) = f.reading.file.handout.reached

module _ (m : Machine) (servers : List ℕ) (status : DownloadStatus) (k : IsKept m status) (asks : AsksOrReads (entries_of m)) (once : AsksOnce (entries_of m)) (recorded : IsRecord m.beginnings.holdings.requests) (right : IsRightIfFound (found_of m.found)) where
  consecutive : (f : Option FoundFile) → IsRightIfFound (found_of f) → AreConsecutive (handed_in m.from (found_of f)) (ready_in (found_of f)) (end_of m.from f)
  consecutive None r = refl
  consecutive (Some f) r = r.handout.consecutive

  within : (f : Option FoundFile) → IsRightIfFound (found_of f) → IsFileIfFound m.cap m.from m.to (entries_of m) (found_of f) → end_of m.from f ≤ m.to
  within None r o = k.ordered
  within (Some f) r o = (let w = r.handout.within in let e = o.to_is in omega (arith, w, e))

  given : (f : Option FoundFile) → m.found ≡ f → IsRightIfFound (found_of f) → IsFileIfFound m.cap m.from m.to (entries_of m) (found_of f) → GivenIsProved (state_of m servers status) (accepted_in (found_of m.found))
  given None e r o = subst (λ (g : Option FoundFile). GivenIsProved (state_of (record m { found = g }) servers status) (accepted_in (found_of g))) (sym e) refl
  given (Some f) e r o =
      subst (λ (g : Option FoundFile). GivenIsProved (state_of (record m { found = g }) servers status) (accepted_in (found_of g))) (sym e)
      (f.reading.file.handout.ueb, o.head, subst (λ (key : List ℕ). All (IsGiven key f.reading.file.handout.ueb) f.reading.file.handout.ready) o.key r.handout.given)

  done : (f : Option FoundFile) → IsFileIfFound m.cap m.from m.to (entries_of m) (found_of f) → IsComplete m.from m.to f → end_of m.from f ≡ m.to
  done None o e = e
  done (Some f) o e = e ∙ o.to_is

  pub right_of : IsRight (state_of m servers status)
  right_of = record {
    end = end_of m.from m.found;
    consecutive = consecutive m.found right;
    within = within m.found right k.file;
    proved = given m.found refl right k.file;
    file = k.file;
    made = right;
    done = λ e. done m.found k.file (k.done e);
    works = k.works;
    few = λ e. (let w = k.few e in record { quiet = w.quiet; few = w.few });
    inconsistent = k.inconsistent;
    asks = asks;
    once = once;
    recorded = recorded;
    reads = k.fair.reads;
    beside = k.beside;
    causes = k.fair.causes;
  }

-- ---- what is kept

failed_running : Failed ≡ Running → ⊥
failed_running e = cc

failed_done : Failed ≡ Done → ⊥
failed_done e = cc

failed_few : Failed ≡ NotEnoughShares → ⊥
failed_few e = cc

failed_other : Failed ≡ Inconsistent → ⊥
failed_other e = cc

phase_beside : (total : ℕ) (s : BeginningsState) (f : Option FoundFile) → IsInPhase total s f → ReadsBeside s.holdings.requests.entries s.holdings.blamed (found_of f)
phase_beside total s None k = tt
phase_beside total s (Some f) k = reading_beside s f.position f.reading k.linked.kept

-- a download that ran stands so
pub kept_ends : (m : Machine) (status : DownloadStatus) → AllIsFair m → EndsAs m status → IsKept m status
kept_ends m status fair e = record {
  verify = e.way.wanted.verify;
  ordered = (let lt = e.way.wanted.some in omega (arith, lt));
  inside = e.way.wanted.inside;
  file = e.way.file;
  way = λ is. e.way;
  fair = fair;
  beside = λ other. phase_beside m.cap.total m.beginnings m.found e.way.phase;
  done = e.done;
  works = e.works;
  few = e.few;
  inconsistent = e.inconsistent;
}

-- a download runs on only where its file waits
pub runs_waits : (how : Settled) → status_of how ≡ Running → how ≡ settled.Waits
runs_waits settled.Complete e = absurd cc
runs_waits settled.Inconsistent e = absurd cc
runs_waits settled.Waits e = refl
runs_waits settled.TooFew e = absurd cc

-- ---- a file is read

module _ (m : Machine) (f : FoundFile) (t : BeginningsState) (r : ReadingState) (is : m.found ≡ Some f) (way : IsUnderWay m) (on : Continues m.beginnings f.reading t r)
    (blames : AddsBlames (IsCause (verify_cap_of m.cap) t.holdings.requests.entries (found_of (Some (record f { reading = r })))) m.beginnings.holdings.blamed t.holdings.blamed) (reading : AreReading t r) where
  abbrev pub read_machine : Machine
  read_machine = record m { beginnings = t; found = Some (record f { reading = r }) }

  settled_way : IsUnderWay read_machine
  settled_way = read_on m f t r is way.wanted way.file on blames reading

  -- the numbers of the file are the cap's
  needed_is : r.file.handout.geometry.needed ≡ m.cap.needed
  needed_is = ap (λ (g : Geometry). g.needed) reading.linked.kept.right.handout.geometry ∙ settled_way.file.head.block.needed

  total_is : r.file.handout.geometry.total ≡ m.cap.total
  total_is = ap (λ (g : Geometry). g.total) reading.linked.kept.right.handout.geometry ∙ settled_way.file.head.block.total

  too_few : IsAtEnd t r → IsTooFew read_machine
  too_few e = record {
    quiet = e.idle;
    few = subst (λ (n : ℕ). FewAreLeft n m.cap.total t.holdings.requests.entries t.holdings.blamed) needed_is
        (subst (λ (n : ℕ). FewAreLeft r.file.handout.geometry.needed n t.holdings.requests.entries t.holdings.blamed) total_is e.few);
  }

  pub settled_ends : (how : Settled) → (how ≡ settled.Complete → file.IsComplete r.file) → (how ≡ settled.Inconsistent → IsInconsistent t.holdings.requests.entries r.file × IsNoCodeWord r.file.handout.ueb)
      → (how ≡ settled.Waits → 0 < outstanding_count t.holdings.requests.entries) → (how ≡ settled.TooFew → IsAtEnd t r) → EndsAs read_machine (status_of how)
  settled_ends settled.Complete complete inconsistent waits few = record { way = settled_way; done = λ e. complete refl; works = λ e. absurd cc; few = λ e. absurd cc; inconsistent = λ e. absurd cc }
  settled_ends settled.Inconsistent complete inconsistent waits few = record { way = settled_way; done = λ e. absurd cc; works = λ e. absurd cc; few = λ e. absurd cc; inconsistent = λ e. inconsistent refl }
  settled_ends settled.Waits complete inconsistent waits few = record { way = settled_way; done = λ e. absurd cc; works = λ e. waits refl; few = λ e. absurd cc; inconsistent = λ e. absurd cc }
  settled_ends settled.TooFew complete inconsistent waits few = record { way = settled_way; done = λ e. absurd cc; works = λ e. absurd cc; few = λ e. too_few (few refl); inconsistent = λ e. absurd cc }

-- ---- shares are opened

module _ (m : Machine) (is : m.found ≡ None) (wanted : IsFor m) (opened : AreOpened m.cap.total nobody m.beginnings) where
  opening_way : IsUnderWay m
  opening_way = opened_on m m.beginnings is wanted opened

  pub opening_runs : 0 < outstanding_count (entries_of m) → EndsAs m Running
  opening_runs waits = record { way = opening_way; done = λ e. absurd cc; works = λ e. waits; few = λ e. absurd cc; inconsistent = λ e. absurd cc }

  pub opening_few : 0 < m.cap.needed → outstanding_count (entries_of m) ≡ 0 → (0 < read_count m.beginnings.holdings.table.numbers) ⊎ NoneIsFree m.beginnings.holdings.table → EndsAs m NotEnoughShares
  opening_few some idle enough = record {
    way = opening_way;
    done = λ e. absurd cc;
    works = λ e. absurd cc;
    few = λ e. record { quiet = idle; few = few_opened m.cap.total m.cap.needed m.beginnings opened some idle enough };
    inconsistent = λ e. absurd cc;
  }

-- no memory was found
module _ (m : Machine) (status : DownloadStatus) (t : BeginningsState) (k : IsKept m status) (goes : GoesFrom (entries_of m) t.holdings.requests.entries) (blamed : t.holdings.blamed ≡ m.beginnings.holdings.blamed) where
  pub fair_still : AllIsFair (record m { beginnings = t })
  fair_still = fair_goes (verify_cap_of m.cap) m.beginnings t (found_of m.found) goes blamed k.fair

  pub kept_fails : (n : Machine) → MovesOn (record m { beginnings = t }) n → IsKept n Failed
  kept_fails n on = record {
    verify = on.verify ∙ k.verify ∙ ap verify_cap_of (sym on.cap);
    ordered = (let le = k.ordered in let f = on.from_is in let t = on.to_is in omega (arith, le, f, t));
    inside = subst (λ (c : ReadCapValue). n.to ≤ c.size) (sym on.cap) (let le = k.inside in let t = on.to_is in omega (arith, le, t));
    file = on.file (file_stays m.cap m.from m.to (entries_of m) t.holdings.requests.entries (found_of m.found) goes.stays k.file);
    way = λ e. absurd (failed_running e);
    fair = on.fair fair_still;
    beside = λ other. absurd (other refl);
    done = λ e. absurd (failed_done e);
    works = λ e. absurd (failed_running e);
    few = λ e. absurd (failed_few e);
    inconsistent = λ e. absurd (failed_other e);
  }

  -- one that ended stays so
  pub kept_still : status ≢ Running → IsKept (record m { beginnings = t }) status
  kept_still ended = record {
    verify = k.verify;
    ordered = k.ordered;
    inside = k.inside;
    file = file_stays m.cap m.from m.to (entries_of m) t.holdings.requests.entries (found_of m.found) goes.stays k.file;
    way = λ e. absurd (ended e);
    fair = fair_still;
    beside = λ ok. subst (λ (b : List Blame). ReadsBeside t.holdings.requests.entries b (found_of m.found)) (sym blamed)
        (beside_stays (entries_of m) t.holdings.requests.entries m.beginnings.holdings.blamed (found_of m.found) goes (k.beside ok));
    done = k.done;
    works = λ e. absurd (ended e);
    few = λ e. few (k.few e);
    inconsistent = λ e. no_code_stays m.cap m.from m.to (entries_of m) t.holdings.requests.entries (found_of m.found) goes.stays k.file (k.inconsistent e);
  }
    where
      quiet : outstanding_count (entries_of m) ≡ 0 → outstanding_count t.holdings.requests.entries ≡ 0
      quiet none = ap (λ (es : List Request). outstanding_count es) (goes.quiet none) ∙ none

      few : IsTooFew m → IsTooFew (record m { beginnings = t })
      few w = record {
        quiet = quiet w.quiet;
        few = subst (λ (es : List Request). FewAreLeft m.cap.needed m.cap.total es t.holdings.blamed) (sym (goes.quiet w.quiet))
            (subst (λ (b : List Blame). FewAreLeft m.cap.needed m.cap.total (entries_of m) b) (sym blamed) w.few);
      }

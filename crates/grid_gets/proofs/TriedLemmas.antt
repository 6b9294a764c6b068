-- One download of a span.
use Rattle.std.proofs.Common.{◌≡◌, ℕ, ◌+◌, ◌-◌, ◌^◌, ◌<◌, ◌≤◌, min, List, [], ◌∷◌, length, Option, Result, Ok, Err, IfOk, IfErr, refl, sym, ap, subst, ◌∙◌, arith}
use Rattle.std.proofs.Common.{nat_eq}
use Rattle.std.specs.Io.KnownBytes.{Appends}
use Rattle.std.specs.List.{IsDistinct}
use Rattle.std.proofs.lemmas.List.Elements.{All-contains_itself, All-nil, All-push}
use Rattle.cap_text.specs.Cap.{ReadCapValue}
use Rattle.download_segments.specs.Pieces.{AreConsecutive}
use Rattle.download_segments.specs.declared.piece.Piece.{Piece}
use Rattle.download_file.specs.Whole.{joined}
use Rattle.download_core.specs.Moves.{Begins}
use Rattle.download_core.specs.State.{DownloadState, handed, ready}
use Rattle.download_core.specs.declared.status.DownloadStatus.{DownloadStatus}
use Rattle.download_core.specs.declared.status.DownloadStatus.TheVariants as downloads
use Rattle.local_grid.specs.Outside.{OutsideCalls}
use Rattle.carried_operations.specs.Written.{IsCarried, IsWritten, UnlessWriterFailed, capped}
use Rattle.carried_operations.specs.declared.downloads.Carried.{Carried}
use Rattle.carried_operations.specs.declared.downloads.CutShort.{CutShort}
use Rattle.carried_operations.specs.declared.downloads.CutShort.TheVariants as cuts
use Rattle.grid_faults.specs.declared.fault.Fault.TheVariants as faults
use Rattle.grid_rules.specs.Ending.{end_of_download}
use Rattle.grid_telling.specs.declared.outcome.Failure.{Failure}
use Rattle.grid_telling.specs.declared.outcome.Failure.TheVariants as failures
use Rattle.grid_gets.specs.Gets.{AcceptsOnly, IsRun, Point, Run, UnlessWriter}
use Rattle.grid_gets.specs.Spans.{EndsWith, Leads, Spanning, StaysBlock, Stops, point_at, reached_by}
use Rattle.grid_gets.specs.declared.tried.Tried.{Tried}
use Rattle.grid_gets.specs.declared.tried.Tried.TheVariants.{Done, TooFew}
use Rattle.grid_gets.proofs.RunLemmas.{written_one}
use Rattle.grid_gets.proofs.SpanLemmas.{leads_none}

-- only a download that is done has no fault
pub done_by : (status : DownloadStatus) → end_of_download status ≡ Ok tt → status ≡ downloads.Done
done_by downloads.Running e = absurd (let no : Err faults.TurnLimit ≡ Ok tt = e in cc)
done_by downloads.Done e = refl
done_by downloads.NotEnoughShares e = absurd (let no : Err faults.NotEnoughShares ≡ Ok tt = e in cc)
done_by downloads.Inconsistent e = absurd (let no : Err faults.Inconsistent ≡ Ok tt = e in cc)
done_by downloads.Failed e = absurd (let no : Err faults.OutOfMemory ≡ Ok tt = e in cc)

-- pieces lead on
leads_up : (from : ℕ) (ps : List Piece) (end : ℕ) → AreConsecutive from ps end → from ≤ end
leads_up from [] end c = let same : from ≡ end = c in omega (arith, same)
leads_up from (p ∷ ps) end c = let rest : from + length p.bytes ≤ end = leads_up (from + length p.bytes) ps end c.2 in omega (arith, rest)

module _ {G : Type 0} (calls : OutsideCalls G) (cap : ReadCapValue) (old : Spanning G) (servers : List ℕ) (from to : ℕ) (begun : DownloadState) (c : Carried) (grid : G) (held holds : Option (List ℕ))
    (distinct : IsDistinct nat_eq servers) (begins : Begins cap from to servers old.session (calls.clock old.grid) begun) (fits : to < 2 ^ 64) (w : IsWritten calls begun old.grid held c grid holds) where
  -- it gave nothing behind the end of the span
  within : handed w.reached ≤ to
  within =
      let right = w.carried.right in
      let up : handed w.reached ≤ right.end = leads_up (handed w.reached) (ready w.reached) right.end right.consecutive in
      omega (arith, up, right.within, w.carried.to, begins.range.1)

  abbrev pub run_to : Point G → Run G
  run_to after = record { servers = servers; to = to; begun = begun; ended = w.reached; pieces = w.pieces; after = after }

  is_run : (after : Point G) → after.grid ≡ w.outside → after.offset ≡ handed w.reached → after.session ≡ capped (old.session + 1) → IsRun calls cap servers (point_at old from) (run_to after)
  is_run after same offset session = record {
    asked = All-contains_itself servers;
    distinct = distinct;
    begins = begins;
    carried = subst (λ (g : G). IsCarried calls begun old.grid w.pieces w.reached g) (sym same) w.carried;
    offset = offset;
    session = session;
  }

  -- where it came to
  came_to : (tried : Tried) → c.ended ≡ Ok tt → EndsWith c tried → reached_by tried to ≡ handed w.reached
  came_to Done ok e =
      let done = w.done ok in
      let right = w.carried.right in
      let end : right.end ≡ w.reached.to = right.done (ap (λ (d : DownloadState). d.status) done.download_is ∙ e) in
      let all : handed w.reached ≡ right.end = subst (λ (ps : List Piece). AreConsecutive (handed w.reached) ps right.end) done.all right.consecutive in
      sym (all ∙ end ∙ w.carried.to ∙ begins.range.1)
  came_to (TooFew at) ok e =
      let done = w.done ok in
      let fit : handed w.reached ≤ to = within in
      let same : at ≡ min (handed w.reached) (2 ^ 64 - 1) = e ∙ done.offset_is in
      omega (arith, fits, fit, same)

  pub tried_within : (tried : Tried) → c.ended ≡ Ok tt → EndsWith c tried → reached_by tried to ≤ to
  tried_within tried ok e = let at = came_to tried ok e in let fit : handed w.reached ≤ to = within in omega (arith, at, fit)

  -- one that was carried as far as it goes
  pub tried_leads : (tried : Tried) (new : Spanning G) → c.ended ≡ Ok tt → EndsWith c tried → new.session ≡ capped (old.session + 1) → new.grid ≡ grid → StaysBlock old.block new.block → AcceptsOnly new.block c.download
      → Leads calls cap servers old from held new (reached_by tried to) holds
  tried_leads tried new ok e session same stays accepts =
      let done = w.done ok in
      let after : Point G = point_at new (reached_by tried to) in
      let added : Appends held holds (joined w.pieces) = subst (λ (r : Result (Unit {0}) CutShort). UnlessWriterFailed r (Appends held holds (joined w.pieces))) ok w.written in
      record {
        runs = run_to after ∷ [];
        written = written_one calls cap servers (point_at old from) (run_to after) held holds (is_run after (same ∙ sym done.outside_is) (came_to tried ok e) session) added;
        one = All-push (λ (r : Run G). AcceptsOnly new.block r.ended) [] (run_to after) (All-nil (λ (r : Run G). AcceptsOnly new.block r.ended))
            (subst (λ (d : DownloadState). AcceptsOnly new.block d) (sym done.download_is) accepts);
        stays = stays;
      }

  -- one that may have been cut short, but not by its writer
  stops_by : UnlessWriterFailed c.ended (Appends held holds (joined w.pieces)) → (c.ended ≡ Err cuts.Writer → ⊥) → Stops calls cap servers old from to held holds
  stops_by known not_writer =
      let after : Point G = record { offset = handed w.reached; session = capped (old.session + 1); grid = w.outside } in
      record {
        mid = old;
        at = from;
        middle = held;
        leads = leads_none calls cap servers old from held;
        last = run_to after ∷ [];
        few = omega arith;
        after = after;
        written = written_one calls cap servers (point_at old from) (run_to after) held holds (is_run after refl refl refl) (added c.ended refl known);
        within = within;
      }
    where
      added : (r : Result (Unit {0}) CutShort) → c.ended ≡ r → UnlessWriterFailed r (Appends held holds (joined w.pieces)) → Appends held holds (joined w.pieces)
      added (Ok tt) is known = known
      added (Err (cuts.Loop error)) is known = known
      added (Err cuts.Writer) is known = absurd (not_writer is)

  -- how it ended
  pub tried_err : (r : Result Tried Failure) → (c.ended ≡ Err cuts.Writer → r ≡ Err failures.Writer) → IfErr r (λ f. UnlessWriter f (Stops calls cap servers old from to held holds))
  tried_err (Ok tried) writer = tt
  tried_err (Err failures.Writer) writer = tt
  tried_err (Err (failures.Fault fault)) writer = stops_by w.written (λ is. let no : Err (failures.Fault fault) ≡ Err failures.Writer = writer is in cc)

  pub tried_ok : (r : Result Tried Failure) (mid new : Spanning G) → mid.session ≡ capped (old.session + 1) → mid.grid ≡ grid → mid.block ≡ old.block
      → IfOk r (λ tried. (c.ended ≡ Ok tt) × EndsWith c tried) → IfOk r (λ _. new ≡ record mid { block = new.block }) → IfOk r (λ _. StaysBlock mid.block new.block)
      → IfOk r (λ _. AcceptsOnly new.block c.download) → IfOk r (λ tried. Leads calls cap servers old from held new (reached_by tried to) holds)
  tried_ok (Ok tried) mid new session same block ended others stays accepts =
      tried_leads tried new ended.0 ended.1 (ap (λ (s : Spanning G). s.session) others ∙ session) (ap (λ (s : Spanning G). s.grid) others ∙ same) (subst (λ (b : Option (List ℕ)). StaysBlock b new.block) block stays) accepts
  tried_ok (Err f) mid new session same block ended others stays accepts = tt

  pub tried_ok_within : (r : Result Tried Failure) → IfOk r (λ tried. (c.ended ≡ Ok tt) × EndsWith c tried) → IfOk r (λ tried. reached_by tried to ≤ to)
  tried_ok_within (Ok tried) ended = tried_within tried ended.0 ended.1
  tried_ok_within (Err f) ended = tt

-- A download that is carried, turn after turn, and its bytes written.
use Rattle.std.proofs.Common.{◌≡◌, ℕ, ◌+◌, ◌^◌, ◌<◌, List, [], ◌∷◌, ◌++◌, length, Option, Some, None, Result, Ok, Err, OnOk, IfErr, refl, sym, ap, subst, inl, inr, ◌∙◌, append_assoc, arith}
use Rattle.std.specs.Prelude.{slice_get}
use Rattle.std.specs.Io.KnownBytes.{Appends, Keeps}
use Rattle.std.proofs.KnownBytes.{Appends-nil, Appends-trans}
use Rattle.std.proofs.lemmas.List.Elements.{All-append, All-nil, All-weaker}
use Rattle.wire.specs.declared.message.Body.{Body}
use Rattle.request_record.specs.declared.requests.Outcome.TheVariants.{Answered}
use Rattle.request_record.specs.declared.requests.Request.{Request}
use Rattle.request_record.specs.Asking.{asks_of, fresh}
use Rattle.request_record.specs.Follow.{Follows, Nothing, WasAnswered}
use Rattle.request_record.specs.Record.{RequestsState}
use Rattle.request_record.proofs.FollowLaws.{follows_asks}
use Rattle.download_segments.specs.Pieces.{AreConsecutive}
use Rattle.download_segments.specs.declared.piece.Piece.{Piece}
use Rattle.download_file.specs.Whole.{joined}
use Rattle.download_core.specs.Hashed.{IsGivenBy}
use Rattle.download_core.specs.Moves.{asked_servers}
use Rattle.download_core.specs.Right.{IsRight}
use Rattle.download_core.specs.State.{DownloadState, Found, handed, handed_in, ready_in}
use Rattle.local_grid.specs.declared.error.LoopError.TheVariants.{TurnLimit}
use Rattle.local_grid.specs.Turns.{Course}
use Rattle.local_grid.specs.Outside.{OutsideCalls}
use Rattle.local_grid.specs.OutsideTurns.{LoopState, Turns}
use Rattle.local_grid.proofs.CourseLaws.{course_more}
use Rattle.carried_operations.specs.Came.{Came}
use Rattle.carried_operations.proofs.Runs.{course_goes, follows_both, follows_wider}
use Rattle.carried_operations.specs.Written.{HasBegun, IsCarried, IsWritten, TurnsAndWrites, UnlessWriter, UnlessWriterFailed, capped}
use Rattle.carried_operations.specs.Handing.{handing_calls}
use Rattle.carried_operations.specs.declared.downloads.Carried.{Carried}
use Rattle.carried_operations.specs.declared.downloads.CutShort.{CutShort}
use Rattle.carried_operations.specs.declared.downloads.CutShort.TheVariants.{Loop, Writer}
use Rattle.carried_operations.proofs.Handed.{Continues, downloads_go_on}

-- ---- lists of pieces

pub consecutive_more : (from mid end : ℕ) (ps qs : List Piece) → AreConsecutive from ps mid → AreConsecutive mid qs end → AreConsecutive from (ps ++ qs) end
consecutive_more from mid end [] qs first second = subst (λ (n : ℕ). AreConsecutive n qs end) (sym first) second
consecutive_more from mid end (p ∷ ps) qs first second = (first.0, first.1, consecutive_more (from + length p.bytes) mid end ps qs first.2 second)

pub joined_more : (ps qs : List Piece) → joined (ps ++ qs) ≡ joined ps ++ joined qs
joined_more [] qs = refl
joined_more (p ∷ ps) qs = ap (λ (l : List ℕ). p.bytes ++ l) (joined_more ps qs) ∙ sym (append_assoc p.bytes (joined ps) (joined qs))

-- known bytes grew, and stayed so
appended_kept : (a b c : Option (List ℕ)) (bytes : List ℕ) → Appends a b bytes → Keeps b c → Appends a c bytes
appended_kept None b c bytes p q = tt
appended_kept (Some x) None c bytes p q = absurd p
appended_kept (Some x) (Some y) None bytes p q = absurd q
appended_kept (Some x) (Some y) (Some z) bytes p q = q ∙ p

-- ---- answers that came

-- a download that has just begun has no answers
begun_follows : (d : DownloadState) → (b : HasBegun d) → Follows Nothing (fresh b.session b.now) d.requests
begun_follows d b =
    subst (Follows Nothing (fresh b.session b.now)) (sym b.begins.asks) (follows_asks (asks_of (asked_servers b.from b.to b.servers)) (fresh b.session b.now))

none_before : (session now position : ℕ) (r : Request) (said : Body) → WasAnswered (fresh session now).entries position r said → ⊥
none_before session now position r said w = none position w.at where
  none : (i : ℕ) → slice_get [] i ≡ Some w.request → ⊥
  none i e = cc

module _ {G : Type 0} (calls : OutsideCalls G) where
  came : (first last : LoopState DownloadState G) (states : List (LoopState DownloadState G)) → HasBegun first.operation → Course (Turns handing_calls calls) first states last
      → (position : ℕ) (r : Request) (said : Body) → slice_get last.operation.requests.entries position ≡ Some r → r.outcome ≡ Answered said
      → Came handing_calls calls first.operation.requests.session first states position r.server r.asked said
  came first last states b c position r said at o =
      let session : ℕ = first.operation.requests.session in
      let New = Came handing_calls calls session first states in
      let was : RequestsState = fresh b.session b.now in
      let goes = follows_both New was first.operation.requests last.operation.requests
      (follows_wider Nothing New was first.operation.requests (λ position server asked said n. absurd n) (begun_follows first.operation b))
      (course_goes handing_calls Continues downloads_go_on calls session first last states refl c).follows in
      elim (goes.answers position r said at o) [
        | inl w ↦ absurd (none_before b.session b.now position r said w)
        | inr n ↦ n
      ]

  -- nothing yet
  pub carried_first : (d : DownloadState) (outside : G) → HasBegun d → IsRight d → IsCarried calls d outside [] d outside
  carried_first d outside b right = record {
    states = [];
    turns = refl;
    cap = refl;
    to = refl;
    right = right;
    given = All-nil (IsGivenBy d);
    consecutive = ap (λ (f : Option Found). handed_in d.from f) (sym b.begins.nothing.0);
    came = came (record { operation = d; outside = outside }) (record { operation = d; outside = outside }) [] b refl;
  }

  -- one turn more
  pub carried_more : (begun : DownloadState) (old : G) (pieces : List Piece) (now : DownloadState) (outside : G) (new : DownloadState) (after : G) (before held : Option (List ℕ))
      → HasBegun begun → IsCarried calls begun old pieces now outside → (t : TurnsAndWrites calls (record { operation = now; outside = outside }) before (record { operation = new; outside = after }) held)
      → IsCarried calls begun old (pieces ++ t.pieces) new after
  carried_more begun old pieces now outside new after before held b c t =
      let first : LoopState DownloadState G = record { operation = begun; outside = old } in
      let mid : LoopState DownloadState G = record { operation = now; outside = outside } in
      let last : LoopState DownloadState G = record { operation = new; outside = after } in
      let turns = course_more (Turns handing_calls calls) first mid last c.states c.turns t.turn in
      let one = course_goes handing_calls Continues downloads_go_on calls now.requests.session mid last (last ∷ []) refl (t.turn, refl) in
      record {
        states = c.states ++ last ∷ [];
        turns = turns;
        cap = one.cap ∙ c.cap;
        to = one.to ∙ c.to;
        right = t.right;
        given = All-append (IsGivenBy new) pieces t.pieces (All-weaker (IsGivenBy now) (IsGivenBy new) one.given pieces c.given) t.given;
        consecutive = consecutive_more begun.from (handed now) (handed new) pieces t.pieces c.consecutive t.consecutive;
        came = came first last (c.states ++ last ∷ []) b turns;
      }

  -- before the first turn
  pub written_first : (d : DownloadState) (old : G) (held : Option (List ℕ)) (from : ℕ) → HasBegun d → IsRight d → from < 2 ^ 64 → from ≡ d.from
      → IsWritten calls d old held (record { download = d; offset = from; ended = Ok tt }) old held
  written_first d old held from b right fits same = record {
    reached = d;
    outside = old;
    pieces = [];
    carried = carried_first d old b right;
    written = Appends-nil held;
    done = λ ok. record {
      download_is = refl;
      outside_is = refl;
      all = ap ready_in b.begins.nothing.0;
      offset_is = (let whole : from ≡ capped from = omega (arith, fits) in whole) ∙ ap capped (same ∙ sym (ap (λ (f : Option Found). handed_in d.from f) b.begins.nothing.0));
    };
  }

  -- after a turn in which memory was refused the writer holds what it held
  kept_by : (cut : CutShort) (before held last : Option (List ℕ)) (bytes : List ℕ) → Appends before held bytes → UnlessWriter cut (Keeps held last) → UnlessWriter cut (Appends before last bytes)
  kept_by Writer before held last bytes known kept = tt
  kept_by (Loop error) before held last bytes known kept = appended_kept before held last bytes known kept

  -- after one turn more
  module _ (begun : DownloadState) (old : G) (before : Option (List ℕ)) (b : HasBegun begun) (c : Carried) (outside after : G) (held last : Option (List ℕ)) (w : IsWritten calls begun old before c outside held)
      (on : c.ended ≡ Ok tt) where
    known : Appends before held (joined w.pieces)
    known = subst (λ (r : Result (Unit {0}) CutShort). UnlessWriterFailed r (Appends before held (joined w.pieces))) on w.written

    was : IsCarried calls begun old w.pieces c.download outside
    was = let done = w.done on in
        subst (λ (g : G). IsCarried calls begun old w.pieces c.download g) done.outside_is
        (subst (λ (d : DownloadState). IsCarried calls begun old w.pieces d w.outside) done.download_is w.carried)

    on_err : (next : Carried) (cut : CutShort) → next.ended ≡ Err cut → UnlessWriter cut (Keeps held last) → IsWritten calls begun old before next after last
    on_err next cut e kept = record {
      reached = w.reached;
      outside = w.outside;
      pieces = w.pieces;
      carried = w.carried;
      written = subst (λ (r : Result (Unit {0}) CutShort). UnlessWriterFailed r (Appends before last (joined w.pieces))) (sym e) (kept_by cut before held last (joined w.pieces) known kept);
      done = λ ok. absurd (let no : Err cut ≡ Ok tt = sym e ∙ ok in cc);
    }

    on_ok : (next : Carried) → next.ended ≡ Ok tt → TurnsAndWrites calls (record { operation = c.download; outside = outside }) held (record { operation = next.download; outside = after }) last
        → next.offset ≡ capped (handed next.download) → IsWritten calls begun old before next after last
    on_ok next e t offset = record {
      reached = next.download;
      outside = after;
      pieces = w.pieces ++ t.pieces;
      carried = carried_more begun old w.pieces c.download outside next.download after held last b was t;
      written = subst (λ (r : Result (Unit {0}) CutShort). UnlessWriterFailed r (Appends before last (joined (w.pieces ++ t.pieces)))) (sym e)
          (subst (λ (l : List ℕ). Appends before last l) (sym (joined_more w.pieces t.pieces)) (Appends-trans before held last (joined w.pieces) (joined t.pieces) known t.added));
      done = λ ok. record { download_is = refl; outside_is = refl; all = t.all; offset_is = offset };
    }

    pub written_on : (next : Carried) → OnOk next.ended (TurnsAndWrites calls (record { operation = c.download; outside = outside }) held (record { operation = next.download; outside = after }) last)
        → OnOk next.ended (next.offset ≡ capped (handed next.download)) → IfErr next.ended (λ cut. UnlessWriter cut (Keeps held last)) → IsWritten calls begun old before next after last
    written_on next = by next.ended refl
      where
        by : (r : Result (Unit {0}) CutShort) → next.ended ≡ r → OnOk r (TurnsAndWrites calls (record { operation = c.download; outside = outside }) held (record { operation = next.download; outside = after }) last)
            → OnOk r (next.offset ≡ capped (handed next.download)) → IfErr r (λ cut. UnlessWriter cut (Keeps held last)) → IsWritten calls begun old before next after last
        by (Ok tt) e t offset kept = on_ok next e t offset
        by (Err cut) e t offset kept = on_err next cut e kept

  -- a download that took too many turns
  pub written_past : (begun : DownloadState) (old : G) (before : Option (List ℕ)) (c : Carried) (outside : G) (held : Option (List ℕ)) → IsWritten calls begun old before c outside held → c.ended ≡ Ok tt
      → IsWritten calls begun old before (record { download = c.download; offset = c.offset; ended = Err (Loop TurnLimit) }) outside held
  written_past begun old before c outside held w on = record {
    reached = w.reached;
    outside = w.outside;
    pieces = w.pieces;
    carried = w.carried;
    written = subst (λ (r : Result (Unit {0}) CutShort). UnlessWriterFailed r (Appends before held (joined w.pieces))) on w.written;
    done = λ ok. absurd (let no : Err (Loop TurnLimit) ≡ Ok tt = ok in cc);
  }

-- Turns of a download, after each of which its pieces are taken.
use Rattle.std.proofs.Common.{Result, Ok, Err, OnOk, ◌≡◌, ℕ, suc, zero, ◌≤◌, List, [], ◌∷◌, ◌++◌, length, Option, Some, None, true, sym, ap, subst, ◌∙◌, true≢false, arith}
use Rattle.wire.specs.declared.message.Message.{Message}
use Rattle.download_segments.specs.Pieces.{AreConsecutive}
use Rattle.download_segments.specs.declared.piece.Piece.{Piece}
use Rattle.download_core.specs.Calls.{download_calls, is_running}
use Rattle.download_core.specs.Moves.{found_handed}
use Rattle.download_core.specs.Sending.{Takes}
use Rattle.download_core.specs.State.{DownloadState, Found, handed, ready}
use Rattle.local_grid.specs.Turns.{Course, Hears}
use Rattle.local_grid.specs.declared.outside.Happening.{Happening}
use Rattle.local_grid.specs.declared.outside.Happening.TheVariants as happening
use Rattle.local_grid.specs.Outside.{OutsideCalls}
use Rattle.local_grid.specs.OutsideTurns.{Finishes, GoesOn, GoesPast, LoopState, Meets, Turns, TurnsOften}
use Rattle.carried_operations.specs.Written.{TurnsAndWrites, Writes, capped}
use Rattle.carried_operations.specs.declared.downloads.Carried.{Carried}
use Rattle.carried_operations.specs.declared.downloads.CutShort.{CutShort}
use Rattle.carried_operations.specs.Handing.{Hands, handing_calls}
use Rattle.carried_operations.proofs.Writing.{same_found}

-- where nothing is ready nothing is taken
none_taken : (pieces : List Piece) (old new : DownloadState) → ready old ≡ [] → Hands pieces old new → new ≡ old
none_taken [] old new none h = h.others
    ∙ ap (λ (l : List Piece). record old { found = found_handed l (handed old) old.found }) (sym h.taken)
    ∙ ap (λ (f : Option Found). record old { found = f }) (same_found old.from old.found)
none_taken (p ∷ ps) old new none h = absurd (let is : [] ≡ p ∷ (ps ++ ready new) = sym none ∙ h.taken in cc)

-- what is sent does not make pieces
sent_none : (old new : DownloadState) (taken : Option (ℕ × Message)) → Takes old taken new → ready old ≡ [] → ready new ≡ []
sent_none old new None t none = ap ready t.1 ∙ none
sent_none old new (Some f) t none = ap ready t.3 ∙ none

module _ {G : Type 0} (calls : OutsideCalls G) where
  heard : (taken : DownloadState) (node : ℕ) (answer : Option Message) (now : ℕ) (moved new : DownloadState) (pieces : List Piece) → ready taken ≡ [] → Hears download_calls taken node answer now moved
      → Hands pieces moved new → Hears handing_calls taken node answer now new
  heard taken node None now moved new pieces none h hands = none_taken pieces moved new (ap ready h ∙ none) hands ∙ h
  heard taken node (Some answer) now moved new pieces none h hands = record { moved = moved; moves_on = h; pieces = pieces; hands = hands }

  meets : (taken : DownloadState) (h : Happening) (now : ℕ) (moved new : DownloadState) (pieces : List Piece) → Meets download_calls taken h now moved → Hands pieces moved new → Meets handing_calls taken h now new
  meets taken (happening.Came from answer) now moved new pieces h hands = record { moved = moved; moves_on = h; pieces = pieces; hands = hands }
  meets taken (happening.Second second) now moved new pieces h hands = record { moved = moved; moves_on = h; pieces = pieces; hands = hands }

  goes_on : (taken : DownloadState) (outside : G) (message : Option (ℕ × Message)) (moved new : DownloadState) (after : G) (pieces : List Piece) → ready taken ≡ []
      → GoesOn download_calls calls taken outside message (record { operation = moved; outside = after }) → Hands pieces moved new
      → GoesOn handing_calls calls taken outside message (record { operation = new; outside = after })
  goes_on taken outside None moved new after pieces none g hands = (g.0, g.1, meets taken g.0 (calls.clock after) moved new pieces g.2 hands)
  goes_on taken outside (Some m) moved new after pieces none g hands = (g.0, g.1, heard taken m.0 g.0 (calls.clock after) moved new pieces none g.2 hands)

  -- a turn, and then pieces are taken
  pub turned : (old moved new : DownloadState) (outside after : G) (pieces : List Piece) → ready old ≡ []
      → Turns download_calls calls (record { operation = old; outside = outside }) (record { operation = moved; outside = after }) → Hands pieces moved new
      → Turns handing_calls calls (record { operation = old; outside = outside }) (record { operation = new; outside = after })
  turned old moved new outside after pieces none t hands = record {
    runs = t.runs;
    message = t.message;
    taken = t.taken;
    takes = t.takes;
    goes_on = goes_on t.taken outside t.message moved new after pieces (sent_none old t.taken t.message t.takes none) t.goes_on hands;
  }

  -- one turn in all
  one_turn : (first last : LoopState DownloadState G) (states : List (LoopState DownloadState G)) → length states ≡ 1 → Course (Turns download_calls calls) first states last
      → Turns download_calls calls first last
  one_turn first last [] one c = absurd (let no : 0 ≡ 1 = one in cc)
  one_turn first last (next ∷ []) one c = subst (λ (s : LoopState DownloadState G). Turns download_calls calls first s) (sym c.1) c.0
  one_turn first last (next ∷ other ∷ states) one c = absurd (omega (arith, one))

  -- a download that runs takes a turn, where it may take one
  pub ran : (first last : LoopState DownloadState G) → download_calls.runs first.operation ≡ true → Finishes download_calls calls 1 first last → Turns download_calls calls first last
  ran first last runs (count, most, often, ended) = by count most often
    where
      by : (count : ℕ) → count ≤ 1 → TurnsOften download_calls calls count first last → Turns download_calls calls first last
      by zero most often = stays often.0 often.1 often.2
        where
          stays : (states : List (LoopState DownloadState G)) → length states ≡ 0 → Course (Turns download_calls calls) first states last → Turns download_calls calls first last
          stays [] none c = absurd (true≢false (sym runs ∙ ap (λ (s : LoopState DownloadState G). download_calls.runs s.operation) (sym c) ∙ ended))
          stays (next ∷ states) none c = absurd (omega (arith, none))
      by (suc n) most often = one_turn first last often.0 (often.1 ∙ (let one : suc n ≡ 1 = omega (arith, most) in one)) often.2

  pub ran_past : (first last : LoopState DownloadState G) → GoesPast download_calls calls 1 first last → Turns download_calls calls first last
  ran_past first last g = one_turn first last g.0.0 g.0.1 g.0.2

  -- a turn takes no piece
  takes_handed : (old new : DownloadState) (taken : Option (ℕ × Message)) → Takes old taken new → handed new ≡ handed old
  takes_handed old new None t = ap handed t.1
  takes_handed old new (Some f) t = ap handed t.3

  hears_handed : (taken : DownloadState) (node : ℕ) (answer : Option Message) (now : ℕ) (moved : DownloadState) → Hears download_calls taken node answer now moved → handed moved ≡ handed taken
  hears_handed taken node None now moved h = ap handed h
  hears_handed taken node (Some answer) now moved h = h.same.given

  meets_handed : (taken : DownloadState) (h : Happening) (now : ℕ) (moved : DownloadState) → Meets download_calls taken h now moved → handed moved ≡ handed taken
  meets_handed taken (happening.Came from answer) now moved h = h.same.given
  meets_handed taken (happening.Second second) now moved h = h.same.given

  goes_handed : (taken : DownloadState) (outside : G) (message : Option (ℕ × Message)) (moved : DownloadState) (after : G)
      → GoesOn download_calls calls taken outside message (record { operation = moved; outside = after }) → handed moved ≡ handed taken
  goes_handed taken outside None moved after g = meets_handed taken g.0 (calls.clock after) moved g.2
  goes_handed taken outside (Some m) moved after g = hears_handed taken m.0 g.0 (calls.clock after) moved g.2

  turn_handed : (first last : LoopState DownloadState G) → Turns download_calls calls first last → handed last.operation ≡ handed first.operation
  turn_handed first last t = goes_handed t.taken first.outside t.message last.operation last.outside t.goes_on ∙ takes_handed first.operation t.taken t.message t.takes

  -- the same of a watched download, up to where it stands then
  pub turn_of : (first was ended is : DownloadState) (outside after : G) → was ≡ first → ended ≡ is
      → Turns download_calls calls (record { operation = was; outside = outside }) (record { operation = is; outside = after })
      → Turns download_calls calls (record { operation = first; outside = outside }) (record { operation = ended; outside = after })
  turn_of first was ended is outside after same last t =
      subst (λ (d : DownloadState). Turns download_calls calls (record { operation = first; outside = outside }) (record { operation = d; outside = after })) (sym last)
      (subst (λ (d : DownloadState). Turns download_calls calls (record { operation = d; outside = outside }) (record { operation = is; outside = after })) same t)

  pub finished_turn : (first was ended is : DownloadState) (outside after : G) → was ≡ first → ended ≡ is → is_running first.status ≡ true
      → Finishes download_calls calls 1 (record { operation = was; outside = outside }) (record { operation = is; outside = after })
      → Turns download_calls calls (record { operation = first; outside = outside }) (record { operation = ended; outside = after })
  finished_turn first was ended is outside after same last runs f =
      turn_of first was ended is outside after same last
      (ran (record { operation = was; outside = outside }) (record { operation = is; outside = after }) (subst (λ (d : DownloadState). is_running d.status ≡ true) (sym same) runs) f)

  pub past_turn : (first was ended is : DownloadState) (outside after : G) → was ≡ first → ended ≡ is
      → GoesPast download_calls calls 1 (record { operation = was; outside = outside }) (record { operation = is; outside = after })
      → Turns download_calls calls (record { operation = first; outside = outside }) (record { operation = ended; outside = after })
  past_turn first was ended is outside after same last f =
      turn_of first was ended is outside after same last (ran_past (record { operation = was; outside = outside }) (record { operation = is; outside = after }) f)

  -- no piece was taken yet
  pub offset_stays : (old moved : DownloadState) (outside after : G) (offset : ℕ) → Turns download_calls calls (record { operation = old; outside = outside }) (record { operation = moved; outside = after })
      → offset ≡ capped (handed old) → offset ≡ capped (handed moved)
  offset_stays old moved outside after offset t is = is ∙ ap capped (sym (turn_handed (record { operation = old; outside = outside }) (record { operation = moved; outside = after }) t))

  -- and what is ready then is written
  pub turned_and_written : (old moved new : DownloadState) (outside after : G) (before held : Option (List ℕ)) → ready old ≡ []
      → Turns download_calls calls (record { operation = old; outside = outside }) (record { operation = moved; outside = after }) → Writes moved before new held
      → TurnsAndWrites calls (record { operation = old; outside = outside }) before (record { operation = new; outside = after }) held
  turned_and_written old moved new outside after before held none t w = record {
    turn = turned old moved new outside after w.pieces none t w.hands;
    pieces = w.pieces;
    all = w.all;
    right = w.right;
    given = w.given;
    consecutive = subst (λ (n : ℕ). AreConsecutive n w.pieces (handed new)) (turn_handed (record { operation = old; outside = outside }) (record { operation = moved; outside = after }) t) w.consecutive;
    added = w.added;
  }

  pub turn_written : (old moved : DownloadState) (outside after : G) (before held : Option (List ℕ)) (c : Carried) → ready old ≡ []
      → Turns download_calls calls (record { operation = old; outside = outside }) (record { operation = moved; outside = after }) → OnOk c.ended (Writes moved before c.download held)
      → OnOk c.ended (TurnsAndWrites calls (record { operation = old; outside = outside }) before (record { operation = c.download; outside = after }) held)
  turn_written old moved outside after before held c none t = by c.ended
    where
      by : (r : Result (Unit {0}) CutShort) → OnOk r (Writes moved before c.download held) → OnOk r (TurnsAndWrites calls (record { operation = old; outside = outside }) before (record { operation = c.download; outside = after }) held)
      by (Ok tt) w = turned_and_written old moved c.download outside after before held none t w
      by (Err cut) w = tt

-- A download asks all its servers.
use Rattle.std.proofs.Common.{◌≡◌, ◌≢◌, ℕ, List, [], Bool, Option, Some, None, sym, subst, ap, ◌∙◌, inl, inr}
use Rattle.std.specs.Prelude.{if◌then◌else◌}
use Rattle.std.proofs.lemmas.Bool.{cases_eq, ne_eqb}
use Rattle.wire.specs.declared.message.Message.{Message}
use Rattle.request_record.specs.Asking.{after_message, after_tick, begun}
use Rattle.request_record.specs.Record.{RequestsState}
use Rattle.download_segments.specs.declared.piece.Piece.{Piece}
use Rattle.download_core.specs.Moves.{GoesOn, StopsAt, TakesPiece, asked_servers}
use Rattle.download_core.specs.Sending.{Takes}
use Rattle.download_core.specs.State.{DownloadState, with_record}
use Rattle.download_core.specs.declared.status.DownloadStatus.{DownloadStatus}
use Rattle.download_core.specs.declared.status.DownloadStatus.TheVariants.{Done, Running}
use Rattle.answer_laws.specs.Asking.Asked.{AsksAll}
use Rattle.answer_laws.specs.Asking.Downloads.{DownloadAsksAll, DownloadsAskAll}
use Rattle.answer_laws.proofs.Asking.Records.{asked_after_asks, asked_after_message, asked_after_tick, asked_same, begun_asks_all}

done_has_ended : (s : DownloadStatus) → s ≡ Done → s ≢ Running
done_has_ended s done runs = never (sym done ∙ runs) where
  never : Done ≡ Running → ⊥
  never e = cc

-- where it is not done, it was not
was_not_done : (r : RequestsState) (old new : DownloadState) → (old.status ≢ Running → new ≡ with_record old r) → new.status ≢ Done → old.status ≢ Done
was_not_done r old new ended other done = other (ap (λ (d : DownloadState). d.status) (ended (done_has_ended old.status done)) ∙ done)

goes_on : (servers : List ℕ) (r : RequestsState) (old new : DownloadState) → GoesOn r old new → (AsksAll servers old.requests.entries → AsksAll servers r.entries) → DownloadAsksAll servers old → DownloadAsksAll servers new
goes_on servers r old new goes first all other =
    subst (λ (q : RequestsState). AsksAll servers q.entries) (sym goes.requests)
    (asked_after_asks servers goes.asks r (first (all (was_not_done r old new goes.ended other))))

begins : (servers : List ℕ) (from to session now : ℕ) (d : DownloadState) → d.requests ≡ begun (asked_servers from to servers) session now → (from ≡ to → d.status ≡ Done) → DownloadAsksAll servers d
begins servers from to session now d is done other = elim (cases_eq from to) [
  | inl same ↦ absurd (other (done same))
  | inr differ ↦
      let all : asked_servers from to servers ≡ servers = ap (λ (b : Bool). if b then [] else servers) (ne_eqb from to differ) in
      subst (λ (r : RequestsState). AsksAll servers r.entries) (sym (is ∙ ap (λ (l : List ℕ). begun l session now) all)) (begun_asks_all servers session now)
]

stops : (servers : List ℕ) (now : ℕ) (old new : DownloadState) → StopsAt now old new → DownloadAsksAll servers old → DownloadAsksAll servers new
stops servers now old new s all other =
    let before : AsksAll servers old.requests.entries = all (λ done. other (ap (λ (d : DownloadState). d.status) (s.ended (done_has_ended old.status done)) ∙ done)) in
    elim s.requests [
      | inl same ↦ asked_same servers old.requests new.requests (ap (λ (r : RequestsState). r.entries) same) before
      | inr on ↦
          subst (λ (q : RequestsState). AsksAll servers q.entries) (sym on.1)
          (asked_after_asks servers on.0 (after_tick now old.requests) (asked_after_tick servers now old.requests before))
    ]

same_record : (servers : List ℕ) (old new : DownloadState) → new.status ≡ old.status → new.requests.entries ≡ old.requests.entries → DownloadAsksAll servers old → DownloadAsksAll servers new
same_record servers old new status entries all other = asked_same servers old.requests new.requests entries (all (λ done. other (status ∙ done)))

sends : (frame : Option (ℕ × Message)) (servers : List ℕ) (old new : DownloadState) → Takes old frame new → DownloadAsksAll servers old → DownloadAsksAll servers new
sends None servers old new t = same_record servers old new (ap (λ (d : DownloadState). d.status) t.1) (ap (λ (d : DownloadState). d.requests.entries) t.1)
sends (Some f) servers old new t = same_record servers old new (ap (λ (d : DownloadState). d.status) t.3) (ap (λ (d : DownloadState). d.requests.entries) t.3)

hands : (piece : Option Piece) (servers : List ℕ) (old new : DownloadState) → TakesPiece old piece new → DownloadAsksAll servers old → DownloadAsksAll servers new
hands None servers old new t = same_record servers old new (ap (λ (d : DownloadState). d.status) t.1) (ap (λ (d : DownloadState). d.requests.entries) t.1)
hands (Some p) servers old new t = same_record servers old new (ap (λ (d : DownloadState). d.status) t.1) (ap (λ (d : DownloadState). d.requests.entries) t.1)

pub downloads_ask_all : DownloadsAskAll
downloads_ask_all = record {
  begins = λ cap from to servers session now d b. begins servers from to session now d b.asks b.done;
  advances = λ from m now servers old new a. goes_on servers (after_message from m now old.requests) old new a (asked_after_message servers from m now old.requests);
  ticks = λ now servers old new a. goes_on servers (after_tick now old.requests) old new a (asked_after_tick servers now old.requests);
  stops = λ now servers old new s. stops servers now old new s;
  sends = sends;
  hands = hands;
}

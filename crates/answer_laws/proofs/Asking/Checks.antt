-- A check asks all its servers.
use Rattle.std.proofs.Common.{◌≡◌, ◌≢◌, ◌⊎◌, ℕ, List, Option, Some, None, refl, sym, subst, ap, inl, inr}
use Rattle.wire.specs.declared.message.Message.{Message}
use Rattle.request_record.specs.declared.requests.Asked.{Asked}
use Rattle.request_record.specs.Asking.{after_message, after_tick}
use Rattle.request_record.specs.Record.{RequestsState, asked_all}
use Rattle.checker.specs.Moves.{FailsAt, StopsAt}
use Rattle.checker.specs.Moves.FailsAt.{at_once, later}
use Rattle.checker.specs.Sending.{Takes}
use Rattle.checker.specs.State.{CheckState}
use Rattle.checker.specs.declared.status.CheckStatus.{CheckStatus}
use Rattle.checker.specs.declared.status.CheckStatus.TheVariants.{Done, Failed, Running}
use Rattle.answer_laws.specs.Asking.Asked.{AsksAll}
use Rattle.answer_laws.specs.Asking.Checks.{CheckAsksAll, ChecksAskAll}
use Rattle.answer_laws.proofs.Asking.Records.{asked_after_asks, asked_after_message, asked_after_tick, asked_same, begun_asks_all}

more_asked : (servers : List ℕ) (asks : List (ℕ × Asked)) (r : RequestsState) (new : CheckState) → new.requests ≡ asked_all asks r → AsksAll servers r.entries → CheckAsksAll servers new
more_asked servers asks r new is all = subst (λ (q : RequestsState). AsksAll servers q.entries) (sym is) (asked_after_asks servers asks r all)

same_record : (servers : List ℕ) (old new : CheckState) → new.requests.entries ≡ old.requests.entries → CheckAsksAll servers old → CheckAsksAll servers new
same_record servers old new entries all = asked_same servers old.requests new.requests entries all

fails : (servers : List ℕ) (now : ℕ) (old new : CheckState) → FailsAt now old new → CheckAsksAll servers old → CheckAsksAll servers new
fails servers now old new (at_once is) all = same_record servers old new (ap (λ (c : CheckState). c.requests.entries) is) all
fails servers now old new (later failed s) all = more_asked servers s.asks (after_tick now old.requests) new s.requests (asked_after_tick servers now old.requests all)

runs_or_not : (s : CheckStatus) → (s ≡ Running) ⊎ (s ≢ Running)
runs_or_not Running = inl refl
runs_or_not Done = inr (λ e. absurd cc)
runs_or_not Failed = inr (λ e. absurd cc)

stops : (servers : List ℕ) (now : ℕ) (old new : CheckState) → StopsAt now old new → CheckAsksAll servers old → CheckAsksAll servers new
stops servers now old new s all = elim (runs_or_not old.status) [
  | inl runs ↦ fails servers now old new (s.running runs) all
  | inr over ↦ same_record servers old new (ap (λ (c : CheckState). c.requests.entries) (s.ended over)) all
]

sends : (frame : Option (ℕ × Message)) (servers : List ℕ) (old new : CheckState) → Takes old frame new → CheckAsksAll servers old → CheckAsksAll servers new
sends None servers old new t all = same_record servers old new (ap (λ (c : CheckState). c.requests.entries) t.1) all
sends (Some f) servers old new t all = same_record servers old new (ap (λ (c : CheckState). c.requests.entries) t.3) all

pub checks_ask_all : ChecksAskAll
checks_ask_all = record {
  begins = λ cap servers session now c b. subst (λ (r : RequestsState). AsksAll servers r.entries) (sym b.asks) (begun_asks_all servers session now);
  advances = λ from m now servers old new a all. more_asked servers a.asks (after_message from m now old.requests) new a.requests (asked_after_message servers from m now old.requests all);
  ticks = λ now servers old new a all. more_asked servers a.asks (after_tick now old.requests) new a.requests (asked_after_tick servers now old.requests all);
  stops = stops_at;
  sends = sends;
} where
  stops_at : (now : ℕ) (servers : List ℕ) (old new : CheckState) → StopsAt now old new → CheckAsksAll servers old → CheckAsksAll servers new
  stops_at now servers old new s all = stops servers now old new s all

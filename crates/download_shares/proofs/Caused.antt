-- Which blames are added, and why, and which reads.
use Rattle.std.proofs.Common.{◌≡◌, ℕ, ◌<◌, inl, inr, List, [], ◌∷◌, ◌++◌, length, Option, Some, sym, ap, subst, ◌∙◌, arith}
use Rattle.std.specs.Prelude.{slice_get, slice_index_or}
use Rattle.std.proofs.lemmas.Bool.{cases_lt}
use Rattle.std.proofs.lemmas.Option.{slice_get-get_or, slice_get_within}
use Rattle.lemmas.proofs.Options.{one_there}
use Rattle.lemmas.proofs.Positions.{get_pushed}
use Rattle.cap_text.specs.Cap.{VerifyCapValue}
use Rattle.wire.specs.declared.message.Body.TheVariants.{Data}
use Rattle.request_record.specs.declared.requests.Asked.TheVariants.{Reading}
use Rattle.request_record.specs.declared.requests.Outcome.TheVariants.{Answered}
use Rattle.request_record.specs.declared.requests.Request.{Request}
use Rattle.request_record.specs.Record.{first_request, is_outstanding}
use Rattle.share_layout.specs.Geometry.{Geometry}
use Rattle.share_verify.specs.declared.check.Check.{Check}
use Rattle.share_reading.specs.Opening.{next_length, next_offset}
use Rattle.share_reading.specs.OpeningReads.{IsLedToBy}
use Rattle.share_reading.specs.Refusal.{IsRefused, check_of}
use Rattle.share_reading.specs.declared.error.OpeningError.{OpeningError}
use Rattle.share_reading.specs.declared.opening.Opening.{Opening}
use Rattle.share_reading.proofs.ReadLemmas.{lead_on, more_led}
use Rattle.download_shares.specs.Table.{IsHolding, IsTable}
use Rattle.download_shares.specs.declared.holding.Blame.{Blame}
use Rattle.download_shares.specs.declared.holding.Holding.{Holding}
use Rattle.download_shares.specs.HoldingMoves.{Asks, Blames}
use Rattle.download_shares.specs.HoldingState.{HoldingsState}
use Rattle.download_shares.proofs.Records.{StaysTo}
use Rattle.download_shares.proofs.Telling.{append_cases}
use Rattle.download_shares.specs.Causes.{AddsBlames, FailsAs, IsBeginningFault, IsOpeningFault}
use Rattle.download_shares.specs.Known.{AreBegun, IsNextAt}
use Rattle.download_shares.specs.BeginningMoves.{AsksNext, Awaits, GoesOn}
use Rattle.download_shares.specs.Reads.{AddsReads, IsAnsweredBy, IsInBeginning, IsReadAt, brought_of}
use Rattle.download_shares.specs.BeginningState.{BeginningsState, IsBegun}
use Rattle.download_shares.specs.declared.begun.Begun.{Begun}
use Rattle.download_shares.proofs.Entries.{brought_grows, brought_has}
use Rattle.download_shares.proofs.Knowing.{grows_asks}
use Rattle.download_shares.proofs.Reading.{next_is}

pub adds_none : (P : Blame → Type 0) (old new : List Blame) → new ≡ old → AddsBlames P old new
adds_none P old new e i b is le = (let w = slice_get_within new i b is in let l = ap length e in absurd (omega (arith, w, l, le)))

pub adds_one : (P : Blame → Type 0) (old new : List Blame) (one : Blame) → new ≡ old ++ one ∷ [] → P one → AddsBlames P old new
adds_one P old new one e p i b is le = elim (get_pushed old one b i (sym (ap (λ (l : List Blame). slice_get l i) e) ∙ is)) [
  | inl was ↦ (let w = slice_get_within old i b was in absurd (omega (arith, w, le)))
  | inr last ↦ subst P last.1 p
]

pub adds_trans : (P : Blame → Type 0) (s t u : BeginningsState) → GoesOn t u → AddsBlames P s.holdings.blamed t.holdings.blamed → AddsBlames P t.holdings.blamed u.holdings.blamed → AddsBlames P s.holdings.blamed u.holdings.blamed
adds_trans P s t u goes first second i b is le = elim (append_cases t.holdings.blamed goes.more i b (sym (ap (λ (l : List Blame). slice_get l i) goes.blamed) ∙ is)) [
  | inl was ↦ first i b was le
  | inr new ↦ second i b is new.0
]

pub adds_as : (P Q : Blame → Type 0) (old new : List Blame) → ((b : Blame) → P b → Q b) → AddsBlames P old new → AddsBlames Q old new
adds_as P Q old new from adds i b is le = from b (adds i b is le)

-- a share that is blamed is one of a holding, whose number counts
pub blamed_low : (n : ℕ) (w u : HoldingsState) (holding : ℕ) (check : Check) → IsTable w.table → length w.table.numbers ≡ n → Blames holding check w u
    → AddsBlames (λ b. b.share < n) w.blamed u.blamed
blamed_low n w u holding check table same blames =
    adds_one (λ b. b.share < n) w.blamed u.blamed (record { server = blames.held.server; share = blames.held.share; check = check }) blames.blamed
    (let low = table.below holding blames.held blames.is in omega (arith, low, same))

-- ---- an answer to the next read of an opening fails

module _ (s : BeginningsState) (holding position : ℕ) (o : Opening) (h : Holding) (bytes : List ℕ) (known : AreBegun s) (awaits : (p : Opening) × Awaits s holding position p) (is : (b : Begun) → IsBegun s holding b → Some o ≡ b.opening)
    (at : IsHolding s.holdings.table holding h) (answered : IsAnsweredBy s.holdings.requests.entries position bytes) where
  opening : awaits.1.begun.opening ≡ Some o
  opening = sym (is awaits.1.begun awaits.1.there)

  led : IsLedToBy (brought_of s.holdings.requests.entries h.server h.share) o
  led = (known.each holding h awaits.1.begun at awaits.1.there).led o opening

  next : IsReadAt s.holdings.requests.entries h position (next_offset o) (next_length o)
  next = subst (λ (q : Option Opening). IsNextAt s.holdings.requests.entries h q position) opening ((known.each holding h awaits.1.begun at awaits.1.there).waits position awaits.1.waiting)

  answer : next.request.outcome ≡ Answered (Data bytes)
  answer = ap (λ (r : Request). r.outcome) (one_there (slice_get s.holdings.requests.entries position) next.request answered.request next.there answered.there) ∙ answered.answer

  pub opening_fault : (cap : VerifyCapValue) (check : Check) (error : OpeningError) → IsRefused cap o bytes error → check ≡ check_of error → IsOpeningFault cap s.holdings.requests.entries (record { server = h.server; share = h.share; check = check })
  opening_fault cap check error refused same = record {
    opening = o;
    led = led;
    position = position;
    request = next.request;
    there = next.there;
    of_server = next.of_server;
    asked = next.asked;
    bytes = bytes;
    answer = answer;
    error = error;
    refused = refused;
    check = same;
  }

  pub fault_of : (cap : VerifyCapValue) (g : Geometry) (check : Check) → FailsAs cap g o bytes check → IsBeginningFault cap g s.holdings.requests.entries (record { server = h.server; share = h.share; check = check })
  fault_of cap g check (inl refused) = inl (opening_fault cap check refused.0 refused.1 refused.2)
  fault_of cap g check (inr other) =
      let brought = brought_of s.holdings.requests.entries h.server h.share in
      inr (record {
        opening = other.0;
        led = lead_on cap brought brought o other.0 bytes led other.1 (λ read there. there)
            (brought_has s.holdings.requests.entries h.server h.share (next_offset o, bytes)
            (record { position = position; request = next.request; there = next.there; of_server = next.of_server; len = next_length o; asked = next.asked; answer = answer }));
        other = other.2;
        check = other.3;
      })

-- ---- what led to an opening stays

led_stays : (es ns : List Request) (server share : ℕ) (o : Opening) → StaysTo es ns → IsLedToBy (brought_of es server share) o → IsLedToBy (brought_of ns server share) o
led_stays es ns server share o stays led = more_led (brought_of es server share) (brought_of ns server share) (λ read. brought_grows es ns server share read stays) o led

pub opening_fault_stays : (cap : VerifyCapValue) (es ns : List Request) (b : Blame) → StaysTo es ns → IsOpeningFault cap es b → IsOpeningFault cap ns b
opening_fault_stays cap es ns b stays k = record {
  opening = k.opening;
  led = led_stays es ns b.server b.share k.opening stays k.led;
  position = k.position;
  request = k.request;
  there = stays k.position k.request k.there (ap is_outstanding k.answer);
  of_server = k.of_server;
  asked = k.asked;
  bytes = k.bytes;
  answer = k.answer;
  error = k.error;
  refused = k.refused;
  check = k.check;
}

pub fault_stays : (cap : VerifyCapValue) (g : Geometry) (es ns : List Request) (b : Blame) → StaysTo es ns → IsBeginningFault cap g es b → IsBeginningFault cap g ns b
fault_stays cap g es ns b stays (inl k) = inl (opening_fault_stays cap es ns b stays k)
fault_stays cap g es ns b stays (inr k) = inr (record { opening = k.opening; led = led_stays es ns b.server b.share k.opening stays k.led; other = k.other; check = k.check })

pub beginning_stays : (es ns : List Request) (server share offset len : ℕ) → StaysTo es ns → IsInBeginning es server share offset len → IsInBeginning ns server share offset len
beginning_stays es ns server share offset len stays k = record { opening = k.opening; led = led_stays es ns server share k.opening stays k.led; lies = k.lies }

-- ---- what is read more

pub reads_none : (may : ℕ → ℕ → ℕ → ℕ → Type 0) (old new : List Request) → new ≡ old → AddsReads may old new
reads_none may old new e position r share offset len there le asked = (let w = slice_get_within new position r there in let l = ap length e in absurd (omega (arith, w, l, le)))

pub reads_trans : (may : ℕ → ℕ → ℕ → ℕ → Type 0) (es ns ms : List Request) → ((i : ℕ) (r : Request) → slice_get ns i ≡ Some r → slice_get ms i ≡ Some r) → AddsReads may es ns → AddsReads may ns ms → AddsReads may es ms
reads_trans may es ns ms stays first second position r share offset len there le asked = elim (cases_lt position (length ns)) [
  | inl lt ↦ (
      let was : slice_get ns position ≡ Some (slice_index_or ns position r) = slice_get-get_or ns position r lt in
      let same : slice_index_or ns position r ≡ r = one_there (slice_get ms position) (slice_index_or ns position r) r (stays position (slice_index_or ns position r) was) there in
      first position r share offset len (was ∙ ap Some same) le asked)
  | inr ge ↦ second position r share offset len there ge asked
]

-- these bytes of a holding's share
pub reads_asked : (may : ℕ → ℕ → ℕ → ℕ → Type 0) (s u : HoldingsState) (holding offset len : ℕ) → (a : Asks holding offset len s u) → may a.0.server a.0.share offset len → AddsReads may s.requests.entries u.requests.entries
reads_asked may s u holding offset len a own position r share o l there le asked =
    let es = s.requests.entries in
    let n = first_request a.0.server (Reading a.0.share offset len) s.requests.clock in
    let list : u.requests.entries ≡ es ++ n ∷ [] = ap (λ (x : HoldingsState). x.requests.entries) a.2 in
    elim (get_pushed es n r position (sym (ap (λ (x : List Request). slice_get x position) list) ∙ there)) [
      | inl was ↦ (let w = slice_get_within es position r was in absurd (omega (arith, w, le)))
      | inr last ↦ (
          let asks : Reading a.0.share offset len ≡ Reading share o l = ap (λ (q : Request). q.asked) last.1 ∙ asked in
          let shares : a.0.share ≡ share = cc in
          let positions : offset ≡ o = cc in
          let lengths : len ≡ l = cc in
          let servers : a.0.server ≡ r.server = ap (λ (q : Request). q.server) last.1 in
          subst (λ x. may r.server share o x) lengths (subst (λ x. may r.server share x len) positions (subst (λ x. may r.server x offset len) shares (subst (λ x. may x a.0.share offset len) servers own))))
    ]

-- the next bytes of an opening
pub reads_next : (s u : BeginningsState) (holding : ℕ) (o : Opening) → AsksNext holding o s u → ((h : Holding) → IsHolding s.holdings.table holding h → IsLedToBy (brought_of s.holdings.requests.entries h.server h.share) o)
    → AddsReads (IsInBeginning u.holdings.requests.entries) s.holdings.requests.entries u.holdings.requests.entries
reads_next s u holding o a led =
    let es = s.holdings.requests.entries in
    let h = a.asks.0 in
    reads_asked (IsInBeginning u.holdings.requests.entries) s.holdings u.holdings holding (next_offset o) (next_length o) a.asks
    (record { opening = o; led = led_stays es u.holdings.requests.entries h.server h.share o (grows_asks holding (next_offset o) (next_length o) s.holdings u.holdings a.asks).stays (led h a.asks.1); lies = next_is o })

-- What is kept of the beginnings of shares stays as the record says.
use Rattle.std.proofs.Common.{◌≡◌, ℕ, ◌⊎◌, inl, inr, Bool, List, length, Option, Some, None, refl, sym, ap, subst, ◌∙◌, arith}
use Rattle.std.specs.Prelude.{slice_get, slice_index_or, slice_set}
use Rattle.std.proofs.lemmas.Bool.{cases_eq}
use Rattle.std.proofs.lemmas.List.{length-set}
use Rattle.lemmas.proofs.Positions.{get_set, get_other, set_cases}
use Rattle.lemmas.proofs.Options.{one_there}
use Rattle.share_reading.specs.Opening.{next_length, next_offset}
use Rattle.share_reading.specs.OpeningReads.{IsLedToBy}
use Rattle.share_reading.specs.declared.opening.Opening.{Opening}
use Rattle.share_reading.proofs.ReadLemmas.{more_led}
use Rattle.share_verify.specs.declared.check.Check.{Check}
use Rattle.request_record.specs.declared.requests.Asked.TheVariants.{Reading}
use Rattle.request_record.specs.declared.requests.Request.{Request}
use Rattle.request_record.specs.Record.{RequestsState, first_request}
use Rattle.download_shares.specs.Left.{IsOffered}
use Rattle.download_shares.specs.HoldingMoves.{Asks, Blames}
use Rattle.download_shares.specs.Right.{AreAllHeld, IsRight}
use Rattle.download_shares.specs.HoldingState.{HoldingsState, TableState}
use Rattle.download_shares.specs.Table.{IsHolding, Releases, Suspends, TakesUp}
use Rattle.download_shares.specs.declared.holding.Holding.{Holding}
use Rattle.download_shares.proofs.Goes.{HaveSamePairs}
use Rattle.download_shares.proofs.Records.{StaysTo}
use Rattle.download_shares.specs.Known.{AreBegun, IsBegunBy, IsNextAt}
use Rattle.download_shares.specs.Reads.{brought_of}
use Rattle.download_shares.specs.BeginningState.{BeginningsState, IsBegun, unbegun}
use Rattle.download_shares.specs.declared.begun.Begun.{Begun}
use Rattle.download_shares.proofs.Entries.{Grows, brought_grows, grows_none, grows_push, offered_pushed, read_grows}
use Rattle.download_shares.proofs.Falling.{Falls, at_position}

-- ---- one holding

pub led_grows : (es ns : List Request) (h g : Holding) (o : Opening) → StaysTo es ns → g.server ≡ h.server → g.share ≡ h.share → IsLedToBy (brought_of es h.server h.share) o → IsLedToBy (brought_of ns g.server g.share) o
led_grows es ns h g o stays servers shares led =
    subst (λ n. IsLedToBy (brought_of ns n g.share) o) (sym servers)
    (subst (λ n. IsLedToBy (brought_of ns h.server n) o) (sym shares)
    (more_led (brought_of es h.server h.share) (brought_of ns h.server h.share) (λ read. brought_grows es ns h.server h.share read stays) o led))

next_grows : (es ns : List Request) (h g : Holding) (o : Option Opening) (position : ℕ) → Grows es ns → g.server ≡ h.server → g.share ≡ h.share → IsNextAt es h o position → IsNextAt ns g o position
next_grows es ns h g None position grows servers shares k = k
next_grows es ns h g (Some o) position grows servers shares k = read_grows es ns h g position (next_offset o) (next_length o) grows servers shares k

-- what is kept of a holding was kept of it
pub record WasBegun (s : BeginningsState) (position : ℕ) (g : Holding) (b : Begun) : Type 0 where
  pub held : Holding
  pub is : IsHolding s.holdings.table position held
  pub of_server : g.server ≡ held.server
  pub of_share : g.share ≡ held.share
  pub begun : Begun
  pub there : IsBegun s position begun
  pub opening : b.opening ≡ begun.opening
  pub waiting : (request : ℕ) → b.waiting ≡ Some request → begun.waiting ≡ Some request

pub begun_by : (s : BeginningsState) (ns : List Request) (position : ℕ) (g : Holding) (b : Begun) → AreBegun s → Grows s.holdings.requests.entries ns → WasBegun s position g b → IsBegunBy ns g b
begun_by s ns position g b known grows w =
    let k = known.each position w.held w.begun w.is w.there in
    record {
      led = λ o e. led_grows s.holdings.requests.entries ns w.held g o grows.stays w.of_server w.of_share (k.led o (sym w.opening ∙ e));
      waits = λ request e. subst (λ (o : Option Opening). IsNextAt ns g o request) (sym w.opening)
          (next_grows s.holdings.requests.entries ns w.held g w.begun.opening request grows w.of_server w.of_share (k.waits request (w.waiting request e)));
    }

pub new_by : (ns : List Request) (g : Holding) (b : Begun) → b ≡ unbegun → IsBegunBy ns g b
new_by ns g b e = record {
  led = λ o f. (let two : None ≡ Some o = sym (ap (λ (x : Begun). x.opening) e) ∙ f in absurd cc);
  waits = λ request f. (let two : None ≡ Some request = sym (ap (λ (x : Begun). x.waiting) e) ∙ f in absurd cc);
}

-- ---- all of them

-- each share that was offered is held, where none is offered more, and none is gone from the table
pub held_follows : (s u : HoldingsState) → AreAllHeld s → ((server share : ℕ) → IsOffered u.requests.entries server share → IsOffered s.requests.entries server share)
    → length u.table.numbers ≡ length s.table.numbers
    → ((position : ℕ) (h : Holding) → IsHolding s.table position h → (g : Holding) × IsHolding u.table position g × (g.server ≡ h.server) × (g.share ≡ h.share)) → AreAllHeld u
held_follows s u held offered count forth server share o below =
    let k = held server share (offered server share o) (omega (arith, below, count)) in
    let g = forth k.0 k.1 k.2 in
    (k.0, g.0, g.1, g.2 ∙ k.3, g.3 ∙ k.4)

pub known_follows : (s u : BeginningsState) → AreBegun s → Grows s.holdings.requests.entries u.holdings.requests.entries → IsRight u.holdings → AreAllHeld u.holdings
    → length u.begun ≡ length u.holdings.table.holdings
    → ((position : ℕ) (g : Holding) (b : Begun) → IsHolding u.holdings.table position g → IsBegun u position b → (b ≡ unbegun) ⊎ WasBegun s position g b) → AreBegun u
known_follows s u known grows right held counted was = record {
  right = right;
  counted = counted;
  each = λ position g b is there. elim (was position g b is there) [
    | inl new ↦ new_by u.holdings.requests.entries g b new
    | inr old ↦ begun_by s u.holdings.requests.entries position g b known grows old
  ];
  held = held;
}

-- ---- the holdings are the same shares

pub record SameShares (t u : TableState) : Type 0 where
  pub long : length u.holdings ≡ length t.holdings
  pub count : length u.numbers ≡ length t.numbers
  pub pairs : HaveSamePairs t u

pub shares_fall : (t u : TableState) → Falls t u → SameShares t u
shares_fall t u f = record {
  long = f.long;
  count = f.count;
  pairs = record {
    forth = λ position h e. (
        let is = at_position u.holdings t.holdings position h (sym f.long) e in
        let w = f.back position (slice_index_or u.holdings position h) is in
        let same : w.held ≡ h = one_there (slice_get t.holdings position) w.held h w.is e in
        (slice_index_or u.holdings position h, is, w.of_server ∙ ap (λ (x : Holding). x.server) same, w.of_share ∙ ap (λ (x : Holding). x.share) same));
    back = λ position g e. (let w = f.back position g e in (w.held, w.is, w.of_server, w.of_share));
  };
}

pub shares_same : (t u : TableState) → u.holdings ≡ t.holdings → length u.numbers ≡ length t.numbers → SameShares t u
shares_same t u e count = record {
  long = ap length e;
  count = count;
  pairs = record {
    forth = λ position h is. (h, ap (λ (l : List Holding). slice_get l position) e ∙ is, refl, refl);
    back = λ position g is. (g, sym (ap (λ (l : List Holding). slice_get l position) e) ∙ is, refl, refl);
  };
}

pub shares_taken : (holding : ℕ) (t u : TableState) → TakesUp holding t u → SameShares t u
shares_taken holding t u k = shares_same t u k.2 (ap length k.3.numbers ∙ length-set t.numbers k.0.share _)

pub shares_released : (holding : ℕ) (t u : TableState) → Releases holding t u → SameShares t u
shares_released holding t u k = shares_same t u k.2 (ap length k.3.numbers ∙ length-set t.numbers k.0.share _)

pub shares_suspended : (suspended : Bool) (holding : ℕ) (t u : TableState) → Suspends suspended holding t u → SameShares t u
shares_suspended suspended holding t u k = record {
  long = ap length k.1.1.holdings ∙ length-set t.holdings holding (record k.1.0 { suspended = suspended });
  count = ap length k.0;
  pairs = record {
    forth = λ position h e. elim (cases position) [
      | inl same ↦ (
          let is : h ≡ k.1.0 = one_there (slice_get t.holdings position) h k.1.0 e (ap (slice_get t.holdings) same ∙ k.1.1.is) in (
            record k.1.0 { suspended = suspended },
            ap (λ (l : List Holding). slice_get l position) k.1.1.holdings ∙ ap (slice_get (slice_set t.holdings holding (record k.1.0 { suspended = suspended }))) same ∙ get_set t.holdings holding (record k.1.0 { suspended = suspended }) k.1.0 k.1.1.is,
            ap (λ (x : Holding). x.server) (sym is),
            ap (λ (x : Holding). x.share) (sym is),
          ))
      | inr other ↦ (h, ap (λ (l : List Holding). slice_get l position) k.1.1.holdings ∙ get_other t.holdings holding position (record k.1.0 { suspended = suspended }) other ∙ e, refl, refl)
    ];
    back = λ position g e. elim (set_cases t.holdings holding position (record k.1.0 { suspended = suspended }) g (sym (ap (λ (l : List Holding). slice_get l position) k.1.1.holdings) ∙ e)) [
      | inl k2 ↦ (k.1.0, ap (slice_get t.holdings) k2.0 ∙ k.1.1.is, ap (λ (x : Holding). x.server) (sym k2.1), ap (λ (x : Holding). x.share) (sym k2.1))
      | inr k2 ↦ (g, k2.1, refl, refl)
    ];
  };
}
  where
    cases : (position : ℕ) → (position ≡ holding) ⊎ (position ≡ holding → ⊥)
    cases position = cases_eq position holding

-- what is kept of each is as it was, but for what it waits for
abbrev pub KeepsBegun : List Begun → List Begun → Type 0
KeepsBegun old new = (position : ℕ) (b : Begun) → slice_get new position ≡ Some b
    → (a : Begun) × (slice_get old position ≡ Some a) × (b.opening ≡ a.opening) × ((request : ℕ) → b.waiting ≡ Some request → a.waiting ≡ Some request)

pub keeps_same : (old new : List Begun) → new ≡ old → KeepsBegun old new
keeps_same old new e position b is = (b, sym (ap (λ (l : List Begun). slice_get l position) e) ∙ is, refl, λ request f. f)

pub keeps_set : (old new : List Begun) (position : ℕ) (a b : Begun) → slice_get old position ≡ Some a → new ≡ slice_set old position b → b.opening ≡ a.opening → ((request : ℕ) → b.waiting ≡ Some request → a.waiting ≡ Some request) → KeepsBegun old new
keeps_set old new position a b at e opening waiting other c is = elim (set_cases old position other b c (sym (ap (λ (l : List Begun). slice_get l other) e) ∙ is)) [
  | inl k ↦ (a, ap (slice_get old) k.0 ∙ at, sym (ap (λ (x : Begun). x.opening) k.1) ∙ opening, λ request f. waiting request (ap (λ (x : Begun). x.waiting) k.1 ∙ f))
  | inr k ↦ (c, k.1, refl, λ request f. f)
]

-- more may be asked
pub known_goes : (s u : BeginningsState) → AreBegun s → Grows s.holdings.requests.entries u.holdings.requests.entries
    → ((server share : ℕ) → IsOffered u.holdings.requests.entries server share → IsOffered s.holdings.requests.entries server share)
    → SameShares s.holdings.table u.holdings.table → IsRight u.holdings → length u.begun ≡ length s.begun → KeepsBegun s.begun u.begun → AreBegun u
known_goes s u known grows offered shares right long keeps =
    known_follows s u known grows right (held_follows s.holdings u.holdings known.held offered shares.count shares.pairs.forth)
    (long ∙ known.counted ∙ sym shares.long)
    (λ position g b is there. inr (
    let h = shares.pairs.back position g is in
    let a = keeps position b there in
    record { held = h.0; is = h.1; of_server = h.2; of_share = h.3; begun = a.0; there = a.1; opening = a.2; waiting = a.3 }))

-- the record stays
pub known_same : (s u : BeginningsState) → AreBegun s → u.holdings.requests ≡ s.holdings.requests → SameShares s.holdings.table u.holdings.table → IsRight u.holdings
    → length u.begun ≡ length s.begun → KeepsBegun s.begun u.begun → AreBegun u
known_same s u known e shares right long keeps =
    known_goes s u known
    (subst (λ (r : RequestsState). Grows s.holdings.requests.entries r.entries) (sym e) (grows_none s.holdings.requests.entries))
    (λ server share. subst (λ (r : RequestsState). IsOffered r.entries server share → IsOffered s.holdings.requests.entries server share) (sym e) (λ o. o))
    shares right long keeps

-- ---- a share is asked for bytes

pub grows_asks : (holding offset len : ℕ) (s u : HoldingsState) → Asks holding offset len s u → Grows s.requests.entries u.requests.entries
grows_asks holding offset len s u a =
    subst (λ (x : HoldingsState). Grows s.requests.entries x.requests.entries) (sym a.2) (grows_push s.requests.entries (first_request a.0.server (Reading a.0.share offset len) s.requests.clock))

pub offered_asks : (holding offset len : ℕ) (s u : HoldingsState) → Asks holding offset len s u → (server share : ℕ) → IsOffered u.requests.entries server share → IsOffered s.requests.entries server share
offered_asks holding offset len s u a server share =
    subst (λ (x : HoldingsState). IsOffered x.requests.entries server share → IsOffered s.requests.entries server share) (sym a.2)
    (offered_pushed s.requests.entries server share s.requests.clock a.0.server offset len a.0.share)

pub table_asks : (holding offset len : ℕ) (s u : HoldingsState) → Asks holding offset len s u → u.table ≡ s.table
table_asks holding offset len s u a = ap (λ (x : HoldingsState). x.table) a.2

pub known_asked : (s u : BeginningsState) (holding offset len : ℕ) → AreBegun s → Asks holding offset len s.holdings u.holdings → IsRight u.holdings → u.begun ≡ s.begun → AreBegun u
known_asked s u holding offset len known a right e =
    known_goes s u known (grows_asks holding offset len s.holdings u.holdings a) (offered_asks holding offset len s.holdings u.holdings a)
    (let t = table_asks holding offset len s.holdings u.holdings a in shares_same s.holdings.table u.holdings.table (ap (λ (x : TableState). x.holdings) t) (ap (λ (x : TableState). length x.numbers) t))
    right (ap length e) (keeps_same s.begun u.begun e)

pub known_blamed : (s u : BeginningsState) (holding : ℕ) (check : Check) → AreBegun s → Blames holding check s.holdings u.holdings → Falls s.holdings.table u.holdings.table → IsRight u.holdings → u.begun ≡ s.begun → AreBegun u
known_blamed s u holding check known b falls right e =
    known_same s u known (ap (λ (x : HoldingsState). x.requests) b.others) (shares_fall s.holdings.table u.holdings.table falls) right (ap length e) (keeps_same s.begun u.begun e)

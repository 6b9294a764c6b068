-- A share is asked for what its opening reads next.
use Rattle.std.proofs.Common.{◌≡◌, ℕ, ◌+◌, ◌<◌, ◌≤◌, ◌⊎◌, inl, inr, false, List, [], ◌∷◌, ◌++◌, length, Option, Some, None, refl, sym, ap, subst, ◌∙◌, arith}
use Rattle.std.specs.Prelude.{slice_get, slice_set}
use Rattle.std.proofs.lemmas.Bool.{cases_eq, cases_lt}
use Rattle.std.proofs.lemmas.List.{length-set}
use Rattle.lemmas.proofs.Positions.{get_set, get_other, set_cases, get_last}
use Rattle.lemmas.proofs.Options.{one_there}
use Rattle.cap_text.specs.Cap.{VerifyCapValue}
use Rattle.share_reading.specs.Opening.{Advances, next_length, next_offset}
use Rattle.share_reading.specs.OpeningReads.{IsLedToBy}
use Rattle.share_reading.specs.declared.opening.Opening.{Opening}
use Rattle.share_reading.specs.declared.opening.Opening.TheVariants.{Start}
use Rattle.share_reading.specs.declared.opening.Progress.TheVariants.{Next}
use Rattle.share_reading.proofs.ReadLemmas.{rise}
use Rattle.request_record.specs.declared.requests.Asked.{Asked}
use Rattle.request_record.specs.declared.requests.Asked.TheVariants.{Holdings, Allocation, Writing, Closing, Reading, Aborting}
use Rattle.request_record.specs.declared.requests.Request.{Request}
use Rattle.request_record.specs.Asking.{AreApart}
use Rattle.request_record.specs.Record.{first_request}
use Rattle.download_shares.specs.HoldingMoves.{IsUnasked}
use Rattle.download_shares.specs.Right.{IsRight}
use Rattle.download_shares.specs.HoldingState.{HoldingsState, NumberState, TableState}
use Rattle.download_shares.specs.Table.{IsHolding, IsNumber}
use Rattle.download_shares.specs.declared.holding.Holding.{Holding}
use Rattle.download_shares.specs.Known.{AreBegun, IsBegunBy, IsNextAt}
use Rattle.download_shares.specs.BeginningMoves.{AsksNext}
use Rattle.download_shares.specs.Opening.{AreOpening, IsOpening, IsOut, IsTaken, nobody}
use Rattle.download_shares.specs.Reads.{IsBeginning, IsOutAt, IsReadAt, IsReadUpTo, brought_of}
use Rattle.download_shares.specs.BeginningState.{BeginningsState, IsBegun}
use Rattle.download_shares.specs.declared.begun.Begun.{Begun}
use Rattle.download_shares.proofs.Entries.{out_pushed, read_pushed}
use Rattle.download_shares.proofs.Knowing.{begun_by, grows_asks, held_follows, led_grows, offered_asks}
use Rattle.download_shares.proofs.Reading.{ends, next_is}

-- ---- nothing of it was asked

unread_apart : (h : Holding) (entries : List Request) (i : ℕ) (r : Request) (offset len : ℕ) → slice_get entries i ≡ Some r → r.server ≡ h.server
    → ((position len2 : ℕ) → IsReadAt entries h i position len2 → (position + len2 ≤ offset) ⊎ (offset + len ≤ position)) → AreApart r.asked (Reading h.share offset len)
unread_apart h entries i r offset len there of_server apart = by r.asked refl
  where
    by : (a : Asked) → r.asked ≡ a → AreApart a (Reading h.share offset len)
    by Holdings e = λ f. (let two : Holdings ≡ Reading h.share offset len = f in absurd cc)
    by (Allocation share l) e = λ f. (let two : Allocation share l ≡ Reading h.share offset len = f in absurd cc)
    by (Writing share o l) e = λ f. (let two : Writing share o l ≡ Reading h.share offset len = f in absurd cc)
    by (Closing share) e = λ f. (let two : Closing share ≡ Reading h.share offset len = f in absurd cc)
    by (Aborting share) e = λ f. (let two : Aborting share ≡ Reading h.share offset len = f in absurd cc)
    by (Reading share o l) e = λ f. apart o l (record { request = r; there = there; of_server = of_server; asked = e ∙ ap (λ n. Reading n o l) f })

-- bytes that no read of the share overlaps were not asked for
pub unasked_by : (s : HoldingsState) (holding offset len : ℕ) → ((h : Holding) (i position len2 : ℕ) → IsHolding s.table holding h → IsReadAt s.requests.entries h i position len2 → (position + len2 ≤ offset) ⊎ (offset + len ≤ position)) → IsUnasked s holding offset len
unasked_by s holding offset len apart h i r is there of_server =
    unread_apart h s.requests.entries i r offset len there of_server (λ position len2 read. apart h i position len2 is read)

-- the first read of a share of which nothing was asked
pub unasked_first : (s : HoldingsState) (holding : ℕ) → ((h : Holding) (i position len : ℕ) → IsHolding s.table holding h → IsReadAt s.requests.entries h i position len → ⊥) → IsUnasked s holding (next_offset Start) (next_length Start)
unasked_first s holding none = unasked_by s holding (next_offset Start) (next_length Start) (λ h i position len is read. absurd (none h i position len is read))

-- the next read of an opening that goes on
pub unasked_next : (s : BeginningsState) (verify : VerifyCapValue) (holding : ℕ) (b : Begun) (old new : Opening) (bytes : List ℕ) → Advances verify old bytes (Next new)
    → ((h : Holding) (i offset len : ℕ) → IsHolding s.holdings.table holding h → IsReadAt s.holdings.requests.entries h i offset len → IsReadUpTo old offset len)
    → IsUnasked s.holdings holding (next_offset new) (next_length new)
unasked_next s verify holding b old new bytes a reads =
    unasked_by s.holdings holding (next_offset new) (next_length new)
    (λ h i position len is read. inl (
    let e = ends old position len (reads h i position len is read) in
    let k = rise verify old new bytes a in
    let f = k.0 in
    let g = k.1 in
    omega (arith, e, f, g)))

-- ---- it is asked

next_taken : (es : List Request) (server share offset len now : ℕ) (h : Holding) → h.server ≡ server → h.share ≡ share → IsReadAt (es ++ first_request server (Reading share offset len) now ∷ []) h (length es) offset len
next_taken es server share offset len now h servers shares = record {
  request = first_request server (Reading share offset len) now;
  there = get_last es (first_request server (Reading share offset len) now);
  of_server = sym servers;
  asked = ap (λ n. Reading n offset len) (sym shares);
}

next_out : (es : List Request) (server share offset len now : ℕ) → IsOutAt (es ++ first_request server (Reading share offset len) now ∷ []) (length es)
next_out es server share offset len now = record {
  request = first_request server (Reading share offset len) now;
  there = get_last es (first_request server (Reading share offset len) now);
  waits = refl;
}

-- two positions have different shares
pub distinct_positions : {s : HoldingsState} → IsRight s → (i j : ℕ) (a b : Holding) → IsHolding s.table i a → IsHolding s.table j b → a.server ≡ b.server → a.share ≡ b.share → (i ≡ j → ⊥) → ⊥
distinct_positions right i j a b e f servers shares other = elim (cases_lt i j) [
  | inl lt ↦ right.distinct i j a b lt e f servers shares
  | inr le ↦ right.distinct j i b a (omega (arith, le, lt_of i j le other)) f e (sym servers) (sym shares)
]
  where
    lt_of : (i j : ℕ) → j ≤ i → (i ≡ j → ⊥) → j < i
    lt_of i j le other = elim (cases_lt j i) [ inl lt ↦ lt | inr ge ↦ absurd (other (omega (arith, le, ge))) ]

module _ (s u : BeginningsState) (holding : ℕ) (o : Opening) (known : AreBegun s) (a : AsksNext holding o s u) where
  abbrev pub es : List Request
  es = s.holdings.requests.entries

  abbrev pub h : Holding
  h = a.asks.0

  abbrev pub now_asked : List Request
  now_asked = es ++ first_request h.server (Reading h.share (next_offset o) (next_length o)) s.holdings.requests.clock ∷ []

  entries_are : u.holdings.requests.entries ≡ now_asked
  entries_are = ap (λ (x : HoldingsState). x.requests.entries) a.asks.2

  table_is : u.holdings.table ≡ s.holdings.table
  table_is = ap (λ (x : HoldingsState). x.table) a.asks.2

  -- what stands at a position afterwards: the one that is asked, or an old one
  pub begun_cases : (position : ℕ) (b : Begun) → IsBegun u position b → ((position ≡ holding) × (b.opening ≡ Some o) × (b.waiting ≡ Some (length es)) × (b.reader ≡ a.begun.reader)) ⊎ ((position ≡ holding → ⊥) × IsBegun s position b)
  begun_cases position b e = elim (set_cases s.begun holding position (record a.begun { opening = Some o; waiting = Some (length es) }) b (sym (ap (λ (l : List Begun). slice_get l position) a.is) ∙ e)) [
    | inl k ↦ inl (k.0, sym (ap (λ (x : Begun). x.opening) k.1), sym (ap (λ (x : Begun). x.waiting) k.1), sym (ap (λ (x : Begun). x.reader) k.1))
    | inr k ↦ inr k
  ]

  held_back : (position : ℕ) (g : Holding) → IsHolding u.holdings.table position g → IsHolding s.holdings.table position g
  held_back position g e = sym (ap (λ (t : TableState). slice_get t.holdings position) table_is) ∙ e

  pub known_next : IsRight u.holdings → ((g : Holding) → IsHolding s.holdings.table holding g → IsLedToBy (brought_of es g.server g.share) o) → AreBegun u
  known_next right led = record {
    right = right;
    counted = ap length a.is ∙ length-set s.begun holding _ ∙ known.counted ∙ sym (ap (λ (t : TableState). length t.holdings) table_is);
    each = λ position g b is there. elim (begun_cases position b there) [
      | inl k ↦ (
          let held : IsHolding s.holdings.table holding g = ap (slice_get s.holdings.table.holdings) (sym k.0) ∙ held_back position g is in
          let same : g ≡ h = one_there (slice_get s.holdings.table.holdings holding) g h held a.asks.1 in
          record {
            led = λ p e. (
                let one : o ≡ p = one_there b.opening o p k.1 e in
                subst (λ (q : Opening). IsLedToBy (brought_of u.holdings.requests.entries g.server g.share) q) one
                (led_grows es u.holdings.requests.entries g g o (grows_asks holding (next_offset o) (next_length o) s.holdings u.holdings a.asks).stays refl refl (led g held)));
            waits = λ request e. (
                let one : length es ≡ request = one_there b.waiting (length es) request k.2 e in
                subst (λ (q : Option Opening). IsNextAt u.holdings.requests.entries g q request) (sym k.1)
                (subst (λ (ns : List Request). IsReadAt ns g request (next_offset o) (next_length o)) (sym entries_are)
                (subst (λ (q : ℕ). IsReadAt now_asked g q (next_offset o) (next_length o)) one
                (next_taken es h.server h.share (next_offset o) (next_length o) s.holdings.requests.clock g (ap (λ (x : Holding). x.server) same) (ap (λ (x : Holding). x.share) same)))));
          })
      | inr k ↦ known_old position g b (held_back position g is) k.1
    ];
    held = held_follows s.holdings u.holdings known.held (offered_asks holding (next_offset o) (next_length o) s.holdings u.holdings a.asks) (ap (λ (t : TableState). length t.numbers) table_is)
        (λ position g e. (g, ap (λ (t : TableState). slice_get t.holdings position) table_is ∙ e, refl, refl));
  }
    where
      known_old : (position : ℕ) (g : Holding) (b : Begun) → IsHolding s.holdings.table position g → IsBegun s position b → IsBegunBy u.holdings.requests.entries g b
      known_old position g b is there = begun_by s u.holdings.requests.entries position g b known (grows_asks holding (next_offset o) (next_length o) s.holdings u.holdings a.asks)
          (record { held = g; is = is; of_server = refl; of_share = refl; begun = b; there = there; opening = refl; waiting = λ request e. e })

  -- ---- the shares are begun still

  -- those that are read are at it, where all but this one were
  pub opening_next : (but : ℕ → Type 0) → AreOpening but s → ((position : ℕ) → but position → position ≡ holding)
      → ((g : Holding) (i offset len : ℕ) → IsHolding s.holdings.table holding g → IsReadAt es g i offset len → IsReadUpTo o offset len)
      → ((g : Holding) → IsHolding s.holdings.table holding g → (g.left ≡ false) ⊎ IsTaken s.holdings.table holding g)
      → ((g : Holding) → IsHolding s.holdings.table holding g → (g.suspended ≡ false) × (a.begun.reader ≡ None))
      → AreOpening nobody u
  opening_next but opening only reads taken rest = record {
    each = λ position g b is there. elim (begun_cases position b there) [
      | inl k ↦ each_new position g b is k
      | inr k ↦ each_old position g b is (opening.each position g b (held_back position g is) k.1) k.0
    ];
    works = λ share position n e reading none. works share position n (sym (ap (λ (t : TableState). slice_get t.numbers share) table_is) ∙ e) reading (cases_eq position holding);
  }
    where
      each_new : (position : ℕ) (g : Holding) (b : Begun) → IsHolding u.holdings.table position g → (position ≡ holding) × (b.opening ≡ Some o) × (b.waiting ≡ Some (length es)) × (b.reader ≡ a.begun.reader) → IsOpening u position g b
      each_new position g b is k =
          let held : IsHolding s.holdings.table holding g = ap (slice_get s.holdings.table.holdings) (sym k.0) ∙ held_back position g is in
          record {
            reads = λ i offset len read. subst (λ (q : Option Opening). IsBeginning q offset len) (sym k.1)
                (by_read g held i offset len (read_pushed es (first_request h.server (Reading h.share (next_offset o) (next_length o)) s.holdings.requests.clock) g i offset len (subst (λ (ns : List Request). IsReadAt ns g i offset len) entries_are read)));
            taken = λ some. subst (λ (t : TableState). (g.left ≡ false) ⊎ IsTaken t position g) (sym table_is) (subst (λ (p : ℕ). (g.left ≡ false) ⊎ IsTaken s.holdings.table p g) (sym k.0) (taken g held));
            unread = k.3 ∙ (rest g held).1;
            choosable = (rest g held).0;
          }
        where
          by_read : (g : Holding) → IsHolding s.holdings.table holding g → (i offset len : ℕ) → IsReadAt es g i offset len ⊎ ((i ≡ length es) × (h.server ≡ g.server) × (Reading h.share (next_offset o) (next_length o) ≡ Reading g.share offset len)) → IsReadUpTo o offset len
          by_read g held i offset len (inl old) = reads g i offset len held old
          by_read g held i offset len (inr new) =
              let positions : next_offset o ≡ offset = cc in
              let lengths : next_length o ≡ len = cc in
              subst (λ n. IsReadUpTo o n len) positions (subst (λ n. IsReadUpTo o (next_offset o) n) lengths (next_is o))

      each_old : (position : ℕ) (g : Holding) (b : Begun) → IsHolding u.holdings.table position g → IsOpening s position g b → (position ≡ holding → ⊥) → IsOpening u position g b
      each_old position g b is old other = record {
        reads = λ i offset len read. by_read i offset len (read_pushed es (first_request h.server (Reading h.share (next_offset o) (next_length o)) s.holdings.requests.clock) g i offset len (subst (λ (ns : List Request). IsReadAt ns g i offset len) entries_are read));
        taken = λ some. subst (λ (t : TableState). (g.left ≡ false) ⊎ IsTaken t position g) (sym table_is) (old.taken some);
        unread = old.unread;
        choosable = old.choosable;
      }
        where
          by_read : (i offset len : ℕ) → IsReadAt es g i offset len ⊎ ((i ≡ length es) × (h.server ≡ g.server) × (Reading h.share (next_offset o) (next_length o) ≡ Reading g.share offset len)) → IsBeginning b.opening offset len
          by_read i offset len (inl was) = old.reads i offset len was
          by_read i offset len (inr new) =
              let shares : h.share ≡ g.share = cc in
              absurd (distinct_positions known.right position holding g h (held_back position g is) a.asks.1 (sym new.1) (sym shares) other)

      works : (share position : ℕ) (n : NumberState) → IsNumber s.holdings.table share n → n.reading ≡ Some position → (position ≡ holding) ⊎ (position ≡ holding → ⊥) → IsOut u position
      works share position n e reading (inl here) = record {
        begun = record a.begun { opening = Some o; waiting = Some (length es) };
        is = ap (λ (l : List Begun). slice_get l position) a.is ∙ ap (slice_get (slice_set s.begun holding (record a.begun { opening = Some o; waiting = Some (length es) }))) here ∙ get_set s.begun holding (record a.begun { opening = Some o; waiting = Some (length es) }) a.begun a.there;
        request = length es;
        waiting = refl;
        out = subst (λ (ns : List Request). IsOutAt ns (length es)) (sym entries_are) (next_out es h.server h.share (next_offset o) (next_length o) s.holdings.requests.clock);
      }
      works share position n e reading (inr other) =
          let w = opening.works share position n e reading (λ b. other (only position b)) in
          record {
            begun = w.begun;
            is = ap (λ (l : List Begun). slice_get l position) a.is ∙ get_other s.begun holding position (record a.begun { opening = Some o; waiting = Some (length es) }) other ∙ w.is;
            request = w.request;
            waiting = w.waiting;
            out = subst (λ (ns : List Request). IsOutAt ns w.request) (sym entries_are) (out_pushed es (first_request h.server (Reading h.share (next_offset o) (next_length o)) s.holdings.requests.clock) w.request w.out);
          }

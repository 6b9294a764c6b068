-- What becomes of the shares that servers hold while a file is read.
use Rattle.std.proofs.Common.{◌≡◌, ℕ, zero, suc, ◌+◌, ◌-◌, ◌<◌, ◌≤◌, ◌⊎◌, inl, inr, true, List, ◌++◌, length, replicate, Some, None, refl, sym, ap, ◌∙◌, arith}
use Rattle.std.specs.Prelude.{Bool, slice_get, slice_set, slice_index_or}
use Rattle.std.proofs.lemmas.Bool.{cases_eq, cases_lt}
use Rattle.std.proofs.lemmas.Option.{slice_get-get_or, slice_get_within}
use Rattle.lemmas.proofs.Positions.{get_set, get_other, set_cases, get_left}
use Rattle.lemmas.proofs.Options.{one_there}
use Rattle.request_record.specs.declared.requests.Asked.TheVariants.{Holdings, Reading}
use Rattle.request_record.specs.declared.requests.Request.{Request}
use Rattle.download_shares.specs.Right.{IsRight}
use Rattle.download_shares.specs.HoldingState.{HoldingsState, NumberState, TableState}
use Rattle.download_shares.specs.Table.{IsHolding, IsNumber, Suspends}
use Rattle.download_shares.specs.declared.holding.Holding.{Holding}
use Rattle.download_shares.proofs.Records.{AskedAlike}
use Rattle.download_shares.proofs.Telling.{append_cases}
use Rattle.download_shares.specs.BeginningMoves.{rested}
use Rattle.download_shares.specs.Reads.{IsReadAt}
use Rattle.download_shares.specs.BeginningState.{unbegun}
use Rattle.download_shares.specs.declared.begun.Begun.{Begun}
use Rattle.download_shares.proofs.Asking.{distinct_positions}
use Rattle.download_shares.proofs.Entries.{read_alike}
use Rattle.download_shares.proofs.Falling.{Falls, IsReadOn}
use Rattle.download_shares.proofs.Hearing.{Becomes, becomes_falls}
use Rattle.download_shares.proofs.Knowing.{shares_suspended}

-- ---- the holdings

-- a holding as it was
pub record WasHeld (t : TableState) (position : ℕ) (g : Holding) : Type 0 where
  pub held : Holding
  pub is : IsHolding t position held
  pub of_server : g.server ≡ held.server
  pub of_share : g.share ≡ held.share
  pub left : g.left ≡ true → held.left ≡ true

-- the holdings are of the same shares, fewer are left and read, and more may come behind them
pub record Follows (t u : TableState) : Type 0 where
  pub count : length u.numbers ≡ length t.numbers
  pub forth : (position : ℕ) (h : Holding) → IsHolding t position h
      → (g : Holding) × IsHolding u position g × (g.server ≡ h.server) × (g.share ≡ h.share)
  pub back : (position : ℕ) (g : Holding) → IsHolding u position g
      → WasHeld t position g ⊎ (length t.holdings ≤ position)
  pub kept : (share position : ℕ) (n : NumberState) → IsNumber t share n → n.reading ≡ Some position
      → IsReadOn u share position
  pub reading : (share position : ℕ) (m : NumberState) → IsNumber u share m → m.reading ≡ Some position
      → (n : NumberState) × IsNumber t share n × (n.reading ≡ Some position)

pub follows_becomes : (t u : TableState) → Becomes t u → Follows t u
follows_becomes t u b = record {
  count = b.count;
  forth = b.forth;
  back = λ position g e. elim (b.back position g e) [
    | inl w ↦ inl (record { held = w.held; is = w.is; of_server = w.of_server; of_share = w.of_share; left = w.left })
    | inr new ↦ inr new.0
  ];
  kept = b.kept;
  reading = b.reading;
}

pub follows_falls : (t u : TableState) → Falls t u → Follows t u
follows_falls t u f = follows_becomes t u (becomes_falls t u f)

pub follows_suspended : (holding : ℕ) (suspended : Bool) (t u : TableState) → Suspends suspended holding t u → Follows t u
follows_suspended holding suspended t u k = record {
  count = ap length k.0;
  forth = (shares_suspended suspended holding t u k).pairs.forth;
  back = λ position g e. inl (was position g (set_cases t.holdings holding position (record k.1.0 { suspended = suspended }) g (sym (ap (λ (l : List Holding). slice_get l position) k.1.1.holdings) ∙ e)));
  kept = λ share position n e reads. inl (n, ap (λ (l : List NumberState). slice_get l share) k.0 ∙ e, reads);
  reading = λ share position m e reads. (m, sym (ap (λ (l : List NumberState). slice_get l share) k.0) ∙ e, reads);
}
  where
    was : (position : ℕ) (g : Holding) → ((position ≡ holding) × (record k.1.0 { suspended = suspended } ≡ g)) ⊎ ((position ≡ holding → ⊥) × (slice_get t.holdings position ≡ Some g)) → WasHeld t position g
    was position g (inl here) = record {
      held = k.1.0;
      is = ap (slice_get t.holdings) here.0 ∙ k.1.1.is;
      of_server = sym (ap (λ (x : Holding). x.server) here.1);
      of_share = sym (ap (λ (x : Holding). x.share) here.1);
      left = λ l. ap (λ (x : Holding). x.left) here.1 ∙ l;
    }
    was position g (inr old) = record { held = g; is = old.1; of_server = refl; of_share = refl; left = λ l. l }

-- ---- their readers

pub record KeepsReaders (old new : List Begun) : Type 0 where
  pub forth : (x : ℕ) (b : Begun) → slice_get old x ≡ Some b
      → (c : Begun) × (slice_get new x ≡ Some c) × (c.reader ≡ b.reader)
  pub back : (x : ℕ) (c : Begun) → slice_get new x ≡ Some c
      → ((b : Begun) × (slice_get old x ≡ Some b) × (c.reader ≡ b.reader))
      ⊎ ((length old ≤ x) × (c.reader ≡ None))

pub readers_same : (old new : List Begun) → new ≡ old → KeepsReaders old new
readers_same old new e = record {
  forth = λ x b is. (b, ap (λ (l : List Begun). slice_get l x) e ∙ is, refl);
  back = λ x c is. inl (c, sym (ap (λ (l : List Begun). slice_get l x) e) ∙ is, refl);
}

repeated : (count i : ℕ) (x y : Begun) → slice_get (replicate count x) i ≡ Some y → x ≡ y
repeated zero i x y e = absurd cc
repeated (suc count) zero x y e = cc
repeated (suc count) (suc i) x y e = repeated count i x y e

pub readers_more : (count : ℕ) (old new : List Begun) → new ≡ old ++ replicate count unbegun → KeepsReaders old new
readers_more count old new e = record {
  forth = λ x b is. (b, ap (λ (l : List Begun). slice_get l x) e ∙ get_left old (replicate count unbegun) x b is, refl);
  back = λ x c is. elim (append_cases old (replicate count unbegun) x c (sym (ap (λ (l : List Begun). slice_get l x) e) ∙ is)) [
    | inl was ↦ inl (c, was, refl)
    | inr none ↦ inr (none.0, sym (ap (λ (b : Begun). b.reader) (repeated count (x - length old) unbegun c none.1)))
  ];
}

pub readers_rested : (holding : ℕ) (b : Begun) (old new : List Begun) → slice_get old holding ≡ Some b → new ≡ slice_set old holding (rested b) → KeepsReaders old new
readers_rested holding b old new there e = record {
  forth = λ x c is. forth x c is (cases_eq x holding);
  back = λ x c is. elim (set_cases old holding x (rested b) c (sym (ap (λ (l : List Begun). slice_get l x) e) ∙ is)) [
    | inl here ↦ inl (b, ap (slice_get old) here.0 ∙ there, sym (ap (λ (y : Begun). y.reader) here.1))
    | inr was ↦ inl (c, was.1, refl)
  ];
}
  where
    forth : (x : ℕ) (c : Begun) → slice_get old x ≡ Some c → (x ≡ holding) ⊎ (x ≡ holding → ⊥) → (d : Begun) × (slice_get new x ≡ Some d) × (d.reader ≡ c.reader)
    forth x c is (inl here) = (
      rested b,
      ap (λ (l : List Begun). slice_get l x) e ∙ ap (slice_get (slice_set old holding (rested b))) here ∙ get_set old holding (rested b) b there,
      ap (λ (y : Begun). y.reader) (one_there (slice_get old x) b c (ap (slice_get old) here ∙ there) is),
    )
    forth x c is (inr other) = (c, ap (λ (l : List Begun). slice_get l x) e ∙ get_other old holding x (rested b) other ∙ is, refl)

-- ---- what was asked

-- bytes of a share are asked of a holding
pub record IsReadOfSome (s : HoldingsState) (g : Holding) (i : ℕ) : Type 0 where
  pub after : s.servers ≤ i
  pub holding : ℕ
  pub owner : slice_get s.owners (i - s.servers) ≡ Some holding
  pub held : Holding
  pub is : IsHolding s.table holding held
  pub of_server : held.server ≡ g.server
  pub of_share : held.share ≡ g.share

pub read_of_some : (s : HoldingsState) (g : Holding) (i offset len : ℕ) → IsRight s → IsReadAt s.requests.entries g i offset len → IsReadOfSome s g i
read_of_some s g i offset len right read = elim (cases_lt i s.servers) [
  | inl low ↦ (let two : Reading g.share offset len ≡ Holdings = sym read.asked ∙ right.first i read.request read.there low in absurd cc)
  | inr high ↦ by high
]
  where
    by : s.servers ≤ i → IsReadOfSome s g i
    by high =
        let c = right.counted in
        let w = slice_get_within s.requests.entries i read.request read.there in
        let lt : i - s.servers < length s.owners = omega (arith, c, w, high) in
        let own : slice_get s.owners (i - s.servers) ≡ Some (slice_index_or s.owners (i - s.servers) 0) = slice_get-get_or s.owners (i - s.servers) 0 lt in
        let o = right.owned (i - s.servers) (slice_index_or s.owners (i - s.servers) 0) own in
        let at : s.servers + (i - s.servers) ≡ i = omega (arith, high) in
        let same : o.request ≡ read.request = one_there (slice_get s.requests.entries i) o.request read.request (ap (slice_get s.requests.entries) (sym at) ∙ o.there) read.there in
        let asks : Reading o.held.share o.read.offset o.read.len ≡ Reading g.share offset len = sym o.read.asked ∙ ap (λ (q : Request). q.asked) same ∙ read.asked in
        let shares : o.held.share ≡ g.share = cc in
        record {
          after = high;
          holding = slice_index_or s.owners (i - s.servers) 0;
          owner = own;
          held = o.held;
          is = o.is;
          of_server = sym o.read.of_server ∙ ap (λ (q : Request). q.server) same ∙ read.of_server;
          of_share = shares;
        }

-- nothing was asked of those that came behind the others
pub none_asked_behind : (s u : HoldingsState) (position : ℕ) (g : Holding) (i offset len : ℕ) → IsRight s → IsRight u → Follows s.table u.table → AskedAlike s.requests.entries u.requests.entries
    → IsHolding u.table position g → length s.table.holdings ≤ position → IsReadAt u.requests.entries g i offset len → ⊥
none_asked_behind s u position g i offset len right now follows alike is le read =
    let o = read_of_some s g i offset len right (read_alike s.requests.entries u.requests.entries g g i offset len alike refl refl read) in
    let f = follows.forth o.holding o.held o.is in
    let inside = slice_get_within s.table.holdings o.holding o.held o.is in
    distinct_positions now o.holding position f.0 g f.1 is (f.2 ∙ o.of_server) (f.3 ∙ o.of_share) (λ e. omega (arith, inside, le, e))

-- Shares are begun to be read still, as the holdings go on.
use Rattle.std.proofs.Common.{◌≡◌, ℕ, ◌+◌, ◌⊎◌, inl, inr, Bool, true, false, List, Option, Some, None, refl, sym, ap, subst, ◌∙◌, true≢false}
use Rattle.std.specs.Prelude.{slice_get, slice_set}
use Rattle.lemmas.proofs.Positions.{get_other, set_cases}
use Rattle.lemmas.proofs.Options.{one_there}
use Rattle.request_record.specs.declared.requests.Request.{Request}
use Rattle.request_record.specs.Record.{RequestsState}
use Rattle.share_reading.specs.declared.opening.Opening.{Opening}
use Rattle.download_shares.specs.Numbers.{read_count, taken_up}
use Rattle.download_shares.specs.HoldingState.{NumberState, TableState}
use Rattle.download_shares.specs.Table.{IsFree, IsHolding, IsNumber, TakesUp}
use Rattle.download_shares.specs.declared.holding.Holding.{Holding}
use Rattle.download_shares.proofs.Records.{AskedAlike}
use Rattle.download_shares.proofs.Tables.{count_taken}
use Rattle.download_shares.specs.BeginningMoves.{Rests, rested}
use Rattle.download_shares.specs.Opening.{AreOpening, IsOpening, IsOut, IsTaken, nobody}
use Rattle.download_shares.specs.Reads.{IsBeginning, IsOutAt, IsReadAt}
use Rattle.download_shares.specs.BeginningState.{BeginningsState, IsBegun}
use Rattle.download_shares.specs.declared.begun.Begun.{Begun}
use Rattle.download_shares.proofs.Entries.{read_alike}
use Rattle.download_shares.proofs.Falling.{Falls, IsReadOn, WasHolding}

-- ---- fewer are left

-- what is not left is not left
pub not_left : (b : Bool) → (b ≡ true → ⊥) → b ≡ false
not_left true none = absurd (none refl)
not_left false none = refl

still_taken : (t u : TableState) (position : ℕ) (h g : Holding) → g.share ≡ h.share → (g.left ≡ true → h.left ≡ true) → IsHolding u position g
    → ((share position : ℕ) (n : NumberState) → IsNumber t share n → n.reading ≡ Some position → IsReadOn u share position)
    → (h.left ≡ false) ⊎ IsTaken t position h → (g.left ≡ false) ⊎ IsTaken u position g
still_taken t u position h g share left is kept (inl gone) = inl (not_left g.left (λ e. true≢false (sym (left e) ∙ gone)))
still_taken t u position h g share left is kept (inr taken) = elim (kept h.share position taken.number taken.there taken.reading) [
  | inl on ↦ inr (record { number = on.0; there = subst (λ n. IsNumber u n on.0) (sym share) on.1; reading = on.2 })
  | inr none ↦ inl (not_left g.left (none g is))
]

pub opening_was : (s : BeginningsState) (ns : List Request) (u : TableState) (position : ℕ) (g : Holding) (b : Begun) (w : WasHolding s.holdings.table position g) → IsOpening s position w.held b → AskedAlike s.holdings.requests.entries ns
    → IsHolding u position g → ((share position : ℕ) (n : NumberState) → IsNumber s.holdings.table share n → n.reading ≡ Some position → IsReadOn u share position)
    → (x : BeginningsState) → x.holdings.requests.entries ≡ ns → x.holdings.table ≡ u → IsOpening x position g b
opening_was s ns u position g b w old alike is kept x entries table = record {
  reads = λ i offset len read. old.reads i offset len (read_alike s.holdings.requests.entries ns w.held g i offset len alike w.of_server w.of_share (subst (λ (es : List Request). IsReadAt es g i offset len) entries read));
  taken = λ some. subst (λ (t : TableState). (g.left ≡ false) ⊎ IsTaken t position g) (sym table) (still_taken s.holdings.table u position w.held g w.of_share w.left is kept (old.taken some));
  unread = old.unread;
  choosable = w.suspended ∙ old.choosable;
}

alike_none : (es : List Request) → AskedAlike es es
alike_none es i n e = record { request = n; there = e; same = refl; of_server = refl }

pub opening_falls : (s u : BeginningsState) (but more : ℕ → Type 0) → AreOpening but s → AskedAlike s.holdings.requests.entries u.holdings.requests.entries → Falls s.holdings.table u.holdings.table
    → u.begun ≡ s.begun → ((position : ℕ) → but position → more position)
    → ((share position : ℕ) (m : NumberState) → IsNumber u.holdings.table share m → m.reading ≡ Some position → ¬ more position → IsOut s position → IsOut u position) → AreOpening more u
opening_falls s u but more opening alike falls same wider stay = record {
  each = λ position g b is there. (
      let w = falls.back position g is in
      opening_was s u.holdings.requests.entries u.holdings.table position g b w (opening.each position w.held b w.is (sym (ap (λ (l : List Begun). slice_get l position) same) ∙ there)) alike is falls.kept u refl refl);
  works = λ share position m e reading none. (
      let n = falls.reading share position m e reading in
      stay share position m e reading none (opening.works share position n.0 n.1 n.2 (λ b. none (wider position b))));
}

-- the one that is not at it is not read
pub narrowed : (s : BeginningsState) (holding : ℕ) → AreOpening (λ other. other ≡ holding) s → ((share : ℕ) (m : NumberState) → IsNumber s.holdings.table share m → m.reading ≡ Some holding → ⊥) → AreOpening nobody s
narrowed s holding opening gone = record {
  each = opening.each;
  works = λ share position m is reading none. opening.works share position m is reading (λ e. gone share m is (reading ∙ ap Some e));
}

-- one is blamed, and nothing is asked
pub opening_blamed : (s u : BeginningsState) (holding : ℕ) → AreOpening (λ other. other ≡ holding) s → u.holdings.requests ≡ s.holdings.requests → Falls s.holdings.table u.holdings.table → u.begun ≡ s.begun
    → ((share : ℕ) (m : NumberState) → IsNumber u.holdings.table share m → m.reading ≡ Some holding → ⊥) → AreOpening nobody u
opening_blamed s u holding opening e falls same gone =
    let wide = opening_falls s u (λ other. other ≡ holding) (λ other. other ≡ holding) opening
    (subst (λ (r : RequestsState). AskedAlike s.holdings.requests.entries r.entries) (sym e) (alike_none s.holdings.requests.entries)) falls same (λ position b. b)
    (λ share position m is reading none out. record {
      begun = out.begun;
      is = ap (λ (l : List Begun). slice_get l position) same ∙ out.is;
      request = out.request;
      waiting = out.waiting;
      out = subst (λ (r : RequestsState). IsOutAt r.entries out.request) (sym e) out.out;
    }) in
    narrowed u holding wide gone

-- an answer is taken
pub opening_rests : (s u : BeginningsState) (holding : ℕ) → AreOpening (λ other. other ≡ holding) s → Rests holding s u → AreOpening (λ other. other ≡ holding) u
opening_rests s u holding opening r = subst (AreOpening (λ other. other ≡ holding)) (sym r.is) (record {
  each = λ position h b is there. elim (set_cases s.begun holding position (rested r.begun) b there) [
    | inl k ↦ (
        let old = opening.each position h r.begun is (ap (slice_get s.begun) k.0 ∙ r.there) in
        subst (IsOpening (record s { begun = slice_set s.begun holding (rested r.begun) }) position h) k.1
        (record { reads = old.reads; taken = old.taken; unread = old.unread; choosable = old.choosable }))
    | inr k ↦ (
        let old = opening.each position h b is k.1 in
        record { reads = old.reads; taken = old.taken; unread = old.unread; choosable = old.choosable })
  ];
  works = λ share position n is reading none. (
      let out = opening.works share position n is reading none in
      record { begun = out.begun; is = get_other s.begun holding position (rested r.begun) none ∙ out.is; request = out.request; waiting = out.waiting; out = out.out });
})

-- ---- one is taken up

pub count_one : (t u : TableState) (holding : ℕ) (h : Holding) → IsHolding t holding h → IsFree t h → TakesUp holding t u → read_count u.numbers ≡ read_count t.numbers + 1
count_one t u holding h is free k =
    let same : h ≡ k.0 = one_there (slice_get t.holdings holding) h k.0 is k.1 in
    let number : free.number ≡ k.3.number = one_there (slice_get t.numbers h.share) free.number k.3.number free.there (ap (λ (x : Holding). slice_get t.numbers x.share) same ∙ k.3.is) in
    let unread : k.3.number.reading ≡ None = sym (ap (λ (n : NumberState). n.reading) number) ∙ free.unread in
    ap read_count k.3.numbers ∙ count_taken t.numbers k.0.share holding k.3.number (record k.3.number { reading = taken_up holding k.3.number.reading }) k.3.is unread (ap (taken_up holding) unread)

pub opening_taken : (s u : BeginningsState) (holding : ℕ) (h : Holding) → AreOpening nobody s → IsHolding s.holdings.table holding h → IsFree s.holdings.table h → TakesUp holding s.holdings.table u.holdings.table
    → u.holdings.requests ≡ s.holdings.requests → u.begun ≡ s.begun → AreOpening (λ other. other ≡ holding) u
opening_taken s u holding h opening is free k e same = record {
  each = λ position g b held there. (
      let old = opening.each position g b (sym (ap (λ (l : List Holding). slice_get l position) k.2) ∙ held) (sym (ap (λ (l : List Begun). slice_get l position) same) ∙ there) in
      record {
        reads = λ i offset len. subst (λ (r : RequestsState). IsReadAt r.entries g i offset len → IsBeginning b.opening offset len) (sym e) (old.reads i offset len);
        taken = λ some. taken position g (old.taken some);
        unread = old.unread;
        choosable = old.choosable;
      });
  works = λ share position n there reading none. works share position n reading none (set_cases s.holdings.table.numbers k.0.share share (record k.3.number { reading = taken_up holding k.3.number.reading }) n (sym (ap (λ (l : List NumberState). slice_get l share) k.3.numbers) ∙ there));
}
  where
    unread : k.3.number.reading ≡ None
    unread =
        let one : h ≡ k.0 = one_there (slice_get s.holdings.table.holdings holding) h k.0 is k.1 in
        let number : free.number ≡ k.3.number = one_there (slice_get s.holdings.table.numbers h.share) free.number k.3.number free.there (ap (λ (x : Holding). slice_get s.holdings.table.numbers x.share) one ∙ k.3.is) in
        sym (ap (λ (n : NumberState). n.reading) number) ∙ free.unread

    taken : (position : ℕ) (g : Holding) → (g.left ≡ false) ⊎ IsTaken s.holdings.table position g → (g.left ≡ false) ⊎ IsTaken u.holdings.table position g
    taken position g (inl gone) = inl gone
    taken position g (inr t) = inr (record {
      number = t.number;
      there = ap (λ (l : List NumberState). slice_get l g.share) k.3.numbers ∙ get_other s.holdings.table.numbers k.0.share g.share (record k.3.number { reading = taken_up holding k.3.number.reading })
          (λ here.
          let one : t.number ≡ k.3.number = one_there (slice_get s.holdings.table.numbers g.share) t.number k.3.number t.there (ap (slice_get s.holdings.table.numbers) here ∙ k.3.is) in
          let two : Some position ≡ None = sym t.reading ∙ ap (λ (n : NumberState). n.reading) one ∙ unread in
          absurd cc) ∙ t.there;
      reading = t.reading;
    })

    works : (share position : ℕ) (n : NumberState) → n.reading ≡ Some position → (position ≡ holding → ⊥)
        → ((share ≡ k.0.share) × (record k.3.number { reading = taken_up holding k.3.number.reading } ≡ n)) ⊎ ((share ≡ k.0.share → ⊥) × (slice_get s.holdings.table.numbers share ≡ Some n)) → IsOut u position
    works share position n reading none (inl here) =
        let now : taken_up holding k.3.number.reading ≡ Some holding = ap (taken_up holding) unread in
        let two : Some holding ≡ Some position = sym now ∙ ap (λ (x : NumberState). x.reading) here.1 ∙ reading in
        absurd (none (let one : holding ≡ position = cc in sym one))
    works share position n reading none (inr old) =
        let out = opening.works share position n old.1 reading (λ x. x) in
        record {
          begun = out.begun;
          is = ap (λ (l : List Begun). slice_get l position) same ∙ out.is;
          request = out.request;
          waiting = out.waiting;
          out = subst (λ (r : RequestsState). IsOutAt r.entries out.request) (sym e) out.out;
        }

-- nothing was asked of one that is free
pub unread_free : (s : BeginningsState) (holding : ℕ) (h : Holding) (b : Begun) → AreOpening nobody s → IsHolding s.holdings.table holding h → IsFree s.holdings.table h → IsBegun s holding b
    → (i offset len : ℕ) → IsReadAt s.holdings.requests.entries h i offset len → ⊥
unread_free s holding h b opening is free there i offset len read =
    let o = opening.each holding h b is there in
    by b.opening refl o (o.reads i offset len read)
  where
    not_free : (h.left ≡ false) ⊎ IsTaken s.holdings.table holding h → ⊥
    not_free (inl gone) = true≢false (sym free.left ∙ gone)
    not_free (inr t) =
        let one : t.number ≡ free.number = one_there (slice_get s.holdings.table.numbers h.share) t.number free.number t.there free.there in
        let two : Some holding ≡ None = sym t.reading ∙ ap (λ (n : NumberState). n.reading) one ∙ free.unread in
        absurd cc

    by : (o : Option Opening) → b.opening ≡ o → IsOpening s holding h b → IsBeginning b.opening offset len → ⊥
    by None e p r = subst (λ (q : Option Opening). IsBeginning q offset len) e r
    by (Some q) e p r = not_free (p.taken (λ f. (let two : Some q ≡ None = sym e ∙ f in absurd cc)))

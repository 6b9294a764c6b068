-- Nothing more is made now: something is waited for, or too few shares are left.
use Rattle.std.proofs.Common.{◌≡◌, ℕ, zero, suc, ◌<◌, inl, inr, Bool, true, false, cond, List, [], ◌∷◌, Contains, Option, Some, None, refl, ap, subst, ◌∙◌, arith}
use Rattle.std.specs.Prelude.{slice_get, slice_index_or}
use Rattle.std.proofs.lemmas.List.{length-map}
use Rattle.std.proofs.lemmas.List.Sums.{sum_by-cons}
use Rattle.std.proofs.lemmas.Option.{slice_get-get_or}
use Rattle.lemmas.proofs.Members.{contains_map, contains_none}
use Rattle.lemmas.proofs.Options.{one_there}
use Rattle.request_record.specs.declared.requests.Request.{Request}
use Rattle.request_record.specs.Record.{is_outstanding, outstanding_count}
use Rattle.download_shares.specs.Left.{IsBlamed, IsGone, IsLeft, IsOffered}
use Rattle.download_shares.specs.Numbers.{no_holding}
use Rattle.download_shares.specs.Table.{IsHolding, IsNumber, IsTable, NoneIsFree}
use Rattle.download_shares.specs.declared.holding.Holding.{Holding}
use Rattle.download_shares.specs.Reads.{IsOutAt}
use Rattle.download_shares.specs.BeginningState.{BeginningsState}
use Rattle.download_file.specs.Making.{SomeWaits}
use Rattle.download_file.specs.State.{CopyState, IsHeard, IsLive, ReaderState, copy, copy_of, numbers_of, share_in}
use Rattle.download_file.proofs.ListLemmas.{get_unmapped}
use Rattle.download_core.specs.Reading.{AreReading}
use Rattle.download_core.specs.ReadingState.{ReadingState}
use Rattle.download_core.specs.ReadingSteps.{IsAtEnd, IsStuck}

abbrev weight : Request → ℕ
weight r = cond (is_outstanding r.outcome) 1 0

-- where nothing is waited for, no request is out
pub none_out : (es : List Request) (i : ℕ) → outstanding_count es ≡ 0 → IsOutAt es i → ⊥
none_out es i zero_is o = by es i o.there zero_is
  where
    by : (xs : List Request) (j : ℕ) → slice_get xs j ≡ Some o.request → outstanding_count xs ≡ 0 → ⊥
    by [] j e none = cc
    by (x ∷ xs) zero e none =
        let one : x ≡ o.request = cc in
        let w : weight x ≡ 1 = ap (λ (b : Bool). cond b 1 0) (ap (λ (r : Request). is_outstanding r.outcome) one ∙ o.waits) in
        let s = sum_by-cons weight x xs in
        omega (arith, w, s, none)
    by (x ∷ xs) (suc j) e none = by xs j e (let s = sum_by-cons weight x xs in omega (arith, s, none))

module _ (s : BeginningsState) (r : ReadingState) (reading : AreReading s r) (table : IsTable s.holdings.table) (idle : outstanding_count s.holdings.requests.entries ≡ 0) where
  -- what waits of a reader would be out
  none_waits : SomeWaits r.file → ⊥
  none_waits w =
      let k = reading.linked.live w.reader (inl w.live) in
      none_out s.holdings.requests.entries w.position idle
      (reading.awaits.first w.reader w.position k.held (record { live = inl w.live; holding = k.holding; of = k.of; is = k.is; left = k.left }) (λ e. cc) w.first)

  -- the number of a holding that is left is one that is read
  module _ (none : NoneIsFree s.holdings.table) (empty : r.file.aside ≡ []) where
    -- none is put aside
    read_now : (reader : ℕ) → IsHeard r.file reader → IsLive r.file reader
    read_now reader (inl live) = live
    read_now reader (inr aside) = absurd (contains_none reader (subst (λ (l : List ℕ). Contains l reader) empty aside))

    read_of : (position : ℕ) (h : Holding) → IsHolding s.holdings.table position h → h.left ≡ true → Contains (numbers_of r.file.readers r.file.live) h.share
    read_of position h is left = by_choice h.suspended refl
      where
        number : IsNumber s.holdings.table h.share (slice_index_or s.holdings.table.numbers h.share no_holding)
        number = slice_get-get_or s.holdings.table.numbers h.share no_holding (table.below position h is)

        reader_of : (p : ℕ) → (slice_index_or s.holdings.table.numbers h.share no_holding).reading ≡ Some p → Contains (numbers_of r.file.readers r.file.live) h.share
        reader_of p reads =
            let k = reading.busy.taken h.share p _ number reads in
            let f = reading.linked.kept.forth k.0 p k.1 in
            let own = table.positions h.share p _ number (table.reading h.share p _ number reads) in
            let same : f.held ≡ own.0 = one_there (slice_get s.holdings.table.holdings p) f.held own.0 f.is own.1 in
            let live = read_now k.0 (reading.linked.kept.alive p k.0 f.held f.begun f.is f.there f.of_reader (ap (λ (x : Holding). x.left) same ∙ own.3)) in
            let at = get_unmapped (λ (x : ReaderState). copy_of x) r.file.readers k.0 (copy f.held.server f.held.share) f.reads in
            let share : share_in (slice_get r.file.readers k.0) ≡ h.share = ap share_in at.1 ∙ ap (λ (x : CopyState). x.share) at.2 ∙ ap (λ (x : Holding). x.share) same ∙ own.2 in
            subst (Contains (numbers_of r.file.readers r.file.live)) share (contains_map (λ x. share_in (slice_get r.file.readers x)) r.file.live k.0 live)

        by_number : (o : Option ℕ) → (slice_index_or s.holdings.table.numbers h.share no_holding).reading ≡ o → h.suspended ≡ false → Contains (numbers_of r.file.readers r.file.live) h.share
        by_number None e open_now = absurd (none position h is (record { left = left; choosable = open_now; number = slice_index_or s.holdings.table.numbers h.share no_holding; there = number; unread = e }))
        by_number (Some p) e open_now = reader_of p e

        by_choice : (b : Bool) → h.suspended ≡ b → Contains (numbers_of r.file.readers r.file.live) h.share
        by_choice true e = absurd (let o = reading.busy.suspended position h is left e (λ f. cc) in none_out s.holdings.requests.entries o.request idle o.out)
        by_choice false e = by_number (slice_index_or s.holdings.table.numbers h.share no_holding).reading refl e

    left_numbers : (server share : ℕ) → share < r.file.handout.geometry.total → IsOffered s.holdings.requests.entries server share → IsLeft s.holdings.requests.entries s.holdings.blamed server share
        → Contains (numbers_of r.file.readers r.file.live) share
    left_numbers server share below offered left =
        let total = reading.linked.kept.total in
        let k = reading.linked.kept.known.held server share offered (omega (arith, below, total)) in
        subst (Contains (numbers_of r.file.readers r.file.live)) k.4 (by k.1.left refl)
      where
        by : (b : Bool) → (reading.linked.kept.known.held server share offered (let total = reading.linked.kept.total in omega (arith, below, total))).1.left ≡ b
            → Contains (numbers_of r.file.readers r.file.live) (reading.linked.kept.known.held server share offered (let total = reading.linked.kept.total in omega (arith, below, total))).1.share
        by true e = (let k = reading.linked.kept.known.held server share offered (let total = reading.linked.kept.total in omega (arith, below, total)) in read_of k.0 k.1 k.2 e)
        by false e =
            let k = reading.linked.kept.known.held server share offered (let total = reading.linked.kept.total in omega (arith, below, total)) in
            elim (reading.linked.kept.known.right.others k.0 k.1 k.2 e) [
              | inl gone ↦ absurd (left.0 (subst (λ n. IsGone s.holdings.requests.entries n share) k.3 (subst (IsGone s.holdings.requests.entries k.1.server) k.4 gone)))
              | inr blamed ↦ absurd (left.1 (subst (λ n. IsBlamed s.holdings.blamed n share) k.3 (subst (IsBlamed s.holdings.blamed k.1.server) k.4 blamed)))
            ]

  pub at_end : IsStuck s r → IsAtEnd s r
  at_end (inr waits) = absurd (none_waits waits)
  at_end (inl few) = record {
    idle = idle;
    few = record {
      numbers = numbers_of r.file.readers r.file.live;
      few = (let l = length-map r.file.live (λ x. share_in (slice_get r.file.readers x)) in let f = few.0 in omega (arith, l, f));
      all = left_numbers few.1.0 few.1.1;
    };
  }

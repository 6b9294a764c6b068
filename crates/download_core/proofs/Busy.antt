-- What is kept of the shares that may not be read now.
use Rattle.std.proofs.Common.{◌≡◌, ℕ, ◌⊎◌, inl, inr, true, List, [], ◌∷◌, ◌++◌, length, Option, Some, None, refl, sym, ap, ◌∙◌}
use Rattle.std.specs.Prelude.{slice_get, slice_set}
use Rattle.std.proofs.lemmas.Bool.{cases_eq}
use Rattle.std.proofs.lemmas.Option.{slice_get_within}
use Rattle.lemmas.proofs.Positions.{get_set, get_other, set_cases, get_last, get_push}
use Rattle.lemmas.proofs.Options.{one_there}
use Rattle.download_shares.specs.Numbers.{taken_up}
use Rattle.download_shares.specs.HoldingState.{HoldingsState, NumberState, TableState}
use Rattle.download_shares.specs.Table.{IsHolding, IsNumber}
use Rattle.download_shares.specs.declared.holding.Holding.{Holding}
use Rattle.download_shares.specs.BeginningMoves.{GoesOn, IsReaderOf}
use Rattle.download_shares.specs.Opening.{IsOut}
use Rattle.download_shares.specs.BeginningState.{BeginningsState}
use Rattle.download_shares.specs.declared.begun.Begun.{Begun}
use Rattle.download_shares.proofs.Falling.{Falls}
use Rattle.download_core.specs.Reading.{AreBusy, IsOf}
use Rattle.download_core.specs.ReadingState.{ReadingState}
use Rattle.download_core.proofs.Awaited.{Stays, goes_stays, out_stays}

pub busy_file : (but : Option ℕ) (s : BeginningsState) (r q : ReadingState) → q.holdings ≡ r.holdings → AreBusy but s r → AreBusy but s q
busy_file but s r q same before = record {
  suspended = before.suspended;
  taken = λ share x n is reads. (let k = before.taken share x n is reads in (k.0, ap (λ (l : List ℕ). slice_get l k.0) same ∙ k.1));
}

-- what is out still is
pub still_out : (s t : BeginningsState) (position : ℕ) → slice_get t.begun position ≡ slice_get s.begun position → Stays s.holdings.requests.entries t.holdings.requests.entries → IsOut s position → IsOut t position
still_out s t position same stays out = record {
  begun = out.begun;
  is = same ∙ out.is;
  request = out.request;
  waiting = out.waiting;
  out = out_stays s.holdings.requests.entries t.holdings.requests.entries out.request stays out.out;
}

pub busy_falls : (s t : BeginningsState) (r : ReadingState) → AreBusy None s r → Falls s.holdings.table t.holdings.table
    → ((position : ℕ) (h : Holding) → IsHolding t.holdings.table position h → h.left ≡ true → IsOut s position → IsOut t position) → AreBusy None t r
busy_falls s t r before falls out = record {
  suspended = λ position h is left busy none. (
      let w = falls.back position h is in
      out position h is left (before.suspended position w.held w.is (w.left left) (sym w.suspended ∙ busy) (λ e. cc)));
  taken = λ share position m is reads. (let n = falls.reading share position m is reads in before.taken share position n.0 n.1 n.2);
}

-- more is asked
pub busy_goes : (s t : BeginningsState) (r : ReadingState) → AreBusy None s r → t.holdings.table ≡ s.holdings.table → t.begun ≡ s.begun → GoesOn s t → AreBusy None t r
busy_goes s t r before table begun goes = record {
  suspended = λ position h is left busy none.
      still_out s t position (ap (λ (l : List Begun). slice_get l position) begun) (goes_stays s t goes)
      (before.suspended position h (sym (ap (λ (u : TableState). slice_get u.holdings position) table) ∙ is) left busy none);
  taken = λ share position n is reads. before.taken share position n (sym (ap (λ (u : TableState). slice_get u.numbers share) table) ∙ is) reads;
}

-- ---- a reader begins

pub busy_begun : (s t : BeginningsState) (r q : ReadingState) (holding reader : ℕ) → AreBusy None s r → IsReaderOf holding reader s t → reader ≡ length r.holdings → q.holdings ≡ r.holdings ++ holding ∷ [] → AreBusy None t q
busy_begun s t r q holding reader before reads position pushed = record {
  suspended = λ x h is left busy none. out x (before.suspended x h (sym (ap (λ (l : List Holding). slice_get l x) reads.takes.2) ∙ is) left busy none) (cases_eq x holding);
  taken = λ share x n is taken. taken_by share x n taken
      (set_cases s.holdings.table.numbers reads.takes.0.share share (record reads.takes.3.number { reading = taken_up holding reads.takes.3.number.reading }) n
      (sym (ap (λ (l : List NumberState). slice_get l share) reads.takes.3.numbers) ∙ is));
}
  where
    stays : Stays s.holdings.requests.entries t.holdings.requests.entries
    stays i e is = ap (λ (x : HoldingsState). slice_get x.requests.entries i) reads.holdings ∙ is

    out : (x : ℕ) → IsOut s x → (x ≡ holding) ⊎ (x ≡ holding → ⊥) → IsOut t x
    out x o (inr other) = still_out s t x (ap (λ (l : List Begun). slice_get l x) reads.is ∙ get_other s.begun holding x (record reads.begun { reader = Some reader }) other) stays o
    out x o (inl here) =
        let one : reads.begun ≡ o.begun = one_there (slice_get s.begun x) reads.begun o.begun (ap (slice_get s.begun) here ∙ reads.there) o.is in
        record {
          begun = record reads.begun { reader = Some reader };
          is = ap (λ (l : List Begun). slice_get l x) reads.is ∙ ap (slice_get (slice_set s.begun holding (record reads.begun { reader = Some reader }))) here
              ∙ get_set s.begun holding (record reads.begun { reader = Some reader }) reads.begun reads.there;
          request = o.request;
          waiting = ap (λ (b : Begun). b.waiting) one ∙ o.waiting;
          out = out_stays s.holdings.requests.entries t.holdings.requests.entries o.request stays o.out;
        }

    old : (share x : ℕ) (n : NumberState) → IsNumber s.holdings.table share n → n.reading ≡ Some x → (p : ℕ) × IsOf q p x
    old share x n is taken =
        let k = before.taken share x n is taken in
        (k.0, ap (λ (l : List ℕ). slice_get l k.0) pushed ∙ get_push r.holdings holding k.0 (slice_get_within r.holdings k.0 x k.1) ∙ k.1)

    taken_by : (share x : ℕ) (n : NumberState) → n.reading ≡ Some x
        → ((share ≡ reads.takes.0.share) × (record reads.takes.3.number { reading = taken_up holding reads.takes.3.number.reading } ≡ n)) ⊎ ((share ≡ reads.takes.0.share → ⊥) × (slice_get s.holdings.table.numbers share ≡ Some n)) → (p : ℕ) × IsOf q p x
    taken_by share x n taken (inr was) = old share x n was.1 taken
    taken_by share x n taken (inl here) = by reads.takes.3.number.reading refl
      where
        now : taken_up holding reads.takes.3.number.reading ≡ Some x
        now = ap (λ (m : NumberState). m.reading) here.1 ∙ taken

        by : (o : Option ℕ) → reads.takes.3.number.reading ≡ o → (p : ℕ) × IsOf q p x
        by None e =
            let two : Some holding ≡ Some x = sym (ap (taken_up holding) e) ∙ now in
            let one : holding ≡ x = cc in
            (length r.holdings, ap (λ (l : List ℕ). slice_get l (length r.holdings)) pushed ∙ get_last r.holdings holding ∙ ap Some one)
        by (Some y) e = old share x reads.takes.3.number (ap (slice_get s.holdings.table.numbers) here.0 ∙ reads.takes.3.is) (e ∙ sym (ap (taken_up holding) e) ∙ now)

-- A share is begun to be read.
use Rattle.std.proofs.Common.{◌≡◌, ℕ, zero, suc, ◌+◌, ◌<◌, inr, List, [], ◌∷◌, ◌++◌, length, Some, None, refl, sym, ap, subst, ◌∙◌, arith}
use Rattle.std.specs.Prelude.{slice_get, slice_set}
use Rattle.std.proofs.lemmas.List.{append-nil, append_assoc}
use Rattle.std.proofs.lemmas.Option.{slice_get_within}
use Rattle.lemmas.proofs.Positions.{get_set}
use Rattle.request_record.proofs.StepLaws.{asked_joined}
use Rattle.lemmas.proofs.Options.{one_there}
use Rattle.share_reading.specs.Opening.{next_length, next_offset}
use Rattle.share_reading.specs.declared.opening.Opening.{Opening}
use Rattle.share_reading.specs.declared.opening.Opening.TheVariants.{Start}
use Rattle.request_record.specs.declared.requests.Asked.TheVariants.{Reading}
use Rattle.request_record.specs.Record.{RequestsState, asked_all}
use Rattle.download_shares.specs.HoldingMoves.{Asks, Blames, IsUnasked}
use Rattle.download_shares.specs.Numbers.{read_count, taken_up}
use Rattle.download_shares.specs.Right.{IsRight}
use Rattle.download_shares.specs.HoldingState.{HoldingsState, NumberState}
use Rattle.download_shares.specs.Table.{IsFree, IsHolding, IsNumber, TakesUp}
use Rattle.download_shares.specs.declared.holding.Blame.{Blame}
use Rattle.download_shares.specs.declared.holding.Holding.{Holding}
use Rattle.share_verify.specs.declared.check.Check.{Check}
use Rattle.download_shares.specs.Known.{AreBegun}
use Rattle.download_shares.specs.BeginningMoves.{AsksNext, GoesOn}
use Rattle.download_shares.specs.Opening.{AreOpening, nobody}
use Rattle.download_shares.specs.Reads.{IsReadAt}
use Rattle.download_shares.specs.BeginningState.{BeginningsState, IsBegun}
use Rattle.download_shares.specs.declared.begun.Begun.{Begun}
use Rattle.download_shares.proofs.Asking.{known_next, opening_next, unasked_first}
use Rattle.download_shares.proofs.Knowing.{keeps_same, known_same, shares_taken}
use Rattle.download_shares.proofs.Openings.{count_one, opening_taken, unread_free}

-- ---- more is asked and blamed

pub goes_none : (s u : BeginningsState) → u.holdings.requests ≡ s.holdings.requests → u.holdings.blamed ≡ s.holdings.blamed → GoesOn s u
goes_none s u e f = record { asks = []; requests = e; more = []; blamed = f ∙ sym (append-nil s.holdings.blamed) }

pub goes_asked : (s u : BeginningsState) (holding offset len : ℕ) → Asks holding offset len s.holdings u.holdings → GoesOn s u
goes_asked s u holding offset len a = record {
  asks = (a.0.server, Reading a.0.share offset len) ∷ [];
  requests = ap (λ (x : HoldingsState). x.requests) a.2;
  more = [];
  blamed = ap (λ (x : HoldingsState). x.blamed) a.2 ∙ sym (append-nil s.holdings.blamed);
}

pub goes_blamed : (s u : BeginningsState) (holding : ℕ) (check : Check) → Blames holding check s.holdings u.holdings → GoesOn s u
goes_blamed s u holding check b = record {
  asks = [];
  requests = ap (λ (x : HoldingsState). x.requests) b.others;
  more = record { server = b.held.server; share = b.held.share; check = check } ∷ [];
  blamed = b.blamed;
}

pub goes_from : (s t u : BeginningsState) → t.holdings.requests ≡ s.holdings.requests → t.holdings.blamed ≡ s.holdings.blamed → GoesOn t u → GoesOn s u
goes_from s t u e f g = record {
  asks = g.asks;
  requests = g.requests ∙ ap (asked_all g.asks) e;
  more = g.more;
  blamed = g.blamed ∙ ap (λ (l : List Blame). l ++ g.more) f;
}

pub goes_trans : (s t u : BeginningsState) → GoesOn s t → GoesOn t u → GoesOn s u
goes_trans s t u f g = record {
  asks = f.asks ++ g.asks;
  requests = g.requests ∙ ap (asked_all g.asks) f.requests ∙ sym (asked_joined f.asks g.asks s.holdings.requests);
  more = f.more ++ g.more;
  blamed = g.blamed ∙ ap (λ (l : List Blame). l ++ g.more) f.blamed ∙ append_assoc s.holdings.blamed f.more g.more;
}

pub goes_next : (s u : BeginningsState) (holding : ℕ) (o : Opening) → AsksNext holding o s u → GoesOn s u
goes_next s u holding o a = goes_asked s u holding (next_offset o) (next_length o) a.asks

-- ---- it is taken up, and asked for its first bytes

module _ (s t : BeginningsState) (holding : ℕ) (h : Holding) (known : AreBegun s) (opening : AreOpening nobody s) (is : IsHolding s.holdings.table holding h) (free : IsFree s.holdings.table h)
    (takes : TakesUp holding s.holdings.table t.holdings.table) (others : t.holdings ≡ record s.holdings { table = t.holdings.table }) (right : IsRight t.holdings) (same : t.begun ≡ s.begun) where
  abbrev pub requests_are : t.holdings.requests ≡ s.holdings.requests
  requests_are = ap (λ (x : HoldingsState). x.requests) others

  abbrev pub blamed_are : t.holdings.blamed ≡ s.holdings.blamed
  blamed_are = ap (λ (x : HoldingsState). x.blamed) others

  abbrev pub now : NumberState
  now = record takes.3.number { reading = taken_up holding takes.3.number.reading }

  held_same : (g : Holding) → IsHolding t.holdings.table holding g → g ≡ h
  held_same g e = one_there (slice_get s.holdings.table.holdings holding) g h (sym (ap (λ (l : List Holding). slice_get l holding) takes.2) ∙ e) is

  begun_at : (b : Begun) × IsBegun s holding b
  begun_at = (
      let lt : holding < length s.begun = (let w = slice_get_within s.holdings.table.holdings holding h is in let c = known.counted in omega (arith, w, c)) in
      some s.begun holding lt)
    where
      some : (xs : List Begun) (i : ℕ) → i < length xs → (b : Begun) × (slice_get xs i ≡ Some b)
      some [] i lt = absurd (omega (arith, lt))
      some (x ∷ xs) zero lt = (x, refl)
      some (x ∷ xs) (suc i) lt = some xs i (omega (arith, lt))

  none_read : (g : Holding) (i offset len : ℕ) → IsHolding t.holdings.table holding g → IsReadAt t.holdings.requests.entries g i offset len → ⊥
  none_read g i offset len e read =
      let b = begun_at in
      unread_free s holding h b.0 opening is free b.1 i offset len
      (subst (λ (x : Holding). IsReadAt s.holdings.requests.entries x i offset len) (held_same g e)
      (subst (λ (r : RequestsState). IsReadAt r.entries g i offset len) requests_are read))

  pub taken_known : AreBegun t
  taken_known = known_same s t known requests_are (shares_taken holding s.holdings.table t.holdings.table takes) right (ap length same) (keeps_same s.begun t.begun same)

  pub taken_unasked : IsUnasked t.holdings holding (next_offset Start) (next_length Start)
  taken_unasked = unasked_first t.holdings holding (λ g i offset len e read. none_read g i offset len e read)

  pub opened_known : (u : BeginningsState) → AsksNext holding Start t u → IsRight u.holdings → AreBegun u
  opened_known u a right2 = known_next t u holding Start taken_known a right2 (λ g e. tt)

  pub opened_opening : (u : BeginningsState) → AsksNext holding Start t u → AreOpening nobody u
  opened_opening u a = opening_next t u holding Start taken_known a (λ other. other ≡ holding)
      (opening_taken s t holding h opening is free takes requests_are same) (λ position b. b)
      (λ g i offset len e read. absurd (none_read g i offset len e read))
      (λ g e. inr (record { number = now; there = number_there g e; reading = ap (taken_up holding) unread }))
      (λ g e. (
      let b = begun_at in
      let o = opening.each holding h b.0 is b.1 in
      let one : a.begun ≡ b.0 = one_there (slice_get s.begun holding) a.begun b.0 (sym (ap (λ (l : List Begun). slice_get l holding) same) ∙ a.there) b.1 in
      (ap (λ (x : Holding). x.suspended) (held_same g e) ∙ o.choosable, ap (λ (x : Begun). x.reader) one ∙ o.unread)))
    where
      unread : takes.3.number.reading ≡ None
      unread =
          let one : h ≡ takes.0 = one_there (slice_get s.holdings.table.holdings holding) h takes.0 is takes.1 in
          let number : free.number ≡ takes.3.number = one_there (slice_get s.holdings.table.numbers h.share) free.number takes.3.number free.there (ap (λ (x : Holding). slice_get s.holdings.table.numbers x.share) one ∙ takes.3.is) in
          sym (ap (λ (n : NumberState). n.reading) number) ∙ free.unread

      number_there : (g : Holding) → IsHolding t.holdings.table holding g → IsNumber t.holdings.table g.share now
      number_there g e =
          let one : g ≡ takes.0 = held_same g e ∙ one_there (slice_get s.holdings.table.holdings holding) h takes.0 is takes.1 in
          ap (λ (l : List NumberState). slice_get l g.share) takes.3.numbers ∙ ap (λ (x : Holding). slice_get (slice_set s.holdings.table.numbers takes.0.share now) x.share) one ∙ get_set s.holdings.table.numbers takes.0.share now takes.3.number takes.3.is

  pub opened_count : read_count t.holdings.table.numbers ≡ read_count s.holdings.table.numbers + 1
  opened_count = count_one s.holdings.table t.holdings.table holding h is free takes

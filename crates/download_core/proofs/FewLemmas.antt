-- Where shares are opened and nothing is outstanding, none is left.
use Rattle.std.proofs.Common.{◌≡◌, ℕ, zero, suc, ◌+◌, ◌<◌, ◌⊎◌, inl, inr, Bool, true, false, cond, List, [], ◌∷◌, length, Option, Some, None, refl, ap, subst, ◌∙◌, arith}
use Rattle.std.specs.Prelude.{slice_get, slice_index_or, is_some}
use Rattle.std.proofs.lemmas.List.Sums.{sum_by-cons}
use Rattle.std.proofs.lemmas.Option.{slice_get-get_or}
use Rattle.request_record.specs.Record.{outstanding_count}
use Rattle.download_shares.specs.Left.{FewAreLeft, IsBlamed, IsGone, IsLeft, IsOffered}
use Rattle.download_shares.specs.Numbers.{no_holding, read_count}
use Rattle.download_shares.specs.HoldingState.{NumberState}
use Rattle.download_shares.specs.Table.{IsHolding, IsNumber, NoneIsFree}
use Rattle.download_shares.specs.declared.holding.Holding.{Holding}
use Rattle.download_shares.specs.Opening.{IsOut, nobody}
use Rattle.download_shares.specs.BeginningState.{BeginningsState, unbegun}
use Rattle.download_core.specs.Steps.{AreOpened}
use Rattle.download_core.proofs.ReadLemmas.{begun_at}
use Rattle.download_core.proofs.Records.{some_waits}

-- a share whose next read is out waits
out_counts : (s : BeginningsState) (position : ℕ) → IsOut s position → 0 < outstanding_count s.holdings.requests.entries
out_counts s position o = some_waits s.holdings.requests.entries o.request o.out.request o.out.there o.out.waits

-- a number is read or not
abbrev reads_one : NumberState → ℕ
reads_one n = cond (is_some n.reading) 1 0

none_read : (ns : List NumberState) → ((i : ℕ) (n : NumberState) → slice_get ns i ≡ Some n → n.reading ≡ None) → read_count ns ≡ 0
none_read [] all = refl
none_read (x ∷ xs) all =
    let c : read_count (x ∷ xs) ≡ reads_one x + read_count xs = sum_by-cons reads_one x xs in
    let one : reads_one x ≡ 0 = ap (λ (o : Option ℕ). cond (is_some o) 1 0) (all zero x refl) in
    let rest = none_read xs (λ i n e. all (suc i) n e) in
    omega (arith, c, one, rest)

module _ (total needed : ℕ) (s : BeginningsState) (k : AreOpened total nobody s) (some : 0 < needed) (quiet : outstanding_count s.holdings.requests.entries ≡ 0)
    (enough : (0 < read_count s.holdings.table.numbers) ⊎ NoneIsFree s.holdings.table) where
  unread : (share : ℕ) (n : NumberState) → IsNumber s.holdings.table share n → n.reading ≡ None
  unread share n at = by n.reading refl
    where
      by : (o : Option ℕ) → n.reading ≡ o → o ≡ None
      by None e = refl
      by (Some position) e = (let w = out_counts s position (k.opening.works share position n at e (λ x. x)) in absurd (omega (arith, w, quiet)))

  none_free : NoneIsFree s.holdings.table
  none_free = elim enough [
    | inl read ↦ (let none = none_read s.holdings.table.numbers unread in absurd (omega (arith, read, none)))
    | inr none ↦ none
  ]

  not_left : (server share : ℕ) → share < total → IsOffered s.holdings.requests.entries server share → IsLeft s.holdings.requests.entries s.holdings.blamed server share → ⊥
  not_left server share below offered left =
      let c = k.count in
      let inside : share < length s.holdings.table.numbers = omega (arith, below, c) in
      let held = k.known.held server share offered inside in
      by held.0 held.1 held.2 held.3 held.4 inside held.1.left refl
    where
      by : (position : ℕ) (h : Holding) → IsHolding s.holdings.table position h → h.server ≡ server → h.share ≡ share → share < length s.holdings.table.numbers → (is_left : Bool) → h.left ≡ is_left → ⊥
      by position h is of_server of_share inside false e = elim (k.known.right.others position h is e) [
        | inl gone ↦ left.0 (subst (λ (n : ℕ). IsGone s.holdings.requests.entries n share) of_server (subst (λ (n : ℕ). IsGone s.holdings.requests.entries h.server n) of_share gone))
        | inr blamed ↦ left.1 (subst (λ (n : ℕ). IsBlamed s.holdings.blamed n share) of_server (subst (λ (n : ℕ). IsBlamed s.holdings.blamed h.server n) of_share blamed))
      ]
      by position h is of_server of_share inside true e =
          let at : IsNumber s.holdings.table h.share (slice_index_or s.holdings.table.numbers share no_holding) = ap (slice_get s.holdings.table.numbers) of_share ∙ slice_get-get_or s.holdings.table.numbers share no_holding inside in
          none_free position h is (record {
            left = e;
            choosable = (k.opening.each position h (slice_index_or s.begun position unbegun) is (begun_at s position h k.known.counted is)).choosable;
            number = slice_index_or s.holdings.table.numbers share no_holding;
            there = at;
            unread = unread h.share (slice_index_or s.holdings.table.numbers share no_holding) at;
          })

  pub few_opened : FewAreLeft needed total s.holdings.requests.entries s.holdings.blamed
  few_opened = record {
    numbers = [];
    few = some;
    all = λ server share below offered left. absurd (not_left server share below offered left);
  }

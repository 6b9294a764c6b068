-- Holdings are retired: fewer are left and read.
use Rattle.std.proofs.Common.{◌≡◌, ℕ, ◌⊎◌, inl, inr, true, false, List, length, Option, Some, None, refl, sym, ap, subst, ◌∙◌, arith, true≢false}
use Rattle.std.specs.Prelude.{slice_get, slice_index_or}
use Rattle.std.proofs.lemmas.Bool.{cases_eq}
use Rattle.std.proofs.lemmas.List.{length-set}
use Rattle.std.proofs.lemmas.Option.{slice_get-get_or, slice_get_within}
use Rattle.lemmas.proofs.Positions.{get_set, set_cases}
use Rattle.lemmas.proofs.Options.{one_there}
use Rattle.download_shares.specs.HoldingMoves.{RetiresAll, StaysRead}
use Rattle.download_shares.specs.Numbers.{released, without_position}
use Rattle.download_shares.specs.HoldingState.{NumberState, TableState}
use Rattle.download_shares.specs.Table.{IsHolding, IsNumber, Retires}
use Rattle.download_shares.specs.declared.holding.Holding.{Holding}
use Rattle.download_shares.proofs.Lists.{released_at, released_else}

-- a holding as it was
pub record WasHolding (t : TableState) (position : ℕ) (g : Holding) : Type 0 where
  pub held : Holding
  pub is : IsHolding t position held
  pub of_server : g.server ≡ held.server
  pub of_share : g.share ≡ held.share
  pub left : g.left ≡ true → held.left ≡ true
  pub suspended : g.suspended ≡ held.suspended

-- the one of a number that is read is read still, or not left
abbrev pub IsReadOn : TableState → ℕ → ℕ → Type 0
IsReadOn u share position = ((m : NumberState) × IsNumber u share m × (m.reading ≡ Some position))
    ⊎ ((g : Holding) → IsHolding u position g → g.left ≡ true → ⊥)

-- the holdings are of the same shares, and fewer are left and read
pub record Falls (t u : TableState) : Type 0 where
  pub long : length u.holdings ≡ length t.holdings
  pub count : length u.numbers ≡ length t.numbers
  pub back : (position : ℕ) (g : Holding) → IsHolding u position g → WasHolding t position g
  pub reading : (share position : ℕ) (m : NumberState) → IsNumber u share m → m.reading ≡ Some position
      → (n : NumberState) × IsNumber t share n × (n.reading ≡ Some position)
  pub kept : (share position : ℕ) (n : NumberState) → IsNumber t share n → n.reading ≡ Some position
      → IsReadOn u share position

-- what stands at a position in a list as long
pub at_position : {X : Type 0} (xs ys : List X) (i : ℕ) (y : X) → length ys ≡ length xs → slice_get ys i ≡ Some y → slice_get xs i ≡ Some (slice_index_or xs i y)
at_position xs ys i y long e = slice_get-get_or xs i y (let w = slice_get_within ys i y e in omega (arith, w, long))

pub falls_none : (t : TableState) → Falls t t
falls_none t = record {
  long = refl;
  count = refl;
  back = λ position g e. record { held = g; is = e; of_server = refl; of_share = refl; left = λ l. l; suspended = refl };
  reading = λ share position m e r. (m, e, r);
  kept = λ share position n e r. inl (n, e, r);
}

pub falls_all : (P : ℕ → Type 0) (t u : TableState) → RetiresAll P t u → Falls t u
falls_all P t u r = record {
  long = r.long;
  count = r.count;
  back = λ position g e. (
      let is = at_position t.holdings u.holdings position g r.long e in
      let a = r.holdings position _ g is e in
      record { held = slice_index_or t.holdings position g; is = is; of_server = a.0; of_share = a.1; left = λ l. (a.3 l).0; suspended = a.2 });
  reading = λ share position m e reads. (
      let is = at_position t.numbers u.numbers share m r.count e in
      by_reading share position m e reads (slice_index_or t.numbers share m) is (r.numbers share _ m is e));
  kept = λ share position n e reads. (
      let is = at_position u.numbers t.numbers share n (sym r.count) e in
      by_kept share position n e reads (slice_index_or u.numbers share n) is (r.numbers share n _ e is));
}
  where
    by_reading : (share position : ℕ) (m : NumberState) → IsNumber u share m → m.reading ≡ Some position → (n : NumberState) → IsNumber t share n → StaysRead P n m → (k : NumberState) × IsNumber t share k × (k.reading ≡ Some position)
    by_reading share position m e reads n is (inl same) = (n, is, sym same ∙ reads)
    by_reading share position m e reads n is (inr gone) = (let two : None ≡ Some position = sym gone.3 ∙ reads in absurd cc)

    by_kept : (share position : ℕ) (n : NumberState) → IsNumber t share n → n.reading ≡ Some position → (m : NumberState) → IsNumber u share m → StaysRead P n m → IsReadOn u share position
    by_kept share position n e reads m is (inl same) = inl (m, is, same ∙ reads)
    by_kept share position n e reads m is (inr gone) =
        let one : position ≡ gone.0 = one_there n.reading position gone.0 reads gone.1 in
        inr (λ g held left.
        ((r.holdings position _ g (at_position t.holdings u.holdings position g r.long held) held).3 left).1 (subst P (sym one) gone.2))

-- one holding is retired
pub retires_all : (holding : ℕ) (t u : TableState) → Retires holding t u → RetiresAll (λ position. position ≡ holding) t u
retires_all holding t u r = record {
  long = ap length r.1.holdings ∙ length-set t.holdings holding (record r.0 { left = false });
  holdings = λ position h g e f. elim (set_cases t.holdings holding position (record r.0 { left = false }) g (sym (ap (λ (l : List Holding). slice_get l position) r.1.holdings) ∙ f)) [
    | inl k ↦ (
        let same : h ≡ r.0 = one_there (slice_get t.holdings position) h r.0 e (ap (slice_get t.holdings) k.0 ∙ r.1.is) in (
          sym (ap (λ (x : Holding). x.server) k.1) ∙ sym (ap (λ (x : Holding). x.server) same),
          sym (ap (λ (x : Holding). x.share) k.1) ∙ sym (ap (λ (x : Holding). x.share) same),
          sym (ap (λ (x : Holding). x.suspended) k.1) ∙ sym (ap (λ (x : Holding). x.suspended) same),
          (λ left. absurd (true≢false (sym left ∙ sym (ap (λ (x : Holding). x.left) k.1)))),
          λ left. inr k.0,
        ))
    | inr k ↦ (
        let same : h ≡ g = one_there (slice_get t.holdings position) h g e k.1 in (
          sym (ap (λ (x : Holding). x.server) same),
          sym (ap (λ (x : Holding). x.share) same),
          sym (ap (λ (x : Holding). x.suspended) same),
          (λ left. (ap (λ (x : Holding). x.left) same ∙ left, k.0)),
          λ left. inl (ap (λ (x : Holding). x.left) same ∙ left),
        ))
  ];
  count = ap length r.2.numbers ∙ length-set t.numbers r.0.share (without_position holding r.2.number);
  numbers = λ share n m e f. elim (set_cases t.numbers r.0.share share (without_position holding r.2.number) m (sym (ap (λ (l : List NumberState). slice_get l share) r.2.numbers) ∙ f)) [
    | inl k ↦ (
        let same : r.2.number ≡ n = one_there (slice_get t.numbers share) r.2.number n (ap (slice_get t.numbers) k.0 ∙ r.2.is) e in
        by n m (sym (ap (λ (x : NumberState). x.reading) k.1) ∙ ap (λ (x : NumberState). released holding x.reading) same) n.reading refl)
    | inr k ↦ inl (ap (λ (x : NumberState). x.reading) (one_there (slice_get t.numbers share) m n k.1 e))
  ];
}
  where
    by : (n m : NumberState) → m.reading ≡ released holding n.reading → (o : Option ℕ) → n.reading ≡ o → StaysRead (λ position. position ≡ holding) n m
    by n m is None e = inl (is ∙ ap (released holding) e ∙ sym e)
    by n m is (Some position) e = elim (cases_eq position holding) [
      | inl same ↦ inr (position, e, same, is ∙ ap (released holding) e ∙ released_at holding position same)
      | inr other ↦ inl (is ∙ ap (released holding) e ∙ released_else holding position other ∙ sym e)
    ]

pub falls_one : (holding : ℕ) (t u : TableState) → Retires holding t u → Falls t u
falls_one holding t u r = falls_all (λ position. position ≡ holding) t u (retires_all holding t u r)

-- it is not left any more
pub retired_gone : (holding : ℕ) (t u : TableState) (g : Holding) → Retires holding t u → IsHolding u holding g → g.left ≡ false
retired_gone holding t u g r e =
    let is = ap (λ (l : List Holding). slice_get l holding) r.1.holdings ∙ get_set t.holdings holding (record r.0 { left = false }) r.0 r.1.is in
    let same : record r.0 { left = false } ≡ g = one_there (slice_get u.holdings holding) (record r.0 { left = false }) g is e in
    sym (ap (λ (x : Holding). x.left) same)

pub retired_left : (holding : ℕ) (t u : TableState) (g : Holding) → Retires holding t u → IsHolding u holding g → g.left ≡ true → ⊥
retired_left holding t u g r e left = true≢false (sym left ∙ retired_gone holding t u g r e)

-- nor read
pub retired_unread : (holding share : ℕ) (t u : TableState) (m : NumberState) → Retires holding t u → IsNumber u share m → m.reading ≡ Some holding → (g : Holding) → IsHolding u holding g → g.left ≡ true → ⊥
retired_unread holding share t u m r e reads g held = retired_left holding t u g r held

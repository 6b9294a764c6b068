use Rattle.std.proofs.Common.{◌≡◌, ◌+◌, ◌-◌, ◌/◌, ◌%◌, ◌^◌, ◌<◌, ◌≤◌, ℕ, List, [], length, inl, inr, Some, Err, get_or, slice_get, slice_index_or, rules, nat_eq, ap, refl, subst, sym, ◌∙◌, arith}
use Rattle.std.proofs.Math.Nat.{pow-le-pow_right}
use Rattle.std.proofs.lemmas.Bool.{cases_eq}
use Rattle.std.proofs.lemmas.Option.{get_or_from_slice_get, slice_get-get_or, slice_get_read, slice_get_within, some_pair_parts}
use Rattle.std.proofs.lemmas.Nat.{one_shl, pow_pos}
use Rattle.std.specs.HashMap.{get}
use Rattle.lemmas.proofs.Numbers.{next_power}
use Rattle.merkle.specs.Tree.{height}
use Rattle.merkle.specs.Partial.{IsTouched, padding}
use Rattle.merkle.specs.Tree.{node_count}
use Rattle.merkle.specs.Taking.{Adds, Joins}
use Rattle.merkle.specs.declared.error.OfferError.TheVariants.{NotConsistent}
use Rattle.merkle.proofs.HeightLemmas.{height_low}
use Rattle.merkle.proofs.PartialLemmas.{IsUnderway, adds_keeps, refused_offer, underway_more, all_kept, all_taken, grown_more, underway-begins}
use Rattle.merkle.proofs.RowLemmas.{number_inside, number_some, row_done, row_follows, row_joins, row_refused, row_skips}
use Rattle.merkle.proofs.taking.take.Goals as goal
use Rattle.merkle.proofs.taking.take.Goals.{else-number-row-eq1, else-number-row-eq1-via-else-number-row-eq1, else-number-row-eq1-via-then-number-row-eq1+else-not-follows_sibling, then-number-row-eq1+then-not-follows_sibling+in_ok-join}

-- the number at a position of a list
number_at : (items : List ℕ) (i number : ℕ) → i < length items → number ≡ get_or items i number → slice_index_or items i 0 ≡ number
number_at items i number below is = get_or_from_slice_get items i number 0 (slice_get_read items (length items) i number refl below is)

pub loop-offer-init : goal.loop-offer-init
loop-offer-init c =
    let n = c.args.padded.now in
    let first = get nat_eq c.args.nodes.now in record {
      under = subst (IsUnderway n (padding n) first c.args.offers.now first) (sym c.requires.none) (underway-begins n (padding n) first c.args.offers.now c.requires.kept.0 c.requires.kept.1);
      taken = λ k number hash none. absurd (omega arith);
    }

pub overflow_shl-height : goal.overflow_shl-height
overflow_shl-height c = omega (arith, height_low _ c.height-height.result 20 c.requires.few c.height-height.ensures.least)

pub overflow_sub-height : goal.overflow_sub-height
overflow_sub-height c =
    let low = height_low _ c.height-height.result 20 c.requires.few c.height-height.ensures.least in
    rw (one_shl (c.height-height.result + 1) 32 (omega (arith, low))) (omega (arith, pow_pos (c.height-height.result + 1)))

pub returns-then-number-height-clause-refused : goal.returns-then-number-height-clause-refused
returns-then-number-height-clause-refused c = λ e new extended.
    let n = c.args.padded.now in
    let item = get_or c.args.offers.now c.loop-offer.offer-index (0, []) in
    let here = slice_get-get_or c.args.offers.now c.loop-offer.offer-index (0, []) c.loop-offer-test.true in
    let low = height_low _ c.height-height.result 20 c.requires.few c.height-height.ensures.least in
    let cut = one_shl (c.height-height.result + 1) 32 (omega (arith, low)) in
    let same : 2 ^ (c.height-height.result + 1) ≡ 2 ^ (height n + 1) = ap (λ (k : ℕ). 2 ^ (k + 1)) c.height-height.ensures.value in
    let inside = extended.inside c.loop-offer.offer-index item.0 item.1 here in
    absurd (omega (arith, inside, cut, same, next_power (height n), c.if-number-height.true))

pub returns-in_err-add-clause-grown : goal.returns-in_err-add-clause-grown
returns-in_err-add-clause-grown c = grown_more _ _ _ _ _ _ c.loop-offer.invariant.under.grown c.add.ensures.grows

pub returns-in_err-add-clause-refused : goal.returns-in_err-add-clause-refused
returns-in_err-add-clause-refused c = λ e.
    let item = get_or c.args.offers.now c.loop-offer.offer-index (0, []) in
    let here = slice_get-get_or c.args.offers.now c.loop-offer.offer-index (0, []) c.loop-offer-test.true in
    let refused : c.add.result ≡ Err NotConsistent = search rules in
    refused_offer _ _ _ _ _ _ c.loop-offer.invariant.under c.loop-offer.offer-index item.0 item.1 here (c.add.ensures.refused refused)

pub loop-offer-preserved : goal.loop-offer-preserved
loop-offer-preserved c =
    let n = c.args.padded.now in
    let first = get nat_eq c.args.nodes.now in
    let offers = c.args.offers.now in
    let i = c.loop-offer.offer-index in
    let item = get_or offers i (0, []) in
    let here : slice_get offers i ≡ Some (item.0, item.1) = slice_get-get_or offers i (0, []) c.loop-offer-test.true in
    let low = height_low _ c.height-height.result 20 c.requires.few c.height-height.ensures.least in
    let cut = one_shl (c.height-height.result + 1) 32 (omega (arith, low)) in
    let same : 2 ^ (c.height-height.result + 1) ≡ 2 ^ (height n + 1) = ap (λ (k : ℕ). 2 ^ (k + 1)) c.height-height.ensures.value in
    let within : item.0 < node_count n = omega (arith, cut, same, next_power (height n), c.if-number-height.false) in
    let adds : Adds (padding n) (get nat_eq c.loop-offer.nodes) item.0 item.1 (get nat_eq c.add.new.nodes) = search rules in
    let s = c.loop-offer.invariant in
    let touched : IsTouched offers item.0 = record { position = i; below = item.0; hash = item.1; rows = 0; offered = here; above = refl } in record {
      under =
          underway_more n (padding n) first offers (get nat_eq c.loop-offer.nodes) c.loop-offer.added.items item.0 item.1 (get nat_eq c.add.new.nodes) c.add.new.added.items
          s.under adds c.add.ensures.grows touched within (λ new extended. extended.offered i item.0 item.1 here);
      taken = λ k number hash below is.
          elim (cases_eq k i) [
            | inl at ↦
                let parts = some_pair_parts item.0 number item.1 hash (sym here ∙ ap (slice_get offers) (sym at) ∙ is) in
                ap (get nat_eq c.add.new.nodes) (sym parts.0) ∙ adds.here ∙ ap (λ (x : List ℕ). Some x) parts.1
            | inr before ↦
                adds_keeps n (padding n) first offers (get nat_eq c.loop-offer.nodes) (get nat_eq c.add.new.nodes) item.0 item.1 adds number hash
                (s.taken k number hash (omega arith) is)
          ];
    }

pub loop-row-init : goal.loop-row-init
loop-row-init c =
    let n = c.args.padded.now in record {
      low = omega arith;
      under = c.loop-offer.invariant.under;
      taken = λ k number hash is. c.loop-offer.invariant.taken k number hash (omega (arith, slice_get_within c.args.offers.now k (number, hash) is)) is;
      done = λ number hash high some e.
          let same : 2 ^ (c.height-height.result + 1) ≡ 2 ^ (height n + 1) = ap (λ (k : ℕ). 2 ^ (k + 1)) c.height-height.ensures.value in
          absurd (omega (arith, same, next_power (height n), c.loop-offer.invariant.under.inside number hash e, high));
    }

pub overflow_add-number : goal.overflow_add-number
overflow_add-number c =
    let n = c.args.padded.now in
    let items = c.loop-i.added.items in
    let i = c.loop-i.i in
    let inside = let t = c.loop-i.invariant.under.listed c.index-number.result.now (i, omega (arith, c.loop-i.invariant.long), number_at items i c.index-number.result.now (omega (arith, c.loop-i.invariant.long)) c.index-number.ensures) in c.loop-i.invariant.under.inside c.index-number.result.now t.0 t.1 in
    let low = height_low _ c.height-height.result 20 c.requires.few c.height-height.ensures.least in
    let same : 2 ^ (c.height-height.result + 1) ≡ 2 ^ (height n + 1) = ap (λ (k : ℕ). 2 ^ (k + 1)) c.height-height.ensures.value in
    omega (arith, inside, same, next_power (height n), pow-le-pow_right {n = 2} (omega arith) {i = c.height-height.result + 1} {j = 21} (omega (arith, low)))

pub overflow_shr-number : goal.overflow_shr-number
overflow_shr-number c =
    omega (arith, c.loop-row.invariant.low, height_low _ c.height-height.result 20 c.requires.few c.height-height.ensures.least)

pub join-requires-clause-below : goal.join-requires-clause-below
join-requires-clause-below c =
    number_some _ _ _ _ _ _ _ _ _ c.loop-i.invariant c.loop-i-test.true (omega arith) c.index-number.result.now
    (sym (number_at c.loop-i.added.items c.loop-i.i c.index-number.result.now (omega (arith, c.loop-i.invariant.long)) c.index-number.ensures))
    c.if-number-row-eq1.true

pub join-requires-clause-inside : goal.join-requires-clause-inside
join-requires-clause-inside c =
    number_inside _ _ _ _ _ _ _ _ _ c.loop-i.invariant c.loop-i-test.true (omega arith) c.index-number.result.now
    (sym (number_at c.loop-i.added.items c.loop-i.i c.index-number.result.now (omega (arith, c.loop-i.invariant.long)) c.index-number.ensures))
    c.if-number-row-eq1.true

pub returns-in_err-join-clause-grown : goal.returns-in_err-join-clause-grown
returns-in_err-join-clause-grown c = grown_more _ _ _ _ _ _ c.loop-i.invariant.under.grown c.join.ensures.grows

pub returns-in_err-join-clause-refused : goal.returns-in_err-join-clause-refused
returns-in_err-join-clause-refused c = λ e.
    let refused : c.join.result ≡ Err NotConsistent = search rules in
    row_refused _ _ _ _ _ _ _ _ _ c.loop-i.invariant c.loop-i-test.true (omega arith) c.index-number.result.now
    (sym (number_at c.loop-i.added.items c.loop-i.i c.index-number.result.now (omega (arith, c.loop-i.invariant.long)) c.index-number.ensures))
    c.if-number-row-eq1.true (c.join.ensures.refused refused)

pub loop-i-init : goal.loop-i-init
loop-i-init c = record {
  long = omega arith;
  under = c.loop-row.invariant.under;
  taken = c.loop-row.invariant.taken;
  done = c.loop-row.invariant.done;
  joined = λ k none. absurd (omega arith);
  later = λ k after within. absurd (omega (arith, after, within));
}

pub loop-i-preserved : goal.loop-i-preserved
loop-i-preserved c =
    let at = number_at c.loop-i.added.items c.loop-i.i c.index-number.result.now (omega (arith, c.loop-i.invariant.long)) c.index-number.ensures in
    elim c.if-number-row-eq1.branch [
      | then-number-row-eq1+then-not-follows_sibling+in_ok-join w ↦
          let joins : Joins (padding c.args.padded.now) (get nat_eq c.loop-i.nodes) c.index-number.result.now (get nat_eq w.join.new.nodes) = search rules in
          rw (w.nodes-is, w.added-is)
          (row_joins _ _ _ _ _ _ _ _ _ c.loop-i.invariant c.loop-i-test.true (omega arith) c.index-number.result.now (sym at)
          w.if-number-row-eq1.true _ _ joins w.join.ensures.grows)
      | else-number-row-eq1 w ↦
          rw (w.nodes-is, w.added-is)
          (elim w.else-number-row-eq1.branch [
            | else-number-row-eq1-via-then-number-row-eq1+else-not-follows_sibling v ↦
                let f = v.follows_sibling.ensures (search rules) in
                let same = v.deref.ensures.value in
                row_follows _ _ _ _ _ _ _ _ _ c.loop-i.invariant (omega arith) f.0
                (subst (λ (l : List ℕ). slice_index_or l (c.loop-i.i - 1) 0 % 2 ≡ 1) same f.1)
                (subst (λ (l : List ℕ). slice_index_or l c.loop-i.i 0 ≡ slice_index_or l (c.loop-i.i - 1) 0 + 1) same f.2)
            | else-number-row-eq1-via-else-number-row-eq1 v ↦
                row_skips _ _ _ _ _ _ _ _ _ c.loop-i.invariant (λ one. v.if-number-row-eq1.false (ap (λ (k : ℕ). (k + 1) / 2 ^ c.loop-row.row) (sym at) ∙ one))
          ])
    ]

pub loop-row-preserved : goal.loop-row-preserved
loop-row-preserved c =
    let back : c.loop-row.row - 1 + 1 ≡ c.loop-row.row = omega arith in record {
      low = omega (arith, c.loop-row.invariant.low);
      under = c.loop-i.invariant.under;
      taken = c.loop-i.invariant.taken;
      done = rw back (row_done _ _ _ _ _ _ _ _ _ c.loop-i.invariant (omega arith) c.requires.kept.0 c.requires.kept.1);
    }

pub returns-clause-taken : goal.returns-clause-taken
returns-clause-taken c =
    let none : c.loop-row.row ≡ 0 = omega arith in
    let last : 2 ^ (c.loop-row.row + 1) ≤ 2 = rw none (omega arith) in
    let s = c.loop-row.invariant in
    all_taken _ _ _ _ _ _ s.under s.taken (2 ^ (c.loop-row.row + 1)) s.done last

pub returns-clause-kept : goal.returns-clause-kept
returns-clause-kept c root kept =
    let none : c.loop-row.row ≡ 0 = omega arith in
    let last : 2 ^ (c.loop-row.row + 1) ≤ 2 = rw none (omega arith) in
    let s = c.loop-row.invariant in
    all_kept _ _ _ _ _ _ s.under s.taken (2 ^ (c.loop-row.row + 1)) s.done last root kept

-- The good shares that a check hands out.
use Rattle.std.proofs.Common.{◌≡◌, ℕ, ◌+◌, ◌<◌, ◌≤◌, ltb, true, List, [], ◌∷◌, ◌++◌, length, get_or, map, filter, All, Some, ap, refl, sym, subst, ◌∙◌, arith, inl, inr, ◌⊎◌}
use Rattle.std.specs.Prelude.{Contains, slice_get}
use Rattle.std.specs.List.{flat_map}
use Rattle.std.proofs.lemmas.Bool.{cases_lt, ltb-true}
use Rattle.std.proofs.lemmas.List.{length-append, get_or_append_left, get_or_at}
use Rattle.std.proofs.lemmas.List.Elements.{All-contains, All-nil, All-push, Contains-append_left, Contains-push}
use Rattle.std.proofs.lemmas.Option.{slice_get-get_or}
use Rattle.lemmas.proofs.Members.{contains_cases, contains_head, contains_none, contains_tail, flat_map_from}
use Rattle.cap_text.specs.Cap.{VerifyCapValue}
use Rattle.placement.specs.Matching.{Pair}
use Rattle.placement.proofs.Members.{from_filter}
use Rattle.wire.specs.declared.message.Body.TheVariants.{Ask, Have, Allocate, Granted, Already, Busy, Full, Write, Wrote, WrongOffset, Close, Closed, NotComplete, Abort, Read, Data, NoShare}
use Rattle.wire.specs.declared.message.HeldShare.{HeldShare}
use Rattle.request_record.specs.declared.requests.Asked.{Asked}
use Rattle.request_record.specs.declared.requests.Asked.TheVariants.{Holdings, Allocation, Writing, Closing, Reading, Aborting}
use Rattle.request_record.specs.declared.requests.Outcome.{Outcome}
use Rattle.request_record.specs.declared.requests.Outcome.TheVariants.{Unawaited, Outstanding, Answered, Lost}
use Rattle.request_record.specs.declared.requests.Request.{Request}
use Rattle.share_reading.specs.OpeningReads.{Brought}
use Rattle.share_reading.specs.Verdict.{IsVerdict, brought_of}
use Rattle.share_reading.specs.Whole.{joined}
use Rattle.share_reading.specs.declared.verdict.Verdict.TheVariants as verdicts
use Rattle.share_reading.proofs.ConsecutiveLemmas.{are_one}
use Rattle.checker.specs.Book.{IsAt, IsEnded}
use Rattle.checker.specs.Found.{IsDone, IsOver, found_among, found_of, verdict_in}
use Rattle.checker.specs.Good.{AreGoodShares, AreRising, HasGood, IsFound}
use Rattle.checker.specs.Report.{AreVerdicts, pair_of}
use Rattle.checker.specs.Shares.{offered_in, offered_to, settled_of}
use Rattle.checker.specs.declared.state.Machine.{Machine}
use Rattle.checker.specs.declared.offers.Offer.{Offer}
use Rattle.checker.specs.declared.offers.Stage.TheVariants.{Ended}
use Rattle.checker.specs.declared.status.ShareVerdict.{ShareVerdict}
use Rattle.checker.proofs.FoundLemmas.{all_found, are_verdicts}
use Rattle.checker.proofs.Joining.{pair_at}
use Rattle.checker.proofs.MachineMoves.{listed_at}

map_from : {X Y : Type 0} (f : X → Y) (xs : List X) (y : Y) → Contains (map f xs) y → (x : X) × Contains xs x × (f x ≡ y)
map_from f [] y at = absurd (contains_none y at)
map_from f (x ∷ xs) y at = elim (contains_cases (f x) y (map f xs) at) [
  | inl here ↦ (x, contains_head x xs, here)
  | inr later ↦ (let from = map_from f xs y later in (from.0, contains_tail x from.0 xs from.1, from.2))
]

-- ---- a share that was offered has a number below the file's

below_in : (total server : ℕ) (o : Outcome) (p : Pair) → Contains (offered_in total server o) p → p.1 < total
below_in total server Unawaited p at = absurd (contains_none p at)
below_in total server Outstanding p at = absurd (contains_none p at)
below_in total server Lost p at = absurd (contains_none p at)
below_in total server (Answered (Have readonly held)) p at =
    let from = map_from (pair_at server) (filter (λ (h : HeldShare). ltb h.share total) held) p at in
    let passes = from_filter (λ (h : HeldShare). ltb h.share total) held from.0 from.1 in
    subst (λ (q : Pair). q.1 < total) from.2 (ltb-true from.0.share total passes.1)
below_in total server (Answered (Ask i)) p at = absurd (contains_none p at)
below_in total server (Answered (Allocate i n)) p at = absurd (contains_none p at)
below_in total server (Answered Granted) p at = absurd (contains_none p at)
below_in total server (Answered (Already d)) p at = absurd (contains_none p at)
below_in total server (Answered Busy) p at = absurd (contains_none p at)
below_in total server (Answered Full) p at = absurd (contains_none p at)
below_in total server (Answered (Write i n d)) p at = absurd (contains_none p at)
below_in total server (Answered (Wrote n)) p at = absurd (contains_none p at)
below_in total server (Answered (WrongOffset n)) p at = absurd (contains_none p at)
below_in total server (Answered (Close i)) p at = absurd (contains_none p at)
below_in total server (Answered (Closed d)) p at = absurd (contains_none p at)
below_in total server (Answered (NotComplete n)) p at = absurd (contains_none p at)
below_in total server (Answered (Abort i)) p at = absurd (contains_none p at)
below_in total server (Answered (Read i n l)) p at = absurd (contains_none p at)
below_in total server (Answered (Data d)) p at = absurd (contains_none p at)
below_in total server (Answered NoShare) p at = absurd (contains_none p at)

below_to : (total server : ℕ) (a : Asked) (o : Outcome) (p : Pair) → Contains (offered_to total server a o) p → p.1 < total
below_to total server Holdings o p at = below_in total server o p at
below_to total server (Allocation n len) o p at = absurd (contains_none p at)
below_to total server (Writing n offset len) o p at = absurd (contains_none p at)
below_to total server (Closing n) o p at = absurd (contains_none p at)
below_to total server (Reading n offset len) o p at = absurd (contains_none p at)
below_to total server (Aborting n) o p at = absurd (contains_none p at)

good_below : (cap : VerifyCapValue) (entries : List Request) (num : ℕ) → HasGood cap entries num → num < cap.total
good_below cap entries num has =
    let listed = has.1.1.0 in
    let from = flat_map_from (λ (r : Request). offered_to cap.total r.server r.asked r.outcome) entries (has.1.0, num) listed in
    below_to cap.total from.source.server from.source.asked from.source.outcome (has.1.0, num) from.has

-- ---- the offers of a check in which no share is read any more

abbrev reads_of : Machine → Offer → List Brought
reads_of m o = brought_of (settled_of m.requests.entries o.server o.share)

-- a good share has the bytes that are kept of it
pub found_at : (m : Machine) → IsDone m → m.keeps ≡ true → (k : ℕ) (o : Offer) → slice_get m.offers.items k ≡ Some o → o.stage ≡ Ended verdicts.Good → (bytes : List ℕ)
    → bytes ≡ o.pieces.front.items ++ o.pieces.back.items → IsFound m.cap m.requests.entries o.share bytes
found_at m done keeps k o at good bytes is_kept =
    let is : IsEnded m.cap m.requests.entries o verdicts.Good = subst (IsAt m.cap m.requests.entries [] o) good (done.book.reading k o at) in
    let held = is.held refl in
    let kept : o.pieces.keeps ≡ true = done.book.alike k o at ∙ keeps in
    let joins : bytes ≡ joined held.front ++ joined held.back = is_kept ∙ (λ i. held.pieces.front_is kept i ++ held.pieces.back_is kept i) in (
      o.server,
      (
        listed_at m [] done.book k o at,
        is.verdict,
        are_one (reads_of m o) is.verdict.bytes (joined held.front ++ joined held.back) is.verdict.whole held.whole ∙ sym joins,
      ),
    )

record IsOfferOf (m : Machine) (v : ShareVerdict) : Type 0 where
  pub position : ℕ
  pub offer : Offer
  pub there : slice_get m.offers.items position ≡ Some offer
  pub over : IsOver offer
  pub found : v ≡ found_of offer

offer_of : (m : Machine) → IsDone m → (v : ShareVerdict) → Contains (flat_map (found_among m.offers.items) m.told.items) v → IsOfferOf m v
offer_of m done v at =
    All-contains (IsOfferOf m) (flat_map (found_among m.offers.items) m.told.items) v
    (all_found (IsOfferOf m) m.offers.items m.told.items
    (λ k d lt. record { position = k; offer = get_or m.offers.items k d; there = slice_get-get_or m.offers.items k d lt; over = done.over k d lt; found = refl }))
    at

-- where there is a good share of a number, there is a good offer
pub record IsGoodOffer (m : Machine) (num : ℕ) : Type 0 where
  pub position : ℕ
  pub offer : Offer
  pub there : slice_get m.offers.items position ≡ Some offer
  pub number : offer.share ≡ num
  pub good : offer.stage ≡ Ended verdicts.Good

pub good_offered : (m : Machine) → IsDone m → (num : ℕ) → HasGood m.cap m.requests.entries num → IsGoodOffer m num
good_offered m done num has =
    let all : List ShareVerdict = flat_map (found_among m.offers.items) m.told.items in
    let are : AreVerdicts m.cap m.requests.entries all = are_verdicts m done in
    let pair : Pair = (has.1.0, num) in
    let from = map_from pair_of all pair (subst (λ (l : List Pair). Contains l pair) (sym are.pairs) has.1.1.0) in
    let v = from.0 in
    let good : v.verdict ≡ verdicts.Good =
    are.only v verdicts.Good from.1 (subst (λ (p : Pair). IsVerdict m.cap p.1 (settled_of m.requests.entries p.0 p.1) verdicts.Good) (sym from.2) has.1.1.1) in
    let is = offer_of m done v from.1 in
    let verdict : is.over.0 ≡ verdicts.Good = ap verdict_in (sym is.over.1) ∙ ap (λ (x : ShareVerdict). x.verdict) (sym is.found) ∙ good in
    record {
      position = is.position;
      offer = is.offer;
      there = is.there;
      number = ap (λ (x : ShareVerdict). x.share) (sym is.found) ∙ ap (λ (p : Pair). p.1) from.2;
      good = is.over.1 ∙ ap Ended verdict;
    }

-- ---- the shares of the numbers below one

-- as of all numbers, but for those from one on
pub record AreGoodBelow (cap : VerifyCapValue) (entries : List Request) (below : ℕ) (numbers : List ℕ) (strings : List (List ℕ)) : Type 0 where
  pub counted : length strings ≡ length numbers
  pub rising : AreRising numbers
  pub low : All (λ n. n < below) numbers
  pub few : length numbers ≤ cap.needed
  pub found : (i : ℕ) → i < length numbers → IsFound cap entries (get_or numbers i 0) (get_or strings i [])
  pub others : (num : ℕ) → num < below → HasGood cap entries num → Contains numbers num ⊎ ((length numbers ≡ cap.needed) × All (λ n. n < num) numbers)

pub below_none : (cap : VerifyCapValue) (entries : List Request) → AreGoodBelow cap entries 0 [] []
below_none cap entries = record {
  counted = refl;
  rising = λ low high above inside. absurd (omega (arith, inside));
  low = All-nil (λ n. n < 0);
  few = omega arith;
  found = λ i lt. absurd (omega (arith, lt));
  others = λ num lt. absurd (omega (arith, lt));
}

pub below_all : (cap : VerifyCapValue) (entries : List Request) (below : ℕ) (numbers : List ℕ) (strings : List (List ℕ)) → cap.total ≤ below
    → AreGoodBelow cap entries below numbers strings → AreGoodShares cap entries numbers strings
below_all cap entries below numbers strings le are = record {
  counted = are.counted;
  rising = are.rising;
  few = are.few;
  found = are.found;
  others = λ num has. are.others num (omega (arith, le, good_below cap entries num has)) has;
}

module _ (cap : VerifyCapValue) (entries : List Request) (below : ℕ) (numbers : List ℕ) (strings : List (List ℕ)) (are : AreGoodBelow cap entries below numbers strings) where
  higher : All (λ n. n < below + 1) numbers
  higher k d inside = let under = are.low k d inside in omega (arith, under)

  -- there is none of the next number
  pub below_skip : (HasGood cap entries below → ⊥) → AreGoodBelow cap entries (below + 1) numbers strings
  below_skip none = record {
    counted = are.counted;
    rising = are.rising;
    low = higher;
    few = are.few;
    found = are.found;
    others = λ num lt has. elim (cases_lt num below) [
      | inl before ↦ are.others num before has
      | inr after ↦ absurd (none (subst (HasGood cap entries) (omega (arith, lt, after)) has))
    ];
  }

  -- there are enough
  pub below_full : cap.needed ≤ length numbers → AreGoodBelow cap entries (below + 1) numbers strings
  below_full enough = record {
    counted = are.counted;
    rising = are.rising;
    low = higher;
    few = are.few;
    found = are.found;
    others = λ num lt has. elim (cases_lt num below) [
      | inl before ↦ are.others num before has
      | inr after ↦ inr (omega (arith, enough, are.few), λ k d inside. (let under = are.low k d inside in omega (arith, under, after)))
    ];
  }

  -- the next one is added
  pub below_push : (bytes : List ℕ) → length numbers < cap.needed → IsFound cap entries below bytes → AreGoodBelow cap entries (below + 1) (numbers ++ below ∷ []) (strings ++ bytes ∷ [])
  below_push bytes room is = record {
    counted = omega (arith, length-append strings (bytes ∷ []), size, are.counted);
    rising = rising;
    low = All-push (λ n. n < below + 1) numbers below higher (omega arith);
    few = omega (arith, size, room);
    found = λ i lt. elim (cases_lt i (length numbers)) [
      | inl old ↦
          subst (λ n. IsFound cap entries n (get_or (strings ++ bytes ∷ []) i [])) (sym (before i old))
          (subst (IsFound cap entries (get_or numbers i 0)) (sym (get_or_append_left strings (bytes ∷ []) [] i (omega (arith, old, are.counted)))) (are.found i old))
      | inr new ↦ (
          let here : i ≡ length numbers = omega (arith, new, lt, size) in
          subst (λ n. IsFound cap entries n (get_or (strings ++ bytes ∷ []) i [])) (sym (last i here))
          (subst (IsFound cap entries below) (sym (get_or_at strings bytes [] [] i (are.counted ∙ sym here))) is))
    ];
    others = λ num lt has. elim (cases_lt num below) [
      | inl early ↦ elim (are.others num early has) [
        | inl among ↦ inl (Contains-append_left numbers (below ∷ []) num among)
        | inr full ↦ absurd (omega (arith, full.0, room))
      ]
      | inr after ↦ inl (subst (Contains (numbers ++ below ∷ [])) (omega (arith, lt, after)) (Contains-push numbers below))
    ];
  }
    where
      size : length (numbers ++ below ∷ []) ≡ length numbers + 1
      size = length-append numbers (below ∷ [])

      before : (k : ℕ) → k < length numbers → get_or (numbers ++ below ∷ []) k 0 ≡ get_or numbers k 0
      before k inside = get_or_append_left numbers (below ∷ []) 0 k inside

      last : (k : ℕ) → k ≡ length numbers → get_or (numbers ++ below ∷ []) k 0 ≡ below
      last k here = get_or_at numbers below [] 0 k (sym here)

      rising : AreRising (numbers ++ below ∷ [])
      rising low high above inside = elim (cases_lt high (length numbers)) [
        | inl old ↦ (
            let a = before low (omega (arith, above, old)) in
            let b = before high old in
            let was = are.rising low high above old in omega (arith, a, b, was))
        | inr new ↦ (
            let here : high ≡ length numbers = omega (arith, new, inside, size) in
            let a = before low (omega (arith, above, here)) in
            let b = last high here in
            let under = are.low low 0 (omega (arith, above, here)) in omega (arith, a, b, under))
      ]

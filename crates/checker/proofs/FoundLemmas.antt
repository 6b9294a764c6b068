-- What a check tells once no share is read any more.
use Rattle.std.proofs.Common.{◌≡◌, ℕ, zero, suc, ◌+◌, ◌-◌, ◌≤◌, Bool, true, false, cond, List, [], ◌∷◌, ◌++◌, length, get_or, map, take, drop, All, Some, ap, refl, sym, subst, ◌∙◌, arith, inl, inr}
use Rattle.std.specs.Prelude.{Contains, slice_get, count_by}
use Rattle.std.specs.List.{flat_map, range_with_len}
use Rattle.std.proofs.lemmas.List.{map-append}
use Rattle.std.proofs.lemmas.List.Sums.{sum_by-append}
use Rattle.std.proofs.lemmas.List.Elements.{All-nil, All-append, All-map, All-take, All-drop, All-contains}
use Rattle.std.proofs.lemmas.Option.{slice_get-get_or, slice_get_within, same_Some}
use Rattle.lemmas.proofs.Members.{contains_none}
use Rattle.lemmas.proofs.Ranges.{range_more}
use Rattle.lemmas.proofs.Positions.{get_of}
use Rattle.placement.specs.Matching.{Pair}
use Rattle.request_record.specs.declared.requests.Asked.{Asked}
use Rattle.request_record.specs.declared.requests.Asked.TheVariants.{Holdings}
use Rattle.request_record.specs.declared.requests.Request.{Request}
use Rattle.request_record.specs.Record.{is_outstanding}
use Rattle.share_reading.specs.Verdict.{IsVerdict}
use Rattle.share_reading.specs.declared.verdict.Verdict.{Verdict}
use Rattle.share_reading.proofs.VerdictLemmas.{exclusive}
use Rattle.checker.specs.Offers.{key_of}
use Rattle.checker.specs.Shares.{offered_pairs, offered_to, settled_of}
use Rattle.checker.specs.Report.{AreVerdicts, IsVerdictBy, pair_of}
use Rattle.checker.specs.Book.{HasBook, HasCome, IsAt, IsAwaitedAt, IsEnded, IsKept, IsReading}
use Rattle.checker.specs.Wanted.{AnyWaits}
use Rattle.checker.specs.Found.{IsDone, IsOver, found_among, found_of, verdict_in}
use Rattle.checker.specs.declared.state.Machine.{Machine}
use Rattle.checker.specs.declared.state.Told.{Told}
use Rattle.checker.specs.declared.offers.Offer.{Offer}
use Rattle.checker.specs.declared.offers.Stage.{Stage}
use Rattle.checker.specs.declared.offers.Stage.TheVariants.{Waiting, Read, Ended}
use Rattle.checker.specs.declared.status.CheckStatus.TheVariants.{Done}
use Rattle.checker.specs.declared.status.ShareVerdict.{ShareVerdict}
use Rattle.checker.proofs.ApartLemmas.{settled_apart}
use Rattle.checker.proofs.Entries.{about_read}
use Rattle.checker.proofs.Keeping.{none_waits}

-- ---- numbers are counted

counted : (test : ℕ → Bool) (n : ℕ) → count_by test (range_with_len 0 (n + 1)) ≡ count_by test (range_with_len 0 n) + cond (test n) 1 0
counted test n =
    ap (count_by test) (range_more 0 n ∙ ap (λ m. range_with_len 0 n ++ m ∷ []) (omega arith))
    ∙ sum_by-append (λ m. cond (test m) 1 0) (range_with_len 0 n) (n ∷ [])
    ∙ ap (λ m. count_by test (range_with_len 0 n) + m) (omega arith)

pub count_yes : (test : ℕ → Bool) (n : ℕ) → test n ≡ true → count_by test (range_with_len 0 (n + 1)) ≡ count_by test (range_with_len 0 n) + 1
count_yes test n e = counted test n ∙ ap (λ b. count_by test (range_with_len 0 n) + cond b 1 0) e

pub count_no : (test : ℕ → Bool) (n : ℕ) → test n ≡ false → count_by test (range_with_len 0 (n + 1)) ≡ count_by test (range_with_len 0 n)
count_no test n e = counted test n ∙ ap (λ b. count_by test (range_with_len 0 n) + cond b 1 0) e ∙ omega arith

-- ---- no share is read any more

over_at : (m : Machine) → IsKept m Done → (k : ℕ) (o : Offer) → slice_get m.offers.items k ≡ Some o → IsOver o
over_at m kept k o at = by o.stage refl
  where
    book : HasBook m []
    book = kept.book (λ e. cc)

    by : (s : Stage) → o.stage ≡ s → (v : Verdict) × (o.stage ≡ Ended v)
    by Waiting e = absurd (book.started k o at (omega (arith, kept.begun refl, slice_get_within m.offers.items k o at)) e)
    by (Read r) e = absurd (
        let is : IsReading m.cap m.requests.entries [] o r = subst (IsAt m.cap m.requests.entries [] o) e (book.reading k o at) in
        let any : AnyWaits o.wanted.items = subst (IsAwaitedAt o) e (kept.awaited (λ e. cc) k o at) in
        let p = is.wanted any.0 any.1 any.2 in
        elim (subst (HasCome [] p.request any.1.position) any.3 p.came) [
          | inl waits ↦ none_waits m.requests.entries any.1.position p.request (kept.idle refl) p.there (ap is_outstanding waits)
          | inr h ↦ contains_none any.1.position h
        ])
    by (Ended v) e = (v, e)

pub done_of : (m : Machine) → IsKept m Done → IsDone m
done_of m kept = record {
  safe = kept.safe;
  book = kept.book (λ e. cc);
  over = λ k d lt. over_at m kept k (get_or m.offers.items k d) (slice_get-get_or m.offers.items k d lt);
  inside = λ i d lt. inside_at i (get_or m.told.items i d) (slice_get-get_or m.told.items i d lt);
}
  where
    inside_at : (i : ℕ) (t : Told) → slice_get m.told.items i ≡ Some t → t.first + t.count ≤ length m.offers.items
    inside_at i t e =
        let book : HasBook m [] = kept.book (λ x. cc) in
        let request = get_of m.requests.entries i (omega (arith, book.long, slice_get_within m.told.items i t e)) in
        elim (book.tells i t request.0 e request.1) [
          | inl waits ↦ absurd (contains_none i waits.0)
          | inr are ↦ are.0
        ]

-- ---- the verdicts

flat_map_none : {X A : Type 0} (g : X → List A) (es : List X) → ((i : ℕ) (r : X) → slice_get es i ≡ Some r → g r ≡ []) → flat_map g es ≡ []
flat_map_none g [] none = refl
flat_map_none g (e ∷ es) none = ap (λ l. l ++ flat_map g es) (none zero e refl) ∙ flat_map_none g es (λ i. none (suc i))

flat_map_both : {X Y A : Type 0} (f : X → List A) (g : Y → List A) (ts : List X) (es : List Y) → length ts ≤ length es
    → ((i : ℕ) (t : X) (r : Y) → slice_get ts i ≡ Some t → slice_get es i ≡ Some r → f t ≡ g r)
    → ((i : ℕ) (r : Y) → length ts ≤ i → slice_get es i ≡ Some r → g r ≡ []) → flat_map f ts ≡ flat_map g es
flat_map_both f g [] es few same none = sym (flat_map_none g es (λ i r e. none i r (omega arith) e))
flat_map_both f g (t ∷ ts) [] few same none = absurd (omega (arith, few))
flat_map_both f g (t ∷ ts) (e ∷ es) few same none =
    ap (λ l. l ++ flat_map f ts) (same zero t e refl refl)
    ∙ ap (λ l. g e ++ l) (flat_map_both f g ts es (omega (arith, few)) (λ i. same (suc i)) (λ i r le. none (suc i) r (omega (arith, le))))

map_flat : {X A B : Type 0} (h : A → B) (f : X → List A) (xs : List X) → map h (flat_map f xs) ≡ flat_map (λ x. map h (f x)) xs
map_flat h f [] = refl
map_flat h f (x ∷ xs) = map-append h (f x) (flat_map f xs) ∙ ap (λ l. map h (f x) ++ l) (map_flat h f xs)

pairs_found : (os : List Offer) → map pair_of (map found_of os) ≡ map key_of os
pairs_found [] = refl
pairs_found (o ∷ os) = ap (λ (l : List Pair). key_of o ∷ l) (pairs_found os)

map_take : {X Y : Type 0} (f : X → Y) (n : ℕ) (xs : List X) → map f (take n xs) ≡ take n (map f xs)
map_take f zero xs = refl
map_take f (suc n) [] = refl
map_take f (suc n) (x ∷ xs) = ap (λ l. f x ∷ l) (map_take f n xs)

map_drop : {X Y : Type 0} (f : X → Y) (n : ℕ) (xs : List X) → map f (drop n xs) ≡ drop n (map f xs)
map_drop f zero xs = refl
map_drop f (suc n) [] = refl
map_drop f (suc n) (x ∷ xs) = map_drop f n xs

keys_found : (offers : List Offer) (t : Told) → map pair_of (found_among offers t) ≡ take t.count (drop t.first (map key_of offers))
keys_found offers t =
    pairs_found (take t.count (drop t.first offers)) ∙ map_take key_of t.count (drop t.first offers) ∙ ap (take t.count) (map_drop key_of t.first offers)

pub all_found : (P : ShareVerdict → Type 0) (offers : List Offer) (told : List Told) → All (λ (o : Offer). P (found_of o)) offers → All P (flat_map (found_among offers) told)
all_found P offers [] all = All-nil P
all_found P offers (t ∷ ts) all =
    All-append P (found_among offers t) (flat_map (found_among offers) ts)
    (All-map P found_of (take t.count (drop t.first offers))
    (All-take (λ (o : Offer). P (found_of o)) t.count (drop t.first offers) (All-drop (λ (o : Offer). P (found_of o)) t.first offers all)))
    (all_found P offers ts all)

pairs_are : (m : Machine) → HasBook m [] → map pair_of (flat_map (found_among m.offers.items) m.told.items) ≡ offered_pairs m.cap.total m.requests.entries
pairs_are m book =
    map_flat pair_of (found_among m.offers.items) m.told.items
    ∙ flat_map_both (λ (t : Told). map pair_of (found_among m.offers.items t)) (λ (r : Request). offered_to m.cap.total r.server r.asked r.outcome) m.told.items m.requests.entries
    (omega (arith, book.long)) same none
  where
    same : (i : ℕ) (t : Told) (r : Request) → slice_get m.told.items i ≡ Some t → slice_get m.requests.entries i ≡ Some r
        → map pair_of (found_among m.offers.items t) ≡ offered_to m.cap.total r.server r.asked r.outcome
    same i t r e f =
        let holdings : r.asked ≡ Holdings = book.asks i r (slice_get_within m.told.items i t e) f in
        keys_found m.offers.items t
        ∙ elim (book.tells i t r e f) [
          | inl waits ↦ absurd (contains_none i waits.0)
          | inr are ↦ are.1
        ]
        ∙ ap (λ (a : Asked). offered_to m.cap.total r.server a r.outcome) (sym holdings)

    none : (i : ℕ) (r : Request) → length m.told.items ≤ i → slice_get m.requests.entries i ≡ Some r → offered_to m.cap.total r.server r.asked r.outcome ≡ []
    none i r le e =
        let n = length m.told.items in
        let k = get_of m.owners.items (i - n) (omega (arith, le, book.long, slice_get_within m.requests.entries i r e)) in
        let owner = book.owned (i - n) k.0 k.1 in
        let here : n + (i - n) ≡ i = omega (arith, le) in
        let is : owner.request ≡ r = same_Some owner.request r (sym owner.asks ∙ ap (slice_get m.requests.entries) here ∙ e) in
        let read = about_read (key_of owner.offer) owner.request owner.about in
        ap (λ (a : Asked). offered_to m.cap.total r.server a r.outcome) (ap (λ (x : Request). x.asked) (sym is) ∙ read.is)

pub are_verdicts : (m : Machine) → IsDone m → AreVerdicts m.cap m.requests.entries (flat_map (found_among m.offers.items) m.told.items)
are_verdicts m done = record {
  pairs = pairs_are m done.book;
  right = right;
  only = λ v verdict at is.
      exclusive.one m.cap v.share (settled_of m.requests.entries v.server v.share) v.verdict verdict
      (settled_apart m.cap m.requests.entries done.safe.once done.safe.reads (v.server, v.share)) (right v at) is;
}
  where
    by_offer : (k : ℕ) (o : Offer) → slice_get m.offers.items k ≡ Some o → (over : IsOver o) → IsVerdictBy m.cap m.requests.entries (found_of o) (verdict_in o.stage)
    by_offer k o at over =
        let is : IsEnded m.cap m.requests.entries o over.0 = subst (IsAt m.cap m.requests.entries [] o) over.1 (done.book.reading k o at) in
        subst (IsVerdict m.cap o.share (settled_of m.requests.entries o.server o.share)) (ap verdict_in (sym over.1)) is.verdict

    right : (v : ShareVerdict) → Contains (flat_map (found_among m.offers.items) m.told.items) v → IsVerdictBy m.cap m.requests.entries v v.verdict
    right v at =
        All-contains (λ (x : ShareVerdict). IsVerdictBy m.cap m.requests.entries x x.verdict) (flat_map (found_among m.offers.items) m.told.items) v
        (all_found (λ (x : ShareVerdict). IsVerdictBy m.cap m.requests.entries x x.verdict) m.offers.items m.told.items
        (λ k d lt. by_offer k (get_or m.offers.items k d) (slice_get-get_or m.offers.items k d lt) (done.over k d lt)))
        at

-- Bytes that agree.
use Rattle.std.proofs.Common.{◌≡◌, ℕ, ◌+◌, ◌-◌, ◌<◌, ◌≤◌, ◌⊎◌, inl, inr, List, length, get_or, Some, Bool, true, false, true≢false, IsTrue, ◌↔◌, refl, sym, ap, subst, ◌∙◌, arith}
use Rattle.std.specs.Prelude.{slice_get}
use Rattle.std.proofs.lemmas.Bool.{cases_lt}
use Rattle.std.proofs.lemmas.Option.{slice_get_within, slice_get-get_or, slice_get_read, get_or_from_slice_get}
use Rattle.world_operations.proofs.Positions.{same_some}
use Rattle.std.specs.Prelude.{All, Contains}
use Rattle.std.proofs.lemmas.List.Elements.{All-contains, Contains-get_or}
use Rattle.cap_text.specs.Cap.{ReadCapValue}
use Rattle.file_upload.specs.Prepared.{prepared_of}
use Rattle.download_segments.specs.declared.piece.Piece.{Piece}
use Rattle.world_operations.specs.declared.job.Job.{Job}
use Rattle.world_operations.specs.declared.job.Job.TheVariants.{Upload, Changing, Download, Check, Repair, NoRepair}
use Rattle.world_operations.specs.declared.operation.Operation.{Operation}
use Rattle.world_script.specs.Agreement.{Agree, HandedOut, HasByte}
use Rattle.world_script.specs.Agreeing.{AgreesAs, AgreesWith, AllHave, AreSame, GoOn, Has}

-- as far as a position both have the same
abbrev pub AreAlike : List ℕ → ℕ → List ℕ → ℕ → Type 0
AreAlike bytes from others n = (k : ℕ) → k < n → get_or bytes (from + k) 0 ≡ get_or others k 0

pub alike_more : (bytes others : List ℕ) (from n : ℕ) → AreAlike bytes from others n → get_or bytes (from + n) 0 ≡ get_or others n 0 → AreAlike bytes from others (n + 1)
alike_more bytes others from n alike same k lt = elim (up_to k lt) [
  | inl below ↦ alike k below
  | inr at ↦ subst (λ j. get_or bytes (from + j) 0 ≡ get_or others j 0) (sym at) same
]
  where
    up_to : (j : ℕ) → j < n + 1 → (j < n) ⊎ (j ≡ n)
    up_to j low = elim (cases_lt j n) [ inl below ↦ inl below | inr le ↦ inr (omega (arith, low, le)) ]

-- where both end, they go on alike
pub alike_on : (bytes others : List ℕ) (from n : ℕ) → AreAlike bytes from others n → (length others ≤ n) ⊎ (length bytes ≤ from + n) → GoOn bytes from others
alike_on bytes others from n alike ends i a b ea eb =
    let la : from + i < length bytes = slice_get_within bytes (from + i) a ea in
    let lb : i < length others = slice_get_within others i b eb in
    let low : i < n = elim ends [ inl le ↦ omega (arith, lb, le) | inr le ↦ omega (arith, la, le) ] in
    sym (get_or_from_slice_get bytes (from + i) a 0 ea) ∙ alike i low ∙ get_or_from_slice_get others i b 0 eb

-- where they differ, they do not
pub differ_at : (bytes others : List ℕ) (from n : ℕ) → n < length others → from + n < length bytes → GoOn bytes from others → get_or bytes (from + n) 0 ≡ get_or others n 0
differ_at bytes others from n lo lb on = on n (get_or bytes (from + n) 0) (get_or others n 0) (slice_get-get_or bytes (from + n) 0 lb) (slice_get-get_or others n 0 lo)

-- one after the other
pub same_later : (bytes others : List ℕ) (from other : ℕ) → from ≤ other → GoOn bytes (other - from) others → AreSame from bytes other others
same_later bytes others from other le on position a b ha hb =
    let at : ha.0 ≡ (other - from) + hb.0 = omega (arith, le, ha.1, hb.1) in
    on hb.0 a b (subst (λ i. slice_get bytes i ≡ Some a) at ha.2) hb.2

pub later_same : (bytes others : List ℕ) (from other : ℕ) → from ≤ other → AreSame from bytes other others → GoOn bytes (other - from) others
later_same bytes others from other le same i a b ea eb =
    same (other + i) a b ((other - from) + i, omega (arith, le), ea) (i, refl, eb)

-- the same the other way round
pub same_back : (bytes others : List ℕ) (from other : ℕ) → AreSame from bytes other others → AreSame other others from bytes
same_back bytes others from other same position a b ha hb = sym (same position b a hb ha)

-- ---- operations

-- all downloads agree with each operation
pub agree_of : (operations : List Operation) → All (λ (op : Operation). AgreesWith op operations) operations → Agree operations
agree_of operations all = record {
  downloads = λ first second cap position a b cf cs hf hs.
      let with : AgreesAs (Download cap hf.from hf.to) first operations = subst (λ (j : Job). AgreesAs j first operations) hf.job (All-contains (λ (op : Operation). AgreesWith op operations) operations first all cf) in
      let have : AllHave cap hf.piece.offset hf.piece.bytes operations = All-contains (λ (piece : Piece). AllHave cap piece.offset piece.bytes operations) first.given hf.piece with hf.handed_out in
      sym (theirs second cap hf.piece.offset hf.piece.bytes have cs position b a hs hf.byte_is);
  uploads = λ upload download cap position a b cu cd hu hd.
      let with : AgreesAs (Upload hu.file hu.secret hu.p) upload operations = subst (λ (j : Job). AgreesAs j upload operations) hu.job (All-contains (λ (op : Operation). AgreesWith op operations) operations upload all cu) in
      let have : AllHave cap 0 hu.file operations = subst (λ (k : ReadCapValue). AllHave k 0 hu.file operations) (sym hu.cap_is) (with (hu.pairs, hu.happy) hu.upload) in
      sym (theirs download cap 0 hu.file have cd position b a hd (position, omega arith, hu.byte_is));
}
  where
    theirs : (op : Operation) (cap : ReadCapValue) (from : ℕ) (bytes : List ℕ) → AllHave cap from bytes operations → Contains operations op → (position b a : ℕ) → HandedOut op cap position b → HasByte from bytes position a → b ≡ a
    theirs op cap from bytes have c position b a h own =
        let has : Has cap from bytes op = All-contains (λ (o : Operation). Has cap from bytes o) operations op have c in
        let same : AreSame h.piece.offset h.piece.bytes from bytes = All-contains (λ (piece : Piece). AreSame piece.offset piece.bytes from bytes) op.given h.piece (has h.from h.to h.job) h.handed_out in
        same position b a h.byte_is own

-- where all agree, they agree with each
pub agree_with : (operations : List Operation) → Agree operations → (op : Operation) → Contains operations op → AgreesWith op operations
agree_with operations agree op c = at_job op.job refl
  where
    at_job : (job : Job) → op.job ≡ job → AgreesAs job op operations
    at_job (Download cap from to) e = λ k d low k' d' low' from' to' e' l m lm position a b ha hb.
        let first : Piece = get_or op.given k d in
        let second : Operation = get_or operations k' d' in
        let third : Piece = get_or second.given l m in
        agree.downloads second op cap position a b (Contains-get_or operations k' d' low') c
        (record { from = from'; to = to'; piece = third; job = e'; handed_out = Contains-get_or second.given l m lm; byte_is = ha })
        (record { from = from; to = to; piece = first; job = e; handed_out = Contains-get_or op.given k d low; byte_is = hb })
    at_job (Upload file secret p) e = λ happy upload k' d' low' from' to' e' l m lm position a b ha hb.
        let second : Operation = get_or operations k' d' in
        let third : Piece = get_or second.given l m in
        let at : hb.0 ≡ position = omega (arith, hb.1) in
        sym (agree.uploads op second (prepared_of file secret p).cap position b a c (Contains-get_or operations k' d' low')
        (record { file = file; secret = secret; p = p; pairs = happy.0; job = e; upload = upload; cap_is = refl; happy = happy.1; byte_is = subst (λ (i : ℕ). slice_get file i ≡ Some b) at hb.2 })
        (record { from = from'; to = to'; piece = third; job = e'; handed_out = Contains-get_or second.given l m lm; byte_is = ha }))
    at_job (Changing one other after secret p) e = tt
    at_job (Check cap) e = tt
    at_job (Repair cap happy) e = tt
    at_job (NoRepair cap why) e = tt

-- ---- answers

pub refuted : {A B : Type 0} (r : Bool) → (IsTrue r ↔ A) → r ≡ false → (B → A) → IsTrue false ↔ B
refuted r says wrong all = (λ t. absurd (true≢false (sym t)), λ b. absurd (true≢false (sym (says.1 (all b)) ∙ wrong)))

pub affirmed : {B : Type 0} → B → IsTrue true ↔ B
affirmed b = (λ t. b, λ x. refl)

-- ---- one after the other

-- the first ones of a list are so
abbrev pub AreFirst : {X : Type 0} → (X → Type 0) → List X → ℕ → Type 0
AreFirst P xs n = (k : ℕ) (x : _) → k < n → slice_get xs k ≡ Some x → P x

pub first_more : {X : Type 0} (P : X → Type 0) (xs : List X) (n : ℕ) (y : X) → AreFirst P xs n → n < length xs → y ≡ get_or xs n y → P y → AreFirst P xs (n + 1)
first_more P xs n y first low at is k x lt e = elim (cases_lt k n) [
  | inl below ↦ first k x below e
  | inr le ↦ (
      let same : k ≡ n = omega (arith, lt, le) in
      let there : slice_get xs n ≡ Some y = slice_get_read xs (length xs) n y refl low at in
      let one : Some x ≡ Some y = sym e ∙ ap (λ (i : ℕ). slice_get xs i) same ∙ there in
      subst P (sym (same_some x y one)) is)
]

pub first_all : {X : Type 0} (P : X → Type 0) (xs : List X) (n : ℕ) → AreFirst P xs n → length xs ≤ n → All P xs
first_all P xs n first le = λ k d low. first k (get_or xs k d) (omega (arith, low, le)) (slice_get-get_or xs k d low)

pub all_at : {X : Type 0} (P : X → Type 0) (xs : List X) (n : ℕ) (y : X) → All P xs → n < length xs → y ≡ get_or xs n y → P y
all_at P xs n y all low at = All-contains P xs y all (n, low, sym at)

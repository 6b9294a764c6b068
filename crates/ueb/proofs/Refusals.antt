-- A text is read, or it is refused, for one reason.
use Rattle.std.proofs.Common.{◌≡◌, ℕ, ◌^◌, ◌<◌, ◌≤◌, List, length, false, Option, Some, None, Result, Ok, Err, decimal, refl, sym, ap, subst, ◌∙◌, inl, inr, arith}
use Rattle.std.specs.Prelude.{MatchOption, MatchResult, IfOk, is_some}
use Rattle.std.proofs.lemmas.Fmt.{decimal_injective}
use Rattle.ueb.specs.declared.key.Key.{Key}
use Rattle.ueb.specs.declared.key.Key.TheVariants.{CodecName, CodecParams, CrypttextHash, CrypttextRootHash, NeededShares, NumSegments, SegmentSize, ShareRootHash, Size, TailCodecParams, TotalShares}
use Rattle.ueb.specs.declared.block.Expect.{Expect}
use Rattle.ueb.specs.declared.error.UebError.{UebError}
use Rattle.ueb.specs.declared.error.UebError.TheVariants.{OutOfMemory, Malformed, KeyOrder, MissingKey, Disagrees, TooLong}
use Rattle.ueb.specs.Limits.{max_length}
use Rattle.ueb.specs.Key.{key_name, IsFirst}
use Rattle.ueb.specs.Shape.{Contents, AreContents, IsSegmentSize, codec_params, num_segments, rounded_up, tail_size}
use Rattle.ueb.specs.Fields.{Field, AreFields, value_of}
use Rattle.ueb.specs.Block.{value_text, IsUeb}
use Rattle.ueb.specs.Reading.{Agrees, IsMissing, numbers, Suits, HasSuiting, Differs, HasSegmentSize, IsFirstToDiffer, LacksKey, DisagreesAt, IsRefused}
use Rattle.ueb.proofs.KeyOrder.{first_unique}
use Rattle.ueb.proofs.Verdicts.{same_fields, fields_not_malformed, fields_not_disordered, not_both}

pub at_none : {T : Type 0} (P : Type 0) (Q : T → Type 0) (r : Option T) → is_some r ≡ false → MatchOption r P Q → P
at_none P Q None e m = m
at_none P Q (Some x) e m = absurd (cc)

pub text_same : (a b : List ℕ) → Some a ≡ Some b → a ≡ b
text_same a b e = cc

pub some_is_some : (a : List ℕ) → Some a ≡ None → ⊥
some_is_some a e = cc

-- ---- values

-- the same four numbers
pub record SameNumbers (c d : Contents) : Type 0 where
  pub needed_shares : c.needed_shares ≡ d.needed_shares
  pub total_shares : c.total_shares ≡ d.total_shares
  pub size : c.size ≡ d.size
  pub segment_size : c.segment_size ≡ d.segment_size

pub suits_along : (c d : Contents) → SameNumbers c d → (key : Key) (value : List ℕ) → Suits c key value → Suits d key value
unfolding value_text
suits_along c d s CodecName value h = h
suits_along c d s CodecParams value h = h ∙ λ i. codec_params (s.segment_size i) (s.needed_shares i) (s.total_shares i)
suits_along c d s CrypttextHash value h = h
suits_along c d s CrypttextRootHash value h = h
suits_along c d s NeededShares value h = h ∙ ap decimal s.needed_shares
suits_along c d s NumSegments value h = h ∙ λ i. decimal (num_segments (s.size i) (s.segment_size i))
suits_along c d s SegmentSize value h = h ∙ ap decimal s.segment_size
suits_along c d s ShareRootHash value h = h
suits_along c d s Size value h = h ∙ ap decimal s.size
suits_along c d s TailCodecParams value h = h ∙ λ i. codec_params (rounded_up (tail_size (s.size i) (s.segment_size i)) (s.needed_shares i)) (s.needed_shares i) (s.total_shares i)
suits_along c d s TotalShares value h = h ∙ ap decimal s.total_shares

pub suiting_not_different : (c : Contents) (fields : List Field) (key : Key) → HasSuiting c fields key → Differs c fields key → ⊥
suiting_not_different c fields key h d = d h.value h.there h.suits

same_back : (c d : Contents) → SameNumbers c d → SameNumbers d c
same_back c d s = record { needed_shares = sym s.needed_shares; total_shares = sym s.total_shares; size = sym s.size; segment_size = sym s.segment_size }

-- what differs from d's numbers differs from c's, where they are the same
differs_along : (c d : Contents) (fields : List Field) (key : Key) → SameNumbers d c → Differs c fields key → Differs d fields key
differs_along c d fields key s differs value there suits = differs value there (suits_along d c s key value suits)

-- a block's values suit it
suits_itself : (c : Contents) → AreContents c → (key : Key) → Suits c key (value_text c key)
unfolding value_text
suits_itself c a CodecName = refl
suits_itself c a CodecParams = refl
suits_itself c a CrypttextHash = a.crypttext_hash
suits_itself c a CrypttextRootHash = a.crypttext_root_hash
suits_itself c a NeededShares = refl
suits_itself c a NumSegments = refl
suits_itself c a SegmentSize = refl
suits_itself c a ShareRootHash = a.share_root_hash
suits_itself c a Size = refl
suits_itself c a TailCodecParams = refl
suits_itself c a TotalShares = refl

size_text : (c : Contents) → value_text c SegmentSize ≡ decimal c.segment_size
unfolding value_text
size_text c = refl

hash_texts : (c : Contents) → (value_text c CrypttextHash ≡ c.crypttext_hash) × (value_text c CrypttextRootHash ≡ c.crypttext_root_hash) × (value_text c ShareRootHash ≡ c.share_root_hash)
unfolding value_text
hash_texts c = (refl, refl, refl)

-- ---- one segment size

size_small : (needed size segment_size : ℕ) → IsSegmentSize needed size segment_size → segment_size < 2 ^ 64
size_small needed size segment_size s = omega (arith, s.not_large)

has_size : (expect : Expect) (bytes : List ℕ) (c : Contents) (u : IsUeb bytes c) → Agrees expect c → HasSegmentSize expect u.fields c.segment_size
has_size expect bytes c u a = record {
  value = u.known SegmentSize ∙ ap Some (size_text c);
  suits = subst (λ (k : ℕ). IsSegmentSize k expect.size c.segment_size) a.needed_shares (subst (λ (n : ℕ). IsSegmentSize c.needed_shares n c.segment_size) a.size u.contents.shape.segments);
}

size_unique : (expect : Expect) (fields : List Field) (s t : ℕ) → HasSegmentSize expect fields s → HasSegmentSize expect fields t → s ≡ t
size_unique expect fields s t p q =
    decimal_injective s t (size_small expect.needed expect.size s p.suits) (size_small expect.needed expect.size t q.suits) (text_same (decimal s) (decimal t) (sym p.value ∙ q.value))

-- ---- what is read is not refused

same_numbers : (expect : Expect) (c : Contents) (s : ℕ) → Agrees expect c → c.segment_size ≡ s → SameNumbers c (numbers expect s)
same_numbers expect c s a e = record { needed_shares = a.needed_shares; total_shares = a.total_shares; size = a.size; segment_size = e }

no_difference : (expect : Expect) (bytes : List ℕ) (c : Contents) (key : Key) (u : IsUeb bytes c) → Agrees expect c → IsFirstToDiffer expect u.fields key → ⊥
no_difference expect bytes c key u a (inl d) = d.1 c.segment_size (has_size expect bytes c u a)
no_difference expect bytes c key u a (inr d) =
    let e = size_unique expect u.fields c.segment_size d.0 (has_size expect bytes c u a) d.1 in
    d.2.holds (value_text c key) (u.known key) (suits_along c (numbers expect d.0) (same_numbers expect c d.0 a e) key (value_text c key) (suits_itself c u.contents key))

read_not_refused : (bytes : List ℕ) (expect : Expect) (c : Contents) (e : UebError) → length bytes < 2 ^ 64 → IsUeb bytes c → Agrees expect c → IsRefused bytes expect e → ⊥
read_not_refused bytes expect c OutOfMemory small u a r = r
read_not_refused bytes expect c TooLong small u a r = omega (arith, r, u.short)
read_not_refused bytes expect c Malformed small u a r = fields_not_malformed bytes u.fields small u.are_fields r.1
read_not_refused bytes expect c KeyOrder small u a r = fields_not_disordered bytes u.fields small u.are_fields r.1
read_not_refused bytes expect c (MissingKey key) small u a r =
    let same = same_fields bytes u.fields r.1.fields small u.are_fields r.1.are_fields in
    some_is_some (value_text c key) (sym (u.known key) ∙ ap (value_of (key_name key)) same ∙ r.1.first.holds)
read_not_refused bytes expect c (Disagrees key) small u a r =
    let same = same_fields bytes u.fields r.1.fields small u.are_fields r.1.are_fields in
    no_difference expect bytes c key u a (subst (λ (f : List Field). IsFirstToDiffer expect f key) (sym same) r.1.first)

-- ---- one value

contents_same : (c d : Contents) → SameNumbers c d → c.crypttext_hash ≡ d.crypttext_hash → c.crypttext_root_hash ≡ d.crypttext_root_hash → c.share_root_hash ≡ d.share_root_hash → c ≡ d
contents_same c d s p q r = λ i. record {
  needed_shares = s.needed_shares i;
  total_shares = s.total_shares i;
  size = s.size i;
  segment_size = s.segment_size i;
  crypttext_hash = p i;
  crypttext_root_hash = q i;
  share_root_hash = r i;
}

-- bytes have one value that agrees
pub read_unique : (bytes : List ℕ) (expect : Expect) (c d : Contents) → length bytes < 2 ^ 64 → IsUeb bytes c → Agrees expect c → IsUeb bytes d → Agrees expect d → c ≡ d
read_unique bytes expect c d small u a v b =
    let same = same_fields bytes u.fields v.fields small u.are_fields v.are_fields in
    let texts : (key : Key) → value_text c key ≡ value_text d key = λ key. text_same (value_text c key) (value_text d key) (sym (u.known key) ∙ ap (value_of (key_name key)) same ∙ v.known key) in
    let mine = hash_texts c in
    let theirs = hash_texts d in
    let size = size_unique expect v.fields c.segment_size d.segment_size (subst (λ (f : List Field). HasSegmentSize expect f c.segment_size) same (has_size expect bytes c u a)) (has_size expect bytes d v b) in
    contents_same c d
    (record { needed_shares = a.needed_shares ∙ sym b.needed_shares; total_shares = a.total_shares ∙ sym b.total_shares; size = a.size ∙ sym b.size; segment_size = size })
    (sym mine.0 ∙ texts CrypttextHash ∙ theirs.0) (sym mine.1 ∙ texts CrypttextRootHash ∙ theirs.1) (sym mine.2 ∙ texts ShareRootHash ∙ theirs.2)

-- ---- one reason

lacks_unique : (bytes : List ℕ) (a b : Key) → length bytes < 2 ^ 64 → LacksKey bytes a → LacksKey bytes b → a ≡ b
lacks_unique bytes a b small p q =
    let same = same_fields bytes p.fields q.fields small p.are_fields q.are_fields in
    first_unique (IsMissing q.fields) a b (subst (λ (f : List Field). IsFirst (IsMissing f) a) same p.first) q.first

differ_unique : (expect : Expect) (fields : List Field) (a b : Key) → IsFirstToDiffer expect fields a → IsFirstToDiffer expect fields b → a ≡ b
differ_unique expect fields a b (inl p) (inl q) = p.0 ∙ sym q.0
differ_unique expect fields a b (inl p) (inr q) = absurd (p.1 q.0 q.1)
differ_unique expect fields a b (inr p) (inl q) = absurd (q.1 p.0 p.1)
differ_unique expect fields a b (inr p) (inr q) =
    let same = size_unique expect fields p.0 q.0 p.1 q.1 in
    first_unique (Differs (numbers expect q.0) fields) a b (subst (λ (s : ℕ). IsFirst (Differs (numbers expect s) fields) a) same p.2) q.2

disagrees_unique : (expect : Expect) (bytes : List ℕ) (a b : Key) → length bytes < 2 ^ 64 → DisagreesAt expect bytes a → DisagreesAt expect bytes b → a ≡ b
disagrees_unique expect bytes a b small p q =
    let same = same_fields bytes p.fields q.fields small p.are_fields q.are_fields in
    differ_unique expect q.fields a b (subst (λ (f : List Field). IsFirstToDiffer expect f a) same p.first) q.first

lacks_not_disagrees : (expect : Expect) (bytes : List ℕ) (a b : Key) → length bytes < 2 ^ 64 → LacksKey bytes a → DisagreesAt expect bytes b → ⊥
lacks_not_disagrees expect bytes a b small p q =
    let same = same_fields bytes p.fields q.fields small p.are_fields q.are_fields in
    q.complete a (sym (ap (value_of (key_name a)) same) ∙ p.first.holds)

pub refusal_unique : (bytes : List ℕ) (expect : Expect) (d e : UebError) → length bytes < 2 ^ 64 → IsRefused bytes expect d → IsRefused bytes expect e → d ≡ e
refusal_unique bytes expect OutOfMemory e small p q = absurd p
refusal_unique bytes expect TooLong OutOfMemory small p q = absurd q
refusal_unique bytes expect TooLong TooLong small p q = refl
refusal_unique bytes expect TooLong Malformed small p q = absurd (omega (arith, p, q.0))
refusal_unique bytes expect TooLong KeyOrder small p q = absurd (omega (arith, p, q.0))
refusal_unique bytes expect TooLong (MissingKey key) small p q = absurd (omega (arith, p, q.0))
refusal_unique bytes expect TooLong (Disagrees key) small p q = absurd (omega (arith, p, q.0))
refusal_unique bytes expect Malformed OutOfMemory small p q = absurd q
refusal_unique bytes expect Malformed TooLong small p q = absurd (omega (arith, p.0, q))
refusal_unique bytes expect Malformed Malformed small p q = refl
refusal_unique bytes expect Malformed KeyOrder small p q = absurd (not_both bytes small p.1 q.1)
refusal_unique bytes expect Malformed (MissingKey key) small p q = absurd (fields_not_malformed bytes q.1.fields small q.1.are_fields p.1)
refusal_unique bytes expect Malformed (Disagrees key) small p q = absurd (fields_not_malformed bytes q.1.fields small q.1.are_fields p.1)
refusal_unique bytes expect KeyOrder OutOfMemory small p q = absurd q
refusal_unique bytes expect KeyOrder TooLong small p q = absurd (omega (arith, p.0, q))
refusal_unique bytes expect KeyOrder Malformed small p q = absurd (not_both bytes small q.1 p.1)
refusal_unique bytes expect KeyOrder KeyOrder small p q = refl
refusal_unique bytes expect KeyOrder (MissingKey key) small p q = absurd (fields_not_disordered bytes q.1.fields small q.1.are_fields p.1)
refusal_unique bytes expect KeyOrder (Disagrees key) small p q = absurd (fields_not_disordered bytes q.1.fields small q.1.are_fields p.1)
refusal_unique bytes expect (MissingKey key) OutOfMemory small p q = absurd q
refusal_unique bytes expect (MissingKey key) TooLong small p q = absurd (omega (arith, p.0, q))
refusal_unique bytes expect (MissingKey key) Malformed small p q = absurd (fields_not_malformed bytes p.1.fields small p.1.are_fields q.1)
refusal_unique bytes expect (MissingKey key) KeyOrder small p q = absurd (fields_not_disordered bytes p.1.fields small p.1.are_fields q.1)
refusal_unique bytes expect (MissingKey key) (MissingKey other) small p q = ap MissingKey (lacks_unique bytes key other small p.1 q.1)
refusal_unique bytes expect (MissingKey key) (Disagrees other) small p q = absurd (lacks_not_disagrees expect bytes key other small p.1 q.1)
refusal_unique bytes expect (Disagrees key) OutOfMemory small p q = absurd q
refusal_unique bytes expect (Disagrees key) TooLong small p q = absurd (omega (arith, p.0, q))
refusal_unique bytes expect (Disagrees key) Malformed small p q = absurd (fields_not_malformed bytes p.1.fields small p.1.are_fields q.1)
refusal_unique bytes expect (Disagrees key) KeyOrder small p q = absurd (fields_not_disordered bytes p.1.fields small p.1.are_fields q.1)
refusal_unique bytes expect (Disagrees key) (MissingKey other) small p q = absurd (lacks_not_disagrees expect bytes other key small q.1 p.1)
refusal_unique bytes expect (Disagrees key) (Disagrees other) small p q = ap Disagrees (disagrees_unique expect bytes key other small p.1 q.1)

-- ---- the answer

abbrev answer_err : UebError → Result Contents UebError
answer_err e = Err e

error_same : (d e : UebError) → answer_err d ≡ answer_err e → d ≡ e
error_same d e p = cc

pub record IsVerdict (bytes : List ℕ) (expect : Expect) (r : Result Contents UebError) : Type 0 where
  pub is : MatchResult r (λ c. IsUeb bytes c × Agrees expect c) (IsRefused bytes expect)

pub accepted : (bytes : List ℕ) (expect : Expect) (r : Result Contents UebError) → IsVerdict bytes expect r → IfOk r (λ c. IsUeb bytes c × Agrees expect c)
accepted bytes expect (Ok c) v = v.is
accepted bytes expect (Err e) v = tt

pub complete : (bytes : List ℕ) (expect : Expect) (r : Result Contents UebError) → length bytes < 2 ^ 64 → IsVerdict bytes expect r → (c : Contents) → IsUeb bytes c → Agrees expect c → r ≡ Ok c
complete bytes expect (Ok d) small v c u a = ap Ok (read_unique bytes expect d c small v.is.0 v.is.1 u a)
complete bytes expect (Err e) small v c u a = absurd (read_not_refused bytes expect c e small u a v.is)

pub refused : (bytes : List ℕ) (expect : Expect) (r : Result Contents UebError) → length bytes < 2 ^ 64 → IsVerdict bytes expect r → (e : UebError) → (r ≡ Err e → IsRefused bytes expect e) × (IsRefused bytes expect e → r ≡ Err e)
refused bytes expect (Ok c) small v e = ((λ p. absurd (cc)), (λ q. absurd (read_not_refused bytes expect c e small v.is.0 v.is.1 q)))
refused bytes expect (Err d) small v e = ((λ p. subst (λ (x : UebError). IsRefused bytes expect x) (error_same d e p) v.is), (λ q. ap Err (refusal_unique bytes expect d e small v.is q)))

-- ---- how the answer is found

pub lacks : (bytes : List ℕ) (fields : List Field) (key : Key) → AreFields bytes fields → IsFirst (IsMissing fields) key → LacksKey bytes key
lacks bytes fields key a first = record { fields = fields; are_fields = a; first = first }

-- a block of what is expected, with a segment size and hashes
abbrev made : Expect → ℕ → List ℕ → List ℕ → List ℕ → Contents
made expect segment_size h i j = record { needed_shares = expect.needed; total_shares = expect.total; size = expect.size; segment_size = segment_size; crypttext_hash = h; crypttext_root_hash = i; share_root_hash = j }

pub numbers_made : (expect : Expect) (s : ℕ) (h i j : List ℕ) (c : Contents) → c ≡ made expect s h i j → SameNumbers c (numbers expect c.segment_size)
numbers_made expect s h i j c e = record {
  needed_shares = ap (λ (x : Contents). x.needed_shares) e;
  total_shares = ap (λ (x : Contents). x.total_shares) e;
  size = ap (λ (x : Contents). x.size) e;
  segment_size = refl;
}

pub agrees_made : (expect : Expect) (s : ℕ) (h i j : List ℕ) (c : Contents) → c ≡ made expect s h i j → Agrees expect c
agrees_made expect s h i j c e = record {
  needed_shares = ap (λ (x : Contents). x.needed_shares) e;
  total_shares = ap (λ (x : Contents). x.total_shares) e;
  size = ap (λ (x : Contents). x.size) e;
}

pub size_made : (expect : Expect) (s : ℕ) (h i j : List ℕ) (c : Contents) (fields : List Field) → c ≡ made expect s h i j → HasSegmentSize expect fields s → HasSegmentSize expect fields c.segment_size
size_made expect s h i j c fields e has = subst (λ (t : ℕ). HasSegmentSize expect fields t) (sym (ap (λ (x : Contents). x.segment_size) e)) has

pub disagrees_at : (expect : Expect) (bytes : List ℕ) (fields : List Field) (c : Contents) (key : Key) → AreFields bytes fields → ((known : Key) → IsMissing fields known → ⊥)
    → HasSegmentSize expect fields c.segment_size → SameNumbers c (numbers expect c.segment_size) → IsFirst (Differs c fields) key → DisagreesAt expect bytes key
disagrees_at expect bytes fields c key a complete size same first = record {
  fields = fields;
  are_fields = a;
  complete = complete;
  first = inr (
    c.segment_size,
    size,
    record {
      holds = differs_along c (numbers expect c.segment_size) fields key (same_back c (numbers expect c.segment_size) same) first.holds;
      before = λ other earlier d. first.before other earlier (differs_along (numbers expect c.segment_size) c fields other same d);
    },
  );
}

-- what stands under the keys of hashes
pub record HasHashes (c : Contents) (fields : List Field) : Type 0 where
  pub crypttext_hash : (value : List ℕ) → value_of (key_name CrypttextHash) fields ≡ Some value → length value ≡ 32 → c.crypttext_hash ≡ value
  pub crypttext_root_hash : (value : List ℕ) → value_of (key_name CrypttextRootHash) fields ≡ Some value → length value ≡ 32 → c.crypttext_root_hash ≡ value
  pub share_root_hash : (value : List ℕ) → value_of (key_name ShareRootHash) fields ≡ Some value → length value ≡ 32 → c.share_root_hash ≡ value

known_texts : (c : Contents) (fields : List Field) → HasHashes c fields → ((key : Key) → HasSuiting c fields key) → (key : Key) → value_of (key_name key) fields ≡ Some (value_text c key)
unfolding value_text
known_texts c fields h all CodecName = let s = all CodecName in s.there ∙ ap Some s.suits
known_texts c fields h all CodecParams = let s = all CodecParams in s.there ∙ ap Some s.suits
known_texts c fields h all CrypttextHash = let s = all CrypttextHash in s.there ∙ ap Some (sym (h.crypttext_hash s.value s.there s.suits))
known_texts c fields h all CrypttextRootHash = let s = all CrypttextRootHash in s.there ∙ ap Some (sym (h.crypttext_root_hash s.value s.there s.suits))
known_texts c fields h all NeededShares = let s = all NeededShares in s.there ∙ ap Some s.suits
known_texts c fields h all NumSegments = let s = all NumSegments in s.there ∙ ap Some s.suits
known_texts c fields h all SegmentSize = let s = all SegmentSize in s.there ∙ ap Some s.suits
known_texts c fields h all ShareRootHash = let s = all ShareRootHash in s.there ∙ ap Some (sym (h.share_root_hash s.value s.there s.suits))
known_texts c fields h all Size = let s = all Size in s.there ∙ ap Some s.suits
known_texts c fields h all TailCodecParams = let s = all TailCodecParams in s.there ∙ ap Some s.suits
known_texts c fields h all TotalShares = let s = all TotalShares in s.there ∙ ap Some s.suits

pub is_read : (bytes : List ℕ) (fields : List Field) (c : Contents) → length bytes ≤ max_length → AreFields bytes fields → AreContents c → HasHashes c fields → ((key : Key) → HasSuiting c fields key) → IsUeb bytes c
is_read bytes fields c short a contents h all = record {
  fields = fields;
  are_fields = a;
  known = known_texts c fields h all;
  short = short;
  contents = contents;
}

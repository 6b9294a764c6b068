-- No two reads of a share begin at one offset.
use Rattle.std.proofs.Common.{◌≡◌, ℕ, ◌<◌, List, [], ◌∷◌, Option, Some, None, ap, refl, sym, subst, ◌∙◌, arith, inl, inr}
use Rattle.std.specs.Prelude.{Contains, slice_get}
use Rattle.std.proofs.lemmas.Bool.{cases_lt}
use Rattle.std.proofs.lemmas.Option.{same_Some}
use Rattle.lemmas.proofs.Members.{contains_cases, contains_none}
use Rattle.cap_text.specs.Cap.{VerifyCapValue}
use Rattle.placement.specs.Matching.{Pair}
use Rattle.wire.specs.declared.message.Body.TheVariants.{Ask, Have, Allocate, Granted, Already, Busy, Full, Write, Wrote, WrongOffset, Close, Closed, NotComplete, Abort, Read, Data, NoShare}
use Rattle.request_record.specs.Asking as asking
use Rattle.request_record.specs.Asking.{AsksOnce}
use Rattle.request_record.specs.declared.requests.Asked.{Asked}
use Rattle.request_record.specs.declared.requests.Asked.TheVariants.{Reading}
use Rattle.request_record.specs.declared.requests.Outcome.{Outcome}
use Rattle.request_record.specs.declared.requests.Outcome.TheVariants.{Unawaited, Outstanding, Answered, Lost}
use Rattle.request_record.specs.declared.requests.Request.{Request}
use Rattle.share_reading.specs.Verdict.{AreApart, Settled, brought_of}
use Rattle.share_reading.proofs.ReadingLemmas.{asked_some}
use Rattle.checker.specs.Right.{AreOfShares}
use Rattle.checker.specs.Shares.{settled_in, settled_of}
use Rattle.checker.proofs.Entries.{about_read, about_server, settled_from}

abbrev answer_of : Outcome → Option (List ℕ)
answer_of (Answered (Data bytes)) = Some bytes
answer_of outcome = None

abbrev settled_as : ℕ → ℕ → Outcome → Settled
settled_as offset len outcome = record { offset = offset; len = len; answer = answer_of outcome }

abbrev len_in : Asked → ℕ
len_in (Reading n position len) = len
len_in a = 0

only : (x y : Settled) → Contains (y ∷ []) x → x ≡ y
only x y at = elim (contains_cases y x [] at) [
  | inl same ↦ sym same
  | inr none ↦ absurd (contains_none x none)
]

-- what a read that waits no more tells
settled_is : (n position len : ℕ) (o : Outcome) (s : Settled) → Contains (settled_in (Reading n position len) o) s → s ≡ settled_as position len o
settled_is n position len Unawaited s at = only s _ at
settled_is n position len Outstanding s at = absurd (contains_none s at)
settled_is n position len Lost s at = only s _ at
settled_is n position len (Answered (Ask i)) s at = only s _ at
settled_is n position len (Answered (Have r h)) s at = only s _ at
settled_is n position len (Answered (Allocate i l)) s at = only s _ at
settled_is n position len (Answered Granted) s at = only s _ at
settled_is n position len (Answered (Already d)) s at = only s _ at
settled_is n position len (Answered Busy) s at = only s _ at
settled_is n position len (Answered Full) s at = only s _ at
settled_is n position len (Answered (Write i o b)) s at = only s _ at
settled_is n position len (Answered (Wrote k)) s at = only s _ at
settled_is n position len (Answered (WrongOffset k)) s at = only s _ at
settled_is n position len (Answered (Close i)) s at = only s _ at
settled_is n position len (Answered (Closed d)) s at = only s _ at
settled_is n position len (Answered (NotComplete k)) s at = only s _ at
settled_is n position len (Answered (Abort i)) s at = only s _ at
settled_is n position len (Answered (Read i o l)) s at = only s _ at
settled_is n position len (Answered (Data b)) s at = only s _ at
settled_is n position len (Answered NoShare) s at = only s _ at

module _ (cap : VerifyCapValue) (es : List Request) (once : AsksOnce es) (reads : AreOfShares cap es) (key : Pair) where
  -- by the request of a read
  record IsReadBy (s : Settled) : Type 0 where
    pub index : ℕ
    pub request : Request
    pub there : slice_get es index ≡ Some request
    pub server : request.server ≡ key.0
    pub len : ℕ
    pub asked : request.asked ≡ Reading key.1 s.offset len
    pub some : 0 < len
    pub is : s ≡ settled_as s.offset len request.outcome

  read_by : (s : Settled) → Contains (settled_of es key.0 key.1) s → IsReadBy s
  read_by s at =
      let from = settled_from es key s at in
      let read = about_read key from.request from.about in
      let is = settled_is key.1 read.offset read.len from.request.outcome s (subst (λ (a : Asked). Contains (settled_in a from.request.outcome) s) read.is from.has) in
      let position : s.offset ≡ read.offset = ap (λ (x : Settled). x.offset) is in
      record {
        index = from.position;
        request = from.request;
        there = from.there;
        server = about_server key from.request from.about;
        len = read.len;
        asked = read.is ∙ ap (λ n. Reading key.1 n read.len) (sym position);
        some = asked_some cap (brought_of (settled_of es from.request.server key.1)) read.offset read.len (reads from.position from.request key.1 read.offset read.len from.there read.is);
        is = is ∙ ap (λ n. settled_as n read.len from.request.outcome) (sym position);
      }

  -- two requests do not ask for the byte at one offset
  apart_before : (s t : Settled) (a : IsReadBy s) (b : IsReadBy t) → a.index < b.index → s.offset ≡ t.offset → ⊥
  apart_before s t a b lt e =
      let apart : asking.AreApart (Reading key.1 s.offset a.len) (Reading key.1 t.offset b.len) =
      subst (λ (x : Asked). asking.AreApart x (Reading key.1 t.offset b.len)) a.asked
      (subst (λ (x : Asked). asking.AreApart a.request.asked x) b.asked (once a.index b.index a.request b.request lt a.there b.there (a.server ∙ sym b.server))) in
      elim (apart refl) [
        | inl low ↦ omega (arith, low, e, a.some)
        | inr high ↦ omega (arith, high, e, b.some)
      ]

  same_request : (s t : Settled) (a : IsReadBy s) (b : IsReadBy t) → a.index ≡ b.index → s.offset ≡ t.offset → s ≡ t
  same_request s t a b index e =
      let same : a.request ≡ b.request = same_Some a.request b.request (sym a.there ∙ ap (slice_get es) index ∙ b.there) in
      let len : a.len ≡ b.len = ap len_in (sym a.asked ∙ ap (λ (x : Request). x.asked) same ∙ b.asked) in
      a.is ∙ ap (λ n. settled_as n a.len a.request.outcome) e ∙ ap (λ n. settled_as t.offset n a.request.outcome) len
      ∙ ap (λ (x : Request). settled_as t.offset b.len x.outcome) same ∙ sym b.is

  pub settled_apart : AreApart (settled_of es key.0 key.1)
  settled_apart s t one other e =
      let a = read_by s one in
      let b = read_by t other in
      elim (cases_lt a.index b.index) [
        | inl below ↦ absurd (apart_before s t a b below e)
        | inr le ↦ elim (cases_lt b.index a.index) [
          | inl above ↦ absurd (apart_before t s b a above (sym e))
          | inr ge ↦ same_request s t a b (omega (arith, le, ge)) e
        ]
      ]

-- A server answered with a share's own bytes, or with others; with its own the beginning of a share is not refused.
use Rattle.std.proofs.Common.{◌≡◌, ◌≢◌, ◌⊎◌, ℕ, zero, suc, Bool, true, false, List, [], ◌∷◌, Contains, Some, take, drop, inl, inr, ap, refl, subst, sym, ◌∙◌, arith}
use Rattle.std.specs.Prelude.{slice_get, ◌==◌, ◌&&◌, if◌then◌else◌}
use Rattle.std.specs.Str.{bytes_eq}
use Rattle.std.proofs.lemmas.Bool.{cases_Bool, cases_eq}
use Rattle.std.proofs.lemmas.Bool.Decides.{nat_tests}
use Rattle.std.proofs.lemmas.Slice.Eq.{bytes_eq-Decides}
use Rattle.cap_text.specs.Cap.{VerifyCapValue}
use Rattle.ueb.specs.Shape.{Contents}
use Rattle.wire.specs.declared.message.Body.{Body}
use Rattle.wire.specs.declared.message.Body.TheVariants.{Ask, Allocate, Write, Close, Abort, Read, Have, Granted, Already, Busy, Full, Wrote, WrongOffset, Closed, NotComplete, Data, NoShare}
use Rattle.request_record.specs.declared.requests.Asked.{Asked}
use Rattle.request_record.specs.declared.requests.Asked.TheVariants.{Holdings, Allocation, Writing, Closing, Reading, Aborting}
use Rattle.request_record.specs.declared.requests.Outcome.{Outcome}
use Rattle.request_record.specs.declared.requests.Outcome.TheVariants.{Unawaited, Outstanding, Answered, Lost}
use Rattle.request_record.specs.declared.requests.Request.{Request}
use Rattle.share_layout.specs.Share.{Sections}
use Rattle.share_verify.specs.CapBlock.{geometry_by}
use Rattle.share_verify.specs.Verify.{IsSound}
use Rattle.share_reading.specs.Blame.{HasReads}
use Rattle.share_reading.specs.OpeningReads.{Brought}
use Rattle.download_shares.specs.declared.holding.Blame.{Blame}
use Rattle.download_shares.specs.Causes.{IsOpeningFault, IsOtherHeader}
use Rattle.lemmas.proofs.Members.{contains_cases, contains_none, flat_map_from}
use Rattle.share_reading.specs.Opening.{next_length, next_offset}
use Rattle.download_shares.specs.Reads.{brought_by, brought_in, brought_of, reads_share}
use Rattle.answer_laws.specs.Downloads.Answers.{AnsweredOther, AnswersOwn, OwnBeginningsGoOn}
use Rattle.answer_laws.proofs.Downloads.OpeningLemmas.{own_at, own_header_agrees, own_not_refused}

-- ---- own or other

-- one request
abbrev IsOwn : Request → ℕ → ℕ → List ℕ → Type 0
IsOwn r server num share = (offset len : ℕ) (bytes : List ℕ) → r.server ≡ server → r.asked ≡ Reading num offset len → r.outcome ≡ Answered (Data bytes) → bytes ≡ take len (drop offset share)

record IsOther (r : Request) (server num : ℕ) (share : List ℕ) : Type 0 where
  pub of_server : r.server ≡ server
  pub offset : ℕ
  pub len : ℕ
  pub asked : r.asked ≡ Reading num offset len
  pub bytes : List ℕ
  pub answer : r.outcome ≡ Answered (Data bytes)
  pub other : bytes ≢ take len (drop offset share)

same_bytes : (a b : List ℕ) → (a ≡ b) ⊎ (a ≢ b)
same_bytes a b = elim (cases_Bool (bytes_eq a b)) [
  | inl yes_there ↦ inl ((bytes_eq-Decides a b).0 yes_there)
  | inr other ↦ inr (λ e. true_false (sym ((bytes_eq-Decides a b).1 e) ∙ other))
] where
  true_false : true ≡ false → ⊥
  true_false e = cc

answered_case : (r : Request) (server num n offset len : ℕ) (share bytes : List ℕ) → r.asked ≡ Reading n offset len → r.outcome ≡ Answered (Data bytes) → IsOwn r server num share ⊎ IsOther r server num share
answered_case r server num n offset len share bytes a o = elim (cases_eq r.server server) [
  | inr other ↦ inl (λ offset2 len2 bytes2 e f g. absurd (other e))
  | inl server_is ↦ elim (cases_eq n num) [
    | inr other ↦ inl (λ offset2 len2 bytes2 e f g. absurd (other (number n num offset len offset2 len2 (sym a ∙ f))))
    | inl num_is ↦ elim (same_bytes bytes (take len (drop offset share))) [
      | inl own ↦ inl (λ offset2 len2 bytes2 e f g. own_again n num offset len offset2 len2 bytes bytes2 share (sym a ∙ f) (sym o ∙ g) own)
      | inr not_own ↦ inr (record { of_server = server_is; offset = offset; len = len; asked = a ∙ ap (λ (k : ℕ). Reading k offset len) num_is; bytes = bytes; answer = o; other = not_own })
    ]
  ]
] where
  number : (n m a b c d : ℕ) → Reading n a b ≡ Reading m c d → n ≡ m
  number n m a b c d e = cc

  own_again : (n m a b c d : ℕ) (x y share : List ℕ) → Reading n a b ≡ Reading m c d → Answered (Data x) ≡ Answered (Data y) → x ≡ take b (drop a share) → y ≡ take d (drop c share)
  own_again n m a b c d x y share e f is =
      let position : a ≡ c = cc in let len : b ≡ d = cc in let same : x ≡ y = cc in
      sym same ∙ is ∙ (λ i. take (len i) (drop (position i) share))

outcome_case : (r : Request) (server num n offset len : ℕ) (share : List ℕ) (o : Outcome) → r.asked ≡ Reading n offset len → r.outcome ≡ o → IsOwn r server num share ⊎ IsOther r server num share
outcome_case r server num n offset len share Unawaited a o = inl (λ x y bytes e f g. absurd (clash bytes (sym o ∙ g))) where
  clash : (bytes : List ℕ) → Unawaited ≡ Answered (Data bytes) → ⊥
  clash bytes e = cc
outcome_case r server num n offset len share Outstanding a o = inl (λ x y bytes e f g. absurd (clash bytes (sym o ∙ g))) where
  clash : (bytes : List ℕ) → Outstanding ≡ Answered (Data bytes) → ⊥
  clash bytes e = cc
outcome_case r server num n offset len share Lost a o = inl (λ x y bytes e f g. absurd (clash bytes (sym o ∙ g))) where
  clash : (bytes : List ℕ) → Outcome.Lost ≡ Answered (Data bytes) → ⊥
  clash bytes e = cc
outcome_case r server num n offset len share (Answered body) a o = body_case body o where
  clash : (said : Body) → ((bytes : List ℕ) → said ≡ Data bytes → ⊥) → r.outcome ≡ Answered said → IsOwn r server num share ⊎ IsOther r server num share
  clash said never is = inl (λ x y bytes e f g. absurd (never bytes (said_is said (Data bytes) (sym is ∙ g)))) where
    said_is : (a b : Body) → Answered a ≡ Answered b → a ≡ b
    said_is a b e = cc

  body_case : (said : Body) → r.outcome ≡ Answered said → IsOwn r server num share ⊎ IsOther r server num share
  body_case (Data bytes) is = answered_case r server num n offset len share bytes a is
  body_case (Ask i) is = clash (Ask i) (λ b e. cc) is
  body_case (Allocate i l) is = clash (Allocate i l) (λ b e. cc) is
  body_case (Write i p b) is = clash (Write i p b) (λ c e. cc) is
  body_case (Close i) is = clash (Close i) (λ b e. cc) is
  body_case (Abort i) is = clash (Abort i) (λ b e. cc) is
  body_case (Read i p l) is = clash (Read i p l) (λ b e. cc) is
  body_case (Have ro h) is = clash (Have ro h) (λ b e. cc) is
  body_case Granted is = clash Granted (λ b e. cc) is
  body_case (Already d) is = clash (Already d) (λ b e. cc) is
  body_case Busy is = clash Busy (λ b e. cc) is
  body_case Full is = clash Full (λ b e. cc) is
  body_case (Wrote n2) is = clash (Wrote n2) (λ b e. cc) is
  body_case (WrongOffset n2) is = clash (WrongOffset n2) (λ b e. cc) is
  body_case (Closed d) is = clash (Closed d) (λ b e. cc) is
  body_case (NotComplete n2) is = clash (NotComplete n2) (λ b e. cc) is
  body_case NoShare is = clash NoShare (λ b e. cc) is

request_case : (r : Request) (server num : ℕ) (share : List ℕ) (asked : Asked) → r.asked ≡ asked → IsOwn r server num share ⊎ IsOther r server num share
request_case r server num share (Reading n offset len) a = outcome_case r server num n offset len share r.outcome a refl
request_case r server num share Holdings a = inl (λ x y bytes e f g. absurd (clash x y (sym a ∙ f))) where
  clash : (x y : ℕ) → Holdings ≡ Reading num x y → ⊥
  clash x y e = cc
request_case r server num share (Allocation n l) a = inl (λ x y bytes e f g. absurd (clash x y (sym a ∙ f))) where
  clash : (x y : ℕ) → Allocation n l ≡ Reading num x y → ⊥
  clash x y e = cc
request_case r server num share (Writing n p l) a = inl (λ x y bytes e f g. absurd (clash x y (sym a ∙ f))) where
  clash : (x y : ℕ) → Writing n p l ≡ Reading num x y → ⊥
  clash x y e = cc
request_case r server num share (Closing n) a = inl (λ x y bytes e f g. absurd (clash x y (sym a ∙ f))) where
  clash : (x y : ℕ) → Closing n ≡ Reading num x y → ⊥
  clash x y e = cc
request_case r server num share (Aborting n) a = inl (λ x y bytes e f g. absurd (clash x y (sym a ∙ f))) where
  clash : (x y : ℕ) → Aborting n ≡ Reading num x y → ⊥
  clash x y e = cc

abbrev no_requests : List Request
no_requests = []

nothing_there : (position : ℕ) (r : Request) → slice_get no_requests position ≡ Some r → ⊥
nothing_there zero r e = cc
nothing_there (suc position) r e = cc

-- each answer of the server has the share's bytes, or one has others
pub own_or_other : (entries : List Request) (server num : ℕ) (share : List ℕ) → AnswersOwn entries server num share ⊎ AnsweredOther entries server num share
own_or_other [] server num share = inl (λ position offset len r bytes at e f g. absurd (nothing_there position r at))
own_or_other (r ∷ rs) server num share = elim (request_case r server num share r.asked refl) [
  | inr o ↦ inr (record { position = 0; request = r; there = refl; of_server = o.of_server; offset = o.offset; len = o.len; asked = o.asked; bytes = o.bytes; answer = o.answer; other = o.other })
  | inl own ↦ elim (own_or_other rs server num share) [
    | inr o ↦ inr (record { position = suc o.position; request = o.request; there = o.there; of_server = o.of_server; offset = o.offset; len = o.len; asked = o.asked; bytes = o.bytes; answer = o.answer; other = o.other })
    | inl rest ↦ inl (both r rs server num share own rest)
  ]
] where
  first_is : (a b : Request) → Some a ≡ Some b → a ≡ b
  first_is a b e = cc

  both : (r : Request) (rs : List Request) (server num : ℕ) (share : List ℕ) → IsOwn r server num share → AnswersOwn rs server num share → AnswersOwn (r ∷ rs) server num share
  both r rs server num share own rest zero offset len q bytes at e f g =
      let same : q ≡ r = sym (first_is r q at) in
      own offset len bytes (ap (λ (x : Request). x.server) (sym same) ∙ e) (ap (λ (x : Request). x.asked) (sym same) ∙ f) (ap (λ (x : Request). x.outcome) (sym same) ∙ g)
  both r rs server num share own rest (suc position) offset len q bytes at e f g = rest position offset len q bytes at e f g

-- ---- what was brought of a share

record IsDataOf (a : Asked) (o : Outcome) (read : Brought) : Type 0 where
  pub num : ℕ
  pub len : ℕ
  pub asked : a ≡ Reading num read.0 len
  pub answer : o ≡ Answered (Data read.1)

data_of : (a : Asked) (o : Outcome) (read : Brought) → Contains (brought_in a o) read → IsDataOf a o read
data_of (Reading n offset len) (Answered (Data bytes)) read c = elim (contains_cases (offset, bytes) read [] c) [
  | inl is ↦ record { num = n; len = len; asked = ap (λ (b : Brought). Reading n b.0 len) is; answer = ap (λ (b : Brought). Answered (Data b.1)) is }
  | inr none ↦ absurd (contains_none read none)
]
data_of a o read c = absurd (contains_none read c)

both_true : (a b : Bool) → (a && b) ≡ true → (a ≡ true) × (b ≡ true)
both_true true b e = (refl, e)
both_true false b e = absurd (false_true e) where
  false_true : false ≡ true → ⊥
  false_true e = cc

true_is_false : true ≡ false → ⊥
true_is_false e = cc

eqb_eq : (a b : ℕ) → (a == b) ≡ true → a ≡ b
eqb_eq a b e = elim (cases_eq a b) [ inl is ↦ is | inr other ↦ absurd (true_is_false (sym e ∙ eqb_other a b other)) ] where
  eqb_other : (a b : ℕ) → a ≢ b → (a == b) ≡ false
  eqb_other a b other = elim (cases_Bool (a == b)) [
    | inr no_there ↦ no_there
    | inl is ↦ absurd (other (grind (arith, nat_tests)))
  ]

reads_it : (num n offset len : ℕ) (a : Asked) → a ≡ Reading n offset len → reads_share num a ≡ true → n ≡ num
reads_it num n offset len a is e = eqb_eq n num (sym (ap (reads_share num) is) ∙ e)

-- what was brought are bytes of the share, where its server answered with those alone
pub own_brought : (entries : List Request) (server num : ℕ) (share : List ℕ) → AnswersOwn entries server num share → HasReads (brought_of entries server num) share
own_brought entries server num share own read c =
    let from = flat_map_from (brought_by server num) entries read c in
    let r : Request = from.source in
    elim (cases_Bool ((r.server == server) && reads_share num r.asked)) [
      | inr other ↦ absurd (contains_none read (subst (λ (b : Bool). Contains (if b then brought_in r.asked r.outcome else []) read) other from.has))
      | inl is ↦
          let tests = both_true (r.server == server) (reads_share num r.asked) is in
          let data_is = data_of r.asked r.outcome read (subst (λ (b : Bool). Contains (if b then brought_in r.asked r.outcome else []) read) is from.has) in
          let num_is : data_is.num ≡ num = reads_it num data_is.num read.0 data_is.len r.asked data_is.asked tests.1 in
          own_at share read.1 read.0 data_is.len
          (own from.position read.0 data_is.len r read.1 from.there (eqb_eq r.server server tests.0) (data_is.asked ∙ ap (λ (n : ℕ). Reading n read.0 data_is.len) num_is) data_is.answer)
    ]

module _ (cap : VerifyCapValue) (share : List ℕ) (u : Contents) (s : Sections) (entries : List Request) (b : Blame) (sound : IsSound cap b.share share u s)
    (own : AnswersOwn entries b.server b.share share) where
  -- so its beginning is not refused
  pub no_opening_fault : IsOpeningFault cap entries b → ⊥
  no_opening_fault f =
      own_not_refused cap b.share share (u, s, sound) (brought_of entries b.server b.share) f.opening f.led (own_brought entries b.server b.share share own) f.bytes f.error
      (own f.position (next_offset f.opening) (next_length f.opening) f.request f.bytes f.there f.of_server f.asked f.answer) f.refused

  -- and its header is the one of its file
  pub no_other_header : IsOtherHeader (geometry_by u) entries b → ⊥
  no_other_header f =
      f.other (own_header_agrees cap b.share share u s sound.reads (brought_of entries b.server b.share) f.opening f.led (own_brought entries b.server b.share share own))

pub own_beginnings_go_on : OwnBeginningsGoOn
own_beginnings_go_on cap u s share entries b sound own fault = elim fault [
  | inl opening ↦ no_opening_fault cap share u s entries b sound own opening
  | inr header ↦ no_other_header cap share u s entries b sound own header
]

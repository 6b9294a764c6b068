-- The requests of a record, as it goes on, and what they tell of a share.
use Rattle.std.proofs.Common.{◌≡◌, ℕ, zero, suc, ◌<◌, Bool, true, false, cond, List, [], ◌∷◌, ◌++◌, length, set, Some, ap, refl, sym, ◌∙◌, arith, inl, inr, ◌⊎◌, true≢false}
use Rattle.std.specs.Prelude.{Contains, slice_get, ◌==◌}
use Rattle.std.specs.List.{flat_map}
use Rattle.std.proofs.lemmas.List.{append-nil}
use Rattle.std.proofs.lemmas.List.Concat.{flat_map-append}
use Rattle.std.proofs.lemmas.Option.{slice_get_within, same_Some}
use Rattle.std.proofs.lemmas.Bool.{eqb-true, eq-eqb}
use Rattle.lemmas.proofs.Positions.{get_of, get_push}
use Rattle.lemmas.proofs.Bools.{both, bool_cases}
use Rattle.lemmas.proofs.Members.{flat_map_has, flat_map_from, contains_none}
use Rattle.placement.specs.Matching.{Pair}
use Rattle.request_record.specs.declared.requests.Asked.{Asked}
use Rattle.request_record.specs.declared.requests.Asked.TheVariants.{Holdings, Allocation, Writing, Closing, Reading, Aborting}
use Rattle.request_record.specs.declared.requests.Outcome.{Outcome}
use Rattle.request_record.specs.declared.requests.Outcome.TheVariants.{Unawaited, Outstanding, Answered, Lost}
use Rattle.request_record.specs.declared.requests.Request.{Request}
use Rattle.request_record.specs.Record.{is_outstanding}
use Rattle.share_reading.specs.Verdict.{Settled}
use Rattle.checker.specs.Shares.{is_about, reads_share, settled_by, settled_in, settled_of}
use Rattle.checker.specs.Book.{IsAbout}

-- ---- lists

pub get_set_same : {X : Type 0} (xs : List X) (i : ℕ) (x y : X) → slice_get xs i ≡ Some x → slice_get (set xs i y) i ≡ Some y
get_set_same [] i x y e = absurd cc
get_set_same (z ∷ zs) zero x y e = refl
get_set_same (z ∷ zs) (suc i) x y e = get_set_same zs i x y e

pub get_kept : {X : Type 0} (xs : List X) (x y : X) (i : ℕ) → slice_get xs i ≡ Some y → slice_get (xs ++ x ∷ []) i ≡ Some y
get_kept xs x y i e = get_push xs x i (slice_get_within xs i y e) ∙ e

pub flat_map_same : {X A : Type 0} (f : X → List A) (xs ys : List X) → length ys ≡ length xs
    → ((i : ℕ) (x y : X) → slice_get xs i ≡ Some x → slice_get ys i ≡ Some y → f y ≡ f x) → flat_map f ys ≡ flat_map f xs
flat_map_same f [] [] long same = refl
flat_map_same f [] (y ∷ ys) long same = absurd (omega (arith, long))
flat_map_same f (x ∷ xs) [] long same = absurd (omega (arith, long))
flat_map_same f (x ∷ xs) (y ∷ ys) long same =
    ap (λ l. l ++ flat_map f ys) (same zero x y refl refl)
    ∙ ap (λ l. f x ++ l) (flat_map_same f xs ys (omega (arith, long)) (λ i. same (suc i)))

-- ---- the reads of a share

-- it asks for bytes of a share
pub record IsReadOf (share : ℕ) (asked : Asked) : Type 0 where
  pub offset : ℕ
  pub len : ℕ
  pub is : asked ≡ Reading share offset len

read_of : (share : ℕ) (asked : Asked) → reads_share share asked ≡ true → IsReadOf share asked
read_of share Holdings e = absurd cc
read_of share (Allocation n len) e = absurd cc
read_of share (Writing n offset len) e = absurd cc
read_of share (Closing n) e = absurd cc
read_of share (Reading n offset len) e = record { offset = offset; len = len; is = ap (λ m. Reading m offset len) (eqb-true n share e) }
read_of share (Aborting n) e = absurd cc

pub about_server : (key : Pair) (r : Request) → IsAbout key r → r.server ≡ key.0
about_server key r is = eqb-true r.server key.0 (both (r.server == key.0) (reads_share key.1 r.asked) is).0

pub about_read : (key : Pair) (r : Request) → IsAbout key r → IsReadOf key.1 r.asked
about_read key r is = read_of key.1 r.asked (both (r.server == key.0) (reads_share key.1 r.asked) is).1

pub about_by : (key : Pair) (r : Request) (offset len : ℕ) → r.server ≡ key.0 → r.asked ≡ Reading key.1 offset len → IsAbout key r
about_by key r offset len server asked = rw (eq-eqb r.server key.0 server, ap (reads_share key.1) asked ∙ eq-eqb key.1 key.1 refl) refl

abbrev reading_share : Asked → ℕ
reading_share Holdings = 0
reading_share (Allocation n len) = 0
reading_share (Writing n offset len) = 0
reading_share (Closing n) = 0
reading_share (Reading n offset len) = n
reading_share (Aborting n) = 0

-- a request is about one share
pub about_one : (a b : Pair) (r : Request) → IsAbout a r → IsAbout b r → a ≡ b
about_one a b r one two =
    let servers : a.0 ≡ b.0 = sym (about_server a r one) ∙ about_server b r two in
    let shares : a.1 ≡ b.1 = ap reading_share (sym (about_read a r one).is ∙ (about_read b r two).is) in
    ap (λ n. (n, a.1)) servers ∙ ap (λ n. (b.0, n)) shares

-- it is about the share that another asked the same of
pub about_same : (key : Pair) (r n : Request) → n.server ≡ r.server → n.asked ≡ r.asked → IsAbout key n → IsAbout key r
about_same key r n server asked is =
    let read = about_read key n is in
    about_by key r read.offset read.len (sym server ∙ about_server key n is) (sym asked ∙ read.is)

-- ---- what waits no more

pub is_waiting : (o : Outcome) → is_outstanding o ≡ true → o ≡ Outstanding
is_waiting Unawaited e = absurd cc
is_waiting Outstanding e = refl
is_waiting (Answered body) e = absurd cc
is_waiting Lost e = absurd cc

-- what waits tells nothing yet
pub unsettled : (a : Asked) (o : Outcome) → is_outstanding o ≡ true → settled_in a o ≡ []
unsettled Holdings o e = refl
unsettled (Allocation n len) o e = refl
unsettled (Writing n offset len) o e = refl
unsettled (Closing n) o e = refl
unsettled (Reading n offset len) o e = ap (settled_in (Reading n offset len)) (is_waiting o e)
unsettled (Aborting n) o e = refl

cond_nil : {X : Type 0} (b : Bool) (xs : List X) → (b ≡ true → xs ≡ []) → cond b xs [] ≡ []
cond_nil true xs e = e refl
cond_nil false xs e = refl

pub settled_none : (key : Pair) (r : Request) → (IsAbout key r → is_outstanding r.outcome ≡ true) → settled_by key.0 key.1 r ≡ []
settled_none key r waits = cond_nil (is_about key.0 key.1 r) (settled_in r.asked r.outcome) (λ about. unsettled r.asked r.outcome (waits about))

cond_has : {X : Type 0} (b : Bool) (xs : List X) (x : X) → Contains (cond b xs []) x → (b ≡ true) × Contains xs x
cond_has true xs x at = (refl, at)
cond_has false xs x at = absurd (contains_none x at)

-- a read of a share that waits no more, and its request
pub record IsSettledBy (entries : List Request) (key : Pair) (read : Settled) : Type 0 where
  pub position : ℕ
  pub request : Request
  pub there : slice_get entries position ≡ Some request
  pub about : IsAbout key request
  pub has : Contains (settled_in request.asked request.outcome) read

pub settled_from : (entries : List Request) (key : Pair) (read : Settled) → Contains (settled_of entries key.0 key.1) read → IsSettledBy entries key read
settled_from entries key read at =
    let found = flat_map_from (settled_by key.0 key.1) entries read at in
    let parts = cond_has (is_about key.0 key.1 found.source) (settled_in found.source.asked found.source.outcome) read found.has in
    record { position = found.position; request = found.source; there = found.there; about = parts.0; has = parts.1 }

pub settled_has : (entries : List Request) (key : Pair) (position : ℕ) (r : Request) (read : Settled) → slice_get entries position ≡ Some r → IsAbout key r
    → Contains (settled_in r.asked r.outcome) read → Contains (settled_of entries key.0 key.1) read
settled_has entries key position r read there about has =
    flat_map_has (settled_by key.0 key.1) entries position r read there (rw about has)

pub settled_push : (entries : List Request) (key : Pair) (r : Request) → is_outstanding r.outcome ≡ true → settled_of (entries ++ r ∷ []) key.0 key.1 ≡ settled_of entries key.0 key.1
settled_push entries key r waits =
    flat_map-append (settled_by key.0 key.1) entries (r ∷ [])
    ∙ ap (λ l. settled_of entries key.0 key.1 ++ (l ++ [])) (settled_none key r (λ _. waits))
    ∙ append-nil (settled_of entries key.0 key.1)

-- ---- a record that goes on

-- each request asks the same, what waited no more stays, and where another waits no more now is to
-- do
pub record BecomesAt (ns : List Request) (todo : List ℕ) (i : ℕ) (r : Request) : Type 0 where
  pub request : Request
  pub there : slice_get ns i ≡ Some request
  pub server : request.server ≡ r.server
  pub asked : request.asked ≡ r.asked
  pub still : is_outstanding r.outcome ≡ false → request ≡ r
  pub waits : (request.outcome ≡ r.outcome) ⊎ Contains todo i

pub record GoesTo (es ns : List Request) (todo : List ℕ) : Type 0 where
  pub long : length ns ≡ length es
  pub each : (i : ℕ) (r : Request) → slice_get es i ≡ Some r → BecomesAt ns todo i r

pub record WasAt (es : List Request) (todo : List ℕ) (i : ℕ) (n : Request) : Type 0 where
  pub request : Request
  pub there : slice_get es i ≡ Some request
  pub server : n.server ≡ request.server
  pub asked : n.asked ≡ request.asked
  pub still : is_outstanding request.outcome ≡ false → n ≡ request

pub was_at : (es ns : List Request) (todo : List ℕ) → GoesTo es ns todo → (i : ℕ) (n : Request) → slice_get ns i ≡ Some n → WasAt es todo i n
was_at es ns todo goes i n there =
    let within : i < length es = omega (arith, slice_get_within ns i n there, goes.long) in
    let old = get_of es i within in
    let becomes = goes.each i old.0 old.1 in
    let same : becomes.request ≡ n = same_Some becomes.request n (sym becomes.there ∙ there) in
    record {
      request = old.0;
      there = old.1;
      server = ap (λ (r : Request). r.server) (sym same) ∙ becomes.server;
      asked = ap (λ (r : Request). r.asked) (sym same) ∙ becomes.asked;
      still = λ quiet. sym same ∙ becomes.still quiet;
    }

-- a share of which no read waits tells what it told
pub settled_stays : (es ns : List Request) (todo : List ℕ) (key : Pair) → GoesTo es ns todo
    → ((i : ℕ) (r : Request) → slice_get es i ≡ Some r → IsAbout key r → is_outstanding r.outcome ≡ false)
    → settled_of ns key.0 key.1 ≡ settled_of es key.0 key.1
settled_stays es ns todo key goes quiet = flat_map_same (settled_by key.0 key.1) es ns goes.long same
  where
    same : (i : ℕ) (r n : Request) → slice_get es i ≡ Some r → slice_get ns i ≡ Some n → settled_by key.0 key.1 n ≡ settled_by key.0 key.1 r
    same i r n there now =
        let was = was_at es ns todo goes i n now in
        let is : was.request ≡ r = same_Some was.request r (sym was.there ∙ there) in
        elim (bool_cases (is_outstanding r.outcome)) [
          | inr still ↦ ap (settled_by key.0 key.1) (was.still (ap (λ (q : Request). is_outstanding q.outcome) is ∙ still) ∙ is)
          | inl waits ↦ (
              let unread : IsAbout key r → ⊥ = λ about. true≢false (sym waits ∙ quiet i r there about) in
              settled_none key n (λ about. absurd (unread (about_same key r n (was.server ∙ ap (λ (q : Request). q.server) is) (was.asked ∙ ap (λ (q : Request). q.asked) is) about)))
              ∙ sym (settled_none key r (λ about. absurd (unread about))))
        ]

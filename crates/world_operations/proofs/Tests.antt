-- What a check tested stays so: its record goes on, and what was answered stays.
use Rattle.lemmas.proofs.Members.{contains_cases, contains_none, flat_map_from, flat_map_has}
use Rattle.std.proofs.Common.{◌≡◌, ℕ, Bool, true, false, cond, List, [], ◌∷◌, Some, None, refl, sym, subst, ap, ◌∙◌, inl, inr}
use Rattle.std.specs.Prelude.{Contains, ◌==◌, ◌&&◌}
use Rattle.cap_text.specs.Cap.{VerifyCapValue}
use Rattle.wire.specs.declared.message.Body.{Body}
use Rattle.request_record.specs.declared.requests.Asked.{Asked}
use Rattle.request_record.specs.declared.requests.Asked.TheVariants.{Holdings, Allocation, Writing, Closing, Reading, Aborting}
use Rattle.request_record.specs.declared.requests.Outcome.{Outcome}
use Rattle.request_record.specs.declared.requests.Outcome.TheVariants.{Unawaited, Outstanding, Answered, Lost}
use Rattle.request_record.specs.declared.requests.Request.{Request}
use Rattle.request_record.specs.Record.{RequestsState}
use Rattle.request_record.specs.Follow.{Follows, Said}
use Rattle.share_verify.specs.Verify.{IsSound, IsSoundShare}
use Rattle.share_reading.specs.Verdict.{Settled}
use Rattle.checker.specs.Shares.{reads_share, settled_by, settled_in, settled_of}
use Rattle.checker.specs.State.{CheckState}
use Rattle.checker.specs.Tested.{IsTested}

if_has : {X : Type 0} (b : Bool) (xs : List X) (x : X) → Contains (cond b xs []) x → Contains xs x
if_has true xs x at = at
if_has false xs x at = absurd (contains_none x at)

one_of : {X : Type 0} (x y : X) → Contains (y ∷ []) x → y ≡ x
one_of x y at = elim (contains_cases y x [] at) [
  | inl is ↦ is
  | inr behind ↦ absurd (contains_none x behind)
]

-- a read that brought bytes was answered
was_answered : (a : Asked) (o : Outcome) (read : Settled) (bytes : List ℕ) → read.answer ≡ Some bytes → Contains (settled_in a o) read → (said : Body) × (o ≡ Answered said)
was_answered Holdings o read bytes e at = absurd (contains_none read at)
was_answered (Allocation n len) o read bytes e at = absurd (contains_none read at)
was_answered (Writing n offset len) o read bytes e at = absurd (contains_none read at)
was_answered (Closing n) o read bytes e at = absurd (contains_none read at)
was_answered (Aborting n) o read bytes e at = absurd (contains_none read at)
was_answered (Reading n offset len) Outstanding read bytes e at = absurd (contains_none read at)
was_answered (Reading n offset len) (Answered said) read bytes e at = (said, refl)
was_answered (Reading n offset len) Unawaited read bytes e at = absurd (none_is (ap (λ (s : Settled). s.answer) (one_of read _ at) ∙ e)) where
  none_is : None ≡ Some bytes → ⊥
  none_is p = cc
was_answered (Reading n offset len) Lost read bytes e at = absurd (none_is (ap (λ (s : Settled). s.answer) (one_of read _ at) ∙ e)) where
  none_is : None ≡ Some bytes → ⊥
  none_is p = cc

module _ (New : Said) (old new : RequestsState) (f : Follows New old new) (server share : ℕ) where
  abbrev by_parts : ℕ → Asked → Outcome → List Settled
  by_parts at asked outcome = cond ((at == server) && reads_share share asked) (settled_in asked outcome) []

  read_stays : (read : Settled) (bytes : List ℕ) → read.answer ≡ Some bytes → Contains (settled_of old.entries server share) read → Contains (settled_of new.entries server share) read
  read_stays read bytes answer at =
      let found = flat_map_from (settled_by server share) old.entries read at in
      let r : Request = found.source in
      let still = f.keeps found.position r found.there in
      let was = was_answered r.asked r.outcome read bytes answer (if_has ((r.server == server) && reads_share share r.asked) (settled_in r.asked r.outcome) read found.has) in
      let outcome : still.request.outcome ≡ r.outcome = still.answered was.0 was.1 ∙ sym was.1 in
      let same : settled_by server share still.request ≡ settled_by server share r = (λ p. by_parts (still.server p) (still.asked p) (outcome p)) in
      flat_map_has (settled_by server share) new.entries found.position still.request read still.at (subst (λ (l : List Settled). Contains l read) (sym same) found.has)

pub tests_stay : (New : Said) (c e : CheckState) → e.cap ≡ c.cap → Follows New c.requests e.requests → (input : List ℕ) → IsTested c input → IsTested e input
tests_stay New c e cap f input t = record {
  server = t.server;
  share = t.share;
  reads = t.reads;
  settled = λ read at. (let full = t.good.full read at in read_stays New c.requests e.requests f t.server t.share read full.0 full.1 (t.settled read at));
  good = record {
    bytes = t.good.bytes;
    full = t.good.full;
    whole = t.good.whole;
    sound = subst (λ (k : VerifyCapValue). IsSoundShare k t.share t.good.bytes) (sym cap) t.good.sound;
  };
  contents = t.contents;
  sections = t.sections;
  sound = subst (λ (k : VerifyCapValue). IsSound k t.share t.good.bytes t.contents t.sections) (sym cap) t.sound;
  hashed = t.hashed;
}

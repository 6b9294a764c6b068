-- The record goes on, and what was asked and brought stays.
use Rattle.std.proofs.Common.{◌≡◌, ℕ, ◌⊎◌, inl, inr, Bool, true, false, cond, ◌&&◌, List, [], ◌∷◌, ◌++◌, Contains, length, Some, refl, sym, ap, subst, ◌∙◌, true≢false}
use Rattle.std.specs.Prelude.{◌==◌, slice_get}
use Rattle.std.proofs.lemmas.Bool.{eq-eqb}
use Rattle.std.proofs.lemmas.Option.{slice_get_within}
use Rattle.lemmas.proofs.Members.{flat_map_has, IsFrom, flat_map_from}
pub use Rattle.lemmas.proofs.Options.{one_there as same_of}
pub use Rattle.lemmas.proofs.Positions.{get_pushed as pushed}
use Rattle.lemmas.proofs.Positions.{get_pushed, get_push}
use Rattle.placement.proofs.Members.{Contains-head, Contains-nil}
use Rattle.wire.specs.declared.message.Body.TheVariants.{Data}
use Rattle.request_record.specs.declared.requests.Asked.{Asked}
use Rattle.request_record.specs.declared.requests.Asked.TheVariants.{Holdings, Allocation, Writing, Closing, Reading, Aborting}
use Rattle.request_record.specs.declared.requests.Outcome.{Outcome}
use Rattle.request_record.specs.declared.requests.Outcome.TheVariants.{Unawaited, Outstanding, Answered, Lost}
use Rattle.request_record.specs.declared.requests.Request.{Request}
use Rattle.request_record.specs.Record.{first_request, is_outstanding}
use Rattle.share_reading.specs.OpeningReads.{Brought}
use Rattle.download_shares.specs.Left.{IsOffered}
use Rattle.download_shares.specs.declared.holding.Holding.{Holding}
use Rattle.download_shares.proofs.Goes.{GoesAlike, alike_forth}
use Rattle.download_shares.proofs.Records.{AskedAlike, StaysTo}
use Rattle.download_shares.specs.Reads.{IsOutAt, IsReadAt, brought_by, brought_in, brought_of, reads_share}

-- ---- lists

-- ---- what was brought

-- bytes that answered a request for bytes of the share
pub record IsBroughtBy (entries : List Request) (server share : ℕ) (read : Brought) : Type 0 where
  pub position : ℕ
  pub request : Request
  pub there : slice_get entries position ≡ Some request
  pub of_server : request.server ≡ server
  pub len : ℕ
  pub asked : request.asked ≡ Reading share read.0 len
  pub answer : request.outcome ≡ Answered (Data read.1)

about : (server share : ℕ) (r : Request) (offset len : ℕ) → r.server ≡ server → r.asked ≡ Reading share offset len → ((r.server == server) && reads_share share r.asked) ≡ true
about server share r offset len of_server asked =
    let one : (r.server == server) ≡ true = eq-eqb r.server server of_server in
    let two : reads_share share r.asked ≡ true = ap (reads_share share) asked ∙ eq-eqb share share refl in
    ap (λ (b : Bool). b && reads_share share r.asked) one ∙ two

pub brought_has : (entries : List Request) (server share : ℕ) (read : Brought) → IsBroughtBy entries server share read → Contains (brought_of entries server share) read
brought_has entries server share read b =
    flat_map_has (brought_by server share) entries b.position b.request read b.there
    (subst (λ (c : Bool). Contains (cond c (brought_in b.request.asked b.request.outcome) []) read) (sym (about server share b.request read.0 b.len b.of_server b.asked))
    (subst (λ (a : Asked). Contains (brought_in a b.request.outcome) read) (sym b.asked)
    (subst (λ (o : Outcome). Contains (brought_in (Reading share read.0 b.len) o) read) (sym b.answer)
    (Contains-head read []))))

unbrought : (a : Asked) (o : Outcome) → is_outstanding o ≡ true → brought_in a o ≡ []
unbrought Holdings o e = refl
unbrought (Allocation share len) o e = refl
unbrought (Writing share offset len) o e = refl
unbrought (Closing share) o e = refl
unbrought (Aborting share) o e = refl
unbrought (Reading share offset len) Unawaited e = refl
unbrought (Reading share offset len) Outstanding e = refl
unbrought (Reading share offset len) (Answered body) e = absurd (true≢false (sym e))
unbrought (Reading share offset len) Lost e = refl

unbrought_by : (server share : ℕ) (r : Request) → is_outstanding r.outcome ≡ true → brought_by server share r ≡ []
unbrought_by server share r e = by ((r.server == server) && reads_share share r.asked)
  where
    by : (b : Bool) → cond b (brought_in r.asked r.outcome) [] ≡ []
    by true = unbrought r.asked r.outcome e
    by false = refl

pub brought_grows : (es ns : List Request) (server share : ℕ) (read : Brought) → StaysTo es ns → Contains (brought_of es server share) read → Contains (brought_of ns server share) read
brought_grows es ns server share read stays h =
    let f = flat_map_from (brought_by server share) es read h in by f (is_outstanding f.source.outcome) refl
  where
    by : (f : IsFrom (brought_by server share) es read) (b : Bool) → is_outstanding f.source.outcome ≡ b → Contains (brought_of ns server share) read
    by f true e = absurd (Contains-nil read (subst (λ (l : List Brought). Contains l read) (unbrought_by server share f.source e) f.has))
    by f false e = flat_map_has (brought_by server share) ns f.position f.source read (stays f.position f.source f.there e) f.has

-- ---- the record goes on

-- what waits no more stays, and each request asks the same
pub record Grows (es ns : List Request) : Type 0 where
  pub stays : StaysTo es ns
  pub kept : (i : ℕ) (r : Request) → slice_get es i ≡ Some r → (n : Request) × (slice_get ns i ≡ Some n) × (n.asked ≡ r.asked) × (n.server ≡ r.server)

pub grows_none : (es : List Request) → Grows es es
grows_none es = record { stays = λ i r e quiet. e; kept = λ i r e. (r, e, refl, refl) }

pub grows_goes : (es ns : List Request) → GoesAlike es ns → Grows es ns
grows_goes es ns g = record { stays = g.stays; kept = alike_forth es ns g }

pub grows_push : (es : List Request) (n : Request) → Grows es (es ++ n ∷ [])
grows_push es n = record { stays = λ i r e quiet. get_push es n i (slice_get_within es i r e) ∙ e; kept = λ i r e. (r, get_push es n i (slice_get_within es i r e) ∙ e, refl, refl) }

pub grows_trans : (es ms ns : List Request) → Grows es ms → Grows ms ns → Grows es ns
grows_trans es ms ns f g = record {
  stays = λ i r e quiet. g.stays i r (f.stays i r e quiet) quiet;
  kept = λ i r e. (let a = f.kept i r e in let b = g.kept i a.0 a.1 in (b.0, b.1, b.2 ∙ a.2, b.3 ∙ a.3));
}

-- a read is still there
pub read_grows : (es ns : List Request) (h g : Holding) (position offset len : ℕ) → Grows es ns → g.server ≡ h.server → g.share ≡ h.share → IsReadAt es h position offset len → IsReadAt ns g position offset len
read_grows es ns h g position offset len grows servers shares r =
    let k = grows.kept position r.request r.there in
    record { request = k.0; there = k.1; of_server = k.3 ∙ r.of_server ∙ sym servers; asked = k.2 ∙ r.asked ∙ ap (λ n. Reading n offset len) (sym shares) }

-- a read was there, where each request was
pub read_alike : (es ns : List Request) (h g : Holding) (position offset len : ℕ) → AskedAlike es ns → g.server ≡ h.server → g.share ≡ h.share → IsReadAt ns g position offset len → IsReadAt es h position offset len
read_alike es ns h g position offset len alike servers shares r =
    let w = alike position r.request r.there in
    record { request = w.request; there = w.there; of_server = w.of_server ∙ r.of_server ∙ servers; asked = w.same ∙ r.asked ∙ ap (λ n. Reading n offset len) shares }

-- a read was there, or is the last
pub read_pushed : (es : List Request) (n : Request) (h : Holding) (position offset len : ℕ) → IsReadAt (es ++ n ∷ []) h position offset len
    → IsReadAt es h position offset len ⊎ ((position ≡ length es) × (n.server ≡ h.server) × (n.asked ≡ Reading h.share offset len))
read_pushed es n h position offset len r = elim (get_pushed es n r.request position r.there) [
  | inl old ↦ inl (record { request = r.request; there = old; of_server = r.of_server; asked = r.asked })
  | inr last ↦ inr (last.0, ap (λ (q : Request). q.server) last.1 ∙ r.of_server, ap (λ (q : Request). q.asked) last.1 ∙ r.asked)
]

-- what waits for its answer
pub out_pushed : (es : List Request) (n : Request) (position : ℕ) → IsOutAt es position → IsOutAt (es ++ n ∷ []) position
out_pushed es n position o = record { request = o.request; there = get_push es n position (slice_get_within es position o.request o.there) ∙ o.there; waits = o.waits }

-- ---- what is offered

pub offered_pushed : (es : List Request) (server share now s offset len : ℕ) (other : ℕ) → IsOffered (es ++ first_request s (Reading other offset len) now ∷ []) server share → IsOffered es server share
offered_pushed es server share now s offset len other o = elim (get_pushed es (first_request s (Reading other offset len) now) o.request o.position o.there) [
  | inl old ↦ record { position = o.position; request = o.request; there = old; of_server = o.of_server; asked = o.asked; readonly = o.readonly; held = o.held; answer = o.answer; index = o.index; listed = o.listed; among = o.among; number = o.number }
  | inr last ↦ (let two : Reading other offset len ≡ Holdings = ap (λ (q : Request). q.asked) last.1 ∙ o.asked in absurd cc)
]

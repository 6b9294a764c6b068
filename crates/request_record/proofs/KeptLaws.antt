-- The bytes of the answers in a record.
use Rattle.std.proofs.Common.{◌≡◌, ℕ, ◌<◌, Bool, true, false, cond, List, [], ◌∷◌, length, get_or, set, map, Option, Some, None, Result, Ok, Err, refl, sym, ap, ◌∙◌}
use Rattle.std.specs.Prelude.{slice_get, slice_set, nat_le, max, option_map, OnErr, OnOk}
use Rattle.std.proofs.lemmas.List.{length-map, map-set}
use Rattle.std.proofs.lemmas.Option.{slice_get-map, slice_get_read, slice_get_within}
use Rattle.lemmas.proofs.Bools.{both}
use Rattle.wire.specs.declared.message.Body.{Body}
use Rattle.wire.specs.declared.message.Body.TheVariants.{Data}
use Rattle.wire.specs.declared.message.Message.{Message}
use Rattle.request_record.specs.declared.requests.Outcome.{Outcome}
use Rattle.request_record.specs.declared.requests.Outcome.TheVariants.{Unawaited, Outstanding, Answered, Lost}
use Rattle.request_record.specs.declared.requests.Request.{Request}
use Rattle.request_record.specs.Asking.{after_message, after_tick}
use Rattle.request_record.specs.Kept.{IsDataAt, data_in, data_as, data_of}
use Rattle.request_record.specs.Record.{RequestsState, age_of, answered_in, at, counted_at, counts_at, is_lost_at, is_outstanding, is_resent_at, resent_one, ticked_one, with_outcome}
use Rattle.request_record.proofs.RecordLaws.{Awaits, counts_is}

-- ---- ticks

waits_with_none : (o : Outcome) → is_outstanding o ≡ true → data_as o ≡ None
waits_with_none Outstanding e = refl
waits_with_none Unawaited e = refl
waits_with_none (Answered body) e = absurd cc
waits_with_none Lost e = refl

ticked_one_data : (now : ℕ) (r : Request) → data_of (ticked_one now r) ≡ data_of r
ticked_one_data now r = go (is_lost_at now r) (is_resent_at now r) refl
  where
    go : (lost again : Bool) → is_lost_at now r ≡ lost → data_of (cond lost (with_outcome r Lost) (cond again (resent_one now r) r)) ≡ data_of r
    go true again e = sym (waits_with_none r.outcome (both (is_outstanding r.outcome) (nat_le 20 (age_of now r)) e).0)
    go false true e = refl
    go false false e = refl

-- No tick changes what was answered.
pub ticked_data : (now : ℕ) (entries : List Request) → map data_of (map (ticked_one now) entries) ≡ map data_of entries
ticked_data now [] = refl
ticked_data now (r ∷ rs) =
    ap (λ (d : Option (List ℕ)). d ∷ map data_of (map (ticked_one now) rs)) (ticked_one_data now r)
    ∙ ap (λ (ds : List (Option (List ℕ))). data_of r ∷ ds) (ticked_data now rs)

-- ---- the bytes at a position

-- lists whose parts say the same have as much
pub as_many : {V : Type 0} (f : V → Option (List ℕ)) (kept : List V) (entries : List Request) → map f kept ≡ map data_of entries → length kept ≡ length entries
as_many f kept entries same = sym (length-map kept f) ∙ ap length same ∙ length-map entries data_of

same_at : {V : Type 0} (f : V → Option (List ℕ)) (kept : List V) (entries : List Request) (position : ℕ) → map f kept ≡ map data_of entries → option_map f (slice_get kept position) ≡ option_map data_of (slice_get entries position)
same_at f kept entries position same =
    sym (slice_get-map f kept position) ∙ ap (λ (ds : List (Option (List ℕ))). slice_get ds position) same ∙ slice_get-map data_of entries position

data_found : (entries : List Request) (position : ℕ) (bytes : List ℕ) (o : Option Request) → slice_get entries position ≡ o → option_map data_of o ≡ Some (Some bytes) → IsDataAt entries position bytes
data_found entries position bytes None there e = absurd cc
data_found entries position bytes (Some r) there e = record { request = r; there = there; answer = answered r.outcome (ap_some e) }
  where
    ap_some : Some (data_of r) ≡ Some (Some bytes) → data_of r ≡ Some bytes
    ap_some e = cc

    brought : (body : Body) → data_in body ≡ Some bytes → body ≡ Data bytes
    brought (Data others) e = ap Data cc
    brought body e = absurd cc

    answered : (o : Outcome) → data_as o ≡ Some bytes → o ≡ Answered (Data bytes)
    answered (Answered body) e = ap Answered (brought body e)
    answered Outstanding e = absurd cc
    answered Unawaited e = absurd cc
    answered Lost e = absurd cc

data_at : {V : Type 0} (f : V → Option (List ℕ)) (kept : List V) (entries : List Request) (position : ℕ) (bytes : List ℕ) → map f kept ≡ map data_of entries
    → option_map f (slice_get kept position) ≡ Some (Some bytes) → IsDataAt entries position bytes
data_at f kept entries position bytes same e = data_found entries position bytes (slice_get entries position) refl (sym (same_at f kept entries position same) ∙ e)

pub data_is : {V : Type 0} (f : V → Option (List ℕ)) (kept : List V) (entries : List Request) (position : ℕ) (bytes : List ℕ) → map f kept ≡ map data_of entries
    → IsDataAt entries position bytes → option_map f (slice_get kept position) ≡ Some (Some bytes)
data_is f kept entries position bytes same d =
    same_at f kept entries position same ∙ ap (option_map data_of) d.there ∙ ap (λ (o : Outcome). Some (data_as o)) d.answer

-- what is kept at a position, in an option of its own
pub data_here : {V : Type 0} (f : V → Option (List ℕ)) (kept : List V) (entries : List Request) (position : ℕ) (bytes : List ℕ) (v : V) → map f kept ≡ map data_of entries
    → position < length kept → v ≡ get_or kept position v → f v ≡ Some bytes → IsDataAt entries position bytes
data_here f kept entries position bytes v same lt is brings =
    data_at f kept entries position bytes same (ap (option_map f) (slice_get_read kept (length kept) position v refl lt is) ∙ ap (λ (b : Option (List ℕ)). Some b) brings)

-- where nothing is kept of a position, no Data answered its request
pub none_here : {V : Type 0} (f : V → Option (List ℕ)) (kept : List V) (entries : List Request) (position : ℕ) (bytes : List ℕ) (v : V) → map f kept ≡ map data_of entries
    → position < length kept → v ≡ get_or kept position v → f v ≡ None → IsDataAt entries position bytes → ⊥
none_here f kept entries position bytes v same lt is none found =
    let e : Some (Some bytes) ≡ Some None = sym (data_is f kept entries position bytes same found) ∙ ap (option_map f) (slice_get_read kept (length kept) position v refl lt is) ∙ ap (λ (b : Option (List ℕ)). Some b) none in
    absurd cc

-- ---- answers

pub counted_there : (from : ℕ) (m : Message) (r : RequestsState) (position : ℕ) → counts_at from m r ≡ Some position → position < length r.entries
counted_there from m r position e =
    let a : Awaits r.entries position = counts_is from m r position e in
    slice_get_within r.entries position a.request a.there

-- what came is at its position
pub counted_data : {V : Type 0} (f : V → Option (List ℕ)) (kept : List V) (from : ℕ) (m : Message) (now : ℕ) (r : RequestsState) (position : ℕ) (more : V) → counts_at from m r ≡ Some position
    → f more ≡ data_in m.body → map f kept ≡ map data_of r.entries → map f (set kept position more) ≡ map data_of (after_message from m now r).entries
counted_data f kept from m now r position more counts is same =
    let a : Awaits r.entries position = counts_is from m r position counts in
    let new : (after_message from m now r).entries ≡ slice_set r.entries position (with_outcome a.request (Answered m.body)) =
    ap (λ (o : Option ℕ). (counted_at m (at now r) o).entries) counts ∙ ap (λ (o : Option Request). answered_in r.entries position o m.body) a.there
    in
    map-set f kept position more
    ∙ ap (λ (ds : List (Option (List ℕ))). set ds position (f more)) same
    ∙ ap (set (map data_of r.entries) position) is
    ∙ sym (map-set data_of r.entries position (with_outcome a.request (Answered m.body)))
    ∙ ap (map data_of) (sym new)

-- ---- ticks that may be refused memory

-- Either way the same was answered.
pub ticked_either : {X E : Type 0} (result : Result X E) (now : ℕ) (old new : RequestsState) → OnOk result (new ≡ after_tick now old) → OnErr result (new ≡ old) → map data_of old.entries ≡ map data_of new.entries
ticked_either (Ok x) now old new ok err = sym (ap (λ (s : RequestsState). map data_of s.entries) ok ∙ ticked_data (max old.clock now) old.entries)
ticked_either (Err e) now old new ok err = sym (ap (λ (s : RequestsState). map data_of s.entries) err)

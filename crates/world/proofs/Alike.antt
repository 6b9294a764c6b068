-- Requests of one session and one number are one, but for the bytes that they write, and what an answer tells of a share does not depend on these.
use Rattle.std.proofs.Common.{◌≡◌, ℕ, List, [], true, false, Some, None, refl, sym, subst, ap, ◌∙◌, arith}
use Rattle.std.specs.Prelude.{slice_get}
use Rattle.std.proofs.lemmas.List.Elements.{All-contains}
use Rattle.wire.specs.declared.message.Body.{Body}
use Rattle.wire.specs.declared.message.Body.TheVariants.{Ask, Allocate, Write, Close, Abort, Read, Have, Already, Closed}
use Rattle.wire.specs.declared.message.HeldShare.{HeldShare}
use Rattle.wire.specs.declared.message.Message.{Message}
use Rattle.wire.specs.declared.message.ShareId.{ShareId}
use Rattle.request_record.specs.declared.requests.Asked.{Asked}
use Rattle.request_record.specs.declared.requests.Asked.TheVariants.{Holdings, Allocation, Writing, Closing, Reading, Aborting}
use Rattle.request_record.specs.declared.requests.Request.{Request}
use Rattle.request_record.specs.Asking.{Spells}
use Rattle.share_store.specs.Shelf.{Shelf, digest_at}
use Rattle.server_core.specs.Sound.{Tells, is_request}
use Rattle.world_operations.specs.declared.message.Sent.{Sent}
use Rattle.world_operations.specs.declared.operation.Operation.{Operation}
use Rattle.world_operations.specs.declared.task.Task.{Task}
use Rattle.world_operations.specs.Follow.{IsRequestBy}
use Rattle.world_operations.specs.Tasks.{index_of, requests_of}
use Rattle.world_operations.proofs.Positions.{same_some}
use Rattle.world.specs.Consistent.{IsRequestOf, asked, gone, without_bytes}
use Rattle.world.specs.Enough.{TellsClosed}

-- ---- one request

-- an operation whose record has the request is not gone
pub request_by : (op : Operation) (x : Sent) (m : Message) (position : ℕ) (r : Request) → slice_get (requests_of op.task).entries position ≡ Some r → IsRequestOf op x m → IsRequestBy op.task x m
request_by op x m position r entry (gone number is) = absurd (nothing (subst (λ (t : Task). slice_get (requests_of t).entries position ≡ Some r) is entry)) where
  nothing : None ≡ Some r → ⊥
  nothing e = cc
request_by op x m position r entry (asked node by) = by

-- what asks this, without bytes
abbrev body_for : List ℕ → Asked → Body
body_for index Holdings = Ask index
body_for index (Allocation n len) = Allocate (record { index = index; share = n }) len
body_for index (Writing n offset len) = Write (record { index = index; share = n }) offset []
body_for index (Closing n) = Close (record { index = index; share = n })
body_for index (Reading n offset len) = Read (record { index = index; share = n }) offset len
body_for index (Aborting n) = Abort (record { index = index; share = n })

spells_one : (index : List ℕ) (asks : Asked) (body : Body) → Spells index asks body → without_bytes body ≡ body_for index asks
spells_one index Holdings (Ask i) s = ap Ask s
spells_one index (Allocation n len) (Allocate id l) s = ap (λ (i : ShareId). Allocate i l) s.0 ∙ ap (Allocate (record { index = index; share = n })) s.1
spells_one index (Writing n offset len) (Write id o bytes) s = ap (λ (i : ShareId). Write i o []) s.0 ∙ ap (λ (k : ℕ). Write (record { index = index; share = n }) k []) s.1
spells_one index (Closing n) (Close id) s = ap Close s
spells_one index (Reading n offset len) (Read id o l) s =
    ap (λ (i : ShareId). Read i o l) s.0 ∙ ap (λ (k : ℕ). Read (record { index = index; share = n }) k l) s.1 ∙ ap (Read (record { index = index; share = n }) offset) s.2
spells_one index (Aborting n) (Abort id) s = ap Abort s
spells_one index _ _ s = absurd s

-- two requests of one operation by one number
pub requests_are_one : (op : Operation) (x y : Sent) (m n : Message) → IsRequestOf op x m → IsRequestBy op.task y n → m.number ≡ n.number → without_bytes m.body ≡ without_bytes n.body
requests_are_one op x y m n old new number =
    let by = request_by op x m new.position new.request new.entry old in
    let here : by.position ≡ new.position = omega (arith, by.number, new.number, number) in
    let same : by.request ≡ new.request = same_some by.request new.request (sym by.entry ∙ ap (slice_get (requests_of op.task).entries) here ∙ new.entry) in
    spells_one (index_of op.task) by.request.asked m.body by.spelled
    ∙ ap (λ (r : Request). body_for (index_of op.task) r.asked) same
    ∙ sym (spells_one (index_of op.task) new.request.asked n.body new.spelled)

-- ---- what is told

-- such an answer belongs to a request, and is none
pub closed_asks : (id : ShareId) (digest : List ℕ) (asks said : Body) → TellsClosed id digest asks said → is_request asks ≡ true
closed_asks id digest (Ask index) (Have readonly held) t = refl
closed_asks id digest (Allocate i len) (Already told) t = refl
closed_asks id digest (Write i offset bytes) (Already told) t = refl
closed_asks id digest (Close i) (Closed told) t = refl
closed_asks id digest _ _ t = absurd t

pub closed_answers : (id : ShareId) (digest : List ℕ) (asks said : Body) → TellsClosed id digest asks said → is_request said ≡ false
closed_answers id digest (Ask index) (Have readonly held) t = refl
closed_answers id digest (Allocate i len) (Already told) t = refl
closed_answers id digest (Write i offset bytes) (Already told) t = refl
closed_answers id digest (Close i) (Closed told) t = refl
closed_answers id digest _ _ t = absurd t

closed_without : (id : ShareId) (digest : List ℕ) (asks said : Body) → TellsClosed id digest asks said → TellsClosed id digest (without_bytes asks) said
closed_without id digest (Write i offset bytes) (Already told) t = t
closed_without id digest (Write i offset bytes) _ t = absurd t
closed_without id digest _ said t = t

tells_without : (s : Shelf) (asks said : Body) → Tells s asks said → Tells s (without_bytes asks) said
tells_without s (Write i offset bytes) (Already told) t = t
tells_without s (Write i offset bytes) _ t = tt
tells_without s _ said t = t

told_closed : (s : Shelf) (id : ShareId) (digest : List ℕ) (asks said : Body) → TellsClosed id digest asks said → Tells s asks said → digest_at id s.closed ≡ Some digest
told_closed s id digest (Ask index) (Have readonly held) c t =
    subst (λ (i : List ℕ). digest_at (record { index = i; share = id.share }) s.closed ≡ Some digest) c.0
    (All-contains (λ (h : HeldShare). digest_at (record { index = index; share = h.share }) s.closed ≡ Some h.digest) held (record { share = id.share; digest = digest }) t c.1)
told_closed s id digest (Allocate i len) (Already told) c t = ap (λ (j : ShareId). digest_at j s.closed) (sym c.0) ∙ t ∙ ap Some c.1
told_closed s id digest (Write i offset bytes) (Already told) c t = ap (λ (j : ShareId). digest_at j s.closed) (sym c.0) ∙ t ∙ ap Some c.1
told_closed s id digest (Close i) (Closed told) c t = ap (λ (j : ShareId). digest_at j s.closed) (sym c.0) ∙ t ∙ ap Some c.1
told_closed s id digest _ _ c t = absurd c

-- an answer tells of a share what is so, also by the words of another request that is one with its own
pub told_alike : (s : Shelf) (id : ShareId) (digest : List ℕ) (asks other said : Body) → without_bytes asks ≡ without_bytes other → TellsClosed id digest asks said → Tells s other said
    → digest_at id s.closed ≡ Some digest
told_alike s id digest asks other said same c t =
    told_closed s id digest (without_bytes other) said
    (subst (λ (b : Body). TellsClosed id digest b said) same (closed_without id digest asks said c)) (tells_without s other said t)

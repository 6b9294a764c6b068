-- What an acknowledged pair says of the answer, and what the answer tells of the closed shares.
use Rattle.std.proofs.Common.{◌≡◌, ℕ, ◌<◌, List, [], ◌∷◌, Bool, true, false, cond, length, nat_lt, Option, Some, None, slice_index_or, Contains, refl, sym, subst, ap, ◌∙◌, inl, inr, arith}
use Rattle.std.specs.Prelude.{◌&&◌, bytes_eq, option_map}
use Rattle.std.proofs.lemmas.Bool.Decides.{nat_tests}
use Rattle.std.proofs.lemmas.List.Elements.{All-contains, Contains-append_cases}
use Rattle.std.proofs.lemmas.Slice.Eq.{bytes_eq-Decides}
use Rattle.wire.specs.declared.message.Body.{Body}
use Rattle.wire.specs.declared.message.Body.TheVariants.{Ask, Allocate, Write, Close, Have, Already, Closed}
use Rattle.wire.specs.declared.message.HeldShare.{HeldShare}
use Rattle.wire.specs.declared.message.ShareId.{ShareId}
use Rattle.request_record.specs.declared.requests.Asked.{Asked}
use Rattle.request_record.specs.declared.requests.Asked.TheVariants.{Holdings, Allocation, Writing, Closing}
use Rattle.share_store.specs.Shelf.{Shelf, closed_at, digest_at}
use Rattle.share_store.specs.declared.shelf.ClosedShare.{ClosedShare}
use Rattle.server_core.specs.Sound.{Tells, is_request}
use Rattle.placement.specs.Matching.{Pair}
use Rattle.request_record.specs.Asking.{Spells}
use Rattle.placement.proofs.Members.{Contains-cons, Contains-head, Contains-nil, Contains-uncons}
use Rattle.upload_core.specs.Acknowledged.{acked_answer, acked_held, acked_share}
use Rattle.upload_core.specs.State.{Goal}

-- the answer names this share with this digest
abbrev pub Acks : Asked → Body → ℕ → List ℕ → Type 0
Acks Holdings (Have readonly held) n digest = Contains held (record { share = n; digest = digest })
Acks (Allocation share len) (Already found) n digest = (share ≡ n) × (found ≡ digest)
Acks (Writing share offset len) (Already found) n digest = (share ≡ n) × (found ≡ digest)
Acks (Closing share) (Closed found) n digest = (share ≡ n) × (found ≡ digest)
Acks asked body n digest = ⊥

pub record IsAckedBy (g : Goal) (server : ℕ) (asked : Asked) (said : Body) (pair : Pair) : Type 0 where
  pub server_is : pair.0 ≡ server
  pub below : pair.1 < length g.digests
  pub acks : Acks asked said pair.1 (slice_index_or g.digests pair.1 [])

record IsOneOf (g : Goal) (server share : ℕ) (digest : List ℕ) (pair : Pair) : Type 0 where
  pub server_is : server ≡ pair.0
  pub share_is : share ≡ pair.1
  pub below : pair.1 < length g.digests
  pub digest_is : digest ≡ slice_index_or g.digests pair.1 []

one_of : (g : Goal) (server share : ℕ) (digest : List ℕ) (pair : Pair) → Contains (acked_share g server share digest) pair → IsOneOf g server share digest pair
one_of g server share digest pair c = by (nat_lt share (length g.digests)) (bytes_eq digest (slice_index_or g.digests share [])) refl refl c where
  by : (below same : Bool) → nat_lt share (length g.digests) ≡ below → bytes_eq digest (slice_index_or g.digests share []) ≡ same
      → Contains (cond (below && same) ((server, share) ∷ []) []) pair → IsOneOf g server share digest pair
  by true true f h d = elim (Contains-uncons (server, share) [] pair d) [
    | inl e ↦
        let share_is : share ≡ pair.1 = ap (λ (q : Pair). q.1) e in
        let low : share < length g.digests = grind (arith, nat_tests) in
        record {
          server_is = ap (λ (q : Pair). q.0) e;
          share_is = share_is;
          below = subst (λ (n : ℕ). n < length g.digests) share_is low;
          digest_is = (bytes_eq-Decides digest (slice_index_or g.digests share [])).0 h ∙ ap (λ (n : ℕ). slice_index_or g.digests n []) share_is;
        }
    | inr e ↦ absurd (Contains-nil pair e)
  ]
  by true false f h d = absurd (Contains-nil pair d)
  by false same f h d = absurd (Contains-nil pair d)

acked_one : (g : Goal) (server share : ℕ) (digest : List ℕ) (asked : Asked) (said : Body) (pair : Pair)
    → ((n : ℕ) (d : List ℕ) → share ≡ n → digest ≡ d → Acks asked said n d) → Contains (acked_share g server share digest) pair → IsAckedBy g server asked said pair
acked_one g server share digest asked said pair acks c =
    let o = one_of g server share digest pair c in
    record { server_is = sym o.server_is; below = o.below; acks = acks pair.1 (slice_index_or g.digests pair.1 []) o.share_is o.digest_is }

held_is : (h : HeldShare) (n : ℕ) (d : List ℕ) → h.share ≡ n → h.digest ≡ d → h ≡ record { share = n; digest = d }
held_is h n d e f =
    let k : ℕ → List ℕ → HeldShare = λ a b. record { share = a; digest = b } in
    ap (λ (a : ℕ). k a h.digest) e ∙ ap (k n) f

acked_in : (g : Goal) (server : ℕ) (readonly : Bool) (held : List HeldShare) (pair : Pair) → Contains (acked_held g server held) pair → IsAckedBy g server Holdings (Have readonly held) pair
acked_in g server readonly [] pair c = absurd (Contains-nil pair c)
acked_in g server readonly (h ∷ hs) pair c = elim (Contains-append_cases (acked_share g server h.share h.digest) (acked_held g server hs) pair c) [
  | inl d ↦
      let o = one_of g server h.share h.digest pair d in
      record {
        server_is = sym o.server_is;
        below = o.below;
        acks = subst (Contains (h ∷ hs)) (held_is h pair.1 (slice_index_or g.digests pair.1 []) o.share_is o.digest_is) (Contains-head h hs);
      }
  | inr d ↦
      let o = acked_in g server readonly hs pair d in
      record { server_is = o.server_is; below = o.below; acks = Contains-cons h hs (record { share = pair.1; digest = slice_index_or g.digests pair.1 [] }) o.acks }
]

pub acked_by : (g : Goal) (server : ℕ) (asked : Asked) (said : Body) (pair : Pair) → Contains (acked_answer g server asked said) pair → IsAckedBy g server asked said pair
acked_by g server Holdings (Have readonly held) pair c = acked_in g server readonly held pair c
acked_by g server (Allocation share len) (Already digest) pair c = acked_one g server share digest (Allocation share len) (Already digest) pair (λ n d e f. (e, f)) c
acked_by g server (Writing share offset len) (Already digest) pair c = acked_one g server share digest (Writing share offset len) (Already digest) pair (λ n d e f. (e, f)) c
acked_by g server (Closing share) (Closed digest) pair c = acked_one g server share digest (Closing share) (Closed digest) pair (λ n d e f. (e, f)) c
acked_by g server _ _ pair c = absurd (Contains-nil pair c)

-- such an answer is no request
pub acks_answer : (asked : Asked) (said : Body) (n : ℕ) (d : List ℕ) → Acks asked said n d → is_request said ≡ false
acks_answer Holdings (Have readonly held) n d a = refl
acks_answer (Allocation share len) (Already digest) n d a = refl
acks_answer (Writing share offset len) (Already digest) n d a = refl
acks_answer (Closing share) (Closed digest) n d a = refl
acks_answer _ _ n d a = absurd a

-- what it tells of the share that it names
module _ (s : Shelf) (index : List ℕ) where
  abbrev id_of : ℕ → ShareId
  id_of n = record { index = index; share = n }

  told_alone : (id : ShareId) (share n : ℕ) (found digest : List ℕ) → id ≡ id_of share → (share ≡ n) × (found ≡ digest) → digest_at id s.closed ≡ Some found
      → digest_at (id_of n) s.closed ≡ Some digest
  told_alone id share n found digest is a t =
      ap (λ (j : ℕ). digest_at (id_of j) s.closed) (sym a.0) ∙ ap (λ (i : ShareId). digest_at i s.closed) (sym is) ∙ t ∙ ap Some a.1

  told_held : (readonly : Bool) (held : List HeldShare) (n : ℕ) (digest : List ℕ) (body : Body) → Contains held (record { share = n; digest = digest }) → Spells index Holdings body
      → Tells s body (Have readonly held) → digest_at (id_of n) s.closed ≡ Some digest
  told_held readonly held n digest (Ask i) c spelled t =
      subst (λ (j : List ℕ). digest_at (record { index = j; share = n }) s.closed ≡ Some digest) spelled
      (All-contains (λ (h : HeldShare). digest_at (record { index = i; share = h.share }) s.closed ≡ Some h.digest) held (record { share = n; digest = digest }) t c)
  told_held readonly held n digest _ c spelled t = absurd spelled

  told_allocation : (share len n : ℕ) (found digest : List ℕ) (body : Body) → (share ≡ n) × (found ≡ digest) → Spells index (Allocation share len) body
      → Tells s body (Already found) → digest_at (id_of n) s.closed ≡ Some digest
  told_allocation share len n found digest (Allocate id l) a spelled t = told_alone id share n found digest spelled.0 a t
  told_allocation share len n found digest _ a spelled t = absurd spelled

  told_writing : (share offset len n : ℕ) (found digest : List ℕ) (body : Body) → (share ≡ n) × (found ≡ digest) → Spells index (Writing share offset len) body
      → Tells s body (Already found) → digest_at (id_of n) s.closed ≡ Some digest
  told_writing share offset len n found digest (Write id o bytes) a spelled t = told_alone id share n found digest spelled.0 a t
  told_writing share offset len n found digest _ a spelled t = absurd spelled

  told_closing : (share n : ℕ) (found digest : List ℕ) (body : Body) → (share ≡ n) × (found ≡ digest) → Spells index (Closing share) body
      → Tells s body (Closed found) → digest_at (id_of n) s.closed ≡ Some digest
  told_closing share n found digest (Close id) a spelled t = told_alone id share n found digest spelled a t
  told_closing share n found digest _ a spelled t = absurd spelled

  pub tells_acked : (asked : Asked) (body said : Body) (n : ℕ) (digest : List ℕ) → Acks asked said n digest → Spells index asked body → Tells s body said
      → digest_at (id_of n) s.closed ≡ Some digest
  tells_acked Holdings body (Have readonly held) n digest a spelled t = told_held readonly held n digest body a spelled t
  tells_acked (Allocation share len) body (Already found) n digest a spelled t = told_allocation share len n found digest body a spelled t
  tells_acked (Writing share offset len) body (Already found) n digest a spelled t = told_writing share offset len n found digest body a spelled t
  tells_acked (Closing share) body (Closed found) n digest a spelled t = told_closing share n found digest body a spelled t
  tells_acked _ body _ n digest a spelled t = absurd a

-- a share with this digest is closed
pub record IsClosedBy (id : ShareId) (s : Shelf) (digest : List ℕ) : Type 0 where
  pub share : ClosedShare
  pub found : closed_at id s.closed ≡ Some share
  pub digest_is : share.digest ≡ digest

some_digest : (o : Option ClosedShare) (digest : List ℕ) → option_map (λ (c : ClosedShare). c.digest) o ≡ Some digest → (c : ClosedShare) × (o ≡ Some c) × (c.digest ≡ digest)
some_digest None digest e = absurd cc
some_digest (Some c) digest e = (let same : c.digest ≡ digest = cc in (c, refl, same))

pub closed_by : (id : ShareId) (s : Shelf) (digest : List ℕ) → digest_at id s.closed ≡ Some digest → IsClosedBy id s digest
closed_by id s digest e =
    let c = some_digest (closed_at id s.closed) digest e in
    record { share = c.0; found = c.1; digest_is = c.2 }

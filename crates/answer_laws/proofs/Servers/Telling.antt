-- What a server over a store that keeps tells of its closed shares.
use Rattle.std.proofs.Common.{◌≡◌, ◌≤◌, ℕ, Bool, true, List, [], ◌∷◌, suc, zero, Option, Some, None, Ok, Contains, take, drop, map, refl, sym, ◌∙◌, ap, subst, inl, inr, arith}
use Rattle.std.specs.Prelude.{◌&&◌, max, filter, nat_le, option_map, unwrap_or}
use Rattle.std.proofs.lemmas.Bool.{cases_Bool}
use Rattle.std.proofs.lemmas.Bool.Decides.{nat_tests}
use Rattle.std.proofs.lemmas.Map.Text.{is_eq-slice_cmp}
use Rattle.std.proofs.lemmas.Map.Views.{Contains-from_lookup}
use Rattle.std.proofs.lemmas.Slice.Eq.{bytes_eq-Decides}
use Rattle.std.specs.Cmp.Lexicographic.{slice_cmp}
use Rattle.std.specs.Ordering.{is_eq, nat_cmp}
use Rattle.wire.specs.declared.message.Body.{Body}
use Rattle.wire.specs.declared.message.Body.TheVariants.{Read, Have, Data}
use Rattle.wire.specs.declared.message.HeldShare.{HeldShare}
use Rattle.wire.specs.declared.message.Message.{Message}
use Rattle.wire.specs.declared.message.ShareId.{ShareId}
use Rattle.share_store.specs.Calls.{shelf_calls}
use Rattle.share_store.specs.Shelf.{ShareKey, Shelf, bytes_at, closed_at, digest_at, held, is_under, key_of, same_key}
use Rattle.share_store.specs.declared.shelf.ClosedShare.{ClosedShare}
use Rattle.share_store.proofs.ShelfLaws.{same_is}
use Rattle.server_core.specs.ServerState.{Does, ListsHoldings, ServerState, ReadsShare, Serves, line_of, read_line}
use Rattle.answer_laws.specs.Servers.Telling.{AsksListAll, ListsAll, ReadsBringClosed}

-- ---- a closed share is among those that are listed under its storage index

under_own : (index : List ℕ) (share : ℕ) → share ≤ 255 → is_under index (index, share) ≡ true
under_own index share low =
    let one : is_eq (slice_cmp nat_cmp index index) ≡ true = is_eq-slice_cmp index index ∙ (bytes_eq-Decides index index).1 refl in
    let two : nat_le share 255 ≡ true = grind (arith, nat_tests, low) in
    (λ i. one i && two i)

kept_in : (test : ShareKey × ClosedShare → Bool) (es : List (ShareKey × ClosedShare)) (e : ShareKey × ClosedShare) → Contains es e → test e ≡ true → Contains (filter test es) e
kept_in test [] e c t = absurd (omega (arith, c.1))
kept_in test (x ∷ xs) e (zero, low, is) t =
    let passes : test x ≡ true = ap test is ∙ t in
    rw passes (zero, omega arith, is)
kept_in test (x ∷ xs) e (suc k, low, is) t =
    let rest : Contains (filter test xs) e = kept_in test xs e (k, omega (arith, low), is) t in
    elim (cases_Bool (test x)) [
      | inl passes ↦ rw passes (suc rest.0, omega (arith, rest.1), rest.2)
      | inr fails ↦ rw fails rest
    ]

mapped_in : (f : ShareKey × ClosedShare → HeldShare) (es : List (ShareKey × ClosedShare)) (e : ShareKey × ClosedShare) → Contains es e → Contains (map f es) (f e)
mapped_in f [] e c = absurd (omega (arith, c.1))
mapped_in f (x ∷ xs) e (zero, low, is) = (zero, omega arith, ap f is)
mapped_in f (x ∷ xs) e (suc k, low, is) = let rest = mapped_in f xs e (k, omega (arith, low), is) in (suc rest.0, omega (arith, rest.1), rest.2)

closed_is_held : (s : Shelf) (id : ShareId) (c : ClosedShare) → id.share ≤ 255 → closed_at id s.closed ≡ Some c → Contains (held id.index s.closed) (record { share = id.share; digest = c.digest })
closed_is_held s id c low found =
    let entry : ShareKey × ClosedShare = (key_of id, c) in
    let there : Contains s.closed entry = Contains-from_lookup {eq = same_key} same_is (key_of id) c s.closed found in
    mapped_in (λ (e : ShareKey × ClosedShare). record { share = e.0.1; digest = e.1.digest }) (filter (λ (e : ShareKey × ClosedShare). is_under id.index e.0) s.closed) entry
    (kept_in (λ (e : ShareKey × ClosedShare). is_under id.index e.0) s.closed entry there (under_own id.index id.share low))

-- ---- an answer to an Ask

lists_all : (s : Shelf) (index : List ℕ) (readonly : Bool) (answer : Body) → answer ≡ Have readonly (held index s.closed) → ListsAll s index answer
lists_all s index readonly answer e = record {
  readonly = readonly;
  is = e;
  each = λ id c own low found. record {
    readonly = readonly;
    found = held index s.closed;
    is = e;
    listed = subst (λ (i : List ℕ). Contains (held i s.closed) (record { share = id.share; digest = c.digest })) own (closed_is_held s id c low found);
  };
}

answers_list : (old new : ServerState Shelf) (now : ℕ) (request r : Message) (index : List ℕ) → Does shelf_calls (ListsHoldings index) now old request (Ok (Some r)) new → ListsAll new.store index r.body
answers_list old new now request r index does =
    lists_all new.store index old.readonly r.body
    (ap (λ (m : Message). m.body) does.answer ∙ ap (Have old.readonly) (does.listed.0 ∙ ap (λ (s : Shelf). held index s.closed) (sym does.listed.1)))

pub asks_list_all : AsksListAll
asks_list_all old new from now request r index is serves =
    answers_list old new (max old.clock now) request r index
    (subst (λ (b : Body). Does shelf_calls (line_of shelf_calls old from request.session b) (max old.clock now) old request (Ok (Some r)) new) is serves.does)

-- ---- a read

read_does : (old new : ServerState Shelf) (t : ℕ) (request r : Message) (id : ShareId) (offset len : ℕ) (c : ClosedShare) → closed_at id old.store.closed ≡ Some c
    → Does shelf_calls (ReadsShare id offset len) t old request (Ok (Some r)) new → r.body ≡ Data (take len (drop offset c.bytes))
read_does old new t request r id offset len c found does =
    let bytes : bytes_at id old.store.closed ≡ c.bytes = ap (λ (o : Option ClosedShare). unwrap_or (option_map (λ (x : ClosedShare). x.bytes) o) []) found in
    ap (λ (m : Message). m.body) does.answer ∙ ap Data (does.read.0 ∙ ap (λ (l : List ℕ). take len (drop offset l)) bytes)

-- a read of a share that was closed before it
pub reads_closed : (old new : ServerState Shelf) (from now : ℕ) (request r : Message) (id : ShareId) (offset len : ℕ) (c : ClosedShare) → request.body ≡ Read id offset len
    → closed_at id old.store.closed ≡ Some c → Serves shelf_calls old from request now (Ok (Some r)) new → r.body ≡ Data (take len (drop offset c.bytes))
reads_closed old new from now request r id offset len c is found serves =
    let digest : digest_at id old.store.closed ≡ Some c.digest = ap (option_map (λ (x : ClosedShare). x.digest)) found in
    read_does old new (max old.clock now) request r id offset len c found
    (subst (λ (o : Option (List ℕ)). Does shelf_calls (read_line id offset len o) (max old.clock now) old request (Ok (Some r)) new) digest
    (subst (λ (b : Body). Does shelf_calls (line_of shelf_calls old from request.session b) (max old.clock now) old request (Ok (Some r)) new) is serves.does))

-- a read leaves the shelf as it was
read_keeps : (old new : ServerState Shelf) (t : ℕ) (request r : Message) (id : ShareId) (offset len : ℕ) (told : Option (List ℕ)) → Does shelf_calls (read_line id offset len told) t old request (Ok (Some r)) new → new.store ≡ old.store
read_keeps old new t request r id offset len (Some digest) does = does.read.1
read_keeps old new t request r id offset len None does = does.after.store

pub reads_bring_closed : ReadsBringClosed
reads_bring_closed old new from now request r id offset len is serves c found =
    let does = subst (λ (b : Body). Does shelf_calls (line_of shelf_calls old from request.session b) (max old.clock now) old request (Ok (Some r)) new) is serves.does in
    let same : new.store ≡ old.store = read_keeps old new (max old.clock now) request r id offset len (digest_at id old.store.closed) does in
    reads_closed old new from now request r id offset len c is (ap (λ (s : Shelf). closed_at id s.closed) (sym same) ∙ found) serves

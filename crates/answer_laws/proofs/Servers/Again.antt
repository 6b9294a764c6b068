-- What a server told once is told again in each later state.
use Rattle.std.proofs.Common.{◌≡◌, ◌≤◌, ℕ, List, [], ◌∷◌, Option, Some, None, Ok, refl, sym, ◌∙◌, ap, subst}
use Rattle.std.specs.Prelude.{option_map}
use Rattle.std.proofs.lemmas.List.Elements.{All-contains}
use Rattle.wire.specs.declared.message.Body.{Body}
use Rattle.wire.specs.declared.message.Body.TheVariants.{Allocate, Ask, Close, Have, Write}
use Rattle.wire.specs.declared.message.HeldShare.{HeldShare}
use Rattle.wire.specs.declared.message.ShareId.{ShareId}
use Rattle.share_store.specs.Shelf.{Shelf, closed_at, digest_at}
use Rattle.share_store.specs.declared.shelf.ClosedShare.{ClosedShare}
use Rattle.server_core.specs.ServerState.{ServerState}
use Rattle.server_core.specs.Sound.{ClosedStay, IsSound, Tells}
use Rattle.server_core.proofs.Keeps.{messages_keep}
use Rattle.server_core.proofs.Ended.{letting_go_leaves_written}
use Rattle.server_core.proofs.Stays.{messages_leave_others, ticks_leave_closed, restarts_leave_closed}
use Rattle.answer_laws.specs.Servers.Again.{GoesThrough, IsTold, IsToldForGood, Moves, TellsDigest, ToldIsToldAgain}
use Rattle.answer_laws.specs.Servers.Again.Moves.{by_message, by_tick, by_forgetting, by_letting_go, by_restart}
use Rattle.answer_laws.specs.Servers.Again.TellsDigest.{by_list, by_allocate, by_write, by_close}
use Rattle.answer_laws.proofs.Servers.Telling.{asks_list_all, reads_closed}

-- ---- later states

move_keeps : (old new : ServerState Shelf) → Moves old new → ClosedStay old.store new.store
move_keeps old new (by_message from now request outcome serves) = (messages_leave_others old new from now request outcome serves).stays
move_keeps old new (by_tick now ticks) = ticks_leave_closed old new now ticks
move_keeps old new (by_forgetting client same) = λ id c found. ap (λ (m : ServerState Shelf). closed_at id m.store.closed) same ∙ found
move_keeps old new (by_letting_go goes) = (letting_go_leaves_written old new goes).stays
move_keeps old new (by_restart restarts) = restarts_leave_closed old new restarts

-- what is closed stays so through any number of moves
pub later_keeps : (first : ServerState Shelf) (states : List (ServerState Shelf)) (last : ServerState Shelf) → GoesThrough first states last → ClosedStay first.store last.store
later_keeps first [] last same id c found = ap (λ (m : ServerState Shelf). closed_at id m.store.closed) same ∙ found
later_keeps first (next ∷ states) last goes id c found = later_keeps next states last goes.1 id c (move_keeps first next goes.0 id c found)

-- ---- what was told is closed

pub told_closed : (s : Shelf) (request answer : Body) (id : ShareId) (digest : List ℕ) → Tells s request answer → TellsDigest request answer id digest → digest_at id s.closed ≡ Some digest
told_closed s request answer id digest tells (by_list asked lists) =
    let told : Tells s (Ask id.index) (Have lists.readonly lists.found) = subst (λ (b : Body). Tells s (Ask id.index) b) lists.is (subst (λ (b : Body). Tells s b answer) asked tells) in
    All-contains (λ (h : HeldShare). digest_at (record { index = id.index; share = h.share }) s.closed ≡ Some h.digest) lists.found (record { share = id.share; digest = digest }) told lists.listed
told_closed s request answer id digest tells (by_allocate len asked said) = subst (λ (b : Body). Tells s (Allocate id len) b) said (subst (λ (b : Body). Tells s b answer) asked tells)
told_closed s request answer id digest tells (by_write offset bytes asked said) = subst (λ (b : Body). Tells s (Write id offset bytes) b) said (subst (λ (b : Body). Tells s b answer) asked tells)
told_closed s request answer id digest tells (by_close asked said) = subst (λ (b : Body). Tells s (Close id) b) said (subst (λ (b : Body). Tells s b answer) asked tells)

-- ---- and is told again

-- where a share is closed, it is told
pub closed_is_told : (m : ServerState Shelf) (id : ShareId) (c : ClosedShare) → id.share ≤ 255 → closed_at id m.store.closed ≡ Some c → IsTold m id c
closed_is_told m id c low found = record {
  closed = found;
  asks = λ new from now request r is serves. (asks_list_all m new from now request r id.index is serves).each id c refl low ((messages_leave_others m new from now request (Ok (Some r)) serves).stays id c found);
  reads = λ new from now request r offset len is serves. reads_closed m new from now request r id offset len c is found serves;
}

closed_for_good : (m : ServerState Shelf) (id : ShareId) (digest : List ℕ) (at : Option ClosedShare) → id.share ≤ 255 → IsSound m → closed_at id m.store.closed ≡ at → option_map (λ (c : ClosedShare). c.digest) at ≡ Some digest → IsToldForGood m id digest
closed_for_good m id digest None low sound found told = absurd cc
closed_for_good m id digest (Some c) low sound found told =
    let same : c.digest ≡ digest = cc in
    record {
      share = c;
      has = same;
      digest_of = sym (sound.right.digests id c found) ∙ same;
      later = λ states last goes. closed_is_told last id c low (later_keeps m states last goes id c found);
    }

pub told_is_told_again : ToldIsToldAgain
told_is_told_again old new from now request r id digest low sound serves tells =
    let kept = messages_keep old new from now request (Ok (Some r)) sound serves in
    closed_for_good new id digest (closed_at id new.store.closed) low kept.sound refl (told_closed new.store request.body r.body id digest kept.answers.tells tells)

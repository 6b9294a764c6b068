-- A loop that has begun, and a folder that was served.
use Rattle.std.proofs.Common.{◌≡◌, ◌∙◌, ℕ, List, ap, sym}
use Rattle.std.specs.Prelude.{Result, Ok, Err, OnOk}
use Rattle.server_core.specs.ServerState.{ServerState}
use Rattle.grid_serving.specs.Loops.{LoopState, begun_loop}
use Rattle.grid_serve.specs.Served.{GoesOnToTheEnd, IsBegunFor, ServedState, WasServed}
use Rattle.grid_serve.specs.declared.folder.Serve.{Serve}

module _ {W S : Type 0} where
  -- It begins with the server that it has.
  pub begun_with_its_server : (loop : LoopState W S) (server : ServerState S) (own : List ℕ) → loop ≡ begun_loop loop.listener server own → loop ≡ begun_loop loop.listener loop.server own
  begun_with_its_server loop server own is =
      is ∙ ap (λ (s : ServerState S). begun_loop loop.listener s own) (sym (ap (λ (l : LoopState W S). l.server) is))

  -- It begins with a greeting that is the same.
  pub begun_with_same : (loop : LoopState W S) (own told : List ℕ) → own ≡ told → loop ≡ begun_loop loop.listener loop.server own → loop ≡ begun_loop loop.listener loop.server told
  begun_with_same loop own told same is = is ∙ ap (λ (o : List ℕ). begun_loop loop.listener loop.server o) same

pub was_served : {E : Type 0} (serve : Serve) (first last : ServedState) (r : Result Unit E) → IsBegunFor serve first → OnOk r (GoesOnToTheEnd first last) → OnOk r (WasServed serve)
was_served serve first last (Ok u) begun goes_on = record { first = first; begun = begun; last = last; goes_on = goes_on }
was_served serve first last (Err e) begun none = none

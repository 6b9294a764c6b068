-- Turns over the servers of one process, and the answers that come in them.
use Rattle.std.proofs.Common.{◌≡◌, ℕ, List, [], ◌∷◌, map, Option, Some, None, ap, refl, subst, sym, ◌∙◌}
use Rattle.std.proofs.lemmas.List.{length-map}
use Rattle.wire.specs.declared.message.Message.{Message}
use Rattle.request_record.specs.Operations.{OperationCalls}
use Rattle.share_store.specs.Calls.{Calls}
use Rattle.local_grid.specs.Nodes.{Carries}
use Rattle.local_grid.specs.Turns as one
use Rattle.local_grid.specs.Local.{local_calls, of_one}
use Rattle.local_grid.specs.OutsideTurns.{Finishes, LoopState, Turns}
use Rattle.local_grid.proofs.Same.{turns_back}
use Rattle.carried_operations.specs.Came.{Brings, ComesFrom}
use Rattle.carried_operations.specs.OneProcess.{IsAnswered}

module _ {O S L : Type 0} (operation : OperationCalls O) (calls : Calls S) (carries : Carries L) (gives_up : L → L → Type 0) where
  -- ---- turns of the loop of one process

  -- the state of the loop over whatever servers there are
  abbrev of_many : one.LoopState O S L → LoopState O (one.GridState S L)
  of_many s = record { operation = s.operation; outside = s.grid }

  course_back : (first last : one.LoopState O S L) (states : List (one.LoopState O S L)) → one.Course (one.Turns operation calls carries) first states last
      → one.Course (Turns operation (local_calls calls carries gives_up)) (of_many first) (map of_many states) (of_many last)
  course_back first last [] c = ap of_many c
  course_back first last (next ∷ states) c = (turns_back operation calls carries gives_up (of_many first) (of_many next) c.0, course_back next last states c.1)

  pub finishes_back : (most : ℕ) (first last : one.LoopState O S L) → one.Finishes operation calls carries most first last → Finishes operation (local_calls calls carries gives_up) most (of_many first) (of_many last)
  finishes_back most first last f = (f.0, f.1, (map of_many f.2.0, length-map f.2.0 of_many ∙ f.2.1, course_back first last f.2.0 f.2.2), f.3)

  -- ---- answers

  -- the clock stays as a message is handed on
  asks_keep : (old new : one.GridState S L) (node : ℕ) (at : Option (Option _)) (m : Message) (answer : Option Message) → one.AsksAt calls carries old node at m answer new → new.clock ≡ old.clock
  asks_keep old new node None m answer a = ap (λ (g : one.GridState S L). g.clock) a.1
  asks_keep old new node (Some None) m answer a = ap (λ (g : one.GridState S L). g.clock) a.1
  asks_keep old new node (Some (Some n)) m answer a = ap (λ (g : one.GridState S L). g.clock) a.2

  pub answers_there : (server : ℕ) (answer : Message) (old new : LoopState O (one.GridState S L)) → Brings operation (local_calls calls carries gives_up) server answer old new
      → IsAnswered operation calls carries server answer (of_one old) (of_one new)
  answers_there server answer old new b = by b.message b.takes b.comes
    where
      by : (message : Option (ℕ × Message)) → operation.takes old.operation message b.taken → ComesFrom (local_calls calls carries gives_up) message server answer old.outside new.outside
          → IsAnswered operation calls carries server answer (of_one old) (of_one new)
      by None takes comes = absurd comes
      by (Some m) takes comes = record {
        asked = m.1;
        taken = b.taken;
        takes = subst (λ (n : ℕ). operation.takes old.operation (Some (n, m.1)) b.taken) comes.0 takes;
        asks = comes.1;
        hears = subst (λ (now : ℕ). operation.hears b.taken server answer now new.operation) (asks_keep old.outside new.outside server _ m.1 (Some answer) comes.1) b.hears;
      }

  pub answers_back : (server : ℕ) (answer : Message) (old new : LoopState O (one.GridState S L)) → IsAnswered operation calls carries server answer (of_one old) (of_one new)
      → Brings operation (local_calls calls carries gives_up) server answer old new
  answers_back server answer old new a = record {
    message = Some (server, a.asked);
    taken = a.taken;
    takes = a.takes;
    comes = (refl, a.asks);
    hears = subst (λ (now : ℕ). operation.hears a.taken server answer now new.operation) (sym (asks_keep old.outside new.outside server _ a.asked (Some answer) a.asks)) a.hears;
  }

-- Turns over the servers of one process.
use Rattle.std.proofs.Common.{◌≡◌, ℕ, Option, Some, None, refl, ap, subst, sym, ◌∙◌}
use Rattle.wire.specs.declared.message.Message.{Message}
use Rattle.request_record.specs.Operations.{OperationCalls}
use Rattle.share_store.specs.Calls.{Calls}
use Rattle.local_grid.specs.Nodes.{Carries}
use Rattle.local_grid.specs.Turns as one
use Rattle.local_grid.specs.declared.outside.Happening.{Happening}
use Rattle.local_grid.specs.declared.outside.Happening.TheVariants.{Came, Second}
use Rattle.local_grid.specs.Local.{IsNext, local_calls, of_one}
use Rattle.local_grid.specs.OutsideTurns.{GoesOn, LoopState, Meets, Turns}

module _ {O S L : Type 0} (operation : OperationCalls O) (calls : Calls S) (carries : Carries L) (gives_up : L → L → Type 0) where
  -- the clock stays as a message is handed on
  asks_keep : (old new : one.GridState S L) (node : ℕ) (at : Option (Option _)) (m : Message) (answer : Option Message) → one.AsksAt calls carries old node at m answer new → new.clock ≡ old.clock
  asks_keep old new node None m answer a = ap (λ (g : one.GridState S L). g.clock) a.1
  asks_keep old new node (Some None) m answer a = ap (λ (g : one.GridState S L). g.clock) a.1
  asks_keep old new node (Some (Some n)) m answer a = ap (λ (g : one.GridState S L). g.clock) a.2

  hears_at : (taken : O) (node : ℕ) (answer : Option Message) (now then_ : ℕ) (new : O) → now ≡ then_ → one.Hears operation taken node answer now new → one.Hears operation taken node answer then_ new
  hears_at taken node answer now then_ new same h = subst (λ (n : ℕ). one.Hears operation taken node answer n new) same h

  -- the one next tick
  ticks : (taken : O) (old new : one.GridState S L) (h : Happening) (after : O) → IsNext old h new → Meets operation taken h new.clock after → (new ≡ one.passed old) × operation.ticks taken (one.later old.clock) after
  ticks taken old new (Came node m) after is meets = absurd is
  ticks taken old new (Second second) after is meets = (is.1, subst (λ (n : ℕ). operation.ticks taken n after) is.0 meets)

  there : (taken : O) (old : one.GridState S L) (message : Option (ℕ × Message)) (new : LoopState O (one.GridState S L)) → GoesOn operation (local_calls calls carries gives_up) taken old message new
      → one.GoesOn operation calls carries taken old message (of_one new)
  there taken old None new g = ticks taken old new.outside g.0 new.operation g.1 g.2
  there taken old (Some m) new g = (g.0, g.1, hears_at taken m.0 g.0 new.outside.clock old.clock new.operation (asks_keep old new.outside m.0 _ m.1 g.0 g.1) g.2)

  back : (taken : O) (old : one.GridState S L) (message : Option (ℕ × Message)) (new : LoopState O (one.GridState S L)) → one.GoesOn operation calls carries taken old message (of_one new)
      → GoesOn operation (local_calls calls carries gives_up) taken old message new
  back taken old None new g = (Second (one.later old.clock), (refl, g.0), g.1)
  back taken old (Some m) new g = (g.0, g.1, hears_at taken m.0 g.0 old.clock new.outside.clock new.operation (sym (asks_keep old new.outside m.0 _ m.1 g.0 g.1)) g.2)

  pub turns_there : (old new : LoopState O (one.GridState S L)) → Turns operation (local_calls calls carries gives_up) old new → one.Turns operation calls carries (of_one old) (of_one new)
  turns_there old new t = record { runs = t.runs; message = t.message; taken = t.taken; takes = t.takes; goes_on = there t.taken old.outside t.message new t.goes_on }

  pub turns_back : (old new : LoopState O (one.GridState S L)) → one.Turns operation calls carries (of_one old) (of_one new) → Turns operation (local_calls calls carries gives_up) old new
  turns_back old new t = record { runs = t.runs; message = t.message; taken = t.taken; takes = t.takes; goes_on = back t.taken old.outside t.message new t.goes_on }

-- One law for all operations that the loop carries: what goes on by each call goes on by all turns, by the answers that came in them.
use Rattle.std.proofs.Common.{◌≡◌, ℕ, List, [], ◌∷◌, Option, Some, None, refl, sym, subst, inl, inr, ◌∙◌}
use Rattle.wire.specs.declared.message.Body.{Body}
use Rattle.wire.specs.declared.message.Message.{Message}
use Rattle.request_record.specs.declared.requests.Asked.{Asked}
use Rattle.request_record.specs.Operations.{OperationCalls}
use Rattle.request_record.specs.Follow.{Follows, IsSaid, Nothing, Said}
use Rattle.request_record.specs.Record.{RequestsState}
use Rattle.local_grid.specs.Turns.{Course, Hears}
use Rattle.local_grid.specs.declared.outside.Happening.{Happening}
use Rattle.local_grid.specs.declared.outside.Happening.TheVariants as happening
use Rattle.local_grid.specs.Outside.{OutsideCalls}
use Rattle.local_grid.specs.OutsideTurns.{GoesOn, LoopState, Meets, Turns}
use Rattle.carried_operations.specs.Came.{Brings, Came, ComesFrom}

-- ---- records that go on

-- one record after another, of which each may have answers of its own
pub follows_both : (New : Said) (a b c : RequestsState) → Follows New a b → Follows New b c → Follows New a c
follows_both New a b c f g = record {
  session_is = g.session_is ∙ f.session_is;
  keeps = λ position r e.
      let s = f.keeps position r e in
      let t = g.keeps position s.request s.at in record { request = t.request; at = t.at; server = t.server ∙ s.server; asked = t.asked ∙ s.asked; answered = λ said o. t.answered said (s.answered said o) };
  answers = λ position s said e o. elim (g.answers position s said e o) [
    | inl w ↦ elim (f.answers position w.request said w.at w.answered) [
      | inl v ↦ inl (record { request = v.request; at = v.at; answered = v.answered; server = v.server ∙ w.server; asked = v.asked ∙ w.asked })
      | inr n ↦ inr (subst (λ (x : Asked). New position s.server x said) w.asked (subst (λ (x : ℕ). New position x w.request.asked said) w.server n))
    ]
    | inr n ↦ inr n
  ];
}

-- these answers are among those
abbrev pub IsWithin : Said → Said → Type 0
IsWithin Old New = (position server : ℕ) (asked : Asked) (said : Body) → Old position server asked said → New position server asked said

pub follows_wider : (Old New : Said) (a b : RequestsState) → IsWithin Old New → Follows Old a b → Follows New a b
follows_wider Old New a b wider f = record {
  session_is = f.session_is;
  keeps = f.keeps;
  answers = λ position s said e o. elim (f.answers position s said e o) [ inl w ↦ inl w | inr n ↦ inr (wider position s.server s.asked said n) ];
}

-- A way of going on by answers, of which each call of an operation is one: it goes on from call to call, and its session stays.
pub record IsLaw {O : Type 0} (operation : OperationCalls O) (Goes : Said → O → O → Type 0) : Type 1 where
  pub itself : (New : Said) (o : O) → Goes New o o
  pub both : (New : Said) (a b c : O) → Goes New a b → Goes New b c → Goes New a c
  pub wider : (Old New : Said) (a b : O) → IsWithin Old New → Goes Old a b → Goes New a b
  pub session : (New : Said) (a b : O) → Goes New a b → (operation.requests b).session ≡ (operation.requests a).session
  pub takes : (old : O) (taken : Option (ℕ × Message)) (new : O) → operation.takes old taken new → Goes Nothing old new
  pub hears : (old : O) (from : ℕ) (m : Message) (now : ℕ) (new : O) → operation.hears old from m now new → Goes (IsSaid from m (operation.requests old).session) old new
  pub ticks : (old : O) (now : ℕ) (new : O) → operation.ticks old now new → Goes Nothing old new

module _ {O G : Type 0} (operation : OperationCalls O) (Goes : Said → O → O → Type 0) (law : IsLaw operation Goes) (calls : OutsideCalls G) where
  by_nothing : (New : Said) (a b : O) → Goes Nothing a b → Goes New a b
  by_nothing New a b g = law.wider Nothing New a b (λ position server asked said n. absurd n) g

  -- what a message brought is what came in the turn
  brought : (session : ℕ) (old new : LoopState O G) (from : ℕ) (taken : O) (answer : Message) → (operation.requests taken).session ≡ session → Brings operation calls from answer old new
      → IsWithin (IsSaid from answer (operation.requests taken).session) (Came operation calls session old (new ∷ []))
  brought session old new from taken answer same b position server asked said i = (
    answer,
    record { session_is = i.session_is ∙ same; number_is = i.number_is; server_is = refl; body_is = i.body_is; fitting = i.fitting },
    inl (subst (λ (n : ℕ). Brings operation calls n answer old new) (sym i.server_is) b),
  )

  -- what comes from a server is heard
  heard : (session : ℕ) (old new : LoopState O G) (message : Option (ℕ × Message)) (from : ℕ) (taken : O) (answer : Message) → operation.takes old.operation message taken → (operation.requests taken).session ≡ session
      → ComesFrom calls message from answer old.outside new.outside → operation.hears taken from answer (calls.clock new.outside) new.operation → Goes (Came operation calls session old (new ∷ [])) taken new.operation
  heard session old new message from taken answer tk same comes h =
      let b : Brings operation calls from answer old new = record { message = message; taken = taken; takes = tk; comes = comes; hears = h } in
      law.wider (IsSaid from answer (operation.requests taken).session) (Came operation calls session old (new ∷ [])) taken new.operation (brought session old new from taken answer same b)
      (law.hears taken from answer (calls.clock new.outside) new.operation h)

  -- at once, or not
  answered : (session : ℕ) (old new : LoopState O G) (m : ℕ × Message) (taken : O) (answer : Option Message) → operation.takes old.operation (Some m) taken → (operation.requests taken).session ≡ session
      → calls.handed old.outside m.0 m.1 answer new.outside → Hears operation taken m.0 answer (calls.clock new.outside) new.operation → Goes (Came operation calls session old (new ∷ [])) taken new.operation
  answered session old new m taken None tk same handed h = subst (λ (o : O). Goes (Came operation calls session old (new ∷ [])) taken o) (sym h) (law.itself (Came operation calls session old (new ∷ [])) taken)
  answered session old new m taken (Some answer) tk same handed h = heard session old new (Some m) m.0 taken answer tk same (refl, handed) h

  -- while it waits, or a second comes
  met : (session : ℕ) (old new : LoopState O G) (taken : O) (h : Happening) → operation.takes old.operation None taken → (operation.requests taken).session ≡ session
      → calls.happened old.outside h new.outside → Meets operation taken h (calls.clock new.outside) new.operation → Goes (Came operation calls session old (new ∷ [])) taken new.operation
  met session old new taken (happening.Came from answer) tk same happened h = heard session old new None from taken answer tk same happened h
  met session old new taken (happening.Second second) tk same happened h = by_nothing (Came operation calls session old (new ∷ [])) taken new.operation (law.ticks taken second new.operation h)

  goes_on : (session : ℕ) (old new : LoopState O G) (message : Option (ℕ × Message)) (taken : O) → operation.takes old.operation message taken → (operation.requests taken).session ≡ session
      → GoesOn operation calls taken old.outside message new → Goes (Came operation calls session old (new ∷ [])) taken new.operation
  goes_on session old new None taken tk same g = met session old new taken g.0 tk same g.1 g.2
  goes_on session old new (Some m) taken tk same g = answered session old new m taken g.0 tk same g.1 g.2

  -- a turn brings at most one answer
  turn_by : (session : ℕ) (old new : LoopState O G) (message : Option (ℕ × Message)) (taken : O) → (operation.requests old.operation).session ≡ session → operation.takes old.operation message taken
      → GoesOn operation calls taken old.outside message new → Goes (Came operation calls session old (new ∷ [])) old.operation new.operation
  turn_by session old new message taken same tk g =
      let New = Came operation calls session old (new ∷ []) in
      let first = law.takes old.operation message taken tk in
      law.both New old.operation taken new.operation (by_nothing New old.operation taken first)
      (goes_on session old new message taken tk (law.session Nothing old.operation taken first ∙ same) g)

  -- The law: over turns of the loop an operation goes on by the answers that came in them.
  pub course_goes : (session : ℕ) (first last : LoopState O G) (states : List (LoopState O G)) → (operation.requests first.operation).session ≡ session → Course (Turns operation calls) first states last
      → Goes (Came operation calls session first states) first.operation last.operation
  course_goes session first last [] same c =
      let New = Came operation calls session first [] in
      subst (λ (s : LoopState O G). Goes New first.operation s.operation) (sym c) (law.itself New first.operation)
  course_goes session first last (next ∷ states) same c =
      let New = Came operation calls session first (next ∷ states) in
      let One = Came operation calls session first (next ∷ []) in
      let a = turn_by session first next c.0.message c.0.taken same c.0.takes c.0.goes_on in
      let b = course_goes session next last states (law.session One first.operation next.operation a ∙ same) c.1 in
      law.both New first.operation next.operation last.operation
      (law.wider One New first.operation next.operation (λ position server asked said n. (n.0, n.1, elim n.2 [ inl here ↦ inl here | inr none ↦ absurd none ])) a)
      (law.wider (Came operation calls session next states) New next.operation last.operation (λ position server asked said n. (n.0, n.1, inr n.2)) b)

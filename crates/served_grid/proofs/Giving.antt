-- What goes over connections, piece by piece.
use Rattle.std.proofs.Common.{◌≡◌, ℕ, zero, suc, List, [], ◌∷◌, ◌++◌, Option, Some, None, refl, sym, ap, subst, ◌∙◌, arith, ◌==◌, if◌then◌else◌, Bool, ◌⊎◌, inl, inr, eq-eqb, ne_eqb}
use Rattle.std.proofs.lemmas.Bool.{cases_eq}
use Rattle.std.specs.Prelude.{slice_get, slice_set}
use Rattle.wire.specs.declared.message.Message.{Message}
use Rattle.connections.specs.Connections.{Breaks, ConnectionState, Goes}
use Rattle.connections.specs.Connections as connection
use Rattle.connections.specs.Courses.{Course, Event, Happens, bytes_come, bytes_go, given, is_given, is_queued, queued}
use Rattle.connections.specs.Wires.{WireCalls}
use Rattle.connections.specs.declared.connection.Heard.{Heard}
use Rattle.connections.specs.declared.connection.Heard.TheVariants as heard
use Rattle.connections.specs.declared.connection.Sent.{Sent}
use Rattle.connections.specs.declared.connection.Sent.TheVariants as sent
use Rattle.connections.specs.declared.fault.ConnectionFault.{ConnectionFault}
use Rattle.served_grid.specs.Remotes.{GaveOver, Gave, Gives, IsBroken, RemoteState}
use Rattle.served_grid.specs.Served.{AllGive, GivesAt, nothing}

-- ---- one connection

module _ {W : Type 0} (calls : WireCalls W) where
  pub course_both : (a b c : ConnectionState W) (xs ys : List Event) → Course calls a xs b → Course calls b ys c → Course calls a (xs ++ ys) c
  course_both a b c [] ys same more = subst (λ (s : ConnectionState W). Course calls s ys c) same more
  course_both a b c (x ∷ xs) ys (next, one, course) more = (next, one, course_both next b c xs ys course more)

given_both : (xs ys : List Event) → given (xs ++ ys) ≡ given xs ++ given ys
given_both [] ys = refl
given_both (bytes_come bytes ∷ xs) ys = given_both xs ys
given_both (is_given m ∷ xs) ys = ap (λ (ms : List Message). m ∷ ms) (given_both xs ys)
given_both (is_queued m ∷ xs) ys = given_both xs ys
given_both (bytes_go bytes ∷ xs) ys = given_both xs ys

queued_both : (xs ys : List Event) → queued (xs ++ ys) ≡ queued xs ++ queued ys
queued_both [] ys = refl
queued_both (bytes_come bytes ∷ xs) ys = queued_both xs ys
queued_both (is_given m ∷ xs) ys = queued_both xs ys
queued_both (is_queued m ∷ xs) ys = ap (λ (ms : List Message). m ∷ ms) (queued_both xs ys)
queued_both (bytes_go bytes ∷ xs) ys = queued_both xs ys

-- the message that a connection told, if it did
abbrev pub told : Heard → List Message
told (heard.Message m) = m ∷ []
told heard.Bytes = []
told heard.Nothing = []

module _ {W : Type 0} (calls : WireCalls W) where
  pub gave_itself : (c : ConnectionState W) → Gave calls c [] c
  gave_itself c = record { events = []; course = refl; given_is = refl; queued_is = refl }

  -- what is given after nothing was
  pub gave_both : (a b c : ConnectionState W) (messages : List Message) → Gave calls a [] b → Gave calls b messages c → Gave calls a messages c
  gave_both a b c messages f g = record {
    events = f.events ++ g.events;
    course = course_both calls a b c f.events g.events f.course g.course;
    given_is = given_both f.events g.events ∙ ap (λ (ms : List Message). ms ++ given g.events) f.given_is ∙ g.given_is;
    queued_is = queued_both f.events g.events ∙ ap (λ (ms : List Message). ms ++ queued g.events) f.queued_is ∙ g.queued_is;
  }

  -- what one call does
  pub gave_one : (a b : ConnectionState W) (e : Event) (messages : List Message) → Happens calls a e b → given (e ∷ []) ≡ messages → queued (e ∷ []) ≡ [] → Gave calls a messages b
  gave_one a b e messages happens given-is queued-is = record { events = e ∷ []; course = (b, happens, refl); given_is = given-is; queued_is = queued-is }

  pub broken_after : (a b : ConnectionState W) (fault : _) → Gave calls a [] b → IsBroken calls b fault → IsBroken calls a fault
  broken_after a b fault f g = record { reached = g.reached; quietly = gave_both a b g.reached [] f g.quietly; left = g.left; breaks = g.breaks }

  pub broken_now : (a b left : ConnectionState W) (fault : ConnectionFault) → Gave calls a [] b → Breaks calls b fault left → IsBroken calls a fault
  broken_now a b left fault f breaks = record { reached = b; quietly = f; left = left; breaks = breaks }

  -- what is sent gives nothing
  pub sent_gave : (a b : ConnectionState W) (s : Sent) → Goes calls a s b → Gave calls a [] b
  sent_gave a b sent.Bytes g = gave_one a b (bytes_go g.0) [] g.2 refl refl
  sent_gave a b sent.Nothing (inl same) = subst (λ (x : ConnectionState W). Gave calls a [] x) (sym same.1) (gave_itself a)
  sent_gave a b sent.Nothing (inr sends) = gave_one a b (bytes_go []) [] sends refl refl

  -- what is heard is given
  pub heard_gave : (a b : ConnectionState W) (h : Heard) → connection.Hears calls a h b → Gave calls a (told h) b
  heard_gave a b (heard.Message m) g = gave_one a b (is_given m) (m ∷ []) g refl refl
  heard_gave a b heard.Bytes g = gave_one a b (bytes_come g.0) [] g.2 refl refl
  heard_gave a b heard.Nothing g = gave_one a b (bytes_come []) [] g refl refl

  -- ---- one server

  over_itself : (o : Option (ConnectionState W)) → GaveOver calls o [] o
  over_itself None = refl
  over_itself (Some c) = gave_itself c

  over_both : (a b c : Option (ConnectionState W)) (messages : List Message) → GaveOver calls a [] b → GaveOver calls b messages c → GaveOver calls a messages c
  over_both None None None messages f g = g
  over_both None None (Some c) messages f g = absurd g
  over_both None (Some b) c messages f g = absurd f
  over_both (Some a) None None messages f g = (g, f.1)
  over_both (Some a) None (Some c) messages f g = absurd g
  over_both (Some a) (Some b) None messages f g = (g.0, (g.1.0, broken_after a b g.1.0 f g.1.1))
  over_both (Some a) (Some b) (Some c) messages f g = gave_both a b c messages f g

  pub gives_itself : (r : RemoteState W) → Gives calls r [] r
  gives_itself r = record { own = refl; tries = omega arith; over = over_itself r.connection }

  gives_both : (a b c : RemoteState W) (messages : List Message) → Gives calls a [] b → Gives calls b messages c → Gives calls a messages c
  gives_both a b c messages f g = record {
    own = g.own ∙ f.own;
    tries = omega (arith, f.tries, g.tries);
    over = over_both a.connection b.connection c.connection messages f.over g.over;
  }

  -- ---- all servers

  at_itself : (o : Option (Option (RemoteState W))) → GivesAt calls o [] o
  at_itself None = refl
  at_itself (Some None) = refl
  at_itself (Some (Some r)) = gives_itself r

  at_both : (a b c : Option (Option (RemoteState W))) (messages : List Message) → GivesAt calls a [] b → GivesAt calls b messages c → GivesAt calls a messages c
  at_both None None None messages f g = g
  at_both (Some None) (Some None) (Some None) messages f g = g
  at_both (Some (Some a)) (Some (Some b)) (Some (Some c)) messages f g = gives_both a b c messages f g
  at_both (Some (Some a)) (Some (Some b)) (Some None) messages f g = absurd g
  at_both (Some (Some a)) (Some (Some b)) None messages f g = absurd g
  at_both (Some (Some a)) (Some None) c messages f g = absurd f
  at_both (Some (Some a)) None c messages f g = absurd f
  at_both (Some None) (Some None) (Some (Some c)) messages f g = absurd g
  at_both (Some None) (Some None) None messages f g = absurd g
  at_both (Some None) (Some (Some b)) c messages f g = absurd f
  at_both (Some None) None c messages f g = absurd f
  at_both None None (Some c) messages f g = absurd g
  at_both None (Some b) c messages f g = absurd f

  pub all_itself : (remotes : List (Option (RemoteState W))) → AllGive calls remotes nothing remotes
  all_itself remotes number = at_itself (slice_get remotes number)

  pub all_both : (a b c : List (Option (RemoteState W))) (messages : ℕ → List Message) → AllGive calls a nothing b → AllGive calls b messages c → AllGive calls a messages c
  all_both a b c messages f g number = at_both (slice_get a number) (slice_get b number) (slice_get c number) (messages number) (f number) (g number)

  -- one server is heard
  set_same : (remotes : List (Option (RemoteState W))) (i : ℕ) (was is : Option (RemoteState W)) → slice_get remotes i ≡ Some was → slice_get (slice_set remotes i is) i ≡ Some is
  set_same [] i was is at = absurd cc
  set_same (x ∷ xs) zero was is at = refl
  set_same (x ∷ xs) (suc i) was is at = set_same xs i was is at

  set_other : (remotes : List (Option (RemoteState W))) (i j : ℕ) (is : Option (RemoteState W)) → (j ≡ i → ⊥) → slice_get (slice_set remotes i is) j ≡ slice_get remotes j
  set_other [] i j is other = refl
  set_other (x ∷ xs) zero zero is other = absurd (other refl)
  set_other (x ∷ xs) zero (suc j) is other = refl
  set_other (x ∷ xs) (suc i) zero is other = refl
  set_other (x ∷ xs) (suc i) (suc j) is other = set_other xs i j is (λ same. other (ap suc same))

  heard_at : (remotes : List (Option (RemoteState W))) (i : ℕ) (was is : RemoteState W) (messages : List Message) → slice_get remotes i ≡ Some (Some was) → Gives calls was messages is
      → GivesAt calls (slice_get remotes i) messages (slice_get (slice_set remotes i (Some is)) i)
  heard_at remotes i was is messages at g =
      subst (λ (o : Option (Option (RemoteState W))). GivesAt calls o messages (slice_get (slice_set remotes i (Some is)) i)) (sym at)
      (subst (λ (o : Option (Option (RemoteState W))). GivesAt calls (Some (Some was)) messages o) (sym (set_same remotes i (Some was) (Some is) at)) g)

  not_heard_at : (remotes : List (Option (RemoteState W))) (i j : ℕ) (is : Option (RemoteState W)) → (j ≡ i → ⊥) → GivesAt calls (slice_get remotes j) [] (slice_get (slice_set remotes i is) j)
  not_heard_at remotes i j is other =
      subst (λ (o : Option (Option (RemoteState W))). GivesAt calls (slice_get remotes j) [] o) (sym (set_other remotes i j is other)) (at_itself (slice_get remotes j))

  set_at : (remotes : List (Option (RemoteState W))) (i j : ℕ) (was is : RemoteState W) (messages : List Message) → slice_get remotes i ≡ Some (Some was) → Gives calls was messages is
      → (j ≡ i) ⊎ (j ≡ i → ⊥) → GivesAt calls (slice_get remotes j) (if j == i then messages else []) (slice_get (slice_set remotes i (Some is)) j)
  set_at remotes i j was is messages at g (inl same) =
      subst (λ (b : Bool). GivesAt calls (slice_get remotes j) (if b then messages else []) (slice_get (slice_set remotes i (Some is)) j)) (sym (eq-eqb j i same))
      (subst (λ (k : ℕ). GivesAt calls (slice_get remotes k) messages (slice_get (slice_set remotes i (Some is)) k)) (sym same) (heard_at remotes i was is messages at g))
  set_at remotes i j was is messages at g (inr other) =
      subst (λ (b : Bool). GivesAt calls (slice_get remotes j) (if b then messages else []) (slice_get (slice_set remotes i (Some is)) j)) (sym (ne_eqb j i other))
      (not_heard_at remotes i j (Some is) other)

  pub set_all : (remotes : List (Option (RemoteState W))) (i : ℕ) (was is : RemoteState W) (messages : List Message) → slice_get remotes i ≡ Some (Some was) → Gives calls was messages is
      → AllGive calls remotes (λ number. if number == i then messages else []) (slice_set remotes i (Some is))
  set_all remotes i was is messages at g number = set_at remotes i number was is messages at g (cases_eq number i)

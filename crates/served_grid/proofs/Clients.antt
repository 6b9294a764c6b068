-- Connections of a client, as they go on.
use Rattle.std.proofs.Common.{◌≡◌, ℕ, ◌+◌, ◌≤◌, List, [], ◌∷◌, ◌++◌, length, Option, Some, None, refl, sym, ap, subst, ◌∙◌, inl, inr, arith, IfSome, Bool, true, if◌then◌else◌, le-leb}
use Rattle.std.proofs.lemmas.Bool.{cases_lt}
use Rattle.std.proofs.lemmas.List.{length-append}
use Rattle.wire.specs.Frames.{IsMessage, frame}
use Rattle.wire.specs.declared.message.Message.{Message}
use Rattle.connections.specs.Connections.{ConnectionState, begun, put_behind}
use Rattle.connections.specs.Courses.{Course, Event, bytes_come, bytes_go, is_given, is_queued, queued}
use Rattle.connections.specs.Wires.{WireCalls}
use Rattle.connections.specs.declared.connection.Side.TheVariants.{Client}
use Rattle.served_grid.specs.Heard.{Hears, HearsInVain, HearsOver, IsNothing, Loses, messages_of, noted, tries_after}
use Rattle.served_grid.specs.declared.remote.Came.{Came}
use Rattle.served_grid.specs.Remotes.{Gave, GaveOver, Gives, IsClients, RemoteState, given_up, is_awaited, patience, ticked_remote, waited}
use Rattle.connections.specs.declared.fault.ConnectionFault.{ConnectionFault}
use Rattle.connections.specs.declared.fault.ConnectionFault.TheVariants as fault
use Rattle.served_grid.specs.declared.remote.Came.TheVariants as came
use Rattle.served_grid.proofs.Giving.{course_both, gives_itself}

module _ {W : Type 0} (calls : WireCalls W) where
  -- A connection that goes on has no fault, and where nothing is queued no more bytes wait.
  record Stays (a b : ConnectionState W) : Type 0 where
    fault : b.fault ≡ a.fault
    waiting : length b.waiting ≤ length a.waiting

  stays : (a b : ConnectionState W) (events : List Event) → Course calls a events b → queued events ≡ [] → Stays a b
  stays a b [] same none = record { fault = ap (λ (c : ConnectionState W). c.fault) same; waiting = omega (arith, ap (λ (c : ConnectionState W). length c.waiting) same) }
  stays a b (bytes_come bytes ∷ events) (next, reads, course) none =
      let more = stays next b events course none in
      elim (cases_lt (length a.greeting) 64) [
        | inl less ↦ let is = (reads.greeting less).1 in record { fault = more.fault ∙ ap (λ (c : ConnectionState W). c.fault) is; waiting = omega (arith, more.waiting, ap (λ (c : ConnectionState W). length c.waiting) is) }
        | inr all ↦ let is = (reads.frames all).2 in record { fault = more.fault ∙ ap (λ (c : ConnectionState W). c.fault) is; waiting = omega (arith, more.waiting, ap (λ (c : ConnectionState W). length c.waiting) is) }
      ]
  stays a b (is_given m ∷ events) (next, gives, course) none =
      let more = stays next b events course none in
      record { fault = more.fault ∙ ap (λ (c : ConnectionState W). c.fault) gives.others; waiting = omega (arith, more.waiting, ap (λ (c : ConnectionState W). length c.waiting) gives.others) }
  stays a b (is_queued m ∷ events) (next, puts, course) none = absurd (let no : m ∷ queued events ≡ [] = none in cc)
  stays a b (bytes_go bytes ∷ events) (next, sends, course) none =
      let more = stays next b events course none in
      record {
        fault = more.fault ∙ ap (λ (c : ConnectionState W). c.fault) sends.others;
        waiting = omega (arith, more.waiting, ap length sends.front, length-append bytes next.waiting);
      }

  pub clients_on : (own : List ℕ) (c d : ConnectionState W) (messages : List Message) → IsClients calls own c → Gave calls c messages d → IsClients calls own d
  clients_on own c d messages is g =
      let s = stays c d g.events g.course g.queued_is in record {
        wire = is.wire;
        events = is.events ++ g.events;
        course = course_both calls (begun is.wire Client own) c d is.events g.events is.course g.course;
        sound = s.fault ∙ is.sound;
        most = omega (arith, s.waiting, is.most);
      }

  pub clients_begun : (own : List ℕ) (wire : W) → length own ≡ 64 → IsClients calls own (begun wire Client own)
  clients_begun own wire size = record { wire = wire; events = []; course = refl; sound = refl; most = omega (arith, size) }

  pub clients_queued : (own : List ℕ) (c d : ConnectionState W) (m : Message) → IsClients calls own c → IsMessage m → d ≡ put_behind (frame m) c
      → length c.waiting ≤ 16777216 → length d.waiting ≤ length c.waiting + 65540 → IsClients calls own d
  clients_queued own c d m is right same most more = record {
    wire = is.wire;
    events = is.events ++ is_queued m ∷ [];
    course = course_both calls (begun is.wire Client own) c d is.events (is_queued m ∷ []) is.course (d, (right, same), refl);
    sound = ap (λ (x : ConnectionState W). x.fault) same ∙ is.sound;
    most = omega (arith, most, more);
  }

  pub still_sound : (c d : ConnectionState W) (messages : List Message) → Gave calls c messages d → c.fault ≡ None → d.fault ≡ None
  still_sound c d messages g sound = (stays c d g.events g.course g.queued_is).fault ∙ sound

  -- ---- a server that is heard

  pub had : (own : List ℕ) (o : Option (ConnectionState W)) (c : ConnectionState W) → o ≡ Some c → IfSome o (IsClients calls own) → IsClients calls own c
  had own o c at is = subst (λ (x : Option (ConnectionState W)). IfSome x (IsClients calls own)) at is

  pub heard_is : (before after : RemoteState W) (c d : ConnectionState W) (came : Came) → before.connection ≡ Some c → Gave calls c (messages_of came) d
      → after ≡ noted came (record before { connection = Some d }) → Hears calls before before.connection came after
  heard_is before after c d came at gave same =
      subst (λ (o : Option (ConnectionState W)). Hears calls before o came after) (sym at) (inl (record { connection = d; gave = gave; after = same }))

  noted_own : (came : Came) (r : RemoteState W) → (noted came r).own ≡ r.own
  noted_own (came.Message m) r = refl
  noted_own came.More r = refl
  noted_own came.Nothing r = refl

  noted_tries : (came : Came) (r : RemoteState W) → (noted came r).tries ≡ r.tries
  noted_tries (came.Message m) r = refl
  noted_tries came.More r = refl
  noted_tries came.Nothing r = refl

  noted_connection : (came : Came) (r : RemoteState W) → (noted came r).connection ≡ r.connection
  noted_connection (came.Message m) r = refl
  noted_connection came.More r = refl
  noted_connection came.Nothing r = refl

  fewer : (fault : ConnectionFault) (tries : ℕ) → tries_after fault tries ≤ tries
  fewer fault.OutOfMemory tries = omega arith
  fewer fault.Ended tries = omega arith
  fewer fault.OtherGreeting tries = omega arith
  fewer fault.NoFrame tries = omega arith

  none_came : (came : Came) → IsNothing came → messages_of came ≡ []
  none_came (came.Message m) is = absurd is
  none_came came.More is = absurd is
  none_came came.Nothing is = refl

  over_from : (o : Option (ConnectionState W)) (c : ConnectionState W) (messages : List Message) (after : Option (ConnectionState W)) → o ≡ Some c → GaveOver calls (Some c) messages after → GaveOver calls o messages after
  over_from o c messages after at g = subst (λ (x : Option (ConnectionState W)). GaveOver calls x messages after) (sym at) g

  lost_gives : (old new : RemoteState W) (c : ConnectionState W) (messages : List Message) → old.connection ≡ Some c → messages ≡ [] → Loses calls old c new → Gives calls old messages new
  lost_gives old new c messages at none l = record {
    own = ap (λ (r : RemoteState W). r.own) l.after;
    tries = omega (arith, ap (λ (r : RemoteState W). r.tries) l.after, fewer l.fault old.tries);
    over = over_from old.connection c messages new.connection at
        (subst (λ (o : Option (ConnectionState W)). GaveOver calls (Some c) messages o) (sym (ap (λ (r : RemoteState W). r.connection) l.after)) (none, (l.fault, l.broken)));
  }

  heard_over_gives : (old new : RemoteState W) (c : ConnectionState W) (came : Came) → old.connection ≡ Some c → HearsOver calls old c came new → Gives calls old (messages_of came) new
  heard_over_gives old new c came at h =
      let mid : RemoteState W = record old { connection = Some h.connection } in record {
        own = ap (λ (r : RemoteState W). r.own) h.after ∙ noted_own came mid;
        tries = omega (arith, ap (λ (r : RemoteState W). r.tries) h.after, noted_tries came mid);
        over = over_from old.connection c (messages_of came) new.connection at
            (subst (λ (o : Option (ConnectionState W)). GaveOver calls (Some c) (messages_of came) o) (sym (ap (λ (r : RemoteState W). r.connection) h.after ∙ noted_connection came mid)) h.gave);
      }

  gives_by : (old new : RemoteState W) (o : Option (ConnectionState W)) (came : Came) → old.connection ≡ o → Hears calls old o came new → Gives calls old (messages_of came) new
  gives_by old new None came at h =
      subst (λ (ms : List Message). Gives calls old ms new) (sym (none_came came h.0)) (subst (λ (r : RemoteState W). Gives calls old [] r) (sym h.1) (gives_itself calls old))
  gives_by old new (Some c) came at (inl over) = heard_over_gives old new c came at over
  gives_by old new (Some c) came at (inr lost) = lost_gives old new c (messages_of came) at (none_came came lost.0) lost.1

  -- what is heard of a server is given over its connection
  pub heard_gives : (old new : RemoteState W) (came : Came) → Hears calls old old.connection came new → Gives calls old (messages_of came) new
  heard_gives old new came h = gives_by old new old.connection came refl h

  vain_by : (old new : RemoteState W) (o : Option (ConnectionState W)) → old.connection ≡ o → HearsInVain calls old o new → Gives calls old [] new
  vain_by old new None at h = absurd h
  vain_by old new (Some c) at h = lost_gives old new c [] at refl h

  pub vain_gives : (old new : RemoteState W) → HearsInVain calls old old.connection new → Gives calls old [] new
  vain_gives old new h = vain_by old new old.connection refl h

  -- ---- ticks

  pub late : (r : RemoteState W) → is_awaited r ≡ true → patience r.connection ≤ r.quiet + 1 → given_up r ≡ ticked_remote r
  late r awaited enough =
      subst (λ (b : Bool). given_up r ≡ (if b then waited r else r)) (sym awaited)
      (subst (λ (b : Bool). given_up r ≡ (if b then given_up r else record r { quiet = r.quiet + 1 })) (sym (le-leb (patience r.connection) (r.quiet + 1) enough)) refl)

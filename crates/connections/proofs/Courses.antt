-- Courses of a connection, event by event.
use Rattle.std.proofs.Common.{◌≡◌, ℕ, ◌<◌, ◌≤◌, List, [], ◌∷◌, ◌++◌, length, take, drop, Option, None, refl, sym, ap, ◌∙◌, append_assoc, append-nil, arith, inl, inr}
use Rattle.std.proofs.lemmas.Bool.{cases_lt}
use Rattle.std.specs.List.{AllByRecursion, flat_map}
use Rattle.std.proofs.lemmas.List.{take_at, drop_at, length-append}
use Rattle.std.proofs.lemmas.List.Concat.{flat_map-cons}
use Rattle.wire.specs.Frames.{IsMessage, frame}
use Rattle.wire.specs.Stream.{FeedState, fed, rest_after, stream}
use Rattle.wire.specs.declared.message.Message.{Message}
use Rattle.wire.proofs.StreamLaws.{no_frame_begins_another}
use Rattle.connections.specs.declared.connection.Side.{Side}
use Rattle.connections.specs.Connections.{ConnectionState, begun}
use Rattle.connections.specs.Courses.{Course, Event, bytes_come, bytes_go, bytes_in, bytes_out, given, is_given, is_queued, queued}
use Rattle.connections.specs.Wires.{WireCalls}

-- a stream without a fault grows by what is fed
grown : (bytes : List ℕ) (f : FeedState) → f.fault ≡ None → (fed bytes f).rest ≡ f.rest ++ bytes
grown bytes f sound = ap (λ (fault : Option _). rest_after fault f.rest bytes) sound

-- one frame, and a stream behind it
stream_cons : (m : Message) (ms : List Message) (rest : List ℕ) → stream (m ∷ ms) rest ≡ frame m ++ stream ms rest
stream_cons m ms rest = ap (λ (xs : List ℕ). xs ++ rest) (flat_map-cons frame m ms) ∙ append_assoc (frame m) (flat_map frame ms) rest

-- Once the greeting is whole it stays, and what comes goes to the stream.
record Streams {W : Type 0} (first : ConnectionState W) (events : List Event) (last : ConnectionState W) : Type 0 where
  same : last.greeting ≡ first.greeting
  text : first.came.rest ++ bytes_in events ≡ stream (given events) last.came.rest

streams : {W : Type 0} (calls : WireCalls W) (first last : ConnectionState W) (events : List Event)
    → length first.greeting ≡ 64 → Course calls first events last → Streams first events last
streams calls first last [] whole end = record {
  same = ap (λ (c : ConnectionState _). c.greeting) end;
  text = append-nil first.came.rest ∙ ap (λ (c : ConnectionState _). c.came.rest) (sym end);
}
streams calls first last (bytes_come bytes ∷ events) whole (next, reads, course) =
    let here : 64 ≤ length first.greeting = omega (arith, whole) in
    let is = (reads.frames here).2 in
    let sound = (reads.frames here).1 in
    let greeting : next.greeting ≡ first.greeting = ap (λ (c : ConnectionState _). c.greeting) is in
    let rest : next.came.rest ≡ first.came.rest ++ bytes = ap (λ (c : ConnectionState _). c.came.rest) is ∙ grown bytes first.came sound in
    let more = streams calls next last events (ap length greeting ∙ whole) course in record {
      same = more.same ∙ greeting;
      text = sym (append_assoc first.came.rest bytes (bytes_in events)) ∙ ap (λ (xs : List ℕ). xs ++ bytes_in events) (sym rest) ∙ more.text;
    }
streams calls first last (is_given m ∷ events) whole (next, gives, course) =
    let greeting : next.greeting ≡ first.greeting = ap (λ (c : ConnectionState _). c.greeting) gives.others in
    let more = streams calls next last events (ap length greeting ∙ whole) course in record {
      same = more.same ∙ greeting;
      text = ap (λ (xs : List ℕ). xs ++ bytes_in events) gives.front ∙ append_assoc (frame m) next.came.rest (bytes_in events)
          ∙ ap (λ (xs : List ℕ). frame m ++ xs) more.text ∙ sym (stream_cons m (given events) last.came.rest);
    }
streams calls first last (is_queued m ∷ events) whole (next, puts, course) =
    let greeting : next.greeting ≡ first.greeting = ap (λ (c : ConnectionState _). c.greeting) puts.1 in
    let rest : next.came.rest ≡ first.came.rest = ap (λ (c : ConnectionState _). c.came.rest) puts.1 in
    let more = streams calls next last events (ap length greeting ∙ whole) course in record {
      same = more.same ∙ greeting;
      text = ap (λ (xs : List ℕ). xs ++ bytes_in events) (sym rest) ∙ more.text;
    }
streams calls first last (bytes_go bytes ∷ events) whole (next, sends, course) =
    let greeting : next.greeting ≡ first.greeting = ap (λ (c : ConnectionState _). c.greeting) sends.others in
    let rest : next.came.rest ≡ first.came.rest = ap (λ (c : ConnectionState _). c.came.rest) sends.others in
    let more = streams calls next last events (ap length greeting ∙ whole) course in record {
      same = more.same ∙ greeting;
      text = ap (λ (xs : List ℕ). xs ++ bytes_in events) (sym rest) ∙ more.text;
    }

-- Before that what comes is the greeting's.
record Greets {W : Type 0} (first : ConnectionState W) (events : List Event) (last : ConnectionState W) : Type 0 where
  text : first.greeting ++ bytes_in events ≡ last.greeting ++ stream (given events) last.came.rest

-- the greeting became whole
greets_whole : {W : Type 0} (calls : WireCalls W) (first last : ConnectionState W) (events : List Event)
    → first.came.rest ≡ [] → length first.greeting ≡ 64 → Course calls first events last → Greets first events last
greets_whole calls first last events none whole course =
    let s = streams calls first last events whole course in
    let text : bytes_in events ≡ stream (given events) last.came.rest = ap (λ (xs : List ℕ). xs ++ bytes_in events) (sym none) ∙ s.text in
    record { text = ap (λ (xs : List ℕ). xs ++ bytes_in events) (sym s.same) ∙ ap (λ (xs : List ℕ). last.greeting ++ xs) text }

greets : {W : Type 0} (calls : WireCalls W) (first last : ConnectionState W) (events : List Event)
    → first.came.rest ≡ [] → length first.greeting < 64 → Course calls first events last → Greets first events last
greets calls first last [] none short end =
    let rest : last.came.rest ≡ [] = ap (λ (c : ConnectionState _). c.came.rest) end ∙ none in
    record { text = ap (λ (c : ConnectionState _). c.greeting ++ []) (sym end) ∙ ap (λ (xs : List ℕ). last.greeting ++ xs) (sym rest) }
greets calls first last (bytes_come bytes ∷ events) none short (next, reads, course) =
    let is = (reads.greeting short).1 in
    let most = (reads.greeting short).0 in
    let greeting : next.greeting ≡ first.greeting ++ bytes = ap (λ (c : ConnectionState _). c.greeting) is in
    let rest : next.came.rest ≡ [] = ap (λ (c : ConnectionState _). c.came.rest) is ∙ none in
    let more : Greets next events last = elim (cases_lt (length next.greeting) 64) [
      | inl less ↦ greets calls next last events rest less course
      | inr all ↦ greets_whole calls next last events rest (omega (arith, most, all)) course
    ] in
    record { text = sym (append_assoc first.greeting bytes (bytes_in events)) ∙ ap (λ (xs : List ℕ). xs ++ bytes_in events) (sym greeting) ∙ more.text }
greets calls first last (is_given m ∷ events) none short (next, gives, course) = absurd (omega (arith, gives.greeted.whole, short))
greets calls first last (is_queued m ∷ events) none short (next, puts, course) =
    let greeting : next.greeting ≡ first.greeting = ap (λ (c : ConnectionState _). c.greeting) puts.1 in
    let rest : next.came.rest ≡ [] = ap (λ (c : ConnectionState _). c.came.rest) puts.1 ∙ none in
    let more = greets calls next last events rest (omega (arith, ap length greeting, short)) course in
    record { text = ap (λ (xs : List ℕ). xs ++ bytes_in events) (sym greeting) ∙ more.text }
greets calls first last (bytes_go bytes ∷ events) none short (next, sends, course) =
    let greeting : next.greeting ≡ first.greeting = ap (λ (c : ConnectionState _). c.greeting) sends.others in
    let rest : next.came.rest ≡ [] = ap (λ (c : ConnectionState _). c.came.rest) sends.others ∙ none in
    let more = greets calls next last events rest (omega (arith, ap length greeting, short)) course in
    record { text = ap (λ (xs : List ℕ). xs ++ bytes_in events) (sym greeting) ∙ more.text }

pub all_came : {W : Type 0} (calls : WireCalls W) (wire : W) (side : Side) (own : List ℕ) (events : List Event) (last : ConnectionState W)
    → Course calls (begun wire side own) events last → bytes_in events ≡ last.greeting ++ stream (given events) last.came.rest
all_came calls wire side own events last course = (greets calls (begun wire side own) last events refl (omega arith) course).text

-- what waits, and what is queued, goes or waits
goes : {W : Type 0} (calls : WireCalls W) (first last : ConnectionState W) (events : List Event)
    → Course calls first events last → first.waiting ++ stream (queued events) [] ≡ bytes_out events ++ last.waiting
goes calls first last [] end = append-nil first.waiting ∙ ap (λ (c : ConnectionState _). c.waiting) (sym end)
goes calls first last (bytes_come bytes ∷ events) (next, reads, course) =
    let waiting : next.waiting ≡ first.waiting = elim (cases_lt (length first.greeting) 64) [
      | inl less ↦ ap (λ (c : ConnectionState _). c.waiting) (reads.greeting less).1
      | inr all ↦ ap (λ (c : ConnectionState _). c.waiting) (reads.frames all).2
    ] in
    ap (λ (xs : List ℕ). xs ++ stream (queued events) []) (sym waiting) ∙ goes calls next last events course
goes calls first last (is_given m ∷ events) (next, gives, course) =
    let waiting : next.waiting ≡ first.waiting = ap (λ (c : ConnectionState _). c.waiting) gives.others in
    ap (λ (xs : List ℕ). xs ++ stream (queued events) []) (sym waiting) ∙ goes calls next last events course
goes calls first last (is_queued m ∷ events) (next, puts, course) =
    let waiting : next.waiting ≡ first.waiting ++ frame m = ap (λ (c : ConnectionState _). c.waiting) puts.1 in
    ap (λ (xs : List ℕ). first.waiting ++ xs) (stream_cons m (queued events) []) ∙ sym (append_assoc first.waiting (frame m) (stream (queued events) [])) ∙ ap (λ (xs : List ℕ). xs ++ stream (queued events) []) (sym waiting) ∙ goes calls next last events course
goes calls first last (bytes_go bytes ∷ events) (next, sends, course) =
    ap (λ (xs : List ℕ). xs ++ stream (queued events) []) sends.front ∙ append_assoc bytes next.waiting (stream (queued events) [])
    ∙ ap (λ (xs : List ℕ). bytes ++ xs) (goes calls next last events course) ∙ sym (append_assoc bytes (bytes_out events) last.waiting)

pub all_goes : {W : Type 0} (calls : WireCalls W) (wire : W) (side : Side) (own : List ℕ) (events : List Event) (last : ConnectionState W)
    → Course calls (begun wire side own) events last → own ++ stream (queued events) [] ≡ bytes_out events ++ last.waiting
all_goes calls wire side own events last course = goes calls (begun wire side own) last events course

-- ---- both ends

given_fit : {W : Type 0} (calls : WireCalls W) (first last : ConnectionState W) (events : List Event)
    → Course calls first events last → AllByRecursion IsMessage (given events)
given_fit calls first last [] course = tt
given_fit calls first last (bytes_come bytes ∷ events) (next, reads, course) = given_fit calls next last events course
given_fit calls first last (is_given m ∷ events) (next, gives, course) = (gives.right, given_fit calls next last events course)
given_fit calls first last (is_queued m ∷ events) (next, puts, course) = given_fit calls next last events course
given_fit calls first last (bytes_go bytes ∷ events) (next, sends, course) = given_fit calls next last events course

queued_fit : {W : Type 0} (calls : WireCalls W) (first last : ConnectionState W) (events : List Event)
    → Course calls first events last → AllByRecursion IsMessage (queued events)
queued_fit calls first last [] course = tt
queued_fit calls first last (bytes_come bytes ∷ events) (next, reads, course) = queued_fit calls next last events course
queued_fit calls first last (is_given m ∷ events) (next, gives, course) = queued_fit calls next last events course
queued_fit calls first last (is_queued m ∷ events) (next, puts, course) = (puts.0, queued_fit calls next last events course)
queued_fit calls first last (bytes_go bytes ∷ events) (next, sends, course) = queued_fit calls next last events course

no_empty_frame : (m : Message) (more : List ℕ) → [] ≡ frame m ++ more → ⊥
no_empty_frame m more e = omega (arith, ap length e, length-append (frame m) more)

-- frames that begin with those of some messages are of these messages, and of others
begins : (ms ns : List Message) (rest : List ℕ) → AllByRecursion IsMessage ms → AllByRecursion IsMessage ns
    → stream ns [] ≡ stream ms rest → (others : List Message) × (ns ≡ ms ++ others)
begins [] ns rest ms-fit ns-fit e = (ns, refl)
begins (m ∷ ms) [] rest ms-fit ns-fit e = absurd (no_empty_frame m (stream ms rest) (e ∙ stream_cons m ms rest))
begins (m ∷ ms) (n ∷ ns) rest ms-fit ns-fit e =
    let first = no_frame_begins_another n m (stream ns []) (stream ms rest) ns-fit.0 ms-fit.0 (sym (stream_cons n ns []) ∙ e ∙ stream_cons m ms rest) in
    let more = begins ms ns rest ms-fit.1 ns-fit.1 first.1 in
    (more.0, ap (λ (k : Message). k ∷ ns) first.0 ∙ ap (λ (ks : List Message). m ∷ ks) more.1)

-- two texts of which the first parts have one length
parts : (a b x y : List ℕ) → length a ≡ length b → a ++ x ≡ b ++ y → (a ≡ b) × (x ≡ y)
parts a b x y size same = (
  sym (take_at a x (length a) refl) ∙ ap (take (length a)) same ∙ take_at b y (length a) (sym size),
  sym (drop_at a x (length a) refl) ∙ ap (drop (length a)) same ∙ drop_at b y (length a) (sym size),
)

pub all_heard : {V W : Type 0} (v-calls : WireCalls V) (w-calls : WireCalls W)
    (there : V) (side : Side) (own : List ℕ) (said : List Event) (speaker : ConnectionState V)
    (here : W) (other_side : Side) (other : List ℕ) (events : List Event) (hearer : ConnectionState W) (more : List ℕ)
    → Course v-calls (begun there side own) said speaker → Course w-calls (begun here other_side other) events hearer
    → length own ≡ 64 → length hearer.greeting ≡ 64 → bytes_out said ≡ bytes_in events ++ more
    → (hearer.greeting ≡ own) × ((others : List Message) × (queued said ≡ given events ++ others))
all_heard v-calls w-calls there side own said speaker here other_side other events hearer more speaks hears own-size size same =
    let rest = hearer.came.rest in
    let tail = more ++ speaker.waiting in
    let text = stream (given events) rest in
    let came : bytes_in events ≡ hearer.greeting ++ text = all_came w-calls here other_side other events hearer hears in
    let went : own ++ stream (queued said) [] ≡ bytes_out said ++ speaker.waiting = all_goes v-calls there side own said speaker speaks in
    let joined : own ++ stream (queued said) [] ≡ hearer.greeting ++ (text ++ tail) =
    went ∙ ap (λ (xs : List ℕ). xs ++ speaker.waiting) (same ∙ ap (λ (xs : List ℕ). xs ++ more) came)
    ∙ append_assoc (hearer.greeting ++ text) more speaker.waiting ∙ append_assoc hearer.greeting text tail in
    let cut = parts own hearer.greeting (stream (queued said) []) (text ++ tail) (own-size ∙ sym size) joined in (
      sym cut.0,
      begins (given events) (queued said) (rest ++ tail)
          (given_fit w-calls (begun here other_side other) hearer events hears) (queued_fit v-calls (begun there side own) speaker said speaks)
          (cut.1 ∙ append_assoc (flat_map frame (given events)) rest tail),
    )

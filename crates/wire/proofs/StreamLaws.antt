-- What stands at the front of a stream.
use Rattle.std.proofs.Common.{◌≡◌, ℕ, ◌+◌, ◌≤◌, List, [], ◌∷◌, ◌++◌, length, take, drop, Result, Ok, refl, sym, ap, subst, ◌∙◌, append_assoc, arith, inl, inr}
use Rattle.std.specs.List.{All, AllByRecursion, flat_map}
use Rattle.std.proofs.lemmas.List.{take-append-drop, take_at, drop_at, drop-drop, length-take, length-drop, length-append}
use Rattle.std.proofs.lemmas.List.Elements.{recursion_from_All}
use Rattle.std.proofs.lemmas.List.Concat.{flat_map-cons}
use Rattle.byteorder.specs.Endian.{big_number, big_bytes}
use Rattle.byteorder.specs.Numbers.{big_from-take, big_number-reads_back}
use Rattle.wire.specs.declared.error.WireError.{WireError}
use Rattle.wire.specs.declared.message.Message.{Message}
use Rattle.wire.specs.Kinds.{kind_of}
use Rattle.wire.specs.Frames.{spelling, frame, IsMessage, IsBodyOf, HasNoKind}
use Rattle.wire.specs.Stream.{announced, IsLength, IsFirst, HasNoMessage, stream}
use Rattle.wire.specs.Reading.{decoded}
use Rattle.wire.proofs.FieldLaws.{IsBytes, IsBytes-take, back_4}
use Rattle.wire.proofs.LengthLaws.{spelling_len}
use Rattle.wire.proofs.MessageLaws.{decoded_again}

-- the body of a frame that is there whole
pub first_is : (rest : List ℕ) (n : ℕ) → IsBytes rest → announced rest ≡ n → IsLength n → 4 + n ≤ length rest → IsFirst (take n (drop 4 rest)) rest
first_is rest n fits given range long =
    let body = take n (drop 4 rest) in
    let len : length body ≡ n = omega (arith, length-take n (drop 4 rest), length-drop 4 rest) in
    let same : big_number 4 (take 4 rest) ≡ n = big_from-take 0 4 4 rest (omega arith) ∙ given in
    let front : big_bytes 4 n ≡ take 4 rest = ap (big_bytes 4) (sym same) ∙ back_4 (take 4 rest) (omega (arith, length-take 4 rest)) (IsBytes-take 4 rest fits) in
    let behind : body ++ drop (4 + n) rest ≡ drop 4 rest = ap (λ (x : List ℕ). body ++ x) (sym (drop-drop n 4 rest)) ∙ take-append-drop n (drop 4 rest) in
    let whole : rest ≡ big_bytes 4 n ++ body ++ drop (4 + n) rest = sym (take-append-drop 4 rest) ∙ ap (λ (x : List ℕ). x ++ drop 4 rest) (sym front) ∙ ap (λ (x : List ℕ). big_bytes 4 n ++ x) (sym behind) ∙ sym (append_assoc (big_bytes 4 n) body (drop (4 + n) rest)) in
    (rw len range, subst (λ (k : ℕ). rest ≡ big_bytes 4 k ++ body ++ drop (4 + k) rest) (sym len) whole)

-- ---- one reading

-- a length and that many bytes
abbrev framed : List ℕ → List ℕ
framed body = big_bytes 4 (length body) ++ body

framed_len : (body : List ℕ) → length (framed body) ≡ 4 + length body
framed_len body = omega (arith, length-append (big_bytes 4 (length body)) body)

announced_is : (body more : List ℕ) → IsLength (length body) → announced (framed body ++ more) ≡ length body
announced_is body more range =
    ap announced (append_assoc (big_bytes 4 (length body)) body more) ∙ big_number-reads_back 4 (length body) (body ++ more) (omega (arith, range.1))

-- two frames that begin one stream are one
cut : (b c x y : List ℕ) → IsLength (length b) → IsLength (length c) → framed b ++ x ≡ framed c ++ y → (b ≡ c) × (x ≡ y)
cut b c x y b-range c-range e =
    let len : length b ≡ length c = sym (announced_is b x b-range) ∙ ap announced e ∙ announced_is c y c-range in
    let n : length (framed c) ≡ 4 + length b = omega (arith, framed_len c, len) in
    let fronts : framed b ≡ framed c = sym (take_at (framed b) x (4 + length b) (framed_len b)) ∙ ap (take (4 + length b)) e ∙ take_at (framed c) y (4 + length b) n in
    let rests : x ≡ y = sym (drop_at (framed b) x (4 + length b) (framed_len b)) ∙ ap (drop (4 + length b)) e ∙ drop_at (framed c) y (4 + length b) n in
    (sym (drop_at (big_bytes 4 (length b)) b 4 refl) ∙ ap (drop 4) fronts ∙ drop_at (big_bytes 4 (length c)) c 4 refl, rests)

abbrev done : Message → Result Message WireError
done m = Ok m

one_message : (m n : Message) → done m ≡ done n → m ≡ n
one_message m n e = cc

-- two messages that are spelled alike are one
pub spelled_alike : (m n : Message) → IsMessage m → IsMessage n → spelling m ≡ spelling n → m ≡ n
spelled_alike m n m-fits n-fits same = one_message m n (sym (decoded_again m m-fits) ∙ ap decoded same ∙ decoded_again n n-fits)

pub spelled_once : (m n : Message) (bytes : List ℕ) → IsBodyOf m bytes → IsBodyOf n bytes → m ≡ n
spelled_once m n bytes m-body n-body = spelled_alike m n m-body.0 n-body.0 (sym m-body.1 ∙ n-body.1)

in_range_of : (m : Message) → IsMessage m → IsLength (length (spelling m))
in_range_of m fits = let short = spelling_len m fits in (short.some, short.most)

-- two frames that begin the same bytes are one message's
pub no_frame_begins_another : (m n : Message) (x y : List ℕ) → IsMessage m → IsMessage n → frame m ++ x ≡ frame n ++ y → (m ≡ n) × (x ≡ y)
no_frame_begins_another m n x y m-fits n-fits e =
    let c = cut (spelling m) (spelling n) x y (in_range_of m m-fits) (in_range_of n n-fits) e in
    (spelled_alike m n m-fits n-fits c.0, c.1)

-- a whole body at the front of a stream that begins with a message is that message's
first_of_frame : (m : Message) (x body : List ℕ) → IsMessage m → IsFirst body (frame m ++ x) → body ≡ spelling m
first_of_frame m x body fits first =
    sym (cut (spelling m) body x (drop (4 + length body) (frame m ++ x)) (in_range_of m fits) first.0 first.1).0

pub message_there : (m : Message) (x : List ℕ) → IsMessage m → HasNoMessage (frame m ++ x) → ⊥
message_there m x fits none =
    let range = in_range_of m fits in
    let given : announced (frame m ++ x) ≡ length (spelling m) = announced_is (spelling m) x range in
    let long : length (frame m ++ x) ≡ 4 + length (spelling m) + length x = omega (arith, length-append (frame m) x, framed_len (spelling m)) in
    elim none [
      | inl partial ↦ elim partial [ inl short ↦ omega (arith, short, long) | inr less ↦ omega (arith, less.1, long, given) ]
      | inr fault ↦ elim fault [
        | inl bad ↦ elim bad.1 [ inl nothing ↦ omega (arith, nothing, given, range.0) | inr much ↦ omega (arith, much, given, range.1) ]
        | inr wrong ↦ elim wrong [
          | inl kind ↦ subst HasNoKind (first_of_frame m x kind.0 fits kind.1) kind.2 (kind_of m.body) refl
          | inr body ↦ body.2.1 m fits (first_of_frame m x body.0 fits body.1)
        ]
      ]
    ]

-- ---- a stream has one reading

stream_cons : (m : Message) (ms : List Message) (r : List ℕ) → stream (m ∷ ms) r ≡ frame m ++ stream ms r
stream_cons m ms r = ap (λ (x : List ℕ). x ++ r) (flat_map-cons frame m ms) ∙ append_assoc (frame m) (flat_map frame ms) r

one_reading_by : (ms ns : List Message) (r s : List ℕ) → AllByRecursion IsMessage ms → AllByRecursion IsMessage ns → HasNoMessage r → HasNoMessage s → stream ms r ≡ stream ns s → (ms ≡ ns) × (r ≡ s)
one_reading_by [] [] r s ms-fit ns-fit r-none s-none e = (refl, e)
one_reading_by [] (n ∷ ns) r s ms-fit ns-fit r-none s-none e = absurd (message_there n (stream ns s) ns-fit.0 (subst HasNoMessage (e ∙ stream_cons n ns s) r-none))
one_reading_by (m ∷ ms) [] r s ms-fit ns-fit r-none s-none e = absurd (message_there m (stream ms r) ms-fit.0 (subst HasNoMessage (sym e ∙ stream_cons m ms r) s-none))
one_reading_by (m ∷ ms) (n ∷ ns) r s ms-fit ns-fit r-none s-none e =
    let e' : frame m ++ stream ms r ≡ frame n ++ stream ns s = sym (stream_cons m ms r) ∙ e ∙ stream_cons n ns s in
    let c = no_frame_begins_another m n (stream ms r) (stream ns s) ms-fit.0 ns-fit.0 e' in
    let others = one_reading_by ms ns r s ms-fit.1 ns-fit.1 r-none s-none c.1 in
    (ap (λ (k : Message). k ∷ ms) c.0 ∙ ap (λ (ks : List Message). n ∷ ks) others.0, others.1)

pub one_reading : (ms ns : List Message) (r s : List ℕ) → All IsMessage ms → All IsMessage ns → HasNoMessage r → HasNoMessage s → stream ms r ≡ stream ns s → (ms ≡ ns) × (r ≡ s)
one_reading ms ns r s ms-fit ns-fit r-none s-none e = one_reading_by ms ns r s (recursion_from_All IsMessage ms ms-fit) (recursion_from_All IsMessage ns ns-fit) r-none s-none e

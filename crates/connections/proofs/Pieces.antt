-- Pieces of a greeting and of a stream.
use Rattle.std.proofs.Common.{◌≡◌, ℕ, ◌+◌, ◌≤◌, List, ◌++◌, length, take, ap, sym, ◌∙◌, arith, inl, inr}
use Rattle.std.proofs.lemmas.List.{length-take, take-append-le, take_all}
use Rattle.std.proofs.Math.Seq.{take-append-add}
use Rattle.wire.specs.Frames.{IsMessage, frame}
use Rattle.wire.specs.Stream.{IsPartial}
use Rattle.wire.specs.declared.message.Message.{Message}
use Rattle.wire.proofs.LengthLaws.{spelling_len}

-- of a greeting of which so many bytes came, that many stand there
pub greeted_len : (count : ℕ) (greeting : List ℕ) → length greeting ≡ 64 → count ≤ 64
    → length (take count greeting) ≡ count
greeted_len count greeting whole most = omega (arith, length-take count greeting, whole, most)

-- and where all came, that is all of it
pub greeted_all : (count : ℕ) (greeting : List ℕ) → length greeting ≡ 64 → count ≤ 64
    → length (take count greeting) ≡ 64 → take count greeting ≡ greeting
greeted_all count greeting whole most all =
    take_all count greeting (omega (arith, greeted_len count greeting whole most, whole, all))

-- bytes that came stand behind those that came before
pub greeted_more : (count more : ℕ) (greeting room rest : List ℕ) → length greeting ≡ 64
    → count ≤ 64 → more ≤ length room
    → take (count + more) (take count greeting ++ (room ++ rest)) ≡ take count greeting ++ take more room
greeted_more count more greeting room rest whole most there =
    let front = take count greeting in
    ap (λ (n : ℕ). take (n + more) (front ++ (room ++ rest))) (sym (greeted_len count greeting whole most))
    ∙ take-append-add front (room ++ rest) more
    ∙ ap (λ (xs : List ℕ). front ++ xs) (take-append-le more room rest there)

-- less than a frame
pub partial_len : (rest : List ℕ) → IsPartial rest → length rest ≤ 65539
partial_len rest partial = elim partial [
  | inl short ↦ omega (arith, short)
  | inr less ↦ omega (arith, less.1, less.0.1)
]

-- a frame has at most so many bytes
pub frame_len : (m : Message) → IsMessage m → length (frame m) ≤ 65540
frame_len m fits = omega (arith, (spelling_len m fits).most)

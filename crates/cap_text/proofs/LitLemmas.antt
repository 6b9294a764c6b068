-- The buffer of a literal cap.
use Rattle.std.proofs.Common.{◌≡◌, ℕ, ◌-◌, ◌*◌, ◌/◌, ◌<◌, ◌≤◌, List, ◌++◌, length, get_or, take, drop, replicate, sym, ap, ◌∙◌, arith, length-append}
use Rattle.std.proofs.lemmas.List.{take_at, drop_at, drop-replicate, length-drop, length-take-le}
use Rattle.cap_text.specs.Base32.{base32}
use Rattle.cap_text.specs.LitBuffer.{IsLitBuffer}
use Rattle.cap_text.proofs.OneAnswer.{bytes_of_letters}

-- a file at the beginning of a buffer of zeros
pub lit_buffer : (file front : List ℕ) → front ≡ file → length file ≤ 55 → ((i : ℕ) → get_or file i 0 < 256)
    → IsLitBuffer (front ++ drop (length file) (replicate 55 0)) (length file)
lit_buffer file front same short below =
    let rest : List ℕ = drop (length file) (replicate 55 0) in
    let size : length front ≡ length file = ap length same in
    let taken : take (length file) (front ++ rest) ≡ file = take_at front rest (length file) size ∙ same in
    let zeros : length rest ≡ 55 - length file = length-drop (length file) (replicate 55 0) in
    record {
      cap = rw taken (record { short = short; below = below });
      full = omega (arith, length-append front rest, size, zeros);
      room = short;
      zeros = drop_at front rest (length file) size ∙ drop-replicate (length file) 55 0;
    }

-- letters that are not too long spell as many bytes as are asked for
pub room_for_file : (text bytes : List ℕ) → text ≡ base32 bytes → length text ≤ 88
    → length bytes ≡ length (take {A = ℕ} (length text * 5 / 8) (replicate 55 0))
room_for_file text bytes same short =
    let buffer : List ℕ = replicate 55 0 in
    let few : length text * 5 / 8 ≤ length buffer = omega arith in
    bytes_of_letters text bytes same ∙ sym (length-take-le (length text * 5 / 8) buffer few)

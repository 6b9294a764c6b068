-- Parts of an encrypted text.
use Rattle.std.proofs.Common.{◌≡◌, ℕ, zero, suc, ◌+◌, List, [], ◌∷◌, length, take, drop, bit_xor, refl, ap, ◌∙◌, arith}
use Rattle.std.specs.Prelude.{Option, Some, None}
use Rattle.aes_ctr.specs.CounterMode.{stream_byte, xored_from}
use Rattle.aes_ctr.proofs.StreamLemmas.{length-xored_from}
use Rattle.block_making.specs.Making.{ciphertext_from}

pub take-xored : (key : List ℕ) (n offset : ℕ) (text : List ℕ) → take n (xored_from key offset text) ≡ xored_from key offset (take n text)
take-xored key zero offset text = refl
take-xored key (suc n) offset [] = refl
take-xored key (suc n) offset (b ∷ bs) = ap (λ (r : List ℕ). bit_xor b (stream_byte key offset) ∷ r) (take-xored key n (offset + 1) bs)

pub drop-xored : (key : List ℕ) (n offset : ℕ) (text : List ℕ) → drop n (xored_from key offset text) ≡ xored_from key (offset + n) (drop n text)
drop-xored key zero offset text = let e : offset ≡ offset + 0 = omega arith in ap (λ p. xored_from key p text) e
drop-xored key (suc n) offset [] = refl
drop-xored key (suc n) offset (b ∷ bs) =
    let e : offset + 1 + n ≡ offset + suc n = omega arith in
    drop-xored key n (offset + 1) bs ∙ ap (λ p. xored_from key p (drop n bs)) e

-- ---- the same where it may be ciphertext already

pub length-ciphertext : (key : Option (List ℕ)) (offset : ℕ) (text : List ℕ) → length (ciphertext_from key offset text) ≡ length text
length-ciphertext (Some key) offset text = length-xored_from key offset text
length-ciphertext None offset text = refl

pub take-ciphertext : (key : Option (List ℕ)) (n offset : ℕ) (text : List ℕ) → take n (ciphertext_from key offset text) ≡ ciphertext_from key offset (take n text)
take-ciphertext (Some key) n offset text = take-xored key n offset text
take-ciphertext None n offset text = refl

pub drop-ciphertext : (key : Option (List ℕ)) (n offset : ℕ) (text : List ℕ) → drop n (ciphertext_from key offset text) ≡ ciphertext_from key (offset + n) (drop n text)
drop-ciphertext (Some key) n offset text = drop-xored key n offset text
drop-ciphertext None n offset text = refl

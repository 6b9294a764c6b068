-- The buffer of a literal cap, and that it is made again from its file: the type's own members cite
-- that fact, so it is proved here.
use Rattle.std.specs.Prelude.{◌≡◌, ℕ, ◌-◌, ◌≤◌, List, ◌++◌, length, take, drop, replicate}
use Rattle.std.proofs.Common.{sym, ap, ◌∙◌, arith}
use Rattle.std.proofs.lemmas.List.{length-take-le, take-append-drop}
use Rattle.cap_text.specs.Cap.{IsLitCap, max_lit_size}

-- the file stands in the buffer, and only zeros follow
pub record IsLitBuffer (buffer : List ℕ) (len : ℕ) : Type 0 where
  pub cap : IsLitCap (take len buffer)
  pub full : length buffer ≡ max_lit_size
  pub room : len ≤ max_lit_size
  pub zeros : drop len buffer ≡ replicate (max_lit_size - len) 0

-- the buffer is made again from its file
pub record IsMadeAgain (buffer : List ℕ) (len : ℕ) : Type 0 where
  pub bytes :
      take len buffer ++ replicate (max_lit_size - length (take len buffer)) 0 ≡ buffer
  pub size : length (take len buffer) ≡ len

pub lit_buffer_again : (buffer : List ℕ) (len : ℕ) → IsLitBuffer buffer len
    → IsMadeAgain buffer len
lit_buffer_again buffer len lit =
    let size : length (take len buffer) ≡ len =
    length-take-le len buffer (omega (arith, lit.full, lit.room)) in
    record {
      bytes =
          ap (λ (k : ℕ). take len buffer ++ replicate (max_lit_size - k) 0) size
          ∙ ap (λ (rest : List ℕ). take len buffer ++ rest) (sym lit.zeros)
          ∙ take-append-drop len buffer;
      size = size;
    }

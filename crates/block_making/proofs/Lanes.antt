-- Blocks in lanes of one length, of which one is written.
use Rattle.std.proofs.Common.{◌≡◌, ℕ, ◌+◌, ◌*◌, ◌≤◌, List, ◌++◌, length, take, drop, inl, inr, ap, sym, ◌∙◌, arith}
use Rattle.std.specs.Prelude.{◌≢◌}
use Rattle.std.proofs.Math.Nat.{mul-le-mul_right}
use Rattle.std.proofs.lemmas.Bool.{cases_lt}
use Rattle.std.proofs.lemmas.List.{drop_at, drop-take, length-take-le, take_at}
use Rattle.std.proofs.lemmas.Slice.{drop-put_mid, take-put_mid_below}
use borrow.Rule.Slice.PartMut.{post_of, put_mid}

module _ (size lane k : ℕ) (old block : List ℕ) (room : lane * size + size ≤ length old) (long : length block ≡ size) where
  abbrev start : ℕ
  start = lane * size

  pub lane-own : take size (drop start (put_mid start k old block)) ≡ block
  lane-own =
      ap (take size) (drop_at (take start old) (block ++ post_of start k old) start (length-take-le start old (omega (arith, room))))
      ∙ take_at block (post_of start k old) size long

  pub lane-other : (i : ℕ) → k ≡ size → i ≢ lane → take size (drop (i * size) (put_mid start k old block)) ≡ take size (drop (i * size) old)
  lane-other i k_is apart =
      let new : List ℕ = put_mid start k old block in
      elim (cases_lt i lane) [
        | inl below ↦
            let end : ℕ = i * size + size in
            let within : end ≤ start = (let times : (i + 1) * size ≤ lane * size = mul-le-mul_right {m = i + 1} {n = lane} size (omega (arith, below)) in omega (arith, times)) in
            sym (drop-take (i * size) size new)
            ∙ ap (drop (i * size)) (take-put_mid_below start k old block end within (omega (arith, room))) ∙ drop-take (i * size) size old
        | inr above ↦
            let times : (lane + 1) * size ≤ i * size = mul-le-mul_right {m = lane + 1} {n = i} size (omega (arith, above, apart)) in
            ap (take size) (drop-put_mid start k old block (i * size) (omega (arith, times, k_is)) (omega (arith, room)) (long ∙ sym k_is))
      ]

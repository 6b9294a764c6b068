-- Pieces of runs: of each run of `u` bytes there are `q` pieces, all of the most bytes but the last.
use Rattle.std.proofs.Common.{◌≡◌, ℕ, zero, suc, ◌+◌, ◌-◌, ◌*◌, ◌/◌, ◌%◌, ◌^◌, ◌<◌, ◌≤◌, ◌⊎◌, max, inl, inr, ap, ◌∙◌, arith}
use Rattle.std.specs.Int.{div_ceil}
use Rattle.std.proofs.Math.Nat.{mul-le-mul_right}
use Rattle.std.proofs.lemmas.Bool.{cases_lt}
use Rattle.std.proofs.lemmas.Nat.{div-add-mod', div-mul-add, div_below, le-div, mod-mul-add, mod_below}
use Rattle.std.proofs.lemmas.Grind.{div_ceil_times}

-- where a piece begins, and the piece in which an offset lies
unfoldable pub piece_begin : ℕ → ℕ → ℕ → ℕ
piece_begin u q i = i / q * u + 32768 * (i % q)

unfoldable pub piece_of : ℕ → ℕ → ℕ → ℕ
piece_of u q n = n / u * q + n % u / 32768

module _ (u q : ℕ) (some : 0 < u) (reads : 0 < q) (least : q * 32768 < u + 32768) (room : u ≤ q * 32768) where
  pub piece_at_run : (d m : ℕ) → m < q → piece_begin u q (d * q + m) ≡ d * u + 32768 * m
  unfolding piece_begin
  piece_at_run d m below = λ i. div-mul-add d q m below i * u + 32768 * mod-mul-add d q m below i

  -- a piece has some bytes, and no more than the most
  next : (d m : ℕ) → m < q → (piece_begin u q (d * q + m) < piece_begin u q (d * q + m + 1))
      × (piece_begin u q (d * q + m + 1) ≤ piece_begin u q (d * q + m) + 32768)
      × (piece_begin u q (d * q + m + 1) ≤ d * u + u)
  next d m below = elim (cases_lt (m + 1) q) [
    | inl more ↦
        let e : d * q + m + 1 ≡ d * q + (m + 1) = omega arith in
        let here = piece_at_run d m below in
        let there = ap (piece_begin u q) e ∙ piece_at_run d (m + 1) more in
        let within : (m + 1) * 32768 < u = omega (arith, least, mul-le-mul_right {m = m + 2} {n = q} 32768 (omega arith)) in
        (omega (arith, here, there), omega (arith, here, there), omega (arith, there, within))
    | inr last ↦
        let whole : q ≡ m + 1 = omega (arith, last, below) in
        let e : d * q + m + 1 ≡ (d + 1) * q + 0 = omega (arith, whole) in
        let here = piece_at_run d m below in
        let there = ap (piece_begin u q) e ∙ piece_at_run (d + 1) 0 reads in
        let product : q * 32768 ≡ (m + 1) * 32768 = ap (λ n. n * 32768) whole in
        (omega (arith, here, there, product, least), omega (arith, here, there, product, room), omega (arith, there))
  ]

  split : (i : ℕ) → i / q * q + i % q ≡ i
  split i = div-add-mod' i q

  pub rises : (i : ℕ) → piece_begin u q i < piece_begin u q (i + 1)
  rises i =
      let t = (next (i / q) (i % q) (mod_below i q reads)).0 in
      rw (split i) at t

  pub short : (i : ℕ) → piece_begin u q (i + 1) ≤ piece_begin u q i + 32768
  short i =
      let t = (next (i / q) (i % q) (mod_below i q reads)).1 in
      rw (split i) at t

  -- a piece lies in its run
  pub in_run : (i : ℕ) → piece_begin u q (i + 1) ≤ i / q * u + u
  in_run i =
      let t = (next (i / q) (i % q) (mod_below i q reads)).2 in
      omega (arith, ap (λ n. piece_begin u q (n + 1)) (split i), t)

  pub run_from : (i : ℕ) → i / q * u ≤ piece_begin u q i
  unfolding piece_begin
  run_from i = omega arith

  pub piece_low : (i : ℕ) → piece_begin u q i ≤ i * 32768
  unfolding piece_begin
  piece_low i = omega (arith, mul-le-mul_right {m = u} {n = q * 32768} (i / q) room, div-add-mod' i q)

  rises_by : (i n : ℕ) → piece_begin u q i ≤ piece_begin u q (i + n)
  rises_by i zero = let e : i + 0 ≡ i = omega arith in omega (arith, ap (piece_begin u q) e)
  rises_by i (suc n) =
      let e : i + suc n ≡ i + n + 1 = omega arith in
      omega (arith, ap (piece_begin u q) e, rises (i + n), rises_by i n)

  pub rise : (i j : ℕ) → i ≤ j → piece_begin u q i ≤ piece_begin u q j
  rise i j le = let e : i + (j - i) ≡ j = omega (arith, le) in omega (arith, ap (piece_begin u q) e, rises_by i (j - i))

  -- an offset lies in its piece
  read_below : (n : ℕ) → n % u / 32768 < q
  read_below n = div_below (n % u) 32768 q (omega arith) (omega (arith, mod_below n u some, room))

  pub piece_from : (n : ℕ) → piece_begin u q (piece_of u q n) ≤ n
  unfolding piece_of
  piece_from n = omega (arith, piece_at_run (n / u) (n % u / 32768) (read_below n), div-add-mod' n u)

  pub piece_before : (n : ℕ) → n < piece_begin u q (piece_of u q n + 1)
  unfolding piece_of
  piece_before n = elim (cases_lt (n % u / 32768 + 1) q) [
    | inl more ↦
        let e : piece_of u q n + 1 ≡ n / u * q + (n % u / 32768 + 1) = omega arith in
        omega (arith, ap (piece_begin u q) e ∙ piece_at_run (n / u) (n % u / 32768 + 1) more, div-add-mod' n u)
    | inr last ↦
        let e : piece_of u q n + 1 ≡ (n / u + 1) * q + 0 = omega (arith, last, read_below n) in
        omega (arith, ap (piece_begin u q) e ∙ piece_at_run (n / u + 1) 0 reads, div-add-mod' n u, mod_below n u some)
  ]

  -- how far behind its beginning
  pub piece_rest : (n : ℕ) → piece_begin u q (piece_of u q n) + n % u % 32768 ≡ n
  unfolding piece_of
  piece_rest n = omega (arith, piece_at_run (n / u) (n % u / 32768) (read_below n), div-add-mod' n u)

  -- a later offset lies in no earlier piece
  pub piece_rises : (n o : ℕ) → n ≤ o → piece_of u q n ≤ piece_of u q o
  piece_rises n o le = elim (cases_lt (piece_of u q o) (piece_of u q n)) [
    | inr low ↦ low
    | inl high ↦ absurd (omega (arith, rise (piece_of u q o + 1) (piece_of u q n) (omega (arith, high)), piece_from n, piece_before o, le))
  ]

  -- the next offset lies in its piece, or in the next one
  pub piece_steps : (n o : ℕ) → o ≤ n + 1 → piece_of u q o ≤ piece_of u q n + 1
  piece_steps n o le = elim (cases_lt (piece_of u q n + 1) (piece_of u q o)) [
    | inr low ↦ low
    | inl high ↦ absurd (omega (arith, rise (piece_of u q n + 1 + 1) (piece_of u q o) (omega (arith, high)), rises (piece_of u q n + 1), piece_before n, piece_from o, le))
  ]

  -- a piece that begins before an offset is none behind its own
  pub piece_within : (i n : ℕ) → piece_begin u q i ≤ n → i ≤ piece_of u q n
  piece_within i n le = elim (cases_lt (piece_of u q n) i) [
    | inr low ↦ low
    | inl high ↦ absurd (omega (arith, rise (piece_of u q n + 1) i (omega (arith, high)), piece_before n, le))
  ]

-- the runs of blocks of so many bytes
module _ (block : ℕ) (some : 0 < block) where
  abbrev pub run_bytes : ℕ
  run_bytes = max 1 (32768 / block) * block

  -- a run has some bytes: those of one block, or no more than the most of a read and more than half as many
  pub runs : ((run_bytes ≡ block) × (32768 < block)) ⊎ ((run_bytes ≤ 32768) × (16384 < run_bytes) × (run_bytes ≡ 32768 / block * block))
  runs = elim (cases_lt 32768 block) [
    | inl large ↦
        let none : 32768 / block ≡ 0 = omega (arith, div_below 32768 block 1 some (omega (arith, large))) in
        inl (ap (λ n. max 1 n * block) none ∙ omega arith, large)
    | inr small ↦
        let one : 1 ≤ 32768 / block = le-div 1 32768 block some (omega (arith, small)) in
        let same : max 1 (32768 / block) ≡ 32768 / block = omega (arith, one) in
        let whole : run_bytes ≡ 32768 / block * block = ap (λ n. n * block) same in
        let rest = div-add-mod' 32768 block in
        let least = mul-le-mul_right {m = 1} {n = 32768 / block} block one in
        inr (omega (arith, whole, rest), omega (arith, whole, rest, least, mod_below 32768 block some), whole)
  ]

  pub run_some : 0 < run_bytes
  run_some = elim runs [ inl one ↦ omega (arith, one.0, some) | inr more ↦ omega (arith, more.1) ]

  pub runs_low : block < 2 ^ 32 → run_bytes < 2 ^ 32
  runs_low low = elim runs [ inl one ↦ omega (arith, one.0, low) | inr more ↦ omega (arith, more.0) ]

  pub run_most : div_ceil run_bytes 32768 * 32768 < run_bytes + 32768
  run_most = (div_ceil_times run_bytes 32768 (omega arith)).1

  pub run_room : run_bytes ≤ div_ceil run_bytes 32768 * 32768
  run_room = (div_ceil_times run_bytes 32768 (omega arith)).0

  pub reads_some : 0 < div_ceil run_bytes 32768
  reads_some = omega (arith, run_room, run_some)

  -- no more pieces than of half as many bytes
  pub reads_few : div_ceil run_bytes 32768 * 16384 ≤ run_bytes
  reads_few = elim runs [
    | inl one ↦ omega (arith, run_most, one.0, one.1)
    | inr more ↦ omega (arith, run_most, more.0, more.1)
  ]

  pub pieces_few : (n : ℕ) → piece_of run_bytes (div_ceil run_bytes 32768) n * 16384 ≤ n
  unfolding piece_of
  pieces_few n =
      omega (arith, mul-le-mul_right {m = div_ceil run_bytes 32768 * 16384} {n = run_bytes} (n / run_bytes) reads_few, div-add-mod' n run_bytes)

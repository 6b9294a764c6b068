-- What a hasher has taken in, and the message that it was given.
use Rattle.std.proofs.Common.{◌≡◌, ℕ, ◌+◌, ◌-◌, ◌*◌, ◌/◌, ◌%◌, ◌^◌, List, [], ◌++◌, length, take, drop, sym, ap, ◌∙◌, arith, length-append, length-drop}
use Rattle.std.proofs.lemmas.List.{append-nil, drop-append-le, drop-drop}
use Rattle.sha2.specs.Sha256.{hash_after, initial_hash_256}
use Rattle.sha2.proofs.Absorbing256.{hash_after-append}
use Rattle.sha2_lanes.specs.Stream.{Holds, Taken, taken_by, taken_of, with_more}
use Rattle.sha2_lanes.specs.declared.stream.Sha256Stream.{Sha256Stream}
use Rattle.sha2_lanes.proofs.StreamLemmas.{hash_after-drop}

pub taken_held : (s : Sha256Stream) (m : List ℕ) → Holds s m → taken_by s ≡ taken_of m
unfolding Holds
taken_held s m held =
    let total : s.total ≡ length m % 2 ^ 64 = held.0 in
    let at : s.total % 512 ≡ length m % 512 = omega arith in
    let rest : take (s.total % 512) s.buffer ≡ drop (length m / 512 * 512) m = ap (λ (k : ℕ). take k s.buffer) at ∙ held.2 in
    (λ i. record { total = total i; hash = held.1 i; rest = rest i })

pub held_taken : (s : Sha256Stream) (m : List ℕ) → taken_by s ≡ taken_of m → Holds s m
unfolding Holds
held_taken s m is =
    let total : s.total ≡ length m % 2 ^ 64 = ap (λ (t : Taken). t.total) is in
    let at : length m % 512 ≡ s.total % 512 = omega arith in
    (total, ap (λ (t : Taken). t.hash) is, ap (λ (k : ℕ). take k s.buffer) at ∙ ap (λ (t : Taken). t.rest) is)

-- more bytes of a message
pub more_of : (m w : List ℕ) → with_more (taken_of m) w ≡ taken_of (m ++ w)
more_of m w =
    let ini : List ℕ = initial_hash_256 in
    let q : ℕ = length m / 512 in
    let text : List ℕ = drop (q * 512) m ++ w in
    let p : ℕ = length text / 512 in
    let len : length (m ++ w) ≡ length m + length w = length-append m w in
    let long : length text ≡ length m - q * 512 + length w = length-append (drop (q * 512) m) w ∙ ap (λ (k : ℕ). k + length w) (length-drop (q * 512) m) in
    let total : (length m % 2 ^ 64 + length w) % 2 ^ 64 ≡ length (m ++ w) % 2 ^ 64 = omega arith in
    let count : length (m ++ w) / 512 ≡ q + p = omega arith in
    let same : text ≡ drop (q * 512) (m ++ w) = sym (drop-append-le (q * 512) m w (omega arith)) in
    let position : q * 512 ≡ q * 8 * 64 = omega arith in
    let blocks : p * 8 + q * 8 ≡ (q + p) * 8 = omega arith in
    let edge : q * 512 + p * 512 ≡ (q + p) * 512 = omega arith in
    let hash : hash_after (hash_after ini m (q * 8)) text (p * 8) ≡ hash_after ini (m ++ w) (length (m ++ w) / 512 * 8) =
    ap (λ (h : List ℕ). hash_after h text (p * 8)) (sym (hash_after-append ini m w (q * 8) (omega arith)))
    ∙ ap (λ (x : List ℕ). hash_after (hash_after ini (m ++ w) (q * 8)) x (p * 8)) (same ∙ ap (λ (k : ℕ). drop k (m ++ w)) position)
    ∙ hash_after-drop ini (m ++ w) (q * 8) (p * 8)
    ∙ ap (hash_after ini (m ++ w)) (blocks ∙ ap (λ (k : ℕ). k * 8) (sym count)) in
    let rest : drop (p * 512) text ≡ drop (length (m ++ w) / 512 * 512) (m ++ w) =
    ap (drop (p * 512)) same ∙ drop-drop (p * 512) (q * 512) (m ++ w) ∙ ap (λ (k : ℕ). drop k (m ++ w)) (edge ∙ ap (λ (k : ℕ). k * 512) (sym count)) in
    (λ i. record { total = total i; hash = hash i; rest = rest i })

-- no more bytes
pub more_none : (m : List ℕ) → with_more (taken_of m) [] ≡ taken_of m
more_none m = more_of m [] ∙ ap taken_of (append-nil m)

-- Nodes that are offered, one more at a time.
use Rattle.std.proofs.Common.{◌≡◌, ℕ, zero, suc, ◌+◌, ◌-◌, ◌*◌, ◌%◌, ◌^◌, ◌<◌, ◌≤◌, Some, List, [], ◌∷◌, ◌++◌, length, take, drop, get_or, inl, inr, ap, refl, sym, ◌∙◌, arith}
use Rattle.std.proofs.lemmas.Bool.{cases_lt}
use Rattle.std.specs.Prelude.{slice_get}
use Rattle.std.specs.Simd.{first_chunks}
use Rattle.std.proofs.lemmas.List.{length-drop, length-take, length-take-le, take_more}
use Rattle.merkle.specs.Tree.{needed_numbers, node_number}
use Rattle.merkle.proofs.NumberLemmas.{needed_left, needed_right}
use Rattle.download_parts.specs.Offers.{numbered, offered_nodes}

-- a node behind the others
offered-append : (row position : ℕ) (hashes : List (List ℕ)) (hash : List ℕ)
    → offered_nodes row position (hashes ++ hash ∷ []) ≡ offered_nodes row position hashes ++ (node_number row (position + length hashes), hash) ∷ []
offered-append row position [] hash =
    let same : position ≡ position + 0 = omega arith in
    ap (λ n. (node_number row n, hash) ∷ []) same
offered-append row position (first ∷ hashes) hash =
    let same : position + 1 + length hashes ≡ position + length (first ∷ hashes) = omega arith in
    ap (λ (l : List (ℕ × List ℕ)). (node_number row position, first) ∷ l)
    (offered-append row (position + 1) hashes hash ∙ ap (λ n. offered_nodes row (position + 1) hashes ++ (node_number row n, hash) ∷ []) same)

pub offered_more : (row position : ℕ) (hashes : List (List ℕ)) (k : ℕ) → k < length hashes
    → offered_nodes row position (take (k + 1) hashes) ≡ offered_nodes row position (take k hashes) ++ (node_number row (position + k), get_or hashes k []) ∷ []
offered_more row position hashes k there =
    let same : length (take k hashes) ≡ k = omega (arith, length-take k hashes) in
    ap (offered_nodes row position) (take_more hashes k [] there)
    ∙ offered-append row position (take k hashes) (get_or hashes k [])
    ∙ ap (λ n. offered_nodes row position (take k hashes) ++ (node_number row (position + n), get_or hashes k []) ∷ []) same

-- a share hash behind the others
numbered-append : (ns : List ℕ) (entries : List (List ℕ)) (n : ℕ) (entry : List ℕ) → length ns ≡ length entries
    → numbered (ns ++ n ∷ []) (entries ++ entry ∷ []) ≡ numbered ns entries ++ (n, drop 2 entry) ∷ []
numbered-append [] [] n entry same = refl
numbered-append [] (e ∷ es) n entry same = absurd (omega (arith, same))
numbered-append (m ∷ ms) [] n entry same = absurd (omega (arith, same))
numbered-append (m ∷ ms) (e ∷ es) n entry same =
    ap (λ (l : List (ℕ × List ℕ)). (m, drop 2 e) ∷ l) (numbered-append ms es n entry (omega (arith, same)))

pub numbered_more : (ns : List ℕ) (entries : List (List ℕ)) (k : ℕ) → k < length ns → k < length entries
    → numbered (take (k + 1) ns) (take (k + 1) entries) ≡ numbered (take k ns) (take k entries) ++ (get_or ns k 0, drop 2 (get_or entries k [])) ∷ []
numbered_more ns entries k there there' =
    let same : length (take k ns) ≡ length (take k entries) = omega (arith, length-take k ns, length-take k entries) in
    ap (λ (l : List ℕ). numbered l (take (k + 1) entries)) (take_more ns k 0 there)
    ∙ ap (numbered (take k ns ++ get_or ns k 0 ∷ [])) (take_more entries k [] there')
    ∙ numbered-append (take k ns) (take k entries) (get_or ns k 0) (get_or entries k []) same

-- one of them
pub numbered-at : (ns : List ℕ) (entries : List (List ℕ)) (k : ℕ) (d : ℕ × List ℕ) → k < length ns → k < length entries
    → get_or (numbered ns entries) k d ≡ (get_or ns k 0, drop 2 (get_or entries k []))
numbered-at [] entries k d there there' = absurd (omega (arith, there))
numbered-at (n ∷ ns) [] k d there there' = absurd (omega (arith, there'))
numbered-at (n ∷ ns) (e ∷ es) zero d there there' = refl
numbered-at (n ∷ ns) (e ∷ es) (suc k) d there there' = numbered-at ns es k d (omega (arith, there)) (omega (arith, there'))

-- the leaf's own number
pub own_at : (height leaf position : ℕ) → leaf < 2 ^ height → position ≡ height + leaf % 2 - 1
    → get_or (needed_numbers height leaf) position 0 ≡ node_number height leaf
own_at zero leaf position inside is =
    let none : leaf ≡ 0 = omega (arith, inside) in
    let first : position ≡ 0 = is ∙ ap (λ l. 0 + l % 2 - 1) none in
    ap (λ i. get_or (needed_numbers zero leaf) i 0) first ∙ ap (node_number 0) (sym none)
own_at (suc m) leaf position inside is =
    elim (cases_lt (leaf % 2) 1) [
      | inl even ↦ needed_left (suc m) leaf position (omega arith) ∙ omega arith
      | inr odd ↦ needed_right (suc m) leaf position (omega arith) (omega arith) ∙ omega arith
    ]

-- each hash in the bytes has 32 of them
pub offered_long : (row position k : ℕ) (bytes : List ℕ) → k * 32 ≤ length bytes
    → (i number : ℕ) (hash : List ℕ) → slice_get (offered_nodes row position (first_chunks 32 k bytes)) i ≡ Some (number, hash) → length hash ≡ 32
offered_long row position zero bytes room i number hash e = absurd cc
offered_long row position (suc k) bytes room zero number hash e =
    let same : (node_number row position, take 32 bytes) ≡ (number, hash) = cc in
    let more : suc k * 32 ≡ k * 32 + 32 = omega arith in
    ap (λ (o : ℕ × List ℕ). length o.1) (sym same) ∙ length-take-le 32 bytes (omega (arith, room, more))
offered_long row position (suc k) bytes room (suc i) number hash e =
    let more : suc k * 32 ≡ k * 32 + 32 = omega arith in
    let rest : length (drop 32 bytes) ≡ length bytes - 32 = length-drop 32 bytes in
    offered_long row (position + 1) k (drop 32 bytes) (omega (arith, room, more, rest)) i number hash e

-- so does each of the share hashes, behind its number
pub numbered_long : (ns : List ℕ) (k : ℕ) (bytes : List ℕ) → k * 34 ≤ length bytes
    → (i number : ℕ) (hash : List ℕ) → slice_get (numbered ns (first_chunks 34 k bytes)) i ≡ Some (number, hash) → length hash ≡ 32
numbered_long [] k bytes room i number hash e = absurd cc
numbered_long (n ∷ ns) zero bytes room i number hash e = absurd cc
numbered_long (n ∷ ns) (suc k) bytes room zero number hash e =
    let same : (n, drop 2 (take 34 bytes)) ≡ (number, hash) = cc in
    let more : suc k * 34 ≡ k * 34 + 34 = omega arith in
    ap (λ (o : ℕ × List ℕ). length o.1) (sym same)
    ∙ omega (arith, length-drop 2 (take 34 bytes), length-take-le 34 bytes (omega (arith, room, more)))
numbered_long (n ∷ ns) (suc k) bytes room (suc i) number hash e =
    let more : suc k * 34 ≡ k * 34 + 34 = omega arith in
    let rest : length (drop 34 bytes) ≡ length bytes - 34 = length-drop 34 bytes in
    numbered_long ns k (drop 34 bytes) (omega (arith, room, more, rest)) i number hash e

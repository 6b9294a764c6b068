-- Texts that are cut into pieces.
use Rattle.std.proofs.Common.{◌≡◌, ℕ, suc, ◌+◌, ◌-◌, ◌*◌, ◌%◌, ◌<◌, List, [], ◌∷◌, ◌++◌, length, take, drop, map, min, inl, inr, ap, sym, subst, get_or, ext_get_or, ◌∙◌, arith}
use Rattle.std.proofs.lemmas.List.{append_assoc, drop-drop, get_or-map, length-drop, length-map, length-take}
use Rattle.std.proofs.Math.Nat.{dvd-sub, dvd-mul_left_of_dvd}
use Rattle.std.proofs.lemmas.Nat.Gcd.{dvd_of_mod-eq-zero, mod-eq-zero_of_dvd}
use Rattle.std.specs.Int.{◌∣◌}
use Rattle.std.proofs.lemmas.Bool.{cases_lt}
use Rattle.share_layout.specs.Pieces.{pieces}
use Rattle.proved_parts.proofs.Files.{get_or-pieces, length-pieces}

-- the pieces from one on are this one, and those from the next one on
pub pieces-from : (count size number : ℕ) (text : List ℕ) → number < count
    → pieces (count - number) size (drop (number * size) text)
    ≡ take size (drop (number * size) text) ∷ pieces (count - (number + 1)) size (drop ((number + 1) * size) text)
pieces-from count size number text below =
    let more : count - number ≡ suc (count - (number + 1)) = omega arith in
    let next : number * size + size ≡ (number + 1) * size = omega arith in
    (λ i. pieces (more i) size (drop (number * size) text))
    ∙ ap (λ rest. take size (drop (number * size) text) ∷ pieces (count - (number + 1)) size rest)
    (drop-drop size (number * size) text ∙ ap (λ n. drop n text) next)

module _ {X : Type 0} (f : List ℕ → X) where
  -- one more value of a function of the pieces
  pub map_pieces-from : (count size number : ℕ) (text : List ℕ) (all done : List X) → number < count
      → all ≡ done ++ map f (pieces (count - number) size (drop (number * size) text))
      → all ≡ (done ++ f (take size (drop (number * size) text)) ∷ []) ++ map f (pieces (count - (number + 1)) size (drop ((number + 1) * size) text))
  map_pieces-from count size number text all done below is =
      is
      ∙ ap (λ ps. done ++ map f ps) (pieces-from count size number text below)
      ∙ sym (append_assoc done (f (take size (drop (number * size) text)) ∷ []) (map f (pieces (count - (number + 1)) size (drop ((number + 1) * size) text))))

dvd-min : (k a b : ℕ) → k ∣ a → k ∣ b → k ∣ min a b
dvd-min k a b p q =
    elim (cases_lt b a) [
      | inl below ↦ (let is : min a b ≡ b = omega arith in subst (λ n. k ∣ n) (sym is) q)
      | inr above ↦ (let is : min a b ≡ a = omega arith in subst (λ n. k ∣ n) (sym is) p)
    ]

-- a piece of a text has a multiple of k bytes, where the text and the pieces' size have
pub piece-whole : (k size number : ℕ) (text : List ℕ) → size % k ≡ 0 → length text % k ≡ 0 → length (take size (drop (number * size) text)) % k ≡ 0
piece-whole k size number text whole all =
    let by_size : k ∣ size = dvd_of_mod-eq-zero k whole in
    let rest : k ∣ length text - number * size = dvd-sub k (dvd_of_mod-eq-zero k all) (dvd-mul_left_of_dvd k by_size number) in
    ap (λ n. n % k) (length-take size (drop (number * size) text) ∙ ap (min size) (length-drop (number * size) text))
    ∙ mod-eq-zero_of_dvd k (dvd-min k size (length text - number * size) by_size rest)

-- values that are those of the pieces, one by one
pub values_of_pieces : (f : List ℕ → List ℕ) (count size : ℕ) (text : List ℕ) (values : List (List ℕ)) → length values ≡ count
    → ((i : ℕ) → i < length values → get_or values i [] ≡ f (take size (drop (i * size) text)))
    → values ≡ map f (pieces count size text)
values_of_pieces f count size text values many are =
    let cut : List (List ℕ) = pieces count size text in
    let long : length cut ≡ count = length-pieces count size text in
    ext_get_or [] values (map f cut) (many ∙ sym (length-map cut f ∙ long))
    (λ i below.
    are i below ∙ sym (get_or-map f cut i [] [] (omega (arith, below, many, long)) ∙ ap f (get_or-pieces count size i text [] (omega (arith, below, many)))))

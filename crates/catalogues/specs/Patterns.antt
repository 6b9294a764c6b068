-- Which names a pattern takes.
use Rattle.std.specs.Prelude.{◌==◌, ◌&&◌, ◌||◌, ℕ, Bool, List, [], ◌∷◌, if◌then◌else◌, map, nat_le}
use Rattle.std.specs.Prelude.{nat_lt, not, slice_index, true}
use Rattle.std.specs.List.{list_all, list_any}

-- a byte of a character behind its first
abbrev pub is_further : ℕ → Bool
is_further c = nat_le 128 c && nat_lt c 192

-- a byte that goes on the character before it, where the pattern does not name it
abbrev pub goes_on : ℕ → List ℕ → Bool
goes_on c pattern = is_further c && not (is_further (slice_index pattern 0))

-- Below, `next` says which patterns take what follows a byte `c` of a name.

-- behind a `\` the pattern stands for itself
abbrev pub quoted : (List ℕ → Bool) → ℕ → List ℕ → Bool
quoted next c [] = c == 92 && next []
quoted next c (x ∷ pattern) = c == x && next pattern

-- `?` is one character but a slash
abbrev pub single : (List ℕ → Bool) → ℕ → ℕ → List ℕ → Bool
single next c x pattern = if x == 63 then not (c == 47) && next pattern
    else if x == 92 then quoted next c pattern
    else c == x && next pattern

-- `*` is any number of them. Where the pattern has ended it names a folder, if a slash follows.
abbrev pub taken_from : (List ℕ → Bool) → ℕ → List ℕ → Bool
taken_from next c [] = c == 47
taken_from next c (x ∷ pattern) =
    if x == 42 then taken_from next c pattern || (not (c == 47) && next (x ∷ pattern))
    else single next c x pattern

-- whether a pattern takes a name, or a folder on the way to it
unfoldable pub taken : List ℕ → List ℕ → Bool
taken [] pattern = list_all (λ x. x == 42) pattern
taken (c ∷ name) pattern = if goes_on c pattern then taken name pattern
    else taken_from (taken name) c pattern

-- what is left of a text behind the slashes and `./` at its front
unfoldable pub behind_front : List ℕ → List ℕ
behind_front [] = []
behind_front (c ∷ []) = if c == 47 then [] else c ∷ []
behind_front (c ∷ d ∷ text) = if c == 47 then behind_front (d ∷ text)
    else if c == 46 && d == 47 then behind_front text
    else c ∷ d ∷ text

-- Without patterns each name is chosen, and else those that one takes.
abbrev pub chooses : List (List ℕ) → List ℕ → Bool
chooses [] name = true
chooses (p ∷ ps) name =
    list_any (λ pattern. taken (behind_front name) (behind_front pattern)) (p ∷ ps)

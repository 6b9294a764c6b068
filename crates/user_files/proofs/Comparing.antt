-- Bytes of a reader beside those that they are compared with.
use Rattle.std.proofs.Common.{◌≡◌, ◌↔◌, ℕ, List, [], ◌++◌, Option, None, Some, IfSome, IsTrue, Bool, true, false, sym, ap, ◌∙◌, true≢false}
use Rattle.std.specs.Prelude.{⊤}
use Rattle.std.proofs.lemmas.List.{append_cancel_left}
use Rattle.std.specs.Io.KnownBytes.{Consumes, IsAtEnd}

-- all that a reader had are these bytes exactly where it has still what is left of them
abbrev pub IsLeft : Option (List ℕ) → Option (List ℕ) → List ℕ → List ℕ → Type 0
IsLeft None now bytes left = ⊤
IsLeft (Some all) None bytes left = ⊥
IsLeft (Some all) (Some rest) bytes left = (all ≡ bytes) ↔ (rest ≡ left)

pub none_read : (old : Option (List ℕ)) (bytes : List ℕ) → IsLeft old old bytes bytes
none_read None bytes = tt
none_read (Some all) bytes = (λ e. e, λ e. e)

pub left_after : (old mid new : Option (List ℕ)) (bytes left piece rest : List ℕ) → IsLeft old mid bytes left → Consumes mid new piece → left ≡ piece ++ rest → IsLeft old new bytes rest
left_after None mid new bytes left piece rest so taken is = tt
left_after (Some all) None new bytes left piece rest so taken is = absurd so
left_after (Some all) (Some xs) None bytes left piece rest so taken is = absurd taken
left_after (Some all) (Some xs) (Some ys) bytes left piece rest so taken is =
    (λ e. append_cancel_left piece ys rest (sym taken ∙ so.0 e ∙ is), λ e. so.1 (taken ∙ ap (λ l. piece ++ l) e ∙ sym is))

pub unlike : (old mid new : Option (List ℕ)) (bytes left piece : List ℕ) → IsLeft old mid bytes left → Consumes mid new piece → ((rest : List ℕ) → left ≡ piece ++ rest → ⊥) → IfSome old (λ all. all ≡ bytes → ⊥)
unlike None mid new bytes left piece so taken apart = tt
unlike (Some all) None new bytes left piece so taken apart = absurd so
unlike (Some all) (Some xs) None bytes left piece so taken apart = absurd taken
unlike (Some all) (Some xs) (Some ys) bytes left piece so taken apart = λ e. apart ys (sym (so.0 e) ∙ taken)

pub at_end : (old mid new : Option (List ℕ)) (bytes left piece : List ℕ) → IsLeft old mid bytes left → Consumes mid new piece → piece ≡ [] → IsAtEnd new → IfSome old (λ all. (left ≡ []) ↔ (all ≡ bytes))
at_end None mid new bytes left piece so taken none end = tt
at_end (Some all) None new bytes left piece so taken none end = absurd so
at_end (Some all) (Some xs) None bytes left piece so taken none end = absurd taken
at_end (Some all) (Some xs) (Some ys) bytes left piece so taken none end =
    let nil : xs ≡ [] = taken ∙ ap (λ p. p ++ ys) none ∙ end in
    (λ e. so.1 (nil ∙ sym e), λ e. sym (so.0 e) ∙ nil)

pub is_unlike : (old : Option (List ℕ)) (bytes : List ℕ) → IfSome old (λ all. all ≡ bytes → ⊥) → IfSome old (λ all. IsTrue false ↔ (all ≡ bytes))
is_unlike None bytes so = tt
is_unlike (Some all) bytes so = (λ e. absurd (true≢false (sym e)), λ e. absurd (so e))

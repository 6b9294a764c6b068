-- What holds of a value that is handed on.
use Rattle.std.proofs.Common.{◌≡◌, Option, Some, None, Result, Ok, Err, IfOk, IfSome, subst, sym}
use Rattle.std.proofs.Common.{MatchResult, is_ok, true≢false}

-- what holds of a value still holds where an error beside it becomes another
pub still_ok : {X E F : Type 0} (r : Result X E) (s : Result X F) (P : X → Type 0) (Q : E → Type 0)
    → MatchResult r (λ x. s ≡ Ok x) Q → is_ok s ≡ is_ok r → IfOk r P → IfOk s P
still_ok (Ok x) s P Q is same p = subst (λ (o : Result _ _). IfOk o P) (sym is) p
still_ok (Err e) (Ok y) P Q is same p = absurd (true≢false same)
still_ok (Err e) (Err f) P Q is same p = tt

-- what holds whatever the value is
pub whatever : {X E : Type 0} (r : Result X E) (P : Type 0) → P → IfOk r (λ _. P)
whatever (Ok x) P p = p
whatever (Err e) P p = tt

-- a weaker fact on a value, where there is one
pub some_weaker : {X : Type 0} (o : Option X) (P Q : X → Type 0) → ((x : X) → P x → Q x) → IfSome o P → IfSome o Q
some_weaker None P Q f p = tt
some_weaker (Some x) P Q f p = f x p

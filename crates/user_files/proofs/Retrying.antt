-- Reads that are made again.
use Rattle.std.proofs.Common.{◌≡◌, ℕ, List, ◌++◌, Option, None, Some, IfOk, Result, Ok, Err, sym, ◌∙◌, take}
use Rattle.std.specs.Io.KnownBytes.{Consumes, Keeps, ReadConsumes}

kept_then : (a b c : Option (List ℕ)) (bs : List ℕ) → Keeps a b → Consumes b c bs → Consumes a c bs
kept_then None b c bs p q = tt
kept_then (Some x) None c bs p q = absurd p
kept_then (Some x) (Some y) None bs p q = absurd q
kept_then (Some x) (Some y) (Some z) bs p q = sym p ∙ q

-- what a read consumes after others that failed
pub read_then : {E : Type 0} (a b c : Option (List ℕ)) (r : Result ℕ E) (buf : List ℕ) → Keeps a b → ReadConsumes b c r buf → IfOk r (λ n. Consumes a c (take n buf))
read_then a b c (Ok n) buf k rc = kept_then a b c (take n buf) k rc.0
read_then a b c (Err e) buf k rc = tt

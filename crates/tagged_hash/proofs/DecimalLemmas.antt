-- What `parse` says of a decimal text.
use Rattle.std.proofs.Common.{◌≡◌, ℕ, ◌<◌, ◌^◌, List, Result, Ok, Err, decimal}
use Rattle.std.specs.Str.Parse.{ParsesUnsigned}
use Rattle.std.proofs.lemmas.Fmt.{parse-decimal}

abbrev err : ℕ → Result ℕ ℕ
err e = Err e

abbrev ok : ℕ → Result ℕ ℕ
ok n = Ok n

err-ok : (e n : ℕ) → err e ≡ ok n → ⊥
err-ok e n p = cc

ok_same : (m n : ℕ) → ok m ≡ ok n → m ≡ n
ok_same m n p = cc

-- a decimal text is read
pub parses : (n : ℕ) (text : List ℕ) → n < 2 ^ 64 → text ≡ decimal n → ParsesUnsigned 64 10 text (err 0) → ⊥
parses n text small e h = err-ok 0 n (parse-decimal 64 n text (err 0) small small e h)

-- and as its number
pub parsed_same : (m n : ℕ) (text : List ℕ) → n < 2 ^ 64 → text ≡ decimal n → ParsesUnsigned 64 10 text (ok m) → m ≡ n
parsed_same m n text small e h = ok_same m n (parse-decimal 64 n text (ok m) small small e h)

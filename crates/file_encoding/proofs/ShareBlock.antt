-- A share of primary blocks is the block that the formula gives.
use Rattle.std.proofs.Common.{◌≡◌, ℕ, ◌+◌, ◌*◌, ◌<◌, ◌≤◌, List, length, get_or, refl}
use Rattle.std.proofs.lemmas.List.FromFn.{fill_by_all}
use Rattle.zfec_code.specs.Shares.{IsShareOf}
use Rattle.zfec_code.specs.ShareValue.{share_block, share_value}
use Rattle.zfec_code.proofs.Formula.{share_value-is}
use Rattle.zfec_code.proofs.ShareLemmas.{share_value_unique}

pub share_block-is : (k i : ℕ) (primaries block : List ℕ) → k ≤ 256 → ((t : ℕ) → get_or primaries t 0 < 256)
    → IsShareOf k primaries i block → block ≡ share_block k i (length block) primaries
share_block-is k i primaries block few bytes is =
    fill_by_all (λ t. share_value k i (λ j. get_or primaries (j * length block + t) 0)) block (length block) 0 refl
    (λ t inside.
    let column : ℕ → ℕ = λ j. get_or primaries (j * length block + t) 0 in
    share_value_unique k i column (get_or block t 0) (share_value k i column) few (is.columns t inside)
    (share_value-is k i column few (λ j _. bytes (j * length block + t))))

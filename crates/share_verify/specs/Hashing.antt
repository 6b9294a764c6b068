-- Words of the private clauses that hash the first blocks of a text.
use Rattle.std.specs.Prelude.{◌≡◌, ℕ, ◌*◌, List, ◌++◌, length, drop}
use Rattle.share_verify.specs.Leaves.{AreBlockHashes}

-- so many first blocks of a text were taken off it, and their hashes were added to others
pub record HashesMore (size count : ℕ) (hashes : List (List ℕ)) (text : List ℕ)
    (new_hashes : List (List ℕ)) (new_text : List ℕ) : Type 0 where
  pub more : List (List ℕ)
  pub as_many : length more ≡ count
  pub are_hashes : AreBlockHashes more size text
  pub added : new_hashes ≡ hashes ++ more
  pub left : new_text ≡ drop (count * size) text

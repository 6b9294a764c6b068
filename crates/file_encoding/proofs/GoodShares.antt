-- What enough good shares of a file's encoding give.
use Rattle.std.proofs.Common.{◌≡◌, ◌⊎◌, ℕ, List, Result, Ok, Err, IfErr, IsErrOf, IsOkUnless, inl, inr, ap, subst, sym}
use Rattle.cap_text.specs.Cap.{VerifyCapValue, verify_cap_of}
use Rattle.file_encoding.specs.Encoding.{Parameters, encoding_of}
use Rattle.file_encoding.specs.GoodShares.{AreEnoughGoodShares}
use Rattle.file_encoding.specs.Reading.{AreInconsistent, LacksShares}
use Rattle.file_encoding.specs.Regenerated.{AreRegenerated, CannotRegenerate, inconsistent}
use Rattle.file_encoding.specs.RemadeLaws.{AreTakenAmong, GiveOwnShares}
use Rattle.file_encoding.specs.declared.reading.ReadError.{ReadError}
use Rattle.file_encoding.specs.declared.reading.ReadError.TheVariants.{Inconsistent, OutOfMemory}
use Rattle.file_encoding.proofs.RemadeEnough.{enough_pass}
use Rattle.file_encoding.proofs.RemadeOwn.{good_shares_give_own}

module _ (file secret : List ℕ) (p : Parameters) (cap : VerifyCapValue) (numbers : List ℕ) (strings : List (List ℕ))
    (good : AreEnoughGoodShares file secret p cap numbers strings) where
  give_own : GiveOwnShares cap numbers strings (encoding_of file secret p).shares
  give_own =
      let taken : AreTakenAmong good.inputs (verify_cap_of (encoding_of file secret p).cap) numbers strings =
      subst (λ (v : VerifyCapValue). AreTakenAmong good.inputs v numbers strings) good.is_cap good.taken in
      subst (λ (v : VerifyCapValue). GiveOwnShares v numbers strings (encoding_of file secret p).shares) (sym good.is_cap)
      (good_shares_give_own good.inputs good.no_clash file secret p good.shape good.bytes good.encoded numbers strings taken)

  pub only_own : (shares : List (List ℕ)) → AreRegenerated cap numbers strings shares → shares ≡ (encoding_of file secret p).shares
  only_own = give_own.only

  pub can_regenerate : ¬ CannotRegenerate cap numbers strings
  can_regenerate = give_own.can

  pub not_lacking : ¬ LacksShares cap numbers strings
  not_lacking = enough_pass cap numbers strings good.enough

  pub not_inconsistent : ¬ AreInconsistent cap numbers strings
  not_inconsistent wrong = can_regenerate (inconsistent wrong)

-- where the shares do not contradict one another, only memory is missing
pub only_memory : {T : Type 0} (r : Result T ReadError) → IfErr r (λ e. (e ≡ OutOfMemory) ⊎ (e ≡ Inconsistent)) → ¬ IsErrOf r Inconsistent
    → IsOkUnless r OutOfMemory
only_memory (Ok value) other not = tt
only_memory (Err e) other not =
    elim other [
      | inl memory ↦ memory
      | inr wrong ↦ absurd (not (ap Err wrong))
    ]

-- Reads, one after another.
use Rattle.std.proofs.Common.{◌≡◌, ℕ, List, [], ◌∷◌, ◌++◌, refl, subst}
use Rattle.share_source.specs.Reads.{AreRead, Fails, Gives, IsRead, WasRead}
use Rattle.share_source.specs.Reads.IsRead.{brought, failed}

module _ {B : Type 0} (gives : Gives B) (fails : Fails B) where
  pub read_none : (b : B) → WasRead gives fails b b
  read_none b = record { states = []; run = refl }

  pub read_given : (old new : B) (position offset : ℕ) (bytes : List ℕ) → gives old position offset bytes new → WasRead gives fails old new
  read_given old new position offset bytes g = record { states = new ∷ []; run = (brought position offset bytes g, refl) }

  pub read_failed : (old new : B) (position offset len : ℕ) → fails old position offset len new → WasRead gives fails old new
  read_failed old new position offset len f = record { states = new ∷ []; run = (failed position offset len f, refl) }

  joined : (old mid new : B) (states others : List B) → AreRead gives fails old states mid → AreRead gives fails mid others new → AreRead gives fails old (states ++ others) new
  joined old mid new [] others a b = subst (λ (x : B). AreRead gives fails x others new) a b
  joined old mid new (next ∷ states) others a b = (a.0, joined next mid new states others a.1 b)

  pub read_both : (old mid new : B) → WasRead gives fails old mid → WasRead gives fails mid new → WasRead gives fails old new
  read_both old mid new a b = record { states = a.states ++ b.states; run = joined old mid new a.states b.states a.run b.run }

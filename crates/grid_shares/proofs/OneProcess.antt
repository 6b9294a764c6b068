-- What comes to servers of one process that stay open.
use Rattle.std.proofs.Common.{inl, inr, refl}
use Rattle.share_store.specs.Calls.{Calls}
use Rattle.local_grid.specs.Nodes.{Carries}
use Rattle.local_grid.specs.Turns.{GridState, later}
use Rattle.local_grid.specs.Local.{IsNext, local_calls}
use Rattle.local_grid.specs.declared.outside.Happening.{Happening}
use Rattle.local_grid.specs.declared.outside.Happening.TheVariants.{Came, Second}
use Rattle.grid_shares.specs.Standing.{GoesOn, IsStep}

module _ {S L : Type 0} (calls : Calls S) (carries : Carries L) (gives_up : L → L → Type 0) (old new : GridState S L) where
  pub steps_there : GoesOn (local_calls calls carries gives_up) old new → IsStep calls carries old new
  steps_there (inl handed) = inl handed
  steps_there (inr happened) = by happened.0 happened.1 where
    by : (happening : Happening) → IsNext old happening new → IsStep calls carries old new
    by (Came node message) next = absurd next
    by (Second second) next = inr next.1

  pub steps_back : IsStep calls carries old new → GoesOn (local_calls calls carries gives_up) old new
  steps_back (inl asked) = inl asked
  steps_back (inr later_is) = inr (Second (later old.clock), (refl, later_is))

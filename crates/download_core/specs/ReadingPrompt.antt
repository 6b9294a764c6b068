-- A file that is read holds nothing back.
use Rattle.std.specs.Prelude.{◌≡◌, ℕ, Bool, List, Some}
use Rattle.request_record.specs.declared.requests.Request.{Request}
use Rattle.download_shares.specs.Reads.{IsOutAt}
use Rattle.download_file.specs.Asked.{AreAskedUp}
use Rattle.download_file.specs.Making.{MustWait}
use Rattle.download_file.specs.State.{FileState, IsLive, first_waiting}

-- What is there was made: the next segment lacks something; or, where it is patient, eight segments
-- are on their way. All that is wanted for the next segment is asked, and all that was answered in
-- its turn is taken: what waits first of a reader has no answer yet.
pub record IsPrompt (patient : Bool) (entries : List Request) (f : FileState) : Type 0 where
  pub waits : MustWait patient f
  pub asked : AreAskedUp f
  pub out : (reader position : ℕ) → IsLive f reader → first_waiting f reader ≡ Some position
      → IsOutAt entries position

-- What is kept of the beginnings of shares is as the record says.
use Rattle.std.specs.Prelude.{◌≡◌, ℕ, List, Option, Some, None, length}
use Rattle.share_reading.specs.Opening.{next_length, next_offset}
use Rattle.share_reading.specs.OpeningReads.{IsLedToBy}
use Rattle.share_reading.specs.declared.opening.Opening.{Opening}
use Rattle.request_record.specs.declared.requests.Request.{Request}
use Rattle.download_shares.specs.Right.{AreAllHeld, IsRight}
use Rattle.download_shares.specs.Table.{IsHolding}
use Rattle.download_shares.specs.declared.holding.Holding.{Holding}
use Rattle.download_shares.specs.Reads.{IsReadAt, brought_of}
use Rattle.download_shares.specs.BeginningState.{BeginningsState, IsBegun}
use Rattle.download_shares.specs.declared.begun.Begun.{Begun}

-- the request at this position is the next read of the opening
abbrev pub IsNextAt : List Request → Holding → Option Opening → ℕ → Type 0
IsNextAt entries h None position = ⊥
IsNextAt entries h (Some opening) position =
    IsReadAt entries h position (next_offset opening) (next_length opening)

-- what was read of the holding's share led to its opening, and its next read is at the offset that
-- it waits for
pub record IsBegunBy (entries : List Request) (h : Holding) (b : Begun) : Type 0 where
  pub led : (opening : Opening) → b.opening ≡ Some opening
      → IsLedToBy (brought_of entries h.server h.share) opening
  pub waits : (position : ℕ) → b.waiting ≡ Some position → IsNextAt entries h b.opening position

-- so it is of each holding, and each share that was offered is one
pub record AreBegun (s : BeginningsState) : Type 0 where
  pub right : IsRight s.holdings
  pub counted : length s.begun ≡ length s.holdings.table.holdings
  pub each : (position : ℕ) (h : Holding) (b : Begun) → IsHolding s.holdings.table position h
      → IsBegun s position b → IsBegunBy s.holdings.requests.entries h b
  pub held : AreAllHeld s.holdings

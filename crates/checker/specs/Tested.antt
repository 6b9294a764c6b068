-- What a check hashed to test the shares that it read.
use Rattle.std.specs.Prelude.{ℕ, List, Contains}
use Rattle.ueb.specs.Shape.{Contents}
use Rattle.share_layout.specs.Share.{Sections}
use Rattle.share_verify.specs.Inputs.{share_inputs}
use Rattle.share_verify.specs.Verify.{IsSound}
use Rattle.share_reading.specs.Verdict.{IsGood, Settled}
use Rattle.checker.specs.Shares.{settled_of}
use Rattle.checker.specs.State.{CheckState}

-- a server's share was read to its end by some reads and is good, and this was hashed for it
pub record IsTested (c : CheckState) (input : List ℕ) : Type 0 where
  pub server : ℕ
  pub share : ℕ
  pub reads : List Settled
  pub settled : (read : Settled) → Contains reads read
      → Contains (settled_of c.requests.entries server share) read
  pub good : IsGood c.cap share reads
  pub contents : Contents
  pub sections : Sections
  pub sound : IsSound c.cap share good.bytes contents sections
  pub hashed : Contains (share_inputs contents share sections) input

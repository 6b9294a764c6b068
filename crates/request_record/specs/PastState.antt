-- All requests of a record, and how many steps made them.
use Rattle.std.specs.Prelude.{ℕ, List}
use Rattle.request_record.specs.declared.requests.Request.{Request}

pub record PastState : Type 0 where
  pub steps : ℕ
  pub requests : List Request

-- What a check found of the shares that were offered, once no share is read any more.
use Rattle.std.specs.Prelude.{◌≡◌, ◌+◌, ◌≤◌, List, [], length, map, take, drop, All}
use Rattle.share_reading.specs.declared.verdict.Verdict.{Verdict}
use Rattle.share_reading.specs.declared.verdict.Verdict.TheVariants as verdicts
use Rattle.checker.specs.Book.{HasBook, IsSafe}
use Rattle.checker.specs.declared.state.Machine.{Machine}
use Rattle.checker.specs.declared.state.Told.{Told}
use Rattle.checker.specs.declared.offers.Offer.{Offer}
use Rattle.checker.specs.declared.offers.Stage.{Stage}
use Rattle.checker.specs.declared.offers.Stage.TheVariants.{Waiting, Read, Ended}
use Rattle.checker.specs.declared.status.ShareVerdict.{ShareVerdict}

-- the share is not read any more
abbrev pub IsOver : Offer → Type 0
IsOver o = (v : Verdict) × (o.stage ≡ Ended v)

abbrev pub verdict_in : Stage → Verdict
verdict_in (Ended v) = v
verdict_in Waiting = verdicts.Lost
verdict_in (Read r) = verdicts.Lost

abbrev pub found_of : Offer → ShareVerdict
found_of o = record { server = o.server; share = o.share; verdict = verdict_in o.stage }

-- the verdicts on the shares of a server
abbrev pub found_among : List Offer → Told → List ShareVerdict
found_among offers t = map found_of (take t.count (drop t.first offers))

-- a check in which no share is read any more
pub record IsDone (m : Machine) : Type 0 where
  pub safe : IsSafe m
  pub book : HasBook m []
  pub over : All IsOver m.offers.items
  pub inside : All (λ (t : Told). t.first + t.count ≤ length m.offers.items) m.told.items

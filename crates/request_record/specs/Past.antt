-- All requests of a record, as the steps that made them say.
use Rattle.std.specs.Prelude.{◌+◌, [], ◌∷◌, ◌++◌, map, slice_set}
use Rattle.request_record.specs.declared.past.Step.{Step}
use Rattle.request_record.specs.declared.past.Step.TheVariants.{Nothing, Asked, Settled, Ticked}
use Rattle.request_record.specs.Record.{ticked_one}
use Rattle.request_record.specs.PastState.{PastState}

-- the requests after a step, and how many steps there were
abbrev pub after_step : Step → PastState
after_step Nothing = record { steps = 0; requests = [] }
after_step (Asked before request) =
    record {
      steps = before.value.steps + 1;
      requests = before.value.requests ++ request.value ∷ [];
    }
after_step (Settled before position request) =
    record {
      steps = before.value.steps + 1;
      requests = slice_set before.value.requests position request.value;
    }
after_step (Ticked before now) =
    record {
      steps = before.value.steps + 1;
      requests = map (ticked_one now) before.value.requests;
    }

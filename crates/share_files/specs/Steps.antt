-- What was done, as the steps that made it say.
use Rattle.std.specs.Prelude.{◌+◌, [], ◌∷◌}
use Rattle.share_files.specs.declared.acts.Step.{Step}
use Rattle.share_files.specs.declared.acts.Step.TheVariants.{Nothing, Acted}
use Rattle.share_files.specs.ActsState.{ActsState}

abbrev pub after_step : Step → ActsState
after_step Nothing = record { steps = 0; done = [] }
after_step (Acted before act) =
    record {
      steps = before.value.steps + 1;
      done = act.value ∷ before.value.done;
    }

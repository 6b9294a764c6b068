use Rattle.std.proofs.Common.{ap, subst, Option, List, ℕ}
use Rattle.std.specs.Option.{option_map}
use Rattle.std.proofs.lemmas.Result.{IfOk-weaker}
use Rattle.grid_surveys.proofs.VerifyLemmas.{said_under, unsaid_under}
use Rattle.grid_surveys.proofs.making.secret_for.Goals as goal

pub returns-in-Some-clause-under : goal.returns-in-Some-clause-under
returns-in-Some-clause-under g c = said_under c.args.words.now c.args.environment.now.secret_file c.args.grid (option_map (λ s. s.items) c.in_ok-secret.field-0) c.in-Some.secret.items (ap (option_map (λ s. s.items)) c.in-Some.is) c.in_ok-secret.ensures.said

pub returns-in-None-clause-under : goal.returns-in-None-clause-under
returns-in-None-clause-under g c = IfOk-weaker c.kept_secret.result _ _ (λ secret under. unsaid_under c.args.words.now c.args.environment.now.secret_file c.args.grid (option_map (λ s. s.items) c.in_ok-secret.field-0) secret.items (ap (option_map (λ s. s.items)) c.in-None.is) c.in_ok-secret.ensures.said under) c.kept_secret.ensures.none

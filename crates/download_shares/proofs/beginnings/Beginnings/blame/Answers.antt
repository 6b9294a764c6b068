use Rattle.std.proofs.Common.{refl, sym, subst}
use Rattle.lemmas.proofs.Results.{on_ok_then}
use Rattle.download_shares.specs.Known.{AreBegun}
use Rattle.download_shares.specs.BeginningState.{BeginningsState, beginnings_state}
use Rattle.download_shares.proofs.Falling.{falls_one}
use Rattle.download_shares.proofs.Knowing.{known_blamed}
use Rattle.download_shares.proofs.Fields.{seen_beginnings}
use Rattle.download_shares.proofs.beginnings.Beginnings.blame.Goals as goal

pub returns-clause-known : goal.returns-clause-known
returns-clause-known c known =
    let s : BeginningsState = seen_beginnings c.self.inside in
    let u : BeginningsState = beginnings_state c.blame.new.self c.self.inside.begun.items in
    on_ok_then c.blame.result _ (AreBegun u) c.blame.ensures.ok
    (λ b. known_blamed s u c.args.holding c.args.check (subst AreBegun (sym c.self.view_is) known) b (falls_one c.args.holding s.holdings.table u.holdings.table b.retired) c.blame.ensures.right refl)

use Rattle.std.proofs.Common.{refl, sym, subst}
use Rattle.lemmas.proofs.Results.{on_ok_then}
use Rattle.download_shares.specs.Known.{AreBegun}
use Rattle.download_shares.specs.BeginningState.{BeginningsState, beginnings_state}
use Rattle.download_shares.proofs.Knowing.{known_asked}
use Rattle.download_shares.proofs.Fields.{seen_beginnings}
use Rattle.download_shares.proofs.beginnings.Beginnings.ask.Goals as goal

pub returns-clause-known : goal.returns-clause-known
returns-clause-known c known =
    let s : BeginningsState = seen_beginnings c.self.inside in
    let u : BeginningsState = beginnings_state c.ask.new.self c.self.inside.begun.items in
    on_ok_then c.ask.result _ (AreBegun u) c.ask.ensures.ok
    (λ a. known_asked s u c.args.holding c.args.offset c.args.len (subst AreBegun (sym c.self.view_is) known) a c.ask.ensures.right refl)

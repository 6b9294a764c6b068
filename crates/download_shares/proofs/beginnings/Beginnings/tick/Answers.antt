use Rattle.std.proofs.Common.{refl, sym, subst}
use Rattle.download_shares.specs.Known.{AreBegun}
use Rattle.download_shares.specs.Opening.{AreOpening, nobody}
use Rattle.download_shares.specs.BeginningState.{BeginningsState, beginnings_state}
use Rattle.download_shares.proofs.BeginningTicking.{known_ticked, opening_ticked}
use Rattle.download_shares.proofs.Fields.{seen_beginnings}
use Rattle.download_shares.proofs.beginnings.Beginnings.tick.Goals as goal

pub returns-clause-known : goal.returns-clause-known
returns-clause-known c known =
    let s : BeginningsState = seen_beginnings c.self.inside in
    let u : BeginningsState = beginnings_state c.tick.new.self c.self.inside.begun.items in
    known_ticked s u c.args.now (subst AreBegun (sym c.self.view_is) known) c.in_ok-tick.ensures.ok refl c.in_ok-tick.ensures.right

pub returns-clause-opening : goal.returns-clause-opening
returns-clause-opening c known opening =
    let s : BeginningsState = seen_beginnings c.self.inside in
    let u : BeginningsState = beginnings_state c.tick.new.self c.self.inside.begun.items in
    opening_ticked s u c.args.now (subst AreBegun (sym c.self.view_is) known) c.in_ok-tick.ensures.ok refl (subst (AreOpening nobody) (sym c.self.view_is) opening) c.know_table.ensures

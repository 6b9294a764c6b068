use Rattle.download_shares.specs.BeginningState.{BeginningsState, beginnings_state}
use Rattle.download_shares.proofs.Beginning.{known_first, opening_first}
use Rattle.download_shares.proofs.beginnings.Beginnings.begin.Goals as goal

pub returns-clause-known : goal.returns-clause-known
returns-clause-known c =
    let s : BeginningsState = beginnings_state c.in_ok-begin.field-0 c.new.result.items in
    known_first c.args.total c.args.servers.now c.args.session c.args.now s c.in_ok-begin.ensures.begins c.new.ensures.items c.in_ok-begin.ensures.right

pub returns-clause-opening : goal.returns-clause-opening
returns-clause-opening c =
    let s : BeginningsState = beginnings_state c.in_ok-begin.field-0 c.new.result.items in
    opening_first c.args.total c.args.servers.now c.args.session c.args.now s c.in_ok-begin.ensures.begins c.new.ensures.items

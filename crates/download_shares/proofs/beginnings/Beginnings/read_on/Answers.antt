use Rattle.std.proofs.Common.{sym, subst}
use Rattle.request_record.specs.Record.{RequestsState}
use Rattle.download_shares.specs.Reads.{IsAnsweredBy}
use Rattle.download_shares.specs.BeginningState.{BeginningsState}
use Rattle.download_shares.proofs.beginnings.Beginnings.read_on.Goals as goal

pub unreachable-requires : goal.unreachable-requires
unreachable-requires c =
    c.in_default.ensures.none c.requires.answered.0
    (subst (λ (r : RequestsState). IsAnsweredBy r.entries c.args.position c.requires.answered.0) (sym c.requests.ensures.value)
    (subst (λ (s : BeginningsState). IsAnsweredBy s.holdings.requests.entries c.args.position c.requires.answered.0) (sym c.self.view_is) c.requires.answered.1))

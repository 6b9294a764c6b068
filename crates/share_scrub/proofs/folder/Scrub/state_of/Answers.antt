use Rattle.std.proofs.Common.{rules}
use Rattle.share_files.specs.declared.name.FileKind.TheVariants.{Closed, Open, HalfAside, Aside}
use Rattle.share_scrub.proofs.Seeing.{aside_seen, closed_seen, half_seen, open_seen, other_read, read_by, seen_by}
use Rattle.share_scrub.proofs.folder.Scrub.state_of.Goals.{then-handling, else-handling}
use Rattle.share_scrub.proofs.folder.Scrub.state_of.Goals as goal

pub returns-in-Closed-clause-kept : goal.returns-in-Closed-clause-kept
returns-in-Closed-clause-kept g c = c.closed_state.ensures.kept c.args.self.now.whole c.args.file.now.key

pub returns-in-Open-clause-kept : goal.returns-in-Open-clause-kept
returns-in-Open-clause-kept g c = c.open_state.ensures.kept c.args.self.now.whole c.args.file.now.key

pub returns-in-HalfAside-clause-kept : goal.returns-in-HalfAside-clause-kept
returns-in-HalfAside-clause-kept g c = c.half_state.ensures.kept c.args.self.now.whole c.args.file.now.key

pub returns-clause-kept : goal.returns-clause-kept
returns-clause-kept g c =
    c.aside_state.ensures.kept c.args.self.now.whole c.args.file.now.key
    (λ yes. elim c.if-handling.branch [ then-handling w ↦ search rules | else-handling w ↦ search rules ])

pub returns-in-Closed-clause-seen : goal.returns-in-Closed-clause-seen
returns-in-Closed-clause-seen g c = seen_by c.args.file.now _ c.closed_state.result (closed_seen c.args.file.now c.in-Closed.digest c.closed_state.new.files c.in-Closed.is) c.closed_state.ensures.seen

pub returns-in-Open-clause-seen : goal.returns-in-Open-clause-seen
returns-in-Open-clause-seen g c = seen_by c.args.file.now _ c.open_state.result (open_seen c.args.file.now c.in-Open.field-0 c.open_state.new.files c.in-Open.is) c.open_state.ensures.seen

pub returns-in-HalfAside-clause-seen : goal.returns-in-HalfAside-clause-seen
returns-in-HalfAside-clause-seen g c = seen_by c.args.file.now _ c.half_state.result (half_seen c.args.file.now c.in-HalfAside.digest c.in-HalfAside.own c.half_state.new.files c.in-HalfAside.is) c.half_state.ensures.seen

pub returns-clause-seen : goal.returns-clause-seen
returns-clause-seen g c = seen_by c.args.file.now _ c.aside_state.result (aside_seen c.args.file.now c.in-Aside.field-0 c.in-Aside.field-1 c.aside_state.new.files c.in-Aside.is) c.aside_state.ensures.seen

pub returns-in-Closed-clause-read : goal.returns-in-Closed-clause-read
returns-in-Closed-clause-read g c = read_by g.R.File.Read.remaining c.args.file.now.kind (Closed c.in-Closed.digest) c.closed_state.result c.in-Closed.is c.closed_state.ensures.read

pub returns-in-Open-clause-read : goal.returns-in-Open-clause-read
returns-in-Open-clause-read g c =
    read_by g.R.File.Read.remaining c.args.file.now.kind (Open c.in-Open.field-0) c.open_state.result c.in-Open.is (other_read g.R.File.Read.remaining (Open c.in-Open.field-0) c.open_state.result tt)

pub returns-in-HalfAside-clause-read : goal.returns-in-HalfAside-clause-read
returns-in-HalfAside-clause-read g c =
    read_by g.R.File.Read.remaining c.args.file.now.kind (HalfAside c.in-HalfAside.digest c.in-HalfAside.own) c.half_state.result c.in-HalfAside.is
    (other_read g.R.File.Read.remaining (HalfAside c.in-HalfAside.digest c.in-HalfAside.own) c.half_state.result tt)

pub returns-clause-read : goal.returns-clause-read
returns-clause-read g c =
    read_by g.R.File.Read.remaining c.args.file.now.kind (Aside c.in-Aside.field-0 c.in-Aside.field-1) c.aside_state.result c.in-Aside.is
    (other_read g.R.File.Read.remaining (Aside c.in-Aside.field-0 c.in-Aside.field-1) c.aside_state.result tt)

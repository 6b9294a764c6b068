use Rattle.std.proofs.Common.{refl}
use Rattle.download_shares.proofs.Caused.{adds_none}
use Rattle.download_core.specs.ReadingCauses.{HasCause}
use Rattle.download_core.proofs.Causes.{began_causes, heard_causes, took_causes}
use Rattle.std.proofs.Common.{inl, inr}
use Rattle.download_shares.specs.declared.beginnings.News.TheVariants as news
use Rattle.download_core.proofs.Ended.{continues_trans}
use Rattle.download_core.proofs.Heard.{heard_left}
use Rattle.download_core.proofs.file_reading.FileReading.hear.Goals as goal

pub compare-requires-clause-told : goal.compare-requires-clause-told
compare-requires-clause-told c =
    let e = c.follow.ensures in
    (heard_left c.args.beginnings.now c.args.self.now c.follow.new.self c.args.news c.requires.heard e.linked e.holdings e.awaits (news.Beginning c.in-Beginning.holding c.in-Beginning.position) c.in-Beginning.is).0

pub compare-requires-clause-waits : goal.compare-requires-clause-waits
compare-requires-clause-waits c =
    let e = c.follow.ensures in
    (heard_left c.args.beginnings.now c.args.self.now c.follow.new.self c.args.news c.requires.heard e.linked e.holdings e.awaits (news.Beginning c.in-Beginning.holding c.in-Beginning.position) c.in-Beginning.is).1

pub compare-requires-clause-answered : goal.compare-requires-clause-answered
compare-requires-clause-answered c =
    let e = c.follow.ensures in
    (heard_left c.args.beginnings.now c.args.self.now c.follow.new.self c.args.news c.requires.heard e.linked e.holdings e.awaits (news.Beginning c.in-Beginning.holding c.in-Beginning.position) c.in-Beginning.is).2

pub take_of-requires-in-Bytes : goal.take_of-requires-in-Bytes
take_of-requires-in-Bytes c =
    let e = c.follow.ensures in
    record { told = heard_left c.args.beginnings.now c.args.self.now c.follow.new.self c.args.news c.requires.heard e.linked e.holdings e.awaits (news.Bytes c.in-Bytes.holding c.in-Bytes.field-1) c.in-Bytes.is }

pub returns-in-Nothing-clause-reading : goal.returns-in-Nothing-clause-reading
returns-in-Nothing-clause-reading c =
    let e = c.follow.ensures in
    let left = heard_left c.args.beginnings.now c.args.self.now c.follow.new.self c.args.news c.requires.heard e.linked e.holdings e.awaits in
    elim c.in-Nothing.is [
      | inl none ↦ left news.Nothing none
      | inr gone ↦ left (news.Gone gone.0) gone.1
    ]

pub returns-in_err-compare-in-Beginning-clause-continues : goal.returns-in_err-compare-in-Beginning-clause-continues
returns-in_err-compare-in-Beginning-clause-continues c =
    continues_trans c.args.beginnings.now c.args.beginnings.now c.compare.new.beginnings c.args.self.now c.follow.new.self c.compare.new.self c.follow.ensures.continues c.compare.ensures.continues

pub returns-in_ok-compare-in-Beginning-clause-continues : goal.returns-in_ok-compare-in-Beginning-clause-continues
returns-in_ok-compare-in-Beginning-clause-continues c =
    continues_trans c.args.beginnings.now c.compare.new.beginnings c.take_of.new.beginnings c.args.self.now c.compare.new.self c.take_of.new.self
    (continues_trans c.args.beginnings.now c.args.beginnings.now c.compare.new.beginnings c.args.self.now c.follow.new.self c.compare.new.self c.follow.ensures.continues c.compare.ensures.continues)
    c.take_of.ensures.continues

pub returns-in-Bytes-clause-continues : goal.returns-in-Bytes-clause-continues
returns-in-Bytes-clause-continues c =
    continues_trans c.args.beginnings.now c.args.beginnings.now c.take_of-in-Bytes.new.beginnings c.args.self.now c.follow.new.self c.take_of-in-Bytes.new.self c.follow.ensures.continues c.take_of-in-Bytes.ensures.continues

pub returns-in_err-compare-in-Beginning-clause-causes : goal.returns-in_err-compare-in-Beginning-clause-causes
returns-in_err-compare-in-Beginning-clause-causes c =
    began_causes c.args.cap.now c.args.beginnings.now c.compare.new.beginnings c.follow.new.self c.compare.new.self c.compare.ensures.continues.same.geometry c.compare.ensures.causes c.compare.ensures.low

pub returns-in-Nothing-clause-causes : goal.returns-in-Nothing-clause-causes
returns-in-Nothing-clause-causes c =
    let bs = c.args.beginnings.now in
    adds_none (HasCause c.args.cap.now bs.holdings.requests.entries c.follow.new.self.file) bs.holdings.blamed bs.holdings.blamed refl

pub returns-in_ok-compare-in-Beginning-clause-causes : goal.returns-in_ok-compare-in-Beginning-clause-causes
returns-in_ok-compare-in-Beginning-clause-causes c =
    heard_causes c.args.cap.now c.args.beginnings.now c.compare.new.beginnings c.take_of.new.beginnings c.compare.new.self c.take_of.new.self
    c.take_of.ensures.continues c.compare.ensures.requests
    (began_causes c.args.cap.now c.args.beginnings.now c.compare.new.beginnings c.follow.new.self c.compare.new.self c.compare.ensures.continues.same.geometry c.compare.ensures.causes c.compare.ensures.low)
    c.take_of.ensures.causes

pub returns-in-Bytes-clause-causes : goal.returns-in-Bytes-clause-causes
returns-in-Bytes-clause-causes c =
    took_causes c.args.cap.now c.args.beginnings.now c.args.beginnings.now c.take_of-in-Bytes.new.beginnings c.take_of-in-Bytes.new.self refl c.take_of-in-Bytes.ensures.causes

use Rattle.download_shares.specs.HoldingState.{HoldingsState}
use Rattle.download_shares.proofs.Caused.{adds_none, adds_one}
use Rattle.download_core.specs.ReadingCauses.{IsBlameOf}
use Rattle.std.proofs.Common.{refl, ap, ◌≡◌, ℕ, ◌<◌, length, get_or, Some, None, sym, subst, arith}
use Rattle.std.specs.Prelude.{slice_get}
use Rattle.std.proofs.lemmas.Option.{slice_get_within}
use Rattle.lemmas.proofs.Positions.{got}
use Rattle.lemmas.proofs.Options.{one_there}
use Rattle.download_shares.specs.BeginningState.{BeginningsState}
use Rattle.download_file.specs.State.{IsHeard}
use Rattle.download_core.specs.Reading.{AreLinked}
use Rattle.download_core.specs.ReadingState.{ReadingState}
use Rattle.download_core.specs.ReadingSteps.{Continues}
use Rattle.download_core.proofs.Ended.{OwnHolding, continues_none, continues_trans, own_holding}
use Rattle.download_core.proofs.Blamed.{OwnBlamed, blamed_awaits, busy_blamed, fewer_left, own_blamed}
use Rattle.download_core.proofs.Busy.{busy_file}
use Rattle.download_core.proofs.Fallen.{blamed_continues, blamed_kept, blamed_live}
use Rattle.download_core.proofs.Fields.{seen}
use Rattle.download_core.proofs.file_reading.FileReading.blame.Goals as goal

-- the reader's holding is there
there : (bs : BeginningsState) (now r : ReadingState) (reader holding : ℕ) → r ≡ now → AreLinked bs now → IsHeard now.file reader → holding ≡ get_or r.holdings reader holding → holding < length bs.holdings.table.holdings
there bs now r reader holding e reading live index =
    let o : OwnHolding bs r reader = subst (λ (x : ReadingState). OwnHolding bs x reader) (sym e) (own_holding bs now reader reading.kept live) in
    let one : o.holding ≡ holding = one_there (slice_get r.holdings reader) o.holding holding o.of (got r.holdings reader holding (slice_get_within r.holdings reader o.holding o.of) index) in
    slice_get_within bs.holdings.table.holdings holding o.held (subst (λ n. slice_get bs.holdings.table.holdings n ≡ Some o.held) one o.is)

pub index-requires : goal.index-requires
index-requires c =
    let r : ReadingState = seen c.self.inside in
    let o : OwnHolding c.args.beginnings.now r c.args.reader = subst (λ (x : ReadingState). OwnHolding c.args.beginnings.now x c.args.reader) (sym c.self.view_is) (own_holding c.args.beginnings.now c.args.self.now c.args.reader c.requires.reading.linked.kept c.requires.live) in
    let w = slice_get_within r.holdings c.args.reader o.holding o.of in
    let k = c.self.inside.holdings.ok.0 in
    omega (arith, w, k)

pub blame-requires : goal.blame-requires
blame-requires c =
    let r : ReadingState = seen c.self.inside in
    there c.args.beginnings.now c.args.self.now r c.args.reader c.index.result.now c.self.view_is c.requires.reading.linked c.requires.live c.index.ensures

pub returns-in_err-blame-clause-continues : goal.returns-in_err-blame-clause-continues
returns-in_err-blame-clause-continues c =
    subst (λ (t : BeginningsState). Continues c.args.beginnings.now c.args.self.now t c.args.self.now) (sym c.in_err-blame.ensures.err) (continues_none c.args.beginnings.now c.args.self.now)

pub end_gone-requires-clause-kept : goal.end_gone-requires-clause-kept
end_gone-requires-clause-kept c =
    blamed_kept c.args.beginnings.now c.blame.new.self c.args.self.now c.index.result.now c.args.check c.requires.reading.linked c.in_ok-blame.ensures.blames (c.in_ok-blame.ensures.known c.requires.reading.linked.kept.known) c.in_ok-blame.ensures.begun

pub end_gone-requires-clause-live : goal.end_gone-requires-clause-live
end_gone-requires-clause-live c =
    blamed_live c.args.beginnings.now c.blame.new.self c.args.self.now c.index.result.now c.args.check c.requires.reading.linked c.in_ok-blame.ensures.blames (c.in_ok-blame.ensures.known c.requires.reading.linked.kept.known) c.in_ok-blame.ensures.begun

pub returns-clause-continues : goal.returns-clause-continues
returns-clause-continues c =
    continues_trans c.args.beginnings.now c.blame.new.self c.blame.new.self c.args.self.now c.args.self.now c.end_gone.new.self
    (blamed_continues c.args.beginnings.now c.blame.new.self c.args.self.now c.index.result.now c.args.check c.requires.reading.linked c.in_ok-blame.ensures.blames (c.in_ok-blame.ensures.known c.requires.reading.linked.kept.known) c.in_ok-blame.ensures.begun)
    c.end_gone.ensures.continues

pub returns-clause-reading : goal.returns-clause-reading
returns-clause-reading c =
    let bs = c.args.beginnings.now in
    let t = c.blame.new.self in
    let r = c.args.self.now in
    let q = c.end_gone.new.self in
    let b = c.in_ok-blame.ensures.blames in
    let k = c.end_gone.ensures in
    let own : OwnBlamed bs r c.args.reader c.index.result.now =
    own_blamed bs r (seen c.self.inside) c.args.reader c.index.result.now c.self.view_is c.requires.reading.linked c.requires.live c.index.ensures in
    record {
      linked = k.linked;
      awaits = blamed_awaits bs t r q c.args.reader c.index.result.now c.args.check c.requires.reading.linked c.requires.reading.awaits b own.of k.linked k.holdings (k.awaits (Some c.args.reader));
      busy = busy_file None t r q k.holdings (busy_blamed bs t r c.index.result.now c.args.check b c.requires.reading.busy c.in_ok-blame.ensures.begun);
    }

pub returns-clause-fewer : goal.returns-clause-fewer
returns-clause-fewer c =
    let own : OwnBlamed c.args.beginnings.now c.args.self.now c.args.reader c.index.result.now =
    own_blamed c.args.beginnings.now c.args.self.now (seen c.self.inside) c.args.reader c.index.result.now c.self.view_is c.requires.reading.linked c.requires.live c.index.ensures in
    fewer_left c.index.result.now c.args.beginnings.now.holdings.table c.blame.new.self.holdings.table own.held own.is own.left c.in_ok-blame.ensures.blames.retired

pub returns-in_err-blame-clause-requests : goal.returns-in_err-blame-clause-requests
returns-in_err-blame-clause-requests c = ap (λ (t : BeginningsState). t.holdings.requests) c.in_err-blame.ensures.err

pub returns-in_err-blame-clause-adds : goal.returns-in_err-blame-clause-adds
returns-in_err-blame-clause-adds c =
    adds_none (IsBlameOf c.args.beginnings.now c.args.self.now c.args.reader c.args.check) c.args.beginnings.now.holdings.blamed c.blame.new.self.holdings.blamed (ap (λ (t : BeginningsState). t.holdings.blamed) c.in_err-blame.ensures.err)

pub returns-clause-requests : goal.returns-clause-requests
returns-clause-requests c = ap (λ (h : HoldingsState). h.requests) c.in_ok-blame.ensures.blames.others

pub returns-clause-adds : goal.returns-clause-adds
returns-clause-adds c =
    let bs = c.args.beginnings.now in
    let b = c.in_ok-blame.ensures.blames in
    let own : OwnBlamed bs c.args.self.now c.args.reader c.index.result.now =
    own_blamed bs c.args.self.now (seen c.self.inside) c.args.reader c.index.result.now c.self.view_is c.requires.reading.linked c.requires.live c.index.ensures in
    adds_one (IsBlameOf bs c.args.self.now c.args.reader c.args.check) bs.holdings.blamed c.blame.new.self.holdings.blamed _ b.blamed
    (record { holding = c.index.result.now; of = own.of; held = b.held; is = b.is; of_server = refl; of_share = refl; check_is = refl })

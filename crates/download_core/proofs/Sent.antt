-- Which requests are still to be sent matters to nothing that is read.
use Rattle.std.proofs.Common.{ℕ, List}
use Rattle.download_shares.specs.Right.{IsRight}
use Rattle.download_shares.specs.Known.{AreBegun}
use Rattle.download_shares.specs.BeginningState.{BeginningsState}
use Rattle.download_core.specs.Laws.{SendingStays, with_outgoing}
use Rattle.download_core.specs.Reading.{AreReading}
use Rattle.download_core.specs.ReadingState.{ReadingState}

sent_right : (s : BeginningsState) (outgoing : List ℕ) → IsRight s.holdings → IsRight (with_outgoing outgoing s).holdings
sent_right s outgoing k = record {
  once = k.once;
  first = k.first;
  counted = k.counted;
  owned = λ i holding e. (let o = k.owned i holding e in record { held = o.held; is = o.is; request = o.request; there = o.there; read = o.read });
  offered = k.offered;
  distinct = k.distinct;
  left = k.left;
  others = k.others;
  blamed = k.blamed;
}

sent_begun : (s : BeginningsState) (outgoing : List ℕ) → AreBegun s → AreBegun (with_outgoing outgoing s)
sent_begun s outgoing k = record { right = sent_right s outgoing k.right; counted = k.counted; each = k.each; held = k.held }

sent_reading : (s : BeginningsState) (outgoing : List ℕ) → AreBegun s → (r : ReadingState) → AreReading s r → AreReading (with_outgoing outgoing s) r
sent_reading s outgoing known r k = record {
  linked = record {
    kept = record {
      known = sent_begun s outgoing known;
      right = k.linked.kept.right;
      total = k.linked.kept.total;
      linked = k.linked.kept.linked;
      forth = λ q x of. (
          let f = k.linked.kept.forth q x of in
          record { held = f.held; is = f.is; begun = f.begun; there = f.there; of_reader = f.of_reader; reads = f.reads });
      back = k.linked.kept.back;
      alive = k.linked.kept.alive;
      reads = k.linked.kept.reads;
      answers = k.linked.kept.answers;
    };
    live = λ q alive. (let n = k.linked.live q alive in record { holding = n.holding; of = n.of; held = n.held; is = n.is; left = n.left; taken = n.taken });
  };
  awaits = record {
    asked = λ q h w n among. k.awaits.asked q h w (record { live = n.live; holding = n.holding; of = n.of; is = n.is; left = n.left }) among;
    first = λ q position h n other e. k.awaits.first q position h (record { live = n.live; holding = n.holding; of = n.of; is = n.is; left = n.left }) other e;
  };
  busy = record {
    suspended = λ x h is left busy other. (
        let o = k.busy.suspended x h is left busy other in
        record { begun = o.begun; is = o.is; request = o.request; waiting = o.waiting; out = o.out });
    taken = k.busy.taken;
  };
}

pub sent : SendingStays
sent s outgoing known = (sent_begun s outgoing known, sent_reading s outgoing known)

-- What a message or a second brings to a download that runs.
use Rattle.std.proofs.Common.{◌≡◌, ℕ, inl, inr, Option, Some, None, sym, subst, ◌∙◌}
use Rattle.download_core.proofs.Compared.{awaited}
use Rattle.wire.specs.declared.message.Message.{Message}
use Rattle.download_shares.specs.HoldingMoves.{Ticks}
use Rattle.download_shares.specs.declared.holdings.Heard.{Heard}
use Rattle.download_shares.specs.declared.holdings.Heard.TheVariants as heard
use Rattle.download_shares.specs.Known.{AreBegun}
use Rattle.download_shares.specs.BeginningMoves.{BringsBytes, HearsNews, IsNewsOf, WaitsAt}
use Rattle.download_shares.specs.Opening.{AreOpening, IsToldOf, nobody}
use Rattle.download_shares.specs.BeginningState.{BeginningsState}
use Rattle.download_shares.specs.declared.beginnings.News.{News}
use Rattle.download_shares.specs.declared.beginnings.News.TheVariants as news
use Rattle.download_shares.proofs.Hearing.{becomes}
use Rattle.download_core.specs.declared.state.FoundFile.{FoundFile}
use Rattle.download_core.specs.declared.state.Machine.{Machine}
use Rattle.download_core.specs.Steps.{AwaitsNews, HasNews, HasPassed, HearsOf, IsInPhase, IsUnderWay, PassesOn, entries_of, found_of}
use Rattle.download_core.proofs.Records.{GoesFrom, file_stays}

-- ---- the opening that waits for the answer

waits_of : (s : BeginningsState) (what : Heard) (holding position : ℕ) → IsNewsOf s what (news.Beginning holding position) → WaitsAt s holding position
waits_of s heard.Nothing holding position e = absurd cc
waits_of s heard.Held holding position e = absurd cc
waits_of s (heard.Gone other) holding position e = absurd cc
waits_of s (heard.Bytes other at) holding position (inl k) =
    let same = k.0 in
    let one : holding ≡ other = cc in
    let two : position ≡ at = cc in
    subst (λ (x : ℕ). WaitsAt s x position) (sym one) (subst (λ (x : ℕ). WaitsAt s other x) (sym two) k.1)
waits_of s (heard.Bytes other at) holding position (inr k) = (let same = k.0 in absurd cc)

awaits_news : (s : BeginningsState) (what : Heard) (told : News) → AreBegun s → IsNewsOf s what told → AwaitsNews s told
awaits_news s what news.Nothing known tells = tt
awaits_news s what (news.Gone holding) known tells = tt
awaits_news s what (news.Bytes holding position) known tells = tt
awaits_news s what (news.Beginning holding position) known tells = awaited s holding position known (waits_of s what holding position tells)

-- ---- a message

module _ (m : Machine) (t : BeginningsState) (from : ℕ) (message : Message) (now : ℕ) (told : News) (way : IsUnderWay m) (goes : GoesFrom (entries_of m) t.holdings.requests.entries)
    (hears : HearsNews from message now m.beginnings t told) (known : AreBegun m.beginnings → AreBegun t) (bytes : AreBegun m.beginnings → BringsBytes t.holdings.requests.entries told)
    (opening : AreBegun m.beginnings → AreOpening nobody m.beginnings → AreOpening (IsToldOf told) t) where
  news_of : (f : Option FoundFile) → IsInPhase m.cap.total m.beginnings f → HasNews m.cap.total t f told
  news_of None k = (
      let now_known = known k.known in
      record {
        opened = record {
          known = now_known;
          opening = opening k.known k.opening;
          count = (becomes m.beginnings t from message now hears.heard k.known hears.hears now_known.right).count ∙ k.count;
        };
        bytes = bytes k.known;
        awaits = awaits_news t hears.heard told now_known hears.tells;
      })
  news_of (Some f) k = record {
    before = m.beginnings;
    reading = k;
    from = from;
    message = message;
    now = now;
    hears = hears;
    bytes = bytes k.linked.kept.known;
    known = known k.linked.kept.known;
  }

  pub hears_of : HearsOf (record m { beginnings = t }) told
  hears_of = record {
    wanted = record { verify = way.wanted.verify; some = way.wanted.some; inside = way.wanted.inside };
    file = file_stays m.cap m.from m.to (entries_of m) t.holdings.requests.entries (found_of m.found) goes.stays way.file;
    news = news_of m.found way.phase;
  }

-- ---- a second

module _ (m : Machine) (t : BeginningsState) (now : ℕ) (way : IsUnderWay m) (goes : GoesFrom (entries_of m) t.holdings.requests.entries) (ticks : Ticks now m.beginnings.holdings t.holdings) (same : t.begun ≡ m.beginnings.begun)
    (known : AreBegun m.beginnings → AreBegun t) (opening : AreBegun m.beginnings → AreOpening nobody m.beginnings → AreOpening nobody t) where
  passed_of : (f : Option FoundFile) → IsInPhase m.cap.total m.beginnings f → HasPassed m.cap.total t f
  passed_of None k = record { known = known k.known; opening = opening k.known k.opening; count = ticks.table.count ∙ k.count }
  passed_of (Some f) k = record { before = m.beginnings; reading = k; now = now; ticks = ticks; begun = same; known = known k.linked.kept.known }

  pub passes_of : PassesOn (record m { beginnings = t })
  passes_of = record {
    wanted = record { verify = way.wanted.verify; some = way.wanted.some; inside = way.wanted.inside };
    file = file_stays m.cap m.from m.to (entries_of m) t.holdings.requests.entries (found_of m.found) goes.stays way.file;
    passed = passed_of m.found way.phase;
  }

-- A file of which other readers are listed is read as before.
use Rattle.std.proofs.Common.{◌≡◌, ℕ, None, Result, Ok, Err, OnOk, refl}
use Rattle.download_shares.specs.BeginningState.{BeginningsState}
use Rattle.download_shares.proofs.Opened.{goes_none}
use Rattle.download_file.specs.Asked.{AsksNoMore}
use Rattle.download_file.specs.Changes.{IsSameFile, StaysRead}
use Rattle.download_file.specs.Right.{IsFile}
use Rattle.download_file.specs.State.{FileState, IsHeard, copies, waiting_at}
use Rattle.download_core.specs.Reading.{AreReading}
use Rattle.download_core.specs.ReadingState.{ReadingState}
use Rattle.download_core.specs.ReadingSteps.{Continues}
use Rattle.download_core.proofs.Awaited.{goes_awaits}
use Rattle.download_core.proofs.Busy.{busy_file}
use Rattle.download_core.proofs.Ended.{adds_none, asks_none}
use Rattle.download_core.proofs.Fallen.{file_goes}

pub relisted : (s : BeginningsState) (r : ReadingState) (f : FileState) → AreReading s r → ((q : ℕ) → IsHeard f q → IsHeard r.file q) → ((q : ℕ) → IsHeard r.file q → IsHeard f q)
    → copies f ≡ copies r.file → ((q : ℕ) → waiting_at f q ≡ waiting_at r.file q) → AsksNoMore r.file f → StaysRead r.file f → IsFile f → f.handout.geometry ≡ r.file.handout.geometry
    → AreReading s (record r { file = f })
relisted s r f before back forth shared waits asked stays right geometry = record {
  linked = file_goes s r f before.linked back forth shared asked (stays s.holdings.requests.entries before.linked.kept.answers) right geometry;
  awaits = goes_awaits None s r f before.awaits back (λ q k. waits q);
  busy = busy_file None s r (record r { file = f }) refl before.busy;
}

pub relisted_continues : (s : BeginningsState) (r : ReadingState) (f : FileState) → IsSameFile r.file f → StaysRead r.file f → f.handout ≡ r.file.handout → Continues s r s (record r { file = f })
relisted_continues s r f same stays handout = record {
  goes = goes_none s s refl refl;
  same = same;
  pieces = adds_none r.file.handout f.handout handout;
  answers = λ a. stays s.holdings.requests.entries a;
  reads = asks_none r.file s s refl;
}

pub on_ok_two : {X E : Type 0} (x : Result X E) (P Q R : Type 0) → OnOk x P → OnOk x Q → (P → Q → R) → OnOk x R
on_ok_two (Ok v) P Q R p q f = f p q
on_ok_two (Err e) P Q R p q f = tt

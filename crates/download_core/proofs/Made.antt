-- A segment is made, or not.
use Rattle.std.proofs.Common.{◌≡◌, ◌<◌, List, None, refl, ap, arith}
use Rattle.std.specs.Prelude.{slice_get}
use Rattle.download_shares.specs.BeginningState.{BeginningsState}
use Rattle.download_segments.specs.State.{HandoutState, IsHandout}
use Rattle.request_record.specs.declared.requests.Request.{Request}
use Rattle.download_file.specs.Answers.{IsRead}
use Rattle.download_file.specs.Asked.{AsksNoMore}
use Rattle.download_file.specs.Changes.{IsSameFile}
use Rattle.download_file.specs.Making.{MakesPieces}
use Rattle.download_file.proofs.ManyLemmas.{gets_pieces}
use Rattle.download_file.specs.Right.{IsFile}
use Rattle.download_file.specs.State.{FileState, ReaderState, waiting_in}
use Rattle.download_core.specs.Reading.{AreReading}
use Rattle.download_core.specs.ReadingState.{ReadingState}
use Rattle.download_core.specs.ReadingSteps.{left_count, work}
use Rattle.download_core.proofs.Awaited.{goes_awaits}
use Rattle.download_core.proofs.Busy.{busy_file}
use Rattle.download_core.proofs.Fallen.{made_reading}
use Rattle.download_core.proofs.Listed.{heard_same}

pub all_made : (s : BeginningsState) (r : ReadingState) (f : FileState) → AreReading s r → f.live ≡ r.file.live → f.aside ≡ r.file.aside → f.readers ≡ r.file.readers → AsksNoMore r.file f → IsRead s.holdings.requests.entries f → IsFile f → IsSameFile r.file f
    → AreReading s (record r { file = f })
all_made s r f before lives asides readers asked answers right same = record {
  linked = made_reading s r f before.linked lives asides readers asked answers right same;
  awaits = goes_awaits None s r f before.awaits (heard_same r.file f lives asides) (λ q k. ap (λ (l : List ReaderState). waiting_in (slice_get l q)) readers);
  busy = busy_file None s r (record r { file = f }) refl before.busy;
}

-- less is to be made
pub less_made : (entries : List Request) (s : BeginningsState) (r : ReadingState) (f : FileState) → IsHandout r.file.handout → MakesPieces entries r.file f → work s (record r { file = f }) < work s r
less_made entries s r f right made =
    let k = gets_pieces entries r.file f right made in
    let far = k.far in
    let within = k.right.within in
    let to = k.to in
    omega (arith, far, within, to)

-- one less may be blamed
pub less_blamed : (s t : BeginningsState) (r q : ReadingState) → q.file.handout ≡ r.file.handout → left_count t.holdings.table.holdings < left_count s.holdings.table.holdings → work t q < work s r
less_blamed s t r q same fewer =
    let to = ap (λ (h : HandoutState). h.to) same in
    let reached = ap (λ (h : HandoutState). h.reached) same in
    omega (arith, to, reached, fewer)

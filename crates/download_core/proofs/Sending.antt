-- A request is sent: nothing else changes.
use Rattle.lemmas.proofs.Positions.{get_of}
use Rattle.std.proofs.Common.{◌≡◌, ◌≢◌, ℕ, ◌<◌, inl, inr, List, [], ◌∷◌, length, All, Option, Some, None, refl, ap, subst, ◌∙◌}
use Rattle.std.specs.Prelude.{slice_get}
use Rattle.std.proofs.lemmas.List.Elements.{All-head}
use Rattle.cap_text.specs.Cap.{VerifyCapValue, verify_cap_of}
use Rattle.wire.specs.declared.message.Message.{Message}
use Rattle.request_record.specs.declared.requests.Request.{Request}
use Rattle.request_record.specs.Record.{IsRecord, RequestsState}
use Rattle.request_record.specs.Asking.{IsFrame, IsWriting, SendsFirst}
use Rattle.download_shares.specs.Opening.{nobody}
use Rattle.download_shares.specs.BeginningState.{BeginningsState}
use Rattle.download_core.specs.Laws.{with_outgoing}
use Rattle.download_core.proofs.Sent.{sent}
use Rattle.download_core.specs.declared.state.Machine.{Machine}
use Rattle.download_core.specs.declared.status.DownloadStatus.{DownloadStatus}
use Rattle.download_core.specs.declared.status.DownloadStatus.TheVariants.{Running, Done, NotEnoughShares, Inconsistent, Failed}
use Rattle.download_core.specs.Reads.{AsksOrReads}
use Rattle.download_core.specs.Sending.{Takes, first_of}
use Rattle.download_core.specs.Steps.{AreOpened, entries_of, state_of}

-- the record with another list of what to send
abbrev pub sent_with : BeginningsState → RequestsState → BeginningsState
sent_with s q = record s { holdings = record s.holdings { requests = q } }

-- one that has not failed sends
pub first_still : (status : DownloadStatus) (outgoing : List ℕ) → status ≢ Failed → first_of status outgoing ≡ slice_get outgoing 0
first_still Running outgoing runs = refl
first_still Done outgoing runs = refl
first_still NotEnoughShares outgoing runs = refl
first_still Inconsistent outgoing runs = refl
first_still Failed outgoing runs = absurd (runs refl)

-- ---- what is sent

-- what a download asks is no writing
no_writing : (entries : List Request) → AsksOrReads entries → (position : ℕ) (r : Request) → slice_get entries position ≡ Some r → IsWriting r.asked → ⊥
no_writing entries asks position r there w = elim (asks position r there) [
  | inl held ↦ subst IsWriting held w
  | inr own ↦ subst IsWriting own.asked w
]

-- where nothing is sent, there is nothing to send
none_first : (index : List ℕ) (old new : RequestsState) → IsRecord old → AsksOrReads old.entries → SendsFirst index old None new → slice_get old.outgoing 0 ≡ None
none_first index old new right asks nothing = by old.outgoing refl right.there
  where
    by : (l : List ℕ) → old.outgoing ≡ l → All (λ position. position < length old.entries) l → slice_get l 0 ≡ None
    by [] e there = refl
    by (position ∷ rest) e there =
        let at = get_of old.entries position (All-head (λ (p : ℕ). p < length old.entries) position rest there) in
        absurd (no_writing old.entries asks position at.0 at.1 (nothing.1 position at.0 (ap (λ (l : List ℕ). slice_get l 0) e) at.1))

pub sends : (m : Machine) (out : RequestsState) (o : Option (ℕ × Message)) → m.verify ≡ verify_cap_of m.cap → IsRecord m.beginnings.holdings.requests → AsksOrReads (entries_of m)
    → SendsFirst m.verify.storage_index m.beginnings.holdings.requests o out
    → (servers : List ℕ) (status : DownloadStatus) → status ≢ Failed → Takes (state_of m servers status) o (state_of (record m { beginnings = sent_with m.beginnings out }) servers status)
sends m out None verify right asks sent servers status runs = (
  first_still status m.beginnings.holdings.requests.outgoing runs ∙ none_first m.verify.storage_index m.beginnings.holdings.requests out right asks sent,
  ap (λ (x : RequestsState). state_of (record m { beginnings = sent_with m.beginnings x }) servers status) sent.0,
)
sends m out (Some f) verify right asks sent servers status runs = (
  sent.0,
  first_still status m.beginnings.holdings.requests.outgoing runs ∙ sent.1,
  subst (λ (c : VerifyCapValue). IsFrame c.storage_index m.beginnings.holdings.requests sent.0 f.0 f.1) verify sent.2,
  ap (λ (x : RequestsState). state_of (record m { beginnings = sent_with m.beginnings x }) servers status) sent.3,
)

-- ---- what holds of the shares that are opened

pub sent_opened : (s : BeginningsState) (outgoing : List ℕ) (total : ℕ) → AreOpened total nobody s → AreOpened total nobody (with_outgoing outgoing s)
sent_opened s outgoing total k = record {
  known = (sent s outgoing k.known).0;
  opening = record {
    each = λ position h b is there. (let o = k.opening.each position h b is there in record { reads = o.reads; taken = o.taken; unread = o.unread; choosable = o.choosable });
    works = λ share position n at reads other. (
        let o = k.opening.works share position n at reads other in
        record { begun = o.begun; is = o.is; request = o.request; waiting = o.waiting; out = o.out });
  };
  count = k.count;
}

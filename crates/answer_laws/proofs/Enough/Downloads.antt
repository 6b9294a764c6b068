-- Where enough shares are told, a download gives up only where a request was lost.
use Rattle.std.proofs.Common.{◌≡◌, ◌≢◌, ◌⊎◌, ℕ, zero, suc, ◌<◌, List, [], ◌∷◌, All, length, get_or, take, drop, refl, sym, subst, ap, ◌∙◌, inl, inr, arith}
use Rattle.std.specs.Prelude.{Contains, slice_index_or}
use Rattle.std.proofs.lemmas.List.{length-map}
use Rattle.std.proofs.lemmas.List.Elements.{All-map, All-from_get_or, Contains-get_or}
use Rattle.lemmas.proofs.Members.{contains_cases, contains_head, contains_none, contains_tail}
use Rattle.lemmas.proofs.Positions.{got}
use Rattle.tagged_hash.specs.Clash.{HasNoClashIn}
use Rattle.cap_text.specs.Cap.{verify_cap_of}
use Rattle.ueb.specs.Shape.{Contents}
use Rattle.wire.specs.declared.message.Body.{Body}
use Rattle.wire.specs.declared.message.Body.TheVariants.{Data, NoShare}
use Rattle.wire.specs.declared.message.HeldShare.{HeldShare}
use Rattle.placement.specs.Matching.{Pair, shares_of}
use Rattle.request_record.specs.declared.requests.Outcome.TheVariants.{Answered}
use Rattle.request_record.specs.declared.requests.Request.{Request}
use Rattle.download_shares.specs.Left.{IsBlamed, IsGone, IsOffered}
use Rattle.file_encoding.specs.Reading.{IsAmong}
use Rattle.file_encoding.proofs.Pigeonhole.{no_more}
use Rattle.download_core.specs.Ends.{HasTooFew}
use Rattle.download_core.specs.State.{DownloadState}
use Rattle.download_core.specs.declared.status.DownloadStatus.{DownloadStatus}
use Rattle.download_core.specs.declared.status.DownloadStatus.TheVariants.{Done, NotEnoughShares}
use Rattle.answer_laws.specs.Downloads.Answers.{AnsweredOther}
use Rattle.answer_laws.specs.Downloads.Downloads.{AreSharesFor, IsDownloadBy}
use Rattle.answer_laws.proofs.Downloads.Downloads.{downloads_are_fair}
use Rattle.answer_laws.specs.Asking.Asked.{AsksAll}
use Rattle.answer_laws.specs.Enough.Answers.{TellsShare, WasLost}
use Rattle.answer_laws.specs.Enough.Downloads.{AreEnough, EnoughAreFound, EnoughAreFoundIn, WasLostOf}
use Rattle.answer_laws.proofs.Enough.Answers.{IsAnsweredAsk, answered_ask, lost_or_not}

-- ---- a request to one of some servers was lost, or none

pub lost_of_or_none : (entries : List Request) (pairs : List Pair) → WasLostOf entries pairs ⊎ ((pair : Pair) → Contains pairs pair → WasLost entries pair.0 → ⊥)
lost_of_or_none entries [] = inr (λ pair c lost. contains_none pair c)
lost_of_or_none entries (p ∷ ps) = elim (lost_of_or_none entries ps) [
  | inl later ↦ inl record { pair = later.pair; among = contains_tail p later.pair ps later.among; lost = later.lost }
  | inr none ↦ elim (lost_or_not entries p.0) [
    | inl lost ↦ inl record { pair = p; among = contains_head p ps; lost = lost }
    | inr here ↦ inr (λ pair c lost. elim (contains_cases p pair ps c) [
      | inl same ↦ here (subst (λ (q : Pair). WasLost entries q.0) (sym same) lost)
      | inr also ↦ none pair also lost
    ])
  ]
]

-- ---- what is told is offered, and left

ended_not_done : (s : DownloadStatus) → s ≡ NotEnoughShares → s ≢ Done
ended_not_done s few done = never (sym few ∙ done) where
  never : NotEnoughShares ≡ Done → ⊥
  never e = cc

not_data : (bytes : List ℕ) (said : Body) → said ≡ NoShare → said ≡ Data bytes → ⊥
not_data bytes said none e = never (sym none ∙ e) where
  never : NoShare ≡ Data bytes → ⊥
  never f = cc

same_data : (a b : List ℕ) → Data a ≡ Data b → a ≡ b
same_data a b e = cc

offered_by : (entries : List Request) (server num : ℕ) → IsAnsweredAsk entries server num → IsOffered entries server num
offered_by entries server num a =
    let digest : List ℕ = a.lists.0 in
    let lists = a.lists.1 in
    let held : HeldShare = record { share = num; digest = digest } in
    record {
      position = a.position;
      request = a.request;
      there = a.there;
      of_server = a.of_server;
      asked = a.asked;
      readonly = lists.readonly;
      held = lists.found;
      answer = a.answer ∙ ap Answered lists.is;
      index = lists.listed.0;
      listed = held;
      among = got lists.found lists.listed.0 held lists.listed.1 (sym lists.listed.2);
      number = refl;
    }

not_gone : (entries : List Request) (server num : ℕ) (share : List ℕ) → TellsShare entries server num share → (WasLost entries server → ⊥) → IsGone entries server num → ⊥
not_gone entries server num share tells none g = elim g.gone [
  | inl lost ↦ none record { position = g.position; request = g.request; there = g.there; of_server = g.of_server; lost = lost }
  | inr no_share ↦ not_data (take g.len (drop g.offset share)) NoShare refl (tells.reads g.position g.offset g.len g.request NoShare g.there g.of_server g.asked no_share)
]

not_other : (entries : List Request) (server num : ℕ) (share : List ℕ) → TellsShare entries server num share → AnsweredOther entries server num share → ⊥
not_other entries server num share tells a =
    a.other (same_data a.bytes (take a.len (drop a.offset share)) (tells.reads a.position a.offset a.len a.request (Data a.bytes) a.there a.of_server a.asked a.answer))

-- ---- so it is one of the numbers that are left

module _ (IsOne : List ℕ → Type 0) (no_clash : HasNoClashIn IsOne) (d : DownloadState) (u : Contents) (shares : List (List ℕ)) (servers : List ℕ) (pairs : List Pair)
    (by : IsDownloadBy IsOne u d) (are : AreSharesFor IsOne (verify_cap_of d.cap) u shares) (asks : AsksAll servers d.requests.entries) (enough : AreEnough d shares servers pairs) (too_few : HasTooFew d)
    (none : (pair : Pair) → Contains pairs pair → WasLost d.requests.entries pair.0 → ⊥) where
  abbrev entries : List Request
  entries = d.requests.entries

  not_blamed : (pair : Pair) → TellsShare entries pair.0 pair.1 (slice_index_or shares pair.1 []) → IsBlamed d.blamed pair.0 pair.1 → ⊥
  not_blamed pair tells b =
      let other = downloads_are_fair IsOne no_clash d u shares b.position b.blame by are b.there in
      not_other entries pair.0 pair.1 (slice_index_or shares pair.1 []) tells
      (subst (λ n. AnsweredOther entries pair.0 n (slice_index_or shares n [])) b.of_share
      (subst (λ n. AnsweredOther entries n b.blame.share (slice_index_or shares b.blame.share [])) b.of_server other))

  is_left : (pair : Pair) → Contains pairs pair → Contains too_few.few.numbers pair.1
  is_left pair c =
      let told = enough.told pair c in
      let share : List ℕ = slice_index_or shares pair.1 [] in
      let ask = answered_ask entries servers pair.0 pair.1 share too_few.quiet asks told.of told.tells (none pair c) in
      too_few.few.all pair.0 pair.1 told.low (offered_by entries pair.0 pair.1 ask)
      (not_gone entries pair.0 pair.1 share told.tells (none pair c), not_blamed pair told.tells)

  among : (number : ℕ) → Contains too_few.few.numbers number → IsAmong number too_few.few.numbers
  among number c = (c.0, c.1, is_at too_few.few.numbers c.0 number c.1 c.2) where
    is_at : (xs : List ℕ) (k x : ℕ) → k < length xs → get_or xs k x ≡ x → get_or xs k 0 ≡ x
    is_at [] k x low e = absurd (omega (arith, low))
    is_at (y ∷ ys) zero x low e = e
    is_at (y ∷ ys) (suc k) x low e = is_at ys k x (omega (arith, low)) e

  each : All (λ number. IsAmong number too_few.few.numbers) (shares_of pairs)
  each = All-map (λ number. IsAmong number too_few.few.numbers) (λ (p : Pair). p.1) pairs
      (All-from_get_or (λ (p : Pair). IsAmong p.1 too_few.few.numbers) pairs (0, 0)
      (λ i low. let p : Pair = get_or pairs i (0, 0) in among p.1 (is_left p (Contains-get_or pairs i (0, 0) low))))

  pub too_many : ⊥
  too_many =
      let most = no_more (shares_of pairs) too_few.few.numbers enough.different each in
      let count : length (shares_of pairs) ≡ length pairs = length-map pairs (λ (p : Pair). p.1) in
      let few = too_few.few.few in
      let needed = enough.count in
      omega (arith, most, count, few, needed)

pub enough_found : (IsOne : List ℕ → Type 0) → EnoughAreFoundIn IsOne
enough_found IsOne no_clash d u shares servers pairs by are asks enough ended = elim (lost_of_or_none d.requests.entries pairs) [
  | inl lost ↦ lost
  | inr none ↦ absurd (too_many IsOne no_clash d u shares servers pairs by are (asks (ended_not_done d.status ended)) enough (by.right.few ended) none)
]

pub enough_are_found : EnoughAreFound
enough_are_found inputs = enough_found (Contains inputs)

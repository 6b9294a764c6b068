-- A second passed while a file is read.
use Rattle.std.proofs.Common.{◌≡◌, ℕ, ◌+◌, ◌⊎◌, inl, inr, true, List, Contains, max, Some, None, refl, sym, ap, subst, ◌∙◌, arith}
use Rattle.std.specs.Prelude.{slice_get}
use Rattle.lemmas.proofs.Options.{one_there}
use Rattle.request_record.specs.declared.requests.Request.{Request}
use Rattle.request_record.specs.Record.{RequestsState, is_lost_at, is_outstanding, ticked_one}
use Rattle.request_record.specs.Asking.{lost_by_tick}
use Rattle.download_shares.specs.HoldingMoves.{Ticks}
use Rattle.download_shares.specs.Table.{IsHolding}
use Rattle.download_shares.specs.declared.holding.Holding.{Holding}
use Rattle.download_shares.proofs.Goes.{only_owner}
use Rattle.download_shares.proofs.HoldingTicking.{get_map, listed, ticked_cases}
use Rattle.download_shares.specs.Known.{AreBegun}
use Rattle.download_shares.specs.Reads.{IsAnsweredBy, IsOutAt, IsReadAt}
use Rattle.download_shares.specs.BeginningState.{BeginningsState}
use Rattle.download_shares.proofs.Entries.{read_grows}
use Rattle.download_shares.proofs.BeginningTicking.{alike_ticked, grows_ticked, out_ticked, ticked_falls}
use Rattle.download_file.specs.Answers.{IsRead}
use Rattle.download_file.specs.State.{IsHeard}
use Rattle.download_file.specs.declared.reader.Waiting.{Waiting}
use Rattle.download_file.proofs.GrowLemmas.{reads_keep}
use Rattle.download_core.specs.Reading.{AreAwaited, AreBusy, AreKept, AreReading, IsAskedOf, IsGone, IsReadNow, IsReading}
use Rattle.download_core.specs.ReadingState.{ReadingState}
use Rattle.download_core.proofs.Awaited.{fallen_awaits, read_as, read_back}
use Rattle.download_core.proofs.Busy.{busy_falls}
use Rattle.download_core.proofs.Fallen.{fallen_kept, fallen_live}
use Rattle.download_core.proofs.Follows.{Follows, follows_falls, read_of_some, readers_same}

module _ (s u : BeginningsState) (r : ReadingState) (now : ℕ) (reading : AreReading s r) (ticks : Ticks now s.holdings u.holdings) (same : u.begun ≡ s.begun) (known : AreBegun u) where
  abbrev pub es : List Request
  es = s.holdings.requests.entries

  abbrev pub ns : List Request
  ns = u.holdings.requests.entries

  abbrev pub was : AreBegun s
  was = reading.linked.kept.known

  abbrev pub at : ℕ
  at = max s.holdings.requests.clock now

  follows : Follows s.holdings.table u.holdings.table
  follows = follows_falls s.holdings.table u.holdings.table (ticked_falls s u now was ticks same)

  pub ticked_answers : IsRead ns r.file
  ticked_answers = reads_keep es ns r.file (λ position q body there answer. (grows_ticked s u now was ticks same).stays position q there (ap is_outstanding answer)) reading.linked.kept.answers

  pub ticked_kept : AreKept u r
  ticked_kept = fallen_kept s u r reading.linked known follows (readers_same s.begun u.begun same) (alike_ticked s u now was ticks same) ticked_answers

  pub ticked_live : (q : ℕ) → IsHeard r.file q → IsReadNow u r q ⊎ IsGone u r q
  ticked_live = fallen_live s u r reading.linked known follows (readers_same s.begun u.begun same) (alike_ticked s u now was ticks same) ticked_answers

  -- what is out of a share that is left still is
  out_at : (holding : ℕ) (h g : Holding) (i offset len : ℕ) → IsHolding s.holdings.table holding h → IsHolding u.holdings.table holding g → g.left ≡ true → IsReadAt es h i offset len → IsOutAt es i → IsOutAt ns i
  out_at holding h g i offset len held is left read out = elim (ticked_cases at out.request) [
    | inl lost ↦ (
        let o = read_of_some s.holdings h i offset len was.right read in
        let one : holding ≡ o.holding = (only_owner s.holdings was.right i o.holding o.after o.owner).others holding h read.request held read.there read.of_server offset len read.asked in
        let zero_is : 0 + i ≡ i = omega arith in
        let among : Contains (lost_by_tick now s.holdings.requests) i = subst (Contains (lost_by_tick now s.holdings.requests)) zero_is (listed (is_lost_at at) es 0 i out.request out.there lost) in
        absurd (((ticks.table.holdings holding h g held is).3 left).1 (i, among, o.after, o.owner ∙ ap Some (sym one))))
    | inr kept ↦ record {
      request = ticked_one at out.request;
      there = ap (λ (q : RequestsState). slice_get q.entries i) ticks.requests ∙ get_map (ticked_one at) es i out.request out.there;
      waits = ap is_outstanding kept ∙ out.waits;
    }
  ]

  moved : (reader : ℕ) (g : Holding) (w : Waiting) → IsReading u r reader g → IsAskedOf es g w → IsOutAt es w.position → IsOutAt ns w.position
  moved reader g w k a o =
      let h = read_back s u r reading.linked.kept follows reader g k in
      let one : h.1.holding ≡ k.holding = one_there (slice_get r.holdings reader) h.1.holding k.holding h.1.of k.of in
      out_at k.holding h.0 g w.position w.wanted.read.offset w.wanted.read.length (subst (λ x. IsHolding s.holdings.table x h.0) one h.1.is) k.is k.left
      (read_as es g h.0 w.position w.wanted.read.offset w.wanted.read.length (sym h.2) (sym h.3) a.read) o

  still : (reader : ℕ) (g : Holding) (w : Waiting) → IsReading u r reader g → IsAskedOf es g w → IsAskedOf ns g w
  still reader g w k a = record {
    read = read_grows es ns g g w.position w.wanted.read.offset w.wanted.read.length (grows_ticked s u now was ticks same) refl refl a.read;
    state = state_of a.state;
  }
    where
      state_of : IsOutAt es w.position ⊎ ((b : List ℕ) × IsAnsweredBy es w.position b) → IsOutAt ns w.position ⊎ ((b : List ℕ) × IsAnsweredBy ns w.position b)
      state_of (inl o) = inl (moved reader g w k a o)
      state_of (inr b) = inr (b.0, record { request = b.1.request; there = (grows_ticked s u now was ticks same).stays w.position b.1.request b.1.there (ap is_outstanding b.1.answer); answer = b.1.answer })

  pub ticked_awaits : AreAwaited None u r
  ticked_awaits = fallen_awaits s u r reading.linked.kept follows None None reading.awaits still (λ reader g w k other. (other, moved reader g w k))

  pub ticked_busy : AreBusy None u r
  ticked_busy = busy_falls s u r reading.busy (ticked_falls s u now was ticks same) (out_ticked s u now was ticks same)

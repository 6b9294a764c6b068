-- The beginnings of shares after a tick.
use Rattle.std.proofs.Common.{◌≡◌, ℕ, ◌+◌, ◌-◌, ◌<◌, ◌≤◌, inl, inr, Bool, true, cond, List, Contains, length, max, Option, Some, None, sym, ap, subst, ◌∙◌, arith}
use Rattle.std.specs.Prelude.{slice_get, slice_index_or}
use Rattle.std.proofs.lemmas.Bool.{cases_lt}
use Rattle.std.proofs.lemmas.Option.{slice_get-get_or, slice_get_within}
use Rattle.lemmas.proofs.Options.{one_there}
use Rattle.wire.specs.declared.message.Body.TheVariants.{Have}
use Rattle.request_record.specs.declared.requests.Asked.TheVariants.{Holdings, Reading}
use Rattle.request_record.specs.declared.requests.Outcome.TheVariants.{Answered, Lost}
use Rattle.request_record.specs.declared.requests.Request.{Request}
use Rattle.request_record.specs.Record.{RequestsState, is_lost_at, is_outstanding, is_resent_at, resent_one, ticked_one, with_outcome}
use Rattle.request_record.specs.Asking.{after_tick, lost_by_tick}
use Rattle.share_reading.specs.declared.opening.Opening.{Opening}
use Rattle.download_shares.specs.Left.{IsOffered}
use Rattle.download_shares.specs.HoldingMoves.{IsAmong, Ticks}
use Rattle.download_shares.specs.Right.{IsRight}
use Rattle.download_shares.specs.Table.{IsHolding, IsTable}
use Rattle.download_shares.specs.declared.holding.Holding.{Holding}
use Rattle.download_shares.proofs.Goes.{only_owner}
use Rattle.download_shares.proofs.Records.{AskedAlike, alike_tick}
use Rattle.download_shares.proofs.HoldingTicking.{from_map, get_map, listed, tick_goes, ticked_cases}
use Rattle.download_shares.specs.Known.{AreBegun, IsNextAt}
use Rattle.download_shares.specs.Opening.{AreOpening, IsOut, nobody}
use Rattle.download_shares.specs.Reads.{IsReadAt}
use Rattle.download_shares.specs.BeginningState.{BeginningsState}
use Rattle.download_shares.specs.declared.begun.Begun.{Begun}
use Rattle.download_shares.proofs.Entries.{Grows, grows_goes}
use Rattle.download_shares.proofs.Falling.{Falls, falls_all}
use Rattle.download_shares.proofs.Knowing.{keeps_same, known_goes, shares_fall}
use Rattle.download_shares.proofs.Openings.{opening_falls}

lost_one : (now : ℕ) (q : Request) → is_lost_at now q ≡ true → (ticked_one now q).outcome ≡ Lost
lost_one now q e = ap (λ (b : Bool). (cond b (with_outcome q Lost) (cond (is_resent_at now q) (resent_one now q) q)).outcome) e

module _ (s u : BeginningsState) (now : ℕ) (known : AreBegun s) (ticks : Ticks now s.holdings u.holdings) (same : u.begun ≡ s.begun) where
  abbrev pub at : ℕ
  at = max s.holdings.requests.clock now

  abbrev pub es : List Request
  es = s.holdings.requests.entries

  pub ticked_falls : Falls s.holdings.table u.holdings.table
  ticked_falls = falls_all (IsAmong s.holdings.servers s.holdings.owners (lost_by_tick now s.holdings.requests)) s.holdings.table u.holdings.table ticks.table

  pub grows_ticked : Grows es u.holdings.requests.entries
  grows_ticked = subst (λ (r : RequestsState). Grows es r.entries) (sym ticks.requests) (grows_goes es (after_tick now s.holdings.requests).entries (tick_goes now s.holdings.requests))

  pub alike_ticked : AskedAlike es u.holdings.requests.entries
  alike_ticked = subst (λ (r : RequestsState). AskedAlike es r.entries) (sym ticks.requests) (alike_tick now s.holdings.requests)

  there_after : (i : ℕ) (n : Request) → slice_get u.holdings.requests.entries i ≡ Some n → (q : Request) × (slice_get es i ≡ Some q) × (ticked_one at q ≡ n)
  there_after i n e = from_map (ticked_one at) es i n (sym (ap (λ (r : RequestsState). slice_get r.entries i) ticks.requests) ∙ e)

  pub offered_ticked : (server share : ℕ) → IsOffered u.holdings.requests.entries server share → IsOffered es server share
  offered_ticked server share o =
      let q = there_after o.position o.request o.there in
      let w = alike_ticked o.position o.request o.there in
      let one : w.request ≡ q.0 = one_there (slice_get es o.position) w.request q.0 w.there q.1 in
      elim (ticked_cases at q.0) [
        | inl lost ↦ (let two : Lost ≡ Answered (Have o.readonly o.held) = sym (lost_one at q.0 lost) ∙ ap (λ (x : Request). x.outcome) q.2 ∙ o.answer in absurd cc)
        | inr kept ↦ record {
          position = o.position;
          request = q.0;
          there = q.1;
          of_server = sym (ap (λ (x : Request). x.server) one) ∙ w.of_server ∙ o.of_server;
          asked = sym (ap (λ (x : Request). x.asked) one) ∙ w.same ∙ o.asked;
          readonly = o.readonly;
          held = o.held;
          answer = sym kept ∙ ap (λ (x : Request). x.outcome) q.2 ∙ o.answer;
          index = o.index;
          listed = o.listed;
          among = o.among;
          number = o.number;
        }
      ]

  pub known_ticked : IsRight u.holdings → AreBegun u
  known_ticked right = known_goes s u known grows_ticked offered_ticked (shares_fall s.holdings.table u.holdings.table ticked_falls) right (ap length same) (keeps_same s.begun u.begun same)

  -- what is still to be answered, of one that is left
  pub out_ticked : (position : ℕ) (h : Holding) → IsHolding u.holdings.table position h → h.left ≡ true → IsOut s position → IsOut u position
  out_ticked position h is left out =
      let was = ticked_falls.back position h is in
      let r = read_of was.held was.is in
      let own = owner r.0 r.1 r.2 in
      elim (ticked_cases at out.out.request) [
        | inl lost ↦ (
            let zero_is : 0 + out.request ≡ out.request = omega arith in
            let among : Contains (lost_by_tick now s.holdings.requests) out.request = subst (Contains (lost_by_tick now s.holdings.requests)) zero_is (listed (is_lost_at at) es 0 out.request out.out.request out.out.there lost) in
            absurd (((ticks.table.holdings position was.held h was.is is).3 left).1 (out.request, among, own.0, own.1)))
        | inr kept ↦ record {
          begun = out.begun;
          is = ap (λ (l : List Begun). slice_get l position) same ∙ out.is;
          request = out.request;
          waiting = out.waiting;
          out = record {
            request = ticked_one at out.out.request;
            there = ap (λ (q : RequestsState). slice_get q.entries out.request) ticks.requests ∙ get_map (ticked_one at) es out.request out.out.request out.out.there;
            waits = ap is_outstanding kept ∙ out.out.waits;
          };
        }
      ]
    where
      read_of : (x : Holding) → IsHolding s.holdings.table position x → (x2 : Holding) × IsHolding s.holdings.table position x2 × ((offset : ℕ) × ((len : ℕ) × IsReadAt es x2 out.request offset len))
      read_of x held = by_opening out.begun.opening ((known.each position x out.begun held out.is).waits out.request out.waiting)
        where
          by_opening : (o : Option Opening) → IsNextAt es x o out.request → (x2 : Holding) × IsHolding s.holdings.table position x2 × ((offset : ℕ) × ((len : ℕ) × IsReadAt es x2 out.request offset len))
          by_opening None w = absurd w
          by_opening (Some o) w = (x, held, (_, (_, w)))

      owner : (x : Holding) → IsHolding s.holdings.table position x → (offset : ℕ) × ((len : ℕ) × IsReadAt es x out.request offset len) → (s.holdings.servers ≤ out.request) × (slice_get s.holdings.owners (out.request - s.holdings.servers) ≡ Some position)
      owner x held r = elim (cases_lt out.request s.holdings.servers) [
        | inl low ↦ (let two : Reading x.share r.0 r.1.0 ≡ Holdings = sym r.1.1.asked ∙ known.right.first out.request r.1.1.request r.1.1.there low in absurd cc)
        | inr high ↦ (
            let c = known.right.counted in
            let w = slice_get_within es out.request r.1.1.request r.1.1.there in
            let lt : out.request - s.holdings.servers < length s.holdings.owners = omega (arith, c, w, high) in
            let k = slice_index_or s.holdings.owners (out.request - s.holdings.servers) 0 in
            let own : slice_get s.holdings.owners (out.request - s.holdings.servers) ≡ Some k = slice_get-get_or s.holdings.owners (out.request - s.holdings.servers) 0 lt in
            let one : position ≡ k = (only_owner s.holdings known.right out.request k high own).others position x r.1.1.request held r.1.1.there r.1.1.of_server r.0 r.1.0 r.1.1.asked in
            (high, own ∙ ap Some (sym one)))
      ]

  pub opening_ticked : AreOpening nobody s → IsTable u.holdings.table → AreOpening nobody u
  opening_ticked opening table =
      opening_falls s u nobody nobody opening alike_ticked ticked_falls same (λ position b. b)
      (λ share position m is reads none out. (
      let p = table.positions share position m is (table.reading share position m is reads) in
      out_ticked position p.0 p.1 p.3 out))

-- The beginning of a share goes on.
use Rattle.std.proofs.Common.{◌≡◌, ℕ, ◌⊎◌, inl, inr, List, length, Option, Some, None, refl, sym, ap, subst, ◌∙◌, arith, false, true≢false}
use Rattle.std.specs.Prelude.{slice_get, slice_set}
use Rattle.std.proofs.lemmas.Bool.{cases_eq}
use Rattle.std.proofs.lemmas.List.{length-set}
use Rattle.std.proofs.lemmas.Option.{slice_get_within}
use Rattle.lemmas.proofs.Positions.{get_set}
use Rattle.lemmas.proofs.Options.{one_there}
use Rattle.cap_text.specs.Cap.{VerifyCapValue}
use Rattle.share_reading.specs.Opening.{Advances, next_length, next_offset}
use Rattle.share_reading.specs.OpeningReads.{IsLedToBy}
use Rattle.share_reading.specs.declared.block.Opened.{Opened}
use Rattle.share_reading.specs.declared.opening.Opening.{Opening}
use Rattle.share_reading.specs.declared.opening.Opening.TheVariants.{Start, Second, Header, Block}
use Rattle.share_reading.specs.declared.opening.Progress.TheVariants.{Next, Done}
use Rattle.share_reading.proofs.ReadLemmas.{lead_on}
use Rattle.request_record.specs.declared.requests.Request.{Request}
use Rattle.request_record.specs.Record.{RequestsState}
use Rattle.download_shares.specs.HoldingMoves.{Blames, IsUnasked}
use Rattle.download_shares.specs.Numbers.{released, without_position}
use Rattle.download_shares.specs.Right.{IsRight}
use Rattle.download_shares.specs.HoldingState.{HoldingsState, NumberState, TableState}
use Rattle.download_shares.specs.Table.{IsHolding, IsNumber, IsTable, Retires}
use Rattle.download_shares.specs.declared.holding.Holding.{Holding}
use Rattle.download_shares.proofs.Lists.{released_at, released_else}
use Rattle.share_verify.specs.declared.check.Check.{Check}
use Rattle.download_shares.specs.Known.{AreBegun, IsNextAt}
use Rattle.download_shares.specs.BeginningMoves.{AsksNext, Awaits, GoesOn, IsBlockAt, Rests, rested}
use Rattle.download_shares.specs.Opening.{AreOpening, IsFound, IsTaken, nobody}
use Rattle.download_shares.specs.Reads.{IsAnsweredBy, IsBeginning, IsReadAt, IsReadUpTo, brought_of}
use Rattle.download_shares.specs.BeginningState.{BeginningsState}
use Rattle.download_shares.specs.declared.begun.Begun.{Begun}
use Rattle.download_shares.proofs.Asking.{known_next, opening_next, unasked_next}
use Rattle.download_shares.proofs.Entries.{brought_has}
use Rattle.download_shares.proofs.Falling.{falls_one}
use Rattle.download_shares.proofs.Knowing.{keeps_set, known_blamed, known_same, shares_same}
use Rattle.download_shares.proofs.Opened.{goes_from, goes_none}
use Rattle.download_shares.proofs.Openings.{narrowed, opening_blamed, opening_rests}
use Rattle.download_shares.proofs.Reading.{goes_on}

-- what was retired is not read
pub retired_none : (holding share : ℕ) (t u : TableState) (m : NumberState) → IsTable t → Retires holding t u → IsNumber u share m → m.reading ≡ Some holding → ⊥
retired_none holding share t u m right r is reads =
    let falls = falls_one holding t u r in
    let n = falls.reading share holding m is reads in
    let p = right.positions share holding n.0 n.1 (right.reading share holding n.0 n.1 n.2) in
    let one : p.0 ≡ r.0 = one_there (slice_get t.holdings holding) p.0 r.0 p.1 r.1.is in
    let at : share ≡ r.0.share = sym p.2 ∙ ap (λ (h : Holding). h.share) one in
    let now = ap (λ (l : List NumberState). slice_get l share) r.2.numbers ∙ ap (slice_get (slice_set t.numbers r.0.share (without_position holding r.2.number))) at ∙ get_set t.numbers r.0.share (without_position holding r.2.number) r.2.number r.2.is in
    let same : without_position holding r.2.number ≡ m = one_there (slice_get u.numbers share) (without_position holding r.2.number) m now is in
    let gone : released holding r.2.number.reading ≡ Some holding = ap (λ (x : NumberState). x.reading) same ∙ reads in
    by r.2.number.reading gone
  where
    by : (o : Option ℕ) → released holding o ≡ Some holding → ⊥
    by None e = cc
    by (Some q) e = elim (cases_eq q holding) [
      | inl here ↦ (let two : None ≡ Some holding = sym (released_at holding q here) ∙ e in cc)
      | inr other ↦ (let two : Some q ≡ Some holding = sym (released_else holding q other) ∙ e in let one : q ≡ holding = cc in other one)
    ]

module _ (s w : BeginningsState) (holding : ℕ) (known : AreBegun s) (rests : Rests holding s w) where
  holdings_are : w.holdings ≡ s.holdings
  holdings_are = ap (λ (x : BeginningsState). x.holdings) rests.is

  pub rested_requests : w.holdings.requests ≡ s.holdings.requests
  rested_requests = ap (λ (x : HoldingsState). x.requests) holdings_are

  pub rested_known : AreBegun w
  rested_known = known_same s w known rested_requests (shares_same s.holdings.table w.holdings.table (ap (λ (x : HoldingsState). x.table.holdings) holdings_are) (ap (λ (x : HoldingsState). length x.table.numbers) holdings_are))
      (subst IsRight (sym holdings_are) known.right) (ap (λ (x : BeginningsState). length x.begun) rests.is ∙ length-set s.begun holding (rested rests.begun))
      (keeps_set s.begun w.begun holding rests.begun (rested rests.begun) rests.there (ap (λ (x : BeginningsState). x.begun) rests.is) refl (λ request e. (let two : None ≡ Some request = e in absurd cc)))

  pub rested_goes : GoesOn s w
  rested_goes = goes_none s w rested_requests (ap (λ (x : HoldingsState). x.blamed) holdings_are)

  pub goes_on_from : (u : BeginningsState) → GoesOn w u → GoesOn s u
  goes_on_from u g = goes_from s w u rested_requests (ap (λ (x : HoldingsState). x.blamed) holdings_are) g

  module _ (opening : AreOpening (λ other. other ≡ holding) s) where
    pub rested_opening : AreOpening (λ other. other ≡ holding) w
    rested_opening = opening_rests s w holding opening rests

    pub gone_opening : (h : Holding) → IsTable w.holdings.table → IsHolding w.holdings.table holding h → h.left ≡ false → AreOpening nobody w
    gone_opening h table is gone = narrowed w holding rested_opening
        (λ share m at reads. (
        let p = table.positions share holding m at (table.reading share holding m at reads) in
        true≢false (sym p.3 ∙ ap (λ (x : Holding). x.left) (one_there (slice_get w.holdings.table.holdings holding) p.0 h p.1 is) ∙ gone)))

    pub blamed_known : (u : BeginningsState) (check : Check) → Blames holding check w.holdings u.holdings → IsRight u.holdings → u.begun ≡ w.begun → AreBegun u
    blamed_known u check b right same = known_blamed w u holding check rested_known b (falls_one holding w.holdings.table u.holdings.table b.retired) right same

    pub blamed_opening : (u : BeginningsState) (check : Check) → IsTable w.holdings.table → Blames holding check w.holdings u.holdings → u.begun ≡ w.begun → AreOpening nobody u
    blamed_opening u check table b same = opening_blamed w u holding rested_opening (ap (λ (x : HoldingsState). x.requests) b.others) (falls_one holding w.holdings.table u.holdings.table b.retired) same
        (λ share m at reads. retired_none holding share w.holdings.table u.holdings.table m table b.retired at reads)

    pub found : IsFound w holding
    found = record {
      inside = (let l = ap (λ (x : BeginningsState). length x.begun) rests.is ∙ length-set s.begun holding (rested rests.begun) in let k = slice_get_within s.begun holding rests.begun rests.there in omega (arith, l, k));
      others = rested_opening;
      quiet = λ b is. (
          let now : slice_get w.begun holding ≡ Some (rested rests.begun) = ap (λ (x : BeginningsState). slice_get x.begun holding) rests.is ∙ get_set s.begun holding (rested rests.begun) rests.begun rests.there in
          ap (λ (x : Begun). x.waiting) (one_there (slice_get w.begun holding) b (rested rests.begun) is now));
    }

    module _ (o : Opening) (position : ℕ) (awaits : Awaits s holding position o) (bytes : List ℕ) (answered : IsAnsweredBy s.holdings.requests.entries position bytes) (verify : VerifyCapValue) where
      next_at : IsReadAt s.holdings.requests.entries awaits.held position (next_offset o) (next_length o)
      next_at = subst (λ (q : Option Opening). IsNextAt s.holdings.requests.entries awaits.held q position) awaits.of_opening
          ((known.each holding awaits.held awaits.begun awaits.is awaits.there).waits position awaits.waiting)

      held_now : (h : Holding) → IsHolding w.holdings.table holding h → awaits.held ≡ h
      held_now h is = one_there (slice_get s.holdings.table.holdings holding) awaits.held h awaits.is (sym (ap (λ (x : HoldingsState). slice_get x.table.holdings holding) holdings_are) ∙ is)

      reads_up_to : (h : Holding) (i offset len : ℕ) → IsHolding w.holdings.table holding h → IsReadAt w.holdings.requests.entries h i offset len → IsReadUpTo o offset len
      reads_up_to h i offset len is read =
          subst (λ (q : Option Opening). IsBeginning q offset len) awaits.of_opening
          ((opening.each holding awaits.held awaits.begun awaits.is awaits.there).reads i offset len
          (subst (λ (x : Holding). IsReadAt s.holdings.requests.entries x i offset len) (sym (held_now h is))
          (subst (λ (r : RequestsState). IsReadAt r.entries h i offset len) rested_requests read)))

      pub next_unasked : (next : Opening) → Advances verify o bytes (Next next) → IsUnasked w.holdings holding (next_offset next) (next_length next)
      next_unasked next a = unasked_next w verify holding awaits.begun o next bytes a (λ h i offset len is read. reads_up_to h i offset len is read)

      pub led_now : (next : Opening) → Advances verify o bytes (Next next) → (h : Holding) → IsHolding w.holdings.table holding h → IsLedToBy (brought_of w.holdings.requests.entries h.server h.share) next
      led_now next a h is =
          subst (λ (r : RequestsState). IsLedToBy (brought_of r.entries h.server h.share) next) (sym rested_requests)
          (subst (λ (x : Holding). IsLedToBy (brought_of s.holdings.requests.entries x.server x.share) next) (held_now h is)
          (lead_on verify (brought_of s.holdings.requests.entries awaits.held.server awaits.held.share) (brought_of s.holdings.requests.entries awaits.held.server awaits.held.share) o next bytes
          ((known.each holding awaits.held awaits.begun awaits.is awaits.there).led o awaits.of_opening) a (λ read h. h)
          (brought_has s.holdings.requests.entries awaits.held.server awaits.held.share (next_offset o, bytes)
          (record {
            position = position;
            request = next_at.request;
            there = next_at.there;
            of_server = next_at.of_server;
            len = next_length o;
            asked = next_at.asked;
            answer = ap (λ (r : Request). r.outcome) (one_there (slice_get s.holdings.requests.entries position) next_at.request answered.request next_at.there answered.there) ∙ answered.answer;
          }))))

      pub nexts_known : (u : BeginningsState) (next : Opening) → Advances verify o bytes (Next next) → AsksNext holding next w u → IsRight u.holdings → AreBegun u
      nexts_known u next a asks right = known_next w u holding next rested_known asks right (led_now next a)

      pub nexts_opening : (u : BeginningsState) (next : Opening) → Advances verify o bytes (Next next) → AsksNext holding next w u → AreOpening nobody u
      nexts_opening u next a asks = opening_next w u holding next rested_known asks (λ other. other ≡ holding) rested_opening (λ p b. b)
          (λ h i offset len is read. goes_on verify o next bytes offset len a (reads_up_to h i offset len is read))
          (λ h is. subst (λ (x : HoldingsState). (h.left ≡ false) ⊎ IsTaken x.table holding h) (sym holdings_are)
          (subst (λ (x : Holding). (x.left ≡ false) ⊎ IsTaken s.holdings.table holding x) (held_now h is)
          ((opening.each holding awaits.held awaits.begun awaits.is awaits.there).taken (λ e. (let two : Some o ≡ None = sym awaits.of_opening ∙ e in cc)))))
          (λ h is. (
          let old = opening.each holding awaits.held awaits.begun awaits.is awaits.there in
          let now : slice_get w.begun holding ≡ Some (rested rests.begun) = ap (λ (x : BeginningsState). slice_get x.begun holding) rests.is ∙ get_set s.begun holding (rested rests.begun) rests.begun rests.there in
          let one : asks.begun ≡ rested rests.begun = one_there (slice_get w.begun holding) asks.begun (rested rests.begun) asks.there now in
          let two : rests.begun ≡ awaits.begun = one_there (slice_get s.begun holding) rests.begun awaits.begun rests.there awaits.there in
          (ap (λ (x : Holding). x.suspended) (sym (held_now h is)) ∙ old.choosable, ap (λ (x : Begun). x.reader) one ∙ ap (λ (x : Begun). x.reader) two ∙ old.unread)))

      pub block_at : (done : Opened) → Advances verify o bytes (Done done) → IsBlockAt verify w.holdings.requests.entries position done
      block_at done a = subst (λ (r : RequestsState). IsBlockAt verify r.entries position done) (sym rested_requests) (by o a next_at)
        where
          by : (q : Opening) → Advances verify q bytes (Done done) → IsReadAt s.holdings.requests.entries awaits.held position (next_offset q) (next_length q) → IsBlockAt verify s.holdings.requests.entries position done
          by Start a at = absurd a
          by (Second p) a at = absurd a
          by (Header p) a at = absurd a
          by (Block b) a at = record {
            request = at.request;
            there = at.there;
            share = awaits.held.share;
            offset = next_offset (Block b);
            len = b.block_length;
            asked = at.asked;
            text = bytes;
            answer = ap (λ (r : Request). r.outcome) (one_there (slice_get s.holdings.requests.entries position) at.request answered.request at.there answered.there) ∙ answered.answer;
            whole = a.0;
            block = a.1.ueb;
            geometry = a.1.geometry;
          }

-- Nothing is known yet but whom to ask.
use Rattle.std.proofs.Common.{◌≡◌, ℕ, zero, suc, List, [], ◌∷◌, length, map, Some, None, sym, ap, ◌∙◌}
use Rattle.std.specs.Prelude.{slice_get, slice_index_or}
use Rattle.std.proofs.lemmas.Option.{get_or_from_slice_get, slice_get_within}
use Rattle.wire.specs.declared.message.Body.TheVariants.{Have}
use Rattle.request_record.specs.declared.requests.Asked.TheVariants.{Holdings}
use Rattle.request_record.specs.declared.requests.Outcome.TheVariants.{Answered, Outstanding}
use Rattle.request_record.specs.declared.requests.Request.{Request}
use Rattle.request_record.specs.Record.{RequestsState, first_request}
use Rattle.download_shares.specs.HoldingMoves.{Begins}
use Rattle.download_shares.specs.Numbers.{no_holding}
use Rattle.download_shares.specs.Right.{IsRight}
use Rattle.download_shares.specs.HoldingState.{NumberState}
use Rattle.download_shares.specs.Table.{IsHolding}
use Rattle.download_shares.specs.declared.holding.Holding.{Holding}
use Rattle.download_shares.proofs.BegunHoldings.{begun_entries}
use Rattle.download_shares.specs.Known.{AreBegun}
use Rattle.download_shares.specs.Opening.{AreOpening, nobody}
use Rattle.download_shares.specs.BeginningState.{BeginningsState}

one_of : (now : ℕ) (servers : List ℕ) (i : ℕ) (r : Request) → slice_get (map (λ server. first_request server Holdings now) servers) i ≡ Some r → r.outcome ≡ Outstanding
one_of now [] i r e = absurd cc
one_of now (s ∷ ss) zero r e = let is : first_request s Holdings now ≡ r = cc in sym (ap (λ (q : Request). q.outcome) is)
one_of now (s ∷ ss) (suc i) r e = one_of now ss i r e

module _ (total : ℕ) (servers : List ℕ) (session now : ℕ) (s : BeginningsState) (begins : Begins total servers session now s.holdings) (none : s.begun ≡ []) where
  no_holdings : (position : ℕ) (h : Holding) → IsHolding s.holdings.table position h → ⊥
  no_holdings position h e = let f : slice_get [] position ≡ Some h = sym (ap (λ (l : List Holding). slice_get l position) begins.holdings) ∙ e in absurd cc

  pub known_first : IsRight s.holdings → AreBegun s
  known_first right = record {
    right = right;
    counted = ap length none ∙ sym (ap length begins.holdings);
    each = λ position h b e there. absurd (no_holdings position h e);
    held = λ server share o below. absurd (
        let there : slice_get (map (λ server. first_request server Holdings now) servers) o.position ≡ Some o.request =
        sym (ap (λ (l : List Request). slice_get l o.position) (ap (λ (r : RequestsState). r.entries) begins.requests ∙ begun_entries servers session now)) ∙ o.there in
        let two : Outstanding ≡ Answered (Have o.readonly o.held) = sym (one_of now servers o.position o.request there) ∙ o.answer in
        cc);
  }

  pub opening_first : AreOpening nobody s
  opening_first = record {
    each = λ position h b e there. absurd (no_holdings position h e);
    works = λ share position n e reading none. absurd (
        let lt = slice_get_within s.holdings.table.numbers share n e in
        let is : n ≡ slice_index_or s.holdings.table.numbers share n = sym (get_or_from_slice_get s.holdings.table.numbers share n n e) in
        let un : slice_index_or s.holdings.table.numbers share n ≡ no_holding = begins.unread share n lt in
        let two : None ≡ Some position = sym (ap (λ (x : NumberState). x.reading) (is ∙ un)) ∙ reading in
        cc);
  }

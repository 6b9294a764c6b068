-- The bytes that a message brings are there.
use Rattle.std.proofs.Common.{◌≡◌, ℕ, ◌+◌, ◌-◌, inl, inr, true, List, Option, Some, None, refl, sym, ap, subst, ◌∙◌, arith}
use Rattle.std.specs.Prelude.{◌==◌, ◌&&◌, not, slice_get}
use Rattle.std.proofs.lemmas.Bool.{false≢true}
use Rattle.lemmas.proofs.Options.{chosen, one_there}
use Rattle.lemmas.proofs.Bools.{both}
use Rattle.wire.specs.declared.message.Body.{Body}
use Rattle.wire.specs.declared.message.Body.TheVariants.{Ask, Have, Allocate, Granted, Already, Busy, Full, Write, Wrote, WrongOffset, Close, Closed, NotComplete, Abort, Read, Data, NoShare}
use Rattle.wire.specs.declared.message.Message.{Message}
use Rattle.request_record.specs.declared.requests.Asked.{Asked}
use Rattle.request_record.specs.declared.requests.Asked.TheVariants.{Reading}
use Rattle.request_record.specs.declared.requests.Outcome.TheVariants.{Answered}
use Rattle.request_record.specs.declared.requests.Request.{Request}
use Rattle.request_record.specs.Record.{RequestsState, awaits_at, counts_at, fits, is_outstanding, with_outcome}
use Rattle.download_shares.specs.HoldingMoves.{Brings, Hears, HearsAt}
use Rattle.download_shares.specs.Right.{IsRight}
use Rattle.download_shares.specs.declared.holdings.Heard.{Heard}
use Rattle.download_shares.specs.declared.holdings.Heard.TheVariants as heard
use Rattle.download_shares.proofs.Goes.{answered_at}
use Rattle.download_shares.specs.BeginningMoves.{BringsBytes, IsNewsOf}
use Rattle.download_shares.specs.Reads.{IsAnsweredBy}
use Rattle.download_shares.specs.BeginningState.{BeginningsState}
use Rattle.download_shares.specs.declared.beginnings.News.{News}
use Rattle.download_shares.specs.declared.beginnings.News.TheVariants as news

fitting : (from : ℕ) (body : Body) (o : Option Request) → awaits_at from body o ≡ true → (r : Request) × (o ≡ Some r) × (fits r.asked body ≡ true)
fitting from body None e = absurd (false≢true e)
fitting from body (Some r) e = (r, refl, (both (is_outstanding r.outcome && (r.server == from)) (fits r.asked body) e).1)

pub fits_at : (from : ℕ) (m : Message) (s : RequestsState) (position : ℕ) → counts_at from m s ≡ Some position → (r : Request) × (slice_get s.entries position ≡ Some r) × (fits r.asked m.body ≡ true)
fits_at from m s position e =
    let at = slice_get s.entries (m.number - 1) in
    let t = chosen ((m.session == s.session) && not (m.number == 0) && awaits_at from m.body at) (m.number - 1) position e in
    let last = (both ((m.session == s.session) && not (m.number == 0)) (awaits_at from m.body at) t.0).1 in
    let f = fitting from m.body at last in
    (f.0, ap (slice_get s.entries) (sym t.1) ∙ f.1, f.2)

fits_data : (share o l : ℕ) (body : Body) → fits (Reading share o l) body ≡ true → (body ≡ NoShare → ⊥) → (bytes : List ℕ) × (body ≡ Data bytes)
fits_data share o l (Ask i) e some = absurd (false≢true e)
fits_data share o l (Have r k) e some = absurd (false≢true e)
fits_data share o l (Allocate i k) e some = absurd (false≢true e)
fits_data share o l Granted e some = absurd (false≢true e)
fits_data share o l (Already d) e some = absurd (false≢true e)
fits_data share o l Busy e some = absurd (false≢true e)
fits_data share o l Full e some = absurd (false≢true e)
fits_data share o l (Write i p w) e some = absurd (false≢true e)
fits_data share o l (Wrote n) e some = absurd (false≢true e)
fits_data share o l (WrongOffset n) e some = absurd (false≢true e)
fits_data share o l (Close i) e some = absurd (false≢true e)
fits_data share o l (Closed d) e some = absurd (false≢true e)
fits_data share o l (NotComplete n) e some = absurd (false≢true e)
fits_data share o l (Abort i) e some = absurd (false≢true e)
fits_data share o l (Read i p k) e some = absurd (false≢true e)
fits_data share o l (Data bytes) e some = (bytes, refl)
fits_data share o l NoShare e some = absurd (some refl)

module _ (s u : BeginningsState) (from : ℕ) (m : Message) (now : ℕ) (what : Heard) (right : IsRight s.holdings) (hears : Hears from m now s.holdings u.holdings what) where
  -- the request at the position is answered by bytes
  answered : (holding position : ℕ) → Brings position m s.holdings u.holdings (heard.Bytes holding position) → counts_at from m s.holdings.requests ≡ Some position → (bytes : List ℕ) × IsAnsweredBy u.holdings.requests.entries position bytes
  answered holding position b counts =
      let f = fits_at from m s.holdings.requests position counts in
      let o = right.owned (position - s.holdings.servers) holding b.2 in
      let le = b.0 in
      let at : s.holdings.servers + (position - s.holdings.servers) ≡ position = omega (arith, le) in
      let same : o.request ≡ f.0 = one_there (slice_get s.holdings.requests.entries position) o.request f.0 (ap (slice_get s.holdings.requests.entries) (sym at) ∙ o.there) f.1 in
      let asks : f.0.asked ≡ Reading o.held.share o.read.offset o.read.len = sym (ap (λ (q : Request). q.asked) same) ∙ o.read.asked in
      let d = fits_data o.held.share o.read.offset o.read.len m.body (subst (λ (a : Asked). fits a m.body ≡ true) asks f.2) b.3 in (
        d.0,
        record {
          request = with_outcome f.0 (Answered m.body);
          there = ap (λ (r : RequestsState). slice_get r.entries position) hears.requests ∙ answered_at from m now s.holdings.requests position f.0 counts f.1;
          answer = ap Answered d.1;
        },
      )

  pub brings_bytes : (told : News) → IsNewsOf u what told → BringsBytes u.holdings.requests.entries told
  brings_bytes told tells = by (counts_at from m s.holdings.requests) refl hears.heard
    where
      news_nothing : (n : News) → n ≡ news.Nothing → BringsBytes u.holdings.requests.entries n
      news_nothing n e = subst (BringsBytes u.holdings.requests.entries) (sym e) tt

      brings : (w : Heard) (k : ℕ) → counts_at from m s.holdings.requests ≡ Some k → Brings k m s.holdings u.holdings w → IsNewsOf u w told → BringsBytes u.holdings.requests.entries told
      brings heard.Nothing k c b t = news_nothing told t
      brings heard.Held k c b t = news_nothing told t
      brings (heard.Gone holding) k c b t = subst (BringsBytes u.holdings.requests.entries) (sym t) tt
      brings (heard.Bytes holding at) k c b (inl t) =
          let e : at ≡ k = b.1 in
          subst (BringsBytes u.holdings.requests.entries) (sym t.0) (subst (λ p. (bytes : List ℕ) × IsAnsweredBy u.holdings.requests.entries p bytes) (sym e) (answered holding k (b.0, refl, b.2, b.3, b.4) c))
      brings (heard.Bytes holding at) k c b (inr t) =
          let e : at ≡ k = b.1 in
          subst (BringsBytes u.holdings.requests.entries) (sym t.0) (subst (λ p. (bytes : List ℕ) × IsAnsweredBy u.holdings.requests.entries p bytes) (sym e) (answered holding k (b.0, refl, b.2, b.3, b.4) c))

      by : (o : Option ℕ) → counts_at from m s.holdings.requests ≡ o → HearsAt o m s.holdings u.holdings what → BringsBytes u.holdings.requests.entries told
      by None c h = news_nothing told (subst (λ (w : Heard). IsNewsOf u w told) h.0 tells)
      by (Some k) c h = brings what k c h tells

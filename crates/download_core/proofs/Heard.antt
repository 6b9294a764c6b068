-- A message came while a file is read.
use Rattle.std.proofs.Common.{◌≡◌, ℕ, ◌-◌, ◌≤◌, ◌⊎◌, inl, inr, true, false, List, length, Option, Some, None, refl, sym, ap, subst, ◌∙◌, arith, true≢false}
use Rattle.std.specs.Prelude.{◌≢◌, slice_get, slice_index_or}
use Rattle.std.proofs.lemmas.Option.{slice_get-get_or, slice_get_within}
use Rattle.lemmas.proofs.Positions.{get_left}
use Rattle.lemmas.proofs.Options.{one_there}
use Rattle.request_record.specs.declared.requests.Asked.TheVariants.{Holdings, Reading}
use Rattle.request_record.specs.declared.requests.Outcome.TheVariants.{Answered}
use Rattle.request_record.specs.declared.requests.Request.{Request}
use Rattle.request_record.specs.Record.{RequestsState, counts_at, is_outstanding}
use Rattle.request_record.specs.Asking.{after_message}
use Rattle.wire.specs.declared.message.Message.{Message}
use Rattle.share_reading.specs.declared.opening.Opening.{Opening}
use Rattle.download_shares.specs.HoldingMoves.{Brings, HearsAt}
use Rattle.download_shares.specs.HoldingState.{TableState}
use Rattle.download_shares.specs.Table.{IsHolding}
use Rattle.download_shares.specs.declared.holding.Holding.{Holding}
use Rattle.download_shares.specs.declared.holdings.Heard.{Heard}
use Rattle.download_shares.specs.declared.holdings.Heard.TheVariants as heard
use Rattle.download_shares.proofs.Goes.{message_cases, message_goes, only_owner}
use Rattle.download_shares.proofs.Records.{AskedAlike}
use Rattle.download_shares.specs.Known.{AreBegun, IsNextAt}
use Rattle.download_shares.specs.BeginningMoves.{BringsBytes, HearsNews, IsNewsOf, WaitsAt}
use Rattle.download_shares.specs.Opening.{IsOut, IsTaken}
use Rattle.download_shares.specs.Reads.{IsAnsweredBy, IsOutAt, IsReadAt}
use Rattle.download_shares.specs.BeginningState.{BeginningsState, IsBegun, unbegun}
use Rattle.download_shares.specs.declared.begun.Begun.{Begun}
use Rattle.download_shares.specs.declared.beginnings.News.{News}
use Rattle.download_shares.specs.declared.beginnings.News.TheVariants as news
use Rattle.download_shares.proofs.Entries.{Grows, grows_goes, read_grows}
use Rattle.download_shares.proofs.Falling.{WasHolding, retired_left}
use Rattle.download_shares.proofs.Hearing as hearing
use Rattle.download_file.specs.Answers.{IsRead}
use Rattle.download_file.specs.State.{IsHeard}
use Rattle.download_file.specs.declared.reader.Waiting.{Waiting}
use Rattle.download_file.proofs.GrowLemmas.{reads_keep}
use Rattle.download_core.specs.Reading.{AreAwaited, AreBusy, AreKept, AreLinked, AreReading, IsAskedOf, IsGone, IsOf, IsReadNow, IsReading}
use Rattle.download_core.specs.ReadingState.{ReadingState}
use Rattle.download_core.specs.ReadingSteps.{HasHeard, IsToTake}
use Rattle.download_core.proofs.Awaited.{fallen_awaits, read_as, read_back}
use Rattle.download_core.proofs.Busy.{busy_file}
use Rattle.download_core.proofs.Fallen.{fallen_kept, fallen_live}
use Rattle.download_core.proofs.Follows.{Follows, KeepsReaders, follows_becomes, readers_more}

-- the reader that may have an answer, and the holding whose header may be there
abbrev pub IsToldReader : BeginningsState → News → Option ℕ → Type 0
IsToldReader s (news.Beginning holding at) but = (b : Begun) × IsBegun s holding b × (but ≡ b.reader)
IsToldReader s (news.Bytes holding at) but = (b : Begun) × IsBegun s holding b × (but ≡ b.reader)
IsToldReader s told but = but ≡ None

abbrev pub IsToldHeader : News → Option ℕ → Type 0
IsToldHeader (news.Beginning holding at) but = but ≡ Some holding
IsToldHeader told but = but ≡ None

module _ (s u : BeginningsState) (r : ReadingState) (from : ℕ) (m : Message) (now : ℕ) (told : News) (reading : AreReading s r) (hears : HearsNews from m now s u told) (known : AreBegun u)
    (bytes : BringsBytes u.holdings.requests.entries told) where
  abbrev pub es : List Request
  es = s.holdings.requests.entries

  abbrev pub ns : List Request
  ns = u.holdings.requests.entries

  abbrev pub what : Heard
  what = hears.heard

  abbrev pub was : AreBegun s
  was = reading.linked.kept.known

  grows : Grows es ns
  grows = subst (λ (q : RequestsState). Grows es q.entries) (sym hears.hears.requests) (grows_goes es (after_message from m now s.holdings.requests).entries (message_goes from m now s.holdings.requests))

  alike : AskedAlike es ns
  alike = hearing.alike s u from m now what was hears.hears known.right

  becomes : hearing.Becomes s.holdings.table u.holdings.table
  becomes = hearing.becomes s u from m now what was hears.hears known.right

  follows : Follows s.holdings.table u.holdings.table
  follows = follows_becomes s.holdings.table u.holdings.table becomes

  readers : KeepsReaders s.begun u.begun
  readers = readers_more hears.count s.begun u.begun hears.begun

  pub heard_answers : IsRead ns r.file
  heard_answers = reads_keep es ns r.file (λ position q body there answer. grows.stays position q there (ap is_outstanding answer)) reading.linked.kept.answers

  pub heard_kept : AreKept u r
  heard_kept = fallen_kept s u r reading.linked known follows readers alike heard_answers

  pub heard_live : (q : ℕ) → IsHeard r.file q → IsReadNow u r q ⊎ IsGone u r q
  heard_live = fallen_live s u r reading.linked known follows readers alike heard_answers

  -- what is out still is, or its bytes came
  out_or_told : (holding : ℕ) (h g : Holding) (i offset len : ℕ) → IsHolding s.holdings.table holding h → IsHolding u.holdings.table holding g → g.left ≡ true → IsReadAt es h i offset len → IsOutAt es i
      → IsOutAt ns i ⊎ (what ≡ heard.Bytes holding i)
  out_or_told holding h g i offset len held is left read out =
      let k = grows.kept i out.request out.there in
      by k (message_cases from m now s.holdings.requests i k.0 (sym (ap (λ (q : RequestsState). slice_get q.entries i) hears.hears.requests) ∙ k.1))
    where
      owner : (other : ℕ) → s.holdings.servers ≤ i → slice_get s.holdings.owners (i - s.holdings.servers) ≡ Some other → holding ≡ other
      owner other le own = (only_owner s.holdings was.right i other le own).others holding h read.request held read.there read.of_server offset len read.asked

      brings : (w : Heard) → what ≡ w → Brings i m s.holdings u.holdings w → IsOutAt ns i ⊎ (what ≡ heard.Bytes holding i)
      brings heard.Nothing e b = absurd b
      brings heard.Held e b = (let two : Holdings ≡ Reading h.share offset len = sym (was.right.first i read.request read.there b.0) ∙ read.asked in absurd cc)
      brings (heard.Gone other) e b =
          absurd (retired_left other s.holdings.table u.holdings.table g b.3 (subst (λ p. IsHolding u.holdings.table p g) (owner other b.0 b.1) is) left)
      brings (heard.Bytes other at) e b = inr (e ∙ ap (λ x. heard.Bytes x at) (sym (owner other b.0 b.2)) ∙ ap (heard.Bytes holding) b.1)

      by : (k : (n : Request) × (slice_get ns i ≡ Some n) × (n.asked ≡ out.request.asked) × (n.server ≡ out.request.server))
          → (slice_get es i ≡ Some k.0) ⊎ ((counts_at from m s.holdings.requests ≡ Some i) × (k.0.outcome ≡ Answered m.body)) → IsOutAt ns i ⊎ (what ≡ heard.Bytes holding i)
      by k (inl same) = inl (record { request = k.0; there = k.1; waits = ap (λ (q : Request). is_outstanding q.outcome) (one_there (slice_get es i) k.0 out.request same out.there) ∙ out.waits })
      by k (inr counts) = brings what refl (subst (λ (p : Option ℕ). HearsAt p m s.holdings u.holdings what) counts.0 hears.hears.heard)

  -- the bytes that came
  bytes_of : (holding i : ℕ) → what ≡ heard.Bytes holding i → (b : List ℕ) × IsAnsweredBy ns i b
  bytes_of holding i e = by (subst (λ (w : Heard). IsNewsOf u w told) e hears.tells)
    where
      by : IsNewsOf u (heard.Bytes holding i) told → (b : List ℕ) × IsAnsweredBy ns i b
      by (inl t) = subst (BringsBytes ns) t.0 bytes
      by (inr t) = subst (BringsBytes ns) t.0 bytes

  reader_of : (holding i : ℕ) (but : Option ℕ) → what ≡ heard.Bytes holding i → IsToldReader u told but → (b : Begun) × IsBegun u holding b × (but ≡ b.reader)
  reader_of holding i but e is = by (subst (λ (w : Heard). IsNewsOf u w told) e hears.tells)
    where
      by : IsNewsOf u (heard.Bytes holding i) told → (b : Begun) × IsBegun u holding b × (but ≡ b.reader)
      by (inl t) = subst (λ (n : News). IsToldReader u n but) t.0 is
      by (inr t) = subst (λ (n : News). IsToldReader u n but) t.0 is

  pub heard_awaits : (but : Option ℕ) → IsToldReader u told but → AreAwaited but u r
  heard_awaits but is = fallen_awaits s u r reading.linked.kept follows None but reading.awaits still out
    where
      moved : (reader : ℕ) (g : Holding) (w : Waiting) → IsReading u r reader g → IsAskedOf es g w → IsOutAt es w.position → (holding : ℕ) × IsOf r reader holding × (IsOutAt ns w.position ⊎ (what ≡ heard.Bytes holding w.position))
      moved reader g w k a o =
          let h = read_back s u r reading.linked.kept follows reader g k in
          let one : h.1.holding ≡ k.holding = one_there (slice_get r.holdings reader) h.1.holding k.holding h.1.of k.of in (
            k.holding,
            k.of,
            out_or_told k.holding h.0 g w.position w.wanted.read.offset w.wanted.read.length (subst (λ x. IsHolding s.holdings.table x h.0) one h.1.is) k.is k.left
                (read_as es g h.0 w.position w.wanted.read.offset w.wanted.read.length (sym h.2) (sym h.3) a.read) o,
          )

      still : (reader : ℕ) (g : Holding) (w : Waiting) → IsReading u r reader g → IsAskedOf es g w → IsAskedOf ns g w
      still reader g w k a = record {
        read = read_grows es ns g g w.position w.wanted.read.offset w.wanted.read.length grows refl refl a.read;
        state = state_of a.state;
      }
        where
          state_of : IsOutAt es w.position ⊎ ((b : List ℕ) × IsAnsweredBy es w.position b) → IsOutAt ns w.position ⊎ ((b : List ℕ) × IsAnsweredBy ns w.position b)
          state_of (inl o) =
              let t = moved reader g w k a o in
              elim t.2 [ inl on ↦ inl on | inr e ↦ inr (bytes_of t.0 w.position e) ]
          state_of (inr b) = inr (b.0, record { request = b.1.request; there = grows.stays w.position b.1.request b.1.there (ap is_outstanding b.1.answer); answer = b.1.answer })

      out : (reader : ℕ) (g : Holding) (w : Waiting) → IsReading u r reader g → but ≢ Some reader → (None ≢ Some reader) × (IsAskedOf es g w → IsOutAt es w.position → IsOutAt ns w.position)
      out reader g w k other = (
        (λ e. cc),
        λ a o.
            let t = moved reader g w k a o in
            elim t.2 [
              | inl on ↦ on
              | inr e ↦ absurd (other (own t.0 t.1 (reader_of t.0 w.position but e is)))
            ],
      )
        where
          own : (holding : ℕ) → IsOf r reader holding → (b : Begun) × IsBegun u holding b × (but ≡ b.reader) → but ≡ Some reader
          own holding of b =
              let f = reading.linked.kept.forth reader holding of in
              let c = readers.forth holding f.begun f.there in
              let same : b.0 ≡ c.0 = one_there (slice_get u.begun holding) b.0 c.0 b.1 c.1 in
              b.2 ∙ ap (λ (x : Begun). x.reader) same ∙ c.2 ∙ f.of_reader

  -- a header that is out still is, or came
  header : (holding : ℕ) (h g : Holding) → IsHolding s.holdings.table holding h → IsHolding u.holdings.table holding g → g.left ≡ true → (o : IsOut s holding) → IsOut u holding ⊎ (told ≡ news.Beginning holding o.request)
  header holding h g held is left o = by_read (read_of o.begun.opening ((was.each holding h o.begun held o.is).waits o.request o.waiting))
    where
      read_of : (p : Option Opening) → IsNextAt es h p o.request → (offset : ℕ) × (len : ℕ) × IsReadAt es h o.request offset len
      read_of None w = absurd w
      read_of (Some p) w = (_, _, w)

      there : IsBegun u holding o.begun
      there = ap (λ (l : List Begun). slice_get l holding) hears.begun ∙ get_left s.begun _ holding o.begun o.is

      by : IsNewsOf u (heard.Bytes holding o.request) told → IsOut u holding ⊎ (told ≡ news.Beginning holding o.request)
      by (inl t) = inr t.0
      by (inr t) = absurd (t.1 (o.begun, there, o.waiting))

      by_read : (offset : ℕ) × (len : ℕ) × IsReadAt es h o.request offset len → IsOut u holding ⊎ (told ≡ news.Beginning holding o.request)
      by_read read = elim (out_or_told holding h g o.request read.0 read.1 held is left read.2 o.out) [
        | inl on ↦ inl (record { begun = o.begun; is = there; request = o.request; waiting = o.waiting; out = on })
        | inr e ↦ by (subst (λ (w : Heard). IsNewsOf u w told) e hears.tells)
      ]

  pub heard_busy : (but : Option ℕ) → IsToldHeader told but → AreBusy but u r
  heard_busy but is = record {
    suspended = λ holding g here left busy other. suspended holding g here left busy other (becomes.back holding g here);
    taken = λ share holding n here reads. (let k = becomes.reading share holding n here reads in reading.busy.taken share holding k.0 k.1 k.2);
  }
    where
      suspended : (holding : ℕ) (g : Holding) → IsHolding u.holdings.table holding g → g.left ≡ true → g.suspended ≡ true → but ≢ Some holding
          → WasHolding s.holdings.table holding g ⊎ ((length s.holdings.table.holdings ≤ holding) × (g.suspended ≡ false)) → IsOut u holding
      suspended holding g here left busy other (inr new) = absurd (true≢false (sym busy ∙ new.1))
      suspended holding g here left busy other (inl w) =
          elim (header holding w.held g w.is here left (reading.busy.suspended holding w.held w.is (w.left left) (sym w.suspended ∙ busy) (λ e. cc))) [
            | inl on ↦ on
            | inr e ↦ absurd (other (subst (λ (n : News). IsToldHeader n but) e is))
          ]

  -- ---- all of it

  -- the holding of which bytes came
  begun_told : (holding at : ℕ) → what ≡ heard.Bytes holding at → (b : Begun) × IsBegun u holding b
  begun_told holding at e = by (counts_at from m s.holdings.requests) (subst (HearsAt _ m s.holdings u.holdings) e hears.hears.heard)
    where
      by : (o : Option ℕ) → HearsAt o m s.holdings u.holdings (heard.Bytes holding at) → (b : Begun) × IsBegun u holding b
      by None h = (let two : heard.Bytes holding at ≡ heard.Nothing = h.0 in absurd cc)
      by (Some k) h =
          let o = was.right.owned (k - s.holdings.servers) holding h.2 in
          begun_of (o.held, o.is)
        where
          begun_of : (h : Holding) × IsHolding s.holdings.table holding h → (b : Begun) × IsBegun u holding b
          begun_of h =
              let inside = slice_get_within s.holdings.table.holdings holding h.0 h.1 in
              let c = was.counted in
              let b : (b : Begun) × IsBegun s holding b = (slice_index_or s.begun holding unbegun, slice_get-get_or s.begun holding unbegun (omega (arith, inside, c))) in
              let f = readers.forth holding b.0 b.1 in
              (f.0, f.1)

  -- what the news tells
  bytes_told : (holding at : ℕ) → told ≡ news.Bytes holding at → what ≡ heard.Bytes holding at
  bytes_told holding at e = by what refl hears.tells
    where
      by : (w : Heard) → what ≡ w → IsNewsOf u w told → what ≡ heard.Bytes holding at
      by heard.Nothing f t = (let two : news.Bytes holding at ≡ news.Nothing = sym e ∙ t in absurd cc)
      by heard.Held f t = (let two : news.Bytes holding at ≡ news.Nothing = sym e ∙ t in absurd cc)
      by (heard.Gone x) f t = (let two : news.Bytes holding at ≡ news.Gone x = sym e ∙ t in absurd cc)
      by (heard.Bytes x y) f (inl t) = (let two : news.Bytes holding at ≡ news.Beginning x y = sym e ∙ t.0 in absurd cc)
      by (heard.Bytes x y) f (inr t) =
          let two : news.Bytes holding at ≡ news.Bytes x y = sym e ∙ t.0 in
          let xs : holding ≡ x = cc in
          let ys : at ≡ y = cc in
          f ∙ ap (λ p. heard.Bytes p y) (sym xs) ∙ ap (heard.Bytes holding) (sym ys)

  -- bytes take no share away
  pub bytes_live : (holding at : ℕ) → told ≡ news.Bytes holding at → (q : ℕ) → IsHeard r.file q → IsReadNow u r q
  bytes_live holding at e q live = by (counts_at from m s.holdings.requests) (subst (HearsAt _ m s.holdings u.holdings) (bytes_told holding at e) hears.hears.heard)
    where
      stays : u.holdings.table ≡ s.holdings.table → IsReadNow u r q
      stays same =
          let k = reading.linked.live q live in
          record {
            holding = k.holding;
            of = k.of;
            held = k.held;
            is = subst (λ (t : TableState). IsHolding t k.holding k.held) (sym same) k.is;
            left = k.left;
            taken = subst (λ (t : TableState). IsTaken t k.holding k.held) (sym same) k.taken;
          }

      by : (o : Option ℕ) → HearsAt o m s.holdings u.holdings (heard.Bytes holding at) → IsReadNow u r q
      by None h = (let two : heard.Bytes holding at ≡ heard.Nothing = h.0 in absurd cc)
      by (Some k) h = stays h.4

  waits_told : (holding at : ℕ) → told ≡ news.Beginning holding at → WaitsAt u holding at
  waits_told holding at e = by what hears.tells
    where
      by : (w : Heard) → IsNewsOf u w told → WaitsAt u holding at
      by heard.Nothing t = (let two : news.Beginning holding at ≡ news.Nothing = sym e ∙ t in absurd cc)
      by heard.Held t = (let two : news.Beginning holding at ≡ news.Nothing = sym e ∙ t in absurd cc)
      by (heard.Gone x) t = (let two : news.Beginning holding at ≡ news.Gone x = sym e ∙ t in absurd cc)
      by (heard.Bytes x y) (inr t) = (let two : news.Beginning holding at ≡ news.Bytes x y = sym e ∙ t.0 in absurd cc)
      by (heard.Bytes x y) (inl t) =
          let two : news.Beginning holding at ≡ news.Beginning x y = sym e ∙ t.0 in
          let xs : holding ≡ x = cc in
          let ys : at ≡ y = cc in
          subst (λ p. WaitsAt u p at) (sym xs) (subst (WaitsAt u x) (sym ys) t.1)

  module _ (q : ReadingState) (linked : AreLinked u q) (same : q.holdings ≡ r.holdings) (awaits : (but : Option ℕ) → AreAwaited but u r → AreAwaited but u q) where
    quiet : IsToldReader u told None → IsToldHeader told None → AreReading u q
    quiet a b = record { linked = linked; awaits = awaits None (heard_awaits None a); busy = busy_file None u r q same (heard_busy None b) }

    pub heard_all : (t : News) → told ≡ t → IsToTake u q t
    heard_all news.Nothing e = quiet (subst (λ (n : News). IsToldReader u n None) (sym e) refl) (subst (λ (n : News). IsToldHeader n None) (sym e) refl)
    heard_all (news.Gone holding) e = quiet (subst (λ (n : News). IsToldReader u n None) (sym e) refl) (subst (λ (n : News). IsToldHeader n None) (sym e) refl)
    heard_all (news.Beginning holding at) e =
        let w = waits_told holding at e in (
          record {
            begun = w.0;
            there = w.1;
            linked = linked;
            awaits = awaits w.0.reader (heard_awaits w.0.reader (subst (λ (n : News). IsToldReader u n w.0.reader) (sym e) (w.0, w.1, refl)));
            busy = busy_file (Some holding) u r q same (heard_busy (Some holding) (subst (λ (n : News). IsToldHeader n (Some holding)) (sym e) refl));
          },
          w,
          subst (BringsBytes ns) e bytes,
        )
    heard_all (news.Bytes holding at) e =
        let b = begun_told holding at (bytes_told holding at e) in
        record {
          begun = b.0;
          there = b.1;
          linked = linked;
          awaits = awaits b.0.reader (heard_awaits b.0.reader (subst (λ (n : News). IsToldReader u n b.0.reader) (sym e) (b.0, b.1, refl)));
          busy = busy_file None u r q same (heard_busy None (subst (λ (n : News). IsToldHeader n None) (sym e) refl));
        }

pub heard_left : (u : BeginningsState) (r q : ReadingState) (told : News) → HasHeard u r told → AreLinked u q → q.holdings ≡ r.holdings → ((but : Option ℕ) → AreAwaited but u r → AreAwaited but u q) → (t : News) → told ≡ t → IsToTake u q t
heard_left u r q told k linked same awaits t e = heard_all k.before u r k.from k.message k.now told k.reading k.hears k.known k.bytes q linked same awaits t e

pub heard_bytes : (u : BeginningsState) (r : ReadingState) (told : News) → HasHeard u r told → (holding at : ℕ) → told ≡ news.Bytes holding at → AreLinked u r
heard_bytes u r told k holding at e = record {
  kept = heard_kept k.before u r k.from k.message k.now told k.reading k.hears k.known k.bytes;
  live = bytes_live k.before u r k.from k.message k.now told k.reading k.hears k.known k.bytes holding at e;
}

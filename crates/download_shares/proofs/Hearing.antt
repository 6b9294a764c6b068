-- The beginnings of shares after a message.
use Rattle.std.proofs.Common.{◌≡◌, ℕ, zero, suc, ◌+◌, ◌-◌, ◌<◌, ◌≤◌, ◌⊎◌, inl, inr, true, false, List, [], ◌∷◌, ◌++◌, length, map, filter, take, Option, Some, None, refl, sym, ap, subst, ◌∙◌, arith, length-append, replicate}
use Rattle.std.specs.Prelude.{slice_get, slice_index_or, nat_lt}
use Rattle.std.proofs.lemmas.Bool.{cases_lt}
use Rattle.std.proofs.lemmas.List.{take_all}
use Rattle.std.proofs.lemmas.Option.{slice_get-get_or, slice_get_within}
use Rattle.lemmas.proofs.Positions.{replicated, get_left}
use Rattle.lemmas.proofs.Options.{one_there}
use Rattle.wire.specs.declared.message.Body.{Body}
use Rattle.wire.specs.declared.message.Body.TheVariants.{Have}
use Rattle.wire.specs.declared.message.HeldShare.{HeldShare}
use Rattle.wire.specs.declared.message.Message.{Message}
use Rattle.request_record.specs.declared.requests.Asked.TheVariants.{Holdings, Reading}
use Rattle.request_record.specs.declared.requests.Outcome.TheVariants.{Answered}
use Rattle.request_record.specs.declared.requests.Request.{Request}
use Rattle.request_record.specs.Record.{RequestsState, counts_at, is_outstanding}
use Rattle.request_record.specs.Asking.{after_message}
use Rattle.share_reading.specs.declared.opening.Opening.{Opening}
use Rattle.download_shares.specs.Left.{IsOffered}
use Rattle.download_shares.specs.HoldingMoves.{Brings, Hears, HearsAt, Tells, held_by}
use Rattle.download_shares.specs.Right.{AreAllHeld, IsRight}
use Rattle.download_shares.specs.HoldingState.{HoldingsState, NumberState, TableState}
use Rattle.download_shares.specs.Table.{IsHolding, IsNumber, IsTable, told, told_one}
use Rattle.download_shares.specs.declared.holding.Holding.{Holding}
use Rattle.download_shares.specs.declared.holdings.Heard.{Heard}
use Rattle.download_shares.specs.declared.holdings.Heard.TheVariants as heard
use Rattle.download_shares.proofs.Goes.{message_cases, message_goes, only_owner}
use Rattle.download_shares.proofs.Records.{AskedAlike, alike_message}
use Rattle.download_shares.proofs.Telling.{append_cases, told_has}
use Rattle.download_shares.specs.Known.{AreBegun, IsNextAt}
use Rattle.download_shares.specs.BeginningMoves.{IsNewsOf}
use Rattle.download_shares.specs.Opening.{AreOpening, IsOpening, IsOut, IsToldOf, nobody}
use Rattle.download_shares.specs.Reads.{IsReadAt}
use Rattle.download_shares.specs.BeginningState.{BeginningsState, IsBegun, unbegun}
use Rattle.download_shares.specs.declared.begun.Begun.{Begun}
use Rattle.download_shares.specs.declared.beginnings.News.{News}
use Rattle.download_shares.proofs.Asking.{distinct_positions}
use Rattle.download_shares.proofs.Entries.{Grows, grows_goes, read_alike}
use Rattle.download_shares.proofs.Falling.{Falls, IsReadOn, WasHolding, falls_none, falls_one, retired_left}
use Rattle.download_shares.proofs.Knowing.{WasBegun, known_follows, shares_fall}
use Rattle.download_shares.proofs.Openings.{opening_was}

-- ---- what becomes of the holdings

-- the holdings are of the same shares, fewer are left and read, and more may come behind them
pub record Becomes (t u : TableState) : Type 0 where
  pub more : length t.holdings ≤ length u.holdings
  pub count : length u.numbers ≡ length t.numbers
  pub forth : (position : ℕ) (h : Holding) → IsHolding t position h
      → (g : Holding) × IsHolding u position g × (g.server ≡ h.server) × (g.share ≡ h.share)
  pub back : (position : ℕ) (g : Holding) → IsHolding u position g
      → WasHolding t position g ⊎ ((length t.holdings ≤ position) × (g.suspended ≡ false))
  pub reading : (share position : ℕ) (m : NumberState) → IsNumber u share m → m.reading ≡ Some position
      → (n : NumberState) × IsNumber t share n × (n.reading ≡ Some position)
  pub kept : (share position : ℕ) (n : NumberState) → IsNumber t share n → n.reading ≡ Some position
      → IsReadOn u share position

pub becomes_falls : (t u : TableState) → Falls t u → Becomes t u
becomes_falls t u f = record {
  more = (let l = f.long in omega (arith, l));
  count = f.count;
  forth = (shares_fall t u f).pairs.forth;
  back = λ position g e. inl (f.back position g e);
  reading = f.reading;
  kept = f.kept;
}

told_open : (server : ℕ) (held : List HeldShare) (i : ℕ) (h : Holding) → slice_get (map (λ (x : HeldShare). told_one server x.share) held) i ≡ Some h → h.suspended ≡ false
told_open server [] i h e = absurd cc
told_open server (x ∷ xs) zero h e = let is : told_one server x.share ≡ h = cc in sym (ap (λ (y : Holding). y.suspended) is)
told_open server (x ∷ xs) (suc i) h e = told_open server xs i h e

number_forth : (t u : TableState) (share : ℕ) (m : NumberState) → length u.numbers ≡ length t.numbers → IsNumber u share m → IsNumber t share (slice_index_or t.numbers share m)
number_forth t u share m long e = slice_get-get_or t.numbers share m (let w = slice_get_within u.numbers share m e in omega (arith, w, long))

pub becomes_told : (server count : ℕ) (held : List HeldShare) (t u : TableState) → Tells server held count t u → Becomes t u
becomes_told server count held t u k = record {
  more = (let l = ap length k.holdings in let m = length-append t.holdings (told (length t.numbers) server (take count held)) in omega (arith, l, m));
  count = k.long;
  forth = λ position h e. (h, ap (λ (l : List Holding). slice_get l position) k.holdings ∙ get_left t.holdings (told (length t.numbers) server (take count held)) position h e, refl, refl);
  back = λ position g e. elim (append_cases t.holdings (told (length t.numbers) server (take count held)) position g (sym (ap (λ (l : List Holding). slice_get l position) k.holdings) ∙ e)) [
    | inl old ↦ inl (record { held = g; is = old; of_server = refl; of_share = refl; left = λ l. l; suspended = refl })
    | inr new ↦ inr (new.0, told_open server (filter (λ (x : HeldShare). nat_lt x.share (length t.numbers)) (take count held)) (position - length t.holdings) g new.1)
  ];
  reading = λ share position m e reads. (
      let n = number_forth t u share m k.long e in
      (slice_index_or t.numbers share m, n, sym (k.reading share _ m n e) ∙ reads));
  kept = λ share position n e reads. (
      let m = number_forth u t share n (sym k.long) e in
      inl (slice_index_or u.numbers share n, m, k.reading share n _ e m ∙ reads));
}

-- ---- a message

append_at : {X : Type 0} (xs ys : List X) (i j : ℕ) (y : X) → i ≡ length xs + j → slice_get ys j ≡ Some y → slice_get (xs ++ ys) i ≡ Some y
append_at [] ys i j y at e = (let k : i ≡ j = omega (arith, at) in ap (slice_get ys) k ∙ e)
append_at (x ∷ xs) ys zero j y at e = absurd (omega (arith, at))
append_at (x ∷ xs) ys (suc i) j y at e = append_at xs ys i j y (omega (arith, at)) e

append_back : {X : Type 0} (xs ys : List X) (j : ℕ) (y : X) → slice_get ys j ≡ Some y → slice_get (xs ++ ys) (length xs + j) ≡ Some y
append_back xs ys j y e = append_at xs ys (length xs + j) j y refl e

-- the position of a counted message is not one of a request for what a server holds, where bytes of a
-- share are owned
reads_owned : (s : HoldingsState) (right : IsRight s) (k holding : ℕ) (r : Request) → s.servers ≤ k → slice_get s.owners (k - s.servers) ≡ Some holding → slice_get s.requests.entries k ≡ Some r → r.asked ≡ Holdings → ⊥
reads_owned s right k holding r le own there asked =
    let o = right.owned (k - s.servers) holding own in
    let at : s.servers + (k - s.servers) ≡ k = omega (arith, le) in
    let same : o.request ≡ r = one_there (slice_get s.requests.entries k) o.request r (ap (slice_get s.requests.entries) (sym at) ∙ o.there) there in
    let two : Holdings ≡ Reading o.held.share o.read.offset o.read.len = sym asked ∙ sym (ap (λ (q : Request). q.asked) same) ∙ o.read.asked in
    absurd cc

module _ (s u : BeginningsState) (from : ℕ) (m : Message) (now : ℕ) (what : Heard) (known : AreBegun s) (hears : Hears from m now s.holdings u.holdings what) (right : IsRight u.holdings) where
  abbrev pub es : List Request
  es = s.holdings.requests.entries

  abbrev pub ns : List Request
  ns = u.holdings.requests.entries

  goes : Grows es ns
  goes = subst (λ (r : RequestsState). Grows es r.entries) (sym hears.requests) (grows_goes es (after_message from m now s.holdings.requests).entries (message_goes from m now s.holdings.requests))

  pub alike : AskedAlike es ns
  alike = subst (λ (r : RequestsState). AskedAlike es r.entries) (sym hears.requests) (alike_message from m now s.holdings.requests)

  pub becomes : Becomes s.holdings.table u.holdings.table
  becomes = by (counts_at from m s.holdings.requests) hears.heard
    where
      same : u.holdings.table ≡ s.holdings.table → Becomes s.holdings.table u.holdings.table
      same e = subst (λ (t : TableState). Becomes s.holdings.table t) (sym e) (becomes_falls s.holdings.table s.holdings.table (falls_none s.holdings.table))

      brings : (k : ℕ) (w : Heard) → Brings k m s.holdings u.holdings w → Becomes s.holdings.table u.holdings.table
      brings k heard.Nothing b = absurd b
      brings k heard.Held b = becomes_told b.1.request.server (length (held_by (Answered m.body))) (held_by (Answered m.body)) s.holdings.table u.holdings.table b.1.tells
      brings k (heard.Gone holding) b = becomes_falls s.holdings.table u.holdings.table (falls_one holding s.holdings.table u.holdings.table b.3)
      brings k (heard.Bytes holding at) b = same b.4

      by : (o : Option ℕ) → HearsAt o m s.holdings u.holdings what → Becomes s.holdings.table u.holdings.table
      by None h = same h.1
      by (Some k) h = brings k what h

  -- each share that is offered then is held
  pub held_heard : AreAllHeld u.holdings
  held_heard server share o below = by (message_cases from m now s.holdings.requests o.position o.request (sym (ap (λ (r : RequestsState). slice_get r.entries o.position) hears.requests) ∙ o.there))
    where
      old : IsOffered es server share → (position : ℕ) × (g : Holding) × IsHolding u.holdings.table position g × (g.server ≡ server) × (g.share ≡ share)
      old p =
          let k = known.held server share p (let c = becomes.count in omega (arith, below, c)) in
          let g = becomes.forth k.0 k.1 k.2 in
          (k.0, g.0, g.1, g.2 ∙ k.3, g.3 ∙ k.4)

      new : (w : Heard) → Brings o.position m s.holdings u.holdings w → m.body ≡ Have o.readonly o.held → (position : ℕ) × (g : Holding) × IsHolding u.holdings.table position g × (g.server ≡ server) × (g.share ≡ share)
      new heard.Nothing b e = absurd b
      new heard.Held b e =
          let t = b.1.tells in
          let was = alike o.position o.request o.there in
          let same : was.request ≡ b.1.request = one_there (slice_get es o.position) was.request b.1.request was.there b.1.there in
          let listed : held_by (Answered m.body) ≡ o.held = ap (λ (x : Body). held_by (Answered x)) e in
          let all : take (length (held_by (Answered m.body))) (held_by (Answered m.body)) ≡ o.held = take_all (length (held_by (Answered m.body))) (held_by (Answered m.body)) (omega arith) ∙ listed in
          let c = becomes.count in
          let n = o.number in
          let j = told_has (length s.holdings.table.numbers) b.1.request.server o.held o.index o.listed o.among (omega (arith, below, c, n)) in
          let at : slice_get (told (length s.holdings.table.numbers) b.1.request.server (take (length (held_by (Answered m.body))) (held_by (Answered m.body)))) j.0 ≡ Some (told_one b.1.request.server o.listed.share) =
          ap (λ (l : List HeldShare). slice_get (told (length s.holdings.table.numbers) b.1.request.server l) j.0) all ∙ j.1 in (
            length s.holdings.table.holdings + j.0,
            told_one b.1.request.server o.listed.share,
            ap (λ (l : List Holding). slice_get l (length s.holdings.table.holdings + j.0)) t.holdings ∙ append_back s.holdings.table.holdings _ j.0 _ at,
            ap (λ (q : Request). q.server) (sym same) ∙ was.of_server ∙ o.of_server,
            o.number,
          )
      new (heard.Gone holding) b e = (let was = alike o.position o.request o.there in absurd (reads_owned s.holdings known.right o.position holding was.request b.0 b.1 was.there (was.same ∙ o.asked)))
      new (heard.Bytes holding at) b e = (let was = alike o.position o.request o.there in absurd (reads_owned s.holdings known.right o.position holding was.request b.0 b.2 was.there (was.same ∙ o.asked)))

      body_is : o.request.outcome ≡ Answered m.body → m.body ≡ Have o.readonly o.held
      body_is e = (let two : Answered m.body ≡ Answered (Have o.readonly o.held) = sym e ∙ o.answer in cc)

      by : (slice_get es o.position ≡ Some o.request) ⊎ ((counts_at from m s.holdings.requests ≡ Some o.position) × (o.request.outcome ≡ Answered m.body)) → (position : ℕ) × (g : Holding) × IsHolding u.holdings.table position g × (g.server ≡ server) × (g.share ≡ share)
      by (inl there) = old (record { position = o.position; request = o.request; there = there; of_server = o.of_server; asked = o.asked; readonly = o.readonly; held = o.held; answer = o.answer; index = o.index; listed = o.listed; among = o.among; number = o.number })
      by (inr counted) = new what (subst (λ (p : Option ℕ). HearsAt p m s.holdings u.holdings what) counted.0 hears.heard) (body_is counted.1)

  module _ (count : ℕ) (begun : u.begun ≡ s.begun ++ replicate count unbegun) (counted : length u.begun ≡ length u.holdings.table.holdings) where
    -- what is kept of the old ones, and of the new
    begun_cases : (position : ℕ) (b : Begun) → IsBegun u position b → IsBegun s position b ⊎ ((length s.begun ≤ position) × (b ≡ unbegun))
    begun_cases position b e = elim (append_cases s.begun (replicate count unbegun) position b (sym (ap (λ (l : List Begun). slice_get l position) begun) ∙ e)) [
      | inl old ↦ inl old
      | inr new ↦ inr (new.0, sym (replicated count (position - length s.begun) unbegun b new.1))
    ]

    begun_old : (position : ℕ) (b : Begun) → IsBegun s position b → IsBegun u position b
    begun_old position b e = ap (λ (l : List Begun). slice_get l position) begun ∙ get_left s.begun (replicate count unbegun) position b e

    pub known_heard : AreBegun u
    known_heard = known_follows s u known goes right held_heard counted
        (λ position g b is there. was position g b is (begun_cases position b there))
      where
        was : (position : ℕ) (g : Holding) (b : Begun) → IsHolding u.holdings.table position g → IsBegun s position b ⊎ ((length s.begun ≤ position) × (b ≡ unbegun)) → (b ≡ unbegun) ⊎ WasBegun s position g b
        was position g b is (inr new) = inl new.1
        was position g b is (inl old) = elim (becomes.back position g is) [
          | inl w ↦ inr (record { held = w.held; is = w.is; of_server = w.of_server; of_share = w.of_share; begun = b; there = old; opening = refl; waiting = λ request f. f })
          | inr new ↦ (let lt = slice_get_within s.begun position b old in let c = known.counted in let le = new.0 in absurd (omega (arith, lt, c, le)))
        ]

    -- nothing was asked of the new ones
    no_reads : (position : ℕ) (g : Holding) → IsHolding u.holdings.table position g → length s.holdings.table.holdings ≤ position → (i offset len : ℕ) → IsReadAt ns g i offset len → ⊥
    no_reads position g is le i offset len read =
        let old = read_alike es ns g g i offset len alike refl refl read in
        elim (cases_lt i s.holdings.servers) [
          | inl low ↦ (let two : Reading g.share offset len ≡ Holdings = sym old.asked ∙ known.right.first i old.request old.there low in absurd cc)
          | inr high ↦ (
              let c = known.right.counted in
              let w = slice_get_within es i old.request old.there in
              let lt : i - s.holdings.servers < length s.holdings.owners = omega (arith, c, w, high) in
              let own = got_at s.holdings.owners (i - s.holdings.servers) lt in
              let o = known.right.owned (i - s.holdings.servers) own.0 own.1 in
              let at : s.holdings.servers + (i - s.holdings.servers) ≡ i = omega (arith, high) in
              let same : o.request ≡ old.request = one_there (slice_get es i) o.request old.request (ap (slice_get es) (sym at) ∙ o.there) old.there in
              let asks : Reading o.held.share o.read.offset o.read.len ≡ Reading g.share offset len = sym o.read.asked ∙ ap (λ (q : Request). q.asked) same ∙ old.asked in
              let shares : o.held.share ≡ g.share = cc in
              let servers : o.held.server ≡ g.server = sym o.read.of_server ∙ ap (λ (q : Request). q.server) same ∙ old.of_server in
              let f = becomes.forth own.0 o.held o.is in
              let inside = slice_get_within s.holdings.table.holdings own.0 o.held o.is in
              distinct_positions right own.0 position f.0 g f.1 is (f.2 ∙ servers) (f.3 ∙ shares) (λ e. omega (arith, inside, le, e)))
        ]
      where
        got_at : (xs : List ℕ) (i : ℕ) → i < length xs → (x : ℕ) × (slice_get xs i ≡ Some x)
        got_at xs i lt = (slice_index_or xs i 0, slice_get-get_or xs i 0 lt)

    -- the shares are begun still
    module _ (opening : AreOpening nobody s) (table : IsTable u.holdings.table) (told_news : News) (tells : IsNewsOf u what told_news) where
      waits_out : (share position : ℕ) (n : NumberState) → IsNumber u.holdings.table share n → n.reading ≡ Some position → ¬ IsToldOf told_news position → (out : IsOut s position) → (q : Request) × (slice_get ns out.request ≡ Some q) × (is_outstanding q.outcome ≡ true)
      waits_out share position n is reading none out =
          let k = goes.kept out.request out.out.request out.out.there in
          by k (message_cases from m now s.holdings.requests out.request k.0 (sym (ap (λ (r : RequestsState). slice_get r.entries out.request) hears.requests) ∙ k.1))
        where
          left : (g : Holding) → IsHolding u.holdings.table position g → g.left ≡ true
          left g held =
              let p = table.positions share position n is (table.reading share position n is reading) in
              ap (λ (x : Holding). x.left) (one_there (slice_get u.holdings.table.holdings position) g p.0 held p.1) ∙ p.3

          held_now : (g : Holding) × IsHolding u.holdings.table position g
          held_now = (let p = table.positions share position n is (table.reading share position n is reading) in (p.0, p.1))

          -- the holding whose read is out
          read_of : (h : Holding) → IsHolding s.holdings.table position h → (offset : ℕ) × (len : ℕ) × IsReadAt es h out.request offset len
          read_of h held = by_opening out.begun.opening ((known.each position h out.begun held out.is).waits out.request out.waiting)
            where
              by_opening : (o : Option Opening) → IsNextAt es h o out.request → (offset : ℕ) × (len : ℕ) × IsReadAt es h out.request offset len
              by_opening None w = absurd w
              by_opening (Some o) w = (_, _, w)

          was_held : (h : Holding) × IsHolding s.holdings.table position h
          was_held =
              let lt = slice_get_within s.begun position out.begun out.is in
              let c = known.counted in
              let g = held_now in
              elim (becomes.back position g.0 g.1) [
                | inl w ↦ (w.held, w.is)
                | inr new ↦ (let le = new.0 in absurd (omega (arith, lt, c, le)))
              ]

          brings : (w : Heard) → Brings out.request m s.holdings u.holdings w → IsNewsOf u w told_news → ⊥
          brings heard.Nothing b t = b
          brings heard.Held b t =
              let h = was_held in
              let r = read_of h.0 h.1 in
              let asks = known.right.first out.request r.2.request r.2.there b.0 in
              let two : Holdings ≡ Reading h.0.share r.0 r.1 = sym asks ∙ r.2.asked in
              absurd cc
          brings (heard.Gone holding) b t =
              let h = was_held in
              let r = read_of h.0 h.1 in
              let same : position ≡ holding = (only_owner s.holdings known.right out.request holding b.0 b.1).others position h.0 r.2.request h.1 r.2.there r.2.of_server r.0 r.1 r.2.asked in
              let g = held_now in
              retired_left holding s.holdings.table u.holdings.table g.0 b.3 (subst (λ p. IsHolding u.holdings.table p g.0) same g.1) (left g.0 g.1)
          brings (heard.Bytes holding at) b (inl t) =
              let h = was_held in
              let r = read_of h.0 h.1 in
              let same : position ≡ holding = (only_owner s.holdings known.right out.request holding b.0 b.2).others position h.0 r.2.request h.1 r.2.there r.2.of_server r.0 r.1 r.2.asked in
              none (subst (λ (x : News). IsToldOf x position) (sym t.0) same)
          brings (heard.Bytes holding at) b (inr t) =
              let h = was_held in
              let r = read_of h.0 h.1 in
              let same : position ≡ holding = (only_owner s.holdings known.right out.request holding b.0 b.2).others position h.0 r.2.request h.1 r.2.there r.2.of_server r.0 r.1 r.2.asked in
              t.1 (out.begun, begun_old holding out.begun (subst (λ p. IsBegun s p out.begun) same out.is), out.waiting ∙ ap Some (sym b.1))

          by : (k : (n : Request) × (slice_get ns out.request ≡ Some n) × (n.asked ≡ out.out.request.asked) × (n.server ≡ out.out.request.server))
              → (slice_get es out.request ≡ Some k.0) ⊎ ((counts_at from m s.holdings.requests ≡ Some out.request) × (k.0.outcome ≡ Answered m.body)) → (q : Request) × (slice_get ns out.request ≡ Some q) × (is_outstanding q.outcome ≡ true)
          by k (inl same) = (k.0, k.1, (let one = one_there (slice_get es out.request) k.0 out.out.request same out.out.there in ap (λ (q : Request). is_outstanding q.outcome) one ∙ out.out.waits))
          by k (inr counts) = absurd (brings what (subst (λ (p : Option ℕ). HearsAt p m s.holdings u.holdings what) counts.0 hears.heard) tells)

      pub opening_heard : AreOpening (IsToldOf told_news) u
      opening_heard = record {
        each = λ position g b is there. each position g b is (becomes.back position g is) (begun_cases position b there);
        works = λ share position n is reading none. (
            let old = becomes.reading share position n is reading in
            let out = opening.works share position old.0 old.1 old.2 (λ x. x) in
            let w = waits_out share position n is reading none out in
            record { begun = out.begun; is = begun_old position out.begun out.is; request = out.request; waiting = out.waiting; out = record { request = w.0; there = w.1; waits = w.2 } });
      }
        where
          each : (position : ℕ) (g : Holding) (b : Begun) → IsHolding u.holdings.table position g → WasHolding s.holdings.table position g ⊎ ((length s.holdings.table.holdings ≤ position) × (g.suspended ≡ false)) → IsBegun s position b ⊎ ((length s.begun ≤ position) × (b ≡ unbegun)) → IsOpening u position g b
          each position g b is (inl w) (inl old) = opening_was s ns u.holdings.table position g b w (opening.each position w.held b w.is old) alike is becomes.kept u refl refl
          each position g b is (inl w) (inr new) = (let lt = slice_get_within s.holdings.table.holdings position w.held w.is in let c = known.counted in let le = new.0 in absurd (omega (arith, lt, c, le)))
          each position g b is (inr new) (inl old) = (let lt = slice_get_within s.begun position b old in let c = known.counted in let le = new.0 in absurd (omega (arith, lt, c, le)))
          each position g b is (inr new) (inr none) = record {
            reads = λ i offset len read. absurd (no_reads position g is new.0 i offset len read);
            taken = λ some. absurd (some (ap (λ (x : Begun). x.opening) none.1));
            unread = ap (λ (x : Begun). x.reader) none.1;
            choosable = new.1;
          }

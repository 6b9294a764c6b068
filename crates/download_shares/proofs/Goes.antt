-- The holdings stay right as the record goes on.
use Rattle.std.proofs.Common.{◌≡◌, ℕ, ◌+◌, ◌-◌, ◌<◌, ◌≤◌, ◌⊎◌, inl, inr, Bool, true, false, List, [], ◌∷◌, ◌++◌, length, Option, Some, None, refl, sym, ap, subst, ◌∙◌, arith, true≢false}
use Rattle.std.specs.Prelude.{slice_get, slice_index_or, slice_set}
use Rattle.std.proofs.lemmas.Bool.{cases_eq, cases_lt}
use Rattle.std.proofs.lemmas.List.{length-append, length-set}
use Rattle.std.proofs.lemmas.Option.{slice_get-get_or, slice_get_within}
use Rattle.lemmas.proofs.Positions.{get_set, get_other, set_cases, get_push, get_last}
use Rattle.wire.specs.declared.message.Body.TheVariants.{NoShare}
use Rattle.wire.specs.declared.message.Message.{Message}
use Rattle.request_record.specs.declared.requests.Asked.TheVariants.{Reading}
use Rattle.request_record.specs.declared.requests.Outcome.{Outcome}
use Rattle.request_record.specs.declared.requests.Outcome.TheVariants.{Answered, Lost, Outstanding}
use Rattle.request_record.specs.declared.requests.Request.{Request}
use Rattle.request_record.specs.Record.{RequestsState, answered_in, asked_more, at, counted_at, counts_at, first_request, is_outstanding, with_outcome}
use Rattle.request_record.specs.Asking.{AreApart, AsksOnce, after_message}
use Rattle.request_record.proofs.AskingLaws.{once_answered, once_asked}
use Rattle.share_verify.specs.declared.check.Check.{Check}
use Rattle.download_shares.specs.HoldingMoves.{Asks, Blames, IsUnasked}
use Rattle.download_shares.specs.Left.{IsBlamed, IsGone, IsLeft, IsOffered}
use Rattle.download_shares.specs.HoldingState.{HoldingsState, TableState}
use Rattle.download_shares.specs.Table.{IsHolding, Releases, Retires, Suspends, TakesUp}
use Rattle.download_shares.specs.Right.{IsOwned, IsRight}
use Rattle.download_shares.specs.declared.holding.Blame.{Blame}
use Rattle.download_shares.specs.declared.holding.Holding.{Holding}
use Rattle.download_shares.proofs.Records.{AskedAlike, StaysTo, alike_message, stays_message}

-- ---- what was answered stays

pub offered_stays : (es ns : List Request) (server share : ℕ) → StaysTo es ns → IsOffered es server share → IsOffered ns server share
offered_stays es ns server share stays o = record {
  position = o.position;
  request = o.request;
  there = stays o.position o.request o.there (ap is_outstanding o.answer);
  of_server = o.of_server;
  asked = o.asked;
  readonly = o.readonly;
  held = o.held;
  answer = o.answer;
  index = o.index;
  listed = o.listed;
  among = o.among;
  number = o.number;
}

gone_quiet : (o : Outcome) → (o ≡ Lost) ⊎ (o ≡ Answered NoShare) → is_outstanding o ≡ false
gone_quiet o (inl e) = ap is_outstanding e
gone_quiet o (inr e) = ap is_outstanding e

pub gone_stays : (es ns : List Request) (server share : ℕ) → StaysTo es ns → IsGone es server share → IsGone ns server share
gone_stays es ns server share stays g = record {
  position = g.position;
  request = g.request;
  there = stays g.position g.request g.there (gone_quiet g.request.outcome g.gone);
  of_server = g.of_server;
  offset = g.offset;
  len = g.len;
  asked = g.asked;
  gone = g.gone;
}

-- ---- the record goes on, and the holdings are of the same shares

-- the same shares at the same servers
pub record HaveSamePairs (t u : TableState) : Type 0 where
  pub forth : (position : ℕ) (h : Holding) → IsHolding t position h → (g : Holding) × IsHolding u position g × (g.server ≡ h.server) × (g.share ≡ h.share)
  pub back : (position : ℕ) (g : Holding) → IsHolding u position g → (h : Holding) × IsHolding t position h × (g.server ≡ h.server) × (g.share ≡ h.share)

pub same_pairs : (t : TableState) → HaveSamePairs t t
same_pairs t = record { forth = λ position h e. (h, e, refl, refl); back = λ position h e. (h, e, refl, refl) }

-- each request is still there, and asks the same
pub record GoesAlike (es ns : List Request) : Type 0 where
  pub stays : StaysTo es ns
  pub alike : AskedAlike es ns
  pub long : length ns ≡ length es

pub alike_forth : (es ns : List Request) → GoesAlike es ns → (i : ℕ) (r : Request) → slice_get es i ≡ Some r → (n : Request) × (slice_get ns i ≡ Some n) × (n.asked ≡ r.asked) × (n.server ≡ r.server)
alike_forth es ns k i r e =
    let lt : i < length ns = let w = slice_get_within es i r e in let l = k.long in omega (arith, w, l) in
    let there = slice_get-get_or ns i r lt in
    let was = k.alike i _ there in
    let same : was.request ≡ r = let two : Some was.request ≡ Some r = sym was.there ∙ e in cc in
    (_, there, sym was.same ∙ ap (λ (q : Request). q.asked) same, sym was.of_server ∙ ap (λ (q : Request). q.server) same)

module _ (s : HoldingsState) (right : IsRight s) (r : RequestsState) (u : TableState) (goes : GoesAlike s.requests.entries r.entries) (pairs : HaveSamePairs s.table u) where
  owned_after : (i holding : ℕ) → slice_get s.owners i ≡ Some holding → IsOwned (record s { requests = r; table = u }) (s.servers + i) holding
  owned_after i holding e =
      let o = right.owned i holding e in
      let n = alike_forth s.requests.entries r.entries goes (s.servers + i) o.request o.there in
      let g = pairs.forth holding o.held o.is in
      record {
        held = g.0;
        is = g.1;
        request = n.0;
        there = n.1;
        read = record {
          of_server = n.3 ∙ o.read.of_server ∙ sym g.2;
          offset = o.read.offset;
          len = o.read.len;
          asked = n.2 ∙ o.read.asked ∙ ap (λ (share : ℕ). Reading share o.read.offset o.read.len) (sym g.3);
        };
      }

  pub right_goes : AsksOnce r.entries
      → ((position : ℕ) (g : Holding) → IsHolding u position g → g.left ≡ true → IsLeft r.entries s.blamed g.server g.share)
      → ((position : ℕ) (g : Holding) → IsHolding u position g → g.left ≡ false → IsGone r.entries g.server g.share ⊎ IsBlamed s.blamed g.server g.share)
      → IsRight (record s { requests = r; table = u })
  right_goes once left others = record {
    once = once;
    first = λ i n e lt. let was = goes.alike i n e in sym was.same ∙ right.first i was.request was.there lt;
    counted = (let c = right.counted in let l = goes.long in omega (arith, c, l));
    owned = owned_after;
    offered = λ position g e.
        let h = pairs.back position g e in
        subst (λ (server : ℕ). IsOffered r.entries server g.share) (sym h.2)
        (subst (λ (share : ℕ). IsOffered r.entries h.0.server share) (sym h.3)
        (offered_stays s.requests.entries r.entries h.0.server h.0.share goes.stays (right.offered position h.0 h.1)));
    distinct = λ i j a b lt e f servers shares.
        let x = pairs.back i a e in
        let y = pairs.back j b f in
        right.distinct i j x.0 y.0 lt x.1 y.1 (sym x.2 ∙ servers ∙ y.2) (sym x.3 ∙ shares ∙ y.3);
    left = left;
    others = others;
    blamed = λ i b e.
        let k = right.blamed i b e in
        let g = pairs.forth k.0 k.1.0 k.1.1 in
        (k.0, (g.0, g.1, k.1.2 ∙ sym g.2, k.1.3 ∙ sym g.3));
  }

-- ---- answers

-- what stands at a position after a message: what stood there, or the request that it answers
pub message_cases : (from : ℕ) (m : Message) (now : ℕ) (r : RequestsState) (k : ℕ) (n : Request) → slice_get (after_message from m now r).entries k ≡ Some n → (slice_get r.entries k ≡ Some n) ⊎ ((counts_at from m r ≡ Some k) × (n.outcome ≡ Answered m.body))
message_cases from m now r k n e = by (counts_at from m (at now r)) refl e
  where
    by : (o : Option ℕ) → counts_at from m (at now r) ≡ o → slice_get (counted_at m (at now r) o).entries k ≡ Some n → (slice_get r.entries k ≡ Some n) ⊎ ((counts_at from m r ≡ Some k) × (n.outcome ≡ Answered m.body))
    by None c f = inl f
    by (Some position) c f = at_position (slice_get r.entries position) refl f
      where
        at_position : (q : Option Request) → slice_get r.entries position ≡ q → slice_get (answered_in r.entries position q m.body) k ≡ Some n → (slice_get r.entries k ≡ Some n) ⊎ ((counts_at from m r ≡ Some k) × (n.outcome ≡ Answered m.body))
        at_position None there g = inl g
        at_position (Some q) there g = elim (set_cases r.entries position k (with_outcome q (Answered m.body)) n g) [
          | inl new ↦ inr (c ∙ ap Some (sym new.0), ap (λ (x : Request). x.outcome) (sym new.1))
          | inr old ↦ inl old.1
        ]

length_message : (from : ℕ) (m : Message) (now : ℕ) (r : RequestsState) → length (after_message from m now r).entries ≡ length r.entries
length_message from m now r = by (counts_at from m (at now r))
  where
    in_position : (position : ℕ) (q : Option Request) → length (answered_in r.entries position q m.body) ≡ length r.entries
    in_position position None = refl
    in_position position (Some q) = length-set r.entries position (with_outcome q (Answered m.body))

    by : (o : Option ℕ) → length (counted_at m (at now r) o).entries ≡ length r.entries
    by None = refl
    by (Some position) = in_position position (slice_get r.entries position)

pub message_goes : (from : ℕ) (m : Message) (now : ℕ) (r : RequestsState) → GoesAlike r.entries (after_message from m now r).entries
message_goes from m now r = record { stays = stays_message from m now r; alike = alike_message from m now r; long = length_message from m now r }

-- the request that a message answers has its answer
pub answered_at : (from : ℕ) (m : Message) (now : ℕ) (r : RequestsState) (position : ℕ) (q : Request) → counts_at from m r ≡ Some position → slice_get r.entries position ≡ Some q → slice_get (after_message from m now r).entries position ≡ Some (with_outcome q (Answered m.body))
answered_at from m now r position q counts there =
    ap (λ (o : Option ℕ). slice_get (counted_at m (at now r) o).entries position) counts
    ∙ ap (λ (o : Option Request). slice_get (answered_in r.entries position o m.body) position) there
    ∙ get_set r.entries position (with_outcome q (Answered m.body)) q there

-- what is gone after a message was gone before, or is gone by it
pub gone_message : (from : ℕ) (m : Message) (now : ℕ) (r : RequestsState) (server share : ℕ) → IsGone (after_message from m now r).entries server share → IsGone r.entries server share ⊎ ((position : ℕ) × (counts_at from m r ≡ Some position) × (m.body ≡ NoShare) × ((q : Request) × (slice_get r.entries position ≡ Some q) × (q.server ≡ server) × ((offset : ℕ) × ((len : ℕ) × (q.asked ≡ Reading share offset len)))))
gone_message from m now r server share g = elim (message_cases from m now r g.position g.request g.there) [
  | inl old ↦ inl (record { position = g.position; request = g.request; there = old; of_server = g.of_server; offset = g.offset; len = g.len; asked = g.asked; gone = g.gone })
  | inr new ↦
      let was = alike_message from m now r g.position g.request g.there in
      inr (g.position, new.0, no_share g.gone new.1, (was.request, was.there, was.of_server ∙ g.of_server, (g.offset, (g.len, was.same ∙ g.asked))))
]
  where
    no_share : {o : Outcome} → (o ≡ Lost) ⊎ (o ≡ Answered NoShare) → o ≡ Answered m.body → m.body ≡ NoShare
    no_share (inl lost) e = let two : Lost ≡ Answered m.body = sym lost ∙ e in absurd cc
    no_share (inr none) e = let two : Answered m.body ≡ Answered NoShare = sym e ∙ none in cc

-- ---- a message that is no refusal of a read changes what is left of nothing

-- the request at this position asks for bytes of the share of this holding, and of no other
pub record IsOnly (s : HoldingsState) (position holding : ℕ) : Type 0 where
  pub held : Holding
  pub is : IsHolding s.table holding held
  pub others : (other : ℕ) (h : Holding) (q : Request) → IsHolding s.table other h → slice_get s.requests.entries position ≡ Some q → q.server ≡ h.server → (offset len : ℕ) → q.asked ≡ Reading h.share offset len → other ≡ holding

-- it is the share of its owner alone
pub only_owner : (s : HoldingsState) → IsRight s → (position holding : ℕ) → s.servers ≤ position → slice_get s.owners (position - s.servers) ≡ Some holding → IsOnly s position holding
only_owner s right position holding le own =
    let o = right.owned (position - s.servers) holding own in
    let same-position : s.servers + (position - s.servers) ≡ position = omega (arith, le) in
    record {
      held = o.held;
      is = o.is;
      others = λ other h q is there server offset len asked.
          let at : slice_get s.requests.entries position ≡ Some o.request = ap (slice_get s.requests.entries) (sym same-position) ∙ o.there in
          let one : q ≡ o.request = let two : Some q ≡ Some o.request = sym there ∙ at in cc in
          let servers : h.server ≡ o.held.server = sym server ∙ ap (λ (x : Request). x.server) one ∙ o.read.of_server in
          let reads : Reading h.share offset len ≡ Reading o.held.share o.read.offset o.read.len = sym asked ∙ ap (λ (x : Request). x.asked) one ∙ o.read.asked in
          let shares : h.share ≡ o.held.share = share_of reads in
          elim (cases_lt other holding) [
            | inl lt ↦ absurd (right.distinct other holding h o.held lt is o.is servers shares)
            | inr ge ↦ elim (cases_lt holding other) [
              | inl lt ↦ absurd (right.distinct holding other o.held h lt o.is is (sym servers) (sym shares))
              | inr le' ↦ omega (arith, ge, le')
            ]
          ];
    }
  where
    share_of : {a b c d e f : ℕ} → Reading a b c ≡ Reading d e f → a ≡ d
    share_of e = cc

-- ---- the record alone goes on

module _ (s : HoldingsState) (right : IsRight s) where
  -- by a message that tells of no share that is gone
  pub right_message : (from : ℕ) (m : Message) (now : ℕ) → ((position : ℕ) → counts_at from m s.requests ≡ Some position → m.body ≡ NoShare → ⊥) → IsRight (record s { requests = after_message from m now s.requests })
  right_message from m now harmless = right_goes s right (after_message from m now s.requests) s.table (message_goes from m now s.requests) (same_pairs s.table) (once_answered from now m s.requests right.once)
      (λ position g is left. let l = right.left position g is left in ((λ gone. elim (gone_message from m now s.requests g.server g.share gone) [ inl old ↦ l.0 old | inr new ↦ harmless new.0 new.1 new.2 ]), l.1))
      (λ position g is left. elim (right.others position g is left) [ inl gone ↦ inl (gone_stays s.requests.entries (after_message from m now s.requests).entries g.server g.share (stays_message from m now s.requests) gone) | inr blamed ↦ inr blamed ])

  -- a holding is not left any more: the others are the same
  retired_pairs : (holding : ℕ) (u : TableState) → Retires holding s.table u → HaveSamePairs s.table u
  retired_pairs holding u r = record {
    forth = λ position h is. elim (cases_eq position holding) [
      | inl e ↦
          let same : h ≡ r.0 = let two : Some h ≡ Some r.0 = sym is ∙ ap (slice_get s.table.holdings) e ∙ r.1.is in cc in
          (record r.0 { left = false }, ap (λ (l : List Holding). slice_get l position) r.1.holdings ∙ ap (slice_get (slice_set s.table.holdings holding (record r.0 { left = false }))) e ∙ get_set s.table.holdings holding (record r.0 { left = false }) r.0 r.1.is, ap (λ (x : Holding). x.server) (sym same), ap (λ (x : Holding). x.share) (sym same))
      | inr ne ↦ (h, ap (λ (l : List Holding). slice_get l position) r.1.holdings ∙ get_other s.table.holdings holding position (record r.0 { left = false }) ne ∙ is, refl, refl)
    ];
    back = λ position g is. elim (set_cases s.table.holdings holding position (record r.0 { left = false }) g (sym (ap (λ (l : List Holding). slice_get l position) r.1.holdings) ∙ is)) [
      | inl k ↦ (r.0, ap (slice_get s.table.holdings) k.0 ∙ r.1.is, ap (λ (x : Holding). x.server) (sym k.1), ap (λ (x : Holding). x.share) (sym k.1))
      | inr k ↦ (g, k.1, refl, refl)
    ];
  }

  -- what is there after one is retired: that one, or an old one
  retired_cases : (holding : ℕ) (u : TableState) → (r : Retires holding s.table u) → (position : ℕ) (g : Holding) → IsHolding u position g → ((position ≡ holding) × (record r.0 { left = false } ≡ g)) ⊎ ((position ≡ holding → ⊥) × IsHolding s.table position g)
  retired_cases holding u r position g is = set_cases s.table.holdings holding position (record r.0 { left = false }) g (sym (ap (λ (l : List Holding). slice_get l position) r.1.holdings) ∙ is)

  -- by a message that tells that a share is gone, which is retired
  pub right_gone : (from : ℕ) (m : Message) (now position holding : ℕ) (u : TableState) → counts_at from m s.requests ≡ Some position → m.body ≡ NoShare → s.servers ≤ position → slice_get s.owners (position - s.servers) ≡ Some holding → Retires holding s.table u → IsRight (record s { requests = after_message from m now s.requests; table = u })
  right_gone from m now position holding u counts none le own r = right_goes s right (after_message from m now s.requests) u (message_goes from m now s.requests) (retired_pairs holding u r) (once_answered from now m s.requests right.once)
      (λ q g is left. elim (retired_cases holding u r q g is) [
        | inl k ↦ absurd (true≢false (sym left ∙ sym (ap (λ (x : Holding). x.left) k.1)))
        | inr k ↦
            let l = right.left q g k.1 left in (
              (λ gone. elim (gone_message from m now s.requests g.server g.share gone) [
                | inl old ↦ l.0 old
                | inr new ↦
                    let is-position : new.0 ≡ position = let two : Some new.0 ≡ Some position = sym new.1 ∙ counts in cc in
                    k.0 ((only_owner s right position holding le own).others q g new.3.0 k.1 (ap (slice_get s.requests.entries) (sym is-position) ∙ new.3.1) new.3.2 new.3.3.0 new.3.3.1.0 new.3.3.1.1)
              ]),
              l.1,
            )
      ])
      (λ q g is left. elim (retired_cases holding u r q g is) [
        | inl k ↦ inl (gone_now (ap (λ (x : Holding). x.server) k.1) (ap (λ (x : Holding). x.share) k.1))
        | inr k ↦ elim (right.others q g k.1 left) [
          | inl gone ↦ inl (gone_stays s.requests.entries (after_message from m now s.requests).entries g.server g.share (stays_message from m now s.requests) gone)
          | inr blamed ↦ inr blamed
        ]
      ])
    where
      gone_now : {server share : ℕ} → r.0.server ≡ server → r.0.share ≡ share → IsGone (after_message from m now s.requests).entries server share
      gone_now servers shares =
          let o = right.owned (position - s.servers) holding own in
          let same-position : s.servers + (position - s.servers) ≡ position = omega (arith, le) in
          let there : slice_get s.requests.entries position ≡ Some o.request = ap (slice_get s.requests.entries) (sym same-position) ∙ o.there in
          let held : o.held ≡ r.0 = let two : Some o.held ≡ Some r.0 = sym o.is ∙ r.1.is in cc in
          record {
            position = position;
            request = with_outcome o.request (Answered m.body);
            there = answered_at from m now s.requests position o.request counts there;
            of_server = o.read.of_server ∙ ap (λ (x : Holding). x.server) held ∙ servers;
            offset = o.read.offset;
            len = o.read.len;
            asked = o.read.asked ∙ ap (λ (n : ℕ). Reading n o.read.offset o.read.len) (ap (λ (x : Holding). x.share) held ∙ shares);
            gone = inr (ap Answered none);
          }

  -- ---- one more request

  -- a holding's share is asked for bytes that were not asked for
  pub right_asked : (holding : ℕ) (h : Holding) (offset len : ℕ) → IsHolding s.table holding h
      → ((i : ℕ) (q : Request) → slice_get s.requests.entries i ≡ Some q → q.server ≡ h.server → AreApart q.asked (Reading h.share offset len))
      → IsRight (record s { requests = asked_more h.server (Reading h.share offset len) s.requests; owners = s.owners ++ holding ∷ [] })
  right_asked holding h offset len is apart = record {
    once = once_asked h.server s.requests.clock (Reading h.share offset len) s.requests.entries apart right.once;
    first = λ i n e lt. (let old = right.counted in right.first i n (sym (get_push s.requests.entries new i (omega (arith, lt, old))) ∙ e) lt);
    counted = (let c = right.counted in let a = length-append s.requests.entries (new ∷ []) in let b = length-append s.owners (holding ∷ []) in omega (arith, c, a, b));
    owned = λ i other e. elim (cases_lt i (length s.owners)) [
      | inl lt ↦
          let o = right.owned i other (sym (get_push s.owners holding i lt) ∙ e) in
          record { held = o.held; is = o.is; request = o.request; there = get_push s.requests.entries new (s.servers + i) (slice_get_within s.requests.entries (s.servers + i) o.request o.there) ∙ o.there; read = o.read }
      | inr le ↦
          let within = slice_get_within (s.owners ++ holding ∷ []) i other e in
          let len-owners = length-append s.owners (holding ∷ []) in
          let last : i ≡ length s.owners = omega (arith, le, within, len-owners) in
          let two : Some holding ≡ Some other = sym (get_last s.owners holding) ∙ ap (slice_get (s.owners ++ holding ∷ [])) (sym last) ∙ e in
          let one : holding ≡ other = cc in
          let c = right.counted in
          let at : s.servers + i ≡ length s.requests.entries = omega (arith, c, last) in
          record { held = h; is = ap (slice_get s.table.holdings) (sym one) ∙ is; request = new; there = ap (slice_get (s.requests.entries ++ new ∷ [])) at ∙ get_last s.requests.entries new; read = record { of_server = refl; offset = offset; len = len; asked = refl } }
    ];
    offered = λ position g e. offered_stays s.requests.entries (s.requests.entries ++ new ∷ []) g.server g.share stays (right.offered position g e);
    distinct = right.distinct;
    left = λ position g e left. (let l = right.left position g e left in ((λ gone. l.0 (gone_before g.server g.share gone)), l.1));
    others = λ position g e left. elim (right.others position g e left) [ inl gone ↦ inl (gone_stays s.requests.entries (s.requests.entries ++ new ∷ []) g.server g.share stays gone) | inr blamed ↦ inr blamed ];
    blamed = right.blamed;
  }
    where
      new : Request
      new = first_request h.server (Reading h.share offset len) s.requests.clock

      stays : StaysTo s.requests.entries (s.requests.entries ++ new ∷ [])
      stays i q e quiet = get_push s.requests.entries new i (slice_get_within s.requests.entries i q e) ∙ e

      waits : {o : Outcome} → o ≡ Outstanding → (o ≡ Lost) ⊎ (o ≡ Answered NoShare) → ⊥
      waits e (inl f) = let two : Outstanding ≡ Lost = sym e ∙ f in absurd cc
      waits e (inr f) = let two : Outstanding ≡ Answered NoShare = sym e ∙ f in absurd cc

      gone_before : (server share : ℕ) → IsGone (s.requests.entries ++ new ∷ []) server share → IsGone s.requests.entries server share
      gone_before server share g = elim (cases_lt g.position (length s.requests.entries)) [
        | inl lt ↦ record { position = g.position; request = g.request; there = sym (get_push s.requests.entries new g.position lt) ∙ g.there; of_server = g.of_server; offset = g.offset; len = g.len; asked = g.asked; gone = g.gone }
        | inr le ↦
            let within = slice_get_within (s.requests.entries ++ new ∷ []) g.position g.request g.there in
            let long = length-append s.requests.entries (new ∷ []) in
            let last : g.position ≡ length s.requests.entries = omega (arith, le, within, long) in
            let two : Some new ≡ Some g.request = sym (get_last s.requests.entries new) ∙ ap (slice_get (s.requests.entries ++ new ∷ [])) (sym last) ∙ g.there in
            let one : new ≡ g.request = cc in
            absurd (waits (ap (λ (x : Request). x.outcome) (sym one)) g.gone)
      ]

  -- ---- a check is failed

  pub right_blamed : (holding : ℕ) (b : Blame) (u : TableState) → (r : Retires holding s.table u) → b.server ≡ r.0.server → b.share ≡ r.0.share → IsRight (record s { table = u; blamed = s.blamed ++ b ∷ [] })
  right_blamed holding b u r servers shares = record {
    once = right.once;
    first = right.first;
    counted = right.counted;
    owned = λ i other e.
        let o = right.owned i other e in
        let g = (retired_pairs holding u r).forth other o.held o.is in
        record { held = g.0; is = g.1; request = o.request; there = o.there; read = record { of_server = o.read.of_server ∙ sym g.2; offset = o.read.offset; len = o.read.len; asked = o.read.asked ∙ ap (λ (n : ℕ). Reading n o.read.offset o.read.len) (sym g.3) } };
    offered = λ position g e.
        let h = (retired_pairs holding u r).back position g e in
        subst (λ (server : ℕ). IsOffered s.requests.entries server g.share) (sym h.2)
        (subst (λ (share : ℕ). IsOffered s.requests.entries h.0.server share) (sym h.3) (right.offered position h.0 h.1));
    distinct = λ i j x y lt e f same-server same-share.
        let a = (retired_pairs holding u r).back i x e in
        let c = (retired_pairs holding u r).back j y f in
        right.distinct i j a.0 c.0 lt a.1 c.1 (sym a.2 ∙ same-server ∙ c.2) (sym a.3 ∙ same-share ∙ c.3);
    left = λ q g is left. elim (retired_cases holding u r q g is) [
      | inl k ↦ absurd (true≢false (sym left ∙ sym (ap (λ (x : Holding). x.left) k.1)))
      | inr k ↦ (let l = right.left q g k.1 left in (l.0, λ blamed. not_blamed q g k.0 k.1 l.1 blamed))
    ];
    others = λ q g is left. elim (retired_cases holding u r q g is) [
      | inl k ↦ inr (record { position = length s.blamed; blame = b; there = get_last s.blamed b; of_server = servers ∙ ap (λ (x : Holding). x.server) k.1; of_share = shares ∙ ap (λ (x : Holding). x.share) k.1 })
      | inr k ↦ elim (right.others q g k.1 left) [
        | inl gone ↦ inl gone
        | inr blamed ↦ inr (record { position = blamed.position; blame = blamed.blame; there = get_push s.blamed b blamed.position (slice_get_within s.blamed blamed.position blamed.blame blamed.there) ∙ blamed.there; of_server = blamed.of_server; of_share = blamed.of_share })
      ]
    ];
    blamed = λ i x e. elim (cases_lt i (length s.blamed)) [
      | inl lt ↦
          let k = right.blamed i x (sym (get_push s.blamed b i lt) ∙ e) in
          let g = (retired_pairs holding u r).forth k.0 k.1.0 k.1.1 in
          (k.0, (g.0, g.1, k.1.2 ∙ sym g.2, k.1.3 ∙ sym g.3))
      | inr le ↦
          let within = slice_get_within (s.blamed ++ b ∷ []) i x e in
          let long = length-append s.blamed (b ∷ []) in
          let last : i ≡ length s.blamed = omega (arith, le, within, long) in
          let two : Some b ≡ Some x = sym (get_last s.blamed b) ∙ ap (slice_get (s.blamed ++ b ∷ [])) (sym last) ∙ e in
          let one : b ≡ x = cc in
          let g = (retired_pairs holding u r).forth holding r.0 r.1.is in
          (holding, (g.0, g.1, ap (λ (y : Blame). y.server) (sym one) ∙ servers ∙ sym g.2, ap (λ (y : Blame). y.share) (sym one) ∙ shares ∙ sym g.3))
    ];
  }
    where
      not_blamed : (q : ℕ) (g : Holding) → (q ≡ holding → ⊥) → IsHolding s.table q g → (IsBlamed s.blamed g.server g.share → ⊥) → IsBlamed (s.blamed ++ b ∷ []) g.server g.share → ⊥
      not_blamed q g other is before now = elim (cases_lt now.position (length s.blamed)) [
        | inl lt ↦ before (record { position = now.position; blame = now.blame; there = sym (get_push s.blamed b now.position lt) ∙ now.there; of_server = now.of_server; of_share = now.of_share })
        | inr le ↦
            let within = slice_get_within (s.blamed ++ b ∷ []) now.position now.blame now.there in
            let long = length-append s.blamed (b ∷ []) in
            let last : now.position ≡ length s.blamed = omega (arith, le, within, long) in
            let two : Some b ≡ Some now.blame = sym (get_last s.blamed b) ∙ ap (slice_get (s.blamed ++ b ∷ [])) (sym last) ∙ now.there in
            let one : b ≡ now.blame = cc in
            let same-server : r.0.server ≡ g.server = sym servers ∙ ap (λ (x : Blame). x.server) one ∙ now.of_server in
            let same-share : r.0.share ≡ g.share = sym shares ∙ ap (λ (x : Blame). x.share) one ∙ now.of_share in
            elim (cases_lt q holding) [
              | inl lt ↦ right.distinct q holding g r.0 lt is r.1.is (sym same-server) (sym same-share)
              | inr ge ↦ elim (cases_lt holding q) [
                | inl lt ↦ right.distinct holding q r.0 g lt r.1.is is same-server same-share
                | inr le' ↦ other (omega (arith, ge, le'))
              ]
            ]
      ]

  -- ---- which are read, and which may be chosen

  -- the holdings are the same, but for what may be chosen
  pub record SameHoldings (u : TableState) : Type 0 where
    pub forth : (position : ℕ) (h : Holding) → IsHolding s.table position h → (g : Holding) × IsHolding u position g × (g.server ≡ h.server) × (g.share ≡ h.share) × (g.left ≡ h.left)
    pub back : (position : ℕ) (g : Holding) → IsHolding u position g → (h : Holding) × IsHolding s.table position h × (g.server ≡ h.server) × (g.share ≡ h.share) × (g.left ≡ h.left)

  pub right_same : (u : TableState) → SameHoldings u → IsRight (record s { table = u })
  right_same u k = right_goes s right s.requests u (record { stays = λ i r e quiet. e; alike = λ i n e. record { request = n; there = e; same = refl; of_server = refl }; long = refl })
      (record { forth = λ position h e. (let g = k.forth position h e in (g.0, g.1, g.2, g.3)); back = λ position g e. (let h = k.back position g e in (h.0, h.1, h.2, h.3)) })
      right.once
      (λ position g is left. let h = k.back position g is in
      let l = right.left position h.0 h.1 (sym h.4 ∙ left) in
      subst (λ (server : ℕ). IsLeft s.requests.entries s.blamed server g.share) (sym h.2) (subst (λ (share : ℕ). IsLeft s.requests.entries s.blamed h.0.server share) (sym h.3) l))
      (λ position g is left. let h = k.back position g is in
      let l = right.others position h.0 h.1 (sym h.4 ∙ left) in
      subst (λ (server : ℕ). IsGone s.requests.entries server g.share ⊎ IsBlamed s.blamed server g.share) (sym h.2) (subst (λ (share : ℕ). IsGone s.requests.entries h.0.server share ⊎ IsBlamed s.blamed h.0.server share) (sym h.3) l))

  -- the record goes on, and each request is as it was
  pub right_sent : (r : RequestsState) → r.entries ≡ s.requests.entries → IsRight (record s { requests = r })
  right_sent r e = right_goes s right r s.table
      (subst (GoesAlike s.requests.entries) (sym e) (record { stays = λ i q f quiet. f; alike = λ i n f. record { request = n; there = f; same = refl; of_server = refl }; long = refl }))
      (same_pairs s.table) (subst AsksOnce (sym e) right.once)
      (λ position g is left. subst (λ (es : List Request). IsLeft es s.blamed g.server g.share) (sym e) (right.left position g is left))
      (λ position g is left. subst (λ (es : List Request). IsGone es g.server g.share ⊎ IsBlamed s.blamed g.server g.share) (sym e) (right.others position g is left))

  pub right_unmoved : (u : TableState) → u.holdings ≡ s.table.holdings → IsRight (record s { table = u })
  right_unmoved u e = right_same u (record {
    forth = λ position h is. (h, ap (λ (l : List Holding). slice_get l position) e ∙ is, refl, refl, refl);
    back = λ position g is. (g, sym (ap (λ (l : List Holding). slice_get l position) e) ∙ is, refl, refl, refl);
  })

  pub right_suspended : (position : ℕ) (suspended : Bool) (u : TableState) → Suspends suspended position s.table u → IsRight (record s { table = u })
  right_suspended position suspended u k = right_same u (record {
    forth = λ q h is. elim (cases_eq q position) [
      | inl e ↦
          let same : h ≡ k.1.0 = let two : Some h ≡ Some k.1.0 = sym is ∙ ap (slice_get s.table.holdings) e ∙ k.1.1.is in cc in
          (record k.1.0 { suspended = suspended }, ap (λ (l : List Holding). slice_get l q) k.1.1.holdings ∙ ap (slice_get (slice_set s.table.holdings position (record k.1.0 { suspended = suspended }))) e ∙ get_set s.table.holdings position (record k.1.0 { suspended = suspended }) k.1.0 k.1.1.is, ap (λ (x : Holding). x.server) (sym same), ap (λ (x : Holding). x.share) (sym same), ap (λ (x : Holding). x.left) (sym same))
      | inr ne ↦ (h, ap (λ (l : List Holding). slice_get l q) k.1.1.holdings ∙ get_other s.table.holdings position q (record k.1.0 { suspended = suspended }) ne ∙ is, refl, refl, refl)
    ];
    back = λ q g is. elim (set_cases s.table.holdings position q (record k.1.0 { suspended = suspended }) g (sym (ap (λ (l : List Holding). slice_get l q) k.1.1.holdings) ∙ is)) [
      | inl e ↦ (k.1.0, ap (slice_get s.table.holdings) e.0 ∙ k.1.1.is, ap (λ (x : Holding). x.server) (sym e.1), ap (λ (x : Holding). x.share) (sym e.1), ap (λ (x : Holding). x.left) (sym e.1))
      | inr e ↦ (g, e.1, refl, refl, refl)
    ];
  })

  pub right_taken : (position : ℕ) (u : TableState) → TakesUp position s.table u → IsRight (record s { table = u })
  right_taken position u k = right_unmoved u k.2

  pub right_released : (position : ℕ) (u : TableState) → Releases position s.table u → IsRight (record s { table = u })
  right_released position u k = right_unmoved u k.2

-- ---- as the code does it

-- bytes are asked for
pub record AsksNow (s : HoldingsState) (holding offset len : ℕ) (new : HoldingsState) : Type 0 where
  pub right : IsRight new
  pub asks : Asks holding offset len s new

pub asked_by : (s : HoldingsState) → IsRight s → (holding offset len : ℕ) (hs : List Holding) (d : Holding) (r : RequestsState) (owners : List ℕ) → hs ≡ s.table.holdings → holding < length s.table.holdings
    → r ≡ asked_more (slice_index_or hs holding d).server (Reading (slice_index_or hs holding d).share offset len) s.requests → owners ≡ s.owners ++ holding ∷ []
    → IsUnasked s holding offset len → AsksNow s holding offset len (record s { requests = r; owners = owners })
asked_by s right holding offset len hs d r owners he lt re oe unasked =
    let h : Holding = slice_index_or hs holding d in
    let is : IsHolding s.table holding h = slice_get-get_or s.table.holdings holding d lt ∙ ap (λ (l : List Holding). Some (slice_index_or l holding d)) (sym he) in
    let same : record s { requests = r; owners = owners } ≡ record s { requests = asked_more h.server (Reading h.share offset len) s.requests; owners = s.owners ++ holding ∷ [] } =
    ap (λ (q : RequestsState). record s { requests = q; owners = owners }) re ∙ ap (λ (l : List ℕ). record s { requests = asked_more h.server (Reading h.share offset len) s.requests; owners = l }) oe in
    record {
      right = subst IsRight (sym same) (right_asked s right holding h offset len is (λ i q e servers. unasked h i q is e servers));
      asks = (h, is, same);
    }

-- a check is failed
pub record BlamesNow (s : HoldingsState) (holding : ℕ) (check : Check) (new : HoldingsState) : Type 0 where
  pub right : IsRight new
  pub blames : Blames holding check s new

pub blamed_by : (s : HoldingsState) → IsRight s → (holding : ℕ) (check : Check) (hs : List Holding) (d : Holding) (u : TableState) (blamed : List Blame) → hs ≡ s.table.holdings → holding < length s.table.holdings
    → blamed ≡ s.blamed ++ record { server = (slice_index_or hs holding d).server; share = (slice_index_or hs holding d).share; check = check } ∷ []
    → Retires holding s.table u → BlamesNow s holding check (record s { table = u; blamed = blamed })
blamed_by s right holding check hs d u blamed he lt be r =
    let h : Holding = slice_index_or hs holding d in
    let is : IsHolding s.table holding h = slice_get-get_or s.table.holdings holding d lt ∙ ap (λ (l : List Holding). Some (slice_index_or l holding d)) (sym he) in
    let one : h ≡ r.0 = let two : Some h ≡ Some r.0 = sym is ∙ r.1.is in cc in
    let b : Blame = record { server = h.server; share = h.share; check = check } in
    record {
      right = subst (λ (l : List Blame). IsRight (record s { table = u; blamed = l })) (sym be) (right_blamed s right holding b u r (ap (λ (x : Holding). x.server) one) (ap (λ (x : Holding). x.share) one));
      blames = record { held = h; is = is; blamed = be; retired = r; others = refl };
    }

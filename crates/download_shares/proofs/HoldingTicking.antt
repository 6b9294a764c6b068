-- The holdings after a tick.
use Rattle.std.proofs.Common.{◌≡◌, ℕ, zero, suc, ◌+◌, ◌-◌, ◌<◌, ◌≤◌, ◌⊎◌, inl, inr, Bool, true, false, cond, List, [], ◌∷◌, ◌++◌, All, Contains, length, map, max, take, Option, Some, None, refl, sym, ap, subst, ◌∙◌, arith, true≢false}
use Rattle.std.specs.Prelude.{slice_get, slice_index_or}
use Rattle.std.proofs.lemmas.Bool.{cases_eq, cases_lt}
use Rattle.std.proofs.lemmas.List.{length-map, length-set, take_more}
use Rattle.std.proofs.lemmas.List.Elements.{Contains-append_left, Contains-push, Contains-push_cases}
use Rattle.std.proofs.lemmas.Option.{get_or_from_slice_get, slice_get-get_or, slice_get_within}
use Rattle.lemmas.proofs.Positions.{set_cases}
use Rattle.placement.proofs.Members.{Contains-cons, Contains-head, Contains-nil, Contains-uncons}
use Rattle.request_record.specs.declared.requests.Asked.TheVariants.{Holdings, Reading}
use Rattle.request_record.specs.declared.requests.Outcome.{Outcome}
use Rattle.request_record.specs.declared.requests.Outcome.TheVariants.{Answered, Lost}
use Rattle.wire.specs.declared.message.Body.TheVariants.{NoShare}
use Rattle.request_record.specs.declared.requests.Request.{Request}
use Rattle.request_record.specs.Record.{RequestsState, is_lost_at, is_resent_at, positions_from, resent_one, ticked_one, with_outcome}
use Rattle.request_record.specs.Asking.{after_tick, lost_by_tick}
use Rattle.request_record.proofs.AskingLaws.{once_ticked}
use Rattle.download_shares.specs.Left.{IsBlamed, IsGone, IsLeft}
use Rattle.download_shares.specs.HoldingMoves.{IsAmong, RetiresAll}
use Rattle.download_shares.specs.Numbers.{released, without_position}
use Rattle.download_shares.specs.HoldingState.{HoldingsState, NumberState, TableState}
use Rattle.download_shares.specs.Table.{IsHolding, Retires}
use Rattle.download_shares.specs.Right.{IsRight}
use Rattle.download_shares.specs.declared.holding.Holding.{Holding}
use Rattle.download_shares.proofs.Goes.{GoesAlike, HaveSamePairs, gone_stays, only_owner, right_goes}
use Rattle.download_shares.proofs.Lists.{released_at, released_else}
use Rattle.download_shares.proofs.Records.{alike_tick, stays_tick}

-- ---- which requests a tick finds lost

-- a position is listed where the request there passes the test
pub listed : (test : Request → Bool) (es : List Request) (base i : ℕ) (q : Request) → slice_get es i ≡ Some q → test q ≡ true → Contains (positions_from test base es) (base + i)
listed test [] base i q e pass = absurd cc
listed test (x ∷ xs) base zero q e pass = let is : x ≡ q = cc in by (test x) refl
  where
    by : (b : Bool) → test x ≡ b → Contains (cond b (base ∷ positions_from test (base + 1) xs) (positions_from test (base + 1) xs)) (base + 0)
    by true t = let same : base ≡ base + 0 = omega arith in subst (Contains (base ∷ positions_from test (base + 1) xs)) same (Contains-head base (positions_from test (base + 1) xs))
    by false t = let is : x ≡ q = cc in absurd (true≢false (sym pass ∙ sym (ap test is) ∙ t))
listed test (x ∷ xs) base (suc i) q e pass = by (test x) (let same : base + 1 + i ≡ base + suc i = omega arith in subst (Contains (positions_from test (base + 1) xs)) same (listed test xs (base + 1) i q e pass))
  where
    by : (b : Bool) → Contains (positions_from test (base + 1) xs) (base + suc i) → Contains (cond b (base ∷ positions_from test (base + 1) xs) (positions_from test (base + 1) xs)) (base + suc i)
    by true rest = Contains-cons base (positions_from test (base + 1) xs) (base + suc i) rest
    by false rest = rest

-- what is listed is there, and passes
unlisted : (test : Request → Bool) (es : List Request) (base p : ℕ) → Contains (positions_from test base es) p → (base ≤ p) × ((q : Request) × (slice_get es (p - base) ≡ Some q) × (test q ≡ true))
unlisted test [] base p c = absurd (Contains-nil p c)
unlisted test (x ∷ xs) base p c = by (test x) refl c (unlisted test xs (base + 1) p)
  where
    later : (base + 1 ≤ p) × ((q : Request) × (slice_get xs (p - (base + 1)) ≡ Some q) × (test q ≡ true)) → (base ≤ p) × ((q : Request) × (slice_get (x ∷ xs) (p - base) ≡ Some q) × (test q ≡ true))
    later k =
        let le = k.0 in
        let at : p - base ≡ suc (p - (base + 1)) = omega (arith, le) in
        (omega (arith, le), (k.1.0, ap (slice_get (x ∷ xs)) at ∙ k.1.1, k.1.2))

    by : (b : Bool) → test x ≡ b → Contains (cond b (base ∷ positions_from test (base + 1) xs) (positions_from test (base + 1) xs)) p
        → (Contains (positions_from test (base + 1) xs) p → (base + 1 ≤ p) × ((q : Request) × (slice_get xs (p - (base + 1)) ≡ Some q) × (test q ≡ true)))
        → (base ≤ p) × ((q : Request) × (slice_get (x ∷ xs) (p - base) ≡ Some q) × (test q ≡ true))
    by true t d rest = elim (Contains-uncons base (positions_from test (base + 1) xs) p d) [
      | inl e ↦ (let at : p - base ≡ 0 = omega (arith, e) in (omega (arith, e), (x, ap (slice_get (x ∷ xs)) at, t)))
      | inr r ↦ later (rest r)
    ]
    by false t d rest = later (rest d)

pub get_map : (f : Request → Request) (es : List Request) (i : ℕ) (q : Request) → slice_get es i ≡ Some q → slice_get (map f es) i ≡ Some (f q)
get_map f [] i q e = absurd cc
get_map f (x ∷ xs) zero q e = let is : x ≡ q = cc in ap (λ (y : Request). Some (f y)) is
get_map f (x ∷ xs) (suc i) q e = get_map f xs i q e

pub from_map : (f : Request → Request) (es : List Request) (i : ℕ) (n : Request) → slice_get (map f es) i ≡ Some n → (q : Request) × (slice_get es i ≡ Some q) × (f q ≡ n)
from_map f [] i n e = absurd cc
from_map f (x ∷ xs) zero n e = let is : f x ≡ n = cc in (x, refl, is)
from_map f (x ∷ xs) (suc i) n e = from_map f xs i n e

-- a request after a tick is lost now, or has the outcome that it had
pub ticked_cases : (now : ℕ) (q : Request) → (is_lost_at now q ≡ true) ⊎ ((ticked_one now q).outcome ≡ q.outcome)
ticked_cases now q = by (is_lost_at now q) (is_resent_at now q) refl
  where
    by : (lost again : Bool) → is_lost_at now q ≡ lost → (lost ≡ true) ⊎ ((cond lost (with_outcome q Lost) (cond again (resent_one now q) q)).outcome ≡ q.outcome)
    by true again e = inl refl
    by false true e = inr refl
    by false false e = inr refl

-- what is gone after a tick was gone before, or is lost now
gone_tick : (now : ℕ) (r : RequestsState) (server share : ℕ) → IsGone (after_tick now r).entries server share → IsGone r.entries server share ⊎ ((position : ℕ) × Contains (lost_by_tick now r) position × ((q : Request) × (slice_get r.entries position ≡ Some q) × (q.server ≡ server) × ((offset : ℕ) × ((len : ℕ) × (q.asked ≡ Reading share offset len)))))
gone_tick now r server share g =
    let m = from_map (ticked_one (max r.clock now)) r.entries g.position g.request g.there in
    let was = alike_tick now r g.position g.request g.there in
    let one : was.request ≡ m.0 = let two : Some was.request ≡ Some m.0 = sym was.there ∙ m.1 in cc in
    let server-is : m.0.server ≡ server = sym (ap (λ (x : Request). x.server) one) ∙ was.of_server ∙ g.of_server in
    let asked-is : m.0.asked ≡ Reading share g.offset g.len = sym (ap (λ (x : Request). x.asked) one) ∙ was.same ∙ g.asked in
    elim (ticked_cases (max r.clock now) m.0) [
      | inl lost ↦ inr (g.position, (let zero-is : 0 + g.position ≡ g.position = omega arith in subst (Contains (lost_by_tick now r)) zero-is (listed (is_lost_at (max r.clock now)) r.entries 0 g.position m.0 m.1 lost)), (m.0, m.1, server-is, (g.offset, (g.len, asked-is))))
      | inr same ↦ inl (record { position = g.position; request = m.0; there = m.1; of_server = server-is; offset = g.offset; len = g.len; asked = asked-is; gone = subst (λ (o : Outcome). (o ≡ Lost) ⊎ (o ≡ Answered NoShare)) (sym (ap (λ (x : Request). x.outcome) m.2) ∙ same) g.gone })
    ]

-- a request that is lost now
pub lost_at : (now : ℕ) (r : RequestsState) (position : ℕ) → Contains (lost_by_tick now r) position → (q : Request) × (slice_get r.entries position ≡ Some q) × (slice_get (after_tick now r).entries position ≡ Some (with_outcome q Lost))
lost_at now r position c =
    let k = unlisted (is_lost_at (max r.clock now)) r.entries 0 position c in
    let at : position - 0 ≡ position = omega arith in
    let there : slice_get r.entries position ≡ Some k.1.0 = ap (slice_get r.entries) (sym at) ∙ k.1.1 in
    (k.1.0, there, get_map (ticked_one (max r.clock now)) r.entries position k.1.0 there ∙ ap Some (is_lost k.1.0 (is_lost_at (max r.clock now) k.1.0) k.1.2))
  where
    is_lost : (q : Request) (b : Bool) → b ≡ true → cond b (with_outcome q Lost) (cond (is_resent_at (max r.clock now) q) (resent_one (max r.clock now) q) q) ≡ with_outcome q Lost
    is_lost q true e = refl
    is_lost q false e = absurd (true≢false (sym e))

pub tick_goes : (now : ℕ) (r : RequestsState) → GoesAlike r.entries (after_tick now r).entries
tick_goes now r = record { stays = stays_tick now r; alike = alike_tick now r; long = length-map r.entries (ticked_one (max r.clock now)) }

-- ---- holdings are retired, one after another

-- nothing is retired yet
pub retires_none : (s : HoldingsState) → RetiresAll (IsAmong s.servers s.owners []) s.table s.table
retires_none s = record {
  long = refl;
  holdings = λ position h g e f.
      let one : h ≡ g = let two : Some h ≡ Some g = sym e ∙ f in cc in
      (ap (λ (x : Holding). x.server) (sym one), ap (λ (x : Holding). x.share) (sym one), ap (λ (x : Holding). x.suspended) (sym one), (λ left. (ap (λ (x : Holding). x.left) one ∙ left, none position)), λ left. inl (ap (λ (x : Holding). x.left) one ∙ left));
  count = refl;
  numbers = λ share n m e f. inl (let two : Some n ≡ Some m = sym e ∙ f in let one : n ≡ m = cc in ap (λ (x : NumberState). x.reading) (sym one));
}
  where
    none : (position : ℕ) → IsAmong s.servers s.owners [] position → ⊥
    none position a = Contains-nil a.0 a.1

-- the first positions are among all
among_more : (s : HoldingsState) (positions : List ℕ) (position holding : ℕ) → IsAmong s.servers s.owners positions holding → IsAmong s.servers s.owners (positions ++ position ∷ []) holding
among_more s positions position holding a = (a.0, Contains-append_left positions (position ∷ []) a.0 a.1, a.2, a.3)

-- one more is among them by its own position alone
among_cases : (s : HoldingsState) (positions : List ℕ) (position holding : ℕ) → IsAmong s.servers s.owners (positions ++ position ∷ []) holding → IsAmong s.servers s.owners positions holding ⊎ ((s.servers ≤ position) × (slice_get s.owners (position - s.servers) ≡ Some holding))
among_cases s positions position holding a = elim (Contains-push_cases positions position a.0 a.1) [
  | inl old ↦ inl (a.0, old, a.2, a.3)
  | inr e ↦ inr (subst (λ (p : ℕ). s.servers ≤ p) (sym e) a.2, ap (λ (p : ℕ). slice_get s.owners (p - s.servers)) e ∙ a.3)
]

-- a position that is not owned changes nothing
pub retires_skip : (s : HoldingsState) (positions : List ℕ) (position : ℕ) (u : TableState) → position < s.servers → RetiresAll (IsAmong s.servers s.owners positions) s.table u → RetiresAll (IsAmong s.servers s.owners (positions ++ position ∷ [])) s.table u
retires_skip s positions position u low r = record {
  long = r.long;
  holdings = λ q h g e f.
      let k = r.holdings q h g e f in
      (k.0, k.1, k.2, (λ left. ((k.3 left).0, λ a. (k.3 left).1 (back q a))), λ left. elim (k.4 left) [ inl was ↦ inl was | inr a ↦ inr (among_more s positions position q a) ]);
  count = r.count;
  numbers = λ share n m e f. elim (r.numbers share n m e f) [ inl same ↦ inl same | inr k ↦ inr (k.0, k.1, among_more s positions position k.0 k.2, k.3) ];
}
  where
    back : (q : ℕ) → IsAmong s.servers s.owners (positions ++ position ∷ []) q → IsAmong s.servers s.owners positions q
    back q a = elim (among_cases s positions position q a) [ inl old ↦ old | inr k ↦ (let le = k.0 in absurd (omega (arith, le, low))) ]

-- its owner is retired
pub retires_one : (s : HoldingsState) (positions : List ℕ) (position holding : ℕ) (u v : TableState) → s.servers ≤ position → slice_get s.owners (position - s.servers) ≡ Some holding → RetiresAll (IsAmong s.servers s.owners positions) s.table u → Retires holding u v → RetiresAll (IsAmong s.servers s.owners (positions ++ position ∷ [])) s.table v
retires_one s positions position holding u v le own r t = record {
  long = ap length t.1.holdings ∙ length-set u.holdings holding (record t.0 { left = false }) ∙ r.long;
  holdings = λ q h g e f. elim (set_cases u.holdings holding q (record t.0 { left = false }) g (sym (ap (λ (l : List Holding). slice_get l q) t.1.holdings) ∙ f)) [
    | inl k ↦
        let before = r.holdings q h t.0 e (ap (slice_get u.holdings) k.0 ∙ t.1.is) in (
          ap (λ (x : Holding). x.server) (sym k.1) ∙ before.0,
          ap (λ (x : Holding). x.share) (sym k.1) ∙ before.1,
          ap (λ (x : Holding). x.suspended) (sym k.1) ∙ before.2,
          (λ left. absurd (true≢false (sym left ∙ sym (ap (λ (x : Holding). x.left) k.1)))),
          λ left. inr (subst (IsAmong s.servers s.owners (positions ++ position ∷ [])) (sym k.0) this),
        )
    | inr k ↦
        let before = r.holdings q h g e k.1 in (
          before.0,
          before.1,
          before.2,
          (λ left. (
            (before.3 left).0,
            λ a. elim (among_cases s positions position q a) [
              | inl old ↦ (before.3 left).1 old
              | inr w ↦ (let two : Some q ≡ Some holding = sym w.1 ∙ own in let one : q ≡ holding = cc in k.0 one)
            ],
          )),
          λ left. elim (before.4 left) [ inl was ↦ inl was | inr a ↦ inr (among_more s positions position q a) ],
        )
  ];
  count = ap length t.2.numbers ∙ length-set u.numbers t.0.share (without_position holding t.2.number) ∙ r.count;
  numbers = λ share n m e f. elim (set_cases u.numbers t.0.share share (without_position holding t.2.number) m (sym (ap (λ (l : List NumberState). slice_get l share) t.2.numbers) ∙ f)) [
    | inl k ↦
        let before = r.numbers share n t.2.number e (ap (slice_get u.numbers) k.0 ∙ t.2.is) in
        let now : m.reading ≡ released holding t.2.number.reading = ap (λ (x : NumberState). x.reading) (sym k.1) in
        elim before [
          | inl same ↦ by_release n.reading m.reading (now ∙ ap (released holding) same)
          | inr w ↦ inr (w.0, w.1, among_more s positions position w.0 w.2, now ∙ ap (released holding) w.3)
        ]
    | inr k ↦ elim (r.numbers share n m e k.1) [ inl same ↦ inl same | inr w ↦ inr (w.0, w.1, among_more s positions position w.0 w.2, w.3) ]
  ];
}
  where
    this : IsAmong s.servers s.owners (positions ++ position ∷ []) holding
    this = (position, Contains-push positions position, le, own)

    by_release : (old new : Option ℕ) → new ≡ released holding old → (new ≡ old) ⊎ ((q : ℕ) × (old ≡ Some q) × IsAmong s.servers s.owners (positions ++ position ∷ []) q × (new ≡ None))
    by_release None new e = inl e
    by_release (Some q) new e = by (nat_eq_cases q) e
      where
        nat_eq_cases : (q : ℕ) → (q ≡ holding) ⊎ (q ≡ holding → ⊥)
        nat_eq_cases q = cases_eq q holding

        by : (q ≡ holding) ⊎ (q ≡ holding → ⊥) → new ≡ released holding (Some q) → (new ≡ Some q) ⊎ ((p : ℕ) × (Some q ≡ Some p) × IsAmong s.servers s.owners (positions ++ position ∷ []) p × (new ≡ None))
        by (inl same) f = inr (q, refl, subst (IsAmong s.servers s.owners (positions ++ position ∷ [])) (sym same) this, f ∙ released_at holding q same)
        by (inr other) f = inl (f ∙ released_else holding q other)

-- ---- the whole tick

module _ (s : HoldingsState) (right : IsRight s) (now : ℕ) (u : TableState) (r : RetiresAll (IsAmong s.servers s.owners (lost_by_tick now s.requests)) s.table u) where
  there_after : (position : ℕ) (h : Holding) → IsHolding s.table position h → (g : Holding) × IsHolding u position g
  there_after position h e =
      let lt : position < length u.holdings = let w = slice_get_within s.table.holdings position h e in let l = r.long in omega (arith, w, l) in
      (_, slice_get-get_or u.holdings position h lt)

  there_before : (position : ℕ) (g : Holding) → IsHolding u position g → (h : Holding) × IsHolding s.table position h
  there_before position g e =
      let lt : position < length s.table.holdings = let w = slice_get_within u.holdings position g e in let l = r.long in omega (arith, w, l) in
      (_, slice_get-get_or s.table.holdings position g lt)

  pairs_after : HaveSamePairs s.table u
  pairs_after = record {
    forth = λ position h e. (let g = there_after position h e in let k = r.holdings position h g.0 e g.1 in (g.0, g.1, k.0, k.1));
    back = λ position g e. (let h = there_before position g e in let k = r.holdings position h.0 g h.1 e in (h.0, h.1, k.0, k.1));
  }

  -- the owner of a position that asks for bytes of a holding's share is this holding
  owner_is : (position : ℕ) (q : Request) (holding : ℕ) (h : Holding) (offset len : ℕ) → slice_get s.requests.entries position ≡ Some q → IsHolding s.table holding h → q.server ≡ h.server → q.asked ≡ Reading h.share offset len → (s.servers ≤ position) × (slice_get s.owners (position - s.servers) ≡ Some holding)
  owner_is position q holding h offset len there is server asked = elim (cases_lt position s.servers) [
    | inl lt ↦ (let two : Reading h.share offset len ≡ Holdings = sym asked ∙ right.first position q there lt in absurd cc)
    | inr le ↦
        let c = right.counted in
        let within = slice_get_within s.requests.entries position q there in
        let inside : position - s.servers < length s.owners = omega (arith, le, c, within) in
        let own = slice_get-get_or s.owners (position - s.servers) 0 inside in
        let o = only_owner s right position _ le own in
        (le, subst (λ (k : ℕ). slice_get s.owners (position - s.servers) ≡ Some k) (sym (o.others holding h q is there server offset len asked)) own)
  ]

  pub right_tick : IsRight (record s { requests = after_tick now s.requests; table = u })
  right_tick = right_goes s right (after_tick now s.requests) u (tick_goes now s.requests) pairs_after (once_ticked now s.requests right.once)
      (λ position g is left.
      let h = there_before position g is in
      let k = r.holdings position h.0 g h.1 is in
      let l = right.left position h.0 h.1 (k.3 left).0 in
      subst (λ (server : ℕ). IsLeft (after_tick now s.requests).entries s.blamed server g.share) (sym k.0) (subst (λ (share : ℕ). IsLeft (after_tick now s.requests).entries s.blamed h.0.server share) (sym k.1) (
        (λ gone. elim (gone_tick now s.requests h.0.server h.0.share gone) [
          | inl old ↦ l.0 old
          | inr new ↦
              let own = owner_is new.0 new.2.0 position h.0 new.2.3.0 new.2.3.1.0 new.2.1 h.1 new.2.2 new.2.3.1.1 in
              (k.3 left).1 (new.0, new.1, own.0, own.1)
        ]),
        l.1,
      )))
      (λ position g is left.
      let h = there_before position g is in
      let k = r.holdings position h.0 g h.1 is in
      subst (λ (server : ℕ). IsGone (after_tick now s.requests).entries server g.share ⊎ IsBlamed s.blamed server g.share) (sym k.0) (subst (λ (share : ℕ). IsGone (after_tick now s.requests).entries h.0.server share ⊎ IsBlamed s.blamed h.0.server share) (sym k.1)
      (elim (k.4 left) [
        | inl was ↦ elim (right.others position h.0 h.1 was) [
          | inl gone ↦ inl (gone_stays s.requests.entries (after_tick now s.requests).entries h.0.server h.0.share (stays_tick now s.requests) gone)
          | inr blamed ↦ inr blamed
        ]
        | inr a ↦ inl (lost_gone position h.0 h.1 a)
      ])))
    where
      lost_gone : (position : ℕ) (h : Holding) → IsHolding s.table position h → IsAmong s.servers s.owners (lost_by_tick now s.requests) position → IsGone (after_tick now s.requests).entries h.server h.share
      lost_gone position h is a =
          let q = lost_at now s.requests a.0 a.1 in
          let o = right.owned (a.0 - s.servers) position a.3 in
          let le = a.2 in
          let at : s.servers + (a.0 - s.servers) ≡ a.0 = omega (arith, le) in
          let one : o.request ≡ q.0 = let two : Some o.request ≡ Some q.0 = sym o.there ∙ ap (slice_get s.requests.entries) at ∙ q.1 in cc in
          let held : o.held ≡ h = let two : Some o.held ≡ Some h = sym o.is ∙ is in cc in
          record {
            position = a.0;
            request = with_outcome q.0 Lost;
            there = q.2;
            of_server = ap (λ (x : Request). x.server) (sym one) ∙ o.read.of_server ∙ ap (λ (x : Holding). x.server) held;
            offset = o.read.offset;
            len = o.read.len;
            asked = ap (λ (x : Request). x.asked) (sym one) ∙ o.read.asked ∙ ap (λ (n : ℕ). Reading n o.read.offset o.read.len) (ap (λ (x : Holding). x.share) held);
            gone = inl refl;
          }

-- ---- as the code does it

-- the owners of all requests are holdings
pub owners_held : (s : HoldingsState) → IsRight s → All (λ (holding : ℕ). holding < length s.table.holdings) s.owners
owners_held s right i d within =
    let o = right.owned i (slice_index_or s.owners i d) (slice_get-get_or s.owners i d within) in
    slice_get_within s.table.holdings (slice_index_or s.owners i d) o.held o.is

-- what is lost was asked
pub lost_within : (s : HoldingsState) → IsRight s → (now : ℕ) → All (λ (position : ℕ). position < s.servers + length s.owners) (lost_by_tick now s.requests)
lost_within s right now i d within =
    let there : slice_get (lost_by_tick now s.requests) i ≡ Some (slice_index_or (lost_by_tick now s.requests) i d) = slice_get-get_or (lost_by_tick now s.requests) i d within in
    let c : Contains (lost_by_tick now s.requests) (slice_index_or (lost_by_tick now s.requests) i d) = (i, within, get_or_from_slice_get (lost_by_tick now s.requests) i _ _ there) in
    let q = lost_at now s.requests _ c in
    let lt = slice_get_within s.requests.entries _ q.0 q.1 in
    let counted = right.counted in
    omega (arith, lt, counted)

-- one position more, of those before this one
position_more : (positions : List ℕ) (i : ℕ) → i < length positions → take i positions ++ slice_index_or positions i 0 ∷ [] ≡ take (i + 1) positions
position_more positions i lt = sym (take_more positions i 0 lt)

pub retires_next : (servers : ℕ) (owners positions : List ℕ) (i : ℕ) (t u v : TableState) → i < length positions → servers ≤ slice_index_or positions i 0 → slice_index_or positions i 0 < servers + length owners
    → RetiresAll (IsAmong servers owners (take i positions)) t u → Retires (slice_index_or owners (slice_index_or positions i 0 - servers) 0) u v → RetiresAll (IsAmong servers owners (take (i + 1) positions)) t v
retires_next servers owners positions i t u v lt le within r k =
    let inside : slice_index_or positions i 0 - servers < length owners = omega (arith, le, within) in
    subst (λ (l : List ℕ). RetiresAll (IsAmong servers owners l) t v) (position_more positions i lt)
    (retires_one (record { requests = record { session = 0; entries = []; outgoing = []; clock = 0 }; servers = servers; table = t; owners = owners; blamed = [] }) (take i positions) (slice_index_or positions i 0) _ u v le
    (slice_get-get_or owners (slice_index_or positions i 0 - servers) 0 inside) r k)

pub retires_not : (servers : ℕ) (owners positions : List ℕ) (i : ℕ) (t u : TableState) → i < length positions → slice_index_or positions i 0 < servers
    → RetiresAll (IsAmong servers owners (take i positions)) t u → RetiresAll (IsAmong servers owners (take (i + 1) positions)) t u
retires_not servers owners positions i t u lt low r =
    subst (λ (l : List ℕ). RetiresAll (IsAmong servers owners l) t u) (position_more positions i lt)
    (retires_skip (record { requests = record { session = 0; entries = []; outgoing = []; clock = 0 }; servers = servers; table = t; owners = owners; blamed = [] }) (take i positions) (slice_index_or positions i 0) u low r)

pub retires_nothing : (servers : ℕ) (owners : List ℕ) (t : TableState) → RetiresAll (IsAmong servers owners []) t t
retires_nothing servers owners t = retires_none (record { requests = record { session = 0; entries = []; outgoing = []; clock = 0 }; servers = servers; table = t; owners = owners; blamed = [] })

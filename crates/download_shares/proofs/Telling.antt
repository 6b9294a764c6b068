-- The holdings after a server told which shares it holds.
use Rattle.std.proofs.Common.{◌≡◌, ℕ, zero, suc, ◌+◌, ◌-◌, ◌<◌, ◌≤◌, ◌⊎◌, inl, inr, Bool, true, false, cond, ◌&&◌, List, [], ◌∷◌, ◌++◌, length, map, filter, take, Some, refl, sym, ap, subst, ◌∙◌, arith, true≢false}
use Rattle.std.specs.Prelude.{slice_get, slice_index_or, nat_le, nat_lt, IsTrue}
use Rattle.std.proofs.lemmas.Bool.{and_parts, cases_lt, le-ltb, leb-true, lt-ltb, ltb-true}
use Rattle.std.proofs.lemmas.List.Elements.{filter-append}
use Rattle.std.proofs.lemmas.List.{append_assoc, append-nil, length-set, take_more}
use Rattle.std.proofs.lemmas.Option.{get_or_from_slice_get, slice_get-get_or, slice_get_within}
pub use Rattle.lemmas.proofs.Positions.{get_left as append_front}
use Rattle.lemmas.proofs.Positions.{set_cases, get_left}
use Rattle.wire.specs.declared.message.Body.{Body}
use Rattle.wire.specs.declared.message.Body.TheVariants.{Have}
use Rattle.wire.specs.declared.message.HeldShare.{HeldShare}
use Rattle.wire.specs.declared.message.Message.{Message}
use Rattle.wire.specs.Held.{rises_from}
use Rattle.request_record.specs.declared.requests.Asked.{Asked}
use Rattle.request_record.specs.declared.requests.Asked.TheVariants.{Holdings, Reading}
use Rattle.request_record.specs.declared.requests.Outcome.TheVariants.{Answered}
use Rattle.request_record.specs.declared.requests.Request.{Request}
use Rattle.request_record.specs.Written.{IsKeptAt}
use Rattle.request_record.proofs.EntrySteps.{holdings_kept}
use Rattle.lemmas.proofs.Positions.{get_of}
use Rattle.request_record.specs.Record.{RequestsState, counts_at, is_outstanding, with_outcome}
use Rattle.request_record.specs.Asking.{AreApart, after_message}
use Rattle.request_record.proofs.AskingLaws.{once_answered}
use Rattle.request_record.proofs.RecordLaws.{counts_is}
use Rattle.download_shares.specs.Left.{IsBlamed, IsGone, IsOffered}
use Rattle.download_shares.specs.HoldingState.{HoldingsState, NumberState, TableState}
use Rattle.download_shares.specs.Table.{ChangesNumber, IsHolding, told, told_one}
use Rattle.download_shares.specs.HoldingMoves.{Tells, TellsHeld, held_by}
use Rattle.download_shares.specs.Numbers.{with_position}
use Rattle.download_shares.specs.Right.{IsRight}
use Rattle.download_shares.specs.declared.holding.Holding.{Holding}
use Rattle.download_shares.proofs.Goes.{alike_forth, answered_at, gone_message, gone_stays, message_goes, offered_stays}
use Rattle.download_shares.proofs.Records.{alike_message, stays_message}

-- ---- what stands in the joined list

-- a position in two lists, one after another: in the first, or in the second
pub append_cases : {X : Type 0} (xs ys : List X) (i : ℕ) (x : X) → slice_get (xs ++ ys) i ≡ Some x → (slice_get xs i ≡ Some x) ⊎ ((length xs ≤ i) × (slice_get ys (i - length xs) ≡ Some x))
append_cases [] ys i x e = (let at : i - 0 ≡ i = omega arith in inr (omega arith, ap (slice_get ys) at ∙ e))
append_cases (z ∷ zs) ys zero x e = inl e
append_cases (z ∷ zs) ys (suc i) x e = elim (append_cases zs ys i x e) [
  | inl k ↦ inl k
  | inr k ↦ (let le = k.0 in let at : suc i - (length zs + 1) ≡ i - length zs = omega arith in let len : length (z ∷ zs) ≡ length zs + 1 = omega arith in inr (omega (arith, le, len), ap (λ (n : ℕ). slice_get ys (suc i - n)) len ∙ ap (slice_get ys) at ∙ k.1))
]

-- ---- what is told

-- a holding that is told is left and may be chosen, and the server tells its share
pub record IsTold (total server : ℕ) (held : List HeldShare) (h : Holding) : Type 0 where
  pub of_server : h.server ≡ server
  pub left : h.left ≡ true
  pub below : h.share < total
  pub index : ℕ
  pub listed : HeldShare
  pub among : slice_get held index ≡ Some listed
  pub number : listed.share ≡ h.share

told_here : (total server : ℕ) (x : HeldShare) (xs : List HeldShare) (i : ℕ) (h : Holding) → IsTold total server xs h → IsTold total server (x ∷ xs) h
told_here total server x xs i h t = record { of_server = t.of_server; left = t.left; below = t.below; index = suc t.index; listed = t.listed; among = t.among; number = t.number }

pub told_is : (total server : ℕ) (held : List HeldShare) (i : ℕ) (h : Holding) → slice_get (told total server held) i ≡ Some h → IsTold total server held h
told_is total server [] i h e = absurd cc
told_is total server (x ∷ xs) i h e = by (nat_lt x.share total) refl i e (λ j f. told_is total server xs j h f)
  where
    by : (b : Bool) → nat_lt x.share total ≡ b → (i : ℕ) → slice_get (map (λ (y : HeldShare). told_one server y.share) (cond b (x ∷ filter (λ (y : HeldShare). nat_lt y.share total) xs) (filter (λ (y : HeldShare). nat_lt y.share total) xs))) i ≡ Some h
        → ((j : ℕ) → slice_get (told total server xs) j ≡ Some h → IsTold total server xs h) → IsTold total server (x ∷ xs) h
    by true t zero e rest =
        let is : told_one server x.share ≡ h = cc in
        record { of_server = ap (λ (y : Holding). y.server) (sym is); left = ap (λ (y : Holding). y.left) (sym is); below = subst (λ (n : ℕ). n < total) (ap (λ (y : Holding). y.share) is) (ltb-true x.share total t); index = 0; listed = x; among = refl; number = ap (λ (y : Holding). y.share) is }
    by true t (suc j) e rest = told_here total server x xs j h (rest j e)
    by false t i e rest = told_here total server x xs i h (rest i e)

-- each share that is told and counts is there
pub told_has : (total server : ℕ) (held : List HeldShare) (i : ℕ) (x : HeldShare) → slice_get held i ≡ Some x → x.share < total → (j : ℕ) × (slice_get (told total server held) j ≡ Some (told_one server x.share))
told_has total server [] i x e lt = absurd cc
told_has total server (y ∷ ys) zero x e lt = let is : y ≡ x = cc in by (nat_lt y.share total) refl is
  where
    by : (b : Bool) → nat_lt y.share total ≡ b → y ≡ x → (j : ℕ) × (slice_get (map (λ (z : HeldShare). told_one server z.share) (cond b (y ∷ filter (λ (z : HeldShare). nat_lt z.share total) ys) (filter (λ (z : HeldShare). nat_lt z.share total) ys))) j ≡ Some (told_one server x.share))
    by true t is = (0, ap (λ (z : HeldShare). Some (told_one server z.share)) is)
    by false t is = absurd (true≢false (sym (lt-ltb x.share total lt) ∙ ap (λ (z : HeldShare). nat_lt z.share total) (sym is) ∙ t))
told_has total server (y ∷ ys) (suc i) x e lt = by (nat_lt y.share total) (told_has total server ys i x e lt)
  where
    by : (b : Bool) → ((j : ℕ) × (slice_get (told total server ys) j ≡ Some (told_one server x.share))) → (j : ℕ) × (slice_get (map (λ (z : HeldShare). told_one server z.share) (cond b (y ∷ filter (λ (z : HeldShare). nat_lt z.share total) ys) (filter (λ (z : HeldShare). nat_lt z.share total) ys))) j ≡ Some (told_one server x.share))
    by true k = (suc k.0, k.1)
    by false k = k

-- ---- the numbers that a server tells rise

rising_above : (low : ℕ) (held : List HeldShare) (i : ℕ) (x : HeldShare) → rises_from low held ≡ true → slice_get held i ≡ Some x → low ≤ x.share
rising_above low [] i x r e = absurd cc
rising_above low (y ∷ ys) zero x r e = let is : y ≡ x = cc in subst (λ (z : HeldShare). low ≤ z.share) is (leb-true low y.share (and_parts (nat_le low y.share) (rises_from (y.share + 1) ys) r).0)
rising_above low (y ∷ ys) (suc i) x r e =
    let first = leb-true low y.share (and_parts (nat_le low y.share) (rises_from (y.share + 1) ys) r).0 in
    let rest = rising_above (y.share + 1) ys i x (and_parts (nat_le low y.share) (rises_from (y.share + 1) ys) r).1 e in
    omega (arith, first, rest)

-- two that are told differ
told_differ : (total server low : ℕ) (held : List HeldShare) (i j : ℕ) (a b : Holding) → rises_from low held ≡ true → i < j → slice_get (told total server held) i ≡ Some a → slice_get (told total server held) j ≡ Some b → a.share ≡ b.share → ⊥
told_differ total server low [] i j a b r lt e f same = absurd cc
told_differ total server low (y ∷ ys) i j a b r lt e f same = by (nat_lt y.share total) i j lt e f (λ p q l g h. told_differ total server (y.share + 1) ys p q a b (and_parts (nat_le low y.share) (rises_from (y.share + 1) ys) r).1 l g h same)
  where
    by : (c : Bool) (i j : ℕ) → i < j → slice_get (map (λ (z : HeldShare). told_one server z.share) (cond c (y ∷ filter (λ (z : HeldShare). nat_lt z.share total) ys) (filter (λ (z : HeldShare). nat_lt z.share total) ys))) i ≡ Some a → slice_get (map (λ (z : HeldShare). told_one server z.share) (cond c (y ∷ filter (λ (z : HeldShare). nat_lt z.share total) ys) (filter (λ (z : HeldShare). nat_lt z.share total) ys))) j ≡ Some b
        → ((p q : ℕ) → p < q → slice_get (told total server ys) p ≡ Some a → slice_get (told total server ys) q ≡ Some b → ⊥) → ⊥
    by false i j lt e f rest = rest i j lt e f
    by true i zero lt e f rest = omega (arith, lt)
    by true zero (suc j) lt e f rest =
        let is : told_one server y.share ≡ a = cc in
        let t = told_is total server ys j b f in
        let above = rising_above (y.share + 1) ys t.index t.listed (and_parts (nat_le low y.share) (rises_from (y.share + 1) ys) r).1 t.among in
        let first : y.share ≡ a.share = ap (λ (x : Holding). x.share) is in
        let number = t.number in
        omega (arith, above, first, number, same)
    by true (suc i) (suc j) lt e f rest = rest i j (omega (arith, lt)) e f

-- the first of them rise too
rises_take : (low : ℕ) (held : List HeldShare) (n : ℕ) → rises_from low held ≡ true → rises_from low (take n held) ≡ true
rises_take low held zero r = refl
rises_take low [] (suc n) r = refl
rises_take low (y ∷ ys) (suc n) r =
    let p = and_parts (nat_le low y.share) (rises_from (y.share + 1) ys) r in
    ap (λ (b : Bool). b && rises_from (y.share + 1) (take n ys)) p.0 ∙ rises_take (y.share + 1) ys n p.1

take_front : (held : List HeldShare) (n i : ℕ) (x : HeldShare) → slice_get (take n held) i ≡ Some x → slice_get held i ≡ Some x
take_front held zero i x e = absurd cc
take_front [] (suc n) i x e = absurd cc
take_front (y ∷ ys) (suc n) zero x e = e
take_front (y ∷ ys) (suc n) (suc i) x e = take_front ys n i x e

-- an answer that tells a share is a Have
record IsHave (b : Body) : Type 0 where
  pub readonly : Bool
  pub held : List HeldShare
  pub is : b ≡ Have readonly held

have_of : (b : Body) (i : ℕ) (x : HeldShare) → slice_get (held_by (Answered b)) i ≡ Some x → IsHave b
have_of (Have readonly held) i x e = record { readonly = readonly; held = held; is = refl }
have_of b i x e = absurd cc

-- ---- so the holdings are right

module _ (s : HoldingsState) (right : IsRight s) (from : ℕ) (m : Message) (now position : ℕ) (counts : counts_at from m s.requests ≡ Some position) (low : position < s.servers)
    (held : List HeldShare) (body : held ≡ held_by (Answered m.body)) (rising : rises_from 0 held ≡ true) (count : ℕ)
    (q : Request) (there : slice_get s.requests.entries position ≡ Some q)
    (u : TableState) (long : length u.numbers ≡ length s.table.numbers)
    (holdings : u.holdings ≡ s.table.holdings ++ told (length s.table.numbers) q.server (take count held)) where
  abbrev new-ones : List Holding
  new-ones = told (length s.table.numbers) q.server (take count held)

  abbrev entries-after : List Request
  entries-after = (after_message from m now s.requests).entries

  -- an old one, or one that is told
  cases_after : (k : ℕ) (h : Holding) → IsHolding u k h → (IsHolding s.table k h) ⊎ ((length s.table.holdings ≤ k) × (slice_get new-ones (k - length s.table.holdings) ≡ Some h))
  cases_after k h e = append_cases s.table.holdings new-ones k h (sym (ap (λ (l : List Holding). slice_get l k) holdings) ∙ e)

  front_after : (k : ℕ) (h : Holding) → IsHolding s.table k h → IsHolding u k h
  front_after k h e = ap (λ (l : List Holding). slice_get l k) holdings ∙ get_left s.table.holdings new-ones k h e

  answered-at : slice_get entries-after position ≡ Some (with_outcome q (Answered m.body))
  answered-at = answered_at from m now s.requests position q counts there

  -- what is told is offered
  offered_new : (i : ℕ) (h : Holding) → slice_get new-ones i ≡ Some h → IsOffered entries-after h.server h.share
  offered_new i h e =
      let t = told_is (length s.table.numbers) q.server (take count held) i h e in
      record {
        position = position;
        request = with_outcome q (Answered m.body);
        there = answered-at;
        of_server = sym t.of_server;
        asked = right.first position q there low;
        readonly = (have t).readonly;
        held = (have t).held;
        answer = ap Answered (have t).is;
        index = t.index;
        listed = t.listed;
        among = subst (λ (l : List HeldShare). slice_get l t.index ≡ Some t.listed) (body ∙ ap (λ (b : Body). held_by (Answered b)) (have t).is) (take_front held count t.index t.listed t.among);
        number = t.number;
      }
    where
      have : {h : Holding} → IsTold (length s.table.numbers) q.server (take count held) h → IsHave m.body
      have t = have_of m.body t.index t.listed (subst (λ (l : List HeldShare). slice_get l t.index ≡ Some t.listed) body (take_front held count t.index t.listed t.among))

  -- no old one is of this server
  none_old : (k : ℕ) (h : Holding) → IsHolding s.table k h → h.server ≡ q.server → ⊥
  none_old k h e server =
      let o = right.offered k h e in
      let waits = counts_is from m s.requests position counts in
      let one : waits.request ≡ q = let two : Some waits.request ≡ Some q = sym waits.there ∙ there in cc in
      let other : o.position ≡ position → ⊥ = λ e. (let two : Some o.request ≡ Some q = sym o.there ∙ ap (slice_get s.requests.entries) e ∙ there in let same : o.request ≡ q = cc in
      true≢false (sym waits.waits ∙ ap (λ (x : Request). is_outstanding x.outcome) (one ∙ sym same) ∙ ap is_outstanding o.answer)) in
      let asked : q.asked ≡ Holdings = right.first position q there low in
      elim (cases_lt o.position position) [
        | inl lt ↦ apart_not o.request.asked q.asked (right.once o.position position o.request q lt o.there there (o.of_server ∙ server)) o.asked asked
        | inr le ↦ elim (cases_lt position o.position) [
          | inl lt ↦ apart_not q.asked o.request.asked (right.once position o.position q o.request lt there o.there (sym (o.of_server ∙ server))) asked o.asked
          | inr le' ↦ other (omega (arith, le, le'))
        ]
      ]
    where
      apart_not : (a b : Asked) → AreApart a b → a ≡ Holdings → b ≡ Holdings → ⊥
      apart_not a b apart e f = both (subst (λ (x : Asked). AreApart Holdings x) f (subst (λ (x : Asked). AreApart x b) e apart))
        where
          both : AreApart Holdings Holdings → ⊥
          both k = k refl

  gone_old : (server share : ℕ) → IsGone entries-after server share → IsGone s.requests.entries server share
  gone_old server share g = elim (gone_message from m now s.requests server share g) [
    | inl old ↦ old
    | inr new ↦
        let is : new.0 ≡ position = let two : Some new.0 ≡ Some position = sym new.1 ∙ counts in cc in
        let low-one : new.0 < s.servers = subst (λ (n : ℕ). n < s.servers) (sym is) low in
        let two : Reading share new.3.3.0 new.3.3.1.0 ≡ Holdings = sym new.3.3.1.1 ∙ right.first new.0 new.3.0 new.3.1 low-one in absurd cc
  ]

  -- nothing was asked of one that is told
  none_asked : (server share : ℕ) → server ≡ q.server → IsGone s.requests.entries server share → ⊥
  none_asked server share e g = elim (cases_lt g.position s.servers) [
    | inl lt ↦ (let two : Reading share g.offset g.len ≡ Holdings = sym g.asked ∙ right.first g.position g.request g.there lt in absurd cc)
    | inr le ↦
        let c = right.counted in
        let within = slice_get_within s.requests.entries g.position g.request g.there in
        let inside : g.position - s.servers < length s.owners = omega (arith, le, c, within) in
        let own = slice_get-get_or s.owners (g.position - s.servers) 0 inside in
        let o = right.owned (g.position - s.servers) _ own in
        let at : s.servers + (g.position - s.servers) ≡ g.position = omega (arith, le) in
        let one : o.request ≡ g.request = let two : Some o.request ≡ Some g.request = sym o.there ∙ ap (slice_get s.requests.entries) at ∙ g.there in cc in
        none_old _ o.held o.is (sym o.read.of_server ∙ ap (λ (x : Request). x.server) one ∙ g.of_server ∙ e)
  ]

  not_blamed : (server share : ℕ) → server ≡ q.server → IsBlamed s.blamed server share → ⊥
  not_blamed server share e b =
      let k = right.blamed b.position b.blame b.there in
      none_old k.0 k.1.0 k.1.1 (sym k.1.2 ∙ b.of_server ∙ e)

  pub right_told : IsRight (record s { requests = after_message from m now s.requests; table = u })
  right_told = record {
    once = once_answered from now m s.requests right.once;
    first = λ i n e lt. (let was = alike_message from m now s.requests i n e in sym was.same ∙ right.first i was.request was.there lt);
    counted = (let c = right.counted in let l = (message_goes from m now s.requests).long in omega (arith, c, l));
    owned = λ i holding e.
        let o = right.owned i holding e in
        let n = alike_forth s.requests.entries entries-after (message_goes from m now s.requests) (s.servers + i) o.request o.there in
        record { held = o.held; is = front_after holding o.held o.is; request = n.0; there = n.1; read = record { of_server = n.3 ∙ o.read.of_server; offset = o.read.offset; len = o.read.len; asked = n.2 ∙ o.read.asked } };
    offered = λ k h e. elim (cases_after k h e) [
      | inl old ↦ offered_stays s.requests.entries entries-after h.server h.share (stays_message from m now s.requests) (right.offered k h old)
      | inr new ↦ offered_new (k - length s.table.holdings) h new.1
    ];
    distinct = λ i j a b lt e f servers shares. elim (cases_after i a e) [
      | inl old ↦ elim (cases_after j b f) [
        | inl old' ↦ right.distinct i j a b lt old old' servers shares
        | inr new' ↦ none_old i a old (servers ∙ (told_is (length s.table.numbers) q.server (take count held) (j - length s.table.holdings) b new'.1).of_server)
      ]
      | inr new ↦ elim (cases_after j b f) [
        | inl old' ↦ none_old j b old' (sym servers ∙ (told_is (length s.table.numbers) q.server (take count held) (i - length s.table.holdings) a new.1).of_server)
        | inr new' ↦
            let le = new.0 in
            let closer : i - length s.table.holdings < j - length s.table.holdings = omega (arith, lt, le) in
            told_differ (length s.table.numbers) q.server 0 (take count held) (i - length s.table.holdings) (j - length s.table.holdings) a b (rises_take 0 held count rising) closer new.1 new'.1 shares
      ]
    ];
    left = λ k h e left. elim (cases_after k h e) [
      | inl old ↦ (let l = right.left k h old left in ((λ gone. l.0 (gone_old h.server h.share gone)), l.1))
      | inr new ↦
          let t = told_is (length s.table.numbers) q.server (take count held) (k - length s.table.holdings) h new.1 in
          ((λ gone. none_asked h.server h.share t.of_server (gone_old h.server h.share gone)), not_blamed h.server h.share t.of_server)
    ];
    others = λ k h e left. elim (cases_after k h e) [
      | inl old ↦ elim (right.others k h old left) [
        | inl gone ↦ inl (gone_stays s.requests.entries entries-after h.server h.share (stays_message from m now s.requests) gone)
        | inr blamed ↦ inr blamed
      ]
      | inr new ↦ absurd (true≢false (sym (told_is (length s.table.numbers) q.server (take count held) (k - length s.table.holdings) h new.1).left ∙ left))
    ];
    blamed = λ i b e. (let k = right.blamed i b e in (k.0, (k.1.0, front_after k.0 k.1.0 k.1.1, k.1.2, k.1.3)));
  }

-- ---- one share after another

told_push : (total server : ℕ) (xs : List HeldShare) (x : HeldShare) → told total server (xs ++ x ∷ []) ≡ told total server xs ++ told total server (x ∷ [])
told_push total server xs x =
    ap (map (λ (y : HeldShare). told_one server y.share)) (filter-append (λ (y : HeldShare). nat_lt y.share total) xs (x ∷ []))
    ∙ map-append-all (λ (y : HeldShare). told_one server y.share) (filter (λ (y : HeldShare). nat_lt y.share total) xs) (filter (λ (y : HeldShare). nat_lt y.share total) (x ∷ []))
  where
    map-append-all : (f : HeldShare → Holding) (ys zs : List HeldShare) → map f (ys ++ zs) ≡ map f ys ++ map f zs
    map-append-all f [] zs = refl
    map-append-all f (y ∷ ys) zs = ap (λ (l : List Holding). f y ∷ l) (map-append-all f ys zs)

told_counts : (total server : ℕ) (x : HeldShare) → x.share < total → told total server (x ∷ []) ≡ told_one server x.share ∷ []
told_counts total server x lt = ap (λ (b : Bool). map (λ (y : HeldShare). told_one server y.share) (cond b (x ∷ []) [])) (lt-ltb x.share total lt)

told_not : (total server : ℕ) (x : HeldShare) → nat_lt x.share total ≡ false → told total server (x ∷ []) ≡ []
told_not total server x e = ap (λ (b : Bool). map (λ (y : HeldShare). told_one server y.share) (cond b (x ∷ []) [])) e

told_more : (total server : ℕ) (held : List HeldShare) (i : ℕ) (x : HeldShare) → i < length held → x ≡ slice_index_or held i x → told total server (take (i + 1) held) ≡ told total server (take i held) ++ told total server (x ∷ [])
told_more total server held i x lt e =
    ap (told total server) (take_more held i x lt ∙ ap (λ (y : HeldShare). take i held ++ y ∷ []) (sym e)) ∙ told_push total server (take i held) x

pub tells_none : (server : ℕ) (held : List HeldShare) (t : TableState) → Tells server held 0 t t
tells_none server held t = record {
  holdings = sym (append-nil t.holdings);
  long = refl;
  reading = λ share n m e f. (let two : Some n ≡ Some m = sym e ∙ f in let one : n ≡ m = cc in ap (λ (x : NumberState). x.reading) (sym one));
}

pub tells_skip : (server : ℕ) (held : List HeldShare) (i : ℕ) (x : HeldShare) (t u : TableState) → i < length held → x ≡ slice_index_or held i x → length u.numbers ≤ x.share → Tells server held i t u → Tells server held (i + 1) t u
tells_skip server held i x t u lt e high k =
    let no-share : nat_lt x.share (length t.numbers) ≡ false = le-ltb x.share (length t.numbers) (let l = k.long in omega (arith, high, l)) in
    record {
      holdings = k.holdings ∙ ap (λ (l : List Holding). t.holdings ++ l) (sym (told_more (length t.numbers) server held i x lt e ∙ ap (λ (l : List Holding). told (length t.numbers) server (take i held) ++ l) (told_not (length t.numbers) server x no-share) ∙ append-nil (told (length t.numbers) server (take i held))));
      long = k.long;
      reading = k.reading;
    }

pub tells_next : (server : ℕ) (held : List HeldShare) (i : ℕ) (x : HeldShare) (t u v : TableState) → i < length held → x ≡ slice_index_or held i x → x.share < length u.numbers → Tells server held i t u
    → v.holdings ≡ u.holdings ++ told_one server x.share ∷ [] → ChangesNumber x.share (with_position (length u.holdings)) u v → Tells server held (i + 1) t v
tells_next server held i x t u v lt e inside k more change =
    let below : x.share < length t.numbers = let l = k.long in omega (arith, inside, l) in
    record {
      holdings = more ∙ ap (λ (l : List Holding). l ++ told_one server x.share ∷ []) k.holdings ∙ append_assoc t.holdings (told (length t.numbers) server (take i held)) (told_one server x.share ∷ [])
          ∙ ap (λ (l : List Holding). t.holdings ++ l) (sym (told_more (length t.numbers) server held i x lt e ∙ ap (λ (l : List Holding). told (length t.numbers) server (take i held) ++ l) (told_counts (length t.numbers) server x below)));
      long = ap length change.numbers ∙ length-set u.numbers x.share (with_position (length u.holdings) change.number) ∙ k.long;
      reading = λ share n m e f. elim (set_cases u.numbers x.share share (with_position (length u.holdings) change.number) m (sym (ap (λ (l : List NumberState). slice_get l share) change.numbers) ∙ f)) [
        | inl w ↦ ap (λ (y : NumberState). y.reading) (sym w.1) ∙ k.reading share n change.number e (ap (slice_get u.numbers) w.0 ∙ change.is)
        | inr w ↦ k.reading share n m e w.1
      ];
    }

-- the same, by what an index gives
pub tells_by : (server : ℕ) (held : List HeldShare) (i : ℕ) (d : HeldShare) (t u v : TableState) → i < length held → (slice_index_or held i d).share < length u.numbers → Tells server held i t u
    → v.holdings ≡ u.holdings ++ told_one server (slice_index_or held i d).share ∷ [] → ChangesNumber (slice_index_or held i d).share (with_position (length u.holdings)) u v → Tells server held (i + 1) t v
tells_by server held i d t u v lt inside k more change =
    tells_next server held i (slice_index_or held i d) t u v lt (sym (get_or_from_slice_get held i (slice_index_or held i d) (slice_index_or held i d) (slice_get-get_or held i d lt))) inside k more change

pub tells_not : (server : ℕ) (held : List HeldShare) (i : ℕ) (d : HeldShare) (t u : TableState) → i < length held → length u.numbers ≤ (slice_index_or held i d).share → Tells server held i t u → Tells server held (i + 1) t u
tells_not server held i d t u lt high k =
    tells_skip server held i (slice_index_or held i d) t u lt (sym (get_or_from_slice_get held i (slice_index_or held i d) (slice_index_or held i d) (slice_get-get_or held i d lt))) high k

-- ---- as the code does it

pub record ToldNow (s : HoldingsState) (from : ℕ) (m : Message) (now position count : ℕ) (held : List HeldShare) (r : RequestsState) (u : TableState) : Type 0 where
  pub right : IsRight (record s { requests = r; table = u })
  pub tells : TellsHeld position m s (record s { requests = r; table = u }) count
  pub same-held : held ≡ held_by (Answered m.body)

-- The request that a server's telling answers is in memory.
pub told_kept : (s : HoldingsState) → IsRight s → (from : ℕ) (m : Message) (now position : ℕ) → counts_at from m s.requests ≡ Some position → position < s.servers → position < length s.requests.entries
    → (r : RequestsState) → r ≡ after_message from m now s.requests → IsKeptAt r.entries position
told_kept s right from m now position counts low inside r re =
    let q : (x : Request) × (slice_get s.requests.entries position ≡ Some x) = get_of s.requests.entries position inside in
    let answered = answered_at from m now s.requests position q.0 counts q.1 in
    subst (λ (x : RequestsState). IsKeptAt x.entries position) (sym re) (holdings_kept (after_message from m now s.requests).entries position (with_outcome q.0 (Answered m.body)) answered (right.first position q.0 q.1 low))

pub told_by : (s : HoldingsState) → IsRight s → (from : ℕ) (m : Message) (now position : ℕ) → counts_at from m s.requests ≡ Some position → position < s.servers → position < length s.requests.entries
    → (r : RequestsState) → r ≡ after_message from m now s.requests → (e : Request) → slice_get r.entries position ≡ Some e → (held : List HeldShare) → held ≡ held_by e.outcome → IsTrue (rises_from 0 held)
    → (count : ℕ) (u : TableState) → Tells e.server held count s.table u → ToldNow s from m now position count held r u
told_by s right from m now position counts low inside r re e stands held he rising count u tells =
    let q-there = slice_get-get_or s.requests.entries position e inside in
    let answered = answered_at from m now s.requests position _ counts q-there in
    let e-is : e ≡ with_outcome (slice_index_or s.requests.entries position e) (Answered m.body) = let two : Some e ≡ Some (with_outcome (slice_index_or s.requests.entries position e) (Answered m.body)) = sym stands ∙ ap (λ (x : RequestsState). slice_get x.entries position) re ∙ answered in cc in
    let held-is : held ≡ held_by (Answered m.body) = he ∙ ap (λ (x : Request). held_by x.outcome) e-is in
    let server-is : e.server ≡ (slice_index_or s.requests.entries position e).server = ap (λ (x : Request). x.server) e-is in
    let tells-q : Tells (slice_index_or s.requests.entries position e).server held count s.table u = subst (λ (n : ℕ). Tells n held count s.table u) server-is tells in
    record {
      right = subst (λ (x : RequestsState). IsRight (record s { requests = x; table = u })) (sym re)
          (right_told s right from m now position counts low held held-is (true_is (rises_from 0 held) rising) count (slice_index_or s.requests.entries position e) q-there u tells-q.long tells-q.holdings);
      tells = record { request = slice_index_or s.requests.entries position e; there = q-there; tells = subst (λ (l : List HeldShare). Tells (slice_index_or s.requests.entries position e).server l count s.table u) held-is tells-q };
      same-held = held-is;
    }
  where
    true_is : (b : Bool) → IsTrue b → b ≡ true
    true_is true k = refl
    true_is false k = absurd cc

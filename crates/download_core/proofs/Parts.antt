-- Parts of a share are asked for, one after another.
use Rattle.std.proofs.Common.{◌≡◌, ℕ, zero, suc, ◌+◌, ◌<◌, ◌≤◌, ◌⊎◌, inl, inr, List, [], ◌∷◌, ◌++◌, Contains, length, take, Some, refl, sym, ap, subst, ◌∙◌, arith}
use Rattle.std.specs.Prelude.{slice_get, slice_index_or, All, AllPairs}
use Rattle.std.proofs.lemmas.List.{get_or-take, length-append, length-take, take_more}
use Rattle.std.proofs.lemmas.List.Elements.{Contains-append_left, Contains-append_right, Contains-push_cases}
use Rattle.std.proofs.lemmas.Option.{slice_get_within}
use Rattle.lemmas.proofs.Positions.{get_last, get_push}
use Rattle.lemmas.proofs.Options.{one_there}
use Rattle.placement.proofs.Members.{Contains-head, Contains-nil}
use Rattle.request_record.specs.declared.requests.Asked.{Asked}
use Rattle.request_record.specs.declared.requests.Asked.TheVariants.{Reading}
use Rattle.request_record.specs.Asking.{AreApart as AsksApart}
use Rattle.request_record.specs.Record.{RequestsState, first_request}
use Rattle.request_record.specs.declared.requests.Request.{Request}
use Rattle.download_shares.specs.HoldingMoves.{Asks, IsUnasked}
use Rattle.download_shares.specs.HoldingState.{HoldingsState, TableState}
use Rattle.download_shares.specs.Table.{IsHolding}
use Rattle.download_shares.specs.declared.holding.Holding.{Holding}
use Rattle.download_shares.specs.Known.{AreBegun}
use Rattle.download_shares.specs.Reads.{IsReadAt}
use Rattle.download_shares.specs.BeginningState.{BeginningsState}
use Rattle.download_shares.proofs.Asking.{unasked_by}
use Rattle.download_shares.proofs.Entries.{read_pushed}
use Rattle.download_parts.specs.PlanLaws.{AreApart}
use Rattle.download_supply.specs.declared.wanted.Wanted.{Wanted}
use Rattle.download_file.specs.Asked.{IsOneOf}
use Rattle.download_file.specs.State.{waiting_from}
use Rattle.download_file.specs.declared.reader.Waiting.{Waiting}
use Rattle.download_file.proofs.AskLemmas.{waiting_from_more}
use Rattle.download_core.specs.ReadingSteps.{AsksParts, Grows, IsAskedNow, IsSamePair}

-- ---- what was answered stays

pub keeps_none : (s t : BeginningsState) → t.holdings.requests ≡ s.holdings.requests → Grows s t
keeps_none s t e = record { stays = λ position r body there answer. ap (λ (q : RequestsState). slice_get q.entries position) e ∙ there }

pub keeps_asked : (s t : BeginningsState) (holding offset len : ℕ) → Asks holding offset len s.holdings t.holdings → Grows s t
keeps_asked s t holding offset len a = record {
  stays = λ position r body there answer. ap (λ (x : HoldingsState). slice_get x.requests.entries position) a.2
      ∙ get_push s.holdings.requests.entries (first_request a.0.server (Reading a.0.share offset len) s.holdings.requests.clock) position (slice_get_within s.holdings.requests.entries position r there) ∙ there;
}

pub keeps_trans : (s t u : BeginningsState) → Grows s t → Grows t u → Grows s u
keeps_trans s t u f g = record { stays = λ position r body there answer. g.stays position r body (f.stays position r body there answer) answer }

-- ---- one of the first parts

pub record IsEarlier (wanted : List Wanted) (i offset len : ℕ) : Type 0 where
  pub index : ℕ
  pub below : index < i
  pub inside : index < length wanted
  pub offset_is : (d : Wanted) → offset ≡ (slice_index_or wanted index d).read.offset
  pub long : (d : Wanted) → len ≡ (slice_index_or wanted index d).read.length

any_default : (xs : List Wanted) (i : ℕ) (d e : Wanted) → i < length xs → slice_index_or xs i d ≡ slice_index_or xs i e
any_default [] i d e lt = absurd (omega (arith, lt))
any_default (x ∷ xs) zero d e lt = refl
any_default (x ∷ xs) (suc i) d e lt = any_default xs i d e (omega (arith, lt))

earlier : (wanted : List Wanted) (i offset len : ℕ) → IsOneOf (take i wanted) offset len → IsEarlier wanted i offset len
earlier wanted i offset len o =
    let k = o.among in
    let lt = k.1 in
    let e = length-take i wanted in
    let below : k.0 < i = omega (arith, lt, e) in
    let inside : k.0 < length wanted = omega (arith, lt, e) in
    let is : slice_index_or wanted k.0 o.one ≡ o.one = sym (get_or-take i wanted k.0 o.one below) ∙ k.2 in
    record {
      index = k.0;
      below = below;
      inside = inside;
      offset_is = λ d. o.offset_is ∙ ap (λ (w : Wanted). w.read.offset) (sym is ∙ any_default wanted k.0 o.one d inside);
      long = λ d. o.long ∙ ap (λ (w : Wanted). w.read.length) (sym is ∙ any_default wanted k.0 o.one d inside);
    }

one_more : (wanted : List Wanted) (i offset len : ℕ) (d : Wanted) → i < length wanted → IsOneOf (take i wanted) offset len → IsOneOf (take (i + 1) wanted) offset len
one_more wanted i offset len d lt o = record {
  one = o.one;
  among = subst (λ (l : List Wanted). Contains l o.one) (sym (take_more wanted i d lt)) (Contains-append_left (take i wanted) (slice_index_or wanted i d ∷ []) o.one o.among);
  offset_is = o.offset_is;
  long = o.long;
}

this_one : (wanted : List Wanted) (i : ℕ) (d : Wanted) → i < length wanted → IsOneOf (take (i + 1) wanted) (slice_index_or wanted i d).read.offset (slice_index_or wanted i d).read.length
this_one wanted i d lt = record {
  one = slice_index_or wanted i d;
  among = subst (λ (l : List Wanted). Contains l (slice_index_or wanted i d)) (sym (take_more wanted i d lt)) (Contains-append_right (take i wanted) (slice_index_or wanted i d ∷ []) (slice_index_or wanted i d) (Contains-head (slice_index_or wanted i d) []));
  offset_is = refl;
  long = refl;
}

-- one of all
pub one_of : (wanted : List Wanted) (i : ℕ) (d : Wanted) → i < length wanted → IsOneOf wanted (slice_index_or wanted i d).read.offset (slice_index_or wanted i d).read.length
one_of wanted i d lt =
    let w = slice_index_or wanted i d in
    record { one = w; among = (i, lt, any_default wanted i w d lt); offset_is = refl; long = refl }

-- ---- the next one

module _ (holding : ℕ) (wanted : List Wanted) (s t : BeginningsState) (i : ℕ) (d : Wanted) (lt : i < length wanted) (before : AsksParts holding (take i wanted) s t) where
  abbrev pub w : Wanted
  w = slice_index_or wanted i d

  pub next_unasked : All (λ (w : Wanted). IsUnasked s.holdings holding w.read.offset w.read.length) wanted → AllPairs (λ (v w : Wanted). AreApart v.read.offset v.read.length w.read.offset w.read.length) wanted
      → IsUnasked t.holdings holding w.read.offset w.read.length
  next_unasked fresh apart = unasked_by t.holdings holding w.read.offset w.read.length
      (λ h j position len is read. by h j position len (sym (ap (λ (u : TableState). slice_get u.holdings holding) before.table) ∙ is) (before.reads h j position len read))
    where
      by : (h : Holding) (j position len : ℕ) → IsHolding s.holdings.table holding h → IsReadAt s.holdings.requests.entries h j position len ⊎ (IsSamePair s holding h × IsOneOf (take i wanted) position len)
          → (position + len ≤ w.read.offset) ⊎ (w.read.offset + w.read.length ≤ position)
      by h j position len is (inl old) =
          let a : AsksApart old.request.asked (Reading h.share w.read.offset w.read.length) = fresh i d lt h j old.request is old.there old.of_server in
          (subst (λ (q : Asked). AsksApart q (Reading h.share w.read.offset w.read.length)) old.asked a) refl
      by h j position len is (inr new) =
          let e = earlier wanted i position len new.1 in
          subst (λ n. (n + len ≤ w.read.offset) ⊎ (w.read.offset + w.read.length ≤ n)) (sym (e.offset_is d))
          (subst (λ n. ((slice_index_or wanted e.index d).read.offset + n ≤ w.read.offset) ⊎ (w.read.offset + w.read.length ≤ (slice_index_or wanted e.index d).read.offset)) (sym (e.long d))
          (apart e.index i d e.below lt))

  module _ (u : BeginningsState) (a : Asks holding w.read.offset w.read.length t.holdings u.holdings) where
    abbrev pub ts : List Request
    ts = t.holdings.requests.entries

    abbrev pub us : List Request
    us = u.holdings.requests.entries

    abbrev pub asked_here : Request
    asked_here = first_request a.0.server (Reading a.0.share w.read.offset w.read.length) t.holdings.requests.clock

    entries_are : us ≡ ts ++ asked_here ∷ []
    entries_are = ap (λ (x : HoldingsState). x.requests.entries) a.2

    count_now : length us ≡ length s.holdings.requests.entries + length (take (i + 1) wanted)
    count_now =
        let e = ap length entries_are in
        let f = length-append ts (asked_here ∷ []) in
        let g = before.count in
        let k = length-take i wanted in
        let l = length-take (i + 1) wanted in
        omega (arith, e, f, g, k, l, lt)

    here : slice_get us (length s.holdings.requests.entries + length (take i wanted)) ≡ Some asked_here
    here = ap (λ (l : List Request). slice_get l (length s.holdings.requests.entries + length (take i wanted))) entries_are ∙ ap (slice_get (ts ++ asked_here ∷ [])) (sym before.count) ∙ get_last ts asked_here

    there_still : (j : ℕ) (q : Request) → slice_get ts j ≡ Some q → slice_get us j ≡ Some q
    there_still j q e = ap (λ (l : List Request). slice_get l j) entries_are ∙ get_push ts asked_here j (slice_get_within ts j q e) ∙ e

    still_asked : (h : Holding) (v : Waiting) → IsAskedNow ts h v → IsAskedNow us h v
    still_asked h v k = record {
      read = record { request = k.read.request; there = there_still v.position k.read.request k.read.there; of_server = k.read.of_server; asked = k.read.asked };
      out = record { request = k.out.request; there = there_still v.position k.out.request k.out.there; waits = k.out.waits };
    }

    asked_now : (h : Holding) (v : Waiting) → IsHolding s.holdings.table holding h → Contains (waiting_from (length s.holdings.requests.entries) (take (i + 1) wanted)) v → IsAskedNow us h v
    asked_now h v is among =
        elim (Contains-push_cases (waiting_from (length s.holdings.requests.entries) (take i wanted)) (record { position = length s.holdings.requests.entries + length (take i wanted); wanted = w }) v
        (subst (λ (l : List Waiting). Contains l v) (ap (waiting_from (length s.holdings.requests.entries)) (take_more wanted i d lt) ∙ waiting_from_more (length s.holdings.requests.entries) (take i wanted) w) among)) [
          | inl old ↦ still_asked h v (before.asked h v is old)
          | inr last ↦ subst (IsAskedNow us h) last (record {
            read = record { request = asked_here; there = here; of_server = ap (λ (x : Holding). x.server) same; asked = ap (λ (x : Holding). Reading x.share w.read.offset w.read.length) same };
            out = record { request = asked_here; there = here; waits = refl };
          })
        ]
      where
        same : a.0 ≡ h
        same = one_there (slice_get s.holdings.table.holdings holding) a.0 h (sym (ap (λ (x : TableState). slice_get x.holdings holding) before.table) ∙ a.1) is

  pub next_asked : (u : BeginningsState) → AreBegun u → Asks holding w.read.offset w.read.length t.holdings u.holdings → u.begun ≡ t.begun → AsksParts holding (take (i + 1) wanted) s u
  next_asked u known a same = record {
    known = known;
    table = ap (λ (x : HoldingsState). x.table) a.2 ∙ before.table;
    begun = same ∙ before.begun;
    reads = λ h j offset len read. by h j offset len
        (read_pushed t.holdings.requests.entries (first_request a.0.server (Reading a.0.share w.read.offset w.read.length) t.holdings.requests.clock) h j offset len
        (subst (λ (x : HoldingsState). IsReadAt x.requests.entries h j offset len) a.2 read));
    count = count_now u a;
    asked = asked_now u a;
  }
    where
      by : (h : Holding) (j offset len : ℕ) → IsReadAt t.holdings.requests.entries h j offset len ⊎ ((j ≡ length t.holdings.requests.entries) × (a.0.server ≡ h.server) × (Reading a.0.share w.read.offset w.read.length ≡ Reading h.share offset len))
          → IsReadAt s.holdings.requests.entries h j offset len ⊎ (IsSamePair s holding h × IsOneOf (take (i + 1) wanted) offset len)
      by h j offset len (inl old) = elim (before.reads h j offset len old) [ inl was ↦ inl was | inr k ↦ inr (k.0, one_more wanted i offset len d lt k.1) ]
      by h j offset len (inr new) =
          let shares : a.0.share ≡ h.share = cc in
          let positions : w.read.offset ≡ offset = cc in
          let lengths : w.read.length ≡ len = cc in
          inr (
            (a.0, sym (ap (λ (u : TableState). slice_get u.holdings holding) before.table) ∙ a.1, new.1, shares),
            subst (λ n. IsOneOf (take (i + 1) wanted) n len) positions (subst (λ n. IsOneOf (take (i + 1) wanted) w.read.offset n) lengths (this_one wanted i d lt)),
          )

pub none_asked : (holding : ℕ) (wanted : List Wanted) (s : BeginningsState) → AreBegun s → AsksParts holding (take 0 wanted) s s
none_asked holding wanted s known = record {
  known = known;
  table = refl;
  begun = refl;
  reads = λ h i offset len read. inl read;
  count = omega arith;
  asked = λ h v is among. absurd (Contains-nil v among);
}

-- A check that is done calls a share good that its server tells.
use Rattle.std.proofs.Common.{◌≡◌, ◌≢◌, ◌⊎◌, ℕ, zero, suc, ◌<◌, Bool, true, List, [], ◌∷◌, map, take, drop, Some, None, refl, sym, subst, ap, ◌∙◌, inl, inr, arith}
use Rattle.std.specs.Prelude.{Contains, ◌==◌, filter, if◌then◌else◌, nat_lt, slice_get}
use Rattle.std.proofs.lemmas.Bool.{cases_Bool, eqb-true, lt-ltb}
use Rattle.std.proofs.lemmas.Option.{none-some}
use Rattle.lemmas.proofs.Bools.{bool_cases, both}
use Rattle.lemmas.proofs.Members.{contains_cases, contains_map, contains_none, flat_map_from, flat_map_has}
use Rattle.wire.specs.declared.message.Body.{Body}
use Rattle.wire.specs.declared.message.Body.TheVariants.{Data, Have}
use Rattle.wire.specs.declared.message.HeldShare.{HeldShare}
use Rattle.placement.specs.Matching.{Pair}
use Rattle.request_record.specs.declared.requests.Asked.{Asked}
use Rattle.request_record.specs.declared.requests.Asked.TheVariants.{Reading}
use Rattle.request_record.specs.declared.requests.Outcome.{Outcome}
use Rattle.request_record.specs.declared.requests.Outcome.TheVariants.{Answered, Lost, Outstanding, Unawaited}
use Rattle.request_record.specs.declared.requests.Request.{Request}
use Rattle.share_verify.specs.Verify.{IsSoundShare}
use Rattle.share_reading.specs.Verdict.{IsLost, Settled}
use Rattle.share_reading.specs.declared.verdict.Verdict.{Verdict}
use Rattle.share_reading.specs.declared.verdict.Verdict.TheVariants.{Good}
use Rattle.checker.specs.Report.{IsReport, pair_of}
use Rattle.checker.specs.Shares.{is_about, offered_in, offered_pairs, offered_to, reads_share, settled_by, settled_in, settled_of}
use Rattle.checker.specs.State.{CheckState}
use Rattle.checker.specs.declared.status.Report.{Report}
use Rattle.checker.specs.declared.status.ShareVerdict.{ShareVerdict}
use Rattle.answer_laws.specs.Downloads.Answers.{AnswersOwn}
use Rattle.answer_laws.proofs.Checks.ReportLemmas.{own_answers_are_good}
use Rattle.answer_laws.specs.Asking.Asked.{AreAwaited}
use Rattle.answer_laws.specs.Enough.Answers.{TellsShare, WasLost}
use Rattle.answer_laws.specs.Enough.Checks.{IsTold, ToldSharesAreGood, good}
use Rattle.answer_laws.proofs.Enough.Answers.{IsAnsweredAsk, answered_ask, lost_or_not, reads_no_abort}

-- ---- what is told is among the pairs that were offered

kept : {X : Type 0} (test : X → Bool) (xs : List X) (x : X) → Contains xs x → test x ≡ true → Contains (filter test xs) x
kept test [] x c t = absurd (omega (arith, c.1))
kept test (y ∷ ys) x (zero, low, is) t = let passes : test y ≡ true = ap test is ∙ t in rw passes (zero, omega arith, is)
kept test (y ∷ ys) x (suc k, low, is) t =
    let rest : Contains (filter test ys) x = kept test ys x (k, omega (arith, low), is) t in
    elim (cases_Bool (test y)) [
      | inl passes ↦ rw passes (suc rest.0, omega (arith, rest.1), rest.2)
      | inr fails ↦ rw fails rest
    ]

is_offered : (total : ℕ) (entries : List Request) (server num : ℕ) → num < total → IsAnsweredAsk entries server num → Contains (offered_pairs total entries) (server, num)
is_offered total entries server num low a =
    let lists = a.lists.1 in
    let held : HeldShare = record { share = num; digest = a.lists.0 } in
    let counts : nat_lt num total ≡ true = lt-ltb num total low in
    let here : Contains (offered_in total server (Answered (Have lists.readonly lists.found))) (server, num) =
    contains_map (λ (h : HeldShare). (server, h.share)) (filter (λ (h : HeldShare). nat_lt h.share total) lists.found) held
    (kept (λ (h : HeldShare). nat_lt h.share total) lists.found held lists.listed counts) in
    let outcome : a.request.outcome ≡ Answered (Have lists.readonly lists.found) = a.answer ∙ ap Answered lists.is in
    let by_server : Contains (offered_in total a.request.server a.request.outcome) (server, num) =
    subst (λ (n : ℕ). Contains (offered_in total n a.request.outcome) (server, num)) (sym a.of_server)
    (subst (λ (o : Outcome). Contains (offered_in total server o) (server, num)) (sym outcome) here) in
    flat_map_has (λ (r : Request). offered_to total r.server r.asked r.outcome) entries a.position a.request (server, num) a.there
    (subst (λ (q : Asked). Contains (offered_to total a.request.server q a.request.outcome) (server, num)) (sym a.asked) by_server)

-- so there is a verdict on it
record IsFound (verdicts : List ShareVerdict) (pair : Pair) : Type 0 where
  pub verdict : ShareVerdict
  pub among : Contains verdicts verdict
  pub is : pair_of verdict ≡ pair

found_in : (verdicts : List ShareVerdict) (pair : Pair) → Contains (map pair_of verdicts) pair → IsFound verdicts pair
found_in [] pair c = absurd (contains_none pair c)
found_in (v ∷ vs) pair c = elim (contains_cases (pair_of v) pair (map pair_of vs) c) [
  | inl is ↦ record { verdict = v; among = (zero, omega arith, refl); is = is }
  | inr later ↦ (let f = found_in vs pair later in record { verdict = f.verdict; among = (suc f.among.0, omega (arith, f.among.1), f.among.2); is = f.is })
]

-- ---- no read of it was lost

same_data : (a b : List ℕ) → Data a ≡ Data b → a ≡ b
same_data a b e = cc

answers_own : (entries : List Request) (server num : ℕ) (share : List ℕ) → TellsShare entries server num share → AnswersOwn entries server num share
answers_own entries server num share tells position offset len request bytes there of_server asked answer =
    same_data bytes (take len (drop offset share)) (tells.reads position offset len request (Data bytes) there of_server asked answer)

abbrev settled : ℕ → ℕ → List ℕ → Settled
settled offset len bytes = record { offset = offset; len = len; answer = Some bytes }

has_bytes : (offset len : ℕ) (bytes : List ℕ) (read : Settled) → Contains (settled offset len bytes ∷ []) read → read.answer ≡ None → ⊥
has_bytes offset len bytes read c none = elim (contains_cases (settled offset len bytes) read [] c) [
  | inl is ↦ none-some bytes (sym none ∙ sym (ap (λ (x : Settled). x.answer) is))
  | inr other ↦ contains_none read other
]

-- a read that brought nothing was lost, was not waited for, or brought no bytes
by_outcome : (n offset len : ℕ) (o : Outcome) (read : Settled) → Contains (settled_in (Reading n offset len) o) read → read.answer ≡ None
    → o ≢ Lost → o ≢ Unawaited → ((said : Body) → o ≡ Answered said → (bytes : List ℕ) × (said ≡ Data bytes)) → ⊥
by_outcome n offset len Outstanding read c none not_lost awaited own = contains_none read c
by_outcome n offset len Lost read c none not_lost awaited own = not_lost refl
by_outcome n offset len Unawaited read c none not_lost awaited own = awaited refl
by_outcome n offset len (Answered said) read c none not_lost awaited own =
    let mine = own said refl in
    has_bytes offset len mine.0 read (subst (λ (b : Body). Contains (settled_in (Reading n offset len) (Answered b)) read) mine.1 c) none

module _ (entries : List Request) (server num : ℕ) (share : List ℕ) (awaited : AreAwaited entries) (tells : TellsShare entries server num share) (none : WasLost entries server → ⊥) where
  by_asked : (position : ℕ) (q : Request) (a : Asked) (read : Settled) → slice_get entries position ≡ Some q → q.server ≡ server → q.asked ≡ a → reads_share num a ≡ true
      → Contains (settled_in a q.outcome) read → read.answer ≡ None → ⊥
  by_asked position q (Reading n offset len) read there of_server asked about c no_bytes =
      let number : n ≡ num = eqb-true n num about in
      by_outcome n offset len q.outcome read c no_bytes
      (λ lost. none record { position = position; request = q; there = there; of_server = of_server; lost = lost })
      (λ unawaited. let aborts = awaited position q there unawaited in reads_no_abort n offset len aborts.0 (sym asked ∙ aborts.1))
      (λ said answer. (take len (drop offset share), tells.reads position offset len q said there of_server (asked ∙ ap (λ (k : ℕ). Reading k offset len) number) answer))
  by_asked position q a read there of_server asked about c no_bytes = contains_none read c

  pub none_lost : IsLost (settled_of entries server num) → ⊥
  none_lost lost =
      let read : Settled = lost.0 in
      let from = flat_map_from (settled_by server num) entries read lost.1 in
      let q : Request = from.source in
      elim (bool_cases (is_about server num q)) [
        | inr other ↦ contains_none read (subst (λ (b : Bool). Contains (if b then settled_in q.asked q.outcome else []) read) other from.has)
        | inl is ↦
            let tests = both (q.server == server) (reads_share num q.asked) is in
            by_asked from.position q q.asked read from.there (eqb-true q.server server tests.0) refl tests.1
            (subst (λ (b : Bool). Contains (if b then settled_in q.asked q.outcome else []) read) is from.has) lost.2
      ]

-- ---- so the verdict is good

module _ (c : CheckState) (r : Report) (servers : List ℕ) (pair : Pair) (share : List ℕ) (report : IsReport c.cap c.requests.entries r) (told : IsTold c servers pair share) where
  abbrev entries : List Request
  entries = c.requests.entries

  verdict_is : (v : ShareVerdict) → pair_of v ≡ pair → v.verdict ≡ Good → v ≡ good pair
  verdict_is v is says =
      let made : Pair → Verdict → ShareVerdict = λ p w. record { server = p.0; share = p.1; verdict = w } in
      ap (λ (p : Pair). made p v.verdict) is ∙ ap (made pair) says

  is_good : (WasLost entries pair.0 → ⊥) → Contains r.verdicts (good pair)
  is_good none =
      let ask = answered_ask entries servers pair.0 pair.1 share (told.right.idle told.done) told.asks told.of told.tells none in
      let offered = is_offered c.cap.total entries pair.0 pair.1 told.low ask in
      let found = found_in r.verdicts pair (subst (λ (l : List Pair). Contains l pair) (sym report.verdicts.pairs) offered) in
      let v : ShareVerdict = found.verdict in
      let tells : TellsShare entries v.server v.share share = subst (λ (p : Pair). TellsShare entries p.0 p.1 share) (sym found.is) told.tells in
      let lost_none : WasLost entries v.server → ⊥ = subst (λ (p : Pair). WasLost entries p.0 → ⊥) (sym found.is) none in
      let sound = subst (λ (p : Pair). IsSoundShare c.cap p.1 share) (sym found.is) told.sound in
      let fairly = own_answers_are_good c.cap entries r v share report found.among sound in
      let says : v.verdict ≡ Good = fairly.good (answers_own entries v.server v.share share tells) (none_lost entries v.server v.share share told.asks.awaited tells lost_none) in
      subst (Contains r.verdicts) (verdict_is v found.is says) found.among

  good_or_lost : Contains r.verdicts (good pair) ⊎ WasLost entries pair.0
  good_or_lost = elim (lost_or_not entries pair.0) [
    | inl lost ↦ inr lost
    | inr none ↦ inl (is_good none)
  ]

pub told_shares_are_good : ToldSharesAreGood
told_shares_are_good c r servers pair share report told = good_or_lost c r servers pair share report told

-- The servers that answered: each once.
use Rattle.std.proofs.Common.{◌≡◌, ℕ, ◌<◌, ◌⊎◌, inl, inr, Bool, true, false, cond, not, ◌&&◌, List, [], ◌∷◌, ◌++◌, Contains, length, map, filter, get_or, eqb, refl, sym, ap, subst, ◌∙◌, arith, true≢false}
use Rattle.std.specs.List.{IsDistinct}
use Rattle.std.specs.Set.{is_member}
use Rattle.std.proofs.lemmas.Bool.{cases_lt, eq-eqb, eqb-true, or_left, or_right}
use Rattle.std.proofs.lemmas.List.{get_or_default, get_or-map, length-map}
use Rattle.std.proofs.lemmas.List.Folds.{list_any-append}
use Rattle.std.proofs.lemmas.Map.Keys.{apart_from_distinct}
use Rattle.std.proofs.lemmas.Map.Views.{Contains-from_any}
use Rattle.lemmas.proofs.Members.{distinct_kept}
use Rattle.lemmas.proofs.Bools.{both, not_both, bool_cases}
use Rattle.wire.specs.declared.message.Body.{Body}
use Rattle.wire.specs.declared.message.Body.TheVariants.{Ask, Have, Allocate, Granted, Already, Busy, Full, Write, Wrote, WrongOffset, Close, Closed, NotComplete, Abort, Read, Data, NoShare}
use Rattle.request_record.specs.declared.requests.Asked.{Asked}
use Rattle.request_record.specs.declared.requests.Asked.TheVariants.{Holdings, Allocation, Writing, Closing, Reading, Aborting}
use Rattle.request_record.specs.declared.requests.Outcome.{Outcome}
use Rattle.request_record.specs.declared.requests.Outcome.TheVariants.{Unawaited, Outstanding, Answered, Lost}
use Rattle.request_record.specs.declared.requests.Request.{Request}
use Rattle.placement.proofs.Members.{Contains-filter, distinct_filter, from_filter, from_member_map}
use Rattle.upload_core.specs.State.{Goal}
use Rattle.upload_core.specs.Rounds.{answered_as, answers_as, asked_answered_as, has_answered_as, readonly_servers, writable_servers}
use Rattle.upload_core.specs.Transfers.{failed_servers}
use Rattle.upload_core.specs.Course.{asked_servers, has_told, is_holdings, is_told}
use Rattle.upload_core.proofs.Records.{either}
use Rattle.upload_core.proofs.Numbers.{distinct_append, from_kept, to_kept}

abbrev server_of : Request → ℕ
server_of r = r.server

abbrev is_ask : Request → Bool
is_ask r = is_holdings r.asked

-- the same member is the same element
same_one : (xs : List Request) → IsDistinct eqb (map server_of xs) → (a b : Request) → Contains xs a → Contains xs b → a.server ≡ b.server → a ≡ b
same_one xs d a b h k same =
    let la : h.0 < length (map server_of xs) = omega (arith, h.1, length-map xs server_of) in
    let lb : k.0 < length (map server_of xs) = omega (arith, k.1, length-map xs server_of) in
    let at-a : get_or (map server_of xs) h.0 0 ≡ a.server = get_or-map server_of xs h.0 a 0 h.1 ∙ ap server_of (get_or_default xs h.0 a _ h.1 ∙ h.2) in
    let at-b : get_or (map server_of xs) k.0 0 ≡ b.server = get_or-map server_of xs k.0 b 0 k.1 ∙ ap server_of (get_or_default xs k.0 b _ k.1 ∙ k.2) in
    let both-equal : get_or (map server_of xs) h.0 0 ≡ get_or (map server_of xs) k.0 0 = at-a ∙ same ∙ sym at-b in
    elim (cases_lt h.0 k.0) [
      | inl lt ↦ absurd (true≢false (sym (eq-eqb _ _ both-equal) ∙ apart_from_distinct eqb (map server_of xs) h.0 k.0 0 d lt lb))
      | inr ge ↦ (elim (cases_lt k.0 h.0) [
        | inl lt ↦ absurd (true≢false (sym (eq-eqb _ _ (sym both-equal)) ∙ apart_from_distinct eqb (map server_of xs) k.0 h.0 0 d lt la))
        | inr le ↦ (let e : h.0 ≡ k.0 = omega arith in sym h.2 ∙ get_or_default xs h.0 _ a h.1 ∙ ap (λ (i : ℕ). get_or xs i a) e ∙ get_or_default xs k.0 a _ k.1 ∙ k.2)
      ])
    ]

filtered_twice : (p h : Request → Bool) → ((r : Request) → p r ≡ true → h r ≡ true) → (xs : List Request) → filter p (filter h xs) ≡ filter p xs
filtered_twice p h more [] = refl
filtered_twice p h more (r ∷ rs) = by (h r) (p r) refl refl (filtered_twice p h more rs)
  where
    by : (b c : Bool) → h r ≡ b → p r ≡ c → filter p (filter h rs) ≡ filter p rs → filter p (cond b (r ∷ filter h rs) (filter h rs)) ≡ cond c (r ∷ filter p rs) (filter p rs)
    by true true e k rest = ap (λ (b : Bool). cond b (r ∷ filter p (filter h rs)) (filter p (filter h rs))) k ∙ ap (λ (l : List Request). r ∷ l) rest
    by true false e k rest = ap (λ (b : Bool). cond b (r ∷ filter p (filter h rs)) (filter p (filter h rs))) k ∙ rest
    by false true e k rest = absurd (true≢false (sym (more r k) ∙ e))
    by false false e k rest = rest

ask_answered : (ro : Bool) (a : Asked) (o : Outcome) → asked_answered_as ro a o ≡ true → is_holdings a ≡ true
ask_answered ro Holdings o h = refl
ask_answered ro (Allocation share len) o h = absurd (true≢false (sym h))
ask_answered ro (Writing share offset len) o h = absurd (true≢false (sym h))
ask_answered ro (Closing share) o h = absurd (true≢false (sym h))
ask_answered ro (Reading share offset len) o h = absurd (true≢false (sym h))
ask_answered ro (Aborting share) o h = absurd (true≢false (sym h))

pub answered_ask : (ro : Bool) (r : Request) → has_answered_as ro r ≡ true → is_ask r ≡ true
answered_ask ro r h = ask_answered ro r.asked r.outcome h

answers_one_way : (b : Body) → answers_as true b ≡ true → answers_as false b ≡ true → ⊥
answers_one_way (Ask i) h k = true≢false (sym h)
answers_one_way (Have true held) h k = true≢false (sym k)
answers_one_way (Have false held) h k = true≢false (sym h)
answers_one_way (Allocate id l) h k = true≢false (sym h)
answers_one_way Granted h k = true≢false (sym h)
answers_one_way (Already d) h k = true≢false (sym h)
answers_one_way Busy h k = true≢false (sym h)
answers_one_way Full h k = true≢false (sym h)
answers_one_way (Write id o bytes) h k = true≢false (sym h)
answers_one_way (Wrote next) h k = true≢false (sym h)
answers_one_way (WrongOffset next) h k = true≢false (sym h)
answers_one_way (Close id) h k = true≢false (sym h)
answers_one_way (Closed d) h k = true≢false (sym h)
answers_one_way (NotComplete w) h k = true≢false (sym h)
answers_one_way (Abort id) h k = true≢false (sym h)
answers_one_way (Read id o l) h k = true≢false (sym h)
answers_one_way (Data bytes) h k = true≢false (sym h)
answers_one_way NoShare h k = true≢false (sym h)

outcome_one_way : (a : Asked) (o : Outcome) → asked_answered_as true a o ≡ true → asked_answered_as false a o ≡ true → ⊥
outcome_one_way Holdings Unawaited h k = true≢false (sym h)
outcome_one_way Holdings Outstanding h k = true≢false (sym h)
outcome_one_way Holdings (Answered b) h k = answers_one_way b h k
outcome_one_way Holdings Lost h k = true≢false (sym h)
outcome_one_way (Allocation share len) o h k = true≢false (sym h)
outcome_one_way (Writing share offset len) o h k = true≢false (sym h)
outcome_one_way (Closing share) o h k = true≢false (sym h)
outcome_one_way (Reading share offset len) o h k = true≢false (sym h)
outcome_one_way (Aborting share) o h k = true≢false (sym h)

one_way : (r : Request) → has_answered_as true r ≡ true → has_answered_as false r ≡ true → ⊥
one_way r h k = outcome_one_way r.asked r.outcome h k

-- a server of one that a filter keeps
there_cons : (p : Request → Bool) (s : ℕ) (r : Request) (rs : List Request) → is_member eqb (map server_of (filter p rs)) s ≡ true → is_member eqb (map server_of (filter p (r ∷ rs))) s ≡ true
there_cons p s r rs h = by (p r)
  where
    by : (b : Bool) → is_member eqb (map server_of (cond b (r ∷ filter p rs) (filter p rs))) s ≡ true
    by true = or_right (eqb s r.server) (is_member eqb (map server_of (filter p rs)) s) h
    by false = h

there_head : (p : Request → Bool) (s : ℕ) (r : Request) (rs : List Request) → p r ≡ true → eqb s r.server ≡ true → is_member eqb (map server_of (filter p (r ∷ rs))) s ≡ true
there_head p s r rs e same = by (p r) e
  where
    by : (b : Bool) → b ≡ true → is_member eqb (map server_of (cond b (r ∷ filter p rs) (filter p rs))) s ≡ true
    by true k = or_left (eqb s r.server) (is_member eqb (map server_of (filter p rs)) s) same
    by false k = absurd (true≢false (sym k))

told_as : (s : ℕ) (es : List Request) → is_told es s ≡ true → (is_member eqb (answered_as true es) s ≡ true) ⊎ (is_member eqb (answered_as false es) s ≡ true)
told_as s [] h = absurd (true≢false (sym h))
told_as s (r ∷ rs) h = elim (either (has_told r && eqb s r.server) (is_told rs s) h) [
  | inl here ↦ (
      let t = both (has_told r) (eqb s r.server) here in
      elim (either (has_answered_as true r) (has_answered_as false r) t.0) [
        | inl x ↦ inl (there_head (has_answered_as true) s r rs x t.1)
        | inr x ↦ inr (there_head (has_answered_as false) s r rs x t.1)
      ])
  | inr there ↦ (elim (told_as s rs there) [
    | inl x ↦ inl (there_cons (has_answered_as true) s r rs x)
    | inr x ↦ inr (there_cons (has_answered_as false) s r rs x)
  ])
]

answered_told : (s : ℕ) (es : List Request) → is_member eqb (answered_as false es) s ≡ true → is_told es s ≡ true
answered_told s [] h = absurd (true≢false (sym h))
answered_told s (r ∷ rs) h = by (has_answered_as false r) refl h (answered_told s rs)
  where
    by : (b : Bool) → has_answered_as false r ≡ b → is_member eqb (map server_of (cond b (r ∷ filter (has_answered_as false) rs) (filter (has_answered_as false) rs))) s ≡ true → (is_member eqb (answered_as false rs) s ≡ true → is_told rs s ≡ true) → is_told (r ∷ rs) s ≡ true
    by true e k f =
        elim (either (eqb s r.server) (is_member eqb (answered_as false rs) s) k) [
          | inl same ↦ or_left (has_told r && eqb s r.server) (is_told rs s) (let told : has_told r ≡ true = or_right (has_answered_as true r) (has_answered_as false r) e in rw (told, same) refl)
          | inr rest ↦ or_right (has_told r && eqb s r.server) (is_told rs s) (f rest)
        ]
    by false e k f = or_right (has_told r && eqb s r.server) (is_told rs s) (f k)

distinct_answered : (ro : Bool) (es : List Request) → IsDistinct eqb (asked_servers es) → IsDistinct eqb (answered_as ro es)
distinct_answered ro es d = subst (λ (l : List Request). IsDistinct eqb (map server_of l)) (filtered_twice (has_answered_as ro) is_ask (answered_ask ro) es) (distinct_filter server_of (has_answered_as ro) (filter is_ask es) d)

answered_apart : (es : List Request) → IsDistinct eqb (asked_servers es) → (s : ℕ) → is_member eqb (answered_as true es) s ≡ true → is_member eqb (answered_as false es) s ≡ true → ⊥
answered_apart es d s h k =
    let a = from_member_map server_of (filter (has_answered_as true) es) s h in
    let b = from_member_map server_of (filter (has_answered_as false) es) s k in
    let x = from_filter (has_answered_as true) es a.0 a.1 in
    let y = from_filter (has_answered_as false) es b.0 b.1 in
    let same : a.0 ≡ b.0 = same_one (filter is_ask es) d a.0 b.0 (Contains-filter is_ask es a.0 x.0 (answered_ask true a.0 x.1)) (Contains-filter is_ask es b.0 y.0 (answered_ask false b.0 y.1)) (a.2 ∙ sym b.2) in
    one_way a.0 x.1 (subst (λ (r : Request). has_answered_as false r ≡ true) (sym same) y.1)

module _ (g : Goal) (es : List Request) where
  takes : ℕ → Bool
  takes s = not (is_member eqb (failed_servers g es) s)

  -- no server is there twice
  pub servers_distinct : IsDistinct eqb (asked_servers es) → IsDistinct eqb (readonly_servers g es ++ writable_servers g es)
  servers_distinct d =
      let failed : ℕ → Bool = is_member eqb (failed_servers g es) in
      let a = answered_as true es in
      let b = answered_as false es in
      let da = distinct_answered true es d in
      let db = distinct_answered false es d in
      let apart = answered_apart es d in
      distinct_append (a ++ filter failed b) (filter (λ (s : ℕ). not (failed s)) b)
      (distinct_append a (filter failed b) da (distinct_kept failed b db) (λ s h k. apart s h (from_kept failed b s k).0))
      (distinct_kept (λ (s : ℕ). not (failed s)) b db)
      (λ s h k.
      elim (either (is_member eqb a s) (is_member eqb (filter failed b) s) (sym (list_any-append (eqb s) a (filter failed b)) ∙ h)) [
        | inl x ↦ apart s x (from_kept (λ (q : ℕ). not (failed q)) b s k).0
        | inr x ↦ not_both (failed s) (from_kept failed b s x).1 (from_kept (λ (q : ℕ). not (failed q)) b s k).1
      ])

  -- each that answered is there
  pub told_there : (s : ℕ) → is_told es s ≡ true → Contains (readonly_servers g es ++ writable_servers g es) s
  told_there s h =
      let failed : ℕ → Bool = is_member eqb (failed_servers g es) in
      let a = answered_as true es in
      let b = answered_as false es in
      let kept = filter (λ (q : ℕ). not (failed q)) b in
      Contains-from_any (λ x y e. eqb-true x y e) s (readonly_servers g es ++ writable_servers g es)
      (list_any-append (eqb s) (a ++ filter failed b) kept ∙
      (elim (told_as s es h) [
        | inl x ↦ or_left (is_member eqb (a ++ filter failed b) s) (is_member eqb kept s) (list_any-append (eqb s) a (filter failed b) ∙ or_left (is_member eqb a s) (is_member eqb (filter failed b) s) x)
        | inr x ↦ (elim (bool_cases (failed s)) [
          | inl t ↦ or_left (is_member eqb (a ++ filter failed b) s) (is_member eqb kept s) (list_any-append (eqb s) a (filter failed b) ∙ or_right (is_member eqb a s) (is_member eqb (filter failed b) s) (to_kept failed b s x t))
          | inr t ↦ or_right (is_member eqb (a ++ filter failed b) s) (is_member eqb kept s) (to_kept (λ (q : ℕ). not (failed q)) b s x (ap not t))
        ])
      ]))

  -- a writable one has answered
  pub writable_told : (s : ℕ) → is_member eqb (writable_servers g es) s ≡ true → is_told es s ≡ true
  writable_told s h = answered_told s es (from_kept (λ (q : ℕ). not (is_member eqb (failed_servers g es) q)) (answered_as false es) s h).0

-- What a report tells of a share that passes.
use Rattle.std.proofs.Common.{◌≡◌, ◌⊎◌, ℕ, List, [], ◌∷◌, Bool, true, Some, None, inl, inr, ap, subst, sym, ◌∙◌}
use Rattle.std.specs.Prelude.{Contains, ◌==◌, if◌then◌else◌}
use Rattle.std.proofs.lemmas.Bool.{eqb-true}
use Rattle.std.proofs.lemmas.Option.{none-some, same_Some}
use Rattle.lemmas.proofs.Bools.{bool_cases, both}
use Rattle.lemmas.proofs.Members.{contains_cases, contains_none, flat_map_from}
use Rattle.cap_text.specs.Cap.{VerifyCapValue}
use Rattle.wire.specs.declared.message.Body.TheVariants.{Data}
use Rattle.request_record.specs.declared.requests.Asked.{Asked}
use Rattle.request_record.specs.declared.requests.Asked.TheVariants.{Reading}
use Rattle.request_record.specs.declared.requests.Outcome.{Outcome}
use Rattle.request_record.specs.declared.requests.Outcome.TheVariants.{Answered, Outstanding}
use Rattle.request_record.specs.declared.requests.Request.{Request}
use Rattle.share_verify.specs.Verify.{IsSoundShare}
use Rattle.share_verify.specs.declared.check.Check.{Check}
use Rattle.share_reading.specs.Verdict.{IsLost, Settled}
use Rattle.share_reading.specs.declared.verdict.Verdict.TheVariants.{Good, Corrupt, Lost}
use Rattle.checker.specs.Report.{IsVerdictBy}
use Rattle.checker.specs.Shares.{is_about, reads_share, settled_by, settled_in, settled_of}
use Rattle.checker.specs.declared.status.ShareVerdict.{ShareVerdict}
use Rattle.answer_laws.specs.Downloads.Answers.{AnsweredOther, AnswersOwn}
use Rattle.answer_laws.proofs.Downloads.AnswerLemmas.{own_or_other}
use Rattle.answer_laws.specs.Checks.Reads.{BringOwn}
use Rattle.answer_laws.specs.Checks.Reports.{OwnAnswersAreGood}
use Rattle.answer_laws.proofs.Checks.VerdictLemmas.{own_reads_are_good}

-- ---- answers that waited no more

abbrev settled : ℕ → ℕ → List ℕ → Settled
settled offset len bytes = record { offset = offset; len = len; answer = Some bytes }

no_bytes : (offset len : ℕ) (read : Settled) (bytes : List ℕ) → read.answer ≡ Some bytes → Contains (record { offset = offset; len = len; answer = None } ∷ []) read → ⊥
no_bytes offset len read bytes answer c = elim (contains_cases (record { offset = offset; len = len; answer = None }) read [] c) [
  | inl is ↦ none-some bytes (ap (λ (x : Settled). x.answer) is ∙ answer)
  | inr none ↦ contains_none read none
]

-- a read that brought bytes was answered by them
answer_of : (n offset len : ℕ) (o : Outcome) (read : Settled) (bytes : List ℕ) → read.answer ≡ Some bytes → Contains (settled_in (Reading n offset len) o) read
    → (Reading n offset len ≡ Reading n read.offset read.len) × (o ≡ Answered (Data bytes))
answer_of n offset len (Answered (Data b)) read bytes answer c = elim (contains_cases (settled offset len b) read [] c) [
  | inl is ↦ (ap (λ (x : Settled). Reading n x.offset x.len) is, ap (λ (x : List ℕ). Answered (Data x)) (same_Some b bytes (ap (λ (x : Settled). x.answer) is ∙ answer)))
  | inr none ↦ absurd (contains_none read none)
]
answer_of n offset len Outstanding read bytes answer c = absurd (contains_none read c)
answer_of n offset len o read bytes answer c = absurd (no_bytes offset len read bytes answer c)

data_of : (num : ℕ) (a : Asked) (o : Outcome) (read : Settled) (bytes : List ℕ) → reads_share num a ≡ true → read.answer ≡ Some bytes → Contains (settled_in a o) read
    → (a ≡ Reading num read.offset read.len) × (o ≡ Answered (Data bytes))
data_of num (Reading n offset len) o read bytes about answer c =
    let is = answer_of n offset len o read bytes answer c in
    (is.0 ∙ ap (λ (k : ℕ). Reading k read.offset read.len) (eqb-true n num about), is.1)
data_of num a o read bytes about answer c = absurd (contains_none read c)

-- so reads of a share brought its own bytes where its server answered with those alone
bring_own : (entries : List Request) (server num : ℕ) (share : List ℕ) → AnswersOwn entries server num share → BringOwn (settled_of entries server num) share
bring_own entries server num share own read bytes c answer =
    let from = flat_map_from (settled_by server num) entries read c in
    let q : Request = from.source in
    elim (bool_cases (is_about server num q)) [
      | inr other ↦ absurd (contains_none read (subst (λ (b : Bool). Contains (if b then settled_in q.asked q.outcome else []) read) other from.has))
      | inl is ↦
          let tests = both (q.server == server) (reads_share num q.asked) is in
          let data_is = data_of num q.asked q.outcome read bytes tests.1 answer (subst (λ (b : Bool). Contains (if b then settled_in q.asked q.outcome else []) read) is from.has) in
          own from.position read.offset read.len q bytes from.there (eqb-true q.server server tests.0) data_is.0 data_is.1
    ]

-- ---- verdicts

module _ (cap : VerifyCapValue) (entries : List Request) (v : ShareVerdict) (share : List ℕ) (sound : IsSoundShare cap v.share share) (is : IsVerdictBy cap entries v v.verdict) where
  good_or_lost : AnswersOwn entries v.server v.share share → (v.verdict ≡ Good) ⊎ ((v.verdict ≡ Lost) × IsLost (settled_of entries v.server v.share))
  good_or_lost own = own_reads_are_good cap v.share share (settled_of entries v.server v.share) v.verdict sound (bring_own entries v.server v.share share own) is

  told_good : AnswersOwn entries v.server v.share share → (IsLost (settled_of entries v.server v.share) → ⊥) → v.verdict ≡ Good
  told_good own none_lost = elim (good_or_lost own) [
    | inl good ↦ good
    | inr lost ↦ absurd (none_lost lost.1)
  ]

  told_corrupt : (check : Check) → v.verdict ≡ Corrupt check → AnsweredOther entries v.server v.share share
  told_corrupt check corrupt = elim (own_or_other entries v.server v.share share) [
    | inr other ↦ other
    | inl own ↦ elim (good_or_lost own) [
      | inl good ↦ absurd (never_good check (sym corrupt ∙ good))
      | inr lost ↦ absurd (never_lost check (sym corrupt ∙ lost.0))
    ]
  ]
    where
      never_good : (check : Check) → Corrupt check ≡ Good → ⊥
      never_good check e = cc

      never_lost : (check : Check) → Corrupt check ≡ Lost → ⊥
      never_lost check e = cc

pub own_answers_are_good : OwnAnswersAreGood
own_answers_are_good cap entries r v share report among sound =
    let is = report.verdicts.right v among in
    record { good = told_good cap entries v share sound is; corrupt = told_corrupt cap entries v share sound is }

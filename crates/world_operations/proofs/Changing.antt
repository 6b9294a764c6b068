-- The passes over a source that changes, where no upload begins of it.
use Rattle.std.proofs.Common.{◌≡◌, ◌≤◌, ℕ, List, [], ◌∷◌, All, length, refl, inl, inr, ap, sym, subst, ◌∙◌, arith}
use Rattle.std.proofs.lemmas.List.Elements.{All-cons, All-contains, All-nil}
use Rattle.sources.specs.Change.{HasEnded, HasEndedEarly}
use Rattle.sources.specs.Source.{IsPass, Read, Reads}
use Rattle.sources.specs.Texts.{Changing as TwoTexts, GivesChanging, read_once}
use Rattle.sources.proofs.Brought.{changes_are_brought}
use Rattle.file_encoding.specs.Params.{UploadParameters, parameters_of}
use Rattle.file_streaming.specs.Prepared.{PassesDiffer, key_for}
use Rattle.world_operations.specs.declared.job.Job.TheVariants as jobs
use Rattle.world_operations.specs.Jobs.{changing}
use Rattle.world_operations.specs.Moves.{FailsChanging}

-- a read that brings nothing is behind the texts
abbrev IsWithin : ℕ → Read → Type 0
IsWithin size read = read.1 ≡ [] → size ≤ read.0

record AreLong (size : ℕ) (s : TwoTexts) : Type 0 where
  pub file : length s.file ≡ size
  pub other : length s.other ≡ size

read_within : (size : ℕ) (s after : TwoTexts) (read : Read) → AreLong size s → GivesChanging s read.0 read.1 after → IsWithin size read × AreLong size after
read_within size s after read long gives =
    elim gives [
      | inl first ↦ (
        λ none. subst (λ n. n ≤ read.0) long.file (first.1.end none),
        subst (AreLong size) (sym first.3) record { file = long.file; other = long.other },
      )
      | inr later ↦ (λ none. subst (λ n. n ≤ read.0) long.other (later.1.end none), subst (AreLong size) (sym later.2) long)
    ]

reads_within : (size : ℕ) (reads : List Read) (s new : TwoTexts) → AreLong size s → Reads GivesChanging s reads new → All (IsWithin size) reads
reads_within size [] s new long run = All-nil (IsWithin size)
reads_within size (r ∷ rs) s new long run = (let one = read_within size s run.0 r long run.1 in
    All-cons (IsWithin size) r rs one.0 (reads_within size rs run.0 new one.1 run.2))

never_ends : (size : ℕ) (old new : TwoTexts) → AreLong size old → HasEndedEarly GivesChanging old size new → ⊥
never_ends size old new long ended =
    let e : HasEnded ended.reads size = ended.ended in
    let within : IsWithin size e.read = All-contains (IsWithin size) ended.reads e.read (reads_within size ended.reads old new long ended.run) e.among in
    omega (arith, e.early, within e.none)

-- where two passes over it differ, they had two keys
pub changing_fails : (file other : List ℕ) (after : ℕ) (secret : List ℕ) (p : UploadParameters) (new : TwoTexts) → length other ≡ length file
    → PassesDiffer GivesChanging (length file) (changing file other after) (λ text. key_for text secret (parameters_of p)) new
    → FailsChanging (jobs.Changing file other after secret p)
changing_fails file other after secret p new same differ = λ one_key.
    elim differ [
      | inl ended ↦ never_ends (length file) (changing file other after) new record { file = refl; other = same } ended
      | inr two ↦ (
          let first = changes_are_brought (changing file other after) two.reading.mid two.first same two.reading.before in
          let then_read : IsPass GivesChanging (length file) (read_once (changing file other after)) two.second new =
          subst (λ (s : TwoTexts). IsPass GivesChanging (length file) s two.second new) first.1 two.reading.after in
          let second = changes_are_brought (read_once (changing file other after)) new two.second same then_read in
          two.two_keys (ap (λ (t : List ℕ). key_for t secret (parameters_of p)) first.0 ∙ one_key ∙ ap (λ (t : List ℕ). key_for t secret (parameters_of p)) (sym second.0)))
    ]

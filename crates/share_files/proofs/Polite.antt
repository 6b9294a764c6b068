-- What is done to share files is what others may do.
use Rattle.std.proofs.Common.{◌≡◌, ◌≢◌, ℕ, List, ◌++◌, Some, true, sym, ap, ◌∙◌, subst}
use Rattle.std.specs.Prelude.{codes, decimal}
use Rattle.std.proofs.lemmas.List.{append_assoc}
use mathlib.Core.Bool.{true≢false}
use Rattle.cap_text.specs.Base32.{base32}
use Rattle.tagged_hash.specs.TaggedHash.{share_digest}
use Rattle.disks.specs.Names.{Name, Relied, IsRelied}
use Rattle.disks.specs.Folder.{Folder, FileState, HasBytes, StandsFor}
use Rattle.disks.specs.Steps.{Renames}
use Rattle.disks.specs.Polite.{IsLoose}
use Rattle.disks.proofs.Polite.{aside_polite, make_polite, removal_polite, return_polite}
use Rattle.share_store.specs.Shelf.{ShareKey}
use Rattle.share_folders.specs.Names.{IsNamed, closed_name}
use Rattle.share_folders.specs.Relied.{AreWholeAlone}
use Rattle.share_folders.proofs.Lasting.{open_passes}
use Rattle.share_files.specs.Name.{IsAsideNumber, aside_end, aside_name, half_name}
use Rattle.share_files.specs.Polite.{ClosedMayGo, HalfMayGo, HalfMayReturn, LeftMayGo, PlaceMayBeMade, WholeComesBack}
use Rattle.share_files.proofs.AsideNames.{by_number, numbered_end}

-- ---- what goes on behind a closed name is not relied on

behind_loose : (relied : Relied) (s : Folder) (name : Name) (key : ShareKey) (digest end : List ℕ) → AreWholeAlone relied → IsNamed key digest
    → name ≡ closed_name key digest ++ codes "." ++ end → IsLoose relied s name
behind_loose relied s name key digest end alone named is kept relies has =
    true≢false (sym relies.1 ∙ ap (λ (n : Name). relied n kept) is ∙ (alone key digest kept named).1 end)

half_loose : (relied : Relied) (s : Folder) (key : ShareKey) (digest own : List ℕ) → AreWholeAlone relied → IsNamed key digest → IsLoose relied s (half_name key digest own)
half_loose relied s key digest own alone named =
    behind_loose relied s (half_name key digest own) key digest (base32 own ++ codes ".aside") alone named
    (append_assoc (closed_name key digest ++ codes ".") (base32 own) (codes ".aside"))

numbered_loose : (relied : Relied) (s : Folder) (key : ShareKey) (digest : List ℕ) (number : ℕ) → AreWholeAlone relied → IsNamed key digest → number ≢ 1
    → IsLoose relied s (aside_name key digest number)
numbered_loose relied s key digest number alone named other =
    behind_loose relied s (aside_name key digest number) key digest (codes "damaged." ++ decimal number) alone named
    (ap (λ (end : List ℕ). closed_name key digest ++ end) (numbered_end number other) ∙ sym (append_assoc (closed_name key digest) (codes ".") (codes "damaged." ++ decimal number)))

aside_loose : (relied : Relied) (s : Folder) (key : ShareKey) (digest : List ℕ) (number : ℕ) → AreWholeAlone relied → IsNamed key digest → IsAsideNumber number
    → IsLoose relied s (aside_name key digest number)
aside_loose relied s key digest number alone named is =
    by_number (IsLoose relied s (aside_name key digest number)) number is
    (λ first. behind_loose relied s (aside_name key digest number) key digest (codes "damaged") alone named
    (ap (λ (n : ℕ). closed_name key digest ++ aside_end n) first ∙ sym (append_assoc (closed_name key digest) (codes ".") (codes "damaged"))))
    (λ other long. numbered_loose relied s key digest number alone named other)
    (λ other long. numbered_loose relied s key digest number alone named other)

-- and under a closed name only what has the digest
closed_whole : (relied : Relied) (key : ShareKey) (digest kept : List ℕ) → AreWholeAlone relied → IsNamed key digest → IsRelied relied (closed_name key digest) kept → share_digest kept ≡ digest
closed_whole relied key digest kept alone named relies = (alone key digest kept named).0 relies.1

-- ---- the steps

pub closed_goes : ClosedMayGo
closed_goes relied key digest own s t i mine alone named step was apart loose =
    aside_polite relied (closed_name key digest) (half_name key digest own) s t i mine step was apart
    (λ kept relies has. true≢false (sym relies.1 ∙ loose kept (subst (HasBytes s kept) was has) (closed_whole relied key digest kept alone named relies))) (half_loose relied s key digest own alone named)

pub half_goes : HalfMayGo
half_goes relied key digest own number s t i mine alone named is step was apart =
    aside_polite relied (half_name key digest own) (aside_name key digest number) s t i mine step was apart
    (half_loose relied s key digest own alone named) (aside_loose relied s key digest number alone named is)

pub half_returns : HalfMayReturn
half_returns relied key digest own bytes s t i mine alone named step was is apart only =
    return_polite relied (half_name key digest own) (closed_name key digest) s t i bytes mine step was is apart (half_loose relied s key digest own alone named)
    (λ kept relies has. only kept (closed_whole relied key digest kept alone named relies))

pub left_goes : LeftMayGo
left_goes relied key digest own number s t mine alone named is = (
  λ step none. removal_polite relied _ s t mine step none (λ kept relies has. absurd (true≢false (sym relies.0 ∙ open_passes key (Some own)))),
  λ step none. removal_polite relied _ s t mine step none (aside_loose relied s key digest number alone named is),
)

pub place_made : PlaceMayBeMade
place_made relied name s t mine makes none = make_polite relied name makes.0 s t mine makes.1 none

-- ---- a whole share that was taken

-- what stands for bytes stands for them under its other name
stands_on : (from to : Name) (s t : Folder) (bytes : List ℕ) → Renames from to s t → StandsFor s bytes (s.found from) → StandsFor t bytes (t.found to)
stands_on from to s t bytes step stands =
    subst (StandsFor t bytes) (sym step.found) (step.file ∙ ap (λ (f : FileState). record f { is_finished = true }) (subst (StandsFor s bytes) step.was stands))

pub comes_back : WholeComesBack
comes_back relied key digest own bytes s half other t stands goes relies others =
    let there = others.settled (half_name key digest own) bytes relies (stands_on (closed_name key digest) (half_name key digest own) s half bytes goes stands) in
    (there, λ returns. stands_on (half_name key digest own) (closed_name key digest) other t bytes returns there)

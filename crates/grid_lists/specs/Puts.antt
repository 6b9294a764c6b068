-- What a put of one file or of many writes.
use Rattle.std.specs.Prelude.{◌≡◌, ◌⊎◌, ◌==◌, ◌&&◌, ℕ, List, [], ◌∷◌, ◌++◌, Bool, Option, true}
use Rattle.std.specs.Prelude.{Some, false, fold, is_some, length, map, not, ⊤}
use Rattle.std.specs.Io.KnownBytes.{Appends}
use Rattle.std.specs.List.{AllByRecursion, flat_map}
use Rattle.sources.specs.Opened.{Opened}
use Rattle.cap_text.specs.declared.cap.Cap.{Cap}
use Rattle.catalogues.specs.Catalogues.{Entry, HasNoHead, IsCatalogue, IsEntry}
use Rattle.catalogues.specs.Heads.{IsHead, fingerprint_of}
use Rattle.catalogues.specs.Lines.{line_text}
use Rattle.catalogues.specs.declared.head.Head.{Head}
use Rattle.catalogues.specs.declared.head.Numbers.{Numbers}
use Rattle.catalogues.specs.declared.known.Known.{Known}
use Rattle.grid_faults.specs.Fault.{fault_status}
use Rattle.grid_faults.specs.declared.fault.Fault.{Fault}
use Rattle.grid_faults.specs.declared.fault.Fault.TheVariants as faults
use Rattle.grid_lists.specs.Since.{IsKeptSince, IsSince}
use Rattle.grid_lists.specs.Statuses.{status_after, unread_status}
use Rattle.grid_shares.specs.KeptWays.{IsAskedBy}
use Rattle.grid_shares.specs.Puts.{IsPutAlone, IsPutBy, numbers_of, put_status}
use Rattle.grid_shares.specs.declared.Outcome.{Outcome}
use Rattle.grid_shares.specs.declared.putting.PutFile.{PutFile}
use Rattle.grid_servers.specs.Grids.{GridCalls}
use Rattle.grid_telling.specs.declared.outcome.Failure.{Failure}
use Rattle.grid_telling.specs.declared.outcome.Failure.TheVariants as failures
use Rattle.grid_words.specs.declared.words.ListWords.{ListWords}
use Rattle.grid_words.specs.declared.words.ListWords.TheVariants as lists
use Rattle.grid_words.specs.declared.words.PutWords.{PutWords}

-- ---- the files of a put

-- what became of a file: it was stored, its line was kept, or it was refused
pub data Fate : Type 0 where
  stored : PutFile → Fate
  kept : Cap → Fate
  refused : Fault → Fate

-- a file by its name
pub record Listed : Type 0 where
  pub name : List ℕ
  pub fate : Fate

-- it was stored by these words and the secret that is said, at servers that may have been kept
-- open, or its line was kept, and it may stand in a catalogue; of a refusal nothing is known
abbrev pub IsFate : {F S : Type 0} → (Opened F → ℕ → List ℕ → Opened F → Type 0) → GridCalls S
    → PutWords → Option (List ℕ) → Option Known → Head → List ℕ → Fate → Type 0
IsFate gives calls words said since head name (stored file) =
    ((kept : Bool) × IsPutBy gives calls words said kept file)
    × IsEntry (record { cap = file.cap; name = name })
IsFate gives calls words said since head name (kept cap) =
    IsKeptSince since head name cap × IsEntry (record { cap = cap; name = name })
IsFate gives calls words said since head name (refused fault) = ⊤

-- the line of one that has one
abbrev pub fate_text : List ℕ → Fate → List ℕ
fate_text name (stored file) = line_text file.cap name
fate_text name (kept cap) = line_text cap name
fate_text name (refused fault) = []

abbrev pub listed_text : Listed → List ℕ
listed_text l = fate_text l.name l.fate

abbrev pub fate_status : Fate → ℕ
fate_status (stored file) = put_status file
fate_status (kept cap) = 0
fate_status (refused fault) = fault_status fault

abbrev pub listed_status : ℕ → Listed → ℕ
listed_status first l = status_after first (fate_status l.fate)

-- Files with these names were put one after the other: those that were stored or kept have their
-- lines, and the status is the first that is not 0.
pub record AreListed {F S : Type 0} (gives : Opened F → ℕ → List ℕ → Opened F → Type 0)
    (calls : GridCalls S) (words : PutWords) (said : Option (List ℕ)) (since : Option Known)
    (head : Head) (names : List (List ℕ)) (first status : ℕ) (before after : Option (List ℕ))
    : Type 0 where
  pub listed : List Listed
  pub names_are : map (λ l. l.name) listed ≡ names
  pub fates : AllByRecursion (λ l. IsFate gives calls words said since head l.name l.fate) listed
  pub status_is : status ≡ fold listed_status first listed
  pub written : Appends before after (flat_map listed_text listed)

-- ---- their catalogue

-- how the files are encoded that these words store
abbrev pub numbers_by : PutWords → Numbers
numbers_by words = record {
  needed = (numbers_of words).needed;
  total = (numbers_of words).total;
  segment_size = (numbers_of words).max_segment;
}

-- the first line of the catalogue of these words and a secret
pub record IsHeadBy (words : PutWords) (secret : List ℕ) (head : Head) : Type 0 where
  pub is_head : IsHead head
  pub numbers : head.numbers ≡ numbers_by words
  pub fingerprint : head.fingerprint ≡ fingerprint_of head.numbers secret

-- the cap and the name of one that has a line
abbrev pub fate_entries : List ℕ → Fate → List Entry
fate_entries name (stored file) = record { cap = file.cap; name = name } ∷ []
fate_entries name (kept cap) = record { cap = cap; name = name } ∷ []
fate_entries name (refused fault) = []

abbrev pub listed_entries : Listed → List Entry
listed_entries l = fate_entries l.name l.fate

-- Files were put one after the other, all under one secret. What was written is the catalogue of
-- those that were stored, or whose lines were kept, of which the first line tells the numbers and
-- the secret. Which text the catalogue has that words name, and which secret a grid keeps, is what
-- the system says.
pub record ArePut {F S : Type 0} (gives : Opened F → ℕ → List ℕ → Opened F → Type 0)
    (calls : GridCalls S) (words : PutWords) (listed : List Listed)
    (before after : Option (List ℕ)) : Type 0 where
  pub secret : List ℕ
  pub head : Head
  pub is_head : IsHeadBy words secret head
  pub since : Option Known
  pub is_since : IsSince words since
  pub fates : AllByRecursion
      (λ l. IsFate gives calls words (Some secret) since head l.name l.fate) listed
  pub text : List ℕ
  pub catalogue : IsCatalogue text head (flat_map listed_entries listed)
  pub written : Appends before after text

-- These are the files that are named by words, and then those that a list names. Which names a list
-- has is what the system says.
pub record IsPutList {F S : Type 0} (gives : Opened F → ℕ → List ℕ → Opened F → Type 0)
    (calls : GridCalls S) (words : PutWords) (status : ℕ) (before after : Option (List ℕ))
    : Type 0 where
  pub names : List (List ℕ)
  pub listed : List Listed
  pub names_are : map (λ l. l.name) listed ≡ map (λ f. f.now) words.files.items ++ names
  pub put : ArePut gives calls words listed before after
  pub status_is : status ≡ fold listed_status 0 listed

-- They are those before one of these files.
pub record IsPutBefore {F S : Type 0} (gives : Opened F → ℕ → List ℕ → Opened F → Type 0)
    (calls : GridCalls S) (words : PutWords) (before after : Option (List ℕ)) : Type 0 where
  pub names : List (List ℕ)
  pub listed : List Listed
  pub next : List ℕ
  pub left : List (List ℕ)
  pub names_are : map (λ l. l.name) listed ++ next ∷ left
      ≡ map (λ f. f.now) words.files.items ++ names
  pub put : ArePut gives calls words listed before after

-- Files are put so, or nothing is written, where the text that is to be the catalogue of words is
-- none.
pub data IsPutMany {F S : Type 0} (gives : Opened F → ℕ → List ℕ → Opened F → Type 0)
    (calls : GridCalls S) (words : PutWords) (status : ℕ) (before after : Option (List ℕ))
    : Type 0 where
  listed : IsPutList gives calls words status before after
      → IsPutMany gives calls words status before after
  unread : is_some words.since ≡ true → (text : List ℕ) → HasNoHead text
      → status ≡ unread_status → after ≡ before
      → IsPutMany gives calls words status before after

-- ---- one file or many

abbrev pub is_unsaid : ListWords → Bool
is_unsaid lists.Unsaid = true
is_unsaid (lists.Lines path) = false
is_unsaid (lists.Nuls path) = false

-- One file is named, and no list or catalogue: what it came to is written.
pub record IsPutOne {F S : Type 0} (gives : Opened F → ℕ → List ℕ → Opened F → Type 0)
    (calls : GridCalls S) (words : PutWords) (status : ℕ) (before after : Option (List ℕ))
    : Type 0 where
  pub outcome : Outcome
  pub put : IsPutAlone gives calls words outcome
  pub written : Appends before after outcome.text.items
  pub status_is : status ≡ outcome.status

abbrev pub is_one : PutWords → Bool
is_one words = length words.files.items == 1 && is_unsaid words.list && not (is_some words.since)

-- What a put writes by its words.
pub data IsPutDone {F S : Type 0} (gives : Opened F → ℕ → List ℕ → Opened F → Type 0)
    (calls : GridCalls S) (words : PutWords) (status : ℕ) (before after : Option (List ℕ))
    : Type 0 where
  one : is_one words ≡ true → IsPutOne gives calls words status before after
      → IsPutDone gives calls words status before after
  many : is_one words ≡ false → IsPutMany gives calls words status before after
      → IsPutDone gives calls words status before after

-- What a put writes that takes the ways of its grid where its words write no numbers.
pub record IsPutByWays {F S : Type 0} (gives : Opened F → ℕ → List ℕ → Opened F → Type 0)
    (calls : GridCalls S) (words : PutWords) (status : ℕ) (before after : Option (List ℕ))
    : Type 0 where
  pub asked : PutWords
  pub is : IsAskedBy words asked
  pub done : IsPutDone gives calls asked status before after

-- ---- a put that comes to no end

-- It was `out` that failed, of which nothing is known then, or nothing was written; or memory was
-- refused at one of many files, and those before it were put.
abbrev pub IsPutCutOff : {F S : Type 0} → (Opened F → ℕ → List ℕ → Opened F → Type 0) → GridCalls S
    → PutWords → Failure → Option (List ℕ) → Option (List ℕ) → Type 0
IsPutCutOff gives calls words failure before after = (failure ≡ failures.Writer)
    ⊎ (after ≡ before)
    ⊎ ((is_one words ≡ false) × (failure ≡ failures.Fault faults.OutOfMemory)
    × IsPutBefore gives calls words before after)

-- The same of a put that takes the ways of its grid.
pub record IsPutUndone {F S : Type 0} (gives : Opened F → ℕ → List ℕ → Opened F → Type 0)
    (calls : GridCalls S) (words : PutWords) (failure : Failure)
    (before after : Option (List ℕ)) : Type 0 where
  pub asked : PutWords
  pub is : IsAskedBy words asked
  pub cut : IsPutCutOff gives calls asked failure before after

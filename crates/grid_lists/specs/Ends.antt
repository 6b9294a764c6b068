-- How one file of a list ended, for private clauses.
use Rattle.std.specs.Prelude.{◌≡◌, ◌⊎◌, ℕ, List, ◌∷◌, ◌++◌, Option, is_some, map, true}
use Rattle.std.specs.Io.KnownBytes.{Appends}
use Rattle.std.specs.List.{AllByRecursion, flat_map}
use Rattle.sources.specs.Opened.{Opened}
use Rattle.catalogues.specs.Catalogues.{HasNoHead}
use Rattle.catalogues.specs.declared.head.Head.{Head}
use Rattle.catalogues.specs.declared.known.Known.{Known}
use Rattle.grid_faults.specs.declared.fault.Fault.TheVariants as faults
use Rattle.grid_lists.specs.Puts.{Fate, IsFate, IsPutBefore, Listed, fate_status, fate_text}
use Rattle.grid_lists.specs.Puts.{listed_text}
use Rattle.grid_lists.specs.Since.{IsSince}
use Rattle.grid_lists.specs.declared.since.Earlier.{Earlier}
use Rattle.grid_lists.specs.declared.since.Earlier.TheVariants.{Told, Unread}
use Rattle.grid_servers.specs.Grids.{GridCalls}
use Rattle.grid_telling.specs.declared.outcome.Failure.{Failure}
use Rattle.grid_telling.specs.declared.outcome.Failure.TheVariants as failures
use Rattle.grid_words.specs.declared.words.PutWords.{PutWords}

-- a file of this name was stored, kept or refused, with this status; the line of one that has one
-- was written
pub record IsListed {F S : Type 0} (gives : Opened F → ℕ → List ℕ → Opened F → Type 0)
    (calls : GridCalls S) (words : PutWords) (said : Option (List ℕ)) (since : Option Known)
    (head : Head) (name : List ℕ) (status : ℕ) (before after : Option (List ℕ)) : Type 0 where
  pub fate : Fate
  pub is : IsFate gives calls words said since head name fate
  pub status_is : status ≡ fate_status fate
  pub written : Appends before after (fate_text name fate)

-- The files before one of these names were put, each with its line.
pub record AreListedBefore {F S : Type 0} (gives : Opened F → ℕ → List ℕ → Opened F → Type 0)
    (calls : GridCalls S) (words : PutWords) (said : Option (List ℕ)) (since : Option Known)
    (head : Head) (names : List (List ℕ)) (before after : Option (List ℕ)) : Type 0 where
  pub listed : List Listed
  pub next : List ℕ
  pub left : List (List ℕ)
  pub names_are : map (λ l. l.name) listed ++ next ∷ left ≡ names
  pub fates : AllByRecursion (λ l. IsFate gives calls words said since head l.name l.fate) listed
  pub written : Appends before after (flat_map listed_text listed)

-- it was `out` that failed; or memory was refused, and this is known
abbrev pub IsCutShort : Failure → Type 0 → Type 0
IsCutShort failure known = (failure ≡ failures.Writer)
    ⊎ ((failure ≡ failures.Fault faults.OutOfMemory) × known)

-- it was `out` that failed, or nothing was written; or memory was refused at one of many files, and
-- those before it were put
abbrev pub IsManyCutOff : {F S : Type 0} → (Opened F → ℕ → List ℕ → Opened F → Type 0)
    → GridCalls S → PutWords → Failure → Option (List ℕ) → Option (List ℕ) → Type 0
IsManyCutOff gives calls words failure before after = (failure ≡ failures.Writer)
    ⊎ (after ≡ before)
    ⊎ ((failure ≡ failures.Fault faults.OutOfMemory) × IsPutBefore gives calls words before after)

-- this was read of the catalogue that words name, if they name one
abbrev pub IsEarlier : PutWords → Earlier → Type 0
IsEarlier words (Told since) = IsSince words since
IsEarlier words Unread = (is_some words.since ≡ true) × (text : List ℕ) × HasNoHead text

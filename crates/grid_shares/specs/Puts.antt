-- What a put tells.
use Rattle.std.specs.Prelude.{◌≡◌, ℕ, ◌<◌, ◌≤◌, List, [], ◌++◌, Bool, if◌then◌else◌, codes, decimal}
use Rattle.std.specs.Prelude.{IfSome, IsSome, None, Option, Some, false, length, option_map}
use Rattle.std.specs.Prelude.{unwrap_or}
use Rattle.std.specs.Borrow.{Bor}
use Rattle.std.specs.Option.{option_map_or}
use Rattle.std.specs.List.{range_with_len}
use Rattle.cap_text.specs.Cap.{ReadCapValue}
use Rattle.cap_text.specs.CapText.{cap_text}
use Rattle.cap_text.specs.declared.cap.Cap.TheVariants.{Chk, Lit}
use Rattle.tagged_hash.specs.ConvergentKey.{IsSecret}
use Rattle.ueb.specs.Limits.{min_file_size}
use Rattle.file_encoding.specs.Params.{UploadParameters, parameters_of}
use Rattle.sources.specs.Opened.{Opened}
use Rattle.file_streaming.specs.Prepared.{IsPreparedFrom}
use Rattle.file_upload.specs.Prepared.{prepared_of, upload_of}
use Rattle.file_upload.specs.Ready.{ready_stream}
use Rattle.file_upload.specs.Streamed.{GaveBytes, GaveNone, Streaming}
use Rattle.request_record.specs.Operations.{OperationCalls}
use Rattle.upload_core.specs.Calls.{upload_calls}
use Rattle.upload_core.specs.Pieces.{piece_of}
use Rattle.upload_core.specs.Ready.{Ready}
use Rattle.upload_core.specs.Sending.{Uploading}
use Rattle.grid_servers.specs.Grids.{GridCalls}
use Rattle.grid_words.specs.declared.words.NumberWords.{NumberWords}
use Rattle.grid_words.specs.declared.words.PutWords.{PutWords}
use Rattle.grid_words.specs.declared.words.SecretWords.{SecretWords}
use Rattle.grid_words.specs.declared.words.SecretWords.TheVariants as secrets
use Rattle.grid_shares.specs.Placing.{ArePlaced}
use Rattle.grid_shares.specs.declared.Outcome.{Outcome}
use Rattle.grid_shares.specs.declared.numbers.Choices.{Choices}
use Rattle.grid_shares.specs.declared.putting.PutFile.{PutFile}
use Rattle.grid_shares.specs.declared.placing.Stored.{Stored}

-- the exit status, by whether all was set aside that is none of the file's shares
abbrev pub stored_status : Bool → ℕ
stored_status is_cleared = if is_cleared then 0 else 5

abbrev pub put_status : PutFile → ℕ
put_status file = option_map_or (λ (s : Stored). stored_status s.is_cleared) file.stored 0

-- the line that says how many servers hold a share of their own, unless none does or is to
abbrev pub happiness_text : Option Stored → Bool → List ℕ
happiness_text None quiet = []
happiness_text (Some stored) quiet = if quiet then []
    else codes "happiness " ++ (decimal stored.happiness ++ codes "\n")

-- the line of its cap, and that of its happiness
abbrev pub put_text : PutFile → Bool → List ℕ
put_text file quiet = cap_text file.cap ++ (codes "\n" ++ happiness_text file.stored quiet)

-- a file that its cap holds
pub record IsLiteralOf (file : List ℕ) (put : PutFile) : Type 0 where
  pub cap : put.cap ≡ Lit file
  pub none : put.stored ≡ None

-- a file of this cap, whose shares came to this
pub record IsToldOf (cap : ReadCapValue) (stored : Stored) (put : PutFile) : Type 0 where
  pub cap_is : put.cap ≡ Chk cap
  pub stored_is : put.stored ≡ Some stored

-- Shares that were made are placed on the first servers of a grid, so many, which may have been
-- kept open for it; and this is told.
pub record IsPutOf {P N : Type 0} (operation : OperationCalls (Uploading P)) (calls : GridCalls N)
    (grid : List ℕ) (kept mend : Bool) (made : Ready P) (cap : ReadCapValue) (put : PutFile)
    : Type 0 where
  pub count : ℕ
  pub stored : Stored
  pub placed : ArePlaced operation calls grid kept mend [] (range_with_len 0 count) made stored
  pub told : IsToldOf cap stored put

-- the calls of an upload of whole shares
abbrev pub whole_calls : OperationCalls (Uploading (List (List ℕ)))
whole_calls = upload_calls
    (λ shares share offset bytes after.
    (bytes ≡ piece_of shares share offset (length bytes)) × (after ≡ shares))
    (λ shares share offset len fault after. ⊥)

-- those of an upload whose shares are made again from a source
abbrev pub streamed_calls : {S : Type 0} → (S → ℕ → List ℕ → S → Type 0) → (S → ℕ)
    → OperationCalls (Uploading (Streaming S))
streamed_calls gives failures = upload_calls
    (λ s share offset bytes after. GaveBytes gives s share offset bytes after)
    (λ s share offset len fault after. GaveNone gives failures s fault after)

-- the numbers that are written, and the usual ones in place of those that are not
abbrev pub meant_numbers : NumberWords → UploadParameters
meant_numbers words = record {
  needed = unwrap_or words.needed 3;
  happy = unwrap_or words.happy 7;
  total = unwrap_or words.total 10;
  max_segment = unwrap_or words.max_segment 131072;
}

-- the numbers of these words
abbrev pub numbers_of : PutWords → UploadParameters
numbers_of words = meant_numbers words.numbers

-- the secret that is said, where one is
abbrev pub said_by : Choices → Option (List ℕ)
said_by choices = option_map (λ s. s.items) choices.said

-- The secret that words say, or a file that is named where they say none. Which one a file has is
-- what the system says.
abbrev pub IsSaidBy : SecretWords → Option (Bor (List ℕ)) → Option (List ℕ) → Type 0
IsSaidBy secrets.Unsaid None said = said ≡ None
IsSaidBy secrets.Unsaid (Some path) said = IsSome said
IsSaidBy (secrets.Text text) file said = said ≡ Some text.now
IsSaidBy (secrets.File path) file said = IsSome said

-- The numbers of a put are those of its words, and the secret that is said is one.
pub record AreChoicesBy (words : PutWords) (choices : Choices) : Type 0 where
  pub numbers : choices.params ≡ numbers_of words
  pub secret : IfSome choices.said (λ s. IsSecret s.items)

-- A file is encoded under this secret, where one is said, and else under some other.
abbrev pub IsUnder : Option (List ℕ) → List ℕ → Type 0
IsUnder said secret = IfSome said (λ s. secret ≡ s)

-- What a put tells by its words, by the secret that is said, and by whether servers were kept open:
-- the cap that holds a small file; or what became of the shares of another, by the numbers of the
-- words and the secret. That was held, or read twice.
pub data IsPutBy {F N : Type 0} (gives : Opened F → ℕ → List ℕ → Opened F → Type 0)
    (calls : GridCalls N) (words : PutWords) (said : Option (List ℕ)) (kept : Bool)
    (put : PutFile) : Type 0 where
  small : (file : List ℕ) → length file < min_file_size → IsLiteralOf file put
      → IsPutBy gives calls words said kept put
  held : (file secret : List ℕ) → IsUnder said secret → min_file_size ≤ length file
      → IsPutOf whole_calls calls words.grid.now kept words.mend
      (upload_of (prepared_of file secret (numbers_of words)))
      (prepared_of file secret (numbers_of words)).cap put
      → IsPutBy gives calls words said kept put
  opened : (source : Opened F) → (secret : List ℕ) → (stream : Streaming (Opened F))
      → IsUnder said secret → min_file_size ≤ source.size
      → IsPreparedFrom gives source.size source secret (parameters_of (numbers_of words))
      stream.kept stream.source
      → IsPutOf (streamed_calls gives (λ s. s.failures)) calls words.grid.now kept words.mend
      (ready_stream stream (numbers_of words).happy) stream.kept.cap put
      → IsPutBy gives calls words said kept put

-- It is told as these words ask, where it is the only file, and no server was kept open for it.
-- Which secret they say, or the grid keeps, is not known here.
pub record IsPutAlone {F N : Type 0} (gives : Opened F → ℕ → List ℕ → Opened F → Type 0)
    (calls : GridCalls N) (words : PutWords) (outcome : Outcome) : Type 0 where
  pub file : PutFile
  pub said : Option (List ℕ)
  pub put : IsPutBy gives calls words said false file
  pub told : outcome.text.items ≡ put_text file words.quiet
  pub status_is : outcome.status ≡ put_status file

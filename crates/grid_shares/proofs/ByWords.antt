-- What a put tells by its words.
use Rattle.std.proofs.Common.{◌≡◌, ◌∙◌, Bool, ℕ, ◌<◌, ◌≤◌, List, Result, Option, IfOk, IfSome, Some, None, length, inl, inr, subst}
use Rattle.std.specs.Option.{option_map}
use Rattle.std.specs.Borrow.{Bor}
use Rattle.std.proofs.lemmas.Bool.{cases_lt}
use Rattle.std.proofs.lemmas.Result.{IfOk-weaker}
use Rattle.ueb.specs.Limits.{min_file_size}
use Rattle.file_encoding.specs.Params.{UploadParameters, parameters_of}
use Rattle.file_streaming.specs.Prepared.{IsPreparedFrom}
use Rattle.file_upload.specs.Prepared.{prepared_of, upload_of}
use Rattle.sources.specs.Opened.{Opened}
use Rattle.file_upload.specs.Ready.{ready_stream}
use Rattle.file_upload.specs.Streamed.{Streaming}
use Rattle.grid_faults.specs.declared.fault.Fault.{Fault}
use Rattle.grid_servers.specs.Grids.{GridCalls}
use Rattle.grid_words.specs.declared.words.PutWords.{PutWords}
use Rattle.grid_shares.specs.Puts.{IsLiteralOf, IsPutBy, IsPutOf, IsUnder, held, numbers_of, opened, small, streamed_calls, whole_calls}
use Rattle.grid_shares.specs.declared.putting.PutFile.{PutFile}

-- the secret that is said
pub under : (secret : List ℕ) (said : Option (Bor (List ℕ))) → IfSome said (λ s. secret ≡ s.now) → IsUnder (option_map (λ (s : Bor (List ℕ)). s.now) said) secret
under secret None is = tt
under secret (Some s) is = is

-- the same secret, as it was given
pub said_as : (secret given : List ℕ) (said : Option (Bor (List ℕ))) → given ≡ secret → IfSome said (λ s. secret ≡ s.now) → IfSome said (λ s. given ≡ s.now)
said_as secret given None same is = tt
said_as secret given (Some s) same is = same ∙ is

module _ {F S : Type 0} (gives : Opened F → ℕ → List ℕ → Opened F → Type 0) (calls : GridCalls S) (words : PutWords) (kept : Bool) where
  -- of a file that was held
  pub held_told : (file : List ℕ) (r : Result PutFile Fault) (said : Option (Bor (List ℕ))) (given : Option (List ℕ)) (p : UploadParameters) → option_map (λ (s : Bor (List ℕ)). s.now) said ≡ given → p ≡ numbers_of words
      → (length file < min_file_size → IfOk r (IsLiteralOf file))
      → (min_file_size ≤ length file → IfOk r (λ outcome. (secret : List ℕ) × IfSome said (λ s. secret ≡ s.now)
      × IsPutOf whole_calls calls words.grid.now kept words.mend (upload_of (prepared_of file secret p)) (prepared_of file secret p).cap outcome))
      → IfOk r (IsPutBy gives calls words given kept)
  held_told file r said given p is_given same literal stored = elim (cases_lt (length file) min_file_size) [
    | inl few ↦ IfOk-weaker r _ _ (λ outcome is. small file few is) (literal few)
    | inr many ↦ IfOk-weaker r _ _
        (λ outcome told. held file told.0 (subst (λ (o : Option (List ℕ)). IsUnder o told.0) is_given (under told.0 said told.1)) many
        (subst (λ (x : UploadParameters). IsPutOf whole_calls calls words.grid.now kept words.mend (upload_of (prepared_of file told.0 x)) (prepared_of file told.0 x).cap outcome) same told.2))
        (stored many)
  ]

module _ {F S : Type 0} (gives : Opened F → ℕ → List ℕ → Opened F → Type 0) (calls : GridCalls S) (words : PutWords) (kept : Bool) where
  -- of one that was read twice
  pub opened_told : (source : Opened F) (secret : List ℕ) (said : Option (List ℕ)) (p : UploadParameters) → IsUnder said secret → p ≡ numbers_of words → min_file_size ≤ source.size → (outcome : PutFile) (stream : Streaming (Opened F))
      → IsPreparedFrom gives source.size source secret (parameters_of p) stream.kept stream.source
      → IsPutOf (streamed_calls gives (λ s. s.failures)) calls words.grid.now kept words.mend (ready_stream stream p.happy) stream.kept.cap outcome → IsPutBy gives calls words said kept outcome
  opened_told source secret said p key same many outcome stream prepared put = opened source secret stream key many
      (subst (λ (x : UploadParameters). IsPreparedFrom gives source.size source secret (parameters_of x) stream.kept stream.source) same prepared)
      (subst (λ (x : UploadParameters). IsPutOf (streamed_calls gives (λ s. s.failures)) calls words.grid.now kept words.mend (ready_stream stream x.happy) stream.kept.cap outcome) same put)

  -- under the same secret
  pub said_so : (r : Result PutFile Fault) (a b : Option (List ℕ)) → a ≡ b → IfOk r (IsPutBy gives calls words a kept) → IfOk r (IsPutBy gives calls words b kept)
  said_so r a b same put = subst (λ (o : Option (List ℕ)). IfOk r (IsPutBy gives calls words o kept)) same put

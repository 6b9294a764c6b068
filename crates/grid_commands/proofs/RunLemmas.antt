-- How each command ends.
use Rattle.std.proofs.Common.{true≢false, ◌≡◌, ℕ, List, Option, None, Some, Result, Ok, Err, IfOk, IfErr, IfSome, Vec, Global, refl, ap, inl, sym, subst, ◌∙◌}
use Rattle.std.proofs.lemmas.Result.{IfOk-weaker}
use Rattle.std.specs.Prelude.{◌⊎◌, IsErr, IsOkAnd, ⊤}
use Rattle.std.specs.Borrow.{Bor}
use Rattle.std.specs.Io.KnownBytes.{Appends}
use Rattle.std.proofs.KnownBytes.{Keeps-refl}
use Rattle.std.specs.String.{string_bytes}
use Rattle.sources.specs.Opened.{Opened}
use Rattle.world_script.specs.Script.{lines_of}
use Rattle.world_script.specs.declared.ending.Ending.{Ending}
use Rattle.grid_faults.specs.declared.fault.Fault.{Fault}
use Rattle.grid_gets.specs.Files.{FileAct, IsFileBy, MayBeFileBy}
use Rattle.grid_gets.specs.Gets.{IsBegunBy, IsGotBy, UnlessWriter, refused}
use Rattle.grid_rules.specs.Ending.{world_status}
use Rattle.grid_lists.specs.Gets.{IsGetFiles}
use Rattle.grid_surveys.specs.Looks.{IsLookDone, IsLookUndone, checking, repairing}
use Rattle.grid_surveys.specs.Verifies.{IsVerifyDone}
use Rattle.grid_lists.specs.Puts.{IsPutByWays, IsPutUndone}
use Rattle.grid_shares.specs.declared.Outcome.{Outcome}
use Rattle.grid_stores.specs.Scrubs.{IsScrub}
use Rattle.grid_stores.specs.Status.{IsStatusBy}
use Rattle.grid_servers.specs.Grids.{GridCalls}
use Rattle.grid_faults.specs.declared.fault.Fault.TheVariants as faults
use Rattle.grid_telling.specs.declared.outcome.Failure.{Failure}
use Rattle.grid_telling.specs.declared.outcome.Failure.TheVariants as failures
use Rattle.grid_words.specs.declared.catalogue_words.CheckFilesWords.{CheckFilesWords}
use Rattle.grid_words.specs.declared.catalogue_words.GetFilesWords.{GetFilesWords}
use Rattle.grid_words.specs.declared.catalogue_words.RepairFilesWords.{RepairFilesWords}
use Rattle.grid_words.specs.declared.verify_words.VerifyFilesWords.{VerifyFilesWords}
use Rattle.grid_words.specs.declared.verify_words.VerifyWords.{VerifyWords}
use Rattle.grid_words.specs.declared.words.CheckWords.{CheckWords}
use Rattle.grid_words.specs.declared.words.GetWords.{GetWords}
use Rattle.grid_words.specs.declared.words.InitWords.{InitWords}
use Rattle.grid_words.specs.declared.words.PutWords.{PutWords}
use Rattle.grid_words.specs.declared.words.RepairWords.{RepairWords}
use Rattle.grid_words.specs.declared.words.ScrubWords.{ScrubWords}
use Rattle.grid_words.specs.declared.words.StatusWords.{StatusWords}
use Rattle.grid_words.specs.declared.words.Request.{Request}
use Rattle.grid_words.specs.declared.words.Request.TheVariants.{Init, Put, Get, GetFiles, Check, CheckFiles, Verify, VerifyFiles, Repair, RepairFiles, Scrub, Status, World, Describe}
use Rattle.grid_commands.specs.CapFiles.{IsCheckAsked, IsGetAsked, IsRepairAsked, IsVerifyAsked}
use Rattle.grid_commands.specs.Commands.{AreCapLines, AreFiled, AreGetFiled, ArePrinted, AreVerifiedFor, IsCheckFor, IsDone, IsGetBegun, IsGetFiled, IsGetFiledOf, IsGetLeft, IsGetOf, IsGotTo, IsRepairFor, IsRunBy, IsUndone, IsUnwritten, IsVerifyFor, IsWorld, IsWrittenOf}
use Rattle.grid_commands.specs.Inits.{IsInitBy}
use Rattle.grid_commands.specs.Texts.{IsEndOf}

-- words with another cap, which is their own where they name no file
pub get_asked : (words asked : GetWords) (cap : Bor (List ℕ)) (text : List ℕ) → asked ≡ record words { cap = cap } → cap.now ≡ text → (words.cap_file ≡ None → text ≡ words.cap.now) → IsGetAsked words asked
get_asked words asked cap text is same own = record {
  others = is ∙ ap (λ (c : Bor (List ℕ)). record words { cap = c }) (sym (ap (λ (w : GetWords). w.cap) is));
  own = λ none. ap (λ (w : GetWords). w.cap.now) is ∙ same ∙ own none;
}

pub check_asked : (words asked : CheckWords) (cap : Bor (List ℕ)) (text : List ℕ) → asked ≡ record words { cap = cap } → cap.now ≡ text → (words.cap_file ≡ None → text ≡ words.cap.now) → IsCheckAsked words asked
check_asked words asked cap text is same own = record {
  others = is ∙ ap (λ (c : Bor (List ℕ)). record words { cap = c }) (sym (ap (λ (w : CheckWords). w.cap) is));
  own = λ none. ap (λ (w : CheckWords). w.cap.now) is ∙ same ∙ own none;
}

pub repair_asked : (words asked : RepairWords) (cap : Bor (List ℕ)) (text : List ℕ) → asked ≡ record words { cap = cap } → cap.now ≡ text → (words.cap_file ≡ None → text ≡ words.cap.now) → IsRepairAsked words asked
repair_asked words asked cap text is same own = record {
  others = is ∙ ap (λ (c : Bor (List ℕ)). record words { cap = c }) (sym (ap (λ (w : RepairWords). w.cap) is));
  own = λ none. ap (λ (w : RepairWords). w.cap.now) is ∙ same ∙ own none;
}

pub verify_asked : (words asked : VerifyWords) (cap : Bor (List ℕ)) (text : List ℕ) → asked ≡ record words { cap = cap } → cap.now ≡ text → (words.cap_file ≡ None → text ≡ words.cap.now) → IsVerifyAsked words asked
verify_asked words asked cap text is same own = record {
  others = is ∙ ap (λ (c : Bor (List ℕ)). record words { cap = c }) (sym (ap (λ (w : VerifyWords). w.cap) is));
  own = λ none. ap (λ (w : VerifyWords). w.cap.now) is ∙ same ∙ own none;
}

-- what a get with that cap left, and did with its file
pub get_left : {S : Type 0} (calls : GridCalls S) (words asked : GetWords) (r : Result ℕ Failure) (before after : Option (List ℕ)) → IsGetAsked words asked → IfErr r (λ failure. IsGetBegun calls asked asked.output failure before after)
    → IfErr r (λ failure. IsGetLeft calls words failure before after)
get_left calls words asked (Ok status) before after is left = tt
get_left calls words asked (Err failure) before after is left = (asked, is, subst (λ (o : Option (Bor (List ℕ))). IsGetBegun calls asked o failure before after) (ap (λ (w : GetWords). w.output) is.others) left)

pub get_filed : {S : Type 0} (calls : GridCalls S) (words asked : GetWords) (r : Result ℕ Failure) (old new : Option (List FileAct)) → IsGetAsked words asked → IsGetFiled calls asked asked.output r old new → IsGetFiledOf calls words r old new
get_filed calls words asked r old new is filed = (asked, is, subst (λ (o : Option (Bor (List ℕ))). IsGetFiled calls asked o r old new) (ap (λ (w : GetWords). w.output) is.others) filed)

-- where the file of a cap cannot be read, nothing is done
pub unread_left : {S : Type 0} (calls : GridCalls S) (words : GetWords) (r : Result ℕ Failure) (before : Option (List ℕ)) → IfErr r (λ failure. IsGetLeft calls words failure before before)
unread_left calls words (Ok status) before = tt
unread_left calls words (Err failure) before = (words, record { others = refl; own = λ none. refl }, left words.output failure) where
  left : (file : Option (Bor (List ℕ))) (failure : Failure) → IsGetBegun calls words file failure before before
  left None (failures.Fault fault) = refused (Keeps-refl before)
  left None failures.Writer = tt
  left (Some path) failure = refl

pub unread_filed : {S : Type 0} (calls : GridCalls S) (words : GetWords) (r : Result ℕ Failure) (old : Option (List FileAct)) → IsErr r → IsGetFiledOf calls words r old old
unread_filed calls words (Ok status) old failed = absurd (true≢false (sym failed))
unread_filed calls words (Err failure) old failed = (words, record { others = refl; own = λ none. refl }, filed words.output) where
  filed : (file : Option (Bor (List ℕ))) → IsGetFiled calls words file (Err failure) old old
  filed None = refl
  filed (Some path) = inl refl

-- what was written of an outcome that is so
pub outcome_written : (IsOf : Outcome → Type 0) (came : Result Outcome Fault) (r : Result ℕ Failure) (before after : Option (List ℕ)) → IfOk came IsOf
    → IfOk r (λ status. IsOkAnd came (λ told. (status ≡ told.status) × Appends before after told.text.items)) → IfOk r (λ status. IsWrittenOf IsOf status before after)
outcome_written IsOf came (Err failure) before after of told = tt
outcome_written IsOf (Err fault) (Ok status) before after of told = absurd told
outcome_written IsOf (Ok outcome) (Ok status) before after of told = record { outcome = outcome; of = of; written = told.1; status_is = told.0 }

-- what was written of lines that are so
pub lines_written : (IsOf : List ℕ → Type 0) (came : Result (Vec ℕ Global) Fault) (r : Result ℕ Failure) (before after : Option (List ℕ)) → IfOk came (λ lines. IsOf lines.items)
    → IfOk r (λ status. IsOkAnd came (λ told. (status ≡ 0) × Appends before after told.items)) → IfOk r (λ status. ArePrinted IsOf status before after)
lines_written IsOf came (Err failure) before after of told = tt
lines_written IsOf (Err fault) (Ok status) before after of told = absurd told
lines_written IsOf (Ok lines) (Ok status) before after of told = record { lines = lines.items; of = of; written = told.1; status_is = told.0 }

-- of how a script ended
pub world_written : (text : List ℕ) (ending : Ending) (r : Result ℕ Failure) (before after : Option (List ℕ)) (bytes : List ℕ) (status : ℕ) → IsEndOf (lines_of text) ending → bytes ≡ string_bytes ending.lines
    → status ≡ world_status ending.agrees → IfOk r (λ exit. (exit ≡ status) × Appends before after bytes) → IfOk r (λ exit. IsWorld exit before after)
world_written text ending (Ok exit) before after bytes status of told is written = record {
  text = text;
  ending = ending;
  of = of;
  written = subst (Appends before after) told written.1;
  status_is = written.0 ∙ is;
}
world_written text ending (Err failure) before after bytes status of told is written = tt

no_failure : (r : Result ℕ Failure) → IfErr r (λ _. ⊤)
no_failure (Ok status) = tt
no_failure (Err failure) = tt

-- where the range that was got was written, by the words
pub got_to : {S : Type 0} (calls : GridCalls S) (words : GetWords) (file : Option (Bor (List ℕ))) (before after : Option (List ℕ)) → (file ≡ None → IsGotBy calls words before after)
    → IfSome file (λ _. after ≡ before) → IsGotTo calls words file before after
got_to calls words None before after out kept = out refl
got_to calls words (Some path) before after out kept = kept

pub begun_to : {S : Type 0} (calls : GridCalls S) (words : GetWords) (file : Option (Bor (List ℕ))) (failure : Failure) (before after : Option (List ℕ))
    → (file ≡ None → UnlessWriter failure (IsBegunBy calls words before after)) → IfSome file (λ _. after ≡ before) → IsGetBegun calls words file failure before after
begun_to calls words None failure before after out kept = out refl
begun_to calls words (Some path) failure before after out kept = kept

-- what was done with the file of a name, if there is one
pub filed_ok : {S : Type 0} (calls : GridCalls S) (words : GetWords) (file : Option (Bor (List ℕ))) (status : ℕ) (old new : Option (List FileAct)) → (file ≡ None → new ≡ old)
    → IfSome file (λ path. IsFileBy calls words path.now (Ok tt) old new) → IsGetFiled calls words file (Ok status) old new
filed_ok calls words None status old new same whole = same refl
filed_ok calls words (Some path) status old new same whole = whole

pub filed_err : {S : Type 0} (calls : GridCalls S) (words : GetWords) (file : Option (Bor (List ℕ))) (failure : Failure) (old new : Option (List FileAct)) → (file ≡ None → new ≡ old)
    → IfSome file (λ path. MayBeFileBy calls words path.now old new) → IsGetFiled calls words file (Err failure) old new
filed_err calls words None failure old new same part = same refl
filed_err calls words (Some path) failure old new same part = part

-- the same contents of the same writer
pub same_contents : {X W : Type 0} (contents : W → Option (List ℕ)) (file : Option X) (old new : W) → IfSome file (λ _. new ≡ old) → IfSome file (λ _. contents new ≡ contents old)
same_contents contents None old new kept = tt
same_contents contents (Some path) old new kept = ap contents kept

module _ {F S : Type 0} (gives : Opened F → ℕ → List ℕ → Opened F → Type 0) (calls : GridCalls S) (request : Request) (r : Result ℕ Failure) (before after : Option (List ℕ)) (old new : Option (List FileAct)) where
  by_request : (other : Request) → request ≡ other → IfOk r (λ status. IsDone gives calls other status before after) → IfErr r (λ failure. IsUndone gives calls other failure before after)
      → AreFiled calls other r old new → IsRunBy gives calls request r before after old new
  by_request other is done undone filed = subst (λ (q : Request). IsRunBy gives calls q r before after old new) (sym is) (record { done = done; undone = undone; filed = filed })

  pub get_run : (words : GetWords) → request ≡ Get words → IfOk r (λ status. IsGetOf calls words status before after) → IfErr r (λ failure. IsGetLeft calls words failure before after)
      → IsGetFiledOf calls words r old new → IsRunBy gives calls request r before after old new
  get_run words is done undone filed = by_request (Get words) is done undone filed

  pub get_files_run : (words : GetFilesWords) → request ≡ GetFiles words → after ≡ before → IfOk r (λ status. IsGetFiles calls words status old new)
      → IfErr r (λ failure. (failure ≡ failures.Fault faults.OutOfMemory) ⊎ (new ≡ old)) → IsRunBy gives calls request r before after old new
  get_files_run words is none done undone = by_request (GetFiles words) is (always_ok r) (always_err r) (filed r done undone) where
    always_ok : (r : Result ℕ Failure) → IfOk r (λ status. after ≡ before)
    always_ok (Ok status) = none
    always_ok (Err failure) = tt

    always_err : (r : Result ℕ Failure) → IfErr r (λ failure. after ≡ before)
    always_err (Ok status) = tt
    always_err (Err failure) = none

    filed : (r : Result ℕ Failure) → IfOk r (λ status. IsGetFiles calls words status old new) → IfErr r (λ failure. (failure ≡ failures.Fault faults.OutOfMemory) ⊎ (new ≡ old)) → AreGetFiled calls words r old new
    filed (Ok status) done undone = done
    filed (Err failure) done undone = undone

  -- a command that does nothing with files of a name
  module _ (same : new ≡ old) where
    pub init_run : (words : InitWords) (came : Result (Vec ℕ Global) Fault) → request ≡ Init words → IfOk came (λ lines. IsInitBy words lines.items)
        → IfOk r (λ status. IsOkAnd came (λ told. (status ≡ 0) × Appends before after told.items)) → IfErr r (λ failure. IsUnwritten failure before after) → IsRunBy gives calls request r before after old new
    init_run words came is of done undone = by_request (Init words) is (lines_written (IsInitBy words) came r before after of done) undone same

    pub put_run : (words : PutWords) → request ≡ Put words → IfOk r (λ status. IsPutByWays gives calls words status before after)
        → IfErr r (λ failure. IsPutUndone gives calls words failure before after) → IsRunBy gives calls request r before after old new
    put_run words is done undone = by_request (Put words) is done undone same

    pub check_run : (words : CheckWords) (came : Result Outcome Fault) → request ≡ Check words → IfOk came (IsCheckFor calls words)
        → IfOk r (λ status. IsOkAnd came (λ told. (status ≡ told.status) × Appends before after told.text.items)) → IfErr r (λ failure. IsUnwritten failure before after)
        → IsRunBy gives calls request r before after old new
    check_run words came is of done undone = by_request (Check words) is (outcome_written (IsCheckFor calls words) came r before after of done) undone same

    pub check_files_run : (words : CheckFilesWords) → request ≡ CheckFiles words → IfOk r (λ status. IsLookDone calls (checking words) status before after)
        → IfErr r (λ failure. IsLookUndone failure before after) → IsRunBy gives calls request r before after old new
    check_files_run words is done undone = by_request (CheckFiles words) is done undone same

    pub verify_run : (words : VerifyWords) (came : Result Outcome Fault) → request ≡ Verify words → IfOk came (IsVerifyFor gives words)
        → IfOk r (λ status. IsOkAnd came (λ told. (status ≡ told.status) × Appends before after told.text.items)) → IfErr r (λ failure. IsUnwritten failure before after)
        → IsRunBy gives calls request r before after old new
    verify_run words came is of done undone = by_request (Verify words) is (outcome_written (IsVerifyFor gives words) came r before after of done) undone same

    pub verify_files_run : (words : VerifyFilesWords) (file : Option (Bor (List ℕ))) → request ≡ VerifyFiles words → IfOk r (λ status. IsVerifyDone gives file words status before after)
        → IfErr r (λ failure. IsLookUndone failure before after) → IsRunBy gives calls request r before after old new
    verify_files_run words file is done undone =
        by_request (VerifyFiles words) is (IfOk-weaker r _ (λ status. AreVerifiedFor gives words status before after) (λ status was. (file, was)) done) undone same

    pub repair_files_run : (words : RepairFilesWords) → request ≡ RepairFiles words → IfOk r (λ status. IsLookDone calls (repairing words) status before after)
        → IfErr r (λ failure. IsLookUndone failure before after) → IsRunBy gives calls request r before after old new
    repair_files_run words is done undone = by_request (RepairFiles words) is done undone same

    pub repair_run : (words : RepairWords) (came : Result Outcome Fault) → request ≡ Repair words → IfOk came (IsRepairFor calls words)
        → IfOk r (λ status. IsOkAnd came (λ told. (status ≡ told.status) × Appends before after told.text.items)) → IfErr r (λ failure. IsUnwritten failure before after)
        → IsRunBy gives calls request r before after old new
    repair_run words came is of done undone = by_request (Repair words) is (outcome_written (IsRepairFor calls words) came r before after of done) undone same

    pub scrub_run : (words : ScrubWords) → request ≡ Scrub words → IfOk r (λ status. IsScrub words status before after) → IsRunBy gives calls request r before after old new
    scrub_run words is done = by_request (Scrub words) is done (no_failure r) same

    pub status_run : (words : StatusWords) (came : Result Outcome Fault) → request ≡ Status words → IfOk came (IsStatusBy words)
        → IfOk r (λ status. IsOkAnd came (λ told. (status ≡ told.status) × Appends before after told.text.items)) → IfErr r (λ failure. IsUnwritten failure before after)
        → IsRunBy gives calls request r before after old new
    status_run words came is of done undone = by_request (Status words) is (outcome_written (IsStatusBy words) came r before after of done) undone same

    pub world_run : (path : Bor (List ℕ)) → request ≡ World path → IfOk r (λ status. IsWorld status before after) → IfErr r (λ failure. IsUnwritten failure before after) → IsRunBy gives calls request r before after old new
    world_run path is done undone = by_request (World path) is done undone same

    pub describe_run : (text : Bor (List ℕ)) (came : Result (Vec ℕ Global) Fault) → request ≡ Describe text → IfOk came (λ lines. AreCapLines text.now lines.items)
        → IfOk r (λ status. IsOkAnd came (λ told. (status ≡ 0) × Appends before after told.items)) → IfErr r (λ failure. IsUnwritten failure before after) → IsRunBy gives calls request r before after old new
    describe_run text came is of done undone = by_request (Describe text) is (lines_written (AreCapLines text.now) came r before after of done) undone same

-- How a machine begins: it is for its job, and its record is new.
use Rattle.std.proofs.Common.{◌≡◌, ◌≤◌, ℕ, ◌-◌, List, length, refl, sym, subst, ap, ◌∙◌}
use Rattle.cap_text.specs.Cap.{VerifyCapValue}
use Rattle.ueb.specs.Limits.{min_file_size}
use Rattle.sources.specs.Source.{IsPass}
use Rattle.sources.specs.Texts.{Changing as TwoTexts, GivesChanging, read_once}
use Rattle.sources.proofs.Brought.{changes_are_brought, mixed_long}
use Rattle.file_encoding.specs.Params.{IsEncodable, UploadParameters, parameters_of}
use Rattle.file_encoding.proofs.Encodable.{has_shape}
use Rattle.file_streaming.specs.Prepared.{key_for, prepared_of as stream_of}
use Rattle.file_upload.specs.Prepared.{goal_of, prepared_of}
use Rattle.file_upload.specs.Ready.{goal_of as kept_goal}
use Rattle.file_upload.proofs.OneGoal.{goals_are_one}
use Rattle.upload_core.specs.Sending.{Uploading as Uploading_state}
use Rattle.answer_laws.proofs.Asking.Checks.{checks_ask_all}
use Rattle.answer_laws.proofs.Asking.Downloads.{downloads_ask_all}
use Rattle.request_record.specs.Asking.{asks_of, begun, fresh}
use Rattle.request_record.specs.Record.{RequestsState}
use Rattle.file_encoding.proofs.RemadePassing.{regenerated_pass}
use Rattle.file_upload.specs.Shares.{MayWant, shares_goal}
use Rattle.upload_core.specs.State.{Goal, UploadState}
use Rattle.upload_core.specs.Moves as upload
use Rattle.download_core.specs.Moves as download
use Rattle.world_operations.specs.declared.job.Job.{Job}
use Rattle.world_operations.specs.declared.job.Job.TheVariants as jobs
use Rattle.world_operations.specs.declared.job.Unmade.{Unmade}
use Rattle.world_operations.specs.declared.task.Task.{Task}
use Rattle.world_operations.specs.declared.task.Task.TheVariants.{Uploading, Downloading, Checking, Gone}
use Rattle.request_record.specs.Follow.{Follows, Nothing}
use Rattle.world_operations.specs.Follow.{IsNewTask}
use Rattle.world_operations.specs.declared.upload_pieces.UploadPieces.{UploadPieces}
use Rattle.world_operations.specs.Jobs.{HasOneKey, IsRepair, IsUpload, MayStart, changing, second_read}
use Rattle.world_operations.specs.Moves.{Begins, BeginsChanging}
use Rattle.world_operations.specs.Repairs.{BeginsRepair, contradicts, lacks, makes}
use Rattle.request_record.proofs.FollowLaws.{follows_asks, follows_itself, follows_on}
use Rattle.upload_core.proofs.Following.{placed}

begun_follows : (servers : List ℕ) (session now : ℕ) (r : RequestsState) → r ≡ begun servers session now → Follows Nothing (fresh session now) r
begun_follows servers session now r is = subst (Follows Nothing (fresh session now)) (sym is) (follows_asks (asks_of servers) (fresh session now))

-- ---- an upload of a source that changes

-- what the second pass brings is as long as each of the two texts
second_long : (file other : List ℕ) (after : ℕ) → length other ≡ length file → length (second_read file other after) ≡ length file
second_long file other after same = mixed_long file other (after - length file) same

pub may_of_second : (file other : List ℕ) (after : ℕ) (secret : List ℕ) (p : UploadParameters) → MayStart (jobs.Changing file other after secret p) → IsUpload (second_read file other after) secret p
may_of_second file other after secret p may =
    let long = sym (second_long file other after may.1) in
    record {
      not_small = subst (λ (n : ℕ). min_file_size ≤ n) long may.0.not_small;
      secret_short = may.0.secret_short;
      chosen = may.0.chosen;
      encodable = subst (λ (n : ℕ). IsEncodable n p) long may.0.encodable;
    }

-- what is to be placed is what the file's own encoding says, and both passes had one key
record IsOfSecond (file other : List ℕ) (after : ℕ) (secret : List ℕ) (p : UploadParameters) (aim : Goal) : Type 0 where
  pub goal : aim ≡ goal_of (prepared_of (second_read file other after) secret p)
  pub may : IsUpload (second_read file other after) secret p
  pub one_key : HasOneKey (jobs.Changing file other after secret p)

stream_is_of_file : {servers : List _} {session now : ℕ} {u : Uploading_state UploadPieces} (file other : List ℕ) (after : ℕ) (secret : List ℕ) (p : UploadParameters) → MayStart (jobs.Changing file other after secret p)
    → (b : BeginsChanging file other after secret p servers session now u) → IsOfSecond file other after secret p (kept_goal b.stream.kept)
stream_is_of_file file other after secret p may b =
    let twice = b.prepared.reading in
    let first = changes_are_brought (changing file other after) twice.mid b.prepared.first may.1 twice.before in
    let then_read : IsPass GivesChanging (length file) (read_once (changing file other after)) b.prepared.file b.stream.source =
    subst (λ (s : TwoTexts). IsPass GivesChanging (length file) s b.prepared.file b.stream.source) first.1 twice.after in
    let second = changes_are_brought (read_once (changing file other after)) b.stream.source b.prepared.file may.1 then_read in
    let fits = may_of_second file other after secret p may in
    let shape = has_shape (length (second_read file other after)) p fits.chosen fits.not_small fits.encodable in
    record {
      goal = ap kept_goal (b.prepared.is ∙ ap (λ (f : List ℕ). stream_of f secret (parameters_of p)) second.0) ∙ goals_are_one (second_read file other after) secret (parameters_of p) shape;
      may = fits;
      one_key = ap (λ (f : List ℕ). key_for f secret (parameters_of p)) (sym first.0) ∙ b.prepared.one_key ∙ ap (λ (f : List ℕ). key_for f secret (parameters_of p)) second.0;
    }

pub new_task : (servers : List _) (nodes : List ℕ) (session now : ℕ) (job : Job) (task : Task) → MayStart job → Begins job servers nodes session now task → IsNewTask nodes session job task
new_task servers nodes session now (jobs.Upload file secret p) (Uploading u) may b =
    let c = b.0 in
    let first : UploadState = upload.initial _ p.happy u.course.servers session now in
    let goes = placed Nothing first u.course (begun u.course.servers session now) (follows_itself Nothing (begun u.course.servers session now)) c.goes in
    record {
      is_for = (c.goal_is, c.happy_is, may);
      asked = tt;
      clock = now;
      follows = follows_on Nothing (fresh session now) (begun u.course.servers session now) u.course.requests (begun_follows u.course.servers session now (begun u.course.servers session now) refl) goes.follows;
    }
new_task servers nodes session now (jobs.Changing file other after secret p) (Uploading u) may b =
    let c = b.begins in
    let is = stream_is_of_file file other after secret p may b in
    let first : UploadState = upload.initial _ p.happy u.course.servers session now in
    let goes = placed Nothing first u.course (begun u.course.servers session now) (follows_itself Nothing (begun u.course.servers session now)) c.goes in
    record {
      is_for = (c.goal_is ∙ is.goal, c.happy_is, is.may, is.one_key);
      asked = tt;
      clock = now;
      follows = follows_on Nothing (fresh session now) (begun u.course.servers session now) u.course.requests (begun_follows u.course.servers session now (begun u.course.servers session now) refl) goes.follows;
    }
new_task servers nodes session now (jobs.Changing file other after secret p) (Gone number) may b =
    subst (λ (n : ℕ). IsNewTask nodes session (jobs.Changing file other after secret p) (Gone n)) (sym b.0)
    record { is_for = may_of_second file other after secret p may; asked = tt; clock = 0; follows = follows_itself Nothing (fresh session 0) }
new_task servers nodes session now (jobs.Download cap from to) (Downloading d) may b =
    record {
      is_for = (b.of_cap, b.range.0, b.range.1);
      asked = downloads_ask_all.begins cap from to nodes session now d b;
      clock = now;
      follows = begun_follows (download.asked_servers from to nodes) session now d.requests b.asks;
    }
new_task servers nodes session now (jobs.Check cap) (Checking c) may b =
    record {
      is_for = (b.0.of_cap, b.1);
      asked = checks_ask_all.begins cap nodes session now c b.0;
      clock = now;
      follows = begun_follows nodes session now c.requests b.0.asks;
    }
new_task servers nodes session now _ _ may b = absurd b

-- a repair that makes no shares
over : (nodes : List ℕ) (session : ℕ) (cap : VerifyCapValue) (why : Unmade) (job : Job) (task : Task) → job ≡ jobs.NoRepair cap why → task ≡ Gone session → IsNewTask nodes session job task
over nodes session cap why job task job_is task_is =
    subst (λ (j : Job). IsNewTask nodes session j task) (sym job_is)
    (subst (IsNewTask nodes session (jobs.NoRepair cap why)) (sym task_is) record { is_for = tt; asked = tt; clock = 0; follows = follows_itself Nothing (fresh session 0) })

pub new_repair : (nodes : List ℕ) (cap : VerifyCapValue) (happy : ℕ) (numbers : List ℕ) (strings : List (List ℕ)) (servers : _) (session now : ℕ) (job : Job) (task : Task) → MayWant cap happy
    → BeginsRepair cap happy numbers strings servers session now job task → IsNewTask nodes session job task
new_repair nodes cap happy numbers strings servers session now job task may (makes shares u made job_is task_is b pieces) =
    let first : UploadState = upload.initial (shares_goal cap shares) happy u.course.servers session now in
    let goes = placed Nothing first u.course (begun u.course.servers session now) (follows_itself Nothing (begun u.course.servers session now)) b.goes in
    let is_for : IsRepair cap happy u = record {
      shares = shares;
      pieces = pieces;
      goal = b.goal_is;
      happy_is = b.happy_is;
      may = may;
      passing = regenerated_pass cap numbers strings shares made;
    } in
    subst (λ (j : Job). IsNewTask nodes session j task) (sym job_is) (subst (IsNewTask nodes session (jobs.Repair cap happy)) (sym task_is) record {
      is_for = is_for;
      asked = tt;
      clock = now;
      follows = follows_on Nothing (fresh session now) (begun u.course.servers session now) u.course.requests (begun_follows u.course.servers session now (begun u.course.servers session now) refl) goes.follows;
    })
new_repair nodes cap happy numbers strings servers session now job task may (lacks l job_is task_is) = over nodes session cap _ job task job_is task_is
new_repair nodes cap happy numbers strings servers session now job task may (contradicts l job_is task_is) = over nodes session cap _ job task job_is task_is

-- A source that was read twice, made ready for its upload.
use Rattle.std.specs.Prelude.{ℕ}
use Rattle.cap_text.specs.Cap.{verify_cap_of}
use Rattle.file_streaming.specs.Prepared.{PreparedFile, share_length}
use Rattle.upload_core.specs.Ready.{Ready}
use Rattle.upload_core.specs.State.{Goal}
use Rattle.file_upload.specs.Streamed.{Streaming}

-- what is to be placed: the shares by their digests, for the verify cap
abbrev pub goal_of : PreparedFile → Goal
goal_of kept = record {
  cap = verify_cap_of kept.cap;
  digests = kept.digests;
  share_length = share_length kept;
  ahead = 1;
}

-- the upload of what is kept, of which so many servers are to hold a share of their own
abbrev pub ready_stream : {S : Type 0} → Streaming S → ℕ → Ready (Streaming S)
ready_stream s happy = record { pieces = s; goal = goal_of s.kept; happy = happy }

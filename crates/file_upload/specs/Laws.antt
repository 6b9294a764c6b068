-- What an upload of a file that is not held has to do with the file's encoding.
use Rattle.std.specs.Prelude.{◌≡◌, ℕ, List, length, map}
use Rattle.tagged_hash.specs.TaggedHash.{share_digest}
use Rattle.cap_text.specs.Cap.{verify_cap_of}
use Rattle.ueb.specs.Shape.{IsShape}
use Rattle.file_encoding.specs.Encoding.{Parameters, encoding_of}
use Rattle.file_streaming.specs.Prepared.{geometry_for, prepared_of}
use Rattle.upload_core.specs.Pieces.{length_of}
use Rattle.file_upload.specs.Ready.{goal_of}

-- a law: by what is kept of a file the same is to be placed as by its whole shares
abbrev pub GoalsAreOne : Type 0
GoalsAreOne = (file secret : List ℕ) (p : Parameters)
    → IsShape p.needed p.total (length file) (geometry_for file p).segment_size
    → let encoding = encoding_of file secret p in
    goal_of (prepared_of file secret p) ≡ record {
      cap = verify_cap_of encoding.cap;
      digests = map share_digest encoding.shares;
      share_length = length_of encoding.shares;
      ahead = 1;
    }

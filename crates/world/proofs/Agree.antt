-- Without a clash downloads of a cap agree, and with the file of each upload that answered Happy with it.
use Rattle.std.proofs.Common.{◌≡◌, ℕ, List, length, refl, subst}
use Rattle.aes_ctr.specs.CounterMode.{xored}
use Rattle.tagged_hash.specs.ConvergentKey.{convergent_key_of}
use Rattle.cap_text.specs.Cap.{ReadCapValue}
use Rattle.ueb.specs.Block.{ueb_text}
use Rattle.ueb.specs.Shape.{Contents}
use Rattle.share_layout.specs.Geometry.{geometry_of}
use Rattle.share_layout.specs.Pieces.{segments_of}
use Rattle.file_encoding.specs.Encoding.{extension_block_contents}
use Rattle.file_encoding.specs.Params.{parameters_of}
use Rattle.file_encoding.proofs.Encodable.{has_shape}
use Rattle.file_encoding.proofs.OwnEvidence.{own_trees_are_within}
use Rattle.file_encoding.proofs.Parts.{files_of_caps}
use Rattle.file_upload.specs.Prepared.{prepared_of}
use Rattle.download_segments.specs.Agreement.{HasByte, IsGivenIn}
use Rattle.download_segments.specs.declared.piece.Piece.{Piece}
use Rattle.download_segments.proofs.GivenLemmas.{agree_in, file_agrees_in, given_weaker}
use Rattle.download_core.specs.Hashed as download
use Rattle.download_core.specs.Right.{IsRight}
use Rattle.download_core.specs.State.{DownloadState}
use Rattle.download_core.proofs.HashedLemmas.{given_are_shown}
use Rattle.world_operations.specs.declared.job.Job.{Job}
use Rattle.world_operations.specs.declared.job.Job.TheVariants.{Download}
use Rattle.world_operations.specs.declared.task.Task.{Task}
use Rattle.world_operations.specs.declared.task.Task.TheVariants.{Uploading, Downloading, Checking, Gone}
use Rattle.world_operations.specs.Given.{IsGivenBy}
use Rattle.world_operations.specs.Jobs.{IsFor}
use Rattle.world_operations.specs.Tasks.{IsRightTask}
use Rattle.world.specs.State.{WorldState}
use Rattle.world.specs.Consistent.{IsConsistent}
use Rattle.world.specs.Binding.{StartedAreGiven}
use Rattle.world.specs.Headline.{DownloadsAgree, FilesAreGiven, HasNoClash, IsGiven, IsHashed}
use Rattle.world.proofs.Happy.{for_upload}
use Rattle.world.proofs.Hashed.{download_among, encoding_among}

-- a piece that was handed out is proved by what its download hashed
record IsProved (w : WorldState) (cap : ReadCapValue) (p : Piece) : Type 0 where
  pub block : List ℕ
  pub contents : Contents
  pub given : IsGivenIn (IsHashed w) cap block contents p

-- which task gave it
record IsByDownload (t : Task) (p : Piece) : Type 0 where
  pub download_is : DownloadState
  pub task : t ≡ Downloading download_is
  pub given : download.IsGivenBy download_is p

by_download : (t : Task) (p : Piece) → IsGivenBy t p → IsByDownload t p
by_download (Downloading d) p g = record { download_is = d; task = refl; given = g }
by_download (Uploading u) p g = absurd g
by_download (Checking c) p g = absurd g
by_download (Gone number) p g = absurd g

proved : (w : WorldState) → IsConsistent w → (cap : ReadCapValue) (position byte : ℕ) → (g : IsGiven w cap position byte) → IsProved w cap g.piece
proved w c cap position byte g =
    let fine = c.fine g.number g.operation g.at in
    let by = by_download g.operation.task g.piece (fine.given g.piece g.handed_out) in
    let d : DownloadState = by.download_is in
    let right : IsRight d = subst IsRightTask by.task fine.right in
    let is_for : IsFor (Download cap g.from g.to) (Downloading d) =
    subst (λ (t : Task). IsFor (Download cap g.from g.to) t) by.task (subst (λ (j : Job). IsFor j g.operation.task) g.job fine.started) in
    let shown = given_are_shown d g.piece right by.given in
    record {
      block = shown.block;
      contents = shown.contents;
      given = subst (λ (k : ReadCapValue). IsGivenIn (IsHashed w) k shown.block shown.contents g.piece) is_for.0
          (given_weaker (download.IsHashed d) (IsHashed w) d.cap shown.block shown.contents g.piece
          (λ input hashed. download_among w g.number g.operation d input g.at by.task hashed) shown.given);
    }

byte_of : (w : WorldState) (cap : ReadCapValue) (position byte : ℕ) → (g : IsGiven w cap position byte) → HasByte g.piece position byte
byte_of w cap position byte g = record { offset = g.offset; position_is = g.position_is; byte_is = g.byte_is }

pub downloads_agree : (w : WorldState) → IsConsistent w → HasNoClash w → DownloadsAgree w
downloads_agree w c no_clash cap position a b f g =
    let first = proved w c cap position a f in
    let second = proved w c cap position b g in
    agree_in (IsHashed w) no_clash cap first.block second.block first.contents second.contents f.piece g.piece first.given second.given position a b
    (byte_of w cap position a f) (byte_of w cap position b g)

pub started_are_given : (w : WorldState) → IsConsistent w → HasNoClash w → StartedAreGiven w
started_are_given w c no_clash file secret p number operation upload position byte of given =
    let is_for = for_upload w number file secret p operation upload c of in
    let may = is_for.may in
    let g = geometry_of (length file) p.needed p.total p.max_segment in
    let ciphertext : List ℕ = xored (convergent_key_of p.needed p.total g.segment_size secret file) file in
    let u : Contents = extension_block_contents g ciphertext (segments_of g ciphertext) in
    let cap : ReadCapValue = (prepared_of file secret p).cap in
    let own = own_trees_are_within file secret (parameters_of p) in
    let piece = proved w c cap position byte given in
    file_agrees_in (IsHashed w) no_clash cap (ueb_text u) piece.block u piece.contents ciphertext file given.piece
    (files_of_caps file secret (parameters_of p) (has_shape (length file) p may.chosen may.not_small may.encodable))
    (encoding_among w number operation file secret p _ of.at of.uploads is_for.one_key own.0)
    (λ input k. encoding_among w number operation file secret p input of.at of.uploads is_for.one_key (own.1 input k))
    piece.given position byte (byte_of w cap position byte given)

pub files_are_given : (w : WorldState) → IsConsistent w → HasNoClash w → FilesAreGiven w
files_are_given w c no_clash file secret p pairs position byte up given =
    started_are_given w c no_clash file secret p up.number up.operation up.upload position byte up.upload_of given

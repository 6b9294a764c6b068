-- What a download tested stays so, and tells of one that is inconsistent that its file is no code word.
use Rattle.std.proofs.Common.{◌≡◌, ℕ, ◌+◌, List, length, Option, Some, None, refl, sym, subst, ap}
use Rattle.wire.specs.declared.message.Message.{Message}
use Rattle.request_record.specs.declared.requests.Request.{Request}
use Rattle.download_segments.specs.declared.piece.Piece.{Piece}
use Rattle.download_segments.proofs.LawLemmas.{no_code_word_wider}
use Rattle.download_file.specs.Tested as file
use Rattle.download_file.proofs.TestedLemmas.{inconsistent_is_no_code_word}
use Rattle.download_core.specs.Ends.{HasNoCodeWord}
use Rattle.download_core.specs.Moves.{TakesPiece, found_handed, with_handed}
use Rattle.download_core.specs.Sending.{Takes}
use Rattle.download_core.specs.State.{DownloadState, Found, ready}
use Rattle.download_core.specs.Tested.{InconsistentShowsNoCodeWord, IsTested, ShowsNoCodeWord, StaysTested}
use Rattle.download_core.proofs.HashedLemmas.{file_of, right_of}

pub inconsistent_shows : InconsistentShowsNoCodeWord
inconsistent_shows d right ended = by d.found refl (right.inconsistent ended)
  where
    by : (o : Option Found) → d.found ≡ o → HasNoCodeWord d.requests.entries o → ShowsNoCodeWord d
    by None e has = absurd has
    by (Some f) e has =
        let of_cap = file_of d f e right.file in
        record {
          found = f;
          there = e;
          head = of_cap.head;
          no_code_word = no_code_word_wider (file.IsTested d.requests.entries f.file) (IsTested d) f.file.handout.ueb (λ input tested. record { found = f; there = e; tested = tested })
              (inconsistent_is_no_code_word d.requests.entries f.file (right_of d f e right) of_cap.answers has.0);
        }

-- ---- what was tested stays so

pub tested_itself : (old new : DownloadState) → new ≡ old → StaysTested old new
tested_itself old new same input t = subst (λ (d : DownloadState). IsTested d input) (sym same) t

-- where a request is sent
pub sent_tested : (old new : DownloadState) (f : Option (ℕ × Message)) → Takes old f new → StaysTested old new
sent_tested old new None takes = tested_itself old new takes.1
sent_tested old new (Some f) takes = λ input t.
    subst (λ (d : DownloadState). IsTested d input) (sym takes.3) (record { found = t.found; there = t.there; tested = t.tested })

-- where a piece is taken
handed_tested : (entries : List Request) (pieces : List Piece) (position : ℕ) (f : Found) (input : List ℕ)
    → file.IsTested entries f.file input → file.IsTested entries (with_handed pieces position f).file input
handed_tested entries pieces position f input (file.right_block reader r number at right is) = file.right_block reader r number at right is
handed_tested entries pieces position f input (file.share_node k) = file.share_node k
handed_tested entries pieces position f input (file.ciphertext_node k) = file.ciphertext_node k
handed_tested entries pieces position f input (file.block_node reader r tree at is k) = file.block_node reader r tree at is k

pub taken_tested : (old new : DownloadState) (o : Option Piece) → TakesPiece old o new → StaysTested old new
taken_tested old new None takes = tested_itself old new takes.1
taken_tested old new (Some q) takes = λ input t.
    let end : ℕ = q.offset + length q.bytes in
    subst (λ (d : DownloadState). IsTested d input) (sym takes.1) (record {
      found = with_handed (ready new) end t.found;
      there = ap (found_handed (ready new) end) t.there;
      tested = handed_tested old.requests.entries (ready new) end t.found input t.tested;
    })

-- The pieces that a download gave of a whole file are the file of the cap.
use Rattle.std.proofs.Common.{◌≡◌, ℕ, ◌+◌, ◌<◌, All, List, [], ◌∷◌, ◌++◌, length, Option, Some, None, refl, ap, subst, sym, ◌∙◌, arith}
use Rattle.std.proofs.lemmas.List.Elements.{All-head, All-weaker}
use Rattle.aes_ctr.specs.CounterMode.{xored}
use Rattle.download_segments.specs.Pieces.{AreConsecutive}
use Rattle.download_segments.specs.declared.piece.Piece.{Piece}
use Rattle.download_segments.proofs.PieceLemmas.{consecutive_push}
use Rattle.download_file.specs.Answers as file
use Rattle.download_file.specs.Whole.{IsWholeFile, joined}
use Rattle.download_file.proofs.WholeLemmas as file_whole
use Rattle.download_core.specs.Hashed.{IsGivenBy}
use Rattle.download_core.specs.Moves.{found_handed}
use Rattle.download_core.specs.State.{DownloadState, Found, accepted_in, handed, handed_in, ready, ready_in}
use Rattle.download_core.specs.Whole.{TakenFollow, WholeFiles}
use Rattle.download_core.proofs.HashedLemmas.{file_of, right_of}

-- there is a first piece
first_given : (d : DownloadState) (pieces : List Piece) (size : ℕ) → 0 < size → All (IsGivenBy d) pieces → AreConsecutive 0 pieces size → (f : Found) × (d.found ≡ Some f)
first_given d [] size some given follow = absurd (omega (arith, some, follow))
first_given d (p ∷ ps) size some given follow = let g = All-head (IsGivenBy d) p ps given in (g.found, g.there)

-- all are given by one file
given_by : (d : DownloadState) (f : Found) → d.found ≡ Some f → (p : Piece) → IsGivenBy d p → file.IsGivenBy d.requests.entries f.file p
given_by d f there p g =
    let both : Some g.found ≡ Some f = sym g.there ∙ there in
    let same : g.found ≡ f = cc in
    subst (λ (x : Found). file.IsGivenBy d.requests.entries x.file p) same g.given

pub whole_files : WholeFiles
whole_files d pieces right some given follow =
    let first = first_given d pieces d.cap.size some given follow in
    let f = first.0 in
    let there = first.1 in
    let of_cap = file_of d f there right.file in
    let head = of_cap.head in
    let all : All (file.IsGivenBy d.requests.entries f.file) pieces =
    All-weaker (IsGivenBy d) (file.IsGivenBy d.requests.entries f.file) (given_by d f there) pieces given in
    let whole : IsWholeFile d.requests.entries f.file (joined pieces) =
    file_whole.whole_files d.requests.entries f.file pieces (right_of d f there right) all (subst (λ (n : ℕ). AreConsecutive 0 pieces n) (sym head.block.size) follow) in
    record {
      position = f.position;
      is_accepted = ap accepted_in there;
      extension_block = head.text;
      answer = record { request = head.request; there = head.there; answer = head.answer };
      contents = f.file.handout.ueb;
      ciphertext = whole.ciphertext;
      file = record {
        block = head.block;
        size = whole.of_file.size ∙ head.block.size;
        root = whole.of_file.root;
        decrypted = whole.decrypted ∙ ap (λ (key : List ℕ). xored key whole.ciphertext) of_cap.key;
      };
    }

-- ---- pieces that are taken

-- where a piece is ready there is a file, and the offset up to which pieces were taken is set
handed_is : (d : DownloadState) (p : Piece) (rest : List Piece) (position : ℕ) → ready d ≡ p ∷ rest → handed (record d { found = found_handed rest position d.found }) ≡ position
handed_is d p rest position has = by d.found refl
  where
    by : (o : Option Found) → d.found ≡ o → handed_in d.from (found_handed rest position d.found) ≡ position
    by None e = absurd (let none : [] ≡ p ∷ rest = sym (ap ready_in e) ∙ has in cc)
    by (Some f) e = ap (λ (o : Option Found). handed_in d.from (found_handed rest position o)) e

pub taken_follow : TakenFollow
taken_follow old new from pieces p right takes follow =
    let k : AreConsecutive (handed old) (p ∷ ready new) right.end = subst (λ (l : List Piece). AreConsecutive (handed old) l right.end) takes.0 right.consecutive in
    let pushed = consecutive_push from pieces (handed old) p follow k.0 k.1 in
    let upto : handed new ≡ p.offset + length p.bytes = ap handed takes.1 ∙ handed_is old p (ready new) (p.offset + length p.bytes) takes.0 in
    let same : handed old + length p.bytes ≡ handed new = ap (λ (n : ℕ). n + length p.bytes) (sym k.0) ∙ sym upto in
    subst (λ (n : ℕ). AreConsecutive from (pieces ++ p ∷ []) n) same pushed

-- What was given of a download stays given, and is proved by what was hashed.
use Rattle.std.proofs.Common.{◌≡◌, ℕ, ◌+◌, List, [], ◌∷◌, length, Contains, Option, Some, None, IfSome, inl, inr, refl, sym, subst, ap, ◌∙◌, arith}
use Rattle.wire.specs.declared.message.Message.{Message}
use Rattle.request_record.specs.declared.requests.Request.{Request}
use Rattle.download_segments.specs.declared.piece.Piece.{Piece}
use Rattle.download_segments.proofs.GivenLemmas.{given_weaker}
use Rattle.download_file.specs.Answers.{IsMade}
use Rattle.download_file.specs.Answers as file
use Rattle.download_file.specs.Hashed.{IsHashedWith}
use Rattle.download_file.specs.Hashed as file_hashed
use Rattle.download_file.specs.Right.{IsFile}
use Rattle.download_file.specs.State.{FileState}
use Rattle.download_file.proofs.GivenLemmas.{given_are_hashed}
use Rattle.download_core.specs.Given.{IsFileIfFound, IsFileOfCap, IsRightIfFound}
use Rattle.download_core.specs.Hashed.{GivenAreShown, IsGivenBy, IsHashed, StaysGiven, StaysHashed}
use Rattle.download_core.specs.Moves.{TakesPiece, found_handed, with_handed}
use Rattle.download_core.specs.Right.{IsRight}
use Rattle.download_core.specs.Sending.{Takes}
use Rattle.download_core.specs.State.{DownloadState, Found, ready, ready_in}

-- the file that was found is the cap's
abbrev pub HasFile : DownloadState → Type 0
HasFile d = IsFileIfFound d.cap d.from d.to d.requests.entries d.found

pub file_of : (d : DownloadState) (f : Found) → d.found ≡ Some f → HasFile d → IsFileOfCap d.cap d.from d.to d.requests.entries f
file_of d f there has = subst (IsFileIfFound d.cap d.from d.to d.requests.entries) there has

pub right_of : (d : DownloadState) (f : Found) → d.found ≡ Some f → IsRight d → IsFile f.file
right_of d f there right = subst IsRightIfFound there right.made

pub given_are_shown : GivenAreShown
given_are_shown d p right g =
    let f = g.found in
    let of_cap = file_of d f g.there right.file in
    let head = of_cap.head in
    record {
      block = head.text;
      contents = f.file.handout.ueb;
      given = given_weaker (IsHashedWith d.requests.entries f.file head.text) (IsHashed d) d.cap head.text f.file.handout.ueb p
          (λ input hashed. record {
            found = f;
            there = g.there;
            block = head.text;
            answer = record { request = head.request; there = head.there; answer = head.answer };
            hashed = hashed;
          })
          (given_are_hashed d.requests.entries f.file p d.cap head.text (right_of d f g.there right) g.given of_cap.key head.block);
    }

-- ---- what is given stays given

pub stays_itself : (old new : DownloadState) → new ≡ old → StaysGiven old new
stays_itself old new same p g = subst (λ (d : DownloadState). IsGivenBy d p) (sym same) g

-- where a request is sent
pub sent_stays : (old new : DownloadState) (f : Option (ℕ × Message)) → Takes old f new → StaysGiven old new
sent_stays old new None takes = stays_itself old new takes.1
sent_stays old new (Some f) takes = λ p g.
    subst (λ (d : DownloadState). IsGivenBy d p) (sym takes.3) (record { found = g.found; there = g.there; given = g.given })

-- where a piece is taken
module _ (entries : List Request) (pieces : List Piece) (position : ℕ) (f : Found) where
  abbrev after : FileState
  after = (with_handed pieces position f).file

  module _ (number : ℕ) (segment : List ℕ) (m : file.IsMadeSegment entries f.file number segment) where
    again : IsMade entries after.handout after.readers m.group number
    again = record { right = m.made.right; segment = m.made.segment; decodes = m.made.decodes; proved = record { size = m.made.proved.size; known = m.made.proved.known } }

    again_is : again.segment ≡ m.made.segment
    unfolding again
    again_is = refl

  pub handed_given : (p : Piece) → file.IsGivenBy entries f.file p → file.IsGivenBy entries after p
  handed_given p g =
      let m = g.made in
      record {
        number = g.number;
        segment = g.segment;
        made = record {
          group = m.group;
          among = m.among;
          from = m.from;
          before = m.before;
          made = again g.number g.segment m;
          is = again_is g.number g.segment m ∙ m.is;
        };
        slice = g.slice;
      }

-- what was hashed stays so too
pub hashed_itself : (old new : DownloadState) → new ≡ old → StaysHashed old new
hashed_itself old new same input h = subst (λ (d : DownloadState). IsHashed d input) (sym same) h

pub sent_hashed : (old new : DownloadState) (f : Option (ℕ × Message)) → Takes old f new → StaysHashed old new
sent_hashed old new None takes = hashed_itself old new takes.1
sent_hashed old new (Some f) takes = λ input h.
    subst (λ (d : DownloadState). IsHashed d input) (sym takes.3) (record { found = h.found; there = h.there; block = h.block; answer = h.answer; hashed = h.hashed })

handed_hashed : (entries : List Request) (pieces : List Piece) (position : ℕ) (f : Found) (block input : List ℕ)
    → IsHashedWith entries f.file block input → IsHashedWith entries (with_handed pieces position f).file block input
handed_hashed entries pieces position f block input (inl is) = inl is
handed_hashed entries pieces position f block input (inr (file_hashed.segment number bytes m is)) =
    inr (file_hashed.segment number bytes
    (record { group = m.group; among = m.among; from = m.from; before = m.before; made = again entries pieces position f number bytes m; is = again_is entries pieces position f number bytes m ∙ m.is }) is)
handed_hashed entries pieces position f block input (inr (file_hashed.node k)) =
    inr (file_hashed.node (record { number = k.number; left = k.left; right = k.right; knows_left = k.knows_left; knows_right = k.knows_right; is = k.is }))

pub taken_hashed : (old new : DownloadState) (o : Option Piece) → TakesPiece old o new → StaysHashed old new
taken_hashed old new None takes = hashed_itself old new takes.1
taken_hashed old new (Some q) takes = λ input h.
    let end : ℕ = q.offset + length q.bytes in
    subst (λ (d : DownloadState). IsHashed d input) (sym takes.1) (record {
      found = with_handed (ready new) end h.found;
      there = ap (found_handed (ready new) end) h.there;
      block = h.block;
      answer = h.answer;
      hashed = handed_hashed old.requests.entries (ready new) end h.found h.block input h.hashed;
    })

pub taken_stays : (old new : DownloadState) (o : Option Piece) → TakesPiece old o new → StaysGiven old new
taken_stays old new None takes = stays_itself old new takes.1
taken_stays old new (Some q) takes = λ p g.
    let end : ℕ = q.offset + length q.bytes in
    subst (λ (d : DownloadState). IsGivenBy d p) (sym takes.1) (record {
      found = with_handed (ready new) end g.found;
      there = ap (found_handed (ready new) end) g.there;
      given = handed_given old.requests.entries (ready new) end g.found p g.given;
    })

-- the piece that is taken is given
pub taken_given : (old new : DownloadState) (p : Piece) → HasFile old → TakesPiece old (Some p) new → IsGivenBy new p
taken_given old new p has takes = taken_stays old new (Some p) takes p (by old.found refl)
  where
    by : (o : Option Found) → old.found ≡ o → IsGivenBy old p
    by None e = absurd (let none : [] ≡ p ∷ ready new = sym (ap ready_in e) ∙ takes.0 in cc)
    by (Some f) e =
        let all : f.file.handout.ready ≡ p ∷ ready new = sym (ap ready_in e) ∙ takes.0 in
        record {
          found = f;
          there = e;
          given = (file_of old f e has).answers.ready p (subst (λ (l : List Piece). Contains l p) (sym all) (0, omega arith, refl));
        }

pub taken_if : (old new : DownloadState) (o : Option Piece) → HasFile old → TakesPiece old o new → IfSome o (IsGivenBy new)
taken_if old new None has takes = tt
taken_if old new (Some p) has takes = taken_given old new p has takes

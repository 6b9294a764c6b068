-- How far a file gets by pieces of several segments.
use Rattle.std.proofs.Common.{◌≡◌, ◌∙◌, ℕ, zero, suc, ◌+◌, ◌≤◌, inl, inr, List, [], ◌∷◌, ◌++◌, ap, sym, subst, arith}
use Rattle.std.proofs.lemmas.List.{append-nil, append_assoc}
use Rattle.request_record.specs.declared.requests.Request.{Request}
use Rattle.download_segments.specs.declared.piece.Piece.{Piece}
use Rattle.merkle.specs.Partial.{known_siblings}
use Rattle.download_segments.specs.Handout.{next_piece}
use Rattle.download_segments.specs.State.{HandoutState, IsHandout}
use Rattle.download_segments.proofs.HandoutLemmas.{ends_of, next_is, next_within, right_handed}
use Rattle.download_segments.proofs.KnownLemmas.{known_segment}
use Rattle.download_file.specs.State.{FileState}
use Rattle.download_file.specs.Making.{MakesNext, MakesPieces, MakesSegments}

-- pieces of so many segments are made: it reaches as many bytes more at least
pub record GetsOn (n : ℕ) (h g : HandoutState) : Type 0 where
  pub right : IsHandout g
  pub to : g.to ≡ h.to
  pub far : h.reached + n ≤ g.reached
  pub handed : g.handed ≡ h.handed
  pub more : List Piece
  pub ready : g.ready ≡ h.ready ++ more

gets_one : (entries : List Request) (f g : FileState) → IsHandout f.handout → MakesNext entries f g → GetsOn 1 f.handout g.handout
gets_one entries f g right made =
    let h : HandoutState = f.handout in
    let wanted = (next_is h made.number made.next).0 in
    let there = next_within h made.number right made.next in
    let by = known_segment h made.number made.segment right there made.proved in
    let more = (ends_of h right wanted).more in
    let reached = ap (λ (x : HandoutState). x.reached) made.handed in
    record {
      right = subst IsHandout (sym made.handed) (right_handed h made.number made.segment (known_siblings h.trees.ciphertext made.number) right made.next made.proved.size by);
      to = ap (λ (x : HandoutState). x.to) made.handed;
      far = omega (arith, more, reached);
      handed = ap (λ (x : HandoutState). x.handed) made.handed;
      more = next_piece h made.segment ∷ [];
      ready = ap (λ (x : HandoutState). x.ready) made.handed;
    }

gets_many : (entries : List Request) (n : ℕ) (f g : FileState) → IsHandout f.handout → MakesSegments entries n f g → GetsOn n f.handout g.handout
unfolding MakesSegments
gets_many entries zero f g right same =
    let reached = ap (λ (x : HandoutState). x.reached) same in
    record {
      right = subst IsHandout (sym same) right;
      to = ap (λ (x : HandoutState). x.to) same;
      far = omega (arith, reached);
      handed = ap (λ (x : HandoutState). x.handed) same;
      more = [];
      ready = ap (λ (x : HandoutState). x.ready) same ∙ sym (append-nil f.handout.ready);
    }
gets_many entries (suc n) f g right made =
    let a = gets_many entries n f made.0 right made.1 in
    let b = gets_one entries made.0 g a.right made.2 in
    let first = a.far in
    let last = b.far in
    record {
      right = b.right;
      to = b.to ∙ a.to;
      far = omega (arith, first, last);
      handed = b.handed ∙ a.handed;
      more = a.more ++ b.more;
      ready = b.ready ∙ ap (λ (l : List Piece). l ++ b.more) a.ready ∙ append_assoc f.handout.ready a.more b.more;
    }

pub gets_pieces : (entries : List Request) (f g : FileState) → IsHandout f.handout → MakesPieces entries f g → GetsOn 1 f.handout g.handout
gets_pieces entries f g right (inl one) = gets_one entries f g right one
gets_pieces entries f g right (inr row) =
    let k = gets_many entries 8 f g right row in
    let far = k.far in
    record { right = k.right; to = k.to; far = omega (arith, far); handed = k.handed; more = k.more; ready = k.ready }

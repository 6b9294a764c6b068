-- The pieces that were taken and written.
use Rattle.std.proofs.Common.{◌≡◌, ℕ, ◌+◌, List, [], ◌∷◌, ◌++◌, All, length, Option, Some, None, ap, refl, subst, sym, ◌∙◌, append_assoc}
use Rattle.std.proofs.KnownBytes.{Appends-nil, Appends-trans}
use Rattle.std.proofs.lemmas.List.{flat_map_more}
use Rattle.std.proofs.lemmas.List.Elements.{All-nil, All-push, All-weaker}
use Rattle.std.specs.Io.KnownBytes.{Appends}
use Rattle.download_segments.specs.Pieces.{AreConsecutive}
use Rattle.download_segments.specs.declared.piece.Piece.{Piece}
use Rattle.download_file.specs.Whole.{joined}
use Rattle.download_core.specs.Hashed.{IsGivenBy}
use Rattle.download_core.specs.Moves.{TakesPiece, found_handed}
use Rattle.download_core.specs.Right.{IsRight}
use Rattle.download_core.specs.State.{DownloadState, Found, handed, handed_in, ready, ready_in}
use Rattle.download_core.specs.Whole.{TakenFollow}
use Rattle.download_core.proofs.HashedLemmas.{taken_stays}
use Rattle.carried_operations.specs.Written.{Writes}
use Rattle.carried_operations.specs.Handing.{Hands, end_of}

-- the pieces that were taken and written so far
pub record Written (old : DownloadState) (before : Option (List ℕ)) (new : DownloadState) (after : Option (List ℕ)) : Type 0 where
  pub pieces : List Piece
  pub hands : Hands pieces old new
  pub right : IsRight new
  pub given : All (IsGivenBy new) pieces
  pub consecutive : AreConsecutive (handed old) pieces (handed new)
  pub added : Appends before after (joined pieces)

-- what is handed out of a file is what it says
pub same_found : (from : ℕ) (f : Option Found) → found_handed (ready_in f) (handed_in from f) f ≡ f
same_found from None = refl
same_found from (Some f) = refl

-- the last word stands
found_twice : (first second : List Piece) (offset after : ℕ) (f : Option Found) → found_handed second after (found_handed first offset f) ≡ found_handed second after f
found_twice first second offset after None = refl
found_twice first second offset after (Some f) = refl

-- nothing yet
pub written_none : (d : DownloadState) (held : Option (List ℕ)) → IsRight d → Written d held d held
written_none d held right = record {
  pieces = [];
  hands = record { taken = refl; others = ap (λ (f : Option Found). record d { found = f }) (sym (same_found d.from d.found)) };
  right = right;
  given = All-nil (IsGivenBy d);
  consecutive = refl;
  added = Appends-nil held;
}

end_more : (offset : ℕ) (ps : List Piece) (p : Piece) → end_of offset (ps ++ p ∷ []) ≡ p.offset + length p.bytes
end_more offset [] p = refl
end_more offset (q ∷ ps) p = end_more (q.offset + length q.bytes) ps p

-- one piece more is taken
hands_more : (pieces : List Piece) (old mid new : DownloadState) (p : Piece) → Hands pieces old mid → TakesPiece mid (Some p) new → Hands (pieces ++ p ∷ []) old new
hands_more pieces old mid new p h t = record {
  taken = h.taken ∙ ap (λ (ps : List Piece). pieces ++ ps) t.0 ∙ sym (append_assoc pieces (p ∷ []) (ready new));
  others = t.1 ∙ ap (λ (d : DownloadState). record d { found = found_handed (ready new) (p.offset + length p.bytes) d.found }) h.others
      ∙ ap (λ (f : Option Found). record old { found = f }) (found_twice (ready mid) (ready new) (end_of (handed old) pieces) (p.offset + length p.bytes) old.found)
      ∙ ap (λ (n : ℕ). record old { found = found_handed (ready new) n old.found }) (sym (end_more (handed old) pieces p));
}

-- and written
pub written_more : TakenFollow → (old mid new : DownloadState) (before held after : Option (List ℕ)) (p : Piece) → Written old before mid held → TakesPiece mid (Some p) new → IsRight new → IsGivenBy new p
    → Appends held after p.bytes → Written old before new after
written_more follow old mid new before held after p w t right given more = record {
  pieces = w.pieces ++ p ∷ [];
  hands = hands_more w.pieces old mid new p w.hands t;
  right = right;
  given = All-push (IsGivenBy new) w.pieces p (All-weaker (IsGivenBy mid) (IsGivenBy new) (taken_stays mid new (Some p) t) w.pieces w.given) given;
  consecutive = follow mid new (handed old) w.pieces p w.right t w.consecutive;
  added = subst (Appends before after) (flat_map_more (λ (q : Piece). q.bytes) [] w.pieces p) (Appends-trans before held after (joined w.pieces) p.bytes w.added more);
}

-- the offset behind a piece that is taken
pub taken_to : (old new : DownloadState) (p : Piece) → TakesPiece old (Some p) new → handed new ≡ p.offset + length p.bytes
taken_to old new p t = ap handed t.1 ∙ by old.found refl
  where
    by : (o : Option Found) → old.found ≡ o → handed_in old.from (found_handed (ready new) (p.offset + length p.bytes) old.found) ≡ p.offset + length p.bytes
    by None e = absurd (let none : [] ≡ p ∷ ready new = sym (ap ready_in e) ∙ t.0 in cc)
    by (Some f) e = ap (λ (o : Option Found). handed_in old.from (found_handed (ready new) (p.offset + length p.bytes) o)) e

-- all of them
pub written_all : (old mid new : DownloadState) (before after : Option (List ℕ)) → Written old before mid after → TakesPiece mid None new → Writes old before new after
written_all old mid new before after w t = subst (λ (d : DownloadState). Writes old before d after) (sym t.1)
    (record { pieces = w.pieces; hands = w.hands; all = t.0; right = w.right; given = w.given; consecutive = w.consecutive; added = w.added })

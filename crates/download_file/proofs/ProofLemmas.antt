-- What proves the first part that waits of a reader is known.
use Rattle.std.proofs.Common.{◌≡◌, ℕ, ◌-◌, ◌<◌, ◌≤◌, List, Some, arith, subst}
use Rattle.std.specs.Prelude.{slice_get}
use Rattle.share_layout.specs.Geometry.{Geometry}
use Rattle.download_parts.specs.PlanLaws.{piece_over}
use Rattle.download_parts.specs.Plan.{IsNodePiece}
use Rattle.download_parts.specs.declared.part.NodePiece.{NodePiece}
use Rattle.download_parts.specs.declared.part.Part.{Part}
use Rattle.download_parts.specs.declared.part.Part.TheVariants.{ShareHashes, BlockTree, CiphertextTree, Data}
use Rattle.download_supply.specs.Cursors.{cursor_at}
use Rattle.download_supply.specs.Supply.{first_of}
use Rattle.download_supply.specs.Taking.{IsDue}
use Rattle.download_supply.specs.Upper.{HasOverPassed, UpperComeFirst}
use Rattle.download_supply.proofs.UpperLemmas.{due_is_proved, over_proves}
use Rattle.download_file.specs.Laws.{FirstPartsAreProved}
use Rattle.download_file.specs.Right.{IsFile}
use Rattle.download_file.specs.State.{FileState, IsHeard, ReaderState, waiting_parts}
use Rattle.download_file.specs.Taking.{KnowsProof}
use Rattle.download_file.specs.declared.reader.Waiting.{Waiting}
use Rattle.download_file.proofs.TakeLemmas.{is_due}

module _ (f : FileState) (reader : ℕ) (r : ReaderState) (is : IsFile f) (heard : IsHeard f reader) (at : slice_get f.readers reader ≡ Some r) where
  abbrev g : Geometry
  g = f.handout.geometry

  proved : (part : Part) → IsDue r.supply part → HasOverPassed r.supply.geometry (first_of r.supply part) r.supply.taken part
      → KnowsProof f.handout f.first f.end r part
  proved ShareHashes due over = tt
  proved (BlockTree p) due over = λ t tree. due_is_proved r.supply p t (is.readers reader r at).supply due over tree
  proved (CiphertextTree p) due over =
      let own = is.readers reader r at in
      let piece : IsNodePiece g f.first f.end p =
      subst (λ (k : Geometry). IsNodePiece k f.first f.end p) own.geometry
      (subst (λ n. IsNodePiece r.supply.geometry n f.end p) own.start
      (subst (λ n. IsNodePiece r.supply.geometry r.supply.start n p) own.end (own.supply.parts (CiphertextTree p) due.asked))) in
      over_proves g f.first f.end p f.handout.trees.ciphertext is.range piece is.handout.trees.ciphertext.sound
      (λ some.
      let passes = over some in
      let behind = is.ciphertext.behind reader (p.level - 1) r heard at in
      let taken : (piece_over r.supply.geometry r.supply.start p).index < cursor_at f.taken (p.level - 1) = omega (arith, passes, behind) in
      is.ciphertext.known (piece_over g f.first p)
      (subst (λ (k : Geometry). (piece_over k f.first p).index < cursor_at f.taken (p.level - 1)) own.geometry
      (subst (λ n. (piece_over r.supply.geometry n p).index < cursor_at f.taken (p.level - 1)) own.start taken)))
  proved (Data i) due over = tt

pub first_parts_are_proved : FirstPartsAreProved
first_parts_are_proved f reader r first others is heard at waits =
    let upper = subst (λ (l : List Waiting). UpperComeFirst r.supply.geometry (first_of r.supply) r.supply.taken (waiting_parts l)) waits (is.live.upper reader r heard at) in
    proved f reader r is heard at first.wanted.part
    (is_due f f.handout.trees reader r r first others f.taken is heard at waits)
    upper.0

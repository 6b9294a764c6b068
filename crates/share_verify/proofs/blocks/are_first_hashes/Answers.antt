use Rattle.std.proofs.Common.{◌≡◌, ℕ, List, [], length, get_or, sym, ap, ◌∙◌, arith, ext_get_or, refl}
use Rattle.std.proofs.lemmas.Bool.Decides.{Decides-eqb}
use Rattle.std.proofs.lemmas.Slice.Eq.{slice_eq-Decides}
use Rattle.std.proofs.lemmas.List.{length-drop, length-take, take_at}
use Rattle.share_verify.proofs.blocks.are_first_hashes.Goals as goal

pub returns : goal.returns
returns c =
    let leaves : List (List ℕ) = c.args.leaves.now in
    let hashes : List (List ℕ) = c.tagged_pieces.new.hashes in
    let d = slice_eq-Decides (λ (a b : List ℕ). slice_eq-Decides Decides-eqb a b _ refl) leaves _ c.eq.result c.eq.ensures in
    let many : length hashes ≡ length leaves = omega (arith, length-take {A = List ℕ}, length-drop {A = List ℕ}) in
    let part = take_at hashes _ (length leaves) many in (
      λ yes i below. ap (λ (l : List (List ℕ)). get_or l i []) (d.0 yes ∙ part) ∙ c.tagged_pieces.ensures i (omega arith),
      λ all. (d.1 (ext_get_or [] leaves hashes (sym many) (λ i below. all i below ∙ sym (c.tagged_pieces.ensures i (omega arith))) ∙ sym part)),
    )

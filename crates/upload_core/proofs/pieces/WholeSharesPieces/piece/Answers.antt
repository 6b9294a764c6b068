use Rattle.std.proofs.Common.{◌≡◌, ◌+◌, ◌<◌, ◌≤◌, List, ℕ, length, map, get_or, sym, ap, subst, ◌∙◌, arith}
use Rattle.std.proofs.lemmas.List.{get_or-map, length-drop, length-map, length-take}
use Rattle.tagged_hash.specs.TaggedHash.{share_digest}
use Rattle.upload_core.specs.Pieces.{length_of}
use Rattle.upload_core.proofs.pieces.WholeSharesPieces.piece.Goals as goal

pub part_of-bytes-requires : goal.part_of-bytes-requires
part_of-bytes-requires c =
    let own = c.self.inside.shares.items in
    let shares : List (List ℕ) = map (λ s. s.items) own in
    let v = c.index.result.now in
    let number : c.args.share < length (map share_digest shares) = subst (λ (ss : List (List ℕ)). c.args.share < length (map share_digest ss)) (sym c.self.view_is) c.requires.number in
    let many : length (map share_digest shares) ≡ length shares = length-map shares share_digest in
    let as_many : length shares ≡ length own = length-map own (λ s. s.items) in
    let lt : c.args.share < length own = omega arith in
    let same : get_or shares c.args.share v.items ≡ v.items = get_or-map (λ s. s.items) own c.args.share v v.items lt ∙ ap (λ s. s.items) (ap (λ (k : ℕ). get_or own k v) (sym c.from.ensures) ∙ sym c.index.ensures) in
    let one : length (get_or shares c.args.share v.items) ≡ length_of shares = c.self.invariant c.args.share v.items (omega arith) in
    let inside : c.args.offset + length c.args.out.now ≤ length_of shares = subst (λ (ss : List (List ℕ)). c.args.offset + length c.args.out.now ≤ length_of ss) (sym c.self.view_is) c.requires.inside in
    omega (arith, ap length c.deref.ensures.value, ap length same, one, inside)

pub copy_from_slice-requires : goal.copy_from_slice-requires
copy_from_slice-requires c =
    let own = c.self.inside.shares.items in
    let shares : List (List ℕ) = map (λ s. s.items) own in
    let v = c.index.result.now in
    let number : c.args.share < length (map share_digest shares) = subst (λ (ss : List (List ℕ)). c.args.share < length (map share_digest ss)) (sym c.self.view_is) c.requires.number in
    let many : length (map share_digest shares) ≡ length shares = length-map shares share_digest in
    let as_many : length shares ≡ length own = length-map own (λ s. s.items) in
    let lt : c.args.share < length own = omega arith in
    let same : get_or shares c.args.share v.items ≡ v.items = get_or-map (λ s. s.items) own c.args.share v v.items lt ∙ ap (λ s. s.items) (ap (λ (k : ℕ). get_or own k v) (sym c.from.ensures) ∙ sym c.index.ensures) in
    let one : length (get_or shares c.args.share v.items) ≡ length_of shares = c.self.invariant c.args.share v.items (omega arith) in
    let inside : c.args.offset + length c.args.out.now ≤ length_of shares = subst (λ (ss : List (List ℕ)). c.args.offset + length c.args.out.now ≤ length_of ss) (sym c.self.view_is) c.requires.inside in
    omega (arith, ap length c.part_of-bytes.ensures, length-take {A = ℕ}, length-drop {A = ℕ}, ap length c.deref.ensures.value, ap length same, one, inside)

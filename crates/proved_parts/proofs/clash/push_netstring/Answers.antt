use Rattle.std.proofs.Common.{◌≡◌, ◌++◌, List, ℕ, [], ◌∷◌, length, ap, ◌∙◌, refl, append_assoc}
use Rattle.std.specs.Fmt.{digits}
use Rattle.tagged_hash.specs.TaggedHash.{netstring}
use Rattle.proved_parts.proofs.clash.push_netstring.Goals as goal

netstring-hash : (hash old : List ℕ) → length hash ≡ 32 → ((old ++ (51 ∷ 50 ∷ 58 ∷ [])) ++ hash) ++ (44 ∷ []) ≡ old ++ netstring hash
unfolding digits
netstring-hash hash old long = rw long (simp append_assoc refl)

pub returns : goal.returns
returns c =
    c.in_ok-push.ensures.items
    ∙ ap (λ (xs : List ℕ). xs ++ 44 ∷ []) (c.in_ok-extend_from_slice-2.ensures.items
    ∙ ap (λ (xs : List ℕ). xs ++ c.args.hash.now) c.in_ok-extend_from_slice.ensures.items)
    ∙ netstring-hash c.args.hash.now c.args.input.now.items c.told-hash

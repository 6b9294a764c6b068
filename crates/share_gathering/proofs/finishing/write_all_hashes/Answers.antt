use Rattle.std.proofs.Common.{◌≡◌, ℕ, [], ◌∷◌, ◌++◌, All, length, map, ap, subst, sym, ◌∙◌, zero-add}
use Rattle.std.proofs.lemmas.List.{map_push}
use Rattle.std.proofs.lemmas.List.Elements.{All-push}
use Rattle.std.proofs.lemmas.List.FromFn.{map-range_with_len_more}
use Rattle.file_encoding.specs.Encoding.{share_hashes}
use Rattle.share_gathering.specs.Finishing.{hashes_length}
use Rattle.share_gathering.proofs.finishing.write_all_hashes.Goals as goal

pub loop-number-preserved : goal.loop-number-preserved
loop-number-preserved c =
    let n : ℕ = c.loop-number.number in
    record {
      value =
          ap (map (λ (h : _). h.items)) c.in_ok-push.ensures.items ∙ map_push (λ (h : _). h.items) c.loop-number.hashes.items c.in_ok-write_share_hashes.field-0
          ∙ (λ p. c.loop-number.invariant.value p ++ c.in_ok-write_share_hashes.ensures.value p ∷ [])
          ∙ sym (map-range_with_len_more (share_hashes c.args.tree.now) 0 n n (zero-add n));
      long =
          subst (λ (l : _). All (λ (h : _). length h.items ≡ hashes_length c.args.total) l) (sym c.in_ok-push.ensures.items)
          (All-push (λ (h : _). length h.items ≡ hashes_length c.args.total) c.loop-number.hashes.items c.in_ok-write_share_hashes.field-0 c.loop-number.invariant.long (c.in_ok-write_share_hashes.ensures.long ∙ ap hashes_length c.requires.all));
    }

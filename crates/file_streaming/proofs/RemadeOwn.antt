-- Without a clash the shares of a padded ciphertext are those of the file's encoding.
use Rattle.std.proofs.Common.{◌≡◌, ℕ, ◌<◌, List, [], length, slice_index_or, ap, subst, sym, ◌∙◌, arith, zero-add}
use Rattle.std.proofs.lemmas.List.{ext_get_or}
use Rattle.std.proofs.lemmas.List.FromFn.{get_or-map-range_with_len, length-map-range_with_len}
use Rattle.aes_ctr.specs.CounterMode.{xored}
use Rattle.tagged_hash.specs.ConvergentKey.{convergent_key_of}
use Rattle.cap_text.specs.Cap.{VerifyCapValue, verify_cap_of}
use Rattle.ueb.specs.Shape.{Contents}
use Rattle.share_layout.specs.Geometry.{Geometry, geometry_of}
use Rattle.share_verify.specs.CapBlock.{geometry_by}
use Rattle.share_verify.specs.Verify.{IsSound}
use Rattle.file_encoding.specs.Encoding.{Parameters, encoding_of}
use Rattle.file_encoding.specs.Padded.{padded_sections, padded_share, padded_shares}
use Rattle.file_encoding.proofs.Binding.{file_shares_are_bound}
use Rattle.file_encoding.proofs.Encodable.{length-shares}
use Rattle.file_encoding.proofs.OwnFile.{total_is}
use Rattle.file_encoding.proofs.RemadePassing.{padded_passes}
use Rattle.file_streaming.specs.Remade.{AreOfFile, IsTextOf}

cap_total : (file secret : List ℕ) (p : Parameters) → (verify_cap_of (encoding_of file secret p).cap).total ≡ p.total
unfolding encoding_of
cap_total file secret p =
    let g : Geometry = geometry_of (length file) p.needed p.total p.max_segment in
    let key : List ℕ = convergent_key_of p.needed p.total g.segment_size secret file in
    total_is g key (xored key file)

module _ (file secret : List ℕ) (p : Parameters) (cap : VerifyCapValue) (extension_block : List ℕ) (u : Contents) (text : List ℕ)
    (is : IsTextOf cap extension_block u text) (of : AreOfFile file secret p cap extension_block u text) where
  abbrev g : Geometry
  g = geometry_by u

  abbrev own : List (List ℕ)
  own = (encoding_of file secret p).shares

  total : u.total_shares ≡ p.total
  total = is.ueb.total ∙ ap (λ (c : VerifyCapValue). c.total) of.is_cap ∙ cap_total file secret p

  one_own : (i : ℕ) → i < u.total_shares → padded_share g text extension_block i ≡ slice_index_or own i []
  one_own i low =
      file_shares_are_bound of.inputs of.no_clash file secret p of.shape of.encoded i (padded_share g text extension_block i) u (padded_sections g text extension_block i)
      record {
        sound = subst (λ (c : VerifyCapValue). IsSound c i (padded_share g text extension_block i) u (padded_sections g text extension_block i)) of.is_cap
            (padded_passes cap extension_block u text is.ueb is.size is.ciphertext_root is.share_root i low);
        among = of.checked i low;
      }

  pub all_own : padded_shares g text extension_block ≡ own
  all_own =
      let count : length (padded_shares g text extension_block) ≡ u.total_shares = length-map-range_with_len (padded_share g text extension_block) 0 u.total_shares in
      ext_get_or [] (padded_shares g text extension_block) own (count ∙ total ∙ sym (length-shares file secret p))
      (λ i below.
      let low : i < u.total_shares = omega (arith, below, count) in
      get_or-map-range_with_len (padded_share g text extension_block) 0 u.total_shares i i [] low (zero-add i) ∙ one_own i low)

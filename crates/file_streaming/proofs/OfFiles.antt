-- What is kept of a file without its cap is kept of the file's bytes.
use Rattle.std.proofs.Common.{◌≡◌, ℕ, List, map, refl, ap, sym, ◌∙◌}
use Rattle.std.specs.Prelude.{Some}
use Rattle.std.specs.List.{range_with_len}
use Rattle.aes_ctr.specs.CounterMode.{xored}
use Rattle.cap_text.specs.Cap.{ReadCapValue}
use Rattle.share_layout.specs.Geometry.{Geometry}
use Rattle.share_layout.specs.Pieces.{segments_of}
use Rattle.share_verify.specs.Pieces.{block_hashes}
use Rattle.file_encoding.specs.Encoding.{Parameters, blocks_of, ciphertext_encoding}
use Rattle.block_making.specs.Making.{ciphertext_from}
use Rattle.share_gathering.specs.KeptFile.{IsKeptOf, KeptFile}
use Rattle.file_streaming.specs.Prepared.{PreparedFile, geometry_for, key_for, prepared_by, prepared_of, prepared_with}

cap_key : (g : Geometry) (key ciphertext : List ℕ) → (prepared_by g key ciphertext).cap.key ≡ key
unfolding ciphertext_encoding
cap_key g key ciphertext = refl

pub kept_of_file : (k : KeptFile) (cap : ReadCapValue) (file secret : List ℕ) (q : Parameters) → k.key ≡ Some cap.key
    → prepared_with k.geometry cap k.extension_block k.leaves k.block_leaves k.digests ≡ prepared_of file secret q → IsKeptOf k file
kept_of_file k cap file secret q keyed is =
    let h : Geometry = geometry_for file q in
    let key : List ℕ = key_for file secret q in
    let same : k.geometry ≡ h = ap (λ (p : PreparedFile). p.geometry) is in
    let same_key : k.key ≡ Some key = keyed ∙ ap (λ (l : List ℕ). Some l) (ap (λ (p : PreparedFile). p.cap.key) is ∙ cap_key h key (xored key file)) in
    record {
      long = sym (ap (λ (g : Geometry). g.size) same);
      block_leaves =
          ap (λ (p : PreparedFile). p.block_leaves) is
          ∙ λ i. map (λ j. block_hashes (blocks_of (sym same i).needed j (segments_of (sym same i) (ciphertext_from (sym same_key i) 0 file)))) (range_with_len 0 (sym same i).total);
    }

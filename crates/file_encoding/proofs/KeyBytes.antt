-- A file's key is a list of bytes.
use Rattle.std.proofs.Common.{ℕ, zero, suc, List, get_or}
use Rattle.std.specs.Int.{w32, to_be_bytes}
use Rattle.sha2.specs.Sha256.{digest_bytes, sha256}
use Rattle.tagged_hash.specs.ConvergentKey.{convergent_key_of, key_input}
use Rattle.tagged_hash.specs.TaggedHash.{double_sha256}
use Rattle.file_encoding.proofs.Bytes.{AreBytes, bytes-append, bytes-none, bytes-number, bytes-take}

bytes-digest : (words : List ℕ) (n : ℕ) → AreBytes (digest_bytes words n)
unfolding digest_bytes
bytes-digest words zero = bytes-none
bytes-digest words (suc n) = bytes-append (digest_bytes words n) (to_be_bytes w32 (get_or words n 0)) (bytes-digest words n) (bytes-number (get_or words n 0))

bytes-hash : (input : List ℕ) → AreBytes (double_sha256 input)
unfolding double_sha256 sha256
bytes-hash input = bytes-digest _ 8

pub bytes-key : (k n segment_size : ℕ) (secret file : List ℕ) → AreBytes (convergent_key_of k n segment_size secret file)
bytes-key k n segment_size secret file =
    let input : List ℕ = key_input k n segment_size secret file in
    bytes-take 16 (double_sha256 input) (bytes-hash input)

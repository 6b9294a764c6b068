-- The digest of a share has 32 bytes.
use Rattle.std.proofs.Common.{◌<◌, ℕ, zero, suc, ◌/◌, ◌^◌, List, length, sym, subst, inl, inr, arith}
use Rattle.std.specs.Prelude.{All}
use Rattle.std.specs.Int.{byte_at, bytes_high_first, to_be_bytes, w32}
use Rattle.std.specs.List.{slice_index}
use Rattle.std.proofs.lemmas.Bool.{cases_lt}
use Rattle.std.proofs.lemmas.List.{get_or_past}
use Rattle.std.proofs.lemmas.List.Elements.{All-append, All-cons, All-get_or, All-nil}
use Rattle.std.proofs.lemmas.Nat.{mod_below}
use Rattle.cap_text.specs.Base32.{IsBytes}
use Rattle.sha2.specs.Sha256.{digest_bytes, sha256}
use Rattle.tagged_hash.specs.TaggedHash.{HashesHave32Bytes, double_sha256, share_digest, tagged_input}
use Rattle.tagged_hash.specs.declared.tag.Tag.TheVariants.{WholeShare}

abbrev IsSmall : ℕ → Type 0
IsSmall b = b < 256

byte_small : (k n : ℕ) → byte_at k n < 256
byte_small zero n = mod_below n 256 (omega arith)
byte_small (suc k) n = mod_below (n / 256 ^ suc k) 256 (omega arith)

high_small : (k n : ℕ) → All IsSmall (bytes_high_first k n)
high_small zero n = All-nil IsSmall
high_small (suc k) n = All-cons IsSmall (byte_at k n) (bytes_high_first k n) (byte_small k n) (high_small k n)

digest_small : (h : List ℕ) (n : ℕ) → All IsSmall (digest_bytes h n)
unfolding digest_bytes
digest_small h zero = All-nil IsSmall
digest_small h (suc n) = All-append IsSmall (digest_bytes h n) (to_be_bytes w32 (slice_index h n)) (digest_small h n) (high_small 4 (slice_index h n))

hash_small : (input : List ℕ) → All IsSmall (double_sha256 input)
unfolding double_sha256 sha256
hash_small input = digest_small _ 8

all_below : (bytes : List ℕ) → All IsSmall bytes → (i : ℕ) → slice_index bytes i < 256
all_below bytes small i = elim (cases_lt i (length bytes)) [
  | inl within ↦ All-get_or IsSmall bytes i 0 within small
  | inr past ↦ subst (λ (b : ℕ). b < 256) (sym (get_or_past bytes i 0 past)) (omega arith)
]

pub digest_is_bytes : HashesHave32Bytes → (bytes : List ℕ) → IsBytes 32 (share_digest bytes)
digest_is_bytes long bytes = record {
  len = long (tagged_input WholeShare bytes);
  below = all_below (share_digest bytes) (hash_small (tagged_input WholeShare bytes));
}

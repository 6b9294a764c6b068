use Rattle.std.proofs.Common.{◌≡◌, ◌<◌, ◌^◌, ℕ, List, [], length, map, get_or, sym, ap, subst, ext_get_or, ◌∙◌, arith}
use Rattle.std.proofs.lemmas.List.{get_or-map, length-map}
use Rattle.sha2.specs.Sha256.{digest_bytes, final_hash, initial_hash_256, sha256}
use Rattle.sha2_lanes.specs.Lanes.{no_slice}
use Rattle.sha2_lanes.proofs.DigestLemmas.{small_hash}
use Rattle.sha2_lanes.proofs.double_sha256_of_eight.Goals as goal

pub hashes-requires-clause-messages : goal.hashes-requires-clause-messages
hashes-requires-clause-messages c j below = c.requires.messages j no_slice (omega arith)

pub second-requires-clause-words : goal.second-requires-clause-words
second-requires-clause-words c j k below =
    subst (λ (w : List ℕ). get_or w k 0 < 2 ^ 32) (sym (c.hashes.ensures.lanes j below)) (small_hash _ _ k)

pub returns : goal.returns
unfolding sha256
returns c =
    let ms = c.args.messages.now in
    let all : List (List ℕ) = c.digests.result in
    let count : length all ≡ 8 = omega arith in
    let many : length ms ≡ 8 = omega arith in
    ext_get_or [] all (map _ ms) (count ∙ sym (length-map ms _ ∙ many))
    (λ j within.
    let below : j < 8 = omega arith in
    c.digests.ensures j below
    ∙ ap (λ (w : List ℕ). digest_bytes w 8)
    (c.second.ensures.lanes j below ∙ ap (λ (w : List ℕ). final_hash initial_hash_256 (digest_bytes w 8)) (c.hashes.ensures.lanes j below))
    ∙ sym (get_or-map _ ms j no_slice [] (omega arith)))

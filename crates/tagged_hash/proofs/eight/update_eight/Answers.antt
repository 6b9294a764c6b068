use Rattle.std.proofs.Common.{◌≡◌, ℕ, ◌<◌, List, [], ◌∷◌, ◌++◌, Some, length, get_or, refl, sym, ap, subst, ◌∙◌, arith}
use Rattle.std.proofs.lemmas.List.{append_assoc}
use Rattle.std.proofs.lemmas.Option.{same_Some, slice_get-get_or, slice_get_within}
use Rattle.lemmas.proofs.Eights.{by_eight}
use Rattle.sha2_lanes.specs.Lanes.{text}
use Rattle.sha2_lanes.specs.Stream as streams
use Rattle.sha2_lanes.specs.declared.stream.Sha256Stream.{Sha256Stream}
use Rattle.tagged_hash.specs.Tag.{tag_text}
use Rattle.tagged_hash.specs.TaggedHash.{netstring, tagged_input}
use Rattle.tagged_hash.specs.TaggedHasher.{Holds, HoldsIn, IsInput}
use Rattle.tagged_hash.specs.declared.hasher.TaggedHasher.{TaggedHasher}
use Rattle.tagged_hash.specs.declared.tag.Tag.{Tag}
use Rattle.tagged_hash.proofs.eight.update_eight.Goals as goal

-- one of the eight was given its piece, and became this one
one : (hashers : List TaggedHasher) (j : ℕ) (default made : TaggedHasher) (s : Sha256Stream) (piece : List ℕ) (all : List Sha256Stream) (d : Sha256Stream)
    → j < length all → s ≡ (get_or hashers j default).input.stream → made.input.stream ≡ get_or all j d
    → ((m : List ℕ) → streams.Holds s m → streams.HoldsIn all j (m ++ piece)) → (tag : Tag) (given : List ℕ) → HoldsIn hashers j tag given
    → Holds made tag (given ++ piece)
unfolding Holds IsInput
one hashers j default made s piece all d within copied of gives tag given held =
    let low : j < length hashers = slice_get_within hashers j held.hasher held.there in
    let own : get_or hashers j default ≡ held.hasher = same_Some _ held.hasher (sym (slice_get-get_or hashers j default low) ∙ held.there) in
    let before : streams.Holds s (tagged_input tag given) =
    subst (λ (x : Sha256Stream). streams.Holds x (tagged_input tag given)) (sym (copied ∙ ap (λ (h : TaggedHasher). h.input.stream) own)) held.holds in
    let after = gives (tagged_input tag given) before in
    let here : after.stream ≡ made.input.stream =
    same_Some after.stream made.input.stream (sym after.there ∙ slice_get-get_or all j d within ∙ ap Some (sym of)) in
    subst (λ (x : Sha256Stream). streams.Holds x (tagged_input tag (given ++ piece))) here
    (subst (streams.Holds after.stream) (append_assoc (netstring (tag_text tag)) given piece) after.holds)

pub returns : goal.returns
returns c = λ j tag given below held.
    let piece : ℕ → List ℕ = text c.args.pieces.now in
    by_eight (λ q. HoldsIn c.args.hashers.now q tag given → HoldsIn (c.of.result ∷ c.of-2.result ∷ c.of-3.result ∷ c.of-4.result ∷ c.of-5.result ∷ c.of-6.result ∷ c.of-7.result ∷ c.of-8.result ∷ []) q tag (given ++ piece q))
    (λ h. record {
      hasher = c.of.result;
      there = refl;
      holds = one c.args.hashers.now 0 _ c.of.result c.stream.result (piece 0) c.update_eight.new.streams _ (omega (arith, c.update_eight.array_long)) c.stream.ensures c.of.ensures
          (λ m given. c.update_eight.ensures 0 m (omega arith) (record { stream = c.stream.result; there = refl; holds = given })) tag given h;
    })
    (λ h. record {
      hasher = c.of-2.result;
      there = refl;
      holds = one c.args.hashers.now 1 _ c.of-2.result c.stream-2.result (piece 1) c.update_eight.new.streams _ (omega (arith, c.update_eight.array_long)) c.stream-2.ensures c.of-2.ensures
          (λ m given. c.update_eight.ensures 1 m (omega arith) (record { stream = c.stream-2.result; there = refl; holds = given })) tag given h;
    })
    (λ h. record {
      hasher = c.of-3.result;
      there = refl;
      holds = one c.args.hashers.now 2 _ c.of-3.result c.stream-3.result (piece 2) c.update_eight.new.streams _ (omega (arith, c.update_eight.array_long)) c.stream-3.ensures c.of-3.ensures
          (λ m given. c.update_eight.ensures 2 m (omega arith) (record { stream = c.stream-3.result; there = refl; holds = given })) tag given h;
    })
    (λ h. record {
      hasher = c.of-4.result;
      there = refl;
      holds = one c.args.hashers.now 3 _ c.of-4.result c.stream-4.result (piece 3) c.update_eight.new.streams _ (omega (arith, c.update_eight.array_long)) c.stream-4.ensures c.of-4.ensures
          (λ m given. c.update_eight.ensures 3 m (omega arith) (record { stream = c.stream-4.result; there = refl; holds = given })) tag given h;
    })
    (λ h. record {
      hasher = c.of-5.result;
      there = refl;
      holds = one c.args.hashers.now 4 _ c.of-5.result c.stream-5.result (piece 4) c.update_eight.new.streams _ (omega (arith, c.update_eight.array_long)) c.stream-5.ensures c.of-5.ensures
          (λ m given. c.update_eight.ensures 4 m (omega arith) (record { stream = c.stream-5.result; there = refl; holds = given })) tag given h;
    })
    (λ h. record {
      hasher = c.of-6.result;
      there = refl;
      holds = one c.args.hashers.now 5 _ c.of-6.result c.stream-6.result (piece 5) c.update_eight.new.streams _ (omega (arith, c.update_eight.array_long)) c.stream-6.ensures c.of-6.ensures
          (λ m given. c.update_eight.ensures 5 m (omega arith) (record { stream = c.stream-6.result; there = refl; holds = given })) tag given h;
    })
    (λ h. record {
      hasher = c.of-7.result;
      there = refl;
      holds = one c.args.hashers.now 6 _ c.of-7.result c.stream-7.result (piece 6) c.update_eight.new.streams _ (omega (arith, c.update_eight.array_long)) c.stream-7.ensures c.of-7.ensures
          (λ m given. c.update_eight.ensures 6 m (omega arith) (record { stream = c.stream-7.result; there = refl; holds = given })) tag given h;
    })
    (λ h. record {
      hasher = c.of-8.result;
      there = refl;
      holds = one c.args.hashers.now 7 _ c.of-8.result c.stream-8.result (piece 7) c.update_eight.new.streams _ (omega (arith, c.update_eight.array_long)) c.stream-8.ensures c.of-8.ensures
          (λ m given. c.update_eight.ensures 7 m (omega arith) (record { stream = c.stream-8.result; there = refl; holds = given })) tag given h;
    })
    j below held

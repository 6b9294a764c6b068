-- Pieces for which all that is hashed is of a kind without a clash.
use Rattle.std.proofs.Common.{◌≡◌, ℕ, List, ◌∷◌, ◌++◌, inl, inr, Some, Contains, subst}
use Rattle.std.specs.Prelude.{slice_get}
use Rattle.std.proofs.lemmas.List.Elements.{Contains-append_cases, Contains-append_left, Contains-append_right}
use Rattle.lemmas.proofs.Members.{contains_cases}
use Rattle.tagged_hash.specs.Clash.{HasNoClashIn}
use Rattle.tagged_hash.specs.TaggedHash.{tagged_input}
use Rattle.tagged_hash.specs.declared.tag.Tag.TheVariants.{ExtensionBlock}
use Rattle.tagged_hash.proofs.ClashLemmas.{no_clash_of}
use Rattle.merkle.proofs.InputLemmas.{member_here, member_there}
use Rattle.cap_text.specs.Cap.{ReadCapValue}
use Rattle.ueb.specs.Shape.{Contents}
use Rattle.share_layout.specs.Pieces.{segments_of}
use Rattle.share_verify.specs.CapBlock.{geometry_by}
use Rattle.proved_parts.specs.Evidence.{segment_inputs, segments_inputs}
use Rattle.proved_parts.specs.FileOf.{IsFileOf}
use Rattle.download_segments.specs.declared.piece.Piece.{Piece}
use Rattle.download_segments.specs.Agreement.{HasByte, IsGivenAmong, IsGivenIn}
use Rattle.download_segments.proofs.AgreementLemmas.{pieces_agree, pieces_of_file}

pub given_weaker : (P Q : List ℕ → Type 0) (cap : ReadCapValue) (block : List ℕ) (u : Contents) (p : Piece) → ((input : List ℕ) → P input → Q input)
    → IsGivenIn P cap block u p → IsGivenIn Q cap block u p
given_weaker P Q cap block u p weaker f = record {
  block = f.block;
  given = f.given;
  block_hashed = weaker (tagged_input ExtensionBlock block) f.block_hashed;
  segment_hashed = λ input among. weaker input (f.segment_hashed input among);
}

module _ (P : List ℕ → Type 0) (cap : ReadCapValue) (block : List ℕ) (u : Contents) (p : Piece) (f : IsGivenIn P cap block u p) where
  -- all that is hashed for it
  abbrev pub hashed_for : List (List ℕ)
  hashed_for = tagged_input ExtensionBlock block ∷ segment_inputs f.given.number f.given.segment f.given.siblings

  pub hashed_are : (input : List ℕ) → Contains hashed_for input → P input
  hashed_are input among = elim (contains_cases (tagged_input ExtensionBlock block) input (segment_inputs f.given.number f.given.segment f.given.siblings) among) [
    | inl is ↦ subst P is f.block_hashed
    | inr rest ↦ f.segment_hashed input rest
  ]

  pub given_among : IsGivenAmong hashed_for cap block u p
  given_among = record {
    block = f.block;
    given = f.given;
    block_hashed = member_here (tagged_input ExtensionBlock block) (segment_inputs f.given.number f.given.segment f.given.siblings);
    segment_hashed = λ input among. member_there (tagged_input ExtensionBlock block) input (segment_inputs f.given.number f.given.segment f.given.siblings) among;
  }

-- no offset of a cap's file has two bytes
pub agree_in : (P : List ℕ → Type 0) → HasNoClashIn P → (cap : ReadCapValue) (first second : List ℕ) (u v : Contents) (p q : Piece)
    → IsGivenIn P cap first u p → IsGivenIn P cap second v q → (offset a b : ℕ) → HasByte p offset a → HasByte q offset b → a ≡ b
agree_in P none cap first second u v p q f g =
    let these = hashed_for P cap first u p f in
    let those = hashed_for P cap second v q g in
    pieces_agree (these ++ those)
    (no_clash_of P (these ++ those) none (λ input among. elim (Contains-append_cases these those input among) [
      | inl here ↦ hashed_are P cap first u p f input here
      | inr there ↦ hashed_are P cap second v q g input there
    ]))
    cap first second u v p q
    (given_weaker (Contains these) (Contains (these ++ those)) cap first u p (Contains-append_left these those) (given_among P cap first u p f))
    (given_weaker (Contains those) (Contains (these ++ those)) cap second v q (Contains-append_right these those) (given_among P cap second v q g))

-- each byte is the one of the cap's file, where that is known
pub file_agrees_in : (P : List ℕ → Type 0) → HasNoClashIn P → (cap : ReadCapValue) (block other : List ℕ) (u v : Contents) (ciphertext file : List ℕ) (p : Piece)
    → IsFileOf cap block u ciphertext file → P (tagged_input ExtensionBlock block)
    → ((input : List ℕ) → Contains (segments_inputs (segments_of (geometry_by u) ciphertext)) input → P input)
    → IsGivenIn P cap other v p → (offset byte : ℕ) → HasByte p offset byte → slice_get file offset ≡ Some byte
file_agrees_in P none cap block other u v ciphertext file p whole hashed own f =
    let these = hashed_for P cap other v p f in
    let tree : List (List ℕ) = segments_inputs (segments_of (geometry_by u) ciphertext) in
    let those : List (List ℕ) = tagged_input ExtensionBlock block ∷ tree in
    pieces_of_file (these ++ those)
    (no_clash_of P (these ++ those) none (λ input among. elim (Contains-append_cases these those input among) [
      | inl here ↦ hashed_are P cap other v p f input here
      | inr there ↦ elim (contains_cases (tagged_input ExtensionBlock block) input tree there) [
        | inl is ↦ subst P is hashed
        | inr rest ↦ own input rest
      ]
    ]))
    cap block other u v ciphertext file p whole
    (Contains-append_right these those _ (member_here (tagged_input ExtensionBlock block) tree))
    (λ input among. Contains-append_right these those input (member_there (tagged_input ExtensionBlock block) input tree among))
    (given_weaker (Contains these) (Contains (these ++ those)) cap other v p (Contains-append_left these those) (given_among P cap other v p f))

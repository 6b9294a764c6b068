-- The shares of a file can be uploaded: they are few, of one length, and not long.
use Rattle.std.proofs.Common.{◌≡◌, ℕ, ◌<◌, ◌≤◌, Bool, true, false, true≢false, inl, inr, List, [], length, ◌∙◌, ap, sym, subst, arith}
use Rattle.std.proofs.lemmas.Bool.{cases_lt}
use Rattle.std.proofs.lemmas.List.{get_or_default}
use Rattle.cap_text.specs.Cap.{ReadCapValue, VerifyCapValue}
use Rattle.cap_text.specs.declared.cap.Cap.{Cap}
use Rattle.cap_text.specs.declared.cap.Cap.TheVariants.{Chk, Verify, Lit}
use Rattle.ueb.specs.Limits.{min_file_size}
use Rattle.file_encoding.specs.Encoding.{encoding_of}
use Rattle.file_encoding.specs.Params.{AreChosen, IsEncodable, UploadParameters, parameters_of}
use Rattle.file_encoding.specs.RemadeLaws.{ArePassing}
use Rattle.file_encoding.proofs.Encodable.{has_shape, length-shares}
use Rattle.file_encoding.proofs.OwnShares.{shares_have_one_length}
use Rattle.file_encoding.proofs.ShareSizes.{shares_are_not_long}
use Rattle.file_upload.specs.Shares.{AreFit}

pub are_fit : (file secret : List ℕ) (p : UploadParameters) → AreChosen p.needed p.happy p.total p.max_segment → min_file_size ≤ length file
    → IsEncodable (length file) p → (shares : List (List ℕ)) → shares ≡ (encoding_of file secret (parameters_of p)).shares → AreFit shares
are_fit file secret p chosen not_small encodable shares same =
    let q = parameters_of p in
    let own = (encoding_of file secret q).shares in
    let shape = has_shape (length file) p chosen not_small encodable in
    let count : length own ≡ p.total = length-shares file secret q in
    let first : 0 < p.total = omega (arith, chosen.some_needed, chosen.enough) in
    let bounds = shares_are_not_long file secret q shape 0 first in
    subst AreFit (sym same) record {
      few = omega (arith, count, chosen.shares);
      one_length = λ i d inside.
          ap length (get_or_default own i d [] inside)
          ∙ shares_have_one_length file secret q shape i 0 (omega (arith, count, inside)) first;
      some = bounds.0;
      short = bounds.1;
    }

abbrev is_literal : Cap → Bool
is_literal (Chk cap) = false
is_literal (Verify cap) = false
is_literal (Lit file) = true

-- so are those that were encoded with a read cap
pub chk_are_fit : (file secret : List ℕ) (p : UploadParameters) → AreChosen p.needed p.happy p.total p.max_segment → (cap : Cap) (read : ReadCapValue) → cap ≡ Chk read
    → (length file < min_file_size → cap ≡ Lit file) → (min_file_size ≤ length file → IsEncodable (length file) p) → (shares : List (List ℕ))
    → (min_file_size ≤ length file → shares ≡ (encoding_of file secret (parameters_of p)).shares) → AreFit shares
chk_are_fit file secret p chosen cap read is literal encodable shares same =
    elim (cases_lt (length file) min_file_size) [
      | inl small ↦ absurd (true≢false (sym (ap is_literal (literal small)) ∙ ap is_literal is))
      | inr large ↦ are_fit file secret p chosen large (encodable large) shares (same large)
    ]

-- and those that are made anew
pub passing_are_fit : (cap : VerifyCapValue) (shares : List (List ℕ)) → 0 < cap.total → cap.total ≤ 256 → ArePassing cap shares → AreFit shares
passing_are_fit cap shares some few p = record {
  few = omega (arith, p.count, few);
  one_length = λ i d inside. ap length (get_or_default shares i d [] inside) ∙ p.one_length i 0 (omega (arith, p.count, inside)) some;
  some = p.some 0 some;
  short = p.short 0 some;
}

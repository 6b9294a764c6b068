-- The numbers that a share's hashes carry.
use Rattle.std.proofs.Common.{◌≡◌, ◌≢◌, ℕ, ◌+◌, ◌*◌, ◌<◌, List, length, take, drop, get_or, sym, subst, arith}
use Rattle.std.specs.Int.{w16, to_be_bytes}
use Rattle.std.proofs.lemmas.List.{drop_more, drop_all, nil_from_length}
use Rattle.share_layout.specs.Share.{CarriesNumbers}

-- the hashes carry the numbers exactly where what is left of them carries what is left of those
pub record Left (numbers hashes : List ℕ) (offset : ℕ) (rest : List ℕ) : Type 0 where
  pub long : length rest + 34 * offset ≡ length hashes
  pub whole : CarriesNumbers (drop offset numbers) rest → CarriesNumbers numbers hashes
  pub left : CarriesNumbers numbers hashes → CarriesNumbers (drop offset numbers) rest

-- one number on
pub left_more : (numbers hashes rest after : List ℕ) (offset : ℕ) → offset < length numbers → Left numbers hashes offset rest
    → take 2 rest ≡ to_be_bytes w16 (get_or numbers offset 0) → after ≡ drop 34 rest → length after + 34 ≡ length rest → Left numbers hashes (offset + 1) after
left_more numbers hashes rest after offset there l same is long =
    let e = drop_more numbers offset 0 there in record {
      long = omega (arith, l.long);
      whole = λ carried. l.whole (subst (λ ns. CarriesNumbers ns rest) (sym e) (same, subst (λ r. CarriesNumbers (drop (offset + 1) numbers) r) is carried));
      left = λ carried. subst (λ r. CarriesNumbers (drop (offset + 1) numbers) r) (sym is) (subst (λ ns. CarriesNumbers ns rest) e (l.left carried)).1;
    }

-- another number
pub left_other : (numbers hashes rest : List ℕ) (offset : ℕ) → offset < length numbers → Left numbers hashes offset rest
    → take 2 rest ≢ to_be_bytes w16 (get_or numbers offset 0) → CarriesNumbers numbers hashes → ⊥
left_other numbers hashes rest offset there l other carried =
    other (subst (λ ns. CarriesNumbers ns rest) (drop_more numbers offset 0 there) (l.left carried)).0

-- all numbers
pub left_none : (numbers hashes rest : List ℕ) (offset : ℕ) → length numbers ≡ offset → length hashes ≡ 34 * offset → Left numbers hashes offset rest
    → CarriesNumbers numbers hashes
left_none numbers hashes rest offset all long l =
    l.whole (subst (λ ns. CarriesNumbers ns rest) (sym (drop_all offset numbers (omega arith))) (nil_from_length rest (omega (arith, l.long))))

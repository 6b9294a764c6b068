-- Bytes that were copied, piece by piece.
use Rattle.std.proofs.Common.{◌≡◌, ℕ, ◌+◌, List, [], ◌++◌, Option, None, Some, IfSome, length, sym, ap, ◌∙◌, subst, arith, refl, append-nil}
use Rattle.std.proofs.lemmas.List.{length-append}
use Rattle.std.proofs.KnownBytes.{Consumes-nil, Consumes-trans, Appends-nil, Appends-trans}
use Rattle.std.specs.Io.KnownBytes.{Appends, Consumes, IsAtEnd}
use Rattle.user_files.specs.Pieces.{Copies}

pub none_copied : (old before : Option (List ℕ)) → Copies old old before before 0
none_copied old before = record { bytes = []; read = Consumes-nil old; written = Appends-nil before; counted = refl }

pub more_copied : (a b c p q r : Option (List ℕ)) (m n : ℕ) → Copies a b p q m → Copies b c q r n → Copies a c p r (m + n)
more_copied a b c p q r m n one two = record {
  bytes = one.bytes ++ two.bytes;
  read = Consumes-trans a b c one.bytes two.bytes one.read two.read;
  written = Appends-trans p q r one.bytes two.bytes one.written two.written;
  counted = omega (arith, one.counted, two.counted, length-append one.bytes two.bytes);
}

all_taken : (a b p q : Option (List ℕ)) (bytes : List ℕ) → Consumes a b bytes → Appends p q bytes → IsAtEnd b → IfSome a (λ all. Appends p q all × (length bytes ≡ length all))
all_taken None b p q bytes taken put end = tt
all_taken (Some xs) None p q bytes taken put end = absurd taken
all_taken (Some xs) (Some ys) p q bytes taken put end =
    let same : bytes ≡ xs = sym (taken ∙ ap (λ l. bytes ++ l) end ∙ append-nil bytes) in
    (subst (λ l. Appends p q l) same put, ap length same)

pub all_copied : (a b p q : Option (List ℕ)) (n : ℕ) → Copies a b p q n → IsAtEnd b → IfSome a (λ all. Appends p q all × (n ≡ length all))
all_copied a b p q n one end = IfSome-map a (all_taken a b p q one.bytes one.read one.written end)
  where
    IfSome-map : (o : Option (List ℕ)) → IfSome o (λ all. Appends p q all × (length one.bytes ≡ length all)) → IfSome o (λ all. Appends p q all × (n ≡ length all))
    IfSome-map None so = tt
    IfSome-map (Some xs) so = (so.0, one.counted ∙ so.1)

pub copied_to_end : (a b c p q r : Option (List ℕ)) (x n written size : ℕ) → Copies a b p q x → Copies b c q r n → n ≡ 0 → IsAtEnd c → size ≡ written + x → IfSome a (λ left. Appends p r left × (size ≡ written + length left))
copied_to_end a b c p q r x n written size one two none end is = shifted a (all_copied a c p r (x + n) (more_copied a b c p q r x n one two) end)
  where
    shifted : (o : Option (List ℕ)) → IfSome o (λ all. Appends p r all × (x + n ≡ length all)) → IfSome o (λ all. Appends p r all × (size ≡ written + length all))
    shifted None so = tt
    shifted (Some xs) so = (so.0, omega (arith, so.1, none, is))

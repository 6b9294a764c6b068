-- Reading held shares one after the other, as a loop does.
use Rattle.std.proofs.Common.{◌≡◌, ℕ, suc, ◌-◌, ◌+◌, ◌≤◌, ◌<◌, List, [], ◌∷◌, ◌++◌, Result, Ok, Err, refl, sym, ap, ◌∙◌, append_assoc, arith}
use Rattle.std.proofs.lemmas.List.{append-nil}
use Rattle.wire.specs.declared.error.WireError.{WireError}
use Rattle.wire.specs.declared.error.WireError.TheVariants.{OutOfMemory, BadLength, BadKind, BadFields}
use Rattle.wire.specs.declared.message.HeldShare.{HeldShare}
use Rattle.wire.specs.Reading.{◌>>=◌, Fails, held_share_at, shares_at}

-- what was read before, and what is still read
abbrev pub with_front : List HeldShare → Result (List HeldShare × List ℕ) WireError → Result (List HeldShare × List ℕ) WireError
with_front front read = read >>= λ x. Ok (front ++ x.0, x.1)

regroup : (front : List HeldShare) (h : HeldShare) (read : Result (List HeldShare × List ℕ) WireError) → with_front front (read >>= λ x. Ok (h ∷ x.0, x.1)) ≡ with_front (front ++ h ∷ []) read
regroup front h (Ok x) = ap (λ (hs : List HeldShare). Ok (hs, x.1)) (simp append_assoc)
regroup front h (Err f) = refl

pub goes_on : (front : List HeldShare) (count i : ℕ) (bytes : List ℕ) (h : HeldShare) (after : List ℕ) (total : Result (List HeldShare × List ℕ) WireError) → i < count → held_share_at bytes ≡ Ok (h, after)
    → with_front front (shares_at (count - i) bytes) ≡ total → with_front (front ++ h ∷ []) (shares_at (count - (i + 1)) after) ≡ total
unfolding shares_at
goes_on front count i bytes h after total lt read so_far =
    let k : count - i ≡ suc (count - (i + 1)) = omega arith in
    let one : with_front front (shares_at (count - i) bytes) ≡ with_front (front ++ h ∷ []) (shares_at (count - (i + 1)) after) = rw (k, read) (regroup front h (shares_at (count - (i + 1)) after)) in
    sym one ∙ so_far

fails : (f : WireError) (front : List HeldShare) (count i : ℕ) (bytes : List ℕ) (total : Result (List HeldShare × List ℕ) WireError) → i < count → held_share_at bytes ≡ Err f
    → with_front front (shares_at (count - i) bytes) ≡ total → total ≡ Err f
unfolding shares_at
fails f front count i bytes total lt read so_far =
    let k : count - i ≡ suc (count - (i + 1)) = omega arith in
    let one : with_front front (shares_at (count - i) bytes) ≡ Err f = rw (k, read) refl in
    sym so_far ∙ one

pub ends : (e : WireError) (front : List HeldShare) (count i : ℕ) (bytes : List ℕ) (total : Result (List HeldShare × List ℕ) WireError) → i < count → Fails e (held_share_at bytes)
    → with_front front (shares_at (count - i) bytes) ≡ total → Fails e total
ends OutOfMemory front count i bytes total lt h so_far = tt
ends BadLength front count i bytes total lt h so_far = fails BadLength front count i bytes total lt h so_far
ends BadKind front count i bytes total lt h so_far = fails BadKind front count i bytes total lt h so_far
ends BadFields front count i bytes total lt h so_far = fails BadFields front count i bytes total lt h so_far

pub is_done : (front : List HeldShare) (count i : ℕ) (bytes : List ℕ) (total : Result (List HeldShare × List ℕ) WireError) → count ≤ i → with_front front (shares_at (count - i) bytes) ≡ total → total ≡ Ok (front, bytes)
unfolding shares_at
is_done front count i bytes total le so_far =
    let k : count - i ≡ 0 = omega arith in
    let one : with_front front (shares_at (count - i) bytes) ≡ Ok (front, bytes) = rw k (ap (λ (hs : List HeldShare). Ok (hs, bytes)) (append-nil front)) in
    sym so_far ∙ one

-- The fields of each kind: what is read was written, and what was written is read again.
use Rattle.std.proofs.Common.{◌≡◌, ℕ, zero, suc, ◌^◌, ◌≤◌, Bool, true, false, cond, leb, List, [], ◌∷◌, ◌++◌, length, Some, None, Result, Ok, Err, refl, sym, ap, subst, ◌∙◌, append_assoc, arith}
use Rattle.std.specs.Prelude.{◌&&◌}
use Rattle.std.specs.Int.{w16, w32, w64, to_be_bytes}
use Rattle.std.specs.List.{flat_map}
use Rattle.std.proofs.lemmas.Bool.{leb-true, le-leb}
use Rattle.std.proofs.lemmas.List.{append-nil}
use Rattle.std.proofs.lemmas.List.Elements.{recursion_from_All}
use Rattle.byteorder.specs.Endian.{big_bytes}
use Rattle.wire.specs.declared.error.WireError.{WireError}
use Rattle.wire.specs.declared.error.WireError.TheVariants.{BadFields}
use Rattle.wire.specs.declared.message.Body.{Body}
use Rattle.wire.specs.declared.message.Body.TheVariants.{Ask, Have, Allocate, Granted, Already, Busy, Full, Write, Wrote, WrongOffset, Close, Closed, NotComplete, Abort, Read, Data, NoShare}
use Rattle.wire.specs.declared.kind.Kind.{Kind}
use Rattle.wire.specs.declared.kind.Kind.TheVariants as kinds
use Rattle.wire.specs.declared.message.ShareId.{ShareId}
use Rattle.wire.specs.declared.message.HeldShare.{HeldShare}
use Rattle.wire.specs.Held.{rises_from, held_list, IsHeldShare}
use Rattle.wire.specs.Ranges.{share_length, read_length, write_data, read_data}
use Rattle.wire.specs.Kinds.{kind_of}
use Rattle.wire.specs.Frames.{share_id, held_share, flag, fields, IsBody}
use Rattle.wire.specs.Reading.{◌>>=◌, number_at, shares_at, flag_at, count_at, in_range, have_at, allocate_at, write_at, read_at, data_at, fields_at}
use Rattle.wire.proofs.FieldLaws.{IsBytes, IsBytes-rest, passed_ok, bind_ok, ok_is, step, Takes, Takes-then, Reads, reads_2, reads_4, reads_8, bytes_reads}
use Rattle.wire.proofs.ShareLaws.{share_id_reads, shares_take, shares_again}
use Rattle.wire.proofs.HeldLaws.{both}

-- ---- values in their ranges

-- a value that was found to be in its range
chosen : {A : Type 0} (b : Bool) (x y : A) → in_range (cond b (Some x) None) ≡ Ok y → (b ≡ true) × (x ≡ y)
chosen true x y e = (refl, ok_is x y e)
chosen false x y e = absurd cc

range_is : (low high n : ℕ) → (leb low n && leb n high) ≡ true → (low ≤ n) × (n ≤ high)
range_is low high n e =
    let t = both (leb low n) (leb n high) e in
    (leb-true _ _ t.0, leb-true _ _ t.1)

range_again : (low high n : ℕ) → low ≤ n → n ≤ high → (leb low n && leb n high) ≡ true
range_again low high n above below = rw (le-leb low n above, le-leb n high below) refl

share_length_is : (n len : ℕ) → in_range (share_length n) ≡ Ok len → (1 ≤ n) × (n ≤ 2 ^ 41) × (n ≡ len)
share_length_is n len e =
    let g = chosen (leb 1 n && leb n (2 ^ 41)) n len e in
    let r = range_is 1 (2 ^ 41) n g.0 in
    (r.0, r.1, g.1)

share_length_again : (n : ℕ) → 1 ≤ n → n ≤ 2 ^ 41 → share_length n ≡ Some n
share_length_again n above below = ap (λ (b : Bool). cond b (Some n) None) (range_again 1 (2 ^ 41) n above below)

read_length_is : (n len : ℕ) → in_range (read_length n) ≡ Ok len → (1 ≤ n) × (n ≤ 32768) × (n ≡ len)
read_length_is n len e =
    let g = chosen (leb 1 n && leb n 32768) n len e in
    let r = range_is 1 32768 n g.0 in
    (r.0, r.1, g.1)

read_length_again : (n : ℕ) → 1 ≤ n → n ≤ 32768 → read_length n ≡ Some n
read_length_again n above below = ap (λ (b : Bool). cond b (Some n) None) (range_again 1 32768 n above below)

write_data_is : (bytes written : List ℕ) → in_range (write_data bytes) ≡ Ok written → (1 ≤ length bytes) × (length bytes ≤ 32768) × (bytes ≡ written)
write_data_is bytes written e =
    let g = chosen (leb 1 (length bytes) && leb (length bytes) 32768) bytes written e in
    let r = range_is 1 32768 (length bytes) g.0 in
    (r.0, r.1, g.1)

write_data_again : (bytes : List ℕ) → 1 ≤ length bytes → length bytes ≤ 32768 → write_data bytes ≡ Some bytes
write_data_again bytes above below = ap (λ (b : Bool). cond b (Some bytes) None) (range_again 1 32768 (length bytes) above below)

-- ---- the parts of a Have

flag_takes : (bytes : List ℕ) (x : Bool × List ℕ) → IsBytes bytes → flag_at bytes ≡ Ok x → Takes bytes (flag x.0 ∷ []) x.1 × Unit {0}
unfolding flag_at
flag_takes [] x fits e = absurd cc
flag_takes (zero ∷ rest) x fits e = subst (λ (y : Bool × List ℕ). Takes (0 ∷ rest) (flag y.0 ∷ []) y.1 × Unit {0}) (ok_is (false, rest) x e) (record { parts = refl; rest_fits = IsBytes-rest 0 rest fits }, tt)
flag_takes (suc zero ∷ rest) x fits e = subst (λ (y : Bool × List ℕ). Takes (1 ∷ rest) (flag y.0 ∷ []) y.1 × Unit {0}) (ok_is (true, rest) x e) (record { parts = refl; rest_fits = IsBytes-rest 1 rest fits }, tt)
flag_takes (suc (suc b) ∷ rest) x fits e = absurd cc

flag_again : (b : Bool) (rest : List ℕ) → Unit {0} → flag_at (flag b ∷ [] ++ rest) ≡ Ok (b, rest)
unfolding flag_at
flag_again false rest h = refl
flag_again true rest h = refl

flag_reads : Reads flag_at (λ b. flag b ∷ []) (λ b. Unit {0})
flag_reads = record { takes = flag_takes; again = flag_again }

count_reads : Reads count_at (big_bytes 2) (λ x. x ≤ 256)
unfolding count_at
count_reads = record {
  takes = λ bytes x fits e.
      let a = step reads_2 bytes (λ count. cond (leb count.0 256) (Ok count) (Err BadFields)) x fits e in
      let g = passed_ok (leb a.0.0 256) BadFields a.0 x a.1 in
      subst (λ (y : ℕ × List ℕ). Takes bytes (big_bytes 2 y.0) y.1 × (y.0 ≤ 256)) g.1 (a.2, leb-true _ _ g.0);
  again = λ x rest le.
      let small : leb x 256 ≡ true = le-leb _ _ le in
      rw (reads_2.again x rest (omega (arith, le)), small) refl;
}

-- ---- each kind of several fields

-- what is read of a kind is a body of that kind
pub record IsRead (kind : Kind) (bytes : List ℕ) (x : Body × List ℕ) : Type 0 where
  pub taken : Takes bytes (fields x.0) x.1
  pub right : IsBody x.0
  pub kind_is : kind_of x.0 ≡ kind

held_list_is : (shares held : List HeldShare) → in_range (held_list shares) ≡ Ok held → (rises_from 0 shares ≡ true) × (shares ≡ held)
held_list_is shares held e = chosen (rises_from 0 shares) shares held e

held_list_again : (shares : List HeldShare) → rises_from 0 shares ≡ true → held_list shares ≡ Some shares
held_list_again shares rise = ap (λ (b : Bool). cond b (Some shares) None) rise

have_takes : (bytes : List ℕ) (x : Body × List ℕ) → IsBytes bytes → have_at bytes ≡ Ok x → IsRead kinds.Have bytes x
unfolding have_at
have_takes bytes x fits e =
    let a = step flag_reads bytes (λ readonly. count_at readonly.1 >>= λ count. shares_at count.0 count.1 >>= λ shares. in_range (held_list shares.0) >>= λ held. Ok (Have readonly.0 held, shares.1)) x fits e in
    let b = step count_reads a.0.1 (λ count. shares_at count.0 count.1 >>= λ shares. in_range (held_list shares.0) >>= λ held. Ok (Have a.0.0 held, shares.1)) x a.2.rest_fits a.1 in
    let c = bind_ok (shares_at b.0.0 b.0.1) (λ shares. in_range (held_list shares.0) >>= λ held. Ok (Have a.0.0 held, shares.1)) x b.1 in
    let d = bind_ok (in_range (held_list c.0.0)) (λ held. Ok (Have a.0.0 held, c.0.1)) x c.2 in
    let g = held_list_is c.0.0 d.0 d.1 in
    let t = shares_take b.0.0 b.0.1 c.0 b.2.rest_fits c.1 in
    let one = Takes-then bytes (flag a.0.0 ∷ []) a.0.1 (big_bytes 2 b.0.0) b.0.1 a.2 b.2 in
    let all = Takes-then bytes (flag a.0.0 ∷ [] ++ big_bytes 2 b.0.0) b.0.1 (flat_map held_share c.0.0) c.0.1 one t.0 in
    let whole : Takes bytes (fields (Have a.0.0 c.0.0)) c.0.1 = subst (λ (k : ℕ). Takes bytes (flag a.0.0 ∷ [] ++ big_bytes 2 k ++ flat_map held_share c.0.0) c.0.1) (sym t.1) all in
    let made : Body × List ℕ = (Have a.0.0 c.0.0, c.0.1) in
    let is : made ≡ x = ap (λ (held : List HeldShare). (Have a.0.0 held, c.0.1)) g.1 ∙ ok_is (Have a.0.0 d.0, c.0.1) x d.2 in
    subst (λ (y : Body × List ℕ). IsRead kinds.Have bytes y) is
    (record { taken = whole; right = (omega (arith, t.1, b.3), g.0, t.2); kind_is = refl })

have_again : (readonly : Bool) (held : List HeldShare) (rest : List ℕ) → IsBody (Have readonly held) → have_at (fields (Have readonly held) ++ rest) ≡ Ok (Have readonly held, rest)
unfolding have_at
have_again readonly held rest fits =
    let count = to_be_bytes w16 (length held) in
    let shares = flat_map held_share held in
    let regrouped : fields (Have readonly held) ++ rest ≡ flag readonly ∷ [] ++ (count ++ (shares ++ rest)) = append_assoc (flag readonly ∷ [] ++ count) shares rest ∙ append_assoc (flag readonly ∷ []) count (shares ++ rest) in
    ap have_at regrouped ∙ rw (flag_reads.again readonly (count ++ (shares ++ rest)) tt, count_reads.again (length held) (shares ++ rest) fits.0, shares_again held rest (recursion_from_All IsHeldShare held fits.2), held_list_again held fits.1) refl

allocate_takes : (bytes : List ℕ) (x : Body × List ℕ) → IsBytes bytes → allocate_at bytes ≡ Ok x → IsRead kinds.Allocate bytes x
unfolding allocate_at
allocate_takes bytes x fits e =
    let a = step share_id_reads bytes (λ id. number_at 8 id.1 >>= λ n. in_range (share_length n.0) >>= λ len. Ok (Allocate id.0 len, n.1)) x fits e in
    let b = step reads_8 a.0.1 (λ n. in_range (share_length n.0) >>= λ len. Ok (Allocate a.0.0 len, n.1)) x a.2.rest_fits a.1 in
    let c = bind_ok (in_range (share_length b.0.0)) (λ len. Ok (Allocate a.0.0 len, b.0.1)) x b.1 in
    let g = share_length_is b.0.0 c.0 c.1 in
    let made : Body × List ℕ = (Allocate a.0.0 b.0.0, b.0.1) in
    let is : made ≡ x = ap (λ (len : ℕ). (Allocate a.0.0 len, b.0.1)) g.2 ∙ ok_is (Allocate a.0.0 c.0, b.0.1) x c.2 in
    subst (λ (y : Body × List ℕ). IsRead kinds.Allocate bytes y) is
    (record { taken = Takes-then bytes (share_id a.0.0) a.0.1 (big_bytes 8 b.0.0) b.0.1 a.2 b.2; right = (a.3, g.0, g.1); kind_is = refl })

allocate_again : (id : ShareId) (len : ℕ) (rest : List ℕ) → IsBody (Allocate id len) → allocate_at (fields (Allocate id len) ++ rest) ≡ Ok (Allocate id len, rest)
unfolding allocate_at
allocate_again id len rest fits =
    let regrouped : fields (Allocate id len) ++ rest ≡ share_id id ++ (to_be_bytes w64 len ++ rest) = append_assoc (share_id id) (to_be_bytes w64 len) rest in
    ap allocate_at regrouped ∙ rw (share_id_reads.again id (to_be_bytes w64 len ++ rest) fits.0, reads_8.again len rest (omega (arith, fits.2)), share_length_again len fits.1 fits.2) refl

write_takes : (bytes : List ℕ) (x : Body × List ℕ) → IsBytes bytes → write_at bytes ≡ Ok x → IsRead kinds.Write bytes x
unfolding write_at
write_takes bytes x fits e =
    let a = step share_id_reads bytes (λ id. number_at 8 id.1 >>= λ offset. in_range (write_data offset.1) >>= λ written. Ok (Write id.0 offset.0 written, [])) x fits e in
    let b = step reads_8 a.0.1 (λ offset. in_range (write_data offset.1) >>= λ written. Ok (Write a.0.0 offset.0 written, [])) x a.2.rest_fits a.1 in
    let c = bind_ok (in_range (write_data b.0.1)) (λ written. Ok (Write a.0.0 b.0.0 written, [])) x b.1 in
    let g = write_data_is b.0.1 c.0 c.1 in
    let last : Takes b.0.1 b.0.1 [] = record { parts = sym (append-nil b.0.1); rest_fits = λ i. omega arith } in
    let all = Takes-then bytes (share_id a.0.0 ++ big_bytes 8 b.0.0) b.0.1 b.0.1 [] (Takes-then bytes (share_id a.0.0) a.0.1 (big_bytes 8 b.0.0) b.0.1 a.2 b.2) last in
    let made : Body × List ℕ = (Write a.0.0 b.0.0 b.0.1, []) in
    let is : made ≡ x = ap (λ (written : List ℕ). (Write a.0.0 b.0.0 written, [])) g.2 ∙ ok_is (Write a.0.0 b.0.0 c.0, []) x c.2 in
    subst (λ (y : Body × List ℕ). IsRead kinds.Write bytes y) is
    (record { taken = all; right = (a.3, omega (arith, b.3), g.0, g.1); kind_is = refl })

write_again : (id : ShareId) (offset : ℕ) (bytes : List ℕ) → IsBody (Write id offset bytes) → write_at (fields (Write id offset bytes)) ≡ Ok (Write id offset bytes, [])
unfolding write_at
write_again id offset bytes fits =
    let regrouped : fields (Write id offset bytes) ≡ share_id id ++ (to_be_bytes w64 offset ++ bytes) = append_assoc (share_id id) (to_be_bytes w64 offset) bytes in
    ap write_at regrouped ∙ rw (share_id_reads.again id (to_be_bytes w64 offset ++ bytes) fits.0, reads_8.again offset bytes (omega (arith, fits.1)), write_data_again bytes fits.2 fits.3) refl

read_takes : (bytes : List ℕ) (x : Body × List ℕ) → IsBytes bytes → read_at bytes ≡ Ok x → IsRead kinds.Read bytes x
unfolding read_at
read_takes bytes x fits e =
    let a = step share_id_reads bytes (λ id. number_at 8 id.1 >>= λ offset. number_at 4 offset.1 >>= λ n. in_range (read_length n.0) >>= λ len. Ok (Read id.0 offset.0 len, n.1)) x fits e in
    let b = step reads_8 a.0.1 (λ offset. number_at 4 offset.1 >>= λ n. in_range (read_length n.0) >>= λ len. Ok (Read a.0.0 offset.0 len, n.1)) x a.2.rest_fits a.1 in
    let c = step reads_4 b.0.1 (λ n. in_range (read_length n.0) >>= λ len. Ok (Read a.0.0 b.0.0 len, n.1)) x b.2.rest_fits b.1 in
    let d = bind_ok (in_range (read_length c.0.0)) (λ len. Ok (Read a.0.0 b.0.0 len, c.0.1)) x c.1 in
    let g = read_length_is c.0.0 d.0 d.1 in
    let all = Takes-then bytes (share_id a.0.0 ++ big_bytes 8 b.0.0) b.0.1 (big_bytes 4 c.0.0) c.0.1 (Takes-then bytes (share_id a.0.0) a.0.1 (big_bytes 8 b.0.0) b.0.1 a.2 b.2) c.2 in
    let made : Body × List ℕ = (Read a.0.0 b.0.0 c.0.0, c.0.1) in
    let is : made ≡ x = ap (λ (len : ℕ). (Read a.0.0 b.0.0 len, c.0.1)) g.2 ∙ ok_is (Read a.0.0 b.0.0 d.0, c.0.1) x d.2 in
    subst (λ (y : Body × List ℕ). IsRead kinds.Read bytes y) is
    (record { taken = all; right = (a.3, omega (arith, b.3), g.0, g.1); kind_is = refl })

read_again : (id : ShareId) (offset len : ℕ) (rest : List ℕ) → IsBody (Read id offset len) → read_at (fields (Read id offset len) ++ rest) ≡ Ok (Read id offset len, rest)
unfolding read_at
read_again id offset len rest fits =
    let regrouped : fields (Read id offset len) ++ rest ≡ share_id id ++ (to_be_bytes w64 offset ++ (to_be_bytes w32 len ++ rest)) = append_assoc (share_id id ++ to_be_bytes w64 offset) (to_be_bytes w32 len) rest ∙ append_assoc (share_id id) (to_be_bytes w64 offset) (to_be_bytes w32 len ++ rest) in
    ap read_at regrouped ∙ rw (share_id_reads.again id (to_be_bytes w64 offset ++ (to_be_bytes w32 len ++ rest)) fits.0, reads_8.again offset (to_be_bytes w32 len ++ rest) (omega (arith, fits.1)), reads_4.again len rest (omega (arith, fits.3)), read_length_again len fits.2 fits.3) refl

data_takes : (bytes : List ℕ) (x : Body × List ℕ) → IsBytes bytes → data_at bytes ≡ Ok x → IsRead kinds.Data bytes x
unfolding data_at
data_takes bytes x fits e =
    let c = bind_ok (in_range (read_data bytes)) (λ found. Ok (Data found, [])) x e in
    let g = chosen (leb (length bytes) 32768) bytes c.0 c.1 in
    let made : Body × List ℕ = (Data bytes, []) in
    let is : made ≡ x = ap (λ (found : List ℕ). (Data found, [])) g.1 ∙ ok_is (Data c.0, []) x c.2 in
    subst (λ (y : Body × List ℕ). IsRead kinds.Data bytes y) is
    (record { taken = record { parts = sym (append-nil bytes); rest_fits = λ i. omega arith }; right = leb-true _ _ g.0; kind_is = refl })

data_again : (bytes : List ℕ) → length bytes ≤ 32768 → data_at bytes ≡ Ok (Data bytes, [])
unfolding data_at
data_again bytes fits = rw (le-leb (length bytes) 32768 fits) refl

-- ---- one field alone

one_takes : {A : Type 0} (kind : Kind) {reader : List ℕ → Result (A × List ℕ) WireError} {text : A → List ℕ} {Fits : A → Type 0} (right : Reads reader text Fits) (made : A → Body) (fields_are : (x : A) → fields (made x) ≡ text x) (body_is : (x : A) → Fits x → IsBody (made x)) (kind_is : (x : A) → kind_of (made x) ≡ kind)
    (bytes : List ℕ) (x : Body × List ℕ) → IsBytes bytes → (reader bytes >>= λ y. Ok (made y.0, y.1)) ≡ Ok x → IsRead kind bytes x
one_takes kind right made fields_are body_is kind_is bytes x fits e =
    let a = step right bytes (λ y. Ok (made y.0, y.1)) x fits e in
    subst (λ (y : Body × List ℕ). IsRead kind bytes y) (ok_is (made a.0.0, a.0.1) x a.1)
    (record { taken = rw (fields_are a.0.0) a.2; right = body_is a.0.0 a.3; kind_is = kind_is a.0.0 })

none_takes : (kind : Kind) (body : Body) → fields body ≡ [] → IsBody body → kind_of body ≡ kind → (bytes : List ℕ) (x : Body × List ℕ) → IsBytes bytes → (body, bytes) ≡ x → IsRead kind bytes x
none_takes kind body none right kind_is bytes x fits e =
    subst (λ (y : Body × List ℕ). IsRead kind bytes y) e (record { taken = record { parts = rw none refl; rest_fits = fits }; right = right; kind_is = kind_is })

-- ---- all kinds

pub fields_takes : (kind : Kind) (bytes : List ℕ) (x : Body × List ℕ) → IsBytes bytes → fields_at kind bytes ≡ Ok x → IsRead kind bytes x
unfolding fields_at
fields_takes kinds.Ask bytes x fits e = one_takes kinds.Ask (bytes_reads 16) Ask (λ y. refl) (λ y h. h) (λ y. refl) bytes x fits e
fields_takes kinds.Have bytes x fits e = have_takes bytes x fits e
fields_takes kinds.Allocate bytes x fits e = allocate_takes bytes x fits e
fields_takes kinds.Granted bytes x fits e = none_takes kinds.Granted Granted refl tt refl bytes x fits (ok_is (Granted, bytes) x e)
fields_takes kinds.Already bytes x fits e = one_takes kinds.Already (bytes_reads 32) Already (λ y. refl) (λ y h. h) (λ y. refl) bytes x fits e
fields_takes kinds.Busy bytes x fits e = none_takes kinds.Busy Busy refl tt refl bytes x fits (ok_is (Busy, bytes) x e)
fields_takes kinds.Full bytes x fits e = none_takes kinds.Full Full refl tt refl bytes x fits (ok_is (Full, bytes) x e)
fields_takes kinds.Write bytes x fits e = write_takes bytes x fits e
fields_takes kinds.Wrote bytes x fits e = one_takes kinds.Wrote reads_8 Wrote (λ y. refl) (λ y h. omega (arith, h)) (λ y. refl) bytes x fits e
fields_takes kinds.WrongOffset bytes x fits e = one_takes kinds.WrongOffset reads_8 WrongOffset (λ y. refl) (λ y h. omega (arith, h)) (λ y. refl) bytes x fits e
fields_takes kinds.Close bytes x fits e = one_takes kinds.Close share_id_reads Close (λ y. refl) (λ y h. h) (λ y. refl) bytes x fits e
fields_takes kinds.Closed bytes x fits e = one_takes kinds.Closed (bytes_reads 32) Closed (λ y. refl) (λ y h. h) (λ y. refl) bytes x fits e
fields_takes kinds.NotComplete bytes x fits e = one_takes kinds.NotComplete reads_8 NotComplete (λ y. refl) (λ y h. omega (arith, h)) (λ y. refl) bytes x fits e
fields_takes kinds.Abort bytes x fits e = one_takes kinds.Abort share_id_reads Abort (λ y. refl) (λ y h. h) (λ y. refl) bytes x fits e
fields_takes kinds.Read bytes x fits e = read_takes bytes x fits e
fields_takes kinds.Data bytes x fits e = data_takes bytes x fits e
fields_takes kinds.NoShare bytes x fits e = none_takes kinds.NoShare NoShare refl tt refl bytes x fits (ok_is (NoShare, bytes) x e)

-- a field alone at the end of the bytes
ended : {A : Type 0} {reader : List ℕ → Result (A × List ℕ) WireError} {text : A → List ℕ} {Fits : A → Type 0} (right : Reads reader text Fits) (x : A) → Fits x → reader (text x) ≡ Ok (x, [])
ended {reader = reader} {text = text} right x fits = ap reader (sym (append-nil (text x))) ∙ right.again x [] fits

abbrev pub behind : {A : Type 0} → (A → Body) → Result (A × List ℕ) WireError → Result (Body × List ℕ) WireError
behind made r = r >>= λ y. Ok (made y.0, y.1)

one_again : {A : Type 0} {reader : List ℕ → Result (A × List ℕ) WireError} {text : A → List ℕ} {Fits : A → Type 0} (right : Reads reader text Fits) (made : A → Body) (x : A) → Fits x → behind made (reader (text x)) ≡ Ok (made x, [])
one_again {A = A} right made x fits = ap (λ (r : Result (A × List ℕ) WireError). behind made r) (ended right x fits)

pub fields_again : (body : Body) → IsBody body → fields_at (kind_of body) (fields body) ≡ Ok (body, [])
unfolding fields_at
fields_again (Ask index) fits = one_again (bytes_reads 16) Ask index fits
fields_again (Have readonly held) fits = ap have_at (sym (append-nil (fields (Have readonly held)))) ∙ have_again readonly held [] fits
fields_again (Allocate id len) fits = ap allocate_at (sym (append-nil (fields (Allocate id len)))) ∙ allocate_again id len [] fits
fields_again Granted fits = refl
fields_again (Already digest) fits = one_again (bytes_reads 32) Already digest fits
fields_again Busy fits = refl
fields_again Full fits = refl
fields_again (Write id offset bytes) fits = write_again id offset bytes fits
fields_again (Wrote next) fits = one_again reads_8 Wrote next (omega (arith, fits))
fields_again (WrongOffset written) fits = one_again reads_8 WrongOffset written (omega (arith, fits))
fields_again (Close id) fits = one_again share_id_reads Close id fits
fields_again (Closed digest) fits = one_again (bytes_reads 32) Closed digest fits
fields_again (NotComplete written) fits = one_again reads_8 NotComplete written (omega (arith, fits))
fields_again (Abort id) fits = one_again share_id_reads Abort id fits
fields_again (Read id offset len) fits = ap read_at (sym (append-nil (fields (Read id offset len)))) ∙ read_again id offset len [] fits
fields_again (Data bytes) fits = data_again bytes fits
fields_again NoShare fits = refl

-- What a body of a frame is read as is what it spells, and what spells a message is read as that message.
use Rattle.std.proofs.Common.{◌≡◌, ℕ, zero, suc, Bool, true, false, cond, eqb, List, [], ◌∷◌, ◌++◌, length, Option, Some, None, Result, Ok, Err, refl, sym, ap, subst, ◌∙◌, append_assoc, arith}
use Rattle.std.proofs.Common.{inl, inr, take, drop, ltb, leb}
use Rattle.std.proofs.lemmas.Result.{IfErr-at_err}
use Rattle.std.specs.Prelude.{◌⊎◌, ◌≢◌, IfOk, IfErr, IsErrOf, find, nat_eq}
use Rattle.std.specs.Int.{w64, to_be_bytes}
use Rattle.std.proofs.lemmas.Bool.{eqb-true}
use Rattle.std.proofs.lemmas.List.{append-nil, nil_from_length}
use Rattle.byteorder.specs.Endian.{big_bytes, big_number}
use Rattle.wire.specs.declared.error.WireError.{WireError}
use Rattle.wire.specs.declared.error.WireError.TheVariants.{OutOfMemory, BadLength, BadKind, BadFields}
use Rattle.wire.specs.declared.message.Body.{Body}
use Rattle.wire.specs.declared.message.Body.TheVariants.{Ask, Have, Allocate, Already, Write, Wrote, WrongOffset, Close, Closed, NotComplete, Abort, Read, Data}
use Rattle.wire.specs.declared.message.Message.{Message}
use Rattle.wire.specs.declared.kind.Kind.{Kind}
use Rattle.wire.specs.declared.kind.Kind.TheVariants as kinds
use Rattle.wire.specs.Kinds.{number_of, all_kinds, kind_named, kind_of}
use Rattle.wire.specs.Frames.{fields, spelling, IsMessage, HasNoKind, HasBadFields}
use Rattle.wire.specs.Held.{held_list}
use Rattle.wire.specs.Ranges.{share_length, read_length, write_data, read_data}
use Rattle.wire.specs.Reading.{◌>>=◌, Gives, number_at, bytes_at, share_at, share_id_at, held_share_at, shares_at, flag_at, count_at, in_range, have_at, allocate_at, write_at, read_at, data_at, fields_at, message_at, message_of, decoded}
use Rattle.wire.proofs.FieldLaws.{IsBytes, IsBytes-rest, passed_ok, bind_ok, step, Takes-then, reads_8}
use Rattle.wire.proofs.BodyLaws.{behind, fields_takes, fields_again}

abbrev done : Message → Result Message WireError
done m = Ok m

abbrev failed : WireError → Result Message WireError
failed e = Err e

-- ---- kinds by their numbers

pub named_again : (kind : Kind) → kind_named (number_of kind) ≡ Some kind
named_again kinds.Ask = refl
named_again kinds.Have = refl
named_again kinds.Allocate = refl
named_again kinds.Granted = refl
named_again kinds.Already = refl
named_again kinds.Busy = refl
named_again kinds.Full = refl
named_again kinds.Write = refl
named_again kinds.Wrote = refl
named_again kinds.WrongOffset = refl
named_again kinds.Close = refl
named_again kinds.Closed = refl
named_again kinds.NotComplete = refl
named_again kinds.Abort = refl
named_again kinds.Read = refl
named_again kinds.Data = refl
named_again kinds.NoShare = refl

cond_found : (b : Bool) (k : Kind) (o : Option Kind) (kind : Kind) → cond b (Some k) o ≡ Some kind → ((b ≡ true) × (k ≡ kind)) ⊎ (o ≡ Some kind)
cond_found true k o kind e = inl (refl, cc)
cond_found false k o kind e = inr e

-- what is found has the number that was sought
found_number : (n : ℕ) (ks : List Kind) (kind : Kind) → find (λ k. nat_eq (number_of k) n) ks ≡ Some kind → number_of kind ≡ n
found_number n [] kind e = absurd cc
found_number n (k ∷ ks) kind e =
    elim (cond_found (nat_eq (number_of k) n) k (find (λ j. nat_eq (number_of j) n) ks) kind e) [
      | inl h ↦ ap number_of (sym h.1) ∙ eqb-true _ _ h.0
      | inr h ↦ found_number n ks kind h
    ]

pub named_is : (n : ℕ) (kind : Kind) → kind_named n ≡ Some kind → number_of kind ≡ n
named_is n kind e = found_number n all_kinds kind e

-- ---- messages

-- two outcomes of reading

err_is : (d e : WireError) → failed d ≡ failed e → d ≡ e
err_is d e h = cc

ok_no_err : (m : Message) (e : WireError) → done m ≡ failed e → ⊥
ok_no_err m e h = absurd cc

message_takes : (kind : Kind) (bytes : List ℕ) (m : Message) → IsBytes bytes → message_at kind bytes ≡ Ok m → IsMessage m × (kind_of m.body ≡ kind) × (bytes ≡ to_be_bytes w64 m.session ++ to_be_bytes w64 m.number ++ fields m.body)
unfolding message_at
message_takes kind bytes m fits e =
    let a = step reads_8 bytes (λ session. number_at 8 session.1 >>= λ number. fields_at kind number.1 >>= λ body. cond (eqb (length body.1) 0) (Ok (record { session = session.0; number = number.0; body = body.0 })) (Err BadFields)) m fits e in
    let b = step reads_8 a.0.1 (λ number. fields_at kind number.1 >>= λ body. cond (eqb (length body.1) 0) (Ok (record { session = a.0.0; number = number.0; body = body.0 })) (Err BadFields)) m a.2.rest_fits a.1 in
    let c = bind_ok (fields_at kind b.0.1) (λ body. cond (eqb (length body.1) 0) (Ok (record { session = a.0.0; number = b.0.0; body = body.0 })) (Err BadFields)) m b.1 in
    let made : Message = record { session = a.0.0; number = b.0.0; body = c.0.0 } in
    let g = passed_ok (eqb (length c.0.1) 0) BadFields made m c.2 in
    let t = fields_takes kind b.0.1 c.0 b.2.rest_fits c.1 in
    let nothing : c.0.1 ≡ [] = nil_from_length c.0.1 (eqb-true _ _ g.0) in
    let head = Takes-then bytes (big_bytes 8 a.0.0) a.0.1 (big_bytes 8 b.0.0) b.0.1 a.2 b.2 in
    let all = Takes-then bytes (big_bytes 8 a.0.0 ++ big_bytes 8 b.0.0) b.0.1 (fields c.0.0) c.0.1 head t.taken in
    let whole : bytes ≡ big_bytes 8 a.0.0 ++ big_bytes 8 b.0.0 ++ fields c.0.0 = all.parts ∙ ap (λ (r : List ℕ). (big_bytes 8 a.0.0 ++ big_bytes 8 b.0.0 ++ fields c.0.0) ++ r) nothing ∙ append-nil (big_bytes 8 a.0.0 ++ big_bytes 8 b.0.0 ++ fields c.0.0) in
    subst (λ (y : Message). IsMessage y × (kind_of y.body ≡ kind) × (bytes ≡ to_be_bytes w64 y.session ++ to_be_bytes w64 y.number ++ fields y.body)) g.1
    (record { session = omega (arith, a.3); number = omega (arith, b.3); body = t.right }, t.kind_is, whole)

message_again : (m : Message) → IsMessage m → message_at (kind_of m.body) (to_be_bytes w64 m.session ++ to_be_bytes w64 m.number ++ fields m.body) ≡ Ok m
unfolding message_at
message_again m fits =
    let session = to_be_bytes w64 m.session in
    let number = to_be_bytes w64 m.number in
    let regrouped : session ++ number ++ fields m.body ≡ session ++ (number ++ fields m.body) = append_assoc session number (fields m.body) in
    ap (message_at (kind_of m.body)) regrouped ∙ rw (reads_8.again m.session (number ++ fields m.body) (omega (arith, fits.session)), reads_8.again m.number (fields m.body) (omega (arith, fits.number)), fields_again m.body fits.body) refl

decoded_behind : (n : ℕ) (bytes : List ℕ) (m : Message) (o : Option Kind) → IsBytes bytes → kind_named n ≡ o → message_of o bytes ≡ Ok m → IsMessage m × (n ∷ bytes ≡ spelling m)
decoded_behind n bytes m None fits named e = absurd cc
decoded_behind n bytes m (Some kind) fits named e =
    let t = message_takes kind bytes m fits e in
    let number : number_of (kind_of m.body) ≡ n = ap number_of t.1 ∙ named_is n kind named in
    (t.0, rw (number, t.2) refl)

-- what is read is spelled so
pub decoded_takes : (bytes : List ℕ) (m : Message) → IsBytes bytes → decoded bytes ≡ Ok m → IsMessage m × (bytes ≡ spelling m)
unfolding decoded
decoded_takes [] m fits e = absurd cc
decoded_takes (n ∷ bytes) m fits e = decoded_behind n bytes m (kind_named n) (IsBytes-rest n bytes fits) refl e

-- what is spelled so is read
pub decoded_again : (m : Message) → IsMessage m → decoded (spelling m) ≡ Ok m
unfolding decoded
decoded_again m fits =
    let behind : List ℕ = to_be_bytes w64 m.session ++ to_be_bytes w64 m.number ++ fields m.body in
    ap (λ (o : Option Kind). message_of o behind) (named_again (kind_of m.body)) ∙ message_again m fits

-- ---- faults

-- a step's only fault is the fields
abbrev FieldsAlone : {A : Type 0} → Result A WireError → Type 0
FieldsAlone r = IfErr r (λ e. e ≡ BadFields)

alone_then : {A B : Type 0} (r : Result A WireError) (f : A → Result B WireError) → FieldsAlone r → ((x : A) → FieldsAlone (f x)) → FieldsAlone (r >>= f)
alone_then (Ok x) f h each = each x
alone_then (Err e) f h each = h

alone_guard : {A : Type 0} (b : Bool) (r : Result A WireError) → FieldsAlone r → FieldsAlone (cond b (Err BadFields) r)
alone_guard true r h = refl
alone_guard false r h = h

alone_if : {A : Type 0} (b : Bool) (x : A) → FieldsAlone (cond b (Ok x) (Err BadFields))
alone_if true x = tt
alone_if false x = refl

alone_number : (n : ℕ) (bytes : List ℕ) → FieldsAlone (number_at n bytes)
alone_number n bytes = alone_guard (ltb (length bytes) n) (Ok (big_number n bytes, drop n bytes)) tt

alone_bytes : (n : ℕ) (bytes : List ℕ) → FieldsAlone (bytes_at n bytes)
alone_bytes n bytes = alone_guard (ltb (length bytes) n) (Ok (take n bytes, drop n bytes)) tt

alone_range : {A : Type 0} (o : Option A) → FieldsAlone (in_range o)
alone_range None = refl
alone_range (Some x) = tt

alone_share : (bytes : List ℕ) → FieldsAlone (share_at bytes)
unfolding share_at
alone_share bytes = alone_then (number_at 2 bytes) (λ share. cond (ltb share.0 256) (Ok share) (Err BadFields)) (alone_number 2 bytes) (λ share. alone_if (ltb share.0 256) share)

alone_id : (bytes : List ℕ) → FieldsAlone (share_id_at bytes)
unfolding share_id_at
alone_id bytes = alone_then (bytes_at 16 bytes) (λ index. share_at index.1 >>= λ share. Ok (record { index = index.0; share = share.0 }, share.1)) (alone_bytes 16 bytes)
    (λ index. alone_then (share_at index.1) (λ share. Ok (record { index = index.0; share = share.0 }, share.1)) (alone_share index.1) (λ share. tt))

alone_held_share : (bytes : List ℕ) → FieldsAlone (held_share_at bytes)
unfolding held_share_at
alone_held_share bytes = alone_then (share_at bytes) (λ share. bytes_at 32 share.1 >>= λ digest. Ok (record { share = share.0; digest = digest.0 }, digest.1)) (alone_share bytes)
    (λ share. alone_then (bytes_at 32 share.1) (λ digest. Ok (record { share = share.0; digest = digest.0 }, digest.1)) (alone_bytes 32 share.1) (λ digest. tt))

alone_shares : (count : ℕ) (bytes : List ℕ) → FieldsAlone (shares_at count bytes)
unfolding shares_at
alone_shares zero bytes = tt
alone_shares (suc n) bytes = alone_then (held_share_at bytes) (λ first. shares_at n first.1 >>= λ others. Ok (first.0 ∷ others.0, others.1)) (alone_held_share bytes)
    (λ first. alone_then (shares_at n first.1) (λ others. Ok (first.0 ∷ others.0, others.1)) (alone_shares n first.1) (λ others. tt))

alone_flag : (bytes : List ℕ) → FieldsAlone (flag_at bytes)
unfolding flag_at
alone_flag [] = refl
alone_flag (zero ∷ rest) = tt
alone_flag (suc zero ∷ rest) = tt
alone_flag (suc (suc b) ∷ rest) = refl

alone_count : (bytes : List ℕ) → FieldsAlone (count_at bytes)
unfolding count_at
alone_count bytes = alone_then (number_at 2 bytes) (λ count. cond (leb count.0 256) (Ok count) (Err BadFields)) (alone_number 2 bytes) (λ count. alone_if (leb count.0 256) count)

-- one field, made into a body
alone_made : {A : Type 0} (r : Result (A × List ℕ) WireError) (made : A → Body) → FieldsAlone r → FieldsAlone (behind made r)
alone_made (Ok x) made h = tt
alone_made (Err e) made h = h

alone_fields : (kind : Kind) (bytes : List ℕ) → FieldsAlone (fields_at kind bytes)
unfolding fields_at have_at allocate_at write_at read_at data_at
alone_fields kinds.Ask bytes = alone_made (bytes_at 16 bytes) Ask (alone_bytes 16 bytes)
alone_fields kinds.Have bytes = alone_then (flag_at bytes) (λ readonly. count_at readonly.1 >>= λ count. shares_at count.0 count.1 >>= λ shares. in_range (held_list shares.0) >>= λ held. Ok (Have readonly.0 held, shares.1)) (alone_flag bytes)
    (λ readonly. alone_then (count_at readonly.1) (λ count. shares_at count.0 count.1 >>= λ shares. in_range (held_list shares.0) >>= λ held. Ok (Have readonly.0 held, shares.1)) (alone_count readonly.1)
    (λ count. alone_then (shares_at count.0 count.1) (λ shares. in_range (held_list shares.0) >>= λ held. Ok (Have readonly.0 held, shares.1)) (alone_shares count.0 count.1)
    (λ shares. alone_then (in_range (held_list shares.0)) (λ held. Ok (Have readonly.0 held, shares.1)) (alone_range (held_list shares.0)) (λ held. tt))))
alone_fields kinds.Allocate bytes = alone_then (share_id_at bytes) (λ id. number_at 8 id.1 >>= λ n. in_range (share_length n.0) >>= λ len. Ok (Allocate id.0 len, n.1)) (alone_id bytes)
    (λ id. alone_then (number_at 8 id.1) (λ n. in_range (share_length n.0) >>= λ len. Ok (Allocate id.0 len, n.1)) (alone_number 8 id.1)
    (λ n. alone_then (in_range (share_length n.0)) (λ len. Ok (Allocate id.0 len, n.1)) (alone_range (share_length n.0)) (λ len. tt)))
alone_fields kinds.Granted bytes = tt
alone_fields kinds.Already bytes = alone_made (bytes_at 32 bytes) Already (alone_bytes 32 bytes)
alone_fields kinds.Busy bytes = tt
alone_fields kinds.Full bytes = tt
alone_fields kinds.Write bytes = alone_then (share_id_at bytes) (λ id. number_at 8 id.1 >>= λ offset. in_range (write_data offset.1) >>= λ written. Ok (Write id.0 offset.0 written, [])) (alone_id bytes)
    (λ id. alone_then (number_at 8 id.1) (λ offset. in_range (write_data offset.1) >>= λ written. Ok (Write id.0 offset.0 written, [])) (alone_number 8 id.1)
    (λ offset. alone_then (in_range (write_data offset.1)) (λ written. Ok (Write id.0 offset.0 written, [])) (alone_range (write_data offset.1)) (λ written. tt)))
alone_fields kinds.Wrote bytes = alone_made (number_at 8 bytes) Wrote (alone_number 8 bytes)
alone_fields kinds.WrongOffset bytes = alone_made (number_at 8 bytes) WrongOffset (alone_number 8 bytes)
alone_fields kinds.Close bytes = alone_made (share_id_at bytes) Close (alone_id bytes)
alone_fields kinds.Closed bytes = alone_made (bytes_at 32 bytes) Closed (alone_bytes 32 bytes)
alone_fields kinds.NotComplete bytes = alone_made (number_at 8 bytes) NotComplete (alone_number 8 bytes)
alone_fields kinds.Abort bytes = alone_made (share_id_at bytes) Abort (alone_id bytes)
alone_fields kinds.Read bytes = alone_then (share_id_at bytes) (λ id. number_at 8 id.1 >>= λ offset. number_at 4 offset.1 >>= λ n. in_range (read_length n.0) >>= λ len. Ok (Read id.0 offset.0 len, n.1)) (alone_id bytes)
    (λ id. alone_then (number_at 8 id.1) (λ offset. number_at 4 offset.1 >>= λ n. in_range (read_length n.0) >>= λ len. Ok (Read id.0 offset.0 len, n.1)) (alone_number 8 id.1)
    (λ offset. alone_then (number_at 4 offset.1) (λ n. in_range (read_length n.0) >>= λ len. Ok (Read id.0 offset.0 len, n.1)) (alone_number 4 offset.1)
    (λ n. alone_then (in_range (read_length n.0)) (λ len. Ok (Read id.0 offset.0 len, n.1)) (alone_range (read_length n.0)) (λ len. tt))))
alone_fields kinds.Data bytes = alone_then (in_range (read_data bytes)) (λ found. Ok (Data found, [])) (alone_range (read_data bytes)) (λ found. tt)
alone_fields kinds.NoShare bytes = tt

alone_message : (kind : Kind) (bytes : List ℕ) → FieldsAlone (message_at kind bytes)
unfolding message_at
alone_message kind bytes = alone_then (number_at 8 bytes) (λ session. number_at 8 session.1 >>= λ number. fields_at kind number.1 >>= λ body. cond (eqb (length body.1) 0) (Ok (record { session = session.0; number = number.0; body = body.0 })) (Err BadFields)) (alone_number 8 bytes)
    (λ session. alone_then (number_at 8 session.1) (λ number. fields_at kind number.1 >>= λ body. cond (eqb (length body.1) 0) (Ok (record { session = session.0; number = number.0; body = body.0 })) (Err BadFields)) (alone_number 8 session.1)
    (λ number. alone_then (fields_at kind number.1) (λ body. cond (eqb (length body.1) 0) (Ok (record { session = session.0; number = number.0; body = body.0 })) (Err BadFields)) (alone_fields kind number.1)
    (λ body. alone_if (eqb (length body.1) 0) (record { session = session.0; number = number.0; body = body.0 }))))

-- what a fault of reading says of the bytes
abbrev Faulty : List ℕ → WireError → Type 0
Faulty bytes OutOfMemory = ⊥
Faulty bytes BadLength = ⊥
Faulty bytes BadKind = HasNoKind bytes
Faulty bytes BadFields = HasBadFields bytes

not_named : (n : ℕ) (kind : Kind) → kind_named n ≡ None → number_of kind ≢ n
not_named n kind none same =
    let found : kind_named n ≡ Some kind = ap kind_named (sym same) ∙ named_again kind in
    absurd (some_is_none kind (sym found ∙ none))
  where
    some_is_none : (k : Kind) → Some k ≡ None → ⊥
    some_is_none k e = absurd cc

faulty_behind : (n : ℕ) (bytes : List ℕ) (e : WireError) (o : Option Kind) → kind_named n ≡ o → message_of o bytes ≡ Err e → decoded (n ∷ bytes) ≡ Err e → Faulty (n ∷ bytes) e
faulty_behind n bytes e None named is all = subst (Faulty (n ∷ bytes)) (err_is BadKind e is) (λ kind. not_named n kind named)
faulty_behind n bytes e (Some kind) named is all =
    let fault : BadFields ≡ e = sym (IfErr-at_err (λ f. f ≡ BadFields) is (alone_message kind bytes)) in
    let kind_there : ¬ HasNoKind (n ∷ bytes) = λ h. h kind (named_is n kind named) in
    let unspelled : (m : Message) → IsMessage m → n ∷ bytes ≢ spelling m = λ m fits same. ok_no_err m e (sym (decoded_again m fits) ∙ sym (ap decoded same) ∙ all) in
    subst (Faulty (n ∷ bytes)) fault (kind_there, unspelled)

pub decoded_fault : (bytes : List ℕ) (e : WireError) → decoded bytes ≡ Err e → Faulty bytes e
unfolding decoded
decoded_fault [] e is = subst (Faulty []) (err_is BadKind e is) tt
decoded_fault (n ∷ bytes) e is = faulty_behind n bytes e (kind_named n) refl is is

-- ---- what a caller of `decode` learns

abbrev pub read_as : Result Message WireError → List ℕ → Type 0
read_as r bytes = Gives (λ m. m) r (decoded bytes)

pub found_from : (bytes : List ℕ) (r : Result Message WireError) → IsBytes bytes → read_as r bytes → IfOk r (λ m. IsMessage m × (bytes ≡ spelling m))
found_from bytes (Ok m) fits given = decoded_takes bytes m fits given
found_from bytes (Err e) fits given = tt

pub only_from : (bytes : List ℕ) (r : Result Message WireError) (m : Message) → read_as r bytes → IsMessage m → bytes ≡ spelling m → Gives (λ x. x) r (Ok m)
only_from bytes r m given fits same = subst (λ (f : Result Message WireError). Gives (λ (x : Message). x) r f) (ap decoded same ∙ decoded_again m fits) given

pub kind_from : (bytes : List ℕ) (r : Result Message WireError) → read_as r bytes → IsErrOf r BadKind → HasNoKind bytes
kind_from bytes r given is = decoded_fault bytes BadKind (subst (λ (f : Result Message WireError). read_as f bytes) is given)

pub fields_from : (bytes : List ℕ) (r : Result Message WireError) → read_as r bytes → IsErrOf r BadFields → HasBadFields bytes
fields_from bytes r given is = decoded_fault bytes BadFields (subst (λ (f : Result Message WireError). read_as f bytes) is given)

pub length_from : (bytes : List ℕ) (r : Result Message WireError) → read_as r bytes → IsErrOf r BadLength → ⊥
length_from bytes r given is = decoded_fault bytes BadLength (subst (λ (f : Result Message WireError). read_as f bytes) is given)

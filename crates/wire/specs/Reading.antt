-- Reading the body of a frame from left to right.
use Rattle.std.specs.Prelude.{◌≡◌, ℕ, zero, suc, Bool, true, false, List, [], ◌∷◌, length, take}
use Rattle.std.specs.Prelude.{drop, Option, Some, None, Result, Ok, Err, nat_lt, nat_le, ◌==◌}
use Rattle.std.specs.Prelude.{if◌then◌else◌}
use Rattle.byteorder.specs.Endian.{big_number}
use Rattle.wire.specs.declared.error.WireError.{WireError}
use Rattle.wire.specs.declared.error.WireError.TheVariants.{OutOfMemory, BadLength, BadKind}
use Rattle.wire.specs.declared.error.WireError.TheVariants.{BadFields}
use Rattle.wire.specs.declared.message.Body.{Body}
use Rattle.wire.specs.declared.message.Body.TheVariants.{Ask, Have, Allocate, Granted, Already}
use Rattle.wire.specs.declared.message.Body.TheVariants.{Busy, Full, Write, Wrote, WrongOffset}
use Rattle.wire.specs.declared.message.Body.TheVariants.{Close, Closed, NotComplete, Abort, Read}
use Rattle.wire.specs.declared.message.Body.TheVariants.{Data, NoShare}
use Rattle.wire.specs.declared.message.Message.{Message}
use Rattle.wire.specs.declared.message.ShareId.{ShareId}
use Rattle.wire.specs.declared.message.HeldShare.{HeldShare}
use Rattle.wire.specs.declared.kind.Kind.{Kind}
use Rattle.wire.specs.declared.kind.Kind.TheVariants as kinds
use Rattle.wire.specs.Limits.{most_shares}
use Rattle.wire.specs.Kinds.{kind_named}
use Rattle.wire.specs.Held.{held_list}
use Rattle.wire.specs.Ranges.{share_length, read_length, write_data, read_data}

infixl 10 ◌>>=◌
abbrev pub ◌>>=◌ :
    {A B : Type 0} → Result A WireError → (A → Result B WireError) → Result B WireError
(Ok x) >>= f = f x
(Err e) >>= f = Err e

-- What a function returned, seen by view, is what reading gives, unless memory ran out.
abbrev pub Fails : {Y : Type 0} → WireError → Result Y WireError → Type 0
Fails OutOfMemory read = Unit {0}
Fails BadLength read = read ≡ Err BadLength
Fails BadKind read = read ≡ Err BadKind
Fails BadFields read = read ≡ Err BadFields

abbrev pub Gives : {X Y : Type 0} → (X → Y) → Result X WireError → Result Y WireError → Type 0
Gives view (Ok x) read = read ≡ Ok (view x)
Gives view (Err e) read = Fails e read

-- A field is a value and the bytes after it.
abbrev pub number_at : ℕ → List ℕ → Result (ℕ × List ℕ) WireError
number_at n bytes =
    if nat_lt (length bytes) n then Err BadFields else Ok (big_number n bytes, drop n bytes)

abbrev pub bytes_at : ℕ → List ℕ → Result (List ℕ × List ℕ) WireError
bytes_at n bytes =
    if nat_lt (length bytes) n then Err BadFields else Ok (take n bytes, drop n bytes)

-- a value that is in its range
abbrev pub in_range : {A : Type 0} → Option A → Result A WireError
in_range None = Err BadFields
in_range (Some x) = Ok x

unfoldable pub share_at : List ℕ → Result (ℕ × List ℕ) WireError
share_at bytes = do
  share ← number_at 2 bytes
  if nat_lt share.0 most_shares then Ok share else Err BadFields

unfoldable pub share_id_at : List ℕ → Result (ShareId × List ℕ) WireError
share_id_at bytes = do
  index ← bytes_at 16 bytes
  share ← share_at index.1
  Ok (record { index = index.0; share = share.0 }, share.1)

unfoldable pub held_share_at : List ℕ → Result (HeldShare × List ℕ) WireError
held_share_at bytes = do
  share ← share_at bytes
  digest ← bytes_at 32 share.1
  Ok (record { share = share.0; digest = digest.0 }, digest.1)

-- so many shares
unfoldable pub shares_at : ℕ → List ℕ → Result (List HeldShare × List ℕ) WireError
shares_at zero bytes = Ok ([], bytes)
shares_at (suc n) bytes = do
  first ← held_share_at bytes
  others ← shares_at n first.1
  Ok (first.0 ∷ others.0, others.1)

unfoldable pub flag_at : List ℕ → Result (Bool × List ℕ) WireError
flag_at [] = Err BadFields
flag_at (zero ∷ rest) = Ok (false, rest)
flag_at (suc zero ∷ rest) = Ok (true, rest)
flag_at (suc (suc b) ∷ rest) = Err BadFields

unfoldable pub count_at : List ℕ → Result (ℕ × List ℕ) WireError
count_at bytes = do
  count ← number_at 2 bytes
  if nat_le count.0 most_shares then Ok count else Err BadFields

unfoldable pub have_at : List ℕ → Result (Body × List ℕ) WireError
have_at bytes = do
  readonly ← flag_at bytes
  count ← count_at readonly.1
  shares ← shares_at count.0 count.1
  held ← in_range (held_list shares.0)
  Ok (Have readonly.0 held, shares.1)

unfoldable pub allocate_at : List ℕ → Result (Body × List ℕ) WireError
allocate_at bytes = do
  id ← share_id_at bytes
  n ← number_at 8 id.1
  len ← in_range (share_length n.0)
  Ok (Allocate id.0 len, n.1)

-- the data is all that is left
unfoldable pub write_at : List ℕ → Result (Body × List ℕ) WireError
write_at bytes = do
  id ← share_id_at bytes
  offset ← number_at 8 id.1
  written ← in_range (write_data offset.1)
  Ok (Write id.0 offset.0 written, [])

unfoldable pub read_at : List ℕ → Result (Body × List ℕ) WireError
read_at bytes = do
  id ← share_id_at bytes
  offset ← number_at 8 id.1
  n ← number_at 4 offset.1
  len ← in_range (read_length n.0)
  Ok (Read id.0 offset.0 len, n.1)

unfoldable pub data_at : List ℕ → Result (Body × List ℕ) WireError
data_at bytes = do
  found ← in_range (read_data bytes)
  Ok (Data found, [])

-- the fields of a kind
unfoldable pub fields_at : Kind → List ℕ → Result (Body × List ℕ) WireError
fields_at kinds.Ask bytes = bytes_at 16 bytes >>= λ index. Ok (Ask index.0, index.1)
fields_at kinds.Have bytes = have_at bytes
fields_at kinds.Allocate bytes = allocate_at bytes
fields_at kinds.Granted bytes = Ok (Granted, bytes)
fields_at kinds.Already bytes = bytes_at 32 bytes >>= λ digest. Ok (Already digest.0, digest.1)
fields_at kinds.Busy bytes = Ok (Busy, bytes)
fields_at kinds.Full bytes = Ok (Full, bytes)
fields_at kinds.Write bytes = write_at bytes
fields_at kinds.Wrote bytes = number_at 8 bytes >>= λ next. Ok (Wrote next.0, next.1)
fields_at kinds.WrongOffset bytes =
    number_at 8 bytes >>= λ written. Ok (WrongOffset written.0, written.1)
fields_at kinds.Close bytes = share_id_at bytes >>= λ id. Ok (Close id.0, id.1)
fields_at kinds.Closed bytes = bytes_at 32 bytes >>= λ digest. Ok (Closed digest.0, digest.1)
fields_at kinds.NotComplete bytes =
    number_at 8 bytes >>= λ written. Ok (NotComplete written.0, written.1)
fields_at kinds.Abort bytes = share_id_at bytes >>= λ id. Ok (Abort id.0, id.1)
fields_at kinds.Read bytes = read_at bytes
fields_at kinds.Data bytes = data_at bytes
fields_at kinds.NoShare bytes = Ok (NoShare, bytes)

-- all of the bytes behind the kind
unfoldable pub message_at : Kind → List ℕ → Result Message WireError
message_at kind bytes = do
  session ← number_at 8 bytes
  number ← number_at 8 session.1
  body ← fields_at kind number.1
  if length body.1 == 0
      then Ok (record { session = session.0; number = number.0; body = body.0 })
      else Err BadFields

abbrev pub message_of : Option Kind → List ℕ → Result Message WireError
message_of None bytes = Err BadKind
message_of (Some kind) bytes = message_at kind bytes

-- the message of a body
unfoldable pub decoded : List ℕ → Result Message WireError
decoded [] = Err BadKind
decoded (n ∷ bytes) = message_of (kind_named n) bytes

-- What a server answers of a share that it has.
use Rattle.std.proofs.Common.{◌≡◌, ℕ, List, [], Bool, true, false, cond, not, Option, Some, None, Ok, take, drop, refl, sym, ◌∙◌, ap, subst}
use Rattle.std.specs.Prelude.{option_map}
use mathlib.Core.Bool.{true≢false}
use Rattle.wire.specs.declared.message.Body.{Body}
use Rattle.wire.specs.declared.message.Body.TheVariants.{Ask, Have, Allocate, Granted, Already, Busy, Full, Write, Wrote, WrongOffset, Close, Closed, NotComplete, Abort, Read, Data, NoShare}
use Rattle.wire.specs.declared.message.Message.{Message}
use Rattle.wire.specs.declared.message.ShareId.{ShareId}
use Rattle.tagged_hash.specs.TaggedHash.{HashesHave32Bytes, share_digest}
use Rattle.share_store.specs.Shelf.{ShareKey, at, key_of}
use Rattle.share_folders.specs.declared.table.KeptShare.{KeptShare}
use Rattle.share_folders.specs.Names.{IsShareKey, closed_name}
use Rattle.share_folders.specs.Relied.{IsReliedWhole}
use Rattle.cap_text.specs.Base32.{IsBytes}
use Rattle.server_core.specs.declared.bucket.Gathered.{Gathered}
use Rattle.server_core.specs.declared.bucket.Gathered.TheVariants.{Part, Whole}
use Rattle.server_core.specs.declared.bucket.Bucket.{Bucket}
use Rattle.server_core.specs.Buckets.{bucket_at, is_owned}
use Rattle.server_core.specs.ServerState as server
use Rattle.server_core.specs.ServerState.{Line, Outcome, allocate_line, write_line, close_line, close_gathered, read_line, line_of}
use Rattle.server_core.specs.ServerState.{Silent, Says, Touches, Opens, Ends, ListsHoldings, WritesBytes, ClosesShare, ReadsShare}
use Rattle.folder_keeping.specs.Store.{Facts, Has, disk_calls, IsSyncing}
use Rattle.folder_keeping.specs.Kept.{AreOpen, Contents, IsSafe}
use Rattle.folder_keeping.proofs.Keys.{some_one}
use Rattle.folder_keeping.proofs.SafeShares.{safe_closed}
use Rattle.folder_keeping.specs.Serving.{FolderServer}
use Rattle.folder_keeping.specs.Served.{IsAnswerOf}
use Rattle.folder_keeping.proofs.DigestBytes.{digest_is_bytes}
use Rattle.folder_keeping.proofs.Feeding.{AreFed, whole_known}

body_of : (m r : Message) (body : Body) → r ≡ server.reply_to m body → r.body ≡ body
body_of m r body is = ap (λ (x : Message). x.body) is

-- ---- a share that is there

module _ {D F : Type 0} (d : Facts D F) (s t : FolderServer D F) (time : ℕ) (m r : Message) (honest : d.honest t.store.disk) where
  abbrev Gives : Line → Type 0
  Gives line = server.Does (disk_calls d) line time s m (Ok (Some r)) t

  -- where the share is told as closed
  abbrev told : ShareId → Option (List ℕ)
  told id = option_map (λ (k : KeptShare). k.digest) (at (key_of id) s.store.closed)

  told_is : (id : ShareId) (key : ShareKey) (digest bytes : List ℕ) → key_of id ≡ key → IsSafe d s.store key digest bytes → told id ≡ Some digest
  told_is id key digest bytes same safe =
      ap (λ (k : ShareKey). option_map (λ (k : KeptShare). k.digest) (at k s.store.closed)) same ∙ ap (option_map (λ (k : KeptShare). k.digest)) safe.has.kept.noted.there

  said : (body : Body) → Gives (Says body) → r.body ≡ body
  said body x = body_of m r body x.answer

  allocated : (from session : ℕ) (id : ShareId) (len : ℕ) (full : Bool) (o : Option (List ℕ)) (bucket : Option Bucket) (digest : List ℕ) → o ≡ Some digest → Gives (allocate_line from session id len full o bucket) → r.body ≡ Already digest
  allocated from session id len full (Some e) bucket digest is x = said (Already e) x ∙ ap Already (some_one e digest is)
  allocated from session id len full None bucket digest is x = absurd cc

  written : (from session : ℕ) (id : ShareId) (offset : ℕ) (bytes : List ℕ) (o : Option (List ℕ)) (bucket : Option Bucket) (digest : List ℕ) → o ≡ Some digest → Gives (write_line from session id offset bytes o bucket)
      → r.body ≡ Already digest
  written from session id offset bytes (Some e) bucket digest is x = said (Already e) x ∙ ap Already (some_one e digest is)
  written from session id offset bytes None bucket digest is x = absurd cc

  closed : (from session : ℕ) (id : ShareId) (o : Option (List ℕ)) (bucket : Option Bucket) (digest : List ℕ) → o ≡ Some digest → Gives (close_line from session id o bucket) → r.body ≡ Closed digest
  closed from session id (Some e) bucket digest is x = said (Closed e) x ∙ ap Closed (some_one e digest is)
  closed from session id None bucket digest is x = absurd cc

  read : (id : ShareId) (offset len : ℕ) (o : Option (List ℕ)) (digest bytes : List ℕ) → o ≡ Some digest → Has d s.store (key_of id) digest bytes → Gives (read_line id offset len o)
      → r.body ≡ Data (take len (drop offset bytes))
  read id offset len (Some e) digest bytes is has x = body_of m r (Data x.bytes) x.answer ∙ ap Data (x.read.given honest digest bytes has)
  read id offset len None digest bytes is has x = absurd cc

  pub answered : (from session : ℕ) (body : Body) (key : ShareKey) (digest bytes : List ℕ) → IsSafe d s.store key digest bytes → Gives (line_of (disk_calls d) s from session body) → IsAnswerOf key digest bytes body r.body
  answered from session (Ask index) key digest bytes safe x = λ under.
      (s.readonly, (x.found, body_of m r (Have s.readonly x.found) x.answer, x.listed.each honest key digest bytes safe.has under))
  answered from session (Allocate id len) key digest bytes safe x = λ same. allocated from session id len _ _ _ digest (told_is id key digest bytes same safe) x
  answered from session (Write id offset more) key digest bytes safe x = λ same. written from session id offset more _ _ digest (told_is id key digest bytes same safe) x
  answered from session (Close id) key digest bytes safe x = λ same. closed from session id _ _ digest (told_is id key digest bytes same safe) x
  answered from session (Abort id) key digest bytes safe x = tt
  answered from session (Read id offset len) key digest bytes safe x = λ same.
      read id offset len _ digest bytes (told_is id key digest bytes same safe) (subst (λ (k : ShareKey). Has d s.store k digest bytes) (sym same) safe.has) x
  answered from session (Have readonly found) key digest bytes safe x = tt
  answered from session Granted key digest bytes safe x = tt
  answered from session (Already e) key digest bytes safe x = tt
  answered from session Busy key digest bytes safe x = tt
  answered from session Full key digest bytes safe x = tt
  answered from session (Wrote next) key digest bytes safe x = tt
  answered from session (WrongOffset count) key digest bytes safe x = tt
  answered from session (Closed e) key digest bytes safe x = tt
  answered from session (NotComplete count) key digest bytes safe x = tt
  answered from session (Data got) key digest bytes safe x = tt
  answered from session NoShare key digest bytes safe x = tt

-- ---- a share that is closed

abbrev digest_or : Body → List ℕ
digest_or (Closed digest) = digest
digest_or _ = []

one_closed : (a b : List ℕ) → Closed a ≡ Closed b → a ≡ b
one_closed a b same = ap digest_or {x = Closed a} {y = Closed b} same

abbrev is_closed : Body → Bool
is_closed (Closed digest) = true
is_closed _ = false

module _ {D F : Type 0} (long : HashesHave32Bytes) (d : Facts D F) (s t : FolderServer D F) (time : ℕ) (m r : Message) (honest : d.honest t.store.disk) (synced : IsSyncing s.store) (known : Contents)
    (shares : AreOpen d s.store known) (fed : AreFed s.buckets known) (digest : List ℕ) (answer : r.body ≡ Closed digest) where
  abbrev Gives' : Line → Type 0
  Gives' line = server.Does (disk_calls d) line time s m (Ok (Some r)) t

  abbrev IsClosedSo : ShareId → Type 0
  IsClosedSo id = (bytes : List ℕ) × (digest ≡ share_digest bytes) × IsSafe d t.store (key_of id) digest bytes

  other_answer : {X : Type 0} (body : Body) → is_closed body ≡ false → r ≡ server.reply_to m body → X
  other_answer body kind is = absurd (true≢false (sym (ap is_closed (sym (body_of m r body is) ∙ answer)) ∙ kind))

  whole : (id : ShareId) (b : Bucket) (g : Gathered) → IsShareKey (key_of id) → IsReliedWhole d.relied (key_of id) digest → bucket_at id s.buckets ≡ Some b → b.gathered ≡ g → Gives' (close_gathered id g) → IsClosedSo id
  whole id b (Part count hasher) keyed relied there is x = other_answer (NotComplete count) refl x.answer
  whole id b (Whole e) keyed relied there is x =
      let content = whole_known b (known (key_of id)) e is (fed.fed id b there) in
      let same : e ≡ digest = one_closed e digest (sym (body_of m r (Closed e) x.answer) ∙ answer) in
      let small : IsBytes 32 e = subst (λ (y : List ℕ). IsBytes 32 y) (sym content.2.1) (digest_is_bytes long content.0) in
      let relies = subst (λ (y : List ℕ). d.relied (closed_name (key_of id) y) content.0 ≡ true) (sym same) (relied content.0 (sym content.2.1 ∙ same)) in
      let safe = safe_closed d s.store t.store id e content.0 tt x.closed honest synced (keyed.0, keyed.1, small) (shares.written (key_of id) content.0 keyed content.1) relies in
      (content.0, sym same ∙ content.2.1, subst (λ (y : List ℕ). IsSafe d t.store (key_of id) y content.0) same safe)

  by_bucket : (from session : ℕ) (id : ShareId) (o : Option (List ℕ)) (bucket : Option Bucket) → IsShareKey (key_of id) → IsReliedWhole d.relied (key_of id) digest → o ≡ None → bucket_at id s.buckets ≡ bucket → Gives' (close_line from session id o bucket) → IsClosedSo id
  by_bucket from session id (Some e) bucket keyed relied none there x = absurd cc
  by_bucket from session id None None keyed relied none there x = other_answer NoShare refl x.answer
  by_bucket from session id None (Some b) keyed relied none there x = owned (not (is_owned from session b)) x
    where
      owned : (no : Bool) → Gives' (cond no (Says NoShare) (close_gathered id b.gathered)) → IsClosedSo id
      owned true y = other_answer NoShare refl y.answer
      owned false y = whole id b b.gathered keyed relied there refl y

  pub closed_so : (from session : ℕ) (id : ShareId) → IsShareKey (key_of id) → IsReliedWhole d.relied (key_of id) digest → at (key_of id) s.store.closed ≡ None → Gives' (line_of (disk_calls d) s from session (Close id)) → IsClosedSo id
  closed_so from session id keyed relied none x = by_bucket from session id _ _ keyed relied (ap (option_map (λ (k : KeptShare). k.digest)) none) refl x

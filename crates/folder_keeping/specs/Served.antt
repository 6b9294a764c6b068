-- What servers over one folder do.
use Rattle.std.specs.Prelude.{◌≡◌, ℕ, Bool, List, [], take, drop, true, Some, None, Ok, All}
use Rattle.std.specs.Prelude.{◌∷◌, ◌++◌, map, Result, Contains, ⊤}
use Rattle.wire.specs.declared.message.Body.{Body}
use Rattle.wire.specs.declared.message.Body.TheVariants.{Ask, Have, Allocate, Already, Write, Close}
use Rattle.wire.specs.declared.message.Body.TheVariants.{Closed, Read, Data}
use Rattle.wire.specs.declared.message.HeldShare.{HeldShare}
use Rattle.wire.specs.declared.message.Message.{Message}
use Rattle.wire.specs.declared.message.ShareId.{ShareId}
use Rattle.tagged_hash.specs.TaggedHash.{share_digest}
use Rattle.disks.specs.Names.{Relied}
use Rattle.share_store.specs.declared.error.StoreError.{StoreError}
use Rattle.server_core.specs.Buckets.{bytes_so_far}
use Rattle.server_core.specs.ServerState.{Line, line_of}
use Rattle.server_core.specs.ServerState.{ListsHoldings, WritesBytes, ClosesShare, ReadsShare}
use Rattle.share_store.specs.Shelf.{ShareKey, at, is_under, key_of}
use Rattle.share_folders.specs.Listed.{IsAlone}
use Rattle.share_folders.specs.Names.{IsShareKey}
use Rattle.share_folders.specs.Relied.{AreWholeAlone, IsReliedWhole}
use Rattle.folder_keeping.specs.Store.{Facts, IsSyncing, disk_calls}
use Rattle.folder_keeping.specs.Steps as keeping
use Rattle.folder_keeping.specs.Steps.{Step, Runs}
use Rattle.folder_keeping.specs.Kept.{AreOrderly, IsSafe, nothing_known}
use Rattle.folder_keeping.specs.Serving.{Event, FolderServer, Happens, HappenAll}
use Rattle.folder_keeping.specs.Serving.{Asked, Ticked, Forgot, LetGo, Restarted, Started}

-- the calls of its store that a line of the server's table makes
abbrev pub AreCallsOf : Line → List Step → Type 0
AreCallsOf (ListsHoldings index) steps =
    (r : Result (List HeldShare) StoreError) × (steps ≡ keeping.Listed index r ∷ [])
AreCallsOf (WritesBytes id b bytes) steps =
    (r : Result Unit StoreError) × (steps ≡ keeping.Wrote id (bytes_so_far b) bytes r ∷ [])
AreCallsOf (ClosesShare id digest) steps =
    (r : Result Unit StoreError) × (steps ≡ keeping.Closed id digest r ∷ [])
AreCallsOf (ReadsShare id offset len) steps =
    (r : Result (List ℕ) StoreError) × (steps ≡ keeping.Read id offset len r ∷ [])
AreCallsOf _ steps = steps ≡ []

-- what an event does to a store: a message makes the calls of its line, and a server that is
-- started is opened, behind the calls of a message for which there was no memory
abbrev pub AreStepsOf : {D F : Type 0} → Facts D F → FolderServer D F → Event → List Step → Type 0
AreStepsOf d s (Asked from m now outcome) steps =
    AreCallsOf (line_of (disk_calls d) s from m.session m.body) steps
AreStepsOf d s (Ticked now) steps = steps ≡ []
AreStepsOf d s (Forgot client) steps = steps ≡ []
AreStepsOf d s (LetGo ids) steps = steps ≡ map keeping.Went ids
AreStepsOf d s Restarted steps = steps ≡ keeping.Restarted ∷ []
AreStepsOf d s (Started names) steps =
    (last : List Step) × (steps ≡ last ++ keeping.Opened names ∷ [])

-- These are all the steps of the stores, event by event.
abbrev pub AllSteps : {D F : Type 0} → Facts D F → List Event → FolderServer D F
    → FolderServer D F → List Step → Type 0
AllSteps d [] s t steps = (t ≡ s) × (steps ≡ [])
AllSteps {D} {F} d (event ∷ events) s t steps =
    (m : FolderServer D F) × Happens d event s m
    × ((first : List Step) × AreStepsOf d s event first
    × ((rest : List Step) × (steps ≡ first ++ rest) × AllSteps d events m t rest))

-- All that servers do to their stores are orderly calls, from one on that has no bucket.
abbrev pub ServersAreOrderly : {D F : Type 0} → Facts D F → Type 0
ServersAreOrderly {D} {F} d =
    (events : List Event) (s t : FolderServer D F) → HappenAll d events s t → s.buckets ≡ []
    → (steps : List Step) × AllSteps d events s t steps × Runs d steps s.store t.store
    × AreOrderly nothing_known steps

-- a list names this share with this digest
abbrev pub Names : ShareKey → List ℕ → Body → Type 0
Names key digest answer =
    (readonly : Bool) × ((found : List HeldShare) × (answer ≡ Have readonly found)
    × Contains found (record { share = key.1; digest = digest }))

-- the answer to a request, of a server that has a share under this digest with these bytes
abbrev pub IsAnswerOf : ShareKey → List ℕ → List ℕ → Body → Body → Type 0
IsAnswerOf key digest bytes (Ask index) answer =
    is_under index key ≡ true → Names key digest answer
IsAnswerOf key digest bytes (Allocate id len) answer = key_of id ≡ key → answer ≡ Already digest
IsAnswerOf key digest bytes (Write id offset more) answer =
    key_of id ≡ key → answer ≡ Already digest
IsAnswerOf key digest bytes (Close id) answer = key_of id ≡ key → answer ≡ Closed digest
IsAnswerOf key digest bytes (Read id offset len) answer =
    key_of id ≡ key → answer ≡ Data (take len (drop offset bytes))
IsAnswerOf key digest bytes _ answer = ⊤

abbrev pub IsAnswered : ShareKey → List ℕ → List ℕ → Event → Type 0
IsAnswered key digest bytes (Asked from m now (Ok (Some r))) =
    IsAnswerOf key digest bytes m.body r.body
IsAnswered key digest bytes _ = ⊤

-- Where a server is started, no other closed name of the share is found.
abbrev pub IsStartedAlone : ShareKey → List ℕ → Event → Type 0
IsStartedAlone key digest (Started names) = IsAlone names key digest
IsStartedAlone key digest _ = ⊤

-- The share is safe after these events, and each answer since was that of a server that has it.
pub record StaysServed {D F : Type 0} (d : Facts D F) (events : List Event) (t : FolderServer D F)
    (key : ShareKey) (digest bytes : List ℕ) : Type 0 where
  pub safe : IsSafe d t.store key digest bytes
  pub answered : All (IsAnswered key digest bytes) events

-- A share that is safe when a server begins is so from then on, and each answer since then is that
-- of a server that has it.
abbrev pub SafeAreServed : {D F : Type 0} → Facts D F → Type 0
SafeAreServed {D} {F} d =
    (events : List Event) (s t : FolderServer D F) → HappenAll d events s t
    → d.honest t.store.disk → IsSyncing s.store → s.buckets ≡ []
    → (key : ShareKey) (digest bytes : List ℕ) → IsSafe d s.store key digest bytes
    → All (IsStartedAlone key digest) events → StaysServed d events t key digest bytes

-- A share that a server closes is there after each crash, where it is relied on with bytes that
-- have the digest in its name: one that was closed nowhere before it answered Closed to a Close has
-- bytes with that digest, which are safe from then on, and each answer since then is that of a
-- server that has them.
abbrev pub ClosedAreServed : {D F : Type 0} → Facts D F → Type 0
ClosedAreServed {D} {F} d =
    (before after : List Event) (from now : ℕ) (m r : Message) (id : ShareId) (digest : List ℕ)
    (s u v t : FolderServer D F)
    → HappenAll d before s u → Happens d (Asked from m now (Ok (Some r))) u v
    → HappenAll d after v t
    → d.honest t.store.disk → IsSyncing s.store → s.buckets ≡ []
    → m.body ≡ Close id → r.body ≡ Closed digest → at (key_of id) u.store.closed ≡ None
    → IsReliedWhole d.relied (key_of id) digest
    → All (IsStartedAlone (key_of id) digest) after
    → (bytes : List ℕ) × (digest ≡ share_digest bytes)
    × StaysServed d after t (key_of id) digest bytes

-- Each share can be relied on, whatever digest it is closed with, and whole shares alone. So what
-- is asked here of other programs can be asked where they set the rest aside.
abbrev pub WholeCanBeRelied : Type 0
WholeCanBeRelied = (key : ShareKey) → IsShareKey key
    → (relied : Relied) × AreWholeAlone relied
    × ((digest : List ℕ) → IsReliedWhole relied key digest)

-- Shares that are safe stay so.
use Rattle.std.proofs.Common.{◌≡◌, ℕ, true, false, List, length, refl, sym, ap, ◌∙◌, subst, inl, inr, cond}
use Rattle.std.specs.Prelude.{Option, Some, None, Result, Ok, Err, OnOk, OnErr, unwrap_or, option_map, Contains}
use Rattle.std.specs.BTreeMap.{insert_entry}
use Rattle.std.proofs.lemmas.List.Elements.{All-same, All-weaker}
use Rattle.wire.specs.declared.message.ShareId.{ShareId}
use Rattle.disks.specs.Names.{Name, IsRelied}
use Rattle.disks.specs.Folder.{Folder, FileState, HasBytes, StandsFor, IsDurable}
use Rattle.disks.specs.Laws.{DurableOutlasts, FilesStay, StaysHeld}
use Rattle.share_store.specs.declared.error.StoreError.{StoreError}
use Rattle.share_store.specs.Shelf.{ShareKey, at, key_of, order, same_key}
use Rattle.share_store.proofs.ShelfLaws.{at_with, same_is}
use Rattle.share_folders.specs.declared.files.OpenShare.{OpenShare}
use Rattle.share_folders.specs.declared.files.RecentFile.{RecentFile}
use Rattle.share_folders.specs.declared.table.KeptShare.{KeptShare}
use Rattle.share_folders.specs.Folder.{length_at, lengths_of}
use Rattle.share_folders.specs.Listed.{IsAlone}
use Rattle.share_folders.specs.Names.{IsNamed, closed_name, open_name}
use Rattle.share_folders.specs.Stored.{RecentHas, WasWritten}
use Rattle.share_folders.proofs.FolderLaws.{length_is}
use Rattle.share_folders.proofs.Holding.{kept_same, recent_later}
use Rattle.share_folders.proofs.Lasting.{closed_lasts}
use Rattle.share_folders.proofs.Taking.{same_share_key}
use Rattle.folder_keeping.specs.Store.{Facts, StoreState, HasWritten, DiskCloses, DiskStays, IsSyncing}
use Rattle.folder_keeping.specs.Steps.{Ends, Reopens, IsOpened}
use Rattle.folder_keeping.specs.Kept.{FoundAreSafe, IsSafe}
use Rattle.folder_keeping.proofs.Keys.{apart_back, apart_keys, none_some, same_itself}

pub has_bytes : (s : Folder) (bytes : List ℕ) (o : Option ℕ) → StandsFor s bytes o → HasBytes s bytes o
has_bytes s bytes None stands = stands
has_bytes s bytes (Some i) stands = (ap (λ (f : FileState). f.bytes) stands, ap (λ (f : FileState). f.is_finished) stands)

-- the table is the same, and so is what was read last
pub safe_held : {D F : Type 0} (d : Facts D F) (s t : StoreState D F) (key : ShareKey) (digest bytes : List ℕ) → t.closed ≡ s.closed → t.recent ≡ s.recent
    → StaysHeld d.relied (d.folder s.disk) (d.folder t.disk) → IsSafe d s key digest bytes → IsSafe d t key digest bytes
safe_held {D} {F} d s t key digest bytes closed recent held safe = record {
  valid = safe.valid;
  has = record {
    kept = kept_same (d.folder s.disk) (d.folder t.disk) s.closed t.closed held closed key digest bytes safe.has.kept;
    last = subst (λ (r : Option (RecentFile F)). RecentHas d.inode (d.folder t.disk) key r bytes) (sym recent)
        (recent_later d.inode (d.folder s.disk) (d.folder t.disk) key s.recent bytes held safe.has.last);
  };
  durable = held.durable (closed_name key digest) bytes (closed_lasts key digest safe.valid.2.len, safe.has.kept.relies) safe.durable;
}

-- a read or a list
pub safe_looked : {D F : Type 0} (d : Facts D F) (s t : StoreState D F) (key : ShareKey) (digest bytes : List ℕ) → DiskStays d s t → d.honest t.disk → IsSafe d s key digest bytes
    → IsSafe d t key digest bytes
safe_looked d s t key digest bytes stays honest safe = record {
  valid = safe.valid;
  has = stays.still honest key digest bytes safe.has;
  durable = (stays.held honest).durable (closed_name key digest) bytes (closed_lasts key digest safe.valid.2.len, safe.has.kept.relies) safe.durable;
}

-- ---- a close of another share

-- where none is closed at a key, a closed share is at another
pub other_key : {A : Type 0} (es : List (ShareKey × A)) (id key : ShareKey) (a : A) → at id es ≡ None → at key es ≡ Some a → same_key id key ≡ false
other_key es id key a none some =
    elim (same_key id key) as (λ b. same_key id key ≡ b → b ≡ false) [
      | true ↦ λ e. none_some a (sym none ∙ (λ i. at (same_is id key e i) es) ∙ some)
      | false ↦ λ e. refl
    ] refl

later_file : {F : Type 0} (inode : F → ℕ) (s t : Folder) (key : ShareKey) (recent : Option (RecentFile F)) (bytes : List ℕ) → FilesStay s t
    → RecentHas inode s key recent bytes → RecentHas inode t key recent bytes
later_file inode s t key None bytes stay has = tt
later_file inode s t key (Some file) bytes stay has = λ same. stay (inode file.file) bytes (has same)

last_closed : {D F : Type 0} (d : Facts D F) (s t : StoreState D F) (id : ShareId) (digest : List ℕ) (r : Result Unit StoreError) (key : ShareKey) (bytes : List ℕ)
    → OnOk r (t.recent ≡ None) → OnErr r (t.recent ≡ s.recent) → FilesStay (d.folder s.disk) (d.folder t.disk)
    → RecentHas d.inode (d.folder s.disk) key s.recent bytes → RecentHas d.inode (d.folder t.disk) key t.recent bytes
last_closed {D} {F} d s t id digest (Ok u) key bytes none same stay has =
    subst (λ (r : Option (RecentFile F)). RecentHas d.inode (d.folder t.disk) key r bytes) (sym none) tt
last_closed {D} {F} d s t id digest (Err e) key bytes none same stay has =
    subst (λ (r : Option (RecentFile F)). RecentHas d.inode (d.folder t.disk) key r bytes) (sym same)
    (later_file d.inode (d.folder s.disk) (d.folder t.disk) key s.recent bytes stay has)

there_closed : (r : Result Unit StoreError) (old new : List (ShareKey × KeptShare)) (id key : ShareKey) (share : KeptShare) → same_key id key ≡ false
    → OnOk r (new ≡ insert_entry order old id share) → OnErr r (new ≡ old) → at key new ≡ at key old
there_closed (Ok u) old new id key share apart with same = ap (at key) with ∙ at_with key id share old ∙ ap (λ b. cond b (Some share) (at key old)) (apart_back id key apart)
there_closed (Err e) old new id key share apart with same = ap (at key) same

pub safe_beside : {D F : Type 0} (d : Facts D F) (s t : StoreState D F) (id : ShareId) (digest : List ℕ) (r : Result Unit StoreError) (written : List ℕ) (key : ShareKey) (other bytes : List ℕ)
    → DiskCloses d s id digest r t → d.honest t.disk → at (key_of id) s.closed ≡ None → IsNamed (key_of id) digest → HasWritten d (key_of id) s written → IsSafe d s key other bytes → IsSafe d t key other bytes
safe_beside d s t id digest r written key other bytes closes honest none named was safe =
    let noted = safe.has.kept.noted in
    let apart : same_key (key_of id) key ≡ false = other_key s.closed (key_of id) key _ none noted.there in
    let file = closes.closes honest written was in
    let lasting : IsRelied d.relied (closed_name key other) bytes = (closed_lasts key other safe.valid.2.len, safe.has.kept.relies) in
    let durable = file.beside (closed_name key other) bytes lasting
    (λ same. apart_keys (key_of id) key apart (sym (same_share_key key (key_of id) other digest safe.valid named same))) safe.durable in
    record {
      valid = safe.valid;
      has = record {
        kept = record {
          size = safe.has.kept.size;
          relies = safe.has.kept.relies;
          noted = record { long = noted.long; there = there_closed r s.closed t.closed (key_of id) key _ apart closes.closed closes.err_closed ∙ noted.there; right = noted.right };
          stands = has_bytes (d.folder t.disk) bytes _ durable.now;
        };
        last = last_closed d s t id digest r key bytes closes.recent closes.err_recent file.files safe.has.last;
      };
      durable = durable;
    }

-- ---- the share that is closed

length_written : {D F : Type 0} (d : Facts D F) (s : StoreState D F) (key : ShareKey) (bytes : List ℕ) → HasWritten d key s bytes → length_at key (lengths_of s.opened) ≡ length bytes
length_written {D} {F} d s key bytes was = length_is s.opened key ∙ by (at key s.opened) was
  where
    by : (o : Option (OpenShare F)) → WasWritten d.inode (d.folder s.disk) (open_name key s.own) o bytes → unwrap_or (option_map (λ (o : OpenShare F). o.length) o) 0 ≡ length bytes
    by None is = sym (ap length is)
    by (Some share) is = is.0

pub safe_closed : {D F : Type 0} (d : Facts D F) (s t : StoreState D F) (id : ShareId) (digest bytes : List ℕ) (u : Unit)
    → DiskCloses d s id digest (Ok u) t → d.honest t.disk → IsSyncing s → IsNamed (key_of id) digest → HasWritten d (key_of id) s bytes
    → d.relied (closed_name (key_of id) digest) bytes ≡ true → IsSafe d t (key_of id) digest bytes
safe_closed {D} {F} d s t id digest bytes u closes honest synced named was relies =
    let key = key_of id in
    let share : KeptShare = record { length = Some (length_at key (lengths_of s.opened)); digest = digest } in
    let file = closes.closes honest bytes was in
    record {
      valid = named;
      has = record {
        kept = record {
          size = named.2.len;
          relies = relies;
          noted = record {
            long = Some (length_at key (lengths_of s.opened));
            there = ap (at key) closes.closed ∙ at_with key key share s.closed ∙ ap (λ b. cond b (Some share) (at key s.closed)) (same_itself key);
            right = length_written d s key bytes was;
          };
          stands = file.stands relies;
        };
        last = subst (λ (r : Option (RecentFile F)). RecentHas d.inode (d.folder t.disk) key r bytes) (sym closes.recent) tt;
      };
      durable = file.durable (synced closes.takes) relies;
    }

-- ---- the end of a program

pub durable_ends : DurableOutlasts → (s t : Folder) (name : Name) (bytes : List ℕ) → Ends s t → IsDurable s name bytes → IsDurable t name bytes
durable_ends outlasts s t name bytes (inl crash) durable = outlasts s t name bytes durable crash
durable_ends outlasts s t name bytes (inr left) durable = record {
  now = subst (λ (o : Option ℕ). StandsFor t bytes o) (sym (left.found name)) (file_stands (s.found name) durable.now);
  later = All-same (StandsFor t bytes) (t.left name) (s.left name) (left.left name) (All-weaker (StandsFor s bytes) (StandsFor t bytes) file_stands (s.left name) durable.later);
}
  where
    file_stands : (o : Option ℕ) → StandsFor s bytes o → StandsFor t bytes o
    file_stands None stands = stands
    file_stands (Some i) stands = left.files i ∙ stands

-- a share that is found, whose name is durable
safe_found : {D F : Type 0} (d : Facts D F) (disk : D) (t : StoreState D F) (names : List Name) (key : ShareKey) (digest bytes : List ℕ) → IsOpened d disk names t → IsNamed key digest → IsAlone names key digest
    → d.relied (closed_name key digest) bytes ≡ true → Contains names (closed_name key digest) × IsDurable (d.folder t.disk) (closed_name key digest) bytes → IsSafe d t key digest bytes
safe_found {D} {F} d disk t names key digest bytes is_opened valid alone relies found = record {
  valid = valid;
  has = record {
    kept = record {
      size = valid.2.len;
      relies = relies;
      noted = record { long = None; there = is_opened.taken.sole key digest (record { valid = valid; there = found.0; alone = alone }); right = tt };
      stands = has_bytes (d.folder t.disk) bytes _ found.1.now;
    };
    last = subst (λ (r : Option (RecentFile F)). RecentHas d.inode (d.folder t.disk) key r bytes) (sym is_opened.recent) tt;
  };
  durable = found.1;
}

pub safe_opened : {D F : Type 0} → DurableOutlasts → (d : Facts D F) (s t : StoreState D F) (names : List Name) (key : ShareKey) (digest bytes : List ℕ) → Reopens d s names t → d.honest t.disk → IsAlone names key digest
    → IsSafe d s key digest bytes → IsSafe d t key digest bytes
safe_opened outlasts d s t names key digest bytes reopens honest alone safe =
    let name = closed_name key digest in
    safe_found d reopens.disk t names key digest bytes reopens.is_opened safe.valid alone safe.has.kept.relies
    (reopens.is_opened.found honest name bytes (closed_lasts key digest safe.valid.2.len, safe.has.kept.relies)
    (durable_ends outlasts (d.folder s.disk) (d.folder reopens.disk) name bytes reopens.ends safe.durable))

pub found_are_safe : {D F : Type 0} (d : Facts D F) → FoundAreSafe d
found_are_safe d disk names t is_opened honest synced key digest bytes named relies stands alone =
    safe_found d disk t names key digest bytes is_opened named alone relies (is_opened.settled honest synced key digest bytes named relies stands)

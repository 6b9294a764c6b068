-- What was written to open shares stays known.
use Rattle.std.proofs.Common.{◌≡◌, ◌≢◌, ℕ, true, false, List, [], refl, sym, ◌∙◌, subst, inl, inr}
use Rattle.std.specs.Prelude.{◌⊎◌, Option, Some, None, IsSome, Result, Ok, Err, OnOk, unwrap_or}
use mathlib.Core.Bool.{true≢false}
use Rattle.wire.specs.declared.message.ShareId.{ShareId}
use Rattle.disks.specs.Names.{Name}
use Rattle.disks.specs.Folder.{Folder}
use Rattle.disks.specs.Laws.{OwnStay, OwnStayBeside}
use Rattle.share_store.specs.declared.error.StoreError.{StoreError}
use Rattle.share_store.specs.Shelf.{ShareKey, at, key_of, same_key}
use Rattle.share_store.proofs.ShelfLaws.{same_is}
use Rattle.share_folders.specs.declared.files.OpenShare.{OpenShare}
use Rattle.share_folders.specs.Names.{IsShareKey, open_name}
use Rattle.share_folders.specs.Stored.{AreTwo, WasWritten}
use Rattle.share_folders.specs.Table.{StayBeside}
use Rattle.share_folders.proofs.OpenLaws.{names_apart}
use Rattle.folder_keeping.specs.Store.{Facts, StoreState, HasWritten, DiskWrites, DiskCloses, DiskLetsGo, IsWritable}
use Rattle.folder_keeping.specs.Kept.{AreOpen, Contents, more_content, nothing_known, put_content}
use Rattle.folder_keeping.proofs.Keys.{is_some_of, none_some, put_here, put_there, some_is, some_one}

-- two files are two either way
two_back : {F : Type 0} (inode : F → ℕ) (one other : Option (OpenShare F)) → AreTwo inode one other → AreTwo inode other one
two_back inode None other two = tt
two_back inode (Some a) None two = tt
two_back inode (Some a) (Some b) two = λ same. two (sym same)

-- the same bytes under the name that a store gives now
named_now : {D F : Type 0} (d : Facts D F) (s t : StoreState D F) (key : ShareKey) (bytes : List ℕ) → t.own ≡ s.own
    → WasWritten d.inode (d.folder t.disk) (open_name key s.own) (at key t.opened) bytes → HasWritten d key t bytes
named_now d s t key bytes own was = subst (λ (o : Option (List ℕ)). WasWritten d.inode (d.folder t.disk) (open_name key o) (at key t.opened) bytes) (sym own) was

pub none_open : {D F : Type 0} (d : Facts D F) (t : StoreState D F) → AreOpen d t nothing_known
none_open d t = record {
  written = λ key bytes valid is. none_some bytes is;
  two = λ key other valid valid_too apart is is_too. absurd (true≢false (sym is));
}

module _ {D F : Type 0} (d : Facts D F) (s t : StoreState D F) (key : ShareKey) (content : Option (List ℕ)) (known : Contents) (shares : AreOpen d s known)
    (beside : StayBeside (same_key key) s.opened t.opened)
    (here : (bytes : List ℕ) → content ≡ Some bytes → HasWritten d key t bytes)
    (there : (other : ShareKey) (bytes : List ℕ) → IsShareKey other → same_key key other ≡ false → known other ≡ Some bytes
    → HasWritten d other t bytes × (IsSome content → AreTwo d.inode (at key t.opened) (at other t.opened))) where
  after : Contents
  after = put_content key content known

  known_there : (other : ShareKey) → same_key key other ≡ false → IsSome (put_content key content known other) → known other ≡ Some (unwrap_or (known other) [])
  known_there other apart is = some_is (known other) [] (subst IsSome (put_there key other content known apart) is)

  two_here : (other : ShareKey) → IsShareKey other → same_key key other ≡ false → IsSome (put_content key content known key) → IsSome (put_content key content known other)
      → AreTwo d.inode (at key t.opened) (at other t.opened)
  two_here other valid apart is is_too = (there other _ valid apart (known_there other apart is_too)).1 (subst IsSome (put_here key content known) is)

  written_other : (other : ShareKey) (bytes : List ℕ) → IsShareKey other → same_key key other ≡ false → put_content key content known other ≡ Some bytes → HasWritten d other t bytes
  written_other other bytes valid apart is = (there other bytes valid apart (sym (put_there key other content known apart) ∙ is)).0

  written_all : (other : ShareKey) (bytes : List ℕ) → IsShareKey other → put_content key content known other ≡ Some bytes → HasWritten d other t bytes
  written_all other bytes valid is =
      elim (same_key key other) as (λ b. same_key key other ≡ b → HasWritten d other t bytes) [
        | true ↦ λ e. subst (λ (k : ShareKey). put_content key content known k ≡ Some bytes → HasWritten d k t bytes) (same_is key other e)
            (λ at_key. here bytes (sym (put_here key content known) ∙ at_key)) is
        | false ↦ λ e. written_other other bytes valid e is
      ] refl

  two_apart : (one other : ShareKey) → IsShareKey one → IsShareKey other → same_key one other ≡ false → same_key key one ≡ false → IsSome (put_content key content known one)
      → IsSome (put_content key content known other) → AreTwo d.inode (at one t.opened) (at other t.opened)
  two_apart one other valid valid_too apart first is is_too =
      elim (same_key key other) as (λ b. same_key key other ≡ b → AreTwo d.inode (at one t.opened) (at other t.opened)) [
        | true ↦ λ e. two_back d.inode (at other t.opened) (at one t.opened)
            (subst (λ (k : ShareKey). IsSome (put_content key content known k) → AreTwo d.inode (at k t.opened) (at one t.opened)) (same_is key other e)
            (λ is_key. two_here one valid first is_key is) is_too)
        | false ↦ λ e.
            let both = shares.two one other valid valid_too apart (subst IsSome (put_there key one content known first) is) (subst IsSome (put_there key other content known e) is_too) in
            subst (λ (o : Option (OpenShare F)). AreTwo d.inode o (at other t.opened)) (sym (beside one first))
            (subst (λ (o : Option (OpenShare F)). AreTwo d.inode (at one s.opened) o) (sym (beside other e)) both)
      ] refl

  two_all : (one other : ShareKey) → IsShareKey one → IsShareKey other → same_key one other ≡ false → IsSome (put_content key content known one)
      → IsSome (put_content key content known other) → AreTwo d.inode (at one t.opened) (at other t.opened)
  two_all one other valid valid_too apart is is_too =
      elim (same_key key one) as (λ b. same_key key one ≡ b → AreTwo d.inode (at one t.opened) (at other t.opened)) [
        | true ↦ λ e. subst
            (λ (k : ShareKey). same_key k other ≡ false → IsSome (put_content key content known k) → AreTwo d.inode (at k t.opened) (at other t.opened)) (same_is key one e)
            (λ apart_key is_key. two_here other valid_too apart_key is_key is_too) apart is
        | false ↦ λ e. two_apart one other valid valid_too apart e is is_too
      ] refl

  pub open_put : AreOpen d t (put_content key content known)
  open_put = record { written = written_all; two = two_all }

-- ---- after each call

-- what is known to be written to a share can be added to
ready : {D F : Type 0} (d : Facts D F) (s : StoreState D F) (known : Contents) (key : ShareKey) (offset : ℕ) → AreOpen d s known → IsShareKey key
    → (offset ≡ 0) ⊎ IsSome (known key) → IsWritable d offset key s (unwrap_or (known key) [])
ready d s known key offset shares valid (inl begins) = inl begins
ready d s known key offset shares valid (inr is) = inr (shares.written key (unwrap_or (known key) []) valid (some_is (known key) [] is))

pub write_ready : {D F : Type 0} (d : Facts D F) (s : StoreState D F) (known : Contents) (key : ShareKey) (offset : ℕ) → AreOpen d s known → IsShareKey key
    → (offset ≡ 0) ⊎ IsSome (known key) → IsWritable d offset key s (unwrap_or (known key) [])
write_ready d s known key offset shares valid ordered = ready d s known key offset shares valid ordered

anew_or_two : {D F : Type 0} (d : Facts D F) (s : StoreState D F) (known : Contents) (key other : ShareKey) (bytes : List ℕ) (offset : ℕ) → AreOpen d s known → IsShareKey key → IsShareKey other
    → same_key key other ≡ false → known other ≡ Some bytes → (offset ≡ 0) ⊎ IsSome (known key) → (offset ≡ 0) ⊎ AreTwo d.inode (at key s.opened) (at other s.opened)
anew_or_two d s known key other bytes offset shares valid valid_too apart is (inl begins) = inl begins
anew_or_two d s known key other bytes offset shares valid valid_too apart is (inr some) = inr (shares.two key other valid valid_too apart some (is_some_of (known other) bytes is))

on_ok : {A E : Type 0} (r : Result A E) (a : A) (P : Type 0) → r ≡ Ok a → OnOk r P → P
on_ok (Ok b) a P is p = p
on_ok (Err e) a P is p = absurd cc

-- after a write that went well
pub open_written : {D F : Type 0} (d : Facts D F) (s t : StoreState D F) (id : ShareId) (offset : ℕ) (bytes : List ℕ) (u : Unit) (known : Contents) → DiskWrites d s id offset bytes (Ok u) t
    → d.honest t.disk → AreOpen d s known → IsShareKey (key_of id) → (offset ≡ 0) ⊎ IsSome (known (key_of id))
    → AreOpen d t (put_content (key_of id) (Some (more_content offset bytes (known (key_of id)))) known)
open_written d s t id offset bytes u known writes honest shares valid ordered =
    let key = key_of id in
    open_put d s t key (Some (more_content offset bytes (known key))) known shares writes.others
    (λ got is. subst (λ (b : List ℕ). HasWritten d key t b) (some_one _ got is)
    (writes.written honest (unwrap_or (known key) []) (ready d s known key offset shares valid ordered)))
    (λ other got valid_too apart is.
    let stays = writes.beside honest other got valid valid_too apart (anew_or_two d s known key other got offset shares valid valid_too apart is ordered) (shares.written other got valid_too is) in
    (named_now d s t other got writes.goes.own stays.0, λ some. stays.1))

-- after one that failed
pub open_unwritten : {D F : Type 0} (d : Facts D F) (s t : StoreState D F) (id : ShareId) (offset : ℕ) (bytes : List ℕ) (e : StoreError) (known : Contents) → DiskWrites d s id offset bytes (Err e) t
    → d.honest t.disk → AreOpen d s known → IsShareKey (key_of id) → (offset ≡ 0) ⊎ IsSome (known (key_of id))
    → AreOpen d t (put_content (key_of id) None known)
open_unwritten d s t id offset bytes e known writes honest shares valid ordered =
    let key = key_of id in
    open_put d s t key None known shares writes.others (λ got is. none_some got is)
    (λ other got valid_too apart is.
    let stays = writes.beside honest other got valid valid_too apart (anew_or_two d s known key other got offset shares valid valid_too apart is ordered) (shares.written other got valid_too is) in
    (named_now d s t other got writes.goes.own stays.0, λ some. absurd (true≢false (sym some))))

-- after a close
pub open_closed : {D F : Type 0} (d : Facts D F) (s t : StoreState D F) (id : ShareId) (digest : List ℕ) (r : Result Unit StoreError) (known : Contents) → DiskCloses d s id digest r t
    → d.honest t.disk → AreOpen d s known → IsShareKey (key_of id) → IsSome (known (key_of id)) → AreOpen d t (put_content (key_of id) None known)
open_closed d s t id digest r known closes honest shares valid some =
    let key = key_of id in
    let was = shares.written key (unwrap_or (known key) []) valid (some_is (known key) [] some) in
    open_put d s t key None known shares closes.others (λ got is. none_some got is)
    (λ other got valid_too apart is.
    let stays = closes.beside honest (unwrap_or (known key) []) was other got valid valid_too apart
    (inr (shares.two key other valid valid_too apart some (is_some_of (known other) got is))) (shares.written other got valid_too is) in
    (named_now d s t other got closes.goes.own stays.0, λ none. absurd (true≢false (sym none))))

-- what was written stays where the program's own files do under other names than one
written_beside : {F : Type 0} (inode : F → ℕ) (s t : Folder) (last name : Name) (o : Option (OpenShare F)) (bytes : List ℕ) → name ≢ last → OwnStayBeside last s t → WasWritten inode s name o bytes
    → WasWritten inode t name o bytes
written_beside inode s t last name None bytes apart stays was = was
written_beside inode s t last name (Some share) bytes apart stays was = (was.0, (was.1.0, stays name (inode share.file) _ apart was.1.1))

-- after one that will not go on
pub open_went : {D F : Type 0} (d : Facts D F) (s t : StoreState D F) (id : ShareId) (known : Contents) → DiskLetsGo d s id t → d.honest t.disk → AreOpen d s known → IsShareKey (key_of id)
    → AreOpen d t (put_content (key_of id) None known)
open_went {D} {F} d s t id known goes honest shares valid =
    let key = key_of id in
    open_put d s t key None known shares goes.others (λ got is. none_some got is)
    (λ other got valid_too apart is. (
      named_now d s t other got goes.own
          (subst (λ (o : Option (OpenShare F)). WasWritten d.inode (d.folder t.disk) (open_name other s.own) o got) (sym (goes.others other apart))
          (written_beside d.inode (d.folder s.disk) (d.folder t.disk) (open_name key s.own) (open_name other s.own) (at other s.opened) got
          (names_apart key other s.own valid valid_too apart) (goes.beside honest) (shares.written other got valid_too is))),
      λ some. absurd (true≢false (sym some)),
    ))

-- what was written stays where the program's own files do
written_stays : {F : Type 0} (inode : F → ℕ) (s t : Folder) (name : List ℕ) (o : Option (OpenShare F)) (bytes : List ℕ) → OwnStay s t → WasWritten inode s name o bytes → WasWritten inode t name o bytes
written_stays inode s t name None bytes stays was = was
written_stays inode s t name (Some share) bytes stays was = (was.0, (was.1.0, stays name (inode share.file) _ was.1.1))

-- after a look
pub open_looked : {D F : Type 0} (d : Facts D F) (s t : StoreState D F) (known : Contents) → t.own ≡ s.own → t.opened ≡ s.opened → OwnStay (d.folder s.disk) (d.folder t.disk) → AreOpen d s known → AreOpen d t known
open_looked {D} {F} d s t known own same stays shares = record {
  written = λ key bytes valid is. named_now d s t key bytes own
      (subst (λ (os : List (ShareKey × OpenShare F)). WasWritten d.inode (d.folder t.disk) (open_name key s.own) (at key os) bytes) (sym same)
      (written_stays d.inode (d.folder s.disk) (d.folder t.disk) (open_name key s.own) (at key s.opened) bytes stays (shares.written key bytes valid is)));
  two = λ key other valid valid_too apart is is_too.
      subst (λ (os : List (ShareKey × OpenShare F)). AreTwo d.inode (at key os) (at other os)) (sym same) (shares.two key other valid valid_too apart is is_too);
}

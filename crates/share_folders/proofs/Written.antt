-- What was written to open shares.
use Rattle.std.proofs.Common.{◌≡◌, ℕ, List, [], ◌∷◌, length, refl, sym, ◌∙◌, ap, subst, arith, inl, inr}
use Rattle.std.specs.Prelude.{Option, Some, None, Result, Ok, Err, OnOk, option_map, unwrap_or, ◌⊎◌, ◌==◌, if◌then◌else◌, true, false}
use Rattle.disks.specs.Names.{Name, Relied}
use Rattle.disks.specs.Folder.{Folder}
use Rattle.share_store.specs.declared.error.StoreError.{StoreError}
use Rattle.share_store.specs.Shelf.{ShareKey, at}
use Rattle.share_folders.specs.declared.files.OpenShare.{OpenShare}
use Rattle.share_folders.specs.Folder.{length_at, lengths_of}
use Rattle.share_folders.specs.Names.{open_name}
use Rattle.share_folders.specs.Stored.{FileCloses, IsReady, WasWritten}
use Rattle.share_folders.specs.declared.disk.Durability.{Durability}
use Rattle.share_folders.proofs.FolderLaws.{length_is}

pub none_written : {F : Type 0} (inode : F → ℕ) (s : Folder) (name : Name) (o : Option (OpenShare F)) (bytes : List ℕ) → o ≡ None
    → WasWritten inode s name o bytes → bytes ≡ []
none_written {F} inode s name o bytes is was = subst (λ (p : Option (OpenShare F)). WasWritten inode s name p bytes) is was

-- a file that was put into the table
pub there_written : {F : Type 0} (inode : F → ℕ) (s : Folder) (text name : Name) (share : OpenShare F) (o : Option (OpenShare F)) (bytes : List ℕ)
    (r : Result Unit StoreError) → text ≡ name → OnOk r (o ≡ Some share) → WasWritten inode s text (Some share) bytes → OnOk r (WasWritten inode s name o bytes)
there_written inode s text name share o bytes (Err e) same there was = tt
there_written {F} inode s text name share o bytes (Ok u) same there was =
    subst (λ (p : Option (OpenShare F)). WasWritten inode s name p bytes) (sym there)
    (subst (λ (n : Name). WasWritten inode s n (Some share) bytes) same was)

long_written : {F : Type 0} (inode : F → ℕ) (s : Folder) (name : Name) (o : Option (OpenShare F)) (bytes : List ℕ)
    → WasWritten inode s name o bytes → length bytes ≡ unwrap_or (option_map (λ (o : OpenShare F). o.length) o) 0
long_written inode s name None bytes was = ap length was
long_written inode s name (Some share) bytes was = sym was.0

no_bytes : (bytes : List ℕ) → length bytes ≡ 0 → bytes ≡ []
no_bytes [] none = refl
no_bytes (b ∷ bytes) none = absurd (omega (arith, none))

-- where an open share has no bytes none were written
pub empty_written : {F : Type 0} (inode : F → ℕ) (s : Folder) (name : Name) (opened : List (ShareKey × OpenShare F)) (key : ShareKey) (bytes : List ℕ)
    → length_at key (lengths_of opened) ≡ 0 → WasWritten inode s name (at key opened) bytes → bytes ≡ []
empty_written inode s name opened key bytes none was =
    no_bytes bytes (long_written inode s name (at key opened) bytes was ∙ sym (length_is opened key) ∙ none)

-- the same share under the name that its file was given
pub same_written : {F : Type 0} (inode : F → ℕ) (s : Folder) (opened : List (ShareKey × OpenShare F)) (k l : ShareKey) (o p : Option (List ℕ)) (bytes : List ℕ)
    → l ≡ k → p ≡ o → WasWritten inode s (open_name k o) (at k opened) bytes → WasWritten inode s (open_name l p) (at l opened) bytes
same_written inode s opened k l o p bytes same own was =
    subst (λ (q : Option (List ℕ)). WasWritten inode s (open_name l q) (at l opened) bytes) (sym own)
    (subst (λ (m : ShareKey). WasWritten inode s (open_name m o) (at m opened) bytes) (sym same) was)

-- nothing is left of what was written before
pub begun_anew : (n : ℕ) (before : List ℕ) → (n ≡ 0) ⊎ (before ≡ []) → (if n == 0 then [] else before) ≡ []
begun_anew n before (inl none) = ap (λ (m : ℕ). if m == 0 then [] else before) none
begun_anew n before (inr empty) = elim (n == 0) as (λ b. (if b then [] else before) ≡ []) [ true ↦ refl | false ↦ empty ]

pub same_closes : {relied : Relied} (durability : Durability) (n m : Name) (bytes : List ℕ) (r q : Result Unit StoreError) (s t : Folder) → n ≡ m → r ≡ q
    → FileCloses relied durability n bytes r s t → FileCloses relied durability m bytes q s t
same_closes {relied} durability n m bytes r q s t same is closes =
    subst (λ (x : Result Unit StoreError). FileCloses relied durability m bytes x s t) is (subst (λ (x : Name). FileCloses relied durability x bytes r s t) same closes)

-- where nothing is open, nothing was written
pub nothing_written : {F : Type 0} (inode : F → ℕ) (s : Folder) (name : Name) (key : ShareKey) (opened : List (ShareKey × OpenShare F)) → opened ≡ []
    → WasWritten inode s name (at key opened) []
nothing_written {F} inode s name key opened is = subst (λ (es : List (ShareKey × OpenShare F)). WasWritten inode s name (at key es) []) (sym is) refl

-- ---- shares that are ready to be written to

pub same_ready : {F : Type 0} (inode : F → ℕ) (offset : ℕ) (s : Folder) (opened : List (ShareKey × OpenShare F)) (k l : ShareKey) (o p : Option (List ℕ)) (bytes : List ℕ)
    → l ≡ k → p ≡ o → IsReady inode offset s (open_name k o) (at k opened) bytes → IsReady inode offset s (open_name l p) (at l opened) bytes
same_ready inode offset s opened k l o p bytes same own (inl none_yet) = inl none_yet
same_ready inode offset s opened k l o p bytes same own (inr was) = inr (same_written inode s opened k l o p bytes same own was)

-- the same once it went well
pub ok_written : {F : Type 0} (inode : F → ℕ) (r : Result Unit StoreError) (s : Folder) (opened : List (ShareKey × OpenShare F)) (k l : ShareKey) (o p : Option (List ℕ)) (bytes : List ℕ)
    → l ≡ k → p ≡ o → OnOk r (WasWritten inode s (open_name k o) (at k opened) bytes) → OnOk r (WasWritten inode s (open_name l p) (at l opened) bytes)
ok_written inode (Err e) s opened k l o p bytes same own was = tt
ok_written inode (Ok u) s opened k l o p bytes same own was = same_written inode s opened k l o p bytes same own was

-- what is begun anew has no bytes before
pub ready_before : {F : Type 0} (inode : F → ℕ) (offset : ℕ) (s : Folder) (name : Name) (opened : List (ShareKey × OpenShare F)) (key : ShareKey) (before : List ℕ)
    → (offset ≡ 0) ⊎ (length_at key (lengths_of opened) ≡ 0) → IsReady inode offset s name (at key opened) before → (offset ≡ 0) ⊎ (before ≡ [])
ready_before inode offset s name opened key before (inl none_yet) ready = inl none_yet
ready_before inode offset s name opened key before (inr none) (inl none_yet) = inl none_yet
ready_before inode offset s name opened key before (inr none) (inr was) = inr (empty_written inode s name opened key before none was)

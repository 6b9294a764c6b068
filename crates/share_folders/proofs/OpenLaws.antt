-- The files of open shares.
use Rattle.std.proofs.Common.{◌≡◌, ◌≢◌, ℕ, true, false, List, ◌++◌, length, drop, refl, sym, ap, ◌∙◌, subst, arith, inl, inr}
use Rattle.std.specs.Prelude.{Option, Some, None, Result, Ok, Err, IsErr, OnOk, OnErr, codes, decimal, ◌⊎◌, ⊤}
use Rattle.std.specs.Ordering.{is_eq}
use Rattle.std.proofs.lemmas.List.{append_assoc, same_from_push}
use Rattle.std.proofs.lemmas.Fmt.{decimal_injective}
use Rattle.std.proofs.lemmas.Cmp.{tied_itself}
use mathlib.Core.Bool.{true≢false}
use Rattle.cap_text.specs.Base32.{base32}
use Rattle.cap_text.proofs.OneText.{base32-injective}
use Rattle.disks.specs.Names.{Name}
use Rattle.disks.specs.Folder.{Folder, FileState, IsOwn}
use Rattle.disks.specs.Laws.{OwnStayBeside, OwnStayBut}
use Rattle.share_store.specs.declared.error.StoreError.{StoreError}
use Rattle.share_store.specs.Shelf.{ShareKey, at, same_key}
use Rattle.share_store.proofs.KeyLaws.{order_total}
use Rattle.share_folders.specs.declared.files.OpenShare.{OpenShare}
use Rattle.share_folders.specs.Names.{IsShareKey, named_by, open_name}
use Rattle.share_folders.specs.Stored.{AreTwo, IsNotOf, OwnStayButOf, StayOpen, WasWritten}
use Rattle.share_folders.specs.Table.{StayBeside}
use Rattle.share_folders.proofs.NameLaws.{index_part, share_part}
use Rattle.share_folders.proofs.Lasting.{open_passes}

pub keys_differ : (key other : ShareKey) → key ≡ other → same_key key other ≡ false → ⊥
keys_differ key other same apart = true≢false (sym (ap is_eq (tied_itself order_total key)) ∙ ap (same_key key) same ∙ apart)

-- ---- an open name is of one share alone

end_of : Option (List ℕ) → List ℕ
end_of None = codes "open"
end_of (Some own) = base32 own ++ codes ".open"

ends_so : (key : ShareKey) (own : Option (List ℕ)) → open_name key own ≡ named_by key (end_of own)
unfolding end_of
ends_so key None = refl
ends_so key (Some own) = append_assoc (base32 key.0 ++ codes "." ++ decimal key.1 ++ codes ".") (base32 own) (codes ".open")

module _ (k l : ShareKey) (own : Option (List ℕ)) (first : IsShareKey k) (second : IsShareKey l) (same : open_name k own ≡ open_name l own) where
  left : open_name k own ≡ named_by k (end_of own)
  left = ends_so k own

  right : open_name k own ≡ named_by l (end_of own)
  right = same ∙ ends_so l own

  indices : k.0 ≡ l.0
  indices =
      base32-injective 16 k.0 l.0 first.0 second.0
      (sym (index_part (open_name k own) k (end_of own) first left) ∙ index_part (open_name k own) l (end_of own) second right)

  numbers : k.1 ≡ l.1
  numbers =
      let dots = sym (share_part (open_name k own) k (length (end_of own)) (end_of own) first refl left) ∙ share_part (open_name k own) l (length (end_of own)) (end_of own) second refl right in
      decimal_injective k.1 l.1 (omega (arith, first.1)) (omega (arith, second.1)) (same_from_push (decimal k.1) (decimal l.1) 46 46 (ap (drop 1) dots)).0

  pub same_open_key : k ≡ l
  same_open_key = λ i. (indices i, numbers i)

pub names_apart : (key other : ShareKey) (own : Option (List ℕ)) → IsShareKey key → IsShareKey other → same_key key other ≡ false → open_name other own ≢ open_name key own
names_apart key other own first second apart same = keys_differ key other (same_open_key key other own first second (sym same)) apart

-- ---- what was written stays

on_any : {A E : Type 0} (r : Result A E) (P : Type 0) → P → OnOk r P
on_any (Ok a) P p = p
on_any (Err e) P p = tt

-- where each file of another open share stays, and is not this one's once it went well
pub open_by : {F : Type 0} (inode : F → ℕ) (own : Option (List ℕ)) (key : ShareKey) (anew : Type 0) (r : Result Unit StoreError) (s t : Folder) (old new : List (ShareKey × OpenShare F))
    → StayBeside (same_key key) old new
    → ((other : ShareKey) (i : ℕ) (file : FileState) → IsShareKey key → IsShareKey other → same_key key other ≡ false → anew ⊎ IsNotOf inode i (at key old)
    → IsOwn s (open_name other own) i file → IsOwn t (open_name other own) i file × OnOk r (IsNotOf inode i (at key new)))
    → StayOpen inode own key anew r s old t new
open_by {F} inode own key anew r s t old new others stay other bytes valid valid_too apart two was =
    subst (λ (o : Option (OpenShare F)). WasWritten inode t (open_name other own) o bytes × OnOk r (AreTwo inode (at key new) o)) (sym (others other apart)) (entry (at other old) two was)
  where
    entry : (o : Option (OpenShare F)) → anew ⊎ AreTwo inode (at key old) o → WasWritten inode s (open_name other own) o bytes
        → WasWritten inode t (open_name other own) o bytes × OnOk r (AreTwo inode (at key new) o)
    entry None pair written = (written, on_any r (AreTwo inode (at key new) None) tt)
    entry (Some share) pair written =
        let stays = stay other (inode share.file) _ valid valid_too apart pair written.1.1 in
        ((written.0, (written.1.0, stays.0)), stays.1)

not_of_some : {F : Type 0} (inode : F → ℕ) (i : ℕ) (share : OpenShare F) (o : Option (OpenShare F)) → o ≡ Some share → IsNotOf inode i o → i ≢ inode share.file
not_of_some {F} inode i share o is apart = subst (λ (p : Option (OpenShare F)). IsNotOf inode i p) is apart

some_not_of : {F : Type 0} (inode : F → ℕ) (i : ℕ) (share : OpenShare F) (o : Option (OpenShare F)) → o ≡ Some share → i ≢ inode share.file → IsNotOf inode i o
some_not_of {F} inode i share o is apart = subst (λ (p : Option (OpenShare F)). IsNotOf inode i p) (sym is) apart

none_not_of : {F : Type 0} (inode : F → ℕ) (i : ℕ) (o : Option (OpenShare F)) → o ≡ None → IsNotOf inode i o
none_not_of {F} inode i o is = subst (λ (p : Option (OpenShare F)). IsNotOf inode i p) (sym is) tt

second : {P : Type 0} → ⊥ ⊎ P → P
second (inl none) = absurd none
second (inr p) = p

entries_stay : {F : Type 0} (key : ShareKey) (old new : List (ShareKey × OpenShare F)) → new ≡ old → StayBeside (same_key key) old new
entries_stay key old new same other apart = ap (at other) same

false_true : false ≡ true → ⊥
false_true is = true≢false (sym is)

-- ---- calls that failed

-- nothing was changed
pub open_failed : {F : Type 0} (inode : F → ℕ) (own : Option (List ℕ)) (key : ShareKey) (anew : Type 0) (r : Result Unit StoreError) (s : Folder) (old : List (ShareKey × OpenShare F)) → IsErr r
    → StayOpen inode own key anew r s old s old
open_failed inode own key anew (Ok u) s old is = absurd (false_true is)
open_failed inode own key anew (Err e) s old is = λ other bytes valid valid_too apart two was. (was, tt)

-- a file under this share's open name was removed, or was not made
pub open_removed : {F : Type 0} (inode : F → ℕ) (own : Option (List ℕ)) (key : ShareKey) (anew : Type 0) (r : Result Unit StoreError) (name : Name) (s t : Folder) (old new : List (ShareKey × OpenShare F))
    → IsErr r → name ≡ open_name key own → new ≡ old → OwnStayBeside name s t → StayOpen inode own key anew r s old t new
open_removed inode own key anew (Ok u) name s t old new failed is same beside = absurd (false_true failed)
open_removed inode own key anew (Err e) name s t old new failed is same beside =
    open_by inode own key anew (Err e) s t old new (entries_stay key old new same)
    (λ other i file valid valid_too apart two own_file. (beside (open_name other own) i file (λ same_name. names_apart key other own valid valid_too apart (same_name ∙ is)) own_file, tt))

-- the same call with another result
pub open_err : {F : Type 0} (inode : F → ℕ) (own : Option (List ℕ)) (key : ShareKey) (anew : Type 0) (q r : Result Unit StoreError) (s t : Folder) (old new : List (ShareKey × OpenShare F)) → IsErr r
    → StayOpen inode own key anew q s old t new → StayOpen inode own key anew r s old t new
open_err inode own key anew q (Ok u) s t old new failed stay = absurd (false_true failed)
open_err inode own key anew q (Err e) s t old new failed stay = λ other bytes valid valid_too apart two was. ((stay other bytes valid valid_too apart two was).0, tt)

-- and this share is open no longer
pub open_dropped : {F : Type 0} (inode : F → ℕ) (own : Option (List ℕ)) (key : ShareKey) (anew : Type 0) (r : Result Unit StoreError) (s t : Folder) (old mid new : List (ShareKey × OpenShare F)) → IsErr r
    → StayOpen inode own key anew r s old t mid → StayBeside (same_key key) mid new → StayOpen inode own key anew r s old t new
open_dropped inode own key anew (Ok u) s t old mid new failed stay others = absurd (false_true failed)
open_dropped {F} inode own key anew (Err e) s t old mid new failed stay others = λ other bytes valid valid_too apart two was.
    (subst (λ (o : Option (OpenShare F)). WasWritten inode t (open_name other own) o bytes) (sym (others other apart)) (stay other bytes valid valid_too apart two was).0, tt)

-- the same share, by the name that its file was given
pub open_same : {F : Type 0} (inode : F → ℕ) (o p : Option (List ℕ)) (k l : ShareKey) (anew : Type 0) (r : Result Unit StoreError) (s t : Folder) (old new : List (ShareKey × OpenShare F)) → k ≡ l → o ≡ p
    → StayOpen inode o k anew r s old t new → StayOpen inode p l anew r s old t new
open_same inode o p k l anew r s t old new same own stay =
    subst (λ (q : Option (List ℕ)). StayOpen inode q l anew r s old t new) own (subst (λ (m : ShareKey). StayOpen inode o m anew r s old t new) same stay)

-- ---- calls that may go well

-- a file was made for this share
pub open_begun : {F : Type 0} (inode : F → ℕ) (own : Option (List ℕ)) (key : ShareKey) (anew : Type 0) (name : Name) (share : OpenShare F) (r : Result Unit StoreError) (s t : Folder) (old new : List (ShareKey × OpenShare F))
    → name ≡ open_name key own → OnOk r (at key new ≡ Some share) → OnErr r (new ≡ old) → StayBeside (same_key key) old new → OwnStayBeside name s t
    → ((other : Name) (i : ℕ) (was : FileState) → other ≢ name → IsOwn s other i was → i ≢ inode share.file) → StayOpen inode own key anew r s old t new
open_begun inode own key anew name share (Err e) s t old new is there same others beside apart_from = open_removed inode own key anew (Err e) name s t old new refl is same beside
open_begun inode own key anew name share (Ok u) s t old new is there same others beside apart_from =
    open_by inode own key anew (Ok u) s t old new others
    (λ other i file valid valid_too apart two own_file.
    let differ : open_name other own ≢ name = λ same_name. names_apart key other own valid valid_too apart (same_name ∙ is) in
    (beside (open_name other own) i file differ own_file, some_not_of inode i share (at key new) there (apart_from (open_name other own) i file differ own_file)))

-- this share's file was changed
pub open_changed : {F : Type 0} (inode : F → ℕ) (own : Option (List ℕ)) (key : ShareKey) (share later : OpenShare F) (r : Result Unit StoreError) (s t : Folder) (old new : List (ShareKey × OpenShare F))
    → at key old ≡ Some share → at key new ≡ Some later → inode later.file ≡ inode share.file → StayBeside (same_key key) old new → OwnStayBut (inode share.file) s t
    → StayOpen inode own key ⊥ r s old t new
open_changed inode own key share later r s t old new was is same others but =
    open_by inode own key ⊥ r s t old new others
    (λ other i file valid valid_too apart two own_file.
    let differ = not_of_some inode i share (at key old) was (second two) in
    (but (open_name other own) i file (open_passes other own) differ own_file, on_any r (IsNotOf inode i (at key new)) (some_not_of inode i later (at key new) is (λ same_number. differ (same_number ∙ same)))))

-- more is asked of the others than is needed
pub open_anew : {F : Type 0} (inode : F → ℕ) (own : Option (List ℕ)) (key : ShareKey) (anew : Type 0) (r : Result Unit StoreError) (s t : Folder) (old new : List (ShareKey × OpenShare F))
    → StayOpen inode own key ⊤ r s old t new → StayOpen inode own key anew r s old t new
open_anew inode own key anew r s t old new stay other bytes valid valid_too apart two was = stay other bytes valid valid_too apart (inl tt) was

-- nothing is begun
pub open_none : {F : Type 0} (inode : F → ℕ) (own : Option (List ℕ)) (key : ShareKey) (anew : Type 0) (r : Result Unit StoreError) (s : Folder) (old : List (ShareKey × OpenShare F)) → (anew → ⊥)
    → StayOpen inode own key anew r s old s old
open_none inode own key anew r s old not other bytes valid valid_too apart (inl a) was = absurd (not a)
open_none inode own key anew r s old not other bytes valid valid_too apart (inr two) was = (was, on_any r _ two)

-- one call after another
pub open_on : {F : Type 0} (inode : F → ℕ) (own : Option (List ℕ)) (key : ShareKey) (anew : Type 0) (r : Result Unit StoreError) (s m t : Folder) (old mid new : List (ShareKey × OpenShare F))
    → StayOpen inode own key anew (Ok tt) s old m mid → StayOpen inode own key ⊥ r m mid t new → StayOpen inode own key anew r s old t new
open_on inode own key anew r s m t old mid new first then other bytes valid valid_too apart two was =
    let after = first other bytes valid valid_too apart two was in
    then other bytes valid valid_too apart (inr after.1) after.0

-- and its file was removed
pub open_gone : {F : Type 0} (inode : F → ℕ) (own : Option (List ℕ)) (key : ShareKey) (anew : Type 0) (r : Result Unit StoreError) (name : Name) (s m t : Folder) (old mid new : List (ShareKey × OpenShare F))
    → IsErr r → name ≡ open_name key own → StayOpen inode own key anew r s old m mid → new ≡ mid → OwnStayBeside name m t → StayOpen inode own key anew r s old t new
open_gone inode own key anew (Ok u) name s m t old mid new failed is stay same beside = absurd (false_true failed)
open_gone inode own key anew (Err e) name s m t old mid new failed is stay same beside = λ other bytes valid valid_too apart two was.
    open_removed inode own key ⊤ (Err e) name m t mid new failed is same beside other bytes valid valid_too apart (inl tt) (stay other bytes valid valid_too apart two was).0

-- ---- closes

-- nothing is open, and an empty file is made and closed
pub of_none : {F : Type 0} (inode : F → ℕ) (last : Name) (share : OpenShare F) (o : Option (OpenShare F)) (s m t : Folder) → OwnStayBeside last s m
    → ((other : Name) (i : ℕ) (was : FileState) → other ≢ last → IsOwn s other i was → i ≢ inode share.file) → OwnStayBut (inode share.file) m t → OwnStayButOf inode last o s t
of_none inode last share o s m t beside apart_from but name i file passing apart two own_file =
    but name i file passing (apart_from name i file apart own_file) (beside name i file apart own_file)

pub of_beside : {F : Type 0} (inode : F → ℕ) (last : Name) (o : Option (OpenShare F)) (s t : Folder) → OwnStayBeside last s t → OwnStayButOf inode last o s t
of_beside inode last o s t beside name i file passing apart two own_file = beside name i file apart own_file

pub of_some : {F : Type 0} (inode : F → ℕ) (last : Name) (share : OpenShare F) (o : Option (OpenShare F)) (s t : Folder) → o ≡ Some share → OwnStayBut (inode share.file) s t
    → OwnStayButOf inode last o s t
of_some inode last share o s t is but name i file passing apart two own_file = but name i file passing (not_of_some inode i share o is two) own_file

-- a close failed, and the share is open as it was
pub open_unclosed : {F : Type 0} (inode : F → ℕ) (own : Option (List ℕ)) (key : ShareKey) (r : Result Unit StoreError) (name : Name) (s t : Folder) (old : List (ShareKey × OpenShare F)) → name ≡ open_name key own
    → OwnStayButOf inode name (at key old) s t → StayOpen inode own key ⊥ r s old t old
open_unclosed inode own key r name s t old is but =
    open_by inode own key ⊥ r s t old old (entries_stay key old old refl)
    (λ other i file valid valid_too apart two own_file. (
      but (open_name other own) i file (open_passes other own) (λ same_name. names_apart key other own valid valid_too apart (same_name ∙ is)) (second two) own_file,
      on_any r (IsNotOf inode i (at key old)) (second two),
    ))

-- it went well, and the share is open no longer
pub open_closed : {F : Type 0} (inode : F → ℕ) (own : Option (List ℕ)) (key : ShareKey) (r : Result Unit StoreError) (name : Name) (s t : Folder) (old new : List (ShareKey × OpenShare F)) → name ≡ open_name key own
    → at key new ≡ None → StayBeside (same_key key) old new → OwnStayButOf inode name (at key old) s t → StayOpen inode own key ⊥ r s old t new
open_closed inode own key r name s t old new is gone others but =
    open_by inode own key ⊥ r s t old new others
    (λ other i file valid valid_too apart two own_file. (
      but (open_name other own) i file (open_passes other own) (λ same_name. names_apart key other own valid valid_too apart (same_name ∙ is)) (second two) own_file,
      on_any r (IsNotOf inode i (at key new)) (none_not_of inode i (at key new) gone),
    ))

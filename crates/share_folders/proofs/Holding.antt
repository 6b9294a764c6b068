-- What a store has in its folder.
use Rattle.std.proofs.Common.{◌≡◌, ℕ, ◌-◌, List, [], length, take, drop, refl, sym, ◌∙◌, ap, subst, arith, length-drop, inl, inr}
use Rattle.std.specs.Prelude.{Option, Some, None, Result, Ok, Err, OnErr, OnOk, IfSome, IfOk, is_some, min, true, false, unwrap_or}
use mathlib.Core.Bool.{true≢false}
use Rattle.std.proofs.lemmas.List.{take_min}
use Rattle.disks.specs.Names.{Name, Relied, IsRelied}
use Rattle.disks.specs.Folder.{Folder, HasBytes}
use Rattle.disks.specs.Laws.{StaysHeld}
use Rattle.share_store.specs.declared.error.StoreError.{StoreError}
use Rattle.share_store.specs.Shelf.{ShareKey, at, same_key}
use Rattle.share_store.proofs.ShelfLaws.{same_is}
use Rattle.share_folders.specs.declared.table.KeptShare.{KeptShare}
use Rattle.share_folders.specs.declared.files.RecentFile.{RecentFile}
use Rattle.share_folders.specs.Names.{closed_name}
use Rattle.share_folders.specs.Listed.{AreTaken, IsSole}
use Rattle.share_folders.specs.Stored.{HasShare, IsKept, IsLatest, IsNoted, RecentHas, StayHeld, StayKept}
use Rattle.share_folders.proofs.FolderLaws.{beside_noted}
use Rattle.share_folders.proofs.OpenLaws.{keys_differ}
use Rattle.share_folders.proofs.Lasting.{closed_lasts}

-- a share whose length is known is as long as its bytes
pub known_right : (closed : List (ShareKey × KeptShare)) (key : ShareKey) (digest bytes : List ℕ) → IfSome (at key closed) (λ (k : KeptShare). is_some k.length ≡ true)
    → IsNoted closed key digest bytes → at key closed ≡ Some (record { length = Some (length bytes); digest = digest })
known_right closed key digest bytes known noted =
    noted.there ∙ ap (λ (l : Option ℕ). Some (record { length = l; digest = digest }))
    (long noted.long (subst (λ (o : Option KeptShare). IfSome o (λ (k : KeptShare). is_some k.length ≡ true)) noted.there known) noted.right)
  where
    long : (l : Option ℕ) → is_some l ≡ true → IfSome l (λ (n : ℕ). n ≡ length bytes) → l ≡ Some (length bytes)
    long None is right = absurd (true≢false (sym is))
    long (Some n) is right = ap (λ (m : ℕ). Some m) right

abbrev digest_or_none : Option KeptShare → List ℕ
digest_or_none None = []
digest_or_none (Some k) = k.digest

-- a share in the table has one digest
pub one_digest : (closed : List (ShareKey × KeptShare)) (key : ShareKey) (d digest bytes : List ℕ) (k : KeptShare)
    → at key closed ≡ Some k → IsNoted closed key digest bytes → k.digest ≡ digest
one_digest closed key d digest bytes k is noted = ap digest_or_none (sym is ∙ noted.there)

abbrev one_number : Option ℕ → ℕ
one_number None = 0
one_number (Some n) = n

pub some_right : (n : ℕ) (found : Option ℕ) (bytes : List ℕ) → found ≡ Some n → found ≡ Some (length bytes) → n ≡ length bytes
some_right n found bytes is right = ap one_number {x = Some n} {y = Some (length bytes)} (sym is ∙ right)

pub none_right : {X : Type 0} (found : Option ℕ) (bytes : List ℕ) → found ≡ None → found ≡ Some (length bytes) → X
none_right found bytes is right = differ (sym is ∙ right)
  where
    differ : {X : Type 0} {n : ℕ} → None ≡ Some n → X
    differ same = cc

-- a share whose length is noted
pub right_noted : (r : Result Unit StoreError) (n : ℕ) (d digest bytes : List ℕ) (new : Option KeptShare) → d ≡ digest → n ≡ length bytes
    → OnOk r (new ≡ Some (record { length = Some n; digest = d })) → OnOk r (new ≡ Some (record { length = Some (length bytes); digest = digest }))
right_noted (Ok u) n d digest bytes new same long is = is ∙ (λ i. Some (record { length = Some (long i); digest = same i }))
right_noted (Err e) n d digest bytes new same long is = tt

pub noted_now : (closed : List (ShareKey × KeptShare)) (key : ShareKey) (digest bytes : List ℕ)
    → at key closed ≡ Some (record { length = Some (length bytes); digest = digest }) → IsNoted closed key digest bytes
noted_now closed key digest bytes is = record { long = Some (length bytes); there = is; right = refl }

pub recent_later : {relied : Relied} {F : Type 0} (inode : F → ℕ) (s t : Folder) (key : ShareKey) (recent : Option (RecentFile F)) (bytes : List ℕ) → StaysHeld relied s t
    → RecentHas inode s key recent bytes → RecentHas inode t key recent bytes
recent_later {relied} inode s t key None bytes held has = tt
recent_later {relied} inode s t key (Some file) bytes held has = λ same. held.files (inode file.file) bytes (has same)

-- what was found in the table is this share
pub some_share : (k : KeptShare) (digest bytes : List ℕ) (o : Option KeptShare) → Some k ≡ o → o ≡ Some (record { length = Some (length bytes); digest = digest })
    → (k.length ≡ Some (length bytes)) × (k.digest ≡ digest)
some_share k digest bytes o is right =
    subst (λ (p : Option KeptShare). IfSome p (λ (j : KeptShare). (j.length ≡ Some (length bytes)) × (j.digest ≡ digest))) (sym (is ∙ right)) (refl, refl)

-- ---- closed shares that stay

-- one share is looked at, and the others stay
pub kept_at : {relied : Relied} (s t : Folder) (old new : List (ShareKey × KeptShare)) (key : ShareKey) → StaysHeld relied s t
    → ((digest bytes : List ℕ) → IsKept relied s old key digest bytes → IsNoted new key digest bytes)
    → ((other : ShareKey) → same_key key other ≡ false → at other new ≡ at other old) → StayKept relied s old t new
kept_at {relied} s t old new key held here others other digest bytes kept = record {
  size = kept.size;
  relies = kept.relies;
  noted = elim (same_key key other) as (λ b. same_key key other ≡ b → IsNoted new other digest bytes) [
    | true ↦ λ e. subst (λ (k : ShareKey). IsKept relied s old k digest bytes → IsNoted new k digest bytes) (same_is key other e) (here digest bytes) kept
    | false ↦ λ e. record { long = kept.noted.long; there = others other e ∙ kept.noted.there; right = kept.noted.right }
  ] refl;
  stands = held.names (closed_name other digest) bytes (closed_lasts other digest kept.size, kept.relies) kept.stands;
}

-- the table is the same
pub kept_same : {relied : Relied} (s t : Folder) (old new : List (ShareKey × KeptShare)) → StaysHeld relied s t → new ≡ old → StayKept relied s old t new
kept_same {relied} s t old new held same key digest bytes kept = record {
  size = kept.size;
  relies = kept.relies;
  noted = subst (λ (cs : List (ShareKey × KeptShare)). IsNoted cs key digest bytes) (sym same) kept.noted;
  stands = held.names (closed_name key digest) bytes (closed_lasts key digest kept.size, kept.relies) kept.stands;
}

pub kept_on : {relied : Relied} (s t u : Folder) (old mid new : List (ShareKey × KeptShare)) → StayKept relied s old t mid → StayKept relied t mid u new → StayKept relied s old u new
kept_on {relied} s t u old mid new first then key digest bytes kept = then key digest bytes (first key digest bytes kept)

noted_or_same : (r : Result Unit StoreError) (old new : List (ShareKey × KeptShare)) (key : ShareKey) (digest bytes : List ℕ)
    → OnOk r (at key new ≡ Some (record { length = Some (length bytes); digest = digest })) → OnErr r (new ≡ old) → IsNoted old key digest bytes → IsNoted new key digest bytes
noted_or_same (Ok u) old new key digest bytes is same noted = noted_now new key digest bytes is
noted_or_same (Err e) old new key digest bytes is same noted = subst (λ (cs : List (ShareKey × KeptShare)). IsNoted cs key digest bytes) (sym same) noted

-- a share whose length was noted, or not
pub kept_noted : {relied : Relied} (s t : Folder) (old new : List (ShareKey × KeptShare)) (key : ShareKey) (r : Result Unit StoreError) → StaysHeld relied s t
    → ((digest bytes : List ℕ) → IsKept relied s old key digest bytes → OnOk r (at key new ≡ Some (record { length = Some (length bytes); digest = digest })))
    → OnErr r (new ≡ old) → OnOk r ((other : ShareKey) → same_key key other ≡ false → at other new ≡ at other old) → StayKept relied s old t new
kept_noted {relied} s t old new key r held right err others =
    kept_at s t old new key held (λ digest bytes kept. noted_or_same r old new key digest bytes (right digest bytes kept) err kept.noted) (beside_noted r key old new others err)

-- what is read last
pub held_share : {relied : Relied} {F : Type 0} (inode : F → ℕ) (s t : Folder) (old new : List (ShareKey × KeptShare)) (was latest : Option (RecentFile F)) (key : ShareKey)
    → StayKept relied s old t new → StaysHeld relied s t → IsLatest key was latest
    → ((digest bytes : List ℕ) → HasShare relied inode s old was key digest bytes → RecentHas inode t key latest bytes) → StayHeld relied inode s old was t new latest
held_share {relied} {F} inode s t old new was latest key kept held is here other digest bytes share = record {
  kept = kept other digest bytes share.kept;
  last = elim (same_key key other) as (λ b. same_key key other ≡ b → RecentHas inode t other latest bytes) [
    | true ↦ λ e. subst (λ (k : ShareKey). HasShare relied inode s old was k digest bytes → RecentHas inode t k latest bytes) (same_is key other e) (here digest bytes) share
    | false ↦ λ e. other_has latest e is share.last
  ] refl;
}
  where
    other_has : (now : Option (RecentFile F)) → same_key key other ≡ false → IsLatest key was now → RecentHas inode s other was bytes → RecentHas inode t other now bytes
    other_has now apart (inl same) has = subst (λ (r : Option (RecentFile F)). RecentHas inode t other r bytes) (sym same) (recent_later inode s t other was bytes held has)
    other_has None apart (inr of_this) has = tt
    other_has (Some file) apart (inr of_this) has = λ same. absurd (keys_differ key other (sym of_this ∙ same) apart)

pub stands_later : {relied : Relied} (s t : Folder) (name : Name) (bytes : List ℕ) → IsRelied relied name bytes → StaysHeld relied s t → HasBytes s bytes (s.found name) → HasBytes t bytes (t.found name)
stands_later {relied} s t name bytes lasting held has = held.names name bytes lasting has

pub left_of : (count offset whole left : ℕ) (long : Option ℕ) (bytes : List ℕ) → long ≡ Some (length bytes) → whole ≡ unwrap_or long 0 → left ≡ min count (whole - offset)
    → take left (drop offset bytes) ≡ take count (drop offset bytes)
left_of count offset whole left long bytes right is value =
    let all : whole ≡ length bytes = is ∙ ap (λ (o : Option ℕ). unwrap_or o 0) right in
    let rest : whole - offset ≡ length (drop offset bytes) = omega (arith, all, length-drop offset bytes) in
    ap (λ (k : ℕ). take k (drop offset bytes)) value ∙ ap (λ (n : ℕ). take (min count n) (drop offset bytes)) rest ∙ take_min count (drop offset bytes)

pub as_given : {E : Type 0} (r : Result (List ℕ) E) (xs ys : List ℕ) → xs ≡ ys → IfOk r (λ (got : List ℕ). got ≡ xs) → IfOk r (λ (got : List ℕ). got ≡ ys)
as_given (Ok got) xs ys same is = is ∙ same
as_given (Err e) xs ys same is = tt

pub on_ok : {A E : Type 0} (r : Result A E) (P : Type 0) → P → OnOk r P
on_ok (Ok a) P p = p
on_ok (Err e) P p = tt

-- shares were looked at, and none was read
pub held_looked : {relied : Relied} {F : Type 0} (inode : F → ℕ) (s t : Folder) (old new : List (ShareKey × KeptShare)) (recent : Option (RecentFile F)) → StayKept relied s old t new → StaysHeld relied s t
    → StayHeld relied inode s old recent t new recent
held_looked {relied} inode s t old new recent kept held key digest bytes share = record {
  kept = kept key digest bytes share.kept;
  last = recent_later inode s t key recent bytes held share.last;
}

-- a share that has one closed name, when a store is opened
pub sole_has : {relied : Relied} {F : Type 0} (inode : F → ℕ) (s t : Folder) (names : List Name) (closed : List (ShareKey × KeptShare)) (key : ShareKey) (digest bytes : List ℕ) → AreTaken names closed
    → IsSole names key digest → StaysHeld relied s t → relied (closed_name key digest) bytes ≡ true → HasBytes s bytes (s.found (closed_name key digest)) → HasShare relied inode t closed None key digest bytes
sole_has {relied} inode s t names closed key digest bytes taken sole held relies has = record {
  kept = record {
    size = sole.valid.2.len;
    relies = relies;
    noted = record { long = None; there = taken.sole key digest sole; right = tt };
    stands = held.names (closed_name key digest) bytes (closed_lasts key digest sole.valid.2.len, relies) has;
  };
  last = tt;
}

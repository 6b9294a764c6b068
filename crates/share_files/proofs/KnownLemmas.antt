-- Files by the storage indices of their shares.
use Rattle.std.proofs.Common.{◌≡◌, ℕ, List, [], ◌∷◌, ◌++◌, Bool, true, false, cond, Option, None, Some, All, filter, option_map, refl, sym, ap, subst, ◌∙◌, ◌⊎◌, inl, inr, true≢false}
use Rattle.std.specs.BTreeMap.{BTreeMap, Updates, get}
use Rattle.std.specs.Cmp.Lexicographic.{bytes_decides, slice_cmp}
use Rattle.std.specs.Global.{Vec}
use Rattle.std.specs.List.{AllByRecursion, Contains}
use Rattle.std.specs.Option.{unwrap_or}
use Rattle.std.specs.Ordering.{is_eq, nat_cmp}
use Rattle.std.proofs.lemmas.List.Elements.{Contains-append_left, filter_passes}
use Rattle.std.proofs.lemmas.Map.Text.{is_eq-slice_cmp}
use Rattle.lemmas.proofs.Members.{contains_cases, contains_head, contains_tail}
use Rattle.share_files.specs.declared.name.ShareFile.{ShareFile}
use Rattle.share_files.specs.Known.{ByIndex, HasAllOf, StandUnder, TakesFrom, is_of, under}

-- the files that were found
abbrev pub items_of : Option (Vec ShareFile) → List ShareFile
items_of found = unwrap_or (option_map (λ (v : Vec ShareFile). v.items) found) []

module _ (old mid new : ByIndex) (key : List ℕ) (v : Vec ShareFile) (file : ShareFile)
    (taken : TakesFrom old mid key) (given : Updates (slice_cmp nat_cmp) mid new key (Some v)) (grown : v.items ≡ under old key ++ file ∷ []) where
  found_still : (q : List ℕ) → is_eq (slice_cmp nat_cmp key q) ≡ true → under new q ≡ under old q ++ file ∷ []
  found_still q e =
      ap items_of (given.0 q ∙ ap (λ (same : Bool). cond same (Some v) (get (slice_cmp nat_cmp) mid q)) e)
      ∙ grown ∙ ap (λ (k : List ℕ). under old k ++ file ∷ []) ((bytes_decides key q).0 (sym (is_eq-slice_cmp key q) ∙ e))

  others_still : (q : List ℕ) → is_eq (slice_cmp nat_cmp key q) ≡ false → under new q ≡ under old q
  others_still q e = ap items_of (given.2 q e ∙ taken.2 q e)

  by : (q : List ℕ) (f : ShareFile) (same : Bool) → is_eq (slice_cmp nat_cmp key q) ≡ same → Contains (under old q) f → Contains (under new q) f
  by q f true e had = subst (λ (files : List ShareFile). Contains files f) (sym (found_still q e)) (Contains-append_left (under old q) (file ∷ []) f had)
  by q f false e had = subst (λ (files : List ShareFile). Contains files f) (sym (others_still q e)) had

  -- what stood under a storage index stands there with one more file
  pub stands_still : (q : List ℕ) (f : ShareFile) → Contains (under old q) f → Contains (under new q) f
  stands_still q f = by q f (is_eq (slice_cmp nat_cmp key q)) refl

module _ (old new : ByIndex) (kept : (index : List ℕ) (f : ShareFile) → Contains (under old index) f → Contains (under new index) f) where
  -- with one more
  pub stand_more : (files : List ShareFile) (f : ShareFile) → Contains (under new f.key.0) f → StandUnder old files → StandUnder new (files ++ f ∷ [])
  stand_more [] f added stood = (added, tt)
  stand_more (x ∷ xs) f added stood = (kept x.key.0 x stood.0, stand_more xs f added stood.1)

-- what passes a test is among those that do
kept_in : (test : ShareFile → Bool) (files : List ShareFile) (f : ShareFile) → Contains files f → test f ≡ true → Contains (filter test files) f
kept_in test [] f had is = had
kept_in test (x ∷ xs) f had is = by (test x) refl (contains_cases x f xs had) (λ more. kept_in test xs f more is) where
  by : (b : Bool) → test x ≡ b → (x ≡ f) ⊎ Contains xs f → (Contains xs f → Contains (filter test xs) f) → Contains (cond b (x ∷ filter test xs) (filter test xs)) f
  by true e (inl same) rest = subst (Contains (x ∷ filter test xs)) same (contains_head x (filter test xs))
  by true e (inr more) rest = contains_tail x f (filter test xs) (rest more)
  by false e (inl same) rest = absurd (true≢false (sym is ∙ ap test (sym same) ∙ e))
  by false e (inr more) rest = rest more

module _ (map : ByIndex) (index : List ℕ) (found told : List ShareFile) (there : under map index ≡ found) (are : told ≡ filter (is_of index) found) where
  told_one : (f : ShareFile) → f.key.0 ≡ index → Contains (under map f.key.0) f → Contains told f
  told_one f same had =
      subst (λ (files : List ShareFile). Contains files f) (sym are)
      (kept_in (is_of index) found f (subst (λ (files : List ShareFile). Contains files f) (ap (under map) same ∙ there) had) ((bytes_decides f.key.0 index).1 same))

  told_of : (files : List ShareFile) → StandUnder map files → HasAllOf index told files
  told_of [] stood = tt
  told_of (f ∷ fs) stood = (λ same. told_one f same stood.0, told_of fs stood.1)

  -- all that were listed are told
  pub told_all : (listed now : List ShareFile) → listed ≡ now → StandUnder map listed → HasAllOf index told now
  told_all listed now same stood = subst (HasAllOf index told) same (told_of listed stood)

  -- and no others
  pub told_alone : All (λ (f : ShareFile). f.key.0 ≡ index) told
  told_alone = subst (All (λ (f : ShareFile). f.key.0 ≡ index)) (sym are) (λ k d lt. (bytes_decides _ index).0 (filter_passes (is_of index) found k d lt))

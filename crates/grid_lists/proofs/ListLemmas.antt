-- Files of a list, one after the other, and their catalogue.
use Rattle.std.proofs.Common.{◌≡◌, ◌⊎◌, ◌<◌, ◌+◌, ◌∙◌, ℕ, List, [], ◌∷◌, ◌++◌, Bool, true, false, Option, Some, Bor, length, map, take, drop, refl, sym, ap, subst, get_or, Result, Ok, Err, IfOk, IfErr, inl, inr}
use Rattle.std.proofs.lemmas.Result.{IfOk-weaker, err_from_is_err_and}
use Rattle.std.specs.Io.KnownBytes.{Appends}
use Rattle.std.specs.List.{AllByRecursion, flat_map}
use Rattle.std.specs.Prelude.{codes, decimal, fold}
use Rattle.std.specs.Result.{IsErrAnd}
use Rattle.std.proofs.KnownBytes.{Appends-nil, Appends-trans}
use Rattle.std.proofs.lemmas.Grind.{flat_map-append}
use Rattle.std.proofs.lemmas.List.{append-nil, append_assoc, drop_more, get_or-map, length-map, map-append, take-append-drop, take_more}
use Rattle.std.proofs.lemmas.List.Sums.{fold-append}
use Rattle.sources.specs.Opened.{Opened}
use Rattle.grid_words.specs.declared.words.PutWords.{PutWords}
use Rattle.grid_lists.specs.Ends.{AreListedBefore, IsCutShort, IsListed, IsManyCutOff}
use Rattle.cap_text.specs.Base32.{base32}
use Rattle.cap_text.specs.declared.cap.Cap.{Cap}
use Rattle.catalogues.specs.Catalogues.{Entry, IsEntry, entry_text}
use Rattle.catalogues.specs.Heads.{first_text, first_then, nine_digits}
use Rattle.catalogues.specs.Lines.{line_text}
use Rattle.catalogues.specs.declared.head.Head.{Head}
use Rattle.catalogues.specs.declared.known.Known.{Known}
use Rattle.grid_faults.specs.Fault.{fault_status}
use Rattle.grid_faults.specs.declared.fault.Fault.{Fault}
use Rattle.grid_shares.specs.Puts.{IsPutBy, put_status}
use Rattle.grid_shares.specs.declared.putting.PutFile.{PutFile}
use Rattle.grid_servers.specs.Grids.{GridCalls}
use Rattle.grid_telling.specs.declared.outcome.Failure.{Failure}
use Rattle.grid_telling.specs.declared.outcome.Failure.TheVariants as failures
use Rattle.grid_lists.specs.Puts.{AreListed, ArePut, Fate, IsFate, IsHeadBy, IsPutBefore, IsPutCutOff, IsPutDone, IsPutList, IsPutMany, IsPutOne, Listed, fate_entries, fate_text, is_one, kept, listed_entries, listed_status, listed_text, many, one, refused, stored}
use Rattle.grid_lists.specs.Since.{IsKeptSince, IsSince}
use Rattle.grid_lists.specs.Statuses.{status_after}

-- pieces, one behind the other
abbrev joined : List (List ℕ) → List ℕ → List ℕ
joined [] rest = rest
joined (piece ∷ pieces) rest = piece ++ joined pieces rest

joined_then : (pieces : List (List ℕ)) (x : List ℕ) → joined pieces [] ++ x ≡ joined pieces x
joined_then [] x = refl
joined_then (piece ∷ pieces) x = append_assoc piece (joined pieces []) x ∙ ap (λ (ys : List ℕ). piece ++ ys) (joined_then pieces x)

-- those of a first line
abbrev pieces_of : Head → List (List ℕ)
pieces_of h = codes "# grid catalogue 1 begun " ∷ decimal h.begun.seconds ∷ codes "." ∷ nine_digits h.begun.nanoseconds ∷ codes " k " ∷ decimal h.numbers.needed ∷ codes " n " ∷ decimal h.numbers.total
    ∷ codes " segment " ∷ decimal h.numbers.segment_size ∷ codes " under " ∷ base32 h.fingerprint ∷ codes "\n" ∷ []

-- what follows the first line
then_all : (h : Head) (x : List ℕ) → first_text h ++ x ≡ first_then h x
then_all h x = joined_then (pieces_of h) x

-- ---- why a put of many ended

pub err_again : {T : Type 0} (r : Result T Failure) (f : Failure) (P : Failure → Type 0) → IsErrAnd r (λ e. e ≡ f) → P f → IfErr r P
err_again {T = T} r f P told known = let e = err_from_is_err_and r told in subst (λ (x : Result T Failure). IfErr x P) (sym (e.1 ∙ ap Err e.2)) known

cut_weaker : (failure : Failure) (P Q : Type 0) → (P → Q) → IsCutShort failure P → IsCutShort failure Q
cut_weaker failure P Q follows short = elim short [
  | inl writer ↦ inl writer
  | inr memory ↦ inr (memory.0, follows memory.1)
]

module _ {F S : Type 0} (gives : Opened F → ℕ → List ℕ → Opened F → Type 0) (calls : GridCalls S) (words : PutWords) (said : Option (List ℕ)) (since : Option Known) (head : Head) where
  abbrev fated : Listed → Type 0
  fated l = IsFate gives calls words said since head l.name l.fate

  abbrev name_of : Listed → List ℕ
  name_of l = l.name

  each_both : (xs ys : List Listed) → AllByRecursion fated xs → AllByRecursion fated ys → AllByRecursion fated (xs ++ ys)
  each_both [] ys a b = b
  each_both (x ∷ xs) ys a b = (a.0, each_both xs ys a.1 b)

  pub none_listed : (first : ℕ) (out : Option (List ℕ)) → AreListed gives calls words said since head [] first first out out
  none_listed first out = record { listed = []; names_are = refl; fates = tt; status_is = refl; written = Appends-nil out }

  -- these and then those
  pub both_listed : (names more : List (List ℕ)) (first mid last : ℕ) (a b c : Option (List ℕ)) → AreListed gives calls words said since head names first mid a b → AreListed gives calls words said since head more mid last b c
      → AreListed gives calls words said since head (names ++ more) first last a c
  both_listed names more first mid last a b c before behind = record {
    listed = before.listed ++ behind.listed;
    names_are = map-append name_of before.listed behind.listed ∙ ap (λ (xs : List (List ℕ)). xs ++ map name_of behind.listed) before.names_are ∙ ap (λ (xs : List (List ℕ)). names ++ xs) behind.names_are;
    fates = each_both before.listed behind.listed before.fates behind.fates;
    status_is = behind.status_is ∙ ap (λ (s : ℕ). fold listed_status s behind.listed) before.status_is ∙ sym (fold-append listed_status first before.listed behind.listed);
    written = subst (Appends a c) (sym (flat_map-append listed_text before.listed behind.listed)) (Appends-trans a b c _ _ before.written behind.written);
  }

  one_listed : (name : List ℕ) (first own : ℕ) (a b : Option (List ℕ)) → IsListed gives calls words said since head name own a b → AreListed gives calls words said since head (name ∷ []) first (status_after first own) a b
  one_listed name first own a b l = record {
    listed = record { name = name; fate = l.fate } ∷ [];
    names_are = refl;
    fates = (l.is, tt);
    status_is = ap (status_after first) l.status_is;
    written = subst (Appends a b) (sym (append-nil _)) l.written;
  }

  -- one name more of a list
  pub next_listed : (names : List (Bor (List ℕ))) (i : ℕ) (name : List ℕ) (first so_far own status : ℕ) (a b c : Option (List ℕ)) (any : Bor (List ℕ)) → i < length names
      → name ≡ (get_or names i any).now → status ≡ status_after so_far own → AreListed gives calls words said since head (take i (map (λ n. n.now) names)) first so_far a b → IsListed gives calls words said since head name own b c
      → AreListed gives calls words said since head (take (i + 1) (map (λ n. n.now) names)) first status a c
  next_listed names i name first so_far own status a b c any within is after listed more =
      let now : Bor (List ℕ) → List ℕ = λ n. n.now in
      let long : i < length (map now names) = subst (λ (n : ℕ). i < n) (sym (length-map names now)) within in
      let here : get_or (map now names) i [] ≡ name = get_or-map now names i any [] within ∙ sym is in
      let grown = both_listed (take i (map now names)) (name ∷ []) first so_far (status_after so_far own) a b c listed (one_listed name so_far own b c more) in
      subst (λ (s : ℕ). AreListed gives calls words said since head (take (i + 1) (map now names)) first s a c) (sym after)
      (subst (λ (xs : List (List ℕ)). AreListed gives calls words said since head xs first (status_after so_far own) a c)
      (sym (take_more (map now names) i [] long ∙ ap (λ (x : List ℕ). take i (map now names) ++ x ∷ []) here)) grown)

  -- ---- the catalogue

  lines_of : (name : List ℕ) (fate : Fate) → fate_text name fate ≡ flat_map entry_text (fate_entries name fate)
  lines_of name (stored file) = sym (append-nil (line_text file.cap name))
  lines_of name (kept cap) = sym (append-nil (line_text cap name))
  lines_of name (refused fault) = refl

  entries_of : (name : List ℕ) (fate : Fate) → IsFate gives calls words said since head name fate → AllByRecursion IsEntry (fate_entries name fate)
  entries_of name (stored file) is = (is.1, tt)
  entries_of name (kept cap) is = (is.1, tt)
  entries_of name (refused fault) is = tt

  all_lines : (ls : List Listed) → flat_map listed_text ls ≡ flat_map entry_text (flat_map listed_entries ls)
  all_lines [] = refl
  all_lines (l ∷ ls) =
      ap (λ (xs : List ℕ). xs ++ flat_map listed_text ls) (lines_of l.name l.fate) ∙ ap (λ (xs : List ℕ). flat_map entry_text (listed_entries l) ++ xs) (all_lines ls)
      ∙ sym (flat_map-append entry_text (listed_entries l) (flat_map listed_entries ls))

  entries_both : (xs ys : List Entry) → AllByRecursion IsEntry xs → AllByRecursion IsEntry ys → AllByRecursion IsEntry (xs ++ ys)
  entries_both [] ys a b = b
  entries_both (x ∷ xs) ys a b = (a.0, entries_both xs ys a.1 b)

  all_entries : (ls : List Listed) → AllByRecursion fated ls → AllByRecursion IsEntry (flat_map listed_entries ls)
  all_entries [] is = tt
  all_entries (l ∷ ls) is = entries_both (listed_entries l) (flat_map listed_entries ls) (entries_of l.name l.fate is.0) (all_entries ls is.1)

  -- a first line, and then files
  are_put : (secret line : List ℕ) (ls : List Listed) (a b c : Option (List ℕ)) → said ≡ Some secret → IsHeadBy words secret head → line ≡ first_text head → IsSince words since → Appends a b line
      → AllByRecursion fated ls → Appends b c (flat_map listed_text ls) → ArePut gives calls words ls a c
  are_put secret line ls a b c under is_head is is_since first fates written = record {
    secret = secret;
    head = head;
    is_head = is_head;
    since = since;
    is_since = is_since;
    fates = subst (λ (o : Option (List ℕ)). AllByRecursion (λ (l : Listed). IsFate gives calls words o since head l.name l.fate) ls) under fates;
    text = first_then head (flat_map entry_text (flat_map listed_entries ls));
    catalogue = record { is_head = is_head.is_head; are = all_entries ls fates; is = refl };
    written = subst (Appends a c) (then_all head _ ∙ ap (first_then head) (all_lines ls)) (Appends-trans a b c _ _ (subst (Appends a b) is first) written);
  }

  pub list_put : (secret line : List ℕ) (names : List (List ℕ)) (status : ℕ) (a b c : Option (List ℕ)) → said ≡ Some secret → IsHeadBy words secret head → line ≡ first_text head → IsSince words since → Appends a b line
      → AreListed gives calls words said since head (map (λ f. f.now) words.files.items ++ names) 0 status b c → IsPutList gives calls words status a c
  list_put secret line names status a b c under is_head is is_since first files = record {
    names = names;
    listed = files.listed;
    names_are = files.names_are;
    put = are_put secret line files.listed a b c under is_head is is_since first files.fates files.written;
    status_is = files.status_is;
  }

  -- a first line, and then the files before one
  put_before : (secret line : List ℕ) (names : List (List ℕ)) (a b c : Option (List ℕ)) → said ≡ Some secret → IsHeadBy words secret head → line ≡ first_text head → IsSince words since → Appends a b line
      → AreListedBefore gives calls words said since head (map (λ f. f.now) words.files.items ++ names) b c → IsPutBefore gives calls words a c
  put_before secret line names a b c under is_head is is_since first files = record {
    names = names;
    listed = files.listed;
    next = files.next;
    left = files.left;
    names_are = files.names_are;
    put = are_put secret line files.listed a b c under is_head is is_since first files.fates files.written;
  }

  pub list_cut : (secret line : List ℕ) (names given : List (List ℕ)) (r : Result ℕ Failure) (a b c : Option (List ℕ)) → said ≡ Some secret → IsHeadBy words secret head → line ≡ first_text head → IsSince words since → Appends a b line
      → given ≡ map (λ f. f.now) words.files.items ++ names → IfErr r (λ failure. IsCutShort failure (AreListedBefore gives calls words said since head given b c))
      → IfErr r (λ failure. IsManyCutOff gives calls words failure a c)
  list_cut secret line names given (Ok status) a b c under is_head is is_since first same cut = tt
  list_cut secret line names given (Err failure) a b c under is_head is is_since first same cut = elim cut [
    | inl writer ↦ inl writer
    | inr memory ↦ inr (inr (memory.0, put_before secret line names a b c under is_head is is_since first (subst (λ (ns : List (List ℕ)). AreListedBefore gives calls words said since head ns b c) same memory.1)))
  ]

  -- ---- the files before one that came to no end

  pub cut_at_name : (names : List (Bor (List ℕ))) (i first so_far : ℕ) (a b c : Option (List ℕ)) (failure : Failure) → i < length names → AreListed gives calls words said since head (take i (map (λ n. n.now) names)) first so_far a b
      → IsCutShort failure (c ≡ b) → IsCutShort failure (AreListedBefore gives calls words said since head (map (λ n. n.now) names) a c)
  cut_at_name names i first so_far a b c failure within files short =
      let now : Bor (List ℕ) → List ℕ = λ n. n.now in
      let all : List (List ℕ) = map now names in
      let long : i < length all = subst (λ (n : ℕ). i < n) (sym (length-map names now)) within in
      cut_weaker failure (c ≡ b) _ (λ same. record {
        listed = files.listed;
        next = get_or all i [];
        left = drop (i + 1) all;
        names_are = ap (λ (xs : List (List ℕ)). xs ++ get_or all i [] ∷ drop (i + 1) all) files.names_are ∙ ap (λ (xs : List (List ℕ)). take i all ++ xs) (sym (drop_more all i [] long)) ∙ take-append-drop i all;
        fates = files.fates;
        written = subst (λ (o : Option (List ℕ)). Appends a o (flat_map listed_text files.listed)) (sym same) files.written;
      }) short

  -- among these, before those
  pub cut_in_first : (names more : List (List ℕ)) (a c : Option (List ℕ)) (failure : Failure) → IsCutShort failure (AreListedBefore gives calls words said since head names a c)
      → IsCutShort failure (AreListedBefore gives calls words said since head (names ++ more) a c)
  cut_in_first names more a c failure short = cut_weaker failure _ _ (λ files. record {
    listed = files.listed;
    next = files.next;
    left = files.left ++ more;
    names_are = sym (append_assoc (map name_of files.listed) (files.next ∷ files.left) more) ∙ ap (λ (xs : List (List ℕ)). xs ++ more) files.names_are;
    fates = files.fates;
    written = files.written;
  }) short

  -- among those, behind these
  pub cut_in_second : (names more : List (List ℕ)) (first mid : ℕ) (a b c : Option (List ℕ)) (r : Result ℕ Failure) → AreListed gives calls words said since head names first mid a b
      → IfErr r (λ failure. IsCutShort failure (AreListedBefore gives calls words said since head more b c))
      → IfErr r (λ failure. IsCutShort failure (AreListedBefore gives calls words said since head (names ++ more) a c))
  cut_in_second names more first mid a b c (Ok status) before short = tt
  cut_in_second names more first mid a b c (Err failure) before short = cut_weaker failure _ _ (λ behind. record {
    listed = before.listed ++ behind.listed;
    next = behind.next;
    left = behind.left;
    names_are = ap (λ (xs : List (List ℕ)). xs ++ behind.next ∷ behind.left) (map-append name_of before.listed behind.listed) ∙ append_assoc (map name_of before.listed) (map name_of behind.listed) (behind.next ∷ behind.left)
        ∙ ap (λ (xs : List (List ℕ)). xs ++ (map name_of behind.listed ++ behind.next ∷ behind.left)) before.names_are ∙ ap (λ (xs : List (List ℕ)). names ++ xs) behind.names_are;
    fates = each_both before.listed behind.listed before.fates behind.fates;
    written = subst (Appends a c) (sym (flat_map-append listed_text before.listed behind.listed)) (Appends-trans a b c _ _ before.written behind.written);
  }) short

  -- ---- one file

  pub stored_listed : (file : PutFile) (name : List ℕ) (r : Result ℕ Failure) (a b : Option (List ℕ)) → ((kept : Bool) × IsPutBy gives calls words said kept file) → IfOk r (λ _. IsEntry (record { cap = file.cap; name = name }))
      → IfOk r (λ status. status ≡ put_status file) → IfOk r (λ _. Appends a b (line_text file.cap name)) → IfOk r (λ status. IsListed gives calls words said since head name status a b)
  stored_listed file name (Ok s) a b put entry status written = record { fate = stored file; is = (put, entry); status_is = status; written = written }
  stored_listed file name (Err failure) a b put entry status written = tt

  pub kept_listed : (cap : Cap) (name : List ℕ) (r : Result ℕ Failure) (a b : Option (List ℕ)) → IsKeptSince since head name cap → IfOk r (λ _. IsEntry (record { cap = cap; name = name })) → IfOk r (λ status. status ≡ 0)
      → IfOk r (λ _. Appends a b (line_text cap name)) → IfOk r (λ status. IsListed gives calls words said since head name status a b)
  kept_listed cap name (Ok s) a b is entry status written = record { fate = kept cap; is = (is, entry); status_is = status; written = written }
  kept_listed cap name (Err failure) a b is entry status written = tt

  pub refused_listed : (fault : Fault) (name : List ℕ) (status : ℕ) (a : Option (List ℕ)) → status ≡ fault_status fault → IsListed gives calls words said since head name status a a
  refused_listed fault name status a is = record { fate = refused fault; is = tt; status_is = is; written = Appends-nil a }

  -- the same files under names that are equal
  pub listed_as : (names given : List (List ℕ)) (status : ℕ) (a b : Option (List ℕ)) → given ≡ names → AreListed gives calls words said since head given 0 status a b → AreListed gives calls words said since head names 0 status a b
  listed_as names given status a b same files = subst (λ (ns : List (List ℕ)). AreListed gives calls words said since head ns 0 status a b) same files

-- ---- one file or many

module _ {F S : Type 0} (gives : Opened F → ℕ → List ℕ → Opened F → Type 0) (calls : GridCalls S) (words : PutWords) where
  pub one_done : (one : Bool) (r : Result ℕ Failure) (a b : Option (List ℕ)) → one ≡ is_one words → one ≡ true → IfOk r (λ status. IsPutOne gives calls words status a b) → IfOk r (λ status. IsPutDone gives calls words status a b)
  one_done o r a b is holds done = IfOk-weaker r _ _ (λ status put. one (sym is ∙ holds) put) done

  pub many_done : (one : Bool) (r : Result ℕ Failure) (a b : Option (List ℕ)) → one ≡ is_one words → one ≡ false → IfOk r (λ status. IsPutMany gives calls words status a b) → IfOk r (λ status. IsPutDone gives calls words status a b)
  many_done o r a b is holds done = IfOk-weaker r _ _ (λ status put. many (sym is ∙ holds) put) done

  pub one_undone : (r : Result ℕ Failure) (a b : Option (List ℕ)) → IfErr r (λ failure. (failure ≡ failures.Writer) ⊎ (b ≡ a)) → IfErr r (λ failure. IsPutCutOff gives calls words failure a b)
  one_undone (Ok status) a b undone = tt
  one_undone (Err failure) a b undone = elim undone [
    | inl writer ↦ inl writer
    | inr same ↦ inr (inl same)
  ]

  pub many_undone : (one : Bool) (r : Result ℕ Failure) (a b : Option (List ℕ)) → one ≡ is_one words → one ≡ false → IfErr r (λ failure. IsManyCutOff gives calls words failure a b) → IfErr r (λ failure. IsPutCutOff gives calls words failure a b)
  many_undone o (Ok status) a b is holds undone = tt
  many_undone o (Err failure) a b is holds undone = elim undone [
    | inl writer ↦ inl writer
    | inr (inl same) ↦ inr (inl same)
    | inr (inr cut) ↦ inr (inr (sym is ∙ holds, cut.0, cut.1))
  ]

-- ---- the bytes of texts

pub bytes_more : (texts : List (Bor (List ℕ))) (i : ℕ) (old new : List (Bor (List ℕ))) (x any : Bor (List ℕ)) → i < length texts → map (λ (b : Bor (List ℕ)). b.now) old ≡ map (λ (b : Bor (List ℕ)). b.now) (take i texts)
    → new ≡ old ++ x ∷ [] → x.now ≡ (get_or texts i any).now → map (λ (b : Bor (List ℕ)). b.now) new ≡ map (λ (b : Bor (List ℕ)). b.now) (take (i + 1) texts)
bytes_more texts i old new x any here was is own =
    let now : Bor (List ℕ) → List ℕ = λ b. b.now in
    ap (map now) is ∙ map-append now old (x ∷ []) ∙ ap (λ (l : List (List ℕ)). l ++ x.now ∷ []) was ∙ ap (λ (y : List ℕ). map now (take i texts) ++ y ∷ []) own
    ∙ sym (map-append now (take i texts) (get_or texts i any ∷ [])) ∙ ap (map now) (sym (take_more texts i any here))

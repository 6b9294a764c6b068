-- Files of a catalogue, one after the other.
use Rattle.std.proofs.Common.{Bor, map, ◌≡◌, ◌<◌, ◌+◌, ◌∙◌, ◌==◌, ◌&&◌, ◌||◌, ℕ, List, [], ◌∷◌, ◌++◌, Bool, true, false, not, Option, Some, None, Result, Ok, Err, OnOk, OnErr, IfOk, IfErr, length, refl, sym, ap, subst, arith, inl, inr}
use Rattle.std.specs.Prelude.{◌⊎◌, codes, if◌then◌else◌, is_some, unwrap_or}
use Rattle.std.specs.List.{AllByRecursion, flat_map, list_any}
use Rattle.std.proofs.lemmas.Grind.{flat_map-append}
use Rattle.std.proofs.lemmas.List.{append-nil, append_assoc, length-append}
use Rattle.cap_text.specs.declared.cap.Cap.{Cap}
use Rattle.catalogues.specs.Below.{IsBelowBehind}
use Rattle.catalogues.specs.Catalogues.{BeginsWithHead, BeginsWithLine, Entry, HasNoHead, HasNoLine, IsEntry, entry_text}
use Rattle.catalogues.specs.Lines.{line_text, words_text}
use Rattle.catalogues.specs.Patterns.{chooses}
use Rattle.catalogues.specs.declared.head.Head.{Head}
use Rattle.grid_faults.specs.Fault.{fault_status}
use Rattle.grid_faults.specs.declared.fault.Fault.{Fault}
use Rattle.grid_gets.specs.Files.{FileAct, IsFileOf, MayBeFileOf}
use Rattle.grid_gets.specs.Gets.{whole_range}
use Rattle.grid_lists.specs.GetEnds.{CameOf, CameOfChosen, IsWritten, MayBeWritten, path_of}
use Rattle.grid_lists.specs.Gets.{AreGotten, AreGottenFrom, Came, CameTo, Gotten, IsDoneFor, MayBeRestored, came_status, is_chosen, is_unfound, misnamed, names_of, passed, refused, restored}
use Rattle.grid_lists.specs.Statuses.{status_after, unread_status}
use Rattle.grid_servers.specs.Grids.{GridCalls}
use Rattle.grid_words.specs.declared.catalogue_words.GetFilesWords.{GetFilesWords}

abbrev pub Acts : Type 0
Acts = Option (List FileAct)

-- what is chosen, by the names of these words
pub chosen_as : (words : GetFilesWords) (name given : List ℕ) (names : List (Bor (List ℕ))) (b : Bool) → names ≡ words.names.items → given ≡ name → b ≡ chooses (map (λ (n : Bor (List ℕ)). n.now) names) given → b ≡ chooses (names_of words) name
chosen_as words name given names b same is chosen = chosen ∙ ap (λ (ns : List (Bor (List ℕ))). chooses (map (λ (n : Bor (List ℕ)). n.now) ns) given) same ∙ ap (chooses (names_of words)) is

module _ {S : Type 0} (calls : GridCalls S) (words : GetFilesWords) where
  -- ---- a file at a path

  module _ (kept : Bool) (cap : Cap) (path name : List ℕ) (is : path ≡ path_of words name) (old new : Acts) where
    pub written_at : IsFileOf calls words.grid.now kept cap (whole_range cap) path (Ok tt) old new → IsWritten calls words cap name old new
    written_at file = record { kept = kept; file = subst (λ (p : List ℕ). IsFileOf calls words.grid.now kept cap (whole_range cap) p (Ok tt) old new) is file }

    pub part_at : MayBeFileOf calls words.grid.now kept cap (whole_range cap) path old new → MayBeWritten calls words cap name old new
    part_at file = inr (kept, subst (λ (p : List ℕ). MayBeFileOf calls words.grid.now kept cap (whole_range cap) p old new) is file)

  -- ---- one entry

  module _ (cap : Cap) (name front rest : List ℕ) (below : IsBelowBehind name front rest) (old new : Acts) where
    pub came_restored : IsWritten calls words cap rest old new → CameOfChosen calls words cap name old new 0
    came_restored w = record {
      came = restored;
      chosen = refl;
      is = record { path = path_of words rest; leads = record { front = front; rest = rest; below = below; is = refl }; kept = w.kept; file = w.file };
      status_is = refl;
    }

    pub came_refused : (fault : Fault) (status : ℕ) → status ≡ fault_status fault → MayBeWritten calls words cap rest old new → CameOfChosen calls words cap name old new status
    came_refused fault status is may = record { came = refused fault; chosen = refl; is = part may; status_is = is } where
      part : MayBeWritten calls words cap rest old new → (new ≡ old) ⊎ MayBeRestored calls words (record { cap = cap; name = name }) old new
      part (inl same) = inl same
      part (inr w) = inr (record { path = path_of words rest; leads = record { front = front; rest = rest; below = below; is = refl }; kept = w.0; file = w.1 })

  pub came_misnamed : (cap : Cap) (name : List ℕ) (old : Acts) → ((front rest : List ℕ) → ¬ (IsBelowBehind name front rest)) → CameOfChosen calls words cap name old old unread_status
  came_misnamed cap name old none = record { came = misnamed; chosen = refl; is = (none, refl); status_is = refl }

  pub of_chosen : (cap : Cap) (name given : List ℕ) (old new : Acts) (status : ℕ) → given ≡ name → true ≡ chooses (names_of words) name → CameOfChosen calls words cap given old new status
      → CameOf calls words cap name old new (Some status)
  of_chosen cap name given old new status same yes_chosen came =
      let c = subst (λ (n : List ℕ). CameOfChosen calls words cap n old new status) same came in
      record { came = c.came; is = (c.chosen ∙ yes_chosen, c.is); chosen = sym c.chosen; status_is = c.status_is }

  pub of_passed : (cap : Cap) (name : List ℕ) (old : Acts) → false ≡ chooses (names_of words) name → CameOf calls words cap name old old None
  of_passed cap name old not_chosen = record { came = passed; is = (not_chosen, refl); chosen = refl; status_is = refl }

  -- ---- the lines so far

  pub record SoFar (text left : List ℕ) (status : ℕ) (found : Bool) (old new : Acts) : Type 0 where
    pub gotten : List Gotten
    pub lines : text ≡ flat_map (λ g. entry_text g.entry) gotten ++ left
    pub entries : AllByRecursion (λ g. IsEntry g.entry) gotten
    pub files : AreGotten calls words gotten 0 status old new
    pub found_is : found ≡ list_any (λ g. is_chosen g.came) gotten

  pub none_yet : (text : List ℕ) (old : Acts) → SoFar text text 0 false old old
  none_yet text old = record { gotten = []; lines = refl; entries = tt; files = (refl, refl); found_is = refl }

  gotten_more : (gs : List Gotten) (g : Gotten) (first mid : ℕ) (a b c : Acts) → AreGotten calls words gs first mid a b → CameTo calls words g.entry g.came b c
      → AreGotten calls words (gs ++ g ∷ []) first (status_after mid (came_status g.came)) a c
  gotten_more [] g first mid a b c is came = (c, subst (λ (x : Acts). CameTo calls words g.entry g.came x c) is.1 came, (ap (λ (s : ℕ). status_after s (came_status g.came)) is.0, refl))
  gotten_more (x ∷ gs) g first mid a b c is came = (is.0, is.1, gotten_more gs g (status_after first (came_status x.came)) mid is.0 b c is.2 came)

  entries_more : (gs : List Gotten) (g : Gotten) → AllByRecursion (λ (g : Gotten). IsEntry g.entry) gs → IsEntry g.entry → AllByRecursion (λ (g : Gotten). IsEntry g.entry) (gs ++ g ∷ [])
  entries_more [] g all one = (one, tt)
  entries_more (x ∷ gs) g all one = (all.0, entries_more gs g all.1 one)

  or_first : (a b c : Bool) → (a || (b || c)) ≡ ((a || b) || c)
  or_first true b c = refl
  or_first false b c = refl

  or_false : (a : Bool) → (a || false) ≡ a
  or_false true = refl
  or_false false = refl

  found_more : (gs : List Gotten) (g : Gotten) → (list_any (λ (g : Gotten). is_chosen g.came) gs || is_chosen g.came) ≡ list_any (λ (g : Gotten). is_chosen g.came) (gs ++ g ∷ [])
  found_more [] g = sym (or_false (is_chosen g.came))
  found_more (x ∷ gs) g = sym (or_first (is_chosen x.came) (list_any (λ (g : Gotten). is_chosen g.came) gs) (is_chosen g.came)) ∙ ap (λ (b : Bool). is_chosen x.came || b) (found_more gs g)

  lines_more : (gs : List Gotten) (g : Gotten) (text left rest : List ℕ) → text ≡ flat_map (λ (g : Gotten). entry_text g.entry) gs ++ left → left ≡ entry_text g.entry ++ rest → text ≡ flat_map (λ (g : Gotten). entry_text g.entry) (gs ++ g ∷ []) ++ rest
  lines_more gs g text left rest is more =
      let texts : Gotten → List ℕ = λ g. entry_text g.entry in
      is ∙ ap (λ (l : List ℕ). flat_map texts gs ++ l) more ∙ sym (append_assoc (flat_map texts gs) (entry_text g.entry) rest)
      ∙ ap (λ (l : List ℕ). (flat_map texts gs ++ l) ++ rest) (sym (append-nil (entry_text g.entry)))
      ∙ ap (λ (l : List ℕ). l ++ rest) (sym (flat_map-append texts gs (g ∷ [])))

  pub one_more : (text left rest : List ℕ) (status new_status : ℕ) (found new_found : Bool) (a b c : Acts) (cap : Cap) (name : List ℕ) (came : Option ℕ) → SoFar text left status found a b → BeginsWithLine left cap name rest → CameOf calls words cap name b c came
      → new_status ≡ status_after status (unwrap_or came 0) → new_found ≡ (found || is_some came) → SoFar text rest new_status new_found a c
  one_more text left rest status new_status found new_found a b c cap name came s line o after found_after =
      let g : Gotten = record { entry = record { cap = cap; name = name }; came = o.came } in record {
        gotten = s.gotten ++ g ∷ [];
        lines = lines_more s.gotten g text left rest s.lines line.is;
        entries = entries_more s.gotten g s.entries (line.is_cap, line.is_name);
        files = subst (λ (n : ℕ). AreGotten calls words (s.gotten ++ g ∷ []) 0 n a c) (sym (after ∙ ap (status_after status) o.status_is)) (gotten_more s.gotten g 0 status a b c s.files o.is);
        found_is = found_after ∙ ap (λ (x : Bool). x || is_some came) s.found_is ∙ ap (λ (x : Bool). list_any (λ (g : Gotten). is_chosen g.came) s.gotten || x) o.chosen ∙ found_more s.gotten g;
      }

  -- ---- where they end

  unfound : (gotten : List Gotten) (found : Bool) (status end : ℕ) → found ≡ list_any (λ (g : Gotten). is_chosen g.came) gotten → end ≡ status_after status (if not (length words.names.items == 0) && not found then unread_status else 0)
      → end ≡ status_after status (if is_unfound words gotten then unread_status else 0)
  unfound gotten found status end is so = so ∙ ap (λ (b : Bool). status_after status (if not (length words.names.items == 0) && not b then unread_status else 0)) is

  pub all_read : (text left : List ℕ) (status end : ℕ) (found : Bool) (a b : Acts) → SoFar text left status found a b → left ≡ [] → end ≡ status_after status (if not (length words.names.items == 0) && not found then unread_status else 0)
      → AreGottenFrom calls words text end a b
  all_read text left status end found a b s none so = record {
    gotten = s.gotten;
    left = left;
    lines = s.lines;
    entries = s.entries;
    first = status;
    files = s.files;
    second = status;
    ends = inl (none, refl);
    status_is = unfound s.gotten found status end s.found_is so;
  }

  pub cut_off : (text left : List ℕ) (status second end : ℕ) (found same : Bool) (a b : Acts) → SoFar text left status found a b → HasNoLine left → second ≡ status_after status unread_status → same ≡ found
      → end ≡ status_after second (if not (length words.names.items == 0) && not same then unread_status else 0) → AreGottenFrom calls words text end a b
  cut_off text left status second end found same a b s none is is_same so = record {
    gotten = s.gotten;
    left = left;
    lines = s.lines;
    entries = s.entries;
    first = status;
    files = s.files;
    second = second;
    ends = inr (none, is);
    status_is = unfound s.gotten same second end (is_same ∙ s.found_is) so;
  }

-- a line is some text
pub shorter : (left rest : List ℕ) (cap : Cap) (name : List ℕ) → BeginsWithLine left cap name rest → length rest < length left
shorter left rest cap name line =
    let whole : length left ≡ length (line_text cap name) + length rest = ap length line.is ∙ length-append (line_text cap name) rest in
    let one : length (line_text cap name) ≡ length (words_text cap name) + 1 = length-append (words_text cap name) (10 ∷ []) in
    omega (arith, whole, one)

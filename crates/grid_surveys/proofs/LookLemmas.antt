-- Files of a catalogue that are looked at, one after the other.
use Rattle.std.proofs.Common.{Bor, map, ◌≡◌, ◌∙◌, ℕ, List, [], ◌∷◌, ◌++◌, Bool, true, false, Option, Some, None, Result, Ok, Err, IfOk, refl, sym, ap, subst, arith, inl, inr}
use Rattle.std.specs.Prelude.{max}
use Rattle.std.specs.Io.KnownBytes.{Appends}
use Rattle.std.specs.List.{AllByRecursion, flat_map}
use Rattle.std.proofs.KnownBytes.{Appends-nil, Appends-trans}
use Rattle.std.proofs.lemmas.Grind.{flat_map-append}
use Rattle.std.proofs.lemmas.List.{append-nil, append_assoc}
use Rattle.std.proofs.lemmas.List.Sums.{fold-append}
use Rattle.cap_text.specs.Cap.{VerifyCapValue}
use Rattle.cap_text.specs.declared.cap.Cap.{Cap}
use Rattle.catalogues.specs.Catalogues.{BeginsWithLine, HasNoLine, IsEntry, entry_text}
use Rattle.catalogues.specs.Patterns.{chooses}
use Rattle.checker.specs.declared.status.Report.{Report}
use Rattle.grid_faults.specs.declared.fault.Fault.{Fault}
use Rattle.grid_repairs.specs.Checks.{IsCheckedFile, verify_of}
use Rattle.grid_repairs.specs.Repairs.{IsRepairedFile}
use Rattle.grid_servers.specs.Grids.{GridCalls}
use Rattle.grid_shares.specs.declared.placing.Stored.{Stored}
use Rattle.grid_telling.specs.declared.outcome.Failure.{Failure}
use Rattle.grid_words.specs.declared.catalogue_words.CheckFilesWords.{CheckFilesWords}
use Rattle.grid_words.specs.declared.catalogue_words.RepairFilesWords.{RepairFilesWords}
use Rattle.grid_lists.specs.Statuses.{unread_status}
use Rattle.grid_surveys.specs.LookEnds.{CameTo, IsToldAs, counted_after, status_with}
use Rattle.grid_faults.specs.Fault.{fault_status}
use Rattle.grid_surveys.specs.Looks.{AreLookedAt, Gone, IsLine, counted, fault_class, is_json, seen_class, seen_status, IsGone, IsSeen, Task, checking, counts_of, counts_text, fate_counted, fate_status, names_of, passed, refused, repairing, seen, seen_check, seen_repair, unfound_status, worst}
use Rattle.grid_surveys.specs.declared.looking.Came.{Came}
use Rattle.grid_surveys.specs.declared.seen.Counts.{Counts}
use Rattle.grid_surveys.specs.declared.seen.Seen.{Seen}

abbrev pub Text : Type 0
Text = Option (List ℕ)

pub max_zero : (n : ℕ) → max n 0 ≡ n
max_zero n = omega arith

-- what is told of a file that was seen, and of one that was refused
pub told_seen : (task : Task) (r : Result Seen Fault) (s : Seen) (json : Bool) (name text given : List ℕ) (a b : Text) (came : Came) → r ≡ Ok s → json ≡ is_json task → IsLine json s name text → given ≡ text → Appends a b given → came.class ≡ seen_class s → came.status ≡ seen_status task s
    → IsToldAs task r name a b came
told_seen task r s json name text given a b came is same line shown written class status = subst (λ (r : Result Seen Fault). IsToldAs task r name a b came) (sym is) (record {
  text = text;
  is = subst (λ (j : Bool). IsLine j s name text) same line;
  written = subst (Appends a b) shown written;
  counted_is = λ (n : Counts). ap (counted n) class;
  status_is = status;
})

pub told_refused : (task : Task) (r : Result Seen Fault) (fault : Fault) (name : List ℕ) (a : Text) (came : Came) → r ≡ Err fault → came.class ≡ fault_class fault → came.status ≡ fault_status fault → IsToldAs task r name a a came
told_refused task r fault name a came is class status = subst (λ (r : Result Seen Fault). IsToldAs task r name a a came) (sym is) (record {
  text = [];
  is = refl;
  written = Appends-nil a;
  counted_is = λ (n : Counts). ap (counted n) class;
  status_is = status;
})

-- what is chosen, by the names of a task
pub chosen_as : (task : Task) (name given : List ℕ) (names : List (Bor (List ℕ))) (b : Bool) → map (λ (n : Bor (List ℕ)). n.now) names ≡ names_of task → given ≡ name → b ≡ chooses (map (λ (n : Bor (List ℕ)). n.now) names) given → b ≡ chooses (names_of task) name
chosen_as task name given names b same is chosen = chosen ∙ ap (λ (ns : List (List ℕ)). chooses ns given) same ∙ ap (chooses (names_of task)) is

module _ {S : Type 0} (calls : GridCalls S) where
  -- ---- one file

  pub check_seen : (words : CheckFilesWords) (kept : Bool) (cap : Option VerifyCapValue) (found given : Option Report) (s : Seen) → IsCheckedFile calls words.grid.now kept cap found → found ≡ given → s ≡ seen_check given
      → IsSeen calls (checking words) cap s
  check_seen words kept cap found given s checked same is = (kept, found, checked, is ∙ ap seen_check (sym same))

  pub repair_seen : (words : RepairFilesWords) (read_on write_on : Bool) (cap : Option VerifyCapValue) (stored given : Option Stored) (s : Seen)
      → IsRepairedFile calls words.grid.now read_on write_on words.mend words.happy cap stored → stored ≡ given → s ≡ seen_repair given → IsSeen calls (repairing words) cap s
  repair_seen words read_on write_on cap stored given s repaired same is = (read_on, write_on, stored, repaired, is ∙ ap seen_repair (sym same))

  module _ (task : Task) where
    pub of_chosen : (cap : Cap) (name given : List ℕ) (r : Result Seen Fault) (a b : Text) (came : Came) → given ≡ name → true ≡ chooses (names_of task) name → IfOk r (IsSeen calls task (verify_of cap)) → IsToldAs task r given a b came
        → CameTo calls task cap name a b (Some came)
    of_chosen cap name given r a b came same chosen found told = by r found (subst (λ (n : List ℕ). IsToldAs task r n a b came) same told) where
      by : (r : Result Seen Fault) → IfOk r (IsSeen calls task (verify_of cap)) → IsToldAs task r name a b came → CameTo calls task cap name a b (Some came)
      by (Ok s) found t = record { fate = seen s; text = t.text; is = (chosen, (found, t.is)); written = t.written; counted_is = t.counted_is; status_is = λ (n : ℕ). ap (max n) t.status_is }
      by (Err fault) found t = record { fate = refused fault; text = t.text; is = (chosen, t.is); written = t.written; counted_is = t.counted_is; status_is = λ (n : ℕ). ap (max n) t.status_is }

    pub of_passed : (cap : Cap) (name : List ℕ) (a : Text) → false ≡ chooses (names_of task) name → CameTo calls task cap name a a None
    of_passed cap name a not_chosen = record { fate = passed; text = []; is = (not_chosen, refl); written = Appends-nil a; counted_is = λ (c : Counts). refl; status_is = λ (n : ℕ). sym (max_zero n) }

    -- ---- the lines so far

    pub record SoFar (text left : List ℕ) (counts : Counts) (status : ℕ) (before after : Text) : Type 0 where
      pub gone : List Gone
      pub lines : text ≡ flat_map (λ g. entry_text g.entry) gone ++ left
      pub entries : AllByRecursion (λ g. IsEntry g.entry) gone
      pub fates : AllByRecursion (IsGone calls task) gone
      pub counts_are : counts ≡ counts_of gone
      pub status_is : status ≡ worst task gone
      pub written : Appends before after (flat_map (λ g. g.text) gone)

    pub none_yet : (text : List ℕ) (before : Text) → SoFar text text (record { files = 0; whole = 0; weak = 0; lost = 0 }) 0 before before
    none_yet text before = record { gone = []; lines = refl; entries = tt; fates = tt; counts_are = refl; status_is = refl; written = Appends-nil before }

    all_more : (P : Gone → Type 0) (gs : List Gone) (g : Gone) → AllByRecursion P gs → P g → AllByRecursion P (gs ++ g ∷ [])
    all_more P [] g all one = (one, tt)
    all_more P (x ∷ xs) g all one = (all.0, all_more P xs g all.1 one)

    texts_more : (f : Gone → List ℕ) (gs : List Gone) (g : Gone) → flat_map f gs ++ f g ≡ flat_map f (gs ++ g ∷ [])
    texts_more f gs g = ap (λ (l : List ℕ). flat_map f gs ++ l) (sym (append-nil (f g))) ∙ sym (flat_map-append f gs (g ∷ []))

    lines_more : (gs : List Gone) (g : Gone) (text left rest : List ℕ) → text ≡ flat_map (λ (g : Gone). entry_text g.entry) gs ++ left → left ≡ entry_text g.entry ++ rest → text ≡ flat_map (λ (g : Gone). entry_text g.entry) (gs ++ g ∷ []) ++ rest
    lines_more gs g text left rest is more =
        let texts : Gone → List ℕ = λ g. entry_text g.entry in
        is ∙ ap (λ (l : List ℕ). flat_map texts gs ++ l) more ∙ sym (append_assoc (flat_map texts gs) (entry_text g.entry) rest)
        ∙ ap (λ (l : List ℕ). l ++ rest) (texts_more texts gs g)

    pub one_more : (text left rest : List ℕ) (counts new_counts : Counts) (status new_status : ℕ) (a b c : Text) (cap : Cap) (name : List ℕ) (came : Option Came) → SoFar text left counts status a b → BeginsWithLine left cap name rest
        → CameTo calls task cap name b c came → new_counts ≡ counted_after counts came → new_status ≡ status_with status came → SoFar text rest new_counts new_status a c
    one_more text left rest counts new_counts status new_status a b c cap name came s line o after status_after =
        let g : Gone = record { entry = record { cap = cap; name = name }; fate = o.fate; text = o.text } in record {
          gone = s.gone ++ g ∷ [];
          lines = lines_more s.gone g text left rest s.lines line.is;
          entries = all_more (λ (g : Gone). IsEntry g.entry) s.gone g s.entries (line.is_cap, line.is_name);
          fates = all_more (IsGone calls task) s.gone g s.fates o.is;
          counts_are = after ∙ o.counted_is counts ∙ ap (λ (n : Counts). fate_counted n o.fate) s.counts_are ∙ sym (fold-append (λ (n : Counts) (g : Gone). fate_counted n g.fate) _ s.gone (g ∷ []));
          status_is = status_after ∙ o.status_is status ∙ ap (λ (n : ℕ). max n (fate_status task o.fate)) s.status_is ∙ sym (fold-append (λ (n : ℕ) (g : Gone). max n (fate_status task g.fate)) 0 s.gone (g ∷ []));
          written = subst (Appends a c) (texts_more (λ (g : Gone). g.text) s.gone g) (Appends-trans a b c _ _ s.written o.written);
        }

    -- ---- where they end

    module _ (text left : List ℕ) (counts : Counts) (status : ℕ) (a b : Text) (s : SoFar text left counts status a b) where
      pub all_read : left ≡ [] → (r : Result ℕ Failure) (c : Text) → IfOk r (λ n. n ≡ max status (unfound_status task counts)) → IfOk r (λ _. Appends b c (counts_text task counts))
          → IfOk r (λ n. AreLookedAt calls task text n a c)
      all_read none (Err failure) c is written = tt
      all_read none (Ok n) c is written = record {
        gone = s.gone;
        left = left;
        lines = s.lines;
        entries = s.entries;
        fates = s.fates;
        end = 0;
        ends = inl (none, refl);
        status_is = is ∙ ap (λ (m : ℕ). max m (unfound_status task counts)) (s.status_is ∙ sym (max_zero (worst task s.gone))) ∙ ap (λ (k : Counts). max (max (worst task s.gone) 0) (unfound_status task k)) s.counts_are;
        written = subst (λ (k : Counts). Appends a c (flat_map (λ (g : Gone). g.text) s.gone ++ counts_text task k)) s.counts_are (Appends-trans a b c _ _ s.written written);
      }

      pub cut_off : HasNoLine left → (told : Counts) (second : ℕ) → told ≡ counts → second ≡ max status unread_status → (r : Result ℕ Failure) (c : Text) → IfOk r (λ n. n ≡ max second (unfound_status task told)) → IfOk r (λ _. Appends b c (counts_text task told))
          → IfOk r (λ n. AreLookedAt calls task text n a c)
      cut_off none told second same so (Err failure) c is written = tt
      cut_off none told second same so (Ok n) c is written = record {
        gone = s.gone;
        left = left;
        lines = s.lines;
        entries = s.entries;
        fates = s.fates;
        end = unread_status;
        ends = inr (none, refl);
        status_is = is ∙ ap (λ (m : ℕ). max m (unfound_status task told)) (so ∙ ap (λ (m : ℕ). max m unread_status) s.status_is) ∙ ap (λ (k : Counts). max (max (worst task s.gone) unread_status) (unfound_status task k)) (same ∙ s.counts_are);
        written = subst (λ (k : Counts). Appends a c (flat_map (λ (g : Gone). g.text) s.gone ++ counts_text task k)) (same ∙ s.counts_are) (Appends-trans a b c _ _ s.written written);
      }

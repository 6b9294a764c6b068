-- Files of a catalogue that are compared, one after the other.
use Rattle.std.proofs.Common.{Bor, map, ◌≡◌, ◌≢◌, ◌∙◌, ◌<◌, ◌≤◌, ℕ, List, [], ◌∷◌, ◌++◌, Bool, true, false, Option, Some, None, Result, Ok, Err, IfOk, refl, sym, ap, subst, arith, inl, inr, length, not, eqb}
use Rattle.std.specs.Cmp.Lexicographic.{bytes_decides, pointwise}
use Rattle.std.proofs.lemmas.Bool.{not-false}
use Rattle.std.specs.Prelude.{max, codes, is_some}
use Rattle.std.specs.Io.KnownBytes.{Appends}
use Rattle.std.specs.List.{AllByRecursion, flat_map}
use Rattle.std.proofs.KnownBytes.{Appends-nil, Appends-trans}
use Rattle.std.proofs.lemmas.Grind.{flat_map-append}
use Rattle.std.proofs.lemmas.List.{append-nil, append_assoc}
use Rattle.std.proofs.lemmas.List.Sums.{fold-append}
use Rattle.cap_text.specs.Cap.{ReadCapValue}
use Rattle.cap_text.specs.CapText.{Spells}
use Rattle.cap_text.specs.declared.cap.Cap.{Cap}
use Rattle.catalogues.specs.Below.{IsBelowBehind}
use Rattle.catalogues.specs.Catalogues.{BeginsWithHead, BeginsWithLine, HasNoLine, IsEntry, entry_text}
use Rattle.catalogues.specs.Heads.{fingerprint_of}
use Rattle.catalogues.specs.Lines.{named_text}
use Rattle.catalogues.specs.Patterns.{chooses}
use Rattle.catalogues.specs.declared.head.Head.{Head}
use Rattle.file_encoding.specs.Encoding.{Parameters}
use Rattle.file_encoding.specs.Params.{HasTooManySegments, UploadParameters, parameters_of}
use Rattle.file_streaming.specs.Prepared.{PassesDiffer, key_for}
use Rattle.file_streaming.specs.declared.error.PrepareError.{PrepareError}
use Rattle.file_streaming.specs.declared.error.PrepareError.TheVariants as errors
use Rattle.grid_rules.specs.Becoming.{fault_of_preparing}
use Rattle.grid_faults.specs.Fault.{fault_status}
use Rattle.grid_faults.specs.declared.fault.Fault.{Fault}
use Rattle.grid_lists.specs.Statuses.{unread_status}
use Rattle.grid_surveys.specs.Verdicts.{Found, IsMade, IsVerdict, compared_text, counted_with, verdict_status, verdict_word}
use Rattle.grid_surveys.specs.VerifyEnds.{CameOfChosen, CameTo, IsToldAs, IsWhyUnmade, counted_after, status_with}
use Rattle.grid_shares.specs.Puts.{IsSaidBy}
use Rattle.grid_shares.specs.declared.Outcome.{Outcome}
use Rattle.grid_surveys.specs.Verifies.{AreVerified, Gone, IsGone, IsSegment, IsUnder, IsVerifyBy, IsVerifyDone, Making, counts_of, fate_counted, fate_status, fate_text, gone_text, judged, making_by, misnamed, names_of, passed, read, refused, unfound_status, worst}
use Rattle.grid_surveys.specs.declared.verdicts.Compared.{Compared}
use Rattle.grid_surveys.specs.declared.verdicts.Verdict.{Verdict}
use Rattle.grid_surveys.specs.declared.verifying.Came.{Came}
use Rattle.grid_telling.specs.declared.outcome.Failure.{Failure}
use Rattle.grid_words.specs.declared.verify_words.VerifyFilesWords.{VerifyFilesWords}
use Rattle.grid_words.specs.declared.verify_words.VerifyWords.{VerifyWords}
use Rattle.grid_words.specs.declared.words.SecretWords.{SecretWords}
use Rattle.grid_words.specs.declared.words.SecretWords.TheVariants as secrets
use Rattle.sources.specs.Opened.{Opened}
use Rattle.sources.specs.Source.{HasFailedMore}
use Rattle.ueb.specs.Limits.{max_file_size}

abbrev pub Text : Type 0
Text = Option (List ℕ)

pub max_zero : (n : ℕ) → max n 0 ≡ n
max_zero n = omega arith

-- a cap that was made, of which something else is so too
pub made_so : {S : Type 0} (gives : S → ℕ → List ℕ → S → Type 0) (size : ℕ) (source : S) (secret : List ℕ) (p : Parameters) (cap : ReadCapValue) (IsSo : ReadCapValue → Type 0)
    → IsMade gives size source secret p (λ (made : ReadCapValue). cap ≡ made) → IsSo cap → IsMade gives size source secret p IsSo
made_so gives size source secret p cap IsSo m so = record { prepared = m.prepared; after = m.after; from = m.from; is = subst IsSo m.is so }

-- the same by numbers that are these
pub made_by : {S : Type 0} (gives : S → ℕ → List ℕ → S → Type 0) (size : ℕ) (source : S) (secret : List ℕ) (p q : Parameters) (IsSo : ReadCapValue → Type 0)
    → p ≡ q → IsMade gives size source secret p IsSo → IsMade gives size source secret q IsSo
made_by gives size source secret p q IsSo same m = subst (λ (x : Parameters). IsMade gives size source secret x IsSo) same m

-- why none was made
pub why_unmade : {S : Type 0} (gives : S → ℕ → List ℕ → S → Type 0) (failures : S → ℕ) (size : ℕ) (old new : S) (secret : List ℕ) (p : UploadParameters) (e : PrepareError)
    → (e ≡ errors.TooLarge → max_file_size < size) → (e ≡ errors.TooManySegments → HasTooManySegments size p)
    → (e ≡ errors.SourceChanged → PassesDiffer gives size old (λ file. key_for file secret (parameters_of p)) new)
    → (e ≡ errors.SourceFault → HasFailedMore (failures old) (failures new))
    → IsWhyUnmade gives failures size old secret p (fault_of_preparing e)
why_unmade gives failures size old new secret p errors.OutOfMemory large many changed failed = tt
why_unmade gives failures size old new secret p errors.TooLarge large many changed failed = large refl
why_unmade gives failures size old new secret p errors.TooManySegments large many changed failed = many refl
why_unmade gives failures size old new secret p errors.SourceChanged large many changed failed = (new, changed refl)
why_unmade gives failures size old new secret p errors.SourceFault large many changed failed = (new, failed refl)

-- the secret that is said, and one where none is
pub said_under : (words : SecretWords) (file grid : Option (Bor (List ℕ))) (said : Option (List ℕ)) (secret : List ℕ) → said ≡ Some secret → IsSaidBy words file said → IsUnder words file grid secret
said_under secrets.Unsaid (Some path) grid said secret is so = tt
said_under secrets.Unsaid None grid said secret is so = absurd (none_some (sym so ∙ is)) where
  none_some : None ≡ Some secret → ⊥
  none_some e = cc
said_under (secrets.Text text) file grid said secret is so = same (sym is ∙ so) where
  same : Some secret ≡ Some text.now → secret ≡ text.now
  same e = cc
said_under (secrets.File path) file grid said secret is so = tt

pub unsaid_under : (words : SecretWords) (file grid : Option (Bor (List ℕ))) (said : Option (List ℕ)) (secret : List ℕ) → said ≡ None → IsSaidBy words file said → IsUnder secrets.Unsaid None grid secret → IsUnder words file grid secret
unsaid_under secrets.Unsaid None grid said secret is so under = under
unsaid_under secrets.Unsaid (Some path) grid said secret is so under = tt
unsaid_under (secrets.Text text) file grid said secret is so under = absurd (none_some (sym is ∙ so)) where
  none_some : None ≡ Some text.now → ⊥
  none_some e = cc
unsaid_under (secrets.File path) file grid said secret is so under = tt

-- what words tell, by the secret as it was given
pub verified_by : {F : Type 0} (gives : Opened F → ℕ → List ℕ → Opened F → Type 0) (file : Option (Bor (List ℕ))) (words : VerifyWords) (cap : Cap) (secret given : List ℕ) (size : ℕ) (found : Found F) (verdict : Verdict) (outcome : Outcome)
    → Spells words.cap.now cap → IsUnder words.secret file words.grid secret → IsSegment words.max_segment words.grid size → given ≡ secret → IsVerdict gives given size cap found verdict
    → outcome.text.items ≡ verdict_word verdict ++ codes "\n" → outcome.status ≡ verdict_status verdict → IsVerifyBy gives file words outcome
verified_by gives file words cap secret given size found verdict outcome spelled under segments same is told status = record {
  cap = cap;
  spelled = spelled;
  secret = secret;
  under = under;
  max_segment = size;
  segments = segments;
  found = found;
  verdict = verdict;
  is = subst (λ (s : List ℕ). IsVerdict gives s size cap found verdict) same is;
  told = told;
  status_is = status;
}

-- the segments of a catalogue's files
pub making_as : (head given : Head) (secret : List ℕ) (n : ℕ) → given ≡ head → n ≡ given.numbers.segment_size → ◌≡◌ {A = Making} (record { secret = secret; max_segment = n }) (making_by head secret)
making_as head given secret n same is = ap (λ (k : ℕ). record { secret = secret; max_segment = k }) (is ∙ ap (λ (h : Head). h.numbers.segment_size) same)

pub under_head : {F : Type 0} (gives : Opened F → ℕ → List ℕ → Opened F → Type 0) (words : VerifyFilesWords) (m made : Making) (text : List ℕ) (r : Result ℕ Failure) (before after : Text) → m ≡ made
    → IfOk r (λ n. AreVerified gives words m text n before after) → IfOk r (λ n. AreVerified gives words made text n before after)
under_head gives words m made text r before after same is = subst (λ (x : Making). IfOk r (λ n. AreVerified gives words x text n before after)) same is

-- what is told of a file that was compared, and of one that was refused
pub told_judged : (r : Result Verdict Fault) (v : Verdict) (name word given text : List ℕ) (a b : Text) (came : Came) → r ≡ Ok v → word ≡ verdict_word v → given ≡ named_text word name → text ≡ given → Appends a b text
    → came.verdict ≡ Some v → came.status ≡ verdict_status v → IsToldAs r name a b came
told_judged r v name word given text a b came is words line same shown verdict status = subst (λ (r : Result Verdict Fault). IsToldAs r name a b came) (sym is) (record {
  written = subst (Appends a b) (same ∙ line ∙ ap (λ (w : List ℕ). named_text w name) words) shown;
  counted_is = λ (c : Compared). ap (counted_with c) verdict;
  status_is = status;
})

pub told_refused : (r : Result Verdict Fault) (fault : Fault) (name : List ℕ) (a : Text) (came : Came) → r ≡ Err fault → came.verdict ≡ None → came.status ≡ fault_status fault → IsToldAs r name a a came
told_refused r fault name a came is verdict status = subst (λ (r : Result Verdict Fault). IsToldAs r name a a came) (sym is) (record {
  written = Appends-nil a;
  counted_is = λ (c : Compared). ap (counted_with c) verdict;
  status_is = status;
})

-- what is chosen, by the names of these words
pub chosen_as : (words : VerifyFilesWords) (name given : List ℕ) (names : List (Bor (List ℕ))) (b : Bool) → names ≡ words.names.items → given ≡ name → b ≡ chooses (map (λ (n : Bor (List ℕ)). n.now) names) given → b ≡ chooses (names_of words) name
chosen_as words name given names b same is chosen = chosen ∙ ap (λ (ns : List (Bor (List ℕ))). chooses (map (λ (n : Bor (List ℕ)). n.now) ns) given) same ∙ ap (chooses (names_of words)) is

module _ {F : Type 0} (gives : Opened F → ℕ → List ℕ → Opened F → Type 0) (words : VerifyFilesWords) (m : Making) where
  -- ---- one file

  pub came_found : (cap : Cap) (name : List ℕ) (r : Result Verdict Fault) (a b : Text) (came : Came) → IfOk r (λ v. (found : Found F) × IsVerdict gives m.secret m.max_segment cap found v) → IsToldAs r name a b came
      → CameOfChosen gives words m cap name a b came
  came_found cap name (Ok v) a b came is t = record { fate = judged v; chosen = refl; is = is; written = t.written; counted_is = t.counted_is; status_is = t.status_is }
  came_found cap name (Err fault) a b came is t = record { fate = refused fault; chosen = refl; is = tt; written = t.written; counted_is = t.counted_is; status_is = t.status_is }

  pub came_misnamed : (cap : Cap) (name : List ℕ) (a : Text) (came : Came) → is_some words.into ≡ true → ((front rest : List ℕ) → ¬ (IsBelowBehind name front rest)) → came.verdict ≡ None → came.status ≡ unread_status
      → CameOfChosen gives words m cap name a a came
  came_misnamed cap name a came below none verdict status = record { fate = misnamed; chosen = refl; is = (below, none); written = Appends-nil a; counted_is = λ (c : Compared). ap (counted_with c) verdict; status_is = status }

  pub of_chosen : (cap : Cap) (name given : List ℕ) (a b : Text) (came : Came) → given ≡ name → true ≡ chooses (names_of words) name → CameOfChosen gives words m cap given a b came
      → CameTo gives words m cap name a b (Some came)
  of_chosen cap name given a b came same chosen o = by (subst (λ (n : List ℕ). CameOfChosen gives words m cap n a b came) same o) where
    by : CameOfChosen gives words m cap name a b came → CameTo gives words m cap name a b (Some came)
    by o = record { fate = o.fate; is = (o.chosen ∙ chosen, o.is); written = o.written; counted_is = o.counted_is; status_is = λ (n : ℕ). ap (max n) o.status_is }

  pub of_passed : (cap : Cap) (name : List ℕ) (a : Text) → false ≡ chooses (names_of words) name → CameTo gives words m cap name a a None
  of_passed cap name a not_chosen = record { fate = passed; is = (not_chosen, tt); written = Appends-nil a; counted_is = λ (c : Compared). refl; status_is = λ (n : ℕ). sym (max_zero n) }

  -- ---- the lines so far

  pub record SoFar (text left : List ℕ) (counts : Compared) (status : ℕ) (before after : Text) : Type 0 where
    pub gone : List Gone
    pub lines : text ≡ flat_map (λ g. entry_text g.entry) gone ++ left
    pub entries : AllByRecursion (λ g. IsEntry g.entry) gone
    pub fates : AllByRecursion (IsGone gives words m) gone
    pub counts_are : counts ≡ counts_of gone
    pub status_is : status ≡ worst gone
    pub written : Appends before after (flat_map gone_text gone)

  pub none_yet : (text : List ℕ) (before : Text) → SoFar text text (record { files = 0; same = 0; differ = 0; refused = 0 }) 0 before before
  none_yet text before = record { gone = []; lines = refl; entries = tt; fates = tt; counts_are = refl; status_is = refl; written = Appends-nil before }

  all_more : (P : Gone → Type 0) (gs : List Gone) (g : Gone) → AllByRecursion P gs → P g → AllByRecursion P (gs ++ g ∷ [])
  all_more P [] g all one = (one, tt)
  all_more P (x ∷ xs) g all one = (all.0, all_more P xs g all.1 one)

  texts_more : (f : Gone → List ℕ) (gs : List Gone) (g : Gone) → flat_map f gs ++ f g ≡ flat_map f (gs ++ g ∷ [])
  texts_more f gs g = ap (λ (l : List ℕ). flat_map f gs ++ l) (sym (append-nil (f g))) ∙ sym (flat_map-append f gs (g ∷ []))

  lines_more : (gs : List Gone) (g : Gone) (text left rest : List ℕ) → text ≡ flat_map (λ (g : Gone). entry_text g.entry) gs ++ left → left ≡ entry_text g.entry ++ rest → text ≡ flat_map (λ (g : Gone). entry_text g.entry) (gs ++ g ∷ []) ++ rest
  lines_more gs g text left rest is more =
      let texts : Gone → List ℕ = λ g. entry_text g.entry in
      is ∙ ap (λ (l : List ℕ). flat_map texts gs ++ l) more ∙ sym (append_assoc (flat_map texts gs) (entry_text g.entry) rest)
      ∙ ap (λ (l : List ℕ). l ++ rest) (texts_more texts gs g)

  pub one_more : (text left rest : List ℕ) (counts new_counts : Compared) (status new_status : ℕ) (a b c : Text) (cap : Cap) (name : List ℕ) (came : Option Came) → SoFar text left counts status a b → BeginsWithLine left cap name rest
      → CameTo gives words m cap name b c came → new_counts ≡ counted_after counts came → new_status ≡ status_with status came → SoFar text rest new_counts new_status a c
  one_more text left rest counts new_counts status new_status a b c cap name came s line o after status_after =
      let g : Gone = record { entry = record { cap = cap; name = name }; fate = o.fate } in record {
        gone = s.gone ++ g ∷ [];
        lines = lines_more s.gone g text left rest s.lines line.is;
        entries = all_more (λ (g : Gone). IsEntry g.entry) s.gone g s.entries (line.is_cap, line.is_name);
        fates = all_more (IsGone gives words m) s.gone g s.fates o.is;
        counts_are = after ∙ o.counted_is counts ∙ ap (λ (n : Compared). fate_counted n o.fate) s.counts_are ∙ sym (fold-append (λ (n : Compared) (g : Gone). fate_counted n g.fate) _ s.gone (g ∷ []));
        status_is = status_after ∙ o.status_is status ∙ ap (λ (n : ℕ). max n (fate_status o.fate)) s.status_is ∙ sym (fold-append (λ (n : ℕ) (g : Gone). max n (fate_status g.fate)) 0 s.gone (g ∷ []));
        written = subst (Appends a c) (texts_more gone_text s.gone g) (Appends-trans a b c _ _ s.written o.written);
      }

  -- ---- where they end

  module _ (text left : List ℕ) (counts : Compared) (status : ℕ) (a b : Text) (s : SoFar text left counts status a b) where
    pub all_read : left ≡ [] → (r : Result ℕ Failure) (c : Text) → IfOk r (λ n. n ≡ max status (unfound_status words counts)) → IfOk r (λ _. Appends b c (compared_text counts))
        → IfOk r (λ n. AreVerified gives words m text n a c)
    all_read none (Err failure) c is written = tt
    all_read none (Ok n) c is written = record {
      gone = s.gone;
      left = left;
      lines = s.lines;
      entries = s.entries;
      fates = s.fates;
      end = 0;
      ends = inl (none, refl);
      status_is = is ∙ ap (λ (m : ℕ). max m (unfound_status words counts)) (s.status_is ∙ sym (max_zero (worst s.gone))) ∙ ap (λ (k : Compared). max (max (worst s.gone) 0) (unfound_status words k)) s.counts_are;
      written = subst (λ (k : Compared). Appends a c (flat_map gone_text s.gone ++ compared_text k)) s.counts_are (Appends-trans a b c _ _ s.written written);
    }

    pub cut_off : HasNoLine left → (told : Compared) (second : ℕ) → told ≡ counts → second ≡ max status unread_status → (r : Result ℕ Failure) (c : Text) → IfOk r (λ n. n ≡ max second (unfound_status words told)) → IfOk r (λ _. Appends b c (compared_text told))
        → IfOk r (λ n. AreVerified gives words m text n a c)
    cut_off none told second same so (Err failure) c is written = tt
    cut_off none told second same so (Ok n) c is written = record {
      gone = s.gone;
      left = left;
      lines = s.lines;
      entries = s.entries;
      fates = s.fates;
      end = unread_status;
      ends = inr (none, refl);
      status_is = is ∙ ap (λ (m : ℕ). max m (unfound_status words told)) (so ∙ ap (λ (m : ℕ). max m unread_status) s.status_is) ∙ ap (λ (k : Compared). max (max (worst s.gone) unread_status) (unfound_status words k)) (same ∙ s.counts_are);
      written = subst (λ (k : Compared). Appends a c (flat_map gone_text s.gone ++ compared_text k)) (same ∙ s.counts_are) (Appends-trans a b c _ _ s.written written);
    }

-- ---- a catalogue whose lines were gone through, by the secret as it was given
pub lines_read : {F : Type 0} (gives : Opened F → ℕ → List ℕ → Opened F → Type 0) (file : Option (Bor (List ℕ))) (words : VerifyFilesWords) (text secret given : List ℕ) (head : Head) (rest : List ℕ) (r : Result ℕ Failure) (before after : Text)
    → BeginsWithHead text head rest → IsUnder words.secret file words.grid secret → given ≡ secret → IfOk r (λ _. head.fingerprint ≡ fingerprint_of head.numbers given)
    → IfOk r (λ n. AreVerified gives words (making_by head given) rest n before after) → IfOk r (λ n. IsVerifyDone gives file words n before after)
lines_read gives file words text secret given head rest (Err failure) before after begins under same found done = tt
lines_read gives file words text secret given head rest (Ok n) before after begins under same found done =
    read text secret head rest begins under (subst (λ (s : List ℕ). head.fingerprint ≡ fingerprint_of head.numbers s) same found)
    (subst (λ (s : List ℕ). AreVerified gives words (making_by head s) rest n before after) same done)

-- ---- the fingerprint of a secret

-- what is so, however a result is
told_of : {A B : Type 0} (r : Result A B) (P : Type 0) → P → IfOk r (λ _. P)
told_of (Ok a) P p = p
told_of (Err e) P p = tt

pub same_fingerprint : (head given : Head) (secret made : List ℕ) (differ : Bool) (r : Result ℕ Failure) → given ≡ head → made ≡ fingerprint_of given.numbers secret
    → differ ≡ not (pointwise eqb given.fingerprint made) → differ ≡ false → IfOk r (λ _. head.fingerprint ≡ fingerprint_of head.numbers secret)
same_fingerprint head given secret made differ r same is differs fails =
    told_of r (head.fingerprint ≡ fingerprint_of head.numbers secret)
    (subst (λ (h : Head). h.fingerprint ≡ fingerprint_of h.numbers secret) same ((bytes_decides given.fingerprint made).0 (not-false (pointwise eqb given.fingerprint made) (sym differs ∙ fails)) ∙ is))

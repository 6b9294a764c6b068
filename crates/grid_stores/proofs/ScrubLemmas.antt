-- What a scrub tells, file by file and server by server.
use Rattle.std.proofs.Common.{◌≡◌, ◌<◌, ◌+◌, ℕ, List, [], ◌∷◌, ◌++◌, Bool, true, false, Option, Some, None, length, nat_eq, take, refl, sym, ap, ◌∙◌, subst}
use Rattle.std.specs.Prelude.{◌&&◌, Result, OnOk, slice_index_or}
use Rattle.std.specs.Io.KnownBytes.{Appends}
use Rattle.std.specs.List.{IsDistinct, list_all}
use Rattle.std.proofs.KnownBytes.{Appends-nil, Appends-trans}
use Rattle.std.proofs.lemmas.List.{flat_map_more, length-map, map-append, take_more}
use Rattle.std.proofs.lemmas.List.Elements.{All-append, All-cons, All-nil}
use Rattle.std.proofs.lemmas.List.Folds.{list_all-append}
use Rattle.std.proofs.lemmas.List.Sums.{fold-append}
use Rattle.share_scrub.specs.Seen.{WasSeen}
use Rattle.share_scrub.specs.declared.folder.Finding.{Finding}
use Rattle.share_scrub.specs.declared.folder.State.{State}
use Rattle.share_scrub.specs.declared.folder.State.TheVariants.{Whole}
use Rattle.grid_rules.specs.ScrubLines.{counted}
use Rattle.grid_rules.specs.declared.scrubbing.Scrubbed.{Scrubbed}
use Rattle.grid_stores.specs.Scrubbing.{AreLooked, AreTold, IsLooked}
use Rattle.grid_stores.specs.Scrubs.{Looked, WereSeen, counted_file, counted_more, file_text, finding_text, folder_text}
use Rattle.grid_stores.specs.Scrubs.{IsScrub, is_read, last_text, looked_text, none_counted, status_by, unless_whole}
use Rattle.grid_words.specs.declared.words.ScrubWords.{ScrubWords}

-- ---- one file

told_by : (state : State) (line : List ℕ) → (state ≡ Whole → ⊥) → unless_whole state line ≡ line
told_by Whole line other = absurd (other refl)
told_by _ line other = refl

pub whole_told : (json : Bool) (server : ℕ) (f : Finding) (out : Option (List ℕ)) → f.state ≡ Whole → Appends out out (file_text json server f)
whole_told json server f out is = subst (λ (s : State). Appends out out (unless_whole s (finding_text json server f))) (sym is) (Appends-nil out)

pub other_told : {U E : Type 0} (json : Bool) (server : ℕ) (f : Finding) (before after : Option (List ℕ)) (r : Result U E) (text : List ℕ) → (f.state ≡ Whole → ⊥) → text ≡ finding_text json server f
    → OnOk r (Appends before after text) → OnOk r (Appends before after (file_text json server f))
other_told json server f before after r text other is written =
    subst (λ (t : List ℕ). OnOk r (Appends before after t)) (is ∙ sym (told_by f.state (finding_text json server f) other)) written

-- ---- the files of a server

pub none_told : (json : Bool) (server : ℕ) (s : Scrubbed) (out : Option (List ℕ)) → AreTold json server s s out out
none_told json server s out = record { found = []; seen = All-nil WasSeen; counts = refl; written = Appends-nil out }

pub more_told : (json : Bool) (server : ℕ) (s t u : Scrubbed) (a b c : Option (List ℕ)) (f : Finding) → AreTold json server s t a b → WasSeen f → u ≡ counted t f.state
    → Appends b c (file_text json server f) → AreTold json server s u a c
more_told json server s t u a b c f told seen counts written = record {
  found = told.found ++ f ∷ [];
  seen = All-append WasSeen told.found (f ∷ []) told.seen (All-cons WasSeen f [] seen (All-nil WasSeen));
  counts = counts ∙ ap (λ (x : Scrubbed). counted x f.state) told.counts ∙ sym (fold-append counted_file s told.found (f ∷ []));
  written = subst (Appends a c) (flat_map_more (file_text json server) [] told.found f) (Appends-trans a b c _ _ told.written written);
}

-- ---- a server

pub read_looked : (json : Bool) (server : ℕ) (s t : Scrubbed) (a b : Option (List ℕ)) → AreTold json server s t a b → IsLooked json server true s t a b
read_looked json server s t a b told = record {
  looked = record { server = server; found = Some told.found };
  of = refl;
  read_is = refl;
  seen = told.seen;
  counts = told.counts;
  written = told.written;
}

pub unread_looked : (json : Bool) (server : ℕ) (s : Scrubbed) (a b : Option (List ℕ)) → Appends a b (folder_text json server) → IsLooked json server false s s a b
unread_looked json server s a b told = record {
  looked = record { server = server; found = None };
  of = refl;
  read_is = refl;
  seen = All-nil WasSeen;
  counts = refl;
  written = told;
}

-- ---- all servers

pub none_looked : (json : Bool) (s : Scrubbed) (out : Option (List ℕ)) → s ≡ none_counted → AreLooked json [] true s out out
none_looked json s out is = record { looked = []; of = refl; read_is = refl; seen = All-nil WereSeen; counts = is; written = Appends-nil out }

and_true : (b : Bool) → (b && true) ≡ b
and_true true = refl
and_true false = refl

pub more_looked : (json : Bool) (servers : List ℕ) (server : ℕ) (all one : Bool) (s t : Scrubbed) (a b c : Option (List ℕ)) → AreLooked json servers all s a b → IsLooked json server one s t b c
    → AreLooked json (servers ++ server ∷ []) (all && one) t a c
more_looked json servers server all one s t a b c looked more = record {
  looked = looked.looked ++ more.looked ∷ [];
  of = map-append (λ (l : Looked). l.server) looked.looked (more.looked ∷ []) ∙ ap (λ (xs : List ℕ). xs ++ more.looked.server ∷ []) looked.of ∙ ap (λ (x : ℕ). servers ++ x ∷ []) more.of;
  read_is = both looked.looked more.looked looked.read_is more.read_is;
  seen = All-append WereSeen looked.looked (more.looked ∷ []) looked.seen (All-cons WereSeen more.looked [] more.seen (All-nil WereSeen));
  counts = more.counts ∙ ap (λ (x : Scrubbed). counted_more x more.looked) looked.counts ∙ sym (fold-append counted_more none_counted looked.looked (more.looked ∷ []));
  written = subst (Appends a c) (flat_map_more (looked_text json) [] looked.looked more.looked) (Appends-trans a b c _ _ looked.written more.written);
} where
  both : (xs : List Looked) (x : Looked) → all ≡ list_all is_read xs → one ≡ is_read x → (all && one) ≡ list_all is_read (xs ++ x ∷ [])
  both xs x alls ones = ap (λ (b : Bool). b && one) alls ∙ ap (λ (b : Bool). list_all is_read xs && b) (ones ∙ sym (and_true (is_read x))) ∙ sym (list_all-append is_read xs (x ∷ []))

-- one server more of a list
pub next_looked : (json : Bool) (servers : List ℕ) (i : ℕ) (all one both : Bool) (s t : Scrubbed) (a b c : Option (List ℕ)) → i < length servers → both ≡ (all && one)
    → AreLooked json (take i servers) all s a b → IsLooked json (slice_index_or servers i 0) one s t b c → AreLooked json (take (i + 1) servers) both t a c
next_looked json servers i all one both s t a b c within is looked more =
    subst (λ (xs : List ℕ). AreLooked json xs both t a c) (sym (take_more servers i 0 within))
    (subst (λ (read : Bool). AreLooked json (take i servers ++ slice_index_or servers i 0 ∷ []) read t a c) (sym is) (more_looked json (take i servers) (slice_index_or servers i 0) all one s t a b c looked more))

pub and_first : (x all one : Bool) → all ≡ true → x ≡ one → x ≡ (all && one)
and_first x all one each is = is ∙ ap (λ (b : Bool). b && one) (sym each)

pub and_none : (x all one : Bool) → all ≡ false → x ≡ all → x ≡ (all && one)
and_none x all one none is = is ∙ none ∙ ap (λ (b : Bool). b && one) (sym none)

-- the counts are told last
pub scrub_done : (words : ScrubWords) (items servers : List ℕ) (all : Bool) (s : Scrubbed) (a b c : Option (List ℕ)) (text : List ℕ) (status : ℕ) → servers ≡ items → 0 < length items → IsDistinct nat_eq items
    → AreLooked words.json servers all s a b → text ≡ last_text words.json s → Appends b c text → status ≡ status_by all s → IsScrub words status a c
scrub_done words items servers all s a b c text status same some distinct looked told written is = record {
  looked = looked.looked;
  some = subst (λ (n : ℕ). 0 < n) (sym (ap length (looked.of ∙ same)) ∙ length-map looked.looked (λ (l : Looked). l.server)) some;
  distinct = subst (IsDistinct nat_eq) (sym (looked.of ∙ same)) distinct;
  seen = looked.seen;
  written = Appends-trans a b c _ _ looked.written (subst (Appends b c) (told ∙ ap (last_text words.json) looked.counts) written);
  status_is = is ∙ ap (λ (read : Bool). status_by read s) looked.read_is ∙ ap (status_by (list_all is_read looked.looked)) looked.counts;
}

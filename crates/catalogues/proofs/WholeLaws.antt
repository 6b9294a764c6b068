-- Whole catalogues.
use Rattle.std.proofs.Common.{◌≡◌, ◌≢◌, ℕ, ◌+◌, ◌-◌, List, [], ◌∷◌, ◌++◌, length, sym, ap, subst, ◌∙◌, arith, append_assoc, append-nil}
use Rattle.std.specs.List.{AllByRecursion, flat_map}
use Rattle.std.proofs.lemmas.List.{length_push, length-append}
use Rattle.std.proofs.lemmas.List.Concat.{flat_map-append}
use Rattle.cap_text.specs.declared.cap.Cap.{Cap}
use Rattle.catalogues.specs.declared.head.Head.{Head}
use Rattle.catalogues.specs.Catalogues.{BeginsWithHead, BeginsWithLine, Entry, HasNoLine, IsCatalogue, IsEntry, Reading, entry_text}
use Rattle.catalogues.specs.Heads.{IsHead, first_then}
use Rattle.catalogues.specs.Lines.{line_text, words_text}

-- what is left of the files that a catalogue has
pub record FilesLeft (text : List ℕ) (r : Reading) (entries : List Entry) : Type 0 where
  pub rest : List Entry
  pub are : AllByRecursion IsEntry rest
  pub left : r.left ≡ flat_map entry_text rest
  pub count : length entries + 1 ≡ r.lines + length rest

-- what was read of a catalogue, and what is left
pub record ReadSoFar (text : List ℕ) (r : Reading) : Type 0 where
  pub is_head : IsHead r.head
  pub entries : List Entry
  pub are : AllByRecursion IsEntry entries
  pub is : text ≡ first_then r.head (flat_map entry_text entries ++ r.left)
  pub count : r.lines ≡ length entries + 1
  pub only : (head : Head) (all : List Entry) → IsCatalogue text head all → FilesLeft text r all

-- no line is empty
pub line_some : (cap : Cap) (name rest : List ℕ) → line_text cap name ++ rest ≡ [] → ⊥
line_some cap name rest none =
    omega (arith, ap length none, length-append (line_text cap name) rest, length_push (words_text cap name) 10)

-- a text that is left of files begins with the line of the first
first_of : (left : List ℕ) (e : Entry) (rest : List Entry) → IsEntry e → left ≡ flat_map entry_text (e ∷ rest)
    → BeginsWithLine left e.cap e.name (flat_map entry_text rest)
first_of left e rest is same = record { is_cap = is.0; is_name = is.1; is = same }

-- at the beginning
pub begun : (text : List ℕ) (r : Reading) → BeginsWithHead text r.head r.left → r.lines ≡ 1
    → ((head : Head) (rest : List ℕ) → BeginsWithHead text head rest → r.left ≡ rest) → ReadSoFar text r
begun text r begins one only = record {
  is_head = begins.is_head;
  entries = [];
  are = tt;
  is = begins.is;
  count = omega (arith, one);
  only = λ head all catalogue. record {
    rest = all;
    are = catalogue.are;
    left = only head (flat_map entry_text all) (record { is_head = catalogue.is_head; is = catalogue.is });
    count = omega (arith, one);
  };
}

-- the files left behind the next
pub next_left : (text : List ℕ) (r s : Reading) (all : List Entry) (cap : Cap) (name : List ℕ) → BeginsWithLine r.left cap name s.left → s.lines ≡ r.lines + 1
    → ((c : Cap) (n rest : List ℕ) → BeginsWithLine r.left c n rest → s.left ≡ rest) → FilesLeft text r all → FilesLeft text s all
next_left text r s all cap name begins more only files = go files.rest files.are files.left files.count
  where
    go : (rest : List Entry) → AllByRecursion IsEntry rest → r.left ≡ flat_map entry_text rest → length all + 1 ≡ r.lines + length rest → FilesLeft text s all
    go [] are none count = absurd (line_some cap name s.left (sym begins.is ∙ none))
    go (e ∷ rest) are left count = record {
      rest = rest;
      are = are.1;
      left = only e.cap e.name (flat_map entry_text rest) (first_of r.left e rest are.0 left);
      count = omega (arith, count, more);
    }

pub all_push : (entries : List Entry) (e : Entry) → AllByRecursion IsEntry entries → IsEntry e → AllByRecursion IsEntry (entries ++ e ∷ [])
all_push [] e are is = (is, tt)
all_push (d ∷ entries) e are is = (are.0, all_push entries e are.1 is)

-- the next line was read
pub one_line : (text : List ℕ) (r s : Reading) (cap : Cap) (name : List ℕ) → BeginsWithLine r.left cap name s.left → s.lines ≡ r.lines + 1 → s.head ≡ r.head
    → ((c : Cap) (n rest : List ℕ) → BeginsWithLine r.left c n rest → s.left ≡ rest) → ReadSoFar text r → ReadSoFar text s
one_line text r s cap name begins more same only so_far =
    let e : Entry = record { cap = cap; name = name } in record {
      is_head = subst IsHead (sym same) so_far.is_head;
      entries = so_far.entries ++ e ∷ [];
      are = all_push so_far.entries e so_far.are (begins.is_cap, begins.is_name);
      is =
          so_far.is
          ∙ ap (λ (xs : List ℕ). first_then r.head (flat_map entry_text so_far.entries ++ xs)) begins.is
          ∙ ap (first_then r.head) (sym (append_assoc (flat_map entry_text so_far.entries) (line_text cap name) s.left))
          ∙ ap (λ (xs : List ℕ). first_then r.head ((flat_map entry_text so_far.entries ++ xs) ++ s.left)) (sym (append-nil (line_text cap name)))
          ∙ ap (λ (xs : List ℕ). first_then r.head (xs ++ s.left)) (sym (flat_map-append entry_text so_far.entries (e ∷ [])))
          ∙ ap (λ (h : Head). first_then h (flat_map entry_text (so_far.entries ++ e ∷ []) ++ s.left)) (sym same);
      count = omega (arith, more, so_far.count, length_push so_far.entries e);
      only = λ head all catalogue. next_left text r s all cap name begins more only (so_far.only head all catalogue);
    }

-- all of it was read
pub all_read : (text : List ℕ) (r : Reading) → r.left ≡ [] → (so_far : ReadSoFar text r) → IsCatalogue text r.head so_far.entries
all_read text r none so_far = record {
  is_head = so_far.is_head;
  are = so_far.are;
  is = so_far.is ∙ ap (first_then r.head)
      (ap (λ (xs : List ℕ). flat_map entry_text so_far.entries ++ xs) none ∙ append-nil (flat_map entry_text so_far.entries));
}

pub no_more : (text : List ℕ) (r : Reading) (all : List Entry) → r.left ≡ [] → FilesLeft text r all → r.lines - 1 ≡ length all
no_more text r all none files = go files.rest files.left files.count
  where
    go : (rest : List Entry) → r.left ≡ flat_map entry_text rest → length all + 1 ≡ r.lines + length rest → r.lines - 1 ≡ length all
    go [] left count = omega (arith, count)
    go (e ∷ rest) left count = absurd (line_some e.cap e.name (flat_map entry_text rest) (sym left ∙ none))

-- where there is no line, the text is no catalogue
pub no_catalogue : (text : List ℕ) (r : Reading) (all : List Entry) → r.left ≢ [] → HasNoLine r.left → FilesLeft text r all → ⊥
no_catalogue text r all some none files = go files.rest files.are files.left
  where
    go : (rest : List Entry) → AllByRecursion IsEntry rest → r.left ≡ flat_map entry_text rest → ⊥
    go [] are left = some left
    go (e ∷ rest) are left = none e.cap e.name (flat_map entry_text rest) (first_of r.left e rest are.0 left)

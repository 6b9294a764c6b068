-- What a catalogue tells of names.
use Rattle.std.proofs.Common.{◌≡◌, ℕ, ◌+◌, List, [], ◌∷◌, ◌++◌, Bool, true, false, cond, Option, None, Some, if◌then◌else◌, length, refl, sym, ap, subst, ◌∙◌, ⊎_elim, arith, append_assoc, append-nil}
use Rattle.std.specs.BTreeMap.{BTreeMap, UpdatesBy}
use Rattle.std.specs.Cmp.{eq_by_cmp_equiv}
use Rattle.std.specs.Cmp.Lexicographic.{bytes_decides, nat_list_cmp_total, nat_list_eq_equiv, slice_cmp}
use Rattle.std.specs.Global.{Vec}
use Rattle.std.specs.List.{AllByRecursion, flat_map}
use Rattle.std.specs.Map.{AreApart, IsKeyTest, KeepsOthers, lookup}
use Rattle.std.specs.Ordering.{is_eq, nat_cmp}
use Rattle.std.specs.declared.cmp.Ordering.{Ordering}
use Rattle.std.specs.Str.{bytes_eq}
use Rattle.std.proofs.lemmas.Bool.{cases_Bool, cond-true, cond-false}
use Rattle.std.proofs.lemmas.List.{length_push}
use Rattle.std.proofs.lemmas.List.Concat.{flat_map-append}
use Rattle.std.proofs.lemmas.List.Sums.{fold-append}
use Rattle.std.proofs.lemmas.Map.Text.{is_eq-slice_cmp}
use Rattle.cap_text.specs.declared.cap.Cap.{Cap}
use Rattle.catalogues.specs.Catalogues.{BeginsWithLine, Entry, IsEntry, Reading, entry_text}
use Rattle.catalogues.specs.Known.{AreRead, cap_under, last_cap}
use Rattle.catalogues.specs.Lines.{line_text}
use Rattle.catalogues.proofs.WholeLaws.{all_push}

-- ---- a cap under another name

module _ {K : Type 0} (eq : K → K → Bool) (test : K → Bool) where
  other_entries : {X : Type 0} (old new : List (K × X)) → KeepsOthers eq test old new → (other : K → Bool) → IsKeyTest eq other → AreApart test other → lookup other new ≡ lookup other old
  unfolding KeepsOthers
  other_entries old new h = h

apart : (bs cs ks : List ℕ) → bytes_eq bs cs ≡ false → is_eq (slice_cmp nat_cmp bs ks) ≡ true → is_eq (slice_cmp nat_cmp cs ks) ≡ false
apart bs cs ks n y =
    is_eq-slice_cmp cs ks ∙ nat_list_eq_equiv.symm cs ks ∙ sym (nat_list_eq_equiv.congr bs ks cs (sym (is_eq-slice_cmp bs ks) ∙ y)) ∙ n

abbrev name_cmp : Vec ℕ → Vec ℕ → Ordering
name_cmp a b = slice_cmp nat_cmp a.items b.items

others_stay : (bs : List ℕ) (m n : BTreeMap (Vec ℕ) Cap) (w : Option Cap) → UpdatesBy name_cmp (λ k. slice_cmp nat_cmp bs k.items) m n w → (cs : List ℕ) → bytes_eq bs cs ≡ false → cap_under n cs ≡ cap_under m cs
others_stay bs m n w h cs e =
    other_entries _ _ m.entries n.entries h.3 _ (λ x y. (eq_by_cmp_equiv nat_list_cmp_total).congr cs x.items y.items) (λ k. apart bs cs k.items e)

pub noted : (bs : List ℕ) (m n : BTreeMap (Vec ℕ) Cap) (w : Option Cap) → UpdatesBy name_cmp (λ k. slice_cmp nat_cmp bs k.items) m n w
    → (cs : List ℕ) → cap_under n cs ≡ cond (bytes_eq bs cs) w (cap_under m cs)
noted bs m n w h cs =
    ⊎_elim
    (λ y. subst (λ (l : List ℕ). cap_under n l ≡ w) ((bytes_decides bs cs).0 y) h.1 ∙ sym (cond-true (bytes_eq bs cs) w (cap_under m cs) y))
    (λ e. others_stay bs m n w h cs e ∙ sym (cond-false (bytes_eq bs cs) w (cap_under m cs) e))
    (cases_Bool (bytes_eq bs cs))

-- ---- line by line

-- what was read behind the first line, and the caps that were noted
pub record SoFar (rest : List ℕ) (r : Reading) (caps : BTreeMap (Vec ℕ) Cap) : Type 0 where
  pub entries : List Entry
  pub are : AllByRecursion IsEntry entries
  pub is : rest ≡ flat_map entry_text entries ++ r.left
  pub count : r.lines ≡ length entries + 1
  pub caps_are : (name : List ℕ) → cap_under caps name ≡ last_cap name entries

pub at_first : (r : Reading) (caps : BTreeMap (Vec ℕ) Cap) → r.lines ≡ 1 → ((name : List ℕ) → cap_under caps name ≡ None) → SoFar r.left r caps
at_first r caps one none = record { entries = []; are = tt; is = refl; count = one; caps_are = none }

-- one line more
pub one_more : (rest : List ℕ) (r s : Reading) (a b : BTreeMap (Vec ℕ) Cap) (cap : Cap) (name : List ℕ) → BeginsWithLine r.left cap name s.left → s.lines ≡ r.lines + 1
    → ((n : List ℕ) → cap_under b n ≡ (if bytes_eq name n then Some cap else cap_under a n)) → SoFar rest r a → SoFar rest s b
one_more rest r s a b cap name begins more noted so_far =
    let e : Entry = record { cap = cap; name = name } in record {
      entries = so_far.entries ++ e ∷ [];
      are = all_push so_far.entries e so_far.are (begins.is_cap, begins.is_name);
      is =
          so_far.is
          ∙ ap (λ (xs : List ℕ). flat_map entry_text so_far.entries ++ xs) begins.is
          ∙ sym (append_assoc (flat_map entry_text so_far.entries) (line_text cap name) s.left)
          ∙ ap (λ (xs : List ℕ). (flat_map entry_text so_far.entries ++ xs) ++ s.left) (sym (append-nil (line_text cap name)))
          ∙ ap (λ (xs : List ℕ). xs ++ s.left) (sym (flat_map-append entry_text so_far.entries (e ∷ [])));
      count = omega (arith, more, so_far.count, length_push so_far.entries e);
      caps_are = λ n. noted n ∙ ap (λ (o : Option Cap). if bytes_eq name n then Some cap else o) (so_far.caps_are n)
          ∙ sym (fold-append (λ (found : Option Cap) (d : Entry). if bytes_eq d.name n then Some d.cap else found) None so_far.entries (e ∷ []));
    }

-- all of it was read
pub to_the_end : (rest : List ℕ) (r : Reading) (caps : BTreeMap (Vec ℕ) Cap) → r.left ≡ [] → SoFar rest r caps → AreRead rest caps None
to_the_end rest r caps none so_far = record { entries = so_far.entries; are = so_far.are; left = r.left; lines = so_far.is; ends = none; caps_are = so_far.caps_are }

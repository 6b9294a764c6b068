-- Which names patterns take, by rows.
use Rattle.std.proofs.Common.{Bor, drop, ◌≡◌, ◌<◌, ◌≤◌, ◌+◌, ◌∙◌, ◌&&◌, ◌||◌, ◌==◌, ℕ, Bool, true, false, not, cond, List, [], ◌∷◌, ◌++◌, length, refl, sym, ap, subst, arith, slice_index_or, get_or, eqb, eqb-true, eq-eqb, codes, inl, inr, map}
use Rattle.std.specs.Prelude.{if◌then◌else◌, slice_index}
use Rattle.std.specs.List.{list_all, list_any}
use Rattle.std.proofs.lemmas.List.{append-nil, append_assoc, drop_at, drop_more, get_or_append_left, get_or_push, length-append}
use Rattle.catalogues.specs.Below.{IsLeadingPiece}
use Rattle.catalogues.specs.Patterns.{behind_front, chooses, goes_on, is_further, quoted, taken, taken_from}
use Rattle.catalogues.specs.Rows.{Tells, TellsAll, answer}

-- ---- one end of a pattern

no_star : (x : ℕ) → (x == 42) ≡ true → is_further x ≡ false
no_star x is = subst (λ (n : ℕ). is_further n ≡ false) (sym (eqb-true x 42 is)) refl

same_star : (f fx s ge t u v w here : Bool) → (s ≡ true → fx ≡ false)
    → cond (f && not fx) here (cond s ((cond (f && not ge) t u) || v) w) ≡ cond (f && not fx) here (cond s (u || v) w)
same_star true false s ge t u v w here apart = refl
same_star true true true ge t u v w here apart = absurd (true_false (apart refl)) where
  true_false : true ≡ false → ⊥
  true_false e = cc
same_star true true false ge t u v w here apart = refl
same_star false true true ge t u v w here apart = refl
same_star false true false ge t u v w here apart = refl
same_star false false true ge t u v w here apart = refl
same_star false false false ge t u v w here apart = refl

pub taken_answer : (name : List ℕ) (c x : ℕ) (end : List ℕ)
    → answer c x (taken (c ∷ name) end) (taken name end) (taken name (x ∷ end)) (quoted (taken name) c end) ≡ taken (c ∷ name) (x ∷ end)
unfolding taken
taken_answer name c x end =
    same_star (is_further c) (is_further x) (x == 42) (is_further (slice_index end 0)) (taken name end) (taken_from (taken name) c end) (not (c == 47) && taken name (x ∷ end))
    (cond (x == 63) (not (c == 47) && taken name end) (cond (x == 92) (quoted (taken name) c end) (c == x && taken name end))) (taken name (x ∷ end)) (no_star x)

pub taken_by : (name : List ℕ) (c x : ℕ) (end : List ℕ) (shorter after here behind r : Bool) → r ≡ answer c x shorter after here behind → shorter ≡ taken (c ∷ name) end → after ≡ taken name end → here ≡ taken name (x ∷ end) → behind ≡ quoted (taken name) c end
    → r ≡ taken (c ∷ name) (x ∷ end)
taken_by name c x end shorter after here behind r is s a h b =
    is ∙ ap (λ (y : Bool). answer c x y after here behind) s ∙ ap (λ (y : Bool). answer c x (taken (c ∷ name) end) y here behind) a ∙ ap (λ (y : Bool). answer c x (taken (c ∷ name) end) (taken name end) y behind) h
    ∙ ap (λ (y : Bool). answer c x (taken (c ∷ name) end) (taken name end) (taken name (x ∷ end)) y) b ∙ taken_answer name c x end

-- where the pattern has ended
pub ended_further : (name : List ℕ) (c : ℕ) → is_further c ≡ true → taken name [] ≡ taken (c ∷ name) []
unfolding taken
ended_further name c is = sym (ap (λ (b : Bool). cond (b && true) (taken name []) (c == 47)) is)

pub ended_first : (name : List ℕ) (c : ℕ) → is_further c ≡ false → (c == 47) ≡ taken (c ∷ name) []
unfolding taken
ended_first name c is = sym (ap (λ (b : Bool). cond (b && true) (taken name []) (c == 47)) is)

-- of no name
pub none_taken : taken [] [] ≡ true
unfolding taken
none_taken = refl

pub stars_taken : (x : ℕ) (end : List ℕ) → ((x == 42) && taken [] end) ≡ taken [] (x ∷ end)
unfolding taken
stars_taken x end = refl

-- ---- rows

tail_same : (x b : ℕ) (xs ys : List ℕ) → x ∷ xs ≡ b ∷ ys → xs ≡ ys
tail_same x b xs ys same = cc

short_end : (end before whole : List ℕ) → end ≡ before ++ whole → length whole ≤ length end
short_end end before whole same = let long : length end ≡ length before + length whole = ap length same ∙ length-append before whole in omega (arith, long)

pub none_told : (name : List ℕ) (v : Bool) → v ≡ taken name [] → TellsAll (v ∷ []) name []
none_told name v is [] [] same = is
none_told name v is [] (x ∷ whole) same = absurd (no_more x whole same) where
  no_more : (x : ℕ) (xs : List ℕ) → [] ≡ x ∷ xs → ⊥
  no_more x xs e = cc
none_told name v is (b ∷ before) whole same = absurd (no_more b (before ++ whole) same) where
  no_more : (x : ℕ) (xs : List ℕ) → [] ≡ x ∷ xs → ⊥
  no_more x xs e = cc

pub more_told : (row : List Bool) (name end : List ℕ) (x : ℕ) (v : Bool) → length row ≡ length end + 1 → TellsAll row name end → v ≡ taken name (x ∷ end) → TellsAll (row ++ v ∷ []) name (x ∷ end)
more_told row name end x v long told is [] whole same =
    let here : length row ≡ length (x ∷ end) = omega (arith, long) in
    subst (λ (w : List ℕ). Tells (row ++ v ∷ []) name w) same (get_or_push row v false (length (x ∷ end)) here ∙ is)
more_told row name end x v long told is (b ∷ before) whole same =
    let rest : end ≡ before ++ whole = tail_same x b end (before ++ whole) same in
    let here : length whole < length row = let short = short_end end before whole rest in omega (arith, short, long) in
    get_or_append_left row (v ∷ []) false (length whole) here ∙ told before whole rest

-- those of an end are of those of all
pub end_told : (row : List Bool) (name pattern before end : List ℕ) → pattern ≡ before ++ end → TellsAll row name pattern → TellsAll row name end
end_told row name pattern before end is told more whole same = told (before ++ more) whole (is ∙ ap (λ (e : List ℕ). before ++ e) same ∙ sym (append_assoc before more whole))

pub itself_told : (row : List Bool) (name end : List ℕ) → TellsAll row name end → Tells row name end
itself_told row name end told = told [] end refl

-- at the index that the code has
pub whole_told : (row : List Bool) (name end : List ℕ) (x : ℕ) → TellsAll row name (x ∷ end) → slice_index_or row (length end + 1) false ≡ taken name (x ∷ end)
whole_told row name end x told = let same : length end + 1 ≡ length (x ∷ end) = omega arith in ap (λ (n : ℕ). slice_index_or row n false) same ∙ told [] (x ∷ end) refl

pub shorter_told : (row : List Bool) (name end : List ℕ) (x : ℕ) → TellsAll row name (x ∷ end) → Tells row name end
shorter_told row name end x told = told (x ∷ []) end refl

-- a text, cut before its last byte
pub cut_last : (text left end before : List ℕ) (x : ℕ) → text ≡ left ++ end → left ≡ before ++ x ∷ [] → text ≡ before ++ x ∷ end
cut_last text left end before x is last = is ∙ ap (λ (l : List ℕ). l ++ end) last ∙ append_assoc before (x ∷ []) end

pub row_begun : (row : List Bool) (name : List ℕ) (v : Bool) → row ≡ v ∷ [] → v ≡ taken name [] → TellsAll row name []
row_begun row name v is told = subst (λ (r : List Bool). TellsAll r name []) (sym is) (none_told name v told)

pub row_more : (row new : List Bool) (name end : List ℕ) (x : ℕ) (v : Bool) → new ≡ row ++ v ∷ [] → length row ≡ length end + 1 → TellsAll row name end → v ≡ taken name (x ∷ end) → TellsAll new name (x ∷ end)
row_more row new name end x v is long told here = subst (λ (r : List Bool). TellsAll r name (x ∷ end)) (sym is) (more_told row name end x v long told here)

pub long_more : (row new : List Bool) (end : List ℕ) (x : ℕ) (v : Bool) → new ≡ row ++ v ∷ [] → length row ≡ length end + 1 → length new ≡ length (x ∷ end) + 1
long_more row new end x v is long = let grown : length new ≡ length row + 1 = ap length is ∙ length-append row (v ∷ []) in omega (arith, grown, long)

-- what stands behind the front of a text
pub behind_left : (text left end : List ℕ) → text ≡ left ++ end → drop (length left) text ≡ end
behind_left text left end is = ap (drop (length left)) is ∙ drop_at left end (length left) refl

pub all_gone : (text left end : List ℕ) → text ≡ left ++ end → length left ≡ 0 → text ≡ end
all_gone text [] end is none = is
all_gone text (x ∷ left) end is none = absurd (omega (arith, none))

-- behind a `\`
pub quoted_none : (old : List Bool) (name end : List ℕ) (c : ℕ) → length end ≡ 0 → c ≡ 92 → TellsAll old name end → slice_index_or old 0 false ≡ quoted (taken name) c end
quoted_none old name [] c none is told = told [] [] refl ∙ sym (ap (λ (b : Bool). b && taken name []) (eq-eqb c 92 is))
quoted_none old name (x ∷ end) c none is told = absurd (omega (arith, none))

pub quoted_some : (old : List Bool) (name end shorter : List ℕ) (c x : ℕ) → end ≡ x ∷ shorter → c ≡ x → TellsAll old name end → slice_index_or old (length shorter) false ≡ quoted (taken name) c end
quoted_some old name end shorter c x first is told = told (x ∷ []) shorter first ∙ sym (ap (λ (e : List ℕ). quoted (taken name) c e) first ∙ ap (λ (b : Bool). b && taken name shorter) (eq-eqb c x is))

-- ---- several patterns

abbrev takes_one : List ℕ → Bor (List ℕ) → Bool
takes_one name p = taken name (behind_front p.now)

pub one_takes : (name : List ℕ) (patterns : List (Bor (List ℕ))) (i : ℕ) (pattern : List ℕ) (any : Bor (List ℕ)) → i < length patterns → pattern ≡ (get_or patterns i any).now → taken name (behind_front pattern) ≡ true
    → list_any (takes_one name) (drop i patterns) ≡ list_any (takes_one name) patterns → true ≡ list_any (takes_one name) patterns
one_takes name patterns i pattern any within is v so_far =
    sym (ap (list_any (takes_one name)) (drop_more patterns i any within) ∙ ap (λ (b : Bool). b || list_any (takes_one name) (drop (i + 1) patterns)) (ap (λ (p : List ℕ). taken name (behind_front p)) (sym is) ∙ v)) ∙ so_far

pub none_takes : (name : List ℕ) (patterns : List (Bor (List ℕ))) (i : ℕ) (pattern : List ℕ) (any : Bor (List ℕ)) → i < length patterns → pattern ≡ (get_or patterns i any).now → taken name (behind_front pattern) ≡ false
    → list_any (takes_one name) (drop i patterns) ≡ list_any (takes_one name) patterns → list_any (takes_one name) (drop (i + 1) patterns) ≡ list_any (takes_one name) patterns
none_takes name patterns i pattern any within is v so_far =
    sym (ap (list_any (takes_one name)) (drop_more patterns i any within) ∙ ap (λ (b : Bool). b || list_any (takes_one name) (drop (i + 1) patterns)) (ap (λ (p : List ℕ). taken name (behind_front p)) (sym is) ∙ v)) ∙ so_far

any_map : (name : List ℕ) (patterns : List (Bor (List ℕ))) → list_any (takes_one name) patterns ≡ list_any (λ p. taken name (behind_front p)) (map (λ (p : Bor (List ℕ)). p.now) patterns)
any_map name [] = refl
any_map name (p ∷ patterns) = ap (λ (b : Bool). takes_one name p || b) (any_map name patterns)

-- with a pattern at least
pub chosen_by : (name : List ℕ) (patterns : List (Bor (List ℕ))) (r : Bool) → (length patterns == 0) ≡ false → r ≡ list_any (takes_one (behind_front name)) patterns → r ≡ chooses (map (λ (p : Bor (List ℕ)). p.now) patterns) name
chosen_by name [] r some is = absurd (true_false some) where
  true_false : true ≡ false → ⊥
  true_false e = cc
chosen_by name (p ∷ patterns) r some is = is ∙ any_map (behind_front name) (p ∷ patterns)

-- ---- behind a front

pub front_piece : (piece rest : List ℕ) → IsLeadingPiece piece → behind_front (piece ++ rest) ≡ behind_front rest
unfolding behind_front
front_piece piece rest (inl slash) = ap (λ (p : List ℕ). behind_front (p ++ rest)) slash ∙ one_slash rest where
  one_slash : (rest : List ℕ) → behind_front (47 ∷ rest) ≡ behind_front rest
  one_slash [] = refl
  one_slash (c ∷ rest) = refl
front_piece piece rest (inr dot) = ap (λ (p : List ℕ). behind_front (p ++ rest)) dot

pub no_piece_left : (text : List ℕ) → ((piece rest : List ℕ) → IsLeadingPiece piece → text ≡ piece ++ rest → ⊥) → text ≡ behind_front text
unfolding behind_front
no_piece_left [] none = refl
no_piece_left (c ∷ []) none = sym (cond_first (c == 47) refl) where
  cond_first : (b : Bool) → (c == 47) ≡ b → cond b [] (c ∷ []) ≡ c ∷ []
  cond_first true is = absurd (none (codes "/") [] (inl refl) (ap (λ (n : ℕ). n ∷ []) (eqb-true c 47 is)))
  cond_first false is = refl
no_piece_left (c ∷ d ∷ text) none = sym (cond_first (c == 47) refl) where
  cond_second : (b : Bool) → ((c == 46) && (d == 47)) ≡ b → cond b (behind_front text) (c ∷ d ∷ text) ≡ c ∷ d ∷ text
  cond_second true is = absurd (none (codes "./") text (inr refl) (dotted (c == 46) (d == 47) refl refl is)) where
    dotted : (a b : Bool) → (c == 46) ≡ a → (d == 47) ≡ b → (a && b) ≡ true → c ∷ d ∷ text ≡ 46 ∷ 47 ∷ text
    dotted true true first second both = ap (λ (n : ℕ). n ∷ d ∷ text) (eqb-true c 46 first) ∙ ap (λ (n : ℕ). 46 ∷ n ∷ text) (eqb-true d 47 second)
    dotted true false first second both = cc
    dotted false b first second both = cc
  cond_second false is = refl

  cond_first : (b : Bool) → (c == 47) ≡ b → cond b (behind_front (d ∷ text)) (cond ((c == 46) && (d == 47)) (behind_front text) (c ∷ d ∷ text)) ≡ c ∷ d ∷ text
  cond_first true is = absurd (none (codes "/") (d ∷ text) (inl refl) (ap (λ (n : ℕ). n ∷ d ∷ text) (eqb-true c 47 is)))
  cond_first false is = cond_second ((c == 46) && (d == 47)) refl

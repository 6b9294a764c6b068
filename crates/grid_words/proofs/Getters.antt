-- What the getters of the matches give, by the rows.
use Rattle.std.proofs.Common.{◌≡◌, ◌∙◌, ◌&&◌, ℕ, Bool, true, false, refl, sym, ap, List, [], ◌∷◌, length, Option, Some, None, Result, Ok, Err, map, true≢false, nat_lt, lt-ltb, ltb-true, codes}
use Rattle.std.specs.Borrow.{Bor}
use Rattle.std.specs.List.{list_all}
use Rattle.std.specs.Option.{option_map, unwrap_or}
use Rattle.std.specs.Prelude.{option_and_then}
use Rattle.std.specs.Char.{digit_value}
use Rattle.std.specs.Str.Parse.{AllDigits, ParsesUnsigned, digits_value, without_leading_plus}
use Rattle.clap.specs.Matches.{ReadsOne}
use Rattle.clap.specs.Walk.{Text}
use Rattle.grid_words.specs.Asked.{IsFlag, spelled_number}

both : (a b : Bool) → (a && b) ≡ true → (a ≡ true) × (b ≡ true)
both true b e = (refl, e)
both false b e = absurd (true≢false (sym e))

digits_pass : (ds : List ℕ) → AllDigits 10 ds → list_all (λ d. nat_lt (digit_value d) 10) ds ≡ true
digits_pass [] h = refl
digits_pass (d ∷ ds) h = rw (lt-ltb (digit_value d) 10 h.0) (digits_pass ds h.1)

digits_from : (ds : List ℕ) → list_all (λ d. nat_lt (digit_value d) 10) ds ≡ true → AllDigits 10 ds
digits_from [] e = tt
digits_from (d ∷ ds) e =
    let parts = both _ _ e in
    (ltb-true _ _ parts.0, digits_from ds parts.1)

abbrev is_number : List ℕ → Bool
is_number ds = nat_lt 0 (length ds) && list_all (λ d. nat_lt (digit_value d) 10) ds && nat_lt (digits_value 10 ds) 18446744073709551616

-- what `parse` gives of a text is the number that the text spells
spelled_read : {E : Type 0} (G : Text → Result ℕ E → Type 0) (text : Text) (o : Option ℕ)
    → ((t : Text) (r : Result ℕ E) → G t r → ParsesUnsigned 64 10 t r) → ReadsOne G text o → o ≡ spelled_number text
spelled_read G text (Some n) parses reads =
    let h = parses text (Ok n) reads in
    let ds = without_leading_plus text in
    rw (lt-ltb 0 (length ds) h.0.0.0, digits_pass ds h.0.0.1, lt-ltb (digits_value 10 ds) 18446744073709551616 h.0.1) (ap Some h.1)
spelled_read G text None parses reads = go (is_number (without_leading_plus text)) refl
  where
    go : (b : Bool) → is_number (without_leading_plus text) ≡ b → None ≡ spelled_number text
    go false t = rw t refl
    go true t =
        let h = parses text (Err reads.0) reads.1 in
        let outer = both _ _ t in
        let inner = both _ _ outer.0 in
        absurd (h ((ltb-true _ _ inner.0, digits_from (without_leading_plus text) inner.1), ltb-true _ _ outer.1))

-- `get_one` of a number
pub number_read : {E : Type 0} (G : Text → Result ℕ E → Type 0) (found : Option Text) (o : Option ℕ)
    → ((t : Text) (r : Result ℕ E) → G t r → ParsesUnsigned 64 10 t r)
    → (found ≡ None → o ≡ None) → ((t : Text) → found ≡ Some t → ReadsOne G t o)
    → o ≡ option_and_then spelled_number found
number_read G None o parses none value = none refl
number_read G (Some text) o parses none value = spelled_read G text o parses (value text refl)

-- `get_flag`
pub flag_read : (found : Option Text) (set : Bool) → (found ≡ None → set ≡ false)
    → (found ≡ Some (codes "true") → set ≡ true) → (found ≡ Some (codes "false") → set ≡ false)
    → IsFlag found set
flag_read None set none is_yes is_no = none refl
flag_read (Some text) set none is_yes is_no = (λ e. is_yes (ap Some e), λ e. is_no (ap Some e))

-- the text of an answer, or the empty one
pub text_read : (o : Option (Bor Text)) (other : Bor Text) (found : Option Text)
    → option_map (λ s. s.now) o ≡ found → other.now ≡ []
    → (unwrap_or o other).now ≡ unwrap_or found []
text_read None other found same empty = empty ∙ ap (λ (t : Option Text). unwrap_or t []) same
text_read (Some s) other found same empty = ap (λ (t : Option Text). unwrap_or t []) same

-- the texts of an answer, or none
pub some_texts : (o : Option (Bor (List (Bor Text)))) (given : Bor (List (Bor Text))) (found : Option (List Text)) → o ≡ Some given
    → option_map (λ (s : Bor (List (Bor Text))). map (λ (v : Bor Text). v.now) s.now) o ≡ found → map (λ (v : Bor Text). v.now) given.now ≡ unwrap_or found []
some_texts o given found is same = ap (λ (t : Option (List Text)). unwrap_or t []) (sym (ap (option_map (λ (s : Bor (List (Bor Text))). map (λ (v : Bor Text). v.now) s.now)) is) ∙ same)

pub no_texts : (o : Option (Bor (List (Bor Text)))) (found : Option (List Text)) → o ≡ None
    → option_map (λ (s : Bor (List (Bor Text))). map (λ (v : Bor Text). v.now) s.now) o ≡ found → [] ≡ unwrap_or found []
no_texts o found is same = ap (λ (t : Option (List Text)). unwrap_or t []) (sym (ap (option_map (λ (s : Bor (List (Bor Text))). map (λ (v : Bor Text). v.now) s.now)) is) ∙ same)

-- The servers of an `init` that are served elsewhere.
use Rattle.std.proofs.Common.{◌≡◌, ◌∙◌, ◌-◌, ◌+◌, ◌<◌, ◌++◌, ℕ, ◌||◌, Bool, Bor, false, map, true, true≢false, arith, eqb, subst, sym, take, List, [], ◌∷◌, All, Some, Option, ap, get_or, length, lt-ltb, nat_lt, refl}
use Rattle.std.proofs.lemmas.Bool.{eq-eqb, eqb-true}
use Rattle.std.proofs.lemmas.List.{take_more}
use Rattle.std.proofs.lemmas.List.Elements.{All-map}
use Rattle.std.proofs.lemmas.Slice.Zip.{all_zipped_more}
use Rattle.std.specs.List.{IsDistinct, list_all, list_any}
use Rattle.std.specs.Char.{digit_value}
use Rattle.std.specs.Str.Parse.{AllDigits, IsNumeral, digits_value, without_leading_plus}
use Rattle.grid_marks.specs.Addresses.{AreOf}
use Rattle.grid_marks.specs.declared.addresses.AddressFile.{AddressFile}
use Rattle.grid_words.specs.Asked.{spelled_number}
use Rattle.grid_words.specs.declared.words.Marking.{Marking}
use Rattle.grid_words.specs.declared.words.Marking.TheVariants.{New, Add}
use Rattle.grid_commands.specs.Elsewhere.{AreNamed, IsNewServer, NamesServer}

digits_pass : (ds : List ℕ) → AllDigits 10 ds → list_all (λ d. nat_lt (digit_value d) 10) ds ≡ true
digits_pass [] h = refl
digits_pass (d ∷ ds) h = rw (lt-ltb (digit_value d) 10 h.0) (digits_pass ds h.1)

-- a number that was read is the one that the digits spell
pub spelled : (text : List ℕ) (n : ℕ) → IsNumeral 10 (without_leading_plus text) → digits_value 10 (without_leading_plus text) < 18446744073709551616
    → n ≡ digits_value 10 (without_leading_plus text) → spelled_number text ≡ Some n
spelled text n numeral small same =
    let ds = without_leading_plus text in
    rw (lt-ltb 0 (length ds) numeral.0, digits_pass ds numeral.1, lt-ltb (digits_value 10 ds) 18446744073709551616 small) (ap Some (sym same))

-- servers of a new grid
pub all_of_new : (servers : Option ℕ) (count : ℕ) (files : List AddressFile) → AreOf 0 count files → All (λ (f : AddressFile). IsNewServer (New servers) count f.server) files
all_of_new servers count files of = λ k d within. (of k d within).1

-- and of one that grows
pub all_of_more : (more count : ℕ) (files : List AddressFile) → AreOf (count - more) count files → All (λ (f : AddressFile). IsNewServer (Add more) count f.server) files
all_of_more more count files of = λ k d within. of k d within

pub none_new : {X : Type 0} (P : X → Type 0) (xs : List X) → xs ≡ [] → All P xs
none_new P xs e = λ k d within. absurd (omega (arith, ap length e, within))

-- ---- numbers of which none stands twice

pub none_distinct : IsDistinct eqb []
unfolding IsDistinct
none_distinct = tt

-- a word that names a server, behind others
pub named_more : (words : List (Bor (List ℕ))) (servers : List ℕ) (i : ℕ) (word : Bor (List ℕ)) (server : ℕ) → i < length words → word ≡ get_or words i word → AreNamed (take i words) servers → NamesServer word.now server
    → AreNamed (take (i + 1) words) (servers ++ server ∷ [])
named_more words servers i word server within is named names =
    subst (λ (ws : List (Bor (List ℕ))). AreNamed ws (servers ++ server ∷ [])) (ap (λ (w : Bor (List ℕ)). take i words ++ w ∷ []) is ∙ sym (take_more words i word within))
    (all_zipped_more (λ (w : Bor (List ℕ)) (s : ℕ). NamesServer w.now s) (take i words) servers word server named names)

abbrev pub server_of : AddressFile → ℕ
server_of f = f.server

or_false : (a b : Bool) → (a || b) ≡ false → (a ≡ false) × (b ≡ false)
or_false true b e = absurd (true≢false e)
or_false false b e = (refl, e)

-- a number that is none of these, whichever is compared with the other
pub flipped : (xs : List ℕ) (x : ℕ) → list_any (λ (y : ℕ). eqb y x) xs ≡ false → list_any (eqb x) xs ≡ false
flipped [] x e = refl
flipped (y ∷ ys) x e =
    let parts = or_false (eqb y x) (list_any (λ (z : ℕ). eqb z x) ys) e in
    by (eqb x y) refl parts.0 (flipped ys x parts.1)
  where
    by : (b : Bool) → eqb x y ≡ b → eqb y x ≡ false → list_any (eqb x) ys ≡ false → (eqb x y || list_any (eqb x) ys) ≡ false
    by true is other rest = absurd (true≢false (sym (eq-eqb y x (sym (eqb-true x y is))) ∙ other))
    by false is other rest = ap (λ (b : Bool). b || list_any (eqb x) ys) is ∙ rest

-- ---- of files and of their servers

pub all_servers : (marking : Marking) (count : ℕ) (files : List AddressFile) → All (λ (f : AddressFile). IsNewServer marking count f.server) files → All (IsNewServer marking count) (map server_of files)
all_servers marking count files new = All-map (IsNewServer marking count) server_of files new

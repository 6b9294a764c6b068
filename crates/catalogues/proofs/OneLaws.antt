-- A text is one line, and one catalogue.
use Rattle.std.proofs.Common.{◌≡◌, ◌≢◌, ℕ, ◌+◌, ◌<◌, ◌^◌, Bool, true, false, List, [], ◌∷◌, ◌++◌, Result, Ok, refl, sym, ap, ◌∙◌, arith, append_assoc, codes}
use Rattle.std.specs.Prelude.{slice_index}
use Rattle.std.specs.Fmt.{decimal}
use Rattle.std.specs.List.{AllByRecursion, flat_map, list_any}
use Rattle.std.proofs.lemmas.Fmt.{decimal_injective}
use Rattle.std.proofs.lemmas.List.{append_cancel_left}
use Rattle.cap_text.specs.declared.cap.Cap.{Cap}
use Rattle.cap_text.specs.declared.error.CapError.{CapError}
use Rattle.cap_text.specs.Base32.{base32, IsBytes}
use Rattle.cap_text.specs.CapText.{IsCap, cap_text}
use Rattle.cap_text.proofs.OneAnswer.{one_cap_answer}
use Rattle.cap_text.proofs.OneText.{base32-injective}
use Rattle.catalogues.specs.declared.head.Head.{Head}
use Rattle.catalogues.specs.Names.{is_escaped, mark, written}
use Rattle.catalogues.specs.Heads.{IsHead, first_then, nine_digits}
use Rattle.catalogues.specs.Lines.{words_text}
use Rattle.catalogues.specs.Catalogues.{Entry, IsEntry, entry_text}
use Rattle.catalogues.specs.Laws.{LinesAreRead, LinesAreOne, CataloguesAreOne}
use Rattle.catalogues.specs.Pieces.{AreDigits, Stops}
use Rattle.catalogues.proofs.HeadLaws.{decimal_digits, nine_digits_are, nine_is, same_head, same_moment, same_numbers}
use Rattle.catalogues.proofs.LineLaws.{behind_mark, unmarked_first, high_base32, high_cap, high_lacks, words_lack_feed}
use Rattle.catalogues.proofs.NameLaws.{unwritten_written}
use Rattle.catalogues.specs.Unwritten.{unwritten_from}
use Rattle.catalogues.proofs.PieceLaws.{one_cut}
use Rattle.catalogues.proofs.WholeLaws.{line_some}

-- what is written is read back
pub lines_are_read : LinesAreRead
lines_are_read text cap name rest is = record {
  is_cap = is.is_cap;
  is_name = is.is_name;
  is = ap (λ (xs : List ℕ). xs ++ rest) is.is;
}

-- the mark of a line is told apart
one_mark : (a b : Bool) (x y : List ℕ) → slice_index x 0 ≢ 92 → slice_index y 0 ≢ 92 → mark a ++ x ≡ mark b ++ y → x ≡ y
one_mark true true x y p q same = append_cancel_left (92 ∷ []) x y same
one_mark false false x y p q same = same
one_mark true false x y p q same = absurd (q (sym (ap (λ (xs : List ℕ). slice_index xs 0) same)))
one_mark false true x y p q same = absurd (p (ap (λ (xs : List ℕ). slice_index xs 0) same))

-- one cap has a text
ok_same : (a b : Cap) → ◌≡◌ {A = Result Cap CapError} (Ok a) (Ok b) → a ≡ b
ok_same a b same = cc

one_cap : (a b : Cap) → IsCap a → IsCap b → cap_text a ≡ cap_text b → a ≡ b
one_cap a b p q same = ok_same a b (one_cap_answer (cap_text a) (Ok a) (Ok b) (p, refl) (q, same))

-- one name is written so
one_name : (m n : List ℕ) → written m ≡ written n → m ≡ n
one_name m n same = sym (unwritten_written m) ∙ ap (unwritten_from false) same ∙ unwritten_written n

-- the caps and the names of equal words
one_words : (a b : Cap) (m n : List ℕ) → IsCap a → IsCap b → words_text a m ≡ words_text b n → (a ≡ b) × (m ≡ n)
unfolding behind_mark
one_words a b m n p q same =
    let behind = one_mark (list_any is_escaped m) (list_any is_escaped n) (behind_mark a m) (behind_mark b n) (unmarked_first a m) (unmarked_first b n) same in
    let parts = one_cut 32 (cap_text a) (32 ∷ written m) (cap_text b) (32 ∷ written n)
    (high_lacks 32 (cap_text a) (omega arith) (high_cap a p)) (high_lacks 32 (cap_text b) (omega arith) (high_cap b q)) behind in
    (one_cap a b p q parts.0, one_name m n (append_cancel_left (32 ∷ []) (written m) (written n) parts.1))

pub lines_are_one : LinesAreOne
lines_are_one text a b m n x y p q =
    let cut = one_cut 10 (words_text a m) x (words_text b n) y (words_lack_feed a m p.is_cap) (words_lack_feed b n q.is_cap)
    (sym (append_assoc (words_text a m) (10 ∷ []) x) ∙ sym p.is ∙ q.is ∙ append_assoc (words_text b n) (10 ∷ []) y) in
    let words = one_words a b m n p.is_cap q.is_cap cut.0 in
    (words.0, words.1, cut.1)

-- the files of equal lines
same_entry : (d e : Entry) → d.cap ≡ e.cap → d.name ≡ e.name → d ≡ e
same_entry d e p q =
    ap (λ (c : Cap). let x : Entry = record { cap = c; name = d.name } in x) p
    ∙ ap (λ (n : List ℕ). let x : Entry = record { cap = e.cap; name = n } in x) q

pub one_list : (a b : List Entry) → AllByRecursion IsEntry a → AllByRecursion IsEntry b → flat_map entry_text a ≡ flat_map entry_text b → a ≡ b
one_list [] [] p q same = refl
one_list [] (e ∷ b) p q same = absurd (line_some e.cap e.name (flat_map entry_text b) (sym same))
one_list (d ∷ a) [] p q same = absurd (line_some d.cap d.name (flat_map entry_text a) same)
one_list (d ∷ a) (e ∷ b) p q same =
    let first = lines_are_one (flat_map entry_text (d ∷ a)) d.cap e.cap d.name e.name (flat_map entry_text a) (flat_map entry_text b)
    (record { is_cap = p.0.0; is_name = p.0.1; is = refl }) (record { is_cap = q.0.0; is_name = q.0.1; is = same }) in
    ap (λ (x : Entry). x ∷ a) (same_entry d e first.0 first.1) ∙ ap (λ (xs : List Entry). e ∷ xs) (one_list a b p.1 q.1 first.2)

-- where digits end is one place
one_run : (a b x y : List ℕ) → AreDigits a → AreDigits b → Stops x → Stops y → a ++ x ≡ b ++ y → (a ≡ b) × (x ≡ y)
one_run [] [] x y p q s t same = (refl, same)
one_run [] (d ∷ b) x y p q s t same =
    let head : slice_index x 0 ≡ d = ap (λ (xs : List ℕ). slice_index xs 0) same in absurd (omega (arith, head, q.0.0, s))
one_run (c ∷ a) [] x y p q s t same =
    let head : c ≡ slice_index y 0 = ap (λ (xs : List ℕ). slice_index xs 0) same in absurd (omega (arith, head, p.0.0, t))
one_run (c ∷ a) (d ∷ b) x y p q s t same =
    let head : c ≡ d = cc in
    let tail : a ++ x ≡ b ++ y = cc in
    let rest = one_run a b x y p.1 q.1 s t tail in
    let first : a ≡ b = rest.0 in (cc, rest.1)

one_number : (m n : ℕ) (x y : List ℕ) → m < 2 ^ 64 → n < 2 ^ 64 → Stops x → Stops y → decimal m ++ x ≡ decimal n ++ y → (m ≡ n) × (x ≡ y)
one_number m n x y p q s t same =
    let run = one_run (decimal m) (decimal n) x y (decimal_digits m p) (decimal_digits n q) s t same in
    (decimal_injective m n p q run.0, run.1)

one_nine : (m n : ℕ) (x y : List ℕ) → m < 1000000000 → n < 1000000000 → Stops x → Stops y → nine_digits m ++ x ≡ nine_digits n ++ y → (m ≡ n) × (x ≡ y)
one_nine m n x y p q s t same =
    let run = one_run (nine_digits m) (nine_digits n) x y (nine_digits_are m p) (nine_digits_are n q) s t same in
    let whole : 1000000000 + m ≡ 1000000000 + n =
    decimal_injective (1000000000 + m) (1000000000 + n) (omega arith) (omega arith)
    (nine_is m p ∙ ap (λ (ds : List ℕ). 49 ∷ ds) run.0 ∙ sym (nine_is n q)) in
    (omega arith, run.1)

one_fingerprint : (a b x y : List ℕ) → IsBytes 16 a → IsBytes 16 b → base32 a ++ 10 ∷ x ≡ base32 b ++ 10 ∷ y → (a ≡ b) × (x ≡ y)
one_fingerprint a b x y p q same =
    let cut = one_cut 10 (base32 a) x (base32 b) y (high_lacks 10 (base32 a) (omega arith) (high_base32 a)) (high_lacks 10 (base32 b) (omega arith) (high_base32 b)) same in
    (base32-injective 16 a b p q cut.0, cut.1)

one_head : (g h : Head) (x y : List ℕ) → IsHead g → IsHead h → first_then g x ≡ first_then h y → (g ≡ h) × (x ≡ y)
one_head g h x y p q same =
    let m = p.ranges.numbers in
    let n = q.ranges.numbers in
    let seconds = one_number g.begun.seconds h.begun.seconds _ _ p.seconds q.seconds (omega arith) (omega arith) (append_cancel_left (codes "# grid catalogue 1 begun ") _ _ same) in
    let nanoseconds = one_nine g.begun.nanoseconds h.begun.nanoseconds _ _ p.ranges.moment q.ranges.moment (omega arith) (omega arith) (append_cancel_left (codes ".") _ _ seconds.1) in
    let needed = one_number g.numbers.needed h.numbers.needed _ _ (omega (arith, m.enough, m.shares)) (omega (arith, n.enough, n.shares)) (omega arith) (omega arith) (append_cancel_left (codes " k ") _ _ nanoseconds.1) in
    let total = one_number g.numbers.total h.numbers.total _ _ (omega (arith, m.shares)) (omega (arith, n.shares)) (omega arith) (omega arith) (append_cancel_left (codes " n ") _ _ needed.1) in
    let segment = one_number g.numbers.segment_size h.numbers.segment_size _ _ (omega (arith, m.most)) (omega (arith, n.most)) (omega arith) (omega arith) (append_cancel_left (codes " segment ") _ _ total.1) in
    let fingerprint = one_fingerprint g.fingerprint h.fingerprint x y p.fingerprint q.fingerprint (append_cancel_left (codes " under ") _ _ segment.1) in (
      same_head h g.begun g.numbers g.fingerprint
          (same_moment h.begun g.begun.seconds g.begun.nanoseconds seconds.0 nanoseconds.0)
          (same_numbers h.numbers g.numbers.needed g.numbers.total g.numbers.segment_size needed.0 total.0 segment.0)
          fingerprint.0,
      fingerprint.1,
    )

pub catalogues_are_one : CataloguesAreOne
catalogues_are_one text g h a b p q =
    let heads = one_head g h (flat_map entry_text a) (flat_map entry_text b) p.is_head q.is_head (sym p.is ∙ q.is) in
    (heads.0, one_list a b p.are q.are heads.1)

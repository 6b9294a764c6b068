-- What a pass over a text brings, and over a source that changes from one text to another.
use Rattle.std.proofs.Common.{◌≡◌, ℕ, zero, suc, ◌+◌, ◌-◌, ◌≤◌, List, [], ◌∷◌, ◌++◌, length, take, drop, refl, inl, inr, ap, sym, subst, ◌∙◌, arith}
use Rattle.std.proofs.lemmas.List.{drop-drop, length-append, take_all}
use Rattle.std.proofs.Math.Seq.{take-add}
use Rattle.sources.specs.Source.{AreConsecutive, IsFrom, IsPass, Read, Reads, bytes_of}
use Rattle.sources.specs.Texts.{Changing, GivesChanging, GivesText, read_once, text_of}

-- where each read comes from one text, a pass brings that text
module _ {S : Type 0} (gives : S → ℕ → List ℕ → S → Type 0) (text : List ℕ) (Holds : ℕ → S → Type 0)
    (step : (s after : S) (offset : ℕ) (bytes : List ℕ) → Holds offset s → gives s offset bytes after → IsFrom text offset bytes × Holds (offset + length bytes) after) where
  stays : (reads : List Read) (s new : S) (offset end : ℕ) → Holds offset s → Reads gives s reads new → AreConsecutive offset reads end → Holds end new
  stays [] s new offset end holds run follow = subst (λ n. Holds n new) follow (subst (Holds offset) (sym run) holds)
  stays (r ∷ rs) s new offset end holds run follow =
      let at : Holds r.0 s = subst (λ n. Holds n s) (sym follow.0) holds in
      let next : Holds (offset + length r.1) run.0 = subst (λ n. Holds (n + length r.1) run.0) follow.0 (step s run.0 r.0 r.1 at run.1).1 in
      stays rs run.0 new (offset + length r.1) end next run.2 follow.1

  brings : (reads : List Read) (s new : S) (offset end : ℕ) → Holds offset s → Reads gives s reads new → AreConsecutive offset reads end
      → bytes_of reads ≡ take (length (bytes_of reads)) (drop offset text)
  brings [] s new offset end holds run follow = refl
  brings (r ∷ rs) s new offset end holds run follow =
      let at : Holds r.0 s = subst (λ n. Holds n s) (sym follow.0) holds in
      let read = step s run.0 r.0 r.1 at run.1 in
      let next : Holds (offset + length r.1) run.0 = subst (λ n. Holds (n + length r.1) run.0) follow.0 read.1 in
      let front : r.1 ≡ take (length r.1) (drop offset text) = read.0.bytes_are ∙ ap (λ n. take (length r.1) (drop n text)) follow.0 in
      let rest = brings rs run.0 new (offset + length r.1) end next run.2 follow.1 in
      let behind : take (length (bytes_of rs)) (drop (offset + length r.1) text) ≡ take (length (bytes_of rs)) (drop (length r.1) (drop offset text)) =
      ap (take (length (bytes_of rs))) (sym (drop-drop (length r.1) offset text)) in
      (λ p. front p ++ (rest ∙ behind) p)
      ∙ sym (take-add (length r.1) (length (bytes_of rs)) (drop offset text))
      ∙ ap (λ n. take n (drop offset text)) (sym (length-append r.1 (bytes_of rs)))

  whole : (old new : S) (file : List ℕ) → Holds 0 old → IsPass gives (length text) old file new → (file ≡ text) × Holds (length text) new
  whole old new file holds pass =
      let is = brings pass.read.reads old new 0 (0 + length file) holds pass.read.run pass.read.consecutive in (
        pass.read.bytes_are ∙ is ∙ ap (λ n. take n text) (ap length (sym pass.read.bytes_are) ∙ pass.long) ∙ take_all (length text) text (omega arith),
        subst (λ n. Holds n new) (omega (arith, pass.long)) (stays pass.read.reads old new 0 (0 + length file) holds pass.read.run pass.read.consecutive),
      )

pub texts_stay : (text file new : List ℕ) → IsPass GivesText (length text) text file new → (file ≡ text) × (new ≡ text)
texts_stay text file new pass =
    whole GivesText text (λ _ s. s ≡ text) (λ s after offset bytes same gives. (subst (λ t. IsFrom t offset bytes) same gives.0, gives.1 ∙ same)) text new file refl pass

-- ---- two texts of one length, the one up to an offset and the other from there on

first_part : (xs ys : List ℕ) (left offset n : ℕ) → length ys ≡ length xs → offset + n ≤ left → take n (drop offset (take left xs ++ drop left ys)) ≡ take n (drop offset xs)
first_part xs ys zero zero zero same low = refl
first_part xs ys zero zero (suc n) same low = absurd (omega (arith, low))
first_part xs ys zero (suc offset) n same low = absurd (omega (arith, low))
first_part [] [] (suc left) offset n same low = refl
first_part [] (y ∷ ys) (suc left) offset n same low = absurd cc
first_part (x ∷ xs) [] (suc left) offset n same low = absurd cc
first_part (x ∷ xs) (y ∷ ys) (suc left) zero zero same low = refl
first_part (x ∷ xs) (y ∷ ys) (suc left) zero (suc n) same low = ap (λ (l : List ℕ). x ∷ l) (first_part xs ys left zero n (omega (arith, same)) (omega (arith, low)))
first_part (x ∷ xs) (y ∷ ys) (suc left) (suc offset) n same low = first_part xs ys left offset n (omega (arith, same)) (omega (arith, low))

last_part : (xs ys : List ℕ) (left offset : ℕ) → length ys ≡ length xs → left ≤ offset → drop offset (take left xs ++ drop left ys) ≡ drop offset ys
last_part xs ys zero offset same low = refl
last_part xs ys (suc left) zero same low = absurd (omega (arith, low))
last_part [] [] (suc left) (suc offset) same low = refl
last_part [] (y ∷ ys) (suc left) (suc offset) same low = absurd cc
last_part (x ∷ xs) [] (suc left) (suc offset) same low = absurd cc
last_part (x ∷ xs) (y ∷ ys) (suc left) (suc offset) same low = last_part xs ys left offset (omega (arith, same)) (omega (arith, low))

pub mixed_long : (xs ys : List ℕ) (left : ℕ) → length ys ≡ length xs → length (take left xs ++ drop left ys) ≡ length xs
mixed_long xs ys zero same = same
mixed_long [] [] (suc left) same = refl
mixed_long [] (y ∷ ys) (suc left) same = absurd cc
mixed_long (x ∷ xs) [] (suc left) same = absurd cc
mixed_long (x ∷ xs) (y ∷ ys) (suc left) same = ap suc (mixed_long xs ys left (omega (arith, same)))

-- so far were the texts of a source read
record IsReadUpTo (first : Changing) (offset : ℕ) (s : Changing) : Type 0 where
  pub file : s.file ≡ first.file
  pub other : s.other ≡ first.other
  pub left : s.left ≡ first.left - offset

read_next : (first s after : Changing) (offset : ℕ) (bytes : List ℕ) → length first.other ≡ length first.file → IsReadUpTo first offset s → GivesChanging s offset bytes after
    → IsFrom (text_of first) offset bytes × IsReadUpTo first (offset + length bytes) after
read_next first s after offset bytes same at gives =
    let long : length (text_of first) ≡ length first.file = mixed_long first.file first.other first.left same in
    elim gives [
      | inl g ↦
          let from : IsFrom first.file offset bytes = subst (λ t. IsFrom t offset bytes) at.file g.1 in (
            record {
              bytes_are = from.bytes_are ∙ sym (first_part first.file first.other first.left offset (length bytes) same (omega (arith, at.left, g.0, g.2)));
              end = λ none. subst (λ n. n ≤ offset) (sym long) (from.end none);
            },
            record {
              file = ap (λ (c : Changing). c.file) g.3 ∙ at.file;
              other = ap (λ (c : Changing). c.other) g.3 ∙ at.other;
              left = ap (λ (c : Changing). c.left) g.3 ∙ omega (arith, at.left, g.0, g.2);
            },
          )
      | inr g ↦
          let from : IsFrom first.other offset bytes = subst (λ t. IsFrom t offset bytes) at.other g.1 in (
            record {
              bytes_are = from.bytes_are ∙ ap (take (length bytes)) (sym (last_part first.file first.other first.left offset same (omega (arith, at.left, g.0))));
              end = λ none. subst (λ n. n ≤ offset) (sym long) (subst (λ n. n ≤ offset) same (from.end none));
            },
            record {
              file = ap (λ (c : Changing). c.file) g.2 ∙ at.file;
              other = ap (λ (c : Changing). c.other) g.2 ∙ at.other;
              left = ap (λ (c : Changing). c.left) g.2 ∙ omega (arith, at.left, g.0);
            },
          )
    ]

pub changes_are_brought : (old new : Changing) (file : List ℕ) → length old.other ≡ length old.file → IsPass GivesChanging (length old.file) old file new
    → (file ≡ text_of old) × (new ≡ read_once old)
changes_are_brought old new file same pass =
    let long : length (text_of old) ≡ length old.file = mixed_long old.file old.other old.left same in
    let all : IsPass GivesChanging (length (text_of old)) old file new = subst (λ n. IsPass GivesChanging n old file new) (sym long) pass in
    let is = whole GivesChanging (text_of old) (IsReadUpTo old) (λ s after offset bytes at gives. read_next old s after offset bytes same at gives) old new file record { file = refl; other = refl; left = omega arith } all in
    let make : List ℕ → List ℕ → ℕ → Changing = λ f o l. record { file = f; other = o; left = l } in
    (is.0, ap (λ f. make f new.other new.left) is.1.file ∙ ap (λ o. make old.file o new.left) is.1.other ∙ ap (make old.file old.other) (is.1.left ∙ ap (λ n. old.left - n) long))
